-- What nothing refused of an import that was asked for, and what it is.
use Rattle.std.proofs.Common.{◌≡◌, ℕ, ◌<◌, ◌∙◌, Bool, true, false, ◌&&◌, ◌||◌, nat_lt, List, [], ◌∷◌, ◌++◌, Option, Some, None, Result, Ok, Err, refl, ap, sym, arith}
use Rattle.std.proofs.lemmas.Bool.{ltb-false}
use Rattle.std.specs.Prelude.{option_map, not}
use Rattle.ddf_config.specs.declared.refusal.Refusal.{Refusal}
use Rattle.ddf_config.specs.declared.refusal.Refusal.TheVariants as refusals
use Rattle.ddf_config.specs.Refusals.{first_refusal, refuse_if}
use Rattle.ddf_config.proofs.Firsts.{all_pass}
use Rattle.ddf_plan.specs.Refusals.{greatest_sequence}
use Rattle.ddf_import.specs.Clash.{join_cause}
use Rattle.ddf_seats.specs.declared.fault.GroupFault.{GroupFault}
use Rattle.ddf_seats.specs.Group.{GroupValue}
use Rattle.ddf_joining.specs.Importing.{first_causes}
use Rattle.ddf_assembly.specs.Slots.{first_left_out}
use Rattle.ddf_joining.specs.Joining.{Joining, bad_refusal, config_joining, full_of_join, has_no_seats, has_strays, join_config, join_refusal, join_spent, joining, joining_of, joining_unless, numbers_differ}
use Rattle.ddf_recovery.specs.Recovery.{config_lost, config_recovered, disks_recovered, full_of_recovery, loss_spent}
use Rattle.ddf_seats.specs.Leading.{some}
use Rattle.ddf_seats.specs.Seated.{seated}
use Rattle.ddf_recovery.proofs.Numbered.{raised_above}
use Rattle.ddf_import_command.specs.Import.{import_asked, joining_unless as asked_unless, keeps_disks}

pub record IsUnrefused (timestamp : ℕ) (native other : GroupValue) (made : Joining) : Type 0 where
  pub free : join_cause (config_recovered native) (config_joining other) ≡ None
  pub rises : some native.absent ≡ true → native.config.sequence < (config_lost native).sequence
  pub is_made : joining_of timestamp native other ≡ made

-- What is asked for is what joins, and no disk that joins was left out.
pub is_readied : (timestamp : ℕ) (left : List Bool) (native other : GroupValue) (made : Joining) → import_asked timestamp left native other ≡ Ok made
    → (joining timestamp native other ≡ Ok made) × (first_left_out left other.seats ≡ None)
is_readied timestamp left native other made asked = by (first_refusal (first_causes native other)) (first_left_out left other.seats) (keeps_disks native other.seats) (joining timestamp native other) asked
  where
    by : (first : Option Refusal) (out : Option ℕ) (keeps : Bool) (answer : Result Joining GroupFault) → asked_unless first out keeps answer ≡ Ok made → (answer ≡ Ok made) × (out ≡ None)
    by (Some refusal) out keeps answer e = absurd cc
    by None (Some slot) keeps answer e = absurd cc
    by None None false answer e = absurd cc
    by None None true (Ok one) e = let same : one ≡ made = cc in (ap Ok same, refl)
    by None None true (Err fault) e = absurd cc

unrefused_by : (timestamp : ℕ) (native other : GroupValue) (made : Joining) (refusal : Option Refusal) (spent : Bool) → joining_unless refusal spent (joining_of timestamp native other) ≡ Ok made
    → (refusal ≡ None) × (spent ≡ false) × (joining_of timestamp native other ≡ made)
unrefused_by timestamp native other made (Some refusal) spent e = absurd cc
unrefused_by timestamp native other made None true e = absurd cc
unrefused_by timestamp native other made None false e = (refl, refl, cc)

pub is_unrefused : (timestamp : ℕ) (native other : GroupValue) (made : Joining) → joining timestamp native other ≡ Ok made → IsUnrefused timestamp native other made
unfolding joining join_refusal
is_unrefused timestamp native other made ready =
    let parts = unrefused_by timestamp native other made (join_refusal timestamp native other) (join_spent timestamp native other) ready in
    record {
      free = all_pass
          (refuse_if (has_no_seats native other) refusals.NoGroup ∷ refuse_if (has_strays native other) refusals.Unsettled ∷ [])
          (join_cause (config_recovered native) (config_joining other))
          (refuse_if (numbers_differ (seated native ++ seated other)) refusals.Geometry
          ∷ option_map refusals.Full (full_of_recovery timestamp native)
          ∷ refuse_if (not (some (disks_recovered timestamp native))) refusals.NoGroup
          ∷ option_map refusals.Full (full_of_join timestamp native other)
          ∷ bad_refusal other.seats
          ∷ [])
          parts.0;
      rises = λ absent.
          let unspent : loss_spent native ≡ false = first_of (loss_spent native) (nat_lt greatest_sequence (join_config native other).sequence) parts.1 in
          raised_above native.config.sequence 2 (omega arith)
          (ltb-false greatest_sequence (config_lost native).sequence (sym (ap (λ (b : Bool). b && nat_lt greatest_sequence (config_lost native).sequence) absent) ∙ unspent));
      is_made = parts.2;
    }
  where
    first_of : (a b : Bool) → (a || b) ≡ false → a ≡ false
    first_of true b e = absurd cc
    first_of false b e = refl
