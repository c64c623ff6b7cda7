-- The configuration and the disks of a group behind its recovery.
use Rattle.std.proofs.Common.{◌≡◌, ℕ, zero, suc, ◌<◌, ◌^◌, Bool, true, false, eqb, cond, List, [], ◌∷◌, map, filter, Option, Some, None, refl, sym, ap, subst, ◌∙◌, arith, if◌then◌else◌}
use Rattle.std.proofs.lemmas.Bool.{eq-eqb, ne_eqb, cond-false, cond-true}
use Rattle.std.specs.Prelude.{IfSome, find, option_map, slice_get}
use Rattle.std.specs.List.{AllByRecursion}
use Rattle.std.specs.Option.{option_map_or}
use Rattle.ddf_lemmas.proofs.Lists.{map_alike, mapped_at}
use Rattle.ddf_config.specs.declared.seat.Seat.{Seat}
use Rattle.ddf_config.specs.Configuration.{Configuration}
use Rattle.ddf_rewrite.proofs.Lists.{all_at}
use Rattle.ddf_seats.specs.declared.seated.Seated.{Seated}
use Rattle.ddf_assembly.specs.Assembled.{IsAssembledGroup}
use Rattle.ddf_steps.specs.Full.{full_of}
use Rattle.ddf_seats.specs.Group.{GroupValue}
use Rattle.ddf_steps.specs.Ready.{ReadyStep}
use Rattle.ddf_recovery.specs.Recovery.{config_lost, config_recovered, disks_recovered, full_of_mending, full_of_recovery, lost_step, mended, mended_or_kept, mending_step, recovery_of}
use Rattle.ddf_seats.specs.Leading.{lags, leading, some}
use Rattle.ddf_seats.specs.Seated.{seated, seats_in, levelled}
use Rattle.ddf_steps.specs.Steps.{Step}
use Rattle.ddf_recovery.specs.Behind.{behind_written, config_behind, disks_behind}
use Rattle.ddf_seats.specs.Changing.{CanBeChanged, SlotsRise}
use Rattle.ddf_steps.specs.Trying.{Follows}
use Rattle.ddf_steps.proofs.CommittedLevels.{changed_levelled}
use Rattle.ddf_recovery.proofs.Mended.{mended_changed}
use Rattle.ddf_recovery.proofs.Recovered.{config_kept, disks_kept}
use Rattle.ddf_assembly.proofs.Settled.{settled}

-- ---- lists

pub none_some : {X : Type 0} (xs : List X) → some xs ≡ false → xs ≡ []
none_some [] h = refl
none_some (x ∷ xs) h = absurd cc

-- ---- written disks, by their slots

module _ (write : Seated → Seated) (same_seat : (disk : Seated) → (write disk).seat ≡ disk.seat) (test : Seated → Bool) where
  abbrev written : List Seated → List Seated
  written disks = map write (filter test disks)

  abbrev on : ℕ → Seated → Bool
  on slot other = eqb other.seat.slot slot

  -- None of the disks behind one is on its slot.
  none_later : (slot : ℕ) (disks : List Seated) → AllByRecursion (λ (other : Seat). slot < other.slot) (seats_in disks) → find (on slot) (written disks) ≡ None
  none_later slot [] above = refl
  none_later slot (disk ∷ disks) above = by (test disk) (none_later slot disks above.1)
    where
      by : (b : Bool) → find (on slot) (written disks) ≡ None → find (on slot) (map write (cond b (disk ∷ filter test disks) (filter test disks))) ≡ None
      by false rest = rest
      by true rest =
          let slot_is : (write disk).seat.slot ≡ disk.seat.slot = ap (λ (seat : Seat). seat.slot) (same_seat disk) in
          let below = above.0 in
          cond-false (on slot (write disk)) (Some (write disk)) (find (on slot) (written disks)) (ne_eqb (write disk).seat.slot slot (λ e. omega (arith, slot_is, below, e))) ∙ rest

  -- The disk on a slot is found where it was written.
  pub found_written : (disks : List Seated) → SlotsRise (seats_in disks) → (k : ℕ) (disk : Seated) → slice_get disks k ≡ Some disk
      → find (on disk.seat.slot) (written disks) ≡ (if test disk then Some (write disk) else None)
  found_written [] rise k disk at = absurd cc
  found_written (first ∷ disks) rise zero disk at =
      let same : first ≡ disk = cc in
      subst (λ (one : Seated). find (on one.seat.slot) (written (first ∷ disks)) ≡ (if test one then Some (write one) else None)) same
      (by (test first) (none_later first.seat.slot disks rise.0))
    where
      by : (b : Bool) → find (on first.seat.slot) (written disks) ≡ None
          → find (on first.seat.slot) (map write (cond b (first ∷ filter test disks) (filter test disks))) ≡ (if b then Some (write first) else None)
      by true rest = cond-true (on first.seat.slot (write first)) (Some (write first)) (find (on first.seat.slot) (written disks)) (eq-eqb (write first).seat.slot first.seat.slot (ap (λ (seat : Seat). seat.slot) (same_seat first)))
      by false rest = rest
  found_written (first ∷ disks) rise (suc k) disk at = by (test first) (found_written disks rise.1 k disk at)
    where
      by : (b : Bool) → find (on disk.seat.slot) (written disks) ≡ (if test disk then Some (write disk) else None)
          → find (on disk.seat.slot) (map write (cond b (first ∷ filter test disks) (filter test disks))) ≡ (if test disk then Some (write disk) else None)
      by false rest = rest
      by true rest =
          let below = all_at (λ (seat : Seat). first.seat.slot < seat.slot) (seats_in disks) k disk.seat rise.0 (mapped_at (λ (one : Seated). one.seat) disks k disk at) in
          let slot_is : (write first).seat.slot ≡ first.seat.slot = ap (λ (seat : Seat). seat.slot) (same_seat first) in
          cond-false (on disk.seat.slot (write first)) (Some (write first)) (find (on disk.seat.slot) (written disks)) (ne_eqb (write first).seat.slot disk.seat.slot (λ e. omega (arith, slot_is, below, e))) ∙ rest

-- ---- behind the recovery

-- The configuration and the disks are those behind the recovery, and changes may be tried on them.
pub record IsBehind (timestamp : ℕ) (group : GroupValue) (next : Option ReadyStep) : Type 0 where
  pub config_is : config_behind group next ≡ config_recovered group
  pub disks_are : disks_behind group next (seated group) ≡ disks_recovered timestamp group
  pub changed : CanBeChanged (config_behind group next) (disks_behind group next (seated group))

module _ (timestamp : ℕ) (time : timestamp < 2 ^ 32) (group : GroupValue) (is : IsAssembledGroup group) where
  rises : SlotsRise (seats_in (seated group))
  rises = subst SlotsRise (sym is.are_seated) is.slots_rise

  behind_none : group.absent ≡ [] → group.lagging ≡ [] → IsBehind timestamp group None
  behind_none none_absent none_lags = record {
    config_is = sym (config_kept group none_absent none_lags timestamp);
    disks_are = sym (disks_kept group none_absent none_lags timestamp);
    changed = (settled group is none_absent none_lags).can_be_changed;
  }

  behind_loss : (one : ReadyStep) → one.step ≡ lost_step timestamp group → some group.absent ≡ true → Follows (seated group) one → IsBehind timestamp group (Some one)
  unfolding config_recovered disks_recovered
  behind_loss one same are follows =
      let disks_are : disks_behind group (Some one) (seated group) ≡ map levelled one.step.disks =
      ap (λ (b : Bool). if b then map levelled one.step.disks else map (behind_written one.step.disks) (seated group)) are in
      record {
        config_is = ap (λ (step : Step). step.config) same ∙ sym (ap (λ (b : Bool). if b then config_lost group else group.config) are);
        disks_are = disks_are ∙ ap (λ (step : Step). map levelled step.disks) same
            ∙ sym (ap (λ (b : Bool). if b then map levelled (lost_step timestamp group).disks else map (mended_or_kept timestamp group) (seated group)) are);
        changed = subst (CanBeChanged one.step.config) (sym disks_are) (changed_levelled one.step.config one.step.disks follows.can_be_changed);
      }

  written_is : (k : ℕ) (disk : Seated) → slice_get (seated group) k ≡ Some disk → behind_written (mending_step timestamp group).disks disk ≡ mended_or_kept timestamp group disk
  written_is k disk at =
      ap (λ (found : Option Seated). option_map_or levelled found disk) (found_written (mended (leading group) group.config timestamp) (λ one. refl) (lags group) (seated group) rises k disk at)
      ∙ by (lags group disk)
    where
      by : (b : Bool) → option_map_or levelled (if b then Some (mended (leading group) group.config timestamp disk) else None) disk ≡ (if b then levelled (mended (leading group) group.config timestamp disk) else disk)
      by true = refl
      by false = refl

  behind_mending : (one : ReadyStep) → one.step ≡ mending_step timestamp group → some group.absent ≡ false → full_of_mending group ≡ None → IsBehind timestamp group (Some one)
  unfolding config_recovered disks_recovered
  behind_mending one same none free =
      let disks_are : disks_behind group (Some one) (seated group) ≡ map (mended_or_kept timestamp group) (seated group) =
      ap (λ (b : Bool). if b then map levelled one.step.disks else map (behind_written one.step.disks) (seated group)) none
      ∙ ap (λ (step : Step). map (behind_written step.disks) (seated group)) same
      ∙ map_alike (behind_written (mending_step timestamp group).disks) (mended_or_kept timestamp group) (seated group) written_is in
      let config_is : one.step.config ≡ group.config = ap (λ (step : Step). step.config) same in
      record {
        config_is = config_is ∙ sym (ap (λ (b : Bool). if b then config_lost group else group.config) none);
        disks_are = disks_are ∙ sym (ap (λ (b : Bool). if b then map levelled (lost_step timestamp group).disks else map (mended_or_kept timestamp group) (seated group)) none);
        changed = subst (CanBeChanged one.step.config) (sym disks_are)
            (subst (λ (config : Configuration). CanBeChanged config (map (mended_or_kept timestamp group) (seated group))) (sym config_is) (mended_changed timestamp time group is free));
      }

  -- What is recovered is behind the recovery.
  pub is_behind : (next : Option ReadyStep) → option_map (λ one. one.step) next ≡ recovery_of timestamp group → full_of_recovery timestamp group ≡ None → IfSome next (Follows (seated group))
      → IsBehind timestamp group next
  unfolding recovery_of full_of_recovery
  is_behind next same free follows = by (some group.absent) (some group.lagging) refl refl next same free follows
    where
      by : (a l : Bool) → some group.absent ≡ a → some group.lagging ≡ l → (made : Option ReadyStep)
          → option_map (λ one. one.step) made ≡ (if a then Some (lost_step timestamp group) else if l then Some (mending_step timestamp group) else None)
          → (if a then full_of timestamp (leading group) (config_lost group) (seated group) else if l then full_of_mending group else None) ≡ None
          → IfSome made (Follows (seated group)) → IsBehind timestamp group made
      by true l e f None h room has = absurd cc
      by true l e f (Some one) h room has = let step_is : one.step ≡ lost_step timestamp group = cc in behind_loss one step_is e has
      by false true e f None h room has = absurd cc
      by false true e f (Some one) h room has = let step_is : one.step ≡ mending_step timestamp group = cc in behind_mending one step_is e room
      by false false e f None h room has = behind_none (none_some group.absent e) (none_some group.lagging f)
      by false false e f (Some one) h room has = absurd cc
