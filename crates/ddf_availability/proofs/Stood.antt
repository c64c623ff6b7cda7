-- A revertible spare onto which a rebuild begins is the same again once the position has gone to another disk.
use Rattle.std.proofs.Common.{◌≡◌, ◌∙◌, ℕ, zero, suc, ◌<◌, Bool, true, false, not, cond, List, [], ◌∷◌, length, nat_eq, Option, Some, None, option_map, refl, sym, ap, if◌then◌else◌, arith, eq-eqb}
use Rattle.std.proofs.lemmas.Bool.{false≢true, ltb-true}
use Rattle.std.specs.Prelude.{slice_get}
use Rattle.std.specs.List.{IsDistinct}
use Rattle.std.specs.Map.{keys_of, lookup}
use Rattle.ddf_config.specs.declared.array.Array.{Array}
use Rattle.ddf_config.specs.declared.member.Member.{Member}
use Rattle.ddf_config.specs.declared.member.SpareUse.{SpareUse}
use Rattle.ddf_config.specs.declared.member.SpareUse.TheVariants.{No, Revertible}
use Rattle.ddf_config.specs.declared.refusal.Refusal.{Refusal}
use Rattle.ddf_config.specs.declared.refusal.Refusal.TheVariants.{NotMember, Shape}
use Rattle.ddf_config.specs.declared.seat.Seat.{Seat}
use Rattle.ddf_config.specs.Configuration.{Configuration}
use Rattle.ddf_config.specs.ElementValue.{ElementValue}
use Rattle.ddf_config.specs.Members.{is_current, same_guid}
use Rattle.ddf_config.specs.Refusals.{first_refusal, refuse_if}
use Rattle.ddf_config.specs.Seats.{slot_of}
use Rattle.ddf_plan.specs.declared.change.Change.TheVariants.{Begin, Return}
use Rattle.ddf_plan.specs.Causes.{causes}
use Rattle.ddf_plan.specs.Changes.{changed_at}
use Rattle.ddf_plan.specs.Members.{member_after, members_after}
use Rattle.ddf_plan.specs.Rebuild.{element_at, has_position, part_has}
use Rattle.ddf_plan.specs.Refusals.{no_array, not_current}
use Rattle.ddf_plan.specs.Spare.{holds_extent}
use Rattle.ddf_array.proofs.Usable.{holds}
use Rattle.ddf_availability.specs.GoneBack.{AllLeavePlace, Between, IsOnDisk, behind_all}
use Rattle.ddf_availability.proofs.Between.{still_standing}
use Rattle.ddf_availability.proofs.Given.{given_again}
use Rattle.ddf_availability.proofs.Tables.{begun_distinct, member_found, on_begun}

-- ---- a change that nothing refuses

none_refuses : (a b c : Option Refusal) → first_refusal (a ∷ b ∷ c ∷ []) ≡ None → (b ≡ None) × (c ≡ None)
none_refuses None None None h = (refl, refl)
none_refuses None None (Some refusal) h = absurd cc
none_refuses None (Some refusal) c h = absurd cc
none_refuses (Some refusal) b c h = absurd cc

module _ (config : Configuration) (guid : List ℕ) (element position : ℕ) where
  got_within : {X : Type 0} (xs : List X) (k : ℕ) → k < length xs → (x : X) × (slice_get xs k ≡ Some x)
  got_within [] k less = absurd (omega arith)
  got_within (x ∷ xs) zero less = (x, refl)
  got_within (x ∷ xs) (suc k) less = got_within xs k (omega arith)

  some_disk : has_position config guid element position ≡ true → (reference : ℕ) × IsOnDisk config guid element position reference
  some_disk h = by_array (lookup (same_guid guid) config.arrays) refl h
    where
      by_part : (array : Array) → lookup (same_guid guid) config.arrays ≡ Some array → (part : Option (Option ElementValue)) → slice_get array.elements element ≡ part
          → part_has position (elim part [ None ↦ None | Some one ↦ one ]) ≡ true → (reference : ℕ) × IsOnDisk config guid element position reference
      by_part array is_array None e h = absurd (false≢true h)
      by_part array is_array (Some None) e h = absurd (false≢true h)
      by_part array is_array (Some (Some plan)) e h =
          let held = got_within plan.positions position (ltb-true position (length plan.positions) h) in
          (held.0.reference, record { array = array; plan = plan; held = held.0; is_array = is_array; is_plan = e; is_held = held.1; is_there = refl })

      by_array : (found : Option Array) → lookup (same_guid guid) config.arrays ≡ found → (elim found [ None ↦ false | Some array ↦ part_has position (element_at array element) ]) ≡ true
          → (reference : ℕ) × IsOnDisk config guid element position reference
      by_array None e h = absurd (false≢true h)
      by_array (Some array) e h = by_part array e (slice_get array.elements element) refl h

  module _ (seats : List Seat) (reference start : ℕ) (allowed : causes None config (Begin guid element position reference start) seats ≡ None) where
    passed : (refuse_if (not (has_position config guid element position)) Shape ≡ None) × (not_current config seats (reference ∷ []) ≡ None)
    unfolding causes
    passed = none_refuses (no_array config guid) (refuse_if (not (has_position config guid element position)) Shape) (not_current config seats (reference ∷ [])) allowed

    on : (old : ℕ) × IsOnDisk config guid element position old
    on = some_disk (holds (has_position config guid element position) Shape passed.0)

    current_by : (b : Bool) → option_map (λ (one : ℕ). NotMember (slot_of seats one)) (cond (not b) (Some reference) None) ≡ None → b ≡ true
    current_by true h = refl
    current_by false h = absurd cc

    here : (member : Member) → lookup (nat_eq reference) config.members ≡ Some member → member.missing ≡ false
    here member there =
        by member.missing
        (sym (ap (λ (one : Option Member). elim one [ None ↦ false | Some it ↦ not it.missing ]) there) ∙ current_by (is_current config.members reference) passed.1)
      where
        by : (b : Bool) → not b ≡ true → b ≡ false
        by true h = absurd (false≢true h)
        by false h = refl

    -- ---- both changes

    no_spare : (b : Bool) (use_as : SpareUse) → b ≡ true → (if b then No else use_as) ≡ No
    no_spare true use_as is = refl
    no_spare false use_as is = absurd (false≢true is)

    pub same_again : (steps : List Between) (disk back first second : ℕ) (member : Member)
        → AllLeavePlace guid element position reference (changed_at config (Begin guid element position reference start) first) steps → IsDistinct same_guid (keys_of config.arrays)
        → lookup (nat_eq reference) config.members ≡ Some member → member.spare ≡ Revertible
        → holds_extent (changed_at (behind_all (changed_at config (Begin guid element position reference start) first) steps) (Return guid element position disk back) second) reference ≡ false
        → lookup (nat_eq reference) (members_after (behind_all (changed_at config (Begin guid element position reference start) first) steps) (Return guid element position disk back)) ≡ Some member
    same_again steps disk back first second member keep apart there is_revertible none =
        let begun = changed_at config (Begin guid element position reference start) first in
        let own = member_after config (Begin guid element position reference start) reference member in
        let none_yet : own.spare ≡ No = no_spare (nat_eq reference reference) member.spare (eq-eqb reference reference refl) in
        let standing = still_standing guid element position reference own (here member there) none_yet steps begun keep (record {
          apart = begun_distinct config guid element position reference start first apart;
          on = on_begun config guid element position on.0 reference start first on.1;
          there = member_found config (Begin guid element position reference start) reference member there;
        }) in
        given_again (behind_all begun steps) guid element position disk back second reference own standing.there standing.apart (here member there) none_yet standing.on none
        ∙ ap (λ (use_as : SpareUse). Some (record member { spare = use_as })) (sym is_revertible)
