-- The view of an array over the seats of a group that a call found is what every view keeps, also once absent members are lost, and once the array is marked.
use Rattle.std.proofs.Common.{◌≡◌, ◌∙◌, ℕ, zero, suc, ◌<◌, ◌≤◌, ◌^◌, Bool, true, false, List, [], ◌∷◌, length, Option, Some, None, Ok, refl, ap, sym, subst, if◌then◌else◌, arith}
use Rattle.std.specs.Prelude.{find, nat_eq, option_map, slice_get}
use Rattle.ddf_bay.specs.State.{BayState}
use Rattle.ddf_config.specs.declared.array.Array.{Array}
use Rattle.ddf_config.specs.declared.seat.Seat.{Seat}
use Rattle.ddf_config.specs.Configuration.{Configuration}
use Rattle.ddf_config.specs.ElementValue.{ElementValue}
use Rattle.ddf_config.specs.Entries.{changed_entries}
use Rattle.ddf_config.specs.Extents.{extents}
use Rattle.ddf_config.specs.Members.{same_guid}
use Rattle.ddf_config.specs.Seats.{floor_of}
use Rattle.ddf_config.specs.States.{array_with_low}
use Rattle.ddf_config.proofs.Capacity.{AreFew}
use Rattle.ddf_copy.specs.declared.newest_copy.Newest.{Newest}
use Rattle.ddf_plan.specs.declared.change.Change.TheVariants.{Lose, Mark}
use Rattle.ddf_plan.specs.Arrays.{array_after, arrays_after, kept_and_added}
use Rattle.ddf_plan.specs.Changes.{changed_at}
use Rattle.ddf_plan.specs.Mark.{marked}
use Rattle.ddf_plan.specs.Members.{members_after}
use Rattle.ddf_repair.proofs.Usable.{both_changed}
use Rattle.ddf_array.specs.Viewing.{view_of}
use Rattle.ddf_array.specs.Volume.{IsVolume, Volume}
use Rattle.ddf_data_group.specs.Lessening.{AreLessParts}
use Rattle.ddf_data_group.proofs.Lost.{is_less}
use Rattle.ddf_data_group.proofs.Named.{marked_less}
use Rattle.ddf_history.specs.Groups.{groups}
use Rattle.ddf_history.specs.Issued.{Past}
use Rattle.ddf_seats.specs.Group.{GroupValue}
use Rattle.ddf_assembly.specs.Group.{group_of}
use Rattle.ddf_recovery.specs.Recovery.{config_lost, config_recovered}
use Rattle.ddf_seats.specs.Leading.{some}
use Rattle.ddf_assembly.specs.Slots.{newest_from}
use Rattle.ddf_history_steps.specs.Going.{IsAdmitted}
use Rattle.ddf_history_steps.specs.Kept.{is_read}
use Rattle.ddf_history_steps.proofs.Begun.{assembled_kept}
use Rattle.ddf_data_group.proofs.Keeping.{less_parts}
use Rattle.ddf_data_group.proofs.Lessened.{less_count}
use Rattle.ddf_data_calls.specs.Floors.{HaveFloors}
use Rattle.ddf_data_calls.proofs.Few.{ArraysFew, given_few}
use Rattle.ddf_data_calls.proofs.Seats as seating
use Rattle.ddf_data_calls.proofs.Seats.{found_at}
use Rattle.ddf_data_calls.proofs.Volumes.{view_is}

-- ---- positions stay as many

less_few : (befores afters : List (Option ElementValue)) → AreLessParts befores afters → AreFew befores → AreFew afters
less_few [] [] less few = tt
less_few [] (after ∷ afters) less few = absurd less
less_few (before ∷ befores) [] less few = absurd less
less_few (None ∷ befores) (None ∷ afters) less few = (λ plan is. absurd cc, less_few befores afters less.1 few.1)
less_few (None ∷ befores) (Some after ∷ afters) less few = absurd less.0
less_few (Some before ∷ befores) (None ∷ afters) less few = absurd less.0
less_few (Some before ∷ befores) (Some after ∷ afters) less few = (
  λ plan is.
      let same : after ≡ plan = cc in
      let long = less_count before.positions after.positions less.0.less in
      let most = few.0 before refl in
      subst (λ (p : ElementValue). length p.positions ≤ 64) same (omega (arith, long, most)),
  less_few befores afters less.1 few.1,
)

entry_from : (k : List ℕ → Array → Array) (es : List (List ℕ × Array)) (place : ℕ) (entry : List ℕ × Array) → slice_get (changed_entries (λ g a. Some (k g a)) es) place ≡ Some entry
    → (was : List ℕ × Array) × (slice_get es place ≡ Some was) × (k was.0 was.1 ≡ entry.1)
entry_from k [] place entry at = absurd cc
entry_from k (e ∷ es) zero entry at = let same : ◌≡◌ {A = List ℕ × Array} (e.0, k e.0 e.1) entry = cc in (e, refl, ap (λ (one : List ℕ × Array). one.1) same)
entry_from k (e ∷ es) (suc place) entry at = entry_from k es place entry at

few_after : (k : List ℕ → Array → Array) → ((guid : List ℕ) (array : Array) → AreLessParts array.elements (k guid array).elements) → (es next : List (List ℕ × Array)) → next ≡ changed_entries (λ g a. Some (k g a)) es
    → ((place : ℕ) (entry : List ℕ × Array) → slice_get es place ≡ Some entry → AreFew entry.1.elements) → (place : ℕ) (entry : List ℕ × Array) → slice_get next place ≡ Some entry → AreFew entry.1.elements
few_after k less es next is few place entry at =
    let was = entry_from k es place entry (ap (λ (all : List (List ℕ × Array)). slice_get all place) (sym is) ∙ at) in
    subst (λ (a : Array). AreFew a.elements) was.2 (less_few was.0.1.elements (k was.0.0 was.0.1).elements (less was.0.0 was.0.1) (few place was.0 was.1))

-- Lost members leave arrays of as many positions,
pub lost_few : (config : Configuration) (references : List ℕ) (sequence : ℕ) → ArraysFew config → ArraysFew (changed_at config (Lose references) sequence)
lost_few config references sequence few =
    let members = members_after config (Lose references) in
    few_after (λ g a. array_with_low members (extents (kept_and_added config (Lose references))) (array_after false members (Lose references) g a))
    (λ guid array. (is_less references members array).less) config.arrays (arrays_after config (Lose references))
    (both_changed (λ g. array_with_low members (extents (kept_and_added config (Lose references)))) (array_after false members (Lose references)) config.arrays) few

-- and so does a mark.
pub marked_few : (config : Configuration) (named : List ℕ) (sequence : ℕ) → ArraysFew config → ArraysFew (changed_at config (Mark named) sequence)
marked_few config named sequence few =
    let members = members_after config (Mark named) in
    few_after (λ g a. array_with_low members (extents (kept_and_added config (Mark named))) (array_after false members (Mark named) g a))
    (λ guid array. by (same_guid named guid) array) config.arrays (arrays_after config (Mark named))
    (both_changed (λ g. array_with_low members (extents (kept_and_added config (Mark named)))) (array_after false members (Mark named)) config.arrays) few
  where
    by : (b : Bool) (array : Array) → AreLessParts array.elements (if b then marked array else array).elements
    by true array = (marked_less array).less
    by false array = less_parts array.elements

pub recovered_few : (found : GroupValue) → ArraysFew found.config → ArraysFew (config_recovered found)
unfolding config_recovered
recovered_few found few = by (some found.absent)
  where
    by : (absent : Bool) → ArraysFew (if absent then config_lost found else found.config)
    by true = lost_few found.config found.absent (config_lost found).sequence few
    by false = few

-- ---- a view

module _ (group : List ℕ) {D : Type 0} (old : BayState D) (past : Past (groups group)) (floor : ℕ → ℕ) (small : (slot : ℕ) → floor slot < 2 ^ 64) (left : List Bool) (newest : List (Option Newest)) (named : Option (List ℕ)) (found : GroupValue)
    (long : length left ≡ length old.sizes) (read : newest ≡ newest_from old 0 left) (is_found : group_of newest named ≡ Ok found) (own : found.config.group ≡ group)
    (admitted : IsAdmitted group past old left found) (floors : HaveFloors group past old floor) where
  pub found_few : ArraysFew found.config
  found_few =
      let assembled = assembled_kept group old left newest long read past admitted.same_slots admitted.is_kept admitted.may_read admitted.member named found is_found own in
      given_few group old.sizes old.held (is_read left) assembled.is_read.leading.sequence past.slots found.config assembled.is_read.is_read

  floors_small : (reference f : ℕ) → floor_of found.seats reference ≡ Some f → f < 2 ^ 64
  floors_small reference f is = by (find (λ (one : Seat). nat_eq one.reference reference) found.seats) refl is
    where
      by : (o : Option Seat) → find (λ (one : Seat). nat_eq one.reference reference) found.seats ≡ o → option_map (λ (one : Seat). one.floor) o ≡ Some f → f < 2 ^ 64
      by None e floor_is = absurd cc
      by (Some seat) e floor_is =
          let there = found_at found.seats reference seat e in
          let on = (seating.seats_on_slots group old left newest long read past admitted.same_slots admitted.is_kept admitted.may_read admitted.member named found is_found own floor floors).same_floor
          there.place seat there.is_at in
          let same : seat.floor ≡ f = cc in
          let low = small seat.slot in
          omega (arith, on, same, low)

  pub known : (config : Configuration) → ArraysFew config → (guid : List ℕ) (v : Volume) → view_of config guid found.seats ≡ Ok v → IsVolume v
  known config few guid v view = view_is found.seats floors_small config guid v few view
