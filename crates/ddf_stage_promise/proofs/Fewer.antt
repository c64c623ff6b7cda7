-- Over the seats of slots that are left an array can be used as it can over all, and what remains of it is of what it was.
use Rattle.std.proofs.Common.{◌≡◌, ◌∙◌, inr, ⊎_elim, ℕ, ◌+◌, ◌<◌, Bool, true, false, not, ◌&&◌, ◌||◌, List, [], ◌∷◌, Option, Some, None, Ok, refl, sym, ap, arith}
use Rattle.std.specs.Prelude.{nat_lt, option_map}
use Rattle.std.specs.List.{list_any}
use Rattle.ddf_lemmas.proofs.Tests.{and_second}
use Rattle.ddf_config.specs.declared.array.Array.{Array}
use Rattle.ddf_config.specs.declared.extent.Extent.{Extent}
use Rattle.ddf_config.specs.declared.refusal.Refusal.TheVariants.{Shape, Lost}
use Rattle.ddf_config.specs.declared.seat.Seat.{Seat}
use Rattle.ddf_config.specs.Configuration.{Configuration}
use Rattle.ddf_config.specs.Extents.{array_extents, extents}
use Rattle.ddf_config.specs.Levels.{unserved_level}
use Rattle.ddf_config.specs.Refusals.{first_refusal, refuse_if}
use Rattle.ddf_config.specs.Seats.{floor_of, slot_of}
use Rattle.ddf_config.specs.Served.{is_served}
use Rattle.ddf_config.specs.Unusable.{passes_floor, unusable}
use Rattle.ddf_config.specs.Within.{is_complete}
use Rattle.ddf_array.specs.Losing.{AreFewer}
use Rattle.ddf_array.specs.Viewing.{view_of}
use Rattle.ddf_array.specs.Volume.{Volume}
use Rattle.ddf_array.proofs.Usable.{below_floors}
use Rattle.ddf_array.proofs.Viewed.{from_view, has_view}
use Rattle.ddf_data_group.specs.Lessening.{IsLessArray}
use Rattle.ddf_data_group.specs.Over.{AreCurrentSeats}
use Rattle.ddf_history.specs.Groups.{groups, has_current}
use Rattle.ddf_history.specs.Issued.{Past, IsSince}
use Rattle.ddf_history.proofs.Sound.{groups_are_sound}
use Rattle.ddf_data_group.proofs.Keeping.{less_parts}
use Rattle.ddf_data_history.specs.Promised.{AreAlone, is_seat}
use Rattle.ddf_data_history.proofs.Seats.{are_fewer, found, seat_below}
use Rattle.ddf_stage_promise.specs.Footing.{Footing}
use Rattle.ddf_stage_promise.specs.Staged.{losing, seats_on}
use Rattle.ddf_stage_promise.proofs.Between.{ArraysRemain}
use Rattle.ddf_stage_promise.proofs.Desks.{seat_before}
use Rattle.ddf_stage_promise.proofs.LostViews.{remains_over}
use Rattle.ddf_stage_promise.proofs.Remains.{parts_stay}

-- ---- fewer seats

module _ (seats fewer : List Seat) (few : AreFewer seats fewer) where
  passes_by : (one : Extent) (o : Option ℕ) → floor_of fewer one.reference ≡ o → passes_floor fewer one ≡ true → passes_floor seats one ≡ true
  passes_by one None is e =
      let none : passes_floor fewer one ≡ false = ap (λ (f : Option ℕ). elim f [ None ↦ false | Some floor ↦ nat_lt floor (one.start + one.blocks) ]) is in
      absurd (let both : true ≡ false = sym e ∙ none in cc)
  passes_by one (Some floor) is e =
      ⊎_elim
      (λ none. absurd (let both : None ≡ Some floor = sym none ∙ is in cc))
      (λ same. ap (λ (f : Option ℕ). elim f [ None ↦ false | Some floor ↦ nat_lt floor (one.start + one.blocks) ]) (sym same.0) ∙ e)
      (few one.reference)

  none_passes : (all : List Extent) → list_any (passes_floor seats) all ≡ false → list_any (passes_floor fewer) all ≡ false
  none_passes [] e = refl
  none_passes (one ∷ all) e = by (passes_floor fewer one) refl (none_passes all)
    where
      first : (a b : Bool) → (a || b) ≡ false → a ≡ false
      first true b e = absurd (cc)
      first false b e = refl

      second : (a b : Bool) → (a || b) ≡ false → b ≡ false
      second true b e = absurd (cc)
      second false b e = e

      by : (b : Bool) → passes_floor fewer one ≡ b → (list_any (passes_floor seats) all ≡ false → list_any (passes_floor fewer) all ≡ false) → list_any (passes_floor fewer) (one ∷ all) ≡ false
      by true is rest =
          let up = passes_by one (floor_of fewer one.reference) refl is in
          absurd (let both : true ≡ false = sym up ∙ first (passes_floor seats one) (list_any (passes_floor seats) all) e in cc)
      by false is rest = ap (λ (b : Bool). b || list_any (passes_floor fewer) all) is ∙ rest (second (passes_floor seats one) (list_any (passes_floor seats) all) e)

  -- it can be used over them too
  pub view_fewer : (config : Configuration) (guid : List ℕ) (v : Volume) → view_of config guid seats ≡ Ok v → (w : Volume) × (view_of config guid fewer ≡ Ok w)
  view_fewer config guid v view =
      let from = from_view config guid seats v view in
      let low = below_floors config.members seats (extents config.arrays) guid from.array from.usable in
      let low' = none_passes (array_extents from.array) low in
      let usable : unusable config.members fewer (extents config.arrays) guid from.array ≡ None =
      ap (λ (b : Bool). first_refusal (unserved_level guid from.array ∷ refuse_if (not (is_served config.members (extents config.arrays) from.array && not b)) Shape ∷ refuse_if (not (is_complete from.array)) Lost ∷ [])) (low' ∙ sym low)
      ∙ from.usable in
      has_view config guid fewer from.array from.array_is usable

-- ---- the same array

pub less_same : (array : Array) → IsLessArray array array
less_same array = record { same_secondary = refl; mark_is = inr refl; less = less_parts array.elements }

pub remain_fewer : (config : Configuration) (seats fewer : List Seat) → AreCurrentSeats config.members seats → AreFewer seats fewer → ArraysRemain config config seats fewer
remain_fewer config seats fewer are few guid array found =
    (array, found, λ w over. remains_over config.members seats fewer array array w are few (less_same array) (parts_stay array.elements) over)

-- ---- slots that are left

module _ (group : List ℕ) (footing : Footing) (past : Past (groups group)) (alone : AreAlone group past) (number : ℕ) (config : Configuration) (since : IsSince past.changes number config) where
  pub seats_fewer : (lost : ℕ → Bool) → ((slot : ℕ) → past.lost slot ≡ true → lost slot ≡ true) → AreFewer (seats_on group footing past config) (seats_on group footing (losing group footing past lost) config)
  seats_fewer lost stay =
      are_fewer footing.floor past.disk (is_seat group past config) (is_seat group (losing group footing past lost) config) past.slots (λ slot e. seat_before group footing past config lost stay slot e)
      (λ s t a b same.
      let one = and_second (not (past.lost s)) (has_current config (past.disk s)) a in
      let other = and_second (not (past.lost t)) (has_current config (past.disk t)) b in
      alone s t number config since one ((groups_are_sound group).one_reference config (past.disk s) (past.disk t) one other same))

-- the slot of a seat that is found is one of those that there are
pub slot_within : (group : List ℕ) (footing : Footing) (past : Past (groups group)) (config : Configuration) (reference floor slot : ℕ) → floor_of (seats_on group footing past config) reference ≡ Some floor
    → slot_of (seats_on group footing past config) reference ≡ slot → slot < past.slots
slot_within group footing past config reference floor slot e at = by (found footing.floor past.disk (is_seat group past config) reference 0 past.slots) refl e at
  where
    by : (o : Option Seat) → found footing.floor past.disk (is_seat group past config) reference 0 past.slots ≡ o → option_map (λ (seat : Seat). seat.floor) o ≡ Some floor
        → ◌≡◌ {A = ℕ} (elim o [ None ↦ 64 | Some seat ↦ seat.slot ]) slot → slot < past.slots
    by None is e at = absurd (cc)
    by (Some seat) is e at = let bounds = seat_below footing.floor past.disk (is_seat group past config) reference 0 past.slots seat is in omega (arith, bounds.1, at)
