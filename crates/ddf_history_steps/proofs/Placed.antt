-- A disk keeps its floor while it gets a copy of the same floor.
use Rattle.std.proofs.Common.{◌≡◌, ◌∙◌, ℕ, ◌<◌, ◌≤◌, if◌then◌else◌, List, Some, Result, Ok, length, ap, refl, sym, subst, inl, inr, ⊎_elim, arith, min}
use Rattle.std.proofs.lemmas.Bool.{cases_lt}
use Rattle.std.proofs.Math.Path.{fun_ext}
use Rattle.std.specs.Prelude.{slice_get}
use Rattle.std.proofs.lemmas.Option.{same_Some}
use Rattle.ddf_lemmas.proofs.Lists.{some_at_place}
use Rattle.ddf_bay.specs.Sectors.{Image}
use Rattle.ddf_bay.specs.State.{BayState, size_of}
use Rattle.ddf_header.specs.declared.geometry.Geometry.{Geometry}
use Rattle.ddf_header.specs.declared.reading.Header.{Header}
use Rattle.ddf_copy.specs.declared.copy.DiskCopy.{DiskCopy}
use Rattle.ddf_copy.specs.declared.newest_copy.Newest.{Newest}
use Rattle.ddf_copy.specs.declared.newest_copy.Newest.TheVariants as newests
use Rattle.ddf_copy.specs.declared.which.Which.{Which}
use Rattle.ddf_copy.specs.declared.which.Which.TheVariants.{Primary, Secondary}
use Rattle.ddf_copy.specs.Anchor.{anchor_at}
use Rattle.ddf_copy.specs.Copies.{copy_of, newest_at, newest_of, newest_under, standing_copy}
use Rattle.ddf_copy.specs.Headers.{anchor_header, written_as}
use Rattle.ddf_copy.specs.Shows.{IsNewest}
use Rattle.ddf_copy.specs.Which.{other_of, place_of}
use Rattle.ddf_copy.proofs.Places.{AreAlike, alike, standing_whole}
use Rattle.ddf_update.specs.declared.prepared.Mode.{Mode}
use Rattle.ddf_update.specs.declared.prepared.Mode.TheVariants as modes
use Rattle.ddf_update.specs.declared.prepared.Prepared.{Prepared}
use Rattle.ddf_update.specs.Changes.{IsGetting, IsLeftChangingAll, MayChangeAll, MayGet, SlotChange}
use Rattle.ddf_update.specs.Prepared.{writes_anchor}
use Rattle.ddf_update.specs.Update.{AreBoth, IsAdopting, IsChanging, IsMoving, IsReadAdopting, MayAdopt, MayChange}
use Rattle.ddf_view.proofs.Finds.{place_within}
use Rattle.ddf_seats.specs.Group.{floor_of}
use Rattle.ddf_history_steps.specs.Floors.{HasFloor}

pub same_ok : {E : Type 0} (one other : Header) → ◌≡◌ {A = Result Header E} (Ok one) (Ok other) → one ≡ other
same_ok one other e = cc

-- Copies that stand in the same places, with the same sections, have one floor.
alike_floor : (one other : DiskCopy) → AreAlike one other → floor_of one ≡ floor_of other
alike_floor one other are =
    ap (λ (geometry : Geometry). min geometry.workspace_lba (min one.header.primary_lba one.header.secondary_lba)) are.same_sections
    ∙ ap (λ (lba : ℕ). min other.header.geometry.workspace_lba (min lba one.header.secondary_lba)) are.same_primary
    ∙ ap (λ (lba : ℕ). min other.header.geometry.workspace_lba (min other.header.primary_lba lba)) are.same_secondary

-- ---- a disk with an anchor

module _ (size : ℕ) (sector : ℕ → List ℕ) (anchor : Header) (anchored : anchor_at size sector ≡ Ok anchor) where
  pub read_there : newest_at size sector ≡ Some (newest_of size sector anchor)
  read_there = ap (newest_under size sector) anchored

  -- By the anchor its copies stand behind a floor.
  by_anchor : (floor : ℕ) → ((which : Which) → floor ≤ place_of which anchor) → (other : Header) → anchor_at size sector ≡ Ok other → (which : Which) → floor ≤ place_of which other
  by_anchor floor behind other is which =
      let same : anchor ≡ other = same_ok anchor other (sym anchored ∙ is) in
      subst (λ (one : Header). floor ≤ place_of which one) same (behind which)

  -- A copy that is read under the anchor has the floor of one that stands for the disk.
  module _ (which : Which) (old : DiskCopy) (is : copy_of size sector anchor which ≡ Ok old) (newest : IsNewest (newest_of size sector anchor) old) (floor : ℕ) (has : HasFloor size sector floor) where
    by_standing : (found : Newest) → newest_of size sector anchor ≡ found → IsNewest found old → (copy : DiskCopy) × (standing_copy (newest_of size sector anchor) ≡ Some copy)
    by_standing (newests.One other copy) same here = (copy, ap standing_copy same)
    by_standing (newests.Level copy) same here = (copy, ap standing_copy same)
    by_standing (newests.TwoDiffer primary secondary) same here = (primary, ap standing_copy same)
    by_standing (newests.Neither first second) same here = absurd here

    pub read_floor : floor_of old ≡ floor
    read_floor =
        let stands = by_standing (newest_of size sector anchor) refl newest in
        let whole = standing_whole size sector anchor stands.0 stands.1 in
        alike_floor old stands.0 (alike size anchor sector sector which whole.0 old stands.0 is whole.1) ∙ has.same_floor (newest_of size sector anchor) stands.0 (read_there) stands.1

-- A disk that has a copy in both places has its floor, where the anchor's places lie there or behind it.
both_floor : (size : ℕ) (sector : ℕ → List ℕ) (anchor : Header) (copy : DiskCopy) (floor : ℕ) → AreBoth size sector anchor copy → floor_of copy ≡ floor → ((which : Which) → floor ≤ place_of which anchor) → floor < size
    → HasFloor size sector floor
both_floor size sector anchor copy floor both same behind within = record {
  same_floor = λ newest stands here is.
      let level : newest ≡ newests.Level (written_as copy Primary) = same_Some newest (newests.Level (written_as copy Primary)) (sym here ∙ read_there size sector anchor both.is_anchored ∙ ap Some both.are_level) in
      let own : written_as copy Primary ≡ stands = same_Some (written_as copy Primary) stands (sym (ap standing_copy level) ∙ is) in
      ap floor_of (sym own) ∙ same;
  below = by_anchor size sector anchor both.is_anchored floor behind;
  within = within;
}

-- ---- a slot that gets a copy

module _ {D : Type 0} (start : BayState D) (slot : ℕ) (seat : SlotChange) (floor : ℕ) (same : floor_of seat.new ≡ floor) (has : HasFloor (size_of start slot) (start.held slot) floor) where
  abbrev size : ℕ
  size = size_of start slot

  -- of its own group: its anchor stays
  module _ (may : MayChange start slot seat.anchor seat.last seat.old seat.new) where
    change_behind : (which : Which) → floor ≤ place_of which seat.anchor
    change_behind = has.below seat.anchor may.is_anchored

    changing_floor : (now : ℕ → List ℕ) (update : Prepared) → IsChanging size (start.held slot) now update seat.anchor seat.last seat.old seat.new → HasFloor size now floor
    changing_floor now update is = record {
      same_floor = λ newest copy here stands.
          let found : newest_of size now seat.anchor ≡ newest = same_Some (newest_of size now seat.anchor) newest (sym (read_there size now seat.anchor is.is_anchored) ∙ here) in
          let whole = standing_whole size now seat.anchor copy (ap standing_copy found ∙ stands) in
          alike_floor copy seat.old (alike size seat.anchor now (start.held slot) whole.0 seat.last copy seat.old whole.1 may.last_is)
          ∙ read_floor size (start.held slot) seat.anchor may.is_anchored seat.last seat.old may.last_is may.is_newest floor has;
      below = by_anchor size now seat.anchor is.is_anchored floor change_behind;
      within = has.within;
    }

  -- or of another one: it is read as it was, or has the new one's places
  module _ (may : MayAdopt start slot seat.anchor seat.last seat.old seat.new) where
    adopt_behind : (which : Which) → floor ≤ place_of which (anchor_header seat.new)
    adopt_behind Primary = let here = has.below seat.anchor may.is_anchored Primary in let there = may.same_places Primary in omega (arith, here, there)
    adopt_behind Secondary = let here = has.below seat.anchor may.is_anchored Secondary in let there = may.same_places Secondary in omega (arith, here, there)

    module _ (now : ℕ → List ℕ) (update : Prepared) (is : IsAdopting size (start.held slot) now update seat.last seat.old seat.new) where
      now_behind : (other : Header) → anchor_at size now ≡ Ok other → (which : Which) → floor ≤ place_of which other
      now_behind other there which = ⊎_elim
          (λ as_before. has.below other (sym as_before ∙ there) which)
          (λ own. subst (λ (one : Header). floor ≤ place_of which one) (same_ok (anchor_header seat.new) other (sym own ∙ there)) (adopt_behind which))
          is.anchored

      one_floor : (found : Newest) (copy : DiskCopy) → newest_at size now ≡ Some found → standing_copy found ≡ Some copy → floor_of copy ≡ floor
          → (newest : Newest) (other : DiskCopy) → newest_at size now ≡ Some newest → standing_copy newest ≡ Some other → floor_of other ≡ floor
      one_floor found copy there stands own newest other here its =
          let one : found ≡ newest = same_Some found newest (sym there ∙ here) in
          let both : copy ≡ other = same_Some copy other (sym stands ∙ ap standing_copy one ∙ its) in
          ap floor_of (sym both) ∙ own

      now_floor : IsReadAdopting size (start.held slot) now seat.last seat.old seat.new → (newest : Newest) (copy : DiskCopy) → newest_at size now ≡ Some newest → standing_copy newest ≡ Some copy → floor_of copy ≡ floor
      now_floor (inl as_before) = λ newest copy here stands. has.same_floor newest copy (sym as_before ∙ here) stands
      now_floor (inr (inl former)) =
          one_floor (newests.One seat.last seat.old) seat.old former refl (read_floor size (start.held slot) seat.anchor may.is_anchored seat.last seat.old may.last_is may.is_newest floor has)
      now_floor (inr (inr (inl alone))) = one_floor (newests.One (other_of seat.last) (written_as seat.new (other_of seat.last))) (written_as seat.new (other_of seat.last)) alone refl same
      now_floor (inr (inr (inr both))) = one_floor (newests.Level (written_as seat.new Primary)) (written_as seat.new Primary) both refl same

      adopting_floor : HasFloor size now floor
      adopting_floor = record { same_floor = now_floor is.newest; below = now_behind; within = has.within }

  -- or of another one at other places: it has its floor by the new one
  move_behind : (which : Which) → floor ≤ place_of which (anchor_header seat.new)
  move_behind Primary = omega (arith, same)
  move_behind Secondary = omega (arith, same)

  moving_floor : (now : ℕ → List ℕ) (update : Prepared) → IsMoving size (start.held slot) now update seat.new → HasFloor size now floor
  moving_floor now update is = ⊎_elim
      (λ as_before. record {
        same_floor = λ newest copy here stands. has.same_floor newest copy (sym as_before.1 ∙ here) stands;
        below = λ other there which. has.below other (sym as_before.0 ∙ there) which;
        within = has.within;
      })
      (λ both. both_floor size now (anchor_header seat.new) seat.new floor both same move_behind has.within)
      is.reads

  pub getting_floor : (now : ℕ → List ℕ) (update : Prepared) (mode : Mode) → MayGet mode start slot seat → IsGetting mode size (start.held slot) now update seat → HasFloor size now floor
  getting_floor now update modes.Change can is = changing_floor can now update is
  getting_floor now update modes.Found can is = absurd can
  getting_floor now update modes.Adopt can is = adopting_floor can.1 now update is
  getting_floor now update modes.Move can is = moving_floor now update is

  -- once it has it in both places
  pub got_floor : (now : ℕ → List ℕ) (mode : Mode) → MayGet mode start slot seat → AreBoth size now (if writes_anchor mode then anchor_header seat.new else seat.anchor) seat.new → HasFloor size now floor
  got_floor now modes.Change can both = both_floor size now seat.anchor seat.new floor both same (change_behind can) has.within
  got_floor now modes.Found can both = absurd can
  got_floor now modes.Adopt can both = both_floor size now (anchor_header seat.new) seat.new floor both same (adopt_behind can.1) has.within
  got_floor now modes.Move can both = both_floor size now (anchor_header seat.new) seat.new floor both same move_behind has.within

-- ---- a stop while slots get theirs

module _ {D : Type 0} (start : BayState D) (slots : List ℕ) (seat : ℕ → SlotChange) (updates : List Prepared) (image : Image)
    (counted : length updates ≡ length slots) (may : MayChangeAll start slots seat updates) (left : IsLeftChangingAll start slots seat updates image) where
  -- Each slot keeps its floor that is that of its new copy.
  pub each_floor : (place slot : ℕ) → slice_get slots place ≡ Some slot → (floor : ℕ) → floor_of (seat place).new ≡ floor → HasFloor (size_of start slot) (start.held slot) floor
      → HasFloor (size_of start slot) (image slot) floor
  each_floor place slot at floor same has =
      let within = place_within slots place slot at in
      let update = some_at_place updates place (omega (arith, within, counted)) in
      let can = may.may_change place slot at in
      elim (cases_lt place left.turn) [
        | inl earlier ↦ got_floor start slot (seat place) floor same has (image slot) (seat place).mode can (left.earlier place slot update.0 earlier at update.1).are_both
        | inr more ↦ elim (cases_lt left.turn place) [
          | inl later ↦ subst (λ (sector : ℕ → List ℕ). HasFloor (size_of start slot) sector floor) (sym (fun_ext (λ l. left.later place slot l later at))) has
          | inr also ↦
              let turn : left.turn ≡ place = omega (arith, more, also) in
              let is = left.here slot update.0 (ap (slice_get slots) turn ∙ at) (ap (slice_get updates) turn ∙ update.1) in
              let turned = subst (λ (n : ℕ). IsGetting (seat n).mode (size_of start slot) (start.held slot) (image slot) update.0 (seat n)) turn is in
              getting_floor start slot (seat place) floor same has (image slot) update.0 (seat place).mode can turned
        ]
      ]
