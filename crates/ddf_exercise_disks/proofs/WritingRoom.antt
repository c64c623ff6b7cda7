-- The steps around the blocks of a write, and the array of an exercise that they mark.
use Rattle.std.proofs.Common.{◌≡◌, ℕ, zero, suc, ◌+◌, ◌≤◌, Bool, true, List, [], ◌∷◌, ◌++◌, length, Some, refl, sym, ap, subst, arith}
use Rattle.std.specs.Prelude.{slice_get}
use Rattle.std.specs.List.{AllByRecursion}
use Rattle.ddf_config.specs.declared.element.Position.{Position}
use Rattle.ddf_config.specs.declared.member.Member.{Member}
use Rattle.ddf_plan.specs.declared.change.Change.TheVariants.{Mark}
use Rattle.ddf_update.specs.Group.{IsOneOf}
use Rattle.ddf_array.specs.declared.part.Part.{Part}
use Rattle.ddf_array.specs.declared.place.Place.{Place}
use Rattle.ddf_array.specs.Places.{is_available}
use Rattle.ddf_cells.specs.Apart.{LiesAt}
use Rattle.ddf_rewrite.specs.Spares.{arrays_of_spare}
use Rattle.ddf_rewrite.specs.Wanted.{all_wanted}
use Rattle.ddf_steps.specs.Committed.{slots_of}
use Rattle.ddf_seats.specs.Group.{GroupValue}
use Rattle.ddf_steps.specs.Ready.{group_after}
use Rattle.ddf_steps.specs.Steps.{Step}
use Rattle.ddf_read.specs.Reading.{IsOn}
use Rattle.ddf_history_steps.specs.BlockFloors.{floor_in}
use Rattle.ddf_group_commands.specs.Costs.{steps_sectors}
use Rattle.ddf_write_commands.specs.Around.{config_behind, marking}
use Rattle.ddf_uncut_group.specs.Plain.{HasRoom}
use Rattle.ddf_uncut_group.specs.Settled.{group_behind}
use Rattle.ddf_uncut_data.specs.Whole.{IsWhole}
use Rattle.ddf_exercise_config.specs.Disks.{Disks}
use Rattle.ddf_exercise_config.specs.Stages.{array, group_with, members_at, positions_at, seats_at}
use Rattle.ddf_exercise_config.specs.Turns.{Turn}
use Rattle.ddf_exercise_config.specs.Turns.Turn.{Closing, Middle, Opening}
use Rattle.ddf_exercise_config.specs.Views.{part, places_at, view_at}

one_element : (name : List ℕ) (sequence : ℕ) (table : List (ℕ × Member)) (guid : List ℕ) (positions : List Position) (state init : ℕ)
    → length (all_wanted (group_with name sequence table guid (array positions state init))) ≡ 1
unfolding all_wanted
one_element name sequence table guid positions state init = refl

-- New disks have room for a group with one array of one element, whose members are no more than 15, none of them a spare for some arrays alone.
pub room_with : (name : List ℕ) (sequence : ℕ) (table : List (ℕ × Member)) (guid : List ℕ) (positions : List Position) (state init : ℕ) → length table ≤ 15
    → AllByRecursion (λ (entry : ℕ × Member). arrays_of_spare entry.1.spare ≡ []) table → HasRoom (group_with name sequence table guid (array positions state init))
room_with name sequence table guid positions state init few none = record {
  members = few;
  arrays = omega arith;
  elements = let one = one_element name sequence table guid positions state init in omega (arith, one);
  none_dedicated = none;
}

-- So they have for the group at each of its turns.
pub room_at : (name : List ℕ) (disks : Disks) (guid : List ℕ) (positions : List Position) (state init sequence : ℕ) (turn : Turn)
    → HasRoom (group_with name sequence (members_at disks turn) guid (array positions state init))
room_at name disks guid positions state init sequence Opening = room_with name sequence (members_at disks Opening) guid positions state init (omega arith) (refl, (refl, (refl, (refl, (refl, tt)))))
room_at name disks guid positions state init sequence Middle = room_with name sequence (members_at disks Middle) guid positions state init (omega arith) (refl, (refl, (refl, (refl, (refl, tt)))))
room_at name disks guid positions state init sequence Closing = room_with name sequence (members_at disks Closing) guid positions state init (omega arith) (refl, (refl, (refl, (refl, (refl, tt)))))

-- A write marks it.
pub marking_is : (disks : Disks) (guid : List ℕ) (turn : Turn) (state init : ℕ) → marking (guid, array (positions_at disks turn) state init) ≡ Mark guid ∷ []
marking_is disks guid Opening state init = refl
marking_is disks guid Middle state init = refl
marking_is disks guid Closing state init = refl

-- ---- steps and others behind them

pub behind_is : (group : GroupValue) (steps : List Step) → config_behind group.config steps ≡ (group_behind group steps).config
behind_is group [] = refl
behind_is group (step ∷ steps) = behind_is (group_after group step) steps

pub sectors_of_both : (first others : List Step) → steps_sectors (first ++ others) ≡ steps_sectors first + steps_sectors others
sectors_of_both [] others = omega arith
sectors_of_both (step ∷ first) others = let rest = sectors_of_both first others in omega (arith, rest)

-- ---- the places of the array

part_is : (turn : Turn) (is_marked : Bool) (element : ℕ) (one : Part) → slice_get (view_at turn is_marked).parts element ≡ Some one → one.places ≡ places_at turn
part_is turn is_marked zero one at = let is : part (places_at turn) ≡ one = cc in ap (λ (p : Part). p.places) (sym is)
part_is turn is_marked (suc element) one at = absurd cc

pub place_at : (P : Place → Type 0) (places : List Place) → AllByRecursion P places → (position : ℕ) (place : Place) → slice_get places position ≡ Some place → P place
place_at P [] all position place at = absurd cc
place_at P (one ∷ places) all zero place at = let is : one ≡ place = cc in subst P is all.0
place_at P (one ∷ places) all (suc position) place at = place_at P places all.1 position place at

-- what each place is, each of them is
view_place : (P : Place → Type 0) (turn : Turn) (is_marked : Bool) → AllByRecursion P (places_at turn) → (element position : ℕ) (one : Part) (place : Place)
    → slice_get (view_at turn is_marked).parts element ≡ Some one → slice_get one.places position ≡ Some place → P place
view_place P turn is_marked all element position one place at there =
    place_at P (places_at turn) all position place (subst (λ (places : List Place). slice_get places position ≡ Some place) (part_is turn is_marked element one at) there)

available : (turn : Turn) → AllByRecursion (λ (one : Place). is_available one ≡ true) (places_at turn)
available Opening = (refl, (refl, (refl, tt)))
available Middle = (refl, (refl, (refl, tt)))
available Closing = (refl, (refl, (refl, tt)))

-- Each is in sync, and its disk is there.
pub view_whole : (turn : Turn) (is_marked : Bool) → IsWhole (view_at turn is_marked)
view_whole turn is_marked element position one place at there = view_place (λ (p : Place). is_available p ≡ true) turn is_marked (available turn) element position one place at there

-- what holds of a slot where a place is on it
abbrev OnSlot : (ℕ → Type 0) → Place → Type 0
OnSlot P place = (slot : ℕ) → place.slot ≡ Some slot → P slot

on_slot : (P : ℕ → Type 0) (own slot : ℕ) → P own → Some own ≡ Some slot → P slot
on_slot P own slot p is = let same : own ≡ slot = cc in subst P same p

abbrev HasSeat : Disks → Turn → ℕ → Type 0
HasSeat disks turn slot = IsOneOf (slots_of (seats_at disks turn)) slot × (floor_in (seats_at disks turn) slot ≡ 32687)

seats_there : (disks : Disks) (turn : Turn) → AllByRecursion (OnSlot (HasSeat disks turn)) (places_at turn)
seats_there disks Opening = (
  λ slot is. on_slot (HasSeat disks Opening) 0 slot (record { place = 0; is_there = refl }, refl) is,
  (
    λ slot is. on_slot (HasSeat disks Opening) 1 slot (record { place = 1; is_there = refl }, refl) is,
    (
      λ slot is. on_slot (HasSeat disks Opening) 2 slot (record { place = 2; is_there = refl }, refl) is,
      tt,
    ),
  ),
)
seats_there disks Middle = (
  λ slot is. on_slot (HasSeat disks Middle) 0 slot (record { place = 0; is_there = refl }, refl) is,
  (
    λ slot is. on_slot (HasSeat disks Middle) 3 slot (record { place = 2; is_there = refl }, refl) is,
    (
      λ slot is. on_slot (HasSeat disks Middle) 2 slot (record { place = 1; is_there = refl }, refl) is,
      tt,
    ),
  ),
)
seats_there disks Closing = (
  λ slot is. on_slot (HasSeat disks Closing) 0 slot (record { place = 0; is_there = refl }, refl) is,
  (
    λ slot is. on_slot (HasSeat disks Closing) 3 slot (record { place = 1; is_there = refl }, refl) is,
    (
      λ slot is. on_slot (HasSeat disks Closing) 4 slot (record { place = 2; is_there = refl }, refl) is,
      tt,
    ),
  ),
)

-- The slot of each cell has a seat, whose floor is that of the disks.
pub cell_floor : (disks : Disks) (turn : Turn) (is_marked : Bool) (element position sector slot lba : ℕ) → LiesAt (view_at turn is_marked) element position sector slot lba → floor_in (seats_at disks turn) slot ≡ 32687
cell_floor disks turn is_marked element position sector slot lba lies =
    (view_place (OnSlot (HasSeat disks turn)) turn is_marked (seats_there disks turn) element position lies.part lies.place lies.is_part lies.is_place slot lies.is_there).1

pub place_seat : (disks : Disks) (turn : Turn) (is_marked : Bool) (slot : ℕ) → IsOn (view_at turn is_marked) slot → IsOneOf (slots_of (seats_at disks turn)) slot
place_seat disks turn is_marked slot on = (view_place (OnSlot (HasSeat disks turn)) turn is_marked (seats_there disks turn) on.element on.position on.part on.place on.is_part on.is_place slot on.is_there).0

pub cell_seat : (disks : Disks) (turn : Turn) (is_marked : Bool) (element position sector slot lba : ℕ) → LiesAt (view_at turn is_marked) element position sector slot lba → IsOneOf (slots_of (seats_at disks turn)) slot
cell_seat disks turn is_marked element position sector slot lba lies =
    (view_place (OnSlot (HasSeat disks turn)) turn is_marked (seats_there disks turn) element position lies.part lies.place lies.is_part lies.is_place slot lies.is_there).0
