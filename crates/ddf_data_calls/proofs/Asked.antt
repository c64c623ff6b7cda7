-- What a change asks for over seats is asked for over others that are alike.
use Rattle.std.proofs.Common.{◌≡◌, ◌∙◌, ℕ, ◌+◌, Bool, ◌&&◌, List, Option, Some, None, ap, sym, subst, map, filter_map, length, if◌then◌else◌}
use Rattle.std.proofs.Math.Path.{fun_ext}
use Rattle.std.specs.Prelude.{false, is_none, nat_le, option_and_then, option_map, slice_get}
use Rattle.ddf_bay.specs.Sectors.{Image}
use Rattle.ddf_primary.specs.Placement.{Placement}
use Rattle.ddf_config.specs.declared.array.Array.{Array}
use Rattle.ddf_config.specs.declared.element.Position.{Position}
use Rattle.ddf_config.specs.declared.extent.Extent.{Extent}
use Rattle.ddf_config.specs.declared.member.Member.{Member}
use Rattle.ddf_config.specs.declared.seat.Seat.{Seat}
use Rattle.ddf_config.specs.Configuration.{Configuration}
use Rattle.ddf_config.specs.ElementValue.{ElementValue}
use Rattle.ddf_config.specs.Extents.{extent}
use Rattle.ddf_config.specs.Members.{is_current}
use Rattle.ddf_config.specs.Seats.{floor_of, slot_of}
use Rattle.ddf_config.specs.Shapes.{element_shape}
use Rattle.ddf_plan.specs.declared.change.Change.{Change}
use Rattle.ddf_plan.specs.declared.change.Change.TheVariants as changes
use Rattle.ddf_array.specs.Viewing.{parts_of, seat_slot}
use Rattle.ddf_array.specs.Volume.{Volume}
use Rattle.ddf_data_group.specs.Clearing.{MayBeCleared, MayBeInSync}
use Rattle.ddf_data_group.specs.Grouped.{MayChange, Promises}
use Rattle.ddf_data_group.specs.Over.{IsOver, absent_in}
use Rattle.ddf_data_disks.specs.Seats.{AreAlikeSeats}
use Rattle.ddf_data_calls.specs.Calls.{MayAsk}

module _ (one other : List Seat) (alike : AreAlikeSeats one other) where
  pub slots_same : seat_slot one ≡ seat_slot other
  slots_same = fun_ext (λ (e : Extent).
      ap (λ (f : Option ℕ). elim f [ None ↦ None | Some floor ↦ if nat_le (e.start + e.blocks) floor then Some (slot_of one e.reference) else None ]) (alike.same_floors e.reference)
      ∙ ap (λ (s : ℕ). elim (floor_of other e.reference) [ None ↦ None | Some floor ↦ if nat_le (e.start + e.blocks) floor then Some s else None ]) (alike.same_slots e.reference))

  parts_same : (known : List (Option ElementValue)) → parts_of one known ≡ parts_of other known
  parts_same known =
      ap (λ (slot : Extent → Option ℕ). filter_map (λ (part : Option ElementValue). option_and_then (λ (element : ElementValue). option_map
      (λ (shape : Placement). record {
        shape = shape;
        places = map (λ (position : Position). record { slot = slot (extent element.blocks position); start = position.start; synced = position.synced; row = position.row }) element.positions;
      }) (element_shape (length known) element)) part) known) slots_same

  absent_same : (members : List (ℕ × Member)) (elements : List (Option ElementValue)) → absent_in members one elements ≡ absent_in members other elements
  absent_same members elements =
      ap {B = ℕ → ℕ → Bool} (λ (slot : Extent → Option ℕ) (element position : ℕ). elim (slice_get elements element) [
        | None ↦ false
        | Some part ↦ elim part [
          | None ↦ false
          | Some plan ↦ elim (slice_get plan.positions position) [ None ↦ false | Some at ↦ is_current members at.reference && is_none (slot (extent plan.blocks at)) ]
        ]
      ]) slots_same

  over_same : (array : Array) (volume : Volume) → IsOver other array volume → IsOver one array volume
  over_same array volume over = record {
    tiers_are = over.tiers_are;
    parts_are = over.parts_are ∙ sym (parts_same array.elements);
    marked_is = over.marked_is;
    is_volume = over.is_volume;
    complete = over.complete;
    shapes = over.shapes;
  }

  pub change_same : (config : Configuration) (image : Image) (promises : Promises) (change : Change) → MayChange config one image promises change → MayChange config other image promises change
  change_same config image promises (changes.Lose references) may = may
  change_same config image promises (changes.Create guid array) may = may
  change_same config image promises (changes.Delete guid) may = may
  change_same config image promises (changes.Spare reference use_as) may = may
  change_same config image promises (changes.Fail reference) may = may
  change_same config image promises (changes.Mark guid) may = may
  change_same config image promises (changes.Unmark named init) may = λ guid allowed array promised found is volume over.
      subst (λ (is_absent : ℕ → ℕ → Bool). MayBeCleared is_absent volume image allowed) (absent_same config.members array.elements)
      (may guid allowed array promised found is volume (over_same array volume over))
  change_same config image promises (changes.Rewind guid) may = may
  change_same config image promises (changes.Begin named element position reference start) may = may
  change_same config image promises (changes.Progress named element position row) may = λ guid allowed array promised found is volume over.
      may guid allowed array promised found is volume (over_same array volume over)
  change_same config image promises (changes.Finish named element position) may = λ guid allowed array promised found is volume over.
      subst (λ (is_absent : ℕ → ℕ → Bool). MayBeInSync is_absent volume image element position) (absent_same config.members array.elements)
      (may guid allowed array promised found is volume (over_same array volume over))
  change_same config image promises (changes.Return named element position reference start) may = λ guid allowed array promised found is volume over.
      let move = may guid allowed array promised found is volume (over_same array volume over) in
      record {
        slot = move.slot;
        is_seated = λ plan at. ap (λ (slot : Extent → Option ℕ). slot (record { reference = reference; start = start; blocks = plan.blocks })) (sym slots_same) ∙ move.is_seated plan at;
        same = move.same;
      }

  pub ask_same : (config : Configuration) (image : Image) (promises : Promises) (asked : Option Change) → MayAsk config one image promises asked → MayAsk config other image promises asked
  ask_same config image promises None may = may
  ask_same config image promises (Some change) may = change_same config image promises change may
