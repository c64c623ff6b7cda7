-- Over seats that are alike an array is the same.
use Rattle.std.proofs.Common.{◌≡◌, ◌∙◌, ℕ, ◌+◌, Bool, false, not, List, [], ◌∷◌, Option, Some, None, Result, Ok, Err, refl, sym, ap, map, filter_map, length, ◌&&◌}
use Rattle.std.proofs.Math.Path.{fun_ext}
use Rattle.std.specs.Prelude.{nat_le, nat_lt, option_map, option_and_then, if◌then◌else◌}
use Rattle.std.specs.List.{list_any}
use Rattle.std.specs.Map.{lookup}
use Rattle.ddf_bay.specs.Sectors.{Image}
use Rattle.ddf_primary.specs.Placement.{Placement}
use Rattle.ddf_config.specs.declared.array.Array.{Array}
use Rattle.ddf_config.specs.declared.element.Position.{Position}
use Rattle.ddf_config.specs.declared.extent.Extent.{Extent}
use Rattle.ddf_config.specs.declared.member.Member.{Member}
use Rattle.ddf_config.specs.declared.refusal.Refusal.{Refusal}
use Rattle.ddf_config.specs.declared.refusal.Refusal.TheVariants.{Shape, Lost}
use Rattle.ddf_config.specs.declared.seat.Seat.{Seat}
use Rattle.ddf_config.specs.Configuration.{Configuration}
use Rattle.ddf_config.specs.ElementValue.{ElementValue}
use Rattle.ddf_config.specs.Extents.{array_extents, extent, extents}
use Rattle.ddf_config.specs.Levels.{unserved_level}
use Rattle.ddf_config.specs.Members.{same_guid}
use Rattle.ddf_config.specs.Refusals.{first_refusal, refuse_if}
use Rattle.ddf_config.specs.Seats.{floor_of, slot_of}
use Rattle.ddf_config.specs.Served.{is_served}
use Rattle.ddf_config.specs.Shapes.{array_tiers, element_shape}
use Rattle.ddf_config.specs.States.{is_marked}
use Rattle.ddf_config.specs.Unusable.{passes_floor, unusable}
use Rattle.ddf_config.specs.Within.{is_complete}
use Rattle.ddf_array.specs.declared.part.Part.{Part}
use Rattle.ddf_array.specs.Viewing.{parts_of, seat_slot, view_by, view_of, viewed}
use Rattle.ddf_array.specs.Volume.{Volume, volume}
use Rattle.ddf_data_group.specs.Grouped.{KeepsArrays, Promises}
use Rattle.ddf_data_group.proofs.Agreed.{agreed}
use Rattle.ddf_data_disks.specs.Seats.{AreAlikeSeats}

module _ (one other : List Seat) (alike : AreAlikeSeats one other) where
  passes_same : passes_floor one ≡ passes_floor other
  passes_same = fun_ext (λ (e : Extent). ap (λ (f : Option ℕ). elim f [ None ↦ false | Some floor ↦ nat_lt floor (e.start + e.blocks) ]) (alike.same_floors e.reference))

  slots_same : seat_slot one ≡ seat_slot other
  slots_same = fun_ext (λ (e : Extent).
      ap (λ (f : Option ℕ). elim f [ None ↦ None | Some floor ↦ if nat_le (e.start + e.blocks) floor then Some (slot_of one e.reference) else None ]) (alike.same_floors e.reference)
      ∙ ap (λ (s : ℕ). elim (floor_of other e.reference) [ None ↦ None | Some floor ↦ if nat_le (e.start + e.blocks) floor then Some s else None ]) (alike.same_slots e.reference))

  unusable_same : (members : List (ℕ × Member)) (all : List Extent) (guid : List ℕ) (array : Array) → unusable members one all guid array ≡ unusable members other all guid array
  unusable_same members all guid array =
      ap (λ (passes : Extent → Bool). first_refusal
      (unserved_level guid array ∷ refuse_if (not (is_served members all array && not (list_any passes (array_extents array)))) Shape ∷ refuse_if (not (is_complete array)) Lost ∷ [])) passes_same

  parts_same : (known : List (Option ElementValue)) → parts_of one known ≡ parts_of other known
  parts_same known =
      ap (λ (slot : Extent → Option ℕ). filter_map (λ (part : Option ElementValue). option_and_then (λ (element : ElementValue). option_map
      (λ (shape : Placement). record {
        shape = shape;
        places = map (λ (position : Position). record { slot = slot (extent element.blocks position); start = position.start; synced = position.synced; row = position.row }) element.positions;
      }) (element_shape (length known) element)) part) known) slots_same

  viewed_same : (array : Array) → viewed one array ≡ viewed other array
  viewed_same array =
      ap (λ (parts : List Part). elim (array_tiers array) [ None ↦ Err Shape | Some tiers ↦ Ok (volume (is_marked array) tiers parts) ]) (parts_same array.elements)

  pub view_same : (config : Configuration) (guid : List ℕ) → view_of config guid one ≡ view_of config guid other
  view_same config guid = by (lookup (same_guid guid) config.arrays)
    where
      by : (found : Option Array) → view_by config guid one found ≡ view_by config guid other found
      by None = refl
      by (Some array) =
          ap (λ (refused : Option Refusal). elim refused [ None ↦ viewed one array | Some refusal ↦ Err refusal ]) (unusable_same config.members (extents config.arrays) guid array)
          ∙ ap (λ (view : Result Volume Refusal). elim (unusable config.members other (extents config.arrays) guid array) [ None ↦ view | Some refusal ↦ Err refusal ]) (viewed_same array)

  pub arrays_same : (config : Configuration) (image : Image) (promises : Promises) → KeepsArrays config one image promises → KeepsArrays config other image promises
  arrays_same config image promises kept guid allowed array promised found =
      agreed config.members config.members one other array image allowed
      (record {
        same_floors = λ k j element position at there. sym (alike.same_floors position.reference);
        same_slots = λ k j element position at there. sym (alike.same_slots position.reference);
        same_current = λ k j element position at there. refl;
      })
      (kept guid allowed array promised found)

pub turned : (one other : List Seat) → AreAlikeSeats one other → AreAlikeSeats other one
turned one other alike = record { same_floors = λ reference. sym (alike.same_floors reference); same_slots = λ reference. sym (alike.same_slots reference) }
