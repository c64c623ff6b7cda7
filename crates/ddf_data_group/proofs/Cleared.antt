-- An array whose mark is cleared or set.
use Rattle.std.proofs.Common.{◌≡◌, ◌∙◌, ℕ, Bool, false, List, Option, Some, None, refl, sym, ap, subst, filter_map, length, slice_get, ◌&&◌}
use Rattle.std.specs.Prelude.{is_none, is_some, ◌==◌, if◌then◌else◌}
use Rattle.std.proofs.Math.Path.{fun_ext}
use Rattle.std.specs.Result.{result_ok}
use Rattle.std.specs.List.{list_all}
use Rattle.ddf_bay.specs.Sectors.{Image}
use Rattle.ddf_secondary.specs.Arrangement.{tiers_of}
use Rattle.ddf_config.specs.declared.array.Array.{Array}
use Rattle.ddf_config.specs.declared.member.Member.{Member}
use Rattle.ddf_config.specs.declared.seat.Seat.{Seat}
use Rattle.ddf_config.specs.ElementValue.{ElementValue}
use Rattle.ddf_config.specs.Extents.{extent}
use Rattle.ddf_config.specs.Members.{is_current}
use Rattle.ddf_config.specs.Shapes.{array_tiers, has_shape, part_size}
use Rattle.ddf_config.specs.States.{is_marked}
use Rattle.ddf_array.specs.Viewing.{parts_of, seat_slot}
use Rattle.ddf_array.specs.Volume.{Volume}
use Rattle.ddf_data_array.specs.Allowed.{Allowed}
use Rattle.ddf_data_array.specs.Changing.{with_mark}
use Rattle.ddf_data_array.specs.Kept.{IsKeptData}
use Rattle.ddf_data_array.proofs.Consistent.{kept_unmarked}
use Rattle.ddf_data_group.specs.Over.{IsOver, absent_in}
use Rattle.ddf_data_group.specs.Kept.{KeepsArray}
use Rattle.ddf_data_group.specs.Clearing.{IsSameButMark, MayBeCleared}

-- ---- the mark

module _ (seats : List Seat) (before after : Array) (same : IsSameButMark before after) (v : Volume) (over : IsOver seats after v) where
  tiers_same : array_tiers after ≡ array_tiers before
  tiers_same =
      ap (λ (n : ℕ). result_ok (tiers_of (if length after.elements == 1 then 0x00 else n) (filter_map (part_size (length after.elements)) after.elements))) same.same_secondary
      ∙ ap (λ (l : List (Option ElementValue)). result_ok (tiers_of (if length l == 1 then 0x00 else before.secondary) (filter_map (part_size (length l)) l))) same.same_elements

  -- the volume as it was
  pub unlike : Volume
  unlike = with_mark (is_marked before) v

  pub over_before : IsOver seats before (with_mark (is_marked before) v)
  over_before = record {
    tiers_are = sym tiers_same ∙ over.tiers_are;
    parts_are = over.parts_are ∙ ap (parts_of seats) same.same_elements;
    marked_is = refl;
    is_volume = record { array_is = over.is_volume.array_is; has_sizes = over.is_volume.has_sizes; are_parts = over.is_volume.are_parts };
    complete = ap (list_all (λ (part : Option ElementValue). is_some part)) (sym same.same_elements) ∙ over.complete;
    shapes = ap (λ (l : List (Option ElementValue)). list_all (has_shape (length l)) l) (sym same.same_elements) ∙ over.shapes;
  }

pub cleared : (members : List (ℕ × Member)) (seats : List Seat) (before after : Array) (image : Image) (allowed : Allowed) → IsSameButMark before after → is_marked after ≡ false
    → ((v : Volume) → IsOver seats before v → MayBeCleared (absent_in members seats before.elements) v image allowed)
    → KeepsArray members seats before image allowed → KeepsArray members seats after image allowed
cleared members seats before after image allowed same unmarked may kept v over =
    let old = over_before seats before after same v over in
    let was = with_mark (is_marked before) v in
    let ready = may was old in
    let is_v : with_mark false was ≡ v = ap (λ b. with_mark b v) (sym (over.marked_is ∙ unmarked)) in
    subst (λ (l : List (Option ElementValue)). IsKeptData (absent_in members seats l) v image allowed) (sym same.same_elements)
    (subst (λ (x : Volume). IsKeptData (absent_in members seats before.elements) x image allowed) is_v
    (kept_unmarked (absent_in members seats before.elements) was image allowed (kept was old).sound.are_sectors ready.consistent ready.rows ready.may))

-- nothing but marks and low states is changed, and the mark stays
pub same_marked : (members after_members : List (ℕ × Member)) (seats : List Seat) (before after : Array) (image : Image) (allowed : Allowed) → IsSameButMark before after → is_marked after ≡ is_marked before
    → ((reference : ℕ) → is_current after_members reference ≡ is_current members reference)
    → KeepsArray members seats before image allowed → KeepsArray after_members seats after image allowed
same_marked members after_members seats before after image allowed same mark current kept v over =
    let old = over_before seats before after same v over in
    let is_v : with_mark (is_marked before) v ≡ v = ap (λ b. with_mark b v) (sym (over.marked_is ∙ mark)) in
    let absent : absent_in members seats before.elements ≡ absent_in after_members seats after.elements =
    ap (λ (c : ℕ → Bool). absent_with c seats before.elements) (fun_ext (λ reference. sym (current reference)))
    ∙ ap (absent_in after_members seats) (sym same.same_elements) in
    subst (λ (x : ℕ → ℕ → Bool). IsKeptData x v image allowed) absent
    (subst (λ (x : Volume). IsKeptData (absent_in members seats before.elements) x image allowed) is_v (kept (with_mark (is_marked before) v) old))
  where
    absent_with : (ℕ → Bool) → List Seat → List (Option ElementValue) → ℕ → ℕ → Bool
    absent_with c seats elements element position =
        elim (slice_get elements element) [
          | None ↦ false
          | Some part ↦ elim part [ None ↦ false | Some one ↦ elim (slice_get one.positions position) [ None ↦ false | Some place ↦ c place.reference && is_none (seat_slot seats (extent one.blocks place)) ] ]
        ]
