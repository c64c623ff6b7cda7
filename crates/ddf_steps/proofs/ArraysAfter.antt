-- What a change makes of arrays keeps what copies can hold.
use Rattle.std.proofs.Common.{◌≡◌, ℕ, ◌+◌, ◌*◌, ◌/◌, ◌^◌, ◌<◌, Bool, true, false, ◌&&◌, eqb, List, [], ◌∷◌, map, Option, Some, option_map, refl, ap, if◌then◌else◌, arith}
use Rattle.std.specs.Prelude.{slice_get}
use Rattle.std.specs.List.{AllByRecursion}
use Rattle.ddf_config.specs.declared.member.Member.{Member}
use Rattle.ddf_config.specs.declared.element.Position.{Position}
use Rattle.ddf_config.specs.declared.array.Array.{Array}
use Rattle.ddf_config.specs.declared.extent.Extent.{Extent}
use Rattle.ddf_config.specs.ElementValue.{ElementValue as ElementPlan}
use Rattle.ddf_config.specs.Entries.{changed_entries}
use Rattle.ddf_config.specs.Within.{is_part_within, is_available, is_mirrored}
use Rattle.ddf_config.specs.States.{array_with_low, state_with_low, takes_low_state, low_state}
use Rattle.ddf_config.proofs.Common.{low_small}
use Rattle.ddf_plan.specs.Lose.{is_among, out_of_sync, lost_position, lost_stand_in, lost_element, lost_parts, wholly_out, out_beyond, has_part_within, lost_array}
use Rattle.ddf_rewrite.specs.Hold.{FitsPosition}
use Rattle.ddf_steps.proofs.HeldEntries.{IsHeldEntry, IsHeldPlan, KeepsPlans, KeepsPositions, entry_kept, mapped_held, moved_held, still_there}

-- ---- positions out of sync

out_keeps : KeepsPositions out_of_sync
out_keeps = record {
  fits = λ position is. record { reference = is.reference; start = is.start; row = omega arith };
  no_row = λ position h. let no : true ≡ false = h in absurd cc;
}

lost_keeps : (references : List ℕ) → KeepsPositions (lost_position references)
lost_keeps references = record { fits = λ position is. fits (is_among references position.reference) position is; no_row = λ position h. row (is_among references position.reference) position h }
  where
    fits : (b : Bool) (position : Position) → FitsPosition position → FitsPosition (if b then out_of_sync position else position)
    fits true position is = out_keeps.fits position is
    fits false position is = is

    row : (b : Bool) (position : Position) → eqb (if b then out_of_sync position else position).row 0 ≡ false → eqb position.row 0 ≡ false
    row true position h = out_keeps.no_row position h
    row false position h = h

-- ---- elements

lost_plans : (references : List ℕ) → KeepsPlans (option_map (lost_element references))
lost_plans references = record {
  none = refl;
  some = λ plan. (
    lost_element references plan,
    refl,
    λ most elements is.
        moved_held (lost_position references) (lost_keeps references) most elements plan (lost_stand_in references plan) (small (is_among references plan.stand_in) plan.stand_in is.stand_in) is,
  );
}
  where
    small : (b : Bool) (n : ℕ) → n < 2 ^ 32 → (if b then 0 else n) < 2 ^ 32
    small true n fits = omega arith
    small false n fits = fits

beyond_plans : (members : List (ℕ × Member)) → KeepsPlans (out_beyond members)
beyond_plans members = record { none = refl; some = λ plan. by (is_part_within (is_available members) (Some plan)) plan }
  where
    by : (b : Bool) (plan : ElementPlan)
        → (next : ElementPlan) × ((if b then Some plan else option_map wholly_out (Some plan)) ≡ Some next) × ((most elements : ℕ) → IsHeldPlan most elements plan → IsHeldPlan most elements next)
    by true plan = (plan, refl, λ most elements is. is)
    by false plan = (wholly_out plan, refl, λ most elements is. mapped_held out_of_sync out_keeps most elements plan is)

-- ---- arrays

-- An array that can be held stays so under its GUID, and each element that is known stays known.
pub record KeepsArrays (h : List ℕ → Array → Array) : Type 0 where
  pub held : (most : ℕ) (guid : List ℕ) (array : Array) → IsHeldEntry most (guid, array) → IsHeldEntry most (guid, h guid array)
  pub there : (guid : List ℕ) (array : Array) (index : ℕ) (plan : ElementPlan) → slice_get array.elements index ≡ Some (Some plan)
      → (next : ElementPlan) × (slice_get (h guid array).elements index ≡ Some (Some next))

abbrev with_parts : Array → List (Option ElementPlan) → Array
with_parts array parts = record array { elements = parts }

pub lost_array_keeps : (members : List (ℕ × Member)) (references : List ℕ) → KeepsArrays (λ guid. lost_array members references)
lost_array_keeps members references = record {
  held = λ most guid array is.
      held (is_mirrored array && has_part_within members (lost_parts references array)) most guid array
      (entry_kept (option_map (lost_element references)) (lost_plans references) most guid array is);
  there = λ guid array index plan at.
      let lost = still_there (option_map (lost_element references)) (lost_plans references) array.elements index plan at in
      there (is_mirrored array && has_part_within members (lost_parts references array)) array index lost.0 lost.1;
}
  where
    held : (b : Bool) (most : ℕ) (guid : List ℕ) (array : Array) → IsHeldEntry most (guid, with_parts array (lost_parts references array))
        → IsHeldEntry most (guid, with_parts array (if b then map (out_beyond members) (lost_parts references array) else lost_parts references array))
    held true most guid array is = entry_kept (out_beyond members) (beyond_plans members) most guid (with_parts array (lost_parts references array)) is
    held false most guid array is = is

    there : (b : Bool) (array : Array) (index : ℕ) (plan : ElementPlan) → slice_get (lost_parts references array) index ≡ Some (Some plan)
        → (next : ElementPlan) × (slice_get (if b then map (out_beyond members) (lost_parts references array) else lost_parts references array) index ≡ Some (Some next))
    there true array index plan at = still_there (out_beyond members) (beyond_plans members) (lost_parts references array) index plan at
    there false array index plan at = (plan, at)

pub same_array_keeps : KeepsArrays (λ guid array. array)
same_array_keeps = record { held = λ most guid array is. is; there = λ guid array index plan at. (plan, at) }

state_small : (members : List (ℕ × Member)) (all : List Extent) (array : Array) → array.state < 2 ^ 8 → state_with_low members all array < 2 ^ 8
state_small members all array small = by (takes_low_state members all array)
  where
    by : (b : Bool) → (if b then array.state / 8 * 8 + low_state members array else array.state) < 2 ^ 8
    by true = let low = low_small members array in omega (arith, low, small)
    by false = small

pub low_keeps : (members : List (ℕ × Member)) (all : List Extent) → KeepsArrays (λ guid. array_with_low members all)
low_keeps members all = record {
  held = λ most guid array is. record {
    fits = record {
      guid = is.fits.guid;
      used = is.fits.used;
      number = is.fits.number;
      state = state_small members all array is.fits.state;
      init = is.fits.init;
      name = is.fits.name;
      secondary = is.fits.secondary;
    };
    readable = record { few = is.readable.few; alone = is.readable.alone; plain = is.readable.plain };
    plans = is.plans;
  };
  there = λ guid array index plan at. (plan, at);
}

-- ---- tables

abbrev pub with_arrays : (List ℕ → Array → Array) → List (List ℕ × Array) → List (List ℕ × Array)
with_arrays h entries = map (λ (entry : List ℕ × Array). (entry.0, h entry.0 entry.1)) entries

abbrev pub guids_of : List (List ℕ × Array) → List (List ℕ)
guids_of entries = map (λ (entry : List ℕ × Array). entry.0) entries

pub changed_all : (h : List ℕ → Array → Array) (entries : List (List ℕ × Array)) → changed_entries (λ guid array. Some (h guid array)) entries ≡ with_arrays h entries
changed_all h [] = refl
changed_all h (entry ∷ entries) = ap (λ l. (entry.0, h entry.0 entry.1) ∷ l) (changed_all h entries)

pub guids_kept : (h : List ℕ → Array → Array) (entries : List (List ℕ × Array)) → guids_of (with_arrays h entries) ≡ guids_of entries
guids_kept h [] = refl
guids_kept h (entry ∷ entries) = ap (λ l. entry.0 ∷ l) (guids_kept h entries)

pub all_kept : (h : List ℕ → Array → Array) → KeepsArrays h → (most : ℕ) (entries : List (List ℕ × Array)) → AllByRecursion (IsHeldEntry most) entries → AllByRecursion (IsHeldEntry most) (with_arrays h entries)
all_kept h keeps most [] all = tt
all_kept h keeps most (entry ∷ entries) all = (keeps.held most entry.0 entry.1 all.0, all_kept h keeps most entries all.1)
