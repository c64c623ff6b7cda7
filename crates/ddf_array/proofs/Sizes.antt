-- The sizes of an array's elements, by the configuration and by a view.
use Rattle.std.proofs.Common.{◌≡◌, ◌∙◌, ℕ, Bool, true, false, List, [], ◌∷◌, Option, Some, None, Ok, Err, refl, ap, sym, map, length, filter_map}
use Rattle.std.specs.Prelude.{option_map, if◌then◌else◌}
use Rattle.std.specs.Result.{result_ok}
use Rattle.std.specs.List.{cons_option}
use Rattle.ddf_primary.specs.Placement.{Placement}
use Rattle.ddf_secondary.specs.declared.element.ElementSize.{ElementSize}
use Rattle.ddf_secondary.specs.declared.level.SecondaryLevel.{SecondaryLevel}
use Rattle.ddf_secondary.specs.declared.fault.TiersFault.TheVariants.{Level, Count, Mixed}
use Rattle.ddf_secondary.specs.Arrangement.{Arrangement, served_level, takes_count, takes_units}
use Rattle.ddf_config.specs.declared.array.Array.{Array}
use Rattle.ddf_config.specs.declared.seat.Seat.{Seat}
use Rattle.ddf_config.specs.ElementValue.{ElementValue}
use Rattle.ddf_config.specs.Shapes.{element_shape, part_size, sizes, secondary_level, array_tiers, shape_size}
use Rattle.ddf_array.specs.declared.part.Part.{Part}
use Rattle.ddf_array.specs.Volume.{size_of}
use Rattle.ddf_array.specs.Viewing.{known_part, parts_of, place_of}

shape_by : (seats : List Seat) (element : ElementValue) (found : Option Placement)
    → option_map shape_size found ≡ option_map size_of (option_map (λ (shape : Placement). record { shape = shape; places = map (place_of seats element.blocks) element.positions }) found)
shape_by seats element None = refl
shape_by seats element (Some shape) = refl

one_size : (seats : List Seat) (elements : ℕ) (part : Option ElementValue) → part_size elements part ≡ option_map size_of (known_part seats elements part)
one_size seats elements None = refl
one_size seats elements (Some element) = shape_by seats element (element_shape elements element)

cons_map : (o : Option Part) (xs : List Part) → map size_of (cons_option o xs) ≡ cons_option (option_map size_of o) (map size_of xs)
cons_map None xs = refl
cons_map (Some x) xs = refl

all_sizes : (seats : List Seat) (elements : ℕ) (parts : List (Option ElementValue)) → map size_of (filter_map (known_part seats elements) parts) ≡ filter_map (part_size elements) parts
all_sizes seats elements [] = refl
all_sizes seats elements (part ∷ parts) =
    cons_map (known_part seats elements part) (filter_map (known_part seats elements) parts)
    ∙ ap (cons_option (option_map size_of (known_part seats elements part))) (all_sizes seats elements parts)
    ∙ ap (λ o. cons_option o (filter_map (part_size elements) parts)) (sym (one_size seats elements part))

tiers_by : (sizes : List ElementSize) (tiers : Arrangement) (code : ℕ) (level : Option SecondaryLevel) (a : Bool) (b : SecondaryLevel → Bool)
    → ◌≡◌ {A = Option Arrangement} (result_ok (elim level [
      | None ↦ Err (Level code)
      | Some level ↦ if a then (if b level then Ok (record { level = level; sizes = sizes }) else Err Mixed) else Err (Count (length sizes))
    ])) (Some tiers) → tiers.sizes ≡ sizes
tiers_by sizes tiers code None a b e = absurd (cc)
tiers_by sizes tiers code (Some level) false b e = absurd (cc)
tiers_by sizes tiers code (Some level) true b e = by_units (b level) e
  where
    by_units : (c : Bool) → ◌≡◌ {A = Option Arrangement} (result_ok (if c then Ok (record { level = level; sizes = sizes }) else Err Mixed)) (Some tiers) → tiers.sizes ≡ sizes
    by_units true e = let same : ◌≡◌ {A = Arrangement} (record { level = level; sizes = sizes }) tiers = cc in sym (ap (λ (t : Arrangement). t.sizes) same)
    by_units false e = absurd (cc)

-- the tiers of an array are over the elements that the view has
pub tiers_sizes : (seats : List Seat) (array : Array) (tiers : Arrangement) → array_tiers array ≡ Some tiers → tiers.sizes ≡ map size_of (parts_of seats array.elements)
tiers_sizes seats array tiers e =
    tiers_by (sizes array) tiers (secondary_level array) (served_level (secondary_level array)) (takes_count (sizes array)) (λ level. takes_units level (sizes array)) e
    ∙ sym (all_sizes seats (length array.elements) array.elements)
