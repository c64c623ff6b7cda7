-- How many blocks an array can hold.
use Rattle.std.proofs.Common.{◌≡◌, ℕ, ◌*◌, ◌^◌, ◌<◌, ◌≤◌, Bool, true, false, ◌&&◌, eqb, List, [], ◌∷◌, length, get_or, filter_map, Option, Some, None, Result, Ok, Err, refl, ap, subst, ◌∙◌, option_map, option_and_then, if◌then◌else◌, nat_le, arith, rules, lit≤}
use borrow.Author.Tests.{tests, leb-true}
use Rattle.std.specs.List.{AllByRecursion, cons_option}
use Rattle.std.specs.Result.{result_ok}
use Rattle.std.proofs.lemmas.Bool.{and_parts}
use Rattle.std.proofs.lemmas.Nat.{mul-le, pow_pos}
use Rattle.std.proofs.Math.Pow.{pow_mono}
use Rattle.std.proofs.lemmas.List.Elements.{All-cons, All-nil}
use Rattle.ddf_primary.specs.declared.layout.Layout.{Layout}
use Rattle.ddf_primary.specs.declared.fault.ShapeFault.{ShapeFault}
use Rattle.ddf_primary.specs.declared.fault.ShapeFault.TheVariants.{MemberCount, Blocks}
use Rattle.ddf_primary.specs.Placement.{Placement, placement}
use Rattle.ddf_primary.specs.Levels.{served_layout, takes_members, takes_blocks, least_blocks, sized_shape, shape_of, IsShape}
use Rattle.ddf_primary.specs.Cells.{cells, unit_of, rows_of}
use Rattle.ddf_primary.proofs.ShapeFacts.{cells_le, rows_fit}
use Rattle.ddf_secondary.specs.declared.element.ElementSize.{ElementSize}
use Rattle.ddf_secondary.specs.declared.level.SecondaryLevel.{SecondaryLevel}
use Rattle.ddf_secondary.specs.declared.level.SecondaryLevel.TheVariants.{Striped, Mirrored, Concatenated, Spanned}
use Rattle.ddf_secondary.specs.declared.fault.TiersFault.{TiersFault}
use Rattle.ddf_secondary.specs.declared.fault.TiersFault.TheVariants.{Level, Count, Mixed}
use Rattle.ddf_secondary.specs.Sizes.{AreSmall, least_of}
use Rattle.ddf_secondary.specs.Arrangement.{Arrangement, IsArray, served_level, takes_units, takes_count, tiers_of}
use Rattle.ddf_secondary.specs.Spots.{spots, spots_by}
use Rattle.ddf_secondary.proofs.Blocks.{length-blocks, length-one_after_another}
use Rattle.ddf_secondary.proofs.SizeFacts.{least_reached}
use Rattle.ddf_secondary.proofs.ArrayFacts.{small_at}
use Rattle.ddf_secondary.proofs.StripedSpots.{striped_small}
use Rattle.ddf_secondary.proofs.SpannedSpots.{spanned_length, rows_are_small}
use Rattle.ddf_secondary.proofs.ConcatenatedSpots.{capacities_are_small}
use Rattle.ddf_secondary.proofs.TierFacts.{single_spots, level_spots}
use Rattle.ddf_config.specs.declared.array.Array.{Array}
use Rattle.ddf_config.specs.ElementValue.{ElementValue}
use Rattle.ddf_config.specs.Shapes.{strip_sectors, element_shape, shape_size, part_size, sizes, secondary_level, array_capacity, has_no_strips, IsSmall}

-- ---- an element

-- a shape that numbers name, of members that are few
record IsOf (members : ℕ) (shape : Placement) : Type 0 where
  members_are : shape.members ≡ members
  sound : IsShape shape
  blocks_fit : shape.blocks ≤ 2 ^ 48

sized : (layout : Layout) (members strip blocks : ℕ) (a b : Bool) (shape : Placement) → members ≤ 64 → 1 ≤ strip → strip ≤ 2 ^ 31
    → takes_members layout members ≡ a → takes_blocks layout strip blocks ≡ b
    → (if a then (if b then Ok (placement layout members strip blocks) else Err (Blocks blocks)) else Err (MemberCount members)) ≡ Ok shape → IsOf members shape
sized layout members strip blocks true true shape few some small takes fits e =
    let same : placement layout members strip blocks ≡ shape = cc in
    let below : blocks ≤ 2 ^ 48 = leb-true blocks (2 ^ 48) (and_parts (nat_le (least_blocks layout strip) blocks) (nat_le blocks (2 ^ 48)) fits).1 in
    subst (IsOf members) same (record {
      members_are = refl;
      sound = record { members_fit = omega arith; members_taken = takes; some_strip = some; small_strip = small; blocks_taken = fits };
      blocks_fit = below;
    })
sized layout members strip blocks true false shape few some small takes fits e = absurd (cc)
sized layout members strip blocks false b shape few some small takes fits e = absurd (cc)

shaped : (level qualifier members strip blocks : ℕ) (shape : Placement) → members ≤ 64 → 1 ≤ strip → strip ≤ 2 ^ 31 → shape_of level qualifier members strip blocks ≡ Ok shape → IsOf members shape
shaped level qualifier members strip blocks shape few some small e = by (served_layout level qualifier) e
  where
    by : (r : Result Layout ShapeFault) → ◌≡◌ {A = Result Placement ShapeFault} (elim r [ Ok layout ↦ sized_shape layout members strip blocks | Err fault ↦ Err fault ]) (Ok shape) → IsOf members shape
    by (Ok layout) e = sized layout members strip blocks (takes_members layout members) (takes_blocks layout strip blocks) shape few some small refl refl e
    by (Err fault) e = absurd (cc)

size_small : (members : ℕ) (shape : Placement) → members ≤ 64 → IsOf members shape → IsSmall (shape_size shape)
size_small members shape few is =
    let all : length (cells shape) ≤ shape.members * shape.blocks = cells_le shape is.sound in
    let rows : unit_of shape * rows_of shape ≤ length (cells shape) = rows_fit shape is.sound in
    let most : shape.members * shape.blocks ≤ 64 * 2 ^ 48 = mul-le shape.members shape.blocks 64 (2 ^ 48) (omega (arith, is.members_are)) is.blocks_fit in
    let power : 64 * 2 ^ 48 ≤ 2 ^ 56 = lit≤ tt in
    (omega (arith, all, most, power), omega (arith, all, rows, most, power))

-- the sectors of a strip
record IsStrip (strip : ℕ) : Type 0 where
  some : 1 ≤ strip
  small : strip ≤ 2 ^ 31

strip_is : (elements : ℕ) (element : ElementValue) (strip : ℕ) → strip_sectors elements element ≡ Some strip → IsStrip strip
strip_is elements element strip e = by (nat_le element.strip 31) (eqb elements 1 && has_no_strips element.level) refl e
  where
    by : (a b : Bool) → nat_le element.strip 31 ≡ a → (if a then Some (2 ^ element.strip) else (if b then Some 1 else None)) ≡ Some strip → IsStrip strip
    by true b low e =
        let same : 2 ^ element.strip ≡ strip = cc in
        let above : 0 < 2 ^ element.strip = pow_pos element.strip in
        let below : 2 ^ element.strip ≤ 2 ^ 31 = pow_mono (leb-true element.strip 31 low) in
        record { some = omega (arith, above, same); small = omega (arith, below, same) }
    by false true low e = let same : 1 ≡ strip = cc in subst IsStrip same (record { some = lit≤ tt; small = lit≤ tt })
    by false false low e = absurd (cc)

element_small : (elements : ℕ) (element : ElementValue) (size : ElementSize) → length element.positions ≤ 64
    → option_map shape_size (element_shape elements element) ≡ Some size → IsSmall size
element_small elements element size few e = by (strip_sectors elements element) refl e
  where
    given : (strip : ℕ) (r : Result Placement ShapeFault) → IsStrip strip → shape_of element.level element.qualifier (length element.positions) strip element.blocks ≡ r
        → option_map shape_size (result_ok r) ≡ Some size → IsSmall size
    given strip (Ok shape) is at e =
        let same : shape_size shape ≡ size = cc in
        subst IsSmall same
        (size_small (length element.positions) shape few (shaped element.level element.qualifier (length element.positions) strip element.blocks shape few is.some is.small at))
    given strip (Err fault) is at e = absurd (cc)

    by : (r : Option ℕ) → strip_sectors elements element ≡ r
        → option_map shape_size (option_and_then (λ strip. result_ok (shape_of element.level element.qualifier (length element.positions) strip element.blocks)) r) ≡ Some size → IsSmall size
    by None at e = absurd (cc)
    by (Some strip) at e =
        given strip (shape_of element.level element.qualifier (length element.positions) strip element.blocks) (strip_is elements element strip at) refl e

-- ---- an array

-- no element has more positions than a record can have
abbrev pub AreFew : List (Option ElementValue) → Type 0
AreFew parts = AllByRecursion (λ part. (plan : ElementValue) → part ≡ Some plan → length plan.positions ≤ 64) parts

pub part_small : (elements : ℕ) (part : Option ElementValue) → ((plan : ElementValue) → part ≡ Some plan → length plan.positions ≤ 64)
    → (size : ElementSize) → part_size elements part ≡ Some size → IsSmall size
part_small elements None few size e = absurd (cc)
part_small elements (Some element) few size e = element_small elements element size (few element refl) e

pub sizes_small : (elements : ℕ) (parts : List (Option ElementValue)) → AreFew parts → AreSmall (filter_map (part_size elements) parts)
sizes_small elements [] few = All-nil IsSmall
sizes_small elements (part ∷ parts) few = by (part_size elements part) refl (sizes_small elements parts few.1)
  where
    by : (r : Option ElementSize) → part_size elements part ≡ r → AreSmall (filter_map (part_size elements) parts) → AreSmall (cons_option r (filter_map (part_size elements) parts))
    by None at rest = rest
    by (Some size) at rest = All-cons IsSmall size (filter_map (part_size elements) parts) (part_small elements part few.0 size at) rest

level_small : (level : SecondaryLevel) (all : List ElementSize) → IsArray level all → length (spots_by level all) ≤ 16 * 2 ^ 56
level_small Striped all is = striped_small all is
level_small Mirrored all is =
    let least = least_reached (λ (size : ElementSize). size.capacity) all is.some in
    let small = (small_at all least.place least.size is.small least.at_place).0 in
    let reached : least.size.capacity ≡ least_of (λ (size : ElementSize). size.capacity) all = least.is in
    omega (arith, length-blocks 0 (least_of (λ (size : ElementSize). size.capacity) all) 0, small, reached)
level_small Concatenated all is = omega (arith, length-one_after_another 0 all, capacities_are_small all is)
level_small Spanned all is = omega (arith, spanned_length all, rows_are_small all is)

none_size : ElementSize
none_size = record { capacity = 0; unit = 0; rows = 0 }

tiers_small : (tiers : Arrangement) → IsArray tiers.level tiers.sizes → length (spots tiers) < 2 ^ 64
tiers_small tiers is = by (eqb (length tiers.sizes) 1) refl
  where
    single : length tiers.sizes ≡ 1 → length (spots tiers) < 2 ^ 64
    single one =
        let small = (is.small 0 none_size (omega (arith, one))).0 in
        let count : length (spots tiers) ≡ (get_or tiers.sizes 0 none_size).capacity = ap length (single_spots tiers tiers.sizes none_size refl one) ∙ length-blocks 0 (get_or tiers.sizes 0 none_size).capacity 0 in
        omega (arith, small, count)

    several : (length tiers.sizes ≡ 1 → ⊥) → length (spots tiers) < 2 ^ 64
    several more =
        let count : length (spots tiers) ≡ length (spots_by tiers.level tiers.sizes) = ap length (level_spots tiers tiers.level tiers.sizes refl refl is.some more) in
        omega (arith, count, level_small tiers.level tiers.sizes is)

    by : (b : Bool) → eqb (length tiers.sizes) 1 ≡ b → length (spots tiers) < 2 ^ 64
    by true at = single (search (rules, tests))
    by false at = several (λ one. search (rules, tests))

tiers_from : (code : ℕ) (all : List ElementSize) → AreSmall all → (r : Result Arrangement TiersFault) → tiers_of code all ≡ r
    → (elim (result_ok r) [ None ↦ 0 | Some tiers ↦ length (spots tiers) ]) < 2 ^ 64
tiers_from code all small (Err fault) e = lit≤ tt
tiers_from code all small (Ok tiers) e = by (served_level code) e
  where
    known : (level : SecondaryLevel) (a b : Bool) → takes_count all ≡ a → takes_units level all ≡ b
        → (if a then (if b then Ok (record { level = level; sizes = all }) else Err Mixed) else Err (Count (length all))) ≡ Ok tiers → IsArray tiers.level tiers.sizes
    known level true true count units e =
        let same : record { level = level; sizes = all } ≡ tiers = cc in
        let parts = and_parts (nat_le 1 (length all)) (nat_le (length all) 16) count in
        subst (λ (t : Arrangement). IsArray t.level t.sizes) same
        (record { some = leb-true 1 (length all) parts.0; few = leb-true (length all) 16 parts.1; units = units; small = small })
    known level true false count units e = absurd (cc)
    known level false b count units e = absurd (cc)

    by : (r : Option SecondaryLevel) → (◌≡◌ {A = Result Arrangement TiersFault} (elim r [
      | None ↦ Err (Level code)
      | Some level ↦ if takes_count all then (if takes_units level all then Ok (record { level = level; sizes = all }) else Err Mixed) else Err (Count (length all))
    ]) (Ok tiers)) → length (spots tiers) < 2 ^ 64
    by None e = absurd (cc)
    by (Some level) e = tiers_small tiers (known level (takes_count all) (takes_units level all) refl refl e)

-- The blocks of an array can be counted in 64 bits.
pub capacity_fits : (array : Array) → AreFew array.elements → array_capacity array < 2 ^ 64
capacity_fits array few =
    tiers_from (secondary_level array) (sizes array) (sizes_small (length array.elements) array.elements few) (tiers_of (secondary_level array) (sizes array)) refl
