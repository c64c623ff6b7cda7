-- The cells of blocks that lie along a strip.
use Rattle.std.proofs.Common.{◌≡◌, ◌∙◌, ⊎_elim, ℕ, ◌+◌, ◌-◌, ◌<◌, ◌≤◌, Bool, true, false, List, Option, Some, None, refl, sym, ap, arith, length, slice_get}
use Rattle.std.specs.Prelude.{◌==◌, ◌||◌, option_and_then, option_map, if◌then◌else◌}
use Rattle.std.proofs.lemmas.Bool.{cases_lt, eq-eqb}
use Rattle.std.proofs.lemmas.Option.{slice_get-get_or}
use Rattle.ddf_primary.specs.Copies.{sector_on}
use Rattle.ddf_primary.proofs.Copies.{holds_on, on_holds}
use Rattle.ddf_secondary.specs.declared.element.ElementSize.{ElementSize}
use Rattle.ddf_secondary.specs.declared.level.SecondaryLevel.{SecondaryLevel}
use Rattle.ddf_secondary.specs.declared.level.SecondaryLevel.TheVariants.{Striped, Mirrored, Concatenated, Spanned}
use Rattle.ddf_secondary.specs.declared.spot.Spot.{Spot}
use Rattle.ddf_secondary.specs.Spots as spots_of
use Rattle.ddf_secondary.specs.Spots.{spots}
use Rattle.ddf_array.specs.declared.part.Part.{Part}
use Rattle.ddf_array.specs.declared.site.Site.{Site}
use Rattle.ddf_array.specs.Cells.{is_in_every}
use Rattle.ddf_array.specs.Places.{site_at, site_on}
use Rattle.ddf_array.specs.Rows.{block_at}
use Rattle.ddf_array.specs.Volume.{Volume, IsVolume, capacity}
use Rattle.ddf_read.specs.Along.{CellsLieAlong, LieAlong, further}
use Rattle.ddf_read.proofs.SourcesAlong.{site_further}
use Rattle.ddf_cells.specs.CellsOn.{cell_of, cell_on}
use Rattle.ddf_cells.proofs.CopiesOn.{block_at_sits, sits_block_at}
use Rattle.ddf_cells.proofs.OnCells.{Sits, spot_of}

-- ---- which block a position holds

-- the spot of a block, by an element that holds it
pub first_spot : (level : SecondaryLevel) (sizes : List ElementSize) (items : List Spot) (element inner block : ℕ) → spots_of.HoldsBy level sizes items (spot_of element inner) block
    → (first : ℕ) × (slice_get items block ≡ Some (spot_of first inner)) × ((is_in_every level || (first == element)) ≡ true)
first_spot Striped sizes items element inner block holds = (element, holds, eq-eqb element element refl)
first_spot Mirrored sizes items element inner block holds = (0, holds.1, refl)
first_spot Concatenated sizes items element inner block holds = (element, holds, eq-eqb element element refl)
first_spot Spanned sizes items element inner block holds = (element, holds, eq-eqb element element refl)

later_spot : (level : SecondaryLevel) (sizes : List ElementSize) (items : List Spot) (element inner block k : ℕ)
    → ((first : ℕ) → slice_get items block ≡ Some (spot_of first inner) → slice_get items (block + k) ≡ Some (spot_of first (inner + k)))
    → spots_of.HoldsBy level sizes items (spot_of element inner) block → spots_of.HoldsBy level sizes items (spot_of element (inner + k)) (block + k)
later_spot Striped sizes items element inner block k next holds = next element holds
later_spot Mirrored sizes items element inner block k next holds = (holds.0, next 0 holds.1)
later_spot Concatenated sizes items element inner block k next holds = next element holds
later_spot Spanned sizes items element inner block k next holds = next element holds

module _ (v : Volume) (known : IsVolume v) (block count : ℕ) (along : LieAlong v block count) where
  sits_along : (element position sector : ℕ) → Sits v element position sector block → (k : ℕ) → k < count → Sits v element position (sector + k) (block + k)
  sits_along element position sector sits k below =
      let first = first_spot v.tiers.level v.tiers.sizes (spots v.tiers) element sits.inner block sits.in_element in
      let lie = along.cells_are element (spot_of first.0 sits.inner) first.1 first.2 sits.part sits.is_part in
      record {
        part = sits.part;
        is_part = sits.is_part;
        inner = sits.inner + k;
        in_element =
            later_spot v.tiers.level v.tiers.sizes (spots v.tiers) element sits.inner block k
            (λ other at. along.spots_are k (spot_of other sits.inner) below at) sits.in_element;
        on_position =
            let shape = (known.are_parts element sits.part sits.is_part).shape_is in
            on_holds sits.part.shape shape position (sector + k) (sits.inner + k)
            (lie.cells_lie k position below ∙ ap (option_map (λ x. x + k)) (holds_on sits.part.shape shape position sector sits.inner sits.on_position));
      }

  -- neighbours of one strip hold neighbouring blocks
  pub blocks_lie : (element position sector : ℕ) → block_at v element position sector ≡ Some block → (k : ℕ) → k < count → block_at v element position (sector + k) ≡ Some (block + k)
  blocks_lie element position sector at k below =
      sits_block_at v known element position (sector + k) (block + k) (sits_along element position sector (block_at_sits v known element position sector block at) k below)

module _ (v : Volume) (block count : ℕ) (along : LieAlong v block count) where
  -- ---- the cells of blocks on a position

  by_sector : (part : Part) (position k : ℕ) (found : Option ℕ)
      → option_and_then (site_at part.places position) (option_map (λ x. x + k) found) ≡ option_map (further k) (option_and_then (site_at part.places position) found)
  by_sector part position k None = refl
  by_sector part position k (Some x) = site_further part.places position x k

  of_part : (found : Option Part) (position inner k : ℕ) → k < count → ((part : Part) → found ≡ Some part → CellsLieAlong part.shape inner count)
      → cell_of found position (inner + k) ≡ option_map (further k) (cell_of found position inner)
  of_part None position inner k below lie = refl
  of_part (Some part) position inner k below lie =
      ap (option_and_then (site_at part.places position)) (lie part refl k position below) ∙ by_sector part position k (sector_on part.shape position inner)

  of_spot : (element position k : ℕ) → k < count → (spot : Spot) → slice_get (spots v.tiers) block ≡ Some spot → (like : Bool) → (is_in_every v.tiers.level || (spot.element == element)) ≡ like
      → (if like then cell_of (slice_get v.parts element) position (spot.block + k) else None) ≡ option_map (further k) (if like then cell_of (slice_get v.parts element) position spot.block else None)
  of_spot element position k below spot at false like = refl
  of_spot element position k below spot at true like =
      of_part (slice_get v.parts element) position spot.block k below
      (λ part is. (along.cells_are element spot at like part is).cells_lie)

  abbrev by_spot : (element position : ℕ) → Option Spot → Option Site
  by_spot element position found = elim found [
    | None ↦ None
    | Some spot ↦
        if is_in_every v.tiers.level || spot.element == element then cell_of (slice_get v.parts element) position spot.block
        else None
  ]

  of_block : (element position k : ℕ) → k < count → (found : Option Spot) → slice_get (spots v.tiers) block ≡ found → block < capacity v → cell_on v element position (block + k) ≡ option_map (further k) (cell_on v element position block)
  of_block element position k below None at inside = absurd (none_below (spots v.tiers) block inside at)
    where
      none_below : (items : List Spot) (n : ℕ) → n < length items → slice_get items n ≡ None → ⊥
      none_below items n below none = let there = slice_get-get_or items n (spot_of 0 0) below in impossible (sym none ∙ there)
        where
          impossible : {x : Spot} → None ≡ Some x → ⊥
          impossible e = cc
  of_block element position k below (Some spot) at inside =
      ap (by_spot element position) (along.spots_are k spot below at)
      ∙ of_spot element position k below spot at (is_in_every v.tiers.level || (spot.element == element)) refl
      ∙ ap (λ (found : Option Spot). option_map (further k) (by_spot element position found)) (sym at)

  -- they lie side by side, or none of them is there
  pub cells_lie : block < capacity v → (element position k : ℕ) → k < count → cell_on v element position (block + k) ≡ option_map (further k) (cell_on v element position block)
  cells_lie inside element position k below = of_block element position k below (slice_get (spots v.tiers) block) refl inside

  pub run_lies : block < capacity v → (element position : ℕ) (first : Site) → cell_on v element position block ≡ Some first → (k : ℕ) → k < count → cell_on v element position (block + k) ≡ Some (site_on first.slot (first.lba + k))
  run_lies inside element position first at k below = cells_lie inside element position k below ∙ ap (option_map (further k)) at

  pub none_lie : block < capacity v → (element position : ℕ) → cell_on v element position block ≡ None → (k : ℕ) → k < count → cell_on v element position (block + k) ≡ None
  none_lie inside element position at k below = cells_lie inside element position k below ∙ ap (option_map (further k)) at

-- and in one strip more
pub run_more : (v : Volume) (element position start count more : ℕ) (first : Site)
    → ((k : ℕ) → k < count → cell_on v element position (start + k) ≡ Some (site_on first.slot (first.lba + k)))
    → ((k : ℕ) → k < more → cell_on v element position (start + count + k) ≡ Some (site_on first.slot (first.lba + count + k)))
    → (k : ℕ) → k < count + more → cell_on v element position (start + k) ≡ Some (site_on first.slot (first.lba + k))
run_more v element position start count more first follow next k below =
    ⊎_elim
    (λ (earlier : k < count). follow k earlier)
    (λ (later : count ≤ k).
    let block : start + count + (k - count) ≡ start + k = omega arith in
    let lba : first.lba + count + (k - count) ≡ first.lba + k = omega arith in
    ap (cell_on v element position) (sym block) ∙ next (k - count) (omega (arith, below, later)) ∙ ap (λ n. Some (site_on first.slot n)) lba)
    (cases_lt k count)
