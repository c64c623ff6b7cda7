-- Cells that the other cells of their rows give.
use Rattle.std.proofs.Common.{◌≡◌, ◌∙◌, ℕ, ◌+◌, ◌-◌, ◌<◌, ◌≤◌, List, [], true, false, Option, Some, None, slice_get, refl, ap, arith}
use Rattle.std.specs.Prelude.{filter_map, is_some, option_map, option_to_list, MatchOption, if◌then◌else◌}
use Rattle.std.specs.List.{range_with_len, flat_map, cons_option}
use Rattle.ddf_primary.specs.Levels.{IsShape}
use Rattle.ddf_primary.specs.Cells.{cells}
use Rattle.ddf_primary.specs.Copies.{sector_on}
use Rattle.ddf_primary.proofs.Copies.{holds_on, on_holds}
use Rattle.ddf_primary.proofs.Needs.{parity_alone}
use Rattle.ddf_primary.proofs.ShapeFacts.{cell_facts, depth_le}
use Rattle.ddf_array.specs.declared.part.Part.{Part}
use Rattle.ddf_array.specs.declared.site.Site.{Site}
use Rattle.ddf_array.specs.Levels.{keeps_parity}
use Rattle.ddf_array.specs.Cells.{element_cells}
use Rattle.ddf_array.specs.Sources.{row_without, element_rows}
use Rattle.ddf_array.specs.Volume.{Volume, IsPart}
use Rattle.ddf_array.proofs.ElementCells.{cells_one}
use Rattle.ddf_array.proofs.Firsts.{none_more, first_found}
use Rattle.ddf_read.specs.declared.missing.MissingCell.{MissingCell}
use Rattle.ddf_read.specs.Along.{IsAlong}
use Rattle.ddf_read.specs.Missing.{IsMissing, IsMissingAt}

only_one : {X : Type 0} (o : Option X) → slice_get (cons_option o []) 0 ≡ o
only_one None = refl
only_one (Some x) = refl

module _ (part : Part) (block member sector : ℕ) (there : slice_get (cells part.shape) block ≡ Some (member, sector)) where
  -- the one row of a block
  first_row : IsShape part.shape → keeps_parity part.shape.layout ≡ true → slice_get (element_rows part block) 0 ≡ row_without part.places member sector
  first_row known parity =
      ap (λ b. slice_get (if b then filter_map (λ (cell : ℕ × ℕ). row_without part.places cell.0 cell.1) (element_cells part.shape block) else []) 0) parity
      ∙ ap (λ l. slice_get (filter_map (λ (cell : ℕ × ℕ). row_without part.places cell.0 cell.1) l) 0) (cells_one part block member sector there known (parity_alone part.shape.layout parity))
      ∙ only_one (row_without part.places member sector)

  pub no_row : IsShape part.shape → keeps_parity part.shape.layout ≡ true → is_some (row_without part.places member sector) ≡ false → slice_get (element_rows part block) 0 ≡ None
  no_row known parity none = first_row known parity ∙ is_none (row_without part.places member sector) none
    where
      is_none : {X : Type 0} (o : Option X) → is_some o ≡ false → o ≡ None
      is_none None e = refl
      is_none (Some x) e = absurd (cc)

  pub row_alone : IsShape part.shape → keeps_parity part.shape.layout ≡ true → element_rows part block ≡ option_to_list (row_without part.places member sector)
  row_alone known parity =
      ap (λ b. if b then filter_map (λ (cell : ℕ × ℕ). row_without part.places cell.0 cell.1) (element_cells part.shape block) else []) parity
      ∙ ap (filter_map (λ (cell : ℕ × ℕ). row_without part.places cell.0 cell.1)) (cells_one part block member sector there known (parity_alone part.shape.layout parity))
      ∙ as_list (row_without part.places member sector)
    where
      as_list : {X : Type 0} (o : Option X) → cons_option o [] ≡ option_to_list o
      as_list None = refl
      as_list (Some x) = refl

  -- the sectors that are left are in the element
  room_left : IsPart part → (count : ℕ) → 0 < count → IsAlong part block count → sector + count ≤ part.shape.blocks
  room_left known count some along =
      let facts = cell_facts part.shape known.shape_is in
      let own = holds_on part.shape known.shape_is member sector block (facts.named member sector block there) in
      let last : sector_on part.shape member (block + (count - 1)) ≡ Some (sector + (count - 1)) =
      along.cells_lie (count - 1) member (omega (arith, some)) ∙ ap (option_map (λ s. s + (count - 1))) own in
      omega (
        arith,
        some,
        facts.sector_within member (sector + (count - 1)) (block + (count - 1)) (on_holds part.shape known.shape_is member (sector + (count - 1)) (block + (count - 1)) last),
        depth_le part.shape.layout part.shape.strip part.shape.blocks,
      )

  missing_by : IsPart part → (missing : MissingCell) (found : Option (List Site)) → row_without part.places missing.position missing.sector ≡ found → is_some found ≡ true
      → slice_get (element_rows part block) 0 ≡ found → 0 < missing.left → missing.sector + missing.left ≤ part.shape.blocks → IsMissing part (slice_get (element_rows part block) 0) missing
  missing_by known missing None gives there first some room = absurd (cc)
  missing_by known missing (Some sites) gives there first some room = record { sites = sites; row_is = first; gives = gives; some = some; room = room }

  pub is_missing : IsPart part → keeps_parity part.shape.layout ≡ true → is_some (row_without part.places member sector) ≡ true → (missing : MissingCell) → missing.position ≡ member → missing.sector ≡ sector
      → 0 < missing.left → IsAlong part block missing.left → IsMissing part (slice_get (element_rows part block) 0) missing
  is_missing known parity has missing on at some along =
      missing_by known missing (row_without part.places member sector)
      (ap (λ p. row_without part.places p missing.sector) on ∙ ap (row_without part.places member) at) has (first_row known.shape_is parity) some
      (omega (arith, at, room_left known missing.left some along))

-- ---- element by element

module _ (v : Volume) (each : ℕ → List (List Site)) (k : ℕ) (none : flat_map each (range_with_len 0 k) ≡ []) where
  pub missing_found : (n : ℕ) → k < n → (found : Option MissingCell) → is_some found ≡ true
      → MatchOption found (slice_get (each k) 0 ≡ None) (IsMissingAt v (slice_get (each k) 0))
      → MatchOption found (slice_get (flat_map each (range_with_len 0 n)) 0 ≡ None) (IsMissingAt v (slice_get (flat_map each (range_with_len 0 n)) 0))
  missing_found n below None is missing = absurd (cc)
  missing_found n below (Some one) is missing =
      let mine = missing.is_missing in
      let first = first_found each n k mine.sites none below mine.row_is in
      record { part = missing.part; is_there = missing.is_there; is_missing = record { sites = mine.sites; row_is = first; gives = mine.gives; some = mine.some; room = mine.room } }

  none_here : (found : Option MissingCell) → is_some found ≡ false → MatchOption found (slice_get (each k) 0 ≡ None) (IsMissingAt v (slice_get (each k) 0)) → slice_get (each k) 0 ≡ None
  none_here None is cell = cell
  none_here (Some one) is cell = absurd (cc)

  pub missing_more : (found : Option MissingCell) → is_some found ≡ false → MatchOption found (slice_get (each k) 0 ≡ None) (IsMissingAt v (slice_get (each k) 0)) → flat_map each (range_with_len 0 (k + 1)) ≡ []
  missing_more found is cell = none_more each k none (none_here found is cell)
