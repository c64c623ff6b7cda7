-- Items of the cells of whole rows: from a block to its cell, and back.
use Rattle.std.proofs.Common.{◌≡◌, ℕ, ◌+◌, ◌*◌, ◌/◌, ◌%◌, ◌<◌, ◌↔◌, List, length, get_or, Some, slice_get, refl, sym, ap, ◌∙◌, zero-add, arith}
use Rattle.std.specs.List.{range_with_len, flat_map}
use Rattle.std.specs.Option.{option_map}
use Rattle.std.proofs.lemmas.List.{length-map}
use Rattle.std.proofs.lemmas.List.FromFn.{length-range_with_len}
use Rattle.std.proofs.lemmas.Nat.{mul-add-lt, div-mul-add, mod-mul-add, div-add-mod', div_below, mod_below}
use Rattle.std.proofs.lemmas.Option.{slice_get-map, slice_get_within, slice_get-get_or, some_pair_parts}
use Rattle.ddf_lemmas.proofs.Lists.{slice_get-range}
use Rattle.ddf_lemmas.proofs.Tests.{factor_pos, place_in_strips}
use Rattle.ddf_primary.specs.Cells.{sectors, strip_cells, row_cells, striped_cells}
use Rattle.ddf_primary.proofs.Lists.{length-pieces, slice_get-pieces}
use Rattle.ddf_primary.proofs.Divide.{offset_within, number_within, row_within}

pub length-sectors : (first count member : ℕ) → length (sectors first count member) ≡ count
length-sectors first count member =
    let at : ℕ → ℕ × ℕ = λ sector. (member, sector) in
    length-map (range_with_len first count) at ∙ length-range_with_len first count

pub slice_get-sectors : (first count member i : ℕ) → i < count → slice_get (sectors first count member) i ≡ Some (member, first + i)
slice_get-sectors first count member i below =
    let at : ℕ → ℕ × ℕ = λ sector. (member, sector) in
    slice_get-map at (range_with_len first count) i ∙ ap (option_map at) (slice_get-range first count i below)

module _ (data_members : ℕ → List ℕ) (columns : ℕ) (even : (row : ℕ) → length (data_members row) ≡ columns) where
  pub length-row : (strip row : ℕ) → length (row_cells data_members strip row) ≡ columns * strip
  length-row strip row =
      length-pieces (strip_cells strip row) strip (λ m. length-sectors (row * strip) strip m) (data_members row)
      ∙ ap (λ n. n * strip) (even row)

  pub length-striped : (strip rows : ℕ) → length (striped_cells data_members strip rows) ≡ rows * (columns * strip)
  unfolding striped_cells
  length-striped strip rows =
      length-pieces (row_cells data_members strip) (columns * strip) (length-row strip) (range_with_len 0 rows)
      ∙ ap (λ n. n * (columns * strip)) (length-range_with_len 0 rows)

  pub striped_at : (strip rows row number offset member : ℕ) → slice_get (data_members row) number ≡ Some member → offset < strip → row < rows → slice_get (striped_cells data_members strip rows) ((row * columns + number) * strip + offset) ≡ Some (member, row * strip + offset)
  unfolding striped_cells
  striped_at strip rows row number offset member at near within =
      let known : number < columns = omega (arith, slice_get_within (data_members row) number member at, even row) in
      let place : (row * columns + number) * strip + offset ≡ row * (columns * strip) + (number * strip + offset) = omega arith in
      let inside : number * strip + offset < columns * strip = omega (arith, mul-add-lt number strip offset columns known near) in
      ap (slice_get (flat_map (row_cells data_members strip) (range_with_len 0 rows))) place
      ∙ slice_get-pieces (row_cells data_members strip) (columns * strip) (length-row strip) (range_with_len 0 rows) row (number * strip + offset) row (slice_get-range 0 rows row within ∙ ap Some (zero-add row)) inside
      ∙ slice_get-pieces (strip_cells strip row) strip (λ m. length-sectors (row * strip) strip m) (data_members row) number offset member at near
      ∙ slice_get-sectors (row * strip) strip member offset near

  pub striped_place : (strip rows block member : ℕ) → block < rows * (columns * strip) → slice_get (data_members (block / strip / columns)) (block / strip % columns) ≡ Some member → slice_get (striped_cells data_members strip rows) block ≡ Some (member, block / strip / columns * strip + block % strip)
  striped_place strip rows block member below at =
      ap (slice_get (striped_cells data_members strip rows)) (place_in_strips block strip columns)
      ∙ striped_at strip rows (block / strip / columns) (block / strip % columns) (block % strip) member at
      (offset_within block strip columns rows below) (row_within block strip columns rows below)

  -- where the cell of a block is, and which block a cell has
  pub record StripOf (strip rows block member sector : ℕ) : Type 0 where
    pub some : 0 < strip
    pub within : sector / strip < rows
    pub number_at : slice_get (data_members (sector / strip)) (block / strip % columns) ≡ Some member
    pub block_is : block ≡ (sector / strip * columns + block / strip % columns) * strip + sector % strip

  pub striped_inverse : (strip rows block member sector : ℕ) → slice_get (striped_cells data_members strip rows) block ≡ Some (member, sector) → StripOf strip rows block member sector
  striped_inverse strip rows block member sector at =
      let below : block < rows * (columns * strip) = omega (arith, slice_get_within (striped_cells data_members strip rows) block (member, sector) at, length-striped strip rows) in
      let row = block / strip / columns in
      let number = block / strip % columns in
      let near = offset_within block strip columns rows below in
      let known : number < length (data_members row) = omega (arith, even row, number_within block strip columns rows below) in
      let read = slice_get-get_or (data_members row) number 0 known in
      let placed = striped_place strip rows block (get_or (data_members row) number 0) below read in
      let parts = some_pair_parts (get_or (data_members row) number 0) member (row * strip + block % strip) sector (sym placed ∙ at) in
      let row_is : sector / strip ≡ row = ap (λ x. x / strip) (sym parts.1) ∙ div-mul-add row strip (block % strip) near in
      let offset_is : sector % strip ≡ block % strip = ap (λ x. x % strip) (sym parts.1) ∙ mod-mul-add row strip (block % strip) near in
      record {
        some = omega arith;
        within = rw row_is (row_within block strip columns rows below);
        number_at = rw row_is (read ∙ ap Some parts.0);
        block_is = rw (row_is, offset_is) (place_in_strips block strip columns);
      }

  -- the one block of a cell whose strip has this number
  pub striped_block : (strip rows member sector number block : ℕ) → slice_get (data_members (sector / strip)) number ≡ Some member → ((i : ℕ) → slice_get (data_members (sector / strip)) i ≡ Some member → i ≡ number) → sector < rows * strip → (block ≡ (sector / strip * columns + number) * strip + sector % strip) ↔ (slice_get (striped_cells data_members strip rows) block ≡ Some (member, sector))
  striped_block strip rows member sector number block at only below =
      let some : 0 < strip = factor_pos rows strip sector below in
      let placed = striped_at strip rows (sector / strip) number (sector % strip) member at (mod_below sector strip some) (div_below sector strip rows some below) in (
        λ e. rw (e, placed, div-add-mod' sector strip) refl,
        λ there. let inverse = striped_inverse strip rows block member sector there in
            inverse.block_is ∙ ap (λ j. (sector / strip * columns + j) * strip + sector % strip) (only (block / strip % columns) inverse.number_at),
      )

  pub striped_apart : (strip rows member sector a b : ℕ) → ((row i j : ℕ) → slice_get (data_members row) i ≡ Some member → slice_get (data_members row) j ≡ Some member → i ≡ j) → slice_get (striped_cells data_members strip rows) a ≡ Some (member, sector) → slice_get (striped_cells data_members strip rows) b ≡ Some (member, sector) → a ≡ b
  striped_apart strip rows member sector a b apart at_a at_b =
      let in_a = striped_inverse strip rows a member sector at_a in
      let in_b = striped_inverse strip rows b member sector at_b in
      let same = apart (sector / strip) (a / strip % columns) (b / strip % columns) in_a.number_at in_b.number_at in
      in_a.block_is ∙ ap (λ j. (sector / strip * columns + j) * strip + sector % strip) same ∙ sym in_b.block_is

  pub striped_within : (strip rows block member sector : ℕ) → slice_get (striped_cells data_members strip rows) block ≡ Some (member, sector) → sector < rows * strip
  striped_within strip rows block member sector at =
      let inverse = striped_inverse strip rows block member sector at in
      omega (arith, mul-add-lt (sector / strip) strip (sector % strip) rows inverse.within (mod_below sector strip inverse.some), div-add-mod' sector strip)
