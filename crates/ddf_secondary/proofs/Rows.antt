-- Spots row by row: from a block to its spot, and back.
use Rattle.std.proofs.Common.{◌≡◌, ℕ, zero, suc, ◌+◌, ◌*◌, ◌/◌, ◌%◌, ◌<◌, ◌≤◌, ◌↔◌, List, [], ◌∷◌, length, take, Some, slice_get, refl, sym, ap, ◌∙◌, zero-add, arith, length-append}
use Rattle.std.specs.List.{range_with_len, flat_map}
use Rattle.std.proofs.lemmas.List.{length-take-le}
use Rattle.std.proofs.lemmas.List.FromFn.{length-range_with_len}
use Rattle.std.proofs.lemmas.Nat.{mul-add-lt, div-mul-add, mod-mul-add, div-add-mod', mod_below}
use Rattle.std.proofs.lemmas.Option.{slice_get_within, same_Some}
use Rattle.ddf_lemmas.proofs.Lists.{slice_get-range}
use Rattle.ddf_secondary.specs.declared.spot.Spot.{Spot}
use Rattle.ddf_secondary.specs.Spots.{row_blocks, by_rows}
use Rattle.ddf_secondary.proofs.Lists.{length-pieces, slice_get-pieces}
use Rattle.ddf_secondary.proofs.Blocks.{length-blocks, slice_get-blocks, blocks_inverse}
use Rattle.ddf_secondary.proofs.Pieces.{piece_at, piece_inverse}

pub take-range : (a n k : ℕ) → k ≤ n → take k (range_with_len a n) ≡ range_with_len a k
take-range a n zero below = refl
take-range a zero (suc k) below = absurd (omega arith)
take-range a (suc n) (suc k) below = ap (λ rest. a ∷ rest) (take-range (a + 1) n k (omega arith))

pub in_range : (n i x : ℕ) → slice_get (range_with_len 0 n) i ≡ Some x → (i < n) × (x ≡ i)
in_range n i x there =
    let below : i < n = omega (arith, slice_get_within (range_with_len 0 n) i x there, length-range_with_len 0 n) in
    (below, omega (arith, same_Some (0 + i) x (sym (slice_get-range 0 n i below) ∙ there)))

-- the spots of a row, and the units of the rows before it
abbrev pub row_spots : (ℕ → List ℕ) → ℕ → ℕ → List Spot
row_spots elements unit row = flat_map (row_blocks unit row) (elements row)

abbrev pub units_to : (ℕ → List ℕ) → ℕ → ℕ
units_to elements row = length (flat_map elements (range_with_len 0 row))

module _ (elements : ℕ → List ℕ) (unit : ℕ) where
  length-row : (row : ℕ) → length (row_spots elements unit row) ≡ length (elements row) * unit
  length-row row = length-pieces (row_blocks unit row) unit (length-blocks (row * unit) unit) (elements row)

  length-rows : (rows : List ℕ) → length (flat_map (row_spots elements unit) rows) ≡ length (flat_map elements rows) * unit
  length-rows [] = omega arith
  length-rows (row ∷ rows) =
      let both : length (row_spots elements unit row) + length (flat_map (row_spots elements unit) rows) ≡ (length (elements row) + length (flat_map elements rows)) * unit = omega (arith, length-row row, length-rows rows) in
      length-append (row_spots elements unit row) (flat_map (row_spots elements unit) rows)
      ∙ both ∙ ap (λ n. n * unit) (sym (length-append (elements row) (flat_map elements rows)))

  pub length-by_rows : (rows : ℕ) → length (by_rows elements unit rows) ≡ units_to elements rows * unit
  unfolding by_rows
  length-by_rows rows = length-rows (range_with_len 0 rows)

  ahead : (rows row : ℕ) → row ≤ rows → length (flat_map (row_spots elements unit) (take row (range_with_len 0 rows))) ≡ units_to elements row * unit
  ahead rows row within =
      ap (λ l. length (flat_map (row_spots elements unit) l)) (take-range 0 rows row within) ∙ length-rows (range_with_len 0 row)

  in_row : (row place element offset : ℕ) → slice_get (elements row) place ≡ Some element → offset < unit → slice_get (row_spots elements unit row) (place * unit + offset) ≡ Some (record { element = element; block = row * unit + offset })
  in_row row place element offset there near =
      slice_get-pieces (row_blocks unit row) unit (length-blocks (row * unit) unit) (elements row) place offset element there near
      ∙ slice_get-blocks (row * unit) unit element offset (row * unit + offset) near refl

  pub row_at : (rows row place element offset : ℕ) → slice_get (elements row) place ≡ Some element → offset < unit → row < rows → slice_get (by_rows elements unit rows) ((units_to elements row + place) * unit + offset) ≡ Some (record { element = element; block = row * unit + offset })
  unfolding by_rows
  row_at rows row place element offset there near within =
      let known = slice_get_within (elements row) place element there in
      let inside : place * unit + offset < length (row_spots elements unit row) = omega (arith, length-row row, mul-add-lt place unit offset (length (elements row)) known near) in
      let at_row = piece_at (row_spots elements unit) (range_with_len 0 rows) row (place * unit + offset) row (slice_get-range 0 rows row within ∙ ap Some (zero-add row)) inside in
      let split : (units_to elements row + place) * unit + offset ≡ length (flat_map (row_spots elements unit) (take row (range_with_len 0 rows))) + (place * unit + offset) = omega (arith, ahead rows row (omega arith)) in
      ap (slice_get (flat_map (row_spots elements unit) (range_with_len 0 rows))) split ∙ at_row ∙ in_row row place element offset there near

  -- where the spot of a block is, and which block a spot has
  pub record UnitOf (rows block : ℕ) (spot : Spot) : Type 0 where
    pub some : 0 < unit
    pub within : spot.block / unit < rows
    pub place : ℕ
    pub place_is : slice_get (elements (spot.block / unit)) place ≡ Some spot.element
    pub block_is : block ≡ (units_to elements (spot.block / unit) + place) * unit + spot.block % unit

  record InRow (row offset : ℕ) (spot : Spot) : Type 0 where
    some : 0 < unit
    row_is : spot.block / unit ≡ row
    place : ℕ
    place_is : slice_get (elements row) place ≡ Some spot.element
    offset_is : offset ≡ place * unit + spot.block % unit

  unit_joins : (row offset piece element inner : ℕ) (spot : Spot) → slice_get (elements row) piece ≡ Some element → slice_get (row_blocks unit row element) inner ≡ Some spot → offset ≡ length (flat_map (row_blocks unit row) (take piece (elements row))) + inner → InRow row offset spot
  unit_joins row offset piece element inner spot at_piece at_inner is =
      let own = blocks_inverse (row * unit) unit element inner spot at_inner in
      let known = slice_get_within (elements row) piece element at_piece in
      let pieces = length-pieces (row_blocks unit row) unit (length-blocks (row * unit) unit) (take piece (elements row)) in
      let front : length (take piece (elements row)) ≡ piece = length-take-le piece (elements row) (omega arith) in
      let inner_is : spot.block % unit ≡ inner = ap (λ x. x % unit) own.block_is ∙ mod-mul-add row unit inner own.within in
      record {
        some = omega (arith, own.within);
        row_is = ap (λ x. x / unit) own.block_is ∙ div-mul-add row unit inner own.within;
        place = piece;
        place_is = at_piece ∙ ap Some (sym own.element_is);
        offset_is = rw inner_is (omega (arith, is, rw front at pieces));
      }

  row_joins : (rows block piece row offset : ℕ) (spot : Spot) → slice_get (range_with_len 0 rows) piece ≡ Some row → InRow row offset spot → block ≡ length (flat_map (row_spots elements unit) (take piece (range_with_len 0 rows))) + offset → UnitOf rows block spot
  row_joins rows block piece row offset spot at_piece inside is =
      let known = in_range rows piece row at_piece in
      let before = ahead rows piece (omega (arith, known.0)) in
      record {
        some = inside.some;
        within = omega (arith, inside.row_is, known.0, known.1);
        place = inside.place;
        place_is = rw (inside.row_is) inside.place_is;
        block_is = rw (inside.row_is, known.1) (omega (arith, is, before, inside.offset_is));
      }

  pub row_inverse : (rows block : ℕ) (spot : Spot) → slice_get (by_rows elements unit rows) block ≡ Some spot → UnitOf rows block spot
  unfolding by_rows
  row_inverse rows block spot there =
      let by_row = piece_inverse (row_spots elements unit) (range_with_len 0 rows) block spot there in
      let by_unit = piece_inverse (row_blocks unit by_row.item) (elements by_row.item) by_row.offset spot by_row.offset_is in
      row_joins rows block by_row.piece by_row.item by_row.offset spot by_row.piece_is
      (unit_joins by_row.item by_row.offset by_unit.piece by_unit.item by_unit.offset spot by_unit.piece_is by_unit.offset_is by_unit.place_is)
      by_row.place_is

  -- each spot has one block, where no element takes part in a row twice
  pub row_apart : (rows a b : ℕ) (spot : Spot) → ((row i j element : ℕ) → slice_get (elements row) i ≡ Some element → slice_get (elements row) j ≡ Some element → i ≡ j) → slice_get (by_rows elements unit rows) a ≡ Some spot → slice_get (by_rows elements unit rows) b ≡ Some spot → a ≡ b
  row_apart rows a b spot apart at_a at_b =
      let in_a = row_inverse rows a spot at_a in
      let in_b = row_inverse rows b spot at_b in
      let same = apart (spot.block / unit) in_a.place in_b.place spot.element in_a.place_is in_b.place_is in
      in_a.block_is ∙ ap (λ i. (units_to elements (spot.block / unit) + i) * unit + spot.block % unit) same ∙ sym in_b.block_is

  -- the one block of a spot
  pub row_block : (rows block place : ℕ) (spot : Spot) → ((row i j element : ℕ) → slice_get (elements row) i ≡ Some element → slice_get (elements row) j ≡ Some element → i ≡ j) → slice_get (elements (spot.block / unit)) place ≡ Some spot.element → 0 < unit → spot.block / unit < rows → (block ≡ (units_to elements (spot.block / unit) + place) * unit + spot.block % unit) ↔ (slice_get (by_rows elements unit rows) block ≡ Some spot)
  row_block rows block place spot apart there some within =
      let found : slice_get (by_rows elements unit rows) ((units_to elements (spot.block / unit) + place) * unit + spot.block % unit) ≡ Some spot =
      row_at rows (spot.block / unit) place spot.element (spot.block % unit) there (mod_below spot.block unit some) within
      ∙ rw div-add-mod' refl in
      (λ is. rw is found, λ holds. row_apart rows block ((units_to elements (spot.block / unit) + place) * unit + spot.block % unit) spot apart holds found)
