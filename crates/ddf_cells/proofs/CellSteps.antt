-- Reads of neighbouring cells, piece by piece.
use Rattle.std.proofs.Common.{◌≡◌, ◌∙◌, ℕ, ◌+◌, ◌<◌, ◌≤◌, Bool, List, [], ◌∷◌, ◌++◌, true, false, length, Some, None, ap, subst, sym, arith, take, slice_get}
use Rattle.std.specs.Prelude.{if◌then◌else◌, slice_index_or}
use Rattle.std.proofs.lemmas.List.{get_or_append_left}
use Rattle.ddf_bay.specs.Sectors.{Image}
use Rattle.ddf_array.specs.declared.part.Part.{Part}
use Rattle.ddf_array.specs.Sources.{Source, sources}
use Rattle.ddf_array.specs.Volume.{Volume}
use Rattle.ddf_array.specs.Rows.{block_at, cell_value, data_positions, row_sum}
use Rattle.ddf_read.specs.Given.{NoneLeftIn}
use Rattle.ddf_read.specs.Reading.{NoneLeft}
use Rattle.ddf_read.proofs.Tries.{NotRead-wider, Within}
use Rattle.ddf_cells.specs.CellSources.{AreCellsAt, NoneLeftAmong, NoneLeftFor, cell_sources, is_parity, wanted}
use Rattle.ddf_cells.specs.RowSums.{NoneLeftForSum}
use Rattle.ddf_cells.specs.Without.{own_sources, AreGivenWithout, IsGivenWithout, NoneLeftWithout}
use Rattle.ddf_cells.proofs.Piecewise.{piece_more}

-- ---- the sources of a cell

module _ (v : Volume) (element : ℕ) (part : Part) (position sector : ℕ) where
  pub sources_held : (block : ℕ) → block_at v element position sector ≡ Some block → cell_sources v element part sector position ≡ sources v block
  sources_held block at = ap (λ found. elim found [ None ↦ own_sources v.marked part position sector | Some block ↦ sources v block ]) at

  pub sources_empty : block_at v element position sector ≡ None → cell_sources v element part sector position ≡ own_sources v.marked part position sector
  sources_empty at = ap (λ found. elim found [ None ↦ own_sources v.marked part position sector | Some block ↦ sources v block ]) at

-- no source is left of a block that one of the cells holds, or of a cell without one
module _ (failed : ℕ → Type 0) (v : Volume) (element : ℕ) (part : Part) (position sector slot total : ℕ) where
  pub left_held : (block count : ℕ) → count ≤ total → ((k : ℕ) → k < count → block_at v element position (sector + k) ≡ Some (block + k)) → NoneLeftIn failed v block count slot
      → NoneLeftAmong failed v element part sector total position slot
  left_held block count within follow left = record {
    cell = left.block;
    is_in = omega (arith, left.is_in, within);
    none_left =
        subst (λ (all : List Source). NoneLeft failed all slot) (sym (sources_held v element part position (sector + left.block) (block + left.block) (follow left.block left.is_in))) left.none_left;
  }

  pub left_empty : (count : ℕ) → count ≤ total → ((k : ℕ) → k < count → block_at v element position (sector + k) ≡ None) → NoneLeftWithout failed v.marked part position sector count slot
      → NoneLeftAmong failed v element part sector total position slot
  left_empty count within empty left = record {
    cell = left.cell;
    is_in = omega (arith, left.is_in, within);
    none_left = subst (λ (all : List Source). NoneLeft failed all slot) (sym (sources_empty v element part position (sector + left.cell) (empty left.cell left.is_in))) left.none_left;
  }

-- of a part that is looked up
module _ (failed : ℕ → Type 0) (marked : Bool) (one part : Part) (same : one ≡ part) (position sector count : ℕ) where
  pub given_kept : (image : Image) (new rest : List (List ℕ)) (long : ℕ) → count ≤ length new → count ≤ long → AreGivenWithout failed image marked one position sector new long
      → (k : ℕ) → k < count → IsGivenWithout failed image (own_sources marked part position (sector + k)) (slice_index_or (new ++ rest) k [])
  given_kept image new rest long inside within given k below =
      subst (λ bytes. IsGivenWithout failed image (own_sources marked part position (sector + k)) bytes) (sym (get_or_append_left new rest [] k (omega arith)))
      (subst (λ (p : Part). IsGivenWithout failed image (own_sources marked p position (sector + k)) (slice_index_or new k [])) same (given k (omega arith)))

  pub left_kept : (slot long : ℕ) → long ≡ count → NoneLeftWithout failed marked one position sector long slot → NoneLeftWithout failed marked part position sector count slot
  left_kept slot long is left =
      subst (λ (p : Part). NoneLeftWithout failed marked p position sector count slot) same (subst (λ n. NoneLeftWithout failed marked one position sector n slot) is left)

pub left_wider : {P Q : ℕ → Type 0} → Within P Q → (v : Volume) (element : ℕ) (part : Part) (sector at count total position slot : ℕ) → at + count ≤ total
    → NoneLeftAmong P v element part (sector + at) count position slot → NoneLeftAmong Q v element part sector total position slot
left_wider {Q = Q} within v element part sector at count total position slot inside left =
    let same : sector + at + left.cell ≡ sector + (at + left.cell) = omega arith in
    record {
      cell = at + left.cell;
      is_in = omega (arith, inside, left.is_in);
      none_left =
          subst (λ (n : ℕ). NoneLeft Q (cell_sources v element part n position) slot) same
          (NotRead-wider within (cell_sources v element part (sector + at + left.cell) position) (Some slot) left.none_left);
    }

module _ (v : Volume) (image : Image) (element position sector : ℕ) where
  pub cells_more : (out piece rest : List (List ℕ)) (at count : ℕ) → at ≤ length out → count ≤ length piece → AreCellsAt v image element sector position out at
      → AreCellsAt v image element (sector + at) position piece count → AreCellsAt v image element sector position (take at out ++ (piece ++ rest)) (at + count)
  cells_more out piece rest at count inside long so_far here part part_at =
      piece_more (λ k bytes. bytes ≡ cell_value v image element part (sector + k) position) out piece rest at count inside long (so_far part part_at)
      (λ k below. let same : sector + at + k ≡ sector + (at + k) = omega arith in here part part_at k below ∙ ap (λ n. cell_value v image element part n position) same)

-- so for the sum of a row, and for what a position should hold
pub left_of_sum : {P Q : ℕ → Type 0} → Within P Q → (v : Volume) (element : ℕ) (part : Part) (sector count position number other slot : ℕ)
    → ((k : ℕ) → k < count → (n : ℕ) × (slice_get (data_positions part.shape (sector + k)) n ≡ Some other)) → NoneLeftAmong P v element part sector count other slot
    → NoneLeftForSum Q v element part sector count slot
left_of_sum {Q = Q} within v element part sector count position number other slot is_data left =
    let at = is_data left.cell left.is_in in
    record {
      cell = left.cell;
      is_in = left.is_in;
      number = at.0;
      other = other;
      is_data = at.1;
      none_left = NotRead-wider within (cell_sources v element part (sector + left.cell) other) (Some slot) left.none_left;
    }

module _ (failed : ℕ → Type 0) (v : Volume) (element : ℕ) (part : Part) (sector count position slot : ℕ) where
  pub left_wanted_sum : ((k : ℕ) → k < count → is_parity part position (sector + k) ≡ true) → NoneLeftForSum failed v element part sector count slot
      → NoneLeftFor failed v element part sector count position slot
  left_wanted_sum parity left = record {
    cell = left.cell;
    is_in = left.is_in;
    number = left.number;
    other = left.other;
    is_needed =
        ap (λ b. slice_get (if b then data_positions part.shape (sector + left.cell) else position ∷ []) left.number) (parity left.cell left.is_in) ∙ left.is_data;
    none_left = left.none_left;
  }

  pub left_wanted_cell : ((k : ℕ) → k < count → is_parity part position (sector + k) ≡ false) → NoneLeftAmong failed v element part sector count position slot
      → NoneLeftFor failed v element part sector count position slot
  left_wanted_cell parity left = record {
    cell = left.cell;
    is_in = left.is_in;
    number = 0;
    other = position;
    is_needed = ap (λ b. slice_get (if b then data_positions part.shape (sector + left.cell) else position ∷ []) 0) (parity left.cell left.is_in);
    none_left = left.none_left;
  }

-- what is wanted, by what the position holds
module _ (v : Volume) (image : Image) (element : ℕ) (part : Part) (sector position : ℕ) where
  pub wanted_sum : is_parity part position sector ≡ true → row_sum v image element part sector ≡ wanted v image element part sector position
  wanted_sum is = sym (ap (λ b. if b then row_sum v image element part sector else cell_value v image element part sector position) is)

  pub wanted_cell : is_parity part position sector ≡ false → cell_value v image element part sector position ≡ wanted v image element part sector position
  wanted_cell is = sym (ap (λ b. if b then row_sum v image element part sector else cell_value v image element part sector position) is)
