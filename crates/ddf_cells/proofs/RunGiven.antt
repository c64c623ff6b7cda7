-- A stretch of blocks on a position, as it is written in one call.
use Rattle.std.proofs.Common.{◌≡◌, ◌∙◌, ℕ, ◌+◌, ◌-◌, ◌<◌, ◌≤◌, List, [], Some, sym, ap, subst, arith, length, take, drop}
use Rattle.std.specs.Prelude.{slice_index, slice_index_or}
use Rattle.std.proofs.lemmas.List.{get_or-take, get_or-drop, length-take-le, length-drop}
use Rattle.ddf_bay.specs.Sectors.{Image, InRun, put_run}
use Rattle.ddf_bay.proofs.Runs.{inside}
use Rattle.ddf_array.specs.declared.site.Site.{Site}
use Rattle.ddf_array.specs.Places.{site_on}
use Rattle.ddf_array.specs.Volume.{Volume, IsVolume, Fits}
use Rattle.ddf_array.specs.Values.{bytes_at}
use Rattle.ddf_cells.specs.CellsOn.{GivesCells, cell_on, cells_on, how_many, stretches_on, IsRunOn}
use Rattle.ddf_cells.specs.Touching.{AreSet, IsTouchedSlot}
use Rattle.ddf_cells.proofs.CopiesOn.{a_copy}
use Rattle.ddf_cells.proofs.OnCells.{on_cell, block_below}
use Rattle.ddf_cells.proofs.RunsOn.{run_cells, run_stretches}
use Rattle.ddf_read.proofs.Sites.{IsThere, site_at_there}

-- the cell of a block lies on its slot
pub cell_there : (sizes : List ℕ) (v : Volume) → IsVolume v → Fits sizes v → (e p block : ℕ) (one : Site) → cell_on v e p block ≡ Some one → IsThere sizes one 1
cell_there sizes v known fits e p block one at =
    let cell = on_cell v known e p block one at in
    let below = block_below v known e p cell.sector block cell.sits in
    site_at_there sizes cell.sits.part p cell.sector 1 one (fits e cell.sits.part cell.sits.is_part) (omega (arith, below)) cell.is_there

module _ (v : Volume) (known : IsVolume v) (e p start at n most : ℕ) (first : Site) (run : IsRunOn v e p first (start + at) n most) where
  cell_of_run : (k : ℕ) → k < n → cell_on v e p (start + (at + k)) ≡ Some (site_on first.slot (first.lba + k))
  cell_of_run k below = let same : start + (at + k) ≡ start + at + k = omega arith in ap (cell_on v e p) same ∙ run.follow k below

  pub run_slot : (sizes : List ℕ) → Fits sizes v → first.slot < length sizes
  run_slot sizes fits = (cell_there sizes v known fits e p (start + (at + 0)) (site_on first.slot (first.lba + 0)) (cell_of_run 0 run.some)).slot_is

  pub run_end : (sizes : List ℕ) → Fits sizes v → first.lba + n ≤ slice_index sizes first.slot
  run_end sizes fits =
      let last = n - 1 in
      let there = cell_there sizes v known fits e p (start + (at + last)) (site_on first.slot (first.lba + last)) (cell_of_run last (omega (arith, run.some))) in
      omega (arith, there.lba_is, run.some)

  module _ (sectors : List (List ℕ)) (inside_is : at + n ≤ length sectors) where
    abbrev piece : List (List ℕ)
    piece = take (at + n - at) (drop at sectors)

    pub piece_long : length piece ≡ n
    piece_long = let many : at + n - at ≡ n = omega arith in length-take-le (at + n - at) (drop at sectors) (omega (arith, length-drop at sectors, inside_is)) ∙ many

    pub piece_some : 0 < length piece
    piece_some = omega (arith, piece_long, run.some)

    in_piece : (k : ℕ) → k < n → slice_index_or piece k [] ≡ slice_index_or sectors (at + k) []
    in_piece k below = get_or-take (at + n - at) (drop at sectors) k [] (omega (arith, below)) ∙ get_or-drop at sectors k []

    -- its bytes are those of the blocks
    pub run_gives : (l : ℕ) (bytes : List ℕ) → InRun first.lba piece l bytes → GivesCells v start sectors first.slot l bytes
    run_gives l bytes there =
        let k = l - first.lba in
        let below : k < n = omega (arith, there.from, there.below, piece_long) in
        let here : first.lba + k ≡ l = omega (arith, there.from) in
        let cell : cell_on v e p (start + (at + k)) ≡ Some (site_on first.slot l) = cell_of_run k below ∙ ap (λ m. Some (site_on first.slot m)) here in
        let copy = a_copy v known (start + (at + k)) e p (site_on first.slot l) cell in
        (record { k = at + k; below = omega (arith, below, inside_is); i = copy.0; is_cell = copy.1 }, there.are ∙ in_piece k below)

    -- once it is written they are set
    pub run_set : (old new : Image) (touched : _) → new ≡ put_run old first.slot first.lba piece → IsTouchedSlot touched first.slot
        → AreSet v e p start at (at + n) sectors new touched
    run_set old new touched written here k one from to cell =
        let j = k - at in
        let below : j < n = omega (arith, from, to) in
        let k_is : at + j ≡ k = omega (arith, from) in
        let same : site_on first.slot (first.lba + j) ≡ one = some_is (sym (cell_of_run j below) ∙ ap (λ m. cell_on v e p (start + m)) k_is ∙ cell) in
        let lba_is : first.lba + j - first.lba ≡ j = omega arith in
        let value : new first.slot (first.lba + j) ≡ slice_index_or sectors k [] =
        ap (λ (f : Image). f first.slot (first.lba + j)) written
        ∙ inside old first.slot first.lba piece (first.lba + j) (omega arith) (omega (arith, below, piece_long))
        ∙ ap (λ m. slice_index_or piece m []) lba_is ∙ in_piece j below ∙ ap (λ m. slice_index_or sectors m []) k_is in
        subst (λ (o : Site). (bytes_at new o ≡ slice_index_or sectors k []) × IsTouchedSlot touched o.slot) same (value, here)
      where
        some_is : {X : Type 0} {a b : X} → Some a ≡ Some b → a ≡ b
        some_is e = cc

  -- how much is left behind it
  pub left_cells : how_many (cells_on v e p (start + at) most) ≡ n + how_many (cells_on v e p (start + (at + n)) (most - n))
  left_cells =
      let same : start + at + n ≡ start + (at + n) = omega arith in
      run_cells v e p first.slot first.lba n (start + at) most run.within run.follow ∙ ap (λ b. n + how_many (cells_on v e p b (most - n))) same

  pub left_stretches : stretches_on (cells_on v e p (start + at) most) ≡ 1 + stretches_on (cells_on v e p (start + (at + n)) (most - n))
  left_stretches =
      let same : start + at + n ≡ start + (at + n) = omega arith in
      run_stretches v e p first n (start + at) most run ∙ ap (λ b. 1 + stretches_on (cells_on v e p b (most - n))) same
