-- What cells and the sums of rows were read as, piece by piece and position by position.
use Rattle.std.proofs.Common.{◌≡◌, ◌∙◌, inl, inr, ⊎_elim, ℕ, zero, suc, ◌+◌, ◌/◌, ◌<◌, ◌≤◌, Bool, true, false, List, [], ◌∷◌, ◌++◌, Option, Some, None, refl, sym, ap, subst, arith, map, length, take, slice_get}
use Rattle.std.specs.Prelude.{◌==◌, if◌then◌else◌, option_to_list, is_some, slice_index_or, ◌&&◌}
use Rattle.std.specs.Simd.Lanes.{fold_l}
use Rattle.std.proofs.lemmas.Bool.{cases_lt, eq-eqb, eqb-true}
use Rattle.std.proofs.lemmas.List.{map-append}
use Rattle.ddf_lemmas.proofs.Lists.{in_either}
use Rattle.ddf_bay.specs.Sectors.{Image}
use Rattle.ddf_bay.specs.State.{BayState}
use Rattle.ddf_parity.specs.Xor.{xor, xor_all}
use Rattle.ddf_primary.specs.Placement.{Placement}
use Rattle.ddf_primary.specs.Levels.{IsShape}
use Rattle.ddf_primary.specs.Cells.{parity_by, parity_member}
use Rattle.ddf_primary.proofs.Around.{around as placed_around}
use Rattle.ddf_primary.proofs.Needs.{parity_row}
use Rattle.ddf_array.specs.declared.part.Part.{Part}
use Rattle.ddf_array.specs.declared.site.Site.{Site}
use Rattle.ddf_array.specs.Levels.{keeps_parity}
use Rattle.ddf_array.specs.Places.{site_at}
use Rattle.ddf_array.specs.Rows.{block_at, data_by, sources_without_block}
use Rattle.ddf_array.specs.Sources.{Source, copy, row, copies, row_without, rows, sources, trusts_parity}
use Rattle.ddf_array.specs.Volume.{IsVolume, Volume}
use Rattle.ddf_array.proofs.Ranges.{flat-more}
use Rattle.ddf_read.specs.Reading.{Failed, HasSlot, IsGivenBy, OnlyReads}
use Rattle.ddf_read.proofs.OnlyReading.{failed_before, failed_behind}
use Rattle.ddf_read.proofs.Tries.{IsGivenBy-wider, Within}
use Rattle.ddf_cells.specs.Alike.{AreAlike}
use Rattle.ddf_cells.specs.CellSources.{is_parity}
use Rattle.ddf_cells.specs.GivenCells.{AreCellsGiven, IsCellAdded, IsCellGiven, IsSumGiven, IsWantedGiven}
use Rattle.ddf_cells.specs.RowSums.{is_other, others_among}
use Rattle.ddf_cells.specs.Without.{IsGivenWithout, own_sources}
use Rattle.ddf_cells.proofs.Alike.{IsOfCells, cell_site, given_same, of_copy, of_row, row_cells, source_is_cells}
use Rattle.ddf_cells.proofs.Lists.{some_not_none}
use Rattle.ddf_cells.proofs.Piecewise.{piece_more}
use Rattle.ddf_cells.proofs.SumSteps.{parity_within, sum_more, sum_of_all}
use Rattle.ddf_cells.proofs.Surely.{in_every}
use Rattle.ddf_cells.proofs.WithoutSteps.{given_wider}

-- ---- more failures

module _ {P Q : ℕ → Type 0} (within : Within P Q) (v : Volume) (image : Image) (element : ℕ) (part : Part) (sector : ℕ) where
  pub cell_wider : (position : ℕ) (bytes : List ℕ) → IsCellGiven P v image element part sector position bytes → IsCellGiven Q v image element part sector position bytes
  cell_wider position bytes is = record {
    of_block = λ block at. IsGivenBy-wider within image (sources v block) bytes (is.of_block block at);
    of_none = λ none. given_wider within image (own_sources v.marked part position sector) bytes (is.of_none none);
  }

  pub sum_wider : (bytes : List ℕ) → IsSumGiven P v image element part sector bytes → IsSumGiven Q v image element part sector bytes
  sum_wider bytes is = record {
    cells = is.cells;
    are_given = λ number position at. cell_wider position (is.cells position) (is.are_given number position at);
    is_sum = is.is_sum;
  }

  pub wanted_wider : (position : ℕ) (bytes : List ℕ) → IsWantedGiven P v image element part sector position bytes → IsWantedGiven Q v image element part sector position bytes
  wanted_wider position bytes is = record {
    of_row = λ parity. sum_wider bytes (is.of_row parity);
    of_cell = λ other. cell_wider position bytes (is.of_cell other);
  }

-- ---- images that are the same to the array

module _ (failed : ℕ → Type 0) (v : Volume) (known : IsVolume v) (a b : Image) (alike : AreAlike v a b) where
  by_sources : (all : List Source) (bytes : List ℕ) → ((k : ℕ) (source : Source) → slice_get all k ≡ Some source → IsOfCells v source)
      → IsGivenBy failed a all bytes → IsGivenBy failed b all bytes
  by_sources [] bytes are is = is
  by_sources (source ∷ all) bytes are is =
      ⊎_elim (λ here. inl (here ∙ given_same v known a b alike source (are 0 source refl)))
      (λ (later : HasSlot failed source × IsGivenBy failed a all bytes). inr (later.0, by_sources all bytes (λ k other at. are (suc k) other at) later.1)) is

  without_sources : (all : List Source) (bytes : List ℕ) → ((k : ℕ) (source : Source) → slice_get all k ≡ Some source → IsOfCells v source)
      → IsGivenWithout failed a all bytes → IsGivenWithout failed b all bytes
  without_sources [] bytes are is = is
  without_sources (source ∷ all) bytes are is = by_sources (source ∷ all) bytes are is

  module _ (element : ℕ) (part : Part) (part_at : slice_get v.parts element ≡ Some part) (sector : ℕ) (below : sector < part.shape.blocks) where
    of_site : (position : ℕ) (found : Option Site) → site_at part.places position sector ≡ found → (k : ℕ) (source : Source)
        → slice_get (map copy (option_to_list found)) k ≡ Some source → IsOfCells v source
    of_site position None is k source at = absurd (some_not_none source (sym at))
    of_site position (Some one) is zero source at =
        let same : copy one ≡ source = cc in
        subst (IsOfCells v) same (of_copy one (cell_site v known element part part_at position sector one below is))
    of_site position (Some one) is (suc k) source at = absurd (some_not_none source (sym at))

    of_others : (position : ℕ) (found : Option (List Site)) → row_without part.places position sector ≡ found → (k : ℕ) (source : Source)
        → slice_get (map row (option_to_list found)) k ≡ Some source → IsOfCells v source
    of_others position None is k source at = absurd (some_not_none source (sym at))
    of_others position (Some sites) is zero source at =
        let same : row sites ≡ source = cc in
        subst (IsOfCells v) same (of_row sites (row_cells v known element part part_at position sector sites below is))
    of_others position (Some sites) is (suc k) source at = absurd (some_not_none source (sym at))

    of_rest : (position : ℕ) (keeps : Bool) (k : ℕ) (source : Source)
        → slice_get (if keeps then map row (option_to_list (row_without part.places position sector)) else []) k ≡ Some source → IsOfCells v source
    of_rest position true k source at = of_others position (row_without part.places position sector) refl k source at
    of_rest position false k source at = absurd (some_not_none source (sym at))

    of_own : (position : ℕ) (alone : Bool) (k : ℕ) (source : Source)
        → slice_get (if alone then map copy (option_to_list (site_at part.places position sector)) else sources_without_block part position sector) k ≡ Some source → IsOfCells v source
    of_own position true k source at = of_site position (site_at part.places position sector) refl k source at
    of_own position false k source at =
        ⊎_elim (λ front. of_site position (site_at part.places position sector) refl front.0 source front.1)
        (λ back. of_rest position (keeps_parity part.shape.layout) back.0 source back.1)
        (in_either (map copy (option_to_list (site_at part.places position sector)))
        (if keeps_parity part.shape.layout then map row (option_to_list (row_without part.places position sector)) else []) k source at)

    pub cell_given_same : (position : ℕ) (bytes : List ℕ) → IsCellGiven failed v a element part sector position bytes → IsCellGiven failed v b element part sector position bytes
    cell_given_same position bytes is = record {
      of_block = λ block at.
          by_sources (sources v block) bytes
          (λ k source there. source_is_cells v known block k source (in_every (trusts_parity v) (map copy (copies v block)) (map row (rows v block)) k source there)) (is.of_block block at);
      of_none = λ none.
          without_sources (own_sources v.marked part position sector) bytes (of_own position (v.marked && is_some (site_at part.places position sector))) (is.of_none none);
    }

    sum_given_same : (bytes : List ℕ) → IsSumGiven failed v a element part sector bytes → IsSumGiven failed v b element part sector bytes
    sum_given_same bytes is = record {
      cells = is.cells;
      are_given = λ number position at. cell_given_same position (is.cells position) (is.are_given number position at);
      is_sum = is.is_sum;
    }

    pub wanted_given_same : (position : ℕ) (bytes : List ℕ) → IsWantedGiven failed v a element part sector position bytes → IsWantedGiven failed v b element part sector position bytes
    wanted_given_same position bytes is = record {
      of_row = λ parity. sum_given_same bytes (is.of_row parity);
      of_cell = λ other. cell_given_same position bytes (is.of_cell other);
    }

-- ---- neighbouring cells

module _ (failed : ℕ → Type 0) (v : Volume) (image : Image) (element : ℕ) (part : Part) (sector position : ℕ) (bytes : List ℕ) where
  -- a cell that holds a block
  pub cell_held : (block : ℕ) → block_at v element position sector ≡ Some block → IsGivenBy failed image (sources v block) bytes → IsCellGiven failed v image element part sector position bytes
  cell_held block at is = record {
    of_block = λ other at'. let same : block ≡ other = same_block block other (sym at ∙ at') in subst (λ (n : ℕ). IsGivenBy failed image (sources v n) bytes) same is;
    of_none = λ none. absurd (some_not_none block (sym at ∙ none));
  }
    where
      same_block : (x y : ℕ) → ◌≡◌ {A = Option ℕ} (Some x) (Some y) → x ≡ y
      same_block x y e = cc

  -- one that holds none
  pub cell_empty : block_at v element position sector ≡ None → IsGivenWithout failed image (own_sources v.marked part position sector) bytes → IsCellGiven failed v image element part sector position bytes
  cell_empty none is = record {
    of_block = λ block at. absurd (some_not_none block (sym at ∙ none));
    of_none = λ again. is;
  }

module _ {D : Type 0} {a b c : BayState D} (so_far : OnlyReads a b) (next : OnlyReads b c) (v : Volume) (element position sector : ℕ) where
  pub cells_given_more : (out piece rest : List (List ℕ)) (at count : ℕ) → at ≤ length out → count ≤ length piece → AreCellsGiven (Failed a b) v a.held element sector position out at
      → AreCellsGiven (Failed b c) v b.held element (sector + at) position piece count → AreCellsGiven (Failed a c) v a.held element sector position (take at out ++ (piece ++ rest)) (at + count)
  cells_given_more out piece rest at count inside long before here part part_at =
      piece_more (λ k bytes. IsCellGiven (Failed a c) v a.held element part (sector + k) position bytes) out piece rest at count inside long
      (λ k below. cell_wider (failed_behind so_far next) v a.held element part (sector + k) position (slice_index_or out k []) (before part part_at k below))
      (λ k below.
      let same : sector + at + k ≡ sector + (at + k) = omega arith in
      subst (λ n. IsCellGiven (Failed a c) v a.held element part n position (slice_index_or piece k [])) same
      (subst (λ (image : Image). IsCellGiven (Failed a c) v image element part (sector + at + k) position (slice_index_or piece k [])) so_far.reads.same_held
      (cell_wider (failed_before so_far next) v b.held element part (sector + at + k) position (slice_index_or piece k []) (here part part_at k below))))

-- ---- the sum of a row, position by position

-- the cells of the first positions but the one with the parity were added, each as it was read
pub record IsSumSoFar (failed : ℕ → Type 0) (v : Volume) (image : Image) (element : ℕ) (part : Part) (sector parity count : ℕ) (bytes : List ℕ) : Type 0 where
  pub cells : ℕ → List ℕ
  pub are_given : (position : ℕ) → position < count → (position ≡ parity → ⊥) → IsCellGiven failed v image element part sector position (cells position)
  pub is_sum : bytes ≡ xor_all (map cells (others_among parity count))

module _ (parity : ℕ) (f g : ℕ → List ℕ) where
  at_by : (other : ℕ) (b : Bool) → f other ≡ g other → map f (if b then [] else other ∷ []) ≡ map g (if b then [] else other ∷ [])
  at_by other true same = refl
  at_by other false same = ap (λ x. x ∷ []) same

  at_other : (other : ℕ) → f other ≡ g other → map f (is_other parity other) ≡ map g (is_other parity other)
  at_other other same = at_by other (other == parity) same

  at_others : (count : ℕ) → ((position : ℕ) → position < count → f position ≡ g position) → map f (others_among parity count) ≡ map g (others_among parity count)
  at_others zero same = refl
  at_others (suc n) same =
      let next : suc n ≡ n + 1 = omega arith in
      let both : others_among parity (suc n) ≡ others_among parity n ++ is_other parity n = ap (others_among parity) next ∙ flat-more (is_other parity) n in
      ap (map f) both ∙ map-append f (others_among parity n) (is_other parity n)
      ∙ ap (λ l. l ++ map f (is_other parity n)) (at_others n (λ position below. same position (omega (arith, below))))
      ∙ ap (λ l. map g (others_among parity n) ++ l) (at_other n (same n (omega arith)))
      ∙ sym (map-append g (others_among parity n) (is_other parity n)) ∙ ap (map g) (sym both)

-- a position's cell beside those of others
abbrev with_cell : (at : ℕ) → List ℕ → (ℕ → List ℕ) → ℕ → List ℕ
with_cell at cell cells position = if position == at then cell else cells position

with_here : (at : ℕ) (cell : List ℕ) (cells : ℕ → List ℕ) (position : ℕ) → position ≡ at → with_cell at cell cells position ≡ cell
with_here at cell cells position same = ap (λ b. if b then cell else cells position) (eq-eqb position at same)

with_there : (at : ℕ) (cell : List ℕ) (cells : ℕ → List ℕ) (position : ℕ) → position < at → with_cell at cell cells position ≡ cells position
with_there at cell cells position below = by (position == at) refl
  where
    by : (b : Bool) → (position == at) ≡ b → (if b then cell else cells position) ≡ cells position
    by true is = let same = eqb-true position at is in absurd (omega (arith, same, below))
    by false is = refl

module _ {D : Type 0} {a b c : BayState D} (so_far : OnlyReads a b) (next : OnlyReads b c) (v : Volume) (element : ℕ) (part : Part) (sector parity : ℕ) where
  pub sum_given_more : (count : ℕ) (old new : List ℕ) → IsSumSoFar (Failed a b) v a.held element part sector parity count old → IsCellAdded (Failed b c) v b.held element part sector parity count old new
      → IsSumSoFar (Failed a c) v a.held element part sector parity (count + 1) new
  sum_given_more count old new before added =
      let cells : ℕ → List ℕ = with_cell count added.cell before.cells in
      record {
        cells = cells;
        are_given = λ position below never.
            ⊎_elim
            (λ (earlier : position < count).
            subst (λ bytes. IsCellGiven (Failed a c) v a.held element part sector position bytes) (sym (with_there count added.cell before.cells position earlier))
            (cell_wider (failed_behind so_far next) v a.held element part sector position (before.cells position) (before.are_given position earlier never)))
            (λ (later : count ≤ position).
            let same : position ≡ count = omega (arith, later, below) in
            subst (λ bytes. IsCellGiven (Failed a c) v a.held element part sector position bytes) (sym (with_here count added.cell before.cells position same))
            (subst (λ n. IsCellGiven (Failed a c) v a.held element part sector n added.cell) (sym same)
            (subst (λ (image : Image). IsCellGiven (Failed a c) v image element part sector count added.cell) so_far.reads.same_held
            (cell_wider (failed_before so_far next) v b.held element part sector count added.cell (added.is_given (λ e. never (same ∙ e)))))))
            (cases_lt position count);
        is_sum =
            sum_more cells parity count old new
            (before.is_sum ∙ ap xor_all (at_others parity before.cells cells count (λ position below. sym (with_there count added.cell before.cells position below))))
            (added.is_added ∙ ap (fold_l xor old) (at_other parity (λ position. added.cell) cells count (sym (with_here count added.cell before.cells count refl))));
      }

-- the data cells of a row are on other positions
apart_by : (shape : Placement) (number parity place position : ℕ) → IsShape shape → parity_by shape.layout shape.members number ≡ Some parity
    → slice_get (data_by shape.layout shape.members number) place ≡ Some position → (position ≡ parity → ⊥) × (position < shape.members)
apart_by shape number parity place position known on at =
    let row = parity_row shape.layout shape.members number parity on in
    let there = placed_around row.kind shape.members parity place position (parity_within shape number parity known on) (ap (λ l. slice_get l place) (sym row.data_are) ∙ at) in
    (there.not_parity, there.within)

module _ (failed : ℕ → Type 0) (v : Volume) (image : Image) (element : ℕ) (part : Part) (sector parity : ℕ) (bytes : List ℕ) where
  -- all positions are the data cells of the row
  pub sum_given_all : IsShape part.shape → parity_member part.shape (sector / part.shape.strip) ≡ Some parity → IsSumSoFar failed v image element part sector parity part.shape.members bytes
      → IsSumGiven failed v image element part sector bytes
  sum_given_all known on is = record {
    cells = is.cells;
    are_given = λ number position at.
        let there = apart_by part.shape (sector / part.shape.strip) parity number position known on at in
        is.are_given position there.1 there.0;
    is_sum = is.is_sum ∙ sum_of_all part.shape is.cells sector parity known on;
  }

-- ---- what a position should hold

module _ (failed : ℕ → Type 0) (v : Volume) (image : Image) (element : ℕ) (part : Part) (sector position : ℕ) (bytes : List ℕ) where
  pub wanted_by_sum : is_parity part position sector ≡ true → IsSumGiven failed v image element part sector bytes → IsWantedGiven failed v image element part sector position bytes
  wanted_by_sum is sum = record { of_row = λ parity. sum; of_cell = λ other. absurd (let both : true ≡ false = sym is ∙ other in cc) }

  pub wanted_by_cell : is_parity part position sector ≡ false → IsCellGiven failed v image element part sector position bytes → IsWantedGiven failed v image element part sector position bytes
  wanted_by_cell is cell = record { of_row = λ parity. absurd (let both : true ≡ false = sym parity ∙ is in cc); of_cell = λ other. cell }
