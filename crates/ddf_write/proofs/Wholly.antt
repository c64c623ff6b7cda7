-- What is read of an array whose cells hold whole sectors is what it would be if all sectors were whole.
use Rattle.std.proofs.Common.{◌≡◌, ◌∙◌, inl, inr, ⊎_elim, ℕ, zero, suc, ◌<◌, Bool, true, false, List, [], ◌∷◌, ◌++◌, Option, Some, None, refl, sym, subst, arith, length-append, map, take, slice_get}
use Rattle.std.specs.Prelude.{option_to_list, is_some, ◌&&◌, if◌then◌else◌}
use Rattle.std.proofs.lemmas.List.{length-take-le, take_at}
use Rattle.ddf_lemmas.proofs.Lists.{in_either, in_map}
use Rattle.ddf_bay.specs.Sectors.{Image}
use Rattle.ddf_bay.specs.State.{BayState}
use Rattle.ddf_parity.specs.Xor.{zeros}
use Rattle.ddf_array.specs.declared.part.Part.{Part}
use Rattle.ddf_array.specs.declared.site.Site.{Site}
use Rattle.ddf_array.specs.Levels.{keeps_parity}
use Rattle.ddf_array.specs.Places.{site_at}
use Rattle.ddf_array.specs.Redundant.{IsRedundant}
use Rattle.ddf_array.specs.Rows.{block_at, cell_value, sources_without_block}
use Rattle.ddf_array.specs.Sound.{AreSectors}
use Rattle.ddf_array.specs.Sources.{Source, copy, row, copies, every_source, row_without, sources, trusts_parity}
use Rattle.ddf_array.specs.Values.{given}
use Rattle.ddf_array.specs.Volume.{IsVolume, Volume}
use Rattle.ddf_array.proofs.RowSums.{long_zeros}
use Rattle.ddf_read.specs.Reading.{Failed, HasSlot, IsGivenBy}
use Rattle.ddf_cells.specs.Alike.{AreAlike}
use Rattle.ddf_cells.specs.CellSources as cells
use Rattle.ddf_cells.specs.GivenCells.{IsCellGiven}
use Rattle.ddf_cells.specs.Without.{IsGivenWithout, own_sources}
use Rattle.ddf_cells.proofs.Alike.{AreCellSites, IsCellSite, IsOfCells, of_copy, of_row, cell_same, cell_site, copy_is_cell, given_same, redundant_same, row_cells, source_is_cells}
use Rattle.ddf_cells.proofs.Lists.{some_not_none}
use Rattle.ddf_cells.proofs.Surely.{cell_of_block, cell_without}
use Rattle.ddf_write.specs.Beside.{IsDataCell}
use Rattle.ddf_write.specs.RowWrites.{HaveSectors}

-- ---- an image all of whose sectors are whole

padded : Image → Image
padded image slot lba = take 512 (image slot lba ++ zeros)

padded_sectors : (image : Image) → AreSectors (padded image)
unfolding padded
padded_sectors image slot lba =
    let both = length-append (image slot lba) zeros in
    length-take-le 512 (image slot lba ++ zeros) (omega (arith, both, long_zeros))

padded_same : (v : Volume) (image : Image) → HaveSectors v image → AreAlike v image (padded image)
unfolding padded
padded_same v image are slot lba cell = sym (take_at (image slot lba) zeros 512 (are slot lba cell))

-- ---- what sources give that are cells

by_cells : (failed : ℕ → Type 0) (one other : Image) (bytes : List ℕ) (all : List Source) → ((k : ℕ) (source : Source) → slice_get all k ≡ Some source → given one source ≡ given other source)
    → IsGivenBy failed one all bytes → IsGivenBy failed other all bytes
by_cells failed one other bytes [] same is = absurd is
by_cells failed one other bytes (source ∷ others) same is =
    ⊎_elim
    (λ first. inl (first ∙ same 0 source refl))
    (λ (later : HasSlot failed source × IsGivenBy failed one others bytes). inr (later.0, by_cells failed one other bytes others (λ k next at. same (suc k) next at) later.1))
    is

without_cells : (failed : ℕ → Type 0) (one other : Image) (bytes : List ℕ) (all : List Source) → ((k : ℕ) (source : Source) → slice_get all k ≡ Some source → given one source ≡ given other source)
    → IsGivenWithout failed one all bytes → IsGivenWithout failed other all bytes
without_cells failed one other bytes [] same is = is
without_cells failed one other bytes (source ∷ others) same is = by_cells failed one other bytes (source ∷ others) same is

copy_of : (v : Volume) (found : Option Site) → ((one : Site) → found ≡ Some one → IsCellSite v one) → (k : ℕ) (source : Source) → slice_get (map copy (option_to_list found)) k ≡ Some source → IsOfCells v source
copy_of v None each k source at = absurd (some_not_none source (sym at))
copy_of v (Some one) each zero source at = let same : copy one ≡ source = cc in subst (IsOfCells v) same (of_copy one (each one refl))
copy_of v (Some one) each (suc k) source at = absurd (some_not_none source (sym at))

row_of : (v : Volume) (found : Option (List Site)) → ((sites : List Site) → found ≡ Some sites → AreCellSites v sites) → (k : ℕ) (source : Source) → slice_get (map row (option_to_list found)) k ≡ Some source → IsOfCells v source
row_of v None each k source at = absurd (some_not_none source (sym at))
row_of v (Some sites) each zero source at = let same : row sites ≡ source = cc in subst (IsOfCells v) same (of_row sites (each sites refl))
row_of v (Some sites) each (suc k) source at = absurd (some_not_none source (sym at))

module _ (v : Volume) (known : IsVolume v) where
  block_cells : (trusts : Bool) (block k : ℕ) (source : Source) → slice_get (if trusts then every_source v block else map copy (copies v block)) k ≡ Some source → IsOfCells v source
  block_cells true block k source at = source_is_cells v known block k source at
  block_cells false block k source at =
      let from = in_map copy (copies v block) k source at in
      subst (IsOfCells v) from.2 (of_copy from.0 (copy_is_cell v known block k from.0 from.1))

  module _ (element : ℕ) (part : Part) (is_part : slice_get v.parts element ≡ Some part) (position sector : ℕ) (below : sector < part.shape.blocks) where
    own_copy : (k : ℕ) (source : Source) → slice_get (map copy (option_to_list (site_at part.places position sector))) k ≡ Some source → IsOfCells v source
    own_copy k source at = copy_of v (site_at part.places position sector) (λ one is. cell_site v known element part is_part position sector one below is) k source at

    own_rows : (keeps : Bool) (k : ℕ) (source : Source) → slice_get (if keeps then map row (option_to_list (row_without part.places position sector)) else []) k ≡ Some source → IsOfCells v source
    own_rows true k source at = row_of v (row_without part.places position sector) (λ sites is. row_cells v known element part is_part position sector sites below is) k source at
    own_rows false k source at = absurd (some_not_none source (sym at))

    without_are : (k : ℕ) (source : Source) → slice_get (sources_without_block part position sector) k ≡ Some source → IsOfCells v source
    without_are k source at =
        ⊎_elim
        (λ (front : (j : ℕ) × (slice_get (map copy (option_to_list (site_at part.places position sector))) j ≡ Some source)). own_copy front.0 source front.1)
        (λ (back : (j : ℕ) × (slice_get (if keeps_parity part.shape.layout then map row (option_to_list (row_without part.places position sector)) else []) j ≡ Some source)). own_rows (keeps_parity part.shape.layout) back.0 source back.1)
        (in_either (map copy (option_to_list (site_at part.places position sector))) (if keeps_parity part.shape.layout then map row (option_to_list (row_without part.places position sector)) else []) k source at)

    own_are : (alone : Bool) (k : ℕ) (source : Source) → slice_get (if alone then map copy (option_to_list (site_at part.places position sector)) else sources_without_block part position sector) k ≡ Some source → IsOfCells v source
    own_are true k source at = own_copy k source at
    own_are false k source at = without_are k source at

    -- A cell is given the same by images that are alike.
    given_alike : (failed : ℕ → Type 0) (one other : Image) → AreAlike v one other → (bytes : List ℕ) → IsCellGiven failed v one element part sector position bytes → IsCellGiven failed v other element part sector position bytes
    given_alike failed one other alike bytes is = record {
      of_block = λ block at.
          by_cells failed one other bytes (sources v block) (λ k source there. given_same v known one other alike source (block_cells (trusts_parity v) block k source there)) (is.of_block block at);
      of_none = λ none.
          without_cells failed one other bytes (own_sources v.marked part position sector)
          (λ k source there. given_same v known one other alike source (own_are (v.marked && is_some (site_at part.places position sector)) k source there)) (is.of_none none);
    }

    -- ---- the value

    module _ {D : Type 0} (a b : BayState D) (cell : IsDataCell v element part position sector) (bytes : List ℕ) where
      -- where what is read is sure
      pub value_read : cells.IsSure v a b → IsCellGiven (Failed a b) v a.held element part sector position bytes → bytes ≡ cell_value v a.held element part sector position
      value_read sure given_is = by (block_at v element position sector) refl
        where
          by : (found : Option ℕ) → block_at v element position sector ≡ found → bytes ≡ cell_value v a.held element part sector position
          by None at = cell_without v a b element part position sector is_part cell.below below bytes sure at (given_is.of_none at)
          by (Some block) at = cell_of_block v a b element part position sector sure block bytes at (given_is.of_block block at)

    -- Where the array is redundant, and its cells have whole sectors, that is so.
    pub value_redundant : {D : Type 0} (a b : BayState D) → IsDataCell v element part position sector → (bytes : List ℕ) → HaveSectors v a.held → IsRedundant v a.held
        → IsCellGiven (Failed a b) v a.held element part sector position bytes → bytes ≡ cell_value v a.held element part sector position
    value_redundant a b cell bytes are redundant given_is =
        let image = padded a.held in
        let alike = padded_same v a.held are in
        value_read (record a { held = image }) b cell bytes
        (inr (inl (padded_sectors a.held, redundant_same v known a.held image alike redundant)))
        (given_alike (Failed a b) a.held image alike bytes given_is)
        ∙ sym (cell_same v known a.held image alike element part is_part sector position below)
