-- The parity of a row of which one position isn't there: what the row gives of that position is its value, so the parity is the row's sum.
use Rattle.std.proofs.Common.{◌≡◌, ◌≢◌, ◌∙◌, ℕ, ◌/◌, ◌<◌, Bool, true, false, List, [], ◌∷◌, ◌++◌, Option, Some, None, refl, sym, ap, map, length, slice_get}
use Rattle.std.specs.Prelude.{option_map, option_to_list, unwrap_or, ◌==◌, if◌then◌else◌}
use Rattle.std.proofs.lemmas.Bool.{eqb-true}
use Rattle.ddf_lemmas.proofs.Options.{none_some, same_some}
use Rattle.ddf_bay.specs.Sectors.{Image}
use Rattle.ddf_parity.specs.Xor.{xor_all, zeros}
use Rattle.ddf_primary.specs.Cells.{parity_member}
use Rattle.ddf_primary.proofs.Needs.{parity_keeps, parity_below, some_members}
use Rattle.ddf_array.specs.declared.part.Part.{Part}
use Rattle.ddf_array.specs.declared.site.Site.{Site}
use Rattle.ddf_array.specs.Places.{site_at}
use Rattle.ddf_array.specs.Levels.{keeps_parity}
use Rattle.ddf_array.specs.Volume.{Volume, IsVolume}
use Rattle.ddf_array.specs.Sources.{Source, copy, row, other_positions, row_without, every_source}
use Rattle.ddf_array.specs.Values.{bytes_at, sum_at, given, value}
use Rattle.ddf_array.specs.Redundant.{IsRedundant}
use Rattle.ddf_array.specs.Rows.{block_at, cell_value, row_sum, sources_without_block, value_without_block}
use Rattle.ddf_array.specs.Sound.{AreSectors}
use Rattle.ddf_array.proofs.RowParity.{cell_value_is}
use Rattle.ddf_array.proofs.RowSums.{long_sum as long_sites, long_zeros}
use Rattle.ddf_cells.proofs.Redundance.{held}
use Rattle.ddf_data_array.proofs.From.{made_of, source_to}
use Rattle.ddf_data_array.proofs.Totals.{parity_from, with_sum}
use Rattle.ddf_data_array.proofs.Sitting.{held_from}

-- ---- what is read has 512 bytes

module _ (v : Volume) (image : Image) (are : AreSectors image) (e : ℕ) (part : Part) (sector : ℕ) where
  long_value : (o : Option Source) → length (unwrap_or (option_map (given image) o) zeros) ≡ 512
  long_value None = long_zeros
  long_value (Some (copy one)) = are one.slot one.lba
  long_value (Some (row sites)) = long_sites image are sites

  long_without : (l : List Source) → length (value_without_block image l) ≡ 512
  long_without [] = long_zeros
  long_without (copy one ∷ l) = are one.slot one.lba
  long_without (row sites ∷ l) = long_sites image are sites

  pub long_cell : (q : ℕ) → length (cell_value v image e part sector q) ≡ 512
  long_cell q = by (block_at v e q sector)
    where
      by : (o : Option ℕ) → length {A = ℕ} (elim o [ None ↦ value_without_block image (sources_without_block part q sector) | Some block ↦ unwrap_or (value v image block) zeros ]) ≡ 512
      by None = long_without (sources_without_block part q sector)
      by (Some block) = long_value (slice_get (every_source v block) 0)

-- ---- a row without a position

module _ (v : Volume) (known : IsVolume v) (image : Image) (are : AreSectors image) (is : IsRedundant v image) (e : ℕ) (part : Part) (part_at : slice_get v.parts e ≡ Some part)
    (p sector : ℕ) (none_at : site_at part.places p sector ≡ None) where
  abbrev cell : ℕ → List ℕ
  cell = cell_value v image e part sector

  -- the position's cell of a row that is there without it
  cell_by : (sites : List Site) → keeps_parity part.shape.layout ≡ true → row_without part.places p sector ≡ Some sites → (o : Option ℕ) → block_at v e p sector ≡ o
      → ◌≡◌ {A = List ℕ} (elim o [ None ↦ value_without_block image (sources_without_block part p sector) | Some block ↦ unwrap_or (value v image block) zeros ]) (sum_at image sites)
  cell_by sites parity at None found =
      ap (λ (o : Option Site). value_without_block image (map copy (option_to_list o) ++ (if keeps_parity part.shape.layout then map row (option_to_list (row_without part.places p sector)) else []))) none_at
      ∙ ap (λ (b : Bool). value_without_block image (if b then map row (option_to_list (row_without part.places p sector)) else [])) parity
      ∙ ap (λ (o : Option (List Site)). value_without_block image (map row (option_to_list o))) at
  cell_by sites parity at (Some block) found =
      let found_cell = held_from v known e part p sector block part_at found in
      let gives : row_without found_cell.has.part.places found_cell.has.cell.0 found_cell.has.cell.1 ≡ Some sites =
      ap (λ (c : ℕ × ℕ). row_without found_cell.has.part.places c.0 c.1) found_cell.same_cell ∙ ap (λ (q : Part). row_without q.places p sector) found_cell.same_part ∙ at in
      let from = made_of v block (row sites) found_cell.has (ap (λ (q : Part). keeps_parity q.shape.layout) found_cell.same_part ∙ parity, gives) in
      let there = source_to v block (row sites) from in
      ap (λ (o : Option (List ℕ)). unwrap_or o zeros) (is.agree block there.0 (row sites) there.1)

  module _ (par : ℕ) (par_is : parity_member part.shape (sector / part.shape.strip) ≡ Some par) where
    keeps_it : keeps_parity part.shape.layout ≡ true
    keeps_it = parity_keeps part.shape.layout part.shape.members (sector / part.shape.strip) par par_is

    count_is : length part.places ≡ part.shape.members
    count_is = (known.are_parts e part part_at).has_places

    -- what each available position holds, with the parity's as it is
    holds_by : (own : List ℕ) → ((one : Site) → site_at part.places par sector ≡ Some one → bytes_at image one ≡ own) → (q : ℕ) (one : Site) → site_at part.places q sector ≡ Some one
        → (b : Bool) → (par == q) ≡ b → (if b then own else cell q) ≡ bytes_at image one
    holds_by own right q one at true same = sym (right one (ap (λ (n : ℕ). site_at part.places n sector) (eqb-true par q same) ∙ at))
    holds_by own right q one at false same = cell_value_is v image is e part part_at q sector one at

    -- the parity of a row of which the position alone lacks is the row's sum
    pub parity_right : p < part.shape.members → (sites : List Site) → row_without part.places p sector ≡ Some sites → (one : Site) → site_at part.places par sector ≡ Some one
        → bytes_at image one ≡ row_sum v image e part sector
    parity_right p_below sites there one at =
        let own = bytes_at image one in
        let apart : p ≢ par = λ same. none_some (site_at part.places par sector) one (ap (λ (n : ℕ). site_at part.places n sector) (sym same) ∙ none_at) at in
        let par_below = parity_below part.shape.layout part.shape.members (sector / part.shape.strip) par (some_members part.shape.layout part.shape.members (known.are_parts e part part_at).shape_is.members_taken) par_is in
        let right : (other : Site) → site_at part.places par sector ≡ Some other → bytes_at image other ≡ own = λ other is_at. ap (bytes_at image) (same_some (site_at part.places par sector) other one is_at at) in
        let by_sites : map (with_sum own cell par) (other_positions (length part.places) p) ≡ map (bytes_at image) sites =
        held image (λ q. site_at part.places q sector) (with_sum own cell par) (λ q site is_at. holds_by own right q site is_at (par == q) refl) (other_positions (length part.places) p) sites there in
        let own_cell : cell p ≡ xor_all (map (with_sum own cell par) (other_positions part.shape.members p)) =
        cell_by sites keeps_it there (block_at v e p sector) refl ∙ ap xor_all (sym by_sites) ∙ ap (λ (n : ℕ). xor_all (map (with_sum own cell par) (other_positions n p))) count_is in
        parity_from cell (long_cell v image are e part sector) part.shape.members par par_below part.shape.layout (sector / part.shape.strip) par_is own p (are one.slot one.lba) p_below apart own_cell
