-- Where a row of a redundant array is all available, its parity is the sum of its data cells.
use Rattle.std.proofs.Common.{◌≡◌, ◌∙◌, ℕ, suc, ◌+◌, ◌-◌, ◌/◌, ◌<◌, Bool, true, false, List, [], ◌∷◌, ◌++◌, Option, Some, None, refl, sym, ap, arith, map, length, slice_get, ◌&&◌, ◌||◌, append-nil}
use Rattle.std.specs.Prelude.{◌==◌, option_to_list, option_map, unwrap_or, if◌then◌else◌}
use Rattle.std.specs.List.{range_with_len, list_any}
use Rattle.std.proofs.lemmas.Bool.{eqb-true}
use Rattle.std.proofs.lemmas.List.{map-append}
use Rattle.ddf_lemmas.proofs.Lists.{found_passes, get_filter_map}
use Rattle.ddf_lemmas.proofs.Tests.{and_first, and_second}
use Rattle.ddf_bay.specs.Sectors.{Image}
use Rattle.ddf_parity.specs.Xor.{xor, xor_all, zeros}
use Rattle.ddf_parity.specs.XorLaws.{xor_all_first, xor_all_taken_out}
use Rattle.ddf_primary.specs.declared.layout.Layout.{Layout}
use Rattle.ddf_primary.specs.declared.parity.ParityLayout.{ParityLayout}
use Rattle.ddf_primary.specs.declared.parity.ParityLayout.TheVariants.{Raid4First, Raid4Last, Raid5ZeroRestart, Raid5LastRestart, Raid5LastContinuation}
use Rattle.ddf_primary.specs.Cells.{after_parity, before_parity, data_around, depth_of, parity_by, parity_member}
use Rattle.ddf_primary.proofs.Needs.{parity_keeps, parity_row}
use Rattle.ddf_secondary.specs.declared.spot.Spot.{Spot}
use Rattle.ddf_array.specs.declared.part.Part.{Part}
use Rattle.ddf_array.specs.declared.site.Site.{Site}
use Rattle.ddf_array.specs.Places.{site_at}
use Rattle.ddf_array.specs.Levels.{keeps_parity}
use Rattle.ddf_array.specs.Volume.{Volume, IsVolume, capacity}
use Rattle.ddf_array.specs.Cells.{element_cells, block_spots}
use Rattle.ddf_array.specs.Sources.{copy, row, all_of, at_spot, element_copies, row_without}
use Rattle.ddf_array.specs.Values.{bytes_at, sum_at, value}
use Rattle.ddf_array.specs.Redundant.{IsRedundant, whole_row}
use Rattle.ddf_array.specs.Rows.{block_at, cell_value, data_by, holds, row_sum, value_without_block}
use Rattle.ddf_array.specs.Sound.{AreSectors}
use Rattle.ddf_array.proofs.Consistent.{at_part, copy_gives, position_within, to_flat}
use Rattle.ddf_array.proofs.Ranges.{range-around}
use Rattle.ddf_array.proofs.RowSums.{cell_from_row, own_from_others, split_all}

-- ---- items that pass a test

pub record Passes {X : Type 0} (test : X → Bool) (xs : List X) : Type 0 where
  pub at : ℕ
  pub item : X
  pub is_at : slice_get xs at ≡ Some item
  pub passes : test item ≡ true

passing_by : {X : Type 0} (test : X → Bool) (y : X) (xs : List X) (b : Bool) → test y ≡ b → (b || list_any test xs) ≡ true → (list_any test xs ≡ true → Passes test xs) → Passes test (y ∷ xs)
passing_by test y xs true is any rest = record { at = 0; item = y; is_at = refl; passes = is }
passing_by test y xs false is any rest =
    let later = rest any in record { at = suc later.at; item = later.item; is_at = later.is_at; passes = later.passes }

pub passing : {X : Type 0} (test : X → Bool) (xs : List X) → list_any test xs ≡ true → Passes test xs
passing test [] any = absurd (cc)
passing test (y ∷ xs) any = passing_by test y xs (test y) refl any (passing test xs)

-- ---- what an available cell holds

module _ (v : Volume) (image : Image) (is : IsRedundant v image) (element : ℕ) (part : Part) (part_at : slice_get v.parts element ≡ Some part) (position sector : ℕ) (own : Site)
    (own_at : site_at part.places position sector ≡ Some own) where
  abbrev in_part : Spot → Option Part → Bool
  in_part spot found =
      elim found [
        | None ↦ false
        | Some part ↦ list_any (λ (cell : ℕ × ℕ). cell.0 == position && cell.1 == sector) (element_cells part.shape spot.block)
      ]

  -- a cell with a block holds the block's value
  block_value : (block : ℕ) → block_at v element position sector ≡ Some block → value v image block ≡ Some (bytes_at image own)
  block_value block found =
      let test : Spot → Bool = λ (spot : Spot). spot.element == element && in_part spot (slice_get v.parts element) in
      let spot = passing test (block_spots v block) (found_passes (holds v element position sector) (range_with_len 0 (capacity v)) block found) in
      let here : spot.item.element ≡ element = eqb-true spot.item.element element (and_first (spot.item.element == element) (in_part spot.item (slice_get v.parts element)) spot.passes) in
      let inside : in_part spot.item (Some part) ≡ true =
      ap (in_part spot.item) (sym part_at) ∙ and_second (spot.item.element == element) (in_part spot.item (slice_get v.parts element)) spot.passes in
      let cell = passing (λ (cell : ℕ × ℕ). cell.0 == position && cell.1 == sector) (element_cells part.shape spot.item.block) inside in
      let on : cell.item.0 ≡ position = eqb-true cell.item.0 position (and_first (cell.item.0 == position) (cell.item.1 == sector) cell.passes) in
      let at : cell.item.1 ≡ sector = eqb-true cell.item.1 sector (and_second (cell.item.0 == position) (cell.item.1 == sector) cell.passes) in
      let there : site_at part.places cell.item.0 cell.item.1 ≡ Some own = ap (λ p. site_at part.places p cell.item.1) on ∙ ap (site_at part.places position) at ∙ own_at in
      let inner = get_filter_map (λ (c : ℕ × ℕ). site_at part.places c.0 c.1) (element_cells part.shape spot.item.block) cell.at cell.item own cell.is_at there in
      let among =
      to_flat (at_spot v.parts element_copies) (block_spots v block) spot.at inner.0 spot.item own spot.is_at
      (ap (λ (l : List Site). slice_get l inner.0) (at_part v.parts element_copies spot.item part (ap (slice_get v.parts) here ∙ part_at)) ∙ inner.1) in
      copy_gives v image is block among.0 own among.1

  by_block : (found : Option ℕ) → block_at v element position sector ≡ found
      → elim found [
        | None ↦ value_without_block image (map copy (option_to_list (site_at part.places position sector)) ++ (if keeps_parity part.shape.layout then map row (option_to_list (row_without part.places position sector)) else []))
        | Some block ↦ unwrap_or (value v image block) zeros
      ] ≡ bytes_at image own
  by_block None found =
      ap
      (λ (o : Option Site). value_without_block image (map copy (option_to_list o) ++ (if keeps_parity part.shape.layout then map row (option_to_list (row_without part.places position sector)) else [])))
      own_at
  by_block (Some block) found = ap (λ (o : Option (List ℕ)). unwrap_or o zeros) (block_value block found)

  -- the value of an available cell is what it holds
  pub cell_value_is : cell_value v image element part sector position ≡ bytes_at image own
  cell_value_is = by_block (block_at v element position sector) refl

-- ---- sums in either order

sum_turned : (xs ys : List (List ℕ)) → xor_all (xs ++ ys) ≡ xor_all (ys ++ xs)
sum_turned [] ys = ap xor_all (sym (append-nil ys))
sum_turned (x ∷ xs) ys = xor_all_first x (xs ++ ys) ∙ ap (xor x) (sum_turned xs ys) ∙ sym (xor_all_taken_out ys x xs)

module _ (cell : ℕ → List ℕ) (members position : ℕ) where
  around : (parity : ParityLayout) → xor_all (map cell (data_around parity members position))
      ≡ xor_all (map cell (before_parity position) ++ map cell (after_parity members position))
  around Raid4First = ap xor_all (map-append cell (before_parity position) (after_parity members position))
  around Raid4Last = ap xor_all (map-append cell (before_parity position) (after_parity members position))
  around Raid5ZeroRestart = ap xor_all (map-append cell (before_parity position) (after_parity members position))
  around Raid5LastRestart = ap xor_all (map-append cell (before_parity position) (after_parity members position))
  around Raid5LastContinuation =
      ap xor_all (map-append cell (after_parity members position) (before_parity position))
      ∙ sum_turned (map cell (after_parity members position)) (map cell (before_parity position))

  -- the data cells of a row are those before and after its parity
  pub around_by : (layout : Layout) (number : ℕ) → parity_by layout members number ≡ Some position
      → xor_all (map cell (data_by layout members number)) ≡ xor_all (map cell (before_parity position) ++ map cell (after_parity members position))
  around_by layout number e =
      let row = parity_row layout members number position e in
      ap (λ l. xor_all (map cell l)) row.data_are ∙ around row.kind

-- ---- the cells of a row

pub rest_of : (x : Site) (o : Option (List Site)) (all : List Site) → option_map (λ l. x ∷ l) o ≡ Some all → (rest : List Site) × (o ≡ Some rest) × (x ∷ rest ≡ all)
rest_of x None all e = absurd (cc)
rest_of x (Some rest) all e = (rest, refl, cc)

module _ (image : Image) (at : ℕ → Option Site) (cell : ℕ → List ℕ) (cell_is : (position : ℕ) (own : Site) → at position ≡ Some own → cell position ≡ bytes_at image own) where
  held_by : (position : ℕ) (positions : List ℕ) (all : List Site) (o : Option Site) → at position ≡ o → all_of (o ∷ map at positions) ≡ Some all
      → ((rest : List Site) → all_of (map at positions) ≡ Some rest → map cell positions ≡ map (bytes_at image) rest) → cell position ∷ map cell positions ≡ map (bytes_at image) all
  held_by position positions all None is e later = absurd (cc)
  held_by position positions all (Some own) is e later =
      let rest = rest_of own (all_of (map at positions)) all e in
      ap (λ b. b ∷ map cell positions) (cell_is position own is) ∙ ap (λ l. bytes_at image own ∷ l) (later rest.0 rest.1) ∙ ap (map (bytes_at image)) rest.2

  -- available cells hold what their sites do
  held : (positions : List ℕ) (all : List Site) → all_of (map at positions) ≡ Some all → map cell positions ≡ map (bytes_at image) all
  held [] all e = let none : [] ≡ all = cc in ap (map (bytes_at image)) none
  held (position ∷ positions) all e = held_by position positions all (at position) refl e (held positions)

all_at : {X : Type 0} (own : X) (ys : List (Option X)) (back : List X) → all_of (Some own ∷ ys) ≡ Some back → (rest : List X) × (all_of ys ≡ Some rest) × (back ≡ own ∷ rest)
all_at own ys back e = by (all_of ys) refl e
  where
    by : (o : Option (List _)) → all_of ys ≡ o → option_map (λ l. own ∷ l) o ≡ Some back → (rest : List _) × (all_of ys ≡ Some rest) × (back ≡ own ∷ rest)
    by None is e = absurd (cc)
    by (Some rest) is e = (rest, is, cc)

-- in a redundant array the parity of a row that is all available is the row's sum
pub parity_is_sum : (v : Volume) (image : Image) (element sector position : ℕ) (part : Part) (sites : List Site) (own : Site) → IsVolume v → AreSectors image → IsRedundant v image
    → slice_get v.parts element ≡ Some part → parity_member part.shape (sector / part.shape.strip) ≡ Some position → sector < depth_of part.shape → whole_row part sector ≡ Some sites
    → site_at part.places position sector ≡ Some own → bytes_at image own ≡ row_sum v image element part sector
parity_is_sum v image element sector position part sites own known are is part_at on below whole own_at =
    let members = part.shape.members in
    let n = length part.places in
    let n_is : n ≡ members = (known.are_parts element part part_at).has_places in
    let at : ℕ → Option Site = λ other. site_at part.places other sector in
    let cell : ℕ → List ℕ = cell_value v image element part sector in
    let front = before_parity position in
    let behind = range_with_len (position + 1) (n - position - 1) in
    let within = position_within part.places position sector own own_at in
    let split =
    split_all (map at front) (map at (position ∷ behind)) sites
    (ap all_of (sym (map-append at front (position ∷ behind))) ∙ ap (λ l. all_of (map at l)) (sym (range-around n position within)) ∙ whole) in
    let back = all_at own (map at behind) split.back (ap (λ (o : Option Site). all_of (o ∷ map at behind)) (sym own_at) ∙ split.back_is) in
    let row_is : sites ≡ split.front ++ own ∷ back.0 = split.all_are ∙ ap (λ l. split.front ++ l) back.2 in
    let zero_sum : sum_at image (split.front ++ own ∷ back.0) ≡ zeros =
    ap (sum_at image) (sym row_is) ∙ is.sum_to_zero element sector part sites part_at (parity_keeps part.shape.layout members (sector / part.shape.strip) position on) below whole in
    let cell_is : (other : ℕ) (one : Site) → at other ≡ Some one → cell other ≡ bytes_at image one = λ other one there. cell_value_is v image is element part part_at other sector one there in
    let count : n - position - 1 ≡ members - 1 - position = omega (arith, n_is) in
    let before_is : map cell front ≡ map (bytes_at image) split.front = held image at cell cell_is front split.front split.front_is in
    let after_is : map cell (after_parity members position) ≡ map (bytes_at image) back.0 =
    ap (λ m. map cell (range_with_len (position + 1) m)) (sym count) ∙ held image at cell cell_is behind back.0 back.1 in
    own_from_others image are split.front own back.0 zero_sum
    ∙ ap xor_all (map-append (bytes_at image) split.front back.0)
    ∙ ap (λ l. xor_all (l ++ map (bytes_at image) back.0)) (sym before_is)
    ∙ ap (λ l. xor_all (map cell front ++ l)) (sym after_is)
    ∙ sym (around_by cell members position part.shape.layout (sector / part.shape.strip) on)

-- where a row sums to zero, a cell of it is the sum of the others
pub cell_from_whole : (image : Image) (part : Part) (position sector : ℕ) (own : Site) (others all : List Site) → AreSectors image → whole_row part sector ≡ Some all → sum_at image all ≡ zeros
    → site_at part.places position sector ≡ Some own → row_without part.places position sector ≡ Some others → bytes_at image own ≡ sum_at image others
cell_from_whole image part position sector own others all are whole sums own_at row_at =
    cell_from_row image are part position sector own others (position_within part.places position sector own own_at)
    (λ found is. let same : Some all ≡ Some found = sym whole ∙ is in let one : all ≡ found = cc in ap (sum_at image) (sym one) ∙ sums)
    own_at row_at
