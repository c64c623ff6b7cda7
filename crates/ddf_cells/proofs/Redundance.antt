-- An array whose copies are equal, and whose parity is right, is redundant.
use Rattle.std.proofs.Common.{◌≡◌, ◌∙◌, ⊎_elim, ℕ, ◌+◌, ◌-◌, ◌/◌, ◌<◌, true, false, List, [], ◌∷◌, ◌++◌, Option, Some, None, refl, sym, ap, arith, map, length, slice_get}
use Rattle.std.specs.List.{range_with_len}
use Rattle.std.proofs.lemmas.List.{map-append}
use Rattle.ddf_bay.specs.Sectors.{Image}
use Rattle.ddf_parity.specs.Xor.{xor, xor_all, zeros}
use Rattle.ddf_parity.specs.XorLaws.{xor_all_taken_out, xor_with_itself}
use Rattle.ddf_primary.specs.Cells.{depth_of, parity_member}
use Rattle.ddf_array.specs.declared.part.Part.{Part}
use Rattle.ddf_array.specs.declared.site.Site.{Site}
use Rattle.ddf_array.specs.Levels.{keeps_parity}
use Rattle.ddf_array.specs.Places.{site_at}
use Rattle.ddf_array.specs.Redundant.{IsRedundant, whole_row}
use Rattle.ddf_array.specs.Rows.{cell_value, row_sum}
use Rattle.ddf_array.specs.Sound.{AreSectors}
use Rattle.ddf_array.specs.Sources.{all_of}
use Rattle.ddf_array.specs.Values.{bytes_at, sum_at}
use Rattle.ddf_array.specs.Volume.{Volume, IsVolume}
use Rattle.ddf_array.proofs.Consistent.{redundant_if}
use Rattle.ddf_array.proofs.Ranges.{range-around}
use Rattle.ddf_cells.specs.Degraded.{is_degraded}
use Rattle.ddf_array.specs.Apart.{IsApart}
use Rattle.ddf_cells.proofs.CopiesOn.{cell_within, in_copies}
use Rattle.ddf_primary.proofs.Needs.{parity_below, some_members, some_parity}
use Rattle.ddf_array.specs.declared.place.Place.{Place}
use Rattle.ddf_array.proofs.RowParity.{rest_of}
use Rattle.ddf_cells.specs.CellSources.{HaveEqualCopies}
use Rattle.ddf_cells.proofs.DataCells.{own_cell, read_from_one, row_is, same_sums, sum_all, sum_but}
use Rattle.ddf_cells.proofs.Whole.{whole_site}

-- ---- a whole row

module _ (image : Image) (at : ℕ → Option Site) (cell : ℕ → List ℕ) (cell_is : (position : ℕ) (own : Site) → at position ≡ Some own → cell position ≡ bytes_at image own) where
  held_by : (position : ℕ) (positions : List ℕ) (all : List Site) (o : Option Site) → at position ≡ o → all_of (o ∷ map at positions) ≡ Some all
      → ((rest : List Site) → all_of (map at positions) ≡ Some rest → map cell positions ≡ map (bytes_at image) rest) → cell position ∷ map cell positions ≡ map (bytes_at image) all
  held_by position positions all None is e later = absurd (cc)
  held_by position positions all (Some own) is e later =
      let rest = rest_of own (all_of (map at positions)) all e in
      ap (λ b. b ∷ map cell positions) (cell_is position own is) ∙ ap (λ l. bytes_at image own ∷ l) (later rest.0 rest.1) ∙ ap (map (bytes_at image)) rest.2

  pub held : (positions : List ℕ) (all : List Site) → all_of (map at positions) ≡ Some all → map cell positions ≡ map (bytes_at image) all
  held [] all e = let none : [] ≡ all = cc in ap (map (bytes_at image)) none
  held (position ∷ positions) all e = held_by position positions all (at position) refl e (held positions)

-- the bytes at an optional sector
abbrev pub at_option : Image → Option Site → List ℕ
at_option image None = []
at_option image (Some one) = bytes_at image one

pub at_some : (image : Image) (o : Option Site) (one : Site) → o ≡ Some one → at_option image o ≡ bytes_at image one
at_some image o one is = ap (at_option image) is

row_parts : (cell : ℕ → List ℕ) (n parity : ℕ) → parity < n → xor_all (map cell (range_with_len 0 n)) ≡ xor (cell parity) (sum_but cell parity n)
row_parts cell n parity below =
    let front = range_with_len 0 parity in
    let behind = range_with_len (parity + 1) (n - parity - 1) in
    let count : n - parity - 1 ≡ n - 1 - parity = omega arith in
    ap (λ l. xor_all (map cell l)) (range-around n parity below)
    ∙ ap xor_all (map-append cell front (parity ∷ behind))
    ∙ xor_all_taken_out (map cell front) (cell parity) (map cell behind)
    ∙ ap (λ m. xor (cell parity) (xor_all (map cell front ++ map cell (range_with_len (parity + 1) m)))) count
    ∙ ap (xor (cell parity)) (sym (sum_all cell parity n below))

-- ---- the parity of an element

-- the bytes of a position
abbrev pub own_bytes : List Place → (sector : ℕ) → Image → ℕ → List ℕ
own_bytes places sector image position = at_option image (site_at places position sector)

module _ (places : List Place) (sector : ℕ) (sites : List Site) (all : all_of (map (λ position. site_at places position sector) (range_with_len 0 (length places))) ≡ Some sites) where
  pub sum_is : (image : Image) → sum_at image sites ≡ xor_all (map (own_bytes places sector image) (range_with_len 0 (length places)))
  sum_is image =
      ap xor_all
      (sym (held image (λ position. site_at places position sector) (own_bytes places sector image) (λ position own is. at_some image (site_at places position sector) own is) (range_with_len 0 (length places)) sites all))

-- ---- what makes an array redundant

-- each available parity cell is the sum of its row
abbrev pub HasRightParity : Volume → Image → Type 0
HasRightParity v image =
    (element sector position : ℕ) (part : Part) (own : Site) → slice_get v.parts element ≡ Some part → keeps_parity part.shape.layout ≡ true → sector < depth_of part.shape
    → parity_member part.shape (sector / part.shape.strip) ≡ Some position → site_at part.places position sector ≡ Some own → bytes_at image own ≡ row_sum v image element part sector

module _ (v : Volume) (known : IsVolume v) (apart : IsApart v) (whole : is_degraded v ≡ false) (image : Image) (are : AreSectors image) (equal : HaveEqualCopies v image) where
  module _ (element sector : ℕ) (part : Part) (is_part : slice_get v.parts element ≡ Some part) (keep : keeps_parity part.shape.layout ≡ true) where
    value_is : (position : ℕ) → position < length part.places → cell_value v image element part sector position ≡ own_bytes part.places sector image position
    value_is position under =
        let own = whole_site v whole element part is_part keep position sector under in
        let read = read_from_one v known apart element part is_part sector position own.0 own.1 in
        read.gives image
        ∙ ⊎_elim
        (λ held.
        let copied = in_copies v known held.0 element position own.0 (own_cell v known apart element part is_part sector position own.0 own.1 held.0 held.1) in
        equal held.0 0 copied.0 read.rep own.0 held.2 copied.1)
        (λ none. ap (bytes_at image) none.1)
        read.kind
        ∙ sym (at_some image (site_at part.places position sector) own.0 own.1)

    -- a row whose parity is its sum adds up to zero
    pub row_is_zero : (sites : List Site) → whole_row part sector ≡ Some sites
        → ((position : ℕ) (own : Site) → parity_member part.shape (sector / part.shape.strip) ≡ Some position → site_at part.places position sector ≡ Some own → bytes_at image own ≡ row_sum v image element part sector)
        → sum_at image sites ≡ zeros
    row_is_zero sites all right =
        let shape = known.are_parts element part is_part in
        let parity = some_parity part.shape.layout part.shape.members (sector / part.shape.strip) keep in
        let some = some_members part.shape.layout part.shape.members shape.shape_is.members_taken in
        let on : parity.0 < length part.places = omega (arith, parity_below part.shape.layout part.shape.members (sector / part.shape.strip) parity.0 some parity.1, shape.has_places) in
        let own = whole_site v whole element part is_part keep parity.0 sector on in
        let bytes : ℕ → List ℕ = own_bytes part.places sector image in
        let sum : bytes parity.0 ≡ sum_but bytes parity.0 (length part.places) =
        at_some image (site_at part.places parity.0 sector) own.0 own.1 ∙ right parity.0 own.0 parity.1 own.1
        ∙ row_is v known element part is_part sector parity.0 parity.1 image on
        ∙ same_sums v known element part is_part sector parity.0 parity.1 (cell_value v image element part sector) bytes (length part.places) (λ other under off. value_is other under) in
        let long : length (bytes parity.0) ≡ 512 = ap length (at_some image (site_at part.places parity.0 sector) own.0 own.1) ∙ are own.0.slot own.0.lba in
        sum_is part.places sector sites all image ∙ row_parts bytes (length part.places) parity.0 on ∙ ap (xor (bytes parity.0)) (sym sum) ∙ xor_with_itself (bytes parity.0) long

  pub redundant_by : ((element sector : ℕ) (part : Part) (sites : List Site) → slice_get v.parts element ≡ Some part → keeps_parity part.shape.layout ≡ true → sector < depth_of part.shape
      → whole_row part sector ≡ Some sites → sum_at image sites ≡ zeros) → IsRedundant v image
  redundant_by rows = redundant_if v image known are (record {
    equal_copies = equal;
    sum_to_zero = rows;
    mirrored_rows = λ mirrored block j k spot part cell sites is_spot is_part keep is_cell lacks others.
        let shape = known.are_parts spot.element part is_part in
        let within = cell_within part spot.block shape.shape_is k cell is_cell in
        let own = whole_site v whole spot.element part is_part keep cell.0 cell.1 (omega (arith, within, shape.has_places)) in
        absurd (differ (sym lacks ∙ own.1));
  })
    where
      differ : {x : Site} → None ≡ Some x → ⊥
      differ e = cc

  -- equal copies and right parity do
  pub made_redundant : HasRightParity v image → IsRedundant v image
  made_redundant right =
      redundant_by (λ element sector part sites is_part keep deep all. row_is_zero element sector part is_part keep sites all (λ position own is at. right element sector position part own is_part keep deep is at))
