-- What lies beside blocks, and what an array gives of it, doesn't depend on its mark, nor on the rows that were rebuilt.
use Rattle.std.proofs.Common.{◌≡◌, ◌∙◌, inl, inr, ⊎_elim, ℕ, zero, suc, ◌+◌, ◌-◌, ◌%◌, ◌<◌, Bool, false, List, [], ◌∷◌, ◌++◌, Option, Some, None, refl, sym, ap, subst, length, map, find, max, slice_get}
use Rattle.std.proofs.Math.Path.{fun_ext}
use Rattle.std.proofs.lemmas.List.{length-map}
use Rattle.std.specs.Prelude.{◌&&◌, ◌==◌, ◌||◌, filter_map, fold, option_map, option_to_list, unwrap_or, if◌then◌else◌}
use Rattle.std.specs.List.{flat_map, list_any, range_with_len}
use Rattle.ddf_lemmas.proofs.Lists.{in_map, mapped_at}
use Rattle.ddf_bay.specs.Sectors.{Image}
use Rattle.ddf_parity.specs.Xor.{zeros}
use Rattle.ddf_secondary.specs.declared.spot.Spot.{Spot}
use Rattle.ddf_secondary.specs.Spots.{spots}
use Rattle.ddf_array.specs.declared.part.Part.{Part}
use Rattle.ddf_array.specs.declared.place.Place.{Place}
use Rattle.ddf_array.specs.declared.site.Site.{Site}
use Rattle.ddf_array.specs.Cells.{block_spots, element_cells, spots_like}
use Rattle.ddf_array.specs.Levels.{keeps_parity}
use Rattle.ddf_array.specs.Places.{site_at}
use Rattle.ddf_array.specs.Redundant.{IsRedundant, whole_row}
use Rattle.ddf_array.specs.Rows.{block_at, cell_value, holds, sources_without_block, value_without_block}
use Rattle.ddf_array.specs.Sources.{Source, copy, row, all_of, at_spot, copies, element_copies, element_rows, every_source, other_positions, row_without, rows}
use Rattle.ddf_array.specs.Values.{given, value}
use Rattle.ddf_array.specs.Volume.{Volume, capacity}
use Rattle.ddf_read.specs.Reading.{IsOn, NoneLeft}
use Rattle.ddf_cells.specs.Alike.{IsCell}
use Rattle.ddf_write.specs.declared.beside.Beside.{Beside}
use Rattle.ddf_write.specs.Beside.{HoldsNone, IsDataCell, NoneLeftBeside, sources_beside}
use Rattle.ddf_write.specs.Keeping.{AllAreKept, AreTheirValues, Keeping}
use Rattle.ddf_write.specs.Looking.{ArePiecesKept, EndWithStripes, IsSplit, LiesBeside, blocks_of_stripes, in_stripes_of, no_more, one_more, piece_blocks, piece_of}
use Rattle.ddf_write.specs.RowWrites.{IsSure, keeps_parity_anywhere, keeps_parity_in}
use Rattle.ddf_write.specs.Writing.{IsTouched}
use Rattle.ddf_write_commands.proofs.Marked.{cleared, cleared_place, with_mark}

-- ---- places

site_same : (places : List Place) (position sector : ℕ) → site_at (map cleared_place places) position sector ≡ site_at places position sector
site_same [] position sector = refl
site_same (place ∷ places) zero sector = refl
site_same (place ∷ places) (suc position) sector = site_same places position sector

sites_same : (places : List Place) → site_at (map cleared_place places) ≡ site_at places
sites_same places = fun_ext (λ position. fun_ext (λ sector. site_same places position sector))

row_same : (places : List Place) (position sector : ℕ) → row_without (map cleared_place places) position sector ≡ row_without places position sector
row_same places position sector =
    ap (λ (n : ℕ). all_of (map (λ other. site_at (map cleared_place places) other sector) (other_positions n position))) (length-map places cleared_place)
    ∙ ap (λ (at : ℕ → ℕ → Option Site). all_of (map (λ other. at other sector) (other_positions (length places) position))) (sites_same places)

rows_same : (places : List Place) → row_without (map cleared_place places) ≡ row_without places
rows_same places = fun_ext (λ position. fun_ext (λ sector. row_same places position sector))

-- ---- elements

module _ (part : Part) where
  copies_of : (inner : ℕ) → element_copies (cleared part) inner ≡ element_copies part inner
  copies_of inner = ap (λ (at : ℕ → ℕ → Option Site). filter_map (λ (cell : ℕ × ℕ). at cell.0 cell.1) (element_cells part.shape inner)) (sites_same part.places)

  rows_of : (inner : ℕ) → element_rows (cleared part) inner ≡ element_rows part inner
  rows_of inner =
      ap (λ (at : ℕ → ℕ → Option (List Site)). if keeps_parity part.shape.layout then filter_map (λ (cell : ℕ × ℕ). at cell.0 cell.1) (element_cells part.shape inner) else [])
      (rows_same part.places)

  whole_of : (sector : ℕ) → whole_row (cleared part) sector ≡ whole_row part sector
  whole_of sector =
      ap (λ (n : ℕ). all_of (map (λ position. site_at (map cleared_place part.places) position sector) (range_with_len 0 n))) (length-map part.places cleared_place)
      ∙ ap (λ (at : ℕ → ℕ → Option Site). all_of (map (λ position. at position sector) (range_with_len 0 (length part.places)))) (sites_same part.places)

  pub without_of : (position sector : ℕ) → sources_without_block (cleared part) position sector ≡ sources_without_block part position sector
  without_of position sector =
      ap
      (λ (one : Option Site).
      map copy (option_to_list one) ++ (if keeps_parity part.shape.layout then map row (option_to_list (row_without (map cleared_place part.places) position sector)) else []))
      (site_same part.places position sector)
      ∙ ap
      (λ (all : Option (List Site)). map copy (option_to_list (site_at part.places position sector)) ++ (if keeps_parity part.shape.layout then map row (option_to_list all) else []))
      (row_same part.places position sector)

at_same : {X : Type 0} (of : Part → ℕ → List X) → ((part : Part) (inner : ℕ) → of (cleared part) inner ≡ of part inner) → (parts : List Part) (element inner : ℕ)
    → ◌≡◌ {A = List X} (elim (slice_get (map cleared parts) element) [ None ↦ [] | Some part ↦ of part inner ]) (elim (slice_get parts element) [ None ↦ [] | Some part ↦ of part inner ])
at_same of same [] element inner = refl
at_same of same (part ∷ parts) zero inner = same part inner
at_same of same (part ∷ parts) (suc element) inner = at_same of same parts element inner

-- a cell of an element that holds a block of it
abbrev holds_in : List Part → (element position sector inner : ℕ) → Bool
holds_in parts element position sector inner = elim (slice_get parts element) [
  | None ↦ false
  | Some part ↦ list_any (λ (cell : ℕ × ℕ). cell.0 == position && cell.1 == sector) (element_cells part.shape inner)
]

holds_in_same : (parts : List Part) (element position sector inner : ℕ) → holds_in (map cleared parts) element position sector inner ≡ holds_in parts element position sector inner
holds_in_same [] element position sector inner = refl
holds_in_same (part ∷ parts) zero position sector inner = refl
holds_in_same (part ∷ parts) (suc element) position sector inner = holds_in_same parts element position sector inner

any_parity : (parts : List Part) → list_any keeps_parity_in (map cleared parts) ≡ list_any keeps_parity_in parts
any_parity [] = refl
any_parity (part ∷ parts) = ap (λ (b : Bool). keeps_parity_in part || b) (any_parity parts)

stripes_same : (blocks : ℕ) (parts : List Part) → fold in_stripes_of blocks (map cleared parts) ≡ fold in_stripes_of blocks parts
stripes_same blocks [] = refl
stripes_same blocks (part ∷ parts) = stripes_same (in_stripes_of blocks part) parts

-- ---- the array

module _ (v : Volume) where
  abbrev w : Volume
  w = with_mark v

  spots_same : (block : ℕ) → block_spots w block ≡ block_spots v block
  spots_same block =
      ap (λ (n : ℕ). elim (slice_get (spots v.tiers) block) [ None ↦ [] | Some spot ↦ spots_like v.tiers.level n spot ]) (length-map v.parts cleared)

  copies_same : (block : ℕ) → copies w block ≡ copies v block
  copies_same block =
      ap (λ (at : Spot → List Site). flat_map at (block_spots w block)) (fun_ext (λ (spot : Spot). at_same element_copies copies_of v.parts spot.element spot.block))
      ∙ ap (flat_map (at_spot v.parts element_copies)) (spots_same block)

  all_rows_same : (block : ℕ) → rows w block ≡ rows v block
  all_rows_same block =
      ap (λ (at : Spot → List (List Site)). flat_map at (block_spots w block)) (fun_ext (λ (spot : Spot). at_same element_rows rows_of v.parts spot.element spot.block))
      ∙ ap (flat_map (at_spot v.parts element_rows)) (spots_same block)

  pub every_same : (block : ℕ) → every_source w block ≡ every_source v block
  every_same block =
      ap (λ (all : List Site). map copy all ++ map row (rows w block)) (copies_same block)
      ∙ ap (λ (all : List (List Site)). map copy (copies v block) ++ map row all) (all_rows_same block)

  value_same : (image : Image) (block : ℕ) → value w image block ≡ value v image block
  value_same image block = ap (λ (all : List Source). option_map (given image) (slice_get all 0)) (every_same block)

  holds_same : (element position sector block : ℕ) → holds w element position sector block ≡ holds v element position sector block
  holds_same element position sector block =
      ap (λ (test : Spot → Bool). list_any test (block_spots w block))
      (fun_ext (λ (spot : Spot). ap (λ (b : Bool). spot.element == element && b) (holds_in_same v.parts element position sector spot.block)))
      ∙ ap (list_any (λ (spot : Spot). spot.element == element && holds_in v.parts element position sector spot.block)) (spots_same block)

  pub block_same : (element position sector : ℕ) → block_at w element position sector ≡ block_at v element position sector
  block_same element position sector =
      ap (λ (test : ℕ → Bool). find test (range_with_len 0 (capacity v))) (fun_ext (λ (block : ℕ). holds_same element position sector block))

  cell_value_same : (image : Image) (element : ℕ) (part : Part) (position sector : ℕ) → cell_value w image element (cleared part) sector position ≡ cell_value v image element part sector position
  cell_value_same image element part position sector =
      ap
      (λ (found : Option ℕ). elim found [
        | None ↦ value_without_block image (sources_without_block (cleared part) position sector)
        | Some block ↦ unwrap_or (value w image block) zeros
      ]) (block_same element position sector)
      ∙ by (block_at v element position sector)
    where
      by : (found : Option ℕ)
          → ◌≡◌ {A = List ℕ}
          (elim found [ None ↦ value_without_block image (sources_without_block (cleared part) position sector) | Some block ↦ unwrap_or (value w image block) zeros ])
          (elim found [ None ↦ value_without_block image (sources_without_block part position sector) | Some block ↦ unwrap_or (value v image block) zeros ])
      by None = ap (value_without_block image) (without_of part position sector)
      by (Some block) = ap (λ (o : Option (List ℕ)). unwrap_or o zeros) (value_same image block)

  beside_sources_same : (element : ℕ) (part : Part) (position sector : ℕ) → sources_beside w element (cleared part) position sector ≡ sources_beside v element part position sector
  beside_sources_same element part position sector =
      ap
      (λ (found : Option ℕ). elim found [
        | None ↦ sources_without_block (cleared part) position sector
        | Some block ↦ every_source w block
      ]) (block_same element position sector)
      ∙ by (block_at v element position sector)
    where
      by : (found : Option ℕ)
          → ◌≡◌ {A = List Source}
          (elim found [ None ↦ sources_without_block (cleared part) position sector | Some block ↦ every_source w block ])
          (elim found [ None ↦ sources_without_block part position sector | Some block ↦ every_source v block ])
      by None = without_of part position sector
      by (Some block) = every_same block

  -- ---- cells

  cell_on : (element : ℕ) (part : Part) (position sector : ℕ) → IsDataCell v element part position sector → IsDataCell w element (cleared part) position sector
  cell_on element part position sector is = record {
    is_part = mapped_at cleared v.parts element part is.is_part;
    keeps = is.keeps;
    is_position = subst (λ (n : ℕ). position < n) (sym (length-map part.places cleared_place)) is.is_position;
    below = is.below;
    is_data = is.is_data;
  }

  cell_back : (element : ℕ) (part : Part) (position sector : ℕ) → IsDataCell w element part position sector → (own : Part) × (cleared own ≡ part) × IsDataCell v element own position sector
  cell_back element part position sector is =
      let at = in_map cleared v.parts element part is.is_part in
      let own : IsDataCell w element (cleared at.0) position sector = subst (λ (one : Part). IsDataCell w element one position sector) (sym at.2) is in (
        at.0,
        at.2,
        record {
          is_part = at.1;
          keeps = own.keeps;
          is_position = subst (λ (n : ℕ). position < n) (length-map at.0.places cleared_place) own.is_position;
          below = own.below;
          is_data = own.is_data;
        },
      )

  touched_back : (start count element sector : ℕ) → IsTouched w start count element sector → IsTouched v start count element sector
  touched_back start count element sector is = record { position = is.position; k = is.k; below = is.below; holds_it = sym (block_same element is.position sector) ∙ is.holds_it }

  abbrev touched_on : (start count element sector : ℕ) → IsTouched v start count element sector → IsTouched w start count element sector
  touched_on start count element sector is = record { position = is.position; k = is.k; below = is.below; holds_it = block_same element is.position sector ∙ is.holds_it }

  none_back : (start count element position sector : ℕ) → HoldsNone w start count element position sector → HoldsNone v start count element position sector
  none_back start count element position sector none k below same = none k below (block_same element position sector ∙ same)

  none_on : (start count element position sector : ℕ) → HoldsNone v start count element position sector → HoldsNone w start count element position sector
  none_on start count element position sector none k below same = none k below (sym (block_same element position sector) ∙ same)

  -- ---- what lies beside blocks

  all_marked : (start count : ℕ) (kept : Keeping) → AllAreKept v start count kept → AllAreKept w start count kept
  all_marked start count kept all element part position sector beside =
      let own = cell_back element part position sector beside.is_cell in
      all element own.0 position sector
      (record { is_cell = own.2; touched = touched_back start count element sector beside.touched; holds_none = none_back start count element position sector beside.holds_none })

  pieces_marked : (start count each ahead : ℕ) (kept : Keeping) (at : ℕ) → ArePiecesKept v start count each ahead kept at → ArePiecesKept w start count each ahead kept at
  pieces_marked start count each ahead kept at (no_more n end) = no_more n end
  pieces_marked start count each ahead kept at (one_more n some all rest) =
      one_more n some (all_marked (start + n) (piece_of each ahead n (count - n)) kept all) (pieces_marked start count each ahead kept (n + piece_of each ahead n (count - n)) rest)

  pub parity_same : keeps_parity_anywhere w ≡ keeps_parity_anywhere v
  parity_same = any_parity v.parts

  split_marked : (start count each ahead : ℕ) → IsSplit v start count each ahead → IsSplit w start count each ahead
  split_marked start count each ahead split = record {
    element = split.element;
    part = cleared split.part;
    is_part = mapped_at cleared v.parts split.element split.part split.is_part;
    keeps = split.keeps;
    sector = split.sector;
    one = touched_on start count split.element split.sector split.one;
    other = touched_on start count split.element split.sector split.other;
    differ = split.differ;
  }

  ends_marked : (start count each ahead : ℕ) → EndWithStripes v start count each ahead → EndWithStripes w start count each ahead
  ends_marked start count each ahead ends =
      let same : piece_blocks w ≡ piece_blocks v = ap blocks_of_stripes (stripes_same 1 v.parts) in
      ⊎_elim (λ (stripes : (each ≡ piece_blocks v) × _). inl (stripes.0 ∙ sym same, stripes.1))
      (λ (one : IsSplit v start count (piece_blocks v) (start % piece_blocks v) × (each ≡ max 1 count) × (ahead ≡ 0)).
      inr (subst (λ (n : ℕ). IsSplit w start count n (start % n)) (sym same) (split_marked start count (piece_blocks v) (start % piece_blocks v) one.0), one.1, one.2)) ends

  pub lies_marked : (start count : ℕ) (beside : Beside) → LiesBeside v start count beside → LiesBeside w start count beside
  lies_marked start count beside lies = record {
    some = lies.some;
    some_first = lies.some_first;
    plain = λ none. lies.plain (sym parity_same ∙ none);
    stripes = λ keeps. ends_marked start count beside.each beside.ahead (lies.stripes (sym parity_same ∙ keeps));
    all_kept = pieces_marked start count beside.each beside.ahead beside.kept 0 lies.all_kept;
    keeps_none = λ element position sector bytes is. none_on start count element position sector (lies.keeps_none element position sector bytes is);
  }

  pub values_marked : (image : Image) (kept : Keeping) → AreTheirValues v image kept → AreTheirValues w image kept
  values_marked image kept values element part position sector bytes cell is =
      let own = cell_back element part position sector cell in
      subst (λ (one : Part). bytes ≡ cell_value w image element one sector position) own.1
      (values element own.0 position sector bytes own.2 is ∙ sym (cell_value_same image element own.0 position sector))

  pub left_marked : (failed : ℕ → Type 0) (start count slot : ℕ) → NoneLeftBeside failed v start count slot → NoneLeftBeside failed w start count slot
  left_marked failed start count slot left = record {
    element = left.element;
    part = cleared left.part;
    position = left.position;
    sector = left.sector;
    is_beside = record {
      is_cell = cell_on left.element left.part left.position left.sector left.is_beside.is_cell;
      touched = touched_on start count left.element left.sector left.is_beside.touched;
      holds_none = none_on start count left.element left.position left.sector left.is_beside.holds_none;
    };
    none_left = subst (λ (all : List Source). NoneLeft failed all slot) (sym (beside_sources_same left.element left.part left.position left.sector)) left.none_left;
  }

  -- ---- what is sure

  on_marked : (slot : ℕ) → IsOn v slot → IsOn w slot
  on_marked slot on = record {
    element = on.element;
    position = on.position;
    part = cleared on.part;
    place = cleared_place on.place;
    is_part = mapped_at cleared v.parts on.element on.part on.is_part;
    is_place = mapped_at cleared_place on.part.places on.position on.place on.is_place;
    is_synced = on.is_synced;
    is_there = on.is_there;
  }

  sector_marked : (slot lba : ℕ) → IsCell v slot lba → IsCell w slot lba
  sector_marked slot lba cell = record {
    element = cell.element;
    position = cell.position;
    sector = cell.sector;
    part = cleared cell.part;
    is_part = mapped_at cleared v.parts cell.element cell.part cell.is_part;
    below = cell.below;
    is_site = site_same cell.part.places cell.position cell.sector ∙ cell.is_site;
  }

  redundant_back : (image : Image) → IsRedundant w image → IsRedundant v image
  redundant_back image is = record {
    agree = λ block k source at.
        sym (value_same image block) ∙ is.agree block k source (subst (λ (all : List Source). slice_get all k ≡ Some source) (sym (every_same block)) at);
    sum_to_zero = λ element sector part sites at keeps below whole.
        is.sum_to_zero element sector (cleared part) sites (mapped_at cleared v.parts element part at) keeps below (whole_of part sector ∙ whole);
  }

  pub sure_unmarked : (failed : ℕ → Type 0) (image : Image) → IsSure failed w image → IsSure failed v image
  sure_unmarked failed image (inl none) = inl (λ slot on. none slot (on_marked slot on))
  sure_unmarked failed image (inr (sectors, redundant)) = inr (λ slot lba cell. sectors slot lba (sector_marked slot lba cell), redundant_back image redundant)
