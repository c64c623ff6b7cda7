-- An array of which a position lies elsewhere, where the same bytes stand: it is read as before.
use Rattle.std.proofs.Common.{◌≡◌, ◌∙◌, ◌⊎◌, inl, inr, ⊎_elim, ℕ, zero, suc, ◌+◌, ◌<◌, ◌≤◌, Bool, true, false, not, List, [], ◌∷◌, ◌++◌, Option, Some, None, refl, sym, ap, subst, map, length, slice_get, ◌&&◌}
use Rattle.std.proofs.Math.Path.{fun_ext}
use Rattle.std.specs.Prelude.{find, filter_map, is_some, nat_le, option_map, option_to_list, unwrap_or, ◌==◌, if◌then◌else◌}
use Rattle.std.specs.List.{count_by, flat_map, list_any, range_with_len}
use Rattle.std.proofs.lemmas.Bool.{false≢true}
use Rattle.std.proofs.lemmas.List.{map-append}
use Rattle.std.proofs.lemmas.Option.{none-some}
use Rattle.ddf_lemmas.proofs.Lists.{map_alike, not_empty, same_first}
use Rattle.ddf_lemmas.proofs.Options.{some_is}
use Rattle.ddf_bay.specs.Sectors.{Image}
use Rattle.ddf_parity.specs.Xor.{xor_all, zeros}
use Rattle.ddf_primary.specs.declared.need.Need.{Need}
use Rattle.ddf_primary.specs.declared.need.Need.TheVariants.{All, One, AllButOne, Neighbours}
use Rattle.ddf_primary.specs.Placement.{Placement}
use Rattle.ddf_primary.specs.Levels.{IsShape}
use Rattle.ddf_primary.specs.Needs.{need_by, one_of_each}
use Rattle.ddf_primary.specs.Cells.{depth_of}
use Rattle.ddf_primary.proofs.ShapeFacts.{cell_facts}
use Rattle.ddf_secondary.specs.declared.spot.Spot.{Spot}
use Rattle.ddf_secondary.specs.Spots.{spots}
use Rattle.ddf_config.specs.Within.{has_enough, has_enough_parts}
use Rattle.ddf_array.specs.declared.part.Part.{Part}
use Rattle.ddf_array.specs.declared.place.Place.{Place}
use Rattle.ddf_array.specs.declared.site.Site.{Site}
use Rattle.ddf_array.specs.Places.{is_available, site_at, site_on}
use Rattle.ddf_array.specs.Levels.{keeps_parity}
use Rattle.ddf_array.specs.Volume.{Volume, IsVolume, capacity}
use Rattle.ddf_array.specs.Cells.{block_spots, element_cells, is_in_every, spots_like}
use Rattle.ddf_array.specs.Within.{is_mirrored, is_part_within, is_within}
use Rattle.ddf_array.specs.Sources.{Source, copy, row, all_of, at_spot, copies, element_copies, element_rows, every_source, other_positions, row_without, rows, sources}
use Rattle.ddf_array.specs.Values.{bytes_at, given, sum_at, value}
use Rattle.ddf_array.specs.Redundant.{whole_row}
use Rattle.ddf_array.specs.Rows.{block_at, cell_value, data_positions, holds, row_sum, sources_without_block, value_without_block}
use Rattle.ddf_array.specs.Sound.{has_block}
use Rattle.ddf_array.proofs.LossLevels.{away}
use Rattle.ddf_cells.specs.CellSources.{is_parity, wanted}
use Rattle.ddf_cells.proofs.BlockOf.{cell_in}
use Rattle.ddf_data_array.specs.Changing.{changed_item}
use Rattle.ddf_data_array.specs.Moved.{HoldsTheSame, IsIdleParity, moved, part_moved, place_moved}
use Rattle.ddf_data_array.proofs.Idle.{data_apart, not_parity, row_none, whole_none}
use Rattle.ddf_data_array.proofs.Items.{changed_cases, changed_length}
use Rattle.ddf_data_array.proofs.Mapped.{all_or, any_same, count_same, each_same, first_same, flat_same, found_same}

-- ---- sources by the bytes that they give

module _ (image : Image) where
  abbrev bytes : Site → List ℕ
  bytes = bytes_at image

  given_copies : (sites : List Site) → map (given image) (map copy sites) ≡ map bytes sites
  given_copies [] = refl
  given_copies (one ∷ sites) = ap (λ l. bytes one ∷ l) (given_copies sites)

  given_rows : (all : List (List Site)) → map (given image) (map row all) ≡ map xor_all (map (map bytes) all)
  given_rows [] = refl
  given_rows (sites ∷ all) = ap (λ l. sum_at image sites ∷ l) (given_rows all)

  given_both : (sites : List Site) (all : List (List Site)) → map (given image) (map copy sites ++ map row all) ≡ map bytes sites ++ map xor_all (map (map bytes) all)
  given_both sites all =
      map-append (given image) (map copy sites) (map row all) ∙ ap (λ l. l ++ map (given image) (map row all)) (given_copies sites)
      ∙ ap (λ l. map bytes sites ++ l) (given_rows all)

  both_same : (sites sites' : List Site) (all all' : List (List Site)) → map bytes sites ≡ map bytes sites' → map (map bytes) all ≡ map (map bytes) all'
      → map (given image) (map copy sites ++ map row all) ≡ map (given image) (map copy sites' ++ map row all')
  both_same sites sites' all all' same_sites same_rows =
      given_both sites all ∙ ap (λ l. l ++ map xor_all (map (map bytes) all)) same_sites ∙ ap (λ l. map bytes sites' ++ map xor_all l) same_rows ∙ sym (given_both sites' all')

  listed_same : {Y Z : Type 0} (h : Y → Z) (o r : Option Y) → option_map h o ≡ option_map h r → map h (option_to_list o) ≡ map h (option_to_list r)
  listed_same h None None same = refl
  listed_same h None (Some b) same = absurd (none-some (h b) same)
  listed_same h (Some a) None same = absurd (none-some (h a) (sym same))
  listed_same h (Some a) (Some b) same = ap (λ z. z ∷ []) (some_is same)

  -- what a cell without a block is read as
  first_given : (xs ys : List Source) → map (given image) xs ≡ map (given image) ys → value_without_block image xs ≡ value_without_block image ys
  first_given [] [] same = refl
  first_given [] (b ∷ ys) same = absurd (not_empty (given image b) (map (given image) ys) same)
  first_given (a ∷ xs) [] same = absurd (not_empty (given image a) (map (given image) xs) (sym same))
  first_given (a ∷ xs) (b ∷ ys) same = same_first (given image a) (given image b) (map (given image) xs) (map (given image) ys) same

  without_rest : (b : Bool) (o r : Option Site) (rows rows' : Option (List Site)) → option_map bytes o ≡ option_map bytes r → option_map (map bytes) rows ≡ option_map (map bytes) rows'
      → value_without_block image (map copy (option_to_list o) ++ (if b then map row (option_to_list rows) else [])) ≡ value_without_block image (map copy (option_to_list r) ++ (if b then map row (option_to_list rows') else []))
  without_rest true o r rows rows' own others =
      first_given (map copy (option_to_list o) ++ map row (option_to_list rows)) (map copy (option_to_list r) ++ map row (option_to_list rows'))
      (both_same (option_to_list o) (option_to_list r) (option_to_list rows) (option_to_list rows') (listed_same bytes o r own) (listed_same (map bytes) rows rows' others))
  without_rest false o r rows rows' own others =
      first_given (map copy (option_to_list o) ++ []) (map copy (option_to_list r) ++ [])
      (both_same (option_to_list o) (option_to_list r) [] [] (listed_same bytes o r own) refl)

-- ---- an element of which each position is read as before, but for parity that tells nothing

module _ (v : Volume) (image : Image) where
  abbrev bytes_of : Site → List ℕ
  bytes_of = bytes_at image

  pub record IsReadAlike (f : ℕ) (part was : Part) : Type 0 where
    pub shape_is : part.shape ≡ was.shape
    pub many : length part.places ≡ length was.places
    pub sites : (position sector : ℕ) → sector < depth_of was.shape
        → (option_map (bytes_at image) (site_at part.places position sector) ≡ option_map (bytes_at image) (site_at was.places position sector)) ⊎ IsIdleParity v f was position sector
    pub available : map is_available part.places ≡ map is_available was.places
    pub outs : (position : ℕ) (place : Place) → slice_get part.places position ≡ Some place → place.synced ≡ false → slice_get was.places position ≡ Some place
    pub syncs : (position : ℕ) (place : Place) → slice_get part.places position ≡ Some place → (other : Place) × (slice_get was.places position ≡ Some other) × (place.synced ≡ other.synced)

  alike_itself : (f : ℕ) (part : Part) → IsReadAlike f part part
  alike_itself f part = record {
    shape_is = refl;
    many = refl;
    sites = λ position sector below. inl refl;
    available = refl;
    outs = λ position place at out. at;
    syncs = λ position place at. (place, at, refl);
  }

  module _ (f : ℕ) (part was : Part) (alike : IsReadAlike f part was) where
    pub lacks_same : count_by (λ place. not (is_available place)) part.places ≡ count_by (λ place. not (is_available place)) was.places
    lacks_same = count_same is_available part.places was.places alike.available

    lacks_now : 2 ≤ away was.places → 2 ≤ away part.places
    lacks_now lacks = subst (λ (n : ℕ). 2 ≤ n) (sym lacks_same) lacks

    -- a site as it was, or the element lacks two or more positions
    same_or : (position sector : ℕ) → sector < depth_of was.shape → (option_map bytes_of (site_at part.places position sector) ≡ option_map bytes_of (site_at was.places position sector)) ⊎ (2 ≤ away was.places)
    same_or position sector below = ⊎_elim (λ same. inl same) (λ idle. inr idle.lacks) (alike.sites position sector below)

    -- the site of a data cell
    data_same : (position sector : ℕ) → sector < depth_of was.shape → is_parity was position sector ≡ false → option_map bytes_of (site_at part.places position sector) ≡ option_map bytes_of (site_at was.places position sector)
    data_same position sector below is_data = ⊎_elim (λ same. same) (λ idle. absurd (false≢true (sym is_data ∙ idle.parity))) (alike.sites position sector below)

    pub whole_same : (sector : ℕ) → sector < depth_of was.shape → option_map (map bytes_of) (whole_row part sector) ≡ option_map (map bytes_of) (whole_row was sector)
    whole_same sector below =
        ⊎_elim
        (λ same. ap (λ n. option_map (map bytes_of) (all_of (map (λ position. site_at part.places position sector) (range_with_len 0 n)))) alike.many ∙ same)
        (λ lacks. ap (option_map (map bytes_of)) (whole_none part sector (lacks_now lacks) ∙ sym (whole_none was sector lacks)))
        (all_or bytes_of (λ position. site_at part.places position sector) (λ position. site_at was.places position sector) (range_with_len 0 (length was.places)) (λ position. same_or position sector below))

    row_same : (position sector : ℕ) → sector < depth_of was.shape → option_map (map bytes_of) (row_without part.places position sector) ≡ option_map (map bytes_of) (row_without was.places position sector)
    row_same position sector below =
        ⊎_elim
        (λ same. ap (λ n. option_map (map bytes_of) (all_of (map (λ other. site_at part.places other sector) (other_positions n position)))) alike.many ∙ same)
        (λ lacks. ap (option_map (map bytes_of)) (row_none part.places position sector (lacks_now lacks) ∙ sym (row_none was.places position sector lacks)))
        (all_or bytes_of (λ other. site_at part.places other sector) (λ other. site_at was.places other sector) (other_positions (length was.places) position) (λ other. same_or other sector below))

    pub without_same : (position sector : ℕ) → sector < depth_of was.shape → is_parity was position sector ≡ false → value_without_block image (sources_without_block part position sector) ≡ value_without_block image (sources_without_block was position sector)
    without_same position sector below is_data =
        ap (λ (s : Placement). value_without_block image (map copy (option_to_list (site_at part.places position sector)) ++ (if keeps_parity s.layout then map row (option_to_list (row_without part.places position sector)) else []))) alike.shape_is
        ∙ without_rest image (keeps_parity was.shape.layout) (site_at part.places position sector) (site_at was.places position sector) (row_without part.places position sector) (row_without was.places position sector)
        (data_same position sector below is_data) (row_same position sector below)

    module _ (shape : IsShape was.shape) where
      cell_deep : (block k : ℕ) (cell : ℕ × ℕ) → slice_get (element_cells was.shape block) k ≡ Some cell → cell.1 < depth_of was.shape
      cell_deep block k cell at = (cell_facts was.shape shape).sector_within cell.0 cell.1 block (cell_in was shape block k cell at)

      cell_data : (block k : ℕ) (cell : ℕ × ℕ) → slice_get (element_cells was.shape block) k ≡ Some cell → is_parity was cell.0 cell.1 ≡ false
      cell_data block k cell at = not_parity was cell.0 cell.1 (λ on. (cell_facts was.shape shape).no_parity cell.0 cell.1 block (cell_in was shape block k cell at) on)

      pub copies_same : (block : ℕ) → map bytes_of (element_copies part block) ≡ map bytes_of (element_copies was block)
      copies_same block =
          ap (λ (s : Placement). map bytes_of (filter_map (λ (cell : ℕ × ℕ). site_at part.places cell.0 cell.1) (element_cells s block))) alike.shape_is
          ∙ found_same bytes_of (λ (cell : ℕ × ℕ). site_at part.places cell.0 cell.1) (λ (cell : ℕ × ℕ). site_at was.places cell.0 cell.1) (element_cells was.shape block)
          (λ k cell at. data_same cell.0 cell.1 (cell_deep block k cell at) (cell_data block k cell at))

      rows_by : (b : Bool) (block : ℕ) → map (map bytes_of) (if b then filter_map (λ (cell : ℕ × ℕ). row_without part.places cell.0 cell.1) (element_cells was.shape block) else [])
          ≡ map (map bytes_of) (if b then filter_map (λ (cell : ℕ × ℕ). row_without was.places cell.0 cell.1) (element_cells was.shape block) else [])
      rows_by true block =
          found_same (map bytes_of) (λ (cell : ℕ × ℕ). row_without part.places cell.0 cell.1) (λ (cell : ℕ × ℕ). row_without was.places cell.0 cell.1) (element_cells was.shape block)
          (λ k cell at. row_same cell.0 cell.1 (cell_deep block k cell at))
      rows_by false block = refl

      pub rows_same : (block : ℕ) → map (map bytes_of) (element_rows part block) ≡ map (map bytes_of) (element_rows was block)
      rows_same block =
          ap (λ (s : Placement). map (map bytes_of) (if keeps_parity s.layout then filter_map (λ (cell : ℕ × ℕ). row_without part.places cell.0 cell.1) (element_cells s block) else [])) alike.shape_is
          ∙ rows_by (keeps_parity was.shape.layout) block

    enough_same : (need : Need) → has_enough need is_available part.places ≡ has_enough need is_available was.places
    enough_same All = each_same is_available part.places was.places alike.available
    enough_same One = any_same is_available part.places was.places alike.available
    enough_same AllButOne = ap (λ n. nat_le n 1) (count_same is_available part.places was.places alike.available)
    enough_same (Neighbours spread) = ap (one_of_each spread) alike.available

    pub within_same : is_part_within part ≡ is_part_within was
    within_same = ap (λ (s : Placement). has_enough (need_by s.layout) is_available part.places) alike.shape_is ∙ enough_same (need_by was.shape.layout)

  -- ---- the place that moved

  abbrev pub AreBoth : ℕ → Option Part → Option Part → Type 0
  AreBoth f None None = Unit {0}
  AreBoth f None (Some was) = ⊥
  AreBoth f (Some part) None = ⊥
  AreBoth f (Some part) (Some was) = IsReadAlike f part was

  both_themselves : (f : ℕ) (o : Option Part) → AreBoth f o o
  both_themselves f None = tt
  both_themselves f (Some part) = alike_itself f part

  module _ (p slot start : ℕ) where
    -- elements from one on, and their numbers
    both_in : (number : ℕ → ℕ) (e f : ℕ) (parts : List Part) → ((part : Part) → slice_get parts e ≡ Some part → IsReadAlike (number e) (part_moved p slot start part) part)
        → AreBoth (number f) (slice_get (changed_item (part_moved p slot start) e parts) f) (slice_get parts f)
    both_in number e f [] own = tt
    both_in number zero zero (part ∷ parts) own = own part refl
    both_in number zero (suc f) (part ∷ parts) own = both_themselves (number (suc f)) (slice_get parts f)
    both_in number (suc e) zero (part ∷ parts) own = alike_itself (number 0) part
    both_in number (suc e) (suc f) (part ∷ parts) own = both_in (λ n. number (suc n)) e f parts own

    parts_within : (number e : ℕ) (parts : List Part) → ((part : Part) → slice_get parts e ≡ Some part → IsReadAlike number (part_moved p slot start part) part)
        → map is_part_within (changed_item (part_moved p slot start) e parts) ≡ map is_part_within parts
    parts_within number e [] own = refl
    parts_within number zero (part ∷ parts) own = ap (λ b. b ∷ map is_part_within parts) (within_same number (part_moved p slot start part) part (own part refl))
    parts_within number (suc e) (part ∷ parts) own = ap (λ l. is_part_within part ∷ l) (parts_within number e parts own)

    -- a site of another position, or that of the one that moved
    site_other : (p : ℕ) (places : List Place) (sector q : ℕ) → (q ≡ p) ⊎ (option_map bytes_of (site_at (changed_item (place_moved slot start) p places) q sector) ≡ option_map bytes_of (site_at places q sector))
    site_other p [] sector q = inr refl
    site_other zero (place ∷ places) sector zero = inl refl
    site_other zero (place ∷ places) sector (suc q) = inr refl
    site_other (suc p) (place ∷ places) sector zero = inr refl
    site_other (suc p) (place ∷ places) sector (suc q) = ⊎_elim (λ same. inl (ap suc same)) (λ same. inr same) (site_other p places sector q)

    site_here : (synced : Bool) (o : Option ℕ) (old lba sector : ℕ) → synced ≡ true → o ≡ Some old → image slot (start + sector) ≡ image old lba
        → option_map bytes_of (if synced then option_map (λ s. site_on s (start + sector)) (Some slot) else None) ≡ option_map bytes_of (if synced then option_map (λ s. site_on s lba) o else None)
    site_here true None old lba sector is there same = absurd (none-some old there)
    site_here true (Some s) old lba sector is there same = ap Some (same ∙ ap (λ n. image n lba) (sym (some_is there)))
    site_here false o old lba sector is there same = absurd (false≢true is)

    sites_in : (p : ℕ) (places : List Place) (own : Place) (old sector : ℕ) → slice_get places p ≡ Some own → own.synced ≡ true → own.slot ≡ Some old → image slot (start + sector) ≡ image old (own.start + sector)
        → (q : ℕ) → option_map bytes_of (site_at (changed_item (place_moved slot start) p places) q sector) ≡ option_map bytes_of (site_at places q sector)
    sites_in p [] own old sector at is there same q = refl
    sites_in zero (place ∷ places) own old sector at is there same zero =
        let here : place ≡ own = some_is at in
        site_here place.synced place.slot old (place.start + sector) sector (ap (λ (x : Place). x.synced) here ∙ is) (ap (λ (x : Place). x.slot) here ∙ there)
        (same ∙ ap (λ (x : Place). image old (x.start + sector)) (sym here))
    sites_in zero (place ∷ places) own old sector at is there same (suc q) = refl
    sites_in (suc p) (place ∷ places) own old sector at is there same zero = refl
    sites_in (suc p) (place ∷ places) own old sector at is there same (suc q) = sites_in p places own old sector at is there same q

    there_by : (synced : Bool) (o : Option ℕ) (old : ℕ) → synced ≡ true → o ≡ Some old → (synced && true) ≡ (synced && is_some o)
    there_by synced None old is there = absurd (none-some old there)
    there_by synced (Some s) old is there = refl

    available_in : (p : ℕ) (places : List Place) (own : Place) (old : ℕ) → slice_get places p ≡ Some own → own.synced ≡ true → own.slot ≡ Some old
        → map is_available (changed_item (place_moved slot start) p places) ≡ map is_available places
    available_in p [] own old at is there = refl
    available_in zero (place ∷ places) own old at is there =
        let here : place ≡ own = some_is at in
        ap (λ b. b ∷ map is_available places) (there_by place.synced place.slot old (ap (λ (x : Place). x.synced) here ∙ is) (ap (λ (x : Place). x.slot) here ∙ there))
    available_in (suc p) (place ∷ places) own old at is there = ap (λ l. is_available place ∷ l) (available_in p places own old at is there)

-- ---- the array

module _ (v : Volume) (known : IsVolume v) (image : Image) (e p slot start : ℕ) (is : HoldsTheSame v image e p slot start) where
  abbrev now : Volume
  now = moved e p slot start v

  not_out : (b : Bool) → b ≡ true → b ≡ false → ⊥
  not_out b x y = cc

  moved_alike : IsReadAlike v image e (part_moved p slot start is.part) is.part
  moved_alike = record {
    shape_is = refl;
    many = changed_length (place_moved slot start) p is.part.places;
    sites = λ position sector below.
        ⊎_elim (λ same. inl (sites_in v image p slot start p is.part.places is.place is.old sector is.is_place is.is_synced is.is_there same position))
        (λ idle.
        ⊎_elim (λ own. inr (subst (λ (n : ℕ). IsIdleParity v e is.part n sector) (sym own) idle)) (λ same. inl same) (site_other v image p slot start p is.part.places sector position))
        (is.same sector below);
    available = available_in v image p slot start p is.part.places is.place is.old is.is_place is.is_synced is.is_there;
    outs = λ position place at out.
        ⊎_elim
        (λ changed.
        let own : is.place ≡ changed.item = some_is (sym is.is_place ∙ ap (slice_get is.part.places) (sym changed.same_place) ∙ changed.is_item) in
        absurd (not_out place.synced (ap (λ (x : Place). x.synced) changed.is_changed ∙ ap (λ (x : Place). x.synced) (sym own) ∙ is.is_synced) out))
        (λ other. other.1) (changed_cases (place_moved slot start) p is.part.places position place at);
    syncs = λ position place at.
        ⊎_elim (λ changed. (changed.item, changed.is_item, ap (λ (x : Place). x.synced) changed.is_changed)) (λ other. (place, other.1, refl))
        (changed_cases (place_moved slot start) p is.part.places position place at);
  }

  own_alike : (part : Part) → slice_get v.parts e ≡ Some part → IsReadAlike v image e (part_moved p slot start part) part
  own_alike part at = let same : is.part ≡ part = some_is (sym is.is_part ∙ at) in subst (λ (x : Part). IsReadAlike v image e (part_moved p slot start x) x) same moved_alike

  both : (f : ℕ) → AreBoth v image f (slice_get now.parts f) (slice_get v.parts f)
  both f = both_in v image p slot start (λ n. n) e f v.parts own_alike

  count_is : length now.parts ≡ length v.parts
  count_is = changed_length (part_moved p slot start) e v.parts

  was_by : (f : ℕ) (a b : Option Part) → AreBoth v image f a b → (part : Part) → a ≡ Some part → (was : Part) × (b ≡ Some was) × IsReadAlike v image f part was
  was_by f None b are part at = absurd (none-some part at)
  was_by f (Some a) None are part at = absurd are
  was_by f (Some a) (Some b) are part at = (b, refl, subst (λ (x : Part). IsReadAlike v image f x b) (some_is at) are)

  -- an element as it was
  pub was_of : (f : ℕ) (part : Part) → slice_get now.parts f ≡ Some part → (was : Part) × (slice_get v.parts f ≡ Some was) × IsReadAlike v image f part was
  was_of f part at = was_by f (slice_get now.parts f) (slice_get v.parts f) (both f) part at

  -- ---- sources

  spots_same : (block : ℕ) → block_spots now block ≡ block_spots v block
  spots_same block = ap (λ n. elim (slice_get (spots v.tiers) block) [ None ↦ [] | Some spot ↦ spots_like v.tiers.level n spot ]) count_is

  module _ {X Y : Type 0} (h : X → Y) (of_element : Part → ℕ → List X)
      (each : (f : ℕ) (part was : Part) → slice_get v.parts f ≡ Some was → IsReadAlike v image f part was → (inner : ℕ) → map h (of_element part inner) ≡ map h (of_element was inner)) where
    spot_by : (f inner : ℕ) (a b : Option Part) → slice_get v.parts f ≡ b → AreBoth v image f a b → map h (elim a [ None ↦ [] | Some part ↦ of_element part inner ]) ≡ map h (elim b [ None ↦ [] | Some part ↦ of_element part inner ])
    spot_by f inner None None at are = refl
    spot_by f inner None (Some b) at are = absurd are
    spot_by f inner (Some a) None at are = absurd are
    spot_by f inner (Some a) (Some b) at are = each f a b at are inner

    at_spots : (block : ℕ) → map h (flat_map (at_spot now.parts of_element) (block_spots now block)) ≡ map h (flat_map (at_spot v.parts of_element) (block_spots v block))
    at_spots block =
        ap (λ l. map h (flat_map (at_spot now.parts of_element) l)) (spots_same block)
        ∙ flat_same h (at_spot now.parts of_element) (at_spot v.parts of_element) (block_spots v block)
        (λ (spot : Spot). spot_by spot.element spot.block (slice_get now.parts spot.element) (slice_get v.parts spot.element) refl (both spot.element))

  shape_of : (f : ℕ) (was : Part) → slice_get v.parts f ≡ Some was → IsShape was.shape
  shape_of f was at = (known.are_parts f was at).shape_is

  copies_now : (block : ℕ) → map (bytes_at image) (copies now block) ≡ map (bytes_at image) (copies v block)
  copies_now block = at_spots (bytes_at image) element_copies (λ f part was at alike inner. copies_same v image f part was alike (shape_of f was at) inner) block

  rows_now : (block : ℕ) → map (map (bytes_at image)) (rows now block) ≡ map (map (bytes_at image)) (rows v block)
  rows_now block = at_spots (map (bytes_at image)) element_rows (λ f part was at alike inner. rows_same v image f part was alike (shape_of f was at) inner) block

  pub every_now : (block : ℕ) → map (given image) (every_source now block) ≡ map (given image) (every_source v block)
  every_now block = both_same image (copies now block) (copies v block) (rows now block) (rows v block) (copies_now block) (rows_now block)

  sources_by : (b : Bool) (block : ℕ) → map (given image) (if b then every_source now block else map copy (copies now block)) ≡ map (given image) (if b then every_source v block else map copy (copies v block))
  sources_by true block = every_now block
  sources_by false block = given_copies image (copies now block) ∙ copies_now block ∙ sym (given_copies image (copies v block))

  pub sources_now : (block : ℕ) → map (given image) (sources now block) ≡ map (given image) (sources v block)
  sources_now block = sources_by (not v.marked) block

  pub value_now : (block : ℕ) → value now image block ≡ value v image block
  value_now block = first_same (given image) (every_source now block) (every_source v block) (every_now block)

  -- ---- cells

  holds_by : (f q sector : ℕ) (all : List Spot) (a b : Option Part) → AreBoth v image f a b
      → list_any (λ (spot : Spot). spot.element == f && elim a [ None ↦ false | Some part ↦ list_any (λ (cell : ℕ × ℕ). cell.0 == q && cell.1 == sector) (element_cells part.shape spot.block) ]) all
      ≡ list_any (λ (spot : Spot). spot.element == f && elim b [ None ↦ false | Some part ↦ list_any (λ (cell : ℕ × ℕ). cell.0 == q && cell.1 == sector) (element_cells part.shape spot.block) ]) all
  holds_by f q sector all None None are = refl
  holds_by f q sector all None (Some b) are = absurd are
  holds_by f q sector all (Some a) None are = absurd are
  holds_by f q sector all (Some a) (Some b) are =
      ap (λ (s : Placement). list_any (λ (spot : Spot). spot.element == f && list_any (λ (cell : ℕ × ℕ). cell.0 == q && cell.1 == sector) (element_cells s spot.block)) all) are.shape_is

  holds_now : (f q sector block : ℕ) → holds now f q sector block ≡ holds v f q sector block
  holds_now f q sector block =
      ap (list_any (λ (spot : Spot). spot.element == f && elim (slice_get now.parts f) [ None ↦ false | Some part ↦ list_any (λ (cell : ℕ × ℕ). cell.0 == q && cell.1 == sector) (element_cells part.shape spot.block) ])) (spots_same block)
      ∙ holds_by f q sector (block_spots v block) (slice_get now.parts f) (slice_get v.parts f) (both f)

  pub block_now : (f q sector : ℕ) → block_at now f q sector ≡ block_at v f q sector
  block_now f q sector = ap (λ (test : ℕ → Bool). find test (range_with_len 0 (capacity v))) (fun_ext (holds_now f q sector))

  module _ (f : ℕ) (part was : Part) (alike : IsReadAlike v image f part was) where
    cell_by : (sector q : ℕ) → sector < depth_of was.shape → is_parity was q sector ≡ false → (found : Option ℕ)
        → ◌≡◌ {A = List ℕ} (elim found [ None ↦ value_without_block image (sources_without_block part q sector) | Some block ↦ unwrap_or (value now image block) zeros ])
        (elim found [ None ↦ value_without_block image (sources_without_block was q sector) | Some block ↦ unwrap_or (value v image block) zeros ])
    cell_by sector q below is_data None = without_same v image f part was alike q sector below is_data
    cell_by sector q below is_data (Some block) = ap (λ (o : Option (List ℕ)). unwrap_or o zeros) (value_now block)

    cell_now : (sector : ℕ) → sector < depth_of was.shape → (q : ℕ) → is_parity was q sector ≡ false → cell_value now image f part sector q ≡ cell_value v image f was sector q
    cell_now sector below q is_data =
        ap (λ (found : Option ℕ). elim found [ None ↦ value_without_block image (sources_without_block part q sector) | Some block ↦ unwrap_or (value now image block) zeros ]) (block_now f q sector)
        ∙ cell_by sector q below is_data (block_at v f q sector)

    pub sum_now : (sector : ℕ) → sector < depth_of was.shape → row_sum now image f part sector ≡ row_sum v image f was sector
    sum_now sector below =
        ap (λ (s : Placement). xor_all (map (cell_value now image f part sector) (data_positions s sector))) alike.shape_is
        ∙ ap xor_all
        (map_alike (cell_value now image f part sector) (cell_value v image f was sector) (data_positions was.shape sector) (λ k q at. cell_now sector below q (data_apart was sector k q at)))

    wanted_by : (b : Bool) (sector q : ℕ) → sector < depth_of was.shape → is_parity was q sector ≡ b
        → (if b then row_sum now image f part sector else cell_value now image f part sector q) ≡ (if b then row_sum v image f was sector else cell_value v image f was sector q)
    wanted_by true sector q below is_it = sum_now sector below
    wanted_by false sector q below is_data = cell_now sector below q is_data

    parity_is : (q sector : ℕ) → is_parity part q sector ≡ is_parity was q sector
    parity_is q sector = ap (λ (s : Placement). is_parity (record part { shape = s }) q sector) alike.shape_is

    pub wanted_now : (sector q : ℕ) → sector < depth_of was.shape → wanted now image f part sector q ≡ wanted v image f was sector q
    wanted_now sector q below =
        ap (λ b. if b then row_sum now image f part sector else cell_value now image f part sector q) (parity_is q sector)
        ∙ wanted_by (is_parity was q sector) sector q below refl

    pub has_now : (sector : ℕ) → has_block now f part sector ≡ has_block v f was sector
    has_now sector =
        ap (λ (s : Placement). list_any (λ position. is_some (block_at now f position sector)) (data_positions s sector)) alike.shape_is
        ∙ ap (λ (found : ℕ → Option ℕ). list_any (λ position. is_some (found position)) (data_positions was.shape sector)) (fun_ext (λ (q : ℕ). block_now f q sector))

  -- ---- its level

  parts_by : (b : Bool) → has_enough_parts b is_part_within now.parts ≡ has_enough_parts b is_part_within v.parts
  parts_by true = any_same is_part_within now.parts v.parts (parts_within v image p slot start e e v.parts own_alike)
  parts_by false = each_same is_part_within now.parts v.parts (parts_within v image p slot start e e v.parts own_alike)

  pub within_now : is_within now ≡ is_within v
  within_now = ap (λ n. has_enough_parts (is_in_every v.tiers.level && nat_le 2 n) is_part_within now.parts) count_is ∙ parts_by (is_mirrored v)
