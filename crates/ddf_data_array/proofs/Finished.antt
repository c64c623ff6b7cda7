-- An array keeps what it keeps with a position in sync again.
use Rattle.std.proofs.Common.{◌≡◌, ◌≢◌, ◌∙◌, ⊎_elim, ℕ, zero, suc, ◌+◌, ◌/◌, ◌<◌, ◌≤◌, Bool, true, false, List, [], ◌∷◌, ◌++◌, Option, Some, None, refl, sym, ap, subst, arith, map, length, slice_get, ◌&&◌}
use Rattle.std.proofs.Math.Path.{fun_ext}
use Rattle.std.specs.Prelude.{find, is_some, option_map, option_and_then, option_to_list, unwrap_or, ◌==◌, if◌then◌else◌}
use Rattle.std.specs.List.{range_with_len, list_any}
use Rattle.std.proofs.lemmas.Bool.{cases_eq, cases_lt, eq-eqb, ne_eqb}
use Rattle.std.proofs.lemmas.Option.{slice_get_within}
use Rattle.std.proofs.lemmas.Map.Keys.{any_passes_from_place}
use Rattle.ddf_lemmas.proofs.Lists.{at_first, map_alike, slice_get-range}
use Rattle.ddf_lemmas.proofs.Options.{none_some, some_from_is_some}
use Rattle.ddf_bay.specs.Sectors.{Image}
use Rattle.ddf_parity.specs.Xor.{xor_all, zeros}
use Rattle.ddf_primary.specs.Placement.{Placement}
use Rattle.ddf_primary.specs.Cells as primary
use Rattle.ddf_primary.specs.Cells.{depth_of, parity_member}
use Rattle.ddf_primary.proofs.ShapeFacts.{cell_facts}
use Rattle.ddf_primary.proofs.Needs.{some_parity}
use Rattle.ddf_secondary.specs.declared.spot.Spot.{Spot}
use Rattle.ddf_array.specs.declared.part.Part.{Part}
use Rattle.ddf_array.specs.declared.place.Place.{Place}
use Rattle.ddf_array.specs.declared.site.Site.{Site}
use Rattle.ddf_array.specs.Places.{site, site_at}
use Rattle.ddf_array.specs.Levels.{keeps_parity}
use Rattle.ddf_array.specs.Volume.{Volume, IsVolume, capacity}
use Rattle.ddf_array.specs.Cells.{element_cells, block_spots}
use Rattle.ddf_array.specs.Within.{is_within}
use Rattle.ddf_array.specs.Sources.{Source, copy, row, all_of, other_positions, row_without, every_source}
use Rattle.ddf_array.specs.Values.{bytes_at, sum_at, given, value}
use Rattle.ddf_array.specs.Redundant.{IsRedundant, whole_row}
use Rattle.ddf_array.specs.Rows.{holds, block_at, cell_value, data_positions, row_sum, sources_without_block, value_without_block}
use Rattle.ddf_array.specs.Sound.{AreSectors, HasParity, has_block}
use Rattle.ddf_array.proofs.Enough.{has_source}
use Rattle.ddf_array.proofs.LossLevels.{away}
use Rattle.ddf_array.proofs.Losses.{all_keep}
use Rattle.ddf_cells.specs.CellSources.{wanted}
use Rattle.ddf_cells.proofs.BlockOf.{cell_in}
use Rattle.ddf_rebuild.specs.Target.{IsOut}
use Rattle.ddf_data_array.specs.Changing.{changed_item, place_in_sync, part_in_sync, in_sync}
use Rattle.ddf_data_array.proofs.From.{Gives, IsFrom, HasCell, made_of, source_from, source_to}
use Rattle.ddf_data_array.proofs.Lessened.{first_item, found_below}
use Rattle.ddf_data_array.proofs.Totals.{data_at, is_data, with_sum}
use Rattle.ddf_data_array.proofs.Sitting.{block_at_is, cell_deep}
use Rattle.ddf_data_array.proofs.Items.{changed_at, changed_length, few_away, is_there, item_there, lies_at, row_away, site_cases, site_stays, unchanged_at}
use Rattle.ddf_data_array.proofs.InSync.{away_less, block_value, count_is, holds_now, par_below, parity_right, part_cases, row_gives, row_is_there, spots_same, whole_zero}

abbrev in_cells : (position sector block : ℕ) → Placement → Bool
in_cells position sector block shape = list_any (λ (cell : ℕ × ℕ). cell.0 == position && cell.1 == sector) (element_cells shape block)

-- something of the shapes of elements stays
shapes_stay : {Y : Type 0} (none : Y) (g : Placement → Y) (p e : ℕ) (parts : List Part) (f : ℕ)
    → ◌≡◌ {A = Y} (elim (slice_get (changed_item (part_in_sync p) e parts) f) [ None ↦ none | Some part ↦ g part.shape ]) (elim (slice_get parts f) [ None ↦ none | Some part ↦ g part.shape ])
shapes_stay none g p e [] f = refl
shapes_stay none g p zero (part ∷ parts) zero = refl
shapes_stay none g p zero (part ∷ parts) (suc f) = refl
shapes_stay none g p (suc e) (part ∷ parts) zero = refl
shapes_stay none g p (suc e) (part ∷ parts) (suc f) = shapes_stay none g p e parts f

module _ (v : Volume) (known : IsVolume v) (image : Image) (are : AreSectors image) (is : IsRedundant v image) (within : is_within v ≡ true) (e p : ℕ) (target : IsOut v e p)
    (is_absent : ℕ → ℕ → Bool) (has : HasParity is_absent v image) (none : (other : ℕ) → is_absent e other ≡ false)
    (rebuilt : (sector : ℕ) (one : Site) → sector < depth_of target.part.shape → lies_at target.part.places p sector ≡ Some one → bytes_at image one ≡ wanted v image e target.part sector p) where
  abbrev new : Part
  new = part_in_sync p target.part

  abbrev now : Volume
  now = in_sync e p v

  -- ---- what could be read still can

  up_gives : (q : Part) (cell : ℕ × ℕ) (source : Source) → q ≡ target.part → Gives q cell source → Gives new cell source
  up_gives q cell (copy one) same gives =
      site_stays target.part.places p target.place target.is_target.is_place target.is_target.is_out cell.1 cell.0 one (subst (λ (x : Part). site_at x.places cell.0 cell.1 ≡ Some one) same gives)
  up_gives q cell (row sites) same gives = (
    ap (λ (x : Part). keeps_parity x.shape.layout) (sym same) ∙ gives.0,
    ap (λ (n : ℕ). all_of (map (λ other. site_at new.places other cell.1) (other_positions n cell.0))) (changed_length place_in_sync p target.part.places)
        ∙ all_keep (λ other. site_at target.part.places other cell.1) (λ other. site_at new.places other cell.1)
        (λ other one h. site_stays target.part.places p target.place target.is_target.is_place target.is_target.is_out cell.1 other one h) (other_positions (length target.part.places) cell.0) sites
        (ap (λ (x : Part). row_without x.places cell.0 cell.1) (sym same) ∙ gives.1),
  )

  same_part : (o : Option Part) (one other : Part) → o ≡ Some one → o ≡ Some other → one ≡ other
  same_part None one other a b = absurd (cc)
  same_part (Some q) one other a b = cc

  up : (block : ℕ) (source : Source) → IsFrom v block source → IsFrom now block source
  up block source from =
      ⊎_elim
      (λ here.
      let same = same_part (slice_get v.parts e) from.part target.part (ap (slice_get v.parts) (sym here) ∙ from.is_part) target.is_target.is_part in
      record {
        j = from.j;
        spot = from.spot;
        is_spot = ap (λ (l : List Spot). slice_get l from.j) (spots_same v known image are is within e p target block) ∙ from.is_spot;
        part = new;
        is_part = ap (slice_get now.parts) here ∙ changed_at (part_in_sync p) e v.parts target.part target.is_target.is_part;
        i = from.i;
        cell = from.cell;
        is_cell = ap (λ (x : Part). slice_get (element_cells x.shape from.spot.block) from.i) (sym same) ∙ from.is_cell;
        gives = up_gives from.part from.cell source same from.gives;
      })
      (λ other. record {
        j = from.j;
        spot = from.spot;
        is_spot = ap (λ (l : List Spot). slice_get l from.j) (spots_same v known image are is within e p target block) ∙ from.is_spot;
        part = from.part;
        is_part = unchanged_at (part_in_sync p) e v.parts from.spot.element from.part other from.is_part;
        i = from.i;
        cell = from.cell;
        is_cell = from.is_cell;
        gives = from.gives;
      })
      (cases_eq from.spot.element e)

  -- ---- what can be read is the block's value

  -- the parity of a row with a block
  parity_sum : (sector : ℕ) (deep : sector < depth_of target.part.shape) (par : ℕ) (par_is : parity_member target.part.shape (sector / target.part.shape.strip) ≡ Some par)
      → has_block v e target.part sector ≡ true → par ≢ p → (one : Site) → site_at target.part.places par sector ≡ Some one → bytes_at image one ≡ row_sum v image e target.part sector
  parity_sum sector deep par par_is block apart one at =
      ⊎_elim
      (λ few.
      let there = some_from_is_some (row_without target.part.places p sector) (row_is_there target.part.places p target.place target.is_target.is_place target.is_target.is_out (omega (arith, few)) sector) in
      parity_right v known image are is within e p target sector deep par par_is there.0 there.1 apart one at)
      (λ many. has e sector par target.part one target.is_target.is_part (omega (arith, many)) none par_is deep at block)
      (cases_lt (away target.part.places) 2)

  module _ (block : ℕ) (source : Source) (from : IsFrom now block source) (here : from.spot.element ≡ e) (new_is : from.part ≡ new) where
    abbrev q : ℕ
    q = from.cell.0

    abbrev x : ℕ
    x = from.cell.1

    abbrev own : HasCell v block
    own = record {
      j = from.j;
      spot = from.spot;
      is_spot = ap (λ (l : List Spot). slice_get l from.j) (sym (spots_same v known image are is within e p target block)) ∙ from.is_spot;
      part = target.part;
      is_part = ap (slice_get v.parts) here ∙ target.is_target.is_part;
      i = from.i;
      cell = from.cell;
      is_cell = ap (λ (y : Part). slice_get (element_cells y.shape from.spot.block) from.i) (sym new_is) ∙ from.is_cell;
    }

    deep : x < depth_of target.part.shape
    deep = cell_deep v known block own

    holds_own : primary.Holds target.part.shape q x from.spot.block
    holds_own = cell_in target.part (known.are_parts e target.part target.is_target.is_part).shape_is from.spot.block own.i own.cell own.is_cell

    no_parity : parity_member target.part.shape (x / target.part.shape.strip) ≡ Some q → ⊥
    no_parity = (cell_facts target.part.shape (known.are_parts e target.part target.is_target.is_part).shape_is).no_parity q x from.spot.block holds_own

    own_value : value v image block ≡ Some (cell_value v image e target.part x q)
    own_value = block_value v known image are is within e p target block own ∙ ap (λ (n : ℕ). Some (cell_value v image n target.part x q)) here

    own_block : block_at v e q x ≡ Some block
    own_block = ap (λ (n : ℕ). block_at v n q x) (sym here) ∙ block_at_is v known block own

    held_block : (o : Option ℕ) → parity_member target.part.shape (x / target.part.shape.strip) ≡ o → q ≡ p
        → (if elim o [ None ↦ false | Some member ↦ member == p ] then row_sum v image e target.part x else cell_value v image e target.part x p)
        ≡ cell_value v image e target.part x q
    held_block None o_is same = ap (cell_value v image e target.part x) (sym same)
    held_block (Some par) o_is same =
        ap (λ (b : Bool). if b then row_sum v image e target.part x else cell_value v image e target.part x p)
        (ne_eqb par p (λ on. no_parity (o_is ∙ ap Some (on ∙ sym same)))) ∙ ap (cell_value v image e target.part x) (sym same)

  at_copy : (block : ℕ) (one : Site) (from : IsFrom now block (copy one)) → from.spot.element ≡ e → from.part ≡ new → value v image block ≡ Some (bytes_at image one)
  at_copy block one from here new_is =
      ⊎_elim
      (λ target_is.
      own_value block (copy one) from here new_is
      ∙ ap Some (sym (rebuilt from.cell.1 one (deep block (copy one) from here new_is) target_is.1 ∙ held_block block (copy one) from here new_is _ refl target_is.0)))
      (λ other.
      let there = source_to v block (copy one) (made_of v block (copy one) (own block (copy one) from here new_is) other.1) in
      is.agree block there.0 (copy one) there.1)
      (site_cases target.part.places p target.place target.is_target.is_place target.is_target.is_out from.cell.1 from.cell.0 one
      (ap (λ (y : Part). site_at y.places from.cell.0 from.cell.1) (sym new_is) ∙ from.gives))

  at_row : (block : ℕ) (sites : List Site) (from : IsFrom now block (row sites)) → from.spot.element ≡ e → from.part ≡ new → value v image block ≡ Some (sum_at image sites)
  at_row block sites from here new_is =
      let members = target.part.shape.members in
      let keeps : keeps_parity target.part.shape.layout ≡ true = ap (λ (y : Part). keeps_parity y.shape.layout) (sym new_is) ∙ from.gives.0 in
      let par = some_parity target.part.shape.layout members (from.cell.1 / target.part.shape.strip) keeps in
      let below : from.cell.0 < members = (cell_facts target.part.shape (known.are_parts e target.part target.is_target.is_part).shape_is).member_within from.cell.0 from.cell.1 from.spot.block (holds_own block (row sites) from here new_is) in
      let apart : from.cell.0 ≢ par.0 = λ same. no_parity block (row sites) from here new_is (par.1 ∙ ap Some (sym same)) in
      let at = data_at members par.0 from.cell.0 below apart target.part.shape.layout (from.cell.1 / target.part.shape.strip) par.1 in
      let blocks : has_block v e target.part from.cell.1 ≡ true =
      any_passes_from_place (λ position. is_some (block_at v e position from.cell.1)) (data_positions target.part.shape from.cell.1) at.0 from.cell.0 at.1 (ap is_some (own_block block (row sites) from here new_is)) in
      let deep_here = deep block (row sites) from here new_is in
      let gives = row_gives v known image are is within e p target from.cell.1 deep_here par.0 par.1 (λ one. rebuilt from.cell.1 one deep_here)
      (parity_sum from.cell.1 deep_here par.0 par.1 blocks) from.cell.0 below sites
      (ap (λ (y : Part). row_without y.places from.cell.0 from.cell.1) (sym new_is) ∙ from.gives.1) in
      own_value block (row sites) from here new_is
      ∙ ap (λ (b : Bool). Some (if b then row_sum v image e target.part from.cell.1 else cell_value v image e target.part from.cell.1 from.cell.0))
      (sym (ne_eqb par.0 from.cell.0 (λ same. apart (sym same)))) ∙ ap Some gives

  elsewhere : (block : ℕ) (source : Source) (from : IsFrom now block source) → slice_get v.parts from.spot.element ≡ Some from.part → value v image block ≡ Some (given image source)
  elsewhere block source from at =
      let there = source_to v block source (record {
        j = from.j;
        spot = from.spot;
        is_spot = ap (λ (l : List Spot). slice_get l from.j) (sym (spots_same v known image are is within e p target block)) ∙ from.is_spot;
        part = from.part;
        is_part = at;
        i = from.i;
        cell = from.cell;
        is_cell = from.is_cell;
        gives = from.gives;
      }) in
      is.agree block there.0 source there.1

  pub claim : (block : ℕ) (source : Source) → IsFrom now block source → value v image block ≡ Some (given image source)
  claim block (copy one) from =
      ⊎_elim (λ here. at_copy block one from here.0 here.1) (λ other. elsewhere block (copy one) from other.1)
      (part_cases v known image are is within e p target from.spot.element from.part from.is_part)
  claim block (row sites) from =
      ⊎_elim (λ here. at_row block sites from here.0 here.1) (λ other. elsewhere block (row sites) from other.1)
      (part_cases v known image are is within e p target from.spot.element from.part from.is_part)

  value_of : (block k : ℕ) (source : Source) → slice_get (every_source now block) k ≡ Some source → value now image block ≡ value v image block
  value_of block k source at =
      let first = at_first (every_source now block) k source at in
      ap (option_map (given image)) first.1 ∙ sym (claim block first.0 (source_from now block 0 first.0 first.1))

  value_now : (block : ℕ) → block < capacity v → value now image block ≡ value v image block
  value_now block below =
      let first = first_item (every_source v block) (has_source v known block below within) in
      let there = source_to now block first.0 (up block first.0 (source_from v block 0 first.0 first.1)) in
      value_of block there.0 first.0 there.1

  -- ---- the sums of rows

  whole_by : (sector : ℕ) (sites : List Site) → sector < depth_of target.part.shape → keeps_parity target.part.shape.layout ≡ true → whole_row new sector ≡ Some sites → sum_at image sites ≡ zeros
  whole_by sector sites deep_here keeps whole =
      let n = length new.places in
      let par = some_parity target.part.shape.layout target.part.shape.members (sector / target.part.shape.strip) keeps in
      whole_zero v known image are is within e p target sector deep_here par.0 par.1 (λ one. rebuilt sector one deep_here)
      (λ apart one at.
      let few : away target.part.places ≤ 1 =
      few_by sector sites whole in
      let there = some_from_is_some (row_without target.part.places p sector) (row_is_there target.part.places p target.place target.is_target.is_place target.is_target.is_out few sector) in
      parity_right v known image are is within e p target sector deep_here par.0 par.1 there.0 there.1 apart one at)
      sites whole
    where
      few_by : (sector : ℕ) (sites : List Site) → whole_row new sector ≡ Some sites → away target.part.places ≤ 1
      few_by sector sites whole =
          few_away target.part.places p (λ other place at apart.
          let within_new : other < length new.places = subst (λ (n : ℕ). other < n) (sym (changed_length place_in_sync p target.part.places)) (slice_get_within target.part.places other place at) in
          let zeroth : 0 + other ≡ other = omega arith in
          let there = item_there (λ position. site_at new.places position sector) (range_with_len 0 (length new.places)) sites whole other other (slice_get-range 0 (length new.places) other within_new ∙ ap Some zeroth) in
          ⊎_elim (λ same. absurd (apart same.0))
          (λ stays. is_there place sector there.0 (ap (λ (o : Option Place). option_and_then (λ place. site place sector) o) (sym at) ∙ stays.1))
          (site_cases target.part.places p target.place target.is_target.is_place target.is_target.is_out sector other there.0 there.1))

  pub redundant_now : IsRedundant now image
  redundant_now = record {
    agree = λ block k source at. value_of block k source at ∙ claim block source (source_from now block k source at);
    sum_to_zero = λ element sector part sites part_at parity below whole.
        ⊎_elim
        (λ here. whole_by sector sites (subst (λ (y : Part). sector < depth_of y.shape) here.1 below)
        (ap (λ (y : Part). keeps_parity y.shape.layout) (sym here.1) ∙ parity) (ap (λ (y : Part). whole_row y sector) (sym here.1) ∙ whole))
        (λ other. is.sum_to_zero element sector part sites other.1 parity below whole)
        (part_cases v known image are is within e p target element part part_at);
  }

  -- ---- parity of elements that lack more

  pub block_same : (f position sector : ℕ) → block_at now f position sector ≡ block_at v f position sector
  block_same f position sector = ap (λ (h : ℕ → Bool). find h (range_with_len 0 (capacity v))) (fun_ext same)
    where
      same : (block : ℕ) → holds now f position sector block ≡ holds v f position sector block
      same block =
          ap (λ (h : Spot → Bool). list_any h (block_spots now block)) (fun_ext (λ (spot : Spot). ap (λ (b : Bool). spot.element == f && b) (shapes_stay false (in_cells position sector spot.block) p e v.parts f)))
          ∙ ap (list_any (λ (spot : Spot). spot.element == f && elim (slice_get v.parts f) [ None ↦ false | Some part ↦ in_cells position sector spot.block part.shape ])) (spots_same v known image are is within e p target block)

  pub value_in : (f position sector block : ℕ) → block_at now f position sector ≡ Some block → value now image block ≡ value v image block
  value_in f position sector block found =
      value_now block (omega (arith, found_below (holds now f position sector) 0 (capacity v) block found))

  -- another element's cells
  pub cell_other : (f : ℕ) (part : Part) (sector position : ℕ) → cell_value now image f part sector position ≡ cell_value v image f part sector position
  cell_other f part sector position =
      by (block_at now f position sector) refl
      ∙ ap (λ (o : Option ℕ). elim o [ None ↦ value_without_block image (sources_without_block part position sector) | Some block ↦ unwrap_or (value v image block) zeros ]) (block_same f position sector)
    where
      by : (o : Option ℕ) → block_at now f position sector ≡ o
          → ◌≡◌ {A = List ℕ} (elim o [ None ↦ value_without_block image (sources_without_block part position sector) | Some block ↦ unwrap_or (value now image block) zeros ])
          (elim o [ None ↦ value_without_block image (sources_without_block part position sector) | Some block ↦ unwrap_or (value v image block) zeros ])
      by None found = refl
      by (Some block) found = ap (λ (o : Option (List ℕ)). unwrap_or o zeros) (value_in f position sector block found)

  -- a cell without a block, of the element itself
  module _ (sector : ℕ) (deep_here : sector < depth_of target.part.shape) (lacks : 2 ≤ away new.places) (par : ℕ) (par_is : parity_member target.part.shape (sector / target.part.shape.strip) ≡ Some par) where
    old_lacks : 2 ≤ away target.part.places
    old_lacks = omega (arith, lacks, away_less p target.part.places)

    no_row : (places : List Place) (position : ℕ) → 2 ≤ away places → position < length places → (o : Option (List Site)) → row_without places position sector ≡ o → (b : Bool)
        → value_without_block image (if b then map row (option_to_list o) else []) ≡ zeros
    no_row places position many below None is_none true = refl
    no_row places position many below None is_none false = refl
    no_row places position many below (Some sites) is_some b =
        let few = row_away places position sector sites below is_some in absurd (omega (arith, few, many))

    held_data : (position : ℕ) → position ≢ par → position ≡ p → wanted v image e target.part sector p ≡ cell_value v image e target.part sector position
    held_data position apart same =
        ap (λ (o : Option ℕ). if elim o [ None ↦ false | Some member ↦ member == p ] then row_sum v image e target.part sector else cell_value v image e target.part sector p) par_is
        ∙ ap (λ (b : Bool). if b then row_sum v image e target.part sector else cell_value v image e target.part sector p) (ne_eqb par p (λ on. apart (same ∙ sym on)))
        ∙ ap (cell_value v image e target.part sector) (sym same)

    -- what position holds without a block, as v tells
    old_cell : (position : ℕ) → block_at v e position sector ≡ None → cell_value v image e target.part sector position ≡ value_without_block image (sources_without_block target.part position sector)
    old_cell position found = ap (λ (o : Option ℕ). elim o [ None ↦ value_without_block image (sources_without_block target.part position sector) | Some block ↦ unwrap_or (value v image block) zeros ]) found

    without_by : (position : ℕ) → position ≢ par → position < target.part.shape.members → block_at v e position sector ≡ None → (o : Option Site) → site_at new.places position sector ≡ o
        → value_without_block image (map copy (option_to_list o) ++ (if keeps_parity target.part.shape.layout then map row (option_to_list (row_without new.places position sector)) else []))
        ≡ value_without_block image (sources_without_block target.part position sector)
    without_by position apart below found (Some one) at =
        ⊎_elim
        (λ own_is. rebuilt sector one deep_here own_is.1 ∙ held_data position apart own_is.0 ∙ old_cell position found)
        (λ other. ap (λ (o : Option Site). value_without_block image (map copy (option_to_list o) ++ (if keeps_parity target.part.shape.layout then map row (option_to_list (row_without target.part.places position sector)) else []))) (sym other.1))
        (site_cases target.part.places p target.place target.is_target.is_place target.is_target.is_out sector position one at)
    without_by position apart below found None at =
        no_row new.places position lacks
        (subst (λ (n : ℕ). position < n) (sym (changed_length place_in_sync p target.part.places ∙ count_is v known image are is within e p target sector deep_here)) below)
        (row_without new.places position sector) refl (keeps_parity target.part.shape.layout)
        ∙ sym (old_by (site_at target.part.places position sector) refl)
      where
        old_by : (o : Option Site) → site_at target.part.places position sector ≡ o
            → value_without_block image (map copy (option_to_list o) ++ (if keeps_parity target.part.shape.layout then map row (option_to_list (row_without target.part.places position sector)) else [])) ≡ zeros
        old_by (Some one) there = absurd (none_some (site_at new.places position sector) one at (site_stays target.part.places p target.place target.is_target.is_place target.is_target.is_out sector position one there))
        old_by None there =
            no_row target.part.places position old_lacks (subst (λ (n : ℕ). position < n) (sym (count_is v known image are is within e p target sector deep_here)) below)
            (row_without target.part.places position sector) refl (keeps_parity target.part.shape.layout)

    cell_own : (position : ℕ) → position ≢ par → position < target.part.shape.members → cell_value now image e new sector position ≡ cell_value v image e target.part sector position
    cell_own position apart below =
        ap (λ (o : Option ℕ). elim o [ None ↦ value_without_block image (sources_without_block new position sector) | Some block ↦ unwrap_or (value now image block) zeros ]) (block_same e position sector)
        ∙ by (block_at v e position sector) refl
      where
        by : (o : Option ℕ) → block_at v e position sector ≡ o
            → ◌≡◌ {A = List ℕ} (elim o [ None ↦ value_without_block image (sources_without_block new position sector) | Some block ↦ unwrap_or (value now image block) zeros ])
            (elim o [ None ↦ value_without_block image (sources_without_block target.part position sector) | Some block ↦ unwrap_or (value v image block) zeros ])
        by None found = without_by position apart below found (site_at new.places position sector) refl
        by (Some block) found = ap (λ (o : Option (List ℕ)). unwrap_or o zeros) (value_in e position sector block (block_same e position sector ∙ found))

    row_own : row_sum now image e new sector ≡ row_sum v image e target.part sector
    row_own =
        ap xor_all (map_alike (cell_value now image e new sector) (cell_value v image e target.part sector) (data_positions target.part.shape sector) (λ k position at.
        let bounds = is_data target.part.shape.members par (parity_within k position at) target.part.shape.layout (sector / target.part.shape.strip) k position par_is at in
        cell_own position bounds.0 bounds.1))
      where
        parity_within : (k position : ℕ) → slice_get (data_positions target.part.shape sector) k ≡ Some position → par < target.part.shape.members
        parity_within k position at = par_below v known image are is within e p target sector deep_here par par_is

  pub parity_now : HasParity is_absent now image
  parity_now element sector position part one part_at lacks all_none parity below site_is block =
      ⊎_elim
      (λ here.
      let deep_here : sector < depth_of target.part.shape = subst (λ (y : Part). sector < depth_of y.shape) here.1 below in
      let par_is : parity_member target.part.shape (sector / target.part.shape.strip) ≡ Some position = ap (λ (y : Part). parity_member y.shape (sector / y.shape.strip)) (sym here.1) ∙ parity in
      let many : 2 ≤ away new.places = subst (λ (y : Part). 2 ≤ away y.places) here.1 lacks in
      let blocks : has_block v e target.part sector ≡ true =
      ap (λ (h : ℕ → Option ℕ). list_any (λ position. is_some (h position)) (data_positions target.part.shape sector)) (sym (fun_ext (λ position. block_same e position sector)))
      ∙ ap (λ (y : Part). has_block now e y sector) (sym here.1) ∙ ap (λ (n : ℕ). has_block now n part sector) (sym here.0) ∙ block in
      let holds = holds_now v known image are is within e p target sector deep_here position par_is (λ site. rebuilt sector site deep_here)
      (parity_sum sector deep_here position par_is blocks) position one (ap (λ (y : Part). site_at y.places position sector) (sym here.1) ∙ site_is) in
      let summed : with_sum (row_sum v image e target.part sector) (cell_value v image e target.part sector) position position ≡ row_sum v image e target.part sector =
      ap (λ (b : Bool). if b then row_sum v image e target.part sector else cell_value v image e target.part sector position) (eq-eqb position position refl) in
      sym holds ∙ summed ∙ sym (row_own sector deep_here many position par_is)
      ∙ ap (λ (y : Part). row_sum now image e y sector) (sym here.1) ∙ ap (λ (n : ℕ). row_sum now image n part sector) (sym here.0))
      (λ other.
      has element sector position part one other.1 lacks all_none parity below site_is
      (ap (λ (h : ℕ → Option ℕ). list_any (λ position. is_some (h position)) (data_positions part.shape sector)) (sym (fun_ext (λ position. block_same element position sector))) ∙ block)
      ∙ ap (λ (h : ℕ → List ℕ). xor_all (map h (data_positions part.shape sector))) (sym (fun_ext (cell_other element part sector))))
      (part_cases v known image are is within e p target element part part_at)
