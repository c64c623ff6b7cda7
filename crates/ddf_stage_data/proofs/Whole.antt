-- An array keeps what it keeps where a block is written from a stage, cells and parity at once.
use Rattle.std.proofs.Common.{◌≡◌, ◌≢◌, ◌∙◌, ◌⊎◌, inl, inr, ⊎_elim, ℕ, ◌+◌, ◌-◌, ◌/◌, ◌<◌, Bool, true, false, not, List, [], ◌∷◌, ◌++◌, Option, Some, None, refl, sym, ap, subst, arith, map, length, slice_get}
use Rattle.std.specs.Prelude.{◌==◌, option_map, option_to_list, unwrap_or, slice_index_or, if◌then◌else◌}
use Rattle.std.specs.List.{range_with_len}
use Rattle.std.proofs.lemmas.Bool.{eq-eqb, ne_eqb, cases_eq}
use Rattle.ddf_lemmas.proofs.Lists.{at_first, map_alike}
use Rattle.ddf_lemmas.proofs.Options.{some_is}
use Rattle.ddf_bay.specs.Sectors.{Image}
use Rattle.ddf_parity.specs.Xor.{xor_all, zeros}
use Rattle.ddf_primary.specs.Cells.{depth_of, parity_member}
use Rattle.ddf_primary.proofs.ShapeFacts.{cell_facts, depth_le}
use Rattle.ddf_primary.proofs.Needs.{parity_keeps, parity_below, some_parity, some_members}
use Rattle.ddf_array.specs.declared.part.Part.{Part}
use Rattle.ddf_array.specs.declared.site.Site.{Site}
use Rattle.ddf_array.specs.Apart.{IsApart}
use Rattle.ddf_array.specs.Levels.{keeps_parity}
use Rattle.ddf_array.specs.Places.{site_at}
use Rattle.ddf_array.specs.Redundant.{IsRedundant}
use Rattle.ddf_array.specs.Rows.{block_at, holds, cell_value, data_positions, row_sum, sources_without_block, value_without_block}
use Rattle.ddf_array.specs.Sound.{AreSectors, HasParity, IsSound}
use Rattle.ddf_array.specs.Sources.{Source, copy, row, copies, every_source, other_positions, row_without, sources}
use Rattle.ddf_array.specs.Values.{bytes_at, given, sum_at, value}
use Rattle.ddf_array.specs.Volume.{Volume, IsVolume, capacity}
use Rattle.ddf_array.specs.Within.{is_within}
use Rattle.ddf_array.proofs.Enough.{has_source}
use Rattle.ddf_array.proofs.RowParity.{cell_value_is}
use Rattle.ddf_cells.proofs.CopiesOn.{block_at_sits}
use Rattle.ddf_write.specs.Writing.{IsTouched}
use Rattle.ddf_write.proofs.RowsUntouched.{touched_or_not}
use Rattle.ddf_write.proofs.WriteLeaves.{cell_stays}
use Rattle.ddf_data_array.specs.Allowed.{Allowed, May, is_in, new_bytes, once_written, while_written}
use Rattle.ddf_data_array.specs.Kept.{IsKeptData}
use Rattle.ddf_data_array.specs.Rows.{HasNoRows}
use Rattle.ddf_data_array.proofs.From.{IsFrom, cell_of, copy_to, source_from, source_of, source_at, source_to}
use Rattle.ddf_data_array.proofs.Lessened.{first_item, found_below}
use Rattle.ddf_data_array.proofs.RowsKept.{no_rows_kept}
use Rattle.ddf_data_array.proofs.Sitting.{block_at_is, cell_deep}
use Rattle.ddf_data_array.proofs.Totals.{is_data}
use Rattle.ddf_data_array.proofs.Written.{in_by, in_high, in_low, new_once, new_while, old_once, old_while}
use Rattle.ddf_stage_data.specs.Staged.{IsStaged, cell_with, sum_with}
use Rattle.ddf_stage_data.proofs.Rows.{data_cell, elsewhere, row_gives, same_cell, same_site, same_sum, whole_zero}

module _ (v : Volume) (known : IsVolume v) (apart : IsApart v) (within : is_within v ≡ true) (block : ℕ) (bytes : List ℕ) (long : length bytes ≡ 512) (before image : Image) (are : AreSectors before)
    (was : IsRedundant v before) (staged : IsStaged v block bytes before image) where
  -- the value of each block afterwards
  pub new_by : (b : Bool) (other : ℕ) → List ℕ
  new_by true other = bytes
  new_by false other = unwrap_or (value v before other) zeros

  pub new_value : ℕ → List ℕ
  new_value other = new_by (other == block) other

  unwrapped : (o : Option (List ℕ)) (x : List ℕ) → o ≡ Some x → unwrap_or o zeros ≡ x
  unwrapped o x e = ap (λ (p : Option (List ℕ)). unwrap_or p zeros) e

  -- ---- what a cell has

  cell_new : (e : ℕ) (part : Part) (sector position other : ℕ) → block_at v e position sector ≡ Some other → cell_with block bytes v before e part sector position ≡ new_value other
  unfolding new_by new_value
  cell_new e part sector position other found =
      ap (λ (o : Option ℕ). elim o [ None ↦ cell_value v before e part sector position | Some other ↦ if other == block then bytes else cell_value v before e part sector position ]) found
      ∙ by (other == block)
    where
      old : cell_value v before e part sector position ≡ unwrap_or (value v before other) zeros
      old = ap (λ (o : Option ℕ). elim o [ None ↦ value_without_block before (sources_without_block part position sector) | Some other ↦ unwrap_or (value v before other) zeros ]) found

      by : (b : Bool) → (if b then bytes else cell_value v before e part sector position) ≡ new_by b other
      by true = refl
      by false = old

  -- ---- what each source of a block gives

  copy_gives : (other : ℕ) (one : Site) → IsFrom v other (copy one) → (other ≡ block) ⊎ (other ≢ block) → bytes_at image one ≡ new_value other
  unfolding new_by new_value
  copy_gives other one from (inl same) =
      let there = copy_to v other one from in
      staged.cells there.0 one (ap (λ (n : ℕ). slice_get (copies v n) there.0) (sym same) ∙ there.1) ∙ ap (λ (b : Bool). new_by b other) (sym (eq-eqb other block same))
  copy_gives other one from (inr differ) =
      let there = copy_to v other one from in
      let source = source_to v other (copy one) from in
      cell_stays v known apart block (bytes ∷ []) before image staged.others other there.0 one (λ k below same. differ (omega (arith, same, below))) there.1
      ∙ sym (unwrapped (value v before other) (bytes_at before one) (was.agree other source.0 (copy one) source.1))
      ∙ ap (λ (b : Bool). new_by b other) (sym (ne_eqb other block differ))

  row_gives_new : (other : ℕ) (sites : List Site) (from : IsFrom v other (row sites)) → sum_at image sites ≡ new_value other
  unfolding new_by new_value
  row_gives_new other sites from =
      let has = cell_of v other (row sites) from in
      let e = has.spot.element in
      let part = has.part in
      let sector = has.cell.1 in
      let position = has.cell.0 in
      let shape = known.are_parts e part has.is_part in
      let found : block_at v e position sector ≡ Some other = block_at_is v known other has in
      let deep : sector < depth_of part.shape = cell_deep v known other has in
      let inside : sector < part.shape.blocks = omega (arith, deep, depth_le part.shape.layout part.shape.strip part.shape.blocks) in
      let sits = block_at_sits v known e position sector other found in
      let same : sits.part ≡ part = some_is (sym sits.is_part ∙ has.is_part) in
      let facts = cell_facts sits.part.shape (known.are_parts e sits.part sits.is_part).shape_is in
      let below : position < part.shape.members = subst (λ (q : Part). position < q.shape.members) same (facts.member_within position sector sits.inner sits.on_position) in
      let par = some_parity part.shape.layout part.shape.members (sector / part.shape.strip) from.gives.0 in
      let off : position ≢ par.0 = λ at. facts.no_parity position sector sits.inner sits.on_position
      (ap (λ (q : Part). parity_member q.shape (sector / q.shape.strip)) same ∙ par.1 ∙ ap Some (sym at)) in
      ⊎_elim
      (λ touched.
      sym (row_gives v known apart block bytes long before image are was staged e sector part has.is_part inside par.0 par.1 touched position below sites from.gives.1)
      ∙ elsewhere v known apart block bytes long before image are was staged e sector part has.is_part inside par.0 par.1 touched position off
      ∙ cell_new e part sector position other found)
      (λ not.
      let places : position < length part.places = omega (arith, below, shape.has_places) in
      let zeroth : block + 0 ≡ block = omega arith in
      let differ : other ≢ block = λ at. not position 0 places (omega arith) (found ∙ ap Some at ∙ ap Some (sym zeroth)) in
      let source = source_to v other (row sites) from in
      same_sum v known apart block bytes long before image are was staged e sector part has.is_part inside not (other_positions (length part.places) position) sites from.gives.1
      ∙ sym (unwrapped (value v before other) (sum_at before sites) (was.agree other source.0 (row sites) source.1))
      ∙ ap (λ (b : Bool). new_by b other) (sym (ne_eqb other block differ)))
      (touched_or_not v block 1 e sector (length part.places))

  pub source_gives : (other : ℕ) (source : Source) → IsFrom v other source → given image source ≡ new_value other
  source_gives other (copy one) from = copy_gives other one from (cases_eq other block)
  source_gives other (row sites) from = row_gives_new other sites from

  pub value_by : (other k : ℕ) (source : Source) → slice_get (every_source v other) k ≡ Some source → value v image other ≡ Some (new_value other)
  value_by other k source at =
      let first = at_first (every_source v other) k source at in
      ap (option_map (given image)) first.1 ∙ ap Some (source_gives other first.0 (source_from v other 0 first.0 first.1))

  pub value_now : (other : ℕ) → other < capacity v → value v image other ≡ Some (new_value other)
  value_now other below = let first = first_item (every_source v other) (has_source v known other below within) in value_by other 0 first.0 first.1

  -- ---- the sums of rows

  pub redundant_now : IsRedundant v image
  redundant_now = record {
    agree = λ other k source at. value_by other k source at ∙ ap Some (sym (source_gives other source (source_from v other k source at)));
    sum_to_zero = λ e sector part sites is_part parity deep all.
        let inside : sector < part.shape.blocks = omega (arith, deep, depth_le part.shape.layout part.shape.strip part.shape.blocks) in
        let par = some_parity part.shape.layout part.shape.members (sector / part.shape.strip) parity in
        ⊎_elim
        (λ touched. whole_zero v known apart block bytes long before image are was staged e sector part is_part inside par.0 par.1 touched sites all)
        (λ not. same_sum v known apart block bytes long before image are was staged e sector part is_part inside not (range_with_len 0 (length part.places)) sites all ∙ was.sum_to_zero e sector part sites is_part parity deep all)
        (touched_or_not v block 1 e sector (length part.places));
  }

  module _ (e sector : ℕ) (part : Part) (is_part : slice_get v.parts e ≡ Some part) (parity : keeps_parity part.shape.layout ≡ true) (deep : sector < depth_of part.shape)
      (par : ℕ) (par_is : parity_member part.shape (sector / part.shape.strip) ≡ Some par) where
    inside_it : sector < part.shape.blocks
    inside_it = omega (arith, deep, depth_le part.shape.layout part.shape.strip part.shape.blocks)

    count_is : length part.places ≡ part.shape.members
    count_is = (known.are_parts e part is_part).has_places

    -- what a data cell without a block is read from, where it isn't there
    without : (which : Image) (position : ℕ) → block_at v e position sector ≡ None → site_at part.places position sector ≡ None
        → cell_value v which e part sector position ≡ value_without_block which (map row (option_to_list (row_without part.places position sector)))
    without which position found none =
        ap (λ (o : Option ℕ). elim o [ None ↦ value_without_block which (sources_without_block part position sector) | Some other ↦ unwrap_or (value v which other) zeros ]) found
        ∙ ap (λ (o : Option Site). value_without_block which (map copy (option_to_list o) ++ (if keeps_parity part.shape.layout then map row (option_to_list (row_without part.places position sector)) else []))) none
        ∙ ap (λ (b : Bool). value_without_block which (if b then map row (option_to_list (row_without part.places position sector)) else [])) parity

    old_cell : (position : ℕ) → block_at v e position sector ≡ None → cell_with block bytes v before e part sector position ≡ cell_value v before e part sector position
    old_cell position found =
        ap (λ (o : Option ℕ). elim o [ None ↦ cell_value v before e part sector position | Some other ↦ if other == block then bytes else cell_value v before e part sector position ]) found

    -- the row gives what it did
    row_same : (position : ℕ) → position ≢ par → position < part.shape.members → block_at v e position sector ≡ None → site_at part.places position sector ≡ None
        → (sites : List Site) → row_without part.places position sector ≡ Some sites
        → IsTouched v block 1 e sector ⊎ ((other k : ℕ) → other < length part.places → k < 1 → block_at v e other sector ≢ Some (block + k)) → sum_at image sites ≡ sum_at before sites
    row_same position off below found none sites at (inl touched) =
        sym (row_gives v known apart block bytes long before image are was staged e sector part is_part inside_it par par_is touched position below sites at)
        ∙ elsewhere v known apart block bytes long before image are was staged e sector part is_part inside_it par par_is touched position off
        ∙ old_cell position found ∙ without before position found none
        ∙ ap (λ (o : Option (List Site)). value_without_block before (map row (option_to_list o))) at
    row_same position off below found none sites at (inr not) =
        same_sum v known apart block bytes long before image are was staged e sector part is_part inside_it not (other_positions (length part.places) position) sites at

    without_by : (position : ℕ) → position ≢ par → position < part.shape.members → block_at v e position sector ≡ None → site_at part.places position sector ≡ None
        → (o : Option (List Site)) → row_without part.places position sector ≡ o
        → value_without_block image (map row (option_to_list o)) ≡ value_without_block before (map row (option_to_list o))
    without_by position off below found none None at = refl
    without_by position off below found none (Some sites) at = row_same position off below found none sites at (touched_or_not v block 1 e sector (length part.places))

    -- the value of each data cell afterwards
    absent_by : (position : ℕ) → position ≢ par → position < part.shape.members → site_at part.places position sector ≡ None → (o : Option ℕ) → block_at v e position sector ≡ o
        → cell_value v image e part sector position ≡ cell_with block bytes v before e part sector position
    absent_by position off below none None found =
        without image position found none
        ∙ without_by position off below found none (row_without part.places position sector) refl
        ∙ sym (without before position found none) ∙ sym (old_cell position found)
    absent_by position off below none (Some other) found =
        ap (λ (o : Option ℕ). elim o [ None ↦ value_without_block image (sources_without_block part position sector) | Some other ↦ unwrap_or (value v image other) zeros ]) found
        ∙ unwrapped (value v image other) (new_value other) (value_now other (omega (arith, found_below (holds v e position sector) 0 (capacity v) other found)))
        ∙ sym (cell_new e part sector position other found)

    cell_by : (position : ℕ) → position ≢ par → position < part.shape.members → (o : Option Site) → site_at part.places position sector ≡ o
        → cell_value v image e part sector position ≡ cell_with block bytes v before e part sector position
    cell_by position off below None none = absent_by position off below none (block_at v e position sector) refl
    cell_by position off below (Some own) there =
        cell_value_is v image redundant_now e part is_part position sector own there
        ∙ data_cell v known apart block bytes long before image are was staged e sector part is_part inside_it position own there (λ at. off (some_is (sym at ∙ par_is)))

    pub cell_now : (position : ℕ) → position ≢ par → position < part.shape.members → cell_value v image e part sector position ≡ cell_with block bytes v before e part sector position
    cell_now position off below = cell_by position off below (site_at part.places position sector) refl

    par_under : (k position : ℕ) → slice_get (data_positions part.shape sector) k ≡ Some position → (position ≢ par) × (position < part.shape.members)
    par_under k position at =
        is_data part.shape.members par
        (parity_below part.shape.layout part.shape.members (sector / part.shape.strip) par (some_members part.shape.layout part.shape.members (known.are_parts e part is_part).shape_is.members_taken) par_is)
        part.shape.layout (sector / part.shape.strip) k position par_is at

    pub sum_now : row_sum v image e part sector ≡ sum_with block bytes v before e part sector
    sum_now =
        ap xor_all (map_alike (cell_value v image e part sector) (cell_with block bytes v before e part sector) (data_positions part.shape sector) (λ k position at. let bounds = par_under k position at in cell_now position bounds.0 bounds.1))

    -- that of a row that isn't touched
    pub sum_stays : ((position k : ℕ) → position < length part.places → k < 1 → block_at v e position sector ≢ Some (block + k)) → sum_with block bytes v before e part sector ≡ row_sum v before e part sector
    sum_stays not =
        ap xor_all (map_alike (cell_with block bytes v before e part sector) (cell_value v before e part sector) (data_positions part.shape sector)
        (λ k position at. same_cell v known apart block bytes long before image are was staged e sector part is_part inside_it not position (omega (arith, (par_under k position at).1, count_is))))

  pub parity_now : (is_absent : ℕ → ℕ → Bool) → HasParity is_absent v before → HasParity is_absent v image
  parity_now is_absent had e sector position part site is_part lacks none parity deep at block_there =
      let keep = parity_keeps part.shape.layout part.shape.members (sector / part.shape.strip) position parity in
      let inside : sector < part.shape.blocks = omega (arith, deep, depth_le part.shape.layout part.shape.strip part.shape.blocks) in
      ⊎_elim
      (λ touched.
      staged.parity e sector part site (record { touched = touched; is_part = is_part; position = position; is_parity = parity; is_there = at })
      ∙ sym (sum_now e sector part is_part keep deep position parity))
      (λ not.
      same_site v known apart block bytes long before image are was staged e sector part is_part inside not position site at
      ∙ had e sector position part site is_part lacks none parity deep at block_there
      ∙ sym (sum_stays e sector part is_part keep deep position parity not)
      ∙ sym (sum_now e sector part is_part keep deep position parity))
      (touched_or_not v block 1 e sector (length part.places))

-- ---- what the array keeps

module _ (is_absent : ℕ → ℕ → Bool) (v : Volume) (known : IsVolume v) (apart : IsApart v) (unmarked : v.marked ≡ false) (within : is_within v ≡ true) (none : HasNoRows v)
    (block : ℕ) (bytes : List ℕ) (long : length bytes ≡ 512) (before image : Image) (are : AreSectors image) (allowed : Allowed)
    (kept : IsKeptData is_absent v before allowed) (staged : IsStaged v block bytes before image) where
  was : IsRedundant v before
  was = kept.sound.redundant unmarked within

  source_is : (other : ℕ) (source : Source) → IsFrom v other source → given image source ≡ new_value v known apart within block bytes long before image kept.sound.are_sectors was staged other
  source_is other source from = source_gives v known apart within block bytes long before image kept.sound.are_sectors was staged other source from

  sound_now : IsSound is_absent v image
  sound_now = record {
    are_sectors = are;
    redundant = λ u w. redundant_now v known apart within block bytes long before image kept.sound.are_sectors was staged;
    parity = λ u w. parity_now v known apart within block bytes long before image kept.sound.are_sectors was staged is_absent (kept.sound.parity unmarked within);
  }

  -- of the block the new bytes, of any other what it had
  reads_by : (other k : ℕ) (source : Source) → slice_get (sources v other) k ≡ Some source → (other ≡ block) ⊎ (other ≢ block)
      → ((other ≡ block) × (given image source ≡ bytes)) ⊎ ((other ≢ block) × May (allowed other) (given image source))
  unfolding new_by new_value
  reads_by other k source at (inl same) =
      inl (
        same,
        source_is other source (source_of v other k source at)
            ∙ ap (λ (b : Bool). new_by v known apart within block bytes long before image kept.sound.are_sectors was staged b other) (eq-eqb other block same),
      )
  reads_by other k source at (inr differ) =
      let there = source_at v other k source at in
      let old : given image source ≡ given before source =
      source_is other source (source_of v other k source at)
      ∙ ap (λ (b : Bool). new_by v known apart within block bytes long before image kept.sound.are_sectors was staged b other) (ne_eqb other block differ)
      ∙ ap (λ (o : Option (List ℕ)). unwrap_or o zeros) (was.agree other there.0 source there.1) in
      inr (differ, subst (May (allowed other)) (sym old) (kept.reads other k source at))

  in_block : is_in block 1 block ≡ true
  in_block = let zeroth : block + 0 ≡ block = omega arith in ap (is_in block 1) (sym zeroth) ∙ in_by block 1 0 (omega arith)

  bytes_are : new_bytes block (bytes ∷ []) block ≡ bytes
  bytes_are = let zeroth : block - block ≡ 0 = omega arith in ap (λ (n : ℕ). slice_index_or (bytes ∷ []) n []) zeroth

  out_of : (other : ℕ) → other ≢ block → is_in block 1 other ≡ false
  out_of other differ = by (is_in block 1 other) refl
    where
      by : (b : Bool) → is_in block 1 other ≡ b → b ≡ false
      by true is = absurd (differ (omega (arith, in_low block 1 other is, in_high block 1 other is)))
      by false is = refl

  pub kept_once : IsKeptData is_absent v image (once_written allowed block (bytes ∷ []))
  kept_once = record {
    sound = sound_now;
    reads = λ other k source at.
        ⊎_elim
        (λ here.
        subst (λ (n : ℕ). May (once_written allowed block (bytes ∷ []) n) (given image source)) (sym here.0)
        (subst (May (once_written allowed block (bytes ∷ []) block)) (bytes_are ∙ sym here.1) (new_once allowed block (bytes ∷ []) block in_block)))
        (λ away. old_once allowed block (bytes ∷ []) other (out_of other away.0) (given image source) away.1)
        (reads_by other k source at (cases_eq other block));
    rows = no_rows_kept is_absent v image none;
  }

  pub kept_while : IsKeptData is_absent v image (while_written allowed block (bytes ∷ []))
  kept_while = record {
    sound = sound_now;
    reads = λ other k source at.
        ⊎_elim
        (λ here.
        subst (λ (n : ℕ). May (while_written allowed block (bytes ∷ []) n) (given image source)) (sym here.0)
        (subst (May (while_written allowed block (bytes ∷ []) block)) (bytes_are ∙ sym here.1) (new_while allowed block (bytes ∷ []) block in_block)))
        (λ away. old_while allowed block (bytes ∷ []) other (given image source) away.1)
        (reads_by other k source at (cases_eq other block));
    rows = no_rows_kept is_absent v image none;
  }
