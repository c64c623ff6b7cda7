-- An array keeps what it keeps where places of it aren't available any more.
use Rattle.std.proofs.Common.{◌≡◌, ◌∙◌, ⊎_elim, ℕ, zero, suc, ◌+◌, ◌<◌, ◌≤◌, ◌/◌, Bool, true, false, not, List, [], ◌∷◌, ◌++◌, Option, Some, None, refl, sym, ap, subst, arith, map, length, slice_get, ◌&&◌}
use Rattle.std.proofs.Math.Path.{fun_ext}
use Rattle.std.specs.Prelude.{find, is_some, option_and_then, option_map, option_to_list, unwrap_or, ◌==◌, if◌then◌else◌}
use Rattle.std.specs.List.{range_with_len, list_any}
use Rattle.ddf_lemmas.proofs.Lists.{at_first, in_map}
use Rattle.ddf_bay.specs.Sectors.{Image}
use Rattle.ddf_parity.specs.Xor.{xor_all, zeros}
use Rattle.ddf_primary.specs.Placement.{Placement}
use Rattle.ddf_primary.specs.Cells.{depth_of, parity_member}
use Rattle.ddf_primary.proofs.Needs.{parity_keeps}
use Rattle.ddf_secondary.specs.declared.spot.Spot.{Spot}
use Rattle.ddf_secondary.specs.Arrangement.{Arrangement}
use Rattle.ddf_secondary.specs.Spots.{spots}
use Rattle.ddf_array.specs.declared.part.Part.{Part}
use Rattle.ddf_array.specs.declared.place.Place.{Place}
use Rattle.ddf_array.specs.declared.site.Site.{Site}
use Rattle.ddf_array.specs.Places.{site, site_at}
use Rattle.ddf_array.specs.Levels.{keeps_parity}
use Rattle.ddf_array.specs.Volume.{Volume, IsVolume, capacity}
use Rattle.ddf_array.specs.Cells.{element_cells, block_spots}
use Rattle.ddf_array.specs.Within.{is_within}
use Rattle.ddf_array.specs.Sources.{Source, copy, row, all_of, other_positions, row_without, copies, every_source, sources}
use Rattle.ddf_array.specs.Values.{given, value}
use Rattle.ddf_array.specs.Redundant.{IsRedundant}
use Rattle.ddf_array.specs.Rows.{holds, block_at, cell_value, data_positions, row_sum, sources_without_block, value_without_block}
use Rattle.ddf_array.specs.Sound.{HasParity, IsSound, has_block}
use Rattle.ddf_array.proofs.Enough.{has_source}
use Rattle.ddf_array.proofs.Losses.{all_keep}
use Rattle.ddf_cells.specs.CellSources.{is_parity, wanted}
use Rattle.ddf_data_array.specs.Allowed.{Allowed}
use Rattle.ddf_data_array.specs.Fewer.{IsAlikePlace, IsFewerPlace, ArePlaces, NoneLeft, IsFewer, LeavesParity}
use Rattle.ddf_data_array.specs.Kept.{IsKeptData}
use Rattle.ddf_data_array.specs.Rows.{AreRowsKept}
use Rattle.ddf_data_array.proofs.From.{copy_from, copy_to, source_from, source_to}
use Rattle.ddf_data_array.proofs.Fewer.{away_alike, from_before, none_there, part_before, same_count, site_keeps, sites_alike, spots_same, was_within}

pub first_item : {X : Type 0} (all : List X) → 0 < length all → (x : X) × (slice_get all 0 ≡ Some x)
first_item [] some = absurd (omega arith)
first_item (x ∷ all) some = (x, refl)

found_by : (test : ℕ → Bool) (a n x : ℕ) (b : Bool) (rest : Option ℕ) → (if b then Some a else rest) ≡ Some x → (rest ≡ Some x → x < a + suc n) → x < a + suc n
found_by test a n x true rest e later = let same : a ≡ x = cc in omega (arith, same)
found_by test a n x false rest e later = later e

pub found_below : (test : ℕ → Bool) (a n x : ℕ) → find test (range_with_len a n) ≡ Some x → x < a + n
found_below test a zero x e = absurd (cc)
found_below test a (suc n) x e = found_by test a n x (test a) (find test (range_with_len (a + 1) n)) e (λ later. let rest = found_below test (a + 1) n x later in omega (arith, rest))

-- without parity a cell that isn't available and carries no block is zeros
pub no_source : (image : Image) (part : Part) (position sector : ℕ) → keeps_parity part.shape.layout ≡ false → site_at part.places position sector ≡ None
    → value_without_block image (sources_without_block part position sector) ≡ zeros
no_source image part position sector plain none =
    ap (λ (o : Option Site). value_without_block image (map copy (option_to_list o) ++ (if keeps_parity part.shape.layout then map row (option_to_list (row_without part.places position sector)) else []))) none
    ∙ ap (λ (b : Bool). value_without_block image (if b then map row (option_to_list (row_without part.places position sector)) else [])) plain

-- and a position without parity holds the value of its cell
pub wanted_cell : (v : Volume) (image : Image) (element : ℕ) (part : Part) (sector position : ℕ) → keeps_parity part.shape.layout ≡ false
    → wanted v image element part sector position ≡ cell_value v image element part sector position
wanted_cell v image element part sector position plain = by (parity_member part.shape (sector / part.shape.strip)) refl
  where
    both : (b : Bool) → b ≡ true → b ≡ false → ⊥
    both b x y = cc

    by : (o : Option ℕ) → parity_member part.shape (sector / part.shape.strip) ≡ o
        → ◌≡◌ {A = List ℕ} (if elim o [ None ↦ false | Some member ↦ member == position ] then row_sum v image element part sector else cell_value v image element part sector position)
        (cell_value v image element part sector position)
    by None is = refl
    by (Some member) is = absurd (both (keeps_parity part.shape.layout) (parity_keeps part.shape.layout part.shape.members (sector / part.shape.strip) member is) plain)

module _ (before after : Volume) (fewer : IsFewer before after) where
  -- in a redundant array what a source gave, it gives
  value_by : (image : Image) → IsRedundant before image → (block k : ℕ) (source : Source) → slice_get (every_source after block) k ≡ Some source → value before image block ≡ Some (given image source)
  value_by image is block k source at =
      let there = source_to before block source (from_before before after fewer block source (source_from after block k source at)) in
      is.agree block there.0 source there.1

  pub value_same : (image : Image) → IsRedundant before image → (block k : ℕ) (source : Source) → slice_get (every_source after block) k ≡ Some source → value after image block ≡ value before image block
  value_same image is block k source at =
      let first = at_first (every_source after block) k source at in
      ap (option_map (given image)) first.1 ∙ sym (value_by image is block 0 first.0 first.1)

  pub redundant_less : (image : Image) → IsRedundant before image → IsRedundant after image
  redundant_less image is = record {
    agree = λ block k source at. value_same image is block k source at ∙ value_by image is block k source at;
    sum_to_zero = λ element sector part sites part_at parity below whole.
        let there = part_before before.parts after.parts fewer.fewer_parts element part part_at in
        is.sum_to_zero element sector there.before sites there.is_part
        (ap (λ (s : Placement). keeps_parity s.layout) (sym there.same_shape) ∙ parity)
        (subst (λ (s : Placement). sector < depth_of s) there.same_shape below)
        (ap (λ (n : ℕ). all_of (map (λ position. site_at there.before.places position sector) (range_with_len 0 n))) (sym (same_count IsFewerPlace there.before.places part.places there.fewer))
        ∙ all_keep (λ position. site_at part.places position sector) (λ position. site_at there.before.places position sector)
        (λ position one h. site_keeps there.before.places part.places there.fewer position sector one h) (range_with_len 0 (length part.places)) sites whole);
  }

  -- what a read may use, it might use before
  reads_by : (a b : Bool) → after.marked ≡ a → before.marked ≡ b → (block k : ℕ) (source : Source) → slice_get (if not a then every_source after block else map copy (copies after block)) k ≡ Some source
      → (j : ℕ) × (slice_get (if not b then every_source before block else map copy (copies before block)) j ≡ Some source)
  reads_by false false is was block k source at = source_to before block source (from_before before after fewer block source (source_from after block k source at))
  reads_by false true is was block k source at =
      absurd (⊎_elim (λ marked. false_true (sym is ∙ marked)) (λ same. false_true (sym is ∙ same ∙ was)) fewer.mark_is)
    where
      false_true : false ≡ true → ⊥
      false_true e = cc
  reads_by true false is was block k source at =
      let one = in_map copy (copies after block) k source at in
      let there = source_to before block (copy one.0) (from_before before after fewer block (copy one.0) (copy_from after block k one.0 one.1)) in
      (there.0, there.1 ∙ ap Some one.2)
  reads_by true true is was block k source at =
      let one = in_map copy (copies after block) k source at in
      let there = copy_to before block one.0 (from_before before after fewer block (copy one.0) (copy_from after block k one.0 one.1)) in
      (there.0, mapped copy (copies before block) there.0 one.0 there.1 ∙ ap Some one.2)
    where
      mapped : {X Y : Type 0} (f : X → Y) (ys : List X) (k : ℕ) (x : X) → slice_get ys k ≡ Some x → slice_get (map f ys) k ≡ Some (f x)
      mapped f [] k x at = absurd (cc)
      mapped f (y ∷ ys) zero x at = let same : y ≡ x = cc in ap (λ z. Some (f z)) same
      mapped f (y ∷ ys) (suc k) x at = mapped f ys k x at

  pub reads_less : (block k : ℕ) (source : Source) → slice_get (sources after block) k ≡ Some source → (j : ℕ) × (slice_get (sources before block) j ≡ Some source)
  reads_less block k source at = reads_by after.marked before.marked refl refl block k source at

  pub unmarked_before : after.marked ≡ false → before.marked ≡ false
  unmarked_before e = ⊎_elim (λ marked. absurd (true_false (sym marked ∙ e))) (λ same. sym same ∙ e) fewer.mark_is
    where
      true_false : true ≡ false → ⊥
      true_false e = cc

  -- ---- the cells of an element

  module _ (known : IsVolume after) (within : is_within after ≡ true) (image : Image) (is : IsRedundant before image) (element : ℕ) (one other : Part)
      (one_at : slice_get before.parts element ≡ Some one) (other_at : slice_get after.parts element ≡ Some other) (shape_is : other.shape ≡ one.shape) (sector : ℕ) where
    abbrev in_cells : Option Part → (position : ℕ) → Spot → Bool
    in_cells found position spot =
        spot.element == element && elim found [ None ↦ false | Some part ↦ list_any (λ (cell : ℕ × ℕ). cell.0 == position && cell.1 == sector) (element_cells part.shape spot.block) ]

    holds_same : (position block : ℕ) → holds after element position sector block ≡ holds before element position sector block
    holds_same position block =
        ap (list_any (in_cells (slice_get after.parts element) position)) (spots_same before after fewer block)
        ∙ ap (λ (o : Option Part). list_any (in_cells o position) (block_spots before block)) other_at
        ∙ ap (λ (s : Placement). list_any (λ (spot : Spot). spot.element == element && list_any (λ (cell : ℕ × ℕ). cell.0 == position && cell.1 == sector) (element_cells s spot.block)) (block_spots before block)) shape_is
        ∙ ap (λ (o : Option Part). list_any (in_cells o position) (block_spots before block)) (sym one_at)

    block_same : (position : ℕ) → block_at after element position sector ≡ block_at before element position sector
    block_same position =
        ap (λ (f : ℕ → Bool). find f (range_with_len 0 (capacity after))) (fun_ext (holds_same position))
        ∙ ap (λ (t : Arrangement). find (holds before element position sector) (range_with_len 0 (length (spots t)))) fewer.same_tiers

    cell_by : (position : ℕ) → value_without_block image (sources_without_block other position sector) ≡ value_without_block image (sources_without_block one position sector)
        → (o : Option ℕ) → block_at after element position sector ≡ o
        → ◌≡◌ {A = List ℕ} (elim o [ None ↦ value_without_block image (sources_without_block other position sector) | Some block ↦ unwrap_or (value after image block) zeros ])
        (elim o [ None ↦ value_without_block image (sources_without_block one position sector) | Some block ↦ unwrap_or (value before image block) zeros ])
    cell_by position without None found = without
    cell_by position without (Some block) found =
        let below : block < capacity after = omega (arith, found_below (holds after element position sector) 0 (capacity after) block found) in
        let first = first_item (every_source after block) (has_source after known block below within) in
        ap (λ (o : Option (List ℕ)). unwrap_or o zeros) (value_same image is block 0 first.0 first.1)

    -- a cell's value stays where it does of one without a block
    cell_same : (position : ℕ) → value_without_block image (sources_without_block other position sector) ≡ value_without_block image (sources_without_block one position sector)
        → cell_value after image element other sector position ≡ cell_value before image element one sector position
    cell_same position without =
        cell_by position without (block_at after element position sector) refl
        ∙ ap (λ (o : Option ℕ). elim o [ None ↦ value_without_block image (sources_without_block one position sector) | Some block ↦ unwrap_or (value before image block) zeros ]) (block_same position)

    -- a position that isn't available, of an element without parity
    pub wanted_out : (position : ℕ) → keeps_parity one.shape.layout ≡ false → site_at other.places position sector ≡ None → site_at one.places position sector ≡ None
        → wanted after image element other sector position ≡ wanted before image element one sector position
    wanted_out position plain none_other none_one =
        let other_plain : keeps_parity other.shape.layout ≡ false = ap (λ (s : Placement). keeps_parity s.layout) shape_is ∙ plain in
        wanted_cell after image element other sector position other_plain
        ∙ cell_same position (no_source image other position sector other_plain none_other ∙ sym (no_source image one position sector plain none_one))
        ∙ sym (wanted_cell before image element one sector position plain)

    module _ (alike : ArePlaces IsAlikePlace one.places other.places) where
      sites_same : ◌≡◌ {A = ℕ → Option Site} (λ position. site_at other.places position sector) (λ position. site_at one.places position sector)
      sites_same = fun_ext (λ position. sites_alike one.places other.places alike position sector)

      row_same : (position : ℕ) → row_without other.places position sector ≡ row_without one.places position sector
      row_same position =
          ap (λ (n : ℕ). all_of (map (λ position. site_at other.places position sector) (other_positions n position))) (same_count IsAlikePlace one.places other.places alike)
          ∙ ap (λ (f : ℕ → Option Site). all_of (map f (other_positions (length one.places) position))) sites_same

      without_same : (position : ℕ) → sources_without_block other position sector ≡ sources_without_block one position sector
      without_same position =
          ap (λ (o : Option Site). map copy (option_to_list o) ++ (if keeps_parity other.shape.layout then map row (option_to_list (row_without other.places position sector)) else []))
          (sites_alike one.places other.places alike position sector)
          ∙ ap (λ (o : Option (List Site)). map copy (option_to_list (site_at one.places position sector)) ++ (if keeps_parity other.shape.layout then map row (option_to_list o) else [])) (row_same position)
          ∙ ap (λ (s : Placement). map copy (option_to_list (site_at one.places position sector)) ++ (if keeps_parity s.layout then map row (option_to_list (row_without one.places position sector)) else [])) shape_is

      value_of_cell : (position : ℕ) → cell_value after image element other sector position ≡ cell_value before image element one sector position
      value_of_cell position = cell_same position (ap (value_without_block image) (without_same position))

      pub row_sum_same : row_sum after image element other sector ≡ row_sum before image element one sector
      row_sum_same =
          ap (λ (f : ℕ → List ℕ). xor_all (map f (data_positions other.shape sector))) (fun_ext value_of_cell)
          ∙ ap (λ (s : Placement). xor_all (map (cell_value before image element one sector) (data_positions s sector))) shape_is

      pub has_block_same : has_block after element other sector ≡ has_block before element one sector
      has_block_same =
          ap (λ (f : ℕ → Option ℕ). list_any (λ position. is_some (f position)) (data_positions other.shape sector)) (fun_ext block_same)
          ∙ ap (λ (s : Placement). list_any (λ position. is_some (block_at before element position sector)) (data_positions s sector)) shape_is

      pub wanted_alike : (position : ℕ) → wanted after image element other sector position ≡ wanted before image element one sector position
      wanted_alike position =
          ap (λ (s : Placement). if elim (parity_member s (sector / s.strip)) [ None ↦ false | Some member ↦ member == position ] then row_sum after image element other sector else cell_value after image element other sector position) shape_is
          ∙ ap (λ (sum : List ℕ). if is_parity one position sector then sum else cell_value after image element other sector position) row_sum_same
          ∙ ap (λ (bytes : List ℕ). if is_parity one position sector then row_sum before image element one sector else bytes) (value_of_cell position)

  none_site : (places : List Place) → NoneLeft places → (position sector : ℕ) (one : Site) → site_at places position sector ≡ Some one → ⊥
  none_site places none position sector one e = by (slice_get places position) refl e
    where
      not_both : (o : Option Site) → o ≡ None → o ≡ Some one → ⊥
      not_both o a b = cc

      by : (found : Option Place) → slice_get places position ≡ found → option_and_then (λ place. site place sector) found ≡ Some one → ⊥
      by None is e = not_both None refl e
      by (Some place) is e = not_both (site place sector) (none_there place sector (none position place is).0) e

  pub parity_less : (absent_before absent_after : ℕ → ℕ → Bool) (image : Image) → IsVolume after → LeavesParity absent_before absent_after before after → after.marked ≡ false → is_within after ≡ true
      → IsRedundant before image → HasParity absent_before before image → HasParity absent_after after image
  parity_less absent_before absent_after image known leaves unmarked within is has element sector position part site part_at lacks none parity below site_is block =
      let there = part_before before.parts after.parts fewer.fewer_parts element part part_at in
      ⊎_elim
      (λ stays.
      let same = row_sum_same known within image is element there.before part there.is_part part_at there.same_shape sector stays.0 in
      let blocks = has_block_same known within image is element there.before part there.is_part part_at there.same_shape sector stays.0 in
      has element sector position there.before site there.is_part
      (subst (λ (n : ℕ). 2 ≤ n) (away_alike there.before.places part.places stays.0) lacks) stays.1
      (ap (λ (s : Placement). parity_member s (sector / s.strip)) (sym there.same_shape) ∙ parity)
      (subst (λ (s : Placement). sector < depth_of s) there.same_shape below)
      (sym (sites_alike there.before.places part.places stays.0 position sector) ∙ site_is)
      (sym blocks ∙ block) ∙ sym same)
      (λ gone. absurd (none_site part.places gone position sector site site_is))
      (leaves.stays unmarked within element there.before part there.is_part part_at (parity_keeps part.shape.layout part.shape.members (sector / part.shape.strip) position parity) lacks none)

-- what is left to read from is what might be read, and it is sound
module _ (absent_before absent_after : ℕ → ℕ → Bool) (before after : Volume) (image : Image) (allowed : Allowed) (known : IsVolume after) (fewer : IsFewer before after)
    (leaves : LeavesParity absent_before absent_after before after) (kept : IsKeptData absent_before before image allowed) where
  pub sound_less : IsSound absent_after after image
  sound_less = record {
    are_sectors = kept.sound.are_sectors;
    redundant = λ unmarked within. redundant_less before after fewer image (kept.sound.redundant (unmarked_before before after fewer unmarked) (was_within before after fewer within));
    parity = λ unmarked within.
        parity_less before after fewer absent_before absent_after image known leaves unmarked within
        (kept.sound.redundant (unmarked_before before after fewer unmarked) (was_within before after fewer within))
        (kept.sound.parity (unmarked_before before after fewer unmarked) (was_within before after fewer within));
  }

  pub kept_but_rows : AreRowsKept absent_after after image → IsKeptData absent_after after image allowed
  kept_but_rows rows = record {
    sound = sound_less;
    reads = λ block k source at. let there = reads_less before after fewer block k source at in kept.reads block there.0 source there.1;
    rows = rows;
  }
