-- An array keeps what it keeps once a position is in sync: also of the rows of other positions.
use Rattle.std.proofs.Common.{◌≡◌, ◌≢◌, ◌∙◌, ◌⊎◌, inl, inr, ⊎_elim, ℕ, ◌+◌, ◌-◌, ◌*◌, ◌/◌, ◌<◌, ◌≤◌, Bool, true, false, not, List, Option, Some, None, refl, sym, ap, subst, arith, map, slice_get}
use Rattle.std.proofs.Math.Path.{fun_ext}
use Rattle.std.specs.Prelude.{option_map, option_and_then, unwrap_or, if◌then◌else◌}
use Rattle.std.proofs.lemmas.Bool.{cases_lt}
use Rattle.std.proofs.lemmas.Nat.{div-add-mod', mod_below}
use Rattle.ddf_lemmas.proofs.Options.{some_is}
use Rattle.ddf_lemmas.proofs.Tests.{true_false}
use Rattle.ddf_bay.specs.Sectors.{Image}
use Rattle.ddf_parity.specs.Xor.{xor_all, zeros}
use Rattle.ddf_primary.specs.Cells.{depth_of, height_of}
use Rattle.ddf_primary.proofs.ShapeFacts.{height_some}
use Rattle.ddf_array.specs.declared.part.Part.{Part}
use Rattle.ddf_array.specs.declared.place.Place.{Place}
use Rattle.ddf_array.specs.declared.site.Site.{Site}
use Rattle.ddf_array.specs.Places.{site_at, site_on}
use Rattle.ddf_array.specs.Levels.{keeps_parity}
use Rattle.ddf_array.specs.Volume.{Volume, IsVolume}
use Rattle.ddf_array.specs.Within.{is_within}
use Rattle.ddf_array.specs.Sources.{Source, copy, copies, every_source}
use Rattle.ddf_array.specs.Values.{bytes_at, given, value}
use Rattle.ddf_array.specs.Redundant.{IsRedundant}
use Rattle.ddf_array.specs.Rows.{block_at, cell_value, data_positions, row_sum, sources_without_block, value_without_block}
use Rattle.ddf_array.specs.Sound.{AreSectors, HasParity}
use Rattle.ddf_cells.specs.CellSources.{is_parity, wanted}
use Rattle.ddf_rebuild.specs.Target.{IsInRows, IsOut, IsTarget}
use Rattle.ddf_data_array.specs.Allowed.{Allowed, May}
use Rattle.ddf_data_array.specs.Changing.{IsRebuilt, place_in_sync, part_in_sync, in_sync}
use Rattle.ddf_data_array.specs.Kept.{IsKeptData}
use Rattle.ddf_data_array.specs.Rows.{AreRowsKept, DoRowsCount, IsFirstOut}
use Rattle.ddf_data_array.proofs.From.{IsFrom, source_of}
use Rattle.ddf_data_array.proofs.Items.{changed_cases, lies_at, none_where, own_none, unchanged_at}
use Rattle.ddf_data_array.proofs.InSync.{part_cases}
use Rattle.ddf_data_array.proofs.Lessened.{no_source, wanted_cell}
use Rattle.ddf_data_array.proofs.Finished.{block_same, cell_other, claim, parity_now, redundant_now, value_in}
use Rattle.ddf_data_array.proofs.RowsKept.{has_rebuilt, no_rows}

module _ (v : Volume) (known : IsVolume v) (image : Image) (are : AreSectors image) (is : IsRedundant v image) (within : is_within v ≡ true) (e p : ℕ) (target : IsOut v e p)
    (is_absent : ℕ → ℕ → Bool) (has : HasParity is_absent v image) (none : (other : ℕ) → is_absent e other ≡ false)
    (rebuilt : (sector : ℕ) (one : Site) → sector < depth_of target.part.shape → lies_at target.part.places p sector ≡ Some one → bytes_at image one ≡ wanted v image e target.part sector p) where
  abbrev new : Part
  new = part_in_sync p target.part

  abbrev now : Volume
  now = in_sync e p v

  -- ---- another element

  sum_other : (f : ℕ) (part : Part) (sector : ℕ) → row_sum now image f part sector ≡ row_sum v image f part sector
  sum_other f part sector =
      ap (λ (h : ℕ → List ℕ). xor_all (map h (data_positions part.shape sector)))
      (fun_ext (λ position. cell_other v known image are is within e p target is_absent has none rebuilt f part sector position))

  wanted_other : (f : ℕ) (part : Part) (sector position : ℕ) → wanted now image f part sector position ≡ wanted v image f part sector position
  wanted_other f part sector position =
      ap (λ (sum : List ℕ). if is_parity part position sector then sum else cell_value now image f part sector position) (sum_other f part sector)
      ∙ ap (λ (bytes : List ℕ). if is_parity part position sector then row_sum v image f part sector else bytes)
      (cell_other v known image are is within e p target is_absent has none rebuilt f part sector position)

  -- ---- another position of the element, where that keeps no parity

  cell_out : (position sector : ℕ) → keeps_parity target.part.shape.layout ≡ false → site_at new.places position sector ≡ None → site_at target.part.places position sector ≡ None
      → cell_value now image e new sector position ≡ cell_value v image e target.part sector position
  cell_out position sector plain none_now none_then =
      by (block_at now e position sector) refl
      ∙ ap (λ (o : Option ℕ). elim o [ None ↦ value_without_block image (sources_without_block target.part position sector) | Some block ↦ unwrap_or (value v image block) zeros ])
      (block_same v known image are is within e p target is_absent has none rebuilt e position sector)
    where
      by : (o : Option ℕ) → block_at now e position sector ≡ o
          → ◌≡◌ {A = List ℕ} (elim o [ None ↦ value_without_block image (sources_without_block new position sector) | Some block ↦ unwrap_or (value now image block) zeros ])
          (elim o [ None ↦ value_without_block image (sources_without_block target.part position sector) | Some block ↦ unwrap_or (value v image block) zeros ])
      by None found = no_source image new position sector plain none_now ∙ sym (no_source image target.part position sector plain none_then)
      by (Some block) found =
          ap (λ (o : Option (List ℕ)). unwrap_or o zeros) (value_in v known image are is within e p target is_absent has none rebuilt e position sector block found)

  wanted_out : (position sector : ℕ) → keeps_parity target.part.shape.layout ≡ false → site_at new.places position sector ≡ None → site_at target.part.places position sector ≡ None
      → wanted now image e new sector position ≡ wanted v image e target.part sector position
  wanted_out position sector plain none_now none_then =
      wanted_cell now image e new sector position plain ∙ cell_out position sector plain none_now none_then ∙ sym (wanted_cell v image e target.part sector position plain)

  -- ---- the rows

  module _ (kept : AreRowsKept is_absent v image) (unmarked : v.marked ≡ false) (first : IsFirstOut v e p) where
    -- a position that is out of sync still
    module _ (f q : ℕ) (part : Part) (place : Place) (slot : ℕ) (still : IsTarget now f q part place slot) (counts : DoRowsCount is_absent f part) where
      abbrev Holds : Type 0
      Holds = ((sector : ℕ) → IsInRows part.shape 0 place.row sector → image slot (place.start + sector) ≡ wanted now image f part sector q) × ((place.row ≡ 0) ⊎ IsFirstOut now f q)

      -- it has no rows
      without : place.row ≡ 0 → Holds
      without zero_row = (λ sector rows. no_rows part place.row sector zero_row rows, inl zero_row)

      other_element : f ≢ e → slice_get v.parts f ≡ Some part → Holds
      other_element apart part_at =
          let was : IsTarget v f q part place slot = record { is_part = part_at; is_place = still.is_place; is_out = still.is_out; is_there = still.is_there } in (
            λ sector rows. kept.rebuilt unmarked within f q part place slot was counts part place slot sector was rows ∙ sym (wanted_other f part sector q),
            ⊎_elim (λ zero_row. inl zero_row)
                (λ first_there. inr (λ other other_at.
                ⊎_elim (λ here. absurd (apart here.0)) (λ there. first_there other there.1) (part_cases v known image are is within e p target f other other_at)))
                (kept.first unmarked within f q part place slot was counts),
          )

      same_element : f ≡ e → part ≡ new → Holds
      same_element here new_is =
          ⊎_elim
          (λ changed. absurd (true_false place.synced (ap (λ (x : Place). x.synced) changed.is_changed) still.is_out))
          (λ other. by_level other.0 other.1 (keeps_parity target.part.shape.layout) refl)
          (changed_cases place_in_sync p target.part.places q place (ap (λ (x : Part). slice_get x.places q) (sym new_is) ∙ still.is_place))
        where
          by_level : q ≢ p → slice_get target.part.places q ≡ Some place → (b : Bool) → keeps_parity target.part.shape.layout ≡ b → Holds
          by_level apart at true parity =
              let was : IsTarget v e q target.part place slot = record { is_part = target.is_target.is_part; is_place = at; is_out = still.is_out; is_there = still.is_there } in
              ⊎_elim (λ zero_row. without zero_row)
              (λ first_there.
              ⊎_elim
              (λ less. absurd (true_false place.synced (first target.part target.is_target.is_part parity q place less at) still.is_out))
              (λ more. absurd (true_false target.place.synced (first_there target.part target.is_target.is_part parity p target.place (omega (arith, more, apart)) target.is_target.is_place) target.is_target.is_out))
              (cases_lt q p))
              (kept.first unmarked within e q target.part place slot was (λ keeps. inr none))
          by_level apart at false plain =
              let was : IsTarget v e q target.part place slot = record { is_part = target.is_target.is_part; is_place = at; is_out = still.is_out; is_there = still.is_there } in
              let at_now : slice_get new.places q ≡ Some place = unchanged_at place_in_sync p target.part.places q place apart at in (
                λ sector rows.
                    kept.rebuilt unmarked within e q target.part place slot was (λ keeps. absurd (true_false (keeps_parity target.part.shape.layout) keeps plain)) target.part place slot sector was
                    (subst (λ (x : Part). IsInRows x.shape 0 place.row sector) new_is rows)
                    ∙ sym (wanted_out q sector plain (none_where (site_at new.places q sector) (own_none new.places q place at_now still.is_out sector))
                    (none_where (site_at target.part.places q sector) (own_none target.part.places q place at still.is_out sector)))
                    ∙ ap (λ (x : Part). wanted now image e x sector q) (sym new_is) ∙ ap (λ (n : ℕ). wanted now image n part sector q) (sym here),
                inr (λ other other_at parity.
                    let same : other ≡ part = some_is (sym other_at ∙ still.is_part) in
                    absurd (true_false (keeps_parity target.part.shape.layout) (ap (λ (x : Part). keeps_parity x.shape.layout) (sym new_is ∙ sym same) ∙ parity) plain)),
              )

      holds : Holds
      holds = ⊎_elim (λ here. same_element here.0 here.1) (λ other. other_element other.0 other.1) (part_cases v known image are is within e p target f part still.is_part)

    pub rows_now : AreRowsKept is_absent now image
    rows_now = record {
      rebuilt = λ unmarked' within' f q part place slot still counts. has_rebuilt now image f q place.row part place slot still (holds f q part place slot still counts).0;
      first = λ unmarked' within' f q part place slot still counts. (holds f q part place slot still counts).1;
    }

-- ---- what is kept

-- the rows of an element are all counted
all_counted : (depth strip sector : ℕ) → 1 ≤ strip → sector < depth → sector < (depth + strip - 1) / strip * strip
all_counted depth strip sector some below =
    let whole = div-add-mod' (depth + strip - 1) strip in
    let rest = mod_below (depth + strip - 1) strip (omega (arith, some)) in
    omega (arith, whole, rest, below, some)

rebuilt_at : (v : Volume) → IsVolume v → (image : Image) (e p : ℕ) (target : IsOut v e p) → IsRebuilt v e p image → (sector : ℕ) (one : Site) → sector < depth_of target.part.shape
    → lies_at target.part.places p sector ≡ Some one → bytes_at image one ≡ wanted v image e target.part sector p
rebuilt_at v known image e p target all sector one deep lies =
    let shape_is = (known.are_parts e target.part target.is_target.is_part).shape_is in
    let there : lies_at target.part.places p sector ≡ Some (site_on target.slot (target.place.start + sector)) =
    ap (λ (o : Option Place). option_and_then (λ (place : Place). option_map (λ slot. site_on slot (place.start + sector)) place.slot) o) target.is_target.is_place
    ∙ ap (λ (o : Option ℕ). option_map (λ slot. site_on slot (target.place.start + sector)) o) target.is_target.is_there in
    ap (bytes_at image) (some_is (sym lies ∙ there))
    ∙ all target.part target.is_target.is_part target.part target.place target.slot sector target.is_target
    (record { from_is = omega arith; to_is = all_counted (depth_of target.part.shape) (height_of target.part.shape) sector (height_some target.part.shape shape_is) deep; below = deep })

pub kept_finished : (is_absent : ℕ → ℕ → Bool) (v : Volume) (image : Image) (allowed : Allowed) (e p : ℕ) → IsVolume v → v.marked ≡ false → is_within v ≡ true → (target : IsOut v e p)
    → ((other : ℕ) → is_absent e other ≡ false)
    → IsFirstOut v e p → IsRebuilt v e p image → IsKeptData is_absent v image allowed → IsKeptData is_absent (in_sync e p v) image allowed
kept_finished is_absent v image allowed e p known unmarked within target none first all kept =
    let is = kept.sound.redundant unmarked within in
    let has = kept.sound.parity unmarked within in
    let are = kept.sound.are_sectors in
    record {
      sound = record {
        are_sectors = are;
        redundant = λ unmarked' within'. redundant_now v known image are is within e p target is_absent has none rebuilt;
        parity = λ unmarked' within'. parity_now v known image are is within e p target is_absent has none rebuilt;
      };
      reads = λ block k source at. reads_by is has are block source (source_of (in_sync e p v) block k source at);
      rows = rows_now v known image are is within e p target is_absent has none rebuilt kept.rows unmarked first;
    }
  where
    rebuilt : (sector : ℕ) (one : Site) → sector < depth_of target.part.shape → lies_at target.part.places p sector ≡ Some one → bytes_at image one ≡ wanted v image e target.part sector p
    rebuilt = rebuilt_at v known image e p target all

    reads_by : IsRedundant v image → HasParity is_absent v image → AreSectors image → (block : ℕ) (source : Source) → IsFrom (in_sync e p v) block source → May (allowed block) (given image source)
    reads_by is has are block source from =
        let gives = claim v known image are is within e p target is_absent has none rebuilt block source from in
        by (slice_get (every_source v block) 0) refl gives
      where
        by : (found : Option Source) → slice_get (every_source v block) 0 ≡ found → option_map (given image) found ≡ Some (given image source) → May (allowed block) (given image source)
        by None is_none e = absurd (cc)
        by (Some first) is_first e =
            let same : given image first ≡ given image source = cc in
            subst (May (allowed block)) same
            (kept.reads block 0 first (ap (λ (b : Bool). slice_get (if not b then every_source v block else map copy (copies v block)) 0) unmarked ∙ is_first))
