-- An array keeps what it keeps where a position of it lies elsewhere, where the same bytes stand.
use Rattle.std.proofs.Common.{◌≡◌, ◌∙◌, inl, inr, ⊎_elim, ℕ, ◌/◌, ◌<◌, ◌≤◌, Bool, true, Some, sym, ap, subst, map, slice_get}
use Rattle.std.proofs.lemmas.Bool.{false≢true}
use Rattle.ddf_bay.specs.Sectors.{Image}
use Rattle.ddf_parity.specs.Xor.{xor_all}
use Rattle.ddf_primary.specs.Placement.{Placement}
use Rattle.ddf_primary.specs.Cells.{depth_of, parity_member}
use Rattle.ddf_array.specs.declared.part.Part.{Part}
use Rattle.ddf_array.specs.declared.place.Place.{Place}
use Rattle.ddf_array.specs.Places.{site_at}
use Rattle.ddf_array.specs.Levels.{keeps_parity}
use Rattle.ddf_array.specs.Volume.{Volume, IsVolume}
use Rattle.ddf_array.specs.Within.{is_within}
use Rattle.ddf_array.specs.Sources.{every_source, sources}
use Rattle.ddf_array.specs.Values.{bytes_at, given}
use Rattle.ddf_array.specs.Redundant.{IsRedundant, whole_row}
use Rattle.ddf_array.specs.Sound.{HasParity, IsSound}
use Rattle.ddf_rebuild.specs.Rebuilding.{HasRebuilt}
use Rattle.ddf_rebuild.specs.Target.{IsInRows, IsTarget}
use Rattle.ddf_data_array.specs.Allowed.{Allowed, May}
use Rattle.ddf_data_array.specs.Kept.{IsKeptData}
use Rattle.ddf_data_array.specs.Moved.{HoldsTheSame, moved}
use Rattle.ddf_data_array.specs.Rows.{AreRowsKept, DoRowsCount, IsFirstOut}
use Rattle.ddf_data_array.proofs.Mapped.{item_of, some_of}
use Rattle.ddf_data_array.proofs.Moved.{IsReadAlike, every_now, has_now, lacks_same, sources_now, sum_now, value_now, wanted_now, was_of, whole_same, within_now, within_same}

module _ (v : Volume) (known : IsVolume v) (image : Image) (e p slot start : ℕ) (is : HoldsTheSame v image e p slot start) where
  abbrev now : Volume
  now = moved e p slot start v

  redundant_now : IsRedundant v image → IsRedundant now image
  redundant_now old = record {
    agree = λ block k source at.
        let own = item_of (given image) (every_source now block) (every_source v block) (every_now v known image e p slot start is block) k source at in
        value_now v known image e p slot start is block ∙ old.agree block k own.0 own.1 ∙ ap Some (sym own.2);
    sum_to_zero = λ element sector part sites part_at parity below whole.
        let was = was_of v known image e p slot start is element part part_at in
        let deep : sector < depth_of was.0.shape = subst (λ (s : Placement). sector < depth_of s) was.2.shape_is below in
        let own = some_of (map (bytes_at image)) (whole_row part sector) (whole_row was.0 sector) (whole_same v image element part was.0 was.2 sector deep) sites whole in
        ap xor_all own.2 ∙ old.sum_to_zero element sector was.0 own.0 was.1 (subst (λ (s : Placement). keeps_parity s.layout ≡ true) was.2.shape_is parity) deep own.1;
  }

  parity_now : (is_absent : ℕ → ℕ → Bool) → HasParity is_absent v image → HasParity is_absent now image
  parity_now is_absent old element sector position part one part_at lacks none parity below site_is has =
      let was = was_of v known image e p slot start is element part part_at in
      let deep : sector < depth_of was.0.shape = subst (λ (s : Placement). sector < depth_of s) was.2.shape_is below in
      let here = ⊎_elim (λ same. same) (λ idle. absurd (false≢true (sym idle.empty ∙ sym (has_now v known image e p slot start is element part was.0 was.2 sector) ∙ has))) (was.2.sites position sector deep) in
      let own = some_of (bytes_at image) (site_at part.places position sector) (site_at was.0.places position sector) here one site_is in
      own.2
      ∙ old element sector position was.0 own.0 was.1 (subst (λ (n : ℕ). 2 ≤ n) (lacks_same v image element part was.0 was.2) lacks) none
      (subst (λ (s : Placement). parity_member s (sector / s.strip) ≡ Some position) was.2.shape_is parity) deep own.1 (sym (has_now v known image e p slot start is element part was.0 was.2 sector) ∙ has)
      ∙ sym (sum_now v known image e p slot start is element part was.0 was.2 sector deep)

  within_then : is_within now ≡ true → is_within v ≡ true
  within_then within = sym (within_now v known image e p slot start is) ∙ within

  sound_now : (is_absent : ℕ → ℕ → Bool) → IsSound is_absent v image → IsSound is_absent now image
  sound_now is_absent old = record {
    are_sectors = old.are_sectors;
    redundant = λ unmarked within. redundant_now (old.redundant unmarked (within_then within));
    parity = λ unmarked within. parity_now is_absent (old.parity unmarked (within_then within));
  }

  -- ---- rows that count as rebuilt: the place that moved has none

  module _ (f q : ℕ) (part : Part) (place : Place) (on : ℕ) (target : IsTarget now f q part place on) where
    pub was : (was : Part) × (slice_get v.parts f ≡ Some was) × IsReadAlike v image f part was
    was = was_of v known image e p slot start is f part target.is_part

    pub was_target : IsTarget v f q was.0 place on
    was_target = record { is_part = was.1; is_place = was.2.outs q place target.is_place target.is_out; is_out = target.is_out; is_there = target.is_there }

    pub counts_then : (is_absent : ℕ → ℕ → Bool) → DoRowsCount is_absent f part → DoRowsCount is_absent f was.0
    counts_then is_absent counts parity =
        ⊎_elim (λ within. inl (sym (within_same v image f part was.0 was.2) ∙ within)) (λ none. inr none) (counts (subst (λ (s : Placement). keeps_parity s.layout ≡ true) (sym was.2.shape_is) parity))

  rebuilt_now : (f q row : ℕ) → HasRebuilt v f q 0 row image image → HasRebuilt now f q 0 row image image
  rebuilt_now f q row old part place on sector target in_rows =
      let was = was_of v known image e p slot start is f part target.is_part in
      let rows : IsInRows was.0.shape 0 row sector = subst (λ (s : Placement). IsInRows s 0 row sector) was.2.shape_is in_rows in
      old was.0 place on sector (record { is_part = was.1; is_place = was.2.outs q place target.is_place target.is_out; is_out = target.is_out; is_there = target.is_there }) rows
      ∙ sym (wanted_now v known image e p slot start is f part was.0 was.2 sector q rows.below)

  first_now : (f q : ℕ) → IsFirstOut v f q → IsFirstOut now f q
  first_now f q old part part_at parity earlier place less at =
      let was = was_of v known image e p slot start is f part part_at in
      let own = was.2.syncs earlier place at in
      own.2 ∙ old was.0 was.1 (subst (λ (s : Placement). keeps_parity s.layout ≡ true) was.2.shape_is parity) earlier own.0 less own.1

  rows_kept : (is_absent : ℕ → ℕ → Bool) → AreRowsKept is_absent v image → AreRowsKept is_absent now image
  rows_kept is_absent old = record {
    rebuilt = λ unmarked within f q part place on target counts.
        rebuilt_now f q place.row (old.rebuilt unmarked (within_then within) f q (was f q part place on target).0 place on (was_target f q part place on target) (counts_then f q part place on target is_absent counts));
    first = λ unmarked within f q part place on target counts.
        ⊎_elim (λ none. inl none) (λ first. inr (first_now f q first))
        (old.first unmarked (within_then within) f q (was f q part place on target).0 place on (was_target f q part place on target) (counts_then f q part place on target is_absent counts));
  }

  pub kept_moved : (is_absent : ℕ → ℕ → Bool) (allowed : Allowed) → IsKeptData is_absent v image allowed → IsKeptData is_absent now image allowed
  kept_moved is_absent allowed kept = record {
    sound = sound_now is_absent kept.sound;
    reads = λ block k source at.
        let own = item_of (given image) (sources now block) (sources v block) (sources_now v known image e p slot start is block) k source at in
        subst (May (allowed block)) (sym own.2) (kept.reads block k own.0 own.1);
    rows = rows_kept is_absent kept.rows;
  }
