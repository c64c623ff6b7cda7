-- An array whose mark is cleared, and one whose blocks count from now on.
use Rattle.std.proofs.Common.{◌≡◌, ◌∙◌, ℕ, ◌/◌, ◌<◌, Bool, true, false, not, List, [], ◌∷◌, Option, Some, None, refl, sym, ap, subst, arith, map, length, slice_get}
use Rattle.std.specs.Prelude.{option_map, option_and_then, if◌then◌else◌}
use Rattle.std.proofs.lemmas.Option.{slice_get_within}
use Rattle.ddf_lemmas.proofs.Lists.{first_get, mapped_at, same_some_bytes}
use Rattle.ddf_lemmas.proofs.Options.{some_from_is_some}
use Rattle.ddf_bay.specs.Sectors.{Image}
use Rattle.ddf_primary.proofs.Needs.{parity_keeps}
use Rattle.ddf_secondary.specs.declared.spot.Spot.{Spot}
use Rattle.ddf_secondary.specs.Spots.{spots}
use Rattle.ddf_array.specs.declared.site.Site.{Site}
use Rattle.ddf_array.specs.declared.place.Place.{Place}
use Rattle.ddf_array.specs.Places.{site as site_of}
use Rattle.ddf_array.specs.Volume.{Volume, capacity}
use Rattle.ddf_array.specs.Cells.{spots_like}
use Rattle.ddf_array.specs.Sources.{Source, copy, row, copies, rows, every_source}
use Rattle.ddf_array.specs.Values.{bytes_at, given, value}
use Rattle.ddf_array.specs.Redundant.{IsRedundant}
use Rattle.ddf_array.specs.Sound.{AreSectors, HasParity, IsSound}
use Rattle.ddf_cells.specs.Degraded.{is_degraded}
use Rattle.ddf_cells.proofs.Whole.{whole_site}
use Rattle.ddf_data_array.specs.Allowed.{Allowed, May, once_consistent}
use Rattle.ddf_data_array.specs.Changing.{with_mark, HaveCells, IsConsistentNow, ValuesMay}
use Rattle.ddf_data_array.specs.Kept.{IsKeptData}
use Rattle.ddf_data_array.specs.Rows.{AreRowsKept}
use Rattle.ddf_data_array.proofs.From.{HasCell, IsFrom, cell_of, source_at, source_from}
use Rattle.ddf_data_array.proofs.Items.{is_there, none_away}

-- a block that has a source is one of the array's
pub cell_below : (v : Volume) (block : ℕ) → HasCell v block → block < capacity v
cell_below v block from = by (slice_get (spots v.tiers) block) refl from.is_spot
  where
    by : (found : Option Spot) → slice_get (spots v.tiers) block ≡ found → slice_get (elim found [ None ↦ [] | Some spot ↦ spots_like v.tiers.level (length v.parts) spot ]) from.j ≡ Some from.spot
        → block < capacity v
    by None is e = absurd (cc)
    by (Some spot) is e = slice_get_within (spots v.tiers) block spot is

pub block_below : (v : Volume) (block : ℕ) (source : Source) → IsFrom v block source → block < capacity v
block_below v block source from = cell_below v block (cell_of v block source from)

-- a read may use each available cell
copy_read_by : (v : Volume) (block k : ℕ) (one : Site) → slice_get (copies v block) k ≡ Some one → (b : Bool)
    → slice_get (if b then every_source v block else map copy (copies v block)) k ≡ Some (copy one)
copy_read_by v block k one at true = first_get (map copy (copies v block)) (map row (rows v block)) k (copy one) (mapped_at copy (copies v block) k one at)
copy_read_by v block k one at false = mapped_at copy (copies v block) k one at

pub copy_reads : (is_absent : ℕ → ℕ → Bool) (v : Volume) (image : Image) (allowed : Allowed) → IsKeptData is_absent v image allowed → (block k : ℕ) (one : Site) → slice_get (copies v block) k ≡ Some one
    → May (allowed block) (bytes_at image one)
copy_reads is_absent v image allowed kept block k one at = kept.reads block k (copy one) (copy_read_by v block k one at (not v.marked))

-- in a redundant array each copy has the value
pub copy_value : (v : Volume) (image : Image) → IsRedundant v image → (block k : ℕ) (one : Site) → slice_get (copies v block) k ≡ Some one → value v image block ≡ Some (bytes_at image one)
copy_value v image is block k one at = is.agree block k (copy one) (copy_read_by v block k one at true)

-- so where each block has a copy that it may have, each source gives what it may have
pub source_may : (is_absent : ℕ → ℕ → Bool) (v : Volume) (image : Image) (allowed : Allowed) → IsKeptData is_absent v image allowed → IsRedundant v image → HaveCells v
    → (block k : ℕ) (source : Source) → slice_get (every_source v block) k ≡ Some source → May (allowed block) (given image source)
source_may is_absent v image allowed kept is have block k source at =
    let first = some_from_is_some (slice_get (copies v block) 0) (have block (block_below v block source (source_from v block k source at))) in
    let same = same_some_bytes (value v image block) (bytes_at image first.0) (given image source) (copy_value v image is block 0 first.0 first.1) (is.agree block k source at) in
    subst (May (allowed block)) same (copy_reads is_absent v image allowed kept block 0 first.0 first.1)

sound_now : (is_absent : ℕ → ℕ → Bool) (marked : Bool) (v : Volume) (image : Image) → AreSectors image → IsConsistentNow is_absent v image → IsSound is_absent (with_mark marked v) image
sound_now is_absent marked v image are is = record {
  are_sectors = are;
  redundant = λ unmarked within. record { agree = is.redundant.agree; sum_to_zero = is.redundant.sum_to_zero };
  parity = λ unmarked within element sector position part site. is.parity element sector position part site;
}

-- the mark is cleared
pub kept_unmarked : (is_absent : ℕ → ℕ → Bool) (v : Volume) (image : Image) (allowed : Allowed) → AreSectors image → IsConsistentNow is_absent v image → AreRowsKept is_absent (with_mark false v) image
    → ValuesMay v image allowed → IsKeptData is_absent (with_mark false v) image allowed
kept_unmarked is_absent v image allowed are is rows may = record {
  sound = sound_now is_absent false v image are is;
  reads = λ block k source at. may block (given image source) (is.redundant.agree block k source at);
  rows = rows;
}

-- a redundant array of which no element with parity lacks a position
whole_parity : (is_absent : ℕ → ℕ → Bool) (v : Volume) (image : Image) → is_degraded v ≡ false → HasParity is_absent v image
whole_parity is_absent v image whole element sector position part site part_at lacks none parity below site_is has =
    let keep = parity_keeps part.shape.layout part.shape.members (sector / part.shape.strip) position parity in
    absurd (omega (
      arith,
      lacks,
      none_away part.places (λ k place at.
          let there = whole_site v whole element part part_at keep k sector (slice_get_within part.places k place at) in
          is_there place sector there.0 (ap (λ (o : Option Place). option_and_then (λ place. site_of place sector) o) (sym at) ∙ there.1)),
    ))

pub whole_consistent : (is_absent : ℕ → ℕ → Bool) (v : Volume) (image : Image) → is_degraded v ≡ false → IsRedundant v image → IsConsistentNow is_absent v image
whole_consistent is_absent v image whole is = record { redundant = is; parity = whole_parity is_absent v image whole }

-- the bytes count that the blocks have
pub kept_consistent : (is_absent : ℕ → ℕ → Bool) (marked : Bool) (v : Volume) (image : Image) → AreSectors image → IsConsistentNow is_absent v image
    → AreRowsKept is_absent (with_mark marked v) image → IsKeptData is_absent (with_mark marked v) image (once_consistent v image)
kept_consistent is_absent marked v image are is rows = record {
  sound = sound_now is_absent marked v image are is;
  reads = λ block k source at.
      let there = source_at (with_mark marked v) block k source at in
      subst (λ (o : Option (List ℕ)). May (option_map (λ bytes. bytes ∷ []) o) (given image source)) (sym (is.redundant.agree block there.0 source there.1)) (0, refl);
  rows = rows;
}

-- and they are bytes that the blocks might have
pub value_may : (is_absent : ℕ → ℕ → Bool) (v : Volume) (image : Image) (allowed : Allowed) → IsKeptData is_absent v image allowed → IsRedundant v image → HaveCells v
    → ValuesMay v image allowed
value_may is_absent v image allowed kept is have block bytes e = by (slice_get (every_source v block) 0) refl e
  where
    by : (found : Option Source) → slice_get (every_source v block) 0 ≡ found → option_map (given image) found ≡ Some bytes → May (allowed block) bytes
    by None is_none e = absurd (cc)
    by (Some source) at e =
        let same : given image source ≡ bytes = cc in
        subst (May (allowed block)) same (source_may is_absent v image allowed kept is have block 0 source at)

-- once they count, they are
pub counted_may : (v : Volume) (image : Image) → ValuesMay v image (once_consistent v image)
counted_may v image block bytes e = subst (λ (o : Option (List ℕ)). May (option_map (λ bytes. bytes ∷ []) o) bytes) (sym e) (0, refl)
