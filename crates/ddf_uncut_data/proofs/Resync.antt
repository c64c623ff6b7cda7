-- What the blocks of an array have once it was resynced.
use Rattle.std.proofs.Common.{◌≡◌, ◌∙◌, ⊎_elim, ℕ, suc, ◌<◌, true, false, List, [], ◌∷◌, Option, Some, None, refl, sym, ap, map, slice_get}
use Rattle.std.specs.Prelude.{unwrap_or}
use Rattle.ddf_lemmas.proofs.Options.{some_from_is_some}
use Rattle.ddf_bay.specs.Sectors.{Image}
use Rattle.ddf_parity.specs.Xor.{zeros}
use Rattle.ddf_array.specs.declared.site.Site.{Site}
use Rattle.ddf_array.specs.Apart.{IsApart}
use Rattle.ddf_array.specs.Redundant.{IsRedundant}
use Rattle.ddf_array.specs.Sound.{AreSectors}
use Rattle.ddf_array.specs.Sources.{copies, copy}
use Rattle.ddf_array.specs.Values.{bytes_at, given, value}
use Rattle.ddf_array.specs.Volume.{Volume, IsVolume, capacity}
use Rattle.ddf_array.specs.Within.{is_within}
use Rattle.ddf_read.specs.Reading.{IsGivenBy, IsOn}
use Rattle.ddf_resync.specs.Resyncing.{HasResynced}
use Rattle.ddf_resync.proofs.Values.{value_copy}
use Rattle.ddf_data_array.specs.Allowed.{once_consistent}
use Rattle.ddf_data_array.specs.Changing.{with_mark}
use Rattle.ddf_data_array.specs.Kept.{IsKeptData}
use Rattle.ddf_cells.proofs.Alike.{copy_is_cell}
use Rattle.ddf_read.proofs.SourceSlots.{copy_on}
use Rattle.ddf_read.proofs.Common.{first_taken_by}
use Rattle.ddf_data_array.proofs.Consistent.{block_below, kept_consistent, whole_consistent}
use Rattle.ddf_data_array.proofs.From.{source_at, source_from}
use Rattle.ddf_data_array.proofs.Given.{have_cells}
use Rattle.ddf_uncut_data.specs.Blank.{IsBlank}
use Rattle.ddf_uncut_data.specs.Blocks.{HoldsBlocks, held_blocks, none_absent}
use Rattle.ddf_uncut_data.specs.Whole.{IsWhole}
use Rattle.ddf_uncut_data.proofs.Whole.{marked_volume, not_degraded, whole_rows}

-- ---- what a resync read

all_held : (failed : ℕ → Type 0) (image : Image) (held : List ℕ) (cells : List Site) (bytes : List ℕ) → ((k : ℕ) (one : Site) → slice_get cells k ≡ Some one → bytes_at image one ≡ held)
    → IsGivenBy failed image (map copy cells) bytes → bytes ≡ held
all_held failed image held [] bytes each is = absurd is
all_held failed image held (cell ∷ cells) bytes each is =
    ⊎_elim (λ read. read ∙ each 0 cell refl) (λ later. all_held failed image held cells bytes (λ k one at. each (suc k) one at) later.1) is

-- ---- the array behind it

module _ (failed : ℕ → Type 0) (v : Volume) (before behind : Image) (known : IsVolume v) (apart : IsApart v) (within : is_within v ≡ true) (whole : IsWhole v) (are : AreSectors behind)
    (has : HasResynced failed v before behind) where
  redundant : IsRedundant v behind
  redundant = has.redundant are

  counted : IsKeptData none_absent (with_mark false v) behind (once_consistent v behind)
  counted = kept_consistent none_absent false v behind are (whole_consistent none_absent v behind (not_degraded v whole) redundant) (whole_rows none_absent (with_mark false v) behind whole)

  -- blocks that have the values that the array has
  holds_by : (blocks : ℕ → List ℕ) → ((block : ℕ) (bytes : List ℕ) → block < capacity v → value v behind block ≡ Some bytes → bytes ≡ blocks block) → HoldsBlocks (with_mark false v) behind blocks
  holds_by blocks each = record {
    is_volume = marked_volume false v known;
    apart = apart;
    unmarked = refl;
    within = within;
    kept = record {
      sound = counted.sound;
      reads = λ block k source at.
          let there = source_at (with_mark false v) block k source at in
          (0, ap (λ (l : List ℕ). Some l) (sym (each block (given behind source) (block_below v block source (source_from v block there.0 source there.1)) (redundant.agree block there.0 source there.1))));
      rows = counted.rows;
    };
  }

  pub holds_resynced : HoldsBlocks (with_mark false v) behind (held_blocks v behind)
  holds_resynced = holds_by (held_blocks v behind) (λ block bytes below is. sym (ap (λ (o : Option (List ℕ)). unwrap_or o []) is))

  first : (block : ℕ) → block < capacity v → (one : Site) × (slice_get (copies v block) 0 ≡ Some one)
  first block below = some_from_is_some (slice_get (copies v block) 0) (have_cells v known within (not_degraded v whole) block below)

  -- Where no read failed these are what it held before.
  pub value_stays : ((slot : ℕ) → IsOn v slot → failed slot → ⊥) → (block : ℕ) → block < capacity v → value v behind block ≡ value v before block
  value_stays good block below =
      let one = first block below in
      value_copy v behind block one.0 one.1
      ∙ ap (λ (l : List ℕ). Some l) (first_taken_by failed before (copies v block) one.0 (bytes_at behind one.0) one.1 (good one.0.slot (copy_on v block one.0 one.1)) (has.given block 0 one.0 one.1))
      ∙ sym (value_copy v before block one.0 one.1)

  -- An array of zeros holds zeros.
  pub holds_zeros : IsBlank v before → HoldsBlocks (with_mark false v) behind (λ block. zeros)
  holds_zeros blank = holds_by (λ block. zeros) (λ block bytes below is.
      let one = first block below in
      let read : bytes_at behind one.0 ≡ zeros = all_held failed before zeros (copies v block) (bytes_at behind one.0) (λ k cell at. blank cell.slot cell.lba (copy_is_cell v known block k cell at)) (has.given block 0 one.0 one.1) in
      let same : bytes ≡ bytes_at behind one.0 = same_bytes (value v behind block) bytes (bytes_at behind one.0) is (value_copy v behind block one.0 one.1) in
      same ∙ read)
    where
      same_bytes : (o : Option (List ℕ)) (one other : List ℕ) → o ≡ Some one → o ≡ Some other → one ≡ other
      same_bytes None one other a b = absurd (cc)
      same_bytes (Some found) one other a b = cc
