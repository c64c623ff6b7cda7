-- The tables and the log of new copies can be written, and so can the copies.
use Rattle.std.proofs.Common.{◌≡◌, ℕ, zero, suc, ◌≤◌, ◌<◌, ◌^◌, false, List, [], ◌∷◌, length, get_or, replicate, refl, sym, ◌∙◌, subst, arith}
use Rattle.std.proofs.lemmas.List.{length-replicate}
use Rattle.std.proofs.lemmas.List.Sums.{count_by-le-length}
use Rattle.std.specs.Prelude.{Ok}
use Rattle.std.specs.List.{AllByRecursion, IsDistinct, filter_map}
use Rattle.std.specs.Str.{bytes_eq}
use Rattle.ddf_bytes.specs.declared.stamp.Stamp.{Stamp}
use Rattle.ddf_header.specs.declared.kind.Revision.{Revision}
use Rattle.ddf_seal.specs.declared.unread.Span.{Span}
use Rattle.ddf_seal.specs.Seal.{seal_place}
use Rattle.ddf_seal.specs.Unread.{cleared}
use Rattle.ddf_seal.proofs.Same.{AreWithin, cleared-cleared, cleared_outside, within_from_test}
use Rattle.ddf_tables.specs.declared.arrays.ArrayRow.TheVariants.{Unused}
use Rattle.ddf_tables.specs.Arrays.{HaveGuids, IsArrayRow, IsArrayTable, guid_of, is_no_array}
use Rattle.ddf_tables.specs.Disks.{IsDiskTable, is_used_disk}
use Rattle.ddf_tables.specs.BadBlocks.{IsLog}
use Rattle.ddf_tables.specs.Tables.{table_places}
use Rattle.ddf_tables.proofs.LogValues.{blank_log_size, blank_log_writable}
use Rattle.ddf_copy.specs.Headers.{IsUnder, anchor_header}
use Rattle.ddf_update.specs.declared.new_layout.NewLayout.TheVariants.{Small}
use Rattle.ddf_update.specs.NewCopies.{blank_disks, new_arrays, new_copy, new_disks, new_log, new_rows}
use Rattle.ddf_update.proofs.NewRows.{have_references, length-new_rows, rows_good}
use Rattle.ddf_update.proofs.NewUnder.{AreMade, copy_is_under}

-- ---- the bytes of tables that no field names

-- all bytes FF
abbrev filled : List ℕ
filled = replicate 1024 255

abbrev spans : List Span
spans = seal_place ∷ table_places 15

filled_long : length filled ≡ 1024
filled_long = length-replicate {A = ℕ} 1024 255

within : AreWithin (length filled) spans
within = subst (λ (n : ℕ). AreWithin n spans) (sym (filled_long)) (within_from_test 1024 spans refl)

rest_clear : cleared spans (cleared spans filled) ≡ cleared spans filled
rest_clear = cleared-cleared spans filled within

rest_long : length (cleared spans filled) ≡ 1024
rest_long = (cleared_outside spans filled within).size ∙ filled_long

-- ---- the tables

-- The table of disks can be written.
disks_good : (revision : Revision) (stamp : Stamp) (sizes : List ℕ) → length sizes ≤ 15 → ((i : ℕ) → get_or sizes i 0 < 2 ^ 64) → IsDiskTable 15 (new_disks Small revision stamp sizes)
unfolding blank_disks
disks_good revision stamp sizes few fit =
    let many = count_by-le-length is_used_disk (new_rows Small revision stamp sizes) in
    let rows = length-new_rows Small revision stamp sizes few in
    let long = rest_long in
    record {
      has_rows = rows;
      max_fits = omega arith;
      populated_fits = omega (arith, many, rows);
      long = omega (arith, long);
      others_clear = rest_clear;
      rows_good = rows_good Small revision stamp sizes few fit;
      have_names = have_references Small revision stamp sizes few;
    }

disks_long : (revision : Revision) (stamp : Stamp) (sizes : List ℕ) → length (new_disks Small revision stamp sizes).rest ≡ 1024
unfolding blank_disks
disks_long revision stamp sizes = rest_long

-- the table of no array
unused_good : (count : ℕ) → AllByRecursion IsArrayRow (replicate count (Unused (replicate 64 255)))
unused_good zero = tt
unused_good (suc count) = ((refl, refl), unused_good count)

none_named : (count : ℕ) → filter_map guid_of (replicate count (Unused (replicate 64 255))) ≡ []
none_named zero = refl
none_named (suc count) = none_named count

no_guids : HaveGuids (replicate 15 (Unused (replicate 64 255)))
unfolding IsDistinct
no_guids = record {
  each_names = subst (AllByRecursion (λ name. is_no_array name ≡ false)) (sym (none_named 15)) tt;
  all_differ = subst (IsDistinct bytes_eq) (sym (none_named 15)) tt;
}

arrays_good : IsArrayTable 15 (new_arrays Small)
unfolding new_arrays
arrays_good =
    let long = rest_long in
    record {
      has_rows = length-replicate 15 (Unused (replicate 64 255));
      max_fits = omega arith;
      populated_fits = omega arith;
      long = omega (arith, long);
      others_clear = rest_clear;
      rows_good = unused_good 15;
      have_names = no_guids;
    }

arrays_long : length (new_arrays Small).rest ≡ 1024
unfolding new_arrays
arrays_long = rest_long

-- ---- the log

log_good : IsLog new_log
unfolding new_log
log_good = blank_log_writable 512 (Ok _) (omega arith) refl

log_long : length new_log.rest ≡ 512
unfolding new_log
log_long = blank_log_size 512 (Ok _) (omega arith) refl

-- ---- the copies

-- The tables and the log of new copies can be written.
pub are_made : (revision : Revision) (stamp : Stamp) (sizes : List ℕ) → length sizes ≤ 15 → ((i : ℕ) → get_or sizes i 0 < 2 ^ 64) → AreMade Small revision stamp sizes
are_made revision stamp sizes few fit = record {
  disks_can = disks_good revision stamp sizes few fit;
  disks_size = disks_long revision stamp sizes;
  arrays_can = arrays_good;
  arrays_size = arrays_long;
  log_can = log_good;
  log_size = log_long;
}

-- A new copy can be written in both places of its disk.
pub new_under : (revision : Revision) (stamp : Stamp) (sizes : List ℕ) (place : ℕ) → length sizes ≤ 15 → ((i : ℕ) → get_or sizes i 0 < 2 ^ 64) → place < length sizes → 33000 ≤ get_or sizes place 0
    → IsUnder (get_or sizes place 0) (anchor_header (new_copy Small revision stamp sizes place)) (new_copy Small revision stamp sizes place)
new_under revision stamp sizes place few fit below large =
    copy_is_under Small revision stamp sizes place (are_made revision stamp sizes few fit) (omega (arith, few, below)) large (fit place)
