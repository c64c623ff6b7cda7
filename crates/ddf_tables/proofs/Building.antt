-- Entries over the bytes of others can be written.
use Rattle.std.proofs.Common.{◌≡◌, ℕ, ◌+◌, ◌<◌, ◌≤◌, false, List, [], ◌∷◌, length, replicate, Option, Some, None, refl, sym, ◌∙◌, subst, arith, inl, inr}
use Rattle.std.proofs.lemmas.Bool.{cases_lt}
use Rattle.std.specs.List.{AllByRecursion}
use Rattle.std.specs.Option.{ForSome}
use Rattle.std.specs.Int.{w16, to_be_bytes}
use Rattle.ddf_seal.specs.declared.unread.Span.{Span}
use Rattle.ddf_seal.specs.Unread.{Fits, placed, cleared}
use Rattle.ddf_seal.proofs.Placing.{length-placed}
use Rattle.ddf_seal.proofs.Same.{IsOutside, IsOutsideAll, AreWithin, SameAt, SameAt-all, placed_outside, cleared_outside, cleared_same, cleared-cleared, within_from_test}
use Rattle.ddf_tables.specs.declared.disks.DiskEntry.{DiskEntry}
use Rattle.ddf_tables.specs.declared.disks.DiskRow.TheVariants as disk_rows
use Rattle.ddf_tables.specs.declared.arrays.ArrayEntry.{ArrayEntry}
use Rattle.ddf_tables.specs.declared.arrays.ArrayRow.TheVariants as array_rows
use Rattle.ddf_tables.specs.declared.layout.TheConstants.{DISK_GUID_AT, DISK_REFERENCE_AT, DISK_KIND_AT, DISK_STATE_AT, DISK_SIZE_AT, DISK_BLOCK_SIZE_AT, ARRAY_GUID_AT, ARRAY_NUMBER_AT, ARRAY_KIND_AT, ARRAY_STATE_AT, ARRAY_INIT_AT, ARRAY_NAME_AT}
use Rattle.ddf_tables.specs.Rows.{is_unused}
use Rattle.ddf_tables.specs.Disks.{disk_fields, IsDiskRow}
use Rattle.ddf_tables.specs.Arrays.{array_fields, IsArrayRow}
use Rattle.ddf_tables.specs.Building.{new_disk_rest, kept_disk_rest, disk_over, new_array_rest, kept_array_rest, array_over}

-- ---- the bytes that no field names

-- 64 bytes with zeros in the places of the fields
pub record IsRest (spans : List Span) (rest : List ℕ) : Type 0 where
  pub long : length rest ≡ 64
  pub clear : cleared spans rest ≡ rest

rest_of_cleared : (spans : List Span) (bytes : List ℕ) → length bytes ≡ 64 → AreWithin 64 spans → IsRest spans (cleared spans bytes)
rest_of_cleared spans bytes long within =
    let here = subst (λ n. AreWithin n spans) (sym long) within in
    record { long = (cleared_outside spans bytes here).size ∙ long; clear = cleared-cleared spans bytes here }

-- what is placed beside the fields leaves the zeros in their places
clear_beside : (spans : List Span) (rest : List ℕ) (span : Span) (new : List ℕ) → length new ≡ span.length → span.at + span.length ≤ length rest → AreWithin (length rest) spans
    → ((i : ℕ) → span.at ≤ i → i < span.at + span.length → IsOutsideAll spans i) → cleared spans rest ≡ rest → cleared spans (placed rest span.at new) ≡ placed rest span.at new
clear_beside spans rest span new size fits within beside clear =
    let after = placed rest span.at new in
    let outside : SameAt (IsOutside span) after rest = placed_outside rest span new size fits in
    let inside = cleared_outside spans after (subst (λ n. AreWithin n spans) (sym outside.size) within) in
    let same = cleared_same spans (IsOutside span) after rest within (record { size = outside.size; same = λ i is. outside.same i is.1 }) in
    let before : SameAt (IsOutside span) (cleared spans after) rest = subst (λ (l : List ℕ). SameAt (IsOutside span) (cleared spans after) l) clear same in
    SameAt-all (cleared spans after) after (record {
      size = inside.size;
      same = λ i _. elim (cases_lt i span.at) [
        | inl below ↦ before.same i (inl below) ∙ sym (outside.same i (inl below))
        | inr from ↦ elim (cases_lt i (span.at + span.length)) [
          | inl high ↦ inside.same i (beside i from high)
          | inr past ↦ before.same i (inr past) ∙ sym (outside.same i (inr past))
        ]
      ];
    })

-- ---- a disk

abbrev disk_spans : List Span
disk_spans = record { at = DISK_GUID_AT; length = 24 } ∷ record { at = DISK_REFERENCE_AT; length = 4 } ∷ record { at = DISK_KIND_AT; length = 2 } ∷ record { at = DISK_STATE_AT; length = 2 } ∷ record { at = DISK_SIZE_AT; length = 8 } ∷ []

disk_kept : (old : Option DiskEntry) (entry : DiskEntry) → ForSome old (λ disk. IsDiskRow (disk_rows.Entry disk)) → IsRest disk_spans (kept_disk_rest old entry)
unfolding new_disk_rest
disk_kept None entry can = rest_of_cleared disk_spans (replicate 64 255) refl (within_from_test 64 disk_spans refl)
disk_kept (Some disk) entry can = let row = can disk refl in record { long = row.1; clear = row.0.others_clear }

with_block_size : (rest : List ℕ) (block_size : ℕ) → IsRest disk_spans rest → IsRest disk_spans (placed rest DISK_BLOCK_SIZE_AT (to_be_bytes w16 block_size))
with_block_size rest block_size is =
    let long = is.long in
    let fits : DISK_BLOCK_SIZE_AT + 2 ≤ length rest = omega (arith, long) in
    record {
      long = length-placed rest DISK_BLOCK_SIZE_AT (to_be_bytes w16 block_size) fits ∙ long;
      clear = clear_beside disk_spans rest (record { at = DISK_BLOCK_SIZE_AT; length = 2 }) (to_be_bytes w16 block_size) refl fits
          (subst (λ n. AreWithin n disk_spans) (sym long) (within_from_test 64 disk_spans refl))
          (λ i low high. (inr (omega (arith, low)), (inr (omega (arith, low)), (inr (omega (arith, low)), (inr (omega (arith, low)), (inr (omega (arith, low)), tt))))))
          is.clear;
    }

pub disk_over_can : (old : Option DiskEntry) (block_size : ℕ) (entry : DiskEntry) → AllByRecursion Fits (disk_fields entry) → ForSome old (λ disk. IsDiskRow (disk_rows.Entry disk)) → is_unused entry.guid ≡ false
    → IsDiskRow (disk_rows.Entry (disk_over old block_size entry))
disk_over_can old block_size entry fit can used =
    let is = with_block_size (kept_disk_rest old entry) block_size (disk_kept old entry can) in
    (record { fields_fit = fit; others_clear = is.clear }, is.long, used)

-- ---- an array

abbrev array_spans : List Span
array_spans = record { at = ARRAY_GUID_AT; length = 24 } ∷ record { at = ARRAY_NUMBER_AT; length = 2 } ∷ record { at = ARRAY_STATE_AT; length = 1 } ∷ record { at = ARRAY_INIT_AT; length = 1 } ∷ record { at = ARRAY_NAME_AT; length = 16 } ∷ []

array_kept : (old : Option ArrayEntry) (entry : ArrayEntry) → ForSome old (λ array. IsArrayRow (array_rows.Entry array)) → IsRest array_spans (kept_array_rest old entry)
unfolding new_array_rest
array_kept None entry can = rest_of_cleared array_spans (placed (replicate 64 255) ARRAY_KIND_AT (replicate 4 0)) (length-placed (replicate 64 255) ARRAY_KIND_AT (replicate 4 0) (omega arith)) (within_from_test 64 array_spans refl)
array_kept (Some array) entry can = let row = can array refl in record { long = row.1; clear = row.0.others_clear }

pub array_over_can : (old : Option ArrayEntry) (entry : ArrayEntry) → AllByRecursion Fits (array_fields entry) → ForSome old (λ array. IsArrayRow (array_rows.Entry array)) → is_unused entry.guid ≡ false
    → IsArrayRow (array_rows.Entry (array_over old entry))
array_over_can old entry fit can used =
    let is = array_kept old entry can in
    (record { fields_fit = fit; others_clear = is.clear }, is.long, used)
