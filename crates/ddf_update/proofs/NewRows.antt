-- The rows of new disks: each can be written, and no two of them have one reference.
use Rattle.std.proofs.Common.{◌≡◌, ℕ, zero, suc, ◌+◌, ◌-◌, ◌<◌, ◌≤◌, ◌^◌, false, eqb, List, [], ◌∷◌, ◌++◌, length, get_or, take, replicate, refl, ap, sym, ◌∙◌, subst, arith}
use Rattle.std.proofs.lemmas.Bool.{ne_eqb}
use Rattle.std.proofs.lemmas.List.{length-append, length-replicate}
use Rattle.std.specs.List.{AllByRecursion, IsDistinct, filter_map}
use Rattle.ddf_bytes.specs.declared.stamp.Stamp.{Stamp}
use Rattle.ddf_header.specs.declared.kind.Revision.{Revision}
use Rattle.ddf_seal.specs.Unread.{placed, places}
use Rattle.ddf_seal.proofs.Same.{AreWithin, cleared-cleared, cleared_outside, within_from_test}
use Rattle.ddf_tables.specs.declared.disks.DiskRow.{DiskRow}
use Rattle.ddf_tables.specs.declared.disks.DiskRow.TheVariants.{Unused}
use Rattle.ddf_tables.specs.Disks.{HaveReferences, IsDiskRow, disk_fields, is_no_disk, reference_of}
use Rattle.ddf_update.specs.declared.new_layout.NewLayout.{NewLayout}
use Rattle.ddf_update.specs.NewLayouts.{rows_of}
use Rattle.ddf_update.specs.NewCopies.{entries_from, named_entry, new_entry, new_entry_bytes, new_rows, reference_at}
use Rattle.ddf_update.proofs.NewNumbers.{few_rows}

-- ---- as the code makes them

pub entries_more : (layout : NewLayout) (revision : Revision) (stamp : Stamp) (from : ℕ) (sizes : List ℕ) (i place : ℕ) → i < length sizes → from + i ≡ place
    → entries_from layout revision stamp from (take (i + 1) sizes) ≡ entries_from layout revision stamp from (take i sizes) ++ new_entry layout revision stamp place (get_or sizes i 0) ∷ []
entries_more layout revision stamp from [] i place lt is = absurd (omega (arith, lt))
entries_more layout revision stamp from (size ∷ sizes) zero place lt is =
    let here : from ≡ place = omega (arith, is) in
    ap (λ p. new_entry layout revision stamp p size ∷ []) here
entries_more layout revision stamp from (size ∷ sizes) (suc i) place lt is =
    let next : suc i + 1 ≡ suc (i + 1) = omega arith in
    rw next (ap (λ rows. new_entry layout revision stamp from size ∷ rows) (entries_more layout revision stamp (suc from) sizes i place (omega (arith, lt)) (omega (arith, is))))

pub length-entries : (layout : NewLayout) (revision : Revision) (stamp : Stamp) (from : ℕ) (sizes : List ℕ) → length (entries_from layout revision stamp from sizes) ≡ length sizes
length-entries layout revision stamp from [] = refl
length-entries layout revision stamp from (size ∷ sizes) = ap suc (length-entries layout revision stamp (suc from) sizes)

all_taken : (rows : List DiskRow) (n : ℕ) → length rows ≤ n → take n rows ≡ rows
all_taken [] zero le = refl
all_taken [] (suc n) le = refl
all_taken (row ∷ rows) zero le = absurd (omega (arith, le))
all_taken (row ∷ rows) (suc n) le = ap (λ l. row ∷ l) (all_taken rows n (omega (arith, le)))

-- the entries, filled up with unused rows
pub rows_filled : (layout : NewLayout) (revision : Revision) (stamp : Stamp) (sizes : List ℕ) (rows : List DiskRow) (count : ℕ) → rows ≡ entries_from layout revision stamp 0 sizes → count ≡ length rows → length sizes ≤ rows_of layout
    → take (rows_of layout) rows ++ replicate (rows_of layout - count) (Unused (replicate 64 255)) ≡ new_rows layout revision stamp sizes
rows_filled layout revision stamp sizes rows count are counted few =
    let long : length rows ≡ length sizes = ap length are ∙ length-entries layout revision stamp 0 sizes in
    let whole : take (rows_of layout) rows ≡ entries_from layout revision stamp 0 sizes = all_taken rows (rows_of layout) (omega (arith, long, few)) ∙ are in
    let rest : count ≡ length sizes = counted ∙ long in
    rw (whole, rest) refl

pub length-new_rows : (layout : NewLayout) (revision : Revision) (stamp : Stamp) (sizes : List ℕ) → length sizes ≤ rows_of layout → length (new_rows layout revision stamp sizes) ≡ rows_of layout
length-new_rows layout revision stamp sizes few =
    let entries = length-entries layout revision stamp 0 sizes in
    let unused = length-replicate (rows_of layout - length sizes) (Unused (replicate 64 255)) in
    omega (arith, length-append (entries_from layout revision stamp 0 sizes) (replicate (rows_of layout - length sizes) (Unused (replicate 64 255))), entries, unused, few)

-- ---- they can be written

pub reference_fits : (stamp : Stamp) (place : ℕ) → place < 63 → reference_at stamp place < 2 ^ 32 - 1
reference_fits stamp place lt = omega (arith, lt)

entry_good : (layout : NewLayout) (revision : Revision) (stamp : Stamp) (place size : ℕ) → place < rows_of layout → size < 2 ^ 64 → IsDiskRow (new_entry layout revision stamp place size)
unfolding new_entry_bytes placed
entry_good layout revision stamp place size lt fits =
    let fields = disk_fields (named_entry layout revision stamp place size) in
    let within : AreWithin (length (new_entry_bytes revision)) (places fields) = within_from_test 64 (places fields) refl in (
      record {
        fields_fit = (refl, (omega (arith, reference_fits stamp place (omega (arith, lt, few_rows layout))), (omega arith, (omega arith, (omega (arith, fits), tt)))));
        others_clear = cleared-cleared (places fields) (new_entry_bytes revision) within;
      },
      (cleared_outside (places fields) (new_entry_bytes revision) within).size,
      refl,
    )

unused_good : (count : ℕ) → AllByRecursion IsDiskRow (replicate count (Unused (replicate 64 255)))
unused_good zero = tt
unused_good (suc count) = ((refl, refl), unused_good count)

rows_good_from : (layout : NewLayout) (revision : Revision) (stamp : Stamp) (place : ℕ) (sizes : List ℕ) (unused : ℕ) → place + length sizes ≤ rows_of layout → ((i : ℕ) → get_or sizes i 0 < 2 ^ 64)
    → AllByRecursion IsDiskRow (entries_from layout revision stamp place sizes ++ replicate unused (Unused (replicate 64 255)))
rows_good_from layout revision stamp place [] unused few fit = unused_good unused
rows_good_from layout revision stamp place (size ∷ sizes) unused few fit =
    (entry_good layout revision stamp place size (omega (arith, few)) (fit 0), rows_good_from layout revision stamp (suc place) sizes unused (omega (arith, few)) (λ i. fit (suc i)))

pub rows_good : (layout : NewLayout) (revision : Revision) (stamp : Stamp) (sizes : List ℕ) → length sizes ≤ rows_of layout → ((i : ℕ) → get_or sizes i 0 < 2 ^ 64) → AllByRecursion IsDiskRow (new_rows layout revision stamp sizes)
rows_good layout revision stamp sizes few fit = rows_good_from layout revision stamp 0 sizes (rows_of layout - length sizes) (omega (arith, few)) fit

-- ---- their references

-- the rows of disks from a place on, and then so many unused ones
abbrev rows_from : NewLayout → Revision → Stamp → (place : ℕ) → List ℕ → (unused : ℕ) → List DiskRow
rows_from layout revision stamp place sizes unused = entries_from layout revision stamp place sizes ++ replicate unused (Unused (replicate 64 255))

none_of_unused : (unused : ℕ) → filter_map reference_of (replicate unused (Unused (replicate 64 255))) ≡ []
none_of_unused zero = refl
none_of_unused (suc unused) = none_of_unused unused

each_names : (layout : NewLayout) (revision : Revision) (stamp : Stamp) (place : ℕ) (sizes : List ℕ) (unused : ℕ) → place + length sizes ≤ rows_of layout → AllByRecursion (λ name. is_no_disk name ≡ false) (filter_map reference_of (rows_from layout revision stamp place sizes unused))
each_names layout revision stamp place [] unused few = subst (AllByRecursion (λ name. is_no_disk name ≡ false)) (sym (none_of_unused unused)) tt
each_names layout revision stamp place (size ∷ sizes) unused few = (
  ne_eqb (reference_at stamp place) 0xFFFF_FFFF (λ (e : reference_at stamp place ≡ 0xFFFF_FFFF). absurd (omega (arith, e, reference_fits stamp place (omega (arith, few, few_rows layout))))),
  each_names layout revision stamp (suc place) sizes unused (omega (arith, few)),
)

later_differ : (layout : NewLayout) (revision : Revision) (stamp : Stamp) (one place : ℕ) (sizes : List ℕ) (unused : ℕ) → one < place → AllByRecursion (λ name. eqb (reference_at stamp one) name ≡ false) (filter_map reference_of (rows_from layout revision stamp place sizes unused))
later_differ layout revision stamp one place [] unused lt = subst (AllByRecursion (λ name. eqb (reference_at stamp one) name ≡ false)) (sym (none_of_unused unused)) tt
later_differ layout revision stamp one place (size ∷ sizes) unused lt = (
  ne_eqb (reference_at stamp one) (reference_at stamp place) (λ (e : reference_at stamp one ≡ reference_at stamp place). absurd (omega (arith, e, lt))),
  later_differ layout revision stamp one (suc place) sizes unused (omega (arith, lt)),
)

all_differ : (layout : NewLayout) (revision : Revision) (stamp : Stamp) (place : ℕ) (sizes : List ℕ) (unused : ℕ) → IsDistinct eqb (filter_map reference_of (rows_from layout revision stamp place sizes unused))
unfolding IsDistinct
all_differ layout revision stamp place [] unused = subst (IsDistinct eqb) (sym (none_of_unused unused)) tt
all_differ layout revision stamp place (size ∷ sizes) unused = (later_differ layout revision stamp place (suc place) sizes unused (omega arith), all_differ layout revision stamp (suc place) sizes unused)

pub have_references : (layout : NewLayout) (revision : Revision) (stamp : Stamp) (sizes : List ℕ) → length sizes ≤ rows_of layout → HaveReferences (new_rows layout revision stamp sizes)
have_references layout revision stamp sizes few = record {
  each_names = each_names layout revision stamp 0 sizes (rows_of layout - length sizes) (omega (arith, few));
  all_differ = all_differ layout revision stamp 0 sizes (rows_of layout - length sizes);
}
