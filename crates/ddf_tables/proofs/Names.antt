-- Nothing is wrong with the names of a table's rows exactly where each used row has one of its own.
use Rattle.std.proofs.Common.{◌≡◌, ◌⊎◌, inl, inr, ℕ, zero, suc, ◌+◌, Bool, false, ◌||◌, List, [], ◌∷◌, ◌++◌, length, take, replicate, Option, Some, None, refl, sym, ◌∙◌, ap, length-append, append_assoc}
use Rattle.std.specs.List.{AllByRecursion, IsDistinct, filter_map, list_any}
use Rattle.std.specs.Option.{option_or}
use Rattle.std.proofs.Math.Seq.{take-append_seam}
use Rattle.std.proofs.lemmas.List.Folds.{list_any-append}
use Rattle.std.proofs.lemmas.Bool.{or_parts}
use Rattle.ddf_lemmas.proofs.Lists.{all_both}
use Rattle.ddf_lemmas.proofs.Options.{none_of_both}
use Rattle.ddf_bytes.specs.Choices.{when}
use Rattle.ddf_bytes.proofs.Nones.{none_when}
use Rattle.ddf_tables.specs.declared.fault.TableFault.{TableFault}
use Rattle.ddf_tables.specs.Rows.{has_name, twice_by, HaveOwnNames}
use Rattle.ddf_tables.specs.Tables.{first_twice}
use Rattle.ddf_tables.proofs.TableRows.{faults_from}

pub record NameLaws {Row : Type 0} (twice : List Row → Row → Option TableFault) (HaveNames : List Row → Type 0) : Type 0 where
  pub own_from_none : (rows : List Row) → first_twice twice rows ≡ None → HaveNames rows
  pub none_from_own : (rows : List Row) → HaveNames rows → first_twice twice rows ≡ None

-- ---- row by row

-- nothing is wrong with a row, by those before it
abbrev NoneAfter : {Row : Type 0} → (List Row → Row → Option TableFault) → List Row → List Row → Type 0
NoneAfter twice earlier [] = Unit {0}
NoneAfter twice earlier (row ∷ rows) = (twice earlier row ≡ None) × NoneAfter twice (earlier ++ row ∷ []) rows

pushed : {Row : Type 0} → (earlier rows all : List Row) (row : Row) → all ≡ earlier ++ row ∷ rows → all ≡ (earlier ++ row ∷ []) ++ rows
pushed earlier rows all row is = is ∙ sym (append_assoc earlier (row ∷ []) rows)

one_longer : {Row : Type 0} → (earlier : List Row) (row : Row) (at : ℕ) → at ≡ length earlier → at + 1 ≡ length (earlier ++ row ∷ [])
one_longer earlier row at is = ap (λ n. n + 1) is ∙ sym (length-append earlier (row ∷ []))

before : {Row : Type 0} → (earlier rows all : List Row) (at : ℕ) → all ≡ earlier ++ rows → at ≡ length earlier → take at all ≡ earlier
before earlier rows all at is size = ap (λ n. take n all) size ∙ ap (take (length earlier)) is ∙ take-append_seam earlier rows

after_from_faults : {Row : Type 0} → (twice : List Row → Row → Option TableFault) (all earlier rows : List Row) (at : ℕ) → all ≡ earlier ++ rows → at ≡ length earlier
    → faults_from twice all at rows ≡ None → NoneAfter twice earlier rows
after_from_faults twice all earlier [] at is size none = tt
after_from_faults twice all earlier (row ∷ rows) at is size none =
    let parts = none_of_both (twice (take at all) row) (faults_from twice all (at + 1) rows) none in (
      ap (λ l. twice l row) (sym (before earlier (row ∷ rows) all at is size)) ∙ parts.0,
      after_from_faults twice all (earlier ++ row ∷ []) rows (at + 1) (pushed earlier rows all row is) (one_longer earlier row at size) parts.1,
    )

faults_from_after : {Row : Type 0} → (twice : List Row → Row → Option TableFault) (all earlier rows : List Row) (at : ℕ) → all ≡ earlier ++ rows → at ≡ length earlier
    → NoneAfter twice earlier rows → faults_from twice all at rows ≡ None
faults_from_after twice all earlier [] at is size none = refl
faults_from_after twice all earlier (row ∷ rows) at is size none =
    let first : twice (take at all) row ≡ None = ap (λ l. twice l row) (before earlier (row ∷ rows) all at is size) ∙ none.0 in
    ap (λ o. option_or o (faults_from twice all (at + 1) rows)) first
    ∙ faults_from_after twice all (earlier ++ row ∷ []) rows (at + 1) (pushed earlier rows all row is) (one_longer earlier row at size) none.1

-- ---- by their names

named : {X : Type 0} (o : Option X) → (o ≡ None) ⊎ ((x : X) × (o ≡ Some x))
named None = inl refl
named (Some x) = inr (x, refl)

all_then : {X : Type 0} (P Q : X → Type 0) (xs : List X) → ((x : X) → P x → Q x) → AllByRecursion P xs → AllByRecursion Q xs
all_then P Q [] f h = tt
all_then P Q (x ∷ xs) f h = (f x h.0, all_then P Q xs f h.1)

-- the names of rows are apart from one another and from those of earlier rows
record AreOwn {Row Name : Type 0} (name_of : Row → Option Name) (eq : Name → Name → Bool) (is_no_name : Name → Bool) (earlier rows : List Row) : Type 0 where
  each : AllByRecursion (λ name. is_no_name name ≡ false) (filter_map name_of rows)
  differ : IsDistinct eq (filter_map name_of rows)
  new : AllByRecursion (λ name. list_any (has_name name_of eq name) earlier ≡ false) (filter_map name_of rows)

-- what it says that no row up to this one has a name
one_more : {Row Name : Type 0} (name_of : Row → Option Name) (eq : Name → Name → Bool) (earlier : List Row) (row : Row) (name : Name)
    → list_any (has_name name_of eq name) (earlier ++ row ∷ []) ≡ false → (list_any (has_name name_of eq name) earlier ≡ false) × (has_name name_of eq name row ≡ false)
one_more name_of eq earlier row name h =
    let parts = or_parts (list_any (has_name name_of eq name) earlier) (list_any (has_name name_of eq name) (row ∷ [])) (sym (list_any-append (has_name name_of eq name) earlier (row ∷ [])) ∙ h) in
    (parts.0, (or_parts (has_name name_of eq name row) false parts.1).0)

and_one : {Row Name : Type 0} (name_of : Row → Option Name) (eq : Name → Name → Bool) (earlier : List Row) (row : Row) (name : Name)
    → list_any (has_name name_of eq name) earlier ≡ false → has_name name_of eq name row ≡ false → list_any (has_name name_of eq name) (earlier ++ row ∷ []) ≡ false
and_one name_of eq earlier row name h k = list_any-append (has_name name_of eq name) earlier (row ∷ []) ∙ rw (h, k) refl

own_from_after : {Row Name : Type 0} (name_of : Row → Option Name) (eq : Name → Name → Bool) (is_no_name : Name → Bool) (fault : Name → TableFault) (earlier rows : List Row)
    → NoneAfter (twice_by name_of eq is_no_name fault) earlier rows → AreOwn name_of eq is_no_name earlier rows
unfolding IsDistinct
own_from_after name_of eq is_no_name fault earlier [] none = record { each = tt; differ = tt; new = tt }
own_from_after name_of eq is_no_name fault earlier (row ∷ rows) none =
    let rest = own_from_after name_of eq is_no_name fault (earlier ++ row ∷ []) rows none.1 in
    let others = filter_map name_of rows in
    let split = all_then (λ name. list_any (has_name name_of eq name) (earlier ++ row ∷ []) ≡ false)
    (λ name. (list_any (has_name name_of eq name) earlier ≡ false) × (has_name name_of eq name row ≡ false)) others (one_more name_of eq earlier row) rest.new in
    let still = all_then (λ name. (list_any (has_name name_of eq name) earlier ≡ false) × (has_name name_of eq name row ≡ false)) (λ name. list_any (has_name name_of eq name) earlier ≡ false) others (λ name both. both.0) split in
    elim (named (name_of row)) [
      | inl unnamed ↦ record {
        each = rw unnamed rest.each;
        differ = rw unnamed rest.differ;
        new = rw unnamed still;
      }
      | inr (name, is) ↦
          let sound : when (is_no_name name || list_any (has_name name_of eq name) earlier) (fault name) ≡ None = rw is at none.0 in
          let parts = or_parts (is_no_name name) (list_any (has_name name_of eq name) earlier) (none_when (is_no_name name || list_any (has_name name_of eq name) earlier) (fault name) sound) in
          let apart = all_then (λ other. (list_any (has_name name_of eq other) earlier ≡ false) × (has_name name_of eq other row ≡ false)) (λ other. eq name other ≡ false) others (λ other both. rw is at both.1) split in
          record {
            each = rw is (parts.0, rest.each);
            differ = rw is (apart, rest.differ);
            new = rw is (parts.1, still);
          }
    ]

after_from_own : {Row Name : Type 0} (name_of : Row → Option Name) (eq : Name → Name → Bool) (is_no_name : Name → Bool) (fault : Name → TableFault) (earlier rows : List Row)
    → AreOwn name_of eq is_no_name earlier rows → NoneAfter (twice_by name_of eq is_no_name fault) earlier rows
unfolding IsDistinct
after_from_own name_of eq is_no_name fault earlier [] own = tt
after_from_own name_of eq is_no_name fault earlier (row ∷ rows) own =
    let others = filter_map name_of rows in
    elim (named (name_of row)) [
      | inl unnamed ↦
          let each : AllByRecursion (λ name. is_no_name name ≡ false) others = rw unnamed at own.each in
          let differ : IsDistinct eq others = rw unnamed at own.differ in
          let new : AllByRecursion (λ name. list_any (has_name name_of eq name) earlier ≡ false) others = rw unnamed at own.new in
          let further = all_then (λ name. list_any (has_name name_of eq name) earlier ≡ false) (λ name. list_any (has_name name_of eq name) (earlier ++ row ∷ []) ≡ false) others
          (λ name h. and_one name_of eq earlier row name h (rw unnamed refl)) new in
          (rw unnamed refl, after_from_own name_of eq is_no_name fault (earlier ++ row ∷ []) rows (record { each = each; differ = differ; new = further }))
      | inr (name, is) ↦
          let each : AllByRecursion (λ other. is_no_name other ≡ false) (name ∷ others) = rw is at own.each in
          let differ : AllByRecursion (λ other. eq name other ≡ false) others × IsDistinct eq others = rw is at own.differ in
          let new : AllByRecursion (λ other. list_any (has_name name_of eq other) earlier ≡ false) (name ∷ others) = rw is at own.new in
          let further = all_then (λ other. (list_any (has_name name_of eq other) earlier ≡ false) × (eq name other ≡ false)) (λ other. list_any (has_name name_of eq other) (earlier ++ row ∷ []) ≡ false) others
          (λ other both. and_one name_of eq earlier row other both.0 (rw is both.1))
          (all_both (λ other. list_any (has_name name_of eq other) earlier ≡ false) (λ other. eq name other ≡ false) others new.1 differ.0) in
          (rw (is, each.0, new.0) refl, after_from_own name_of eq is_no_name fault (earlier ++ row ∷ []) rows (record { each = each.1; differ = differ.1; new = further }))
    ]

none_is_new : {Row Name : Type 0} (name_of : Row → Option Name) (eq : Name → Name → Bool) (names : List Name) → AllByRecursion (λ name. list_any (has_name name_of eq name) [] ≡ false) names
none_is_new name_of eq [] = tt
none_is_new name_of eq (name ∷ names) = (refl, none_is_new name_of eq names)

pub name_laws : {Row Name : Type 0} (name_of : Row → Option Name) (eq : Name → Name → Bool) (is_no_name : Name → Bool) (fault : Name → TableFault)
    → NameLaws (twice_by name_of eq is_no_name fault) (HaveOwnNames name_of eq is_no_name)
name_laws name_of eq is_no_name fault = record {
  own_from_none = λ rows none.
      let own = own_from_after name_of eq is_no_name fault [] rows (after_from_faults (twice_by name_of eq is_no_name fault) rows [] rows 0 refl refl none) in
      record { each_names = own.each; all_differ = own.differ };
  none_from_own = λ rows own.
      faults_from_after (twice_by name_of eq is_no_name fault) rows [] rows 0 refl refl
      (after_from_own name_of eq is_no_name fault [] rows (record { each = own.each_names; differ = own.all_differ; new = none_is_new name_of eq (filter_map name_of rows) }));
}

-- ---- rows without names

no_names : {Row Name : Type 0} (name_of : Row → Option Name) (row : Row) (count : ℕ) → name_of row ≡ None → filter_map name_of (replicate count row) ≡ []
no_names name_of row zero none = refl
no_names name_of row (suc count) none = rw none (no_names name_of row count none)

pub unused_have_names : {Row Name : Type 0} (name_of : Row → Option Name) (eq : Name → Name → Bool) (is_no_name : Name → Bool) (row : Row) (count : ℕ) → name_of row ≡ None
    → HaveOwnNames name_of eq is_no_name (replicate count row)
unfolding IsDistinct
unused_have_names name_of eq is_no_name row count none =
    let names = no_names name_of row count none in
    record { each_names = rw names tt; all_differ = rw names tt }
