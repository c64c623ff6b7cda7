-- The elements that have a row, and the units of the rows before it.
use Rattle.std.proofs.Common.{◌≡◌, ◌⊎◌, ℕ, zero, suc, ◌+◌, ◌-◌, ◌*◌, ◌/◌, ◌%◌, ◌^◌, ◌<◌, ◌≤◌, List, [], ◌∷◌, ◌++◌, length, get_or, take, drop, min, Some, slice_get, inl, inr, ⊎_elim, refl, sym, ap, ◌∙◌, zero-add, add-zero, arith}
use Rattle.std.specs.List.{sum_by}
use Rattle.std.proofs.lemmas.Bool.{cases_lt, cases_order, cond-true, cond-false, lt-ltb, le-ltb}
use Rattle.std.proofs.lemmas.List.{at_drop_all, take_more}
use Rattle.std.proofs.lemmas.List.Sums.{sum_by-cons}
use Rattle.std.proofs.lemmas.Nat.{mul-le, div-add-mod'}
use Rattle.std.proofs.lemmas.Option.{same_Some, none-some, slice_get-get_or, get_or_from_slice_get}
use Rattle.ddf_secondary.specs.declared.element.ElementSize.{ElementSize}
use Rattle.ddf_secondary.specs.Sizes.{greatest_of}
use Rattle.ddf_secondary.specs.Spots.{longer_from}

-- the units of all rows before this one
abbrev pub before : List ElementSize → ℕ → ℕ
before sizes row = sum_by (λ (size : ElementSize). min size.rows row) sizes

abbrev pub all_rows : List ElementSize → ℕ
all_rows sizes = sum_by (λ (size : ElementSize). size.rows) sizes

pub longer_yes : (first row : ℕ) (size : ElementSize) (sizes : List ElementSize) → row < size.rows → longer_from first (size ∷ sizes) row ≡ first ∷ longer_from (first + 1) sizes row
longer_yes first row size sizes has = cond-true _ _ _ (lt-ltb row size.rows has)

pub longer_no : (first row : ℕ) (size : ElementSize) (sizes : List ElementSize) → size.rows ≤ row → longer_from first (size ∷ sizes) row ≡ longer_from (first + 1) sizes row
longer_no first row size sizes has_not = cond-false _ _ _ (le-ltb row size.rows has_not)

pub before-cons : (row : ℕ) (size : ElementSize) (sizes : List ElementSize) → before (size ∷ sizes) row ≡ min size.rows row + before sizes row
before-cons row size sizes = sum_by-cons (λ (size : ElementSize). min size.rows row) size sizes

-- no element ends between these rows
abbrev pub NoneEnds : List ElementSize → ℕ → ℕ → Type 0
NoneEnds sizes row end = (k : ℕ) (size : ElementSize) → slice_get sizes k ≡ Some size → (size.rows ≤ row) ⊎ (end ≤ size.rows)

pub longer_same : (first row later end : ℕ) (sizes : List ElementSize) → NoneEnds sizes row end → row ≤ later → later < end → longer_from first sizes later ≡ longer_from first sizes row
longer_same first row later end [] none low high = refl
longer_same first row later end (size ∷ sizes) none low high =
    let rest = longer_same (first + 1) row later end sizes (λ k other at_k. none (suc k) other at_k) low high in
    ⊎_elim
    (λ short. longer_no first later size sizes (omega (arith, short)) ∙ rest ∙ sym (longer_no first row size sizes short))
    (λ long. longer_yes first later size sizes (omega (arith, long)) ∙ ap (λ others. first ∷ others) rest ∙ sym (longer_yes first row size sizes (omega (arith, long))))
    (none 0 size refl)

pub before_band : (first row later end : ℕ) (sizes : List ElementSize) → NoneEnds sizes row end → row < end → row ≤ later → later ≤ end → before sizes later ≡ before sizes row + (later - row) * length (longer_from first sizes row)
before_band first row later end [] none some low high = omega arith
before_band first row later end (size ∷ sizes) none some low high =
    let rest = before_band (first + 1) row later end sizes (λ k other at_k. none (suc k) other at_k) some low high in
    ⊎_elim
    (λ short. rw (longer_no first row size sizes short) (omega (arith, rest, before-cons later size sizes, before-cons row size sizes)))
    (λ long. rw (longer_yes first row size sizes (omega (arith, long))) (omega (arith, rest, before-cons later size sizes, before-cons row size sizes)))
    (none 0 size refl)

pub before_le : (row : ℕ) (sizes : List ElementSize) → before sizes row ≤ all_rows sizes
before_le row [] = omega arith
before_le row (size ∷ sizes) =
    omega (arith, before_le row sizes, before-cons row size sizes, sum_by-cons (λ (size : ElementSize). size.rows) size sizes)

-- where no element has the row, the rows before it are all
pub before_all : (first row : ℕ) (sizes : List ElementSize) → length (longer_from first sizes row) ≡ 0 → before sizes row ≡ all_rows sizes
before_all first row [] none = refl
before_all first row (size ∷ sizes) none =
    ⊎_elim
    (λ has. absurd (omega (arith, none, ap length (longer_yes first row size sizes has))))
    (λ has_not.
    let rest = before_all (first + 1) row sizes (omega (arith, none, ap length (longer_no first row size sizes has_not))) in
    omega (arith, rest, before-cons row size sizes, sum_by-cons (λ (size : ElementSize). size.rows) size sizes))
    (cases_lt row size.rows)

pub no_more_longer : (sizes : List ElementSize) (element row left place : ℕ) → length sizes ≤ element → place < length (longer_from 0 sizes row) → slice_get (longer_from element (drop element sizes) row) left ≡ slice_get (longer_from 0 sizes row) place → ⊥
no_more_longer sizes element row left place past below same =
    let ended = at_drop_all (λ (rest : List ElementSize). slice_get (longer_from element rest row) left) sizes element past in
    none-some _ (sym ended ∙ same ∙ slice_get-get_or (longer_from 0 sizes row) place 0 below)

-- a row that no element passes has all rows before it
before_past : (row : ℕ) (sizes : List ElementSize) → all_rows sizes ≤ row → before sizes row ≡ all_rows sizes
before_past row [] past = refl
before_past row (size ∷ sizes) past =
    let all = sum_by-cons (λ (size : ElementSize). size.rows) size sizes in
    omega (arith, all, before_past row sizes (omega (arith, all)), before-cons row size sizes)

pub row_lt : (row : ℕ) (sizes : List ElementSize) → before sizes row < all_rows sizes → row < all_rows sizes
row_lt row sizes below = ⊎_elim (λ lt. lt) (λ past. absurd (omega (arith, before_past row sizes past))) (cases_lt row (all_rows sizes))

-- the elements of the front of a list, and one more
pub longer_push : (first row : ℕ) (sizes : List ElementSize) (size : ElementSize) → length (longer_from first (sizes ++ size ∷ []) row) ≡ length (longer_from first sizes row) + length (longer_from 0 (size ∷ []) row)
longer_push first row [] size =
    ⊎_elim
    (λ has. ap length (longer_yes first row size [] has) ∙ sym (ap length (longer_yes 0 row size [] has)) ∙ sym (zero-add _))
    (λ has_not. ap length (longer_no first row size [] has_not) ∙ sym (ap length (longer_no 0 row size [] has_not)) ∙ sym (zero-add _))
    (cases_lt row size.rows)
longer_push first row (other ∷ sizes) size =
    let rest = longer_push (first + 1) row sizes size in
    ⊎_elim
    (λ has. omega (arith, rest, ap length (longer_yes first row other (sizes ++ size ∷ []) has), ap length (longer_yes first row other sizes has)))
    (λ has_not. omega (arith, rest, ap length (longer_no first row other (sizes ++ size ∷ []) has_not), ap length (longer_no first row other sizes has_not)))
    (cases_lt row other.rows)

pub longer_more_yes : (row i : ℕ) (sizes : List ElementSize) (none : ElementSize) → i < length sizes → row < (get_or sizes i none).rows → length (longer_from 0 (take (i + 1) sizes) row) ≡ length (longer_from 0 (take i sizes) row) + 1
longer_more_yes row i sizes none inside has =
    rw (take_more sizes i none inside)
    (longer_push 0 row (take i sizes) (get_or sizes i none) ∙ ap (λ n. length (longer_from 0 (take i sizes) row) + n) (ap length (longer_yes 0 row (get_or sizes i none) [] has)))

pub longer_more_no : (row i : ℕ) (sizes : List ElementSize) (none : ElementSize) → i < length sizes → (get_or sizes i none).rows ≤ row → length (longer_from 0 (take (i + 1) sizes) row) ≡ length (longer_from 0 (take i sizes) row)
longer_more_no row i sizes none inside has_not =
    rw (take_more sizes i none inside)
    (longer_push 0 row (take i sizes) (get_or sizes i none) ∙ omega (arith, ap length (longer_no 0 row (get_or sizes i none) [] has_not)))

-- the end of a band: one more element
pub ends_more : (sizes : List ElementSize) (row end next i : ℕ) (none : ElementSize) → i < length sizes → next ≤ end → ((get_or sizes i none).rows ≤ row) ⊎ (next ≤ (get_or sizes i none).rows) → ((k : ℕ) (size : ElementSize) → k < i → slice_get sizes k ≡ Some size → (size.rows ≤ row) ⊎ (end ≤ size.rows)) → (k : ℕ) (size : ElementSize) → k < i + 1 → slice_get sizes k ≡ Some size → (size.rows ≤ row) ⊎ (next ≤ size.rows)
ends_more sizes row end next i none inside lower here earlier k size near at_k =
    ⊎_elim
    (λ below. ⊎_elim (λ short. inl short) (λ long. inr (omega (arith, long))) (earlier k size below at_k))
    (λ past.
    let is_i : k ≡ i = omega arith in
    let same : get_or sizes i none ≡ size = get_or_from_slice_get sizes i size none (rw is_i at at_k) in
    rw same at here)
    (cases_lt k i)

-- in the search of a unit's place: some element has the row
pub band_some : (sizes : List ElementSize) (row left unit elements : ℕ) → before sizes row + left ≡ unit → unit < all_rows sizes → elements ≡ length (longer_from 0 sizes row) → 0 < elements
band_some sizes row left unit elements at_row below is =
    ⊎_elim (λ some. some)
    (λ none. absurd (omega (arith, before_all 0 row sizes (omega arith))))
    (cases_lt 0 elements)

-- the place is in this band
pub record PlaceOf (sizes : List ElementSize) (unit element row : ℕ) : Type 0 where
  pub place : ℕ
  pub at_place : slice_get (longer_from 0 sizes row) place ≡ Some element
  pub unit_is : unit ≡ before sizes row + place

pub in_band : (sizes : List ElementSize) (row end left unit elements element : ℕ) → NoneEnds sizes row end → before sizes row + left ≡ unit → 0 < elements → elements ≡ length (longer_from 0 sizes row) → left / elements < end - row → slice_get (longer_from 0 sizes row) (left % elements) ≡ Some element → PlaceOf sizes unit element (row + left / elements)
in_band sizes row end left unit elements element none at_row some is near there =
    let later = row + left / elements in
    let same = longer_same 0 row later end sizes none (omega arith) (omega arith) in
    let band = before_band 0 row later end sizes none (omega arith) (omega arith) (omega arith) in
    let rows : later - row ≡ left / elements = omega arith in
    record {
      place = left % elements;
      at_place = rw same there;
      unit_is = omega (arith, rw (rows, sym is) at band, div-add-mod' left elements);
    }

-- the place is past this band
pub past_band : (sizes : List ElementSize) (row end left unit elements : ℕ) → NoneEnds sizes row end → before sizes row + left ≡ unit → elements ≡ length (longer_from 0 sizes row) → row < end → (end - row) * elements ≤ left → before sizes end + (left - (end - row) * elements) ≡ unit
past_band sizes row end left unit elements none at_row is later past =
    omega (arith, rw (sym is) at (before_band 0 row end end sizes none later (omega arith) (omega arith)))

pub band_fits : (left elements rows : ℕ) → 0 < elements → rows ≤ left / elements → rows * elements ≤ left
band_fits left elements rows some le = omega (arith, mul-le rows elements (left / elements) elements le (omega arith), div-add-mod' left elements)

pub before_none : (sizes : List ElementSize) → before sizes 0 ≡ 0
before_none [] = refl
before_none (size ∷ sizes) = omega (arith, before_none sizes, before-cons 0 size sizes)

pub band_later : (sizes : List ElementSize) (row left unit : ℕ) → before sizes row + left ≡ unit → unit < all_rows sizes → all_rows sizes < 2 ^ 64 → row < 2 ^ 64 - 1
band_later sizes row left unit at_row below small = omega (arith, row_lt row sizes (omega arith))

pub band_falls : (left elements rows : ℕ) → 0 < elements → 0 < rows → rows ≤ left / elements → left - rows * elements < left
band_falls left elements rows some some_rows le =
    omega (arith, band_fits left elements rows some le, mul-le 1 1 rows elements (omega arith) (omega arith))

-- an element that has the row
pub record LongerAt (first row element : ℕ) (sizes : List ElementSize) : Type 0 where
  pub number : ℕ
  pub size : ElementSize
  pub element_is : element ≡ first + number
  pub size_is : slice_get sizes number ≡ Some size
  pub has : row < size.rows

longer_later : (first row element : ℕ) (size : ElementSize) (sizes : List ElementSize) → LongerAt (first + 1) row element sizes → LongerAt first row element (size ∷ sizes)
longer_later first row element size sizes later =
    record { number = suc later.number; size = later.size; element_is = omega (arith, later.element_is); size_is = later.size_is; has = later.has }

pub longer_at : (first row i element : ℕ) (sizes : List ElementSize) → slice_get (longer_from first sizes row) i ≡ Some element → LongerAt first row element sizes
longer_at first row i element [] there = absurd (none-some element there)
longer_at first row zero element (size ∷ sizes) there =
    ⊎_elim
    (λ has.
    let same = same_Some first element (rw (longer_yes first row size sizes has) at there) in
    record { number = 0; size = size; element_is = omega (arith, same); size_is = refl; has = has })
    (λ has_not. longer_later first row element size sizes (longer_at (first + 1) row zero element sizes (rw (longer_no first row size sizes has_not) at there)))
    (cases_lt row size.rows)
longer_at first row (suc i) element (size ∷ sizes) there =
    ⊎_elim
    (λ has. longer_later first row element size sizes (longer_at (first + 1) row i element sizes (rw (longer_yes first row size sizes has) at there)))
    (λ has_not. longer_later first row element size sizes (longer_at (first + 1) row (suc i) element sizes (rw (longer_no first row size sizes has_not) at there)))
    (cases_lt row size.rows)

-- and its place among those that have the row
pub longer_place : (first row number : ℕ) (size : ElementSize) (sizes : List ElementSize) → slice_get sizes number ≡ Some size → row < size.rows → slice_get (longer_from first sizes row) (length (longer_from first (take number sizes) row)) ≡ Some (first + number)
longer_place first row number size [] there has = absurd (none-some size there)
longer_place first row zero size (other ∷ sizes) there has =
    rw (longer_yes first row other sizes (omega (arith, ap (λ (s : ElementSize). s.rows) (same_Some other size there)))) (ap Some (sym (add-zero first)))
longer_place first row (suc number) size (other ∷ sizes) there has =
    let rest = longer_place (first + 1) row number size sizes there has in
    let same : first + 1 + number ≡ first + suc number = omega arith in
    ⊎_elim
    (λ yes. rw (longer_yes first row other sizes yes, longer_yes first row other (take number sizes) yes) (rest ∙ ap Some same))
    (λ no. rw (longer_no first row other sizes no, longer_no first row other (take number sizes) no) (rest ∙ ap Some same))
    (cases_lt row other.rows)

-- elements stand in rising order
longer_rising : (first row i j a b : ℕ) (sizes : List ElementSize) → slice_get (longer_from first sizes row) i ≡ Some a → slice_get (longer_from first sizes row) j ≡ Some b → i < j → a < b
longer_rising first row i j a b [] at_i at_j less = absurd (none-some a at_i)
longer_rising first row i zero a b (size ∷ sizes) at_i at_j less = absurd (omega arith)
longer_rising first row zero (suc j) a b (size ∷ sizes) at_i at_j less =
    ⊎_elim
    (λ has.
    let same = same_Some first a (rw (longer_yes first row size sizes has) at at_i) in
    let later = longer_at (first + 1) row j b sizes (rw (longer_yes first row size sizes has) at at_j) in
    omega (arith, same, later.element_is))
    (λ has_not. longer_rising (first + 1) row zero (suc j) a b sizes (rw (longer_no first row size sizes has_not) at at_i) (rw (longer_no first row size sizes has_not) at at_j) less)
    (cases_lt row size.rows)
longer_rising first row (suc i) (suc j) a b (size ∷ sizes) at_i at_j less =
    ⊎_elim
    (λ has. longer_rising (first + 1) row i j a b sizes (rw (longer_yes first row size sizes has) at at_i) (rw (longer_yes first row size sizes has) at at_j) (omega arith))
    (λ has_not. longer_rising (first + 1) row (suc i) (suc j) a b sizes (rw (longer_no first row size sizes has_not) at at_i) (rw (longer_no first row size sizes has_not) at at_j) less)
    (cases_lt row size.rows)

pub longer_apart : (sizes : List ElementSize) (row i j element : ℕ) → slice_get (longer_from 0 sizes row) i ≡ Some element → slice_get (longer_from 0 sizes row) j ≡ Some element → i ≡ j
longer_apart sizes row i j element at_i at_j =
    ⊎_elim (λ same. same)
    (λ order. ⊎_elim
    (λ less. absurd (omega (arith, longer_rising 0 row i j element element sizes at_i at_j less)))
    (λ more. absurd (omega (arith, longer_rising 0 row j i element element sizes at_j at_i more))) order)
    (cases_order i j)

-- past the longest element no element has the row
pub none_longer : (first row : ℕ) (sizes : List ElementSize) → greatest_of (λ (size : ElementSize). size.rows) sizes ≤ row → length (longer_from first sizes row) ≡ 0
none_longer first row [] past = refl
none_longer first row (size ∷ sizes) past =
    ap length (longer_no first row size sizes (omega arith)) ∙ none_longer (first + 1) row sizes (omega arith)
