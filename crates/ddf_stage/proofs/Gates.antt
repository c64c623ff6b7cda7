-- The gate that stands in a sector is the one that the sector was written for.
use Rattle.std.proofs.Common.{◌≡◌, ◌↔◌, ◌∙◌, ℕ, ◌+◌, ◌<◌, ◌≤◌, ◌^◌, Bool, true, false, ◌&&◌, List, [], ◌∷◌, length, Option, Some, None, refl, sym, ap, subst, arith, inr, lit<}
use Rattle.std.specs.Prelude.{nat_eq, slice_index, if◌then◌else◌}
use Rattle.std.specs.List.{AllByRecursion}
use Rattle.std.proofs.lemmas.Bool.{eqb-true, eq-eqb, and_parts}
use Rattle.std.proofs.lemmas.List.{length-replicate}
use Rattle.std.specs.Cmp.Lexicographic.{pointwise}
use Rattle.ddf_seal.specs.Seal.{seal_place}
use Rattle.ddf_seal.specs.Unread.{Fits, Stands, place_of, places, written}
use Rattle.ddf_seal.specs.Records.{record_bytes}
use Rattle.ddf_seal.proofs.Same.{AreWithin, IsOutside, within_from_test}
use Rattle.ddf_seal.proofs.Records.{apart_from_test, length-record_bytes, sealed_outside, spelled_kept, written_outside, written_spelled}
use Rattle.ddf_seal.proofs.Spelled.{all_stand_from_spelled}
use Rattle.ddf_stage.specs.declared.gate.Gate.{Gate}
use Rattle.ddf_stage.specs.declared.layout.TheConstants.{OPEN_AT}
use Rattle.ddf_stage.specs.Gate.{IsGate, blank, gate_at, gate_bytes, gate_fields, gate_signature, open_flag, opened}

-- ---- lists that are alike

pub same_from_test : (xs ys : List ℕ) → pointwise nat_eq xs ys ≡ true → xs ≡ ys
same_from_test [] [] e = refl
same_from_test [] (y ∷ ys) e = absurd (cc)
same_from_test (x ∷ xs) [] e = absurd (cc)
same_from_test (x ∷ xs) (y ∷ ys) e =
    let parts = and_parts (nat_eq x y) (pointwise nat_eq xs ys) e in
    ap (λ n. n ∷ xs) (eqb-true x y parts.0) ∙ ap (λ l. y ∷ l) (same_from_test xs ys parts.1)

pub test_same : (xs : List ℕ) → pointwise nat_eq xs xs ≡ true
test_same [] = refl
test_same (x ∷ xs) = ap (λ b. b && pointwise nat_eq xs xs) (eq-eqb x x refl) ∙ test_same xs

-- ---- the fields

pub long_blank : length blank ≡ 512
unfolding blank
long_blank = let none : ℕ = 0 in length-replicate 512 none

flag_fits : (is_open : Bool) → open_flag is_open < 2 ^ 8
flag_fits true = lit< tt
flag_fits false = lit< tt

fits : (is_open : Bool) (gate : Gate) → IsGate gate → AllByRecursion Fits (gate_fields is_open gate)
fits is_open gate is = (is.array_size, (refl, (flag_fits is_open, (is.block_fits, (is.parities_fit, tt)))))

within : (is_open : Bool) (gate : Gate) → AreWithin (length blank) (seal_place ∷ places (gate_fields is_open gate))
within is_open gate = subst (λ n. AreWithin n (seal_place ∷ places (gate_fields is_open gate))) (sym long_blank) (within_from_test 512 (seal_place ∷ places (gate_fields is_open gate)) refl)

pub long_gate : (is_open : Bool) (gate : Gate) → IsGate gate → length (gate_bytes is_open gate) ≡ 512
unfolding gate_bytes
long_gate is_open gate is = length-record_bytes gate_signature (gate_fields is_open gate) blank (within is_open gate) (fits is_open gate is) ∙ long_blank

behind_seal : (is_open : Bool) (gate : Gate)
    → AllByRecursion (λ field. (i : ℕ) → (place_of field).at ≤ i → i < (place_of field).at + (place_of field).length → IsOutside seal_place i) (gate_fields is_open gate)
behind_seal is_open gate =
    (λ i low high. inr (omega (arith, low)), (λ i low high. inr (omega (arith, low)), (λ i low high. inr (omega (arith, low)), (λ i low high. inr (omega (arith, low)), (λ i low high. inr (omega (arith, low)), tt)))))

pub fields_stand : (is_open : Bool) (gate : Gate) → IsGate gate → AllByRecursion (Stands (gate_bytes is_open gate)) (gate_fields is_open gate)
unfolding gate_bytes
fields_stand is_open gate is =
    let fields = gate_fields is_open gate in
    let named = written fields blank in
    let bytes = record_bytes gate_signature fields blank in
    let inside = within is_open gate in
    let fit = fits is_open gate is in
    let outside = written_outside fields blank inside.1 fit in
    let long : 8 ≤ length named = subst (λ n. 8 ≤ n) (sym outside.size) inside.0 in
    let kept = sealed_outside gate_signature named long in
    let within_named : AreWithin (length named) (places fields) = subst (λ n. AreWithin n (places fields)) (sym outside.size) inside.1 in
    let within_bytes : AreWithin (length bytes) (places fields) = subst (λ n. AreWithin n (places fields)) (sym (kept.size ∙ outside.size)) inside.1 in
    let apart = apart_from_test (seal_place ∷ places fields) refl in
    let spelled = spelled_kept (IsOutside seal_place) bytes named fields within_named (behind_seal is_open gate) kept (written_spelled fields blank inside.1 apart.1 fit) in
    all_stand_from_spelled bytes fields within_bytes fit spelled

-- ---- what stands is what was written

gate_of : (array : List ℕ) (block parities : ℕ) → Gate
gate_of array block parities = record { array = array; block = block; parities = parities }

same_gate : (one other : Gate) → one.array ≡ other.array → one.block ≡ other.block → one.parities ≡ other.parities → one ≡ other
unfolding gate_of
same_gate one other a b p = let all : gate_of one.array one.block one.parities ≡ gate_of other.array other.block other.parities = cc in all

pub gate_again : (is_open : Bool) (gate : Gate) → IsGate gate → gate_at (gate_bytes is_open gate) ≡ gate
gate_again is_open gate is =
    let stand = fields_stand is_open gate is in
    same_gate (gate_at (gate_bytes is_open gate)) gate stand.0 stand.1.1.1.0 stand.1.1.1.1.0

pub opened_open : (gate : Gate) → IsGate gate → opened (gate_bytes true gate) ≡ Some gate
unfolding opened
opened_open gate is =
    let again = gate_again true gate is in
    ap (λ (g : Gate). if pointwise nat_eq (gate_bytes true g) (gate_bytes true gate) then Some g else None) again
    ∙ ap (λ (b : Bool). if b then Some gate else None) (test_same (gate_bytes true gate))

not_open : (b : Bool) (sector : List ℕ) (gate : Gate) → pointwise nat_eq (gate_bytes true gate) sector ≡ b → (gate_bytes true gate ≡ sector → ⊥) → (if b then Some gate else None) ≡ None
not_open true sector gate test never = absurd (never (same_from_test (gate_bytes true gate) sector test))
not_open false sector gate test never = refl

pub opened_closed : (gate : Gate) → IsGate gate → opened (gate_bytes false gate) ≡ None
unfolding opened
opened_closed gate is =
    let again = gate_again false gate is in
    let one : slice_index (gate_bytes true gate) OPEN_AT ≡ 1 = (fields_stand true gate is).1.1.0 in
    let none : slice_index (gate_bytes false gate) OPEN_AT ≡ 0 = (fields_stand false gate is).1.1.0 in
    ap (λ (g : Gate). if pointwise nat_eq (gate_bytes true g) (gate_bytes false gate) then Some g else None) again
    ∙ not_open (pointwise nat_eq (gate_bytes true gate) (gate_bytes false gate)) (gate_bytes false gate) gate refl
    (λ same. let e : slice_index (gate_bytes true gate) OPEN_AT ≡ slice_index (gate_bytes false gate) OPEN_AT = ap (λ l. slice_index l OPEN_AT) same in omega (arith, sym one ∙ e ∙ none))

-- ---- the gate that is read

read_by : (b : Bool) (sector : List ℕ) (gate : Gate) → pointwise nat_eq (gate_bytes true (gate_at sector)) sector ≡ b → (if b then Some (gate_at sector) else None) ≡ Some gate
    → (gate ≡ gate_at sector) × (sector ≡ gate_bytes true gate)
read_by true sector gate test e =
    let same : gate_at sector ≡ gate = cc in
    (sym same, sym (same_from_test (gate_bytes true (gate_at sector)) sector test) ∙ ap (gate_bytes true) same)
read_by false sector gate test e = absurd (cc)

pub opened_is : (sector : List ℕ) (gate : Gate) → opened sector ≡ Some gate → (gate ≡ gate_at sector) × (sector ≡ gate_bytes true gate)
unfolding opened
opened_is sector gate e = read_by (pointwise nat_eq (gate_bytes true (gate_at sector)) sector) sector gate refl e

-- ---- as a call answers

pub opened_as : (is_open : Bool) (gate : Gate) → IsGate gate → opened (gate_bytes is_open gate) ≡ (if is_open then Some gate else None)
opened_as true gate is = opened_open gate is
opened_as false gate is = opened_closed gate is

pub opened_some : (sector : List ℕ) → pointwise nat_eq (gate_bytes true (gate_at sector)) sector ≡ true → opened sector ≡ Some (gate_at sector)
unfolding opened
opened_some sector test = ap (λ (b : Bool). if b then Some (gate_at sector) else None) test

pub opened_none : (sector : List ℕ) → pointwise nat_eq (gate_bytes true (gate_at sector)) sector ≡ false → opened sector ≡ None
unfolding opened
opened_none sector test = ap (λ (b : Bool). if b then Some (gate_at sector) else None) test

pub both_ways : (sector : List ℕ) (found : Option Gate) → found ≡ opened sector → IsGate (gate_at sector) → (gate : Gate) → (found ≡ Some gate) ↔ (IsGate gate × (sector ≡ gate_bytes true gate))
both_ways sector found exact is gate = (
  λ e. let parts = opened_is sector gate (sym exact ∙ e) in (subst IsGate (sym parts.0) is, parts.1),
  λ of. exact ∙ ap opened of.1 ∙ opened_open gate of.0,
)
