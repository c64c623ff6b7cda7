-- Lists of bytes that are the same at the indices of a set, and what placing and clearing make of it.
use Rattle.std.proofs.Common.{◌≡◌, ℕ, ◌+◌, ◌-◌, ◌<◌, ◌≤◌, ◌⊎◌, IsTrue, List, [], ◌∷◌, ◌++◌, length, get_or, take, drop, replicate, refl, sym, ◌∙◌, ap, subst, arith, inl, inr, leb}
use Rattle.std.specs.List.{list_all}
use Rattle.std.proofs.lemmas.Bool.{cases_lt, leb-true}
use Rattle.std.proofs.lemmas.List.{length-replicate, ext_get_or, get_or_append_left, get_or-append_right, length-append, take-append-drop, append_assoc}
use Rattle.ddf_lemmas.proofs.Tests.{both_parts}
use Rattle.ddf_bytes.specs.Bytes.{bytes_at, with_bytes_at}
use Rattle.ddf_seal.specs.declared.unread.Span.{Span}
use Rattle.ddf_seal.specs.Unread.{placed, cleared, cleared_one, is_within}
use Rattle.ddf_seal.proofs.Placing.{length-placed, get_or-placed_below, get_or-placed_in, get_or-placed_above, length-bytes_at, get_or-bytes_at}

-- an index is outside a span
abbrev pub IsOutside : Span → ℕ → Type 0
IsOutside span i = (i < span.at) ⊎ (span.at + span.length ≤ i)

-- an index is outside all spans
abbrev pub IsOutsideAll : List Span → ℕ → Type 0
IsOutsideAll [] i = Unit {0}
IsOutsideAll (span ∷ spans) i = IsOutside span i × IsOutsideAll spans i

-- all spans lie within so many bytes
abbrev pub AreWithin : ℕ → List Span → Type 0
AreWithin size [] = Unit {0}
AreWithin size (span ∷ spans) = (span.at + span.length ≤ size) × AreWithin size spans

-- two lists of one length, the same at each index of a set
pub record SameAt (P : ℕ → Type 0) (a b : List ℕ) : Type 0 where
  pub size : length a ≡ length b
  pub same : (i : ℕ) → P i → get_or a i 0 ≡ get_or b i 0

pub SameAt-then : (P : ℕ → Type 0) (a b c : List ℕ) → SameAt P a b → SameAt P b c → SameAt P a c
SameAt-then P a b c h k = record { size = h.size ∙ k.size; same = λ i p. h.same i p ∙ k.same i p }

pub SameAt-fewer : (P Q : ℕ → Type 0) (a b : List ℕ) → ((i : ℕ) → Q i → P i) → SameAt P a b → SameAt Q a b
SameAt-fewer P Q a b less h = record { size = h.size; same = λ i q. h.same i (less i q) }

pub SameAt-all : (a b : List ℕ) → SameAt (λ _. Unit {0}) a b → a ≡ b
SameAt-all a b h = ext_get_or 0 a b h.size (λ i _. h.same i tt)

-- what is placed changes nothing outside its place
pub placed_outside : (bytes : List ℕ) (span : Span) (new : List ℕ) → length new ≡ span.length → span.at + span.length ≤ length bytes → SameAt (IsOutside span) (placed bytes span.at new) bytes
placed_outside bytes span new len within =
    let fits : span.at + length new ≤ length bytes = omega arith in
    record {
      size = length-placed bytes span.at new fits;
      same = λ i out. elim out [
        | inl lt ↦ get_or-placed_below bytes span.at new i 0 fits lt
        | inr le ↦ get_or-placed_above bytes span.at new i 0 fits (omega arith)
      ];
    }

-- the same bytes placed in lists that are the same outside the place
pub placed_same : (P : ℕ → Type 0) (a b : List ℕ) (span : Span) (new : List ℕ) → length new ≡ span.length → span.at + span.length ≤ length b
    → SameAt (λ i. IsOutside span i × P i) a b → SameAt P (placed a span.at new) (placed b span.at new)
placed_same P a b span new len within h =
    let fits_b : span.at + length new ≤ length b = omega arith in
    let fits_a : span.at + length new ≤ length a = omega (arith, h.size) in
    record {
      size = length-placed a span.at new fits_a ∙ h.size ∙ sym (length-placed b span.at new fits_b);
      same = λ i p. elim (cases_lt i span.at) [
        | inl lt ↦ get_or-placed_below a span.at new i 0 fits_a lt ∙ h.same i (inl lt, p) ∙ sym (get_or-placed_below b span.at new i 0 fits_b lt)
        | inr le ↦ elim (cases_lt i (span.at + span.length)) [
          | inl lt ↦ get_or-placed_in a span.at new i 0 fits_a le (omega arith) ∙ sym (get_or-placed_in b span.at new i 0 fits_b le (omega arith))
          | inr past ↦ get_or-placed_above a span.at new i 0 fits_a (omega arith) ∙ h.same i (inr past, p) ∙ sym (get_or-placed_above b span.at new i 0 fits_b (omega arith))
        ]
      ];
    }

-- the bytes that stand in a place, placed there again
pub placed_again : (bytes : List ℕ) (span : Span) (new : List ℕ) → bytes_at bytes span.at span.length ≡ new → span.at + span.length ≤ length bytes → placed bytes span.at new ≡ bytes
placed_again bytes span new stands within =
    let len : length new ≡ span.length = ap length (sym stands) ∙ length-bytes_at bytes span.at span.length within in
    let fits : span.at + length new ≤ length bytes = omega arith in
    ext_get_or 0 (placed bytes span.at new) bytes (length-placed bytes span.at new fits) (λ i _.
    elim (cases_lt i span.at) [
      | inl lt ↦ get_or-placed_below bytes span.at new i 0 fits lt
      | inr le ↦ elim (cases_lt i (span.at + span.length)) [
        | inl lt ↦
            let back : span.at + (i - span.at) ≡ i = omega arith in
            get_or-placed_in bytes span.at new i 0 fits le (omega arith) ∙ ap (λ l. get_or l (i - span.at) 0) (sym stands)
            ∙ get_or-bytes_at bytes span.at span.length (i - span.at) 0 (omega arith) ∙ ap (λ k. get_or bytes k 0) back
        | inr past ↦ get_or-placed_above bytes span.at new i 0 fits (omega arith)
      ]
    ])

-- what two writes in a row place
pub placed_after : (bytes : List ℕ) (at : ℕ) (x y : List ℕ) → at + length x + length y ≤ length bytes → placed (placed bytes at x) (at + length x) y ≡ placed bytes at (x ++ y)
placed_after bytes at x y within =
    let both = length-append x y in
    let first : at + length x ≤ length bytes = omega arith in
    let size = length-placed bytes at x first in
    let second : at + length x + length y ≤ length (placed bytes at x) = omega (arith, size) in
    let whole : at + length (x ++ y) ≤ length bytes = omega (arith, both) in
    ext_get_or 0 (placed (placed bytes at x) (at + length x) y) (placed bytes at (x ++ y))
    (length-placed (placed bytes at x) (at + length x) y second ∙ size ∙ sym (length-placed bytes at (x ++ y) whole)) (λ i _.
    elim (cases_lt i at) [
      | inl below ↦ get_or-placed_below (placed bytes at x) (at + length x) y i 0 second (omega arith) ∙ get_or-placed_below bytes at x i 0 first below ∙ sym (get_or-placed_below bytes at (x ++ y) i 0 whole below)
      | inr from ↦ elim (cases_lt i (at + length x)) [
        | inl in_x ↦ get_or-placed_below (placed bytes at x) (at + length x) y i 0 second in_x ∙ get_or-placed_in bytes at x i 0 first from in_x
            ∙ sym (get_or_append_left x y 0 (i - at) (omega arith)) ∙ sym (get_or-placed_in bytes at (x ++ y) i 0 whole from (omega (arith, both)))
        | inr from_y ↦ elim (cases_lt i (at + length x + length y)) [
          | inl in_y ↦
              let rest : i - at - length x ≡ i - (at + length x) = omega arith in
              get_or-placed_in (placed bytes at x) (at + length x) y i 0 second from_y in_y ∙ ap (λ k. get_or y k 0) (sym rest)
              ∙ sym (get_or-append_right x y (length x) (i - at) 0 refl (omega arith)) ∙ sym (get_or-placed_in bytes at (x ++ y) i 0 whole from (omega (arith, both)))
          | inr past ↦ get_or-placed_above (placed bytes at x) (at + length x) y i 0 second past ∙ get_or-placed_above bytes at x i 0 first from_y ∙ sym (get_or-placed_above bytes at (x ++ y) i 0 whole (omega (arith, both)))
        ]
      ]
    ])

pub placed_none : (bytes : List ℕ) (at : ℕ) → placed bytes at [] ≡ bytes
unfolding placed
placed_none bytes at =
    let here : at + 0 ≡ at = omega arith in
    append_assoc (take at bytes) [] (drop (at + 0) bytes) ∙ ap (λ k. take at bytes ++ drop k bytes) here ∙ take-append-drop at bytes

-- what the functions that write a number say
pub as_placed : (bytes : List ℕ) (at : ℕ) (new after : List ℕ) → after ≡ with_bytes_at bytes at new → after ≡ placed bytes at new
unfolding placed
as_placed bytes at new after e = e

-- what is placed stands in its place
pub bytes_at-placed : (bytes : List ℕ) (span : Span) (new : List ℕ) → length new ≡ span.length → span.at + span.length ≤ length bytes → bytes_at (placed bytes span.at new) span.at span.length ≡ new
bytes_at-placed bytes span new len within =
    let fits : span.at + length new ≤ length bytes = omega arith in
    let whole = length-placed bytes span.at new fits in
    let long : span.at + span.length ≤ length (placed bytes span.at new) = omega (arith, whole) in
    let size = length-bytes_at (placed bytes span.at new) span.at span.length long in
    ext_get_or 0 (bytes_at (placed bytes span.at new) span.at span.length) new (size ∙ sym len) (λ i lt.
    let inside : i < span.length = omega (arith, size) in
    let back : span.at + i - span.at ≡ i = omega arith in
    get_or-bytes_at (placed bytes span.at new) span.at span.length i 0 inside
    ∙ get_or-placed_in bytes span.at new (span.at + i) 0 fits (omega arith) (omega arith) ∙ ap (λ k. get_or new k 0) back)

-- bytes that stand in a place of lists that are the same there
pub bytes_at-same : (P : ℕ → Type 0) (a b : List ℕ) (span : Span) → span.at + span.length ≤ length b → ((i : ℕ) → span.at ≤ i → i < span.at + span.length → P i) → SameAt P a b
    → bytes_at a span.at span.length ≡ bytes_at b span.at span.length
bytes_at-same P a b span within inside h =
    let within_a : span.at + span.length ≤ length a = omega (arith, h.size) in
    let size_a = length-bytes_at a span.at span.length within_a in
    let size_b = length-bytes_at b span.at span.length within in
    ext_get_or 0 (bytes_at a span.at span.length) (bytes_at b span.at span.length) (size_a ∙ sym size_b) (λ i lt.
    let low : i < span.length = omega (arith, size_a) in
    get_or-bytes_at a span.at span.length i 0 low ∙ h.same (span.at + i) (inside (span.at + i) (omega arith) (omega arith)) ∙ sym (get_or-bytes_at b span.at span.length i 0 low))

-- clearing changes nothing outside the spans
pub cleared_outside : (spans : List Span) (bytes : List ℕ) → AreWithin (length bytes) spans → SameAt (IsOutsideAll spans) (cleared spans bytes) bytes
cleared_outside [] bytes within = record { size = refl; same = λ _ _. refl }
cleared_outside (span ∷ spans) bytes within =
    let one = placed_outside bytes span (replicate span.length 0) (length-replicate span.length 0) within.0 in
    let rest = cleared_outside spans (cleared_one bytes span) (subst (λ n. AreWithin n spans) (sym one.size) within.1) in
    SameAt-then (IsOutsideAll (span ∷ spans)) (cleared spans (cleared_one bytes span)) (cleared_one bytes span) bytes
    (SameAt-fewer (IsOutsideAll spans) (IsOutsideAll (span ∷ spans)) (cleared spans (cleared_one bytes span)) (cleared_one bytes span) (λ i out. out.1) rest)
    (SameAt-fewer (IsOutside span) (IsOutsideAll (span ∷ spans)) (cleared_one bytes span) bytes (λ i out. out.0) one)

-- lists that are the same outside the spans are the same when they are cleared
pub cleared_same : (spans : List Span) (P : ℕ → Type 0) (a b : List ℕ) → AreWithin (length b) spans → SameAt (λ i. IsOutsideAll spans i × P i) a b → SameAt P (cleared spans a) (cleared spans b)
cleared_same [] P a b within h = SameAt-fewer (λ i. Unit {0} × P i) P a b (λ i p. (tt, p)) h
cleared_same (span ∷ spans) P a b within h =
    let zeros = replicate span.length 0 in
    let moved = SameAt-fewer (λ i. IsOutsideAll (span ∷ spans) i × P i) (λ i. IsOutside span i × (IsOutsideAll spans i × P i)) a b (λ i out. ((out.0, out.1.0), out.1.1)) h in
    let one = placed_same (λ i. IsOutsideAll spans i × P i) a b span zeros (length-replicate span.length 0) within.0 moved in
    let kept = placed_outside b span zeros (length-replicate span.length 0) within.0 in
    cleared_same spans P (cleared_one a span) (cleared_one b span) (subst (λ n. AreWithin n spans) (sym kept.size) within.1) one

-- from the test that the code's contract names
pub within_from_test : (size : ℕ) (spans : List Span) → IsTrue (list_all (is_within size) spans) → AreWithin size spans
within_from_test size [] h = tt
within_from_test size (span ∷ spans) h =
    let parts = both_parts (leb (span.at + span.length) size) (list_all (is_within size) spans) h in
    (leb-true (span.at + span.length) size parts.0, within_from_test size spans parts.1)

-- bytes that are cleared stay so when they are cleared again
pub cleared-cleared : (spans : List Span) (bytes : List ℕ) → AreWithin (length bytes) spans → cleared spans (cleared spans bytes) ≡ cleared spans bytes
cleared-cleared spans bytes within =
    SameAt-all (cleared spans (cleared spans bytes)) (cleared spans bytes)
    (cleared_same spans (λ _. Unit {0}) (cleared spans bytes) bytes within
    (SameAt-fewer (IsOutsideAll spans) (λ i. IsOutsideAll spans i × Unit {0}) (cleared spans bytes) bytes (λ i out. out.0) (cleared_outside spans bytes within)))
