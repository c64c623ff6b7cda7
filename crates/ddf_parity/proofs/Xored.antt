-- A slice whose first bytes have become the exclusive-or with those of another.
use Rattle.std.proofs.Common.{◌≡◌, ◌∙◌, ℕ, ◌+◌, ◌<◌, ◌≤◌, ◌-◌, List, length, get_or, set, sym, ap, subst, arith, ⊎_elim}
use Rattle.std.specs.Prelude.{bit_xor}
use Rattle.std.specs.Simd.Lanes.{chunk, put_chunk}
use Rattle.std.proofs.lemmas.List.{ext_get_or, get_or-set_same, get_or-set_other, length-set}
use Rattle.std.proofs.lemmas.Simd.{get_or-zip2, get_or-chunk, length-chunk, length-zip2, get_or-put_chunk_below, get_or-put_chunk_at, get_or-put_chunk_above, length-put_chunk}
use Rattle.std.proofs.lemmas.Bool.{cases_lt}
use Rattle.ddf_parity.specs.Xor.{xor}

pub record IsXored (before from now : List ℕ) (at : ℕ) : Type 0 where
  pub same : length now ≡ length before
  pub long : length from ≡ length before
  pub within : at ≤ length from
  pub done : (k : ℕ) → k < at → get_or now k 0 ≡ bit_xor (get_or before k 0) (get_or from k 0)
  pub left : (k : ℕ) → at ≤ k → get_or now k 0 ≡ get_or before k 0

-- one byte more
pub byte_more : (before from now : List ℕ) (at x : ℕ) → IsXored before from now at → at < length from
    → x ≡ bit_xor (get_or now at 0) (get_or from at 0) → IsXored before from (set now at x) (at + 1)
byte_more before from now at x is lt e = record {
  same = length-set now at x ∙ is.same;
  long = is.long;
  within = omega arith;
  done = λ k below. ⊎_elim
      (λ earlier. get_or-set_other now at k x 0 (λ same. omega (arith, same, earlier)) ∙ is.done k earlier)
      (λ here.
      let same : at ≡ k = omega arith in
      let put : get_or (set now at x) at 0 ≡ bit_xor (get_or before at 0) (get_or from at 0) =
      get_or-set_same now at x 0 (omega (arith, is.same, is.long)) ∙ e ∙ ap (λ (n : ℕ). bit_xor n (get_or from at 0)) (is.left at (omega arith)) in
      subst (λ (m : ℕ). get_or (set now at x) m 0 ≡ bit_xor (get_or before m 0) (get_or from m 0)) same put)
      (cases_lt k at);
  left = λ k above. get_or-set_other now at k x 0 (λ same. omega (arith, same, above)) ∙ is.left k (omega arith);
}

-- one of 32 bytes
lane : (before from now : List ℕ) (at j : ℕ) → IsXored before from now at → at + 32 ≤ length from → j < 32
    → get_or (xor (chunk at 32 now) (chunk at 32 from)) j 0 ≡ bit_xor (get_or before (at + j) 0) (get_or from (at + j) 0)
lane before from now at j is room below =
    let long_now : length (chunk at 32 now) ≡ 32 = length-chunk at 32 now (omega (arith, is.same, is.long)) in
    let long_from : length (chunk at 32 from) ≡ 32 = length-chunk at 32 from (omega arith) in
    let zipped = get_or-zip2 bit_xor (chunk at 32 now) (chunk at 32 from) j 0 0 0 (omega arith) (omega arith) in
    let a = get_or-chunk at 32 now j 0 below in
    let b = get_or-chunk at 32 from j 0 below in
    let c = is.left (at + j) (omega arith) in
    zipped ∙ ap (λ (n : ℕ). bit_xor n (get_or (chunk at 32 from) j 0)) (a ∙ c) ∙ ap (bit_xor (get_or before (at + j) 0)) b

-- 32 bytes more
pub lanes_more : (before from now : List ℕ) (at : ℕ) → IsXored before from now at → at + 32 ≤ length from
    → IsXored before from (put_chunk at now (xor (chunk at 32 now) (chunk at 32 from))) (at + 32)
lanes_more before from now at is room =
    let long_now : length (chunk at 32 now) ≡ 32 = length-chunk at 32 now (omega (arith, is.same, is.long)) in
    let long_from : length (chunk at 32 from) ≡ 32 = length-chunk at 32 from (omega arith) in
    let ys : List ℕ = xor (chunk at 32 now) (chunk at 32 from) in
    let long : length ys ≡ 32 = length-zip2 bit_xor (chunk at 32 now) (chunk at 32 from) (long_now ∙ sym long_from) ∙ long_now in
    record {
      same = length-put_chunk at now ys ∙ is.same;
      long = is.long;
      within = omega arith;
      done = λ k below. ⊎_elim
          (λ earlier. get_or-put_chunk_below at now ys k 0 earlier ∙ is.done k earlier)
          (λ here.
          let e : at + (k - at) ≡ k = omega arith in
          let put = get_or-put_chunk_at at now ys (k - at) 0 (omega arith) (omega (arith, is.same, is.long)) in
          let all : get_or (put_chunk at now ys) (at + (k - at)) 0 ≡ bit_xor (get_or before (at + (k - at)) 0) (get_or from (at + (k - at)) 0) = put ∙ lane before from now at (k - at) is room (omega arith) in
          subst (λ (m : ℕ). get_or (put_chunk at now ys) m 0 ≡ bit_xor (get_or before m 0) (get_or from m 0)) e all)
          (cases_lt k at);
      left = λ k above. get_or-put_chunk_above at now ys k 0 (omega arith) ∙ is.left k (omega arith);
    }

-- all bytes
pub whole : (before from now : List ℕ) (at : ℕ) → IsXored before from now at → length from ≤ at → now ≡ xor before from
whole before from now at is end =
    let long : length (xor before from) ≡ length before = length-zip2 bit_xor before from (sym is.long) in
    ext_get_or 0 now (xor before from) (is.same ∙ sym long)
    (λ k below. is.done k (omega (arith, is.same, is.long)) ∙ sym (get_or-zip2 bit_xor before from k 0 0 0 (omega (arith, is.same)) (omega (arith, is.same, is.long))))
