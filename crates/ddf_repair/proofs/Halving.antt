-- Where there is room for some blocks there is room for fewer, so the most is found by halving.
use Rattle.std.proofs.Common.{◌≡◌, ℕ, zero, suc, ◌+◌, ◌<◌, ◌≤◌, Bool, true, false, not, ◌||◌, List, [], ◌∷◌, Some, cond, find, is_some, unwrap_or, nat_le, ⊎_elim, refl, sym, ap, ◌∙◌, arith}
use Rattle.std.proofs.lemmas.Bool.{and_from, and_parts, false≢true, cases_lt, not-true}
use Rattle.std.specs.List.{list_any}
use Rattle.ddf_config.specs.Room.{is_free, least_start_of, meets, multiples}
use Rattle.ddf_repair.specs.Spares.{downwards, has_room}

-- ---- fewer blocks

meets_less : (start m n : ℕ) (other : ℕ × ℕ) → m ≤ n → meets start n other ≡ false → meets start m other ≡ false
meets_less start m n other le h = grind arith

none_less : (start m n : ℕ) (taken : List (ℕ × ℕ)) → m ≤ n → list_any (meets start n) taken ≡ false → list_any (meets start m) taken ≡ false
none_less start m n [] le h = refl
none_less start m n (other ∷ taken) le h = by (meets start n other) (meets start m other) (meets_less start m n other le) h (none_less start m n taken le)
  where
    by : (a b : Bool) → (a ≡ false → b ≡ false) → (a || list_any (meets start n) taken) ≡ false → (list_any (meets start n) taken ≡ false → list_any (meets start m) taken ≡ false) → (b || list_any (meets start m) taken) ≡ false
    by true b less h rest = absurd (false≢true (sym h))
    by false false less h rest = rest h
    by false true less h rest = absurd (false≢true (sym (less refl)))

ends_less : (start m n limit : ℕ) → m ≤ n → nat_le (start + n) limit ≡ true → nat_le (start + m) limit ≡ true
ends_less start m n limit le h = grind arith

free_less : (taken : List (ℕ × ℕ)) (limit m n start : ℕ) → m ≤ n → is_free taken limit n start ≡ true → is_free taken limit m start ≡ true
free_less taken limit m n start le h =
    let parts = and_parts (nat_le (start + n) limit) (not (list_any (meets start n) taken)) h in
    and_from (nat_le (start + m) limit) (not (list_any (meets start m) taken)) (ends_less start m n limit le parts.0)
    (ap not (none_less start m n taken le (not-true (list_any (meets start n) taken) parts.1)))

still_found : {X : Type 0} (p q : X → Bool) → ((x : X) → p x ≡ true → q x ≡ true) → (xs : List X) → is_some (find p xs) ≡ true → is_some (find q xs) ≡ true
still_found p q more [] h = h
still_found {X = X} p q more (x ∷ xs) h = by (p x) (q x) (more x) h (still_found p q more xs)
  where
    by : (a b : Bool) → (a ≡ true → b ≡ true) → is_some (cond a (Some x) (find p xs)) ≡ true → (is_some (find p xs) ≡ true → is_some (find q xs) ≡ true) → is_some (cond b (Some x) (find q xs)) ≡ true
    by a true also h rest = refl
    by true false also h rest = absurd (false≢true (also refl))
    by false false also h rest = rest h

pub room_less : (taken : List (ℕ × ℕ)) (limit strip m n : ℕ) → m ≤ n → has_room taken limit strip n ≡ true → has_room taken limit strip m ≡ true
unfolding least_start_of
room_less taken limit strip m n le h = still_found (is_free taken limit n) (is_free taken limit m) (λ start is. free_less taken limit m n start le is) (multiples strip limit) h

-- so there is none for more than what has none
pub none_more : (taken : List (ℕ × ℕ)) (limit strip m n : ℕ) → m ≤ n → has_room taken limit strip m ≡ false → has_room taken limit strip n ≡ false
none_more taken limit strip m n le h = by (has_room taken limit strip n) refl
  where
    by : (b : Bool) → has_room taken limit strip n ≡ b → b ≡ false
    by false e = refl
    by true e = absurd (false≢true (sym h ∙ room_less taken limit strip m n le e))

-- ---- the greatest

-- The greatest number that passes a test, of those up to a size: it passes, or is 0, and none above it passes.
pub greatest_is : (p : ℕ → Bool) (size k : ℕ) → k ≤ size → ((n : ℕ) → k < n → n ≤ size → p n ≡ false) → (0 < k → p k ≡ true) → unwrap_or (find p (downwards size)) 0 ≡ k
greatest_is p zero k le none has = omega (arith, le)
greatest_is p (suc n) k le none has = by (p (suc n)) refl (λ less. greatest_is p n k less (λ m above within. none m above (omega (arith, within))) has)
  where
    top : (k < suc n → false ≡ true) → suc n ≡ k
    top never = ⊎_elim (λ less. absurd (false≢true (never less))) (λ (at : suc n ≤ k). omega (arith, at, le)) (cases_lt k (suc n))

    below : (k ≡ suc n → false ≡ true) → k ≤ n
    below never = ⊎_elim (λ (less : k < suc n). omega (arith, less)) (λ (at : suc n ≤ k). absurd (false≢true (never (omega (arith, at, le))))) (cases_lt k (suc n))

    by : (b : Bool) → p (suc n) ≡ b → (k ≤ n → unwrap_or (find p (downwards n)) 0 ≡ k) → unwrap_or (cond b (Some (suc n)) (find p (downwards n))) 0 ≡ k
    by true e rest = top (λ less. sym (none (suc n) less (omega arith)) ∙ e)
    by false e rest = rest (below (λ same. sym e ∙ ap p (sym same) ∙ has (omega (arith, same))))
