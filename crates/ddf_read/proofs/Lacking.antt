-- Blocks that lack a copy: a test over a range of numbers.
use Rattle.std.proofs.Common.{◌≡◌, ◌∙◌, ℕ, zero, suc, ◌+◌, ◌-◌, ◌<◌, List, [], ◌∷◌, Bool, true, false, map, slice_get, refl, sym, ap, arith, ◌||◌}
use Rattle.std.specs.Prelude.{is_none}
use Rattle.std.specs.List.{range_with_len, list_any}
use Rattle.std.proofs.lemmas.List.Folds.{list_any-append}
use Rattle.ddf_lemmas.proofs.Lists.{range-append}
use Rattle.ddf_array.specs.declared.site.Site.{Site}
use Rattle.ddf_array.specs.Sources.{copies}
use Rattle.ddf_array.specs.Volume.{Volume}
use Rattle.ddf_read.specs.Along.{further, LieAlong}
use Rattle.ddf_read.specs.Refused.{lacks_copy}

-- so many more
pub any_none : (p : ℕ → Bool) (a n : ℕ) → ((k : ℕ) → k < n → p (a + k) ≡ false) → list_any p (range_with_len a n) ≡ false
any_none p a zero none = refl
any_none p a (suc n) none =
    let same : a + 0 ≡ a = omega arith in
    ap (λ b. b || list_any p (range_with_len (a + 1) n)) (ap p (sym same) ∙ none 0 (omega arith))
    ∙ any_none p (a + 1) n (λ k below. let e : a + suc k ≡ a + 1 + k = omega arith in ap p (sym e) ∙ none (suc k) (omega arith))

pub any_more : (p : ℕ → Bool) (a k n : ℕ) → list_any p (range_with_len a k) ≡ false → ((j : ℕ) → j < n → p (a + k + j) ≡ false) → list_any p (range_with_len a (k + n)) ≡ false
any_more p a k n before here =
    ap (list_any p) (range-append a k n) ∙ list_any-append p (range_with_len a k) (range_with_len (a + k) n)
    ∙ ap (λ b. b || list_any p (range_with_len (a + k) n)) before ∙ any_none p (a + k) n here

-- the blocks of one strip lack a copy, or none does
lacks_same : (copied : List Site) (k : ℕ) → is_none (slice_get (map (further k) copied) 0) ≡ is_none (slice_get copied 0)
lacks_same [] k = refl
lacks_same (site ∷ copied) k = refl

pub lacks_along : (v : Volume) (block count k : ℕ) → LieAlong v block count → k < count → lacks_copy v block ≡ false → lacks_copy v (block + k) ≡ false
lacks_along v block count k along below lacks =
    ap (λ l. is_none (slice_get l 0)) (along.copies_are k below) ∙ lacks_same (copies v block) k ∙ lacks

pub any_hit : (p : ℕ → Bool) (a n k : ℕ) → k < n → p (a + k) ≡ true → list_any p (range_with_len a n) ≡ true
any_hit p a n k below here =
    let split : n ≡ k + suc (n - k - 1) = omega arith in
    ap (λ m. list_any p (range_with_len a m)) split ∙ ap (list_any p) (range-append a k (suc (n - k - 1)))
    ∙ list_any-append p (range_with_len a k) (range_with_len (a + k) (suc (n - k - 1)))
    ∙ ap (λ b. list_any p (range_with_len a k) || (b || list_any p (range_with_len (a + k + 1) (n - k - 1)))) here ∙ yes (list_any p (range_with_len a k))
  where
    yes : (b : Bool) → (b || true) ≡ true
    yes true = refl
    yes false = refl
