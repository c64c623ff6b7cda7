-- The index as the logged writes grow and are settled.
use Rattle.std.proofs.Common.{◌≡◌, ℕ, zero, suc, ◌<◌, List, [], ◌∷◌, ◌++◌, length, get_or, Bool, if◌then◌else◌, refl, sym, ◌∙◌, ap, arith}
use Rattle.std.specs.Prelude.{Option, Some, None, slice_get, true, false}
use Rattle.std.proofs.lemmas.Grind.{common_steps}
use Rattle.ddf_lemmas.proofs.Lists.{get_last}
use Rattle.ddf_bay.specs.declared.logged_write.LoggedWrite.{LoggedWrite}
use Rattle.ddf_bay.specs.Logged.{is_at, newest, settled}
use Rattle.ddf_bay.specs.LoggedLaws.{newest_sync}
use Rattle.ddf_bay.specs.Finding.{bytes_or, bytes_at, Finds, IsWithin}

get_found : (rs : List LoggedWrite) (i : ℕ) (x : LoggedWrite) → i < length rs → x ≡ get_or rs i x → slice_get rs i ≡ Some x
get_found [] i x lt e = absurd (omega (arith, lt))
get_found (r ∷ rs) zero x lt e = ap Some (sym e)
get_found (r ∷ rs) (suc i) x lt e = get_found rs i x (omega (arith, lt)) e

-- a read by the index
pub bytes_found : (noted : ℕ → ℕ → Option ℕ) (rs : List LoggedWrite) (s l i : ℕ) (x : LoggedWrite) (before : List ℕ) → Finds noted rs → noted s l ≡ Some i → i < length rs → x ≡ get_or rs i x → x.bytes ≡ newest rs s l before
bytes_found noted rs s l i x before finds here lt e =
    ap (λ (o : Option LoggedWrite). bytes_or o before) (sym (get_found rs i x lt e)) ∙ ap (λ (o : Option ℕ). bytes_at rs o before) (sym here) ∙ sym (finds s l before)

newest_push : (rs : List LoggedWrite) (r : LoggedWrite) (s l : ℕ) (before : List ℕ) → newest (rs ++ r ∷ []) s l before ≡ (if is_at r s l then r.bytes else newest rs s l before)
newest_push [] r s l before = refl
newest_push (x ∷ rs) r s l before = newest_push rs r s l (if is_at x s l then x.bytes else before)

get_push_old : (rs : List LoggedWrite) (r : LoggedWrite) (i : ℕ) → i < length rs → slice_get (rs ++ r ∷ []) i ≡ slice_get rs i
get_push_old [] r i lt = absurd (omega (arith, lt))
get_push_old (x ∷ rs) r zero lt = refl
get_push_old (x ∷ rs) r (suc i) lt = get_push_old rs r i (omega (arith, lt))

bytes_push : (rs : List LoggedWrite) (r : LoggedWrite) (at : Option ℕ) (before : List ℕ) → ((i : ℕ) → at ≡ Some i → i < length rs) → bytes_at (rs ++ r ∷ []) at before ≡ bytes_at rs at before
bytes_push rs r None before within = refl
bytes_push rs r (Some i) before within = ap (λ (o : Option LoggedWrite). bytes_or o before) (get_push_old rs r i (within i refl))

bytes_last : (rs : List LoggedWrite) (r : LoggedWrite) (before : List ℕ) → bytes_at (rs ++ r ∷ []) (Some (length rs)) before ≡ r.bytes
bytes_last rs r before = ap (λ (o : Option LoggedWrite). bytes_or o before) (get_last rs r)

module _ (noted noted' : ℕ → ℕ → Option ℕ) (rs : List LoggedWrite) (r : LoggedWrite) (notes : (s l : ℕ) → noted' s l ≡ (if is_at r s l then Some (length rs) else noted s l)) (within : IsWithin noted rs) where
  pushed : (b : Bool) (s l : ℕ) (before : List ℕ) → newest rs s l before ≡ bytes_at rs (noted s l) before
      → (if b then r.bytes else newest rs s l before) ≡ bytes_at (rs ++ r ∷ []) (if b then Some (length rs) else noted s l) before
  pushed true s l before found = sym (bytes_last rs r before)
  pushed false s l before found = found ∙ sym (bytes_push rs r (noted s l) before (within s l))

  pub finds_push : Finds noted rs → Finds noted' (rs ++ r ∷ [])
  finds_push finds s l before = rw (notes s l) (newest_push rs r s l before ∙ pushed (is_at r s l) s l before (finds s l before))

  pub within_push : IsWithin noted' (rs ++ r ∷ [])
  within_push s l i e = grind (arith, common_steps, notes s l, within s l i)

get_settled : (slot now : ℕ) (rs : List LoggedWrite) (i : ℕ) (before : List ℕ) → bytes_or (slice_get (settled slot now rs) i) before ≡ bytes_or (slice_get rs i) before
get_settled slot now [] i before = refl
get_settled slot now (r ∷ rs) zero before = grind (arith, common_steps)
get_settled slot now (r ∷ rs) (suc i) before = get_settled slot now rs i before

bytes_settled : (slot now : ℕ) (rs : List LoggedWrite) (at : Option ℕ) (before : List ℕ) → bytes_at (settled slot now rs) at before ≡ bytes_at rs at before
bytes_settled slot now rs None before = refl
bytes_settled slot now rs (Some i) before = get_settled slot now rs i before

pub finds_settled : (noted : ℕ → ℕ → Option ℕ) (slot now : ℕ) (rs : List LoggedWrite) → Finds noted rs → Finds noted (settled slot now rs)
finds_settled noted slot now rs finds s l before = newest_sync slot now rs s l before ∙ finds s l before ∙ sym (bytes_settled slot now rs (noted s l) before)

length_settled : (slot now : ℕ) (rs : List LoggedWrite) → length (settled slot now rs) ≡ length rs
length_settled slot now [] = refl
length_settled slot now (r ∷ rs) = ap suc (length_settled slot now rs)

pub within_settled : (noted : ℕ → ℕ → Option ℕ) (slot now : ℕ) (rs : List LoggedWrite) → IsWithin noted rs → IsWithin noted (settled slot now rs)
within_settled noted slot now rs within s l i e = let lt : i < length rs = within s l i e in omega (arith, length_settled slot now rs)
