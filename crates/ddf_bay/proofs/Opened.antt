-- The slots of a bay over files whose paths could not be opened.
use Rattle.std.proofs.Common.{◌≡◌, ℕ, zero, suc, List, [], ◌∷◌, ◌++◌, length, get_or, set, false, true, refl, sym, ◌∙◌, ap, arith}
use Rattle.std.specs.Prelude.{Result, Err, is_ok, nat_le}
use Rattle.std.specs.List.{list_all}
use Rattle.ddf_bay.specs.Files.{is_open, AreEmptyUnlessOpen}

pub is_open_set : {F E : Type 0} (files : List (Result F E)) (slot : ℕ) (old new : Result F E) → old ≡ get_or files slot old → is_ok new ≡ is_ok old → (s : ℕ) → is_open (set files slot new) s ≡ is_open files s
is_open_set [] slot old new here same s = refl
is_open_set (f ∷ files) zero old new here same zero = same ∙ ap is_ok here
is_open_set (f ∷ files) zero old new here same (suc s) = refl
is_open_set (f ∷ files) (suc slot) old new here same zero = refl
is_open_set (f ∷ files) (suc slot) old new here same (suc s) = is_open_set files slot old new here same s

-- a call on the file of a slot
pub closed_set : {F E : Type 0} (files : List (Result F E)) (sizes : List ℕ) (slot : ℕ) (old new : Result F E) → old ≡ get_or files slot old → is_ok new ≡ is_ok old
    → AreEmptyUnlessOpen files sizes → AreEmptyUnlessOpen (set files slot new) sizes
closed_set files sizes slot old new here same closed s shut = closed s (sym (is_open_set files slot old new here same s) ∙ shut)

-- one path more
pub closed_push : {F E : Type 0} (files : List (Result F E)) (sizes : List ℕ) (file : Result F E) (size : ℕ) → length files ≡ length sizes → (is_ok file ≡ false → size ≡ 0)
    → AreEmptyUnlessOpen files sizes → AreEmptyUnlessOpen (files ++ file ∷ []) (sizes ++ size ∷ [])
closed_push [] [] file size each last closed zero shut = last shut
closed_push [] [] file size each last closed (suc s) shut = refl
closed_push [] (n ∷ sizes) file size each last closed s shut = absurd (omega (arith, each))
closed_push (f ∷ files) [] file size each last closed s shut = absurd (omega (arith, each))
closed_push (f ∷ files) (n ∷ sizes) file size each last closed zero shut = closed zero shut
closed_push (f ∷ files) (n ∷ sizes) file size each last closed (suc s) shut =
    closed_push files sizes file size (omega (arith, each)) last (λ k. closed (suc k)) s shut

pub closed_pushed : {F E : Type 0} (files new_files : List (Result F E)) (sizes new_sizes : List ℕ) (file : Result F E) (size : ℕ) → length files ≡ length sizes → (is_ok file ≡ false → size ≡ 0)
    → AreEmptyUnlessOpen files sizes → new_files ≡ files ++ file ∷ [] → new_sizes ≡ sizes ++ size ∷ [] → AreEmptyUnlessOpen new_files new_sizes
closed_pushed files new_files sizes new_sizes file size each last closed e f = rw (e, f) (closed_push files sizes file size each last closed)

-- one slot is closed
pub closed_shut : {F E : Type 0} (files : List (Result F E)) (sizes : List ℕ) (slot : ℕ) (why : E) → AreEmptyUnlessOpen files sizes → AreEmptyUnlessOpen (set files slot (Err why)) (set sizes slot 0)
closed_shut [] [] slot why closed s shut = refl
closed_shut [] (n ∷ sizes) zero why closed zero shut = refl
closed_shut [] (n ∷ sizes) zero why closed (suc s) shut = closed (suc s) refl
closed_shut [] (n ∷ sizes) (suc slot) why closed zero shut = closed zero refl
closed_shut {F = F} [] (n ∷ sizes) (suc slot) why closed (suc s) shut = closed_shut {F = F} [] sizes slot why (λ k. closed (suc k)) s refl
closed_shut (f ∷ files) [] slot why closed s shut = refl
closed_shut (f ∷ files) (n ∷ sizes) zero why closed zero shut = refl
closed_shut (f ∷ files) (n ∷ sizes) zero why closed (suc s) shut = closed (suc s) shut
closed_shut (f ∷ files) (n ∷ sizes) (suc slot) why closed zero shut = closed zero shut
closed_shut (f ∷ files) (n ∷ sizes) (suc slot) why closed (suc s) shut = closed_shut files sizes slot why (λ k. closed (suc k)) s shut

pub is_open_shut : {F E : Type 0} (files : List (Result F E)) (slot : ℕ) (why : E) → is_open (set files slot (Err why)) slot ≡ false
is_open_shut [] slot why = refl
is_open_shut (f ∷ files) zero why = refl
is_open_shut (f ∷ files) (suc slot) why = is_open_shut files slot why

pub small_shut : (most slot : ℕ) (sizes : List ℕ) → list_all (λ n. nat_le n most) sizes ≡ true → list_all (λ n. nat_le n most) (set sizes slot 0) ≡ true
small_shut most slot [] small = refl
small_shut most zero (n ∷ sizes) small = grind (arith, small)
small_shut most (suc slot) (n ∷ sizes) small = grind (arith, small, small_shut most slot sizes)
