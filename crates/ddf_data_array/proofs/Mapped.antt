-- Lists of which a function gives the same.
use Rattle.std.proofs.Common.{◌≡◌, ◌∙◌, ◌⊎◌, inl, inr, ⊎_elim, ℕ, zero, suc, ◌+◌, Bool, not, List, [], ◌∷◌, ◌++◌, Option, Some, None, refl, sym, ap, map, slice_get, ◌&&◌, ◌||◌}
use Rattle.std.specs.Prelude.{filter_map, option_map, if◌then◌else◌}
use Rattle.std.specs.List.{cons_option, count_by, flat_map, list_all, list_any}
use Rattle.std.proofs.lemmas.List.{map-append}
use Rattle.std.proofs.lemmas.List.Sums.{sum_by-cons}
use Rattle.std.proofs.lemmas.Option.{none-some}
use Rattle.ddf_lemmas.proofs.Lists.{not_empty, same_first, same_rest}
use Rattle.ddf_lemmas.proofs.Options.{some_is}
use Rattle.ddf_array.specs.Sources.{all_of}

module _ {Y Z : Type 0} (h : Y → Z) where
  -- an item, and the one at its place
  pub item_of : (xs ys : List Y) → map h xs ≡ map h ys → (k : ℕ) (x : Y) → slice_get xs k ≡ Some x → (y : Y) × (slice_get ys k ≡ Some y) × (h x ≡ h y)
  item_of [] ys same k x at = absurd (none-some x at)
  item_of (a ∷ xs) [] same k x at = absurd (not_empty (h a) (map h xs) (sym same))
  item_of (a ∷ xs) (b ∷ ys) same zero x at = (b, refl, ap h (sym (some_is at)) ∙ same_first (h a) (h b) (map h xs) (map h ys) same)
  item_of (a ∷ xs) (b ∷ ys) same (suc k) x at = item_of xs ys (same_rest (h a) (h b) (map h xs) (map h ys) same) k x at

  pub some_of : (o r : Option Y) → option_map h o ≡ option_map h r → (x : Y) → o ≡ Some x → (y : Y) × (r ≡ Some y) × (h x ≡ h y)
  some_of None r same x at = absurd (none-some x at)
  some_of (Some a) None same x at = absurd (none-some (h a) (sym same))
  some_of (Some a) (Some b) same x at = (b, refl, ap h (sym (some_is at)) ∙ some_is same)

  pub first_same : (xs ys : List Y) → map h xs ≡ map h ys → option_map h (slice_get xs 0) ≡ option_map h (slice_get ys 0)
  first_same [] [] same = refl
  first_same [] (b ∷ ys) same = absurd (not_empty (h b) (map h ys) same)
  first_same (a ∷ xs) [] same = absurd (not_empty (h a) (map h xs) (sym same))
  first_same (a ∷ xs) (b ∷ ys) same = ap Some (same_first (h a) (h b) (map h xs) (map h ys) same)

  -- what is found for each item
  cons_same : (a b : Option Y) (xs ys : List Y) → option_map h a ≡ option_map h b → map h xs ≡ map h ys → map h (cons_option a xs) ≡ map h (cons_option b ys)
  cons_same None None xs ys first rest = rest
  cons_same None (Some b) xs ys first rest = absurd (none-some (h b) first)
  cons_same (Some a) None xs ys first rest = absurd (none-some (h a) (sym first))
  cons_same (Some a) (Some b) xs ys first rest = ap (λ z. z ∷ map h xs) (some_is first) ∙ ap (λ l. h b ∷ l) rest

  pub found_same : {X : Type 0} (f g : X → Option Y) (xs : List X) → ((k : ℕ) (x : X) → slice_get xs k ≡ Some x → option_map h (f x) ≡ option_map h (g x)) → map h (filter_map f xs) ≡ map h (filter_map g xs)
  found_same f g [] same = refl
  found_same f g (x ∷ xs) same = cons_same (f x) (g x) (filter_map f xs) (filter_map g xs) (same 0 x refl) (found_same f g xs (λ k y at. same (suc k) y at))

  -- all of what is found
  before_same : (a b : Y) (l r : Option (List Y)) → h a ≡ h b → option_map (map h) l ≡ option_map (map h) r → option_map (map h) (option_map (λ xs. a ∷ xs) l) ≡ option_map (map h) (option_map (λ xs. b ∷ xs) r)
  before_same a b None None first rest = refl
  before_same a b None (Some r) first rest = absurd (none-some (map h r) rest)
  before_same a b (Some l) None first rest = absurd (none-some (map h l) (sym rest))
  before_same a b (Some l) (Some r) first rest = ap (λ z. Some (z ∷ map h l)) first ∙ ap (λ t. Some (h b ∷ t)) (some_is rest)

  all_cons : (a b : Option Y) (xs ys : List (Option Y)) → option_map h a ≡ option_map h b → option_map (map h) (all_of xs) ≡ option_map (map h) (all_of ys) → option_map (map h) (all_of (a ∷ xs)) ≡ option_map (map h) (all_of (b ∷ ys))
  all_cons None None xs ys first rest = refl
  all_cons None (Some b) xs ys first rest = absurd (none-some (h b) first)
  all_cons (Some a) None xs ys first rest = absurd (none-some (h a) (sym first))
  all_cons (Some a) (Some b) xs ys first rest = before_same a b (all_of xs) (all_of ys) (some_is first) rest

  -- the same, or else what holds of one of them
  pub all_or : {P : Type 0} (f g : ℕ → Option Y) (xs : List ℕ) → ((x : ℕ) → (option_map h (f x) ≡ option_map h (g x)) ⊎ P) → (option_map (map h) (all_of (map f xs)) ≡ option_map (map h) (all_of (map g xs))) ⊎ P
  all_or f g [] same = inl refl
  all_or f g (x ∷ xs) same =
      ⊎_elim (λ one. ⊎_elim (λ rest. inl (all_cons (f x) (g x) (map f xs) (map g xs) one rest)) (λ other. inr other) (all_or f g xs same)) (λ other. inr other) (same x)

  pub flat_same : {X : Type 0} (f g : X → List Y) (xs : List X) → ((x : X) → map h (f x) ≡ map h (g x)) → map h (flat_map f xs) ≡ map h (flat_map g xs)
  flat_same f g [] same = refl
  flat_same f g (x ∷ xs) same =
      map-append h (f x) (flat_map f xs) ∙ ap (λ l. l ++ map h (flat_map f xs)) (same x) ∙ ap (λ l. map h (g x) ++ l) (flat_same f g xs same)
      ∙ sym (map-append h (g x) (flat_map g xs))

-- ---- tests that each item passes alike

module _ {X : Type 0} (test : X → Bool) where
  pub any_same : (xs ys : List X) → map test xs ≡ map test ys → list_any test xs ≡ list_any test ys
  any_same [] [] same = refl
  any_same [] (b ∷ ys) same = absurd (not_empty (test b) (map test ys) same)
  any_same (a ∷ xs) [] same = absurd (not_empty (test a) (map test xs) (sym same))
  any_same (a ∷ xs) (b ∷ ys) same =
      ap (λ first. first || list_any test xs) (same_first (test a) (test b) (map test xs) (map test ys) same)
      ∙ ap (λ rest. test b || rest) (any_same xs ys (same_rest (test a) (test b) (map test xs) (map test ys) same))

  pub each_same : (xs ys : List X) → map test xs ≡ map test ys → list_all test xs ≡ list_all test ys
  each_same [] [] same = refl
  each_same [] (b ∷ ys) same = absurd (not_empty (test b) (map test ys) same)
  each_same (a ∷ xs) [] same = absurd (not_empty (test a) (map test xs) (sym same))
  each_same (a ∷ xs) (b ∷ ys) same =
      ap (λ first. first && list_all test xs) (same_first (test a) (test b) (map test xs) (map test ys) same)
      ∙ ap (λ rest. test b && rest) (each_same xs ys (same_rest (test a) (test b) (map test xs) (map test ys) same))

  pub count_same : (xs ys : List X) → map test xs ≡ map test ys → count_by (λ x. not (test x)) xs ≡ count_by (λ x. not (test x)) ys
  count_same [] [] same = refl
  count_same [] (b ∷ ys) same = absurd (not_empty (test b) (map test ys) same)
  count_same (a ∷ xs) [] same = absurd (not_empty (test a) (map test xs) (sym same))
  count_same (a ∷ xs) (b ∷ ys) same =
      let weight : X → ℕ = λ x. if not (test x) then 1 else 0 in
      sum_by-cons weight a xs
      ∙ ap (λ first. (if not first then 1 else 0) + count_by (λ x. not (test x)) xs) (same_first (test a) (test b) (map test xs) (map test ys) same)
      ∙ ap (λ rest. weight b + rest) (count_same xs ys (same_rest (test a) (test b) (map test xs) (map test ys) same))
      ∙ sym (sum_by-cons weight b ys)
