-- The list of the leaders' copies.
use Rattle.std.proofs.Common.{◌≡◌, ℕ, zero, suc, ◌<◌, ◌==◌, ◌&&◌, Bool, true, false, List, [], ◌∷◌, ◌++◌, if◌then◌else◌, refl, sym, ap, ◌∙◌, inl, inr, arith}
use Rattle.std.proofs.lemmas.Bool.{cases_eq, and_parts, and_from, eqb-true, eq-eqb}
use Rattle.ddf_history.specs.Reading.{Reading, Scene, Shown, IsCopyOf, Each, stands}
use Rattle.ddf_history.specs.Reading.Shown.{Nothing, One, Differ}
use Rattle.ddf_history.specs.Leaders.{leading_copy, leading_copies}

-- What all items of two lists have, all of both have.
pub each_append : {A : Type 0} (P : A → Type 0) (xs ys : List A) → Each P xs → Each P ys → Each P (xs ++ ys)
each_append P [] ys left right = right
each_append P (x ∷ xs) ys left right = (left.0, each_append P xs ys left.1 right)

-- An item that is chosen has what it has where the test holds.
each_chosen : {A : Type 0} (P : A → Type 0) (x : A) (b : Bool) → (b ≡ true → P x) → Each P (if b then x ∷ [] else [])
each_chosen P x true holds = (holds refl, tt)
each_chosen P x false holds = tt

pub record IsSome {A : Type 0} (xs : List A) : Type 0 where
  pub head : A
  pub rest : List A
  pub are : xs ≡ head ∷ rest

-- A list that has an item has one when others go behind it.
append_left : {A : Type 0} (xs ys : List A) → IsSome xs → IsSome (xs ++ ys)
append_left xs ys some = record { head = some.head; rest = some.rest ++ ys; are = ap (λ zs. zs ++ ys) some.are }

-- A list has an item where one goes behind it.
append_right : {A : Type 0} (xs : List A) (y : A) → IsSome (xs ++ y ∷ [])
append_right [] y = record { head = y; rest = []; are = refl }
append_right (x ∷ xs) y = record { head = x; rest = xs ++ y ∷ []; are = refl }

module _ (r : Reading) (scene : Scene r.Copy) (n : ℕ) where
  -- The leading copy of a slot has what such copies have.
  each_of_slot : (P : r.Copy → Type 0) (shown : Shown r.Copy) → ((copy : r.Copy) → IsCopyOf shown copy → stands r copy ≡ true → r.sequence_of copy ≡ n → P copy) → Each P (leading_copy r n shown)
  each_of_slot P Nothing holds = tt
  each_of_slot P (One copy) holds = each_chosen P copy (stands r copy && (r.sequence_of copy == n)) (λ both.
      let parts = and_parts (stands r copy) (r.sequence_of copy == n) both in
      holds copy refl parts.0 (eqb-true _ _ parts.1))
  each_of_slot P (Differ primary secondary) holds = tt

  -- All leading copies have what such copies have.
  pub each_leading : (P : r.Copy → Type 0) → ((s : ℕ) (copy : r.Copy) → IsCopyOf (scene s) copy → stands r copy ≡ true → r.sequence_of copy ≡ n → P copy) → (slots : ℕ) → Each P (leading_copies r n scene slots)
  each_leading P holds zero = tt
  each_leading P holds (suc slots) = each_append P (leading_copies r n scene slots) (leading_copy r n (scene slots)) (each_leading P holds slots) (each_of_slot P (scene slots) (holds slots))

  -- There is a leading copy where a slot shows one.
  pub some_leading : (s : ℕ) (copy : r.Copy) → scene s ≡ One copy → stands r copy ≡ true → r.sequence_of copy ≡ n → (slots : ℕ) → s < slots → IsSome (leading_copies r n scene slots)
  some_leading s copy is standing same zero lt = absurd (omega arith)
  some_leading s copy is standing same (suc slots) lt = elim (cases_eq s slots) [
    | inl here ↦
        let at : scene slots ≡ One copy = ap scene (sym here) ∙ is in
        let test : (stands r copy && (r.sequence_of copy == n)) ≡ true = and_from _ _ standing (eq-eqb _ _ same) in
        let one : leading_copy r n (scene slots) ≡ copy ∷ [] = ap (leading_copy r n) at ∙ ap (λ (b : Bool). if b then copy ∷ [] else []) test in
        rw one (append_right (leading_copies r n scene slots) copy)
    | inr there ↦ append_left (leading_copies r n scene slots) (leading_copy r n (scene slots)) (some_leading s copy is standing same slots (omega arith))
  ]

  -- Nothing is chosen where the test fails.
  none_chosen : (copy : r.Copy) (b : Bool) → (b ≡ true → ⊥) → (if b then copy ∷ [] else []) ≡ []
  none_chosen copy true none = absurd (none refl)
  none_chosen copy false none = refl

  -- a slot with no such copy gives none
  pub none_leading : (shown : Shown r.Copy) → ((copy : r.Copy) → IsCopyOf shown copy → stands r copy ≡ true → r.sequence_of copy ≡ n → ⊥) → leading_copy r n shown ≡ []
  none_leading Nothing none = refl
  none_leading (One copy) none = none_chosen copy (stands r copy && (r.sequence_of copy == n)) (λ both.
      let parts = and_parts (stands r copy) (r.sequence_of copy == n) both in
      none copy refl parts.0 (eqb-true _ _ parts.1))
  none_leading (Differ primary secondary) none = refl

-- slots that give the same give the same leaders
pub same_leading : (r : Reading) (n : ℕ) (one other : Scene r.Copy) → ((s : ℕ) → leading_copy r n (one s) ≡ leading_copy r n (other s)) → (slots : ℕ) → leading_copies r n one slots ≡ leading_copies r n other slots
same_leading r n one other same zero = refl
same_leading r n one other same (suc slots) = rw (same_leading r n one other same slots, same slots) refl
