-- The leaders' copies, and the slots that show them.
use Rattle.std.proofs.Common.{◌≡◌, ℕ, zero, suc, ◌<◌, ◌==◌, ◌&&◌, Bool, true, List, [], ◌∷◌, if◌then◌else◌, Some, slice_get, refl, sym, ap, ◌∙◌, inl, inr, ⊎_elim, arith}
use Rattle.std.proofs.lemmas.Bool.{cases_eq, and_parts, and_from, eqb-true, eq-eqb}
use Rattle.ddf_lemmas.proofs.Lists.{first_get, in_second}
use Rattle.ddf_history.specs.Reading.{Reading, Scene, Shown, stands}
use Rattle.ddf_history.specs.Reading.Shown.{Nothing, One, Differ}
use Rattle.ddf_history.specs.Leaders.{leading_copy, leading_copies}
use Rattle.ddf_history_steps.proofs.MendingLists.{chosen_get, either_list, two_of}

module _ (r : Reading) (n : ℕ) where
  -- a slot shows a leader's copy
  pub record IsPlace (scene : Scene r.Copy) (slot : ℕ) (copy : r.Copy) : Type 0 where
    pub is_only : scene slot ≡ One copy
    pub is_standing : stands r copy ≡ true
    pub same : r.sequence_of copy ≡ n

  -- the copy of a slot is there by itself
  of_slot : (scene : Scene r.Copy) (slot : ℕ) (shown : Shown r.Copy) (i : ℕ) (copy : r.Copy) → scene slot ≡ shown → slice_get (leading_copy r n shown) i ≡ Some copy → IsPlace scene slot copy × (i ≡ 0)
  of_slot scene slot Nothing i copy is e = absurd cc
  of_slot scene slot (One found) i copy is e =
      let chosen = chosen_get found copy (stands r found && (r.sequence_of found == n)) i e in
      let parts = and_parts (stands r found) (r.sequence_of found == n) chosen.0 in
      (record { is_only = is ∙ ap (λ (x : r.Copy). One x) (sym chosen.2); is_standing = ap (stands r) chosen.2 ∙ parts.0; same = ap r.sequence_of chosen.2 ∙ eqb-true _ _ parts.1 }, chosen.1)
  of_slot scene slot (Differ primary secondary) i copy is e = absurd cc

  -- Each of the leaders' copies is shown by a slot.
  pub place_of : (scene : Scene r.Copy) (slots k : ℕ) (copy : r.Copy) → slice_get (leading_copies r n scene slots) k ≡ Some copy → (slot : ℕ) × (slot < slots) × IsPlace scene slot copy
  place_of scene zero k copy at = absurd cc
  place_of scene (suc slots) k copy at = ⊎_elim
      (λ before. let rest = place_of scene slots k copy before in (rest.0, omega (arith, rest.1), rest.2))
      (λ last. (slots, omega arith, (of_slot scene slots (scene slots) last.0 copy refl last.1).0))
      (either_list (leading_copies r n scene slots) (leading_copy r n (scene slots)) k copy at)

  -- Two of them are shown by two slots, in rising order.
  pub places_of : (scene : Scene r.Copy) (slots i k : ℕ) (one other : r.Copy) → i < k → slice_get (leading_copies r n scene slots) i ≡ Some one → slice_get (leading_copies r n scene slots) k ≡ Some other
      → (s : ℕ) × (t : ℕ) × (s < t) × (t < slots) × IsPlace scene s one × IsPlace scene t other
  places_of scene zero i k one other less at there = absurd cc
  places_of scene (suc slots) i k one other less at there = ⊎_elim
      (λ before. let rest = places_of scene slots i k one other less before.0 before.1 in (rest.0, rest.1, rest.2, omega (arith, rest.3), rest.4, rest.5))
      (⊎_elim
      (λ apart.
      let first = place_of scene slots i one apart.0 in
      (first.0, slots, first.1, omega arith, first.2, (of_slot scene slots (scene slots) apart.1.0 other refl apart.1.1).0))
      (λ last. absurd (omega (arith, last.2, (of_slot scene slots (scene slots) last.1 other refl last.4).1))))
      (two_of (leading_copies r n scene slots) (leading_copy r n (scene slots)) i k one other less at there)

  -- what a slot shows that leads is the one item
  pub place_get : (scene : Scene r.Copy) (slot : ℕ) (copy : r.Copy) → IsPlace scene slot copy → leading_copy r n (scene slot) ≡ copy ∷ []
  place_get scene slot copy place =
      let test : (stands r copy && (r.sequence_of copy == n)) ≡ true = and_from _ _ place.is_standing (eq-eqb _ _ place.same) in
      ap (leading_copy r n) place.is_only ∙ ap (λ (b : Bool). if b then copy ∷ [] else []) test

  -- What a slot shows that leads is one of the leaders' copies.
  pub of_place : (scene : Scene r.Copy) (slots slot : ℕ) (copy : r.Copy) → slot < slots → IsPlace scene slot copy → (k : ℕ) × (slice_get (leading_copies r n scene slots) k ≡ Some copy)
  of_place scene zero slot copy less place = absurd (omega arith)
  of_place scene (suc slots) slot copy less place = elim (cases_eq slot slots) [
    | inl same ↦
        let here : leading_copy r n (scene slots) ≡ copy ∷ [] = ap (λ (s : ℕ). leading_copy r n (scene s)) (sym same) ∙ place_get scene slot copy place in
        in_second (leading_copies r n scene slots) (leading_copy r n (scene slots)) 0 copy (ap (λ (xs : List r.Copy). slice_get xs 0) here)
    | inr differ ↦
        let rest = of_place scene slots slot copy (omega arith) place in
        (rest.0, first_get (leading_copies r n scene slots) (leading_copy r n (scene slots)) rest.0 copy rest.1)
  ]
