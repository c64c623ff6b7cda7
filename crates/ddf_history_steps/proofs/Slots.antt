-- Slots among others, by their places.
use Rattle.std.proofs.Common.{◌≡◌, ◌≢◌, ℕ, zero, suc, ◌||◌, Bool, true, false, List, [], ◌∷◌, Some, refl, ap, sym, ◌∙◌}
use Rattle.std.proofs.lemmas.Bool.{eq-eqb, eqb-true, false≢true, or_left, or_right}
use Rattle.std.specs.Prelude.{◌==◌, slice_get}
use Rattle.ddf_history_steps.specs.Kept.{is_slot}

-- A slot that is one of these has a place among them.
pub slot_placed : (slots : List ℕ) (slot : ℕ) → is_slot slots slot ≡ true → (place : ℕ) × (slice_get slots place ≡ Some slot)
slot_placed [] slot is = absurd (false≢true is)
slot_placed (first ∷ slots) slot is = go (slot_placed slots slot) (first == slot) refl is
  where
    go : (is_slot slots slot ≡ true → (place : ℕ) × (slice_get slots place ≡ Some slot)) → (here : Bool) → (first == slot) ≡ here
        → (here || is_slot slots slot) ≡ true
        → (place : ℕ) × (slice_get (first ∷ slots) place ≡ Some slot)
    go later true same among = (0, ap Some (eqb-true first slot same))
    go later false same among = let found = later among in (suc found.0, found.1)

-- A slot with a place among these is one of them.
pub slot_is : (slots : List ℕ) (place slot : ℕ) → slice_get slots place ≡ Some slot → is_slot slots slot ≡ true
slot_is [] place slot at = absurd cc
slot_is (first ∷ slots) zero slot at = let same : first ≡ slot = cc in or_left (first == slot) (is_slot slots slot) (eq-eqb first slot same)
slot_is (first ∷ slots) (suc place) slot at = or_right (first == slot) (is_slot slots slot) (slot_is slots place slot at)

-- A slot that is none of these has no place among them.
pub not_placed : (slots : List ℕ) (slot : ℕ) → is_slot slots slot ≡ false → (place : ℕ) → slice_get slots place ≢ Some slot
not_placed slots slot none place at = false≢true (sym none ∙ slot_is slots place slot at)
