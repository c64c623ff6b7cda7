-- Which slots have a cell.
use Rattle.std.proofs.Common.{◌≡◌, ◌∙◌, ℕ, suc, Bool, true, false, List, [], ◌∷◌, Some, refl, sym, slice_get}
use Rattle.std.specs.Prelude.{◌==◌, ◌||◌}
use Rattle.std.specs.List.{list_any}
use Rattle.std.proofs.lemmas.Bool.{eq-eqb, eqb-true}
use Rattle.std.proofs.lemmas.Map.Keys.{any_passes_from_place}
use Rattle.ddf_lemmas.proofs.Tests.{true_not_false}
use Rattle.ddf_stage.specs.declared.desk.StageCell.{StageCell}
use Rattle.ddf_stage.specs.Staging.{HasCell}

-- an item that passes
record Passes {X : Type 0} (test : X → Bool) (xs : List X) : Type 0 where
  pub at : ℕ
  pub item : X
  pub is_at : slice_get xs at ≡ Some item
  pub passes : test item ≡ true

passing_by : {X : Type 0} (test : X → Bool) (y : X) (xs : List X) (b : Bool) → test y ≡ b → (b || list_any test xs) ≡ true → (list_any test xs ≡ true → Passes test xs) → Passes test (y ∷ xs)
passing_by test y xs true is any rest = record { at = 0; item = y; is_at = refl; passes = is }
passing_by test y xs false is any rest =
    let later = rest any in record { at = suc later.at; item = later.item; is_at = later.is_at; passes = later.passes }

passing : {X : Type 0} (test : X → Bool) (xs : List X) → list_any test xs ≡ true → Passes test xs
passing test [] any = absurd (true_not_false (sym any))
passing test (y ∷ xs) any = passing_by test y xs (test y) refl any (passing test xs)

pub has_one : (cells : List StageCell) (slot : ℕ) → list_any (λ (cell : StageCell). cell.slot == slot) cells ≡ true → HasCell cells slot
has_one cells slot any =
    let one = passing (λ (cell : StageCell). cell.slot == slot) cells any in
    record { number = one.at; cell = one.item; is_cell = one.is_at; on_slot = sym (eqb-true one.item.slot slot one.passes) }

pub has_none : (cells : List StageCell) (slot : ℕ) → list_any (λ (cell : StageCell). cell.slot == slot) cells ≡ false → HasCell cells slot → ⊥
has_none cells slot none has =
    true_not_false (sym (any_passes_from_place (λ (cell : StageCell). cell.slot == slot) cells has.number has.cell has.is_cell (eq-eqb has.cell.slot slot (sym has.on_slot))) ∙ none)
