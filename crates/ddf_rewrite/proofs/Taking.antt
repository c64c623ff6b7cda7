-- Items that take their slots, one after another.
use Rattle.std.proofs.Common.{◌≡◌, ◌∙◌, ℕ, ◌+◌, ◌<◌, List, ◌∷◌, length, get_or, drop, map, Option, ap, sym, add-one}
use Rattle.std.proofs.Math.Seq.{drop-cons}
use Rattle.std.proofs.lemmas.List.{get_or-map}
use Rattle.ddf_rewrite.specs.declared.item.Item.{Item}
use Rattle.ddf_rewrite.specs.declared.item.Slotted.{Slotted}
use Rattle.ddf_rewrite.specs.Placement.{take_one, take_slots}

-- the next item, with the slot where it stands
pub next_taken : (stands : Item → Option ℕ) (items : List Item) (standing : List (Option ℕ)) (i : ℕ) (item : Item) (place : Option ℕ) (left : List ℕ) → standing ≡ map stands items → i < length items → item ≡ get_or items i item → place ≡ get_or standing i place
    → take_slots stands (drop i items) left ≡ take_one item place (take_slots stands (drop (i + 1) items)) left
next_taken stands items standing i item place left same below here there =
    let others : List ℕ → List Slotted = take_slots stands (drop (i + 1) items) in
    let stood : place ≡ stands item =
    there ∙ ap (λ (l : List (Option ℕ)). get_or l i place) same ∙ get_or-map stands items i item place below ∙ ap stands (sym here) in
    ap (λ (l : List Item). take_slots stands l left) (drop-cons items i item below ∙ ap (λ (n : ℕ). get_or items i item ∷ drop n items) (sym (add-one i)))
    ∙ ap (λ (x : Item). take_one x (stands x) others left) (sym here) ∙ ap (λ (o : Option ℕ). take_one item o others left) (sym stood)
