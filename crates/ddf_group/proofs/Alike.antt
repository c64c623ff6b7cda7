-- Leaders no copies of which differ contradict each other in none.
use Rattle.std.proofs.Common.{◌≡◌, ℕ, List, [], ◌∷◌, Option, Some, None, refl, ap, ◌∙◌, filter_map, option_map}
use Rattle.std.specs.Prelude.{IfSome}
use Rattle.std.specs.List.{AllByRecursion, cons_option}
use Rattle.std.specs.Option.{option_or}
use Rattle.ddf_view.specs.View.{View}
use Rattle.ddf_view.specs.Differ.{difference}
use Rattle.ddf_view.specs.Alike.{NoneDiffers}
use Rattle.ddf_view.specs.declared.difference.Difference.{Difference}
use Rattle.ddf_group.specs.declared.answer.Assembly.{Assembly}
use Rattle.ddf_group.specs.declared.shown.Shown.{Shown}
use Rattle.ddf_group.specs.Conflicts.{differ_at, differ_of, difference_of, in_conflict}
use Rattle.ddf_group.specs.Pairs.{first_pair, first_with}
use Rattle.ddf_group.specs.Slots.{slot_at, view_in}

-- the copies that stand for some slots
abbrev pub views_at : List Shown → List ℕ → List View
views_at slots numbers = filter_map (λ slot. view_in (slot_at slots slot)) numbers

-- a first copy that may be lacking, and the others
taken : (P : View → Type 0) (o : Option View) (views : List View) → AllByRecursion P (cons_option o views) → IfSome o P × AllByRecursion P views
taken P None views h = (tt, h)
taken P (Some view) views h = h

split : (o : Option View) (views : List View) → NoneDiffers (cons_option o views) → IfSome o (λ view. AllByRecursion (λ other. difference view other ≡ None) views) × NoneDiffers views
split None views h = (tt, h)
split (Some view) views h = h

agreed : (view : View) (o : Option View) → IfSome o (λ other. difference view other ≡ None) → difference_of (Some view) o ≡ None
agreed view None h = refl
agreed view (Some other) h = h

-- nothing is found of a slot and the first of others
goes_on : (slots : List Shown) (group : List ℕ) (i j : ℕ) (numbers : List ℕ) → difference_of (view_in (slot_at slots i)) (view_in (slot_at slots j)) ≡ None
    → first_with (differ_at slots group i) numbers ≡ None → first_with (differ_at slots group i) (j ∷ numbers) ≡ None
goes_on slots group i j numbers none rest =
    ap (λ (o : Option Difference). option_or (option_map (λ found. in_conflict slots group i j (differ_of found)) o) (first_with (differ_at slots group i) numbers)) none ∙ rest

-- a slot without a copy
alone : (slots : List Shown) (group : List ℕ) (i : ℕ) → view_in (slot_at slots i) ≡ None → (numbers : List ℕ) → first_with (differ_at slots group i) numbers ≡ None
alone slots group i e [] = refl
alone slots group i e (j ∷ numbers) =
    goes_on slots group i j numbers (ap (λ (o : Option View). difference_of o (view_in (slot_at slots j))) e) (alone slots group i e numbers)

-- a slot whose copy differs from none of the others'
beside : (slots : List Shown) (group : List ℕ) (i : ℕ) (view : View) → view_in (slot_at slots i) ≡ Some view → (numbers : List ℕ)
    → AllByRecursion (λ other. difference view other ≡ None) (views_at slots numbers) → first_with (differ_at slots group i) numbers ≡ None
beside slots group i view e [] h = refl
beside slots group i view e (j ∷ numbers) h =
    let parts = taken (λ other. difference view other ≡ None) (view_in (slot_at slots j)) (views_at slots numbers) h in
    goes_on slots group i j numbers (ap (λ (o : Option View). difference_of o (view_in (slot_at slots j))) e ∙ agreed view (view_in (slot_at slots j)) parts.0)
    (beside slots group i view e numbers parts.1)

among : (slots : List Shown) (group : List ℕ) (i : ℕ) (numbers : List ℕ) (o : Option View) → view_in (slot_at slots i) ≡ o
    → IfSome o (λ view. AllByRecursion (λ other. difference view other ≡ None) (views_at slots numbers)) → first_with (differ_at slots group i) numbers ≡ None
among slots group i numbers None e h = alone slots group i e numbers
among slots group i numbers (Some view) e h = beside slots group i view e numbers h

pub none_found : (slots : List Shown) (group numbers : List ℕ) → NoneDiffers (views_at slots numbers) → first_pair (differ_at slots group) numbers ≡ None
none_found slots group [] h = refl
none_found slots group (i ∷ numbers) h =
    let parts = split (view_in (slot_at slots i)) (views_at slots numbers) h in
    ap (λ (o : Option Assembly). option_or o (first_pair (differ_at slots group) numbers)) (among slots group i numbers (view_in (slot_at slots i)) refl parts.0)
    ∙ none_found slots group numbers parts.1
