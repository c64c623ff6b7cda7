-- A rebuild takes the positions of an element in order: the one that it rebuilds is the first that is out of sync.
use Rattle.std.proofs.Common.{◌≡◌, ◌∙◌, ⊎_elim, ℕ, zero, suc, ◌+◌, ◌<◌, ◌≤◌, Bool, true, false, List, [], ◌∷◌, ◌++◌, Option, Some, None, Result, Ok, Err, refl, sym, ap, subst, arith, map, length, slice_get, nat_eq, if◌then◌else◌}
use Rattle.std.specs.Prelude.{option_map}
use Rattle.std.specs.List.{enumerate_from}
use Rattle.std.specs.Map.{lookup}
use Rattle.ddf_config.specs.declared.array.Array.{Array}
use Rattle.ddf_config.specs.declared.element.Position.{Position}
use Rattle.ddf_config.specs.declared.seat.Seat.{Seat}
use Rattle.ddf_config.specs.Configuration.{Configuration}
use Rattle.ddf_config.specs.ElementValue.{ElementValue}
use Rattle.ddf_config.specs.Extents.{extents}
use Rattle.ddf_config.specs.Members.{same_guid}
use Rattle.ddf_plan.specs.declared.change.Change.{Change}
use Rattle.ddf_plan.specs.declared.change.Change.TheVariants.{Begin, Progress}
use Rattle.ddf_plan.specs.Standing.{takes_revertible}
use Rattle.ddf_plan.specs.Arrays.{element_after, kept_and_added, position_after, rebuilding}
use Rattle.ddf_plan.specs.Changes.{changed_at}
use Rattle.ddf_plan.specs.Members.{members_after}
use Rattle.ddf_plan.specs.Rebuild.{new_position}
use Rattle.ddf_plan.specs.CreateRefusal.{references}
use Rattle.ddf_repair.specs.declared.beginning.Begun.{Begun}
use Rattle.ddf_repair.specs.declared.beginning.Begun.TheVariants.{Nothing, Fresh, Again}
use Rattle.ddf_repair.specs.declared.beginning.RebuildFault.{RebuildFault}
use Rattle.ddf_repair.specs.declared.beginning.RebuildFault.TheVariants.{Small}
use Rattle.ddf_repair.specs.declared.first.Target.{Target}
use Rattle.ddf_repair.specs.Begin.{begin_change, begun, begun_at, begun_in, onto_any}
use Rattle.ddf_repair.specs.First.{first_out}
use Rattle.ddf_repair.specs.Spares.{first_extent, most_of, spares_for}
use Rattle.ddf_config.specs.declared.extent.Extent.{Extent}
use Rattle.ddf_config.specs.Members.{is_current}
use Rattle.ddf_array.specs.declared.place.Place as array
use Rattle.ddf_array.specs.Volume.{Volume}
use Rattle.ddf_data_array.specs.Rows.{GoesOnBehind, IsFirstOut}
use Rattle.ddf_data_group.specs.Clearing.{HasRowsUpTo, IsFirstOf}
use Rattle.ddf_data_group.specs.Over.{IsOver}
use Rattle.ddf_data_group.proofs.Entries.{made_of}
use Rattle.ddf_data_group.proofs.Parts.{at_position, of_part}
use Rattle.ddf_data_group.proofs.Vacant.{Place, first_place, out_first}
use Rattle.ddf_data_group.proofs.Named.{all_made}
use Rattle.ddf_data_array.specs.Changing.{changed_item}
use Rattle.ddf_data_array.proofs.Items.{changed_cases}
use Rattle.std.proofs.lemmas.Bool.{ne_eqb}
use Rattle.ddf_lemmas.proofs.Options.{some_is}

-- ---- the first of an array

placed_first : (arr : Array) (at : Place) → first_place (length arr.elements) 0 arr.elements ≡ Some at → IsFirstOf arr at.0 at.1
placed_first arr at is plan plan_at earlier one less is_one =
    let first = out_first (length arr.elements) 0 arr.elements at is in
    let number : first.place ≡ at.0 = omega (arith, first.number) in
    let same : first.plan ≡ plan = some_is (some_is (sym first.is_plan ∙ ap (slice_get arr.elements) number ∙ plan_at)) in
    first.none_before earlier one less (ap (λ (p : ElementValue). slice_get p.positions earlier) same ∙ is_one)

-- the position that is rebuilt, if any is
target_of : Result Begun RebuildFault → Option Target
target_of (Ok Nothing) = None
target_of (Ok (Fresh target change)) = Some target
target_of (Ok (Again target)) = Some target
target_of (Err fault) = None

module _ (config : Configuration) (guid : List ℕ) (seats : List Seat) (aside : List ℕ) (target : Target) where
  out_is : (used : List ℕ) (out : _) → target_of (begun_at config guid seats used out) ≡ Some target → out.target ≡ target
  unfolding target_of
  out_is used out h = by (is_current config.members out.reference) (spares_for guid seats used config.members) h
    where
      by : (b : Bool) (spares : List ℕ) → target_of (if b then Ok (Again out.target) else onto_any config guid seats out spares) ≡ Some target → out.target ≡ target
      by true spares h = some_is h
      by false [] h = absurd (cc)
      by false (spare ∷ spares) h = by_extent (first_extent config.members (extents config.arrays) seats out.strip out.blocks (spare ∷ spares)) h
        where
          by_extent : (found : Option Extent)
              → target_of (elim found [ None ↦ Err (Small out.blocks (most_of config.members (extents config.arrays) seats out.strip (spare ∷ spares))) | Some one ↦ Ok (Fresh out.target (begin_change guid out one)) ]) ≡ Some target
              → out.target ≡ target
          by_extent None h = absurd (cc)
          by_extent (Some one) h = some_is h

  first_taken : (arr : Array) → lookup (same_guid guid) config.arrays ≡ Some arr → target_of (begun config guid seats aside) ≡ Some target → IsFirstOf arr target.element target.position
  unfolding begun target_of
  first_taken arr found h =
      in_array (first_out arr) refl
      (ap (λ (o : Option Array). target_of (elim o [ None ↦ Ok Nothing | Some array ↦ begun_in config guid seats (aside ++ references array) (first_out array) ])) (sym found) ∙ h)
    where
      in_array : (o : _) → first_out arr ≡ o → target_of (begun_in config guid seats (aside ++ references arr) o) ≡ Some target → IsFirstOf arr target.element target.position
      in_array None is h = absurd (cc)
      in_array (Some out) is h =
          let place : Place = (out.target.element, out.target.position, out.reference) in
          let is_place : first_place (length arr.elements) 0 arr.elements ≡ Some place = rw (is, first_place, first_out) refl in
          let same = out_is (aside ++ references arr) out h in
          subst (λ (t : Target). IsFirstOf arr t.element t.position) same (placed_first arr place is_place)

pub first_again : (config : Configuration) (guid : List ℕ) (seats : List Seat) (aside : List ℕ) (target : Target) (arr : Array) → lookup (same_guid guid) config.arrays ≡ Some arr → begun config guid seats aside ≡ Ok (Again target)
    → IsFirstOf arr target.element target.position
unfolding target_of
first_again config guid seats aside target arr found h = first_taken config guid seats aside target arr found (ap target_of h)

pub first_fresh : (config : Configuration) (guid : List ℕ) (seats : List Seat) (aside : List ℕ) (target : Target) (change : Change) (arr : Array) → lookup (same_guid guid) config.arrays ≡ Some arr
    → begun config guid seats aside ≡ Ok (Fresh target change) → IsFirstOf arr target.element target.position
unfolding target_of
first_fresh config guid seats aside target change arr found h = first_taken config guid seats aside target arr found (ap target_of h)

-- ---- it stays the first as its rebuild begins and goes on

numbered_from : {X Y : Type 0} (f : ℕ × X → Y) (a : ℕ) (xs : List X) (k : ℕ) (y : Y) → slice_get (map f (enumerate_from a xs)) k ≡ Some y → (x : X) × (slice_get xs k ≡ Some x) × (f (a + k, x) ≡ y)
numbered_from f a [] k y at = absurd (cc)
numbered_from f a (x ∷ xs) zero y at =
    let number : a + 0 ≡ a = omega arith in
    let value : f (a, x) ≡ y = cc in
    (x, refl, ap (λ (n : ℕ). f (n, x)) number ∙ value)
numbered_from f a (x ∷ xs) (suc k) y at =
    let rest = numbered_from f (a + 1) xs k y at in
    let number : a + suc k ≡ a + 1 + k = omega arith in
    (rest.0, rest.1, ap (λ (n : ℕ). f (n, rest.0)) number ∙ rest.2)

module _ (revertible : Bool) (change : Change) (element position : ℕ) (stays : (number : ℕ) (old : Position) → number < position → (position_after change number old).synced ≡ old.synced) where
  first_stays : (before after : Array) → after.elements ≡ (rebuilding revertible change element before).elements → IsFirstOf before element position → IsFirstOf after element position
  first_stays before after same first plan plan_at earlier one less at =
      let made : slice_get (changed_item (option_map (element_after revertible change)) element before.elements) element ≡ Some (Some plan) =
      ap (λ (l : List (Option ElementValue)). slice_get l element) (sym (all_made revertible change (element_after revertible change) (λ plan. refl) element before.elements)) ∙ ap (λ (l : List (Option ElementValue)). slice_get l element) (sym same) ∙ plan_at in
      ⊎_elim
      (λ changed. by_part changed.item changed.is_item changed.is_changed)
      (λ other. absurd (other.0 refl))
      (changed_cases (option_map (element_after revertible change)) element before.elements element (Some plan) made)
    where
      by_part : (part : Option ElementValue) → slice_get before.elements element ≡ Some part → Some plan ≡ option_map (element_after revertible change) part → one.synced ≡ true
      by_part None part_at e = absurd (cc)
      by_part (Some was) part_at e =
          let plan_is : plan ≡ element_after revertible change was = some_is e in
          let there = numbered_from (λ (pair : ℕ × Position). position_after change pair.0 pair.1) 0 was.positions earlier one (ap (λ (p : ElementValue). slice_get p.positions earlier) (sym plan_is) ∙ at) in
          ap (λ (x : Position). x.synced) (sym there.2) ∙ stays (0 + earlier) there.0 (omega (arith, less)) ∙ first was part_at earlier there.0 less there.1

begun_stays : (position reference start number : ℕ) (old : Position) → number < position → (if nat_eq position number then new_position reference start else old).synced ≡ old.synced
begun_stays position reference start number old less =
    ap (λ (b : Bool). (if b then new_position reference start else old).synced) (ne_eqb position number (λ same. omega (arith, same, less)))

pub first_begun : (config : Configuration) (guid : List ℕ) (element position reference start sequence : ℕ) (before after : Array) → lookup (same_guid guid) config.arrays ≡ Some before
    → lookup (same_guid guid) (changed_at config (Begin guid element position reference start) sequence).arrays ≡ Some after → IsFirstOf before element position → IsFirstOf after element position
first_begun config guid element position reference start sequence before after found found_after first =
    let made = made_of (members_after config (Begin guid element position reference start)) (extents (kept_and_added config (Begin guid element position reference start)))
    (rebuilding (takes_revertible config (Begin guid element position reference start)) (Begin guid element position reference start) element) guid config.arrays after found_after in
    first_stays (takes_revertible config (Begin guid element position reference start)) (Begin guid element position reference start) element position (λ number old less. begun_stays position reference start number old less) made.before after made.same_elements
    (subst (λ (x : Array). IsFirstOf x element position) (some_is (sym found ∙ made.was)) first)

pub first_noted : (config : Configuration) (guid : List ℕ) (element position row sequence : ℕ) (before after : Array) → lookup (same_guid guid) config.arrays ≡ Some before
    → lookup (same_guid guid) (changed_at config (Progress guid element position row) sequence).arrays ≡ Some after → IsFirstOf before element position → IsFirstOf after element position
first_noted config guid element position row sequence before after found found_after first =
    let made = made_of (members_after config (Progress guid element position row)) (extents (kept_and_added config (Progress guid element position row)))
    (rebuilding false (Progress guid element position row) element) guid config.arrays after found_after in
    first_stays false (Progress guid element position row) element position (λ number old less. refl) made.before after made.same_elements
    (subst (λ (x : Array). IsFirstOf x element position) (some_is (sym found ∙ made.was)) first)

-- ---- over seats

pub first_over : (seats : List Seat) (arr : Array) (v : Volume) (element position : ℕ) → IsOver seats arr v → IsFirstOf arr element position → IsFirstOut v element position
first_over seats arr v element position over first part part_at parity earlier place less at =
    let from = of_part seats arr v over element part part_at in
    let there = at_position seats from.element.blocks from.element.positions earlier place (ap (λ (l : List array.Place). slice_get l earlier) (sym from.places_are) ∙ at) in
    ap (λ (x : array.Place). x.synced) there.2 ∙ first from.element from.is_element earlier there.0 less there.1

pub behind_over : (seats : List Seat) (arr : Array) (v : Volume) (element position row : ℕ) → IsOver seats arr v → HasRowsUpTo arr element position row → GoesOnBehind v element position row
behind_over seats arr v element position row over up part place slot target =
    let from = of_part seats arr v over element part target.is_part in
    let there = at_position seats from.element.blocks from.element.positions position place (ap (λ (l : List array.Place). slice_get l position) (sym from.places_are) ∙ target.is_place) in
    subst (λ (n : ℕ). n ≤ row) (ap (λ (x : array.Place). x.row) (sym there.2)) (up from.element there.0 from.is_element there.1)
