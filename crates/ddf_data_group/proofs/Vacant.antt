-- The position at which a rebuild begins is out of sync, on a disk that is no current member's.
use Rattle.std.proofs.Common.{◌≡◌, ◌∙◌, ℕ, zero, suc, ◌+◌, ◌<◌, Bool, true, false, List, [], ◌∷◌, ◌++◌, Option, Some, None, Result, Ok, cond, find, refl, sym, ap, subst, arith, length, slice_get}
use Rattle.std.specs.List.{enumerate_from}
use Rattle.std.specs.Map.{lookup}
use Rattle.std.proofs.lemmas.Bool.{not-false, not-true}
use Rattle.ddf_bay.specs.Sectors.{Image}
use Rattle.ddf_config.specs.declared.array.Array.{Array}
use Rattle.ddf_config.specs.declared.element.Position.{Position}
use Rattle.ddf_config.specs.declared.seat.Seat.{Seat}
use Rattle.ddf_config.specs.Configuration.{Configuration}
use Rattle.ddf_config.specs.ElementValue.{ElementValue}
use Rattle.ddf_config.specs.Members.{is_current, same_guid}
use Rattle.ddf_config.specs.States.{is_out}
use Rattle.ddf_plan.specs.declared.change.Change.{Change}
use Rattle.ddf_plan.specs.CreateRefusal.{references}
use Rattle.ddf_repair.specs.declared.beginning.Begun.{Begun}
use Rattle.ddf_repair.specs.declared.beginning.Begun.TheVariants.{Fresh, Again}
use Rattle.ddf_repair.specs.declared.beginning.RebuildFault.{RebuildFault}
use Rattle.ddf_repair.specs.declared.first.Target.{Target}
use Rattle.ddf_repair.specs.Begin.{begun, begun_at, begun_in, onto_any}
use Rattle.ddf_repair.specs.First.{first_out, out_from, out_in, part_out}
use Rattle.ddf_repair.specs.Spares.{spares_for}
use Rattle.ddf_repair.proofs.Begins.{is_fresh}
use Rattle.ddf_data_group.specs.Grouped.{MayChange, Promises}

-- what a search among numbered items finds stands at its number, and passes
record Numbered {X : Type 0} (test : X → Bool) (a : ℕ) (xs : List X) (at : ℕ × X) : Type 0 where
  pub place : ℕ
  pub number : at.0 ≡ a + place
  pub there : slice_get xs place ≡ Some at.1
  pub passes : test at.1 ≡ true
  pub first : (k : ℕ) (x : X) → k < place → slice_get xs k ≡ Some x → test x ≡ false

fails_first : {X : Type 0} (test : X → Bool) (x : X) (xs : List X) (place : ℕ) → test x ≡ false → ((k : ℕ) (y : X) → k < place → slice_get xs k ≡ Some y → test y ≡ false)
    → (k : ℕ) (y : X) → k < suc place → slice_get (x ∷ xs) k ≡ Some y → test y ≡ false
fails_first test x xs place is later zero y less there = let same : x ≡ y = cc in ap test (sym same) ∙ is
fails_first test x xs place is later (suc k) y less there = later k y (omega (arith, less)) there

numbered : {X : Type 0} (test : X → Bool) (a : ℕ) (xs : List X) (at : ℕ × X) → find (λ (one : ℕ × X). test one.1) (enumerate_from a xs) ≡ Some at → Numbered test a xs at
numbered test a [] at h = absurd (cc)
numbered {X = X} test a (x ∷ xs) at h = by (test x) refl h (numbered test (a + 1) xs at)
  where
    by : (b : Bool) → test x ≡ b → cond b (Some (a, x)) (find (λ (one : ℕ × X). test one.1) (enumerate_from (a + 1) xs)) ≡ Some at
        → (find (λ (one : ℕ × X). test one.1) (enumerate_from (a + 1) xs) ≡ Some at → Numbered test (a + 1) xs at) → Numbered test a (x ∷ xs) at
    by true is e rest =
        let same : (a, x) ≡ at = cc in
        record {
          place = 0;
          number = let number : a ≡ at.0 = ap (λ (one : ℕ × X). one.0) same in omega (arith, number);
          there = ap (λ (one : ℕ × X). Some one.1) same;
          passes = ap (λ (one : ℕ × X). test one.1) (sym same) ∙ is;
          first = λ k y less there. absurd (omega (arith, less));
        }
    by false is e rest =
        let later = rest e in
        record {
          place = suc later.place;
          number = omega (arith, later.number);
          there = later.there;
          passes = later.passes;
          first = fails_first test x xs later.place is later.first;
        }

-- the numbers of an element and of a position, and the reference of its disk
abbrev pub Place : Type 0
Place = ℕ × ℕ × ℕ

-- those of the first position that is out of sync
abbrev pub first_place : (elements n : ℕ) → List (Option ElementValue) → Option Place
first_place elements n parts = elim (out_from elements n parts) [ None ↦ None | Some out ↦ Some (out.target.element, out.target.position, out.reference) ]

pub record IsFirst (n : ℕ) (parts : List (Option ElementValue)) (at : Place) : Type 0 where
  pub place : ℕ
  pub number : at.0 ≡ n + place
  pub plan : ElementValue
  pub is_plan : slice_get parts place ≡ Some (Some plan)
  pub held : Position
  pub is_held : slice_get plan.positions at.1 ≡ Some held
  pub is_out_of_sync : held.synced ≡ false
  pub none_before : (earlier : ℕ) (one : Position) → earlier < at.1 → slice_get plan.positions earlier ≡ Some one → one.synced ≡ true
  pub same_reference : at.2 ≡ held.reference

later_first : (n : ℕ) (part : Option ElementValue) (parts : List (Option ElementValue)) (at : Place) → IsFirst (n + 1) parts at → IsFirst n (part ∷ parts) at
later_first n part parts at is = record {
  place = suc is.place;
  number = omega (arith, is.number);
  plan = is.plan;
  is_plan = is.is_plan;
  held = is.held;
  is_held = is.is_held;
  is_out_of_sync = is.is_out_of_sync;
  none_before = is.none_before;
  same_reference = is.same_reference;
}

pub out_first : (elements n : ℕ) (parts : List (Option ElementValue)) (at : Place) → first_place elements n parts ≡ Some at → IsFirst n parts at
out_first elements n [] at h = absurd (cc)
out_first elements n (None ∷ parts) at h = later_first n None parts at (out_first elements (n + 1) parts at h)
out_first elements n (Some plan ∷ parts) at h = by (out_in plan) refl (out_first elements (n + 1) parts at)
  where
    by : (found : Option (ℕ × Position)) → out_in plan ≡ found → (first_place elements (n + 1) parts ≡ Some at → IsFirst (n + 1) parts at) → IsFirst n (Some plan ∷ parts) at
    by None e rest =
        let later : first_place elements (n + 1) parts ≡ Some at = rw (e, first_place, out_from, part_out) at h in
        later_first n (Some plan) parts at (rest later)
    by (Some one) e rest =
        let here : ◌≡◌ {A = Option Place} (Some (n, one.0, one.1.reference)) (Some at) = rw (e, first_place, out_from, part_out) at h in
        let same : ◌≡◌ {A = Place} (n, one.0, one.1.reference) at = cc in
        let found = numbered is_out 0 plan.positions one e in
        let place : found.place ≡ at.1 = omega (arith, found.number, ap (λ (p : Place). p.1) same) in
        record {
          place = 0;
          number = omega (arith, ap (λ (p : Place). p.0) same);
          plan = plan;
          is_plan = refl;
          held = one.1;
          is_held = ap (slice_get plan.positions) (sym place) ∙ found.there;
          is_out_of_sync = not-true one.1.synced found.passes;
          none_before = λ earlier before less is_before. not-false before.synced (found.first earlier before (omega (arith, less, place)) is_before);
          same_reference = ap (λ (p : Place). p.2) (sym same);
        }

module _ (config : Configuration) (guid : List ℕ) (seats : List Seat) (aside : List ℕ) (target : Target) (change : Change) where
  other_by : (b : Bool) (again : Target) (rest : Result Begun RebuildFault) → ◌≡◌ {A = Result Begun RebuildFault} (cond b (Ok (Again again)) rest) (Ok (Fresh target change)) → b ≡ false
  other_by true again rest h = absurd (cc)
  other_by false again rest h = refl

  not_current : (h : begun config guid seats aside ≡ Ok (Fresh target change)) → is_current config.members (is_fresh config guid seats aside target change h).out.reference ≡ false
  unfolding begun
  not_current h =
      let fresh = is_fresh config guid seats aside target change h in
      other_by (is_current config.members fresh.out.reference) fresh.out.target (onto_any config guid seats fresh.out (spares_for guid seats (aside ++ references fresh.array) config.members)) (rw (fresh.is_array, fresh.is_out, begun, begun_in, begun_at) at h)

  same_array : (o : Option Array) (one other : Array) → o ≡ Some one → o ≡ Some other → one ≡ other
  same_array None one other a b = absurd (cc)
  same_array (Some array) one other a b = cc

  same_item : {X : Type 0} (o : Option X) (one other : X) → o ≡ Some one → o ≡ Some other → one ≡ other
  same_item None one other a b = absurd (cc)
  same_item (Some x) one other a b = cc

  pub asks_for : (all : List Seat) (image : Image) (promises : Promises) → begun config guid seats aside ≡ Ok (Fresh target change) → MayChange config all image promises change
  asks_for all image promises h =
      let fresh = is_fresh config guid seats aside target change h in
      let place : Place = (fresh.out.target.element, fresh.out.target.position, fresh.out.reference) in
      let is_place : first_place (length fresh.array.elements) 0 fresh.array.elements ≡ Some place = rw (fresh.is_out, first_place, first_out) refl in
      let first = out_first (length fresh.array.elements) 0 fresh.array.elements place is_place in
      let other = not_current h in
      let number : first.place ≡ fresh.out.target.element = omega (arith, first.number) in
      subst (MayChange config all image promises) fresh.change_is
      (λ named allowed array promised found same plan old is_plan is_old.
      let one = same_array (lookup (same_guid guid) config.arrays) fresh.array array fresh.is_array (ap (λ (g : List ℕ). lookup (same_guid g) config.arrays) (sym same) ∙ found) in
      let plan_is : ◌≡◌ {A = Option ElementValue} (Some first.plan) (Some plan) =
      same_item (slice_get array.elements fresh.out.target.element) (Some first.plan) (Some plan)
      (ap (λ (a : Array). slice_get a.elements fresh.out.target.element) (sym one) ∙ ap (slice_get fresh.array.elements) (sym number) ∙ first.is_plan) is_plan in
      let plans : first.plan ≡ plan = cc in
      let held : first.held ≡ old =
      same_item (slice_get plan.positions fresh.out.target.position) first.held old (ap (λ (p : ElementValue). slice_get p.positions fresh.out.target.position) (sym plans) ∙ first.is_held) is_old in (
        ap (λ (p : Position). p.synced) (sym held) ∙ first.is_out_of_sync,
        ap (λ (p : Position). is_current config.members p.reference) (sym held) ∙ ap (is_current config.members) (sym first.same_reference) ∙ other,
      ))
