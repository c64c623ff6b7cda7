-- The position that a rebuild is of: the first of its array that is out of sync, where it is or on a spare.
use Rattle.std.proofs.Common.{◌≡◌, ◌∙◌, ℕ, suc, ◌+◌, Bool, true, false, not, ◌&&◌, cond, List, [], ◌∷◌, ◌++◌, length, Option, Some, None, Result, Ok, Err, find, refl, sym, ap, subst, arith}
use Rattle.std.proofs.lemmas.Bool.{and_parts, not-true}
use Rattle.std.specs.Prelude.{is_some, slice_get}
use Rattle.std.specs.List.{enumerate_from}
use Rattle.std.specs.Map.{lookup}
use Rattle.ddf_config.specs.declared.array.Array.{Array}
use Rattle.ddf_config.specs.declared.element.Position.{Position}
use Rattle.ddf_config.specs.declared.extent.Extent.{Extent}
use Rattle.ddf_config.specs.declared.seat.Seat.{Seat}
use Rattle.ddf_config.specs.Configuration.{Configuration}
use Rattle.ddf_config.specs.ElementValue.{ElementValue}
use Rattle.ddf_config.specs.Extents.{extents}
use Rattle.ddf_config.specs.Members.{is_current, same_guid}
use Rattle.ddf_config.specs.Seats.{floor_of}
use Rattle.ddf_config.specs.States.{is_out}
use Rattle.ddf_plan.specs.declared.change.Change.{Change}
use Rattle.ddf_plan.specs.declared.change.Change.TheVariants.{Begin}
use Rattle.ddf_plan.specs.CreateRefusal.{references}
use Rattle.ddf_plan.specs.Lose.{is_among}
use Rattle.ddf_repair.specs.declared.first.Target.{Target}
use Rattle.ddf_repair.specs.declared.beginning.Begun.{Begun}
use Rattle.ddf_repair.specs.declared.beginning.Begun.TheVariants.{Nothing, Fresh, Again}
use Rattle.ddf_repair.specs.declared.beginning.RebuildFault.{RebuildFault}
use Rattle.ddf_repair.specs.declared.beginning.RebuildFault.TheVariants.{Small}
use Rattle.ddf_repair.specs.First.{first_out, out_from, out_in, part_out}
use Rattle.ddf_repair.specs.Spares.{first_extent, most_of, spares_for}
use Rattle.ddf_repair.specs.Begin.{begin_change, begun, begun_at, begun_in, onto_any}
use Rattle.ddf_repair.proofs.Begins.{IsFresh, found_free, is_fresh, is_here, seated}
use Rattle.ddf_rebuild_command.proofs.Positions.{IsHeld}

-- ---- the first position that is out of sync

-- what a search among numbered items finds stands at its number, and passes
pub record Numbered {X : Type 0} (test : X → Bool) (from : ℕ) (xs : List X) (at : ℕ × X) : Type 0 where
  pub place : ℕ
  pub number : at.0 ≡ from + place
  pub there : slice_get xs place ≡ Some at.1
  pub passes : test at.1 ≡ true

pub numbered : {X : Type 0} (test : X → Bool) (from : ℕ) (xs : List X) (at : ℕ × X) → find (λ (one : ℕ × X). test one.1) (enumerate_from from xs) ≡ Some at → Numbered test from xs at
numbered test from [] at h = absurd cc
numbered {X = X} test from (x ∷ xs) at h = by (test x) refl h (numbered test (from + 1) xs at)
  where
    by : (b : Bool) → test x ≡ b → cond b (Some (from, x)) (find (λ (one : ℕ × X). test one.1) (enumerate_from (from + 1) xs)) ≡ Some at
        → (find (λ (one : ℕ × X). test one.1) (enumerate_from (from + 1) xs) ≡ Some at → Numbered test (from + 1) xs at) → Numbered test from (x ∷ xs) at
    by true is e rest =
        let same : (from, x) ≡ at = cc in
        record {
          place = 0;
          number = let number : from ≡ at.0 = ap (λ (one : ℕ × X). one.0) same in omega (arith, number);
          there = ap (λ (one : ℕ × X). Some one.1) same;
          passes = ap (λ (one : ℕ × X). test one.1) (sym same) ∙ is;
        }
    by false is e rest = let later = rest e in record { place = suc later.place; number = omega (arith, later.number); there = later.there; passes = later.passes }

-- the numbers of an element and of a position, and the reference of its disk
abbrev Spot : Type 0
Spot = ℕ × ℕ × ℕ

-- those of the first position that is out of sync
abbrev first_spot : (elements from : ℕ) → List (Option ElementValue) → Option Spot
first_spot elements from parts = elim (out_from elements from parts) [ None ↦ None | Some out ↦ Some (out.target.element, out.target.position, out.reference) ]

record IsFirstIn (from : ℕ) (parts : List (Option ElementValue)) (at : Spot) : Type 0 where
  place : ℕ
  number : at.0 ≡ from + place
  plan : ElementValue
  is_plan : slice_get parts place ≡ Some (Some plan)
  held : Position
  is_held : slice_get plan.positions at.1 ≡ Some held
  is_out : held.synced ≡ false
  same_reference : at.2 ≡ held.reference

later_first : (from : ℕ) (part : Option ElementValue) (parts : List (Option ElementValue)) (at : Spot) → IsFirstIn (from + 1) parts at → IsFirstIn from (part ∷ parts) at
later_first from part parts at is = record {
  place = suc is.place;
  number = omega (arith, is.number);
  plan = is.plan;
  is_plan = is.is_plan;
  held = is.held;
  is_held = is.is_held;
  is_out = is.is_out;
  same_reference = is.same_reference;
}

first_in : (elements from : ℕ) (parts : List (Option ElementValue)) (at : Spot) → first_spot elements from parts ≡ Some at → IsFirstIn from parts at
first_in elements from [] at h = absurd cc
first_in elements from (None ∷ parts) at h = later_first from None parts at (first_in elements (from + 1) parts at h)
first_in elements from (Some plan ∷ parts) at h = by (out_in plan) refl (first_in elements (from + 1) parts at)
  where
    by : (found : Option (ℕ × Position)) → out_in plan ≡ found → (first_spot elements (from + 1) parts ≡ Some at → IsFirstIn (from + 1) parts at) → IsFirstIn from (Some plan ∷ parts) at
    by None e rest =
        let later : first_spot elements (from + 1) parts ≡ Some at = rw (e, first_spot, out_from, part_out) at h in
        later_first from (Some plan) parts at (rest later)
    by (Some one) e rest =
        let here : ◌≡◌ {A = Option Spot} (Some (from, one.0, one.1.reference)) (Some at) = rw (e, first_spot, out_from, part_out) at h in
        let same : ◌≡◌ {A = Spot} (from, one.0, one.1.reference) at = cc in
        let found = numbered is_out 0 plan.positions one e in
        let place : found.place ≡ at.1 = omega (arith, found.number, ap (λ (p : Spot). p.1) same) in
        record {
          place = 0;
          number = omega (arith, ap (λ (p : Spot). p.0) same);
          plan = plan;
          is_plan = refl;
          held = one.1;
          is_held = ap (slice_get plan.positions) (sym place) ∙ found.there;
          is_out = not-true one.1.synced found.passes;
          same_reference = ap (λ (p : Spot). p.2) (sym same);
        }

-- The first position of an array that is out of sync is this one, on this disk.
pub record IsFirst (config : Configuration) (guid : List ℕ) (target : Target) : Type 0 where
  pub held : Position
  pub is_held : IsHeld config guid target.element target.position held
  pub is_out : held.synced ≡ false

module _ (config : Configuration) (guid : List ℕ) (array : Array) (found : lookup (same_guid guid) config.arrays ≡ Some array) where
  first_of : (out : _) → first_out array ≡ Some out → (first : IsFirst config guid out.target) × (out.reference ≡ first.held.reference)
  first_of out is =
      let at : Spot = (out.target.element, out.target.position, out.reference) in
      let here = first_in (length array.elements) 0 array.elements at (rw (is, first_spot, first_out) refl) in
      let place : here.place ≡ out.target.element = omega (arith, here.number) in (
        record {
          held = here.held;
          is_held = record {
            array = array;
            is_array = found;
            plan = here.plan;
            is_plan = ap (λ (part : Option (Option ElementValue)). elim part [ None ↦ None | Some one ↦ one ]) (ap (slice_get array.elements) (sym place) ∙ here.is_plan);
            is_held = here.is_held;
          };
          is_out = here.is_out;
        },
        here.same_reference,
      )

-- ---- how it begins

-- The position is rebuilt where it is: its disk is a current member.
pub record IsAgain (config : Configuration) (guid : List ℕ) (target : Target) : Type 0 where
  pub first : IsFirst config guid target
  pub here : is_current config.members first.held.reference ≡ true

-- The position gets a spare: its disk is no current member, and the spare is one, with a seat.
pub record IsFreshAt (config : Configuration) (guid : List ℕ) (seats : List Seat) (target : Target) (change : Change) : Type 0 where
  pub first : IsFirst config guid target
  pub lost : is_current config.members first.held.reference ≡ false
  pub reference : ℕ
  pub start : ℕ
  pub change_is : change ≡ Begin guid target.element target.position reference start
  pub here : is_current config.members reference ≡ true
  pub has_seat : is_some (floor_of seats reference) ≡ true

module _ (config : Configuration) (guid : List ℕ) (seats : List Seat) (aside : List ℕ) where
  never_again : (out : _) (spares : List ℕ) (target : Target) → onto_any config guid seats out spares ≡ Ok (Again target) → ⊥
  never_again out [] target h = cc
  never_again out (spare ∷ spares) target h = by (first_extent config.members (extents config.arrays) seats out.strip out.blocks (spare ∷ spares)) h
    where
      by : (found : Option Extent)
          → ◌≡◌ {A = Result Begun RebuildFault} (elim found [ None ↦ Err (Small out.blocks (most_of config.members (extents config.arrays) seats out.strip (spare ∷ spares))) | Some it ↦ Ok (Fresh out.target (begin_change guid out it)) ]) (Ok (Again target))
          → ⊥
      by None h = cc
      by (Some it) h = cc

  again_by : (target : Target) (array : Array) → lookup (same_guid guid) config.arrays ≡ Some array → (out : _) → first_out array ≡ Some out → (b : Bool) → is_current config.members out.reference ≡ b
      → ◌≡◌ {A = Result Begun RebuildFault} (cond b (Ok (Again out.target)) (onto_any config guid seats out (spares_for guid seats (aside ++ references array) config.members))) (Ok (Again target))
      → IsAgain config guid target
  again_by target array found out is true here h =
      let own = first_of config guid array found out is in
      let same : out.target ≡ target = cc in
      subst (IsAgain config guid) same (record { first = own.0; here = ap (is_current config.members) (sym own.1) ∙ here })
  again_by target array found out is false here h = absurd (never_again out (spares_for guid seats (aside ++ references array) config.members) target h)

  again_at : (target : Target) (array : Array) → lookup (same_guid guid) config.arrays ≡ Some array → (out : Option _) → first_out array ≡ out → begun_in config guid seats (aside ++ references array) out ≡ Ok (Again target)
      → IsAgain config guid target
  again_at target array found None is h = absurd cc
  again_at target array found (Some out) is h = again_by target array found out is (is_current config.members out.reference) refl h

  -- What goes on is rebuilt where it is,
  pub is_again : (target : Target) → begun config guid seats aside ≡ Ok (Again target) → IsAgain config guid target
  unfolding begun
  is_again target h = by (lookup (same_guid guid) config.arrays) refl h
    where
      by : (found : Option Array) → lookup (same_guid guid) config.arrays ≡ found
          → ◌≡◌ {A = Result Begun RebuildFault} (elim found [ None ↦ Ok Nothing | Some array ↦ begun_in config guid seats (aside ++ references array) (first_out array) ]) (Ok (Again target))
          → IsAgain config guid target
      by None e h = absurd cc
      by (Some array) e h = again_at target array e (first_out array) refl h

  module _ (target : Target) (change : Change) (h : begun config guid seats aside ≡ Ok (Fresh target change)) where
    fresh : IsFresh config guid seats aside change
    fresh = is_fresh config guid seats aside target change h

    other_by : (b : Bool) (again : Target) (rest : Result Begun RebuildFault) → ◌≡◌ {A = Result Begun RebuildFault} (cond b (Ok (Again again)) rest) (Ok (Fresh target change))
        → (b ≡ false) × (rest ≡ Ok (Fresh target change))
    other_by true again rest e = absurd cc
    other_by false again rest e = (refl, e)

    other : (is_current config.members fresh.out.reference ≡ false) × (onto_any config guid seats fresh.out (spares_for guid seats (aside ++ references fresh.array) config.members) ≡ Ok (Fresh target change))
    unfolding begun
    other =
        other_by (is_current config.members fresh.out.reference) fresh.out.target (onto_any config guid seats fresh.out (spares_for guid seats (aside ++ references fresh.array) config.members))
        (rw (fresh.is_array, fresh.is_out, begun, begun_in, begun_at) at h)

    target_by : (spares : List ℕ) → onto_any config guid seats fresh.out spares ≡ Ok (Fresh target change) → fresh.out.target ≡ target
    target_by [] e = absurd cc
    target_by (spare ∷ spares) e = by (first_extent config.members (extents config.arrays) seats fresh.out.strip fresh.out.blocks (spare ∷ spares)) e
      where
        by : (found : Option Extent)
            → ◌≡◌ {A = Result Begun RebuildFault} (elim found [ None ↦ Err (Small fresh.out.blocks (most_of config.members (extents config.arrays) seats fresh.out.strip (spare ∷ spares))) | Some it ↦ Ok (Fresh fresh.out.target (begin_change guid fresh.out it)) ]) (Ok (Fresh target change))
            → fresh.out.target ≡ target
        by None e = absurd cc
        by (Some it) e = cc

    target_is : fresh.out.target ≡ target
    target_is = target_by (spares_for guid seats (aside ++ references fresh.array) config.members) other.1

    -- and what is fresh on a spare.
    pub is_fresh_at : IsFreshAt config guid seats target change
    is_fresh_at =
        let own = first_of config guid fresh.array fresh.is_array fresh.out fresh.is_out in
        let spare = seated config guid seats aside change fresh in
        let stands = and_parts (is_current config.members spare.0 && is_some (floor_of seats spare.0)) (not (is_among (aside ++ references fresh.array) spare.0)) spare.1 in
        subst (λ (one : Target). IsFreshAt config guid seats one change) target_is (record {
          first = own.0;
          lost = ap (is_current config.members) (sym own.1) ∙ other.0;
          reference = fresh.found.reference;
          start = fresh.found.start;
          change_is = sym fresh.change_is;
          here = is_here config guid seats aside change fresh;
          has_seat =
              ap (λ (n : ℕ). is_some (floor_of seats n)) (found_free config guid seats aside change fresh).on
              ∙ (and_parts (is_current config.members spare.0) (is_some (floor_of seats spare.0)) stands.0).1;
        })
