-- The position that goes back: in sync, on a disk that is here and stands in at its element.
use Rattle.std.proofs.Common.{◌≡◌, ◌∙◌, ℕ, suc, ◌+◌, ◌==◌, true, not, ◌&&◌, List, [], ◌∷◌, Option, Some, None, refl, sym, ap, arith}
use Rattle.std.proofs.lemmas.Bool.{and_parts}
use Rattle.std.specs.Prelude.{is_some, slice_get}
use Rattle.std.specs.Map.{lookup}
use Rattle.ddf_config.specs.declared.array.Array.{Array}
use Rattle.ddf_config.specs.declared.element.Position.{Position}
use Rattle.ddf_config.specs.declared.seat.Seat.{Seat}
use Rattle.ddf_config.specs.Configuration.{Configuration}
use Rattle.ddf_config.specs.ElementValue.{ElementValue}
use Rattle.ddf_config.specs.Members.{same_guid}
use Rattle.ddf_config.specs.Seats.{floor_of}
use Rattle.ddf_repair.specs.declared.first.Target.{Target}
use Rattle.ddf_repair.specs.Choose.{back_from, back_in, can_go_back, chosen, part_back, target_at}
use Rattle.ddf_rebuild_command.proofs.Positions.{IsHeld}
use Rattle.ddf_rebuild_command.proofs.Targets.{numbered}

-- A position of an array can go back: it is in sync, and its disk is here.
pub record IsBackAt (config : Configuration) (guid : List ℕ) (seats : List Seat) (target : Target) : Type 0 where
  pub held : Position
  pub is_held : IsHeld config guid target.element target.position held
  pub is_synced : held.synced ≡ true
  pub here : is_some (floor_of seats held.reference) ≡ true

record IsBackIn (seats : List Seat) (from : ℕ) (parts : List (Option ElementValue)) (target : Target) : Type 0 where
  place : ℕ
  number : target.element ≡ from + place
  plan : ElementValue
  is_plan : slice_get parts place ≡ Some (Some plan)
  held : Position
  is_held : slice_get plan.positions target.position ≡ Some held
  goes : can_go_back seats plan.stand_in held ≡ true

later_back : (seats : List Seat) (from : ℕ) (part : Option ElementValue) (parts : List (Option ElementValue)) (target : Target) → IsBackIn seats (from + 1) parts target → IsBackIn seats from (part ∷ parts) target
later_back seats from part parts target is = record {
  place = suc is.place;
  number = omega (arith, is.number);
  plan = is.plan;
  is_plan = is.is_plan;
  held = is.held;
  is_held = is.is_held;
  goes = is.goes;
}

back_at : (seats : List Seat) (from : ℕ) (parts : List (Option ElementValue)) (target : Target) → back_from seats from parts ≡ Some target → IsBackIn seats from parts target
back_at seats from [] target h = absurd cc
back_at seats from (None ∷ parts) target h = later_back seats from None parts target (back_at seats (from + 1) parts target h)
back_at seats from (Some plan ∷ parts) target h = by (back_in seats plan) refl (back_at seats (from + 1) parts target)
  where
    by : (found : Option (ℕ × Position)) → back_in seats plan ≡ found → (back_from seats (from + 1) parts ≡ Some target → IsBackIn seats (from + 1) parts target) → IsBackIn seats from (Some plan ∷ parts) target
    by None e rest =
        let later : back_from seats (from + 1) parts ≡ Some target = rw (e, back_from, part_back) at h in
        later_back seats from (Some plan) parts target (rest later)
    by (Some one) e rest =
        let here : ◌≡◌ {A = Option Target} (Some (target_at from one.0)) (Some target) = rw (e, back_from, part_back) at h in
        let same : target_at from one.0 ≡ target = cc in
        let found = numbered (can_go_back seats plan.stand_in) 0 plan.positions one e in
        let place : found.place ≡ target.position = omega (arith, found.number, ap (λ (t : Target). t.position) same) in
        record {
          place = 0;
          number = omega (arith, ap (λ (t : Target). t.element) same);
          plan = plan;
          is_plan = refl;
          held = one.1;
          is_held = ap (slice_get plan.positions) (sym place) ∙ found.there;
          goes = found.passes;
        }

module _ (config : Configuration) (guid : List ℕ) (seats : List Seat) (target : Target) where
  chosen_by : (array : Array) → lookup (same_guid guid) config.arrays ≡ Some array → back_from seats 0 array.elements ≡ Some target → IsBackAt config guid seats target
  chosen_by array found h =
      let at = back_at seats 0 array.elements target h in
      let place : at.place ≡ target.element = omega (arith, at.number) in
      let here = and_parts (not (at.plan.stand_in == 0) && at.held.reference == at.plan.stand_in && at.held.synced) (is_some (floor_of seats at.held.reference)) at.goes in
      record {
        held = at.held;
        is_held = record {
          array = array;
          is_array = found;
          plan = at.plan;
          is_plan = ap (λ (part : Option (Option ElementValue)). elim part [ None ↦ None | Some one ↦ one ]) (ap (slice_get array.elements) (sym place) ∙ at.is_plan);
          is_held = at.is_held;
        };
        is_synced = (and_parts (not (at.plan.stand_in == 0) && at.held.reference == at.plan.stand_in) at.held.synced here.0).1;
        here = here.1;
      }

  pub is_chosen : chosen config guid seats ≡ Some target → IsBackAt config guid seats target
  unfolding chosen
  is_chosen h = by (lookup (same_guid guid) config.arrays) refl h
    where
      by : (found : Option Array) → lookup (same_guid guid) config.arrays ≡ found
          → ◌≡◌ {A = Option Target} (elim found [ None ↦ None | Some array ↦ back_from seats 0 array.elements ]) (Some target) → IsBackAt config guid seats target
      by None e h = absurd cc
      by (Some array) e h = chosen_by array e h
