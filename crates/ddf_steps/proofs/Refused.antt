-- Whether a change is a step or refused, by what refuses it first.
use Rattle.std.proofs.Common.{◌≡◌, ℕ, Bool, true, false, not, List, [], ◌∷◌, Option, Some, None, Result, Ok, Err, option_map, refl, sym, ap, ◌∙◌, if◌then◌else◌}
use Rattle.std.specs.Prelude.{IsErrAnd}
use Rattle.std.proofs.lemmas.Result.{err_from_is_err_and}
use Rattle.ddf_config.specs.declared.seat.Seat.{Seat}
use Rattle.ddf_config.specs.declared.refusal.Refusal.{Refusal}
use Rattle.ddf_config.specs.declared.refusal.Refusal.TheVariants.{Full}
use Rattle.ddf_config.specs.declared.refusal.FullTable.{FullTable}
use Rattle.ddf_config.specs.Configuration.{Configuration}
use Rattle.ddf_config.specs.Refusals.{first_refusal}
use Rattle.ddf_config.proofs.Firsts.{first_of_one}
use Rattle.ddf_plan.specs.declared.change.Change.{Change}
use Rattle.ddf_plan.specs.Causes.{causes}
use Rattle.ddf_plan.specs.Same.{is_step, same_tables}
use Rattle.ddf_seats.specs.declared.fault.GroupFault.{GroupFault}
use Rattle.ddf_seats.specs.declared.fault.GroupFault.TheVariants.{Refused, SequenceSpent, Memory}
use Rattle.ddf_seats.specs.declared.seated.Seated.{Seated}
use Rattle.ddf_seats.specs.Seated.{seats_in}
use Rattle.ddf_steps.specs.Steps.{config_after}
use Rattle.ddf_steps.specs.Refusing.{most_members, room_if_step, room_refusal, step_refusal}
use Rattle.ddf_steps.specs.Ready.{ReadyStep}
use Rattle.ddf_steps.specs.Tried.{HasRoomOrNot, IsTried}

-- Where nothing is refused for want of room, no table is full.
pub none_full_of : (full : Option FullTable) (extents : Option Refusal) → first_refusal (option_map Full full ∷ extents ∷ []) ≡ None → full ≡ None
none_full_of None extents h = refl
none_full_of (Some table) extents h = absurd cc

-- A fault that is passed on is the same.
pub fault_passed : {T : Type 0} (fault : GroupFault) (result : Result T GroupFault) → IsErrAnd result (λ given. given ≡ fault) → result ≡ Err fault
fault_passed fault result passed = let given = err_from_is_err_and result passed in given.1 ∙ ap Err given.2

-- What a bound and seats give that are those of the disks.
pub causes_are : (config : Configuration) (disks : List Seated) (change : Change) (most : ℕ) (seats : List Seat) (refusal : Option Refusal) → most ≡ most_members disks → seats ≡ seats_in disks
    → refusal ≡ causes (Some most) config change seats → causes (Some (most_members disks)) config change (seats_in disks) ≡ refusal
causes_are config disks change most seats refusal bound on is =
    sym
    (is ∙ ap (λ (n : ℕ). causes (Some n) config change seats) bound ∙ ap (causes (Some (most_members disks)) config change) on)

-- The sequence number decides nothing of whether a change is a step.
step_is : (config : Configuration) (change : Change) → is_step config change ≡ not (same_tables config (config_after config change))
unfolding same_tables
step_is config change = refl

-- A change is a step where the tables after it aren't the same.
pub step_by_tables : (config next : Configuration) (change : Change) (same : Bool) → next ≡ config_after config change → same ≡ same_tables config next → is_step config change ≡ not same
step_by_tables config next change same after is = step_is config change ∙ ap not (ap (same_tables config) (sym after) ∙ sym is)

module _ (timestamp : ℕ) (config : Configuration) (disks : List Seated) (change : Change) where
  -- The causes of a change come first.
  pub refused_first : (refusal : Refusal) → causes (Some (most_members disks)) config change (seats_in disks) ≡ Some refusal → step_refusal timestamp None config disks change ≡ Some refusal
  unfolding step_refusal
  refused_first refusal h = ap (λ first. first_refusal (first ∷ None ∷ room_if_step timestamp config disks change ∷ [])) h

  module _ (free : causes (Some (most_members disks)) config change (seats_in disks) ≡ None) where
    refused_later : step_refusal timestamp None config disks change ≡ room_if_step timestamp config disks change
    unfolding step_refusal
    refused_later =
        ap (λ first. first_refusal (first ∷ None ∷ room_if_step timestamp config disks change ∷ [])) free
        ∙ first_of_one (room_if_step timestamp config disks change)

    -- A change that is no step needs no room.
    pub no_step_free : is_step config change ≡ false → step_refusal timestamp None config disks change ≡ None
    no_step_free h = refused_later ∙ ap (λ b. if b then room_refusal timestamp config disks change else None) h

    pub step_needs_room : is_step config change ≡ true → step_refusal timestamp None config disks change ≡ room_refusal timestamp config disks change
    step_needs_room h = refused_later ∙ ap (λ b. if b then room_refusal timestamp config disks change else None) h

    -- What answers whether there is room answers whether a change that is a step is refused.
    pub tried_step : is_step config change ≡ true → (one : ReadyStep) → HasRoomOrNot timestamp config disks change (Ok one) → IsTried timestamp config disks change (Ok (Some one))
    tried_step h one room = (step_needs_room h ∙ room.0, h, room.1)

    pub tried_fault : is_step config change ≡ true → (fault : GroupFault) → HasRoomOrNot timestamp config disks change (Err fault) → IsTried timestamp config disks change (Err fault)
    tried_fault h Memory room = tt
    tried_fault h (Refused refusal) room = step_needs_room h ∙ room
    tried_fault h SequenceSpent room = room
