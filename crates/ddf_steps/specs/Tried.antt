-- What trying changes answers.
use Rattle.std.specs.Prelude.{◌≡◌, ℕ, true, false, List, [], ◌∷◌, map, Option, Some, None, Result, Ok, Err}
use Rattle.ddf_config.specs.Configuration.{Configuration}
use Rattle.ddf_plan.specs.declared.change.Change.{Change}
use Rattle.ddf_plan.specs.Same.{is_step}
use Rattle.ddf_seats.specs.declared.fault.GroupFault.{GroupFault}
use Rattle.ddf_seats.specs.declared.fault.GroupFault.TheVariants.{Refused, SequenceSpent, Memory}
use Rattle.ddf_seats.specs.declared.seated.Seated.{Seated}
use Rattle.ddf_seats.specs.Seated.{levelled}
use Rattle.ddf_steps.specs.Steps.{step_of}
use Rattle.ddf_steps.specs.Refusing.{room_refusal, step_refusal}
use Rattle.ddf_steps.specs.Ready.{ReadyStep, steps_from}

-- ---- one change

-- There is room for it, and it is this step, or there is none.
abbrev pub HasRoomOrNot : (timestamp : ℕ) → Configuration → List Seated → Change → Result ReadyStep GroupFault → Type 0
HasRoomOrNot timestamp config disks change (Ok one) = (room_refusal timestamp config disks change ≡ None) × (one.step ≡ step_of timestamp config disks change)
HasRoomOrNot timestamp config disks change (Err Memory) = Unit {0}
HasRoomOrNot timestamp config disks change (Err (Refused refusal)) = room_refusal timestamp config disks change ≡ Some refusal
HasRoomOrNot timestamp config disks change (Err SequenceSpent) = ⊥

-- Nothing refuses it: it is this step, or none where it alters no more than the sequence number.
abbrev pub IsTried : (timestamp : ℕ) → Configuration → List Seated → Change → Result (Option ReadyStep) GroupFault → Type 0
IsTried timestamp config disks change (Ok None) = (step_refusal timestamp None config disks change ≡ None) × (is_step config change ≡ false)
IsTried timestamp config disks change (Ok (Some one)) =
    (step_refusal timestamp None config disks change ≡ None) × (is_step config change ≡ true) × (one.step ≡ step_of timestamp config disks change)
IsTried timestamp config disks change (Err Memory) = Unit {0}
IsTried timestamp config disks change (Err (Refused refusal)) = step_refusal timestamp None config disks change ≡ Some refusal
IsTried timestamp config disks change (Err SequenceSpent) = ⊥

-- ---- one change after another

-- the configuration and the disks behind some steps
abbrev pub config_reached : Configuration → List ReadyStep → Configuration
config_reached config [] = config
config_reached config (one ∷ others) = config_reached one.step.config others

abbrev pub disks_reached : List Seated → List ReadyStep → List Seated
disks_reached disks [] = disks
disks_reached disks (one ∷ others) = disks_reached (map levelled one.step.disks) others

-- Nothing refuses them, and these are their steps; or this is the first refusal.
abbrev pub AreTried : (timestamp : ℕ) → Configuration → List Seated → List Change → Result (List ReadyStep) GroupFault → Type 0
AreTried timestamp config disks changes (Ok steps) = steps_from timestamp None changes config disks ≡ Ok (map (λ one. one.step) steps)
AreTried timestamp config disks changes (Err Memory) = Unit {0}
AreTried timestamp config disks changes (Err (Refused refusal)) = steps_from timestamp None changes config disks ≡ Err refusal
AreTried timestamp config disks changes (Err SequenceSpent) = ⊥
