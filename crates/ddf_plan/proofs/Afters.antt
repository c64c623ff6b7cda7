-- The configuration after a change, by its refusal.
use Rattle.std.proofs.Common.{◌≡◌, ℕ, ◌+◌, ◌<◌, ◌≤◌, lit<, List, [], ◌∷◌, ◌++◌, Option, Some, None, Ok, Err, ap, refl, is_some, arith}
use Rattle.std.specs.Map.{lookup}
use Rattle.ddf_config.specs.declared.array.Array.{Array}
use Rattle.ddf_config.specs.Entries.{changed_entries}
use Rattle.ddf_config.proofs.Entries.{absent_changed}
use Rattle.ddf_config.proofs.Firsts.{all_pass}
use Rattle.ddf_config.specs.declared.seat.Seat.{Seat}
use Rattle.ddf_config.specs.declared.refusal.Refusal.{Refusal}
use Rattle.ddf_config.specs.declared.refusal.Refusal.TheVariants.{NameTaken, Shape, Clash, InUse}
use Rattle.ddf_plan.specs.declared.change.Change.{Change}
use Rattle.ddf_plan.specs.declared.change.Change.TheVariants.{Lose, Create}
use Rattle.ddf_config.specs.Configuration.{Configuration}
use Rattle.ddf_config.specs.Members.{same_guid}
use Rattle.ddf_config.specs.Levels.{unserved_level}
use Rattle.ddf_config.specs.Refusals.{first_refusal, refuse_if}
use Rattle.ddf_plan.specs.Refusals.{greatest_sequence, spent, not_current, refuse_first}
use Rattle.ddf_plan.specs.CreateRefusal.{references, is_taken, is_no_shape, is_spare_disk}
use Rattle.ddf_plan.specs.Arrays.{HasNewGuid}
use Rattle.ddf_plan.specs.Floors.{extents_refusal}
use Rattle.ddf_plan.specs.Causes.{causes_of, refusal_of, steps_of}
use Rattle.ddf_plan.specs.Changes.{changed, after, after_by}

module _ (config : Configuration) (change : Change) (seats : List Seat) where
  pub after_refused : (refusal : Refusal) → refusal_of config change seats ≡ Some refusal → after config change seats ≡ Err refusal
  unfolding after
  after_refused refusal e = ap (after_by config change) e

  pub after_changed : refusal_of config change seats ≡ None → after config change seats ≡ Ok (changed config change)
  unfolding after
  after_changed e = ap (after_by config change) e

-- where no check refuses, the last one doesn't
pub last_passes : (checks : List (Option Refusal)) (last : Option Refusal) → first_refusal (checks ++ last ∷ []) ≡ None → last ≡ None
last_passes [] None e = refl
last_passes [] (Some refusal) e = e
last_passes (None ∷ checks) last e = last_passes checks last e
last_passes (Some refusal ∷ checks) last e = absurd (cc)

-- where several refuse nothing, the later ones don't
pub last_pass : (checks others : List (Option Refusal)) → first_refusal (checks ++ others) ≡ None → first_refusal others ≡ None
last_pass [] others e = e
last_pass (None ∷ checks) others e = last_pass checks others e
last_pass (Some refusal ∷ checks) others e = absurd (cc)

pub room_left : (sequence steps : ℕ) → spent sequence steps ≡ None → sequence + steps ≤ greatest_sequence
room_left sequence steps e = grind arith

abbrev pub checks_before_clash : Configuration → List Seat → (guid : List ℕ) → Array → List (Option Refusal)
checks_before_clash config seats guid array =
    (not_current config seats (references array)
    ∷ refuse_if (is_taken config array.name) NameTaken
    ∷ unserved_level guid array
    ∷ refuse_if (is_no_shape array) Shape
    ∷ [])

pub is_new : {X : Type 0} (found : Option X) (refusal : Refusal) → refuse_if (is_some found) refusal ≡ None → found ≡ None
is_new None refusal e = refl
is_new (Some x) refusal e = absurd (cc)

-- a created array that isn't refused has a new GUID
pub new_guid : (config : Configuration) (change : Change) (seats : List Seat) → refusal_of config change seats ≡ None → HasNewGuid config.arrays change
new_guid config (Create guid array) seats e =
    is_new (lookup (same_guid guid) config.arrays) (Clash guid)
    (all_pass (checks_before_clash config seats guid array) (refuse_if (is_some (lookup (same_guid guid) config.arrays)) (Clash guid))
    (refuse_first seats (is_spare_disk config) InUse (references array)
    ∷ extents_refusal config (Create guid array) [] seats
    ∷ spent config.sequence 1
    ∷ []) e)
new_guid config other seats e = tt

pub guid_stays_new : (change : Change) (f : List ℕ → Array → Option Array) (arrays : List (List ℕ × Array)) → HasNewGuid arrays change → HasNewGuid (changed_entries f arrays) change
guid_stays_new (Create guid array) f arrays h = absent_changed f (same_guid guid) arrays h
guid_stays_new other f arrays h = tt

-- a change that isn't refused leaves the sequence number in range
pub in_range : (config : Configuration) (change : Change) (seats : List Seat) → refusal_of config change seats ≡ None → config.sequence + steps_of change ≤ greatest_sequence
in_range config change seats e =
    room_left config.sequence (steps_of change)
    (last_passes (extents_refusal config change [] seats ∷ []) (spent config.sequence (steps_of change))
    (last_pass (causes_of None config change seats) (extents_refusal config change [] seats ∷ spent config.sequence (steps_of change) ∷ []) e))

-- where there is a configuration after a change, nothing refuses, and it is the changed one
pub is_changed : (config next : Configuration) (change : Change) (seats : List Seat) → after config change seats ≡ Ok next → (refusal_of config change seats ≡ None) × (changed config change ≡ next)
unfolding after
is_changed config next change seats e = by (refusal_of config change seats) refl e
  where
    by : (r : Option Refusal) → refusal_of config change seats ≡ r → after_by config change r ≡ Ok next → (refusal_of config change seats ≡ None) × (changed config change ≡ next)
    by None at h = (at, cc)
    by (Some refusal) at h = absurd (cc)

pub steps_taken : (change : Change) → 0 < steps_of change
steps_taken (Lose references) = lit< tt
steps_taken other = lit< tt
