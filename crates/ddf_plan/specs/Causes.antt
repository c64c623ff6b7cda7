-- Why a change is refused.
use Rattle.std.specs.Prelude.{ℕ, List, [], ◌∷◌, ◌++◌, Option, None}
use Rattle.ddf_config.specs.declared.seat.Seat.{Seat}
use Rattle.ddf_config.specs.declared.refusal.Refusal.{Refusal}
use Rattle.ddf_config.specs.Configuration.{Configuration}
use Rattle.ddf_config.specs.Refusals.{first_refusal}
use Rattle.ddf_plan.specs.declared.change.Change.{Change}
use Rattle.ddf_plan.specs.declared.change.Change.TheVariants.{Lose, Create, Delete, Spare, Fail, Mark, Unmark, Rewind, Begin, Progress, Finish, Return}
use Rattle.ddf_plan.specs.Refusals.{no_array, not_current, spent}
use Rattle.ddf_plan.specs.Lose.{lose_causes}
use Rattle.ddf_plan.specs.CreateRefusal.{create_causes}
use Rattle.ddf_plan.specs.Floors.{extents_refusal}
use Rattle.ddf_plan.specs.Delete.{delete_causes}
use Rattle.ddf_plan.specs.Spare.{spare_causes}
use Rattle.ddf_plan.specs.Fail.{fail_causes}
use Rattle.ddf_plan.specs.Rebuild.{held_causes, position_causes}
use Rattle.ddf_plan.specs.Members.{members_after}

-- The causes of a change, in its order; the room for extents and the sequence number aside. `most` bounds the members of a created
-- element, where a bound is known.
abbrev pub causes_of : Option ℕ → Configuration → Change → List Seat → List (Option Refusal)
causes_of most config (Lose references) seats = lose_causes config seats references
causes_of most config (Create guid array) seats = create_causes most config seats guid array
causes_of most config (Delete guid) seats = delete_causes config guid
causes_of most config (Spare spare use_as) seats = spare_causes config seats spare use_as
causes_of most config (Fail failed) seats = fail_causes config (members_after config (Fail failed)) seats failed
causes_of most config (Mark guid) seats = no_array config guid ∷ []
causes_of most config (Unmark guid init) seats = no_array config guid ∷ []
causes_of most config (Rewind guid) seats = no_array config guid ∷ []
causes_of most config (Begin guid element position reference start) seats =
    position_causes config guid element position ++ not_current config seats (reference ∷ []) ∷ []
causes_of most config (Progress guid element position row) seats = held_causes config seats guid element position
causes_of most config (Finish guid element position) seats = held_causes config seats guid element position
causes_of most config (Return guid element position reference start) seats =
    position_causes config guid element position ++ not_current config seats (reference ∷ []) ∷ []

-- the first of them
unfoldable pub causes : Option ℕ → Configuration → Change → List Seat → Option Refusal
causes most config change seats = first_refusal (causes_of most config change seats)

-- ---- by the configuration alone

-- by how much a change raises the sequence number
abbrev pub steps_of : Change → ℕ
steps_of (Lose references) = 2
steps_of (Fail failed) = 2
steps_of other = 1

-- Behind the causes: each disk of a new array has room within its configured size. And last: the sequence number has the steps left.
abbrev pub refusal_of : Configuration → Change → List Seat → Option Refusal
refusal_of config change seats =
    first_refusal (causes_of None config change seats ++ extents_refusal config change [] seats ∷ spent config.sequence (steps_of change) ∷ [])
