-- A change that comes next.
use Rattle.std.proofs.Common.{◌≤◌, List, [], ◌∷◌, refl, inr}
use Rattle.ddf_config.specs.declared.seat.Seat.{Seat}
use Rattle.ddf_config.specs.Configuration.{Configuration}
use Rattle.ddf_plan.specs.declared.change.Change.{Change}
use Rattle.ddf_plan.specs.Refusals.{greatest_sequence}
use Rattle.ddf_steps.specs.Asked.{CanBeAsked}
use Rattle.ddf_uncut_group.specs.Asking.{AreNext}
use Rattle.ddf_uncut_group.specs.Plain.{HasRoom}
use Rattle.ddf_uncut_group.specs.Settled.{AreMembers}
use Rattle.ddf_exercise_config.specs.Makes.{Makes}

-- What a change makes of a configuration comes next where its sequence number isn't past the greatest, and new disks have room for it.
pub makes_next : (seats : List Seat) (config : Configuration) (change : Change) (next : Configuration) → Makes seats config change next → CanBeAsked change → next.sequence ≤ greatest_sequence
    → AreMembers next seats → HasRoom next → AreNext seats config (change ∷ []) next
makes_next seats config change next makes can unspent stay room =
    inr (
      next,
      record {
        can_be_asked = can;
        no_cause = makes.allowed;
        has_extents = makes.has_room;
        is_step = makes.steps;
        is_next = makes.is_next;
        unspent = unspent;
        members = stay;
        has_room = room;
      },
      refl,
    )
