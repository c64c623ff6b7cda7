-- Histories whose calls are those of the program's commands, in which no disk falls far behind.
use Rattle.std.specs.Prelude.{◌≡◌, ℕ, List, length, Ok}
use Rattle.std.specs.List.{AllByRecursion}
use Rattle.std.proofs.Common.{inl, inr}
use Rattle.ddf_bay.specs.State.{BayState}
use Rattle.ddf_config.specs.declared.seat.Seat.{Seat}
use Rattle.ddf_config.specs.Configuration.{Configuration}
use Rattle.ddf_plan.specs.declared.change.Change.{Change}
use Rattle.ddf_history.specs.Groups.{groups}
use Rattle.ddf_history.specs.History.{Moment}
use Rattle.ddf_history.specs.Scenes.{scene_of}
use Rattle.ddf_group_commands.specs.Change.{Request}
use Rattle.ddf_command.specs.History.{IsCall, Leaves}
use Rattle.ddf_history_behind.specs.Behind.{LosesSome, NoneStale}

-- Of what is asked of a group no loss is one of no member.
abbrev pub LosesNone : Request → Type 0
LosesNone request = (config : Configuration) (seats : List Seat) (changes : List Change) → request config seats ≡ Ok changes → AllByRecursion LosesSome changes

-- `disks` is what a bay of type B tells, and `told` that it tells what they hold.
module _ {B : Type 0} {tells : Type 0} (told : tells) (disks : B → BayState B) (guid : List ℕ) where
  -- what a call asks of the group that it found is so
  abbrev pub IsPlain : (old new : Moment (groups guid) B) → IsCall told disks guid old new → Type 0
  IsPlain old new (inl end) = LosesNone end.call.request
  IsPlain old new (inr (inl cut)) = LosesNone cut.call.request
  IsPlain old new (inr (inr other)) = Unit {0}

  -- a call of a command, at its end or cut by a stop
  abbrev pub IsCommandCall : Moment (groups guid) B → Moment (groups guid) B → Type 0
  IsCommandCall old new = (call : IsCall told disks guid old new) × IsPlain old new call

  -- Whatever a stop leaves at a moment, no seat of what is assembled of it is taken for an older image.
  abbrev pub NoneStaleAt : Moment (groups guid) B → Type 0
  NoneStaleAt moment =
      (bay : B) → moment.past.slots ≡ length (disks bay).sizes → Leaves told disks guid moment.bay (scene_of (disks bay).sizes (disks bay).held) → NoneStale guid moment.past (disks bay)
