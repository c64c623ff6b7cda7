-- The group that the disks are, or why there is none.
use Rattle.std.specs.Prelude.{◌≡◌, ◌⊎◌, ℕ, ◌+◌, ◌*◌, ◌<◌, ◌≤◌, Bool, false, List, length, Option, Result, Ok, Err, IfOk, IsTrue, slice_index, slice_index_or}
use Rattle.ddf_bay.specs.State.{BayState}
use Rattle.ddf_bay.specs.ReadsOnly.{LookFailed, SlotSame}
use Rattle.ddf_copy.specs.declared.newest_copy.Newest.{Newest}
use Rattle.ddf_config.specs.Seats.{SeatsFit}
use Rattle.ddf_group.specs.declared.answer.Assembly.{Assembly}
use Rattle.ddf_assembly.specs.declared.assembling.AssembledGroup.{AssembledGroup}
use Rattle.ddf_assembly.specs.Assembled.{IsAssembledGroup}
use Rattle.ddf_seats.specs.Group.{GroupValue}
use Rattle.ddf_assembly.specs.Group.{group_of}
use Rattle.ddf_assembly.specs.Held.{AreHeldOn, StandUnder}
use Rattle.ddf_assembly.specs.Reading.{HaveAnchors}
use Rattle.ddf_assembly.specs.Slots.{AreOut, newest_from}
use Rattle.ddf_answer.specs.declared.failure.Failure.{Failure}
use Rattle.ddf_answer.specs.declared.failure.Failure.TheVariants.{Memory}
use Rattle.ddf_answer.specs.Answers.{failure_of}
use Rattle.ddf_answer.specs.Call.{Work}

abbrev pub group_or : Result GroupValue Assembly → Result GroupValue Failure
group_or (Ok group) = Ok group
group_or (Err fault) = Err (failure_of fault)

-- A call came to this, or memory ran out: what the newest copies of the slots give that aren't left out. A slot is left out where a call of
-- this call failed on it, and nowhere else; each of which every call fails is, but where memory ran out. No sync of a slot that has a sector failed.
pub record IsGroupRead {D : Type 0} (work : Work D) (named : Option (List ℕ)) (result : Result GroupValue Failure) : Type 0 where
  pub left : List Bool
  pub every_slot : length left ≡ length work.old.sizes
  pub failed : (slot : ℕ) → slot < length left → IsTrue (slice_index_or left slot false) → LookFailed work.old work.new slot
  pub seen : (slot : ℕ) → slot < length left → slice_index_or left slot false ≡ false → SlotSame work.old work.new slot
  pub unsynced : (slot : ℕ) → slot < length left → 0 < slice_index work.old.sizes slot → work.new.failed_writes slot ≡ work.old.failed_writes slot
  pub newest : List (Option Newest)
  pub read : work.tells → newest ≡ newest_from work.old 0 left
  pub answer : (result ≡ group_or (group_of newest named)) ⊎ (result ≡ Err Memory)
  pub gone : (result ≡ Err Memory → ⊥) → AreOut work.old left
  pub calls : work.new.calls ≤ work.old.calls + 15 * length work.old.sizes

-- the group of what was read
abbrev pub group_in : Result AssembledGroup Failure → Result GroupValue Failure
group_in (Ok read) = Ok read.group
group_in (Err failure) = Err failure

-- A call came to this, and answered which slots it left out.
pub record IsReadLeavingOut {D : Type 0} (work : Work D) (named : Option (List ℕ)) (result : Result AssembledGroup Failure) : Type 0 where
  pub read : IsGroupRead work named (group_in result)
  pub left_out : IfOk result (λ given. given.left_out ≡ read.left)

-- A group that was read from disks that hold it still: it can be recovered, each newest copy is held and can be written again, and each
-- seat is on a slot that has room for its extents.
pub record IsReadFrom {D : Type 0} (tells : Type 0) (disks : BayState D) (group : GroupValue) : Type 0 where
  pub assembled : IsAssembledGroup group
  pub held : tells → AreHeldOn disks group.newest
  pub stand : tells → StandUnder disks group.newest
  pub under : HaveAnchors disks.sizes group.newest
  pub seats : SeatsFit disks.sizes group.seats

-- The newest copies of the slots that aren't left out give this group.
pub record IsFoundBy {D : Type 0} (disks : BayState D) (left : List Bool) (named : Option (List ℕ)) (group : GroupValue) : Type 0 where
  pub every_slot : length left ≡ length disks.sizes
  pub is_found : group_of (newest_from disks 0 left) named ≡ Ok group
