-- What a copyback is to do to the array that a word names: which position goes where, and how far it has come.
use Rattle.std.specs.Prelude.{◌≡◌, ℕ, List, [], ◌∷◌, ◌++◌, length, true, false, Some, Ok}
use Rattle.ddf_bay.specs.Sectors.{Image}
use Rattle.ddf_array.specs.Apart.{IsApart}
use Rattle.ddf_array.specs.Sound.{AreSectors}
use Rattle.ddf_array.specs.Viewing.{view_of}
use Rattle.ddf_array.specs.Volume.{IsVolume, Volume}
use Rattle.ddf_array.specs.Within.{is_within}
use Rattle.ddf_config.specs.declared.extent.Extent.{Extent}
use Rattle.ddf_config.specs.Seats.{slot_of}
use Rattle.ddf_cells.specs.Writing.{IsLeftBut, StaysBut}
use Rattle.ddf_rebuild.specs.Filling.{HoldsGiven, HoldsWanted, IsFilled}
use Rattle.ddf_rebuild.specs.Target.{IsAside}
use Rattle.ddf_read.specs.Reading.{Failed}
use Rattle.ddf_repair.specs.Choose.{chosen, room_for}
use Rattle.ddf_repair.specs.declared.first.Target.{Target}
use Rattle.ddf_steps.specs.Committed.{slots_of}
use Rattle.ddf_steps.specs.Steps.{Step}
use Rattle.ddf_seats.specs.Group.{GroupValue}
use Rattle.ddf_recovery.specs.Ready.{readied}
use Rattle.ddf_recovery.specs.Recovery.{config_recovered}
use Rattle.ddf_request.specs.Named.{named_array}
use Rattle.ddf_request.specs.Slots.{reference_on}
use Rattle.ddf_answer.specs.Call.{Work}
use Rattle.ddf_group_commands.specs.Change.{steps_of as steps_asked}
use Rattle.ddf_group_commands.specs.Requests.{linux_members}
use Rattle.ddf_group_commands.specs.Writing.{IsLeftWriting}
use Rattle.ddf_group_commands.specs.Written.{AreWritten}
use Rattle.ddf_write_commands.specs.Around.{config_behind}
use Rattle.ddf_write_commands.specs.Holding.{holding}
use Rattle.ddf_write_commands.specs.Planned.{Entry}
use Rattle.ddf_rebuild_command.specs.BackPlans.{IsHere}
use Rattle.ddf_rebuild_command.specs.GoingBack.{back_to, copyback_request}
use Rattle.ddf_rebuild_command.specs.Rounds.{IsSure}

-- The position of the array that goes back, and its room on the disk of the slot, where no array has an extent: it is filled on the slot of that disk's seat.
-- The first steps are the recovery; the last is behind the copying, and by it the position is at its room. The view is behind the first, of an array within
-- its level.
pub record IsBackPlanned (sizes : List ℕ) (found : GroupValue) (timestamp : ℕ) (word : List ℕ) (slot : ℕ) : Type 0 where
  pub entry : Entry
  pub is_named : named_array (config_recovered found).arrays word ≡ Some entry
  pub target : Target
  pub is_chosen : chosen (config_recovered found) entry.0 found.seats ≡ Some target
  pub room : Extent
  pub is_room : room_for (config_recovered found) entry.0 found.seats target (reference_on found.seats slot) ≡ Some room
  pub to : ℕ
  pub to_is : to ≡ slot_of found.seats room.reference
  pub first : List Step
  pub are_first : readied found [] timestamp ≡ Ok first
  pub last : Step
  pub are_asked : steps_asked found timestamp (copyback_request (length sizes) word slot (linux_members found)) ≡ Ok (first ++ last ∷ [])
  pub are_readied : readied found (back_to entry target room ∷ []) timestamp ≡ Ok (first ++ last ∷ [])
  pub volume : Volume
  pub is_view : view_of (config_behind found.config first) entry.0 found.seats ≡ Ok volume
  pub known : IsVolume volume
  pub apart : IsApart volume
  pub is_here : IsHere volume target.element target.position
  pub aside : IsAside sizes volume target.element to room.start
  pub unmarked : volume.marked ≡ false
  pub within : is_within volume ≡ true

-- The room holds what was read for the position by an image: of each cell the bytes of a source, behind others with a slot of which a read failed. Where what is read of it
-- is sure these are what it should hold. Nothing else is another one than in it. The sectors of that image have 512 bytes, where the bay still tells what a stop may leave.
pub record IsCopied (failed : ℕ → Type 0) (told : Type 0) (volume : Volume) (target : Target) (slot start : ℕ) (before after : Image) : Type 0 where
  pub copied : IsSure failed volume before → HoldsWanted volume target.element target.position slot start before after
  pub was_given : HoldsGiven failed volume target.element target.position slot start before after
  pub stays : StaysBut (IsFilled volume target.element slot start) before after
  pub are_sectors : told → AreSectors before

-- ---- how far it has come, and what a stop leaves then

-- The first steps are under way; the room is being filled; or the last step is under way.
pub data BackStage : Type 0 where
  Opening : BackStage
  Copying : BackStage
  Returning : BackStage

module _ {D : Type 0} (work : Work D) (found : GroupValue) {timestamp : ℕ} {word : List ℕ} {slot : ℕ} (plan : IsBackPlanned work.old.sizes found timestamp word slot) where
  -- Of the disks behind the first steps only the room's sectors are others.
  pub record IsLeftCopying (image : Image) : Type 0 where
    pub before : Image
    pub first_written : AreWritten work.old.sizes work.old.held plan.first before
    pub is_left : IsLeftBut (IsFilled plan.volume plan.target.element plan.to plan.room.start) (holding work.old (slots_of found.seats) before).may_hold image

  -- The room is filled for sure, and the last step is under way.
  pub record IsLeftReturning (image : Image) : Type 0 where
    pub before : Image
    pub first_written : AreWritten work.old.sizes work.old.held plan.first before
    pub filled : Image
    pub is_filled : IsCopied (Failed work.old work.new) work.new.tells_left plan.volume plan.target plan.to plan.room.start before filled
    pub is_left : IsLeftWriting (holding work.old (slots_of found.seats) filled) (plan.last ∷ []) image

  abbrev pub IsBackLeftAt : BackStage → Image → Type 0
  IsBackLeftAt Opening image = IsLeftWriting work.old plan.first image
  IsBackLeftAt Copying image = IsLeftCopying image
  IsBackLeftAt Returning image = IsLeftReturning image

-- A stop left this on the way of a copyback.
pub record IsLeftGoingBack {D : Type 0} (work : Work D) (found : GroupValue) (timestamp : ℕ) (word : List ℕ) (slot : ℕ) (image : Image) : Type 0 where
  pub plan : IsBackPlanned work.old.sizes found timestamp word slot
  pub stage : BackStage
  pub is_left : IsBackLeftAt work found plan stage image
