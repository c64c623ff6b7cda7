-- What the words for a change ask of a group.
use Rattle.std.specs.Prelude.{◌≡◌, ℕ, ◌^◌, ◌<◌, Bool, true, false, List, [], filter_map, Option, Some, None, unwrap_or, Result, Ok, Err, if◌then◌else◌}
use Rattle.std.specs.Option.{option_to_list}
use Rattle.ddf_bytes.specs.declared.stamp.Stamp.{Stamp}
use Rattle.ddf_header.specs.declared.kind.Revision.{Revision}
use Rattle.ddf_header.specs.declared.kind.Revision.TheVariants.{R100, R120, R200}
use Rattle.ddf_copy.specs.declared.newest_copy.Newest.{Newest}
use Rattle.ddf_config.specs.declared.refusal.Refusal.{Refusal}
use Rattle.ddf_config.specs.declared.seat.Seat.{Seat}
use Rattle.ddf_plan.specs.declared.change.Change.{Change}
use Rattle.ddf_group.specs.declared.answer.Assembly.{Assembly}
use Rattle.ddf_seats.specs.Group.{GroupValue, copy_at}
use Rattle.ddf_assembly.specs.Group.{group_of}
use Rattle.ddf_words.specs.declared.command.Creation.{Creation}
use Rattle.ddf_words.specs.declared.command.Wish.{Wish}
use Rattle.ddf_words.specs.declared.command.Wish.TheVariants.{Create}
use Rattle.ddf_request.specs.Request.{request_of}
use Rattle.ddf_answer.specs.declared.failure.Failure.{Failure}
use Rattle.ddf_answer.specs.Call.{Answer, Work}
use Rattle.ddf_group_commands.specs.Change.{HasChanged, IsToldChange, Request}

-- The codes of the levels of a new array are bytes.
pub record HasLevelCodes (creation : Creation) : Type 0 where
  pub level : creation.level < 2 ^ 8
  pub qualifier : creation.qualifier < 2 ^ 8
  pub secondary : unwrap_or creation.secondary 0 < 2 ^ 8

abbrev pub HasByteCodes : Wish → Type 0
HasByteCodes (Create creation) = HasLevelCodes creation
HasByteCodes other = Unit {0}

-- the one change, or none
abbrev pub at_most_one : Result (Option Change) Refusal → Result (List Change) Refusal
at_most_one (Ok change) = Ok (option_to_list change)
at_most_one (Err refusal) = Err refusal

-- what is asked of a group where a change is wished, on so many slots, of which Linux reads these members' disks
abbrev pub request_for : (slots : ℕ) → Stamp → Wish → (linux : List ℕ) → Request
request_for slots stamp wish linux config seats = at_most_one (request_of slots config seats linux stamp wish)

-- ---- the disks that Linux reads

-- Linux takes disks of a revision for its own: by mdadm's source those of 01.00.00 too
abbrev pub is_linux : Revision → Bool
is_linux R100 = true
is_linux R120 = true
is_linux R200 = false

-- the copy that stands for the slot of a seat is of such a revision
abbrev pub is_for_linux : List (Option Newest) → Seat → Bool
is_for_linux newest seat = elim (copy_at newest seat.slot) [ None ↦ false | Some copy ↦ is_linux copy.header.revision ]

abbrev pub linux_member : List (Option Newest) → Seat → Option ℕ
linux_member newest seat = if is_for_linux newest seat then Some seat.reference else None

-- the members of a group on such disks
abbrev pub linux_members : GroupValue → List ℕ
linux_members group = filter_map (linux_member group.newest) group.seats

-- those of the group that was found, if one was
abbrev pub linux_found : Result GroupValue Assembly → List ℕ
linux_found (Ok group) = linux_members group
linux_found (Err fault) = []

-- ---- what came of a wish

-- It came to what is asked of the group that was taken, by those of its disks that Linux reads.
pub record HasWished {D : Type 0} (work : Work D) (named : Option (List ℕ)) (timestamp : ℕ) (request : (linux : List ℕ) → Request) (outcome : Result ℕ Failure) : Type 0 where
  pub linux : List ℕ
  pub has : HasChanged work named timestamp (request linux) outcome
  pub are_its : linux ≡ linux_found (group_of has.taken.newest named)

-- It came to this, and said so.
pub record IsWished {D : Type 0} (work : Work D) (named : Option (List ℕ)) (timestamp : ℕ) (request : (linux : List ℕ) → Request) (answer : Answer) : Type 0 where
  pub outcome : Result ℕ Failure
  pub wished : HasWished work named timestamp request outcome
  pub ends : IsToldChange outcome answer
