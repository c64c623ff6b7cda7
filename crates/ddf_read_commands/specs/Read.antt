-- What `read` tells, and how it ends.
use Rattle.std.specs.Prelude.{◌≡◌, ◌⊎◌, ℕ, ◌+◌, ◌-◌, ◌*◌, ◌%◌, ◌<◌, ◌≤◌, Bool, true, false, not, List, [], ◌∷◌, ◌++◌, length, min, Option, Some, None, Result, Ok, Err, IsTrue, slice_index_or}
use Rattle.ddf_bytes.specs.Streams.{TakesFront}
use Rattle.ddf_bay.specs.ReadsOnly.{LookFailed}
use Rattle.ddf_bay.specs.State.{BayState}
use Rattle.ddf_copy.specs.declared.newest_copy.Newest.{Newest}
use Rattle.ddf_config.specs.declared.array.Array.{Array}
use Rattle.ddf_config.specs.declared.refusal.Refusal.{Refusal}
use Rattle.ddf_config.specs.declared.refusal.Refusal.TheVariants.{Lost, NoArray, Unsure}
use Rattle.ddf_config.specs.declared.seat.Seat.{Seat}
use Rattle.ddf_config.specs.Configuration.{Configuration}
use Rattle.ddf_config.specs.Refusals.{first_refusal, refuse_if}
use Rattle.ddf_array.specs.Viewing.{is_array_within, view_of}
use Rattle.ddf_array.specs.Volume.{Volume}
use Rattle.ddf_read.specs.Given.{AreGiven, AreValues, NoneLeftIn}
use Rattle.ddf_read.specs.Reading.{Failed, IsOn, NoneFailed}
use Rattle.ddf_read.specs.Refused.{is_unsure}
use Rattle.ddf_read.specs.Stretches.{HaveCopies, copy_stretches}
pub use Rattle.ddf_pieces.specs.Pieces.{GrewByPieces, bytes_of, piece_blocks, room_for}
use Rattle.ddf_group.specs.declared.answer.Assembly.{Assembly}
use Rattle.ddf_seats.specs.Group.{GroupValue}
use Rattle.ddf_assembly.specs.Group.{group_of}
use Rattle.ddf_recovery.specs.Recovery.{trusted_seats}
use Rattle.ddf_assembly.specs.Slots.{AreOut, newest_from}
use Rattle.ddf_request.specs.Named.{named_array}
use Rattle.ddf_answer.specs.declared.failure.Failure.{Failure}
use Rattle.ddf_answer.specs.declared.failure.Failure.TheVariants.{Conflict, Disk, Memory, Refused, Split}
use Rattle.ddf_answer.specs.Answers.{IsToldFailure, failure_of}
use Rattle.ddf_read_commands.specs.declared.using.Access.TheVariants.{Reads}
use Rattle.ddf_read_commands.specs.Use.{array_refusals}
use Rattle.ddf_answer.specs.Call.{Answer, Work}
use Rattle.ddf_answer.specs.Tells.{EndedWith}

-- ---- what it is refused for

-- the array is marked, and a block has no available cell
abbrev pub needs_parity : Result Volume Refusal → (start count : ℕ) → Bool
needs_parity (Ok volume) start count = is_unsure volume start count
needs_parity (Err refusal) start count = false

-- Behind what any use of blocks is refused for: the array isn't within its level; parity is needed of a marked one.
abbrev pub block_refusals : Configuration → List Seat → (List ℕ × Array) → (start count : ℕ) → List (Option Refusal)
block_refusals config seats entry start count =
    refuse_if (not (is_array_within seats entry.1)) Lost
    ∷ refuse_if (needs_parity (view_of config entry.0 seats) start count) Unsure
    ∷ []

-- the first of all: no array has the name, or the array can't be read
abbrev pub read_refusal : Configuration → List Seat → Option (List ℕ × Array) → (start count : ℕ) → Option Refusal
read_refusal config seats None start count = Some NoArray
read_refusal config seats (Some entry) start count = first_refusal (array_refusals Reads config seats entry.0 entry.1 start count ++ block_refusals config seats entry start count)

-- ---- what it gives

-- What came of a read: all blocks were read; none was, for this reason; the first were, and of one behind them no source is left, at
-- this slot; the first were, and then the output gave out.
pub data Outcome : Type 0 where
  Whole : (sectors : List (List ℕ)) → Outcome
  NotRead : (failure : Failure) → Outcome
  Stopped : (front : List (List ℕ)) → (slot : ℕ) → Outcome
  CutShort : (front : List (List ℕ)) → Outcome

-- The word names an array of a configuration, of which so many blocks may be read from a number on.
pub record IsReadable (config : Configuration) (seats : List Seat) (word : List ℕ) (start count : ℕ) (volume : Volume) : Type 0 where
  pub entry : List ℕ × Array
  pub is_named : named_array config.arrays word ≡ Some entry
  pub is_view : view_of config entry.0 seats ≡ Ok volume
  pub accepted : read_refusal config seats (named_array config.arrays word) start count ≡ None

-- The sectors are the blocks of an array from a number on, as their sources give them, and where no read failed in this
-- call on a slot of the array's available places exactly their values.
pub record AreBlocks {D : Type 0} (work : Work D) (volume : Volume) (start : ℕ) (sectors : List (List ℕ)) : Type 0 where
  pub given : work.tells → AreGiven (Failed work.old work.new) work.old.held volume start (length sectors) sectors
  pub values : work.tells → NoneFailed volume work.old work.new → AreValues work.old.held volume start (length sectors) sectors

-- They are the first of so many blocks: all, or those of whole pieces.
pub record AreFirstBlocks {D : Type 0} (work : Work D) (volume : Volume) (start count : ℕ) (sectors : List (List ℕ)) : Type 0 where
  pub blocks : AreBlocks work volume start sectors
  pub within : length sectors ≤ count
  pub pieces : length sectors < count → length sectors % piece_blocks ≡ 0

-- No source is left for one of the blocks: each has a slot of which a read failed in this call, and the named one is such
-- a slot of the block's first source.
pub record IsWithoutSource {D : Type 0} (work : Work D) (volume : Volume) (start count slot : ℕ) : Type 0 where
  pub there : slot < length work.old.sizes
  pub none_left : NoneLeftIn (Failed work.old work.new) volume start count slot

-- what came of an array that may be read: the blocks; that one of them has no source left; the first, and that one of the others has
-- none left; the first; or want of memory
abbrev pub IsArrayRead : {D : Type 0} → Work D → Volume → (start count : ℕ) → Outcome → Type 0
IsArrayRead work volume start count (Whole sectors) = (length sectors ≡ count) × AreBlocks work volume start sectors
IsArrayRead work volume start count (NotRead (Disk slot)) = IsWithoutSource work volume start (min count piece_blocks) slot
IsArrayRead work volume start count (NotRead Memory) = Unit {0}
IsArrayRead work volume start count (NotRead other) = ⊥
IsArrayRead work volume start count (Stopped front slot) =
    (0 < length front) × AreFirstBlocks work volume start count front × IsWithoutSource work volume (start + length front) (min (count - length front) piece_blocks) slot
IsArrayRead work volume start count (CutShort front) = AreFirstBlocks work volume start count front

-- what came of a configuration and of seats: that it is refused, want of memory, or what came of the array
abbrev pub IsReadOf : {D : Type 0} → Work D → Configuration → List Seat → (word : List ℕ) → (start count : ℕ) → Outcome → Type 0
IsReadOf work config seats word start count (NotRead (Refused refusal)) = read_refusal config seats (named_array config.arrays word) start count ≡ Some refusal
IsReadOf work config seats word start count (NotRead Memory) = Unit {0}
IsReadOf work config seats word start count outcome = (volume : Volume) × IsReadable config seats word start count volume × IsArrayRead work volume start count outcome

-- what came of a group, by the seats that blocks may be read from: any other counts as absent
abbrev pub IsReadIn : {D : Type 0} → Work D → (word : List ℕ) → (start count : ℕ) → Result GroupValue Assembly → Outcome → Type 0
IsReadIn work word start count (Ok group) outcome = IsReadOf work group.config (trusted_seats group) word start count outcome
IsReadIn work word start count (Err fault) outcome = (outcome ≡ NotRead (failure_of fault)) ⊎ (outcome ≡ NotRead Memory)

-- an array may be read, why it may not, or want of memory
abbrev pub MayRead : Configuration → List Seat → (word : List ℕ) → (start count : ℕ) → Result Volume Failure → Type 0
MayRead config seats word start count (Ok volume) = IsReadable config seats word start count volume
MayRead config seats word start count (Err (Refused refusal)) = read_refusal config seats (named_array config.arrays word) start count ≡ Some refusal
MayRead config seats word start count (Err Memory) = Unit {0}
MayRead config seats word start count (Err (Disk slot)) = ⊥
MayRead config seats word start count (Err (Conflict i j sequence differ)) = ⊥
MayRead config seats word start count (Err (Split i j)) = ⊥

-- ---- how often it calls

-- The most calls that it makes of a bay of so many slots to find the group: 15 to look at each.
abbrev pub most_looks : (slots : ℕ) → ℕ
most_looks slots = 15 * slots

-- nothing of an array was read
abbrev pub is_unread : Outcome → Bool
is_unread (Whole sectors) = false
is_unread (NotRead (Refused refusal)) = true
is_unread (NotRead (Disk slot)) = false
is_unread (NotRead (Conflict i j sequence differ)) = true
is_unread (NotRead (Split i j)) = true
is_unread (NotRead Memory) = true
is_unread (Stopped front slot) = false
is_unread (CutShort front) = false

-- Where nothing was read no more calls were made than these.
abbrev pub CallsUnread : {D : Type 0} (old new : BayState D) → (most : ℕ) → Outcome → Type 0
CallsUnread old new most outcome = is_unread outcome ≡ true → new.calls ≤ old.calls + most

-- Where each block has an available cell, and no read failed on a slot of the array's available places, one call was made for each stretch of each piece, beside these.
abbrev pub CallsOfBlocks : {D : Type 0} (old new : BayState D) → (beside : ℕ) → Volume → (start count : ℕ) → Type 0
CallsOfBlocks old new beside volume start count =
    HaveCopies volume start count → NoneFailed volume old new → GrewByPieces (copy_stretches volume) (room_for count) start count (old.calls + beside) new.calls

-- so it is of the array that is read, if one is
abbrev pub CallsOfArray : {D : Type 0} (old new : BayState D) → (beside : ℕ) → Configuration → List Seat → (word : List ℕ) → (start count : ℕ) → Type 0
CallsOfArray old new beside config seats word start count = (volume : Volume) → IsReadable config seats word start count volume → CallsOfBlocks old new beside volume start count

abbrev pub CallsOfReading : {D : Type 0} → Work D → (word : List ℕ) → (start count : ℕ) → Result GroupValue Assembly → Type 0
CallsOfReading work word start count (Ok group) = CallsOfArray work.old work.new (most_looks (length work.old.sizes)) group.config (trusted_seats group) word start count
CallsOfReading work word start count (Err fault) = Unit {0}

-- ---- what came of a call

-- no array of the group, if there is one, has an available place on this slot
abbrev pub HasNoPlace : Result GroupValue Assembly → ℕ → Type 0
HasNoPlace (Ok group) slot = (guid : List ℕ) (volume : Volume) → view_of group.config guid (trusted_seats group) ≡ Ok volume → IsOn volume slot → ⊥
HasNoPlace (Err fault) slot = Unit {0}

-- A call came to this: what the group gives that the newest copies of the slots are that aren't left out. A slot is left out only
-- where a call of this call failed on it, and then no array has an available place on it; each of which every call fails is, but where memory ran out.
pub record HasRead {D : Type 0} (work : Work D) (named : Option (List ℕ)) (word : List ℕ) (start count : ℕ) (outcome : Outcome) : Type 0 where
  pub left : List Bool
  pub every_slot : length left ≡ length work.old.sizes
  pub failed : (slot : ℕ) → slot < length left → IsTrue (slice_index_or left slot false) → LookFailed work.old work.new slot
  pub newest : List (Option Newest)
  pub read : work.tells → newest ≡ newest_from work.old 0 left
  pub no_place : work.tells → (slot : ℕ) → IsTrue (slice_index_or left slot false) → HasNoPlace (group_of newest named) slot
  pub gone : (outcome ≡ NotRead Memory → ⊥) → AreOut work.old left
  pub gives : IsReadIn work word start count (group_of newest named) outcome
  pub looks : CallsUnread work.old work.new (most_looks (length work.old.sizes)) outcome
  pub calls : CallsOfReading work word start count (group_of newest named)

-- ---- what it tells

-- what is told: the bytes of the blocks alone; why there are none; the bytes of the first blocks alone; a front of these
abbrev pub IsReadTold : Outcome → Answer → Type 0
IsReadTold (Whole sectors) answer = EndedWith 0 (bytes_of sectors) answer
IsReadTold (NotRead failure) answer = IsToldFailure failure answer
IsReadTold (Stopped front slot) answer = EndedWith 3 (bytes_of front) answer
IsReadTold (CutShort front) answer = (answer.status ≡ 6) × (answer.tells → TakesFront answer.old answer.new (bytes_of front))

-- It came to an outcome of this kind, and said so.
pub record CameTo (Has : Outcome → Type 0) (answer : Answer) : Type 0 where
  pub outcome : Outcome
  pub has : Has outcome
  pub ends : IsReadTold outcome answer

abbrev pub IsReadDone : {D : Type 0} → Work D → (named : Option (List ℕ)) → (word : List ℕ) → (start count : ℕ) → Answer → Type 0
IsReadDone work named word start count answer = CameTo (HasRead work named word start count) answer
