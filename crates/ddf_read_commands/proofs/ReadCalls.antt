-- How often a read of blocks calls the bay.
use Rattle.std.proofs.Common.{◌≡◌, ◌∙◌, ℕ, ◌+◌, ◌≤◌, List, length, Option, Some, Result, Ok, Err, sym, ap, subst, inl, inr, arith}
use Rattle.ddf_bay.specs.State.{BayState}
use Rattle.ddf_bay.proofs.Steps.{rose_since}
use Rattle.ddf_config.specs.declared.array.Array.{Array}
use Rattle.ddf_config.specs.declared.seat.Seat.{Seat}
use Rattle.ddf_config.specs.Configuration.{Configuration}
use Rattle.ddf_array.specs.Viewing.{view_of}
use Rattle.ddf_array.specs.Volume.{Volume}
use Rattle.ddf_group.specs.declared.answer.Assembly.{Assembly}
use Rattle.ddf_seats.specs.Group.{GroupValue}
use Rattle.ddf_assembly.specs.Group.{UpToMemory}
use Rattle.ddf_recovery.specs.Recovery.{trusted_seats}
use Rattle.ddf_answer.specs.declared.failure.Failure.TheVariants.{Conflict, Disk, Memory, Refused, Split}
use Rattle.ddf_answer.specs.Call.{Answer, Work}
use Rattle.ddf_read_commands.specs.Read.{CallsOfArray, CallsOfBlocks, CallsOfReading, CallsUnread, CutShort, GrewByPieces, IsArrayRead, IsReadTold, IsReadable, NotRead, Outcome, Stopped, Whole, most_looks, room_for}

-- ---- where none was made

none_of_pieces : (number : (start count : ℕ) → ℕ) (start count old new : ℕ) → new ≤ old → GrewByPieces number (room_for count) start count old new
none_of_pieces number start count old new none = record { pieces = 0; few = omega arith; grew = omega (arith, none) }

module _ {D : Type 0} (old new : BayState D) (beside : ℕ) (none : new.calls ≤ old.calls + beside) where
  pub none_of_blocks : (volume : Volume) (start count : ℕ) → CallsOfBlocks old new beside volume start count
  none_of_blocks volume start count copied calm = none_of_pieces _ start count (old.calls + beside) new.calls none

  pub none_of_array : (config : Configuration) (seats : List Seat) (word : List ℕ) (start count : ℕ) → CallsOfArray old new beside config seats word start count
  none_of_array config seats word start count volume readable = none_of_blocks volume start count

-- ---- the array that is read

-- A word has one view.
one_view : (config : Configuration) (seats : List Seat) (word : List ℕ) (start count : ℕ) (one other : Volume) → IsReadable config seats word start count one → IsReadable config seats word start count other → one ≡ other
one_view config seats word start count one other first second =
    let entries : ◌≡◌ {A = Option (List ℕ × Array)} (Some first.entry) (Some second.entry) = sym first.is_named ∙ second.is_named in
    let entry : first.entry ≡ second.entry = cc in
    let views : Ok one ≡ view_of config second.entry.0 seats = sym first.is_view ∙ ap (λ (found : List ℕ × Array). view_of config found.0 seats) entry in
    let both : Ok one ≡ Ok other = views ∙ second.is_view in
    cc

pub of_view : {D : Type 0} (old new : BayState D) (config : Configuration) (seats : List Seat) (word : List ℕ) (start count : ℕ) (view : Volume) → IsReadable config seats word start count view
    → CallsOfBlocks old new 0 view start count → CallsOfArray old new 0 config seats word start count
of_view old new config seats word start count view ready calls volume readable =
    subst (λ (v : Volume). CallsOfBlocks old new 0 v start count) (one_view config seats word start count view volume ready readable) calls

-- Of an array that may be read nothing was for want of memory alone, which ends with status 5.
pub unread_by : {D : Type 0} (work : Work D) (volume : Volume) (start count : ℕ) (outcome : Outcome) → IsArrayRead work volume start count outcome → (answer : Answer) → IsReadTold outcome answer
    → (answer.status ≡ 5 → work.new.calls ≡ work.old.calls) → CallsUnread work.old work.new 0 outcome
unread_by work volume start count (Whole sectors) is answer told none unread = absurd cc
unread_by work volume start count (NotRead (Refused refusal)) is answer told none unread = absurd is
unread_by work volume start count (NotRead (Disk slot)) is answer told none unread = absurd cc
unread_by work volume start count (NotRead (Conflict i j sequence differ)) is answer told none unread = absurd is
unread_by work volume start count (NotRead (Split i j)) is answer told none unread = absurd is
unread_by work volume start count (NotRead Memory) is answer told none unread = let same = none told.0 in omega (arith, same)
unread_by work volume start count (Stopped front slot) is answer told none unread = absurd cc
unread_by work volume start count (CutShort front) is answer told none unread = absurd cc

-- ---- behind an assembly

module _ {D : Type 0} (tells : Type 0) (old middle new : BayState D) (falls : (s : ℕ) → old.failed_reads s ≤ middle.failed_reads s) (most : ℕ) (looked : middle.calls ≤ old.calls + most) where
  pub unread_behind : (outcome : Outcome) → CallsUnread middle new 0 outcome → CallsUnread old new most outcome
  unread_behind outcome calls unread = let few = calls unread in omega (arith, few, looked)

  pub array_behind : (config : Configuration) (seats : List Seat) (word : List ℕ) (start count : ℕ) → CallsOfArray middle new 0 config seats word start count → CallsOfArray old new most config seats word start count
  array_behind config seats word start count calls volume readable copied calm =
      let grew = calls volume readable copied (λ slot on failed. calm slot on (rose_since (old.failed_reads slot) (middle.failed_reads slot) (new.failed_reads slot) (falls slot) failed)) in
      record { pieces = grew.pieces; few = grew.few; grew = let more = grew.grew in omega (arith, more, looked) }

module _ {D : Type 0} (work : Work D) (word : List ℕ) (start count : ℕ) where
  pub calls_in : (group : GroupValue) (answer : Result GroupValue Assembly) → UpToMemory (Ok group) answer
      → CallsOfArray work.old work.new (most_looks (length work.old.sizes)) group.config (trusted_seats group) word start count → CallsOfReading work word start count answer
  calls_in group (Ok one) (inl is) calls =
      let same : group ≡ one = cc in
      subst (λ (g : GroupValue). CallsOfArray work.old work.new (most_looks (length work.old.sizes)) g.config (trusted_seats g) word start count) same calls
  calls_in group (Err fault) is calls = tt
  calls_in group answer (inr is) calls = absurd cc

  pub none_in : (answer : Result GroupValue Assembly) → work.new.calls ≤ work.old.calls + most_looks (length work.old.sizes) → CallsOfReading work word start count answer
  none_in (Ok group) none = none_of_array work.old work.new (most_looks (length work.old.sizes)) none group.config (trusted_seats group) word start count
  none_in (Err fault) none = tt
