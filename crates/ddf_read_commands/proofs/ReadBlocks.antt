-- What a read of blocks comes to.
use Rattle.std.proofs.Common.{◌≡◌, ◌∙◌, inl, inr, ⊎_elim, ℕ, ◌+◌, ◌-◌, ◌<◌, ◌≤◌, Bool, true, false, not, List, [], ◌∷◌, length, Option, Some, None, Result, Ok, Err, ap, refl, sym, subst}
use Rattle.std.specs.Prelude.{min, nat_lt, if◌then◌else◌}
use Rattle.std.specs.Map.{lookup}
use Rattle.std.specs.Option.{option_or}
use Rattle.ddf_bytes.specs.Counts.{Rose}
use Rattle.ddf_bytes.proofs.Common.{rose_behind}
use Rattle.ddf_bay.specs.State.{BayState}
use Rattle.ddf_bay.specs.Sectors.{Image}
use Rattle.ddf_bay.specs.ReadsOnly.{LookFailed}
use Rattle.ddf_bay.proofs.Steps.{rose_since}
use Rattle.ddf_config.specs.declared.array.Array.{Array}
use Rattle.ddf_config.specs.declared.refusal.Refusal.{Refusal}
use Rattle.ddf_config.specs.declared.refusal.Refusal.TheVariants.{Degraded, Lost, Range, Unsure}
use Rattle.ddf_config.specs.Members.{same_guid}
use Rattle.ddf_config.specs.Refusals.{first_refusal, refuse_if}
use Rattle.ddf_config.specs.Shapes.{array_capacity}
use Rattle.ddf_config.proofs.Firsts.{first_append}
use Rattle.ddf_array.specs.declared.site.Site.{Site}
use Rattle.ddf_array.specs.Sources.{Source, copy, row, sources}
use Rattle.ddf_array.specs.Viewing.{is_array_within, view_of}
use Rattle.ddf_array.specs.Volume.{Volume, capacity}
use Rattle.ddf_array.specs.Within.{is_within}
use Rattle.ddf_array.proofs.Told.{told_capacity, told_within}
use Rattle.ddf_read.specs.declared.fault.VolumeFault.{VolumeFault}
use Rattle.ddf_read.specs.declared.fault.VolumeFault.TheVariants as faults
use Rattle.ddf_read.specs.Given.{AreGiven, NoneLeftIn}
use Rattle.ddf_read.specs.Reading.{AllHaveSlot, Failed, HasSite, HasSlot, IsGivenBy, OnlyReads}
use Rattle.ddf_read.specs.Refused as volume
use Rattle.ddf_read.specs.Refused.{is_unsure}
use Rattle.ddf_group.specs.declared.answer.Assembly.{Assembly}
use Rattle.ddf_group.specs.declared.answer.Assembly.TheVariants as assembly
use Rattle.ddf_seats.specs.Group.{GroupValue}
use Rattle.ddf_assembly.specs.Group.{UpToMemory}
use Rattle.ddf_recovery.specs.Recovery.{trusted_seats}
use Rattle.ddf_request.specs.Named.{named_array}
use Rattle.ddf_answer.specs.declared.failure.Failure.{Failure}
use Rattle.ddf_answer.specs.declared.failure.Failure.TheVariants.{Conflict, Disk, Memory, Refused, Split}
use Rattle.ddf_answer.specs.Answers.{failure_of}
use Rattle.ddf_answer.specs.Call.{Work, work_of}
use Rattle.ddf_read_commands.specs.Read.{AreBlocks, AreFirstBlocks, CutShort, IsArrayRead, IsReadIn, IsReadOf, IsReadable, IsWithoutSource, MayRead, NotRead, Outcome, Stopped, Whole, block_refusals, needs_parity, piece_blocks, read_refusal}
use Rattle.ddf_read_commands.proofs.ArrayUse.{named_is, range_of}
use Rattle.ddf_config.specs.declared.seat.Seat.{Seat}
use Rattle.ddf_config.specs.Configuration.{Configuration}
use Rattle.ddf_read_commands.specs.declared.using.Access.TheVariants.{Reads}
use Rattle.ddf_read_commands.specs.Use.{IsUsable, MayUse, array_refusals, failure_of_volume, use_refusal}
use Rattle.ddf_read.proofs.GivenLaws.{values_of}

-- ---- more failures

module _ (P Q : ℕ → Type 0) (more : (slot : ℕ) → P slot → Q slot) where
  has_site : (sites : List Site) → HasSite P sites → HasSite Q sites
  has_site [] has = has
  has_site (site ∷ sites) has = ⊎_elim (λ here. inl (more site.slot here)) (λ later. inr (has_site sites later)) has

  has_slot : (source : Source) → HasSlot P source → HasSlot Q source
  has_slot (copy site) has = more site.slot has
  has_slot (row sites) has = has_site sites has

  all_have : (all : List Source) → AllHaveSlot P all → AllHaveSlot Q all
  all_have [] has = tt
  all_have (source ∷ all) has = (has_slot source has.0, all_have all has.1)

  given_by : (image : Image) (all : List Source) (bytes : List ℕ) → IsGivenBy P image all bytes → IsGivenBy Q image all bytes
  given_by image [] bytes is = is
  given_by image (source ∷ all) bytes is = ⊎_elim (λ here. inl here) (λ later. inr (has_slot source later.0, given_by image all bytes later.1)) is

  pub are_given : (image : Image) (v : Volume) (start count : ℕ) (sectors : List (List ℕ)) → AreGiven P image v start count sectors → AreGiven Q image v start count sectors
  are_given image v start count sectors are k below = given_by image (sources v (start + k)) _ (are k below)

  pub none_left_in : (v : Volume) (start count slot : ℕ) → NoneLeftIn P v start count slot → NoneLeftIn Q v start count slot
  none_left_in v start count slot none = record {
    block = none.block;
    is_in = none.is_in;
    none_left = record {
      all_failed = all_have (sources v (start + none.block)) none.none_left.all_failed;
      this_failed = more slot none.none_left.this_failed;
      is_of_first = none.none_left.is_of_first;
    };
  }

-- a look failed, also where more reads followed
pub look_later : {D : Type 0} (old middle new : BayState D) (slot : ℕ) → ((s : ℕ) → old.failed_reads s ≤ middle.failed_reads s) → OnlyReads middle new → LookFailed old middle slot → LookFailed old new slot
look_later old middle new slot falls only failed = ⊎_elim
    (λ read. inl (rose_behind (old.failed_reads slot) (middle.failed_reads slot) (new.failed_reads slot) (falls slot) (only.never_falls slot) read))
    (λ synced. inr (synced.0, subst (λ (writes : ℕ → ℕ). Rose (old.failed_writes slot) (writes slot)) (sym only.same_writes) synced.1))
    failed

-- ---- what blocks tell

-- blocks as their sources give them, and their values where no read of the array's slots failed
pub are_blocks : {D : Type 0} (work : Work D) (v : Volume) (start : ℕ) (sectors : List (List ℕ))
    → (work.tells → AreGiven (Failed work.old work.new) work.old.held v start (length sectors) sectors) → AreBlocks work v start sectors
are_blocks work v start sectors given = record {
  given = given;
  values = λ tells never. values_of (Failed work.old work.new) v work.old.held start (length sectors) sectors never (given tells);
}

-- as the program tells it
abbrev refused : Option VolumeFault → Option Refusal
refused None = None
refused (Some (faults.Range most)) = Some (Range most)
refused (Some faults.Lost) = Some Lost
refused (Some faults.Unsure) = Some Unsure
refused (Some faults.Degraded) = Some Degraded
refused (Some (faults.Disk slot)) = None

-- no disk is a cause
never_disk : (past within unsure : Bool) (most slot : ℕ)
    → (if past then Some (faults.Range most) else (if not within then Some faults.Lost else (if unsure then Some faults.Unsure else None))) ≡ Some (faults.Disk slot) → ⊥
never_disk true within unsure most slot e = cc
never_disk false false unsure most slot e = cc
never_disk false true true most slot e = cc
never_disk false true false most slot e = cc

module _ (config : Configuration) (seats : List Seat) (word : List ℕ) (start count : ℕ) (used : List ℕ × Volume) (usable : IsUsable Reads config seats word start count used) where
  abbrev entry : List ℕ × Array
  entry = (used.0, usable.array)

  abbrev v : Volume
  v = used.1

  found : lookup (same_guid entry.0) config.arrays ≡ Some entry.1
  found = named_is config.arrays word entry usable.is_named

  capacity_is : capacity v ≡ array_capacity entry.1
  capacity_is = told_capacity config entry.0 seats v entry.1 usable.is_view found

  within_is : is_within v ≡ is_array_within seats entry.1
  within_is = told_within config entry.0 seats v entry.1 usable.is_view found

  unsure_is : needs_parity (view_of config entry.0 seats) start count ≡ is_unsure v start count
  unsure_is = ap (λ (found : Result Volume Refusal). needs_parity found start count) usable.is_view

  -- the refusal is that of the blocks
  then_blocks : read_refusal config seats (named_array config.arrays word) start count
      ≡ first_refusal (refuse_if (not (is_within v)) Lost ∷ refuse_if (is_unsure v start count) Unsure ∷ [])
  then_blocks =
      ap (λ (one : Option (List ℕ × Array)). read_refusal config seats one start count) usable.is_named
      ∙ first_append (array_refusals Reads config seats entry.0 entry.1 start count) (block_refusals config seats entry start count)
      ∙ ap (λ (r : Option Refusal). option_or r (first_refusal (block_refusals config seats entry start count))) usable.accepted
      ∙ ap (λ (b : Bool). first_refusal (refuse_if (not b) Lost ∷ refuse_if (needs_parity (view_of config entry.0 seats) start count) Unsure ∷ [])) (sym within_is)
      ∙ ap (λ (b : Bool). first_refusal (refuse_if (not (is_within v)) Lost ∷ refuse_if b Unsure ∷ [])) unsure_is

  -- the range lies within the capacity
  in_capacity : nat_lt (capacity v) (start + count) ≡ false
  in_capacity = ap (λ (n : ℕ). nat_lt n (start + count)) capacity_is ∙ range_of Reads config seats start count entry.0 entry.1 usable.accepted

  by_tests : (past within unsure : Bool) → past ≡ false → (fault : Option VolumeFault)
      → (if past then Some (faults.Range (capacity v)) else (if not within then Some faults.Lost else (if unsure then Some faults.Unsure else None))) ≡ fault
      → first_refusal (refuse_if (not within) Lost ∷ refuse_if unsure Unsure ∷ []) ≡ refused fault
  by_tests true within unsure is fault e = absurd cc
  by_tests false false unsure is fault e = ap refused e
  by_tests false true true is fault e = ap refused e
  by_tests false true false is fault e = ap refused e

  same_refusal : (fault : Option VolumeFault) → volume.read_refusal v start count ≡ fault → read_refusal config seats (named_array config.arrays word) start count ≡ refused fault
  same_refusal fault e = then_blocks ∙ by_tests (nat_lt (capacity v) (start + count)) (is_within v) (is_unsure v start count) in_capacity fault e

  -- an array whose blocks nothing refuses may be read
  pub may_read : volume.read_refusal v start count ≡ None → MayRead config seats word start count (Ok v)
  may_read none = record { entry = entry; is_named = usable.is_named; is_view = usable.is_view; accepted = same_refusal None none }

  -- else it is refused for what they tell
  pub may_not_read : (fault : VolumeFault) → volume.read_refusal v start count ≡ Some fault → MayRead config seats word start count (Err (failure_of_volume fault))
  may_not_read (faults.Range most) e = same_refusal (Some (faults.Range most)) e
  may_not_read faults.Lost e = same_refusal (Some faults.Lost) e
  may_not_read faults.Unsure e = same_refusal (Some faults.Unsure) e
  may_not_read faults.Degraded e = same_refusal (Some faults.Degraded) e
  may_not_read (faults.Disk slot) e = absurd (never_disk (nat_lt (capacity v) (start + count)) (is_within v) (is_unsure v start count) (capacity v) slot e)

-- ---- what comes of a group

module _ (config : Configuration) (seats : List Seat) (word : List ℕ) (start count : ℕ) where
  -- one that can't be used may not be read
  refused_use : (refusal : Refusal) → use_refusal Reads config seats (named_array config.arrays word) start count ≡ Some refusal
      → read_refusal config seats (named_array config.arrays word) start count ≡ Some refusal
  refused_use refusal is = by (named_array config.arrays word) is
    where
      by : (found : Option (List ℕ × Array)) → use_refusal Reads config seats found start count ≡ Some refusal → read_refusal config seats found start count ≡ Some refusal
      by None e = e
      by (Some entry) e =
          first_append (array_refusals Reads config seats entry.0 entry.1 start count) (block_refusals config seats entry start count)
          ∙ ap (λ (r : Option Refusal). option_or r (first_refusal (block_refusals config seats entry start count))) e

  pub may_not_use : (failure : Failure) → MayUse Reads config seats word start count (Err failure) → MayRead config seats word start count (Err failure)
  may_not_use (Refused refusal) may = refused_use refusal may
  may_not_use (Disk slot) may = absurd may
  may_not_use (Conflict i j sequence differ) may = absurd may
  may_not_use (Split i j) may = absurd may
  may_not_use Memory may = tt

module _ {D : Type 0} (work : Work D) (config : Configuration) (seats : List Seat) (word : List ℕ) (start count : ℕ) where
  -- an array that may not be read isn't
  pub not_read : (failure : Failure) → MayRead config seats word start count (Err failure) → IsReadOf work config seats word start count (NotRead failure)
  not_read (Refused refusal) may = may
  not_read (Disk slot) may = absurd may
  not_read (Conflict i j sequence differ) may = absurd may
  not_read (Split i j) may = absurd may
  not_read Memory may = tt

  -- what comes of one that may be read
  pub read_of : (v : Volume) → IsReadable config seats word start count v → (outcome : Outcome) → IsArrayRead work v start count outcome → IsReadOf work config seats word start count outcome
  read_of v ready (Whole sectors) is = (v, ready, is)
  read_of v ready (NotRead (Refused refusal)) is = absurd is
  read_of v ready (NotRead (Disk slot)) is = (v, ready, is)
  read_of v ready (NotRead (Conflict i j sequence differ)) is = absurd is
  read_of v ready (NotRead (Split i j)) is = absurd is
  read_of v ready (NotRead Memory) is = tt
  read_of v ready (Stopped front slot) is = (v, ready, is)
  read_of v ready (CutShort front) is = (v, ready, is)

-- ---- behind an assembly

module _ {D : Type 0} (tells : Type 0) (old middle new : BayState D)
    (falls : (s : ℕ) → old.failed_reads s ≤ middle.failed_reads s) (same_held : middle.held ≡ old.held) (same_sizes : middle.sizes ≡ old.sizes) where
  more : (slot : ℕ) → Failed middle new slot → Failed old new slot
  more slot failed = rose_since (old.failed_reads slot) (middle.failed_reads slot) (new.failed_reads slot) (falls slot) failed

  module _ (v : Volume) where
    blocks_behind : (start : ℕ) (sectors : List (List ℕ)) → AreBlocks (work_of tells middle new) v start sectors → AreBlocks (work_of tells old new) v start sectors
    blocks_behind start sectors are = are_blocks (work_of tells old new) v start sectors (λ told.
        subst (λ (image : Image). AreGiven (Failed old new) image v start (length sectors) sectors) same_held
        (are_given (Failed middle new) (Failed old new) more middle.held v start (length sectors) sectors (are.given told)))

    first_behind : (start count : ℕ) (front : List (List ℕ)) → AreFirstBlocks (work_of tells middle new) v start count front → AreFirstBlocks (work_of tells old new) v start count front
    first_behind start count front are = record { blocks = blocks_behind start front are.blocks; within = are.within; pieces = are.pieces }

    without_behind : (start count slot : ℕ) → IsWithoutSource (work_of tells middle new) v start count slot → IsWithoutSource (work_of tells old new) v start count slot
    without_behind start count slot is = record {
      there = subst (λ (sizes : List ℕ). slot < length sizes) same_sizes is.there;
      none_left = none_left_in (Failed middle new) (Failed old new) more v start count slot is.none_left;
    }

    from_behind : (start count : ℕ) (outcome : Outcome) → IsArrayRead (work_of tells middle new) v start count outcome → IsArrayRead (work_of tells old new) v start count outcome
    from_behind start count (Whole sectors) is = (is.0, blocks_behind start sectors is.1)
    from_behind start count (NotRead (Refused refusal)) is = is
    from_behind start count (NotRead (Disk slot)) is = without_behind start (min count piece_blocks) slot is
    from_behind start count (NotRead (Conflict i j sequence differ)) is = is
    from_behind start count (NotRead (Split i j)) is = is
    from_behind start count (NotRead Memory) is = is
    from_behind start count (Stopped front slot) is =
        (is.0, first_behind start count front is.1, without_behind (start + length front) (min (count - length front) piece_blocks) slot is.2)
    from_behind start count (CutShort front) is = first_behind start count front is

  module _ (config : Configuration) (seats : List Seat) (word : List ℕ) (start count : ℕ) where
    pub read_behind : (outcome : Outcome) → IsReadOf (work_of tells middle new) config seats word start count outcome → IsReadOf (work_of tells old new) config seats word start count outcome
    read_behind (Whole sectors) is = (is.0, is.1, from_behind is.0 start count (Whole sectors) is.2)
    read_behind (NotRead (Refused refusal)) is = is
    read_behind (NotRead (Disk slot)) is = (is.0, is.1, from_behind is.0 start count (NotRead (Disk slot)) is.2)
    read_behind (NotRead (Conflict i j sequence differ)) is = absurd is.2
    read_behind (NotRead (Split i j)) is = absurd is.2
    read_behind (NotRead Memory) is = is
    read_behind (Stopped front slot) is = (is.0, is.1, from_behind is.0 start count (Stopped front slot) is.2)
    read_behind (CutShort front) is = (is.0, is.1, from_behind is.0 start count (CutShort front) is.2)

-- where a group was assembled
pub read_in : {D : Type 0} (work : Work D) (word : List ℕ) (start count : ℕ) (group : GroupValue) (answer : Result GroupValue Assembly) (outcome : Outcome)
    → UpToMemory (Ok group) answer → IsReadOf work group.config (trusted_seats group) word start count outcome → IsReadIn work word start count answer outcome
read_in work word start count group (Ok one) outcome (inl is) read = let same : group ≡ one = cc in subst (λ (g : GroupValue). IsReadOf work g.config (trusted_seats g) word start count outcome) same read
read_in work word start count group (Err fault) outcome (inl is) read = absurd cc
read_in work word start count group answer outcome (inr is) read = absurd cc

-- where none was
pub fault_in : {D : Type 0} (work : Work D) (word : List ℕ) (start count : ℕ) (fault : Assembly) (answer : Result GroupValue Assembly) → UpToMemory (Err fault) answer
    → IsReadIn work word start count answer (NotRead (failure_of fault))
fault_in work word start count fault (Ok one) (inl is) = absurd cc
fault_in work word start count fault (Ok one) (inr is) =
    let same : fault ≡ assembly.Memory = cc in
    subst (λ (f : Assembly). IsReadOf work one.config (trusted_seats one) word start count (NotRead (failure_of f))) (sym same) tt
fault_in work word start count fault (Err other) (inl is) = let same : fault ≡ other = cc in inl (ap (λ (f : Assembly). NotRead (failure_of f)) same)
fault_in work word start count fault (Err other) (inr is) = let same : fault ≡ assembly.Memory = cc in inr (ap (λ (f : Assembly). NotRead (failure_of f)) same)

-- what it tells where memory ran out
pub not_read_told : (fault : Assembly) → ◌≡◌ {A = Result GroupValue Assembly} (Err fault) (Err assembly.Memory) → NotRead (failure_of fault) ≡ NotRead Memory
not_read_told fault spent = let same : fault ≡ assembly.Memory = cc in ap (λ (one : Assembly). NotRead (failure_of one)) same

-- where memory ran out
pub memory_in : {D : Type 0} (work : Work D) (word : List ℕ) (start count : ℕ) (answer : Result GroupValue Assembly) → IsReadIn work word start count answer (NotRead Memory)
memory_in work word start count (Ok group) = tt
memory_in work word start count (Err fault) = inr refl
