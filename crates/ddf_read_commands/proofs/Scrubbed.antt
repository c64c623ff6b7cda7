-- What comes of a scrub, and how it ends.
use Rattle.std.proofs.Common.{◌≡◌, ◌∙◌, ℕ, ◌<◌, ◌≤◌, Bool, true, not, List, [], ◌∷◌, length, Option, Some, None, Result, Ok, Err, inl, inr, ⊎_elim, refl, sym, ap, subst}
use Rattle.std.specs.Option.{option_or}
use Rattle.ddf_bytes.specs.Streams.{SinkRose, SinkState}
use Rattle.ddf_bay.specs.ReadsOnly.{ReadsOnly}
use Rattle.ddf_bay.specs.Sectors.{Image}
use Rattle.ddf_bay.specs.State.{BayState}
use Rattle.ddf_bay.proofs.Steps.{rose_since}
use Rattle.ddf_config.specs.declared.array.Array.{Array}
use Rattle.ddf_config.specs.declared.refusal.Refusal.{Refusal}
use Rattle.ddf_config.specs.declared.refusal.Refusal.TheVariants.{Lost}
use Rattle.ddf_config.specs.declared.seat.Seat.{Seat}
use Rattle.ddf_config.specs.Configuration.{Configuration}
use Rattle.ddf_config.specs.Refusals.{first_refusal, refuse_if}
use Rattle.ddf_config.proofs.Firsts.{first_append}
use Rattle.ddf_array.specs.Sound.{AreSectors}
use Rattle.ddf_array.specs.Viewing.{is_array_within}
use Rattle.ddf_array.specs.Volume.{Volume}
use Rattle.ddf_array.specs.Within.{is_within}
use Rattle.ddf_array.proofs.Told.{told_within}
use Rattle.ddf_read.specs.declared.fault.VolumeFault.{VolumeFault}
use Rattle.ddf_read.specs.declared.fault.VolumeFault.TheVariants as volumes
use Rattle.ddf_read.specs.Reading.{Failed}
use Rattle.ddf_resync.specs.Scrubbing.{IsScrubFault, IsScrubbed}
use Rattle.ddf_resync.specs.declared.outcome.Scrub.{Scrub}
use Rattle.ddf_group.specs.declared.answer.Assembly.{Assembly}
use Rattle.ddf_group.specs.declared.answer.Assembly.TheVariants as assembly
use Rattle.ddf_seats.specs.Group.{GroupValue}
use Rattle.ddf_assembly.specs.Group.{UpToMemory, group_of}
use Rattle.ddf_recovery.specs.Recovery.{trusted_seats}
use Rattle.ddf_assembly.specs.Slots.{IsLooked, newest_from}
use Rattle.ddf_request.specs.Named.{named_array}
use Rattle.ddf_words.specs.Traits.{traits_of}
use Rattle.ddf_words.specs.declared.command.Command.TheVariants as commands
use Rattle.ddf_answer.specs.declared.failure.Failure.{Failure}
use Rattle.ddf_answer.specs.declared.failure.Failure.TheVariants.{Conflict, Disk, Memory, Refused, Split}
use Rattle.ddf_answer.specs.Answers.{failure_of}
use Rattle.ddf_answer.specs.Call.{Answer, Work, answer_of, work_of}
use Rattle.ddf_answer.specs.Ends.{Ends, HasCause, SomeSlotRose}
use Rattle.ddf_answer.proofs.Causes.{contradicted_told, fault_told, memory_cause, no_disk, refused_told, short_cause}
use Rattle.ddf_read_commands.specs.declared.using.Access.TheVariants.{Reads}
use Rattle.ddf_read_commands.specs.Scrub.{IsScrubDone, IsScrubIn, IsScrubOf, IsScrubTold, scrub_refusal}
use Rattle.ddf_read_commands.specs.Use.{IsUsable, MayUse, array_refusals, failure_of_volume, use_refusal}
use Rattle.ddf_read_commands.proofs.ArrayUse.{named_is}

-- ---- what it is refused for

module _ (config : Configuration) (seats : List Seat) (word : List ℕ) where
  -- one that can't be used isn't scrubbed
  refused_use : (refusal : Refusal) → use_refusal Reads config seats (named_array config.arrays word) 0 0 ≡ Some refusal → scrub_refusal config seats (named_array config.arrays word) ≡ Some refusal
  refused_use refusal is = by (named_array config.arrays word) is
    where
      by : (found : Option (List ℕ × Array)) → use_refusal Reads config seats found 0 0 ≡ Some refusal → scrub_refusal config seats found ≡ Some refusal
      by None e = e
      by (Some entry) e =
          first_append (array_refusals Reads config seats entry.0 entry.1 0 0) (refuse_if (not (is_array_within seats entry.1)) Lost ∷ [])
          ∙ ap (λ (r : Option Refusal). option_or r (first_refusal (refuse_if (not (is_array_within seats entry.1)) Lost ∷ []))) e

  module _ (used : List ℕ × Volume) (usable : IsUsable Reads config seats word 0 0 used) where
    abbrev entry : List ℕ × Array
    entry = (used.0, usable.array)

    within_is : is_within used.1 ≡ is_array_within seats usable.array
    within_is = told_within config used.0 seats used.1 usable.array usable.is_view (named_is config.arrays word entry usable.is_named)

    pub then_within : scrub_refusal config seats (named_array config.arrays word) ≡ first_refusal (refuse_if (not (is_within used.1)) Lost ∷ [])
    then_within =
        ap (scrub_refusal config seats) usable.is_named
        ∙ first_append (array_refusals Reads config seats used.0 usable.array 0 0) (refuse_if (not (is_array_within seats usable.array)) Lost ∷ [])
        ∙ ap (λ (r : Option Refusal). option_or r (first_refusal (refuse_if (not (is_array_within seats usable.array)) Lost ∷ []))) usable.accepted
        ∙ ap (λ (b : Bool). first_refusal (refuse_if (not b) Lost ∷ [])) (sym within_is)

-- ---- what comes of it

module _ {D : Type 0} (work : Work D) (config : Configuration) (seats : List Seat) (word : List ℕ) where
  pub not_scrubbed : (failure : Failure) → MayUse Reads config seats word 0 0 (Err failure) → IsScrubOf work config seats word (Err failure)
  not_scrubbed (Refused refusal) may = refused_use config seats word refusal may
  not_scrubbed (Disk slot) may = absurd may
  not_scrubbed (Conflict i j sequence differ) may = absurd may
  not_scrubbed (Split i j) may = absurd may
  not_scrubbed Memory may = tt

  module _ (used : List ℕ × Volume) (usable : IsUsable Reads config seats word 0 0 used) where
    pub was_scrubbed : (found : Scrub) → is_within used.1 ≡ true → (work.tells → AreSectors work.old.held → IsScrubbed used.1 work.old.held found) → IsScrubOf work config seats word (Ok found)
    was_scrubbed found within is = record {
      used = used;
      usable = usable;
      accepted = then_within config seats word used usable ∙ ap (λ (b : Bool). first_refusal (refuse_if (not b) Lost ∷ [])) within;
      scrubbed = is;
    }

    pub scrub_fault : ((slot : ℕ) → IsScrubFault work.old work.new used.1 (volumes.Disk slot) → slot < length work.old.sizes) → (fault : VolumeFault) → IsScrubFault work.old work.new used.1 fault
        → IsScrubOf work config seats word (Err (failure_of_volume fault))
    scrub_fault there (volumes.Range most) is = absurd is
    scrub_fault there volumes.Lost is = then_within config seats word used usable ∙ ap (λ (b : Bool). first_refusal (refuse_if (not b) Lost ∷ [])) is
    scrub_fault there volumes.Unsure is = absurd is
    scrub_fault there volumes.Degraded is = absurd is
    scrub_fault there (volumes.Disk slot) is = record { used = used; usable = usable; there = there slot is; stopped = is }

-- ---- behind an assembly

module _ {D : Type 0} (tells : Type 0) (old middle new : BayState D)
    (falls : (s : ℕ) → old.failed_reads s ≤ middle.failed_reads s) (same_held : middle.held ≡ old.held) (same_sizes : middle.sizes ≡ old.sizes) where
  more : (slot : ℕ) → Failed middle new slot → Failed old new slot
  more slot failed = rose_since (old.failed_reads slot) (middle.failed_reads slot) (new.failed_reads slot) (falls slot) failed

  pub scrub_behind : (config : Configuration) (seats : List Seat) (word : List ℕ) (result : Result Scrub Failure) → IsScrubOf (work_of tells middle new) config seats word result
      → IsScrubOf (work_of tells old new) config seats word result
  scrub_behind config seats word (Ok found) is = record {
    used = is.used;
    usable = is.usable;
    accepted = is.accepted;
    scrubbed = λ told whole.
        subst (λ (image : Image). IsScrubbed is.used.1 image found) same_held (is.scrubbed told (subst AreSectors (sym same_held) whole));
  }
  scrub_behind config seats word (Err (Refused refusal)) is = is
  scrub_behind config seats word (Err (Disk slot)) is = record {
    used = is.used;
    usable = is.usable;
    there = subst (λ (sizes : List ℕ). slot < length sizes) same_sizes is.there;
    stopped = (is.stopped.0, (is.stopped.1.0, more slot is.stopped.1.1));
  }
  scrub_behind config seats word (Err Memory) is = is
  scrub_behind config seats word (Err (Conflict i j sequence differ)) is = is
  scrub_behind config seats word (Err (Split i j)) is = is

-- where a group was assembled
pub scrub_in : {D : Type 0} (work : Work D) (word : List ℕ) (group : GroupValue) (answer : Result GroupValue Assembly) (result : Result Scrub Failure)
    → UpToMemory (Ok group) answer → IsScrubOf work group.config (trusted_seats group) word result → IsScrubIn work word answer result
scrub_in work word group (Ok one) result (inl is) scrubbed = let same : group ≡ one = cc in subst (λ (g : GroupValue). IsScrubOf work g.config (trusted_seats g) word result) same scrubbed
scrub_in work word group (Err fault) result (inl is) scrubbed = absurd cc
scrub_in work word group answer result (inr is) scrubbed = absurd cc

-- where none was
pub no_group_in : {D : Type 0} (work : Work D) (word : List ℕ) (fault : Assembly) (answer : Result GroupValue Assembly) → UpToMemory (Err fault) answer
    → IsScrubIn work word answer (Err (failure_of fault))
no_group_in work word fault (Ok one) (inl is) = absurd cc
no_group_in work word fault (Ok one) (inr is) =
    let same : fault ≡ assembly.Memory = cc in
    subst (λ (f : Assembly). IsScrubOf work one.config (trusted_seats one) word (Err (failure_of f))) (sym same) tt
no_group_in work word fault (Err other) (inl is) = let same : fault ≡ other = cc in inl (ap (λ (f : Assembly). Err (failure_of f)) same)
no_group_in work word fault (Err other) (inr is) = let same : fault ≡ assembly.Memory = cc in inr (ap (λ (f : Assembly). Err (failure_of f)) same)

-- what it tells where memory ran out
pub not_scrubbed_told : (fault : Assembly) → ◌≡◌ {A = Result GroupValue Assembly} (Err fault) (Err assembly.Memory) → ◌≡◌ {A = Result Scrub Failure} (Err (failure_of fault)) (Err Memory)
not_scrubbed_told fault spent = let same : fault ≡ assembly.Memory = cc in ap (λ (one : Assembly). Err (failure_of one)) same

-- ---- before anything was done

-- memory runs out
memory_in : {D : Type 0} (work : Work D) (word : List ℕ) (group : Result GroupValue Assembly) → IsScrubIn work word group (Err Memory)
memory_in work word (Ok group) = tt
memory_in work word (Err fault) = inr refl

pub scrubbed_nothing : {D : Type 0} (old : BayState D) (tells told : Type 0) (before : SinkState) (named : Option (List ℕ)) (word : List ℕ) → IsLooked old old
    → IsScrubDone (work_of tells old old) named word (answer_of told before before 5)
scrubbed_nothing old tells told before named word looked = record {
  result = Err Memory;
  has = record {
    left = looked.left;
    every_slot = looked.every_slot;
    failed = looked.are_failed.rose;
    newest = newest_from old 0 looked.left;
    read = λ tells. refl;
    gone = λ given. absurd (given refl);
    gives = memory_in (work_of tells old old) word (group_of (newest_from old 0 looked.left) named);
  };
  ends = (refl, λ told. refl);
}

-- ---- how it ends

module _ {D : Type 0} (work : Work D) (named : Option (List ℕ)) (word : List ℕ) (answer : Answer) (stream : answer.status ≡ 6 → SinkRose answer.old answer.new) where
  rose_by : (slot : ℕ) (group : Result GroupValue Assembly) → IsScrubIn work word group (Err (Disk slot)) → SomeSlotRose work.old work.new
  rose_by slot (Ok group) is = record { slot = slot; there = is.there; rose = inl is.stopped.1.1 }
  rose_by slot (Err fault) is = absurd (⊎_elim (λ e. no_disk fault slot cc) (λ memory. cc) is)

  cause_by : (result : Result Scrub Failure) (group : Result GroupValue Assembly) → IsScrubIn work word group result → IsScrubTold result answer
      → HasCause (traits_of (commands.Scrub word)) work answer (SinkRose answer.old answer.new)
  cause_by (Ok found) group is told = ⊎_elim inl (short_cause (traits_of (commands.Scrub word)) work answer stream) told.ends
  cause_by (Err (Refused refusal)) group is told = refused_told (traits_of (commands.Scrub word)) work answer stream refl told
  cause_by (Err (Disk slot)) group is told = fault_told (traits_of (commands.Scrub word)) work answer stream (rose_by slot group is) told
  cause_by (Err (Conflict i j sequence differ)) group is told = contradicted_told (traits_of (commands.Scrub word)) work answer stream refl told
  cause_by (Err (Split i j)) group is told = contradicted_told (traits_of (commands.Scrub word)) work answer stream refl told
  cause_by (Err Memory) group is told = memory_cause (traits_of (commands.Scrub word)) work answer stream told.0

  pub scrub_ends : ReadsOnly work.old work.new → IsScrubDone work named word answer → Ends (traits_of (commands.Scrub word)) work answer
  scrub_ends reads done = record {
    cause = cause_by done.result (group_of done.has.newest named) done.has.gives done.ends;
    unwritten = λ un. reads;
    stays = λ none. reads;
    goes_on = reads.goes_on;
    same_sizes = reads.same_sizes;
  }
