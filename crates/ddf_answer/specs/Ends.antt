-- How a command ends, by what it may do.
use Rattle.std.specs.Prelude.{◌≡◌, ◌⊎◌, ℕ, ◌<◌, [], ◌∷◌, length, Bool, true, false, ◌==◌, IsTrue}
use Rattle.std.specs.List.{list_any}
use Rattle.ddf_bytes.specs.Counts.{Rose}
use Rattle.ddf_bytes.specs.Streams.{SinkRose, SourceState}
use Rattle.ddf_bay.specs.Moments.{GoesOn}
use Rattle.ddf_bay.specs.ReadsOnly.{ReadsOnly, SlotRose}
use Rattle.ddf_bay.specs.State.{BayState}
use Rattle.ddf_words.specs.declared.traits.Traits.{Traits}
use Rattle.ddf_answer.specs.Call.{Answer, Work}

-- the statuses of calls that wrote nothing: it was refused, the words were no command's, records contradict each other, or memory ran out
abbrev pub is_unwritten : ℕ → Bool
is_unwritten number = list_any (λ status. status == number) (1 ∷ 2 ∷ 4 ∷ 5 ∷ [])

-- A call on some slot failed.
pub record SomeSlotRose {D : Type 0} (old new : BayState D) : Type 0 where
  pub slot : ℕ
  pub there : slot < length old.sizes
  pub rose : SlotRose old new slot

-- Each status has its cause, of a command that may do this: it was done; memory ran out; it was refused, where it may be; records of the group
-- contradict each other, where it takes one; a call on a slot failed; a stream did, as `rose` says; or it was cut behind its first pieces, where it
-- takes bytes from the input.
abbrev pub HasCause : {D : Type 0} → Traits → Work D → Answer → (rose : Type 0) → Type 0
HasCause traits work answer rose =
    (answer.status ≡ 0) ⊎ (answer.status ≡ 5) ⊎ ((answer.status ≡ 1) × (traits.may_refuse ≡ true)) ⊎ ((answer.status ≡ 4) × (traits.takes_group ≡ true))
    ⊎ ((answer.status ≡ 3) × SomeSlotRose work.old work.new) ⊎ ((answer.status ≡ 6) × rose) ⊎ ((answer.status ≡ 7) × (traits.takes_input ≡ true))

-- How a command ends that may do this. At the statuses of calls that wrote nothing nothing was written, and where it may not write at none.
pub record EndsBy {D : Type 0} (traits : Traits) (work : Work D) (answer : Answer) (rose : Type 0) : Type 0 where
  pub cause : HasCause traits work answer rose
  pub unwritten : IsTrue (is_unwritten answer.status) → ReadsOnly work.old work.new
  pub stays : traits.may_write ≡ false → ReadsOnly work.old work.new
  pub goes_on : GoesOn work.old work.new
  pub same_sizes : work.new.sizes ≡ work.old.sizes

-- where it has no stream but its output
abbrev pub Ends : {D : Type 0} → Traits → Work D → Answer → Type 0
Ends traits work answer = EndsBy traits work answer (SinkRose answer.old answer.new)

-- A stream of a command that may do this failed: its output, or its input where it takes bytes from it.
abbrev pub StreamRose : Traits → (input_old input_new : SourceState) → Answer → Type 0
StreamRose traits input_old input_new answer = SinkRose answer.old answer.new ⊎ ((traits.takes_input ≡ true) × Rose input_old.faults input_new.faults)
