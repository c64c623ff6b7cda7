-- The cause of a status, by what a command told.
use Rattle.std.proofs.Common.{◌≡◌, ◌⊎◌, inl, inr, ⊎_elim, ℕ, List, true, false, refl, subst, arith}
use Rattle.std.specs.Prelude.{IsTrue}
use Rattle.ddf_bytes.specs.Streams.{SourceState}
use Rattle.ddf_words.specs.declared.traits.Traits.{Traits}
use Rattle.ddf_group.specs.declared.answer.Assembly.{Assembly}
use Rattle.ddf_group.specs.declared.answer.Assembly.TheVariants as faults
use Rattle.ddf_answer.specs.Answers.{failure_of}
use Rattle.ddf_answer.specs.Call.{Answer, Work}
use Rattle.ddf_answer.specs.Ends.{Ends, EndsBy, HasCause, SomeSlotRose, StreamRose, is_unwritten}
use Rattle.ddf_answer.specs.Tells.{ClosesWith, EndsWith, IsCutShort}
use Rattle.ddf_answer.specs.declared.failure.Failure.TheVariants.{Disk}

-- ---- statuses of calls that may have written

pub wrote : (status other : ℕ) → is_unwritten other ≡ false → status ≡ other → IsTrue (is_unwritten status) → ⊥
wrote status other may same is =
    let here : IsTrue (is_unwritten other) = subst (λ (n : ℕ). IsTrue (is_unwritten n)) same is in
    cc

-- where it told this, unless the output gave out
pub closes_wrote : {expected : ℕ} {text : List ℕ} {answer : Answer} → is_unwritten expected ≡ false → ClosesWith expected text answer → IsTrue (is_unwritten answer.status) → ⊥
closes_wrote {expected = expected} {answer = answer} may closes is = ⊎_elim (λ same. wrote answer.status expected may same is) (λ six. wrote answer.status 6 refl six is) closes.ends

-- ---- causes

-- where there is no group no slot is named that failed
pub no_disk : (fault : Assembly) (slot : ℕ) → failure_of fault ≡ Disk slot → ⊥
no_disk faults.NoGroup slot e = cc
no_disk (faults.SeveralGroups first second) slot e = cc
no_disk (faults.Conflict i j sequence differ) slot e = cc
no_disk (faults.Split i j) slot e = cc
no_disk faults.Memory slot e = cc

module _ {D : Type 0} (traits : Traits) (work : Work D) (answer : Answer) {rose : Type 0} (stream : answer.status ≡ 6 → rose) where
  pub memory_cause : answer.status ≡ 5 → HasCause traits work answer rose
  memory_cause five = inr (inl five)

  pub fault_cause : SomeSlotRose work.old work.new → answer.status ≡ 3 → HasCause traits work answer rose
  fault_cause failed three = inr (inr (inr (inr (inl (three, failed)))))

  pub stream_cause : answer.status ≡ 6 → HasCause traits work answer rose
  stream_cause six = inr (inr (inr (inr (inr (inl (six, stream six))))))

  pub short_cause : IsCutShort answer.status → HasCause traits work answer rose
  short_cause short = ⊎_elim memory_cause stream_cause short

  module _ {text : List ℕ} where
    -- it was done
    pub done_told : ClosesWith 0 text answer → HasCause traits work answer rose
    done_told closes = ⊎_elim inl stream_cause closes.ends

    -- it was refused
    pub refused_told : traits.may_refuse ≡ true → EndsWith 1 text answer → HasCause traits work answer rose
    refused_told may ends = ⊎_elim (λ one. inr (inr (inl (one, may)))) short_cause ends.ends

    -- records contradict each other
    pub contradicted_told : traits.takes_group ≡ true → EndsWith 4 text answer → HasCause traits work answer rose
    contradicted_told takes ends = ⊎_elim (λ four. inr (inr (inr (inl (four, takes))))) short_cause ends.ends

    -- a call on a slot failed
    pub fault_told : SomeSlotRose work.old work.new → ClosesWith 3 text answer → HasCause traits work answer rose
    fault_told failed closes = ⊎_elim (fault_cause failed) stream_cause closes.ends

-- ---- streams

cause_by : {D : Type 0} (traits : Traits) (work : Work D) (answer : Answer) {rose other : Type 0} → (rose → other) → HasCause traits work answer rose → HasCause traits work answer other
cause_by traits work answer gives (inl done) = inl done
cause_by traits work answer gives (inr (inl memory)) = inr (inl memory)
cause_by traits work answer gives (inr (inr (inl refused))) = inr (inr (inl refused))
cause_by traits work answer gives (inr (inr (inr (inl contradicted)))) = inr (inr (inr (inl contradicted)))
cause_by traits work answer gives (inr (inr (inr (inr (inl fault))))) = inr (inr (inr (inr (inl fault))))
cause_by traits work answer gives (inr (inr (inr (inr (inr (inl stream)))))) = inr (inr (inr (inr (inr (inl (stream.0, gives stream.1))))))
cause_by traits work answer gives (inr (inr (inr (inr (inr (inr cut)))))) = inr (inr (inr (inr (inr (inr cut)))))

-- where one cause of status 6 gives another, a command that ends by the one ends by the other
pub ends_by : {D : Type 0} (traits : Traits) (work : Work D) (answer : Answer) {rose other : Type 0} → (rose → other) → EndsBy traits work answer rose → EndsBy traits work answer other
ends_by traits work answer gives ends = record {
  cause = cause_by traits work answer gives ends.cause;
  unwritten = ends.unwritten;
  stays = ends.stays;
  goes_on = ends.goes_on;
  same_sizes = ends.same_sizes;
}

-- a command ends so whatever became of its input
pub ends_with_input : {D : Type 0} (traits : Traits) (work : Work D) (answer : Answer) (input_old input_new : SourceState) → Ends traits work answer
    → EndsBy traits work answer (StreamRose traits input_old input_new answer)
ends_with_input traits work answer input_old input_new ends = ends_by traits work answer inl ends

-- ---- what the cause of a status tells

-- where nothing failed it is done, or memory ran out, or it is refused, or records contradict each other, or it is cut
abbrev pub IsFaultless : Traits → Answer → Type 0
IsFaultless traits answer =
    (answer.status ≡ 0) ⊎ (answer.status ≡ 5) ⊎ ((answer.status ≡ 1) × (traits.may_refuse ≡ true)) ⊎ ((answer.status ≡ 4) × (traits.takes_group ≡ true))
    ⊎ ((answer.status ≡ 7) × (traits.takes_input ≡ true))

module _ {D : Type 0} (traits : Traits) (work : Work D) (answer : Answer) (rose : Type 0) where
  -- no status is that of words
  pub words_by : HasCause traits work answer rose → answer.status ≡ 2 → ⊥
  words_by (inl zero) two = omega (arith, two, zero)
  words_by (inr (inl five)) two = omega (arith, two, five)
  words_by (inr (inr (inl one))) two = omega (arith, two, one.0)
  words_by (inr (inr (inr (inl four)))) two = omega (arith, two, four.0)
  words_by (inr (inr (inr (inr (inl three))))) two = omega (arith, two, three.0)
  words_by (inr (inr (inr (inr (inr (inl six)))))) two = omega (arith, two, six.0)
  words_by (inr (inr (inr (inr (inr (inr seven)))))) two = omega (arith, two, seven.0)

  -- status 3 comes from a slot
  pub slot_by : HasCause traits work answer rose → answer.status ≡ 3 → SomeSlotRose work.old work.new
  slot_by (inl zero) e = absurd (omega (arith, e, zero))
  slot_by (inr (inl five)) e = absurd (omega (arith, e, five))
  slot_by (inr (inr (inl one))) e = absurd (omega (arith, e, one.0))
  slot_by (inr (inr (inr (inl four)))) e = absurd (omega (arith, e, four.0))
  slot_by (inr (inr (inr (inr (inl three))))) e = three.1
  slot_by (inr (inr (inr (inr (inr (inl six)))))) e = absurd (omega (arith, e, six.0))
  slot_by (inr (inr (inr (inr (inr (inr seven)))))) e = absurd (omega (arith, e, seven.0))

  -- and status 6 from a stream
  pub stream_by : HasCause traits work answer rose → answer.status ≡ 6 → rose
  stream_by (inl zero) e = absurd (omega (arith, e, zero))
  stream_by (inr (inl five)) e = absurd (omega (arith, e, five))
  stream_by (inr (inr (inl one))) e = absurd (omega (arith, e, one.0))
  stream_by (inr (inr (inr (inl four)))) e = absurd (omega (arith, e, four.0))
  stream_by (inr (inr (inr (inr (inl three))))) e = absurd (omega (arith, e, three.0))
  stream_by (inr (inr (inr (inr (inr (inl six)))))) e = six.1
  stream_by (inr (inr (inr (inr (inr (inr seven)))))) e = absurd (omega (arith, e, seven.0))

  pub fault_by : HasCause traits work answer rose → (SomeSlotRose work.old work.new → ⊥) → (rose → ⊥) → IsFaultless traits answer
  fault_by (inl zero) none good = inl zero
  fault_by (inr (inl five)) none good = inr (inl five)
  fault_by (inr (inr (inl one))) none good = inr (inr (inl one))
  fault_by (inr (inr (inr (inl four)))) none good = inr (inr (inr (inl four)))
  fault_by (inr (inr (inr (inr (inl three))))) none good = absurd (none three.1)
  fault_by (inr (inr (inr (inr (inr (inl six)))))) none good = absurd (good six.1)
  fault_by (inr (inr (inr (inr (inr (inr seven)))))) none good = inr (inr (inr (inr seven)))
