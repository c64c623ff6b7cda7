-- What calls that write nothing make of a bay in memory.
use Rattle.std.proofs.Common.{◌≡◌, ◌≢◌, ◌⊎◌, ℕ, zero, suc, replicate, ◌+◌, ◌-◌, ◌^◌, ◌<◌, ◌≤◌, List, Bool, true, false, inl, inr, ⊎_elim, refl, sym, ap, ◌∙◌, arith}
use Rattle.std.proofs.lemmas.Bool.{cases_eq, false≢true}
use Rattle.std.proofs.lemmas.Grind.{common_steps}
use Rattle.std.specs.Prelude.{slice_index, slice_index_or}
use Rattle.ddf_bay.specs.declared.logged_write.LoggedWrite.{LoggedWrite}
use Rattle.ddf_bay.specs.State.{BayState}
use Rattle.ddf_bay.specs.Moments.{GoesOn, Spends}
use Rattle.ddf_bay.specs.Counting.{AreWithin, one_more}
use Rattle.ddf_bay.specs.Memory.{IsPlugged, LeavesNoMore, MayBecome, MemoryState, fails_next}

-- On a slot that is plugged in the next call doesn't fail, where none is listed.
plugged_passes : (bay : MemoryState) (slot : ℕ) → IsPlugged bay slot → fails_next bay slot ≡ false
plugged_passes bay slot plugged = rw (plugged.plugged, plugged.none_listed, plugged.never_over) refl

-- A call that failed counts on no such slot.
pub counts_elsewhere : (bay : MemoryState) (slot : ℕ) (fails : Bool) → fails ≡ fails_next bay slot → fails ≡ true → (old new : List ℕ)
    → ((s : ℕ) → s ≢ slot → slice_index new s ≡ slice_index old s) → (s : ℕ) → IsPlugged bay s → slice_index new s ≡ slice_index old s
counts_elsewhere bay slot fails is failed old new others s plugged =
    others s (λ same. false≢true (sym (plugged_passes bay s plugged) ∙ ap (fails_next bay) same ∙ sym is ∙ failed))

-- A write that failed counts on none either, but where it lacks room.
pub writes_elsewhere : (bay : MemoryState) (slot : ℕ) (fails : Bool) → fails ≡ fails_next bay slot → {P : Type 0} → (fails ≡ true) ⊎ P → (old new : List ℕ)
    → ((s : ℕ) → s ≢ slot → slice_index new s ≡ slice_index old s) → (s : ℕ) → IsPlugged bay s → (slice_index new s ≡ slice_index old s) ⊎ P
writes_elsewhere bay slot fails is (inl failed) old new others s plugged = inl (counts_elsewhere bay slot fails is failed old new others s plugged)
writes_elsewhere bay slot fails is (inr short) old new others s plugged = inr short

-- A slot that is unplugged fails each call.
pub gone_fails : (bay : MemoryState) (slot : ℕ) → slice_index_or bay.unplugged slot false ≡ true → fails_next bay slot ≡ true
gone_fails bay slot gone = rw gone refl

-- ---- counts and the clock

-- one more is counted of each
later_more : (n m : ℕ) → n ≤ m → one_more n ≤ one_more m
later_more n m le = grind (arith, common_steps)

-- a call moves the clock by one at most, and is counted
pub most_later : (clock now made more : ℕ) → now ≤ clock + 1 → (more < 2 ^ 64 - 1 → more ≡ made + 1) → more < 2 ^ 64 - 1 → now + made ≤ clock + more
most_later clock now made more most counts below = let one = counts below in omega (arith, most, one)

-- none is counted yet
pub none_within : (count : ℕ) → AreWithin (replicate count 0) 0
none_within zero slot = omega arith
none_within (suc count) zero = omega arith
none_within (suc count) (suc slot) = none_within count slot

pub within_later : (counts : List ℕ) (clock now : ℕ) → clock ≤ now → AreWithin counts clock → AreWithin counts now
within_later counts clock now up within slot = let low = within slot in omega (arith, low, up)

pub within_raised : (old new : List ℕ) (slot clock now : ℕ) → clock ≤ now → now ≡ one_more clock → slice_index new slot ≤ one_more (slice_index old slot)
    → ((s : ℕ) → s ≢ slot → slice_index new s ≡ slice_index old s) → AreWithin old clock → AreWithin new now
within_raised old new slot clock now up is here others within s =
    ⊎_elim
    (λ same. let most = later_more (slice_index old slot) clock (within slot) in rw same (omega (arith, here, most, is)))
    (λ differs. let low = within s in let as_before = others s differs in omega (arith, low, as_before, up))
    (cases_eq s slot)

-- Such a call moves the clock, counts itself and a fault, and may make logged writes sure.
pub becomes_still : (bay : MemoryState) (clock calls room : ℕ) (reads writes : List ℕ) (logged : List LoggedWrite)
    → room ≡ bay.room → bay.calls ≤ calls → (calls < 2 ^ 64 - 1 → clock + bay.calls ≤ bay.clock + calls)
    → ((s : ℕ) → IsPlugged bay s → slice_index reads s ≡ slice_index bay.failed_reads s) → ((s : ℕ) → IsPlugged bay s → slice_index writes s ≡ slice_index bay.failed_writes s)
    → LeavesNoMore bay (record bay { clock = clock; calls = calls; room = room; failed_reads = reads; failed_writes = writes; logged = logged })
    → MayBecome bay (record bay { clock = clock; calls = calls; room = room; failed_reads = reads; failed_writes = writes; logged = logged })
becomes_still bay clock calls room reads writes logged same_room up most no_reads no_writes no_more = record {
  same_sizes = refl;
  same_failing = refl;
  same_stop = refl;
  same_unplugged = refl;
  same_room = omega (arith, same_room);
  written_up = omega arith;
  asked_up = omega arith;
  no_reads = no_reads;
  no_writes = λ s plugged. inl (no_writes s plugged);
  later = no_more.later;
  calls_up = up;
  most_later = most;
  unasked = λ same low. no_more;
}

-- It costs a call.
pub spends_still : {D : Type 0} {kept rising : BayState D → ℕ → ℕ} {a b : BayState D} (slot : ℕ) → GoesOn a b → (b.tells_left → a.tells_left) → b.sizes ≡ a.sizes → kept b ≡ kept a
    → ((s : ℕ) → rising a s ≤ rising b s) → ((s : ℕ) → s ≢ slot → rising b s ≡ rising a s)
    → b.sectors_asked ≡ a.sectors_asked → b.sectors_written ≡ a.sectors_written → a.calls ≤ b.calls → b.calls ≤ a.calls + 1
    → Spends kept rising a b slot 0 1
spends_still slot goes_on told sizes same rises others asked written calls most = record {
  goes_on = goes_on;
  told = told;
  same_sizes = sizes;
  same = same;
  rises = rises;
  other_slots = others;
  costs = record {
    asked_up = omega (arith, asked);
    asked = omega (arith, asked);
    written_up = omega (arith, written);
    written = omega (arith, written);
    calls_up = calls;
    calls_most = most;
  };
}
