-- Laws for those who only read a bay.
use Rattle.std.proofs.Common.{◌≡◌, ◌≢◌, ℕ, zero, suc, ◌+◌, ◌-◌, ◌<◌, ◌≤◌, List, [], ◌∷◌, ◌++◌, length, get_or, replicate, Bool, true, false, refl, sym, ap, arith, ◌∙◌, ⊎_elim, inl, inr, length-append, add-zero}
use Rattle.std.specs.Prelude.{slice_index}
use Rattle.std.proofs.lemmas.Bool.{cases_lt}
use Rattle.std.proofs.lemmas.List.{get_or_append_left, get_or-append-add, get_or-append_right}
use Rattle.ddf_bay.specs.State.{BayState}
use Rattle.ddf_bay.specs.ReadsOnly.{AreFailed, LookFailed, LooksAt, ReadsOnly, SlotRose, SlotSame}

-- before the first call
pub reads_start : {D : Type 0} (a : BayState D) → ReadsOnly a a
reads_start a = record {
  goes_on = λ bay leads. leads;
  same_sizes = refl;
  same_held = refl;
  keeps = λ s l bytes may. may;
  any_moment = record { later = omega arith; since = λ t image le left. inl left };
  none_written = refl;
  none_asked = refl;
}

-- one call more
pub reads_then : {D : Type 0} {a b c : BayState D} → ReadsOnly a b → ReadsOnly b c → ReadsOnly a c
reads_then so_far next = record {
  goes_on = λ bay leads. so_far.goes_on bay (next.goes_on bay leads);
  same_sizes = next.same_sizes ∙ so_far.same_sizes;
  same_held = next.same_held ∙ so_far.same_held;
  keeps = λ s l bytes may. so_far.keeps s l bytes (next.keeps s l bytes may);
  any_moment = record {
    later = omega (arith, so_far.any_moment.later, next.any_moment.later);
    since = λ t image le left. ⊎_elim
        (so_far.any_moment.since t image le)
        (λ now. inr (λ s l. so_far.keeps s l (image s l) (now s l)))
        (next.any_moment.since t image (omega (arith, le, so_far.any_moment.later)) left);
  };
  none_written = next.none_written ∙ so_far.none_written;
  none_asked = next.none_asked ∙ so_far.none_asked;
}

-- one look more at a slot, behind one of which no call failed
pub looks_then : {D : Type 0} {a b c : BayState D} (slot : ℕ) (failed : Bool)
    → LooksAt a b slot false → LooksAt b c slot failed → LooksAt a c slot failed
looks_then slot failed so_far next =
    let reads = (so_far.same refl).0 in
    let writes = (so_far.same refl).1 in
    record {
      reads = record {
        never_falls = λ s. omega (arith, so_far.reads.never_falls s, next.reads.never_falls s);
        other_slots = λ s other. next.reads.other_slots s other ∙ so_far.reads.other_slots s other;
      };
      writes = record {
        never_falls = λ s. omega (arith, so_far.writes.never_falls s, next.writes.never_falls s);
        other_slots = λ s other. next.writes.other_slots s other ∙ so_far.writes.other_slots s other;
      };
      same_sizes = next.same_sizes ∙ so_far.same_sizes;
      rose = λ is. rw (reads, writes, so_far.same_sizes) at (next.rose is);
      same = λ is. ((next.same is).0 ∙ reads, (next.same is).1 ∙ writes);
      unsynced = λ some. next.unsynced (rw so_far.same_sizes some) ∙ writes;
    }

-- a look that failed is a call on the slot that did
pub look_rose : {D : Type 0} (old new : BayState D) (slot : ℕ) → LookFailed old new slot → SlotRose old new slot
look_rose old new slot (inl reads) = inl reads
look_rose old new slot (inr writes) = inr writes.1

-- before the first slot
pub none_failed : {D : Type 0} (old now : BayState D) → AreFailed old now []
none_failed old now = record { rose = λ s lt. absurd (omega (arith, lt)); same = λ s lt. absurd (omega (arith, lt)); unsynced = λ s lt. absurd (omega (arith, lt)) }

-- ---- the slots that failed

module _ {D : Type 0} (old now next : BayState D) (fs : List Bool) (b : Bool) (so_far : AreFailed old now fs)
    (later : (s : ℕ) → length fs ≤ s → SlotSame old now s) (same_sizes : now.sizes ≡ old.sizes) (look : LooksAt now next (length fs) b) where
  -- other slots stay
  still : (s : ℕ) → s ≢ length fs → SlotSame now next s
  still s differs = (look.reads.other_slots s differs, look.writes.other_slots s differs)

  same_on : (s : ℕ) → s ≢ length fs → SlotSame old now s → SlotSame old next s
  same_on s differs same = ((still s differs).0 ∙ same.0, (still s differs).1 ∙ same.1)

  rose_on : (s : ℕ) → s ≢ length fs → LookFailed old now s → LookFailed old next s
  rose_on s differs (inl reads) = inl (rw (still s differs).0 reads)
  rose_on s differs (inr writes) = inr (writes.0, rw (still s differs).1 writes.1)

  here_rose : b ≡ true → LookFailed old next (length fs)
  here_rose failed = let same = later (length fs) (omega arith) in ⊎_elim
      (λ reads. inl (rw (← same.0) reads))
      (λ writes. inr (ap (λ (sizes : List ℕ). slice_index sizes (length fs)) (sym same_sizes) ∙ writes.0, rw (← same.1) writes.1))
      (look.rose failed)

  here_same : b ≡ false → SlotSame old next (length fs)
  here_same good = let same = later (length fs) (omega arith) in ((look.same good).0 ∙ same.0, (look.same good).1 ∙ same.1)

  here_unsynced : 0 < slice_index old.sizes (length fs) → next.failed_writes (length fs) ≡ old.failed_writes (length fs)
  here_unsynced some = look.unsynced (rw same_sizes some) ∙ (later (length fs) (omega arith)).1

  earlier : (s : ℕ) → s < length fs → get_or (fs ++ b ∷ []) s false ≡ get_or fs s false
  earlier s lt = get_or_append_left fs (b ∷ []) false s lt

  here : get_or (fs ++ b ∷ []) (length fs) false ≡ b
  here = ap (λ (n : ℕ). get_or (fs ++ b ∷ []) n false) (sym (add-zero (length fs))) ∙ get_or-append-add fs (b ∷ []) 0 false

  one_longer : length (fs ++ b ∷ []) ≡ length fs + 1
  one_longer = length-append fs (b ∷ [])

  pub failed_more : AreFailed old next (fs ++ b ∷ [])
  failed_more = record {
    rose = λ s lt h. ⊎_elim
        (λ before. rose_on s (λ e. omega (arith, e, before)) (so_far.rose s before (rw (earlier s before) at h)))
        (λ from. let e : s ≡ length fs = omega (arith, one_longer) in rw e (here_rose (sym here ∙ (rw e at h))))
        (cases_lt s (length fs));
    same = λ s lt h. ⊎_elim
        (λ before. same_on s (λ e. omega (arith, e, before)) (so_far.same s before (sym (earlier s before) ∙ h)))
        (λ from. let e : s ≡ length fs = omega (arith, one_longer) in rw e (here_same (sym here ∙ (rw e at h))))
        (cases_lt s (length fs));
    unsynced = λ s lt some. ⊎_elim
        (λ before. (still s (λ e. omega (arith, e, before))).1 ∙ so_far.unsynced s before some)
        (λ from. let e : s ≡ length fs = omega (arith, one_longer) in rw e (here_unsynced (rw e at some)))
        (cases_lt s (length fs));
  }

  pub later_more : (s : ℕ) → length fs + 1 ≤ s → SlotSame old next s
  later_more s beyond = same_on s (λ e. omega (arith, e, beyond)) (later s (omega arith))

-- slots that were not looked at did not fail
pub failed_padded : {D : Type 0} (old now : BayState D) (fs : List Bool) (count : ℕ) → AreFailed old now fs
    → ((s : ℕ) → length fs ≤ s → SlotSame old now s) → AreFailed old now (fs ++ replicate count false)
failed_padded old now fs count so_far later = record {
  rose = λ s lt h. ⊎_elim
      (λ before. so_far.rose s before (rw (get_or_append_left fs (replicate count false) false s before) at h))
      (λ from. let quiet : get_or (fs ++ replicate count false) s false ≡ false = get_or-append_right fs (replicate count false) (length fs) s false refl from ∙ all_quiet count (s - length fs) in cc)
      (cases_lt s (length fs));
  same = λ s lt h. ⊎_elim
      (λ before. so_far.same s before (sym (get_or_append_left fs (replicate count false) false s before) ∙ h))
      (λ from. later s from)
      (cases_lt s (length fs));
  unsynced = λ s lt some. ⊎_elim
      (λ before. so_far.unsynced s before some)
      (λ from. (later s from).1)
      (cases_lt s (length fs));
}
  where
    all_quiet : (n k : ℕ) → get_or (replicate n false) k false ≡ false
    all_quiet zero k = refl
    all_quiet (suc n) zero = refl
    all_quiet (suc n) (suc k) = all_quiet n k
