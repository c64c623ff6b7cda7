-- The trait's laws for a bay in memory, and what its clock adds: past the last value nothing is told.
use Rattle.std.specs.Prelude.{◌≡◌, ◌⊎◌, ℕ, ◌+◌, ◌-◌, ◌^◌, ◌<◌, ◌≤◌, List, [], ◌∷◌, ◌++◌, zero, suc, Bool, true, false, IsTrue, nat_le, slice_index, slice_index_or}
use Rattle.std.specs.List.{list_all}
use Rattle.std.proofs.Common.{arith, refl, ap, ◌∙◌, subst, inl, inr, ⊎_elim}
use Rattle.std.proofs.lemmas.Bool.{cases_lt}
use Rattle.std.proofs.lemmas.Grind.{common_steps}
use Rattle.ddf_bay.specs.declared.logged_write.LoggedWrite.{LoggedWrite}
use Rattle.ddf_bay.specs.Sectors.{InRun}
use Rattle.ddf_bay.specs.Memory.{IsPlugged, LeavesNoMore, MayBecome, MemoryState}
use Rattle.ddf_bay.specs.Logged.{MayHold, LeftSince, held_of, are_past, settled, run_logged, survivors}
use Rattle.ddf_bay.specs.LoggedLaws.{left_later, left_before, left_added, sync_keeps, sync_before, survivors_left, survivors_settled, stop_before, left_after_run, left_after_sync}

pub left_only : (clock : ℕ) (rs : List LoggedWrite) (image : ℕ → ℕ → List ℕ) → (clock < 2 ^ 64 - 1) × LeftSince clock rs clock image → (s l : ℕ) → (clock < 2 ^ 64 - 1) × MayHold clock rs s l (image s l)
left_only clock rs image left s l =
    let e : left.1.moment ≡ clock = omega (arith, left.1.from, left.1.until) in
    (left.0, subst (λ (m : ℕ). MayHold m rs s l (image s l)) e (left.1.left s l))

pub left_counts : (clock : ℕ) (rs : List LoggedWrite) (t : ℕ) (image : ℕ → ℕ → List ℕ) → t ≤ clock → ((s l : ℕ) → (clock < 2 ^ 64 - 1) × MayHold clock rs s l (image s l)) → (clock < 2 ^ 64 - 1) × LeftSince clock rs t image
left_counts clock rs t image le left = ((left 0 0).0, record { moment = clock; from = le; until = omega arith; left = λ s l. (left s l).1 })

pub size_small : (sizes : List ℕ) (s : ℕ) → IsTrue (list_all (λ n. nat_le n (2 ^ 55)) sizes) → slice_index sizes s ≤ 2 ^ 55
size_small [] s small = omega arith
size_small (n ∷ sizes) zero small = grind (arith, common_steps)
size_small (n ∷ sizes) (suc s) small = grind (arith, common_steps, size_small sizes s)

-- what is told at a moment was told before
pub told_earlier : (clock now : ℕ) → clock ≤ now → now < 2 ^ 64 - 1 → clock < 2 ^ 64 - 1
told_earlier clock now up told = omega (arith, up, told)

-- A call moves the clock by one. An image of a stop since t is then one of those before, or of this moment.
pub since_now : (clock now : ℕ) (rs rs' : List LoggedWrite) → (now < 2 ^ 64 - 1 → now ≡ clock + 1)
    → ((m s l : ℕ) (v : List ℕ) → m < now → MayHold m rs' s l v → MayHold m rs s l v)
    → (t : ℕ) (image : ℕ → ℕ → List ℕ) → (now < 2 ^ 64 - 1) × LeftSince now rs' t image
    → ((clock < 2 ^ 64 - 1) × LeftSince clock rs t image) ⊎ ((s l : ℕ) → (now < 2 ^ 64 - 1) × MayHold now rs' s l (image s l))
since_now clock now rs rs' moves earlier t image (told, left) =
    let e : now ≡ clock + 1 = moves told in
    ⊎_elim
    (λ before. inl (omega arith, record { moment = left.moment; from = left.from; until = omega arith; left = λ s l. earlier left.moment s l (image s l) before (left.left s l) }))
    (λ here. let same : left.moment ≡ now = omega (arith, here, left.until) in inr (λ s l. (told, subst (λ (m : ℕ). MayHold m rs' s l (image s l)) same (left.left s l))))
    (cases_lt left.moment now)

-- a call that leaves the logged writes
pub still_left : (clock now : ℕ) (rs : List LoggedWrite) → IsTrue (are_past clock rs) → clock ≤ now → (now < 2 ^ 64 - 1 → now ≡ clock + 1)
    → (s l : ℕ) (v : List ℕ) → (now < 2 ^ 64 - 1) × MayHold now rs s l v → (clock < 2 ^ 64 - 1) × MayHold clock rs s l v
still_left clock now rs past up moves s l v (told, left) = let e = moves told in (omega arith, left_later clock now rs s l v up past left)

pub still_since : (clock now : ℕ) (rs : List LoggedWrite) → IsTrue (are_past clock rs) → clock ≤ now → (now < 2 ^ 64 - 1 → now ≡ clock + 1)
    → (t : ℕ) (image : ℕ → ℕ → List ℕ) → t ≤ clock → (now < 2 ^ 64 - 1) × LeftSince now rs t image
    → ((clock < 2 ^ 64 - 1) × LeftSince clock rs t image) ⊎ ((s l : ℕ) → (clock < 2 ^ 64 - 1) × MayHold clock rs s l (image s l))
still_since clock now rs past up moves t image le left =
    ⊎_elim inl (λ here. inr (λ s l. still_left clock now rs past up moves s l (image s l) (here s l))) (since_now clock now rs rs moves (λ m s l v lt before. before) t image left)

-- a good sync of a slot
pub sync_left : (clock now slot : ℕ) (rs : List LoggedWrite) → IsTrue (are_past clock rs) → clock ≤ now → (now < 2 ^ 64 - 1 → now ≡ clock + 1)
    → (s l : ℕ) (v : List ℕ) → (now < 2 ^ 64 - 1) × MayHold now (settled slot now rs) s l v → (clock < 2 ^ 64 - 1) × MayHold clock rs s l v
sync_left clock now slot rs past up moves s l v (told, left) = let e = moves told in (omega arith, sync_keeps clock now slot rs s l v up past left)

pub sync_since : (clock now slot : ℕ) (rs : List LoggedWrite) → IsTrue (are_past clock rs) → clock ≤ now → (now < 2 ^ 64 - 1 → now ≡ clock + 1)
    → (t : ℕ) (image : ℕ → ℕ → List ℕ) → t ≤ clock → (now < 2 ^ 64 - 1) × LeftSince now (settled slot now rs) t image
    → ((clock < 2 ^ 64 - 1) × LeftSince clock rs t image) ⊎ ((s l : ℕ) → (clock < 2 ^ 64 - 1) × MayHold clock rs s l (image s l))
sync_since clock now slot rs past up moves t image le left =
    ⊎_elim inl (λ here. inr (λ s l. sync_left clock now slot rs past up moves s l (image s l) (here s l))) (since_now clock now rs (settled slot now rs) moves (λ m s l v lt before. sync_before m slot now rs s l v lt before) t image left)

-- a run written
pub run_left : (clock now : ℕ) (rs : List LoggedWrite) (slot lba : ℕ) (vs : List (List ℕ)) → IsTrue (are_past clock rs) → clock ≤ now → (now < 2 ^ 64 - 1 → now ≡ clock + 1)
    → (s l : ℕ) (v : List ℕ) → (now < 2 ^ 64 - 1) × MayHold now (rs ++ run_logged slot lba now vs) s l v → ((clock < 2 ^ 64 - 1) × MayHold clock rs s l v) ⊎ ((s ≡ slot) × InRun lba vs l v)
run_left clock now rs slot lba vs past up moves s l v (told, left) =
    let e = moves told in
    ⊎_elim (λ old. inl (omega arith, left_later clock now rs s l v up past old)) inr (left_added now rs slot lba now vs s l v left)

pub run_since : (clock now : ℕ) (rs : List LoggedWrite) (slot lba : ℕ) (vs : List (List ℕ)) → IsTrue (are_past clock rs) → clock ≤ now → (now < 2 ^ 64 - 1 → now ≡ clock + 1)
    → (t : ℕ) (image : ℕ → ℕ → List ℕ) → t ≤ clock → (now < 2 ^ 64 - 1) × LeftSince now (rs ++ run_logged slot lba now vs) t image
    → ((clock < 2 ^ 64 - 1) × LeftSince clock rs t image) ⊎ ((s l : ℕ) → ((clock < 2 ^ 64 - 1) × MayHold clock rs s l (image s l)) ⊎ ((s ≡ slot) × InRun lba vs l (image s l)))
run_since clock now rs slot lba vs past up moves t image le left =
    ⊎_elim inl (λ here. inr (λ s l. run_left clock now rs slot lba vs past up moves s l (image s l) (here s l))) (since_now clock now rs (rs ++ run_logged slot lba now vs) moves (λ m s l v lt before. left_before m rs slot lba now vs s l v lt before) t image left)

-- a stop
pub stop_left : (clock : ℕ) (keep : List Bool) (rs : List LoggedWrite) → IsTrue (are_past clock rs) → clock < 2 ^ 64 - 1
    → (s l : ℕ) → (clock < 2 ^ 64 - 1) × MayHold clock rs s l (held_of (survivors clock keep rs) s l)
stop_left clock keep rs past told s l = (told, survivors_left clock clock keep rs s l past)

pub stop_keeps : (clock : ℕ) (keep : List Bool) (rs : List LoggedWrite) (s l : ℕ) (v : List ℕ) → IsTrue (are_past clock rs) → MayHold clock (survivors clock keep rs) s l v → MayHold clock rs s l v
stop_keeps clock keep rs s l v past left = rw (survivors_settled clock keep rs s l v past left) (survivors_left clock clock keep rs s l past)

pub stop_since : (clock : ℕ) (keep : List Bool) (rs : List LoggedWrite) → IsTrue (are_past clock rs)
    → (t : ℕ) (image : ℕ → ℕ → List ℕ) → t ≤ clock → (clock < 2 ^ 64 - 1) × LeftSince clock (survivors clock keep rs) t image
    → ((clock < 2 ^ 64 - 1) × LeftSince clock rs t image) ⊎ ((s l : ℕ) → (clock < 2 ^ 64 - 1) × MayHold clock rs s l (image s l))
stop_since clock keep rs past t image le (told, left) =
    ⊎_elim
    (λ before. inl (told, record { moment = left.moment; from = left.from; until = left.until; left = λ s l. stop_before left.moment clock keep rs s l (image s l) before (left.left s l) }))
    (λ here. let same : left.moment ≡ clock = omega (arith, here, left.until) in
    inr (λ s l. (told, stop_keeps clock keep rs s l (image s l) past (subst (λ (m : ℕ). MayHold m (survivors clock keep rs) s l (image s l)) same (left.left s l)))))
    (cases_lt left.moment clock)

-- ---- what was told is told on

pub still_remembers : (clock now : ℕ) (rs rs' : List LoggedWrite) → clock ≤ now → now < 2 ^ 64 - 1
    → ((m s l : ℕ) (v : List ℕ) → m ≤ clock → MayHold m rs s l v → MayHold m rs' s l v)
    → (t : ℕ) (image : ℕ → ℕ → List ℕ) → t ≤ clock → (clock < 2 ^ 64 - 1) × LeftSince clock rs t image → (now < 2 ^ 64 - 1) × LeftSince now rs' t image
still_remembers clock now rs rs' up told same t image le left =
    (told, record { moment = left.1.moment; from = left.1.from; until = omega (arith, left.1.until, up); left = λ s l. same left.1.moment s l (image s l) left.1.until (left.1.left s l) })

pub same_remembers : (clock now : ℕ) (rs : List LoggedWrite) → clock ≤ now → now < 2 ^ 64 - 1
    → (t : ℕ) (image : ℕ → ℕ → List ℕ) → t ≤ clock → (clock < 2 ^ 64 - 1) × LeftSince clock rs t image → (now < 2 ^ 64 - 1) × LeftSince now rs t image
same_remembers clock now rs up told = still_remembers clock now rs rs up told (λ m s l v le left. left)

pub run_remembers : (clock now : ℕ) (rs : List LoggedWrite) (slot lba : ℕ) (vs : List (List ℕ)) → clock ≤ now → now < 2 ^ 64 - 1
    → (t : ℕ) (image : ℕ → ℕ → List ℕ) → t ≤ clock → (clock < 2 ^ 64 - 1) × LeftSince clock rs t image → (now < 2 ^ 64 - 1) × LeftSince now (rs ++ run_logged slot lba now vs) t image
run_remembers clock now rs slot lba vs up told = still_remembers clock now rs (rs ++ run_logged slot lba now vs) up told (λ m s l v le left. left_after_run m rs slot lba now vs s l v left)

pub sync_remembers : (clock now slot : ℕ) (rs : List LoggedWrite) → clock ≤ now → (now < 2 ^ 64 - 1 → now ≡ clock + 1) → now < 2 ^ 64 - 1
    → (t : ℕ) (image : ℕ → ℕ → List ℕ) → t ≤ clock → (clock < 2 ^ 64 - 1) × LeftSince clock rs t image → (now < 2 ^ 64 - 1) × LeftSince now (settled slot now rs) t image
sync_remembers clock now slot rs up moves told =
    let e = moves told in
    still_remembers clock now rs (settled slot now rs) up told (λ m s l v le left. left_after_sync m slot now rs s l v (omega (arith, e, le)) left)

-- ---- what calls may make of a bay

-- none has to change it
pub becomes_start : (bay : MemoryState) → MayBecome bay bay
becomes_start bay = record {
  same_sizes = refl;
  same_failing = refl;
  same_stop = refl;
  same_unplugged = refl;
  same_room = refl;
  written_up = omega arith;
  asked_up = omega arith;
  no_reads = λ slot plugged. refl;
  no_writes = λ slot plugged. inl refl;
  later = omega arith;
  calls_up = omega arith;
  most_later = λ counted. omega arith;
  unasked = λ same low. record { later = omega arith; left = λ s l bytes left. left; since = λ t image le left. inl left };
}

no_more_then : (bay next last : MemoryState) → LeavesNoMore bay next → LeavesNoMore next last → LeavesNoMore bay last
no_more_then bay next last first second = record {
  later = omega (arith, first.later, second.later);
  left = λ s l bytes left. first.left s l bytes (second.left s l bytes left);
  since = λ t image le left. ⊎_elim
      (λ before. first.since t image le before)
      (λ now. inr (λ s l. first.left s l (image s l) (now s l)))
      (second.since t image (omega (arith, le, first.later)) left);
}

-- several calls, one after another
pub becomes_then : (bay next last : MemoryState) → MayBecome bay next → MayBecome next last → MayBecome bay last
becomes_then bay next last first second =
    let still : (slot : ℕ) → IsPlugged bay slot → IsPlugged next slot = λ slot plugged. record {
      none_listed = first.same_failing ∙ plugged.none_listed;
      never_over = first.same_stop ∙ plugged.never_over;
      plugged = ap (λ (unplugged : List Bool). slice_index_or unplugged slot false) first.same_unplugged ∙ plugged.plugged;
    } in
    record {
      same_sizes = second.same_sizes ∙ first.same_sizes;
      same_failing = second.same_failing ∙ first.same_failing;
      same_stop = second.same_stop ∙ first.same_stop;
      same_unplugged = second.same_unplugged ∙ first.same_unplugged;
      same_room = second.same_room ∙ first.same_room;
      written_up = omega (arith, first.written_up, second.written_up);
      asked_up = omega (arith, first.asked_up, second.asked_up);
      no_reads = λ slot plugged. second.no_reads slot (still slot plugged) ∙ first.no_reads slot plugged;
      no_writes = λ slot plugged. ⊎_elim
          (λ same. ⊎_elim (λ before. inl (same ∙ before)) (λ short. inr (omega (arith, short, second.same_room, second.asked_up))) (first.no_writes slot plugged))
          inr
          (second.no_writes slot (still slot plugged));
      later = omega (arith, first.later, second.later);
      calls_up = omega (arith, first.calls_up, second.calls_up);
      most_later = λ counted.
          let one = first.most_later (omega (arith, counted, second.calls_up)) in
          let other = second.most_later counted in
          omega (arith, one, other);
      unasked = λ same low.
          let none : next.asked ≡ bay.asked = omega (arith, same, first.asked_up, second.asked_up) in
          let after : last.asked ≡ next.asked = omega (arith, same, none) in
          no_more_then bay next last (first.unasked none (omega (arith, after, low))) (second.unasked after low);
    }

-- a call that leaves the logged writes
pub still_no_more : (bay next : MemoryState) → IsTrue (are_past bay.clock bay.logged) → bay.clock ≤ next.clock → (next.clock < 2 ^ 64 - 1 → next.clock ≡ bay.clock + 1) → next.logged ≡ bay.logged
    → LeavesNoMore bay next
still_no_more bay next past up moves same = record {
  later = up;
  left = rw same (still_left bay.clock next.clock bay.logged past up moves);
  since = rw same (still_since bay.clock next.clock bay.logged past up moves);
}

-- a good sync of a slot
pub sync_no_more : (bay next : MemoryState) (slot : ℕ) → IsTrue (are_past bay.clock bay.logged) → bay.clock ≤ next.clock → (next.clock < 2 ^ 64 - 1 → next.clock ≡ bay.clock + 1)
    → next.logged ≡ settled slot next.clock bay.logged → LeavesNoMore bay next
sync_no_more bay next slot past up moves same = record {
  later = up;
  left = rw same (sync_left bay.clock next.clock slot bay.logged past up moves);
  since = rw same (sync_since bay.clock next.clock slot bay.logged past up moves);
}

-- ---- slots that are gone

-- a slot that is unplugged stays so
pub gone_then : (bay next : MemoryState) (slot : ℕ) → MayBecome bay next → slice_index_or bay.unplugged slot false ≡ true → slice_index_or next.unplugged slot false ≡ true
gone_then bay next slot leads gone = ap (λ (unplugged : List Bool). slice_index_or unplugged slot false) leads.same_unplugged ∙ gone
