-- How the bytes that a stop may leave go on while logged writes are added and made sure, and through a stop.
use Rattle.std.specs.Prelude.{◌≡◌, ◌≢◌, ◌⊎◌, ℕ, zero, suc, ◌+◌, ◌-◌, ◌<◌, ◌≤◌, List, [], ◌∷◌, ◌++◌, length, get_or, Bool, ◌&&◌, if◌then◌else◌, drop, IsTrue, ◌==◌, nat_lt, slice_index}
use Rattle.std.specs.List.{list_all}
use Rattle.std.proofs.Common.{inl, inr, ⊎_elim, refl, sym, ◌∙◌, ap, arith}
use Rattle.std.proofs.Math.Path.{fun_ext}
use Rattle.std.proofs.lemmas.Bool.{cases_lt}
use Rattle.std.proofs.lemmas.Grind.{common_steps}
use Rattle.ddf_lemmas.proofs.Tests.{both_parts}
use Rattle.ddf_bay.specs.declared.logged_write.LoggedWrite.{LoggedWrite}
use Rattle.ddf_bay.specs.Sectors.{InRun, IsWhole, put_run}
use Rattle.ddf_bay.specs.Logged.{held_of, zeros, is_at, is_sure, newest, sure_bytes, IsPending, MayHold, are_past, are_whole, is_whole, settled, run_logged, survivors}

-- logged writes that tell of no later moment still don't when time goes on
pub past_later : (m n : ℕ) (rs : List LoggedWrite) → m ≤ n → IsTrue (are_past m rs) → IsTrue (are_past n rs)
past_later m n [] le past = past
past_later m n (r ∷ rs) le past = grind (arith, common_steps, past_later m n rs le)

-- What reads give is among the bytes that a stop may leave: both start from some bytes, and where no write is of the
-- sector, both end there.
held_at : (m : ℕ) (rs : List LoggedWrite) (s l : ℕ) (d d' : List ℕ) → IsTrue (are_past m rs)
    → ((newest rs s l d ≡ sure_bytes m rs s l d') ⊎ IsPending m rs s l (newest rs s l d)) ⊎ ((newest rs s l d ≡ d) × (sure_bytes m rs s l d' ≡ d'))
held_at m [] s l d d' past = inr (refl, refl)
held_at m (r ∷ rs) s l d d' past = grind (arith, common_steps, held_at m rs s l)

-- While time goes on and no write changes, a stop may leave what it might.
sure_later : (m n : ℕ) (rs : List LoggedWrite) (s l : ℕ) (d : List ℕ) → m ≤ n → IsTrue (are_past m rs) → sure_bytes n rs s l d ≡ sure_bytes m rs s l d
sure_later m n [] s l d le past = refl
sure_later m n (r ∷ rs) s l d le past = grind (arith, common_steps, sure_later m n rs s l)

pending_later : (m n : ℕ) (rs : List LoggedWrite) (s l : ℕ) (v : List ℕ) → m ≤ n → IsTrue (are_past m rs) → IsPending n rs s l v → IsPending m rs s l v
pending_later m n [] s l v le past h = h
pending_later m n (r ∷ rs) s l v le past h = grind (arith, common_steps, pending_later m n rs s l v le)

-- both parts together
pub left_later : (m n : ℕ) (rs : List LoggedWrite) (s l : ℕ) (v : List ℕ) → m ≤ n → IsTrue (are_past m rs) → MayHold n rs s l v → MayHold m rs s l v
left_later m n rs s l v le past (inl e) = inl (e ∙ sure_later m n rs s l zeros le past)
left_later m n rs s l v le past (inr h) = inr (pending_later m n rs s l v le past h)

pub held_left : (m : ℕ) (rs : List LoggedWrite) (s l : ℕ) → IsTrue (are_past m rs) → MayHold m rs s l (newest rs s l zeros)
held_left m rs s l past = ⊎_elim (λ h. h) (λ h. inl (h.0 ∙ sym h.1)) (held_at m rs s l zeros zeros past)

-- A run written at a later moment: of earlier moments the logged writes tell the same.
sure_before : (m : ℕ) (rs : List LoggedWrite) (slot lba now : ℕ) (vs : List (List ℕ)) (s l : ℕ) (d : List ℕ) → sure_bytes m (rs ++ run_logged slot lba now vs) s l d ≡ sure_bytes m rs s l d
sure_before m [] slot lba now [] s l d = refl
sure_before m [] slot lba now (v ∷ vs) s l d = grind (arith, common_steps, sure_before m [] slot (lba + 1) now vs s l d)
sure_before m (r ∷ rs) slot lba now vs s l d = sure_before m rs slot lba now vs s l (if is_at r s l && is_sure m r then r.bytes else d)

pending_before : (m : ℕ) (rs : List LoggedWrite) (slot lba now : ℕ) (vs : List (List ℕ)) (s l : ℕ) (w : List ℕ) → m < now → IsPending m (rs ++ run_logged slot lba now vs) s l w → IsPending m rs s l w
pending_before m [] slot lba now [] s l w lt h = h
pending_before m [] slot lba now (v ∷ vs) s l w lt h = grind (arith, common_steps, pending_before m [] slot (lba + 1) now vs s l w lt)
pending_before m (r ∷ rs) slot lba now vs s l w lt (inl h) = inl h
pending_before m (r ∷ rs) slot lba now vs s l w lt (inr h) = inr (pending_before m rs slot lba now vs s l w lt h)

pub left_before : (m : ℕ) (rs : List LoggedWrite) (slot lba now : ℕ) (vs : List (List ℕ)) (s l : ℕ) (w : List ℕ) → m < now → MayHold m (rs ++ run_logged slot lba now vs) s l w → MayHold m rs s l w
left_before m rs slot lba now vs s l w lt (inl e) = inl (e ∙ sure_before m rs slot lba now vs s l zeros)
left_before m rs slot lba now vs s l w lt (inr h) = inr (pending_before m rs slot lba now vs s l w lt h)

-- where a sector of a run stands in it
behind : (base l : ℕ) (first : List ℕ) (rest : List (List ℕ)) → base < l → get_or (first ∷ rest) (l - base) [] ≡ get_or rest (l - (base + 1)) []
behind base l first rest after = let e : l - base ≡ suc (l - (base + 1)) = omega arith in rw e refl

at_first : (base l : ℕ) (first : List ℕ) (rest : List (List ℕ)) → base ≡ l → get_or (first ∷ rest) (l - base) [] ≡ first
at_first base l first rest same = let e : l - base ≡ 0 = omega arith in rw e refl

-- From its own moment on it may leave the run's bytes in the run's sectors, and nothing else.
in_run : (slot lba now m : ℕ) (vs : List (List ℕ)) (s l : ℕ) (w : List ℕ) → IsPending m (run_logged slot lba now vs) s l w → (s ≡ slot) × InRun lba vs l w
in_run slot lba now m [] s l w h = absurd h
in_run slot lba now m (v ∷ vs) s l w (inl h) =
    let here : s ≡ slot = grind (arith, common_steps) in
    let first : lba ≡ l = grind (arith, common_steps) in
    (here, record { from = omega arith; below = omega arith; are = h.1 ∙ sym (at_first lba l v vs first) })
in_run slot lba now m (v ∷ vs) s l w (inr h) = let rest = in_run slot (lba + 1) now m vs s l w h in
    (rest.0, record { from = omega (arith, rest.1.from); below = omega (arith, rest.1.below); are = rest.1.are ∙ sym (behind lba l v vs (omega (arith, rest.1.from))) })

pending_added : (m : ℕ) (rs : List LoggedWrite) (slot lba now : ℕ) (vs : List (List ℕ)) (s l : ℕ) (w : List ℕ) → IsPending m (rs ++ run_logged slot lba now vs) s l w → IsPending m rs s l w ⊎ ((s ≡ slot) × InRun lba vs l w)
pending_added m [] slot lba now vs s l w h = inr (in_run slot lba now m vs s l w h)
pending_added m (r ∷ rs) slot lba now vs s l w (inl h) = inl (inl h)
pending_added m (r ∷ rs) slot lba now vs s l w (inr h) = ⊎_elim (λ old. inl (inr old)) inr (pending_added m rs slot lba now vs s l w h)

pub left_added : (m : ℕ) (rs : List LoggedWrite) (slot lba now : ℕ) (vs : List (List ℕ)) (s l : ℕ) (w : List ℕ) → MayHold m (rs ++ run_logged slot lba now vs) s l w → MayHold m rs s l w ⊎ ((s ≡ slot) × InRun lba vs l w)
left_added m rs slot lba now vs s l w (inl e) = inl (inl (e ∙ sure_before m rs slot lba now vs s l zeros))
left_added m rs slot lba now vs s l w (inr h) = ⊎_elim (λ old. inl (inr old)) inr (pending_added m rs slot lba now vs s l w h)

-- reads then give the run
run_held : (slot lba now : ℕ) (vs : List (List ℕ)) (s l : ℕ) (d : List ℕ) → newest (run_logged slot lba now vs) s l d ≡ put_run (λ a b. d) slot lba vs s l
run_held slot lba now [] s l d = grind (arith, common_steps)
run_held slot lba now (v ∷ vs) s l d = grind (arith, common_steps, run_held slot (lba + 1) now vs s l, behind lba l v vs, at_first lba l v vs)

newest-append : (rs ts : List LoggedWrite) (s l : ℕ) (d : List ℕ) → newest (rs ++ ts) s l d ≡ newest ts s l (newest rs s l d)
newest-append [] ts s l d = refl
newest-append (r ∷ rs) ts s l d = newest-append rs ts s l (if is_at r s l then r.bytes else d)

pub past_added : (m : ℕ) (rs : List LoggedWrite) (slot lba : ℕ) (vs : List (List ℕ)) → IsTrue (are_past m rs) → IsTrue (are_past m (rs ++ run_logged slot lba m vs))
past_added m [] slot lba [] past = past
past_added m [] slot lba (v ∷ vs) past = grind (arith, common_steps, past_added m [] slot (lba + 1) vs past)
past_added m (r ∷ rs) slot lba vs past = grind (arith, common_steps, past_added m rs slot lba vs)

-- A good sync at a later moment: of earlier moments the logged writes tell the same.
sure_sync : (m slot now : ℕ) (rs : List LoggedWrite) (s l : ℕ) (d : List ℕ) → m < now → sure_bytes m (settled slot now rs) s l d ≡ sure_bytes m rs s l d
sure_sync m slot now [] s l d lt = refl
sure_sync m slot now (r ∷ rs) s l d lt = grind (arith, common_steps, sure_sync m slot now rs s l)

pending_sync : (m slot now : ℕ) (rs : List LoggedWrite) (s l : ℕ) (v : List ℕ) → m < now → IsPending m (settled slot now rs) s l v → IsPending m rs s l v
pending_sync m slot now [] s l v lt h = h
pending_sync m slot now (r ∷ rs) s l v lt h = grind (arith, common_steps, pending_sync m slot now rs s l v lt)

pub newest_sync : (slot now : ℕ) (rs : List LoggedWrite) (s l : ℕ) (d : List ℕ) → newest (settled slot now rs) s l d ≡ newest rs s l d
newest_sync slot now [] s l d = refl
newest_sync slot now (r ∷ rs) s l d = grind (arith, common_steps, newest_sync slot now rs s l)

-- At its own moment it leaves of its slot what reads give,
sync_sure : (slot now : ℕ) (rs : List LoggedWrite) (l : ℕ) (d : List ℕ) → IsTrue (are_past now rs) → sure_bytes now (settled slot now rs) slot l d ≡ newest rs slot l d
sync_sure slot now [] l d past = refl
sync_sure slot now (r ∷ rs) l d past = grind (arith, common_steps, sync_sure slot now rs l)

sync_pending : (slot now : ℕ) (rs : List LoggedWrite) (l : ℕ) (v : List ℕ) → IsTrue (are_past now rs) → IsPending now (settled slot now rs) slot l v → ⊥
sync_pending slot now [] l v past h = h
sync_pending slot now (r ∷ rs) l v past h = grind (arith, common_steps, sync_pending slot now rs l v)

-- and of other slots what it might leave without it.
other_sure : (m slot now : ℕ) (rs : List LoggedWrite) (s l : ℕ) (d : List ℕ) → s ≢ slot → sure_bytes m (settled slot now rs) s l d ≡ sure_bytes m rs s l d
other_sure m slot now [] s l d differs = refl
other_sure m slot now (r ∷ rs) s l d differs = grind (arith, common_steps, other_sure m slot now rs s l)

other_pending : (m slot now : ℕ) (rs : List LoggedWrite) (s l : ℕ) (v : List ℕ) → s ≢ slot → IsPending m (settled slot now rs) s l v → IsPending m rs s l v
other_pending m slot now [] s l v differs h = h
other_pending m slot now (r ∷ rs) s l v differs h = grind (arith, common_steps, other_pending m slot now rs s l v differs)

pub past_sync : (slot now : ℕ) (rs : List LoggedWrite) → IsTrue (are_past now rs) → IsTrue (are_past now (settled slot now rs))
past_sync slot now [] past = past
past_sync slot now (r ∷ rs) past = grind (arith, common_steps, past_sync slot now rs)

-- all sectors at once
pub held_run : (rs : List LoggedWrite) (slot lba now : ℕ) (vs : List (List ℕ)) → held_of (rs ++ run_logged slot lba now vs) ≡ put_run (held_of rs) slot lba vs
held_run rs slot lba now vs = fun_ext (λ s. fun_ext (λ l. newest-append rs (run_logged slot lba now vs) s l zeros ∙ run_held slot lba now vs s l (newest rs s l zeros)))

pub held_sync : (rs : List LoggedWrite) (slot now : ℕ) → held_of (settled slot now rs) ≡ held_of rs
held_sync rs slot now = fun_ext (λ s. fun_ext (λ l. newest_sync slot now rs s l zeros))

pub sync_settles : (rs : List LoggedWrite) (slot now l : ℕ) (v : List ℕ) → IsTrue (are_past now rs) → MayHold now (settled slot now rs) slot l v → v ≡ newest rs slot l zeros
sync_settles rs slot now l v past (inl e) = e ∙ sync_sure slot now rs l zeros past
sync_settles rs slot now l v past (inr h) = absurd (sync_pending slot now rs l v past h)

pub sync_before : (m slot now : ℕ) (rs : List LoggedWrite) (s l : ℕ) (v : List ℕ) → m < now → MayHold m (settled slot now rs) s l v → MayHold m rs s l v
sync_before m slot now rs s l v lt (inl e) = inl (e ∙ sure_sync m slot now rs s l zeros lt)
sync_before m slot now rs s l v lt (inr h) = inr (pending_sync m slot now rs s l v lt h)

other_left : (m slot now : ℕ) (rs : List LoggedWrite) (s l : ℕ) (v : List ℕ) → s ≢ slot → MayHold m (settled slot now rs) s l v → MayHold m rs s l v
other_left m slot now rs s l v differs (inl e) = inl (e ∙ other_sure m slot now rs s l zeros differs)
other_left m slot now rs s l v differs (inr h) = inr (other_pending m slot now rs s l v differs h)

pub sync_keeps : (m now slot : ℕ) (rs : List LoggedWrite) (s l : ℕ) (v : List ℕ) → m ≤ now → IsTrue (are_past m rs) → MayHold now (settled slot now rs) s l v → MayHold m rs s l v
sync_keeps m now slot rs s l v le past left = ⊎_elim
    (λ under. left_later m now rs s l v le past (other_left now slot now rs s l v (λ same. omega (arith, same, under)) left))
    (λ from. ⊎_elim
    (λ over. left_later m now rs s l v le past (other_left now slot now rs s l v (λ same. omega (arith, same, over)) left))
    (λ upto. let e : s ≡ slot = omega arith in
    let here : v ≡ newest rs s l zeros = rw e (sync_settles rs slot now l v (past_later m now rs le past) (rw e at left)) in
    rw here (held_left m rs s l past))
    (cases_lt slot s))
    (cases_lt s slot)

pub length-run_logged : (slot lba now : ℕ) (vs : List (List ℕ)) → length (run_logged slot lba now vs) ≡ length vs
length-run_logged slot lba now [] = refl
length-run_logged slot lba now (v ∷ vs) = ap suc (length-run_logged slot (lba + 1) now vs)

-- What a stop keeps is, in each sector, among the bytes that it may leave.
survivors_at : (m now : ℕ) (keep : List Bool) (rs : List LoggedWrite) (s l : ℕ) (d d' : List ℕ) → IsTrue (are_past m rs)
    → ((newest (survivors now keep rs) s l d ≡ sure_bytes m rs s l d') ⊎ IsPending m rs s l (newest (survivors now keep rs) s l d)) ⊎ ((newest (survivors now keep rs) s l d ≡ d) × (sure_bytes m rs s l d' ≡ d'))
survivors_at m now keep [] s l d d' past = inr (refl, refl)
survivors_at m now keep (r ∷ rs) s l d d' past = grind (arith, common_steps, survivors_at m now keep rs s l, survivors_at m now (drop 1 keep) rs s l)

pub survivors_left : (m now : ℕ) (keep : List Bool) (rs : List LoggedWrite) (s l : ℕ) → IsTrue (are_past m rs) → MayHold m rs s l (newest (survivors now keep rs) s l zeros)
survivors_left m now keep rs s l past = ⊎_elim (λ h. h) (λ h. inl (h.0 ∙ sym h.1)) (survivors_at m now keep rs s l zeros zeros past)

-- After it nothing is pending.
pub survivors_past : (m : ℕ) (keep : List Bool) (rs : List LoggedWrite) → IsTrue (are_past m rs) → IsTrue (are_past m (survivors m keep rs))
survivors_past m keep [] past = past
survivors_past m keep (r ∷ rs) past = grind (arith, common_steps, survivors_past m keep rs, survivors_past m (drop 1 keep) rs)

survivors_sure : (m : ℕ) (keep : List Bool) (rs : List LoggedWrite) (s l : ℕ) (d : List ℕ) → IsTrue (are_past m rs) → sure_bytes m (survivors m keep rs) s l d ≡ newest (survivors m keep rs) s l d
survivors_sure m keep [] s l d past = refl
survivors_sure m keep (r ∷ rs) s l d past = grind (arith, common_steps, survivors_sure m keep rs s l, survivors_sure m (drop 1 keep) rs s l)

survivors_pending : (m : ℕ) (keep : List Bool) (rs : List LoggedWrite) (s l : ℕ) (v : List ℕ) → IsTrue (are_past m rs) → IsPending m (survivors m keep rs) s l v → ⊥
survivors_pending m keep [] s l v past h = h
survivors_pending m keep (r ∷ rs) s l v past h = grind (arith, common_steps, survivors_pending m keep rs s l v, survivors_pending m (drop 1 keep) rs s l v)

pub survivors_settled : (m : ℕ) (keep : List Bool) (rs : List LoggedWrite) (s l : ℕ) (v : List ℕ) → IsTrue (are_past m rs) → MayHold m (survivors m keep rs) s l v → v ≡ newest (survivors m keep rs) s l zeros
survivors_settled m keep rs s l v past (inl e) = e ∙ survivors_sure m keep rs s l zeros past
survivors_settled m keep rs s l v past (inr h) = absurd (survivors_pending m keep rs s l v past h)

-- Of earlier moments the logged writes that it keeps tell nothing that they didn't.
sure_stop : (m now : ℕ) (keep : List Bool) (rs : List LoggedWrite) (s l : ℕ) (d : List ℕ) → m < now → sure_bytes m (survivors now keep rs) s l d ≡ sure_bytes m rs s l d
sure_stop m now keep [] s l d lt = refl
sure_stop m now keep (r ∷ rs) s l d lt = grind (arith, common_steps, sure_stop m now keep rs s l, sure_stop m now (drop 1 keep) rs s l)

pending_stop : (m now : ℕ) (keep : List Bool) (rs : List LoggedWrite) (s l : ℕ) (v : List ℕ) → m < now → IsPending m (survivors now keep rs) s l v → IsPending m rs s l v
pending_stop m now keep [] s l v lt h = h
pending_stop m now keep (r ∷ rs) s l v lt h = grind (arith, common_steps, pending_stop m now keep rs s l v lt, pending_stop m now (drop 1 keep) rs s l v lt)

pub stop_before : (m now : ℕ) (keep : List Bool) (rs : List LoggedWrite) (s l : ℕ) (v : List ℕ) → m < now → MayHold m (survivors now keep rs) s l v → MayHold m rs s l v
stop_before m now keep rs s l v lt (inl e) = inl (e ∙ sure_stop m now keep rs s l zeros lt)
stop_before m now keep rs s l v lt (inr h) = inr (pending_stop m now keep rs s l v lt h)

-- What a stop at an earlier moment might have left, it might have left by the logged writes of later calls too.
pending_more : (m : ℕ) (rs ts : List LoggedWrite) (s l : ℕ) (v : List ℕ) → IsPending m rs s l v → IsPending m (rs ++ ts) s l v
pending_more m [] ts s l v h = absurd h
pending_more m (r ∷ rs) ts s l v (inl h) = inl h
pending_more m (r ∷ rs) ts s l v (inr h) = inr (pending_more m rs ts s l v h)

pub left_after_run : (m : ℕ) (rs : List LoggedWrite) (slot lba now : ℕ) (vs : List (List ℕ)) (s l : ℕ) (v : List ℕ) → MayHold m rs s l v → MayHold m (rs ++ run_logged slot lba now vs) s l v
left_after_run m rs slot lba now vs s l v (inl e) = inl (e ∙ sym (sure_before m rs slot lba now vs s l zeros))
left_after_run m rs slot lba now vs s l v (inr h) = inr (pending_more m rs (run_logged slot lba now vs) s l v h)

pending_after_sync : (m slot now : ℕ) (rs : List LoggedWrite) (s l : ℕ) (v : List ℕ) → m < now → IsPending m rs s l v → IsPending m (settled slot now rs) s l v
pending_after_sync m slot now [] s l v lt h = h
pending_after_sync m slot now (r ∷ rs) s l v lt h = grind (arith, common_steps, pending_after_sync m slot now rs s l v lt)

pub left_after_sync : (m slot now : ℕ) (rs : List LoggedWrite) (s l : ℕ) (v : List ℕ) → m < now → MayHold m rs s l v → MayHold m (settled slot now rs) s l v
left_after_sync m slot now rs s l v lt (inl e) = inl (e ∙ sym (sure_sync m slot now rs s l zeros lt))
left_after_sync m slot now rs s l v lt (inr h) = inr (pending_after_sync m slot now rs s l v lt h)

sure_whole : (m : ℕ) (rs : List LoggedWrite) (s l : ℕ) (d : List ℕ) → IsTrue (are_whole rs) → IsTrue (is_whole d) → IsTrue (is_whole (sure_bytes m rs s l d))
sure_whole m [] s l d whole own = own
sure_whole m (r ∷ rs) s l d whole own = grind (arith, common_steps, sure_whole m rs s l)

pending_whole : (m : ℕ) (rs : List LoggedWrite) (s l : ℕ) (v : List ℕ) → IsTrue (are_whole rs) → IsPending m rs s l v → IsTrue (is_whole v)
pending_whole m [] s l v whole h = absurd h
pending_whole m (r ∷ rs) s l v whole (inl h) = rw h.1 (both_parts (is_whole r.bytes) (are_whole rs) whole).0
pending_whole m (r ∷ rs) s l v whole (inr h) = pending_whole m rs s l v (both_parts (is_whole r.bytes) (are_whole rs) whole).1 h

zeros_whole : IsTrue (is_whole zeros)
unfolding zeros
zeros_whole = refl

-- what the test of a sector says
whole_is : (bytes : List ℕ) → IsTrue (is_whole bytes) → IsWhole bytes
whole_is bytes whole =
    let both = both_parts (length bytes == 512) (list_all (λ (byte : ℕ). nat_lt byte 256) bytes) whole in
    record {
      size = grind (arith, common_steps);
      are_bytes = λ i. all_bytes bytes i both.1;
    }
  where
    all_bytes : (bytes : List ℕ) (i : ℕ) → IsTrue (list_all (λ (byte : ℕ). nat_lt byte 256) bytes) → slice_index bytes i < 256
    all_bytes [] i all = omega arith
    all_bytes (b ∷ bs) zero all = grind (arith, common_steps)
    all_bytes (b ∷ bs) (suc i) all = grind (arith, common_steps, all_bytes bs i)

pub left_whole : (m : ℕ) (rs : List LoggedWrite) (s l : ℕ) (v : List ℕ) → IsTrue (are_whole rs) → MayHold m rs s l v → IsWhole v
left_whole m rs s l v whole (inl e) = whole_is v (rw e (sure_whole m rs s l zeros whole zeros_whole))
left_whole m rs s l v whole (inr h) = whole_is v (pending_whole m rs s l v whole h)

-- what every list of bytes meets
pub all_bytes_true : (bytes : List ℕ) → ((i : ℕ) → slice_index bytes i < 256) → IsTrue (list_all (λ (byte : ℕ). nat_lt byte 256) bytes)
all_bytes_true [] are = refl
all_bytes_true (b ∷ bs) are =
    let first : b < 256 = are 0 in
    let rest = all_bytes_true bs (λ i. are (suc i)) in
    grind (arith, common_steps)

pub whole_added : (rs : List LoggedWrite) (r : LoggedWrite) → IsTrue (are_whole rs) → IsTrue (is_whole r.bytes) → IsTrue (are_whole (rs ++ r ∷ []))
whole_added [] r whole own = grind (arith, common_steps)
whole_added (q ∷ rs) r whole own = grind (arith, common_steps, whole_added rs r)

pub whole_sync : (slot now : ℕ) (rs : List LoggedWrite) → IsTrue (are_whole rs) → IsTrue (are_whole (settled slot now rs))
whole_sync slot now [] whole = whole
whole_sync slot now (r ∷ rs) whole = grind (arith, common_steps, whole_sync slot now rs)

pub whole_stop : (now : ℕ) (keep : List Bool) (rs : List LoggedWrite) → IsTrue (are_whole rs) → IsTrue (are_whole (survivors now keep rs))
whole_stop now keep [] whole = whole
whole_stop now keep (r ∷ rs) whole = grind (arith, common_steps, whole_stop now keep rs, whole_stop now (drop 1 keep) rs)
