-- However far a call's changes have come, the data of its group are kept.
use Rattle.std.proofs.Common.{◌≡◌, inl, inr, ⊎_elim, ℕ, zero, suc, ◌+◌, ◌<◌, ◌≤◌, ◌^◌, Bool, true, false, not, ◌&&◌, List, [], ◌∷◌, ◌++◌, length, take, Some, refl, sym, subst, if◌then◌else◌, arith}
use Rattle.std.specs.Prelude.{slice_get}
use Rattle.std.proofs.lemmas.Bool.{and_from, or_left}
use Rattle.ddf_lemmas.proofs.Tests.{and_first, and_second}
use Rattle.ddf_bay.specs.Sectors.{Image}
use Rattle.ddf_config.specs.declared.seat.Seat.{Seat}
use Rattle.ddf_config.specs.Configuration.{Configuration}
use Rattle.ddf_plan.specs.Changes.{changed_at}
use Rattle.ddf_array.specs.Losing.{AreFewer}
use Rattle.ddf_data_group.specs.Grouped.{KeepsArrays, Promises}
use Rattle.ddf_data_group.proofs.Changed.{changed_keeps}
use Rattle.ddf_history.specs.Groups.{Disk, groups, has_current}
use Rattle.ddf_history.specs.Issued.{IsSince, Past, acknowledge, issue, leave_out, take_off}
use Rattle.ddf_history.proofs.Following.{changes_follow}
use Rattle.ddf_history.proofs.Lists.{get_more, get_taken, taken_get}
use Rattle.ddf_history.proofs.Sound.{groups_are_sound}
use Rattle.ddf_seats.specs.Group.{GroupValue}
use Rattle.ddf_seats.specs.Leading.{some}
use Rattle.ddf_history_steps.specs.Going.{Ends, begun, issue_all}
use Rattle.ddf_data_history.specs.Promised.{AreAlone, KeepsData, is_seat, seats_in}
use Rattle.ddf_data_history.proofs.Seats.{are_fewer}
use Rattle.ddf_data_history.proofs.Steps.{by_acknowledge, by_issue, by_loss, by_taking, seats_are}
use Rattle.ddf_data_calls.specs.Calls.{AreMade, IsMade, left_over}

-- a change makes no disk a current member
no_more : (group : List ℕ) (seats : Configuration → List Seat) (image : Image) (promises : Promises) (last next : Configuration) → IsMade seats image promises last next
    → (disk : Disk) → has_current next disk ≡ true → has_current last disk ≡ true
no_more group seats image promises last next made disk current =
    let follow = changes_follow group last made.change (last.sequence + 1) (omega arith) in
    follow.no_more disk (subst (λ (c : Configuration). has_current c disk ≡ true) made.is_next current)

-- the first of such changes are
made_taken : (seats : Configuration → List Seat) (image : Image) (promises : Promises) (last : Configuration) (changes : List Configuration) (count : ℕ)
    → AreMade seats image promises last changes → AreMade seats image promises last (take count changes)
made_taken seats image promises last [] zero made = tt
made_taken seats image promises last [] (suc count) made = tt
made_taken seats image promises last (next ∷ others) zero made = tt
made_taken seats image promises last (next ∷ others) (suc count) made = (made.0, made_taken seats image promises next others count made.1)

module _ (group : List ℕ) (floor : ℕ → ℕ) (small : (slot : ℕ) → floor slot < 2 ^ 64) (image : Image) (promises : Promises) where
  -- ---- a change behind the last

  module _ (past : Past (groups group)) (alone : AreAlone group past) (number : ℕ) (last : Configuration) (since : IsSince past.changes number last)
      (next : Configuration) (made : IsMade (seats_in group past floor) image promises last next) where
    one_slot : (s t : ℕ) → is_seat group past last s ≡ true → is_seat group past last t ≡ true → (past.disk s).reference ≡ (past.disk t).reference → s ≡ t
    one_slot s t a b same =
        let one = and_second (not (past.lost s)) (has_current last (past.disk s)) a in
        let other = and_second (not (past.lost t)) (has_current last (past.disk t)) b in
        alone s t number last since one ((groups_are_sound group).one_reference last (past.disk s) (past.disk t) one other same)

    next_fewer : AreFewer (seats_in group past floor last) (seats_in group past floor next)
    next_fewer =
        are_fewer floor past.disk (is_seat group past last) (is_seat group past next) past.slots
        (λ slot e. and_from (not (past.lost slot)) (has_current last (past.disk slot)) (and_first (not (past.lost slot)) (has_current next (past.disk slot)) e)
        (no_more group (seats_in group past floor) image promises last next made (past.disk slot) (and_second (not (past.lost slot)) (has_current next (past.disk slot)) e)))
        one_slot

    next_keeps : KeepsArrays last (seats_in group past floor last) image promises → KeepsArrays next (seats_in group past floor next) image promises
    next_keeps kept =
        let after = changed_at last made.change made.sequence in
        let fewer = subst (λ (c : Configuration). AreFewer (seats_in group past floor last) (seats_in group past floor c)) made.is_next next_fewer in
        subst (λ (c : Configuration). KeepsArrays c (seats_in group past floor c) image promises) (sym made.is_next)
        (changed_keeps last (seats_in group past floor last) (seats_in group past floor after) image promises (seats_are group floor small past last) fewer kept
        made.change made.sequence (seats_are group floor small past after) made.may)

    -- its members are in one slot each
    next_alone : AreAlone group (issue past next)
    next_alone s t i config is current same =
        ⊎_elim
        (λ old. alone s t i config (record { late = is.late; is_there = old }) current same)
        (λ new. alone s t number last since
        (no_more group (seats_in group past floor) image promises last next made (past.disk s) (subst (λ (c : Configuration). has_current c (past.disk s) ≡ true) new.1 current)) same)
        (get_more past.changes.issued next i config is.is_there)

    next_since : (there : slice_get (past.changes.issued ++ next ∷ []) (length past.changes.issued) ≡ Some next) → number < length past.changes.issued
        → IsSince (issue past next).changes (length past.changes.issued) next
    next_since there within = let late = since.late in record { late = omega (arith, late, within); is_there = there }

  -- ---- changes one after another

  last_there : {X : Type 0} (xs : List X) (x : X) → slice_get (xs ++ x ∷ []) (length xs) ≡ Some x
  last_there [] x = refl
  last_there (y ∷ xs) x = last_there xs x

  within : {X : Type 0} (xs : List X) (k : ℕ) (x : X) → slice_get xs k ≡ Some x → k < length xs
  within [] k x at = absurd (cc)
  within (y ∷ xs) zero x at = omega arith
  within (y ∷ xs) (suc k) x at = omega (arith, within xs k x at)

  pub all_keep : (past : Past (groups group)) → AreAlone group past → (number : ℕ) (last : Configuration) → IsSince past.changes number last → (changes : List Configuration)
      → AreMade (seats_in group past floor) image promises last changes → KeepsData group past floor image promises → KeepsData group (issue_all group past changes) floor image promises
  all_keep past alone number last since [] made kept = kept
  all_keep past alone number last since (next ∷ others) made kept =
      all_keep (issue past next) (next_alone past alone number last since next made.0) (length past.changes.issued) next
      (next_since past alone number last since next made.0 (last_there past.changes.issued next) (within past.changes.issued number last since.is_there)) others made.1
      (by_issue group floor small past image promises kept next (next_keeps past alone number last since next made.0 (kept number last since)))

  -- ---- how far a call came

  same_acked : (past : Past (groups group)) (changes : List Configuration) → (issue_all group past changes).changes.acked ≡ past.changes.acked
  same_acked past [] = refl
  same_acked past (next ∷ others) = same_acked (issue past next) others

  -- from where the call goes on
  module _ (start : Past (groups group)) (alone : AreAlone group start) (kept : KeepsData group start floor image promises) (number : ℕ) (config : Configuration) (since : IsSince start.changes number config) where
    taken_since : IsSince (take_off start number).changes number config
    taken_since = record { late = since.late; is_there = taken_get start.changes.issued (number + 1) number config since.is_there (omega arith) }

    taken_alone : AreAlone group (take_off start number)
    taken_alone s t i other is current same = alone s t i other (record { late = is.late; is_there = (get_taken start.changes.issued (number + 1) i other is.is_there).0 }) current same

    going_keeps : (changes : List Configuration) → AreMade (seats_in group start floor) image promises config changes → (acked : ℕ) → start.changes.acked ≤ acked
        → KeepsData group (acknowledge (issue_all group (take_off start number) changes) acked) floor image promises
    going_keeps changes made acked later =
        let before = take_off start number in
        by_acknowledge group floor small (issue_all group before changes) image promises
        (all_keep before taken_alone number config taken_since changes made (by_taking group floor small start image promises kept number))
        acked (let same = same_acked before changes in omega (arith, later, same))

  module _ (past : Past (groups group)) (alone : AreAlone group past) (kept : KeepsData group past floor image promises) (readable : ℕ → Bool) (found : GroupValue) where
    -- the call issued these, behind what it found
    issued_keeps : (number : ℕ) → IsSince past.changes number found.config → (changes : List Configuration)
        → AreMade (seats_in group (left_over group past readable found) floor) image promises found.config changes → (acked : ℕ) → past.changes.acked ≤ acked
        → KeepsData group (acknowledge (issue_all group (begun group past readable found number) changes) acked) floor image promises
    issued_keeps number since changes made acked later = by (some found.absent) made
      where
        by : (absent : Bool) → AreMade (seats_in group (if absent then leave_out past readable found.config else past) floor) image promises found.config changes
            → KeepsData group (acknowledge (issue_all group (if absent then take_off (leave_out past readable found.config) number else take_off past number) changes) acked) floor image promises
        by true made =
            let out = leave_out past readable found.config in
            going_keeps out (λ s t i config is. alone s t i config (record { late = is.late; is_there = is.is_there }))
            (by_loss group floor small past image promises kept alone out.lost out.returned (λ slot was. or_left (past.lost slot) (not (readable slot) && has_current found.config (past.disk slot)) was))
            number found.config (record { late = since.late; is_there = since.is_there }) changes made acked later
        by false made = going_keeps past alone kept number found.config since changes made acked later

    pub ends_keep : (changes : List Configuration) → AreMade (seats_in group (left_over group past readable found) floor) image promises found.config changes
        → (done : Bool) (now : Past (groups group)) → Ends group past readable found changes done now → KeepsData group now floor image promises
    ends_keep changes made true now over =
        let late = over.since.late in
        subst (λ (p : Past (groups group)). KeepsData group p floor image promises) (sym over.is_now)
        (issued_keeps over.number over.since changes made (over.number + length changes) (omega (arith, late)))
    ends_keep changes made false now (inl same) = subst (λ (p : Past (groups group)). KeepsData group p floor image promises) (sym same) kept
    ends_keep changes made false now (inr is) =
        let late = is.since.late in
        subst (λ (p : Past (groups group)). KeepsData group p floor image promises) (sym is.is_now)
        (issued_keeps is.number is.since (take is.issued changes) (made_taken (seats_in group (left_over group past readable found) floor) image promises found.config changes is.issued made)
        is.acked (⊎_elim (λ same. omega (arith, same)) (λ from. omega (arith, from, late)) is.stands))
