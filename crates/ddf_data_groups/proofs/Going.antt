-- Two groups go on side by side, whichever events come of either.
use Rattle.std.proofs.Common.{◌≡◌, ◌∙◌, ◌⊎◌, inl, inr, ⊎_elim, ℕ, zero, suc, List, Some, refl, sym, ap, subst}
use Rattle.std.specs.Prelude.{slice_get}
use Rattle.ddf_bytes.specs.Streams.{SourceState}
use Rattle.ddf_bay.specs.ReadsOnly.{ReadsOnly}
use Rattle.ddf_bay.specs.Sectors.{Image}
use Rattle.ddf_bay.specs.State.{BayState}
use Rattle.ddf_config.specs.Configuration.{Configuration}
use Rattle.ddf_data_group.specs.Grouped.{Promises}
use Rattle.ddf_history.specs.Groups.{groups}
use Rattle.ddf_history.specs.History.{KeepsAcked}
use Rattle.ddf_history.specs.Issued.{Past, give_back, lose}
use Rattle.ddf_history_steps.specs.Kept.{AreAllKept}
use Rattle.ddf_data_array.specs.Allowed.{any_bytes}
use Rattle.ddf_data_history.specs.Carried.{IsAllData}
use Rattle.ddf_data_history.specs.Promised.{with_promise}
use Rattle.ddf_data_calls.specs.Floors.{AllHaveFloors}
use Rattle.ddf_data_events.specs.Calls.{Call, EndsAt, HasComeTo, MayPromise, PromisesThen, exit_of}
use Rattle.ddf_data_events.specs.Calls.Call.{Accepts, Changes, Copies, Joins, Others, Reads, Rebuilds, Resyncs, Writes}
use Rattle.ddf_data_events.specs.Events.{Event, Follows, IsBehind, Resumes}
use Rattle.ddf_data_events.specs.Events.Event.{Agreed, Cut, Ended, Forgotten, Kept, Lost, Noticed, Refloored, Returned, Stopped}
use Rattle.ddf_data_events.specs.Moments.{KeepsAll, Moment}
use Rattle.ddf_data_events.proofs.Bays.{AreBays}
use Rattle.ddf_data_events.proofs.Happening.{keeps_on}
use Rattle.ddf_data_groups.specs.Beside.{AreBeside, Both, Known, known_of, moment_of, our_moment, their_moment, turned}
use Rattle.ddf_data_groups.specs.Going.{IsBehindIt, IsItsOwn, StayBeside, TakesItsOwn, bay_behind}
use Rattle.ddf_data_groups.proofs.Aside.{AreChangesAside, IsAsideAt, call_aside}
use Rattle.ddf_data_groups.proofs.Behind.{StaysApart, beside_turned, cut_apart, ended_apart, same_changes, still_apart}

-- A moment on a bay that is the same.
rebased : {group : List ℕ} {B : Type 0} (disks : B → BayState B) (moment : Moment group B) (bay : B) → moment.bay ≡ bay → KeepsAll disks moment → KeepsAll disks (moment_of (known_of moment) bay)
rebased {group = group} {B = B} disks moment bay same keeps =
    subst (λ (one : B). KeepsAll disks (moment_of (known_of moment) one)) same (record { shows = keeps.shows; keeps = keeps.keeps; floored = keeps.floored })

-- A moment of which all is known as before, on a bay that is the same.
pub unchanged : {group : List ℕ} {B : Type 0} (disks : B → BayState B) (known : Known group) (moment : Moment group B) (bay : B) → moment.past ≡ known.past → moment.bay ≡ bay → moment.promises ≡ known.promises
    → moment.floor ≡ known.floor → KeepsAll disks moment → KeepsAll disks (moment_of known bay)
unchanged {group = group} {B = B} disks known moment bay same_past same_bay same_promises same_floor keeps = record {
  shows = subst (λ (past : Past (groups group)). AreAllKept group past (disks bay)) same_past (subst (λ (one : B). AreAllKept group moment.past (disks one)) same_bay keeps.shows);
  keeps =
      subst (λ (past : Past (groups group)). IsAllData group past known.floor (disks bay) known.promises) same_past
      (subst (λ (one : B). IsAllData group moment.past known.floor (disks one) known.promises) same_bay
      (subst (λ (promises : Promises). IsAllData group moment.past known.floor (disks moment.bay) promises) same_promises
      (subst (λ (floor : ℕ → ℕ). IsAllData group moment.past floor (disks moment.bay) moment.promises) same_floor keeps.keeps)));
  floored =
      subst (λ (past : Past (groups group)). AllHaveFloors group past (disks bay) known.floor) same_past
      (subst (λ (one : B). AllHaveFloors group moment.past (disks one) known.floor) same_bay
      (subst (λ (floor : ℕ → ℕ). AllHaveFloors group moment.past (disks moment.bay) floor) same_floor keeps.floored));
}

module _ {B : Type 0} {tells : Type 0} (told : tells) (disks : B → BayState B) {S : Type 0} (tells_bytes : Type 0) (streams : S → SourceState) (are : AreBays disks)
    (changes : AreChangesAside told disks) where
  -- ---- our own history

  module _ {group : List ℕ} (old : Moment group B) where
    -- A moment that follows an event does so on the bay behind it.
    replaced : (new : Moment group B) (Comes : Past (groups group) → Type 0) (bay : B) (Is : Promises → Type 0) (floor : ℕ → ℕ) → IsBehind told disks tells_bytes streams group new Comes bay Is floor
        → IsBehind told disks tells_bytes streams group (moment_of (known_of new) bay) Comes bay Is floor
    replaced new Comes bay Is floor is = record { comes = is.comes; is_bay = refl; is_promised = is.is_promised; is_floor = is.is_floor }

    -- the moment behind an event, on that bay
    record HasNext (event : Event told disks tells_bytes streams group old) : Type 0 where
      pub now : Known group
      pub behind_it : IsBehindIt told disks tells_bytes streams old event now
      pub keeps : KeepsAll disks (moment_of now (bay_behind told disks tells_bytes streams event))

    -- what comes of a moment that follows one
    with_next : (event : Event told disks tells_bytes streams group old) (new : Moment group B) → new.bay ≡ bay_behind told disks tells_bytes streams event
        → Follows told disks tells_bytes streams group old event (moment_of (known_of new) (bay_behind told disks tells_bytes streams event)) → KeepsAcked old.past new.past → KeepsAll disks new → HasNext event
    with_next event new same follows acked keeps = record {
      now = known_of new;
      behind_it = record { follows = follows; acked = acked };
      keeps = rebased disks new (bay_behind told disks tells_bytes streams event) same keeps;
    }

    next_of : (event : Event told disks tells_bytes streams group old) (new : Moment group B) → Follows told disks tells_bytes streams group old event new → KeepsAcked old.past new.past → KeepsAll disks new
        → HasNext event
    next_of (Ended call told_left same_sizes) new follows acked keeps =
        with_next (Ended call told_left same_sizes) new follows.is_bay
        (replaced new (EndsAt told disks tells_bytes streams group call) (exit_of told disks tells_bytes streams group call) (PromisesThen told disks tells_bytes streams group call) old.floor follows) acked keeps
    next_of (Cut call image was_left bay resumes) new follows acked keeps =
        with_next (Cut call image was_left bay resumes) new follows.is_bay
        (replaced new (HasComeTo told disks tells_bytes streams group call) bay (MayPromise told disks tells_bytes streams group call) old.floor follows) acked keeps
    next_of (Stopped bay resumes) new follows acked keeps =
        with_next (Stopped bay resumes) new follows.is_bay (replaced new (λ now. now ≡ old.past) bay (λ promised. promised ≡ old.promises) old.floor follows) acked keeps
    next_of (Lost slot own) new follows acked keeps =
        with_next (Lost slot own) new follows.is_bay (replaced new (λ now. now ≡ lose old.past slot) old.bay (λ promised. promised ≡ old.promises) old.floor follows) acked keeps
    next_of (Returned slot own missing) new follows acked keeps =
        with_next (Returned slot own missing) new follows.is_bay (replaced new (λ now. now ≡ give_back old.past slot) old.bay (λ promised. promised ≡ old.promises) old.floor follows) acked keeps
    next_of (Forgotten fewer less) new follows acked keeps =
        with_next (Forgotten fewer less) new follows.is_bay (replaced new (λ now. now ≡ old.past) old.bay (λ promised. promised ≡ fewer) old.floor follows) acked keeps
    next_of (Noticed array writable) new follows acked keeps =
        with_next (Noticed array writable) new follows.is_bay
        (replaced new (λ now. now ≡ old.past) old.bay (λ promised. promised ≡ with_promise old.promises array (Some any_bytes)) old.floor follows) acked keeps
    next_of (Agreed array allowed agrees) new follows acked keeps =
        with_next (Agreed array allowed agrees) new follows.is_bay
        (replaced new (λ now. now ≡ old.past) old.bay (λ promised. promised ≡ with_promise old.promises array (Some allowed)) old.floor follows) acked keeps
    next_of (Kept array allowed holds) new follows acked keeps =
        with_next (Kept array allowed holds) new follows.is_bay
        (replaced new (λ now. now ≡ old.past) old.bay (λ promised. promised ≡ with_promise old.promises array (Some allowed)) old.floor follows) acked keeps
    next_of (Refloored floor small same) new follows acked keeps =
        with_next (Refloored floor small same) new follows.is_bay (replaced new (λ now. now ≡ old.past) old.bay (λ promised. promised ≡ old.promises) floor follows) acked keeps

    next : KeepsAll disks old → (event : Event told disks tells_bytes streams group old) → HasNext event
    next all event = let on = (keeps_on told disks tells_bytes streams group are (suc zero) old all).1 event in next_of event on.0 on.1 on.2 on.3

  -- ---- both

  module _ (one other : List ℕ) (both : Both one other B) (beside : AreBeside disks both) where
    abbrev ours : Moment one B
    ours = our_moment both

    abbrev theirs : Moment other B
    theirs = their_moment both

    first_of : (disks both.bay).tells_left → (first : Configuration) × (slice_get both.ours.past.changes.issued both.ours.past.changes.acked ≡ Some first)
    first_of tells_left = let kept = beside.keeps.shows (disks both.bay).held ((are both.bay).held tells_left) in (kept.last, kept.is_last)

    -- The other one's history is what it was, on the bay behind an event of its own by which nothing is said of it.
    other_after : (event : Event told disks tells_bytes streams other theirs) (bay : B) → bay_behind told disks tells_bytes streams event ≡ bay
        → ((new : Moment other B) → Follows told disks tells_bytes streams other theirs event new → (new.past ≡ both.theirs.past) × (new.promises ≡ both.theirs.promises) × (new.floor ≡ both.theirs.floor) × (new.bay ≡ bay))
        → KeepsAll disks (moment_of both.theirs bay)
    other_after event bay same stays =
        let on = (keeps_on told disks tells_bytes streams other are (suc zero) theirs beside.keeps_theirs).1 event in
        let is = stays on.0 on.1 in
        unchanged disks both.theirs on.0 bay is.0 is.3 is.1 is.2 on.3

    -- So it is where our call came to its end,
    other_ended : (exit : B) → IsAsideAt told disks tells_bytes streams both exit → (disks exit).tells_left → (disks exit).sizes ≡ (disks both.bay).sizes → KeepsAll disks (moment_of both.theirs exit)
    other_ended exit aside told_left same_sizes =
        let told_there = subst (λ (bay : B). (disks bay).tells_left) (sym aside.1) told_left in
        let sizes_there = subst (λ (bay : B). (disks bay).sizes ≡ (disks both.bay).sizes) (sym aside.1) same_sizes in
        other_after (Ended (Others aside.0) told_there sizes_there) exit aside.1 (λ new is. (is.comes, is.is_promised, is.is_floor, is.is_bay ∙ aside.1))

    -- and where a stop cut it.
    other_cut : (exit : B) → IsAsideAt told disks tells_bytes streams both exit → (image : Image) → (disks exit).left_since (disks both.bay).moment image → (bay : B)
        → Resumes (disks both.bay) (disks bay) (λ left. left ≡ image) → KeepsAll disks (moment_of both.theirs bay)
    other_cut exit aside image was_left bay resumes =
        let was_there = subst (λ (at : B). (disks at).left_since (disks both.bay).moment image) (sym aside.1) was_left in
        other_after (Cut (Others aside.0) image was_there bay resumes) bay refl (λ new is. (is.comes, is.is_promised, is.is_floor, is.is_bay))

    abbrev Stays : Past (groups one) → Type 0
    Stays now = StaysApart one other both.ours.past both.theirs.past beside.apart beside.members now

    -- ---- behind an event of ours

    -- both stand side by side
    stand : (now : Known one) (bay : B) → KeepsAll disks (moment_of now bay) → KeepsAll disks (moment_of both.theirs bay) → Stays now.past
        → AreBeside disks (record { bay = bay; ours = now; theirs = both.theirs })
    stand now bay keeps keeps_theirs stays = record {
      keeps = keeps;
      keeps_theirs = keeps_theirs;
      members = stays.members;
      their_members = beside.their_members;
      apart = stays.apart_then;
    }

    -- Where the bay stays both do.
    same_bay : (event : Event told disks tells_bytes streams one ours) → bay_behind told disks tells_bytes streams event ≡ both.bay → (on : HasNext ours event) → Stays on.now.past
        → AreBeside disks (record { bay = bay_behind told disks tells_bytes streams event; ours = on.now; theirs = both.theirs })
    same_bay event same on stays =
        stand on.now (bay_behind told disks tells_bytes streams event) on.keeps (subst (λ (bay : B). KeepsAll disks (moment_of both.theirs bay)) (sym same) beside.keeps_theirs) stays

    -- a call found the group, and was told what a stop may leave; or it only read
    told_or_reads : (call : Call told disks tells_bytes streams one ours) → TakesItsOwn told disks tells_bytes streams call
        → (disks both.bay).tells_left ⊎ ReadsOnly (disks both.bay) (disks (exit_of told disks tells_bytes streams one call))
    told_or_reads (Changes call) own = inl call.finds.tells_left
    told_or_reads (Accepts accept) own = inl accept.call.finds.tells_left
    told_or_reads (Resyncs call) own = inl call.finds.tells_left
    told_or_reads (Writes call) own = inl call.finds.tells_left
    told_or_reads (Rebuilds call) own = inl call.finds.tells_left
    told_or_reads (Copies call) own = inl call.finds.tells_left
    told_or_reads (Joins call) own = absurd own
    told_or_reads (Others call) own = absurd own
    told_or_reads (Reads exit reads) own = inr reads

    theirs_ended : (call : Call told disks tells_bytes streams one ours) → TakesItsOwn told disks tells_bytes streams call → (disks (exit_of told disks tells_bytes streams one call)).tells_left
        → (disks (exit_of told disks tells_bytes streams one call)).sizes ≡ (disks both.bay).sizes → KeepsAll disks (moment_of both.theirs (exit_of told disks tells_bytes streams one call))
    theirs_ended call own told_left same_sizes =
        let exit = exit_of told disks tells_bytes streams one call in
        ⊎_elim
        (λ tells_left. other_ended exit (call_aside told disks tells_bytes streams are one other both beside tells_left changes call own same_sizes) told_left same_sizes)
        (λ reads. other_after (Ended (Reads exit reads) told_left same_sizes) exit refl (λ new is. (is.comes, is.is_promised, is.is_floor, is.is_bay)))
        (told_or_reads call own)

    theirs_cut : (call : Call told disks tells_bytes streams one ours) → TakesItsOwn told disks tells_bytes streams call → (disks (exit_of told disks tells_bytes streams one call)).sizes ≡ (disks both.bay).sizes
        → (image : Image) → (disks (exit_of told disks tells_bytes streams one call)).left_since (disks both.bay).moment image → (bay : B)
        → Resumes (disks both.bay) (disks bay) (λ left. left ≡ image) → KeepsAll disks (moment_of both.theirs bay)
    theirs_cut call own same_sizes image was_left bay resumes =
        let exit = exit_of told disks tells_bytes streams one call in
        ⊎_elim
        (λ tells_left. other_cut exit (call_aside told disks tells_bytes streams are one other both beside tells_left changes call own same_sizes) image was_left bay resumes)
        (λ reads. other_after (Cut (Reads exit reads) image was_left bay resumes) bay refl (λ new is. (is.comes, is.is_promised, is.is_floor, is.is_bay)))
        (told_or_reads call own)

    same : (now : Past (groups one)) → now ≡ both.ours.past → Stays now
    same = still_apart one other both.ours.past both.theirs.past beside.apart beside.members

    alike : (now : Past (groups one)) → now.changes ≡ both.ours.past.changes → now.disk ≡ both.ours.past.disk → Stays now
    alike = same_changes one other both.ours.past both.theirs.past beside.apart beside.members

    -- whichever event of ours comes
    pub stands_on : (event : Event told disks tells_bytes streams one ours) → IsItsOwn told disks tells_bytes streams event
        → (now : Known one) × IsBehindIt told disks tells_bytes streams ours event now × AreBeside disks (record { bay = bay_behind told disks tells_bytes streams event; ours = now; theirs = both.theirs })
    stands_on (Ended call told_left same_sizes) own =
        let on = next ours beside.keeps (Ended call told_left same_sizes) in (
          on.now,
          on.behind_it,
          stand on.now (exit_of told disks tells_bytes streams one call) on.keeps (theirs_ended call own told_left same_sizes)
              (ended_apart told disks tells_bytes streams one other both beside first_of call own on.now.past on.behind_it.follows.comes),
        )
    stands_on (Cut call image was_left bay resumes) own =
        let on = next ours beside.keeps (Cut call image was_left bay resumes) in (
          on.now,
          on.behind_it,
          stand on.now bay on.keeps (theirs_cut call own.0 own.1 image was_left bay resumes)
              (cut_apart told disks tells_bytes streams one other both beside first_of call own.0 on.now.past on.behind_it.follows.comes),
        )
    stands_on (Stopped bay resumes) own =
        let on = next ours beside.keeps (Stopped bay resumes) in (
          on.now,
          on.behind_it,
          stand on.now bay on.keeps (other_after (Stopped bay resumes) bay refl (λ new is. (is.comes, is.is_promised, is.is_floor, is.is_bay))) (same on.now.past on.behind_it.follows.comes),
        )
    stands_on (Lost slot own_from) own =
        let on = next ours beside.keeps (Lost slot own_from) in
        let comes = on.behind_it.follows.comes in (
          on.now,
          on.behind_it,
          same_bay (Lost slot own_from) refl on (alike on.now.past (ap (λ (past : Past (groups one)). past.changes) comes) (ap (λ (past : Past (groups one)). past.disk) comes)),
        )
    stands_on (Returned slot own_from missing) own =
        let on = next ours beside.keeps (Returned slot own_from missing) in
        let comes = on.behind_it.follows.comes in (
          on.now,
          on.behind_it,
          same_bay (Returned slot own_from missing) refl on (alike on.now.past (ap (λ (past : Past (groups one)). past.changes) comes) (ap (λ (past : Past (groups one)). past.disk) comes)),
        )
    stands_on (Forgotten fewer less) own =
        let on = next ours beside.keeps (Forgotten fewer less) in (on.now, on.behind_it, same_bay (Forgotten fewer less) refl on (same on.now.past on.behind_it.follows.comes))
    stands_on (Noticed array writable) own =
        let on = next ours beside.keeps (Noticed array writable) in (on.now, on.behind_it, same_bay (Noticed array writable) refl on (same on.now.past on.behind_it.follows.comes))
    stands_on (Agreed array allowed agrees) own =
        let on = next ours beside.keeps (Agreed array allowed agrees) in (on.now, on.behind_it, same_bay (Agreed array allowed agrees) refl on (same on.now.past on.behind_it.follows.comes))
    stands_on (Kept array allowed holds) own =
        let on = next ours beside.keeps (Kept array allowed holds) in (on.now, on.behind_it, same_bay (Kept array allowed holds) refl on (same on.now.past on.behind_it.follows.comes))
    stands_on (Refloored floor small others) own =
        let on = next ours beside.keeps (Refloored floor small others) in (on.now, on.behind_it, same_bay (Refloored floor small others) refl on (same on.now.past on.behind_it.follows.comes))

  -- So for any number of events of either.
  pub stay_beside : (events : ℕ) (one other : List ℕ) (both : Both one other B) → AreBeside disks both → StayBeside told disks tells_bytes streams events one other both
  stay_beside zero one other both beside = beside
  stay_beside (suc more) one other both beside = (
    beside,
    (λ event own. let on = stands_on one other both beside event own in (on.0, on.1, stay_beside more one other (record { bay = bay_behind told disks tells_bytes streams event; ours = on.0; theirs = both.theirs }) on.2)),
    (λ event own.
        let on = stands_on other one (turned both) (beside_turned disks both beside) event own in
        let after : Both one other B = record { bay = bay_behind told disks tells_bytes streams event; ours = both.ours; theirs = on.0 } in
        (on.0, on.1, stay_beside more one other after (beside_turned disks (turned after) on.2))),
  )
