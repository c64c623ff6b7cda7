-- In a history whose calls are those of commands no disk falls far behind.
use Rattle.std.proofs.Common.{◌≡◌, ◌⊎◌, ℕ, ◌≤◌, Bool, true, false, List, [], ◌∷◌, Option, Some, None, Result, Ok, Err, inl, inr, refl, ap, sym, subst, arith}
use Rattle.ddf_bay.specs.State.{BayState}
use Rattle.ddf_config.specs.declared.refusal.Refusal.{Refusal}
use Rattle.ddf_config.specs.Configuration.{Configuration}
use Rattle.ddf_copy.specs.declared.newest_copy.Newest.{Newest}
use Rattle.ddf_plan.specs.declared.change.Change.{Change}
use Rattle.ddf_view.specs.View.{View}
use Rattle.ddf_history.specs.Groups.{groups}
use Rattle.ddf_history.specs.History.{AllKept, IsHistory, IsStep, Moment}
use Rattle.ddf_history.specs.Issued.{Past}
use Rattle.ddf_history.specs.Promise.{IsKept}
use Rattle.ddf_history.specs.Reading.{Each, Scene}
use Rattle.ddf_history.specs.Scenes.{scene_of}
use Rattle.ddf_seats.specs.Group.{GroupValue}
use Rattle.ddf_seats.specs.declared.fault.GroupFault.{GroupFault}
use Rattle.ddf_steps.specs.Steps.{Step}
use Rattle.ddf_recovery.specs.Ready.{readied}
use Rattle.ddf_recovery.specs.Recovery.{config_recovered}
use Rattle.ddf_assembly.specs.Group.{group_of}
use Rattle.ddf_assembly.specs.Slots.{first_left_out}
use Rattle.ddf_joining.specs.Importing.{first_causes}
use Rattle.ddf_joining.specs.Joining.{Joining, joining}
use Rattle.ddf_config.specs.Refusals.{first_refusal}
use Rattle.ddf_history_steps.specs.Going.{Ends, Goes, changes_in}
use Rattle.ddf_history_steps.specs.Kept.{is_read}
use Rattle.ddf_history_steps.proofs.Acked.{ends_keeps}
use Rattle.ddf_history_steps.proofs.SlotsKept.{ends_slots}
use Rattle.ddf_group_commands.specs.Change.{is_done, steps_asked}
use Rattle.ddf_group_commands.proofs.Outcomes.{asked_of}
use Rattle.ddf_import_command.specs.Import.{import_asked, joining_unless, keeps_disks}
use Rattle.ddf_command.specs.History.{GroupCall, IsCall, JoinCall, Leaves, joins_of, kept_by, kept_by_join, past_at}
use Rattle.ddf_history_behind.specs.Behind.{AbsentAreCurrent, AreNear}
use Rattle.ddf_history_behind.specs.Commands.{IsCommandCall, IsPlain, LosesNone, NoneStaleAt}
use Rattle.ddf_history_behind.proofs.Absent.{disks_current}
use Rattle.ddf_history_behind.proofs.Commands.{issued_loss, issued_near, join_loss, join_near}
use Rattle.ddf_history_behind.proofs.InTurn.{ends_near}
use Rattle.ddf_history_behind.proofs.Stale.{none_stale}

-- ---- what is asked

-- There are changes that are asked for, and these are their steps.
record AreAskedOf (asked : Result (List Change) Refusal) (found : GroupValue) (timestamp : ℕ) (steps : List Step) : Type 0 where
  all : List Change
  is_asked : asked ≡ Ok all
  are : readied found all timestamp ≡ Ok steps

are_asked_of : (asked : Result (List Change) Refusal) (found : GroupValue) (timestamp : ℕ) (steps : List Step) → steps_asked found timestamp asked ≡ Ok steps → AreAskedOf asked found timestamp steps
are_asked_of (Ok all) found timestamp steps is = record { all = all; is_asked = refl; are = asked_of (readied found all timestamp) steps is }
are_asked_of (Err refusal) found timestamp steps is = absurd cc

-- An import that is asked for is one that joins.
joins : (timestamp : ℕ) (left : List Bool) (native other : GroupValue) (made : Joining) → import_asked timestamp left native other ≡ Ok made → joining timestamp native other ≡ Ok made
joins timestamp left native other made asked =
    by (first_refusal (first_causes native other)) (first_left_out left other.seats) (keeps_disks native other.seats) (joining timestamp native other) asked
  where
    by : (first : Option Refusal) (out : Option ℕ) (keeps : Bool) (answer : Result Joining GroupFault) → joining_unless first out keeps answer ≡ Ok made → answer ≡ Ok made
    by (Some refusal) out keeps answer e = absurd cc
    by None (Some slot) keeps answer e = absurd cc
    by None None false answer e = absurd cc
    by None None true (Ok one) e = let same : one ≡ made = cc in ap (λ (it : Joining). Ok it) same
    by None None true (Err fault) e = absurd cc

module _ {B : Type 0} {tells : Type 0} (told : tells) (disks : B → BayState B) (group : List ℕ) where
  -- The changes are near, and a change of this engine is acknowledged.
  pub record IsWell (past : Past (groups group)) : Type 0 where
    pub near : AreNear group past.changes
    pub own : past.changes.own_from ≤ past.changes.acked

  -- ---- a call

  module _ (past : Past (groups group)) (readable : ℕ → Bool) (found : GroupValue) (changes : List Configuration)
      (stay : (far : Bool) (now : Past (groups group)) → Ends group past readable found changes far now → AreNear group now.changes) (well : IsWell past) where
    ends_well : (far : Bool) (now : Past (groups group)) → Ends group past readable found changes far now → IsWell now
    ends_well far now ends =
        let acked = (ends_keeps group past now readable found changes far ends).later in
        let same = (ends_slots group past readable found changes far now ends).same_own in
        let own = well.own in
        record { near = stay far now ends; own = omega (arith, own, acked, same) }

    -- at a moment within it
    moment_well : {A : Type 0} (scene : Scene View) (at : A ⊎ ((now : Past (groups group)) × Goes group past readable found changes now × IsKept now scene))
        → IsWell (past_at told disks group {P = Goes group past readable found changes} {Q = λ now. IsKept now scene} past at)
    moment_well scene (inl before) = well
    moment_well scene (inr now) = ends_well false now.0 now.1

  module _ (old : Moment (groups group) B) (well : IsWell old.past) where
    -- What is absent of the group that a call found are current members, for it found it on these disks.
    call_current : (call : GroupCall told disks group old) → AbsentAreCurrent call.group
    call_current call =
        disks_current (disks old.bay) call.taken.left call.named call.group
        (subst (λ (newest : List (Option Newest)). group_of newest call.named ≡ Ok call.group) (call.taken.read told) call.is_group)

    join_current : (call : JoinCall told disks group old) → AbsentAreCurrent call.group
    join_current call =
        disks_current (disks old.bay) call.imported.first.left call.named call.group
        (subst (λ (newest : List (Option Newest)). group_of newest call.named ≡ Ok call.group) (call.imported.first.read told) call.is_group)

    call_stays : (call : GroupCall told disks group old) → LosesNone call.request → (far : Bool) (now : Past (groups group))
        → Ends group old.past (is_read call.taken.left) call.group (changes_in call.group call.steps) far now → AreNear group now.changes
    call_stays call lose =
        let current = call_current call in
        let asked = are_asked_of (call.request (config_recovered call.group) call.group.seats) call.group call.timestamp call.steps call.are_asked in
        ends_near group old.past call.admitted.is_kept.chain call.group current well.near (is_read call.taken.left) (changes_in call.group call.steps)
        (issued_near call.group current asked.all call.timestamp call.steps asked.are (lose (config_recovered call.group) call.group.seats asked.all asked.is_asked))
        (issued_loss call.group current asked.all call.timestamp call.steps asked.are)

    join_stays : (call : JoinCall told disks group old) → (far : Bool) (now : Past (groups group))
        → Ends group old.past (is_read call.imported.first.left) call.group (joins_of told disks group old call) far now → AreNear group now.changes
    join_stays call =
        let current = join_current call in
        let made = joins call.timestamp call.imported.first.left call.group call.joining call.made call.are_asked in
        ends_near group old.past call.admitted.is_kept.chain call.group current well.near (is_read call.imported.first.left) (joins_of told disks group old call)
        (join_near call.group current call.joining call.timestamp call.made made)
        (join_loss call.group current call.joining call.timestamp call.made made)

    call_well : (new : Moment (groups group) B) (call : IsCall told disks group old new) → IsPlain told disks group old new call → IsWell new.past
    call_well new (inl end) plain =
        let one = end.call in
        let keeps = (kept_by told disks group old one end.kept).ends end.tells_left in
        subst IsWell (sym end.is_past)
        (ends_well old.past (is_read one.taken.left) one.group (changes_in one.group one.steps) (call_stays one plain) well one.done keeps.0 keeps.1)
    call_well new (inr (inl cut)) plain =
        let one = cut.call in
        subst IsWell (sym cut.is_past)
        (moment_well old.past (is_read one.taken.left) one.group (changes_in one.group one.steps) (call_stays one plain) well (scene_of (disks old.bay).sizes cut.image)
        ((kept_by told disks group old one cut.kept).any_moment.since (disks old.bay).moment cut.image cut.since cut.was_left))
    call_well new (inr (inr (inl other))) plain = subst IsWell (sym other.same_past) well
    call_well new (inr (inr (inr (inl end)))) plain =
        let one = end.call in
        let keeps = (kept_by_join told disks group old one end.kept).ends end.tells_left in
        subst IsWell (sym end.is_past)
        (ends_well old.past (is_read one.imported.first.left) one.group (joins_of told disks group old one) (join_stays one) well (is_done one.outcome) keeps.0 keeps.1)
    call_well new (inr (inr (inr (inr cut)))) plain =
        let one = cut.call in
        subst IsWell (sym cut.is_past)
        (moment_well old.past (is_read one.imported.first.left) one.group (joins_of told disks group old one) (join_stays one) well (scene_of (disks old.bay).sizes cut.image)
        ((kept_by_join told disks group old one cut.kept).any_moment.since (disks old.bay).moment cut.image cut.since cut.was_left))

  -- ---- a history

  step_well : (old new : Moment (groups group) B) → IsStep (Leaves told disks group) (IsCommandCall told disks group) old new → IsWell old.past → IsWell new.past
  step_well old new (inl call) well = call_well old well new call.0 call.1
  step_well old new (inr (inl stop)) well = subst IsWell (sym stop.same_past) well
  step_well old new (inr (inr (inl loss))) well = subst IsWell (sym loss.is_lost) (record { near = well.near; own = well.own })
  step_well old new (inr (inr (inr back))) well = subst IsWell (sym back.is_back) (record { near = well.near; own = well.own })

  -- its calls are calls
  plain_step : (old new : Moment (groups group) B) → IsStep (Leaves told disks group) (IsCommandCall told disks group) old new → IsStep (Leaves told disks group) (IsCall told disks group) old new
  plain_step old new (inl call) = inl call.0
  plain_step old new (inr other) = inr other

  pub plain_history : (start : Moment (groups group) B) (history : List (Moment (groups group) B)) → IsHistory (Leaves told disks group) (IsCommandCall told disks group) start history
      → IsHistory (Leaves told disks group) (IsCall told disks group) start history
  plain_history start [] is = tt
  plain_history start (next ∷ rest) is = (plain_step start next is.0, plain_history next rest is.1)

  -- A moment at which each slot shows what it should.
  none_at : (moment : Moment (groups group) B) → AllKept (Leaves told disks group) moment → IsWell moment.past → NoneStaleAt told disks group moment
  none_at moment kept well bay counted leaves =
      none_stale group (disks bay) moment.past counted (kept (scene_of (disks bay).sizes (disks bay).held) leaves) well.near (inl well.own)

  -- So none is at any moment of a history in which each slot shows what it should.
  pub none_at_any : (start : Moment (groups group) B) (history : List (Moment (groups group) B)) → AllKept (Leaves told disks group) start → Each (AllKept (Leaves told disks group)) history → IsWell start.past
      → IsHistory (Leaves told disks group) (IsCommandCall told disks group) start history → Each (NoneStaleAt told disks group) (start ∷ history)
  none_at_any start [] kept all well is = (none_at start kept well, tt)
  none_at_any start (next ∷ rest) kept all well is = (none_at start kept well, none_at_any next rest all.0 all.1 (step_well start next is.0 well) is.1)
