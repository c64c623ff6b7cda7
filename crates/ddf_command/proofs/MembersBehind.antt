-- The disks of a call's seats and steps are current members, and those of its last step behind it, as a history asks that one is read. A member that
-- it left out is missing then.
use Rattle.std.proofs.Common.{◌≡◌, ℕ, ◌+◌, ◌≤◌, Bool, true, false, List, [], ◌∷◌, length, Some, ap, sym, ◌∙◌, subst, arith}
use Rattle.std.specs.Prelude.{slice_get}
use Rattle.std.proofs.lemmas.Option.{slice_get_within}
use Rattle.ddf_bay.specs.State.{BayState}
use Rattle.ddf_config.specs.Configuration.{Configuration}
use Rattle.ddf_plan.specs.Lose.{is_among}
use Rattle.ddf_rewrite.proofs.Lists.{some_same}
use Rattle.ddf_view.specs.View.{View, view_of}
use Rattle.ddf_history.specs.Answer.{HasMember}
use Rattle.ddf_history.specs.Groups.{Disk, disk_of, groups, has_current, has_missing}
use Rattle.ddf_history.specs.History.{Moment}
use Rattle.ddf_history.specs.Issued.{IsSince, Past}
use Rattle.ddf_history.specs.Promise.{IsKept}
use Rattle.ddf_history.specs.Reading.{Scene}
use Rattle.ddf_history.proofs.Members.{own_member}
use Rattle.ddf_history.proofs.Sound.{groups_are_sound}
use Rattle.ddf_seats.specs.declared.seated.Seated.{Seated}
use Rattle.ddf_recovery.specs.Recovery.{config_recovered}
use Rattle.ddf_seats.specs.Seated.{seated}
use Rattle.ddf_steps.specs.Steps.{Step}
use Rattle.ddf_history_steps.specs.Going.{Ends, IsOver, KeepsSlots, changes_in}
use Rattle.ddf_history_steps.specs.Kept.{AreAllKept, is_read}
use Rattle.ddf_history_steps.proofs.Claimed as claims
use Rattle.ddf_history_steps.proofs.LastIssued.{over_last, over_length}
use Rattle.ddf_history_steps.proofs.SlotsKept.{ends_slots}
use Rattle.ddf_history_steps.proofs.StepMembers.{AreMembers}
use Rattle.ddf_command.specs.History.{GroupCall, IsEnd, Leaves, kept_by}
use Rattle.ddf_group_commands.specs.Writing.{IsWrittenOn}
use Rattle.ddf_history_steps.proofs.AllSteps.{AllSteps}
use Rattle.ddf_group_commands.proofs.Outcomes.{AreReadied, readied_by}
use Rattle.ddf_history_steps.proofs.LastStep.{last_change}
use Rattle.ddf_history_steps.proofs.LeftMissing as lefts
use Rattle.ddf_command.proofs.StepsCopies.{written_known}
use Rattle.ddf_command.proofs.StepsMembers.{steps_members}

-- ---- a call

module _ {B : Type 0} {tells : Type 0} (told : tells) (disks : B → BayState B) (group : List ℕ) (old : Moment (groups group) B) (call : GroupCall told disks group old) where
  abbrev entry : BayState B
  entry = disks old.bay

  abbrev left : List Bool
  left = call.taken.left

  -- the changes that were asked for
  asked : AreReadied call.group call.timestamp call.steps
  asked = readied_by call.group call.timestamp (call.request (config_recovered call.group) call.group.seats) call.steps call.are_asked

  members : AreMembers call.group.config (seated call.group)
  members =
      claims.disk_member group entry left call.taken.newest call.taken.every_slot (call.taken.read told) old.past call.admitted.same_slots call.admitted.is_kept
      call.admitted.may_read call.admitted.member call.named call.group call.is_group call.same_group

  -- The slot of a seat was read, and is that of a current member.
  module _ (place : ℕ) (disk : Seated) (there : slice_get (seated call.group) place ≡ Some disk) where
    seat_names : disk_of (view_of disk.copy) ≡ old.past.disk disk.seat.slot
    seat_names =
        claims.disk_names group entry left call.taken.newest call.taken.every_slot (call.taken.read told) old.past call.admitted.same_slots call.admitted.is_kept
        call.admitted.may_read call.admitted.member call.named call.group call.is_group call.same_group place disk there

    seat_read : is_read left disk.seat.slot ≡ true
    seat_read =
        claims.disk_read group entry left call.taken.newest call.taken.every_slot (call.taken.read told) old.past call.admitted.same_slots call.admitted.is_kept
        call.admitted.may_read call.admitted.member call.named call.group call.is_group call.same_group place disk there

    pub seat_current : (is_read left disk.seat.slot ≡ true) × (has_current call.group.config (old.past.disk disk.seat.slot) ≡ true)
    seat_current = (seat_read, ap (has_current call.group.config) (sym seat_names) ∙ (members place disk there).is_current)

  -- So is each slot that the steps are written to.
  pub step_current : (slot : ℕ) (on : IsWrittenOn call.steps slot) → (is_read left slot ≡ true) × (has_current on.step.config (old.past.disk slot) ≡ true)
  step_current slot on =
      let known = written_known call.group call.timestamp asked.changes call.steps asked.is slot on in
      let same : known.before.seat.slot ≡ slot = known.same_slot ∙ on.on_slot in
      let names : disk_of (view_of on.disk.copy) ≡ old.past.disk slot = known.same_disk ∙ seat_names known.place known.before known.is_there ∙ ap old.past.disk same in
      let is_member = steps_members call.group call.timestamp members asked.changes call.steps asked.is on.number on.step on.is_step on.place on.disk on.is_disk in (
        subst (λ (n : ℕ). is_read left n ≡ true) same (seat_read known.place known.before known.is_there),
        ap (has_current on.step.config) (sym names) ∙ is_member.is_current,
      )

  -- A current member whose slot it didn't read is absent,
  module _ (slot : ℕ) (current : has_current call.group.config (old.past.disk slot) ≡ true) (out : is_read left slot ≡ false) where
    among : is_among call.group.absent (old.past.disk slot).reference ≡ true
    among =
        claims.left_absent group entry left call.taken.newest call.taken.every_slot (call.taken.read told) old.past call.admitted.same_slots call.admitted.is_kept
        call.admitted.may_read call.admitted.member call.named call.group call.is_group call.same_group slot current out

    -- so that each step lists it as missing.
    steps_miss : AllSteps (λ step. has_missing step.config (old.past.disk slot) ≡ true) call.steps
    steps_miss = lefts.steps_miss call.group asked.changes call.timestamp call.steps asked.is (old.past.disk slot) current among

    -- There is a last one.
    last_misses : (number : ℕ) × (step : Step) × (slice_get call.steps number ≡ Some step) × (number + 1 ≡ length call.steps)
    last_misses = lefts.last_misses call.group asked.changes call.timestamp call.steps asked.is (old.past.disk slot) current among

-- ---- its end

module _ {B : Type 0} {tells : Type 0} (told : tells) (disks : B → BayState B) (group : List ℕ) (old new : Moment (groups group) B) (end : IsEnd told disks group old new)
    (done : end.call.done ≡ true) where
  abbrev ended : GroupCall told disks group old
  ended = end.call

  abbrev readable : ℕ → Bool
  readable = is_read ended.taken.left

  -- what the call issued
  abbrev issued : List Configuration
  issued = changes_in ended.group ended.steps

  ends : (now : Past (groups group)) × Ends group old.past readable ended.group issued ended.done now × AreAllKept group now (disks ended.exit)
  ends = (kept_by told disks group old ended end.kept).ends end.tells_left

  over : IsOver group old.past readable ended.group issued new.past
  unfolding ends
  over =
      subst (IsOver group old.past readable ended.group issued) (sym end.is_past)
      (subst (λ (b : Bool). Ends group old.past readable ended.group issued b ends.0) done ends.1)

  slots : KeepsSlots group old.past new.past readable ended.group
  slots = ends_slots group old.past readable ended.group issued true new.past over

  same_disk : (slot : ℕ) → new.past.disk slot ≡ old.past.disk slot
  same_disk slot = ap (λ (disk : ℕ → Disk). disk slot) slots.same_disks

  -- The last step's configuration is the last acknowledged one.
  last_is : (number : ℕ) (step : Step) → slice_get ended.steps number ≡ Some step → number + 1 ≡ length ended.steps → slice_get new.past.changes.issued new.past.changes.acked ≡ Some step.config
  last_is number step at last =
      let from = asked told disks group old ended in
      over_last group old.past readable ended.group issued new.past over ∙ last_change ended.group from.changes ended.timestamp ended.steps from.is number step at last

  -- A member that was left out is missing.
  pub left_missing : (slot : ℕ) → readable slot ≡ false → has_current ended.group.config (old.past.disk slot) ≡ true
      → (number : ℕ) (config : Configuration) → IsSince new.past.changes number config → has_missing config (new.past.disk slot) ≡ true
  left_missing slot out current number config since =
      let last = last_misses told disks group old ended slot current out in
      let long = over_length group old.past readable ended.group issued new.past over in
      let within = slice_get_within new.past.changes.issued number config since.is_there in
      let late = since.late in
      let at_last : number ≡ new.past.changes.acked = omega (arith, long, within, late) in
      let there : slice_get new.past.changes.issued new.past.changes.acked ≡ Some config = subst (λ (n : ℕ). slice_get new.past.changes.issued n ≡ Some config) at_last since.is_there in
      let same : last.1.config ≡ config = some_same (last_is last.0 last.1 last.2 last.3) there in
      ap (has_missing config) (same_disk slot)
      ∙ subst (λ (one : Configuration). has_missing one (old.past.disk slot) ≡ true) same (steps_miss told disks group old ended slot current out last.0 last.1 last.2)

  module _ (own : new.past.changes.own_from ≤ new.past.changes.acked) (scene : Scene View) (leaves : Leaves told disks group new.bay scene) (reads : ℕ → Bool) where
    kept : IsKept new.past scene
    unfolding ends
    kept = let last = end.is_left scene leaves in rw (end.is_past, last.is_shown) (ends.2 last.image last.is_left)

    -- A slot that it read, with the disk of a current member of the last configuration, is a current member.
    read_member : (slot : ℕ) → readable slot ≡ true → (config : Configuration) → slice_get new.past.changes.issued new.past.changes.acked ≡ Some config
        → has_current config (old.past.disk slot) ≡ true → reads slot ≡ true → HasMember new.past scene reads
    read_member slot read config last current is =
        own_member (groups group) (groups_are_sound group) new.past scene kept slot config last (ap (has_current config) (same_disk slot) ∙ current)
        (slots.not_lost slot read ∙ ended.admitted.may_read.not_lost slot read) reads is own

    -- So is one with a disk that its last step was written to,
    pub written_member : (slot : ℕ) (on : IsWrittenOn ended.steps slot) → on.number + 1 ≡ length ended.steps → reads slot ≡ true → HasMember new.past scene reads
    written_member slot on last is =
        let current = step_current told disks group old ended slot on in
        read_member slot current.0 on.step.config (last_is on.number on.step on.is_step last) current.1 is

    -- and one of a seat where it issued no change.
    pub seated_member : (place : ℕ) (disk : Seated) → slice_get (seated ended.group) place ≡ Some disk → issued ≡ [] → reads disk.seat.slot ≡ true → HasMember new.past scene reads
    seated_member place disk there none is =
        let current = seat_current told disks group old ended place disk there in
        let last : slice_get new.past.changes.issued new.past.changes.acked ≡ Some ended.group.config =
        over_last group old.past readable ended.group issued new.past over
        ∙ ap (λ (changes : List Configuration). slice_get (ended.group.config ∷ changes) (length changes)) none in
        read_member disk.seat.slot current.0 ended.group.config last current.1 is
