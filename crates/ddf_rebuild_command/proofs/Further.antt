-- A group that is opened by some steps is opened by one more, where that is the next.
use Rattle.std.proofs.Common.{◌≡◌, ℕ, ◌<◌, ◌≤◌, Bool, true, false, List, [], ◌∷◌, ◌++◌, length, Option, append-nil, length-append, refl, sym, ap, subst, ◌∙◌, inl, inr, ⊎_elim, if◌then◌else◌, arith}
use Rattle.ddf_bay.specs.Moments.{StopsLeave}
use Rattle.ddf_bay.specs.Sectors.{Image}
use Rattle.ddf_bay.specs.State.{BayState}
use Rattle.ddf_bay.proofs.Steps.{stops_then, stops_weaken, rose_since}
use Rattle.ddf_config.specs.declared.seat.Seat.{Seat}
use Rattle.ddf_config.specs.Configuration.{Configuration}
use Rattle.ddf_update.specs.Group.{IsOneOf}
use Rattle.ddf_history.specs.Groups.{groups}
use Rattle.ddf_history.specs.Issued.{Past, issue}
use Rattle.ddf_history.specs.Promise.{IsKept}
use Rattle.ddf_history.specs.Scenes.{scene_of}
use Rattle.ddf_steps.specs.Committed.{DoRise, slots_of}
use Rattle.ddf_recovery.specs.Committed.{group_next}
use Rattle.ddf_seats.specs.Group.{GroupValue}
use Rattle.ddf_steps.specs.Ready.{ReadyStep}
use Rattle.ddf_recovery.specs.Ready.{ReadyValue}
use Rattle.ddf_seats.specs.Leading.{some}
use Rattle.ddf_steps.specs.Steps.{Step}
use Rattle.ddf_history_steps.specs.Going.{Goes, IsAdmitted, IsOver, changes_in}
use Rattle.ddf_history_steps.specs.Kept.{AreAllKept, is_read, is_slot}
use Rattle.ddf_history_steps.specs.Steps.{StandsReady, behind_next, with_next}
use Rattle.ddf_answer.specs.declared.failure.Failure.{Failure}
use Rattle.ddf_answer.specs.declared.failure.Failure.TheVariants.{Conflict, Disk, Memory, Refused, Split}
use Rattle.ddf_group_commands.specs.Change.{last_sequence}
use Rattle.ddf_group_commands.specs.GroupRead.{IsFoundBy}
use Rattle.ddf_group_commands.specs.Others.{LeavesOthers}
use Rattle.ddf_group_commands.specs.Writing.{IsLeftWriting}
use Rattle.ddf_group_commands.specs.Written.{AreWritten}
use Rattle.ddf_write_commands.proofs.Arrays.{goes_then}
use Rattle.ddf_bay.specs.Told.{IsTold}
use Rattle.ddf_write_commands.proofs.Costs.{with_steps}
use Rattle.ddf_rebuild_command.specs.Opened.{GoesOpening, IsOpened}
use Rattle.ddf_rebuild_command.specs.Standing.{GoesNext, IsNextWritten, IsSlotFault, next_in}
use Rattle.ddf_rebuild_command.proofs.Coming.{change_of, changes_both, goes_more, issue_goes, next_over, over_goes}
use Rattle.ddf_rebuild_command.proofs.Writings.{last_then, writing_first, writing_then, written_then}

-- ---- the next step in a history

module _ (group : List ℕ) (past : Past (groups group)) (readable : ℕ → Bool) (found : GroupValue) (before : List Step) (now : Past (groups group))
    (over : IsOver group past readable found (changes_in found before) now) (loses : some found.absent ≡ true → 1 ≤ length (changes_in found before)) (sequence : ℕ) (le : found.config.sequence ≤ sequence)
    (recovery : Option ReadyStep) where
  one_more : (one : ReadyStep) → sequence < one.step.config.sequence → changes_in found (before ++ one.step ∷ []) ≡ changes_in found before ++ one.step.config ∷ []
  one_more one rises =
      changes_both found before (one.step ∷ []) ∙ ap (λ (changes : List Configuration). changes_in found before ++ changes) (change_of found one.step (omega (arith, le, rises)))

  -- Once it is issued the call has come as far,
  pub with_goes : (steps : List ReadyStep) → DoRise sequence steps → Goes group past readable found (changes_in found (before ++ next_in steps)) (with_next group now (with_steps recovery steps))
  with_goes [] rise =
      subst (λ (changes : List Configuration). Goes group past readable found changes now) (sym (changes_both found before [])) (over_goes group past readable found (changes_in found before) now over loses [])
  with_goes (one ∷ others) rise =
      subst (λ (changes : List Configuration). Goes group past readable found changes (issue now one.step.config)) (sym (one_more one rise.0))
      (issue_goes group past readable found (changes_in found before) now over loses one.step.config [])

  -- and once it is acknowledged it is over.
  pub behind_over : (steps : List ReadyStep) → DoRise sequence steps → IsOver group past readable found (changes_in found (before ++ next_in steps)) (behind_next group now (with_steps recovery steps))
  behind_over [] rise = subst (λ (all : List Step). IsOver group past readable found (changes_in found all) now) (sym (append-nil before)) over
  behind_over (one ∷ others) rise =
      subst (λ (changes : List Configuration). IsOver group past readable found changes (behind_next group now (with_steps recovery (one ∷ others)))) (sym (one_more one rise.0))
      (next_over group past readable found (changes_in found before) now over loses one.step.config)

loses_then : (found : GroupValue) (before more : List Step) → (some found.absent ≡ true → 1 ≤ length (changes_in found before)) → some found.absent ≡ true → 1 ≤ length (changes_in found (before ++ more))
loses_then found before more loses absent =
    let least = loses absent in
    let both = changes_both found before more in
    let long = length-append (changes_in found before) (changes_in found more) in
    subst (λ (changes : List Configuration). 1 ≤ length changes) (sym both) (omega (arith, least, long))

next_no_lower : (found : GroupValue) (recovery : Option ReadyStep) (steps : List ReadyStep) → DoRise found.config.sequence steps
    → found.config.sequence ≤ (group_next found (with_steps recovery steps)).config.sequence
next_no_lower found recovery [] rise = omega arith
next_no_lower found recovery (one ∷ others) rise = let up = rise.0 in omega (arith, up)

next_last : (found : GroupValue) (recovery : Option ReadyStep) (steps : List ReadyStep)
    → (group_next found (with_steps recovery steps)).config.sequence ≡ last_sequence found.config.sequence (next_in steps)
next_last found recovery [] = refl
next_last found recovery (one ∷ others) = refl

none_both : (before more : List Step) → before ++ more ≡ [] → (before ≡ []) × (more ≡ [])
none_both [] more none = (refl, none)
none_both (step ∷ before) more none = absurd cc

-- ---- both

module _ {D : Type 0} (tells : Type 0) (old middle new : BayState D) (tells_new : IsTold new) (found now_found : GroupValue) (now_ready : ReadyValue) (before : List Step)
    (opens : GoesOpening tells old middle found before) (opened : IsOpened tells old middle found before now_found now_ready) (done : Bool) (next : GoesNext tells middle new now_found now_ready done) where
  abbrev steps : List Step
  steps = before ++ next_in now_ready.steps

  abbrev rise : DoRise now_found.config.sequence now_ready.steps
  rise = opened.stands.is_ready.rises

  aside_next : tells → LeavesOthers middle new (slots_of found.seats)
  aside_next told = subst (λ (seats : List Seat). LeavesOthers middle new (slots_of seats)) opened.same_seats (next.beside told)

  writing_both : tells → (image : Image) → IsLeftWriting middle (next_in now_ready.steps) image → IsLeftWriting old steps image
  writing_both told image writing = writing_then old middle before (next_in now_ready.steps) image opens.goes.same_sizes writing (opens.ends told)

  abbrev Shows : (group : List ℕ) → Past (groups group) → (left : List Bool) → Image → Type 0
  Shows group past left image = (now : Past (groups group)) × Goes group past (is_read left) found (changes_in found steps) now × IsKept now (scene_of old.sizes image)

  module _ (told : tells) (left : List Bool) (named : Option (List ℕ)) (by : IsFoundBy old left named found) (group : List ℕ) (same : found.config.group ≡ group) (past : Past (groups group))
      (kept : AreAllKept group past old) (admitted : IsAdmitted group past old left found) where
    abbrev Stood : Type 0
    Stood = (now : Past (groups group)) × IsOver group past (is_read left) found (changes_in found before) now × StandsReady group now middle now_found now_ready

    stood : new.tells_left → Stood
    stood left_told = opened.at_end told (next.told left_told) left named by group same past kept admitted

    goes_with : (at : Stood) → Goes group past (is_read left) found (changes_in found steps) (with_next group at.0 now_ready)
    goes_with at = with_goes group past (is_read left) found before at.0 at.1 opened.loses now_found.config.sequence opened.no_lower now_ready.recovery now_ready.steps rise

    over_behind : (at : Stood) → IsOver group past (is_read left) found (changes_in found steps) (behind_next group at.0 now_ready)
    over_behind at = behind_over group past (is_read left) found before at.0 at.1 opened.loses now_found.config.sequence opened.no_lower now_ready.recovery now_ready.steps rise

    goes_behind : (at : Stood) → Goes group past (is_read left) found (changes_in found steps) (behind_next group at.0 now_ready)
    goes_behind at =
        subst (λ (changes : List Configuration). Goes group past (is_read left) found changes (behind_next group at.0 now_ready)) (append-nil (changes_in found steps))
        (over_goes group past (is_read left) found (changes_in found steps) (behind_next group at.0 now_ready) (over_behind at) (loses_then found before (next_in now_ready.steps) opened.loses) [])

    moments : StopsLeave old new (Shows group past left)
    moments =
        let first = opens.any_moment told left named by group same past kept admitted in
        let later : middle.moment ≤ new.moment = (next.leaves told).later in
        record {
          later = let one = first.later in omega (arith, one, later);
          since = λ t image le was_left.
              let at = stood (tells_new.since t image was_left) in
              ⊎_elim
              (λ earlier. ⊎_elim inl
              (λ shows. inr (shows.0, subst (λ (changes : List Configuration). Goes group past (is_read left) found changes shows.0) (sym (changes_both found before (next_in now_ready.steps))) (goes_more group past (is_read left) found (changes_in found before) (changes_in found (next_in now_ready.steps)) shows.0 shows.1), shows.2))
              (first.since t image le earlier))
              (λ is. inr (with_next group at.0 now_ready, goes_with at, subst (λ (sizes : List ℕ). IsKept (with_next group at.0 now_ready) (scene_of sizes image)) opens.goes.same_sizes is))
              ((next.keeps told group at.0 at.2).any_moment.since t image (let one = first.later in omega (arith, le, one)) was_left);
        }

    ends_by : (b : Bool) → done ≡ b → new.tells_left → (now : Past (groups group)) × Goes group past (is_read left) found (changes_in found steps) now × AreAllKept group now new
    ends_by true e left_told =
        let at = stood left_told in (
          behind_next group at.0 now_ready,
          goes_behind at,
          subst (λ (b : Bool). AreAllKept group (if b then behind_next group at.0 now_ready else with_next group at.0 now_ready) new) e ((next.keeps told group at.0 at.2).ends left_told),
        )
    ends_by false e left_told =
        let at = stood left_told in (
          with_next group at.0 now_ready,
          goes_with at,
          subst (λ (b : Bool). AreAllKept group (if b then behind_next group at.0 now_ready else with_next group at.0 now_ready) new) e ((next.keeps told group at.0 at.2).ends left_told),
        )

  -- What holds of both, whatever came of the second.
  pub goes_further : GoesOpening tells old new found steps
  goes_further = record {
    goes = goes_then old middle new opens.goes next.goes;
    told = λ left_told. opens.told (next.told left_told);
    same_reads = next.same_reads ∙ opens.same_reads;
    beside = λ told. stops_then (opens.beside told) (aside_next told) (λ image may s l other. opened.others_left told s l (image s l) other (may s l other));
    leaves = λ told.
        stops_then (stops_weaken (opens.leaves told) (λ image writing. writing_first old before (next_in now_ready.steps) image writing)) (next.leaves told) (writing_both told);
    ends = λ told image left. writing_both told image (next.ends told image left);
    any_moment = λ told left named by group same past kept admitted. moments told left named by group same past kept admitted;
    all_kept = λ told left_told left named by group same past kept admitted. ends_by told left named by group same past kept admitted done refl left_told;
  }

  -- It was written.
  pub opened_further : (last_found : GroupValue) (last_ready : ReadyValue) → IsNextWritten tells middle new now_found now_ready last_found last_ready → IsOpened tells old new found steps last_found last_ready
  opened_further last_found last_ready written = record {
    stands = written.stands;
    same_seats = written.same_seats ∙ opened.same_seats;
    no_lower =
        let up = subst (λ (one : GroupValue). now_found.config.sequence ≤ one.config.sequence) (sym written.found_is) (next_no_lower now_found now_ready.recovery now_ready.steps rise) in
        let first = opened.no_lower in
        omega (arith, up, first);
    is_last = ap (λ (one : GroupValue). one.config.sequence) written.found_is ∙ next_last now_found now_ready.recovery now_ready.steps
        ∙ ap (λ (n : ℕ). last_sequence n (next_in now_ready.steps)) opened.is_last ∙ sym (last_then found.config.sequence before (next_in now_ready.steps));
    are_written = λ told.
        written_then old.sizes old.held middle.held new.held before (next_in now_ready.steps) (opened.are_written told)
        (subst (λ (sizes : List ℕ). AreWritten sizes middle.held (next_in now_ready.steps) new.held) opens.goes.same_sizes (written.are_written told));
    none_asked = λ none. let parts = none_both before (next_in now_ready.steps) none in next.none_asked parts.1 ∙ opened.none_asked parts.0;
    others_left = λ told s l bytes other left.
        opened.others_left told s l bytes other
        (written.others_left told s l bytes (subst (λ (seats : List Seat). is_slot (slots_of seats) s ≡ false) (sym opened.same_seats) other) left);
    loses = loses_then found before (next_in now_ready.steps) opened.loses;
    at_end = λ told left_told left named by group same past kept admitted.
        let at = stood told left named by group same past kept admitted left_told in
        (behind_next group at.0 now_ready, over_behind told left named by group same past kept admitted at, written.at_end told group at.0 at.2 left_told);
  }

-- ---- the first alone

module _ {D : Type 0} (tells : Type 0) (old new : BayState D) (found : GroupValue) (before : List Step) (opens : GoesOpening tells old new found before) where
  -- What holds on the way of some steps holds on that of more.
  pub goes_before : (more : List Step) → GoesOpening tells old new found (before ++ more)
  goes_before more = record {
    goes = opens.goes;
    told = opens.told;
    same_reads = opens.same_reads;
    beside = opens.beside;
    leaves = λ told. stops_weaken (opens.leaves told) (λ image writing. writing_first old before more image writing);
    ends = λ told image left. writing_first old before more image (opens.ends told image left);
    any_moment = λ told left named by group same past kept admitted.
        stops_weaken (opens.any_moment told left named by group same past kept admitted) (λ image now. (now.0, further left group past now.0 now.1, now.2));
    all_kept = λ told left_told left named by group same past kept admitted.
        let now = opens.all_kept told left_told left named by group same past kept admitted in
        (now.0, further left group past now.0 now.1, now.2);
  }
    where
      further : (left : List Bool) (group : List ℕ) (past now : Past (groups group)) → Goes group past (is_read left) found (changes_in found before) now
          → Goes group past (is_read left) found (changes_in found (before ++ more)) now
      further left group past now goes =
          subst (λ (changes : List Configuration). Goes group past (is_read left) found changes now) (sym (changes_both found before more))
          (goes_more group past (is_read left) found (changes_in found before) (changes_in found more) now goes)

-- A slot failed in the second.
pub fault_further : {D : Type 0} (old middle new : BayState D) (seats now_seats : List Seat) → now_seats ≡ seats → ((slot : ℕ) → old.failed_writes slot ≤ middle.failed_writes slot)
    → (failure : Failure) → IsSlotFault middle new (slots_of now_seats) failure → IsSlotFault old new (slots_of seats) failure
fault_further old middle new seats now_seats same rises (Disk slot) fault = (
  subst (λ (all : List Seat). IsOneOf (slots_of all) slot) same fault.0,
  rose_since (old.failed_writes slot) (middle.failed_writes slot) (new.failed_writes slot) (rises slot) fault.1,
)
fault_further old middle new seats now_seats same rises Memory fault = absurd fault
fault_further old middle new seats now_seats same rises (Refused refusal) fault = absurd fault
fault_further old middle new seats now_seats same rises (Conflict i j sequence differ) fault = absurd fault
fault_further old middle new seats now_seats same rises (Split i j) fault = absurd fault
