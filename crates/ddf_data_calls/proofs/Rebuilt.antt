-- A rebuild keeps its history and the data of its group.
use Rattle.std.proofs.Common.{◌≡◌, ◌∙◌, inl, inr, ⊎_elim, ℕ, zero, suc, ◌≤◌, ◌<◌, ◌^◌, Bool, true, false, List, [], ◌∷◌, ◌++◌, length, drop, take, Option, Some, None, Result, Ok, Err, refl, ap, sym, subst, arith, append_assoc, length-append}
use Rattle.std.proofs.Math.Seq.{take-length}
use Rattle.std.specs.Prelude.{option_to_list, slice_get}
use Rattle.ddf_lemmas.proofs.Options.{some_is}
use Rattle.ddf_bay.specs.Sectors.{Image, IsLeft}
use Rattle.ddf_bay.specs.State.{BayState}
use Rattle.ddf_bay.specs.Moments.{StopsLeave}
use Rattle.ddf_bay.proofs.Steps.{stops_weaken}
use Rattle.ddf_config.specs.Configuration.{Configuration}
use Rattle.ddf_config.specs.Refusals.{first_refusal}
use Rattle.ddf_config.specs.declared.refusal.Refusal.{Refusal}
use Rattle.ddf_plan.specs.declared.change.Change.{Change}
use Rattle.ddf_copy.specs.declared.newest_copy.Newest.{Newest}
use Rattle.ddf_array.specs.Sound.{AreSectors}
use Rattle.ddf_repair.specs.Begin.{begun}
use Rattle.ddf_data_group.specs.Grouped.{Promises}
use Rattle.ddf_history.specs.Groups.{groups}
use Rattle.ddf_history.specs.Issued.{Past}
use Rattle.ddf_seats.specs.Group.{GroupValue}
use Rattle.ddf_assembly.specs.Group.{group_of}
use Rattle.ddf_recovery.specs.Ready.{readied}
use Rattle.ddf_recovery.specs.Recovery.{config_recovered}
use Rattle.ddf_seats.specs.Leading.{some}
use Rattle.ddf_steps.specs.Steps.{Step}
use Rattle.ddf_history_steps.specs.Going.{Ends, Goes, IsOver, changes_in}
use Rattle.ddf_history_steps.specs.Kept.{is_read}
use Rattle.ddf_history_steps.proofs.CommittingGoes.{changes_of_both}
use Rattle.ddf_data_history.specs.Carried.{Stays}
use Rattle.ddf_answer.specs.declared.failure.Failure.{Failure}
use Rattle.ddf_answer.specs.Call.{work_of}
use Rattle.ddf_group_commands.specs.Change.{Request, is_done, steps_asked as steps_by, steps_of as steps_asked}
use Rattle.ddf_group_commands.proofs.Outcomes.{asked_of}
use Rattle.ddf_write_commands.specs.Planned.{Entry}
use Rattle.ddf_data_calls.specs.Calls.{AdmitsCall, KeepsBoth}
use Rattle.ddf_data_calls.specs.Floors.{AllHaveFloors, HaveFloorsIn}
use Rattle.ddf_data_calls.proofs.Called.{TookGroup, keeps_both as keeps_unchanged}
use Rattle.ddf_rebuild_command.specs.Along.{ComesAlong, HasCome, IsOverRounds}
use Rattle.ddf_group_commands.specs.Requests.{linux_found, linux_members}
use Rattle.ddf_rebuild_command.specs.Asked.{rebuild_asked, rebuild_changes, rebuild_refusals, rebuild_request, rebuild_unless}
use Rattle.ddf_rebuild_command.specs.PassedOver.{passed_over}
use Rattle.ddf_rebuild_command.specs.Planned.{BeginsAt, IsIdle, IsPlanned}
use Rattle.ddf_rebuild_command.specs.Rebuilt.{HasRebuiltArray}
use Rattle.ddf_rebuild_command.specs.Rounds.{Round, steps_of}
use Rattle.ddf_rebuild_command.specs.Stages.{Stage}
use Rattle.ddf_rebuild_command.specs.Stages.Stage.{Filling, Noting, Opening}
use Rattle.ddf_data_calls.proofs.Begins as begins
use Rattle.ddf_data_calls.proofs.Begins.{mark_in}
use Rattle.ddf_data_calls.proofs.Filling as filling
use Rattle.ddf_data_calls.proofs.First.{IsCalled, called_by}
use Rattle.ddf_data_calls.proofs.FloorsRebuilt as floors
use Rattle.ddf_data_calls.proofs.Floored.{writing_own}
use Rattle.ddf_data_calls.proofs.Gone.{acked_goes, goes_more, issued_goes, over_goes, steps_lose}
use Rattle.ddf_data_calls.proofs.NotedSteps.{few_issued}
use Rattle.ddf_data_calls.proofs.Taken.{none_came}
use Rattle.ddf_write_commands.proofs.StepFloors.{readied_floors}
use Rattle.ddf_rebuild_command.proofs.BackCame.{steps_same}

-- ---- the steps of rounds, taken apart

steps_parts : (rounds : List Round) (number : ℕ) → steps_of (take number rounds) ++ steps_of (drop number rounds) ≡ steps_of rounds
steps_parts rounds zero = refl
steps_parts [] (suc number) = refl
steps_parts (round ∷ rounds) (suc number) = ap (λ (steps : List Step). round.step ∷ steps) (steps_parts rounds number)

steps_at : (rounds : List Round) (number : ℕ) (round : Round) → slice_get rounds number ≡ Some round
    → steps_of (take number rounds) ++ (round.step ∷ steps_of (drop (suc number) rounds)) ≡ steps_of rounds
steps_at [] number round at = absurd cc
steps_at (one ∷ rounds) zero round at = let same : one ≡ round = cc in ap (λ (each : Round). each.step ∷ steps_of rounds) (sym same)
steps_at (one ∷ rounds) (suc number) round at = ap (λ (steps : List Step). one.step ∷ steps) (steps_at rounds number round at)

-- ---- how far its changes have come

module _ {D : Type 0} (group : List ℕ) (old new : BayState D) (past : Past (groups group)) (left : List Bool) (found : GroupValue) (tells : Type 0) (timestamp : ℕ) (word : List ℕ) (plan : IsPlanned found timestamp word) where
  abbrev readable : ℕ → Bool
  readable = is_read left

  abbrev first : List Configuration
  first = changes_in found plan.first

  loses : some found.absent ≡ true → 1 ≤ length first
  loses = steps_lose found (option_to_list (mark_in plan.before)) timestamp plan.first (begins.are_first group found timestamp word plan)

  behind : ℕ → List Configuration
  behind number = changes_in found (plan.first ++ steps_of (take number plan.rounds))

  loses_behind : (number : ℕ) → some found.absent ≡ true → 1 ≤ length (changes_in found (plan.first ++ steps_of (take number plan.rounds)))
  loses_behind number absent =
      let least = loses absent in
      let long = length-append first (changes_in found (steps_of (take number plan.rounds))) in
      subst (λ (all : List Configuration). 1 ≤ length all) (sym (changes_of_both found plan.first (steps_of (take number plan.rounds)))) (omega (arith, least, long))

  abbrev GoesBy : List Configuration → Past (groups group) → Type 0
  GoesBy changes now = Goes group past (is_read left) found changes now

  stage_goes : (stage : Stage) (now : Past (groups group)) → HasCome group (work_of tells old new) past left found plan stage now
      → Goes group past (is_read left) found (changes_in found (plan.first ++ steps_of plan.rounds)) now
  stage_goes Opening now come =
      subst (λ (changes : List Configuration). GoesBy changes now) (sym (changes_of_both found plan.first (steps_of plan.rounds)))
      (goes_more group past (is_read left) found first (changes_in found (steps_of plan.rounds)) now come)
  stage_goes (Filling number) now come =
      let before = plan.first ++ steps_of (take number plan.rounds) in
      let others = steps_of (drop number plan.rounds) in
      let all : changes_in found (plan.first ++ steps_of (take number plan.rounds)) ++ changes_in found (steps_of (drop number plan.rounds)) ≡ changes_in found (plan.first ++ steps_of plan.rounds) =
      sym (changes_of_both found before others)
      ∙ ap (changes_in found) (append_assoc plan.first (steps_of (take number plan.rounds)) others ∙ ap (λ (steps : List Step). plan.first ++ steps) (steps_parts plan.rounds number)) in
      subst (λ (changes : List Configuration). GoesBy changes now) all
      (over_goes group past (is_read left) found (changes_in found before) (changes_in found others) (loses_behind number) now come)
  stage_goes (Noting number) now come =
      let round = come.2 in
      let before = plan.first ++ steps_of (take number plan.rounds) in
      let others = steps_of (drop (suc number) plan.rounds) in
      let one : length (changes_in found ((come.2).step ∷ [])) ≤ 1 = few_issued found ((come.2).step ∷ []) in
      let all : (changes_in found (plan.first ++ steps_of (take number plan.rounds)) ++ changes_in found ((come.2).step ∷ [])) ++ changes_in found (steps_of (drop (suc number) plan.rounds))
      ≡ changes_in found (plan.first ++ steps_of plan.rounds) =
      ap (λ (changes : List Configuration). changes ++ changes_in found others) (sym (changes_of_both found before (round.step ∷ [])))
      ∙ sym (changes_of_both found (before ++ round.step ∷ []) others)
      ∙ ap (changes_in found)
      (append_assoc before (round.step ∷ []) others ∙ append_assoc plan.first (steps_of (take number plan.rounds)) (round.step ∷ others)
      ∙ ap (λ (steps : List Step). plan.first ++ steps) (steps_at plan.rounds number round come.3)) in
      subst (λ (changes : List Configuration). GoesBy changes now) all
      (goes_more group past (is_read left) found (changes_in found before ++ changes_in found (round.step ∷ [])) (changes_in found others) now
      (⊎_elim
      (λ issued. subst (λ (one : Past (groups group)). GoesBy (changes_in found before ++ changes_in found (round.step ∷ [])) one) (sym issued)
      (issued_goes group past (is_read left) found (changes_in found before) (changes_in found (round.step ∷ [])) (loses_behind number) come.0 come.1 one))
      (λ acked. subst (λ (one : Past (groups group)). GoesBy (changes_in found before ++ changes_in found (round.step ∷ [])) one) (sym acked)
      (acked_goes group past (is_read left) found (changes_in found before) (changes_in found (round.step ∷ [])) (loses_behind number) come.0 come.1))
      come.4))

  ends_at : (done : Bool) (stage : Stage) (now : Past (groups group)) → (done ≡ true → IsOverRounds group (work_of tells old new) past left found plan (length plan.rounds) now)
      → HasCome group (work_of tells old new) past left found plan stage now → Ends group past (is_read left) found (changes_in found (plan.first ++ steps_of plan.rounds)) done now
  ends_at true stage now is_over come =
      subst (λ (rounds : List Round). IsOver group past (is_read left) found (changes_in found (plan.first ++ steps_of rounds)) now) (take-length plan.rounds) (is_over refl)
  ends_at false stage now is_over come = stage_goes stage now come

  -- ---- both promises

  module _ (floor : ℕ → ℕ) (promises : Promises) (newest : List (Option Newest)) (named : Option (List ℕ)) (called : IsCalled group old past floor promises left newest named found) (done : Bool)
      (along : ComesAlong group (work_of tells old new) past left found plan done) (whole : (image : Image) → IsLeft new.may_hold image → AreSectors image)
      (told_since : (t : ℕ) (image : Image) → new.left_since t image → new.tells_left) where
    pub keeps_both : KeepsBoth group old new floor (Goes group past (is_read left) found (changes_in found (plan.first ++ steps_of plan.rounds)))
        (Ends group past (is_read left) found (changes_in found (plan.first ++ steps_of plan.rounds)) done) (Stays promises) (Stays promises)
    keeps_both = record {
      any_moment = record {
        later = along.any_moment.later;
        since = λ t image le was_left. ⊎_elim inl
            (λ way. inr (λ are. record {
              now = way.now;
              promised = promises;
              goes = stage_goes way.stage way.now way.has_come;
              may = refl;
              is_kept = way.is_kept;
              keeps = filling.stage_keeps group old new (told_since t image was_left) past floor promises left newest named found called tells timestamp word plan image are way.stage way.now way.has_come way.is_left;
            }))
            (along.any_moment.since t image le was_left);
      };
      ends = λ tells_left.
          let end = along.ends tells_left in
          record {
            now = end.now;
            promised = promises;
            ends = ends_at done end.stage end.now end.is_over end.has_come;
            is_so = refl;
            all_kept = end.all_kept;
            all_data = λ image is_left.
                filling.stage_keeps group old new tells_left past floor promises left newest named found called tells timestamp word plan image (whole image is_left) end.stage end.now end.has_come
                (end.is_left image is_left);
          };
    }

-- ---- the call

-- where a position is to be filled not every position is in sync
never_idle : (found : GroupValue) (timestamp : ℕ) (word : List ℕ) → IsPlanned found timestamp word → IsIdle found timestamp word → ⊥
never_idle found timestamp word plan idle =
    let same : plan.entry ≡ idle.entry = some_is (sym plan.is_named ∙ idle.is_named) in
    subst (BeginsAt plan.entry plan.target plan.kept plan.before) (ap (λ (entry : Entry). begun (config_recovered found) entry.0 found.seats (passed_over (linux_members found) entry.1)) same ∙ idle.nothing) plan.begins

-- where each is nothing is asked of the group
idle_asks : (found : GroupValue) (timestamp : ℕ) (word : List ℕ) (idle : IsIdle found timestamp word) (steps : List Step) → steps_asked found timestamp (rebuild_request word (linux_members found)) ≡ Ok steps
    → rebuild_request word (linux_members found) (config_recovered found) found.seats ≡ Ok []
idle_asks found timestamp word idle steps are_asked =
    ap (rebuild_asked (config_recovered found) found.seats (linux_members found)) idle.is_named
    ∙ by (first_refusal (rebuild_refusals (config_recovered found) found.seats idle.entry))
    (subst (λ (entry : Option Entry). steps_by found timestamp (rebuild_asked (config_recovered found) found.seats (linux_members found) entry) ≡ Ok steps) idle.is_named are_asked)
  where
    by : (refusal : Option Refusal) → steps_by found timestamp (rebuild_unless (config_recovered found) found.seats (linux_members found) idle.entry refusal) ≡ Ok steps
        → rebuild_unless (config_recovered found) found.seats (linux_members found) idle.entry refusal ≡ Ok []
    by None is = ap (rebuild_changes found.seats idle.entry) idle.nothing
    by (Some refusal) is = absurd cc

-- the changes of which these are the steps
pub asked_changes : (found : GroupValue) (timestamp : ℕ) (request : Request) (steps : List Step) → steps_asked found timestamp request ≡ Ok steps
    → (changes : List Change) × (readied found changes timestamp ≡ Ok steps)
asked_changes found timestamp request steps are_asked = by (request (config_recovered found) found.seats) are_asked
  where
    by : (asked : Result (List Change) Refusal) → steps_by found timestamp asked ≡ Ok steps → (changes : List Change) × (readied found changes timestamp ≡ Ok steps)
    by (Ok changes) is = (changes, asked_of (readied found changes timestamp) steps is)
    by (Err refusal) is = absurd cc

module _ {D : Type 0} (tells : Type 0) (told : tells) (old new : BayState D) (group : List ℕ) (past : Past (groups group)) (floor : ℕ → ℕ) (small : (slot : ℕ) → floor slot < 2 ^ 64) (promises : Promises)
    (named : Option (List ℕ)) (timestamp : ℕ) (word : List ℕ) (outcome : Result ℕ Failure) (rebuilt : HasRebuiltArray (work_of tells old new) named timestamp word outcome)
    (found : GroupValue) (is_found : group_of rebuilt.taken.newest named ≡ Ok found) (own : found.config.group ≡ group)
    (admits : AdmitsCall group past floor promises old rebuilt.taken.left found) (left_held : IsLeft old.may_hold old.held) (whole_held : AreSectors old.held)
    (only_now : (image : Image) → old.left_since old.moment image → IsLeft old.may_hold image) (counts_old : (t : ℕ) (image : Image) → t ≤ old.moment → IsLeft old.may_hold image → old.left_since t image)
    (counts_new : (t : ℕ) (image : Image) → t ≤ new.moment → IsLeft new.may_hold image → new.left_since t image)
    (whole : (image : Image) → IsLeft new.may_hold image → AreSectors image) (told_since : (t : ℕ) (image : Image) → new.left_since t image → new.tells_left)
    (steps : List Step) (are_asked : steps_asked found timestamp (rebuild_request word (linux_members found)) ≡ Ok steps) where
  called : IsCalled group old past floor promises rebuilt.taken.left rebuilt.taken.newest named found
  called = called_by tells told old new group past floor small promises named timestamp _ _ rebuilt.taken found is_found own admits left_held whole_held

  abbrev Both : List Step → Type 0
  Both some =
      KeepsBoth group old new floor (Goes group past (is_read rebuilt.taken.left) found (changes_in found some))
      (Ends group past (is_read rebuilt.taken.left) found (changes_in found some) (is_done outcome)) (Stays promises) (Stays promises)

  -- where the group was recovered, no more
  module _ (idle : IsIdle found timestamp word) where
    taken_asks : steps_asked found timestamp (rebuild_request word rebuilt.linux) ≡ Ok steps
    taken_asks = subst (λ (linux : List ℕ). steps_asked found timestamp (rebuild_request word linux) ≡ Ok steps) (sym (rebuilt.are_its ∙ ap linux_found is_found)) are_asked

    idle_took : TookGroup old new rebuilt.taken.left rebuilt.taken.newest named found steps outcome
    idle_took = record {
      every_slot = rebuilt.taken.every_slot;
      read = rebuilt.taken.read told;
      is_found = is_found;
      leaves =
          let left_of = rebuilt.leaves told found is_found steps are_asked in
          record {
            later = left_of.later;
            since = λ t image le was_left. ⊎_elim inl
                (λ may. ⊎_elim (λ before. inl (counts_old t image le before))
                (⊎_elim (λ writing. inr writing.1) (λ way. absurd (never_idle found timestamp word way.plan idle))) may)
                (left_of.since t image le was_left);
          };
      keeps = rebuilt.taken.keeps told found is_found steps taken_asks;
    }

    idle_both : Both steps
    idle_both =
        keeps_unchanged group old new past floor small rebuilt.taken.left rebuilt.taken.newest named found steps outcome idle_took own admits.admitted admits.have_floors
        timestamp (rebuild_request word (linux_members found)) are_asked None (idle_asks found timestamp word idle steps are_asked) promises admits.all_data (λ image left. tt) admits.all_kept only_now
        (λ image later left. counts_new old.moment image later left) whole

    idle_floors : AllHaveFloors group past old floor → StopsLeave old new (λ image. HaveFloorsIn group past old.sizes image floor)
    idle_floors all =
        let changes = asked_changes found timestamp (rebuild_request word (linux_members found)) steps are_asked in
        stops_weaken (idle_took).leaves (λ image writing slot number config since stays current.
        writing_own group old past floor promises rebuilt.taken.left rebuilt.taken.newest named found called all slot number config since stays current steps
        (readied_floors found timestamp changes.0 steps changes.1) old image refl writing (all slot number config since stays current (writing.before slot) (λ l. writing.is_left slot l)))

  pub both_kept : KeepsBoth group old new floor (Goes group past (is_read rebuilt.taken.left) found (changes_in found steps))
      (Ends group past (is_read rebuilt.taken.left) found (changes_in found steps) (is_done outcome)) (Stays promises) (Stays promises)
  both_kept = ⊎_elim
      (λ none. none_came group old new past floor promises rebuilt.taken.left found (changes_in found steps) (is_done outcome) none.0 none.1 admits.all_kept admits.all_data)
      (⊎_elim
      idle_both
      (λ come.
      subst Both (steps_same ((come.0).first ++ steps_of (come.0).rounds) steps (sym (come.0).are_asked ∙ are_asked))
      (keeps_both group old new past rebuilt.taken.left found tells timestamp word come.0 floor promises rebuilt.taken.newest named called (is_done outcome) come.1 whole told_since)))
      (rebuilt.along told found is_found steps are_asked group own past admits.all_kept admits.admitted)

  -- The disks of members keep their floors.
  pub floors_kept : AllHaveFloors group past old floor → StopsLeave old new (λ image. HaveFloorsIn group past old.sizes image floor)
  floors_kept all = ⊎_elim
      (λ none. stops_weaken (none.1).any_moment (λ image left slot number config since stays current. all slot number config since stays current (image slot) (left slot)))
      (⊎_elim
      (λ idle. idle_floors idle all)
      (λ come. floors.floors_along tells old new group past floor promises rebuilt.taken.left rebuilt.taken.newest named found called all timestamp word come.0 (is_done outcome) come.1))
      (rebuilt.along told found is_found steps are_asked group own past admits.all_kept admits.admitted)
