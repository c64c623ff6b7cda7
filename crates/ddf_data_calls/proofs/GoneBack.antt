-- A copyback keeps its history and the data of its group.
use Rattle.std.proofs.Common.{◌≡◌, ◌∙◌, inl, inr, ⊎_elim, ℕ, ◌≤◌, ◌<◌, ◌^◌, Bool, true, false, List, [], ◌∷◌, ◌++◌, length, Option, Result, Ok, refl, sym, subst}
use Rattle.ddf_bay.specs.Moments.{StopsLeave}
use Rattle.ddf_bay.specs.Sectors.{Image, IsLeft}
use Rattle.ddf_bay.specs.State.{BayState}
use Rattle.ddf_bay.proofs.Steps.{stops_weaken}
use Rattle.ddf_config.specs.Configuration.{Configuration}
use Rattle.ddf_copy.specs.declared.newest_copy.Newest.{Newest}
use Rattle.ddf_array.specs.Sound.{AreSectors}
use Rattle.ddf_data_group.specs.Grouped.{Promises}
use Rattle.ddf_history.specs.Groups.{groups}
use Rattle.ddf_history.specs.Issued.{Past}
use Rattle.ddf_seats.specs.Group.{GroupValue}
use Rattle.ddf_seats.specs.Leading.{some}
use Rattle.ddf_assembly.specs.Group.{group_of}
use Rattle.ddf_steps.specs.Steps.{Step}
use Rattle.ddf_history_steps.specs.Going.{Ends, Goes, changes_in}
use Rattle.ddf_history_steps.specs.Kept.{is_read}
use Rattle.ddf_history_steps.proofs.CommittingGoes.{changes_of_both}
use Rattle.ddf_data_history.specs.Carried.{Stays}
use Rattle.ddf_answer.specs.declared.failure.Failure.{Failure}
use Rattle.ddf_answer.specs.Call.{work_of}
use Rattle.ddf_group_commands.specs.Change.{is_done, steps_of as steps_asked}
use Rattle.ddf_group_commands.specs.Requests.{linux_members}
use Rattle.ddf_rebuild_command.specs.BackAlong.{ComesAlongBack, HasGone, IsOverAll}
use Rattle.ddf_rebuild_command.specs.BackPlanned.{BackStage, IsBackPlanned}
use Rattle.ddf_rebuild_command.specs.BackPlanned.BackStage.{Copying, Opening, Returning}
use Rattle.ddf_rebuild_command.specs.CopiedBack.{HasCopiedBack}
use Rattle.ddf_rebuild_command.specs.GoingBack.{copyback_request}
use Rattle.ddf_rebuild_command.proofs.BackCame.{steps_same}
use Rattle.ddf_data_calls.specs.Calls.{AdmitsCall, KeepsBoth}
use Rattle.ddf_data_calls.specs.Floors.{AllHaveFloors, HaveFloorsIn}
use Rattle.ddf_data_calls.proofs.Back as back
use Rattle.ddf_data_calls.proofs.First.{IsCalled, called_by}
use Rattle.ddf_data_calls.proofs.FloorsBack as floors
use Rattle.ddf_data_calls.proofs.Gone.{acked_goes, goes_more, issued_goes, over_goes, steps_lose}
use Rattle.ddf_data_calls.proofs.NotedSteps.{few_issued}
use Rattle.ddf_data_calls.proofs.Taken.{none_came}

-- ---- how far its changes have come

module _ {D : Type 0} (group : List ℕ) (old new : BayState D) (past : Past (groups group)) (left : List Bool) (found : GroupValue) (tells : Type 0) (timestamp : ℕ) (word : List ℕ) (slot : ℕ)
    (plan : IsBackPlanned old.sizes found timestamp word slot) where
  abbrev first : List Configuration
  first = changes_in found plan.first

  abbrev last : List Configuration
  last = changes_in found (plan.last ∷ [])

  loses : some found.absent ≡ true → 1 ≤ length first
  loses = steps_lose found [] timestamp plan.first plan.are_first

  all_are : changes_in found plan.first ++ changes_in found (plan.last ∷ []) ≡ changes_in found (plan.first ++ plan.last ∷ [])
  all_are = sym (changes_of_both found plan.first (plan.last ∷ []))

  abbrev GoesBy : List Configuration → Past (groups group) → Type 0
  GoesBy changes now = Goes group past (is_read left) found changes now

  stage_goes : (stage : BackStage) (now : Past (groups group)) → HasGone group (work_of tells old new) past left found plan stage now
      → Goes group past (is_read left) found (changes_in found (plan.first ++ plan.last ∷ [])) now
  stage_goes Opening now gone = subst (λ (changes : List Configuration). GoesBy changes now) all_are (goes_more group past (is_read left) found first last now gone)
  stage_goes Copying now gone = subst (λ (changes : List Configuration). GoesBy changes now) all_are (over_goes group past (is_read left) found first last loses now gone)
  stage_goes Returning now gone =
      subst (λ (changes : List Configuration). GoesBy changes now) all_are
      (⊎_elim
      (λ issued. subst (λ (one : Past (groups group)). GoesBy (first ++ last) one) (sym issued) (issued_goes group past (is_read left) found first last loses gone.0 gone.1 (few_issued found (plan.last ∷ []))))
      (λ acked. subst (λ (one : Past (groups group)). GoesBy (first ++ last) one) (sym acked) (acked_goes group past (is_read left) found first last loses gone.0 gone.1))
      gone.2)

  ends_at : (done : Bool) (stage : BackStage) (now : Past (groups group)) → (done ≡ true → IsOverAll group (work_of tells old new) past left found plan now)
      → HasGone group (work_of tells old new) past left found plan stage now → Ends group past (is_read left) found (changes_in found (plan.first ++ plan.last ∷ [])) done now
  ends_at true stage now is_over gone = is_over refl
  ends_at false stage now is_over gone = stage_goes stage now gone

  -- ---- both promises

  module _ (floor : ℕ → ℕ) (promises : Promises) (newest : List (Option Newest)) (named : Option (List ℕ)) (called : IsCalled group old past floor promises left newest named found) (done : Bool)
      (along : ComesAlongBack group (work_of tells old new) past left found plan done) (whole : (image : Image) → IsLeft new.may_hold image → AreSectors image)
      (told_since : (t : ℕ) (image : Image) → new.left_since t image → new.tells_left) where
    pub keeps_both : KeepsBoth group old new floor (Goes group past (is_read left) found (changes_in found (plan.first ++ plan.last ∷ [])))
        (Ends group past (is_read left) found (changes_in found (plan.first ++ plan.last ∷ [])) done) (Stays promises) (Stays promises)
    keeps_both = record {
      any_moment = record {
        later = along.any_moment.later;
        since = λ t image le was_left. ⊎_elim inl
            (λ way. inr (λ are. record {
              now = way.now;
              promised = promises;
              goes = stage_goes way.stage way.now way.has_gone;
              may = refl;
              is_kept = way.is_kept;
              keeps = back.stage_keeps group old new past floor promises left newest named found called tells timestamp word slot plan (told_since t image was_left) image are way.stage way.now way.has_gone way.is_left;
            }))
            (along.any_moment.since t image le was_left);
      };
      ends = λ tells_left.
          let end = along.ends tells_left in
          record {
            now = end.now;
            promised = promises;
            ends = ends_at done end.stage end.now end.is_over end.has_gone;
            is_so = refl;
            all_kept = end.all_kept;
            all_data = λ image is_left.
                back.stage_keeps group old new past floor promises left newest named found called tells timestamp word slot plan tells_left image (whole image is_left) end.stage end.now end.has_gone
                (end.is_left image is_left);
          };
    }

-- ---- the call

module _ {D : Type 0} (tells : Type 0) (told : tells) (old new : BayState D) (group : List ℕ) (past : Past (groups group)) (floor : ℕ → ℕ) (small : (slot : ℕ) → floor slot < 2 ^ 64) (promises : Promises)
    (named : Option (List ℕ)) (timestamp : ℕ) (word : List ℕ) (slot : ℕ) (outcome : Result ℕ Failure) (copied : HasCopiedBack (work_of tells old new) named timestamp word slot outcome)
    (found : GroupValue) (is_found : group_of copied.taken.newest named ≡ Ok found) (own : found.config.group ≡ group)
    (admits : AdmitsCall group past floor promises old copied.taken.left found) (left_held : IsLeft old.may_hold old.held) (whole_held : AreSectors old.held)
    (whole : (image : Image) → IsLeft new.may_hold image → AreSectors image) (told_since : (t : ℕ) (image : Image) → new.left_since t image → new.tells_left)
    (steps : List Step) (are_asked : steps_asked found timestamp (copyback_request (length old.sizes) word slot (linux_members found)) ≡ Ok steps) where
  called : IsCalled group old past floor promises copied.taken.left copied.taken.newest named found
  called = called_by tells told old new group past floor small promises named timestamp _ _ copied.taken found is_found own admits left_held whole_held

  abbrev Both : List Step → Type 0
  Both some_steps =
      KeepsBoth group old new floor (Goes group past (is_read copied.taken.left) found (changes_in found some_steps))
      (Ends group past (is_read copied.taken.left) found (changes_in found some_steps) (is_done outcome)) (Stays promises) (Stays promises)

  pub both_kept : KeepsBoth group old new floor (Goes group past (is_read copied.taken.left) found (changes_in found steps))
      (Ends group past (is_read copied.taken.left) found (changes_in found steps) (is_done outcome)) (Stays promises) (Stays promises)
  both_kept = ⊎_elim
      (λ none. none_came group old new past floor promises copied.taken.left found (changes_in found steps) (is_done outcome) none.0 none.1 admits.all_kept admits.all_data)
      (λ come.
      subst Both (steps_same ((come.0).first ++ (come.0).last ∷ []) steps (sym (come.0).are_asked ∙ are_asked))
      (keeps_both group old new past copied.taken.left found tells timestamp word slot come.0 floor promises copied.taken.newest named called (is_done outcome) come.1 whole told_since))
      (copied.along told found is_found steps are_asked group own past admits.all_kept admits.admitted)

  -- The disks of members keep their floors.
  pub floors_kept : AllHaveFloors group past old floor → StopsLeave old new (λ image. HaveFloorsIn group past old.sizes image floor)
  floors_kept all = ⊎_elim
      (λ none. stops_weaken (none.1).any_moment (λ image left number_slot number config since stays current. all number_slot number config since stays current (image number_slot) (left number_slot)))
      (λ come. floors.floors_along tells old new group past floor promises copied.taken.left copied.taken.newest named found called all timestamp word slot come.0 (is_done outcome) come.1)
      (copied.along told found is_found steps are_asked group own past admits.all_kept admits.admitted)
