-- What a call on the blocks of an array leaves, stage by stage, keeps its history and the data of its group at once.
use Rattle.std.proofs.Common.{◌≡◌, ◌⊎◌, inl, inr, ⊎_elim, ℕ, ◌≤◌, Bool, true, false, List, ◌++◌, length, Option, Some, refl, sym, subst}
use Rattle.std.specs.Prelude.{option_to_list}
use Rattle.ddf_bay.specs.Sectors.{Image, IsLeft, Outcomes}
use Rattle.ddf_bay.specs.State.{BayState}
use Rattle.ddf_config.specs.Configuration.{Configuration}
use Rattle.ddf_copy.specs.declared.newest_copy.Newest.{Newest}
use Rattle.ddf_plan.specs.declared.change.Change.{Change}
use Rattle.ddf_array.specs.Redundant.{IsRedundant}
use Rattle.ddf_array.specs.Sound.{AreSectors}
use Rattle.ddf_array.specs.Volume.{Volume}
use Rattle.ddf_read.specs.Reading.{Failed}
use Rattle.ddf_cells.specs.Alike.{AreAlike}
use Rattle.ddf_cells.proofs.Alike.{redundant_same}
use Rattle.ddf_data_array.specs.Allowed.{Allowed}
use Rattle.ddf_data_group.specs.Grouped.{Promises}
use Rattle.ddf_history.specs.Groups.{groups}
use Rattle.ddf_history.specs.Issued.{Past}
use Rattle.ddf_steps.specs.Committed.{slots_of}
use Rattle.ddf_seats.specs.Group.{GroupValue}
use Rattle.ddf_seats.specs.Leading.{some}
use Rattle.ddf_history_steps.specs.Going.{Ends, Goes, IsOver, changes_in}
use Rattle.ddf_history_steps.specs.Kept.{is_read}
use Rattle.ddf_history_steps.proofs.CommittingGoes.{changes_of_both}
use Rattle.ddf_data_history.specs.Promised.{KeepsData}
use Rattle.ddf_answer.specs.Call.{work_of}
use Rattle.ddf_group_commands.specs.Change.{Request}
use Rattle.ddf_write_commands.specs.Doing.{Doing}
use Rattle.ddf_write_commands.specs.Holding.{holding}
use Rattle.ddf_write_commands.specs.Planned.{IsPlanned}
use Rattle.ddf_write_commands.specs.Worked.{IsLeftClosing}
use Rattle.ddf_data_calls.specs.Calls.{KeepsBoth}
use Rattle.ddf_write_commands.specs.Along.{ComesAlong, EndsAlong, HasCome, IsLeftAt, Stage}
use Rattle.ddf_write_commands.specs.Along.Stage.{Closing, Done, Opening, Working}
use Rattle.ddf_data_calls.specs.Promised.{counted, with_allowed}
use Rattle.ddf_data_calls.proofs.Both as both
use Rattle.ddf_data_calls.proofs.Both.{IsSplit, promised_back}
use Rattle.ddf_data_calls.proofs.First.{IsCalled}
use Rattle.ddf_data_calls.proofs.Accepted.{mark_of}
use Rattle.ddf_data_calls.proofs.Carried.{Carrying}
use Rattle.ddf_data_calls.proofs.Gone.{acked_goes, acked_over, goes_more, issued_goes, over_goes, steps_lose}
use Rattle.ddf_data_calls.proofs.OneArray.{weaker_promised}
use Rattle.ddf_data_calls.proofs.Split.{last_few}

-- How a command's work is one that carries data: what it may give sectors, and what is sure once it is done.
pub record IsCarried {D : Type 0} (old new : BayState D) (promises : Promises) (guid : List ℕ) (doing : Doing) (carrying : Carrying) (v : Volume) : Type 1 where
  pub among : (before : Image) (may : Outcomes) (image : Image) → doing.IsAmong v before may image → (s l : ℕ) → may s l (image s l) ⊎ carrying.Gives v before s l (image s l)
  pub left : (before image : Image) → doing.IsLeft v before image → (s l : ℕ) → (image s l ≡ before s l) ⊎ carrying.Gives v before s l (image s l)
  -- where something is promised of the array it is redundant behind the work
  pub redundant : (before behind : Image) → AreAlike v before old.held → doing.HasDone (Failed old new) v before behind → doing.IsLeft v before behind → AreSectors behind
      → (allowed : Allowed) → promises guid ≡ Some allowed → IsRedundant v behind
  pub holds : (before behind : Image) → doing.HasDone (Failed old new) v before behind → carrying.Holds v behind

module _ {D : Type 0} (tells : Type 0) (old new : BayState D) (group : List ℕ) (past : Past (groups group)) (floor : ℕ → ℕ) (promises : Promises) (left : List Bool) (newest : List (Option Newest)) (named : Option (List ℕ)) (found : GroupValue)
    (called : IsCalled group old past floor promises left newest named found) (timestamp : ℕ) (word : List ℕ) (request : Request) (plan : IsPlanned found timestamp word request) (asked : List Change) (ask : Option Change)
    (is : IsSplit found timestamp plan.entry asked ask plan.first plan.last plan.volume) (doing : Doing) (carrying : Carrying) (carried : IsCarried old new promises plan.entry.0 doing carrying plan.volume) where
  abbrev pub Come : Stage → Past (groups group) → Type 0
  Come = HasCome group doing (work_of tells old new) past left found plan

  abbrev pub LeftAt : Stage → Image → Type 0
  LeftAt = IsLeftAt group doing (work_of tells old new) past left found plan

  abbrev amid_promises : Promises
  amid_promises = with_allowed carrying.next plan.entry.0 promises

  module _ (image : Image) (are : AreSectors image) where
    -- ---- the last step, and behind it

    module _ (closing : IsLeftClosing doing (work_of tells old new) found plan.first plan.last plan.volume image) where
      alike : (over : Past (groups group)) → IsOver group past (is_read left) found (changes_in found plan.first) over → AreAlike plan.volume closing.behind image
      alike over is_over =
          both.behind_alike group old past floor promises left newest named found called timestamp plan.entry asked ask plan.first plan.last plan.volume is carrying over is_over
          closing.before closing.behind image closing.first_written (carried.left closing.before closing.behind closing.is_left) closing.is_writing

      worked : (over : Past (groups group)) (is_over : IsOver group past (is_read left) found (changes_in found plan.first) over)
          → both.IsWorked group old past floor promises left newest named found called timestamp plan.entry asked ask plan.first plan.last plan.volume is carrying over is_over image
      worked over is_over =
          both.once_done group old past floor promises left newest named found called timestamp plan.entry asked ask plan.first plan.last plan.volume is carrying over is_over
          closing.before closing.behind image closing.first_written (carried.left closing.before closing.behind closing.is_left) closing.is_writing

      own_redundant : (over : Past (groups group)) → IsOver group past (is_read left) found (changes_in found plan.first) over → (allowed : Allowed) → promises plan.entry.0 ≡ Some allowed → IsRedundant plan.volume image
      own_redundant over is_over allowed promised =
          redundant_same plan.volume is.known closing.behind image (alike over is_over)
          (carried.redundant closing.before closing.behind
          (both.before_alike group old past floor promises left newest named found called timestamp plan.entry asked ask plan.first plan.last plan.volume is closing.before closing.first_written)
          closing.has_done closing.is_left closing.are_sectors allowed promised)

      redundant : (over : Past (groups group)) → IsOver group past (is_read left) found (changes_in found plan.first) over → (next : Allowed → Allowed) (allowed : Allowed)
          → with_allowed next plan.entry.0 promises plan.entry.0 ≡ Some allowed → IsRedundant plan.volume image
      redundant over is_over next allowed promised = let was = promised_back next plan.entry.0 promises allowed promised in own_redundant over is_over was.0 was.1

      amid_data : (over : Past (groups group)) → IsOver group past (is_read left) found (changes_in found plan.first) over → KeepsData group over floor image (with_allowed carrying.next plan.entry.0 promises)
      amid_data over is_over =
          both.amid_keeps group old past floor promises left newest named found called timestamp plan.entry asked ask plan.first plan.last plan.volume is carrying over is_over image are (worked over is_over)

      done_data : (over : Past (groups group)) → IsOver group past (is_read left) found (changes_in found plan.first) over → KeepsData group over floor image (with_allowed carrying.last plan.entry.0 promises)
      done_data over is_over =
          both.done_keeps group old past floor promises left newest named found called timestamp plan.entry asked ask plan.first plan.last plan.volume is carrying over is_over image are (worked over is_over)
          (carrying.holds_same plan.volume is.known closing.behind image (alike over is_over) (carried.holds closing.before closing.behind closing.has_done))

    -- ---- stage by stage

    pub stage_keeps : (stage : Stage) (now : Past (groups group)) → HasCome group doing (work_of tells old new) past left found plan stage now
        → IsLeftAt group doing (work_of tells old new) past left found plan stage image → KeepsData group now floor image (with_allowed carrying.next plan.entry.0 promises)
    stage_keeps Opening now come writing =
        weaker_promised carrying.next carrying.weaker group now floor image promises plan.entry.0
        (both.opening_keeps group old past floor promises left newest named found called timestamp plan.entry asked ask plan.first plan.last plan.volume is image are writing now come)
    stage_keeps Working now come working =
        both.amid_keeps group old past floor promises left newest named found called timestamp plan.entry asked ask plan.first plan.last plan.volume is carrying now come image are
        (both.while_working group old past floor promises left newest named found called timestamp plan.entry asked ask plan.first plan.last plan.volume is carrying now come
        working.before image working.first_written (carried.among working.before (holding old (slots_of found.seats) working.before).may_hold image working.is_among))
    stage_keeps Closing now come closing =
        subst (λ (p : Past (groups group)). KeepsData group p floor image (with_allowed carrying.next plan.entry.0 promises)) (sym come.2)
        (both.closing_keeps group old past floor promises left newest named found called timestamp plan.entry asked ask plan.first plan.last plan.volume is carrying come.0 come.1
        image (with_allowed carrying.next plan.entry.0 promises) (amid_data closing come.0 come.1) (redundant closing come.0 come.1 carrying.next))
    stage_keeps Done now come closing =
        subst (λ (p : Past (groups group)). KeepsData group p floor image (with_allowed carrying.next plan.entry.0 promises)) (sym come.2)
        (both.ended_keeps group old past floor promises left newest named found called timestamp plan.entry asked ask plan.first plan.last plan.volume is carrying come.0 come.1
        image (with_allowed carrying.next plan.entry.0 promises) (amid_data closing come.0 come.1) (redundant closing come.0 come.1 carrying.next))

    -- Once all is done the blocks have what they get,
    pub done_keeps : (stage : Stage) → stage ≡ Done → (now : Past (groups group)) → HasCome group doing (work_of tells old new) past left found plan stage now
        → IsLeftAt group doing (work_of tells old new) past left found plan stage image → KeepsData group now floor image (with_allowed carrying.last plan.entry.0 promises)
    done_keeps Opening same now come left_at = absurd cc
    done_keeps Working same now come left_at = absurd cc
    done_keeps Closing same now come left_at = absurd cc
    done_keeps Done same now come closing =
        subst (λ (p : Past (groups group)). KeepsData group p floor image (with_allowed carrying.last plan.entry.0 promises)) (sym come.2)
        (both.ended_keeps group old past floor promises left newest named found called timestamp plan.entry asked ask plan.first plan.last plan.volume is carrying come.0 come.1
        image (with_allowed carrying.last plan.entry.0 promises) (done_data closing come.0 come.1) (redundant closing come.0 come.1 carrying.last))

    -- and where the array is redundant for sure they may count with it.
    pub done_counts : ((before behind : Image) → doing.HasDone (Failed old new) plan.volume before behind → AreSectors behind → IsRedundant plan.volume behind)
        → (stage : Stage) → stage ≡ Done → (now : Past (groups group)) → HasCome group doing (work_of tells old new) past left found plan stage now
        → IsLeftAt group doing (work_of tells old new) past left found plan stage image
        → KeepsData group now floor image (counted plan.entry.0 plan.volume image (with_allowed carrying.next plan.entry.0 promises)) × IsRedundant plan.volume image
    done_counts sure Opening same now come left_at = absurd cc
    done_counts sure Working same now come left_at = absurd cc
    done_counts sure Closing same now come left_at = absurd cc
    done_counts sure Done same now come closing =
        let here = redundant_same plan.volume is.known closing.behind image (alike closing come.0 come.1) (sure closing.before closing.behind closing.has_done closing.are_sectors) in (
          subst (λ (p : Past (groups group)). KeepsData group p floor image (counted plan.entry.0 plan.volume image (with_allowed carrying.next plan.entry.0 promises))) (sym come.2)
              (both.ended_keeps group old past floor promises left newest named found called timestamp plan.entry asked ask plan.first plan.last plan.volume is carrying come.0 come.1
              image (counted plan.entry.0 plan.volume image (with_allowed carrying.next plan.entry.0 promises))
              (both.count_keeps group old past floor promises left newest named found called timestamp plan.entry asked ask plan.first plan.last plan.volume is carrying come.0 come.1
              image (with_allowed carrying.next plan.entry.0 promises) (amid_data closing come.0 come.1) are here)
              (λ allowed promised. here)),
          here,
        )

  -- ---- both promises

  loses : some found.absent ≡ true → 1 ≤ length (changes_in found plan.first)
  loses = steps_lose found (option_to_list (mark_of plan.entry)) timestamp plan.first is.are_first

  -- The changes have come so far at each stage,
  stage_goes : (stage : Stage) (now : Past (groups group)) → HasCome group doing (work_of tells old new) past left found plan stage now
      → Goes group past (is_read left) found (changes_in found plan.first ++ changes_in found plan.last) now
  stage_goes Opening now come = goes_more group past (is_read left) found (changes_in found plan.first) (changes_in found plan.last) now come
  stage_goes Working now come = over_goes group past (is_read left) found (changes_in found plan.first) (changes_in found plan.last) loses now come
  stage_goes Closing now come =
      subst (Goes group past (is_read left) found (changes_in found plan.first ++ changes_in found plan.last)) (sym come.2)
      (issued_goes group past (is_read left) found (changes_in found plan.first) (changes_in found plan.last) loses come.0 come.1
      (last_few found timestamp (mark_of plan.entry) asked plan.first plan.last is.are_first is.are_all ask is.is_asked))
  stage_goes Done now come =
      subst (Goes group past (is_read left) found (changes_in found plan.first ++ changes_in found plan.last)) (sym come.2)
      (acked_goes group past (is_read left) found (changes_in found plan.first) (changes_in found plan.last) loses come.0 come.1)

  done_over : (stage : Stage) → stage ≡ Done → (now : Past (groups group)) → HasCome group doing (work_of tells old new) past left found plan stage now
      → IsOver group past (is_read left) found (changes_in found plan.first ++ changes_in found plan.last) now
  done_over Opening same now come = absurd cc
  done_over Working same now come = absurd cc
  done_over Closing same now come = absurd cc
  done_over Done same now come =
      subst (IsOver group past (is_read left) found (changes_in found plan.first ++ changes_in found plan.last)) (sym come.2)
      (acked_over group past (is_read left) found (changes_in found plan.first) (changes_in found plan.last) loses come.0 come.1)

  pub goes_at : (stage : Stage) (now : Past (groups group)) → HasCome group doing (work_of tells old new) past left found plan stage now
      → Goes group past (is_read left) found (changes_in found (plan.first ++ plan.last)) now
  goes_at stage now come = subst (λ (all : List Configuration). Goes group past (is_read left) found all now) (sym (changes_of_both found plan.first plan.last)) (stage_goes stage now come)

  -- and at the end.
  pub ends_at : (done : Bool) (stage : Stage) (now : Past (groups group)) → (done ≡ true → stage ≡ Done) → HasCome group doing (work_of tells old new) past left found plan stage now
      → Ends group past (is_read left) found (changes_in found (plan.first ++ plan.last)) done now
  ends_at true stage now is_over come =
      subst (λ (all : List Configuration). IsOver group past (is_read left) found all now) (sym (changes_of_both found plan.first plan.last)) (done_over stage (is_over refl) now come)
  ends_at false stage now is_over come = goes_at stage now come

  module _ (May Is : Promises → Type 0) (done : Bool) (along : ComesAlong group doing (work_of tells old new) past left found plan done) (whole : (image : Image) → IsLeft new.may_hold image → AreSectors image)
      (on_the_way : (image : Image) → AreSectors image → (stage : Stage) (now : Past (groups group)) → HasCome group doing (work_of tells old new) past left found plan stage now
      → IsLeftAt group doing (work_of tells old new) past left found plan stage image → (promised : Promises) × May promised × KeepsData group now floor image promised)
      (at_end : new.tells_left → (end : EndsAlong group doing (work_of tells old new) past left found plan done)
      → (promised : Promises) × Is promised × ((image : Image) → IsLeft new.may_hold image → AreSectors image → KeepsData group end.now floor image promised)) where
    pub keeps_both : KeepsBoth group old new floor (Goes group past (is_read left) found (changes_in found (plan.first ++ plan.last)))
        (Ends group past (is_read left) found (changes_in found (plan.first ++ plan.last)) done) May Is
    keeps_both = record {
      any_moment = record {
        later = along.any_moment.later;
        since = λ t image le was_left. ⊎_elim inl
            (λ way. inr (λ are.
            let kept = on_the_way image are way.stage way.now way.has_come way.is_left in
            record { now = way.now; promised = kept.0; goes = goes_at way.stage way.now way.has_come; may = kept.1; is_kept = way.is_kept; keeps = kept.2 }))
            (along.any_moment.since t image le was_left);
      };
      ends = λ tells_left.
          let end = along.ends tells_left in
          let kept = at_end tells_left end in
          record {
            now = end.now;
            promised = kept.0;
            ends = ends_at done end.stage end.now end.is_over end.has_come;
            is_so = kept.1;
            all_kept = end.all_kept;
            all_data = λ image is_left. kept.2 image is_left (whole image is_left);
          };
    }
