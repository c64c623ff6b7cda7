-- A call of a command that changes another group is aside of a group's history.
use Rattle.std.proofs.Common.{◌≡◌, ℕ, true, false, List, Option, Result, Ok, Err, refl, ap, sym, ◌∙◌, inr, ⊎_elim, subst, arith}
use Rattle.std.proofs.lemmas.Bool.{and_parts, false≢true}
use Rattle.std.specs.Str.{bytes_eq}
use Rattle.ddf_bay.specs.ReadsOnly.{ReadsOnly}
use Rattle.ddf_bay.specs.Sectors.{Image, IsLeft}
use Rattle.ddf_bay.specs.State.{BayState}
use Rattle.ddf_config.specs.Configuration.{Configuration}
use Rattle.ddf_group.specs.declared.answer.Assembly.{Assembly}
use Rattle.ddf_view.specs.View.{View, view_of}
use Rattle.ddf_history.specs.Reading.{IsCopyOf, stands}
use Rattle.ddf_history.specs.Issued.{IsSince}
use Rattle.ddf_history.specs.Calls.{IsAside}
use Rattle.ddf_history.specs.Groups.{disk_of, groups, has_current}
use Rattle.ddf_history.specs.History.{Moment}
use Rattle.ddf_history.specs.Scenes.{scene_of}
use Rattle.ddf_steps.specs.Committed.{slots_of}
use Rattle.ddf_seats.specs.Group.{GroupValue}
use Rattle.ddf_assembly.specs.Group.{group_of}
use Rattle.ddf_recovery.specs.Recovery.{config_recovered}
use Rattle.ddf_seats.specs.Seated.{seated}
use Rattle.ddf_steps.specs.Steps.{Step}
use Rattle.ddf_history_steps.specs.Kept.{is_slot}
use Rattle.ddf_answer.specs.declared.failure.Failure.{Failure}
use Rattle.ddf_answer.specs.declared.failure.Failure.TheVariants.{Conflict, Disk, Memory, Refused, Split}
use Rattle.ddf_answer.specs.Call.{Work, work_of}
use Rattle.ddf_group_commands.specs.Change.{HasChanged, IsChanged, IsChangedIn, Request, steps_of}
use Rattle.ddf_command.specs.History.{OtherCall}
use Rattle.ddf_group_commands.specs.Writing.{IsLeftWriting, IsWrittenOn}
use Rattle.ddf_group_commands.proofs.Outcomes.{readied_by}
use Rattle.ddf_group_commands.proofs.LeftWriting.{IsStepsCopy, copy_left}
use Rattle.ddf_command.proofs.SeatsShown.{seat_shown}
use Rattle.ddf_command.proofs.StepsCopies.{IsKnown, written_known}

-- Where none are, nothing was written.
none_written : {D : Type 0} (work : Work D) (found : GroupValue) (failure : Failure) (outcome : Result ℕ Failure) → IsChanged work found (Err failure) outcome → ReadsOnly work.old work.new
none_written work found failure (Ok sequence) done = let no = done.are_asked in absurd cc
none_written work found failure (Err (Refused refusal)) done = done.1
none_written work found failure (Err (Disk slot)) done = let no = done.are_asked in absurd cc
none_written work found failure (Err Memory) done = done
none_written work found failure (Err (Conflict i j sequence differ)) done = absurd done
none_written work found failure (Err (Split i j)) done = absurd done

module _ {B : Type 0} {tells : Type 0} (told : tells) (disks : B → BayState B) (group : List ℕ)
    (only_now : (bay : B) (image : Image) → (disks bay).left_since (disks bay).moment image → IsLeft (disks bay).may_hold image)
    (old : Moment (groups group) B) (exit : B) (named : Option (List ℕ)) (timestamp : ℕ) (request : Request) (outcome : Result ℕ Failure)
    (changed : HasChanged (work_of tells (disks old.bay) (disks exit)) named timestamp request outcome) (found : GroupValue) (is_found : group_of changed.taken.newest named ≡ Ok found)
    (another : bytes_eq group found.config.group ≡ false) (is_held : IsLeft (disks old.bay).may_hold (disks old.bay).held)
    (aside : (image : Image) → IsLeft (disks old.bay).may_hold image → (slot : ℕ) → is_slot (slots_of found.seats) slot ≡ true
    → IsAside old.past slot (scene_of (disks old.bay).sizes image slot)) where
  abbrev entry : BayState B
  entry = disks old.bay

  module _ (steps : List Step) (are_asked : steps_of found timestamp request ≡ Ok steps) where
    -- A copy of the steps is of the group that was found, and names the disk that its seat's copy named before.
    known : (slot : ℕ) (on : IsWrittenOn steps slot) → IsKnown found.config.group (seated found) on.disk
    known slot on =
        let ready = readied_by found timestamp (request (config_recovered found) found.seats) steps are_asked in
        written_known found timestamp ready.changes steps ready.is slot on

    -- So it doesn't stand for this one.
    stands_not : (slot : ℕ) (copy : View) → IsStepsCopy steps slot copy → stands (groups group) copy ≡ true → ⊥
    stands_not slot copy written standing =
        let ours = (and_parts (bytes_eq group copy.group) ((groups group).lists_current copy (disk_of copy)) standing).0 in
        let names = ap (λ (view : View). view.group) written.1 ∙ (known slot written.0).of_group in
        false≢true (sym another ∙ sym (ap (bytes_eq group) names) ∙ ours)

    -- And it names what the slot named before.
    names_none : (slot : ℕ) (copy : View) → is_slot (slots_of found.seats) slot ≡ true → IsStepsCopy steps slot copy → (number : ℕ) (config : Configuration)
        → IsSince old.past.changes number config → has_current config (disk_of copy) ≡ true → ⊥
    names_none slot copy seat written number config since current =
        let is = known slot written.0 in
        let before = seat_shown entry changed.taken.left changed.taken.newest changed.taken.every_slot (changed.taken.read told) named found is_found is.place is.before is.is_there in
        let shown = subst (λ (s : ℕ). IsCopyOf (scene_of entry.sizes entry.held s) (view_of is.before.copy)) (is.same_slot ∙ written.0.on_slot) before in
        let same = ap disk_of written.1 ∙ is.same_disk in
        (aside entry.held is_held slot seat).names_none (view_of is.before.copy) number config shown since (ap (has_current config) (sym same) ∙ current)

    writing_aside : (image : Image) → IsLeftWriting entry steps image → (slot : ℕ) → is_slot (slots_of found.seats) slot ≡ true → IsAside old.past slot (scene_of entry.sizes image slot)
    writing_aside image writing slot seat =
        let first = aside writing.before writing.is_left slot seat in
        record {
          no_member = first.no_member;
          shows_none = λ copy is standing. ⊎_elim (λ was. first.shows_none copy was standing) (λ written. stands_not slot copy written standing) (copy_left entry steps image writing slot copy is);
          names_none = λ copy number config is since current. ⊎_elim
              (λ was. first.names_none copy number config was since current)
              (λ written. names_none slot copy seat written number config since current)
              (copy_left entry steps image writing slot copy is);
        }

  -- what a stop within the call leaves
  abbrev IsStillAside : Image → Type 0
  IsStillAside image = (slot : ℕ) → is_slot (slots_of found.seats) slot ≡ true → IsAside old.past slot (scene_of entry.sizes image slot)

  stops_aside : (asked : Result (List Step) Failure) → steps_of found timestamp request ≡ asked → (image : Image) → (disks exit).left_since entry.moment image → IsStillAside image
  stops_aside (Ok steps) is image was_left =
      ⊎_elim (λ before. aside image (only_now old.bay image before)) (λ writing. writing_aside steps is image writing)
      ((changed.leaves told found is_found steps is).since entry.moment image (omega arith) was_left)
  stops_aside (Err failure) is image was_left =
      let gives = subst (λ (one : Result GroupValue Assembly). IsChangedIn (work_of tells entry (disks exit)) timestamp request one outcome) is_found changed.gives in
      let reads = none_written (work_of tells entry (disks exit)) found failure outcome (subst (λ (asked : Result (List Step) Failure). IsChanged (work_of tells entry (disks exit)) found asked outcome) is gives) in
      ⊎_elim (λ before. aside image (only_now old.bay image before)) (λ left. aside image left) (reads.any_moment.since entry.moment image (omega arith) was_left)

  abbrev call : OtherCall told disks group old
  call = record {
    exit = exit;
    written = slots_of found.seats;
    leaves_others = changed.taken.beside told found is_found;
    is_held = is_held;
    are_aside = λ image was_left slot seat. inr (stops_aside (steps_of found timestamp request) refl image was_left slot seat);
  }

  -- So it is a call that doesn't take the group.
  pub other_call : (call : OtherCall told disks group old) × (call.exit ≡ exit) × (call.written ≡ slots_of found.seats)
  other_call = (call, refl, refl)
