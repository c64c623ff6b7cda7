-- A call of a group that stands beside another one doesn't take that other one.
use Rattle.std.proofs.Common.{◌≡◌, ◌∙◌, inl, inr, ⊎_elim, ℕ, Bool, true, false, List, [], ◌++◌, Option, Some, Ok, refl, sym, ap, subst, arith}
use Rattle.std.proofs.lemmas.Bool.{false_from_ne_true}
use Rattle.std.proofs.lemmas.Slice.Eq.{bytes_eq-Decides}
use Rattle.std.specs.Prelude.{Result, length, slice_get}
use Rattle.std.specs.Str.{bytes_eq}
use Rattle.ddf_bytes.specs.Streams.{SourceState}
use Rattle.ddf_bay.specs.ReadsOnly.{ReadsOnly}
use Rattle.ddf_bay.specs.Sectors.{Image, IsLeft}
use Rattle.ddf_bay.specs.State.{BayState}
use Rattle.ddf_config.specs.Configuration.{Configuration}
use Rattle.ddf_copy.specs.declared.newest_copy.Newest.{Newest}
use Rattle.ddf_history.specs.Calls.{IsAside}
use Rattle.ddf_history.specs.Groups.{Disk, groups, has_current}
use Rattle.ddf_history.specs.History.{Moment as HistoryMoment}
use Rattle.ddf_history.specs.Issued.{IsSince, Past}
use Rattle.ddf_history.specs.Promise.{IsKept}
use Rattle.ddf_history.specs.Scenes.{scene_of}
use Rattle.ddf_seats.specs.Group.{GroupValue}
use Rattle.ddf_assembly.specs.Group.{group_of}
use Rattle.ddf_assembly.specs.Slots.{newest_from}
use Rattle.ddf_steps.specs.Committed.{slots_of}
use Rattle.ddf_steps.specs.Steps.{Step}
use Rattle.ddf_recovery.specs.Recovery.{config_recovered}
use Rattle.ddf_history_steps.specs.Going.{Goes, KeepsHistory, changes_in}
use Rattle.ddf_history_steps.specs.Kept.{is_read, is_slot}
use Rattle.ddf_history_steps.proofs.Acked.{goes_keeps}
use Rattle.ddf_history_steps.proofs.SlotsKept.{ends_slots}
use Rattle.ddf_answer.specs.declared.failure.Failure.{Failure}
use Rattle.ddf_answer.specs.Call.{work_of}
use Rattle.ddf_group_commands.specs.Change.{HasChanged, Request, is_done, steps_of}
use Rattle.ddf_group_commands.specs.Requests.{linux_found}
use Rattle.ddf_group_commands.specs.Others.{LeavesOthers}
use Rattle.ddf_write_commands.specs.Write.{is_written}
use Rattle.ddf_rebuild_command.specs.Asked.{rebuild_request}
use Rattle.ddf_rebuild_command.specs.GoingBack.{copyback_request}
use Rattle.ddf_command.specs.History.{OtherCall as CallBeside}
use Rattle.ddf_history_life.specs.Commands.{KeepDisk}
use Rattle.ddf_data_events.specs.Calls.{Call, Finds, OtherCall, exit_of}
use Rattle.ddf_data_events.specs.Calls.Call.{Accepts, Changes, Copies, Joins, Others, Reads, Rebuilds, Resyncs, Writes}
use Rattle.ddf_data_events.proofs.Bays.{AreBays}
use Rattle.ddf_data_events.proofs.Floors.{by_held}
use Rattle.ddf_data_calls.specs.Floors.{HaveFloors}
use Rattle.ddf_data_life.proofs.Kept.{resync_keeps, write_keeps}
use Rattle.ddf_data_lives.proofs.Sparing.{copyback_keeps, issued_keep, rebuild_keeps}
use Rattle.ddf_data_groups.specs.Beside.{AreBeside, Both, our_moment, their_moment}
use Rattle.ddf_data_groups.specs.Going.{TakesItsOwn}
use Rattle.ddf_data_groups.proofs.Falling.{last_behind}
use Rattle.ddf_data_groups.proofs.Seats as seats
use Rattle.ddf_data_groups.proofs.Seats.{IsSeated}
use Rattle.ddf_data_groups.proofs.Showing.{IsOurs, member_aside}

-- what is known of a call that changes another group than that of a history: it doesn't take this one
abbrev pub AreChangesAside : {B : Type 0} {tells : Type 0} (told : tells) (disks : B → BayState B) → Type 0
AreChangesAside {B = B} {tells = tells} told disks =
    (group : List ℕ) (old : HistoryMoment (groups group) B) (exit : B) (named : Option (List ℕ)) (timestamp : ℕ) (request : Request) (outcome : Result ℕ Failure)
    → (changed : HasChanged (work_of tells (disks old.bay) (disks exit)) named timestamp request outcome) → (found : GroupValue) → group_of changed.taken.newest named ≡ Ok found
    → bytes_eq group found.config.group ≡ false → IsLeft (disks old.bay).may_hold (disks old.bay).held
    → ((image : Image) → IsLeft (disks old.bay).may_hold image → (slot : ℕ) → is_slot (slots_of found.seats) slot ≡ true → IsAside old.past slot (scene_of (disks old.bay).sizes image slot))
    → (call : CallBeside told disks group old) × (call.exit ≡ exit) × (call.written ≡ slots_of found.seats)

-- a call that doesn't take the other group, and that left this bay
abbrev pub IsAsideAt : {B : Type 0} {tells : Type 0} (told : tells) (disks : B → BayState B) {S : Type 0} (tells_bytes : Type 0) (streams : S → SourceState) {one other : List ℕ} → Both one other B → B
    → Type 0
IsAsideAt told disks tells_bytes streams {other = other} both exit = (aside : OtherCall told disks tells_bytes streams other (their_moment both)) × (aside.beside.exit ≡ exit)

module _ {B : Type 0} {tells : Type 0} (told : tells) (disks : B → BayState B) {S : Type 0} (tells_bytes : Type 0) (streams : S → SourceState) (are : AreBays disks) (one other : List ℕ)
    (both : Both one other B) (beside : AreBeside disks both) (tells_left : (disks both.bay).tells_left) where
  abbrev entry : BayState B
  entry = disks both.bay

  abbrev ours : Past (groups one)
  ours = both.ours.past

  abbrev theirs : Past (groups other)
  theirs = both.theirs.past

  is_held : IsLeft entry.may_hold entry.held
  is_held = (are both.bay).held tells_left

  floors : HaveFloors one ours entry both.ours.floor
  floors = by_held one disks are ours both.ours.floor both.bay beside.keeps.floored tells_left

  -- ---- a call that takes the group

  module _ (left : List Bool) (every_slot : length left ≡ length entry.sizes) (newest : List (Option Newest)) (read : newest ≡ newest_from entry 0 left) (named : Option (List ℕ))
      (finds : Finds told disks tells_bytes streams one (our_moment both) left newest named) where
    abbrev found : GroupValue
    found = finds.found

    seat : (slot : ℕ) → is_slot (slots_of found.seats) slot ≡ true → IsSeated one entry ours both.ours.floor floors left every_slot newest read named found finds.is_found finds.own finds.admitted slot
    seat = seats.is_seated one entry ours both.ours.floor floors left every_slot newest read named found finds.is_found finds.own finds.admitted

    since : (number : ℕ) × IsSince ours.changes number found.config
    since = seats.found_since one entry ours both.ours.floor floors left every_slot newest read named found finds.is_found finds.own finds.admitted

    is_ours : (slot : ℕ) → is_slot (slots_of found.seats) slot ≡ true → IsOurs one other ours theirs beside.apart slot
    is_ours slot here = let from = since in record { number = from.0; config = found.config; since = from.1; current = (seat slot here).current }

    no_member : (slot number : ℕ) (config : Configuration) → is_slot (slots_of found.seats) slot ≡ true → IsSince theirs.changes number config → has_current config (theirs.disk slot) ≡ true → ⊥
    no_member slot number config here is current = let from = since in beside.apart.no_slot slot from.0 number found.config config from.1 is (seat slot here).current current

    -- The disks of its seats are members by the last acknowledged change too,
    last_current : (slot : ℕ) → is_slot (slots_of found.seats) slot ≡ true → (last : Configuration) → slice_get ours.changes.issued ours.changes.acked ≡ Some last → has_current last (ours.disk slot) ≡ true
    last_current slot here last is = let from = since in beside.members.none_joins from.0 found.config last (ours.disk slot) from.1 (seat slot here).current is

    -- so that they are aside of the other group's history before the call.
    pub entry_aside : (image : Image) → IsLeft entry.may_hold image → (slot : ℕ) → is_slot (slots_of found.seats) slot ≡ true → IsAside theirs slot (scene_of entry.sizes image slot)
    entry_aside image is_left slot here =
        member_aside one other ours theirs beside.apart slot (is_ours slot here) ours (scene_of entry.sizes image) (beside.keeps.shows image is_left) refl (seat slot here).not_lost (seat slot here).not_back
        beside.members.own (last_current slot here)

    -- ---- one that loses no disk that is there

    module _ (steps : List Step) (stays : (disk : Disk) → has_current (config_recovered found) disk ≡ true → KeepDisk steps disk) where
      abbrev issued : List Configuration
      issued = changes_in found steps

      way_aside : (image : Image) (now : Past (groups one)) → Goes one ours (is_read left) found issued now → IsKept now (scene_of entry.sizes image) → (slot : ℕ) → is_slot (slots_of found.seats) slot ≡ true
          → IsAside theirs slot (scene_of entry.sizes image slot)
      way_aside image now goes kept slot here =
          let kept_slots = ends_slots one ours (is_read left) found issued false now goes in
          let later = (goes_keeps one ours now (is_read left) found issued goes).later in
          let same_own = kept_slots.same_own in
          let own = beside.members.own in
          let first = beside.keeps.shows entry.held is_held in
          let sits = seat slot here in
          member_aside one other ours theirs beside.apart slot (is_ours slot here) now (scene_of entry.sizes image) kept (ap (λ (disk : ℕ → Disk). disk slot) kept_slots.same_disks)
          (kept_slots.not_lost slot sits.was_read ∙ sits.not_lost)
          (λ back. sits.not_back (sym (ap (λ (returned : ℕ → Bool). returned slot) kept_slots.same_returned) ∙ back))
          (omega (arith, later, same_own, own))
          (λ last at.
          last_behind one ours (is_read left) found (λ config. has_current config (ours.disk slot) ≡ true) first.last first.is_last (last_current slot here first.last first.is_last) sits.current issued
          (issued_keep (ours.disk slot) found steps (stays (ours.disk slot) sits.current_then)) now goes last at)

      module _ (exit : B) (others : LeavesOthers entry (disks exit) (slots_of found.seats)) (done : Bool) (keeps : KeepsHistory one entry (disks exit) ours left found issued done)
          (same_sizes : (disks exit).sizes ≡ entry.sizes) where
        stops_aside : (image : Image) → (disks exit).left_since entry.moment image → (slot : ℕ) → is_slot (slots_of found.seats) slot ≡ true → IsAside theirs slot (scene_of entry.sizes image slot)
        stops_aside image was_left slot here = ⊎_elim
            (λ before. entry_aside image ((are both.bay).only_now image before) slot here)
            (λ way. way_aside image way.0 way.1 way.2 slot here)
            (keeps.any_moment.since entry.moment image (omega arith) was_left)

        beside_call : CallBeside told disks other (record { past = theirs; bay = both.bay })
        beside_call = record {
          exit = exit;
          written = slots_of found.seats;
          leaves_others = others;
          is_held = is_held;
          are_aside = λ image was_left slot here. inr (stops_aside image was_left slot here);
        }

        pub taken_aside : IsAsideAt told disks tells_bytes streams both exit
        unfolding beside_call
        taken_aside = (record { beside = beside_call; same_sizes = same_sizes; no_member = no_member }, refl)

    -- ---- one that changes the group, and may fail a disk

    module _ (another : bytes_eq other found.config.group ≡ false) where
      foreign : AreChangesAside told disks → (exit : B) (timestamp : ℕ) (request : Request) (outcome : Result ℕ Failure) (changed : HasChanged (work_of tells entry (disks exit)) named timestamp request outcome)
          → changed.taken.newest ≡ newest → (call : CallBeside told disks other (record { past = theirs; bay = both.bay })) × (call.exit ≡ exit) × (call.written ≡ slots_of found.seats)
      foreign changes exit timestamp request outcome changed same =
          changes other (record { past = theirs; bay = both.bay }) exit named timestamp request outcome changed found
          (subst (λ (all : List (Option Newest)). group_of all named ≡ Ok found) (sym same) finds.is_found) another is_held entry_aside

    is_another : bytes_eq other found.config.group ≡ false
    is_another = false_from_ne_true (bytes_eq other found.config.group) (λ same. beside.apart.another (sym ((bytes_eq-Decides other found.config.group).0 same ∙ finds.own)))

    pub changed_aside : AreChangesAside told disks → (exit : B) (timestamp : ℕ) (request : Request) (outcome : Result ℕ Failure) (changed : HasChanged (work_of tells entry (disks exit)) named timestamp request outcome)
        → changed.taken.newest ≡ newest → (disks exit).sizes ≡ entry.sizes → IsAsideAt told disks tells_bytes streams both exit
    changed_aside changes exit timestamp request outcome changed same same_sizes =
        let by = foreign is_another changes exit timestamp request outcome changed same in (
          record {
            beside = by.0;
            same_sizes = subst (λ (bay : B). (disks bay).sizes ≡ entry.sizes) (sym by.1) same_sizes;
            no_member = λ slot number config here. no_member slot number config (subst (λ (written : List ℕ). is_slot written slot ≡ true) by.2 here);
          },
          by.1,
        )

  -- ---- one that only reads

  reads_aside : (exit : B) → ReadsOnly entry (disks exit) → IsAsideAt told disks tells_bytes streams both exit
  reads_aside exit reads = (
    record {
      beside = record {
        exit = exit;
        written = [];
        leaves_others = record { later = reads.any_moment.later; since = λ t image le was_left. ⊎_elim inl (λ is_left. inr (λ s l none. is_left s l)) (reads.any_moment.since t image le was_left) };
        is_held = is_held;
        are_aside = λ image was_left slot here. absurd cc;
      };
      same_sizes = reads.same_sizes;
      no_member = λ slot number config here. absurd cc;
    },
    refl,
  )

  -- ---- each

  pub call_aside : AreChangesAside told disks → (call : Call told disks tells_bytes streams one (our_moment both)) → TakesItsOwn told disks tells_bytes streams call
      → (disks (exit_of told disks tells_bytes streams one call)).sizes ≡ entry.sizes → IsAsideAt told disks tells_bytes streams both (exit_of told disks tells_bytes streams one call)
  call_aside changes (Changes call) own same_sizes =
      let taken = call.changed.taken in
      changed_aside taken.left taken.every_slot taken.newest (taken.read told) call.named call.finds changes call.exit call.timestamp call.request call.outcome call.changed refl same_sizes
  call_aside changes (Accepts accept) own same_sizes =
      let call = accept.call in
      let taken = call.changed.taken in
      changed_aside taken.left taken.every_slot taken.newest (taken.read told) call.named call.finds changes call.exit call.timestamp call.request call.outcome call.changed refl same_sizes
  call_aside changes (Resyncs call) own same_sizes =
      let taken = call.resynced.taken in
      let found = call.finds.found in
      let steps = call.plan.first ++ call.plan.last in
      taken_aside taken.left taken.every_slot taken.newest (taken.read told) call.named call.finds steps
      (λ disk now. resync_keeps disk found call.timestamp now steps call.word call.plan.entry call.plan.is_named call.plan.are_asked)
      call.exit (taken.beside told found call.finds.is_found) (is_done call.outcome)
      (taken.keeps told found call.finds.is_found steps call.plan.are_asked one call.finds.own ours beside.keeps.shows call.finds.admitted) same_sizes
  call_aside changes (Writes call) own same_sizes =
      let taken = call.wrote.taken in
      let found = call.finds.found in
      let steps = call.plan.first ++ call.plan.last in
      taken_aside taken.left taken.every_slot taken.newest (taken.read told) call.named call.finds steps
      (λ disk now. write_keeps disk found call.timestamp now steps call.word call.start call.count call.plan.entry call.plan.is_named call.plan.are_asked)
      call.exit (taken.beside told found call.finds.is_found) (is_written call.outcome)
      (taken.keeps told found call.finds.is_found steps call.plan.are_asked one call.finds.own ours beside.keeps.shows call.finds.admitted) same_sizes
  call_aside changes (Rebuilds call) own same_sizes =
      let taken = call.rebuilt.taken in
      let found = call.finds.found in
      let asked = subst (λ (linux : List ℕ). steps_of found call.timestamp (rebuild_request call.word linux) ≡ Ok call.steps) (sym (call.rebuilt.are_its ∙ ap linux_found call.finds.is_found)) call.are_asked in
      taken_aside taken.left taken.every_slot taken.newest (taken.read told) call.named call.finds call.steps
      (λ disk now. rebuild_keeps disk found call.timestamp now call.steps call.word call.are_asked)
      call.exit (taken.beside told found call.finds.is_found) (is_done call.outcome)
      (taken.keeps told found call.finds.is_found call.steps asked one call.finds.own ours beside.keeps.shows call.finds.admitted) same_sizes
  call_aside changes (Copies call) own same_sizes =
      let taken = call.copied.taken in
      let found = call.finds.found in
      let asked =
      subst (λ (linux : List ℕ). steps_of found call.timestamp (copyback_request (length (disks both.bay).sizes) call.word call.slot linux) ≡ Ok call.steps)
      (sym (call.copied.are_its ∙ ap linux_found call.finds.is_found)) call.are_asked in
      taken_aside taken.left taken.every_slot taken.newest (taken.read told) call.named call.finds call.steps
      (λ disk now. copyback_keeps disk found call.timestamp now call.steps _ call.word call.slot call.are_asked)
      call.exit (taken.beside told found call.finds.is_found) (is_done call.outcome)
      (taken.keeps told found call.finds.is_found call.steps asked one call.finds.own ours beside.keeps.shows call.finds.admitted) same_sizes
  call_aside changes (Joins call) own same_sizes = absurd own
  call_aside changes (Others call) own same_sizes = absurd own
  call_aside changes (Reads exit reads) own same_sizes = reads_aside exit reads
