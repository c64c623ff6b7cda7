-- Each call keeps a disk that stands and that it doesn't fail: each configuration that it issues lists the disk as a current member.
use Rattle.std.proofs.Common.{◌≡◌, ◌∙◌, ℕ, zero, suc, ◌<◌, ◌++◌, not, ◌&&◌, eqb, Bool, true, false, List, [], ◌∷◌, length, Option, Some, None, Ok, if◌then◌else◌, refl, sym, ap, subst}
use Rattle.std.proofs.lemmas.Bool.{and_parts, false_from_ne_true, false≢true, or_left}
use Rattle.std.specs.Prelude.{IsTrue, option_to_list, slice_get, slice_index_or}
use Rattle.std.specs.Map.{lookup}
use Rattle.std.specs.Option.{option_map_or, option_or}
use Rattle.std.specs.Str.{bytes_eq}
use Rattle.ddf_lemmas.proofs.Lists.{in_map}
use Rattle.ddf_lemmas.proofs.Options.{value_there}
use Rattle.ddf_lemmas.proofs.Tests.{none_away}
use Rattle.ddf_bay.specs.Memory.{disks_of}
use Rattle.ddf_bay.specs.ReadsOnly.{LookFailed}
use Rattle.ddf_bay.specs.declared.memory.MemoryBay.{MemoryBay}
use Rattle.ddf_config.specs.declared.member.Member.{Member}
use Rattle.ddf_config.specs.declared.seat.Seat.{Seat}
use Rattle.ddf_config.specs.Configuration.{Configuration}
use Rattle.ddf_config.specs.Entries.{changed_entries}
use Rattle.ddf_copy.specs.declared.newest_copy.Newest.{Newest}
use Rattle.ddf_import.specs.Joined.{kept_members, stays}
use Rattle.ddf_plan.specs.declared.change.Change.{Change}
use Rattle.ddf_plan.specs.declared.change.Change.TheVariants.{Unmark}
use Rattle.ddf_plan.specs.Lose.{is_among}
use Rattle.ddf_plan.specs.Members.{lost_by}
use Rattle.ddf_plan.specs.Spare.{holds_extent}
use Rattle.ddf_rewrite.proofs.Lists.{some_same}
use Rattle.ddf_history.specs.Groups.{Disk, groups, has_current}
use Rattle.ddf_history.specs.Issued.{IsSince, leave_out}
use Rattle.ddf_history.specs.Scenes.{scene_of}
use Rattle.ddf_history.proofs.Assembling.{read_as}
use Rattle.ddf_history.proofs.Calls.{claims as members_claimed}
use Rattle.ddf_history.proofs.Sound.{groups_are_sound}
use Rattle.ddf_seats.specs.Group.{GroupValue}
use Rattle.ddf_seats.specs.Leading.{some}
use Rattle.ddf_steps.specs.Committed.{slots_of}
use Rattle.ddf_assembly.specs.Group.{group_of}
use Rattle.ddf_assembly.specs.Slots.{newest_from}
use Rattle.ddf_recovery.specs.Recovery.{config_recovered, recovery_of}
use Rattle.ddf_joining.specs.Joining.{Joining, config_joined, config_joining, join_step}
use Rattle.ddf_history_steps.specs.Going.{IsAdmitted}
use Rattle.ddf_history_steps.specs.Kept.{is_read, is_slot}
use Rattle.ddf_history_steps.specs.Steps.{recovery_changes}
use Rattle.ddf_history_steps.proofs.Begun.{assembled_kept, assembled_since}
use Rattle.ddf_history_steps.proofs.Claimed as claims
use Rattle.ddf_history_steps.proofs.Slots.{slot_placed}
use Rattle.ddf_history_joins.proofs.JoinMembers.{lookup_both}
use Rattle.ddf_import_command.specs.Import.{import_asked}
use Rattle.ddf_data_calls.proofs.Recovered.{recovered_listed}
use Rattle.ddf_history_memory.specs.Histories.{GoesWell}
use Rattle.ddf_history_memory.proofs.Slots.{before_told, left_gone, read_at}
use Rattle.ddf_data_events.specs.Calls.{exit_in}
use Rattle.ddf_data_events.specs.Calls.Call.{Accepts, Changes, Copies, Joins, Others, Reads, Rebuilds, Resyncs, Writes}
use Rattle.ddf_data_events.specs.Calls.Course.{Passing, Stepping}
use Rattle.ddf_data_events.specs.Moments.{Moment}
use Rattle.ddf_data_events.proofs.Floors.{by_held}
use Rattle.ddf_data_events.proofs.JoinAsked.{is_readied, is_unrefused}
use Rattle.ddf_data_life.specs.Histories.{CallOn, CourseOn, course_on, exit_on, read_as as input_as}
use Rattle.ddf_data_life.proofs.Kept.{resync_keeps, write_keeps}
use Rattle.ddf_data_life.proofs.Memory.{bays}
use Rattle.ddf_data_lives.specs.Sparing.{FailsNot}
use Rattle.ddf_data_lives.specs.Standing.{KeepsDisk, Stands}
use Rattle.ddf_data_life.proofs.KeptSteps.{recovered_keep}
use Rattle.ddf_data_lives.proofs.Sparing.{change_keeps, copyback_keeps, issued_keep, rebuild_keeps}

-- ---- members that a join keeps

module _ (keeps : ℕ → Member → Bool) where
  abbrev keep : ℕ → Member → Option Member
  keep reference member = if keeps reference member then Some member else None

  kept_there : (test : ℕ → Bool) (entries : List (ℕ × Member)) (member : Member) → lookup test entries ≡ Some member → ((key : ℕ) → test key ≡ true → keeps key member ≡ true)
      → lookup test (changed_entries keep entries) ≡ Some member
  kept_there test [] member found all = absurd cc
  kept_there test (entry ∷ entries) member found all = go (λ rest. kept_there test entries member rest all) (test entry.0) refl (keeps entry.0 entry.1) refl found
    where
      go : (lookup test entries ≡ Some member → lookup test (changed_entries keep entries) ≡ Some member) → (b : Bool) → test entry.0 ≡ b → (k : Bool) → keeps entry.0 entry.1 ≡ k
          → (if b then Some entry.1 else lookup test entries) ≡ Some member → lookup test (changed_entries keep (entry ∷ entries)) ≡ Some member
      go later true is true stay same = rw (stay, is) same
      go later true is false stay same =
          let own : entry.1 ≡ member = cc in
          absurd (false≢true (sym stay ∙ ap (keeps entry.0) own ∙ all entry.0 is))
      go later false is true stay same = rw (stay, is) (later same)
      go later false is false stay same = rw stay (later same)

joined_keeps : (config joining : Configuration) (disk : Disk) → has_current config disk ≡ true → has_current (config_joined config joining) disk ≡ true
joined_keeps config joining disk was =
    let there = value_there (λ (member : Member). bytes_eq member.guid disk.guid && not member.missing) (lookup (λ (reference : ℕ). eqb reference disk.reference) config.members) was in
    let present = (and_parts (bytes_eq there.0.guid disk.guid) (not there.0.missing) there.2).1 in
    let found = kept_there (stays config) (λ (reference : ℕ). eqb reference disk.reference) config.members there.0 there.1
    (λ key is. or_left (not there.0.missing) (holds_extent config key) present) in
    ap (λ (one : Option Member). option_map_or (λ (member : Member). bytes_eq member.guid disk.guid && not member.missing) one false)
    (lookup_both (λ (reference : ℕ). eqb reference disk.reference) (kept_members config) joining.members
    ∙ ap (λ (one : Option Member). option_or one (lookup (λ (reference : ℕ). eqb reference disk.reference) joining.members)) found)
    ∙ there.2

join_keeps : (timestamp : ℕ) (native other : GroupValue) (disk : Disk) → has_current (config_recovered native) disk ≡ true → has_current (join_step timestamp native other).config disk ≡ true
unfolding join_step
join_keeps timestamp native other disk was = joined_keeps (config_recovered native) (config_joining other) disk was

-- what holds of all of a list and of one more holds of each
one_more : (P : Configuration → Type 0) (xs : List Configuration) (last : Configuration) → ((place : ℕ) (config : Configuration) → slice_get xs place ≡ Some config → P config) → P last
    → (place : ℕ) (config : Configuration) → slice_get (xs ++ last ∷ []) place ≡ Some config → P config
one_more P [] last all is zero config at = let same : last ≡ config = cc in subst P same is
one_more P [] last all is (suc place) config at = absurd cc
one_more P (first ∷ xs) last all is zero config at = all 0 config at
one_more P (first ∷ xs) last all is (suc place) config at = one_more P xs last (λ k one there. all (suc k) one there) is place config at

-- ---- a disk that stands

module _ (group : List ℕ) (kept : ℕ) (disk : Disk) (old : Moment group MemoryBay) (stands : Stands group kept disk old) where
  not_lost : old.past.lost kept ≡ false
  not_lost = false_from_ne_true (old.past.lost kept) (λ lost. stands.plugged (stands.data_history.history.lost_gone kept stands.there lost))

  since_current : (number : ℕ) (config : Configuration) → IsSince old.past.changes number config → has_current config (old.past.disk kept) ≡ true
  since_current number config since = ap (has_current config) stands.same_disk ∙ stands.current number config since

  module _ (exit : MemoryBay) (well : GoesWell old.bay exit) (told : (disks_of exit).tells_left) (left : List Bool) (every_slot : length left ≡ length (disks_of old.bay).sizes)
      (failed : (slot : ℕ) → slot < length left → IsTrue (slice_index_or left slot false) → LookFailed (disks_of old.bay) (disks_of exit) slot)
      (newest : List (Option Newest)) (read : newest ≡ newest_from (disks_of old.bay) 0 left) (named : Option (List ℕ)) (found : GroupValue) (is_found : group_of newest named ≡ Ok found)
      (own : found.config.group ≡ group) (admitted : IsAdmitted group old.past (disks_of old.bay) left found) where
    is_seen : is_read left kept ≡ true
    is_seen =
        let low : kept < length left = subst (λ (n : ℕ). kept < n) (sym every_slot) stands.there in
        read_at left kept low (false_from_ne_true (slice_index_or left kept false) (λ out. stands.plugged (left_gone old.bay exit well told left every_slot failed kept low out)))

    -- A call that takes the group finds a seat for it,
    is_seated : is_slot (slots_of found.seats) kept ≡ true
    is_seated =
        let since = assembled_since group (disks_of old.bay) left newest every_slot read old.past admitted.same_slots admitted.is_kept admitted.may_read admitted.member named found is_found own in
        let assembled = assembled_kept group (disks_of old.bay) left newest every_slot read old.past admitted.same_slots admitted.is_kept admitted.may_read admitted.member named found is_found own in
        let now = since_current since.0 found.config since.1 in
        let parts = read_as (groups group) (groups_are_sound group) old.past (scene_of (disks_of old.bay).sizes (disks_of old.bay).held) admitted.is_kept (is_read left) admitted.may_read admitted.member found.config
        assembled.is_read in
        let away = none_away (old.past.lost kept) (old.past.returned kept) not_lost
        (λ back. (groups_are_sound group).not_both found.config (old.past.disk kept) now (admitted.is_kept.gone kept since.0 found.config back since.1)) in
        let claimed = members_claimed (groups group) (groups_are_sound group) old.past (scene_of (disks_of old.bay).sizes (disks_of old.bay).held) (is_read left) found.config assembled parts.0 parts.1 parts.3 parts.4 parts.5
        kept away is_seen now in
        claims.claimed_seated group (disks_of old.bay) left newest every_slot read old.past admitted.same_slots admitted.is_kept admitted.may_read admitted.member named found is_found own kept claimed.0 claimed.1

    same_disks : (absent : Bool) → (if absent then leave_out old.past (is_read left) found.config else old.past).disk ≡ old.past.disk
    same_disks true = refl
    same_disks false = refl

    -- so that it is a current member of the group once that is recovered.
    still_current : has_current (config_recovered found) disk ≡ true
    still_current =
        let placed = slot_placed (slots_of found.seats) kept is_seated in
        let seat = in_map (λ (each : Seat). each.slot) found.seats placed.0 kept placed.1 in
        let listed = recovered_listed group (disks_of old.bay) left newest every_slot read old.past admitted.same_slots admitted.is_kept admitted.may_read admitted.member named found is_found own
        old.floor (by_held group disks_of bays old.past old.floor old.bay stands.data_history.keeps.floored (before_told old.bay exit well told)) placed.0 seat.0 seat.1 in
        sym (ap (has_current (config_recovered found)) stands.same_disk)
        ∙ subst (λ (n : ℕ). has_current (config_recovered found) (old.past.disk n) ≡ true) seat.2
        (subst (λ (in_slot : ℕ → Disk). has_current (config_recovered found) (in_slot seat.0.slot) ≡ true) (same_disks (some found.absent)) listed.is_current)

  -- ---- each call

  unmark_spares : (array : List ℕ) (init : ℕ) (change : Option Change) → change ≡ Some (Unmark array init) → (one : Change) → change ≡ Some one → is_among (lost_by one) disk.reference ≡ false
  unmark_spares array init change is one same = subst (λ (each : Change). is_among (lost_by each) disk.reference ≡ false) (some_same is same) refl

  join_issues : (timestamp : ℕ) (left : List Bool) (native other : GroupValue) (made : Joining) → import_asked timestamp left native other ≡ Ok made → has_current (config_recovered native) disk ≡ true
      → has_current made.step.config disk ≡ true
  join_issues timestamp left native other made asked was =
      let is = is_unrefused timestamp native other made (is_readied timestamp left native other made asked).0 in
      subst (λ (one : Joining). has_current one.step.config disk ≡ true) is.is_made (join_keeps timestamp native other disk was)

  -- Where it takes the group the disk is a current member of the group once that is recovered.
  abbrev IsCurrentIn : CourseOn group old → Type 0
  IsCurrentIn (Stepping by) = has_current (config_recovered by.finds.found) disk ≡ true
  IsCurrentIn (Passing exit) = Unit {0}

  current_in : (course : CourseOn group old) → GoesWell old.bay (exit_in {tells = Unit {0}} tt disks_of (Unit {0}) input_as group course)
      → (disks_of (exit_in {tells = Unit {0}} tt disks_of (Unit {0}) input_as group course)).tells_left → IsCurrentIn course
  current_in (Stepping by) well told =
      still_current by.exit well told by.left by.every_slot by.failed by.newest by.read by.named by.finds.found by.finds.is_found by.finds.own by.finds.admitted
  current_in (Passing exit) well told = tt

  issues : (call : CallOn group old) → IsCurrentIn (course_on group old call) → FailsNot group disk old call → KeepsDisk group kept disk old call
  issues (Changes call) now spares =
      issued_keep disk call.finds.found call.steps (change_keeps disk call.finds.found call.timestamp now call.request call.change spares call.is_change call.steps call.are_asked)
  issues (Accepts accept) now spares =
      let call = accept.call in
      issued_keep disk call.finds.found call.steps
      (change_keeps disk call.finds.found call.timestamp now call.request call.change (unmark_spares accept.array accept.init call.change accept.is_accept) call.is_change call.steps call.are_asked)
  issues (Resyncs call) now spares =
      issued_keep disk call.finds.found (call.plan.first ++ call.plan.last)
      (resync_keeps disk call.finds.found call.timestamp now (call.plan.first ++ call.plan.last) call.word call.plan.entry call.plan.is_named call.plan.are_asked)
  issues (Writes call) now spares =
      issued_keep disk call.finds.found (call.plan.first ++ call.plan.last)
      (write_keeps disk call.finds.found call.timestamp now (call.plan.first ++ call.plan.last) call.word call.start call.count call.plan.entry call.plan.is_named call.plan.are_asked)
  issues (Rebuilds call) now spares = issued_keep disk call.finds.found call.steps (rebuild_keeps disk call.finds.found call.timestamp now call.steps call.word call.are_asked)
  issues (Copies call) now spares = issued_keep disk call.finds.found call.steps (copyback_keeps disk call.finds.found call.timestamp now call.steps _ call.word call.slot call.are_asked)
  issues (Joins call) now spares =
      let join = call.join in
      one_more (λ (config : Configuration). has_current config disk ≡ true) (recovery_changes join.timestamp join.group) join.made.step.config
      (issued_keep disk join.group (option_to_list (recovery_of join.timestamp join.group)) (recovered_keep disk join.group join.timestamp now))
      (join_issues join.timestamp join.imported.first.left join.group join.joining join.made join.are_asked now)
  issues (Others call) now spares = λ place config at. absurd cc
  issues (Reads exit reads) now spares = λ place config at. absurd cc

  pub keeps_on : (call : CallOn group old) → GoesWell old.bay (exit_on group old call) → (disks_of (exit_on group old call)).tells_left → FailsNot group disk old call → KeepsDisk group kept disk old call
  keeps_on call well told spares = issues call (current_in (course_on group old call) well told) spares
