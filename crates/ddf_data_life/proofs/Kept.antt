-- A current member that a call reads stays one through each of the call's steps, where its changes lose none.
use Rattle.std.proofs.Common.{◌≡◌, ◌∙◌, ℕ, ◌<◌, ◌++◌, ◌||◌, Bool, true, false, List, [], ◌∷◌, length, Option, Some, None, Ok, if◌then◌else◌, refl, sym, ap, subst}
use Rattle.std.proofs.lemmas.Bool.{false_from_ne_true}
use Rattle.std.specs.Prelude.{IsTrue, slice_index_or}
use Rattle.std.specs.List.{AllByRecursion}
use Rattle.ddf_lemmas.proofs.Lists.{in_map}
use Rattle.ddf_bay.specs.Memory.{disks_of}
use Rattle.ddf_bay.specs.ReadsOnly.{LookFailed}
use Rattle.ddf_bay.specs.declared.memory.MemoryBay.{MemoryBay}
use Rattle.ddf_config.specs.declared.array.Array.{Array}
use Rattle.ddf_config.specs.declared.member.Member.{Member}
use Rattle.ddf_config.specs.declared.refusal.Refusal.{Refusal}
use Rattle.ddf_config.specs.declared.seat.Seat.{Seat}
use Rattle.ddf_config.specs.Configuration.{Configuration}
use Rattle.ddf_config.specs.Refusals.{first_refusal}
use Rattle.ddf_copy.specs.declared.newest_copy.Newest.{Newest}
use Rattle.ddf_plan.specs.declared.change.Change.{Change}
use Rattle.ddf_plan.specs.declared.change.Change.TheVariants.{Create, Mark, Unmark}
use Rattle.ddf_plan.specs.Members.{member_after}
use Rattle.ddf_array.specs.Viewing.{is_array_redundant}
use Rattle.ddf_history.specs.Groups.{Disk, groups, has_current}
use Rattle.ddf_history.specs.Issued.{IsSince, leave_out}
use Rattle.ddf_history.specs.Scenes.{scene_of}
use Rattle.ddf_history.proofs.Assembling.{read_as}
use Rattle.ddf_history.proofs.Calls.{claims as members_claimed}
use Rattle.ddf_history.proofs.Sound.{groups_are_sound}
use Rattle.ddf_steps.specs.Committed.{slots_of}
use Rattle.ddf_seats.specs.Group.{GroupValue}
use Rattle.ddf_assembly.specs.Group.{group_of}
use Rattle.ddf_recovery.specs.Ready.{readied}
use Rattle.ddf_recovery.specs.Recovery.{config_recovered}
use Rattle.ddf_seats.specs.Leading.{some}
use Rattle.ddf_assembly.specs.Slots.{newest_from}
use Rattle.ddf_steps.specs.Steps.{Step, config_after}
use Rattle.ddf_recovery.proofs.ReadiedSteps.{behind}
use Rattle.ddf_history_steps.specs.Kept.{is_read, is_slot}
use Rattle.ddf_history_steps.proofs.Begun.{assembled_kept, assembled_since}
use Rattle.ddf_history_steps.proofs.Claimed as claims
use Rattle.ddf_history_steps.proofs.Slots.{slot_placed}
use Rattle.ddf_history_steps.proofs.Told.{found_name}
use Rattle.ddf_data_calls.proofs.Recovered.{recovered_listed}
use Rattle.ddf_data_calls.proofs.Standing.{kept_current}
use Rattle.ddf_request.specs.Named.{named_array}
use Rattle.ddf_group_commands.specs.Change.{Request, steps_asked, steps_of}
use Rattle.ddf_group_commands.proofs.Outcomes.{asked_of as asked_readied}
use Rattle.ddf_write_commands.specs.Planned.{Entry, Refusing, asked_of, changes_around, request_around, unless_refused}
use Rattle.ddf_write_commands.specs.Resync.{resync_behind, resync_refusals, resync_request}
use Rattle.ddf_write_commands.specs.Write.{write_behind, write_refusals, write_request}
use Rattle.ddf_history_life.specs.Commands.{KeepDisk}
use Rattle.ddf_history_memory.specs.Histories.{GoesWell, HasMemberOn}
use Rattle.ddf_history_memory.proofs.Slots.{before_told, read_at}
use Rattle.ddf_data_events.specs.Moments.{Moment}
use Rattle.ddf_data_events.proofs.Floors.{by_held}
use Rattle.ddf_data_life.specs.Histories.{IsDataHistoryOn, LeavesLostOut}
use Rattle.ddf_data_life.proofs.Goes.{has_member, out_gone, readable, shown}
use Rattle.ddf_data_life.proofs.KeptSteps.{each_keep}
use Rattle.ddf_data_life.proofs.Memory.{bays}

-- ---- changes that lose no member

abbrev pub LosesNone : Change → Type 0
LosesNone change = (config : Configuration) (reference : ℕ) (member : Member) → (member_after config change reference member).missing ≡ member.missing

module _ (disk : Disk) where
  goes : (config : Configuration) (change : Change) → LosesNone change → has_current config disk ≡ true → has_current (config_after config change) disk ≡ true
  goes config change none was = kept_current [] config change (none config) (config_after config change).sequence disk ∙ was

  -- So each step of such changes keeps it, the recovery too.
  pub readied_keep : (found : GroupValue) (timestamp : ℕ) → has_current (config_recovered found) disk ≡ true → (changes : List Change) → AllByRecursion LosesNone changes → (steps : List Step)
      → readied found changes timestamp ≡ Ok steps → KeepDisk steps disk
  readied_keep = each_keep disk LosesNone goes

-- ---- the changes of commands

create_none : (guid : List ℕ) (array : Array) → AllByRecursion LosesNone (Create guid array ∷ [])
create_none guid array = ((λ config reference member. refl), tt)

around_readied : (refusing : Refusing) (behind : Entry → List Change) (found : GroupValue) (timestamp : ℕ) (word : List ℕ) (entry : Entry) → named_array (config_recovered found).arrays word ≡ Some entry
    → (steps : List Step) → steps_of found timestamp (request_around refusing behind word) ≡ Ok steps → readied found (changes_around behind entry) timestamp ≡ Ok steps
around_readied refusing behind found timestamp word entry is_named steps are =
    by (first_refusal (refusing (config_recovered found) found.seats entry))
    (sym (ap (λ (named : Option Entry). steps_asked found timestamp (asked_of refusing behind (config_recovered found) found.seats named)) is_named) ∙ are)
  where
    by : (refusal : Option Refusal) → steps_asked found timestamp (unless_refused (changes_around behind entry) refusal) ≡ Ok steps → readied found (changes_around behind entry) timestamp ≡ Ok steps
    by None is = asked_readied (readied found (changes_around behind entry) timestamp) steps is
    by (Some refusal) is = absurd cc

resync_none : (entry : Entry) → AllByRecursion LosesNone (changes_around resync_behind entry)
resync_none entry = by (is_array_redundant entry.1)
  where
    by : (redundant : Bool) → AllByRecursion LosesNone ((if redundant then Mark entry.0 ∷ [] else []) ++ resync_behind entry)
    by true = ((λ config reference member. refl), ((λ config reference member. refl), tt))
    by false = ((λ config reference member. refl), tt)

write_none : (entry : Entry) → AllByRecursion LosesNone (changes_around write_behind entry)
write_none entry = by (is_array_redundant entry.1)
  where
    by : (redundant : Bool) → AllByRecursion LosesNone ((if redundant then Mark entry.0 ∷ [] else []) ++ (if redundant then Unmark entry.0 entry.1.init ∷ [] else []))
    by true = ((λ config reference member. refl), ((λ config reference member. refl), tt))
    by false = tt

module _ (disk : Disk) (found : GroupValue) (timestamp : ℕ) (current : has_current (config_recovered found) disk ≡ true) (steps : List Step) where
  pub create_keeps : (guid : List ℕ) (array : Array) (request : Request) → steps_of found timestamp request ≡ Ok steps
      → request (config_recovered found) found.seats ≡ Ok (Create guid array ∷ []) → KeepDisk steps disk
  create_keeps guid array request are asks =
      readied_keep disk found timestamp current (Create guid array ∷ []) (create_none guid array) steps
      (asked_readied (readied found (Create guid array ∷ []) timestamp) steps (sym (ap (steps_asked found timestamp) asks) ∙ are))

  pub resync_keeps : (word : List ℕ) (entry : Entry) → named_array (config_recovered found).arrays word ≡ Some entry → steps_of found timestamp (resync_request word) ≡ Ok steps → KeepDisk steps disk
  resync_keeps word entry is_named are =
      readied_keep disk found timestamp current (changes_around resync_behind entry) (resync_none entry) steps
      (around_readied resync_refusals resync_behind found timestamp word entry is_named steps are)

  pub write_keeps : (word : List ℕ) (start count : ℕ) (entry : Entry) → named_array (config_recovered found).arrays word ≡ Some entry → steps_of found timestamp (write_request word start count) ≡ Ok steps
      → KeepDisk steps disk
  write_keeps word start count entry is_named are =
      readied_keep disk found timestamp current (changes_around write_behind entry) (write_none entry) steps
      (around_readied (write_refusals start count) write_behind found timestamp word entry is_named steps are)

-- ---- a member that a call reads

module _ (group : List ℕ) (old : Moment group MemoryBay) (all : IsDataHistoryOn group old) (exit : MemoryBay) (member : HasMemberOn group old.past old.bay) (well : GoesWell old.bay exit)
    (told : (disks_of exit).tells_left) (left : List Bool) (every_slot : length left ≡ length (disks_of old.bay).sizes)
    (failed : (slot : ℕ) → slot < length left → IsTrue (slice_index_or left slot false) → LookFailed (disks_of old.bay) (disks_of exit) slot) (unread : LeavesLostOut group old.past left)
    (newest : List (Option Newest)) (read : newest ≡ newest_from (disks_of old.bay) 0 left) (found : GroupValue) (is_found : group_of newest (Some group) ≡ Ok found)
    (slot : ℕ) (there : slot < length (disks_of old.bay).sizes) (plugged : (disks_of old.bay).gone slot → ⊥)
    (current : (number : ℕ) (config : Configuration) → IsSince old.past.changes number config → has_current config (old.past.disk slot) ≡ true) where
  own : found.config.group ≡ group
  own = found_name newest group found is_found

  not_lost : old.past.lost slot ≡ false
  not_lost = false_from_ne_true (old.past.lost slot) (λ lost. plugged (all.history.lost_gone slot there lost))

  is_seen : is_read left slot ≡ true
  is_seen =
      let low : slot < length left = subst (λ (n : ℕ). slot < n) (sym every_slot) there in
      read_at left slot low (false_from_ne_true (slice_index_or left slot false) (λ out. plugged (out_gone group old.past old.bay exit all.history well told left every_slot failed slot low out)))

  none_away : (a b : Bool) → a ≡ false → (b ≡ true → ⊥) → (a || b) ≡ false
  none_away true b is never = absurd cc
  none_away false true is never = absurd (never refl)
  none_away false false is never = refl

  -- It has a seat.
  is_seated : is_slot (slots_of found.seats) slot ≡ true
  is_seated =
      let kept = shown group old.past old.bay exit all.history well told left every_slot failed member unread in
      let may = readable group old.past old.bay exit all.history well told left every_slot failed member unread in
      let has = has_member group old.past old.bay exit all.history well told left every_slot failed member unread in
      let since = assembled_since group (disks_of old.bay) left newest every_slot read old.past all.history.same_slots kept may has (Some group) found is_found own in
      let assembled = assembled_kept group (disks_of old.bay) left newest every_slot read old.past all.history.same_slots kept may has (Some group) found is_found own in
      let now = current since.0 found.config since.1 in
      let parts = read_as (groups group) (groups_are_sound group) old.past (scene_of (disks_of old.bay).sizes (disks_of old.bay).held) kept (is_read left) may has found.config assembled.is_read in
      let away = none_away (old.past.lost slot) (old.past.returned slot) not_lost
      (λ back. (groups_are_sound group).not_both found.config (old.past.disk slot) now (kept.gone slot since.0 found.config back since.1)) in
      let claimed = members_claimed (groups group) (groups_are_sound group) old.past (scene_of (disks_of old.bay).sizes (disks_of old.bay).held) (is_read left) found.config assembled parts.0 parts.1 parts.3 parts.4 parts.5
      slot away is_seen now in
      claims.claimed_seated group (disks_of old.bay) left newest every_slot read old.past all.history.same_slots kept may has (Some group) found is_found own slot claimed.0 claimed.1

  same_disks : (absent : Bool) → (if absent then leave_out old.past (is_read left) found.config else old.past).disk ≡ old.past.disk
  same_disks true = refl
  same_disks false = refl

  -- So it is a current member of the group once that is recovered.
  pub still_current : has_current (config_recovered found) (old.past.disk slot) ≡ true
  still_current =
      let kept = shown group old.past old.bay exit all.history well told left every_slot failed member unread in
      let may = readable group old.past old.bay exit all.history well told left every_slot failed member unread in
      let has = has_member group old.past old.bay exit all.history well told left every_slot failed member unread in
      let placed = slot_placed (slots_of found.seats) slot is_seated in
      let seat = in_map (λ (each : Seat). each.slot) found.seats placed.0 slot placed.1 in
      let listed = recovered_listed group (disks_of old.bay) left newest every_slot read old.past all.history.same_slots kept may has (Some group) found is_found own
      old.floor (by_held group disks_of bays old.past old.floor old.bay all.keeps.floored (before_told old.bay exit well told)) placed.0 seat.0 seat.1 in
      subst (λ (n : ℕ). has_current (config_recovered found) (old.past.disk n) ≡ true) seat.2
      (subst (λ (disk : ℕ → Disk). has_current (config_recovered found) (disk seat.0.slot) ≡ true) (same_disks (some found.absent)) listed.is_current)
