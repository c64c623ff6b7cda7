-- An import keeps the history of the group that another one joins, and its data, at once.
use Rattle.std.proofs.Common.{◌≡◌, ◌⊎◌, ◌∙◌, inl, inr, ⊎_elim, ℕ, ◌+◌, ◌<◌, ◌≤◌, ◌^◌, Bool, true, false, List, [], ◌∷◌, ◌++◌, length, take, Option, Some, Ok, refl, ap, sym, subst, arith}
use Rattle.std.proofs.Math.Seq.{take-length}
use Rattle.std.specs.Prelude.{slice_get, slice_index}
use Rattle.ddf_bay.specs.Moments.{StopsLeave}
use Rattle.ddf_bay.specs.Sectors.{Image, IsLeft}
use Rattle.ddf_bay.specs.State.{BayState, size_of}
use Rattle.ddf_config.specs.Configuration.{Configuration}
use Rattle.ddf_copy.specs.declared.newest_copy.Newest.{Newest}
use Rattle.ddf_array.specs.Sound.{AreSectors}
use Rattle.ddf_data_group.specs.Grouped.{Promises}
use Rattle.ddf_history.specs.Groups.{Disk, groups, has_current}
use Rattle.ddf_history.specs.Issued.{IsSince, Past}
use Rattle.ddf_history.proofs.Lists.{get_more, get_taken}
use Rattle.ddf_seats.specs.declared.seated.Seated.{Seated}
use Rattle.ddf_seats.specs.Group.{GroupValue}
use Rattle.ddf_assembly.specs.Group.{group_of}
use Rattle.ddf_joining.specs.Joining.{Joining, config_joining, join_config, join_step}
use Rattle.ddf_recovery.specs.Recovery.{config_recovered}
use Rattle.ddf_seats.specs.Seated.{seated}
use Rattle.ddf_assembly.specs.Slots.{newest_from}
use Rattle.ddf_history_steps.specs.Floors.{HasFloor}
use Rattle.ddf_history_steps.specs.Going.{Ends, Goes, IsAdmitted, KeepsHistory, begun, issue_all}
use Rattle.ddf_history_steps.specs.Kept.{AreAllKept, is_read}
use Rattle.ddf_history_steps.specs.Steps.{recovery_changes}
use Rattle.ddf_history_joins.proofs.JoinMembers.{of_either}
use Rattle.ddf_history_steps.proofs.SlotsKept.{ends_slots}
use Rattle.ddf_data_history.specs.Carried.{IsAllData, Stays}
use Rattle.ddf_data_history.specs.Promised.{KeepsData, SameBelow, seats_in}
use Rattle.ddf_data_history.proofs.Steps.{below_floors}
use Rattle.ddf_group_commands.specs.Writing.{IsLeftWriting}
use Rattle.ddf_import_command.specs.Import.{import_asked, import_steps}
use Rattle.ddf_data_calls.specs.Calls.{KeepsBoth, left_over}
use Rattle.ddf_data_calls.specs.Floors.{AllHaveFloors, HaveFloors, HaveFloorsIn}
use Rattle.ddf_data_calls.proofs.Seats.{seated_floor}
use Rattle.ddf_data_events.specs.Joins.{HaveJoiningFloors, IsNonePromised}
use Rattle.ddf_data_events.proofs.JoinAsked.{IsUnrefused, is_readied, is_unrefused}
use Rattle.ddf_data_events.proofs.JoinApart.{members_apart}
use Rattle.ddf_data_events.proofs.JoinFloored.{both_floored, steps_floors}
use Rattle.ddf_data_events.proofs.JoinIssued.{all_keep, begun_from, issued_from, recovery_ends, recovery_loses, recovery_made, recovered_members, recovery_members}
use Rattle.ddf_data_events.proofs.JoinStaying.{joined_keeps}
use Rattle.ddf_write_commands.proofs.BelowSteps.{IsFloored, on_floor, writing_same}
use Rattle.ddf_write_commands.proofs.StepFloors.{AllFloored}

-- An import that wasn't refused, as far as it matters to the history and the data of the group: what it found of both groups, and what is asked of it.
pub record IsImportOf (group : List ℕ) {D : Type 0} (old new : BayState D) (past : Past (groups group)) (floor : ℕ → ℕ) (promises : Promises) (native other : GroupValue) (timestamp : ℕ) (made : Joining)
    (left : List Bool) (done : Bool) : Type 0 where
  pub small : (slot : ℕ) → floor slot < 2 ^ 64
  -- the group
  pub every_slot : length left ≡ length old.sizes
  pub newest : List (Option Newest)
  pub read : newest ≡ newest_from old 0 left
  pub named : Option (List ℕ)
  pub is_found : group_of newest named ≡ Ok native
  pub own : native.config.group ≡ group
  pub admitted : IsAdmitted group past old left native
  pub all_kept : AreAllKept group past old
  pub all_data : IsAllData group past floor old promises
  pub floored : AllHaveFloors group past old floor
  pub held : IsLeft old.may_hold old.held
  -- the other one
  pub also_left : List Bool
  pub also_newest : List (Option Newest)
  pub also_read : also_newest ≡ newest_from old 0 also_left
  pub also_named : Option (List ℕ)
  pub is_found_too : group_of also_newest also_named ≡ Ok other
  pub their_floors : HaveJoiningFloors group past old floor other
  pub none_promised : IsNonePromised (config_joining other) promises
  -- both
  pub are_asked : import_asked timestamp left native other ≡ Ok made
  pub leaves : StopsLeave old new (IsLeftWriting old (import_steps made))
  pub keeps : KeepsHistory group old new past left native (recovery_changes timestamp native ++ made.step.config ∷ []) done

module _ (group : List ℕ) {D : Type 0} (old new : BayState D) (past : Past (groups group)) (floor : ℕ → ℕ) (promises : Promises) (native other : GroupValue) (timestamp : ℕ) (made : Joining) (left : List Bool) (done : Bool)
    (took : IsImportOf group old new past floor promises native other timestamp made left done) where
  pub unrefused : IsUnrefused timestamp native other made
  unrefused = is_unrefused timestamp native other made (is_readied timestamp left native other made took.are_asked).0

  abbrev next : Configuration
  next = made.step.config

  pub next_is : made.step.config ≡ join_config native other
  unfolding join_step
  next_is = ap (λ (one : Joining). one.step.config) (sym unrefused.is_made)

  abbrev changes : List Configuration
  changes = recovery_changes timestamp native ++ made.step.config ∷ []

  -- ---- the changes

  data_keep : (image : Image) → IsLeft old.may_hold image → (whole : Bool) (now : Past (groups group)) → Ends group past (is_read left) native changes whole now → KeepsData group now floor image promises
  data_keep image was whole now ends =
      all_keep group floor took.small image promises past took.admitted.is_kept.alone (took.all_data image was) (is_read left) native (recovery_changes timestamp native) next
      (recovery_made timestamp native unrefused.rises (seats_in group (left_over group past (is_read left) native) floor) image promises)
      (recovery_loses timestamp native unrefused.rises)
      (λ middle number since kept.
      joined_keeps (config_recovered native) (config_joining other) next unrefused.free (ap (λ (config : Configuration). config.members) next_is) (ap (λ (config : Configuration). config.arrays) next_is)
      group floor middle image promises took.none_promised took.small number (subst (IsSince middle.changes number) (recovery_ends timestamp native unrefused.rises) since) kept)
      whole now ends

  -- ---- what is written

  own_floors : HaveFloors group past old floor
  own_floors slot number config since stays current = took.floored slot number config since stays current (old.held slot) (λ l. took.held slot l)

  seat_floor : (place : ℕ) (disk : Seated) → slice_get (seated native ++ seated other) place ≡ Some disk → IsFloored (size_of old disk.seat.slot) floor disk
  seat_floor =
      both_floored group old past floor took.also_left took.also_newest took.also_named native other took.also_read took.is_found_too took.their_floors took.held
      (seated_floor group old left took.newest took.every_slot took.read past took.admitted.same_slots took.admitted.is_kept took.admitted.may_read took.admitted.member took.named native took.is_found took.own floor
      own_floors)

  all_floored : AllFloored (seated native ++ seated other) (import_steps made)
  all_floored = subst (λ (one : Joining). AllFloored (seated native ++ seated other) (import_steps one)) unrefused.is_made (steps_floors timestamp native other)

  -- Nothing changes below the floors.
  pub join_below : (image : Image) (writing : IsLeftWriting old (import_steps made) image) → SameBelow floor writing.before image
  join_below image writing = writing_same old floor (seated native ++ seated other) seat_floor (import_steps made) all_floored writing.before image writing.outside

  image_keeps : (image : Image) → AreSectors image → IsLeftWriting old (import_steps made) image → (whole : Bool) (now : Past (groups group)) → Ends group past (is_read left) native changes whole now
      → KeepsData group now floor image promises
  image_keeps image sound writing whole now ends =
      below_floors group floor took.small now writing.before promises (data_keep writing.before writing.is_left whole now ends) image sound (join_below image writing)

  -- ---- both

  module _ (only_now : (image : Image) → old.left_since old.moment image → IsLeft old.may_hold image)
      (counts_now : (image : Image) → old.moment ≤ new.moment → IsLeft new.may_hold image → new.left_since old.moment image) (whole : (image : Image) → IsLeft new.may_hold image → AreSectors image) where
    pub join_keeps : KeepsBoth group old new floor (Goes group past (is_read left) native changes) (Ends group past (is_read left) native changes done) (Stays promises) (Stays promises)
    join_keeps = record {
      any_moment = record {
        later = took.leaves.later;
        since = λ t image le was_left. ⊎_elim inl
            (λ writing. ⊎_elim inl
            (λ shown. inr (λ sound. record {
              now = shown.0;
              promised = promises;
              goes = shown.1;
              may = refl;
              is_kept = shown.2;
              keeps = image_keeps image sound writing false shown.0 shown.1;
            }))
            (took.keeps.any_moment.since t image le was_left))
            (took.leaves.since t image le was_left);
      };
      ends = λ tells_left.
          let last = took.keeps.ends tells_left in
          record {
            now = last.0;
            promised = promises;
            ends = last.1;
            is_so = refl;
            all_kept = last.2;
            all_data = λ image is_left. ⊎_elim
                (λ first. data_keep image (only_now image first) done last.0 last.1)
                (λ writing. image_keeps image (whole image is_left) writing done last.0 last.1)
                (took.leaves.since old.moment image (omega arith) (counts_now image took.leaves.later is_left));
          };
    }

  -- ---- floors

  -- A slot that has its floor by whatever might have been left keeps it.
  image_floor : (slot : ℕ) → ((sector : ℕ → List ℕ) → ((l : ℕ) → old.may_hold slot l (sector l)) → HasFloor (slice_index old.sizes slot) sector (floor slot)) → (image : Image)
      → IsLeft old.may_hold image ⊎ IsLeftWriting old (import_steps made) image → HasFloor (slice_index old.sizes slot) (image slot) (floor slot)
  image_floor slot has image (inl before) = has (image slot) (λ l. before slot l)
  image_floor slot has image (inr writing) =
      writing.floors slot (floor slot) (has (writing.before slot) (λ l. writing.is_left slot l)) (on_floor old floor (seated native ++ seated other) seat_floor (import_steps made) all_floored slot)

  -- A current member is one since before the call, or one that joins.
  abbrev WasMember : (slot : ℕ) → Type 0
  WasMember slot = ((number : ℕ) × (config : Configuration) × IsSince past.changes number config × (has_current config (past.disk slot) ≡ true)) ⊎ (has_current (config_joining other) (past.disk slot) ≡ true)

  -- One of both groups is one that was found, or one that joins.
  of_both : (disk : Disk) → has_current next disk ≡ true → (has_current native.config disk ≡ true) ⊎ (has_current (config_joining other) disk ≡ true)
  of_both disk current = ⊎_elim
      (λ own. inl (recovered_members timestamp native unrefused.rises disk own))
      (λ joins. inr joins)
      (of_either (config_recovered native) (config_joining other) unrefused.free
      (members_apart group old left took.newest took.every_slot took.read past took.admitted.same_slots took.admitted.is_kept took.admitted.may_read took.admitted.member took.named native took.is_found took.own) disk
      (subst (λ (one : Configuration). has_current one disk ≡ true) next_is current))

  issued_member : (slot number : ℕ) → IsSince past.changes number native.config → (few acked : ℕ) → (acked ≡ past.changes.acked) ⊎ (number ≤ acked) → (n : ℕ) (config : Configuration)
      → slice_get (issue_all group (begun group past (is_read left) native number) (take few changes)).changes.issued n ≡ Some config → acked ≤ n → has_current config (past.disk slot) ≡ true → WasMember slot
  issued_member slot number since few acked stands =
      issued_from group (λ n config. acked ≤ n → has_current config (past.disk slot) ≡ true → WasMember slot) (begun group past (is_read left) native number) (take few changes)
      (λ n config at late current.
      let from = since.late in
      let later : past.changes.acked ≤ n = ⊎_elim (λ same. omega (arith, same, late)) (λ far. omega (arith, far, from, late)) stands in
      inl (n, config, record { late = later; is_there = begun_from group past (is_read left) native number n config at }, current))
      (λ i config at n late current. ⊎_elim
      (λ first. inl (number, native.config, since, recovery_members timestamp native unrefused.rises i config first (past.disk slot) current))
      (λ last. ⊎_elim
      (λ own. inl (number, native.config, since, own))
      (λ joins. inr joins)
      (of_both (past.disk slot) (subst (λ (one : Configuration). has_current one (past.disk slot) ≡ true) last.1 current)))
      (get_more (recovery_changes timestamp native) next i config (get_taken changes few i config at).0))

  member_from : (whole : Bool) (now : Past (groups group)) → Ends group past (is_read left) native changes whole now → (slot n : ℕ) (config : Configuration) → IsSince now.changes n config
      → has_current config (past.disk slot) ≡ true → WasMember slot
  member_from true now over slot n config since current =
      let here = subst (λ (one : Past (groups group)). IsSince one.changes n config) over.is_now since in
      let late = here.late in
      issued_member slot over.number over.since (length changes) (over.number + length changes) (inr (omega arith)) n config
      (subst (λ (some_of : List Configuration). slice_get (issue_all group (begun group past (is_read left) native over.number) some_of).changes.issued n ≡ Some config) (sym (take-length changes)) here.is_there) late current
  member_from false now (inl same) slot n config since current = inl (n, config, subst (λ (one : Past (groups group)). IsSince one.changes n config) same since, current)
  member_from false now (inr way) slot n config since current =
      let here = subst (λ (one : Past (groups group)). IsSince one.changes n config) way.is_now since in
      issued_member slot way.number way.since way.issued way.acked way.stands n config here.is_there here.late current

  -- So the disks of members have their floors, however far the call came.
  pub join_floored : (whole : Bool) (now : Past (groups group)) → Ends group past (is_read left) native changes whole now → (image : Image) → IsLeft old.may_hold image ⊎ IsLeftWriting old (import_steps made) image
      → HaveFloorsIn group now old.sizes image floor
  join_floored whole now ends image left_so slot number config since stays current =
      let slots = ends_slots group past (is_read left) native changes whole now ends in
      let current_before : has_current config (past.disk slot) ≡ true = subst (λ (disk : ℕ → Disk). has_current config (disk slot) ≡ true) slots.same_disks current in
      let here = still_here (past.lost slot) refl (slots.still_lost slot) in
      ⊎_elim
      (λ own. image_floor slot (took.floored slot own.0 own.1 own.2 here own.3) image left_so)
      (λ joins. image_floor slot (took.their_floors slot (inr (here, joins))) image left_so)
      (member_from whole now ends slot number config since current_before)
    where
      still_here : (was : Bool) → past.lost slot ≡ was → (past.lost slot ≡ true → now.lost slot ≡ true) → past.lost slot ≡ false
      still_here true is still = absurd (let both = sym (still is) ∙ stays in cc)
      still_here false is still = is
