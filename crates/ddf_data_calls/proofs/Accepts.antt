-- An array that was accepted counts with what it holds.
use Rattle.std.proofs.Common.{◌≡◌, ◌∙◌, ◌⊎◌, inl, inr, ⊎_elim, ℕ, ◌<◌, ◌^◌, Bool, true, false, List, [], ◌∷◌, ◌++◌, length, Option, Some, Result, Ok, refl, ap, sym, subst, append-nil, if◌then◌else◌}
use Rattle.std.proofs.Math.Path.{fun_ext}
use Rattle.std.proofs.lemmas.Option.{slice_get_within}
use Rattle.std.specs.Prelude.{option_map, option_to_list, slice_get}
use Rattle.std.specs.Map.{lookup}
use Rattle.ddf_lemmas.proofs.Lists.{in_map}
use Rattle.ddf_lemmas.proofs.Options.{some_is}
use Rattle.ddf_bay.specs.Sectors.{Image, IsLeft}
use Rattle.ddf_bay.specs.State.{BayState}
use Rattle.ddf_config.specs.declared.array.Array.{Array}
use Rattle.ddf_config.specs.declared.seat.Seat.{Seat}
use Rattle.ddf_config.specs.Configuration.{Configuration}
use Rattle.ddf_config.specs.Extents.{extents}
use Rattle.ddf_config.specs.Members.{same_guid}
use Rattle.ddf_config.specs.States.{is_marked}
use Rattle.ddf_copy.specs.declared.newest_copy.Newest.{Newest}
use Rattle.ddf_plan.specs.declared.change.Change.{Change}
use Rattle.ddf_plan.specs.declared.change.Change.TheVariants.{Unmark}
use Rattle.ddf_plan.specs.Arrays.{kept_and_added}
use Rattle.ddf_plan.specs.Mark.{unmarked}
use Rattle.ddf_plan.specs.Members.{members_after}
use Rattle.ddf_array.specs.Sound.{AreSectors}
use Rattle.ddf_array.specs.Volume.{IsVolume, Volume}
use Rattle.ddf_cells.proofs.Alike.{value_same}
use Rattle.ddf_data_array.specs.Allowed.{Allowed, once_consistent}
use Rattle.ddf_data_array.specs.Changing.{with_mark}
use Rattle.ddf_data_array.specs.Kept.{IsKeptData}
use Rattle.ddf_data_array.specs.Rows.{AreAlikeThroughout, AreRowsKept}
use Rattle.ddf_data_array.proofs.Consistent.{kept_consistent}
use Rattle.ddf_data_array.proofs.RowsKept.{alike_cells, marked_rows}
use Rattle.ddf_data_array.proofs.Same.{kept_same}
use Rattle.ddf_data_group.specs.Clearing.{IsSameButMark}
use Rattle.ddf_data_group.specs.Grouped.{Promises}
use Rattle.ddf_data_group.specs.Kept.{KeepsArray}
use Rattle.ddf_data_group.specs.Over.{IsOver, absent_in}
use Rattle.ddf_data_group.proofs.Clearly.{IsUsed, used}
use Rattle.ddf_data_group.proofs.Cleared.{over_before}
use Rattle.ddf_data_group.proofs.Entries.{guid_is}
use Rattle.ddf_history.specs.Groups.{Disk, groups, has_current}
use Rattle.ddf_history.specs.Issued.{Past}
use Rattle.ddf_steps.specs.Committed.{AreSettled, slots_of}
use Rattle.ddf_seats.specs.Group.{GroupValue}
use Rattle.ddf_assembly.specs.Group.{group_of}
use Rattle.ddf_recovery.specs.Ready.{readied}
use Rattle.ddf_recovery.specs.Recovery.{config_recovered}
use Rattle.ddf_steps.specs.Steps.{Step, config_after}
use Rattle.ddf_history_steps.specs.Going.{Ends, IsOver as IsDone, changes_in}
use Rattle.ddf_history_steps.specs.Kept.{is_read}
use Rattle.ddf_history_steps.proofs.Slots.{slot_placed}
use Rattle.ddf_data_history.specs.Carried.{Stays}
use Rattle.ddf_data_history.specs.Promised.{KeepsData, seats_in}
use Rattle.ddf_data_disks.specs.Seats.{AreAlikeSeats}
use Rattle.ddf_data_disks.proofs.Alike.{view_same}
use Rattle.ddf_group.specs.declared.answer.Assembly.{Assembly}
use Rattle.ddf_data_history.proofs.Viewed.{over_unique}
use Rattle.ddf_answer.specs.Call.{work_of}
use Rattle.ddf_group_commands.specs.Change.{HasChanged, IsChangedIn, Request, steps_asked, steps_of}
use Rattle.ddf_group_commands.specs.Written.{AreWritten}
use Rattle.ddf_group_commands.proofs.Outcomes.{asked_of}
use Rattle.ddf_rebuild_command.proofs.BackCame.{steps_same}
use Rattle.ddf_data_calls.specs.Calls.{AdmitsCall, AreBoth}
use Rattle.ddf_data_calls.specs.Agreed.{DoDisksAgree}
use Rattle.ddf_data_calls.specs.Promised.{counted}
use Rattle.ddf_data_calls.proofs.Counted.{was_before}
use Rattle.ddf_data_calls.proofs.First as start
use Rattle.ddf_data_calls.proofs.First.{IsCalled, called_by}
use Rattle.ddf_data_calls.proofs.Known.{found_few, known, recovered_few}
use Rattle.ddf_data_calls.proofs.Split as split
use Rattle.ddf_data_calls.proofs.Standing as standing
use Rattle.ddf_data_calls.proofs.Standing.{kept_current}

module _ {D : Type 0} (group : List ℕ) (old new : BayState D) (past : Past (groups group)) (floor : ℕ → ℕ) (promises : Promises) (left : List Bool) (newest : List (Option Newest)) (named : Option (List ℕ)) (found : GroupValue)
    (called : IsCalled group old past floor promises left newest named found) (timestamp : ℕ) (guid : List ℕ) (init : ℕ) (steps : List Step) (are : readied found (Unmark guid init ∷ []) timestamp ≡ Ok steps)
    (agree : DoDisksAgree found guid old.held) (written : AreWritten old.sizes old.held steps new.held) (settled : AreSettled new found.seats (length found.seats))
    (whole : (image : Image) → IsLeft new.may_hold image → AreSectors image) where
  abbrev v : Volume
  v = agree.volume

  known_view : IsVolume agree.volume
  known_view =
      known group old past floor called.small left newest named found called.long called.read called.is_found called.own called.admitted called.floors (config_recovered found)
      (recovered_few found (found_few group old past floor called.small left newest named found called.long called.read called.is_found called.own called.admitted called.floors)) guid agree.volume agree.is_view

  are_all : readied found (option_to_list (Some (Unmark guid init)) ++ []) timestamp ≡ Ok (steps ++ [])
  are_all = are ∙ ap (λ (all : List Step). Ok all) (sym (append-nil steps))

  abbrev between : Configuration
  between = split.between found timestamp (Some (Unmark guid init)) [] steps [] are are_all

  between_is : (between ≡ config_recovered found) ⊎ (between ≡ config_after (config_recovered found) (Unmark guid init))
  between_is = ⊎_elim inl
      (λ (made : (change : Change) × (Some (Unmark guid init) ≡ Some change) × (between ≡ config_after (config_recovered found) change)).
      inr (made.2 ∙ ap (config_after (config_recovered found)) (sym (some_is made.1))))
      (split.between_config found timestamp (Some (Unmark guid init)) [] steps [] are are_all)

  current : (disk : Disk) → has_current between disk ≡ has_current (config_recovered found) disk
  current disk = ⊎_elim
      (λ same. ap (λ (c : Configuration). has_current c disk) same)
      (λ made. ap (λ (c : Configuration). has_current c disk) made
      ∙ kept_current group (config_recovered found) (Unmark guid init) (λ reference member. refl) (config_after (config_recovered found) (Unmark guid init)).sequence disk)
      between_is

  issued_is : slice_get (found.config ∷ changes_in found steps) (length (changes_in found steps)) ≡ Some between
  issued_is = split.between_issued found timestamp (Some (Unmark guid init)) [] steps [] are are_all

  -- ---- what the disks hold

  -- nothing of the array is written, nor is anything of it pending
  held_still : (image : Image) → IsLeft new.may_hold image → AreAlikeThroughout v old.held image
  held_still image is_left element position sector slot lba lies =
      let on = start.cells_on group old past floor promises left newest named found called (config_recovered found) guid v agree.is_view known_view slot lba
      (record { element = element; position = position; sector = sector; lies = lies }) in
      let placed = slot_placed (slots_of found.seats) slot on.0 in
      let seat = in_map (λ (each : Seat). each.slot) found.seats placed.0 slot placed.1 in
      let sure = settled placed.0 seat.0 (slice_get_within found.seats placed.0 seat.0 seat.1) seat.1 in
      let same : image slot lba ≡ new.held slot lba = subst (λ (s : ℕ). image s lba ≡ new.held s lba) seat.2 (sure lba (image seat.0.slot lba) (is_left seat.0.slot lba)) in
      sym (start.floored_first group old past floor promises left newest named found called timestamp (Some (Unmark guid init)) [] steps [] are are_all slot lba new.held written on.1) ∙ sym same

  written_still : AreAlikeThroughout v old.held new.held
  written_still element position sector slot lba lies =
      let on = start.cells_on group old past floor promises left newest named found called (config_recovered found) guid v agree.is_view known_view slot lba
      (record { element = element; position = position; sector = sector; lies = lies }) in
      sym (start.floored_first group old past floor promises left newest named found called timestamp (Some (Unmark guid init)) [] steps [] are are_all slot lba new.held written on.1)

  counts_same : once_consistent v old.held ≡ once_consistent v new.held
  counts_same =
      fun_ext (λ (block : ℕ). ap (option_map (λ bytes. bytes ∷ [])) (value_same v known_view old.held new.held (alike_cells v old.held new.held written_still) block))

  rows_by : (mark : Bool) (is_absent : ℕ → ℕ → Bool) → AreRowsKept is_absent (with_mark mark v) old.held
  rows_by true is_absent = marked_rows is_absent (with_mark true v) old.held refl
  rows_by false is_absent = agree.rows is_absent

  -- So it keeps that, marked or not.
  kept_by : (mark : Bool) (is_absent : ℕ → ℕ → Bool) (image : Image) → IsLeft new.may_hold image → IsKeptData is_absent (with_mark mark v) image (once_consistent v new.held)
  kept_by mark is_absent image is_left =
      subst (λ (allowed : Allowed). IsKeptData is_absent (with_mark mark v) image allowed) counts_same
      (kept_same is_absent (with_mark mark v) old.held image (once_consistent v old.held)
      (record { array_is = known_view.array_is; has_sizes = known_view.has_sizes; are_parts = known_view.are_parts }) (whole image is_left)
      (λ element position sector slot lba lies. held_still image is_left element position sector slot lba
      (record { part = lies.part; place = lies.place; is_part = lies.is_part; is_place = lies.is_place; below = lies.below; is_there = lies.is_there; lba_is = lies.lba_is }))
      (kept_consistent is_absent mark v old.held called.whole (agree.consistent is_absent) (rows_by mark is_absent)))

  -- ---- the array

  -- it is one from before, its mark and its low state aside
  record IsFrom (after : Array) : Type 0 where
    pub before : Array
    pub is_before : lookup (same_guid guid) (config_recovered found).arrays ≡ Some before
    pub same : IsSameButMark before after

  is_from : (after : Array) → lookup (same_guid guid) (between).arrays ≡ Some after → IsFrom after
  is_from after there = ⊎_elim
      (λ same. record { before = after; is_before = ap (λ (c : Configuration). lookup (same_guid guid) c.arrays) (sym same) ∙ there; same = record { same_secondary = refl; same_elements = refl } })
      (λ made.
      let was = was_before (members_after (config_recovered found) (Unmark guid init)) (extents (kept_and_added (config_recovered found) (Unmark guid init))) (unmarked init) guid (config_recovered found).arrays guid after
      (ap (λ (c : Configuration). lookup (same_guid guid) c.arrays) (sym made) ∙ there) in
      record {
        before = was.before;
        is_before = was.was;
        same = ⊎_elim
            (λ own. record { same_secondary = (own.1).same.same_secondary; same_elements = (own.1).same.same_elements })
            (λ like. record { same_secondary = (like.1).same.same_secondary; same_elements = (like.1).same.same_elements })
            was.how;
      })
      between_is

  module _ (now : Past (groups group)) (over : IsDone group past (is_read left) found (changes_in found steps) now) where
    abbrev listed : List Seat
    listed = seats_in group now floor between

    alike : AreAlikeSeats found.seats listed
    alike =
        standing.alike group old past floor called.small left newest named found called.long called.read called.is_found called.own called.admitted called.floors (changes_in found steps) between issued_is current now over

    use_of : IsUsed (config_recovered found) guid listed v
    use_of = used (config_recovered found) guid listed v (sym (view_same found.seats listed alike (config_recovered found) guid) ∙ agree.is_view) known_view

    own_keeps : (image : Image) → IsLeft new.may_hold image → (after : Array) → lookup (same_guid guid) (between).arrays ≡ Some after → KeepsArray (between).members listed after image (once_consistent v new.held)
    own_keeps image is_left after there w over_w =
        let from = is_from after there in
        let one : (use_of).array ≡ from.before = some_is (sym (use_of).is_found ∙ from.is_before) in
        let before_v : IsOver listed from.before v = subst (λ (a : Array). IsOver listed a v) one (use_of).over in
        let before_w : IsOver listed from.before (with_mark (is_marked from.before) w) = over_before listed from.before after from.same w over_w in
        let same : v ≡ with_mark (is_marked from.before) w = over_unique listed from.before v (with_mark (is_marked from.before) w) before_v before_w in
        subst (λ (x : Volume). IsKeptData (absent_in (between).members listed after.elements) x image (once_consistent v new.held)) (ap (with_mark w.marked) same)
        (kept_by w.marked (absent_in (between).members listed after.elements) image is_left)

    all_keep : ((image : Image) → IsLeft new.may_hold image → KeepsData group now floor image promises) → (image : Image) → IsLeft new.may_hold image
        → KeepsData group now floor image (counted guid v new.held promises)
    all_keep keeps image is_left number config since other allowed array promised there = by (same_guid guid other) refl promised
      where
        same_config : config ≡ between
        same_config =
            standing.alone group old past floor called.small left newest named found called.long called.read called.is_found called.own called.admitted called.floors (changes_in found steps) between issued_is current now over
            number config since

        by : (b : Bool) → same_guid guid other ≡ b → ◌≡◌ {A = Option Allowed} (if b then Some (once_consistent v new.held) else promises other) (Some allowed)
            → KeepsArray config.members (seats_in group now floor config) array image allowed
        by true same e =
            let own : lookup (same_guid guid) (between).arrays ≡ Some array =
            ap (λ (c : Configuration). lookup (same_guid guid) c.arrays) (sym same_config) ∙ ap (λ (g : List ℕ). lookup (same_guid g) config.arrays) (guid_is guid other same) ∙ there in
            subst (λ (c : Configuration). KeepsArray c.members (seats_in group now floor c) array image allowed) (sym same_config)
            (subst (KeepsArray (between).members listed array image) (some_is e) (own_keeps image is_left array own))
        by false differs e = keeps image is_left number config since other allowed array e there

  -- Behind the call it may be promised what its blocks have.
  pub counts : AreBoth group floor new (Ends group past (is_read left) found (changes_in found steps) true) (Stays promises)
      → AreBoth group floor new (Ends group past (is_read left) found (changes_in found steps) true) (λ promised. promised ≡ counted guid agree.volume new.held promises)
  counts both = record {
    now = both.now;
    promised = counted guid agree.volume new.held promises;
    ends = both.ends;
    is_so = refl;
    all_kept = both.all_kept;
    all_data = all_keep both.now both.ends (λ image is_left. subst (λ (p : Promises). KeepsData group both.now floor image p) both.is_so (both.all_data image is_left));
  }

-- ---- the call

-- what it wrote, where it was done
record IsDoneBy {D : Type 0} (old new : BayState D) (found : GroupValue) (steps : List Step) : Type 0 where
  pub written : AreWritten old.sizes old.held steps new.held
  pub settled : AreSettled new found.seats (length found.seats)

module _ {D : Type 0} (tells : Type 0) (told : tells) (old new : BayState D) (group : List ℕ) (past : Past (groups group)) (floor : ℕ → ℕ) (small : (slot : ℕ) → floor slot < 2 ^ 64) (promises : Promises)
    (named : Option (List ℕ)) (timestamp : ℕ) (request : Request) (sequence : ℕ) (changed : HasChanged (work_of tells old new) named timestamp request (Ok sequence))
    (found : GroupValue) (is_found : group_of changed.taken.newest named ≡ Ok found) (own : found.config.group ≡ group) (steps : List Step) (are_asked : steps_of found timestamp request ≡ Ok steps)
    (admits : AdmitsCall group past floor promises old changed.taken.left found) (guid : List ℕ) (init : ℕ) (asks : request (config_recovered found) found.seats ≡ Ok (Unmark guid init ∷ []))
    (left_held : IsLeft old.may_hold old.held) (whole_held : AreSectors old.held) (agree : DoDisksAgree found guid old.held) (whole : (image : Image) → IsLeft new.may_hold image → AreSectors image) where
  done_by : IsDoneBy old new found steps
  done_by =
      let is = subst (λ (meaning : Result GroupValue Assembly). IsChangedIn (work_of tells old new) timestamp request meaning (Ok sequence)) is_found changed.gives in
      let same : is.steps ≡ steps = steps_same is.steps steps (sym is.are_asked ∙ are_asked) in
      record { written = subst (λ (all : List Step). AreWritten old.sizes old.held all new.held) same (is.are_written told); settled = is.are_settled told }

  are_readied : readied found (Unmark guid init ∷ []) timestamp ≡ Ok steps
  are_readied = asked_of (readied found (Unmark guid init ∷ []) timestamp) steps (sym (ap (steps_asked found timestamp) asks) ∙ are_asked)

  pub accepted_counts : AreBoth group floor new (Ends group past (is_read changed.taken.left) found (changes_in found steps) true) (Stays promises)
      → AreBoth group floor new (Ends group past (is_read changed.taken.left) found (changes_in found steps) true) (λ promised. promised ≡ counted guid agree.volume new.held promises)
  accepted_counts =
      counts group old new past floor promises changed.taken.left changed.taken.newest named found
      (called_by tells told old new group past floor small promises named timestamp _ _ changed.taken found is_found own admits left_held whole_held)
      timestamp guid init steps are_readied agree (done_by).written (done_by).settled whole
