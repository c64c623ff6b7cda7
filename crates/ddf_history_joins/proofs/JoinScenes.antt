-- What the slots of both groups show before the join is written, and that it may be issued then.
use Rattle.std.proofs.Common.{◌≡◌, ◌≢◌, ◌⊎◌, ℕ, ◌&&◌, Bool, true, false, not, eqb, List, [], ◌∷◌, Option, Some, None, refl, ap, sym, ◌∙◌, inl, inr, ⊎_elim, subst, arith}
use Rattle.std.proofs.lemmas.Bool.{and_parts, and_from, false≢true}
use Rattle.std.proofs.Math.Path.{fun_ext}
use Rattle.std.specs.Prelude.{find, slice_get}
use Rattle.std.specs.List.{AllByRecursion}
use Rattle.std.specs.Option.{option_map_or}
use Rattle.std.specs.Str.{bytes_eq}
use Rattle.ddf_lemmas.proofs.Lists.{all_from, bytes_same, in_map}
use Rattle.ddf_bay.specs.Sectors.{Image, IsLeft}
use Rattle.ddf_bay.specs.State.{BayState, size_of}
use Rattle.ddf_config.specs.Configuration.{Configuration}
use Rattle.ddf_copy.specs.declared.copy.DiskCopy.{DiskCopy}
use Rattle.ddf_copy.specs.declared.newest_copy.Newest.{Newest}
use Rattle.ddf_copy.specs.declared.newest_copy.Newest.TheVariants as newests
use Rattle.ddf_copy.specs.Copies.{newest_at, newest_under, standing_copy}
use Rattle.ddf_tables.specs.declared.disks.DiskEntry.{DiskEntry}
use Rattle.ddf_view.specs.View.{View, find_disk, is_missing, lists_current, lists_missing, view_of}
use Rattle.ddf_view.proofs.Names.{names_differ}
use Rattle.ddf_view.proofs.Tests.{same_bytes}
use Rattle.ddf_group.specs.Shown.{shown_of}
use Rattle.ddf_rewrite.specs.Before.{Before}
use Rattle.ddf_rewrite.proofs.Lists.{all_at}
use Rattle.ddf_history.specs.Reading.{IsCopyOf, Scene, Shown, ShowsGroup}
use Rattle.ddf_history.specs.Reading.Shown.{One}
use Rattle.ddf_history.specs.Groups.{Disk, Shows, disk_of, groups, has_current}
use Rattle.ddf_history.specs.Issued.{Past, is_away}
use Rattle.ddf_history.specs.Promise.{IsKept, IsLagging, IsNamed, IsOutside, IsStanding}
use Rattle.ddf_history.specs.Scenes.{scene_of}
use Rattle.ddf_history.specs.Steps.{MayJoin}
use Rattle.ddf_history.specs.Answered.{IsOfOneGroup}
use Rattle.ddf_history.proofs.AnsweredRead.{read_of_one_group}
use Rattle.ddf_history.proofs.Sound.{groups_are_sound}
use Rattle.ddf_seats.specs.declared.seated.Seated.{Seated}
use Rattle.ddf_steps.specs.Committed.{slots_of, synced}
use Rattle.ddf_seats.specs.Group.{GroupValue}
use Rattle.ddf_joining.specs.Importing.{join_slots}
use Rattle.ddf_joining.specs.Joining.{both_disks, config_joining}
use Rattle.ddf_joining.specs.JoinValue.{JoinValue}
use Rattle.ddf_seats.specs.Seated.{seated, slots_in}
use Rattle.ddf_assembly.specs.Settled.{IsLevelIn}
use Rattle.ddf_seats.specs.Changing.{IsOfGroup}
use Rattle.ddf_joining.proofs.BothSides.{have_both}
use Rattle.ddf_history_steps.specs.Kept.{is_slot}
use Rattle.ddf_history_steps.proofs.CommittingScenes.{seat_shows}
use Rattle.ddf_history_steps.proofs.CommittingSeats.{copy_in}
use Rattle.ddf_history_joins.proofs.JoinMembers.{joins_no_member}
use Rattle.ddf_history_joins.proofs.JoinSeats.{CanJoin, by_disk, copy_is, either_one, is_member, joining_slot, joining_written, native_written, slot_sure, stands_in, stays_current, written}
use Rattle.ddf_history_steps.proofs.RecoveringPlaces.{view_group}
use Rattle.ddf_history_steps.proofs.ShownCopies.{shows_newest, told}
use Rattle.ddf_history_steps.proofs.Slots.{slot_placed}
use Rattle.ddf_history_steps.proofs.Stops.{same_scene, scene_at}
use Rattle.ddf_history_steps.proofs.RecoveringLossEnd.{slots_same}

-- ---- newest copies

-- The copy that stands for a newest copy is shown.
standing_shown : (newest : Newest) (copy : DiskCopy) → standing_copy newest ≡ Some copy → IsCopyOf (told newest) (view_of copy)
unfolding shown_of
standing_shown (newests.One which found) copy is = let same : found ≡ copy = cc in ap view_of (sym same)
standing_shown (newests.Level found) copy is = let same : found ≡ copy = cc in ap view_of (sym same)
standing_shown (newests.TwoDiffer primary secondary) copy is = let same : primary ≡ copy = cc in inl (ap view_of (sym same))
standing_shown (newests.Neither first second) copy is = absurd cc

-- Each copy that it shows is of one group.
standing_group : (newest : Newest) (copy : DiskCopy) → standing_copy newest ≡ Some copy → IsOfOneGroup (shown_of (Some newest)) → (view : View) → IsCopyOf (told newest) view
    → view.group ≡ (view_of copy).group
unfolding shown_of
standing_group (newests.One which found) copy is one view shown = let same : found ≡ copy = cc in ap (λ (v : View). v.group) (shown ∙ ap view_of same)
standing_group (newests.Level found) copy is one view shown = let same : found ≡ copy = cc in ap (λ (v : View). v.group) (shown ∙ ap view_of same)
standing_group (newests.TwoDiffer primary secondary) copy is one view shown =
    let same : primary ≡ copy = cc in
    ⊎_elim (λ first. ap (λ (v : View). v.group) (first ∙ ap view_of same)) (λ second. ap (λ (v : View). v.group) second ∙ sym one.0 ∙ ap (λ (c : DiskCopy). (view_of c).group) same) shown
standing_group (newests.Neither first second) copy is one view shown = absurd cc

-- ---- tables

-- Where no entry has a disk's reference, none is the disk's.
none_listed : (guid : List ℕ) (reference : ℕ) (disks : List DiskEntry) → find_disk reference disks ≡ None → find (λ (disk : DiskEntry). eqb disk.reference reference && bytes_eq disk.guid guid) disks ≡ None
none_listed guid reference [] none = refl
none_listed guid reference (disk ∷ disks) none = go (none_listed guid reference disks) (eqb disk.reference reference) refl none
  where
    go : (find_disk reference disks ≡ None → find (λ (one : DiskEntry). eqb one.reference reference && bytes_eq one.guid guid) disks ≡ None) → (b : Bool) → eqb disk.reference reference ≡ b
        → find_disk reference (disk ∷ disks) ≡ None → find (λ (one : DiskEntry). eqb one.reference reference && bytes_eq one.guid guid) (disk ∷ disks) ≡ None
    go later true is nothing = absurd (let found : Some disk ≡ None = rw is at nothing in cc)
    go later false is nothing = rw is (later (rw is at nothing))

-- It lists it neither as a current member nor as a missing one.
not_current : (view : View) (guid : List ℕ) (reference : ℕ) → find_disk reference view.disks ≡ None → lists_current view guid reference ≡ false
unfolding lists_current
not_current view guid reference none = ap (λ (found : Option DiskEntry). option_map_or (λ disk. not (is_missing disk)) found false) (none_listed guid reference view.disks none)

not_missing : (view : View) (guid : List ℕ) (reference : ℕ) → find_disk reference view.disks ≡ None → lists_missing view guid reference ≡ false
unfolding lists_missing
not_missing view guid reference none = ap (λ (found : Option DiskEntry). option_map_or is_missing found false) (none_listed guid reference view.disks none)

module _ (group : List ℕ) {D : Type 0} (past : Past (groups group)) (state : BayState D) (found other : GroupValue) (timestamp : ℕ) (leaders : Before) (join : JoinValue)
    (can : CanJoin group past state found other timestamp leaders join) where
  abbrev next : Configuration
  next = join.one.step.config

  abbrev brought : Configuration
  brought = config_joining other

  abbrev both : List Seated
  both = both_disks (seated found) (seated other)

  abbrev sure : BayState D
  sure = synced state (slots_of join.joining)

  -- ---- what the disks show

  module _ (place : ℕ) (disk : Seated) (at : slice_get (both_disks (seated found) (seated other)) place ≡ Some disk) where
    -- The slot of each of both shows its newest copy.
    shows_its : scene_of state.sizes state.held disk.seat.slot ≡ told (stands_in group past state found other timestamp leaders join can place disk at).0
    shows_its =
        let own = stands_in group past state found other timestamp leaders join can place disk at in
        let held = can.at_end.holds.are_held disk.seat.slot own.0 own.1 in
        let below = (can.at_end.under disk.seat.slot own.0 own.1).0 in
        scene_at state.sizes state.held disk.seat.slot below
        ∙ shows_newest (size_of state disk.seat.slot) (state.held disk.seat.slot) held.anchor held.is_anchored
        ∙ ap told held.is_newest

    -- Its copy is shown,
    pub disk_shown : IsCopyOf (scene_of state.sizes state.held disk.seat.slot) (view_of disk.copy)
    disk_shown =
        let own = stands_in group past state found other timestamp leaders join can place disk at in
        subst (λ (shown : Shown View). IsCopyOf shown (view_of disk.copy)) (sym shows_its) (standing_shown own.0 disk.copy own.2)

    -- and each that is shown is of its group.
    pub disk_group : (view : View) → IsCopyOf (scene_of state.sizes state.held disk.seat.slot) view → view.group ≡ disk.copy.header.guid
    disk_group view shown =
        let own = stands_in group past state found other timestamp leaders join can place disk at in
        let held = can.at_end.holds.are_held disk.seat.slot own.0 own.1 in
        let read : newest_at (size_of state disk.seat.slot) (state.held disk.seat.slot) ≡ Some own.0 =
        ap (newest_under (size_of state disk.seat.slot) (state.held disk.seat.slot)) held.is_anchored ∙ ap (λ (n : Newest). Some n) held.is_newest in
        let one : IsOfOneGroup (shown_of (Some own.0)) = subst (λ (n : Option Newest). IsOfOneGroup (shown_of n)) read (read_of_one_group (size_of state disk.seat.slot) (state.held disk.seat.slot)) in
        standing_group own.0 disk.copy own.2 one view (subst (λ (s : Shown View). IsCopyOf s view) shows_its shown)
        ∙ view_group disk.copy

  -- what is shown of a disk
  abbrev IsShownAs : Seated → Type 0
  IsShownAs disk = IsCopyOf (scene_of state.sizes state.held disk.seat.slot) (view_of disk.copy)
      × ((view : View) → IsCopyOf (scene_of state.sizes state.held disk.seat.slot) view → view.group ≡ disk.copy.header.guid)

  are_shown : AllByRecursion IsShownAs both
  are_shown = all_from IsShownAs both (λ place disk at. (disk_shown place disk at, disk_group place disk at))

  pub joining_shown : (k : ℕ) (disk : Seated) → slice_get (seated other) k ≡ Some disk
      → IsCopyOf (scene_of state.sizes state.held disk.seat.slot) (view_of disk.copy)
      × ((view : View) → IsCopyOf (scene_of state.sizes state.held disk.seat.slot) view → view.group ≡ disk.copy.header.guid)
  joining_shown k disk at = all_at IsShownAs (seated other) k disk (have_both IsShownAs (seated found) (seated other) are_shown).1 at

  -- ---- an image that a stop may leave once the joining slots are synced

  module _ (image : Image) (left : IsLeft (synced state (slots_of join.joining)).may_hold image) where
    abbrev scene : Scene View
    scene = scene_of state.sizes image

    -- Each slot shows what it should.
    pub sure_kept : IsKept past (scene_of state.sizes image)
    sure_kept = can.at_end.all_kept image (λ s l. (left s l).0)

    -- The slots that the join writes hold what they do.
    same_slot : (slot : ℕ) → is_slot (join_slots join) slot ≡ true → image slot ≡ state.held slot
    same_slot slot here = fun_ext (λ l. slot_sure group past state found other timestamp leaders join can slot here l (image slot l) (left slot l))

    shows_same : (slot : ℕ) → is_slot (join_slots join) slot ≡ true → scene slot ≡ scene_of state.sizes state.held slot
    shows_same slot here = same_scene state.sizes image state.held slot (same_slot slot here)

    -- A slot that is written shows the copy that stands for it.
    pub slot_shown : (slot : ℕ) → is_slot (join_slots join) slot ≡ true → IsCopyOf (scene_of state.sizes image slot) (view_of (copy_in found.newest slot))
    slot_shown slot here =
        let own = written group past state found other timestamp leaders join can slot here in
        let place = own.renews.place in
        let disk = own.renews.disk in
        let shown : IsCopyOf (scene_of state.sizes state.held disk.seat.slot) (view_of (copy_in found.newest disk.seat.slot)) =
        subst (λ (copy : DiskCopy). IsCopyOf (scene_of state.sizes state.held disk.seat.slot) (view_of copy))
        (sym (copy_is group past state found other timestamp leaders join can place disk own.renews.at)) (disk_shown place disk own.renews.at) in
        subst (λ (x : Shown View). IsCopyOf x (view_of (copy_in found.newest slot))) (sym (shows_same slot here))
        (subst (λ (s : ℕ). IsCopyOf (scene_of state.sizes state.held s) (view_of (copy_in found.newest s))) own.slot_is shown)

    -- ---- the group's own slots

    -- A seat's slot shows its copy alone.
    native_shows : (k : ℕ) (disk : Seated) → slice_get (seated found) k ≡ Some disk → scene disk.seat.slot ≡ One (view_of disk.copy)
    native_shows k disk at =
        seat_shows state found can.at_end.is_settled can.at_end.holds can.at_end.under image k disk at
        (same_slot disk.seat.slot (native_written group past state found other timestamp leaders join can k disk at))

    -- A member's slot is that of a seat.
    native_disk : (slot : ℕ) → is_away past slot ≡ false → has_current found.config (past.disk slot) ≡ true
        → (k : ℕ) × (disk : Seated) × (slice_get (seated found) k ≡ Some disk) × (disk.seat.slot ≡ slot)
    native_disk slot here now =
        let seat = slot_placed (slots_of found.seats) slot (can.at_end.are_seated slot here now) in
        let same : slots_of found.seats ≡ slots_in (seated found) = sym (ap slots_of can.at_end.is_settled.are_seated) ∙ slots_same (seated found) in
        let own = in_map (λ (disk : Seated). disk.seat.slot) (seated found) seat.0 slot (sym (ap (λ (all : List ℕ). slice_get all seat.0) same) ∙ seat.1) in
        (seat.0, own.0, own.1, own.2)

    -- So none lags: each seat's copy is of the configuration's sequence.
    none_lags : (slot : ℕ) → is_away past slot ≡ false → IsLagging past.changes (past.disk slot) (scene slot) → ⊥
    none_lags slot here lagging =
        let now = lagging.is_member found.config can.at_end.is_last.since.is_there in
        let own = native_disk slot here now in
        let shown : IsCopyOf (scene slot) (view_of own.1.copy) =
        subst (λ (s : ℕ). IsCopyOf (scene s) (view_of own.1.copy)) own.3 (subst (λ (x : Shown View). IsCopyOf x (view_of own.1.copy)) (sym (native_shows own.0 own.1 own.2)) refl) in
        let level = all_at (IsLevelIn found) (seated found) own.0 own.1 can.at_end.is_settled.are_level own.2 in
        let of = all_at (IsOfGroup found.config) (seated found) own.0 own.1 can.at_end.is_settled.can_be_changed.of_group own.2 in
        let shows : Shows (view_of own.1.copy) found.config = record { shows = level.is_shown; names = names_differ own.1.copy [] of.is_copy } in
        let listed : lists_current (view_of own.1.copy) (disk_of (view_of own.1.copy)).guid (disk_of (view_of own.1.copy)).reference ≡ true =
        (groups_are_sound group).same_current (view_of own.1.copy) found.config (disk_of (view_of own.1.copy)) shows ∙ (can.at_end.are_members own.0 own.1 own.2).is_current in
        let ours : bytes_eq group (view_of own.1.copy).group ≡ true =
        ap (bytes_eq group) (view_group own.1.copy ∙ of.same_group ∙ can.at_end.same_group) ∙ bytes_same group in
        let older = lagging.is_older (view_of own.1.copy) found.config shown (and_from _ _ ours listed) can.at_end.is_last.since.is_there in
        let same = (groups_are_sound group).same_sequence (view_of own.1.copy) found.config shows in
        omega (arith, older, same)

    -- ---- the slots of disks that join

    joining_here : (k : ℕ) (disk : Seated) → slice_get (seated other) k ≡ Some disk → scene disk.seat.slot ≡ scene_of state.sizes state.held disk.seat.slot
    joining_here k disk at = shows_same disk.seat.slot (joining_written group past state found other timestamp leaders join can k disk at)

    -- A disk that joins is in the slot of a seat of its group.
    pub joining_disk : (slot : ℕ) → has_current (config_joining other) (past.disk slot) ≡ true
        → (k : ℕ) × (disk : Seated) × (slice_get (seated other) k ≡ Some disk) × (disk.seat.slot ≡ slot)
    joining_disk slot now =
        let seat = can.brings.are_seated (past.disk slot) now in
        let there = joining_slot group past state found other timestamp leaders join can seat.0 seat.1 seat.2 in
        let admits = can.admits image left in
        let shown : IsCopyOf (scene seat.1.seat.slot) (view_of seat.1.copy) =
        subst (λ (x : Shown View). IsCopyOf x (view_of seat.1.copy)) (sym (joining_here seat.0 seat.1 seat.2)) (joining_shown seat.0 seat.1 seat.2).0 in
        let names = admits.names seat.1.seat.slot (view_of seat.1.copy) shown (inl there) in
        (seat.0, seat.1, seat.2, sym (admits.alone slot seat.1.seat.slot now (sym seat.3 ∙ names)))

    -- Its slot shows copies that name it, of another group.
    shows_former : (slot : ℕ) → has_current brought (past.disk slot) ≡ true → IsNamed (groups group) (past.disk slot) (scene slot)
    shows_former slot now =
        let own = joining_disk slot now in
        let there : is_slot (slots_of join.joining) slot ≡ true =
        subst (λ (s : ℕ). is_slot (slots_of join.joining) s ≡ true) own.3 (joining_slot group past state found other timestamp leaders join can own.0 own.1 own.2) in
        record {
          copy = view_of own.1.copy;
          is_copy = subst (λ (s : ℕ). IsCopyOf (scene s) (view_of own.1.copy)) own.3
              (subst (λ (x : Shown View). IsCopyOf x (view_of own.1.copy)) (sym (joining_here own.0 own.1 own.2)) (joining_shown own.0 own.1 own.2).0);
          all = λ copy shown. (can.admits image left).names slot copy shown (inl there);
        }

    none_ours : (slot : ℕ) (copy : View) → has_current brought (past.disk slot) ≡ true → IsCopyOf (scene slot) copy → bytes_eq group copy.group ≡ true → ⊥
    none_ours slot copy now shown ours =
        let own = joining_disk slot now in
        let here : IsCopyOf (scene own.1.seat.slot) copy = subst (λ (s : ℕ). IsCopyOf (scene s) copy) (sym own.3) shown in
        let held = subst (λ (x : Shown View). IsCopyOf x copy) (joining_here own.0 own.1 own.2) here in
        let same = (joining_shown own.0 own.1 own.2).1 copy held in
        let away = all_at (λ (disk : Seated). bytes_eq disk.copy.header.guid next.group ≡ false) (seated other) own.0 own.1 can.is_join.of_another own.2 in
        let named : next.group ≡ group = ap (λ (config : Configuration). config.group) can.next_is ∙ can.at_end.same_group in
        let is : group ≡ copy.group = same_bytes group copy.group ours in
        false≢true
        (sym away ∙ ap (bytes_eq own.1.copy.header.guid) named ∙ ap (λ (guid : List ℕ). bytes_eq guid group) (sym same ∙ sym is) ∙ bytes_same group)

    -- ---- it may be issued

    joining_listed : (slot : ℕ) (copy : View) (disk : Disk) → IsStanding past scene slot copy → IsOutside past.changes (past.disk slot) (scene slot) → has_current brought disk ≡ true
        → disk.reference ≢ (past.disk slot).reference
    joining_listed slot copy disk stand outside now same =
        let shows : ShowsGroup (groups group) (scene slot) = record { copy = copy; is_copy = stand.is_copy; is_standing = stand.is_standing } in
        let names = sure_kept.named slot copy stand.is_copy (inl shows) in
        let none = (can.admits image left).unlisted slot copy disk stand.is_here stand.is_copy shows outside now in
        let own : disk.reference ≡ copy.reference = same ∙ ap (λ (one : Disk). one.reference) (sym names) in
        let listed = (and_parts (bytes_eq group copy.group) (lists_current copy copy.guid copy.reference) stand.is_standing).1 in
        false≢true (sym (not_current copy copy.guid copy.reference (ap (λ (n : ℕ). find_disk n copy.disks) (sym own) ∙ none)) ∙ listed)

    either_of : (disk : Disk) → has_current next disk ≡ true → (has_current found.config disk ≡ true) ⊎ (has_current brought disk ≡ true)
    either_of = either_one group past state found other timestamp leaders join can

    pub may_join : MayJoin past (scene_of state.sizes image) found.config join.one.step.config
    may_join = record {
      rises = can.is_join.rises;
      keeps = stays_current group past state found other timestamp leaders join can;
      not_again = λ disk was now. ⊎_elim
          (λ native. (groups_are_sound group).not_both found.config disk native was)
          (λ joins. joins_no_member found.config brought can.free can.apart (λ member. member.missing) disk joins was)
          (either_of disk now);
      is_new = λ one also was now same.
          (groups_are_sound group).one_reference next one also (stays_current group past state found other timestamp leaders join can one was) now same;
      is_free = λ slot copy disk stand outside now same. ⊎_elim
          (λ native. (outside.is_behind copy stand.is_copy stand.is_standing).is_other past.changes.acked found.config disk can.at_end.is_last.since native same)
          (λ joins. joining_listed slot copy disk stand outside joins same)
          (either_of disk now);
      misses_none = λ slot copy disk here shown shows outside now misses. ⊎_elim
          (λ native. outside.misses_none copy past.changes.acked found.config disk shown shows can.at_end.is_last.since native misses)
          (λ joins. false≢true
          (sym (not_missing copy disk.guid disk.reference ((can.admits image left).unlisted slot copy disk here shown shows outside joins)) ∙ misses))
          (either_of disk now);
      shows_some = λ slot here outside now. ⊎_elim
          (λ native. absurd (outside.no_member found.config can.at_end.is_last.since.is_there native))
          (λ joins. shows_former slot joins)
          (either_of (past.disk slot) now);
      joins_later = λ slot copy here outside now shown ours. ⊎_elim
          (λ native. outside.no_member found.config can.at_end.is_last.since.is_there native)
          (λ joins. none_ours slot copy joins shown ours)
          (either_of (past.disk slot) now);
      alone = λ s t now same. ⊎_elim
          (λ native. sure_kept.alone s t past.changes.acked found.config can.at_end.is_last.since native same)
          (λ joins. (can.admits image left).alone s t joins same)
          (either_of (past.disk s) now);
      named = λ slot copy shown now. ⊎_elim
          (λ native. sure_kept.named slot copy shown (inr (past.changes.acked, found.config, can.at_end.is_last.since, native)))
          (λ joins. (can.admits image left).names slot copy shown (inr joins))
          (either_of (disk_of copy) now);
      none_lags = none_lags;
      gone = (can.admits image left).gone;
    }

    -- ---- the slots of its members

    -- The copy that stands for a slot names the slot's disk, which is a member.
    pub old_names : (slot : ℕ) → is_slot (join_slots join) slot ≡ true → disk_of (view_of (copy_in found.newest slot)) ≡ past.disk slot
    old_names slot here =
        may_join.named slot (view_of (copy_in found.newest slot)) (slot_shown slot here)
        (by_disk group past state found other timestamp leaders join can (λ copy. has_current next (disk_of (view_of copy)) ≡ true)
        (λ place disk at stays. (is_member group past state found other timestamp leaders join can place disk at).is_current) slot here)

    -- The slot of each member that isn't away is written.
    pub member_written : (slot : ℕ) → is_away past slot ≡ false → has_current join.one.step.config (past.disk slot) ≡ true → is_slot (join_slots join) slot ≡ true
    member_written slot here now = ⊎_elim
        (λ native.
        let own = native_disk slot here native in
        subst (λ (s : ℕ). is_slot (join_slots join) s ≡ true) own.3 (native_written group past state found other timestamp leaders join can own.0 own.1 own.2))
        (λ joins.
        let own = joining_disk slot joins in
        subst (λ (s : ℕ). is_slot (join_slots join) s ≡ true) own.3 (joining_written group past state found other timestamp leaders join can own.0 own.1 own.2))
        (either_of (past.disk slot) now)
