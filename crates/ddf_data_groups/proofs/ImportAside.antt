-- An import by one group of another one doesn't take a third group that stands beside both.
use Rattle.std.proofs.Common.{◌≡◌, ◌∙◌, ◌⊎◌, inl, inr, ⊎_elim, ℕ, ◌++◌, true, false, List, Some, refl, sym, ap, subst, arith}
use Rattle.std.proofs.lemmas.Bool.{and_parts, true≢false}
use Rattle.std.proofs.lemmas.Slice.Eq.{bytes_eq-Decides}
use Rattle.std.specs.Prelude.{slice_get}
use Rattle.std.specs.Str.{bytes_eq}
use Rattle.ddf_lemmas.proofs.Lists.{first_get, in_either, in_second, mapped_at}
use Rattle.ddf_bytes.specs.Streams.{SourceState}
use Rattle.ddf_bay.specs.Moments.{StopsLeave}
use Rattle.ddf_bay.specs.Sectors.{Image, IsLeft}
use Rattle.ddf_bay.specs.State.{BayState, size_of}
use Rattle.ddf_config.specs.declared.seat.Seat.{Seat}
use Rattle.ddf_config.specs.Configuration.{Configuration}
use Rattle.ddf_view.specs.View.{View, view_of}
use Rattle.ddf_history.specs.Calls.{IsAside}
use Rattle.ddf_history.specs.Groups.{disk_of, groups, has_current}
use Rattle.ddf_history.specs.Issued.{IsSince, Past}
use Rattle.ddf_history.specs.Reading.{IsCopyOf, stands}
use Rattle.ddf_history.specs.Scenes.{scene_of}
use Rattle.ddf_seats.specs.declared.seated.Seated.{Seated}
use Rattle.ddf_seats.specs.Group.{GroupValue}
use Rattle.ddf_seats.specs.Seated.{seated}
use Rattle.ddf_seats.proofs.CommittedSeats.{seated_is}
use Rattle.ddf_steps.specs.Committed.{slots_of}
use Rattle.ddf_steps.specs.Steps.{Step}
use Rattle.ddf_joining.specs.Joining.{Joining}
use Rattle.ddf_history_steps.specs.Kept.{is_slot}
use Rattle.ddf_history_steps.proofs.Slots.{slot_is, slot_placed}
use Rattle.ddf_history_steps.proofs.Told.{found_name}
use Rattle.ddf_group_commands.specs.Others.{LeavesOthers}
use Rattle.ddf_group_commands.specs.Writing.{IsLeftWriting, IsStepsSector, IsWrittenOn}
use Rattle.ddf_group_commands.proofs.LeftWriting.{IsStepsCopy, copy_left}
use Rattle.ddf_import_command.specs.Import.{import_steps}
use Rattle.ddf_data_events.specs.Calls.{Finds, JoinCall}
use Rattle.ddf_data_events.proofs.Bays.{AreBays}
use Rattle.ddf_data_events.proofs.JoinAsked.{is_readied, is_unrefused}
use Rattle.ddf_data_groups.specs.Beside.{AreBeside, Both, JoinsBeside, Known, our_moment}
use Rattle.ddf_data_groups.proofs.Aside.{IsAsideAt, entry_aside}
use Rattle.ddf_data_groups.proofs.JoinCopies.{IsKnown, import_known}
use Rattle.ddf_data_groups.proofs.SeatsShown.{seat_shown}

module _ {B : Type 0} {tells : Type 0} (told : tells) (disks : B → BayState B) {S : Type 0} (tells_bytes : Type 0) (streams : S → SourceState) (are : AreBays disks) (one other : List ℕ)
    (both : Both one other B) (beside : AreBeside disks both) (tells_left : (disks both.bay).tells_left) (call : JoinCall told disks tells_bytes streams one (our_moment both)) (known : Known call.join.other)
    (joins : JoinsBeside disks both call.join.other call.join.imported.second.left call.join.joining known) where
  abbrev entry : BayState B
  entry = disks both.bay

  abbrev theirs : Past (groups other)
  theirs = both.theirs.past

  abbrev native : GroupValue
  native = call.join.group

  abbrev joining : GroupValue
  joining = call.join.joining

  abbrev third : Both call.join.other other B
  third = record { bay = both.bay; ours = known; theirs = both.theirs }

  abbrev steps : List Step
  steps = import_steps call.join.made

  -- the slots that it may write
  abbrev written : List ℕ
  written = slots_of native.seats ++ slots_of joining.seats

  is_held : IsLeft entry.may_hold entry.held
  is_held = (are both.bay).held tells_left

  finds : Finds told disks tells_bytes streams one (our_moment both) call.join.imported.first.left call.join.imported.first.newest call.join.named
  finds = record { tells_left = tells_left; found = native; is_found = call.join.is_group; own = call.join.same_group; admitted = call.join.admitted }

  finds_joining : Finds told disks tells_bytes streams call.join.other (our_moment third) call.join.imported.second.left call.join.imported.second.newest (Some call.join.other)
  finds_joining = record {
    tells_left = tells_left;
    found = joining;
    is_found = call.join.is_joining;
    own = found_name call.join.imported.second.newest call.join.other joining call.join.is_joining;
    admitted = joins.admitted;
  }

  -- ---- slots of seats

  either_slot : (slot : ℕ) → is_slot written slot ≡ true → (is_slot (slots_of native.seats) slot ≡ true) ⊎ (is_slot (slots_of joining.seats) slot ≡ true)
  either_slot slot here =
      let placed = slot_placed written slot here in
      ⊎_elim
      (λ own. inl (slot_is (slots_of native.seats) own.0 slot own.1))
      (λ its. inr (slot_is (slots_of joining.seats) its.0 slot its.1))
      (in_either (slots_of native.seats) (slots_of joining.seats) placed.0 slot placed.1)

  -- The slots of both groups were aside of the other one's history before,
  was_aside : (image : Image) → IsLeft entry.may_hold image → (slot : ℕ) → is_slot written slot ≡ true → IsAside theirs slot (scene_of entry.sizes image slot)
  unfolding finds finds_joining
  was_aside image is_left slot here = ⊎_elim
      (entry_aside told disks tells_bytes streams are one other both beside tells_left call.join.imported.first.left call.join.imported.first.every_slot call.join.imported.first.newest
      (call.join.imported.first.read told) call.join.named finds image is_left slot)
      (entry_aside told disks tells_bytes streams are call.join.other other third joins.beside tells_left call.join.imported.second.left call.join.imported.second.every_slot call.join.imported.second.newest
      (call.join.imported.second.read told) (Some call.join.other) finds_joining image is_left slot)
      (either_slot slot here)

  -- ---- what the steps write

  known_on : (slot : ℕ) (on : IsWrittenOn steps slot) → IsKnown native.config.group (seated native ++ seated joining) on.disk
  known_on =
      let readied = (is_readied call.join.timestamp call.join.imported.first.left native joining call.join.made call.join.are_asked).0 in
      let made = (is_unrefused call.join.timestamp native joining call.join.made readied).is_made in
      subst (λ (each : Joining). (slot : ℕ) (on : IsWrittenOn (import_steps each) slot) → IsKnown native.config.group (seated native ++ seated joining) on.disk) made
      (import_known call.join.timestamp native joining)

  -- A copy of a seat of either group is shown by its slot.
  shown_before : (place : ℕ) (before : Seated) → slice_get (seated native ++ seated joining) place ≡ Some before → IsCopyOf (scene_of entry.sizes entry.held before.seat.slot) (view_of before.copy)
  shown_before place before at = ⊎_elim
      (λ own.
      seat_shown entry call.join.imported.first.left call.join.imported.first.newest call.join.imported.first.every_slot (call.join.imported.first.read told) call.join.named native call.join.is_group own.0 before
      own.1)
      (λ its.
      seat_shown entry call.join.imported.second.left call.join.imported.second.newest call.join.imported.second.every_slot (call.join.imported.second.read told) (Some call.join.other) joining
      call.join.is_joining its.0 before its.1)
      (in_either (seated native) (seated joining) place before at)

  -- Its slot is one of those.
  seat_slot : (place : ℕ) (before : Seated) → slice_get (seated native ++ seated joining) place ≡ Some before → is_slot written before.seat.slot ≡ true
  seat_slot place before at = ⊎_elim
      (λ own.
      let sits = seated_is native own.0 before own.1 in
      let there = mapped_at (λ (seat : Seat). seat.slot) native.seats sits.place before.seat sits.is_seat in
      slot_is written sits.place before.seat.slot (first_get (slots_of native.seats) (slots_of joining.seats) sits.place before.seat.slot there))
      (λ its.
      let sits = seated_is joining its.0 before its.1 in
      let there = mapped_at (λ (seat : Seat). seat.slot) joining.seats sits.place before.seat sits.is_seat in
      let among = in_second (slots_of native.seats) (slots_of joining.seats) sits.place before.seat.slot there in
      slot_is written among.0 before.seat.slot among.1)
      (in_either (seated native) (seated joining) place before at)

  written_slot : (slot : ℕ) → IsWrittenOn steps slot → is_slot written slot ≡ true
  written_slot slot on =
      let is = known_on slot on in
      subst (λ (n : ℕ). is_slot written n ≡ true) (is.same_slot ∙ on.on_slot) (seat_slot is.place is.before is.is_there)

  stands_not : (slot : ℕ) (copy : View) → IsStepsCopy steps slot copy → stands (groups other) copy ≡ true → ⊥
  stands_not slot copy is standing =
      let theirs_is = (and_parts (bytes_eq other copy.group) ((groups other).lists_current copy (disk_of copy)) standing).0 in
      let names : copy.group ≡ one = ap (λ (view : View). view.group) is.1 ∙ (known_on slot is.0).of_group ∙ call.join.same_group in
      beside.apart.another (sym ((bytes_eq-Decides other copy.group).0 theirs_is ∙ names))

  names_none : (slot : ℕ) (copy : View) → is_slot written slot ≡ true → IsStepsCopy steps slot copy → (number : ℕ) (config : Configuration) → IsSince theirs.changes number config
      → has_current config (disk_of copy) ≡ true → ⊥
  names_none slot copy here is number config since current =
      let on = known_on slot is.0 in
      let shown = subst (λ (n : ℕ). IsCopyOf (scene_of entry.sizes entry.held n) (view_of on.before.copy)) (on.same_slot ∙ is.0.on_slot) (shown_before on.place on.before on.is_there) in
      let same = ap disk_of is.1 ∙ on.same_disk in
      (was_aside entry.held is_held slot here).names_none (view_of on.before.copy) number config shown since (ap (has_current config) (sym same) ∙ current)

  writing_aside : (image : Image) → IsLeftWriting entry steps image → (slot : ℕ) → is_slot written slot ≡ true → IsAside theirs slot (scene_of entry.sizes image slot)
  writing_aside image writing slot here =
      let first = was_aside writing.before writing.is_left slot here in
      record {
        no_member = first.no_member;
        shows_none = λ copy is standing. ⊎_elim (λ was. first.shows_none copy was standing) (λ made. stands_not slot copy made standing) (copy_left entry steps image writing slot copy is);
        names_none = λ copy number config is since current. ⊎_elim
            (λ was. first.names_none copy number config was since current)
            (λ made. names_none slot copy here made number config since current)
            (copy_left entry steps image writing slot copy is);
      }

  -- ---- the call

  leaves : StopsLeave entry (disks call.join.exit) (IsLeftWriting entry steps)
  leaves = call.join.imported.leaves told native joining call.join.is_group call.join.is_joining call.join.made call.join.are_asked

  others : LeavesOthers entry (disks call.join.exit) written
  others = record {
    later = (leaves).later;
    since = λ t image le was_left. ⊎_elim inl (λ writing. inr (λ s l none. untouched image writing s l none)) ((leaves).since t image le was_left);
  }
    where
      untouched : (image : Image) → IsLeftWriting entry steps image → (s l : ℕ) → is_slot written s ≡ false → entry.may_hold s l (image s l)
      untouched image writing s l none = ⊎_elim
          (λ same. subst (entry.may_hold s l) (sym same) (writing.is_left s l))
          (λ (sector : IsStepsSector (size_of entry s) steps s l). absurd (true≢false (sym (written_slot s sector.on) ∙ none)))
          (writing.outside s l)

  stops_aside : (image : Image) → (disks call.join.exit).left_since entry.moment image → (slot : ℕ) → is_slot written slot ≡ true → IsAside theirs slot (scene_of entry.sizes image slot)
  stops_aside image was_left slot here = ⊎_elim
      (λ before. was_aside image ((are both.bay).only_now image before) slot here)
      (λ writing. writing_aside image writing slot here)
      ((leaves).since entry.moment image (omega arith) was_left)

  pub import_aside : (disks call.join.exit).sizes ≡ entry.sizes → IsAsideAt told disks tells_bytes streams both call.join.exit
  import_aside same_sizes = (
    record {
      beside = record {
        exit = call.join.exit;
        written = written;
        leaves_others = others;
        is_held = is_held;
        are_aside = λ image was_left slot here. inr (stops_aside image was_left slot here);
      };
      same_sizes = same_sizes;
      no_member = λ slot number config here since current. (was_aside entry.held is_held slot here).no_member number config since current;
    },
    refl,
  )
