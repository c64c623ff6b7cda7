-- What two assemblies of one bay found, and what was readied of both, stands ready once the first group is recovered.
use Rattle.std.proofs.Common.{◌≡◌, ◌≢◌, ℕ, Bool, true, false, not, List, [], map, Option, Some, None, if◌then◌else◌, refl, ap, sym, ◌∙◌, subst}
use Rattle.std.specs.Prelude.{slice_get}
use Rattle.std.specs.List.{AllByRecursion}
use Rattle.std.proofs.lemmas.Option.{same_Some}
use Rattle.ddf_lemmas.proofs.Lists.{all_from, in_map}
use Rattle.ddf_lemmas.proofs.Options.{same_ok}
use Rattle.ddf_bay.specs.Sectors.{IsLeft}
use Rattle.ddf_bay.specs.State.{BayState, size_of}
use Rattle.ddf_header.specs.declared.reading.Header.{Header}
use Rattle.ddf_copy.specs.declared.copy.DiskCopy.{DiskCopy}
use Rattle.ddf_copy.specs.declared.newest_copy.Newest.{Newest}
use Rattle.ddf_copy.specs.Copies.{newest_of, standing_copy}
use Rattle.ddf_config.specs.declared.seat.Seat.{Seat}
use Rattle.ddf_config.specs.Configuration.{Configuration}
use Rattle.ddf_plan.specs.Lose.{is_among}
use Rattle.ddf_plan.specs.declared.change.Change.TheVariants.{Lose}
use Rattle.ddf_view.specs.View.{view_of}
use Rattle.ddf_rewrite.proofs.Lists.{all_at}
use Rattle.ddf_history.specs.Groups.{Disk, disk_of, groups, has_current}
use Rattle.ddf_history.specs.Issued.{Past}
use Rattle.ddf_history.specs.Scenes.{scene_of}
use Rattle.ddf_seats.specs.declared.seated.Seated.{Seated}
use Rattle.ddf_steps.specs.Committed.{IsRewritten, slots_of, synced}
use Rattle.ddf_recovery.specs.Committed.{WasReadied, group_recovered}
use Rattle.ddf_seats.specs.Group.{GroupValue}
use Rattle.ddf_assembly.specs.Held.{AreHeldOn}
use Rattle.ddf_joining.specs.Importing.{AreApart, IsOfAnother}
use Rattle.ddf_joining.specs.Joining.{config_joining, join_config}
use Rattle.ddf_joining.specs.JoinValue.{JoinValue}
use Rattle.ddf_assembly.specs.Reading.{HaveAnchors}
use Rattle.ddf_steps.specs.Ready.{ReadyStep}
use Rattle.ddf_recovery.specs.Ready.{ReadyValue}
use Rattle.ddf_recovery.specs.Recovery.{config_lost, config_recovered, disks_recovered, lost_step, mended, mended_or_kept}
use Rattle.ddf_seats.specs.Leading.{leading, lags, some}
use Rattle.ddf_seats.specs.Seated.{seated, levelled}
use Rattle.ddf_assembly.specs.Slots.{newest_from}
use Rattle.ddf_steps.specs.Steps.{Step}
use Rattle.ddf_steps.proofs.CommittedLevels.{level_else}
use Rattle.ddf_seats.proofs.CommittedSeats.{seated_is}
use Rattle.ddf_joining.proofs.JoinReadied.{was}
use Rattle.ddf_assembly.proofs.LeftOut.{kept_there}
use Rattle.ddf_recovery.proofs.RecoveredGroup.{rewriting}
use Rattle.ddf_assembly.proofs.SettledHeld.{newest_kept}
use Rattle.ddf_history.proofs.Common.{current_listed}
use Rattle.ddf_history_steps.specs.AtEnd.{IsAtEnd}
use Rattle.ddf_history_joins.specs.Joins.{AdmitsImport, AdmitsJoin, BringsMembers, StandsToJoin, WereBothTaken}
use Rattle.ddf_history_steps.specs.Steps.{WasTaken}
use Rattle.ddf_history_steps.proofs.ChangingStays.{stays_current}
use Rattle.ddf_history_steps.proofs.CommittingSeats.{renewed}
use Rattle.ddf_history_joins.proofs.JoinBrings.{brings, claimed_current, seat_copy, seat_not_absent, seat_view}
use Rattle.ddf_history_joins.proofs.JoinMembers.{joins_no_member}
use Rattle.ddf_history_joins.proofs.JoinTries.{free, joining_is, members_apart, step_is}
use Rattle.ddf_history_steps.proofs.RecoveringKeeps.{group_held}
use Rattle.ddf_history_steps.proofs.RecoveringLoss.{lose_leaves}

-- What a slot holds is one newest copy.
pub one_held : {D : Type 0} (disks : BayState D) (all others : List (Option Newest)) → AreHeldOn disks all → AreHeldOn disks others → (slot : ℕ) (one other : Newest)
    → slice_get all slot ≡ Some (Some one) → slice_get others slot ≡ Some (Some other) → one ≡ other
one_held disks all others held also slot one other at there =
    let first = held slot one at in
    let second = also slot other there in
    let anchors : first.anchor ≡ second.anchor = same_ok first.anchor second.anchor (sym first.is_anchored ∙ second.is_anchored) in
    sym first.is_newest ∙ ap (λ (anchor : Header). newest_of (size_of disks slot) (disks.held slot) anchor) anchors ∙ second.is_newest

-- ---- a group's own disks behind its recovery

-- Each is on the slot of a seat.
pub recovered_on : (timestamp : ℕ) (native : GroupValue) (k : ℕ) (disk : Seated) → slice_get (disks_recovered timestamp native) k ≡ Some disk
    → (j : ℕ) × (before : Seated) × (slice_get (seated native) j ≡ Some before) × (before.seat.slot ≡ disk.seat.slot)
unfolding disks_recovered
recovered_on timestamp native k disk at = by (some native.absent) at
  where
    kept_seat : (before : Seated) → (mended_or_kept timestamp native before).seat ≡ before.seat
    kept_seat before = go (lags native before)
      where
        go : (b : Bool) → (if b then levelled (mended (leading native) native.config timestamp before) else before).seat ≡ before.seat
        go true = refl
        go false = refl

    by : (b : Bool) → slice_get (if b then map levelled (lost_step timestamp native).disks else map (mended_or_kept timestamp native) (seated native)) k ≡ Some disk
        → (j : ℕ) × (before : Seated) × (slice_get (seated native) j ≡ Some before) × (before.seat.slot ≡ disk.seat.slot)
    by true here =
        let made = in_map levelled (lost_step timestamp native).disks k disk here in
        let own = renewed (seated native) (leading native) (config_lost native) timestamp k made.0 made.1 in
        (own.place, own.disk, own.at, ap (λ (one : Seated). one.seat.slot) own.is_made ∙ ap (λ (one : Seated). one.seat.slot) made.2)
    by false here =
        let before = in_map (mended_or_kept timestamp native) (seated native) k disk here in
        (k, before.0, before.1, ap (λ (seat : Seat). seat.slot) (sym (kept_seat before.0)) ∙ ap (λ (one : Seated). one.seat.slot) before.2)

module _ {D : Type 0} (disks : BayState D) (left also_left : List Bool) (named also_named : Option (List ℕ)) (native other : GroupValue) (timestamp : ℕ)
    (recovery : ReadyValue) (join : JoinValue) (taken : WereBothTaken disks left also_left named also_named native other timestamp recovery join) where
  pub was_taken_readied : WasReadied native [] timestamp recovery
  was_taken_readied = was timestamp native other recovery join taken.is_readied taken.none_behind taken.time taken.assembled taken.other_assembled taken.recovers taken.follows

  pub was_taken : WasTaken disks left named native [] timestamp recovery
  was_taken = record {
    every_slot = taken.every_slot;
    is_found = taken.is_found;
    stand = taken.stand;
    under = taken.under;
    fit = taken.fit;
    can_be_asked = tt;
    was_readied = was_taken_readied;
  }

  -- What the first group keeps of a slot that joins is what the second does.
  same_before : (k : ℕ) (disk : Seated) → slice_get (seated other) k ≡ Some disk
      → (one : Newest) × (slice_get native.newest disk.seat.slot ≡ Some (Some one)) × (slice_get other.newest disk.seat.slot ≡ Some (Some one)) × (standing_copy one ≡ Some disk.copy)
  same_before k disk at =
      let own = seated_is other k disk at in
      let kept = kept_there native.newest disk.seat.slot (taken.are_kept own.place disk.seat own.is_seat) in
      let same =
      one_held disks native.newest other.newest (group_held disks left named native taken.is_found) (group_held disks also_left also_named other taken.is_found_too) disk.seat.slot kept.0
      own.found kept.1 own.is_found in
      (own.found, kept.1 ∙ ap (λ (n : Newest). Some (Some n)) same, own.is_found, own.stands)

  -- What was read of the first group's slots can be written again.
  read_under : HaveAnchors disks.sizes (newest_from disks 0 left)
  read_under = subst (λ (all : List (Option Newest)). HaveAnchors disks.sizes all) (newest_kept (newest_from disks 0 left) named native taken.is_found) taken.under

  also_under : HaveAnchors disks.sizes (newest_from disks 0 also_left)
  also_under = subst (λ (all : List (Option Newest)). HaveAnchors disks.sizes all) (newest_kept (newest_from disks 0 also_left) also_named other taken.is_found_too) taken.under_too

  pub brings_members : BringsMembers other
  brings_members = brings (newest_from disks 0 also_left) also_named other taken.is_found_too disks.sizes also_under taken.other_assembled

  -- The disk of a seat of the first group is a current member behind its recovery.
  pub recovered_current : (j : ℕ) (before : Seated) → slice_get (seated native) j ≡ Some before → has_current (config_recovered native) (disk_of (view_of before.copy)) ≡ true
  unfolding config_recovered
  recovered_current j before at = by (some native.absent)
    where
      disk : Disk
      disk = disk_of (view_of before.copy)

      current : has_current native.config disk ≡ true
      current =
          claimed_current (newest_from disks 0 left) named native taken.is_found disks.sizes read_under taken.assembled before.seat.slot (view_of before.copy)
          (seat_copy (newest_from disks 0 left) named native taken.is_found disks.sizes read_under taken.assembled j before at).1
          (seat_view (newest_from disks 0 left) named native taken.is_found disks.sizes read_under taken.assembled j before at)

      here : is_among native.absent disk.reference ≡ false
      here = seat_not_absent (newest_from disks 0 left) named native taken.is_found disks.sizes read_under taken.assembled j before at

      by : (b : Bool) → has_current (if b then config_lost native else native.config) disk ≡ true
      by true =
          stays_current native.config (Lose native.absent) (config_lost native).sequence disk current
          (lose_leaves native.config native.absent disk.reference here (current_listed native.config disk current))
      by false = current

  -- No slot that joins is that of one of its disks.
  pub apart_before : (k : ℕ) (disk : Seated) → slice_get (seated other) k ≡ Some disk → (j : ℕ) (before : Seated) → slice_get (seated native) j ≡ Some before
      → before.seat.slot ≡ disk.seat.slot → ⊥
  apart_before k disk at j before there same =
      let both = same_before k disk at in
      let own = seated_is native j before there in
      let found : Some (Some own.found) ≡ Some (Some both.0) = sym own.is_found ∙ ap (slice_get native.newest) same ∙ both.1 in
      let ones : own.found ≡ both.0 = same_Some own.found both.0 (same_Some (Some own.found) (Some both.0) found) in
      let copies : before.copy ≡ disk.copy = same_Some before.copy disk.copy (sym own.stands ∙ ap standing_copy ones ∙ both.3) in
      let was_one = subst (λ (copy : DiskCopy). has_current (config_recovered native) (disk_of (view_of copy)) ≡ true) copies (recovered_current j before there) in
      joins_no_member (config_recovered native) (config_joining other)
      (free timestamp taken.time native other recovery join taken.is_readied taken.assembled taken.other_assembled taken.recovers)
      (members_apart timestamp taken.time native other recovery join taken.is_readied taken.assembled taken.other_assembled taken.recovers)
      (λ member. not member.missing) (disk_of (view_of disk.copy)) (brings_members.are_members k disk at).is_current was_one

  pub are_apart : AreApart (disks_recovered timestamp native) (seated other)
  are_apart = all_from (λ (disk : Seated). AllByRecursion (λ (own : Seated). disk.seat.slot ≢ own.seat.slot) (disks_recovered timestamp native)) (seated other) (λ k disk at.
      all_from (λ (own : Seated). disk.seat.slot ≢ own.seat.slot) (disks_recovered timestamp native) (λ i own there same.
      let on = recovered_on timestamp native i own there in
      apart_before k disk at on.0 on.1 on.2 (on.3 ∙ sym same)))

  -- Its recovery leaves what it keeps of them.
  still_kept : (k : ℕ) (disk : Seated) → slice_get (seated other) k ≡ Some disk
      → slice_get (group_recovered native recovery.recovery).newest disk.seat.slot ≡ slice_get native.newest disk.seat.slot
  still_kept k disk at = by recovery.recovery refl
    where
      by : (next : Option ReadyStep) → recovery.recovery ≡ next → slice_get (group_recovered native next).newest disk.seat.slot ≡ slice_get native.newest disk.seat.slot
      by None e = refl
      by (Some one) e =
          level_else native.newest one.step.disks disk.seat.slot (λ i made there same.
          let is = all_at (IsRewritten (seated native) one.step.config) one.step.disks i made (rewriting native [] timestamp recovery was_taken_readied one e) there in
          apart_before k disk at is.place is.before is.is_there (ap (λ (seat : Seat). seat.slot) (sym is.same_seat) ∙ sym same))

  pub same_newest : AllByRecursion (λ disk. slice_get (group_recovered native recovery.recovery).newest disk.seat.slot ≡ slice_get other.newest disk.seat.slot) (seated other)
  same_newest =
      all_from (λ (disk : Seated). slice_get (group_recovered native recovery.recovery).newest disk.seat.slot ≡ slice_get other.newest disk.seat.slot) (seated other)
      (λ k disk at. let both = same_before k disk at in still_kept k disk at ∙ both.1 ∙ sym both.2)

  -- So it stands ready to be joined.
  pub stands_to_join : (group : List ℕ) (past : Past (groups group)) (new : BayState D) → IsAtEnd group past new (group_recovered native recovery.recovery)
      → IsOfAnother (join_config native other) (seated other) → AdmitsImport group past new native other → StandsToJoin group past new timestamp native other recovery join
  stands_to_join group past new end others admits =
      let seats = joining_is timestamp taken.time native other recovery join taken.is_readied taken.assembled taken.other_assembled taken.recovers in
      let step = step_is timestamp taken.time native other recovery join taken.is_readied taken.assembled taken.other_assembled taken.recovers in
      record {
        at_end = end;
        time = taken.time;
        assembled = taken.assembled;
        other_assembled = taken.other_assembled;
        is_readied = taken.is_readied;
        none_behind = taken.none_behind;
        recovers = taken.recovers;
        follows = taken.follows;
        same_newest = same_newest;
        are_apart = are_apart;
        of_another = others;
        brings = brings_members;
        admits = λ image left.
            subst (λ (config : Configuration). AdmitsJoin group past (scene_of new.sizes image) (slots_of join.joining) (config_joining other) config) (sym (ap (λ (one : Step). one.config) step))
            (subst (λ (all : List Seat). AdmitsJoin group past (scene_of new.sizes image) (slots_of all) (config_joining other) (join_config native other)) (sym seats)
            (admits image (subst (λ (all : List Seat). IsLeft (synced new (slots_of all)).may_hold image) seats left)));
      }
