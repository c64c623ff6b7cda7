-- What a join may write to disks that hold both groups, and what they hold once it was written.
use Rattle.std.proofs.Common.{◌≡◌, ℕ, false, List, [], ◌∷◌, length, filter_map, Option, Some, None, option_map, refl, sym, ap, subst, ◌∙◌}
use Rattle.std.proofs.lemmas.Bool.{false≢true}
use Rattle.std.specs.Prelude.{slice_get}
use Rattle.std.specs.List.{AllByRecursion, cons_option}
use Rattle.std.specs.Option.{option_and_then}
use Rattle.std.specs.Str.{bytes_eq}
use Rattle.ddf_lemmas.proofs.Lists.{all_from, all_weaken, bytes_same, mapped_at}
use Rattle.ddf_bay.specs.Moments.{IsSettled}
use Rattle.ddf_bay.specs.State.{BayState}
use Rattle.ddf_copy.specs.declared.copy.DiskCopy.{DiskCopy}
use Rattle.ddf_copy.specs.declared.newest_copy.Newest.{Newest}
use Rattle.ddf_copy.specs.Copies.{standing_copy}
use Rattle.ddf_copy.specs.Shows.{last_of}
use Rattle.ddf_config.specs.declared.seat.Seat.{Seat}
use Rattle.ddf_config.specs.Configuration.{Configuration}
use Rattle.ddf_rewrite.proofs.Lists.{all_at, all_mapped}
use Rattle.ddf_rewrite.specs.Before.{Before}
use Rattle.ddf_update.specs.Changes.{AreChanged}
use Rattle.ddf_update.specs.Group.{LieOnSlots}
use Rattle.ddf_update.specs.declared.prepared.Mode.TheVariants.{Change}
use Rattle.ddf_seats.specs.declared.seated.Seated.{Seated}
use Rattle.ddf_recovery.specs.Committed.{HoldsGroup}
use Rattle.ddf_steps.specs.Committed.{IsRewritten, slots_of, synced}
use Rattle.ddf_seats.specs.Group.{GroupValue}
use Rattle.ddf_joining.specs.Importing.{IsJoinOf, MayJoinDisks, group_joined, join_slots, join_updates}
use Rattle.ddf_joining.specs.Joining.{both_disks}
use Rattle.ddf_joining.specs.JoinValue.{JoinValue}
use Rattle.ddf_assembly.specs.Reading.{HaveAnchors}
use Rattle.ddf_steps.specs.Ready.{group_after}
use Rattle.ddf_seats.specs.Seated.{seated, seated_at, seated_by, seats_in}
use Rattle.ddf_assembly.specs.Settled.{IsLevelIn, IsSettledGroup}
use Rattle.ddf_steps.specs.Steps.{Step}
use Rattle.ddf_steps.specs.Trying.{Follows}
use Rattle.ddf_seats.specs.Changing.{SlotsRise}
use Rattle.ddf_joining.proofs.BothOrder.{both_rise}
use Rattle.ddf_joining.proofs.BothSides.{both_have}
use Rattle.ddf_recovery.proofs.Committed.{MayReplace, may_change_all, never_same, seat_is, seat_of, step_lies}
use Rattle.ddf_recovery.proofs.CommittedAfter.{after_anchored, after_holds, settled_after}
use Rattle.ddf_recovery.proofs.CommittedReadied.{disks_rewritten}
use Rattle.ddf_seats.proofs.CommittedSeats.{seated_is}
use Rattle.ddf_seats.proofs.Lists.{get_within}
use Rattle.ddf_steps.proofs.Rewritten.{changed_own}

-- ---- both groups as one

-- the group with the seats of both, as far as its slots are concerned
abbrev together : GroupValue → GroupValue → GroupValue
together group other = record {
  config = group.config;
  seats = seats_in (both_disks (seated group) (seated other));
  absent = [];
  lagging = [];
  newest = group.newest;
}

-- A disk is the one of its seat.
abbrev IsOwnOf : List (Option Newest) → Seated → Type 0
IsOwnOf newest disk = seated_at newest disk.seat ≡ Some disk

own_seat : (newest : List (Option Newest)) (seat : Seat) (found : Option (Option Newest)) → slice_get newest seat.slot ≡ found → (disk : Seated) → seated_at newest seat ≡ Some disk → disk.seat ≡ seat
own_seat newest seat None at disk is = let none : None ≡ Some disk = sym (ap (option_and_then (λ one. option_and_then (seated_by seat) one)) at) ∙ is in absurd cc
own_seat newest seat (Some None) at disk is = let none : None ≡ Some disk = sym (ap (option_and_then (λ one. option_and_then (seated_by seat) one)) at) ∙ is in absurd cc
own_seat newest seat (Some (Some one)) at disk is = by (standing_copy one) (sym (ap (option_and_then (λ one. option_and_then (seated_by seat) one)) at) ∙ is)
  where
    by : (stands : Option DiskCopy) → option_map (λ copy. record { seat = seat; copy = copy; last = last_of one; mode = Change }) stands ≡ Some disk → disk.seat ≡ seat
    by None h = absurd cc
    by (Some copy) h = let same : record { seat = seat; copy = copy; last = last_of one; mode = Change } ≡ disk = cc in ap (λ (d : Seated). d.seat) (sym same)

all_own : (newest : List (Option Newest)) (seats : List Seat) → AllByRecursion (IsOwnOf newest) (filter_map (seated_at newest) seats)
all_own newest [] = tt
all_own newest (seat ∷ seats) = by (seated_at newest seat) refl (all_own newest seats)
  where
    by : (found : Option Seated) → seated_at newest seat ≡ found → AllByRecursion (IsOwnOf newest) (filter_map (seated_at newest) seats) → AllByRecursion (IsOwnOf newest) (cons_option found (filter_map (seated_at newest) seats))
    by None e rest = rest
    by (Some disk) e rest = (ap (seated_at newest) (own_seat newest seat (slice_get newest seat.slot) refl disk e) ∙ e, rest)

group_own : (group : GroupValue) → AllByRecursion (IsOwnOf group.newest) (seated group)
unfolding seated
group_own group = all_own group.newest group.seats

own_all : (newest : List (Option Newest)) (disks : List Seated) → AllByRecursion (IsOwnOf newest) disks → filter_map (seated_at newest) (seats_in disks) ≡ disks
own_all newest [] all = refl
own_all newest (disk ∷ disks) all = ap (λ (found : Option Seated). cons_option found (filter_map (seated_at newest) (seats_in disks))) all.0 ∙ ap (λ (l : List Seated). disk ∷ l) (own_all newest disks all.1)

module _ (timestamp : ℕ) (leaders : Before) (group other : GroupValue) (join : JoinValue) (is : IsJoinOf timestamp leaders group other join) where
  abbrev both : List Seated
  both = both_disks (seated group) (seated other)

  abbrev config : Configuration
  config = join.one.step.config

  abbrev whole : GroupValue
  whole = together group other

  -- the other's disks, by what the group knows of their slots
  other_own : AllByRecursion (IsOwnOf group.newest) (seated other)
  other_own = with_same (seated other) (group_own other) is.same_newest
    where
      with_same : (disks : List Seated) → AllByRecursion (IsOwnOf other.newest) disks → AllByRecursion (λ disk. slice_get group.newest disk.seat.slot ≡ slice_get other.newest disk.seat.slot) disks → AllByRecursion (IsOwnOf group.newest) disks
      with_same [] own same = tt
      with_same (disk ∷ disks) own same =
          (ap (option_and_then (λ one. option_and_then (seated_by disk.seat) one)) same.0 ∙ own.0, with_same disks own.1 same.1)

  seated_whole : seated whole ≡ both
  unfolding seated
  seated_whole = own_all group.newest both (both_have (IsOwnOf group.newest) (seated group) (seated other) (group_own group) other_own)

  rises : SlotsRise (seats_in (seated whole))
  rises =
      subst (λ (disks : List Seated). SlotsRise (seats_in disks)) (sym seated_whole)
      (both_rise (seated group) (seated other) (subst SlotsRise (sym is.is_settled.are_seated) is.is_settled.slots_rise) (subst SlotsRise (sym is.other_assembled.are_seated) is.other_assembled.slots_rise) is.are_apart)

  follows : Follows (seated whole) join.one
  follows = subst (λ (disks : List Seated). Follows disks join.one) (sym seated_whole) is.follows

  rewrites : AllByRecursion (IsRewritten (seated whole) config) join.one.step.disks
  rewrites =
      subst (λ (disks : List Seated). AllByRecursion (IsRewritten disks config) join.one.step.disks) (sym seated_whole)
      (subst (λ (step : Step). AllByRecursion (IsRewritten both config) step.disks) (sym is.step) (disks_rewritten timestamp leaders config both))

  -- a disk of the group is at its sequence number
  abbrev IsEarlier : Seated → Type 0
  IsEarlier disk = disk.copy.header.guid ≡ config.group → disk.copy.header.sequence ≡ group.config.sequence

  earlier : AllByRecursion IsEarlier both
  earlier =
      both_have IsEarlier (seated group) (seated other)
      (all_weaken (IsLevelIn group) IsEarlier (λ disk level here. level.same_sequence) (seated group) is.is_settled.are_level)
      (all_weaken (λ (disk : Seated). bytes_eq disk.copy.header.guid config.group ≡ false) IsEarlier
      (λ disk away here. absurd (false≢true (sym away ∙ ap (bytes_eq disk.copy.header.guid) (sym here) ∙ bytes_same disk.copy.header.guid))) (seated other) is.of_another)

  replace : AllByRecursion (MayReplace whole config) join.one.step.disks
  replace =
      all_weaken (IsRewritten (seated whole) config) (MayReplace whole config)
      (λ disk one. record {
        rewrites = one;
        newer = λ changes found is_found stands old alike newest.
            let own = changed_own config one.before (sym one.has_mode ∙ changes) in
            let before = all_at IsEarlier both one.place one.before earlier (ap (λ (disks : List Seated). slice_get disks one.place) (sym seated_whole) ∙ one.is_there) own in
            never_same disk.copy old one.before.copy group.config.sequence config.sequence alike before one.has_sequence is.rises;
      })
      join.one.step.disks rewrites

  module _ {D : Type 0} (state : BayState D) (holds : HoldsGroup state group) where
    abbrev sure : BayState D
    sure = synced state (slots_of join.joining)

    abbrev IsSure : Seated → Type 0
    IsSure disk = IsSettled sure.may_hold sure.held disk.seat.slot

    native_sure : AllByRecursion IsSure (seated group)
    native_sure = all_from IsSure (seated group) (λ k disk at l bytes left.
        let own = seated_is group k disk at in
        holds.are_settled own.place disk.seat (get_within group.seats disk.seat own.place own.is_seat) own.is_seat l bytes left.0)

    joining_sure : AllByRecursion IsSure (seated other)
    joining_sure = all_from IsSure (seated other) (λ k disk at l bytes left.
        let own = seated_is other k disk at in
        let there = ap (λ (seats : List Seat). slice_get seats own.place) is.joining ∙ own.is_seat in
        left.1 own.place (mapped_at (λ (seat : Seat). seat.slot) join.joining own.place disk.seat there))

    whole_held : HoldsGroup sure whole
    whole_held = record {
      are_held = λ slot newest at. let one = holds.are_held slot newest at in record { anchor = one.anchor; is_anchored = one.is_anchored; is_newest = one.is_newest };
      are_under = λ slot newest at anchor anchored. holds.are_under slot newest at anchor anchored;
      are_settled = λ place seat below at.
          all_at (λ (one : Seat). IsSettled sure.may_hold sure.held one.slot) (seats_in both) place seat
          (all_mapped (λ (one : Seat). IsSettled sure.may_hold sure.held one.slot) (λ (disk : Seated). disk.seat) both (both_have IsSure (seated group) (seated other) native_sure joining_sure)) at;
    }

    -- The join may be written to disks that hold the group and the other's copies.
    pub may_join : MayJoinDisks state join
    may_join = record {
      seat = seat_of sure whole whole_held join.one follows replace;
      may_change = may_change_all sure whole whole_held join.one follows replace;
      news = λ place disk at. (seat_is sure whole whole_held join.one follows replace place disk at).has_new;
    }

  -- They hold the group then that both have become.
  pub joined_holds : {D : Type 0} (old new : BayState D) → new.sizes ≡ old.sizes → HoldsGroup old group → (may : MayJoinDisks old join)
      → AreChanged (synced old (slots_of join.joining)) new (join_slots join) may.seat (join_updates join) (length (join_slots join)) → HoldsGroup new (group_joined group join)
  joined_holds old new same_sizes holds may changed =
      let after = after_holds whole join.one rises follows rewrites (synced old (slots_of join.joining)) new same_sizes (whole_held old holds) may.seat may.may_change may.news changed in
      record { are_held = after.are_held; are_under = after.are_under; are_settled = after.are_settled }

  -- It is settled.
  pub joined_settled : IsSettledGroup (group_joined group join)
  joined_settled =
      subst IsSettledGroup
      (ap (λ (absent : List ℕ). record (group_after whole join.one.step) { absent = absent }) (sym is.is_settled.none_absent)
      ∙ ap (λ (lagging : List ℕ). record (group_after whole join.one.step) { absent = group.absent; lagging = lagging }) (sym is.is_settled.none_lags))
      (settled_after whole join.one rises follows rewrites refl refl)

  -- Its updates lie on their slots.
  pub join_lies : (sizes : List ℕ) → HaveAnchors sizes group.newest → LieOnSlots sizes (join_slots join) (join_updates join)
  join_lies sizes have = step_lies sizes whole have join.one follows rises

  -- Each newest copy can be written again then.
  pub joined_anchored : (sizes : List ℕ) → HaveAnchors sizes group.newest → HaveAnchors sizes (group_joined group join).newest
  joined_anchored sizes have = after_anchored whole join.one rises follows rewrites sizes have
