-- A change that nothing refuses: copies can hold what it gives, and its step follows on the disks before it.
use Rattle.std.proofs.Common.{◌≡◌, ℕ, ◌+◌, ◌<◌, ◌≤◌, ◌^◌, Bool, true, false, cond, List, [], ◌∷◌, map, filter, fold, max, Some, None, sym, subst, arith}
use Rattle.std.proofs.Math.Nat.{max-le, min-le_right}
use Rattle.std.specs.List.{AllByRecursion}
use Rattle.ddf_lemmas.proofs.Lists.{all_both}
use Rattle.ddf_header.specs.declared.geometry.Geometry.{Geometry}
use Rattle.ddf_header.specs.declared.reading.Header.{Header}
use Rattle.ddf_header.specs.Geometry.{IsSound}
use Rattle.ddf_config.specs.declared.seat.Seat.{Seat}
use Rattle.ddf_config.specs.Configuration.{Configuration}
use Rattle.ddf_plan.specs.declared.change.Change.{Change}
use Rattle.ddf_plan.specs.Causes.{causes, steps_of}
use Rattle.ddf_plan.specs.Floors.{extents_refusal}
use Rattle.ddf_plan.specs.Refusals.{greatest_sequence}
use Rattle.ddf_copy.specs.Headers.{IsUnder, anchor_header}
use Rattle.ddf_copy.specs.Written.{CanBeCopy}
use Rattle.ddf_view.specs.Shows.{shows}
use Rattle.ddf_view.specs.View.{view_of}
use Rattle.ddf_rewrite.specs.Before.{Before, before}
use Rattle.ddf_rewrite.specs.Hold.{IsHoldable}
use Rattle.ddf_rewrite.proofs.Leaders.{same_members}
use Rattle.ddf_update.specs.declared.prepared.Mode.TheVariants as modes
use Rattle.ddf_update.specs.declared.prepared.Prepared.{Prepared}
use Rattle.ddf_rewrite.proofs.Premises.{is_sound}
use Rattle.ddf_seats.specs.declared.seated.Seated.{Seated}
use Rattle.ddf_seats.specs.Seated.{seats_in, views_in}
use Rattle.ddf_steps.specs.Steps.{Step, config_after, disks_after, in_order, mode_of, raised, rewritten, stays_in}
use Rattle.ddf_steps.specs.Full.{full_of, full_on, full_where_written}
use Rattle.ddf_seats.specs.Changing.{record_length, AreCopies, CanBeHeldOn, CanBeLed, HaveLength, IsOfGroup, SlotsRise}
use Rattle.ddf_steps.specs.Refusing.{most_members, room_refusal}
use Rattle.ddf_steps.specs.Asked.{CanBeAsked}
use Rattle.ddf_steps.specs.Ready.{ReadyStep}
use Rattle.ddf_steps.specs.Trying.{ArePrepared, CanTry, DoShow, Follows, HasPlace, StandOn, StandStill}
use Rattle.ddf_steps.proofs.Holdable.{change_holdable}
use Rattle.ddf_steps.proofs.OneLength.{HasRoom, can_try_all, has_room, room_on}
use Rattle.ddf_steps.proofs.Refused.{none_full_of}
use Rattle.ddf_steps.proofs.Rewritten.{changed_own, changed_places, places_under, rewritten_can, rewritten_group, rewritten_most, rewritten_shows, rewritten_under, staying_have}

-- ---- before the change

-- The copies of a group's disks can be written.
pub copies_are : (config : Configuration) (disks : List Seated) → AllByRecursion (IsOfGroup config) disks → AreCopies disks
copies_are config [] of_group = tt
copies_are config (disk ∷ disks) of_group = (of_group.0.is_copy, copies_are config disks of_group.1)

-- Where records have one length, none has room for more members than another.
most_within : (geometry : Geometry) (disks : List Seated) (most : ℕ) → IsSound geometry → AreCopies disks → HaveLength geometry.record_length disks → most ≤ geometry.max_members
    → fold (λ most disk. max most disk.copy.header.geometry.max_members) most disks ≤ geometry.max_members
most_within geometry [] most sound are same within = within
most_within geometry (disk ∷ disks) most sound are same within =
    let own : disk.copy.header.geometry.max_members ≡ geometry.max_members = same_members disk.copy.header.geometry geometry (is_sound disk.copy are.0) sound same.0 in
    let below : disk.copy.header.geometry.max_members ≤ geometry.max_members = omega (arith, own) in
    most_within geometry disks (max most disk.copy.header.geometry.max_members) sound are.1 same.1 (max-le within below)

pub raised_fits : (sequence steps : ℕ) → raised sequence steps < 2 ^ 32
raised_fits sequence steps =
    let below : raised sequence steps ≤ greatest_sequence + 1 = min-le_right (sequence + steps) (greatest_sequence + 1) in
    omega (arith, below)

-- Copies can hold what a change gives that nothing refuses.
pub next_held : (config : Configuration) (disks : List Seated) (change : Change) → AreCopies disks → CanBeHeldOn config disks → CanBeAsked change → causes (Some (most_members disks)) config change (seats_in disks) ≡ None
    → CanBeHeldOn (config_after config change) disks
next_held config disks change copies can_hold asked free = each disks copies can_hold
  where
    each : (some : List Seated) → AreCopies some
        → AllByRecursion (λ (disk : Seated). HaveLength (record_length disk) disks → IsHoldable disk.copy.header.geometry.max_members config) some
        → AllByRecursion (λ (disk : Seated). HaveLength (record_length disk) disks → IsHoldable disk.copy.header.geometry.max_members (config_after config change)) some
    each [] are holds = tt
    each (disk ∷ some) are holds = (
      λ same.
          let geometry = disk.copy.header.geometry in
          let within = most_within geometry disks 0 (is_sound disk.copy are.0) copies same (omega arith) in
          change_holdable geometry.max_members (most_members disks) within config (holds.0 same) change (seats_in disks) (raised config.sequence (steps_of change)) asked free (raised_fits config.sequence (steps_of change)),
      each some are.1 holds.1,
    )

-- ---- the step

-- A disk whose copy a change may be tried on, and whose tables have room for it.
record IsRoomy (leaders : Before) (next : Configuration) (timestamp : ℕ) (disk : Seated) : Type 0 where
  is_copy : CanBeCopy disk.copy
  can_try : CanTry leaders next disk
  room : full_where_written leaders next timestamp disk ≡ None

all_roomy : (leaders : Before) (next : Configuration) (timestamp : ℕ) (disks : List Seated) → AreCopies disks → AllByRecursion (CanTry leaders next) disks
    → AllByRecursion (λ disk. full_where_written leaders next timestamp disk ≡ None) disks → AllByRecursion (IsRoomy leaders next timestamp) disks
all_roomy leaders next timestamp [] are can_try room = tt
all_roomy leaders next timestamp (disk ∷ disks) are can_try room =
    (record { is_copy = are.0; can_try = can_try.0; room = room.0 }, all_roomy leaders next timestamp disks are.1 can_try.1 room.1)

module _ (leaders : Before) (config : Configuration) (timestamp : ℕ) where
  abbrev after : List Seated → List Seated
  after disks = map (rewritten leaders config timestamp) (filter (stays_in config) disks)

  seats_have : (P : Seat → Type 0) (disks : List Seated) → AllByRecursion P (seats_in disks) → AllByRecursion P (seats_in (after disks))
  seats_have P [] all = tt
  seats_have P (disk ∷ disks) all = by (stays_in config disk) (seats_have P disks all.1)
    where
      by : (b : Bool) → AllByRecursion P (seats_in (after disks)) → AllByRecursion P (seats_in (map (rewritten leaders config timestamp) (cond b (disk ∷ filter (stays_in config) disks) (filter (stays_in config) disks))))
      by true rest = (all.0, rest)
      by false rest = rest

  -- The slots of the disks that stay rise where those of all rise.
  staying_rise : (disks : List Seated) → SlotsRise (seats_in disks) → SlotsRise (seats_in (after disks))
  staying_rise [] rise = tt
  staying_rise (disk ∷ disks) rise = by (stays_in config disk) (seats_have (λ (other : Seat). disk.seat.slot < other.slot) disks rise.0) (staying_rise disks rise.1)
    where
      by : (b : Bool) → AllByRecursion (λ (other : Seat). disk.seat.slot < other.slot) (seats_in (after disks)) → SlotsRise (seats_in (after disks))
          → SlotsRise (seats_in (map (rewritten leaders config timestamp) (cond b (disk ∷ filter (stays_in config) disks) (filter (stays_in config) disks))))
      by true below rest = (below, rest)
      by false below rest = rest

-- The copies that a change gives can be written, where there is room for it.
pub made_copies : (timestamp : ℕ) → timestamp < 2 ^ 32 → (leaders : Before) (config : Configuration) (disks : List Seated)
    → AllByRecursion (CanTry leaders config) disks → AllByRecursion (λ disk. full_where_written leaders config timestamp disk ≡ None) disks
    → AreCopies (disks_after timestamp leaders config disks)
unfolding disks_after
made_copies timestamp time leaders config disks can room =
    staying_have leaders config timestamp time (λ (disk : Seated). CanTry leaders config disk × (full_where_written leaders config timestamp disk ≡ None)) (λ (disk : Seated). CanBeCopy disk.copy)
    (λ disk stays both. rewritten_can leaders config timestamp time disk both.0 (room_on leaders config timestamp disk stays both.1))
    disks (all_both (CanTry leaders config) (λ (disk : Seated). full_where_written leaders config timestamp disk ≡ None) disks can room)

-- Where nothing is refused for want of room, there is room.
pub room_for : (timestamp : ℕ) (config next : Configuration) (disks : List Seated) (change : Change) → next ≡ config_after config change → room_refusal timestamp config disks change ≡ None
    → HasRoom timestamp (before (views_in disks)) next disks
room_for timestamp config next disks change is free =
    let leaders = before (views_in disks) in
    subst (λ (c : Configuration). HasRoom timestamp leaders c disks) (sym is)
    (has_room timestamp leaders (config_after config change) disks
    (none_full_of (full_of timestamp leaders (config_after config change) disks) (extents_refusal config change (seats_in disks) (seats_in disks)) free))

-- The step to a configuration of the group that copies can hold follows, where there is room for it.
module _ (timestamp : ℕ) (time : timestamp < 2 ^ 32) (leaders : Before) (next : Configuration) (disks : List Seated)
    (are : AreCopies disks) (led : CanBeLed leaders disks) (held : CanBeHeldOn next disks)
    (room : HasRoom timestamp leaders next disks) where
  roomy : AllByRecursion (IsRoomy leaders next timestamp) disks
  roomy = all_roomy leaders next timestamp disks are (can_try_all leaders next disks are room.same led held) room.none

  own_room : (disk : Seated) → stays_in next disk ≡ true → IsRoomy leaders next timestamp disk → full_on leaders next timestamp disk ≡ None
  own_room disk stays is = room_on leaders next timestamp disk stays is.room

  after_of_group : AllByRecursion (IsOfGroup next) (after leaders next timestamp disks)
  after_of_group =
      staying_have leaders next timestamp time (IsRoomy leaders next timestamp) (IsOfGroup next)
      (λ disk stays is. record {
        is_copy = rewritten_can leaders next timestamp time disk is.can_try (own_room disk stays is);
        same_group = rewritten_group leaders next timestamp time disk;
      })
      disks roomy

  after_held : CanBeHeldOn next (after leaders next timestamp disks)
  after_held =
      staying_have leaders next timestamp time (IsRoomy leaders next timestamp)
      (λ (disk : Seated). HaveLength (record_length disk) (after leaders next timestamp disks) → IsHoldable disk.copy.header.geometry.max_members next)
      (λ disk stays is same. subst (λ (most : ℕ). IsHoldable most next) (sym (rewritten_most leaders next timestamp time disk)) is.can_try.holdable)
      disks roomy

  after_shows : DoShow next (after leaders next timestamp disks)
  after_shows =
      staying_have leaders next timestamp time (IsRoomy leaders next timestamp) (λ (disk : Seated). shows next (view_of disk.copy) ≡ true)
      (λ disk stays is. rewritten_shows leaders next timestamp time disk is.can_try (own_room disk stays is))
      disks roomy

  -- A copy stands where the one before it does, under the same anchor where that one is of the group.
  still_under : (disk : Seated) → stays_in next disk ≡ true → IsRoomy leaders next timestamp disk → mode_of next disk ≡ modes.Change → (size : ℕ) (anchor : Header) → IsUnder size anchor disk.copy → IsUnder size anchor (rewritten leaders next timestamp disk).copy
  still_under disk stays is changes size anchor under =
      rewritten_under leaders next timestamp time disk is.can_try (own_room disk stays is) (sym (changed_own next disk changes)) size anchor under

  own_under : (disk : Seated) → stays_in next disk ≡ true → IsRoomy leaders next timestamp disk → (size : ℕ) (anchor : Header) → IsUnder size anchor disk.copy
      → IsUnder size (anchor_header (rewritten leaders next timestamp disk).copy) (rewritten leaders next timestamp disk).copy
  own_under disk stays is size anchor under =
      places_under size anchor disk.copy (rewritten leaders next timestamp disk).copy under (rewritten_can leaders next timestamp time disk is.can_try (own_room disk stays is)) (changed_places disk.copy leaders next timestamp)

  after_places : (sizes : List ℕ) → AllByRecursion (HasPlace sizes) disks → AllByRecursion (HasPlace sizes) (after leaders next timestamp disks)
  after_places sizes places =
      staying_have leaders next timestamp time (λ (disk : Seated). IsRoomy leaders next timestamp disk × HasPlace sizes disk) (HasPlace sizes)
      (λ disk stays is. record { there = is.1.there; anchor = anchor_header (rewritten leaders next timestamp disk).copy; under = own_under disk stays is.0 _ is.1.anchor is.1.under })
      disks (all_both (IsRoomy leaders next timestamp) (HasPlace sizes) disks roomy places)

  after_stand : (slot size : ℕ) (anchor : Header) → StandOn slot size anchor disks → StandStill slot size anchor (after leaders next timestamp disks)
  after_stand slot size anchor stand =
      staying_have leaders next timestamp time (λ (disk : Seated). IsRoomy leaders next timestamp disk × (disk.seat.slot ≡ slot → IsUnder size anchor disk.copy)) (λ (disk : Seated). disk.seat.slot ≡ slot → disk.mode ≡ modes.Change → IsUnder size anchor disk.copy)
      (λ disk stays is at changes. still_under disk stays is.0 changes size anchor (is.1 at))
      disks (all_both (IsRoomy leaders next timestamp) (λ (disk : Seated). disk.seat.slot ≡ slot → IsUnder size anchor disk.copy) disks roomy stand)

  made_follows : (updates : List Prepared) → ArePrepared (in_order (disks_after timestamp leaders next disks)) updates
      → Follows disks (record { step = record { config = next; disks = disks_after timestamp leaders next disks }; updates = updates })
  unfolding disks_after
  made_follows updates prepared = record {
    can_be_changed = record { of_group = after_of_group; can_hold = after_held };
    show = after_shows;
    are_prepared = prepared;
    slots_rise = λ rise. staying_rise leaders next timestamp disks rise;
    have_places = after_places;
    stand_on = after_stand;
  }

  -- The step that was made of it follows.
  pub step_follows : (one : ReadyStep) → one.step ≡ record { config = next; disks = disks_after timestamp leaders next disks } → ArePrepared (in_order one.step.disks) one.updates → Follows disks one
  step_follows one is prepared =
      subst (λ (step : Step). ArePrepared (in_order step.disks) one.updates → Follows disks (record { step = step; updates = one.updates })) (sym is) (made_follows one.updates) prepared
