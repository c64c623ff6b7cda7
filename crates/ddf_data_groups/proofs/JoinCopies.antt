-- The copies that the steps of an import write: each is of the group that is joined, and names the disk that the copy of a seat of either group named before.
use Rattle.std.proofs.Common.{◌≡◌, ◌∙◌, ℕ, zero, suc, ◌++◌, Bool, true, false, List, [], ◌∷◌, map, filter, Option, Some, None, if◌then◌else◌, refl, ap, subst}
use Rattle.std.specs.Prelude.{option_to_list, slice_get}
use Rattle.ddf_lemmas.proofs.Lists.{all_from, filter_get, first_get, in_map, in_second}
use Rattle.ddf_config.specs.Configuration.{Configuration}
use Rattle.ddf_copy.specs.declared.copy.DiskCopy.{DiskCopy}
use Rattle.ddf_view.specs.View.{View, view_of}
use Rattle.ddf_view.specs.Shows.{shows}
use Rattle.ddf_view.proofs.Agreement.{shown_from}
use Rattle.ddf_rewrite.specs.Before.{Before}
use Rattle.ddf_rewrite.specs.Copies.{changed_copy, recovered_copy}
use Rattle.ddf_rewrite.proofs.Lists.{all_at}
use Rattle.ddf_history.specs.Groups.{disk_of}
use Rattle.ddf_seats.specs.declared.seated.Seated.{Seated}
use Rattle.ddf_seats.specs.Group.{GroupValue}
use Rattle.ddf_seats.specs.Leading.{lags, leading, some}
use Rattle.ddf_seats.specs.Seated.{levelled, seated}
use Rattle.ddf_recovery.specs.Recovery.{config_lost, config_recovered, disks_recovered, lost_step, mended, mended_copy, mended_or_kept, mending_step, recovery_of}
use Rattle.ddf_steps.specs.Steps.{Step, disks_after, rewritten, stays_in}
use Rattle.ddf_steps.proofs.Rewritten.{closed_view}
use Rattle.ddf_joining.specs.Joining.{join_config, join_disks, join_leaders, join_step, joining_of}
use Rattle.ddf_joining.proofs.BothSides.{both_have}
use Rattle.ddf_history_steps.proofs.MendingSeats.{recovered_group}
use Rattle.ddf_history_steps.proofs.StepMembers.{mended_names, rewritten_names}
use Rattle.ddf_group_commands.specs.Writing.{IsWrittenOn}
use Rattle.ddf_import_command.specs.Import.{import_steps}

-- ---- copies

-- A changed copy is of the configuration's group.
changed_group : (old : DiskCopy) (leaders : Before) (config : Configuration) (timestamp : ℕ) → (view_of (changed_copy old leaders config timestamp)).group ≡ config.group
unfolding changed_copy view_of
changed_group old leaders config timestamp = refl

-- ---- disks

-- A disk has a copy of the group, and is known by it as by the copy of a seat on its slot.
pub record IsKnown (group : List ℕ) (seats : List Seated) (disk : Seated) : Type 0 where
  pub of_group : (view_of disk.copy).group ≡ group
  pub place : ℕ
  pub before : Seated
  pub is_there : slice_get seats place ≡ Some before
  pub same_slot : before.seat.slot ≡ disk.seat.slot
  pub same_disk : disk_of (view_of disk.copy) ≡ disk_of (view_of before.copy)

-- A disk is known as by the copy of a seat on its slot.
record IsOfSeat (seats : List Seated) (disk : Seated) : Type 0 where
  place : ℕ
  before : Seated
  is_there : slice_get seats place ≡ Some before
  same_slot : before.seat.slot ≡ disk.seat.slot
  same_disk : disk_of (view_of disk.copy) ≡ disk_of (view_of before.copy)

module _ (group : List ℕ) (seats : List Seated) where
  abbrev AreKnown : List Seated → Type 0
  AreKnown disks = (place : ℕ) (disk : Seated) → slice_get disks place ≡ Some disk → IsKnown group seats disk

  abbrev AreOfSeats : List Seated → Type 0
  AreOfSeats disks = (place : ℕ) (disk : Seated) → slice_get disks place ≡ Some disk → IsOfSeat seats disk

  known_of_seat : (disk : Seated) → IsKnown group seats disk → IsOfSeat seats disk
  known_of_seat disk known = record { place = known.place; before = known.before; is_there = known.is_there; same_slot = known.same_slot; same_disk = known.same_disk }

  -- A disk with a new copy of the group that names the same disk is known.
  renewed : (disk next : Seated) → IsOfSeat seats disk → disk.seat.slot ≡ next.seat.slot → (view_of next.copy).group ≡ group
      → disk_of (view_of next.copy) ≡ disk_of (view_of disk.copy) → IsKnown group seats next
  renewed disk next from slot ours names = record {
    of_group = ours;
    place = from.place;
    before = from.before;
    is_there = from.is_there;
    same_slot = from.same_slot ∙ slot;
    same_disk = names ∙ from.same_disk;
  }

  mapped_known : (f : Seated → Seated) (disks : List Seated) → ((disk : Seated) → IsOfSeat seats disk → IsKnown group seats (f disk)) → AreOfSeats disks → AreKnown (map f disks)
  mapped_known f disks keeps from place disk at =
      let one = in_map f disks place disk at in
      subst (IsKnown group seats) one.2 (keeps one.0 (from place one.0 one.1))

  mapped_of : (f : Seated → Seated) (disks : List Seated) → ((disk : Seated) → IsOfSeat seats disk → IsOfSeat seats (f disk)) → AreOfSeats disks → AreOfSeats (map f disks)
  mapped_of f disks keeps from place disk at =
      let one = in_map f disks place disk at in
      subst (IsOfSeat seats) one.2 (keeps one.0 (from place one.0 one.1))

  filtered_of : (p : Seated → Bool) (disks : List Seated) → AreOfSeats disks → AreOfSeats (filter p disks)
  filtered_of p disks from place disk at = let there = filter_get p disks place disk at in from there.0 disk there.1

  levelled_of : (disk : Seated) → IsOfSeat seats disk → IsOfSeat seats (levelled disk)
  levelled_of disk from = record { place = from.place; before = from.before; is_there = from.is_there; same_slot = from.same_slot; same_disk = from.same_disk }

  are_of : (disks : List Seated) → AreKnown disks → AreOfSeats disks
  are_of disks known place disk at = known_of_seat disk (known place disk at)

  -- ---- one step

  module _ (leaders : Before) (config : Configuration) (timestamp : ℕ) (same : config.group ≡ group) where
    rewritten_known : (disk : Seated) → IsOfSeat seats disk → IsKnown group seats (rewritten leaders config timestamp disk)
    rewritten_known disk from =
        renewed disk (rewritten leaders config timestamp disk) from refl
        (ap (λ (view : View). view.group) (closed_view (changed_copy disk.copy leaders config timestamp)) ∙ changed_group disk.copy leaders config timestamp ∙ same)
        (rewritten_names leaders config timestamp disk)

    after_known : (disks : List Seated) → AreOfSeats disks → AreKnown (disks_after timestamp leaders config disks)
    unfolding disks_after
    after_known disks from = mapped_known (rewritten leaders config timestamp) (filter (stays_in config) disks) rewritten_known (filtered_of (stays_in config) disks from)

    mended_known : (disk : Seated) → IsOfSeat seats disk → IsKnown group seats (mended leaders config timestamp disk)
    mended_known disk from =
        renewed disk (mended leaders config timestamp disk) from refl
        (ap (λ (view : View). view.group) (closed_view (mended_copy leaders config timestamp disk.copy)) ∙ by (shows config (view_of disk.copy)) refl)
        (mended_names leaders config timestamp disk)
      where
        by : (b : Bool) → shows config (view_of disk.copy) ≡ b → (view_of (if b then disk.copy else recovered_copy disk.copy leaders config timestamp)).group ≡ group
        by true shown = (shown_from config (view_of disk.copy) shown).group ∙ same
        by false shown = recovered_group disk.copy leaders config timestamp ∙ same

-- ---- the steps of an import

module _ (timestamp : ℕ) (native other : GroupValue) where
  abbrev group : List ℕ
  group = native.config.group

  -- the disks of both groups
  abbrev of_both : List Seated
  of_both = seated native ++ seated other

  native_of : AreOfSeats group of_both (seated native)
  native_of place disk at = record { place = place; before = disk; is_there = first_get (seated native) (seated other) place disk at; same_slot = refl; same_disk = refl }

  other_of : AreOfSeats group of_both (seated other)
  other_of place disk at = let there = in_second (seated native) (seated other) place disk at in record { place = there.0; before = disk; is_there = there.1; same_slot = refl; same_disk = refl }

  lost_known : AreKnown group of_both (lost_step timestamp native).disks
  lost_known = after_known group of_both (leading native) (config_lost native) timestamp refl (seated native) native_of

  recovery_known : (step : Step) → recovery_of timestamp native ≡ Some step → AreKnown group of_both step.disks
  unfolding recovery_of
  recovery_known step is = by (some native.absent) (some native.lagging) is
    where
      by : (absent lagging : Bool)
          → ◌≡◌ {A = Option Step} (if absent then Some (lost_step timestamp native) else if lagging then Some (mending_step timestamp native) else None) (Some step)
          → AreKnown group of_both step.disks
      by true lagging is = let same : lost_step timestamp native ≡ step = cc in subst (λ (one : Step). AreKnown group of_both one.disks) same lost_known
      by false true is =
          let same : mending_step timestamp native ≡ step = cc in
          subst (λ (one : Step). AreKnown group of_both one.disks) same
          (mapped_known group of_both (mended (leading native) native.config timestamp) (filter (lags native) (seated native)) (mended_known group of_both (leading native) native.config timestamp refl)
          (filtered_of group of_both (lags native) (seated native) native_of))
      by false false is = absurd cc

  behind_of : AreOfSeats group of_both (disks_recovered timestamp native)
  unfolding disks_recovered
  behind_of = by (some native.absent)
    where
      kept_of : (disk : Seated) → IsOfSeat of_both disk → IsOfSeat of_both (mended_or_kept timestamp native disk)
      kept_of disk from = by_lag (lags native disk)
        where
          by_lag : (b : Bool) → IsOfSeat of_both (if b then levelled (mended (leading native) native.config timestamp disk) else disk)
          by_lag true =
              levelled_of group of_both (mended (leading native) native.config timestamp disk)
              (known_of_seat group of_both (mended (leading native) native.config timestamp disk) (mended_known group of_both (leading native) native.config timestamp refl disk from))
          by_lag false = from

      by : (b : Bool) → AreOfSeats group of_both (if b then map levelled (lost_step timestamp native).disks else map (mended_or_kept timestamp native) (seated native))
      by true = mapped_of group of_both levelled (lost_step timestamp native).disks (levelled_of group of_both) (are_of group of_both (lost_step timestamp native).disks lost_known)
      by false = mapped_of group of_both (mended_or_kept timestamp native) (seated native) kept_of native_of

  same_group : (join_config native other).group ≡ group
  unfolding config_recovered
  same_group = by (some native.absent)
    where
      by : (b : Bool) → (if b then config_lost native else native.config).group ≡ group
      by true = refl
      by false = refl

  join_known : AreKnown group of_both (join_step timestamp native other).disks
  unfolding join_step
  join_known =
      after_known group of_both (join_leaders timestamp native other) (join_config native other) timestamp same_group (join_disks timestamp native other) (λ place disk at.
      all_at (IsOfSeat of_both) (join_disks timestamp native other) place disk
      (both_have (IsOfSeat of_both) (disks_recovered timestamp native) (seated other) (all_from (IsOfSeat of_both) (disks_recovered timestamp native) behind_of)
      (all_from (IsOfSeat of_both) (seated other) other_of)) at)

  steps_known : (number : ℕ) (step : Step) → slice_get (import_steps (joining_of timestamp native other)) number ≡ Some step → AreKnown group of_both step.disks
  steps_known number step at = by (recovery_of timestamp native) refl number at
    where
      last : (k : ℕ) → slice_get (join_step timestamp native other ∷ []) k ≡ Some step → AreKnown group of_both step.disks
      last zero here = let same : join_step timestamp native other ≡ step = cc in subst (λ (one : Step). AreKnown group of_both one.disks) same join_known
      last (suc k) none = absurd cc

      by : (next : Option Step) → recovery_of timestamp native ≡ next → (k : ℕ) → slice_get (option_to_list next ++ join_step timestamp native other ∷ []) k ≡ Some step
          → AreKnown group of_both step.disks
      by None is k there = last k there
      by (Some one) is zero there = let same : one ≡ step = cc in recovery_known step (is ∙ ap Some same)
      by (Some one) is (suc k) there = last k there

  -- Each disk that the steps write is so.
  pub import_known : (slot : ℕ) (on : IsWrittenOn (import_steps (joining_of timestamp native other)) slot) → IsKnown native.config.group (seated native ++ seated other) on.disk
  import_known slot on = steps_known on.number on.step on.is_step on.place on.disk on.is_disk
