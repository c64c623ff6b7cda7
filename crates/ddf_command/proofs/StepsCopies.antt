-- The copies that the steps of a group write: each is of the group, and names the disk that the copy of its seat named before.
use Rattle.std.proofs.Common.{◌≡◌, ℕ, Bool, true, false, List, map, filter, Option, Some, None, Ok, if◌then◌else◌, refl, ap, ◌∙◌, subst}
use Rattle.std.specs.Prelude.{slice_get}
use Rattle.ddf_lemmas.proofs.Lists.{filter_get, in_map}
use Rattle.ddf_config.specs.Configuration.{Configuration}
use Rattle.ddf_copy.specs.declared.copy.DiskCopy.{DiskCopy}
use Rattle.ddf_plan.specs.declared.change.Change.{Change}
use Rattle.ddf_view.specs.View.{View, view_of}
use Rattle.ddf_view.specs.Shows.{shows}
use Rattle.ddf_view.proofs.Agreement.{shown_from}
use Rattle.ddf_rewrite.specs.Before.{Before, before}
use Rattle.ddf_rewrite.specs.Copies.{changed_copy, recovered_copy}
use Rattle.ddf_history.specs.Groups.{disk_of}
use Rattle.ddf_seats.specs.declared.seated.Seated.{Seated}
use Rattle.ddf_seats.specs.Group.{GroupValue}
use Rattle.ddf_recovery.specs.Ready.{readied}
use Rattle.ddf_recovery.specs.Recovery.{config_lost, config_recovered, disks_recovered, lost_step, mended, mended_copy, mended_or_kept, mending_step, recovery_of}
use Rattle.ddf_seats.specs.Leading.{lags, leading, some}
use Rattle.ddf_seats.specs.Seated.{seated, views_in, levelled}
use Rattle.ddf_steps.specs.Steps.{Step, config_after, disks_after, rewritten, stays_in, step_of}
use Rattle.ddf_steps.proofs.Rewritten.{closed_view}
use Rattle.ddf_history_steps.proofs.StepMembers.{mended_names, rewritten_names}
use Rattle.ddf_group_commands.specs.Writing.{IsWrittenOn}
use Rattle.ddf_history_steps.proofs.AllSteps.{AllSteps, readied_all}
use Rattle.ddf_history_steps.proofs.MendingSeats.{recovered_group}

-- ---- copies

-- A changed copy is of the configuration's group.
changed_group : (old : DiskCopy) (leaders : Before) (config : Configuration) (timestamp : ℕ) → (view_of (changed_copy old leaders config timestamp)).group ≡ config.group
unfolding changed_copy view_of
changed_group old leaders config timestamp = refl

-- ---- disks

-- A disk has a copy of the group, and is known by it as by the copy of a seat on its slot.
pub record IsKnown (group : List ℕ) (seats : List Seated) (disk : Seated) : Type 0 where
  pub of_group : (view_of disk.copy).group ≡ group
  pub place : ℕ
  pub before : Seated
  pub is_there : slice_get seats place ≡ Some before
  pub same_slot : before.seat.slot ≡ disk.seat.slot
  pub same_disk : disk_of (view_of disk.copy) ≡ disk_of (view_of before.copy)

-- A disk is known as by the copy of a seat on its slot.
record IsOfSeat (seats : List Seated) (disk : Seated) : Type 0 where
  place : ℕ
  before : Seated
  is_there : slice_get seats place ≡ Some before
  same_slot : before.seat.slot ≡ disk.seat.slot
  same_disk : disk_of (view_of disk.copy) ≡ disk_of (view_of before.copy)

module _ (group : List ℕ) (seats : List Seated) where
  abbrev AreKnown : List Seated → Type 0
  AreKnown disks = (place : ℕ) (disk : Seated) → slice_get disks place ≡ Some disk → IsKnown group seats disk

  abbrev AreOfSeats : List Seated → Type 0
  AreOfSeats disks = (place : ℕ) (disk : Seated) → slice_get disks place ≡ Some disk → IsOfSeat seats disk

  known_of_seat : (disk : Seated) → IsKnown group seats disk → IsOfSeat seats disk
  known_of_seat disk known = record { place = known.place; before = known.before; is_there = known.is_there; same_slot = known.same_slot; same_disk = known.same_disk }

  -- A disk with a new copy of the group that names the same disk is known.
  renewed : (disk next : Seated) → IsOfSeat seats disk → disk.seat.slot ≡ next.seat.slot → (view_of next.copy).group ≡ group
      → disk_of (view_of next.copy) ≡ disk_of (view_of disk.copy) → IsKnown group seats next
  renewed disk next from slot ours names = record {
    of_group = ours;
    place = from.place;
    before = from.before;
    is_there = from.is_there;
    same_slot = from.same_slot ∙ slot;
    same_disk = names ∙ from.same_disk;
  }

  mapped_known : (f : Seated → Seated) (disks : List Seated) → ((disk : Seated) → IsOfSeat seats disk → IsKnown group seats (f disk)) → AreOfSeats disks → AreKnown (map f disks)
  mapped_known f disks keeps from place disk at =
      let one = in_map f disks place disk at in
      subst (IsKnown group seats) one.2 (keeps one.0 (from place one.0 one.1))

  mapped_of : (f : Seated → Seated) (disks : List Seated) → ((disk : Seated) → IsOfSeat seats disk → IsOfSeat seats (f disk)) → AreOfSeats disks → AreOfSeats (map f disks)
  mapped_of f disks keeps from place disk at =
      let one = in_map f disks place disk at in
      subst (IsOfSeat seats) one.2 (keeps one.0 (from place one.0 one.1))

  filtered_of : (p : Seated → Bool) (disks : List Seated) → AreOfSeats disks → AreOfSeats (filter p disks)
  filtered_of p disks from place disk at = let there = filter_get p disks place disk at in from there.0 disk there.1

  levelled_of : (disk : Seated) → IsOfSeat seats disk → IsOfSeat seats (levelled disk)
  levelled_of disk from = record { place = from.place; before = from.before; is_there = from.is_there; same_slot = from.same_slot; same_disk = from.same_disk }

  are_of : (disks : List Seated) → AreKnown disks → AreOfSeats disks
  are_of disks known place disk at = known_of_seat disk (known place disk at)

  -- ---- one step

  module _ (leaders : Before) (config : Configuration) (timestamp : ℕ) (same : config.group ≡ group) where
    rewritten_known : (disk : Seated) → IsOfSeat seats disk → IsKnown group seats (rewritten leaders config timestamp disk)
    rewritten_known disk from =
        renewed disk (rewritten leaders config timestamp disk) from refl
        (ap (λ (view : View). view.group) (closed_view (changed_copy disk.copy leaders config timestamp)) ∙ changed_group disk.copy leaders config timestamp ∙ same)
        (rewritten_names leaders config timestamp disk)

    after_known : (disks : List Seated) → AreOfSeats disks → AreKnown (disks_after timestamp leaders config disks)
    unfolding disks_after
    after_known disks from = mapped_known (rewritten leaders config timestamp) (filter (stays_in config) disks) rewritten_known (filtered_of (stays_in config) disks from)

    mended_known : (disk : Seated) → IsOfSeat seats disk → IsKnown group seats (mended leaders config timestamp disk)
    mended_known disk from =
        renewed disk (mended leaders config timestamp disk) from refl
        (ap (λ (view : View). view.group) (closed_view (mended_copy leaders config timestamp disk.copy)) ∙ by (shows config (view_of disk.copy)) refl)
        (mended_names leaders config timestamp disk)
      where
        by : (b : Bool) → shows config (view_of disk.copy) ≡ b → (view_of (if b then disk.copy else recovered_copy disk.copy leaders config timestamp)).group ≡ group
        by true shown = (shown_from config (view_of disk.copy) shown).group ∙ same
        by false shown = recovered_group disk.copy leaders config timestamp ∙ same

-- ---- the recovery, and the steps behind it

module _ (found : GroupValue) (timestamp : ℕ) where
  abbrev group : List ℕ
  group = found.config.group

  abbrev disks : List Seated
  disks = seated found

  disks_of : AreOfSeats group disks disks
  disks_of place disk at = record { place = place; before = disk; is_there = at; same_slot = refl; same_disk = refl }

  lost_known : AreKnown group disks (lost_step timestamp found).disks
  lost_known = after_known group disks (leading found) (config_lost found) timestamp refl disks disks_of

  recovery_known : (step : Step) → recovery_of timestamp found ≡ Some step → AreKnown group disks step.disks
  unfolding recovery_of
  recovery_known step is = by (some found.absent) (some found.lagging) is
    where
      by : (absent lagging : Bool)
          → ◌≡◌ {A = Option Step} (if absent then Some (lost_step timestamp found) else if lagging then Some (mending_step timestamp found) else None) (Some step)
          → AreKnown group disks step.disks
      by true lagging is = let same : lost_step timestamp found ≡ step = cc in subst (λ (one : Step). AreKnown group disks one.disks) same lost_known
      by false true is =
          let same : mending_step timestamp found ≡ step = cc in
          subst (λ (one : Step). AreKnown group disks one.disks) same
          (mapped_known group disks (mended (leading found) found.config timestamp) (filter (lags found) disks) (mended_known group disks (leading found) found.config timestamp refl)
          (filtered_of group disks (lags found) disks disks_of))
      by false false is = absurd cc

  behind_of : AreOfSeats group disks (disks_recovered timestamp found)
  unfolding disks_recovered
  behind_of = by (some found.absent)
    where
      kept_of : (disk : Seated) → IsOfSeat disks disk → IsOfSeat disks (mended_or_kept timestamp found disk)
      kept_of disk from = by_lag (lags found disk)
        where
          by_lag : (b : Bool) → IsOfSeat disks (if b then levelled (mended (leading found) found.config timestamp disk) else disk)
          by_lag true =
              levelled_of group disks (mended (leading found) found.config timestamp disk)
              (known_of_seat group disks (mended (leading found) found.config timestamp disk) (mended_known group disks (leading found) found.config timestamp refl disk from))
          by_lag false = from

      by : (b : Bool) → AreOfSeats group disks (if b then map levelled (lost_step timestamp found).disks else map (mended_or_kept timestamp found) disks)
      by true = mapped_of group disks levelled (lost_step timestamp found).disks (levelled_of group disks) (are_of group disks (lost_step timestamp found).disks lost_known)
      by false = mapped_of group disks (mended_or_kept timestamp found) disks kept_of disks_of

  -- The configuration behind it is of the group.
  same_group : (config_recovered found).group ≡ group
  unfolding config_recovered
  same_group = by (some found.absent)
    where
      by : (b : Bool) → (if b then config_lost found else found.config).group ≡ group
      by true = refl
      by false = refl

  module _ (changes : List Change) (steps : List Step) (are : readied found changes timestamp ≡ Ok steps) where
    steps_known : AllSteps (λ step. AreKnown group disks step.disks) steps
    steps_known = readied_all (λ step. AreKnown group disks step.disks) (λ config seats. (config.group ≡ group) × AreOfSeats group disks seats) timestamp
        (λ config seats change from.
        let here = after_known group disks (before (views_in seats)) (config_after config change) timestamp from.0 seats from.1 in (
          here,
          (
            from.0,
            mapped_of group disks levelled (step_of timestamp config seats change).disks (levelled_of group disks)
                (are_of group disks (step_of timestamp config seats change).disks here),
          ),
        ))
        found (λ own. recovery_known) (λ own. (same_group, behind_of)) changes steps are

    -- Each disk that the steps write is so.
    pub written_known : (slot : ℕ) (on : IsWrittenOn steps slot) → IsKnown group disks on.disk
    written_known slot on = steps_known on.number on.step on.is_step on.place on.disk on.is_disk
