-- Where a group is settled there is nothing to be recovered.
use Rattle.std.proofs.Common.{◌≡◌, ℕ, ◌+◌, ◌≤◌, Bool, true, false, not, ◌&&◌, ◌||◌, nat_le, nat_lt, List, [], ◌∷◌, map, Option, None, Err, refl, sym, ap, ◌∙◌, arith, if◌then◌else◌}
use Rattle.std.proofs.lemmas.Bool.{leb-false, or_parts}
use Rattle.std.specs.List.{AllByRecursion, list_any}
use Rattle.std.specs.Str.{bytes_eq}
use Rattle.ddf_lemmas.proofs.Lists.{all_weaken, bytes_same}
use Rattle.ddf_config.specs.declared.refusal.Refusal.TheVariants.{Unsettled}
use Rattle.ddf_config.specs.Configuration.{Configuration}
use Rattle.ddf_plan.specs.declared.change.Change.{Change}
use Rattle.ddf_plan.specs.Refusals.{greatest_sequence}
use Rattle.ddf_view.specs.Reading.{are_noted}
use Rattle.ddf_view.specs.Shows.{shows}
use Rattle.ddf_view.specs.View.{view_of}
use Rattle.ddf_copy.specs.declared.newest_copy.Newest.{Newest}
use Rattle.ddf_group.specs.declared.shown.Shown.{Shown}
use Rattle.ddf_group.specs.Taking.{shows_untaken}
use Rattle.ddf_group.specs.Shown.{shown_of}
use Rattle.ddf_seats.specs.declared.fault.GroupFault.TheVariants.{Refused}
use Rattle.ddf_seats.specs.declared.seated.Seated.{Seated}
use Rattle.ddf_seats.specs.Group.{GroupValue}
use Rattle.ddf_seats.specs.Seated.{seated, levelled}
use Rattle.ddf_recovery.specs.Ready.{readied, with_recovery}
use Rattle.ddf_steps.specs.Ready.{steps_from, unless_spent}
use Rattle.ddf_recovery.specs.Recovery.{config_lost, config_recovered, disks_recovered, full_of_recovery, loss_spent, lost_step, mended_or_kept, recovery_of}
use Rattle.ddf_seats.specs.Leading.{leading_views, some}
use Rattle.ddf_recovery.specs.Stray.{holds_only_record, is_ahead, is_of_another, is_stale, is_stray, most_behind}
use Rattle.ddf_assembly.specs.Settled.{IsLevelIn, IsSettledGroup}
use Rattle.ddf_steps.specs.Trying.{DoShow}
use Rattle.ddf_seats.specs.Changing.{IsOfGroup}
use Rattle.ddf_assembly.proofs.SettledSeats.{same_sequence}

-- ---- disks that recovery can't write

-- A disk of the group has a copy that is no later than the configuration, and shows it where it is of its sequence number.
pub record IsOwn (config : Configuration) (disk : Seated) : Type 0 where
  pub no_later : disk.copy.header.guid ≡ config.group → disk.copy.header.sequence ≤ config.sequence
  pub is_shown : disk.copy.header.guid ≡ config.group → disk.copy.header.sequence ≡ config.sequence → shows config (view_of disk.copy) ≡ true

-- ---- a disk of the group that shows the configuration is none of them

module _ (config : Configuration) (disk : Seated) (is_shown : shows config (view_of disk.copy) ≡ true) where
  and_false : (b : Bool) → (b && false) ≡ false
  and_false true = refl
  and_false false = refl

  not_ahead : is_ahead config disk ≡ false
  not_ahead = rw is_shown (and_false (bytes_eq disk.copy.header.guid config.group && nat_le config.sequence disk.copy.header.sequence))

  not_of_another : (slots : List Shown) → IsOfGroup config disk → is_of_another slots config disk ≡ false
  not_of_another slots of_group =
      ap (λ (guid : List ℕ). not (bytes_eq guid config.group) && shows_untaken slots config.group disk.seat.slot) of_group.same_group
      ∙ ap (λ (b : Bool). not b && shows_untaken slots config.group disk.seat.slot) (bytes_same config.group)

  not_only_record : (newest : List (Option Newest)) → holds_only_record newest config disk ≡ false
  not_only_record newest = rw is_shown refl

  not_stale : (noted : Bool) → is_stale noted config disk ≡ false
  not_stale noted =
      let same = same_sequence config disk.copy is_shown in
      let none : nat_lt (disk.copy.header.sequence + most_behind config disk) config.sequence ≡ false = not_less disk.copy.header.sequence (most_behind config disk) config.sequence same in
      ap (λ (b : Bool). noted && bytes_eq disk.copy.header.guid config.group && b) none ∙ and_false (noted && bytes_eq disk.copy.header.guid config.group)
    where
      not_less : (own more other : ℕ) → own ≡ other → nat_lt (own + more) other ≡ false
      not_less own more other same = grind arith

  not_stray : (slots : List Shown) (newest : List (Option Newest)) (noted : Bool) → IsOfGroup config disk → is_stray slots newest noted config disk ≡ false
  not_stray slots newest noted of_group = rw (not_ahead, not_of_another slots of_group, not_only_record newest, not_stale noted) refl

pub none_stray : (slots : List Shown) (newest : List (Option Newest)) (noted : Bool) (config : Configuration) (disks : List Seated) → AllByRecursion (IsOfGroup config) disks → DoShow config disks → list_any (is_stray slots newest noted config) disks ≡ false
none_stray slots newest noted config [] of_group show = refl
none_stray slots newest noted config (disk ∷ disks) of_group show =
    ap (λ (b : Bool). b || list_any (is_stray slots newest noted config) disks) (not_stray config disk show.0 slots newest noted of_group.0)
    ∙ none_stray slots newest noted config disks of_group.1 show.1

-- ---- a disk that is none of them

own_from : (config : Configuration) (disk : Seated) → is_ahead config disk ≡ false → IsOwn config disk
own_from config disk h = by (bytes_eq disk.copy.header.guid config.group) refl (nat_le config.sequence disk.copy.header.sequence) refl (shows config (view_of disk.copy)) refl h
  where
    not_own : bytes_eq disk.copy.header.guid config.group ≡ false → disk.copy.header.guid ≡ config.group → ⊥
    not_own other same =
        let own : bytes_eq disk.copy.header.guid config.group ≡ true = ap (λ (guid : List ℕ). bytes_eq guid config.group) same ∙ bytes_same config.group in
        let no : true ≡ false = sym own ∙ other in
        absurd cc

    by : (b : Bool) → bytes_eq disk.copy.header.guid config.group ≡ b → (later : Bool) → nat_le config.sequence disk.copy.header.sequence ≡ later → (shown : Bool) → shows config (view_of disk.copy) ≡ shown
        → (b && later && not shown) ≡ false → IsOwn config disk
    by false e later l shown s kept = record { no_later = λ same. absurd (not_own e same); is_shown = λ same. absurd (not_own e same) }
    by true e later l true s kept = record { no_later = λ same. let is = same_sequence config disk.copy s in omega (arith, is); is_shown = λ same is. s }
    by true e true l false s kept = absurd cc
    by true e false l false s kept =
        let less = leb-false config.sequence disk.copy.header.sequence l in
        record { no_later = λ same. omega (arith, less); is_shown = λ same is. absurd (omega (arith, less, is)) }

-- Where there is none of them, each is such.
pub all_own : (slots : List Shown) (newest : List (Option Newest)) (noted : Bool) (config : Configuration) (disks : List Seated) → list_any (is_stray slots newest noted config) disks ≡ false → AllByRecursion (IsOwn config) disks
all_own slots newest noted config [] none = tt
all_own slots newest noted config (disk ∷ disks) none =
    let parts = or_parts (is_stray slots newest noted config disk) (list_any (is_stray slots newest noted config) disks) none in
    let causes = or_parts (is_ahead config disk || is_of_another slots config disk || holds_only_record newest config disk) (is_stale noted config disk) parts.0 in
    let two = or_parts (is_ahead config disk || is_of_another slots config disk) (holds_only_record newest config disk) causes.0 in
    (own_from config disk (or_parts (is_ahead config disk) (is_of_another slots config disk) two.0).0, all_own slots newest noted config disks parts.1)

-- ---- a group that is settled

module _ (group : GroupValue) (none_absent : group.absent ≡ []) (none_lags : group.lagging ≡ []) (timestamp : ℕ) where
  -- The configuration stays.
  pub config_kept : config_recovered group ≡ group.config
  unfolding config_recovered
  config_kept = rw none_absent refl

  -- No loss passes the greatest sequence number.
  pub none_spent : loss_spent group ≡ false
  none_spent = ap (λ (absent : List ℕ). some absent && nat_lt greatest_sequence (config_lost group).sequence) none_absent

  -- There is no recovery.
  pub no_recovery : recovery_of timestamp group ≡ None
  unfolding recovery_of
  no_recovery = rw (none_absent, none_lags) refl

  -- No table is full.
  pub none_full : full_of_recovery timestamp group ≡ None
  unfolding full_of_recovery
  none_full = rw (none_absent, none_lags) refl

  each_kept : (disks : List Seated) → map (mended_or_kept timestamp group) disks ≡ disks
  each_kept [] = refl
  each_kept (disk ∷ disks) =
      let own : mended_or_kept timestamp group disk ≡ disk = rw none_lags refl in
      ap (λ (one : Seated). one ∷ map (mended_or_kept timestamp group) disks) own ∙ ap (λ (others : List Seated). disk ∷ others) (each_kept disks)

  -- Each disk stays as it is.
  pub disks_kept : disks_recovered timestamp group ≡ seated group
  unfolding disks_recovered
  disks_kept =
      ap (λ (absent : List ℕ). if some absent then map levelled (lost_step timestamp group).disks else map (mended_or_kept timestamp group) (seated group)) none_absent
      ∙ each_kept (seated group)

-- The disks of a settled group show its configuration.
shown : (group : GroupValue) → IsSettledGroup group → DoShow group.config (seated group)
shown group is = all_weaken (IsLevelIn group) (λ (disk : Seated). shows group.config (view_of disk.copy) ≡ true) (λ disk level. level.is_shown) (seated group) is.are_level

-- The steps of a settled group are those of its changes.
pub settled_readied : (group : GroupValue) → IsSettledGroup group → (changes : List Change) (timestamp : ℕ)
    → readied group changes timestamp ≡ unless_spent (steps_from timestamp None changes group.config (seated group))
unfolding readied
settled_readied group is changes timestamp =
    ap
    (λ (b : Bool).
    if b then Err (Refused Unsettled)
    else with_recovery (loss_spent group) (recovery_of timestamp group)
    (unless_spent (steps_from timestamp (full_of_recovery timestamp group) changes (config_recovered group) (disks_recovered timestamp group))))
    (none_stray (map shown_of group.newest) group.newest (are_noted (leading_views group)) group.config (seated group) is.can_be_changed.of_group (shown group is))
    ∙ rw (
      no_recovery group is.none_absent is.none_lags timestamp,
      none_full group is.none_absent is.none_lags timestamp,
      config_kept group is.none_absent is.none_lags timestamp,
      disks_kept group is.none_absent is.none_lags timestamp,
    ) refl
