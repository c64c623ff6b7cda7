-- A group that was recovered is settled, and the steps behind its recovery were readied for it.
use Rattle.std.proofs.Common.{◌≡◌, ℕ, ◌<◌, Bool, true, false, List, [], ◌∷◌, length, map, fold, Option, Some, None, refl, sym, ap, subst, ◌∙◌, if◌then◌else◌}
use Rattle.std.specs.Prelude.{IfSome, option_map, slice_get}
use Rattle.std.specs.List.{AllByRecursion}
use Rattle.ddf_lemmas.proofs.Lists.{all_from, all_weaken}
use Rattle.ddf_config.specs.declared.seat.Seat.{Seat}
use Rattle.ddf_config.specs.Configuration.{Configuration}
use Rattle.ddf_copy.specs.declared.newest_copy.Newest.{Newest}
use Rattle.ddf_plan.specs.declared.change.Change.{Change}
use Rattle.ddf_view.specs.Shows.{shows}
use Rattle.ddf_view.specs.View.{view_of}
use Rattle.ddf_rewrite.proofs.Lists.{all_at, all_mapped}
use Rattle.ddf_seats.specs.declared.seated.Seated.{Seated}
use Rattle.ddf_steps.specs.Committed.{AreRewriting, DoRise, IsRewritten}
use Rattle.ddf_recovery.specs.Committed.{IsReadyFor, WasReadied, group_recovered}
use Rattle.ddf_seats.specs.Group.{GroupValue}
use Rattle.ddf_steps.specs.Ready.{ReadyStep}
use Rattle.ddf_recovery.specs.Ready.{ReadyValue}
use Rattle.ddf_seats.specs.Seated.{with_level, seated, seats_in, levelled}
use Rattle.ddf_recovery.specs.Recovery.{config_recovered, disks_recovered, lost_step, mended_or_kept, mending_step, recovery_of}
use Rattle.ddf_seats.specs.Leading.{some}
use Rattle.ddf_assembly.specs.Settled.{IsLevelIn, IsSettledGroup}
use Rattle.ddf_steps.specs.Steps.{Step}
use Rattle.ddf_steps.specs.Trying.{AreFollowing, DoShow, Follows}
use Rattle.ddf_seats.specs.Changing.{CanBeChanged, SlotsRise}
use Rattle.ddf_recovery.proofs.Behind.{IsBehind}
use Rattle.ddf_recovery.proofs.Committed.{MayReplace}
use Rattle.ddf_recovery.proofs.CommittedAfter.{after_is, disks_rise, disks_within}
use Rattle.ddf_steps.proofs.CommittedLevels.{changed_levelled, level_here, seats_levelled}
use Rattle.ddf_recovery.proofs.CommittedReadied.{steps_rewrite, steps_rise}
use Rattle.ddf_recovery.proofs.ReadiedParts.{are_tried, behind, loss_rises, none_spent, own}
use Rattle.ddf_recovery.proofs.Recovered.{config_kept, disks_kept}
use Rattle.ddf_recovery.proofs.RecoveredDisks.{IsLevelAt, mended_level, mended_seated, mended_seats}
use Rattle.ddf_recovery.proofs.Replaced.{recovery_replace}
use Rattle.ddf_assembly.proofs.Settled.{sequences, settled}
use Rattle.ddf_assembly.proofs.SettledSeats.{same_sequence}

-- ---- a group whose disks are level

-- A group is settled of which nothing is absent, nothing lags, and each disk is level and shows the configuration.
settled_by : (group : GroupValue) → group.absent ≡ [] → group.lagging ≡ [] → SlotsRise group.seats → seats_in (seated group) ≡ group.seats → CanBeChanged group.config (seated group)
    → AllByRecursion (IsLevelAt group.newest group.config) (seated group) → IsSettledGroup group
settled_by group none_absent none_lags rise seats can level = record {
  none_absent = none_absent;
  none_lags = none_lags;
  slots_rise = rise;
  are_seated = seats;
  can_be_changed = can;
  are_level = all_weaken (IsLevelAt group.newest group.config) (IsLevelIn group)
      (λ disk is. record { is_newest = is.0; is_shown = is.1; same_sequence = same_sequence group.config disk.copy is.1 }) (seated group) level;
}

-- ---- what there is nothing of

-- Without a recovery nothing is absent and nothing lags.
pub none_left : (timestamp : ℕ) (group : GroupValue) → None ≡ recovery_of timestamp group → (group.absent ≡ []) × (group.lagging ≡ [])
unfolding recovery_of
none_left timestamp group h = by (some group.absent) refl (some group.lagging) refl h
  where
    empty : (xs : List ℕ) → some xs ≡ false → xs ≡ []
    empty [] e = refl
    empty (x ∷ xs) e = absurd cc

    by : (a : Bool) → some group.absent ≡ a → (l : Bool) → some group.lagging ≡ l → ◌≡◌ {A = Option Step} None (if a then Some (lost_step timestamp group) else if l then Some (mending_step timestamp group) else None)
        → (group.absent ≡ []) × (group.lagging ≡ [])
    by true e l f h = absurd cc
    by false e true f h = absurd cc
    by false e false f h = (empty group.absent e, empty group.lagging f)

-- What the recovery is.
data IsKind (timestamp : ℕ) (group : GroupValue) (step : Step) : Type 0 where
  lost : some group.absent ≡ true → step ≡ lost_step timestamp group → IsKind timestamp group step
  mends : some group.absent ≡ false → step ≡ mending_step timestamp group → IsKind timestamp group step

kind_of : (timestamp : ℕ) (group : GroupValue) (step : Step) → Some step ≡ recovery_of timestamp group → IsKind timestamp group step
unfolding recovery_of
kind_of timestamp group step h = by (some group.absent) refl (some group.lagging) h
  where
    by : (a : Bool) → some group.absent ≡ a → (l : Bool) → Some step ≡ (if a then Some (lost_step timestamp group) else if l then Some (mending_step timestamp group) else None) → IsKind timestamp group step
    by true e l h = let same : step ≡ lost_step timestamp group = cc in lost e same
    by false e true h = let same : step ≡ mending_step timestamp group = cc in mends e same
    by false e false h = absurd cc

-- A group once it was recovered is settled, and its configuration and its disks are those behind the recovery.
pub record IsRecoveredAs (timestamp : ℕ) (group : GroupValue) (next : Option ReadyStep) : Type 0 where
  pub is_settled : IsSettledGroup (group_recovered group next)
  pub disks_are : seated (group_recovered group next) ≡ disks_recovered timestamp group
  pub config_is : (group_recovered group next).config ≡ config_recovered group

module _ (group : GroupValue) (changes : List Change) (timestamp : ℕ) (ready : ReadyValue) (was : WasReadied group changes timestamp ready) where
  rise : SlotsRise (seats_in (seated group))
  rise = subst SlotsRise (sym was.assembled.are_seated) was.assembled.slots_rise

  -- ---- by the recovery

  module _ (one : ReadyStep) (e : ready.recovery ≡ Some one) where
    is_step : Some one.step ≡ recovery_of timestamp group
    is_step = sym (ap (option_map (λ (next : ReadyStep). next.step)) e) ∙ was.is_recovery

    -- It follows on the group's disks.
    pub recovery_follows : Follows (seated group) one
    recovery_follows = subst (λ (next : Option ReadyStep). IfSome next (Follows (seated group))) e was.recovers

    -- It may be written over their copies.
    pub replaces : AllByRecursion (MayReplace group one.step.config) one.step.disks
    replaces = recovery_replace timestamp group was.assembled (own group changes timestamp ready was) (loss_rises group changes timestamp ready was one e) one is_step

    pub rewriting : AllByRecursion (IsRewritten (seated group) one.step.config) one.step.disks
    rewriting = all_weaken (MayReplace group one.step.config) (IsRewritten (seated group) one.step.config) (λ disk may. may.rewrites) one.step.disks replaces

    abbrev newest : List (Option Newest)
    newest = fold with_level group.newest one.step.disks

    one_rise : SlotsRise (seats_in one.step.disks)
    one_rise = disks_rise group one rise recovery_follows rewriting

    one_within : (k : ℕ) (disk : Seated) → slice_get one.step.disks k ≡ Some disk → disk.seat.slot < length group.newest
    one_within = disks_within group one rise recovery_follows rewriting

    abbrev as_group : List Seat → GroupValue
    as_group seats = record { config = one.step.config; seats = seats; absent = []; lagging = []; newest = newest }

    -- behind a loss
    lost_seated : seated (as_group (seats_in one.step.disks)) ≡ map levelled one.step.disks
    unfolding seated
    lost_seated = after_is group one rise recovery_follows rewriting

    lost_level : AllByRecursion (IsLevelAt newest one.step.config) (map levelled one.step.disks)
    lost_level =
        all_mapped (IsLevelAt newest one.step.config) levelled one.step.disks
        (all_from (λ (disk : Seated). IsLevelAt newest one.step.config (levelled disk)) one.step.disks
        (λ k disk at. (
          level_here group.newest one.step.disks one_rise k disk at (one_within k disk at),
          all_at (λ (other : Seated). shows one.step.config (view_of other.copy) ≡ true) one.step.disks k disk recovery_follows.show at,
        )))

    lost_settled : IsSettledGroup (as_group (seats_in one.step.disks))
    lost_settled =
        settled_by (as_group (seats_in one.step.disks)) refl refl one_rise (ap seats_in lost_seated ∙ seats_levelled one.step.disks)
        (subst (CanBeChanged one.step.config) (sym lost_seated) (changed_levelled one.step.config one.step.disks recovery_follows.can_be_changed))
        (subst (λ (disks : List Seated). AllByRecursion (IsLevelAt newest one.step.config) disks) (sym lost_seated) lost_level)

    lost_disks : some group.absent ≡ true → one.step ≡ lost_step timestamp group → map levelled one.step.disks ≡ disks_recovered timestamp group
    unfolding disks_recovered
    lost_disks are same =
        ap (λ (step : Step). map levelled step.disks) same
        ∙ sym (ap (λ (b : Bool). if b then map levelled (lost_step timestamp group).disks else map (mended_or_kept timestamp group) (seated group)) are)

    kept_disks : some group.absent ≡ false → map (mended_or_kept timestamp group) (seated group) ≡ disks_recovered timestamp group
    unfolding disks_recovered
    kept_disks none = sym (ap (λ (b : Bool). if b then map levelled (lost_step timestamp group).disks else map (mended_or_kept timestamp group) (seated group)) none)

    -- behind the leaders' configuration
    module _ (none : some group.absent ≡ false) (same : one.step ≡ mending_step timestamp group) where
      new_rise : SlotsRise (seats_in (mending_step timestamp group).disks)
      new_rise = subst (λ (step : Step). SlotsRise (seats_in step.disks)) same one_rise

      new_within : (k : ℕ) (disk : Seated) → slice_get (mending_step timestamp group).disks k ≡ Some disk → disk.seat.slot < length group.newest
      new_within = subst (λ (step : Step). (k : ℕ) (disk : Seated) → slice_get step.disks k ≡ Some disk → disk.seat.slot < length group.newest) same one_within

      new_show : DoShow group.config (mending_step timestamp group).disks
      new_show = subst (λ (step : Step). DoShow step.config step.disks) same recovery_follows.show

      mends_seated : seated (as_group group.seats) ≡ map (mended_or_kept timestamp group) (seated group)
      mends_seated =
          ap (λ (step : Step). seated (record { config = step.config; seats = group.seats; absent = []; lagging = []; newest = fold with_level group.newest step.disks })) same
          ∙ mended_seated timestamp group was.assembled new_rise new_within new_show

      mends_level : AllByRecursion (IsLevelAt newest one.step.config) (map (mended_or_kept timestamp group) (seated group))
      mends_level =
          subst (λ (step : Step). AllByRecursion (IsLevelAt (fold with_level group.newest step.disks) step.config) (map (mended_or_kept timestamp group) (seated group))) (sym same)
          (mended_level timestamp group was.assembled new_rise new_within new_show)

      mends_can : CanBeChanged one.step.config (map (mended_or_kept timestamp group) (seated group))
      mends_can =
          let is = subst (IsBehind timestamp group) e (behind group changes timestamp ready was) in
          subst (CanBeChanged one.step.config) (is.disks_are ∙ sym (kept_disks none)) is.changed

      mends_settled : IsSettledGroup (as_group group.seats)
      mends_settled =
          settled_by (as_group group.seats) refl refl was.assembled.slots_rise (ap seats_in mends_seated ∙ mended_seats timestamp group was.assembled new_rise new_within new_show)
          (subst (CanBeChanged one.step.config) (sym mends_seated) mends_can)
          (subst (λ (disks : List Seated). AllByRecursion (IsLevelAt newest one.step.config) disks) (sym mends_seated) mends_level)

    -- behind either
    abbrev by_absent : Bool → GroupValue
    by_absent absent = as_group (if absent then seats_in one.step.disks else group.seats)

    is_as : IsRecoveredAs timestamp group (Some one)
    is_as = elim (kind_of timestamp group one.step is_step) [
      | lost are same ↦ record {
        is_settled = subst (λ (b : Bool). IsSettledGroup (by_absent b)) (sym are) lost_settled;
        disks_are = ap (λ (b : Bool). seated (by_absent b)) are ∙ lost_seated ∙ lost_disks are same;
        config_is = config_is;
      }
      | mends none same ↦ record {
        is_settled = subst (λ (b : Bool). IsSettledGroup (by_absent b)) (sym none) (mends_settled none same);
        disks_are = ap (λ (b : Bool). seated (by_absent b)) none ∙ mends_seated none same ∙ kept_disks none;
        config_is = config_is;
      }
    ]
      where
        config_is : one.step.config ≡ config_recovered group
        config_is = let is = subst (IsBehind timestamp group) e (behind group changes timestamp ready was) in is.config_is

  is_recovered_by : (next : Option ReadyStep) → ready.recovery ≡ next → IsRecoveredAs timestamp group next
  is_recovered_by None e =
      let none = none_left timestamp group (sym (ap (option_map (λ (one : ReadyStep). one.step)) e) ∙ was.is_recovery) in
      record {
        is_settled = settled group was.assembled none.0 none.1;
        disks_are = sym (disks_kept group none.0 none.1 timestamp);
        config_is = sym (config_kept group none.0 none.1 timestamp);
      }
  is_recovered_by (Some one) e = is_as one e

  -- The recovered group is settled, and its configuration and its disks are those behind the recovery.
  pub is_recovered : IsRecoveredAs timestamp group ready.recovery
  is_recovered = is_recovered_by ready.recovery refl

  -- The steps behind the recovery were readied for it.
  pub recovered_ready : IsReadyFor (group_recovered group ready.recovery) (record ready { recovery = None })
  recovered_ready =
      let now = group_recovered group ready.recovery in
      let tried = are_tried group changes timestamp ready was in
      record {
        is_settled = is_recovered.is_settled;
        have_sequence = sequences now is_recovered.is_settled;
        follows = subst (λ (disks : List Seated). AreFollowing disks ready.steps) (sym is_recovered.disks_are) was.follows;
        rewrites = subst (λ (disks : List Seated). AreRewriting disks ready.steps) (sym is_recovered.disks_are)
            (steps_rewrite timestamp changes (config_recovered group) (disks_recovered timestamp group) ready.steps tried);
        rises = subst (λ (config : Configuration). DoRise config.sequence ready.steps) (sym is_recovered.config_is)
            (steps_rise timestamp changes (config_recovered group) (disks_recovered timestamp group) ready.steps tried (none_spent group changes timestamp ready was));
      }
