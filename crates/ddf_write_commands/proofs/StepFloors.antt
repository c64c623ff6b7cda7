-- The steps of a group leave the floors of the disks that they write.
use Rattle.std.proofs.Common.{◌≡◌, ◌∙◌, ℕ, zero, suc, Bool, true, false, List, [], ◌∷◌, ◌++◌, map, filter, Option, Some, None, Result, Ok, Err, if◌then◌else◌, refl, ap, sym, subst}
use Rattle.std.specs.Prelude.{option_to_list, slice_get}
use Rattle.ddf_lemmas.proofs.Lists.{filter_get, in_map}
use Rattle.ddf_config.specs.declared.refusal.Refusal.{Refusal}
use Rattle.ddf_config.specs.Configuration.{Configuration}
use Rattle.ddf_plan.specs.declared.change.Change.{Change}
use Rattle.ddf_plan.specs.Same.{is_step}
use Rattle.ddf_rewrite.specs.Before.{Before, before}
use Rattle.ddf_seats.specs.declared.seated.Seated.{Seated}
use Rattle.ddf_seats.specs.Group.{GroupValue, floor_of}
use Rattle.ddf_seats.specs.Leading.{lags, leading, some}
use Rattle.ddf_seats.specs.Seated.{seated, views_in, levelled}
use Rattle.ddf_steps.specs.Ready.{steps_from, with_step}
use Rattle.ddf_steps.specs.Refusing.{step_refusal}
use Rattle.ddf_steps.specs.Steps.{Step, config_after, disks_after, rewritten, stays_in, step_of}
use Rattle.ddf_recovery.specs.Ready.{readied}
use Rattle.ddf_recovery.specs.Recovery.{config_lost, config_recovered, disks_recovered, lost_step, mended, mended_or_kept, mending_step, recovery_of}
use Rattle.ddf_recovery.proofs.ReadiedSteps.{are_tried, behind, steps_are}
use Rattle.ddf_history_steps.proofs.Floored.{changed_floor, mended_floor}

-- ---- the floors of the disks that steps write

-- A disk is on the slot of a seat's disk, with a copy of the same floor.
pub record HasFloorOf (seats : List Seated) (disk : Seated) : Type 0 where
  pub place : ℕ
  pub before : Seated
  pub is_there : slice_get seats place ≡ Some before
  pub same_slot : before.seat.slot ≡ disk.seat.slot
  pub same_floor : floor_of disk.copy ≡ floor_of before.copy

abbrev pub HaveFloorsOf : List Seated → List Seated → Type 0
HaveFloorsOf seats disks = (place : ℕ) (disk : Seated) → slice_get disks place ≡ Some disk → HasFloorOf seats disk

module _ (seats : List Seated) where
  renewed : (disk next : Seated) → disk.seat.slot ≡ next.seat.slot → floor_of next.copy ≡ floor_of disk.copy → HasFloorOf seats disk → HasFloorOf seats next
  renewed disk next slot floor from =
      record { place = from.place; before = from.before; is_there = from.is_there; same_slot = from.same_slot ∙ slot; same_floor = floor ∙ from.same_floor }

  pub mapped : (f : Seated → Seated) (disks : List Seated) → ((disk : Seated) → (f disk).seat.slot ≡ disk.seat.slot) → ((disk : Seated) → floor_of (f disk).copy ≡ floor_of disk.copy)
      → HaveFloorsOf seats disks → HaveFloorsOf seats (map f disks)
  mapped f disks slots floors from place disk at =
      let one = in_map f disks place disk at in
      subst (HasFloorOf seats) one.2 (renewed one.0 (f one.0) (sym (slots one.0)) (floors one.0) (from place one.0 one.1))

  filtered : (p : Seated → Bool) (disks : List Seated) → HaveFloorsOf seats disks → HaveFloorsOf seats (filter p disks)
  filtered p disks from place disk at = let there = filter_get p disks place disk at in from there.0 disk there.1

  pub after_floors : (timestamp : ℕ) (leaders : Before) (config : Configuration) (disks : List Seated) → HaveFloorsOf seats disks → HaveFloorsOf seats (disks_after timestamp leaders config disks)
  unfolding disks_after
  after_floors timestamp leaders config disks from =
      mapped (rewritten leaders config timestamp) (filter (stays_in config) disks) (λ disk. refl) (λ disk. changed_floor leaders config timestamp disk.copy) (filtered (stays_in config) disks from)

module _ (found : GroupValue) (timestamp : ℕ) where
  own_floors : HaveFloorsOf (seated found) (seated found)
  own_floors place disk at = record { place = place; before = disk; is_there = at; same_slot = refl; same_floor = refl }

  lost_floors : HaveFloorsOf (seated found) (lost_step timestamp found).disks
  lost_floors = after_floors (seated found) timestamp (leading found) (config_lost found) (seated found) own_floors

  mending_floors : HaveFloorsOf (seated found) (mending_step timestamp found).disks
  mending_floors =
      mapped (seated found) (mended (leading found) found.config timestamp) (filter (lags found) (seated found)) (λ disk. refl) (λ disk. mended_floor (leading found) found.config timestamp disk.copy)
      (filtered (seated found) (lags found) (seated found) own_floors)

  pub recovery_floors : (step : Step) → recovery_of timestamp found ≡ Some step → HaveFloorsOf (seated found) step.disks
  unfolding recovery_of
  recovery_floors step is = by (some found.absent) (some found.lagging) is
    where
      by : (absent lagging : Bool)
          → ◌≡◌ {A = Option Step} (if absent then Some (lost_step timestamp found) else if lagging then Some (mending_step timestamp found) else None) (Some step)
          → HaveFloorsOf (seated found) step.disks
      by true lagging is = let same : lost_step timestamp found ≡ step = cc in subst (λ (one : Step). HaveFloorsOf (seated found) one.disks) same lost_floors
      by false true is = let same : mending_step timestamp found ≡ step = cc in subst (λ (one : Step). HaveFloorsOf (seated found) one.disks) same mending_floors
      by false false is = absurd cc

  pub recovered_floors : HaveFloorsOf (seated found) (disks_recovered timestamp found)
  unfolding disks_recovered
  recovered_floors = by (some found.absent)
    where
      kept_slot : (disk : Seated) → (mended_or_kept timestamp found disk).seat.slot ≡ disk.seat.slot
      kept_slot disk = by_lag (lags found disk)
        where
          by_lag : (b : Bool) → (if b then levelled (mended (leading found) found.config timestamp disk) else disk).seat.slot ≡ disk.seat.slot
          by_lag true = refl
          by_lag false = refl

      kept_floor : (disk : Seated) → floor_of (mended_or_kept timestamp found disk).copy ≡ floor_of disk.copy
      kept_floor disk = by_lag (lags found disk)
        where
          by_lag : (b : Bool) → floor_of (if b then levelled (mended (leading found) found.config timestamp disk) else disk).copy ≡ floor_of disk.copy
          by_lag true = mended_floor (leading found) found.config timestamp disk.copy
          by_lag false = refl

      by : (b : Bool) → HaveFloorsOf (seated found) (if b then map levelled (lost_step timestamp found).disks else map (mended_or_kept timestamp found) (seated found))
      by true = mapped (seated found) levelled (lost_step timestamp found).disks (λ disk. refl) (λ disk. refl) lost_floors
      by false = mapped (seated found) (mended_or_kept timestamp found) (seated found) kept_slot kept_floor own_floors

-- ---- of all steps

abbrev pub AllFloored : List Seated → List Step → Type 0
AllFloored seats steps = (number : ℕ) (step : Step) → slice_get steps number ≡ Some step → HaveFloorsOf seats step.disks

-- the steps of any changes
module _ (seats : List Seated) (timestamp : ℕ) where
  from_floors : (changes : List Change) (config : Configuration) (disks : List Seated) (all : List Step) → steps_from timestamp None changes config disks ≡ Ok all → HaveFloorsOf seats disks → AllFloored seats all
  from_floors [] config disks all is floors =
      λ number step at. let none : ◌≡◌ {A = List Step} [] all = cc in absurd (let no = subst (λ (l : List Step). slice_get l number ≡ Some step) (sym none) at in cc)
  from_floors (change ∷ changes) config disks all is floors =
      by (step_refusal timestamp None config disks change) (is_step config change) is
      (λ more rest. from_floors changes (step_of timestamp config disks change).config (map levelled (step_of timestamp config disks change).disks) more rest
      (mapped seats levelled (step_of timestamp config disks change).disks (λ disk. refl) (λ disk. refl) own))
      (λ rest. from_floors changes config disks all rest floors)
    where
      own : HaveFloorsOf seats (step_of timestamp config disks change).disks
      own = after_floors seats timestamp (before (views_in disks)) (config_after config change) disks floors

      first : (more : List Step) → AllFloored seats more → (k : ℕ) (step : Step) → slice_get (step_of timestamp config disks change ∷ more) k ≡ Some step → HaveFloorsOf seats step.disks
      first more later zero step here = let is_it : step_of timestamp config disks change ≡ step = cc in subst (λ (one : Step). HaveFloorsOf seats one.disks) is_it own
      first more later (suc k) step there = later k step there

      with_rest : (rest : Result (List Step) Refusal) → with_step (step_of timestamp config disks change) rest ≡ Ok all → ((more : List Step) → rest ≡ Ok more → AllFloored seats more) → AllFloored seats all
      with_rest (Err refusal) e later = absurd cc
      with_rest (Ok more) e later =
          let same : step_of timestamp config disks change ∷ more ≡ all = cc in
          λ number step at. first more (later more refl) number step (subst (λ (l : List Step). slice_get l number ≡ Some step) (sym same) at)

      by : (refusal : Option Refusal) (steps : Bool)
          → ◌≡◌ {A = Result (List Step) Refusal} (elim refusal [
            | Some one ↦ Err one
            | None ↦
                if steps then with_step (step_of timestamp config disks change)
                (steps_from timestamp None changes (step_of timestamp config disks change).config (map levelled (step_of timestamp config disks change).disks))
                else steps_from timestamp None changes config disks
          ]) (Ok all)
          → ((more : List Step) → steps_from timestamp None changes (step_of timestamp config disks change).config (map levelled (step_of timestamp config disks change).disks) ≡ Ok more → AllFloored seats more)
          → (steps_from timestamp None changes config disks ≡ Ok all → AllFloored seats all) → AllFloored seats all
      by (Some refusal) steps e stepped passed = absurd cc
      by None true e stepped passed =
          with_rest (steps_from timestamp None changes (step_of timestamp config disks change).config (map levelled (step_of timestamp config disks change).disks)) e stepped
      by None false e stepped passed = passed e

pub readied_floors : (found : GroupValue) (timestamp : ℕ) (changes : List Change) (steps : List Step) → readied found changes timestamp ≡ Ok steps → AllFloored (seated found) steps
readied_floors found timestamp changes steps are number step at =
    by (recovery_of timestamp found) refl number (subst (λ (all : List Step). slice_get all number ≡ Some step) (steps_are found changes timestamp steps are) at)
  where
    others : AllFloored (seated found) (behind found changes timestamp steps are)
    others =
        from_floors (seated found) timestamp changes (config_recovered found) (disks_recovered timestamp found) (behind found changes timestamp steps are) (are_tried found changes timestamp steps are)
        (recovered_floors found timestamp)

    by : (next : Option Step) → recovery_of timestamp found ≡ next → (k : ℕ) → slice_get (option_to_list next ++ behind found changes timestamp steps are) k ≡ Some step → HaveFloorsOf (seated found) step.disks
    by None is k there = others k step there
    by (Some one) is zero there = let same : one ≡ step = cc in recovery_floors found timestamp step (is ∙ ap Some same)
    by (Some one) is (suc k) there = others k step there

-- the steps before some, and those behind them
pub floors_first : (seats : List Seated) (first last : List Step) → AllFloored seats (first ++ last) → AllFloored seats first
floors_first seats [] last all number step at = absurd cc
floors_first seats (one ∷ first) last all zero step at = all zero step at
floors_first seats (one ∷ first) last all (suc number) step at = floors_first seats first last (λ k other there. all (suc k) other there) number step at

pub floors_last : (seats : List Seated) (first last : List Step) → AllFloored seats (first ++ last) → AllFloored seats last
floors_last seats [] last all = all
floors_last seats (one ∷ first) last all = floors_last seats first last (λ k other there. all (suc k) other there)
