-- A current member that is absent is missing behind each step of a call on its group.
use Rattle.std.proofs.Common.{◌≡◌, ℕ, ◌+◌, true, List, [], ◌∷◌, length, Some, Ok, refl, ap, subst, arith}
use Rattle.std.proofs.lemmas.Bool.{false≢true}
use Rattle.std.specs.Prelude.{slice_get}
use Rattle.ddf_lemmas.proofs.Lists.{some_at_place}
use Rattle.ddf_config.specs.Configuration.{Configuration}
use Rattle.ddf_plan.specs.Lose.{is_among}
use Rattle.ddf_plan.specs.declared.change.Change.{Change}
use Rattle.ddf_rewrite.proofs.Lists.{some_same}
use Rattle.ddf_history.specs.Groups.{Disk, has_current, has_missing}
use Rattle.ddf_history.proofs.Following.{lost_missing}
use Rattle.ddf_seats.specs.Group.{GroupValue}
use Rattle.ddf_recovery.specs.Ready.{readied}
use Rattle.ddf_recovery.specs.Recovery.{config_lost, config_recovered, lost_step, recovery_of}
use Rattle.ddf_seats.specs.Leading.{some}
use Rattle.ddf_steps.specs.Steps.{Step}
use Rattle.ddf_recovery.proofs.ReadiedSteps.{behind}
use Rattle.ddf_history_steps.proofs.AllSteps.{AllSteps, readied_all}
use Rattle.ddf_history_steps.proofs.LastStep.{lost_first, lost_is}
use Rattle.ddf_history_steps.proofs.MembersKept.{change_from}

module _ (found : GroupValue) (changes : List Change) (timestamp : ℕ) (steps : List Step) (are : readied found changes timestamp ≡ Ok steps)
    (disk : Disk) (current : has_current found.config disk ≡ true) (among : is_among found.absent disk.reference ≡ true) where
  some_absent : some found.absent ≡ true
  some_absent = by found.absent among
    where
      by : (absent : List ℕ) → is_among absent disk.reference ≡ true → some absent ≡ true
      by [] is = absurd (false≢true is)
      by (one ∷ others) is = refl

  -- Each step lists it as missing.
  abbrev pub Misses : Configuration → Type 0
  Misses config = has_missing config disk ≡ true

  lost_misses : Misses (config_lost found)
  lost_misses = lost_missing found.config found.absent (config_lost found).sequence disk current among

  behind_misses : Misses (config_recovered found)
  unfolding config_recovered
  behind_misses = rw some_absent lost_misses

  recovery_misses : (step : Step) → recovery_of timestamp found ≡ Some step → Misses step.config
  recovery_misses step is =
      let lost = lost_is found changes timestamp steps are some_absent in
      let same : lost_step timestamp found ≡ step = some_same lost is in
      subst (λ (one : Step). Misses one.config) same lost_misses

  pub steps_miss : AllSteps (λ step. Misses step.config) steps
  steps_miss =
      readied_all (λ step. Misses step.config) (λ config seats. Misses config) timestamp
      (λ config seats change from. let next = (change_from config change).stays_missing disk from in (next, next))
      found (λ own. recovery_misses) (λ own. behind_misses) changes steps are

  -- There is a last one.
  pub last_misses : (number : ℕ) × (step : Step) × (slice_get steps number ≡ Some step) × (number + 1 ≡ length steps)
  last_misses =
      let all = lost_first found changes timestamp steps are some_absent in
      let rest = behind found changes timestamp steps are in
      let long : length rest + 1 ≡ length steps = let same = ap (λ (one : List Step). length one) all in omega (arith, same) in
      let there = some_at_place steps (length rest) (omega (arith, long)) in
      (length rest, there.0, there.1, long)
