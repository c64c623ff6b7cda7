-- What is promised of arrays once a call made them, and of fewer arrays.
use Rattle.std.proofs.Common.{◌≡◌, ◌⊎◌, ◌∙◌, inl, inr, ⊎_elim, ℕ, Bool, true, false, ◌||◌, List, [], ◌∷◌, length, Option, Some, None, Ok, refl, ap, sym, subst, if◌then◌else◌, arith}
use Rattle.std.specs.Prelude.{is_some, slice_get}
use Rattle.std.specs.Map.{lookup}
use Rattle.std.proofs.lemmas.Option.{slice_get_within}
use Rattle.ddf_bay.specs.Sectors.{Image}
use Rattle.ddf_config.specs.declared.array.Array.{Array}
use Rattle.ddf_config.specs.declared.refusal.Refusal.{Refusal}
use Rattle.ddf_config.specs.declared.refusal.Refusal.TheVariants.{Clash, InUse, NameTaken, Shape}
use Rattle.ddf_config.specs.Configuration.{Configuration}
use Rattle.ddf_config.specs.Levels.{unserved_level}
use Rattle.ddf_config.specs.Members.{same_guid}
use Rattle.ddf_config.specs.Refusals.{first_refusal, refuse_if}
use Rattle.ddf_config.proofs.Firsts.{all_pass}
use Rattle.ddf_plan.specs.declared.change.Change.TheVariants.{Create}
use Rattle.ddf_plan.specs.Causes.{causes, steps_of as change_steps}
use Rattle.ddf_plan.specs.CreateRefusal.{is_taken, is_no_shape, is_spare_disk, passes_most, references}
use Rattle.ddf_plan.specs.Refusals.{not_current, refuse_first}
use Rattle.ddf_array.specs.Sound.{AreSectors}
use Rattle.ddf_data_array.specs.Allowed.{Allowed, any_bytes}
use Rattle.ddf_data_array.proofs.Written.{kept_any}
use Rattle.ddf_data_group.specs.Grouped.{Promises}
use Rattle.ddf_data_group.specs.Kept.{KeepsArray}
use Rattle.ddf_data_group.specs.Over.{absent_in}
use Rattle.ddf_data_group.proofs.Created.{created_writable}
use Rattle.ddf_data_group.proofs.Entries.{guid_is}
use Rattle.ddf_rewrite.proofs.Lists.{some_same}
use Rattle.ddf_history.specs.Groups.{groups}
use Rattle.ddf_history.specs.Issued.{IsSince, Past}
use Rattle.ddf_seats.specs.declared.seated.Seated.{Seated}
use Rattle.ddf_seats.specs.Group.{GroupValue}
use Rattle.ddf_recovery.specs.Ready.{readied}
use Rattle.ddf_recovery.specs.Recovery.{config_lost, config_recovered, disks_recovered}
use Rattle.ddf_seats.specs.Leading.{some}
use Rattle.ddf_steps.specs.Refusing.{most_members, room_if_step, step_refusal}
use Rattle.ddf_seats.specs.Seated.{seats_in as disk_seats}
use Rattle.ddf_steps.specs.Steps.{Step, config_after, raised}
use Rattle.ddf_recovery.proofs.ReadiedSteps.{are_tried, behind}
use Rattle.ddf_history_steps.specs.Going.{IsOver as IsDone, changes_in}
use Rattle.ddf_history_steps.proofs.LastIssued.{over_last, over_length}
use Rattle.ddf_history_steps.proofs.LastStep.{configs}
use Rattle.ddf_data_history.specs.Promised.{KeepsData, seats_in, with_promise}
use Rattle.ddf_data_calls.proofs.Steps.{AreOfChange, issued_are, of_change}

-- ---- fewer promises

pub fewer_keep : (group : List ℕ) (past : Past (groups group)) (floor : ℕ → ℕ) (image : Image) (promises fewer : Promises) → ((guid : List ℕ) (allowed : Allowed) → fewer guid ≡ Some allowed → promises guid ≡ Some allowed)
    → KeepsData group past floor image promises → KeepsData group past floor image fewer
fewer_keep group past floor image promises fewer less kept number config since guid allowed array promised found = kept number config since guid allowed array (less guid allowed promised) found

pub dropped_less : (promises : Promises) (dropped guid : List ℕ) (allowed : Allowed) → with_promise promises dropped None guid ≡ Some allowed → promises guid ≡ Some allowed
dropped_less promises dropped guid allowed is = by (same_guid dropped guid) is
  where
    by : (b : Bool) → ◌≡◌ {A = Option Allowed} (if b then None else promises guid) (Some allowed) → promises guid ≡ Some allowed
    by true is = absurd cc
    by false is = is

-- ---- an array that is created

-- A new array's GUID is new.
not_there : {X : Type 0} (o : Option X) (guid : List ℕ) → refuse_if (is_some o) (Clash guid) ≡ None → o ≡ None
not_there None guid e = refl
not_there (Some x) guid e = absurd cc

create_new : (most : Option ℕ) (config : Configuration) (disks : List Seated) (guid : List ℕ) (array : Array) → causes most config (Create guid array) (disk_seats disks) ≡ None → lookup (same_guid guid) config.arrays ≡ None
unfolding causes
create_new most config disks guid array none =
    not_there (lookup (same_guid guid) config.arrays) guid
    (all_pass
    (not_current config (disk_seats disks) (references array) ∷ refuse_if (is_taken config array.name) NameTaken ∷ unserved_level guid array
    ∷ refuse_if (passes_most most array
    || is_no_shape array) Shape
    ∷ [])
    (refuse_if (is_some (lookup (same_guid guid) config.arrays)) (Clash guid)) (refuse_first (disk_seats disks) (is_spare_disk config) InUse (references array) ∷ []) none)

first_none : (first : Option Refusal) (others : List (Option Refusal)) → first_refusal (first ∷ others) ≡ None → first ≡ None
first_none None others e = refl
first_none (Some refusal) others e = absurd cc

step_new : (timestamp : ℕ) (config : Configuration) (disks : List Seated) (guid : List ℕ) (array : Array) → step_refusal timestamp None config disks (Create guid array) ≡ None → lookup (same_guid guid) config.arrays ≡ None
unfolding step_refusal
step_new timestamp config disks guid array none =
    create_new (Some (most_members disks)) config disks guid array
    (first_none (causes (Some (most_members disks)) config (Create guid array) (disk_seats disks)) (None ∷ room_if_step timestamp config disks (Create guid array) ∷ []) none)

-- Behind a call that was done there is one configuration.
pub done_is : (group : List ℕ) (past now : Past (groups group)) (readable : ℕ → Bool) (found : GroupValue) (changes : List Configuration) → IsDone group past readable found changes now
    → (number : ℕ) (config : Configuration) → IsSince now.changes number config → slice_get (found.config ∷ changes) (length changes) ≡ Some config
done_is group past now readable found changes done number config since =
    let long = over_length group past readable found changes now done in
    let within = slice_get_within now.changes.issued number config since.is_there in
    let late = since.late in
    let at : number ≡ now.changes.acked = omega (arith, long, within, late) in
    sym (over_last group past readable found changes now done) ∙ ap (slice_get now.changes.issued) (sym at) ∙ since.is_there

-- where the changes are none behind a recovery, or one, it is what they make of it
pub last_of : (found : GroupValue) (others : List Configuration) → slice_get (config_recovered found ∷ others) (length others)
    ≡ slice_get (found.config ∷ (if some found.absent then config_lost found ∷ others else others)) (length (if some found.absent then config_lost found ∷ others else others))
unfolding config_recovered
last_of found others = by (some found.absent)
  where
    by : (b : Bool) → slice_get ((if b then config_lost found else found.config) ∷ others) (length others)
        ≡ slice_get (found.config ∷ (if b then config_lost found ∷ others else others)) (length (if b then config_lost found ∷ others else others))
    by true = refl
    by false = refl

module _ (group : List ℕ) (past now : Past (groups group)) (readable : ℕ → Bool) (found : GroupValue) (guid : List ℕ) (array : Array) (timestamp : ℕ) (steps : List Step)
    (are : readied found (Create guid array ∷ []) timestamp ≡ Ok steps) (done : IsDone group past readable found (changes_in found steps) now) where
  of_create : AreOfChange timestamp (config_recovered found) (disks_recovered timestamp found) (Create guid array) (behind found (Create guid array ∷ []) timestamp steps are)
  of_create =
      of_change timestamp (config_recovered found) (disks_recovered timestamp found) (Create guid array) (behind found (Create guid array ∷ []) timestamp steps are)
      (are_tried found (Create guid array ∷ []) timestamp steps are)

  is_new : lookup (same_guid guid) (config_recovered found).arrays ≡ None
  is_new = step_new timestamp (config_recovered found) (disks_recovered timestamp found) guid array (of_create).not_refused

  -- The one configuration is the recovered one, or what the creation makes of it.
  config_is : (number : ℕ) (config : Configuration) → IsSince now.changes number config
      → (config ≡ config_recovered found) ⊎ (config ≡ config_after (config_recovered found) (Create guid array))
  config_is number config since =
      let there = done_is group past now readable found (changes_in found steps) done number config since in
      let others = configs (behind found (Create guid array ∷ []) timestamp steps are) in
      let here : slice_get (config_recovered found ∷ configs (behind found (Create guid array ∷ []) timestamp steps are)) (length (configs (behind found (Create guid array ∷ []) timestamp steps are))) ≡ Some config =
      last_of found (configs (behind found (Create guid array ∷ []) timestamp steps are))
      ∙ ap (λ (all : List Configuration). slice_get (found.config ∷ all) (length all)) (sym (issued_are found (Create guid array ∷ []) timestamp steps are)) ∙ there in
      ⊎_elim
      (λ none. inl (some_same (subst (λ (all : List Step). slice_get (config_recovered found ∷ configs all) (length (configs all)) ≡ Some config) none here) refl))
      (λ one. inr (some_same (subst (λ (all : List Step). slice_get (config_recovered found ∷ configs all) (length (configs all)) ≡ Some config) one here) refl))
      (of_create).steps_are

  module _ (floor : ℕ → ℕ) (image : Image) (sectors : AreSectors image) where
    -- What it holds of the array may be anything.
    any_kept : (number : ℕ) (config : Configuration) → IsSince now.changes number config → (made : Array) → lookup (same_guid guid) config.arrays ≡ Some made
        → KeepsArray config.members (seats_in group now floor config) made image any_bytes
    any_kept number config since made there volume over =
        ⊎_elim
        (λ same. let no : None ≡ Some made = sym is_new ∙ ap (λ (c : Configuration). lookup (same_guid guid) c.arrays) (sym same) ∙ there in absurd cc)
        (λ after. kept_any (absent_in config.members (seats_in group now floor config) made.elements) volume image sectors
        (created_writable (config_recovered found) guid array made (raised (config_recovered found).sequence (change_steps (Create guid array))) (seats_in group now floor config) volume is_new
        (ap (λ (c : Configuration). lookup (same_guid guid) c.arrays) (sym after) ∙ there) over))
        (config_is number config since)

    pub begun_keeps : (promises : Promises) → KeepsData group now floor image promises → KeepsData group now floor image (with_promise promises guid (Some any_bytes))
    begun_keeps promises kept number config since other allowed made promised there = by (same_guid guid other) refl promised
      where
        by : (b : Bool) → same_guid guid other ≡ b → ◌≡◌ {A = Option Allowed} (if b then Some any_bytes else promises other) (Some allowed)
            → KeepsArray config.members (seats_in group now floor config) made image allowed
        by true same e =
            let one = guid_is guid other same in
            let allowed_is : any_bytes ≡ allowed = sym (some_same e refl) in
            subst (KeepsArray config.members (seats_in group now floor config) made image) allowed_is
            (any_kept number config since made (ap (λ (g : List ℕ). lookup (same_guid g) config.arrays) one ∙ there))
        by false differs e = kept number config since other allowed made e there
