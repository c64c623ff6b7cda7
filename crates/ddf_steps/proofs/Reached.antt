-- Partway through the steps of changes.
use Rattle.std.proofs.Common.{◌≡◌, ℕ, ◌+◌, ◌<◌, ◌≤◌, Bool, true, false, List, [], ◌∷◌, ◌++◌, length, map, drop, get_or, Option, Some, None, Result, Ok, Err, refl, sym, ap, subst, ◌∙◌, if◌then◌else◌}
use Rattle.std.proofs.lemmas.List.{append-nil, drop_all, drop_more}
use Rattle.std.specs.Prelude.{option_to_list, IfSome}
use Rattle.ddf_config.specs.declared.refusal.Refusal.{Refusal}
use Rattle.ddf_config.specs.Configuration.{Configuration}
use Rattle.ddf_plan.specs.declared.change.Change.{Change}
use Rattle.ddf_plan.specs.Same.{is_step}
use Rattle.ddf_seats.specs.declared.fault.GroupFault.{GroupFault}
use Rattle.ddf_seats.specs.declared.fault.GroupFault.TheVariants.{Refused, SequenceSpent, Memory}
use Rattle.ddf_seats.specs.declared.seated.Seated.{Seated}
use Rattle.ddf_steps.specs.Steps.{Step, step_of}
use Rattle.ddf_seats.specs.Seated.{levelled}
use Rattle.ddf_steps.specs.Refusing.{step_refusal}
use Rattle.ddf_steps.specs.Ready.{ReadyStep, steps_from, with_step}
use Rattle.ddf_steps.specs.Tried.{AreTried, IsTried, config_reached, disks_reached}
use Rattle.ddf_steps.specs.Trying.{AreFollowing, Follows}
use Rattle.ddf_seats.specs.Changing.{CanBeChanged}
use Rattle.ddf_steps.proofs.CommittedLevels.{changed_levelled}

-- ---- behind some steps

config_more : (config : Configuration) (steps : List ReadyStep) (one : ReadyStep) → config_reached config (steps ++ one ∷ []) ≡ one.step.config
config_more config [] one = refl
config_more config (first ∷ steps) one = config_more first.step.config steps one

disks_more : (disks : List Seated) (steps : List ReadyStep) (one : ReadyStep) → disks_reached disks (steps ++ one ∷ []) ≡ map levelled one.step.disks
disks_more disks [] one = refl
disks_more disks (first ∷ steps) one = disks_more (map levelled first.step.disks) steps one

following_more : (disks : List Seated) (steps : List ReadyStep) (one : ReadyStep) → AreFollowing disks steps → Follows (disks_reached disks steps) one → AreFollowing disks (steps ++ one ∷ [])
following_more disks [] one all here = (here, tt)
following_more disks (first ∷ steps) one all here = (all.0, following_more (map levelled first.step.disks) steps one all.1 here)

-- Changes may be tried behind steps that follow one on another.
pub reached_changed : (config : Configuration) (disks : List Seated) (steps : List ReadyStep) → CanBeChanged config disks → AreFollowing disks steps
    → CanBeChanged (config_reached config steps) (disks_reached disks steps)
reached_changed config disks [] can all = can
reached_changed config disks (one ∷ steps) can all =
    reached_changed one.step.config (map levelled one.step.disks) steps (changed_levelled one.step.config one.step.disks all.0.can_be_changed) all.1

-- ---- a step and those behind it

-- steps with those behind them, unless these are refused
abbrev pub with_steps : List ReadyStep → Result (List Step) Refusal → Result (List Step) Refusal
with_steps [] rest = rest
with_steps (one ∷ others) rest = with_step one.step (with_steps others rest)

with_refused : (steps : List ReadyStep) (refusal : Refusal) → with_steps steps (Err refusal) ≡ Err refusal
with_refused [] refusal = refl
with_refused (one ∷ others) refusal = ap (with_step one.step) (with_refused others refusal)

with_none : (steps : List ReadyStep) → with_steps steps (Ok []) ≡ Ok (map (λ one. one.step) steps)
with_none [] = refl
with_none (one ∷ others) = ap (with_step one.step) (with_none others)

with_more : (steps : List ReadyStep) (one : ReadyStep) (rest : Result (List Step) Refusal) → with_steps (steps ++ one ∷ []) rest ≡ with_steps steps (with_step one.step rest)
with_more [] one rest = refl
with_more (first ∷ steps) one rest = ap (with_step first.step) (with_more steps one rest)

module _ (timestamp : ℕ) (config : Configuration) (disks : List Seated) (change : Change) (changes : List Change) where
  abbrev behind : Result (List Step) Refusal
  behind = steps_from timestamp None changes (step_of timestamp config disks change).config (map levelled (step_of timestamp config disks change).disks)

  abbrev by_refusal : Option Refusal → Bool → Result (List Step) Refusal
  by_refusal refusal step =
      elim refusal [
        | Some refusal ↦ Err refusal
        | None ↦ if step then with_step (step_of timestamp config disks change) behind else steps_from timestamp None changes config disks
      ]

  from_refused : (refusal : Refusal) → step_refusal timestamp None config disks change ≡ Some refusal → steps_from timestamp None (change ∷ changes) config disks ≡ Err refusal
  from_refused refusal h = ap (λ (r : Option Refusal). by_refusal r (is_step config change)) h

  from_none : step_refusal timestamp None config disks change ≡ None → is_step config change ≡ false → steps_from timestamp None (change ∷ changes) config disks ≡ steps_from timestamp None changes config disks
  from_none h stays = ap (λ (r : Option Refusal). by_refusal r (is_step config change)) h ∙ ap (by_refusal None) stays

  from_step : (one : ReadyStep) → step_refusal timestamp None config disks change ≡ None → is_step config change ≡ true → one.step ≡ step_of timestamp config disks change
      → steps_from timestamp None (change ∷ changes) config disks ≡ with_step one.step (steps_from timestamp None changes one.step.config (map levelled one.step.disks))
  from_step one h alters is =
      ap (λ (r : Option Refusal). by_refusal r (is_step config change)) h ∙ ap (by_refusal None) alters
      ∙ ap (λ (step : Step). with_step step (steps_from timestamp None changes step.config (map levelled step.disks))) (sym is)

-- ---- partway

-- Some changes gave these steps: those of all changes are these and those of the others behind them, and they follow one on another.
pub record AreReached (timestamp : ℕ) (config : Configuration) (disks : List Seated) (changes : List Change) (i : ℕ) (steps : List ReadyStep) : Type 0 where
  pub steps_are : steps_from timestamp None changes config disks ≡ with_steps steps (steps_from timestamp None (drop i changes) (config_reached config steps) (disks_reached disks steps))
  pub following : AreFollowing disks steps

pub reached_first : (timestamp : ℕ) (config : Configuration) (disks : List Seated) (changes : List Change) → AreReached timestamp config disks changes 0 []
reached_first timestamp config disks changes = record { steps_are = refl; following = tt }

module _ (timestamp : ℕ) (config : Configuration) (disks : List Seated) (changes : List Change) (i : ℕ) (steps : List ReadyStep) (change : Change)
    (below : i < length changes) (is : change ≡ get_or changes i change) (reached : AreReached timestamp config disks changes i steps) where
  abbrev here : Configuration
  here = config_reached config steps

  abbrev there : List Seated
  there = disks_reached disks steps

  next_is : steps_from timestamp None changes config disks ≡ with_steps steps (steps_from timestamp None (change ∷ drop (i + 1) changes) here there)
  next_is =
      reached.steps_are
      ∙ ap (λ (rest : List Change). with_steps steps (steps_from timestamp None rest here there)) (drop_more changes i change below ∙ ap (λ (one : Change). one ∷ drop (i + 1) changes) (sym is))

  -- The next change is refused, and so are all.
  pub reached_refused : (refusal : Refusal) → step_refusal timestamp None here there change ≡ Some refusal → steps_from timestamp None changes config disks ≡ Err refusal
  reached_refused refusal h =
      next_is ∙ ap (with_steps steps) (from_refused timestamp here there change (drop (i + 1) changes) refusal h) ∙ with_refused steps refusal

  -- The next change is no step.
  pub reached_none : step_refusal timestamp None here there change ≡ None → is_step here change ≡ false → AreReached timestamp config disks changes (i + 1) steps
  reached_none h stays = record {
    steps_are = next_is ∙ ap (with_steps steps) (from_none timestamp here there change (drop (i + 1) changes) h stays);
    following = reached.following;
  }

  -- The next change is this step.
  pub reached_step : (one : ReadyStep) → IsTried timestamp here there change (Ok (Some one)) → Follows there one → AreReached timestamp config disks changes (i + 1) (steps ++ one ∷ [])
  reached_step one tried follows = record {
    steps_are =
        next_is
        ∙ ap (with_steps steps) (from_step timestamp here there change (drop (i + 1) changes) one tried.0 tried.1 tried.2)
        ∙ sym (with_more steps one (steps_from timestamp None (drop (i + 1) changes) one.step.config (map levelled one.step.disks)))
        ∙ ap (λ (c : Configuration). with_steps (steps ++ one ∷ []) (steps_from timestamp None (drop (i + 1) changes) c (map levelled one.step.disks))) (sym (config_more config steps one))
        ∙ ap (λ (d : List Seated). with_steps (steps ++ one ∷ []) (steps_from timestamp None (drop (i + 1) changes) (config_reached config (steps ++ one ∷ [])) d)) (sym (disks_more disks steps one));
    following = following_more disks steps one reached.following follows;
  }

  -- The next change is this step, or none.
  pub reached_next : (next : Option ReadyStep) → IsTried timestamp here there change (Ok next) → IfSome next (Follows there) → AreReached timestamp config disks changes (i + 1) (steps ++ option_to_list next)
  reached_next None tried follows = subst (AreReached timestamp config disks changes (i + 1)) (sym (append-nil steps)) (reached_none tried.0 tried.1)
  reached_next (Some one) tried follows = reached_step one tried follows

  -- A fault of the next change is one of all.
  pub reached_fault : (fault : GroupFault) → IsTried timestamp here there change (Err fault) → AreTried timestamp config disks changes (Err fault)
  reached_fault Memory tried = tt
  reached_fault (Refused refusal) tried = reached_refused refusal tried
  reached_fault SequenceSpent tried = tried

-- Behind the last change the steps are all.
pub reached_all : (timestamp : ℕ) (config : Configuration) (disks : List Seated) (changes : List Change) (i : ℕ) (steps : List ReadyStep) → length changes ≤ i
    → AreReached timestamp config disks changes i steps → AreTried timestamp config disks changes (Ok steps)
reached_all timestamp config disks changes i steps past reached =
    reached.steps_are
    ∙ ap (λ (rest : List Change). with_steps steps (steps_from timestamp None rest (config_reached config steps) (disks_reached disks steps))) (drop_all i changes past)
    ∙ with_none steps

-- ---- the last step

-- The last step is where the steps end.
pub config_last : (config : Configuration) (front : List ReadyStep) (one : ReadyStep) (steps : List ReadyStep) → steps ≡ front ++ one ∷ [] → config_reached config steps ≡ one.step.config
config_last config front one steps is = ap (config_reached config) is ∙ config_more config front one

pub disks_last : (disks : List Seated) (front : List ReadyStep) (one : ReadyStep) (steps : List ReadyStep) → steps ≡ front ++ one ∷ [] → disks_reached disks steps ≡ map levelled one.step.disks
disks_last disks front one steps is = ap (disks_reached disks) is ∙ disks_more disks front one
