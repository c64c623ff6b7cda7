-- The rounds of a rebuild by what their steps make of the configuration: a round's step notes how far the position has come, and that of the last is its end.
use Rattle.std.proofs.Common.{◌≡◌, ◌∙◌, ◌⊎◌, inl, inr, ℕ, zero, suc, ◌≤◌, ◌==◌, not, Bool, true, false, List, [], ◌∷◌, ◌++◌, length, map, take, cond, Option, Some, None, Ok, refl, sym, ap, subst, arith, append_assoc, append-nil}
use Rattle.std.specs.Prelude.{filter, slice_get}
use Rattle.std.specs.List.{AllByRecursion}
use Rattle.ddf_lemmas.proofs.Options.{some_is}
use Rattle.ddf_config.specs.Configuration.{Configuration}
use Rattle.ddf_plan.specs.declared.change.Change.TheVariants.{Finish, Progress}
use Rattle.ddf_history.specs.Groups.{Disk, has_current}
use Rattle.ddf_repair.specs.declared.first.Target.{Target}
use Rattle.ddf_seats.specs.declared.seated.Seated.{Seated}
use Rattle.ddf_seats.specs.Group.{GroupValue}
use Rattle.ddf_steps.specs.Ready.{steps_from}
use Rattle.ddf_steps.specs.Steps.{Step, raised, step_of}
use Rattle.ddf_seats.specs.Seated.{levelled}
use Rattle.ddf_history_steps.specs.Going.{changes_in}
use Rattle.ddf_history_steps.proofs.LastStep.{configs}
use Rattle.ddf_rebuild_command.specs.Filled.{RiseTo}
use Rattle.ddf_rebuild_command.specs.Plans.{notes_and_end}
use Rattle.ddf_rebuild_command.specs.Rounds.{Round, row_before, rows_of, steps_of}
use Rattle.ddf_rebuild_command.proofs.Noting.{Rise}
use Rattle.ddf_rebuild_command.proofs.PlanKept.{has_first}
use Rattle.ddf_rebuild_command.proofs.Steps.{IsOutAt, finish_steps, out_progressed, progress_steps}
use Rattle.ddf_data_calls.proofs.Counted.{IsAfter, IsEnded, ended_after, noted_after}
use Rattle.ddf_data_calls.proofs.Standing.{kept_current}

-- ---- behind so many rounds

-- the configuration
abbrev pub config_at : Configuration → List Round → (number : ℕ) → Configuration
config_at config rounds zero = config
config_at config [] (suc number) = config
config_at config (round ∷ rounds) (suc number) = config_at round.step.config rounds number

-- the row that is noted
abbrev pub noted_at : Option ℕ → List Round → (number : ℕ) → Option ℕ
noted_at noted rounds zero = noted
noted_at noted [] (suc number) = noted
noted_at noted (round ∷ rounds) (suc number) = noted_at (Some round.row) rounds number

-- it is that up to which was filled
pub noted_row : (noted : Option ℕ) (from : ℕ) → ((row : ℕ) → noted ≡ Some row → row ≡ from) → (rounds : List Round) (number row : ℕ) → noted_at noted rounds number ≡ Some row → row ≡ row_before from rounds number
noted_row noted from is rounds zero row at = is row at
noted_row noted from is [] (suc number) row at = is row at
noted_row noted from is (round ∷ rounds) (suc number) row at = noted_row (Some round.row) round.row (λ (other : ℕ) (same : Some round.row ≡ Some other). sym (some_is same)) rounds number row at

-- ---- the rows rise

rise_end : (end from : ℕ) (rounds : List Round) → RiseTo end from (rows_of rounds) → from ≤ end
rise_end end from [] rise = rise
rise_end end from (round ∷ rounds) rise = let first = rise.0 in let last = rise_end end round.row rounds rise.1 in omega (arith, first, last)

pub rise_at : (end from : ℕ) (rounds : List Round) → RiseTo end from (rows_of rounds) → (number : ℕ) (round : Round) → slice_get rounds number ≡ Some round → row_before from rounds number ≤ round.row
rise_at end from [] rise number round at = absurd cc
rise_at end from (one ∷ rounds) rise zero round at = subst (λ (each : Round). from ≤ each.row) (some_is at) rise.0
rise_at end from (one ∷ rounds) rise (suc number) round at = rise_at end one.row rounds rise.1 number round at

pub rise_between : (end first from : ℕ) → first ≤ from → (rounds : List Round) → RiseTo end from (rows_of rounds) → AllByRecursion (λ (round : Round). (first ≤ round.row) × (round.row ≤ end)) rounds
rise_between end first from up [] rise = tt
rise_between end first from up (round ∷ rounds) rise =
    let more = rise.0 in
    ((omega (arith, up, more), rise_end end round.row rounds rise.1), rise_between end first round.row (omega (arith, up, more)) rounds rise.1)

-- ---- the changes that steps issue

-- each of these steps issues its configuration
abbrev pub AllIssue : GroupValue → List Step → Type 0
AllIssue found steps = AllByRecursion (λ (step : Step). (step.config.sequence == found.config.sequence) ≡ false) steps

abbrev issued : Bool → Step → List Step → List Step
issued same step others = cond (not same) (step ∷ others) others

pub few_issued : (found : GroupValue) (steps : List Step) → length (changes_in found steps) ≤ length steps
few_issued found [] = omega arith
few_issued found (step ∷ steps) = by (step.config.sequence == found.config.sequence) (few_issued found steps)
  where
    by : (same : Bool) → length (changes_in found steps) ≤ length steps
        → length (map (λ (one : Step). one.config) (issued same step (filter (λ (one : Step). not (one.config.sequence == found.config.sequence)) steps))) ≤ length (step ∷ steps)
    by true few = omega (arith, few)
    by false few = omega (arith, few)

pub all_issue : (found : GroupValue) (steps : List Step) → changes_in found steps ≡ configs steps → AllIssue found steps
all_issue found [] same = tt
all_issue found (step ∷ steps) same = by (step.config.sequence == found.config.sequence) refl (all_issue found steps) same
  where
    long : (all : List Step) → length (configs all) ≡ length all
    long [] = refl
    long (one ∷ all) = ap suc (long all)

    rest_is : (one : Configuration) (xs ys : List Configuration) → one ∷ xs ≡ one ∷ ys → xs ≡ ys
    rest_is one xs ys e = cc

    by : (is : Bool) → (step.config.sequence == found.config.sequence) ≡ is → (changes_in found steps ≡ configs steps → AllIssue found steps)
        → map (λ (one : Step). one.config) (issued is step (filter (λ (one : Step). not (one.config.sequence == found.config.sequence)) steps)) ≡ step.config ∷ configs steps
        → ((step.config.sequence == found.config.sequence) ≡ false) × AllIssue found steps
    by true is later e =
        let few = few_issued found steps in
        let count : length (changes_in found steps) ≡ suc (length (configs steps)) = ap length e in
        absurd (omega (arith, few, count, long steps))
    by false is later e = (is, later (rest_is step.config (changes_in found steps) (configs steps) e))

pub issued_of : (found : GroupValue) (steps : List Step) → AllIssue found steps → changes_in found steps ≡ configs steps
issued_of found [] all = refl
issued_of found (step ∷ steps) all =
    ap (λ (same : Bool). map (λ (one : Step). one.config) (issued same step (filter (λ (one : Step). not (one.config.sequence == found.config.sequence)) steps))) all.0
    ∙ ap (λ (others : List Configuration). step.config ∷ others) (issued_of found steps all.1)

pub issue_first : (found : GroupValue) (rounds : List Round) → AllIssue found (steps_of rounds) → (number : ℕ) → AllIssue found (steps_of (take number rounds))
issue_first found rounds all zero = tt
issue_first found [] all (suc number) = tt
issue_first found (round ∷ rounds) all (suc number) = (all.0, issue_first found rounds all.1 number)

pub issue_at : (found : GroupValue) (rounds : List Round) → AllIssue found (steps_of rounds) → (number : ℕ) (round : Round) → slice_get rounds number ≡ Some round → AllIssue found (round.step ∷ [])
issue_at found [] all number round at = absurd cc
issue_at found (one ∷ rounds) all zero round at = subst (λ (each : Round). AllIssue found (each.step ∷ [])) (some_is at) (all.0, tt)
issue_at found (one ∷ rounds) all (suc number) round at = issue_at found rounds all.1 number round at

-- ---- the last of them

last_one : (first : Configuration) (before : List Configuration) (config : Configuration) → slice_get (first ∷ (before ++ config ∷ [])) (length (before ++ config ∷ [])) ≡ Some config
last_one first [] config = refl
last_one first (other ∷ before) config = last_one other before config

pub last_at : (first : Configuration) (before : List Configuration) (config : Configuration) (rounds : List Round) (number : ℕ) → slice_get (first ∷ before) (length before) ≡ Some config
    → slice_get (first ∷ (before ++ configs (steps_of (take number rounds)))) (length (before ++ configs (steps_of (take number rounds)))) ≡ Some (config_at config rounds number)
last_at first before config rounds zero last = subst (λ (all : List Configuration). slice_get (first ∷ all) (length all) ≡ Some config) (sym (append-nil before)) last
last_at first before config [] (suc number) last = subst (λ (all : List Configuration). slice_get (first ∷ all) (length all) ≡ Some config) (sym (append-nil before)) last
last_at first before config (round ∷ rounds) (suc number) last =
    subst (λ (all : List Configuration). slice_get (first ∷ all) (length all) ≡ Some (config_at round.step.config rounds number))
    (append_assoc before (round.step.config ∷ []) (configs (steps_of (take number rounds))))
    (last_at first (before ++ round.step.config ∷ []) round.step.config rounds number (last_one first before round.step.config))

-- ---- what the steps make

module _ (group : List ℕ) (start : Configuration) (guid : List ℕ) (target : Target) (end : ℕ) where
  -- What the configuration is behind so many rounds, and what the step of the next one makes of it: a note of the round's row, or the end at all rows.
  pub record IsRoundOf (noted : Option ℕ) (config : Configuration) (rounds : List Round) (number : ℕ) (round : Round) : Type 0 where
    pub after : IsAfter guid target.element target.position (noted_at noted rounds number) start (config_at config rounds number)
    pub current : (disk : Disk) → has_current (config_at config rounds number) disk ≡ has_current start disk
    pub how : IsAfter guid target.element target.position (Some round.row) start round.step.config
        ⊎ ((round.row ≡ end) × IsEnded guid target.element target.position (noted_at noted rounds number) start round.step.config)
    pub next_current : (disk : Disk) → has_current round.step.config disk ≡ has_current start disk

  head_is : {X : Type 0} {a b : X} {others rest : List X} → a ∷ others ≡ b ∷ rest → a ≡ b
  head_is e = cc

  tail_is : {X : Type 0} {a b : X} {others rest : List X} → a ∷ others ≡ b ∷ rest → others ≡ rest
  tail_is e = cc

  module _ (timestamp : ℕ) where
    noted_next : (row : ℕ) (config : Configuration) (disks : List Seated) (noted : Option ℕ) → IsAfter guid target.element target.position noted start config → (one : Round) → one.row ≡ row
        → one.step ≡ step_of timestamp config disks (Progress guid target.element target.position row) → IsAfter guid target.element target.position (Some one.row) start one.step.config
    noted_next row config disks noted after one row_is step_is =
        subst (λ (step : Step). IsAfter guid target.element target.position (Some one.row) start step.config) (sym step_is)
        (subst (λ (n : ℕ). IsAfter guid target.element target.position (Some n) start (step_of timestamp config disks (Progress guid target.element target.position row)).config) (sym row_is)
        (noted_after guid target.element target.position noted start config after (raised config.sequence 1) row))

    -- one that is noted
    noted_round : (row low : ℕ) → low ≤ row → (config : Configuration) (disks : List Seated) (noted : Option ℕ) → IsAfter guid target.element target.position noted start config
        → ((disk : Disk) → has_current config disk ≡ has_current start disk) → (one : Round) (rounds : List Round) → one.row ≡ row
        → one.step ≡ step_of timestamp config disks (Progress guid target.element target.position row) → IsRoundOf noted config (one ∷ rounds) 0 one
    noted_round row low le config disks noted after current one rounds row_is step_is =
        let config_is : one.step.config ≡ (step_of timestamp config disks (Progress guid target.element target.position row)).config = ap (λ (step : Step). step.config) step_is in
        record {
          after = after;
          current = current;
          how = inl (noted_next row config disks noted after one row_is step_is);
          next_current = λ disk. ap (λ (c : Configuration). has_current c disk) config_is
              ∙ kept_current group config (Progress guid target.element target.position row) (λ reference member. refl) (raised config.sequence 1) disk ∙ current disk;
        }

    -- or the last
    ended_round : (config : Configuration) (disks : List Seated) (noted : Option ℕ) → IsAfter guid target.element target.position noted start config
        → ((disk : Disk) → has_current config disk ≡ has_current start disk) → (one : Round) (rounds : List Round) → one.row ≡ end
        → one.step ≡ step_of timestamp config disks (Finish guid target.element target.position) → IsRoundOf noted config (one ∷ rounds) 0 one
    ended_round config disks noted after current one rounds row_is step_is =
        let config_is : one.step.config ≡ (step_of timestamp config disks (Finish guid target.element target.position)).config = ap (λ (step : Step). step.config) step_is in
        record {
          after = after;
          current = current;
          how = inr (
            row_is,
            subst (λ (c : Configuration). IsEnded guid target.element target.position noted start c) (sym config_is)
                (ended_after guid target.element target.position noted start config after (raised config.sequence 1)),
          );
          next_current = λ disk. ap (λ (c : Configuration). has_current c disk) config_is
              ∙ kept_current group config (Finish guid target.element target.position) (λ reference member. refl) (raised config.sequence 1) disk ∙ current disk;
        }

    later_round : (noted : Option ℕ) (config : Configuration) (one : Round) (rounds : List Round) (number : ℕ) (round : Round) → IsRoundOf (Some one.row) one.step.config rounds number round
        → IsRoundOf noted config (one ∷ rounds) (suc number) round
    later_round noted config one rounds number round is = record { after = is.after; current = is.current; how = is.how; next_current = is.next_current }

    none_behind : (rounds : List Round) (number : ℕ) (round : Round) → [] ≡ rows_of rounds → slice_get rounds number ≡ Some round → ⊥
    none_behind [] number round none at = cc
    none_behind (one ∷ rounds) number round none at = cc

    -- Each round is one of these, by the steps of the notes and the end.
    pub at_round : (rows : List ℕ) (low : ℕ) → Rise low rows → (config : Configuration) (disks : List Seated) → IsOutAt config guid target.element target.position low
        → (rounds : List Round) → steps_from timestamp None (notes_and_end guid target rows) config disks ≡ Ok (steps_of rounds) → rows_of rounds ≡ rows ++ end ∷ []
        → (noted : Option ℕ) → IsAfter guid target.element target.position noted start config → ((disk : Disk) → has_current config disk ≡ has_current start disk)
        → (number : ℕ) (round : Round) → slice_get rounds number ≡ Some round → IsRoundOf noted config rounds number round
    at_round rows low rise config disks out [] h rows_are noted after current number round at = absurd cc
    at_round [] low rise config disks out (one ∷ rounds) h rows_are noted after current zero round at =
        let first = has_first timestamp config disks (Finish guid target.element target.position) [] (finish_steps config guid target.element target.position low out) (steps_of (one ∷ rounds)) h in
        subst (λ (each : Round). IsRoundOf noted config (one ∷ rounds) 0 each) (some_is at)
        (ended_round config disks noted after current one rounds (head_is rows_are) (head_is first.steps_are))
    at_round [] low rise config disks out (one ∷ rounds) h rows_are noted after current (suc number) round at = absurd (none_behind rounds number round (sym (tail_is rows_are)) at)
    at_round (row ∷ rows) low rise config disks out (one ∷ rounds) h rows_are noted after current zero round at =
        let less = rise.0 in
        let first = has_first timestamp config disks (Progress guid target.element target.position row) (notes_and_end guid target rows)
        (progress_steps config guid target.element target.position low out row less) (steps_of (one ∷ rounds)) h in
        subst (λ (each : Round). IsRoundOf noted config (one ∷ rounds) 0 each) (some_is at)
        (noted_round row low (omega (arith, less)) config disks noted after current one rounds (head_is rows_are) (head_is first.steps_are))
    at_round (row ∷ rows) low rise config disks out (one ∷ rounds) h rows_are noted after current (suc number) round at =
        let less = rise.0 in
        let change = Progress guid target.element target.position row in
        let first = has_first timestamp config disks change (notes_and_end guid target rows)
        (progress_steps config guid target.element target.position low out row less) (steps_of (one ∷ rounds)) h in
        let row_is : one.row ≡ row = head_is rows_are in
        let step_is : one.step ≡ step_of timestamp config disks change = head_is first.steps_are in
        let rest_are : steps_of rounds ≡ first.behind = tail_is first.steps_are in
        let here = noted_round row low (omega (arith, less)) config disks noted after current one rounds row_is step_is in
        later_round noted config one rounds number round
        (at_round rows row rise.1 one.step.config (map levelled (step_of timestamp config disks change).disks)
        (subst (λ (step : Step). IsOutAt step.config guid target.element target.position row) (sym step_is)
        (out_progressed config guid target.element target.position low out row (raised config.sequence 1)))
        rounds
        (subst (λ (step : Step). steps_from timestamp None (notes_and_end guid target rows) step.config (map levelled (step_of timestamp config disks change).disks) ≡ Ok (steps_of rounds)) (sym step_is)
        (first.behind_are ∙ ap (λ (steps : List Step). Ok steps) (sym rest_are)))
        (tail_is rows_are) (Some one.row) (noted_next row config disks noted after one row_is step_is) here.next_current number round at)
