-- A change that a call issues behind its recovery: how far the call came then, and that it is over once the change is acknowledged.
use Rattle.std.proofs.Common.{◌≡◌, ◌⊎◌, ℕ, ◌+◌, ◌<◌, ◌≤◌, Bool, true, false, not, cond, List, [], ◌∷◌, ◌++◌, length, map, take, Option, Some, None, if◌then◌else◌, inl, inr, refl, ap, sym, ◌∙◌, arith, subst, length-append, append-nil}
use Rattle.std.proofs.Math.Seq.{take-length}
use Rattle.std.proofs.lemmas.Bool.{eqb-true, false≢true}
use Rattle.std.proofs.lemmas.List.{length-take-le, map-append}
use Rattle.std.proofs.lemmas.List.Elements.{filter-append}
use Rattle.std.specs.Prelude.{filter, option_map, option_to_list, ◌==◌}
use Rattle.ddf_config.specs.Configuration.{Configuration}
use Rattle.ddf_plan.specs.declared.change.Change.{Change}
use Rattle.ddf_view.proofs.Finds.{place_within}
use Rattle.ddf_history.specs.Groups.{groups}
use Rattle.ddf_history.specs.Issued.{Past, IsSince, acknowledge, issue, leave_out, take_off}
use Rattle.ddf_steps.specs.Committed.{DoRise}
use Rattle.ddf_recovery.specs.Committed.{WasReadied, group_recovered}
use Rattle.ddf_seats.specs.Group.{GroupValue}
use Rattle.ddf_steps.specs.Ready.{ReadyStep}
use Rattle.ddf_recovery.specs.Ready.{ReadyValue, all_ready}
use Rattle.ddf_recovery.specs.Recovery.{config_lost, config_recovered, recovery_of}
use Rattle.ddf_seats.specs.Leading.{some}
use Rattle.ddf_steps.specs.Steps.{Step}
use Rattle.ddf_recovery.proofs.ReadiedParts.{loss_rises}
use Rattle.ddf_recovery.proofs.RecoveredGroup.{is_recovered, none_left, recovered_ready}
use Rattle.ddf_history_steps.specs.Going.{IsOver, IsUnderway, begun, changes_in, issue_all}

-- ---- issued changes

module _ (group : List ℕ) where
  -- A change is issued behind others.
  issue_more : (past : Past (groups group)) (changes : List Configuration) (next : Configuration)
      → issue_all group past (changes ++ next ∷ []) ≡ issue (issue_all group past changes) next
  issue_more past [] next = refl
  issue_more past (first ∷ changes) next = issue_more (issue past first) changes next

  -- So many changes are issued then.
  issued_many : (past : Past (groups group)) (changes : List Configuration)
      → length (issue_all group past changes).changes.issued ≡ length past.changes.issued + length changes
  issued_many past [] = omega arith
  issued_many past (first ∷ changes) =
      let more : length (past.changes.issued ++ first ∷ []) ≡ length past.changes.issued + 1 = length-append past.changes.issued (first ∷ []) in
      let all = issued_many (issue past first) changes in
      omega (arith, more, all)

  module _ (past : Past (groups group)) (readable : ℕ → Bool) (found : GroupValue) (number : ℕ) (since : IsSince past.changes number found.config) where
    abbrev start : Past (groups group)
    start = begun group past readable found number

    begun_issued : start.changes.issued ≡ take (number + 1) past.changes.issued
    begun_issued = by (some found.absent)
      where
        by : (absent : Bool) → (if absent then take_off (leave_out past readable found.config) number else take_off past number).changes.issued
            ≡ take (number + 1) past.changes.issued
        by true = refl
        by false = refl

    -- What was assembled is the last of those that the call begins with.
    begun_many : length start.changes.issued ≡ number + 1
    begun_many =
        let within = place_within past.changes.issued number found.config since.is_there in
        ap (λ (all : List Configuration). length all) begun_issued ∙ length-take-le (number + 1) past.changes.issued (omega (arith, within))

    module _ (changes : List Configuration) (next : Configuration) where
      abbrev before : Past (groups group)
      before = issue_all group start changes

      -- The change is issued behind the others, of which the last was acknowledged.
      pub change_goes : (acked : ℕ) → (acked ≡ past.changes.acked) ⊎ (number ≤ acked) → acked ≡ number + length changes
          → IsUnderway group past readable found (changes ++ next ∷ []) (issue (acknowledge before acked) next)
      change_goes acked stands last = record {
        number = number;
        since = since;
        issued = length (changes ++ next ∷ []);
        few = omega arith;
        loses = λ absent. let more : length (changes ++ next ∷ []) ≡ length changes + 1 = length-append changes (next ∷ []) in omega (arith, more);
        acked = acked;
        stands = stands;
        most = let more : length (changes ++ next ∷ []) ≡ length changes + 1 = length-append changes (next ∷ []) in omega (arith, last, more);
        in_turn = let more : length (changes ++ next ∷ []) ≡ length changes + 1 = length-append changes (next ∷ []) in inr (inl (omega (arith, last, more)));
        is_now = ap (λ (now : Past (groups group)). acknowledge now acked)
            (sym (issue_more start changes next) ∙ ap (issue_all group start) (sym (take-length (changes ++ next ∷ []))));
      }

      -- Once it is acknowledged, the call is over.
      pub change_over : (acked : ℕ)
          → IsOver group past readable found (changes ++ next ∷ []) (acknowledge (issue (acknowledge before acked) next) (length before.changes.issued))
      change_over acked =
          let more : length (changes ++ next ∷ []) ≡ length changes + 1 = length-append changes (next ∷ []) in
          let many = issued_many start changes in
          let first = begun_many in
          let last : length before.changes.issued ≡ number + length (changes ++ next ∷ []) = omega (arith, more, many, first) in
          record {
            number = number;
            since = since;
            is_now = ap (λ (n : ℕ). acknowledge (issue before next) n) last
                ∙ ap (λ (now : Past (groups group)). acknowledge now (number + length (changes ++ next ∷ []))) (sym (issue_more start changes next));
          }

-- ---- the changes of a call

-- Steps issue what each of them does.
pub changes_of_both : (found : GroupValue) (steps others : List Step) → changes_in found (steps ++ others) ≡ changes_in found steps ++ changes_in found others
changes_of_both found steps others =
    let raises = λ (step : Step). not (step.config.sequence == found.config.sequence) in
    ap (map (λ (step : Step). step.config)) (filter-append raises steps others)
    ∙ map-append (λ (step : Step). step.config) (filter raises steps) (filter raises others)

-- The recovery's step is that of what is ready.
recovery_listed : (recovery : Option ReadyStep)
    → map (λ (one : ReadyStep). one.step) (option_to_list recovery) ≡ option_to_list (option_map (λ (one : ReadyStep). one.step) recovery)
recovery_listed None = refl
recovery_listed (Some one) = refl

module _ (found : GroupValue) (asked : List Change) (timestamp : ℕ) (ready : ReadyValue) (was : WasReadied found asked timestamp ready) where
  -- what the recovery issues
  abbrev recovered : List Configuration
  recovered = changes_in found (option_to_list (recovery_of timestamp found))

  -- What the steps issue together.
  pub changes_are : changes_in found (map (λ (one : ReadyStep). one.step) (all_ready ready))
      ≡ recovered ++ changes_in found (map (λ (one : ReadyStep). one.step) ready.steps)
  changes_are =
      ap (changes_in found) (map-append (λ (one : ReadyStep). one.step) (option_to_list ready.recovery) ready.steps)
      ∙ changes_of_both found (map (λ (one : ReadyStep). one.step) (option_to_list ready.recovery)) (map (λ (one : ReadyStep). one.step) ready.steps)
      ∙ ap (λ (steps : List Step). changes_in found steps ++ changes_in found (map (λ (one : ReadyStep). one.step) ready.steps))
      (recovery_listed ready.recovery ∙ ap (λ (step : Option Step). option_to_list step) was.is_recovery)

  -- The recovery doesn't lower the sequence number.
  pub no_lower : found.config.sequence ≤ (config_recovered found).sequence
  unfolding config_recovered
  no_lower = by (some found.absent) refl ready.recovery refl
    where
      by : (absent : Bool) → some found.absent ≡ absent → (next : Option ReadyStep) → ready.recovery ≡ next
          → found.config.sequence ≤ (if some found.absent then config_lost found else found.config).sequence
      by true lost None none =
          let left = none_left timestamp found (sym (ap (option_map (λ (one : ReadyStep). one.step)) none) ∙ was.is_recovery) in
          absurd (false≢true (sym (ap some left.0) ∙ lost))
      by true lost (Some one) is = let rises = loss_rises found asked timestamp ready was one is lost in rw lost (omega (arith, rises))
      by false kept next is = rw kept (omega arith)

  -- The first step behind it raises the sequence number.
  raises : (one : ReadyStep) → ready.steps ≡ one ∷ [] → (one.step.config.sequence == found.config.sequence) ≡ false
  raises one first = by (one.step.config.sequence == found.config.sequence) refl
    where
      by : (same : Bool) → (one.step.config.sequence == found.config.sequence) ≡ same → (one.step.config.sequence == found.config.sequence) ≡ false
      by false differ = differ
      by true same =
          let is = is_recovered found asked timestamp ready was in
          let rise = (subst (DoRise (group_recovered found ready.recovery).config.sequence) first (recovered_ready found asked timestamp ready was).rises).0 in
          let behind : (config_recovered found).sequence < one.step.config.sequence = rw is.config_is at rise in
          absurd (omega (arith, behind, no_lower, eqb-true one.step.config.sequence found.config.sequence same))

  -- Behind the recovery the first step issues its configuration.
  pub changes_behind : (one : ReadyStep) → ready.steps ≡ one ∷ []
      → changes_in found (map (λ (one : ReadyStep). one.step) (all_ready ready)) ≡ recovered ++ one.step.config ∷ []
  changes_behind one first =
      changes_are
      ∙ ap (λ (steps : List ReadyStep). recovered ++ changes_in found (map (λ (one : ReadyStep). one.step) steps)) first
      ∙ ap (λ (same : Bool). recovered ++ map (λ (step : Step). step.config) (cond (not same) (one.step ∷ []) [])) (raises one first)

  -- Where there is none, the recovery alone issues one.
  pub changes_alone : ready.steps ≡ [] → changes_in found (map (λ (one : ReadyStep). one.step) (all_ready ready)) ≡ recovered
  changes_alone none =
      changes_are
      ∙ ap (λ (steps : List ReadyStep). recovered ++ changes_in found (map (λ (one : ReadyStep). one.step) steps)) none
      ∙ append-nil recovered
