-- How far a call has come in a history of its group, change by change.
use Rattle.std.proofs.Common.{◌≡◌, ℕ, zero, suc, ◌+◌, ◌<◌, ◌≤◌, ◌==◌, not, Bool, true, false, List, [], ◌∷◌, ◌++◌, length, map, take, cond, if◌then◌else◌, inl, inr, ⊎_elim, refl, sym, ap, subst, ◌∙◌, arith, append_assoc, append-nil, length-append}
use Rattle.std.proofs.lemmas.Bool.{eqb-true}
use Rattle.std.proofs.lemmas.List.{length-take-le, map-append, take-append-le}
use Rattle.std.proofs.lemmas.List.Elements.{filter-append}
use Rattle.std.proofs.Math.Seq.{take-append_seam}
use Rattle.std.specs.Prelude.{Some, filter, slice_get}
use Rattle.std.specs.List.{AllByRecursion}
use Rattle.ddf_config.specs.Configuration.{Configuration}
use Rattle.ddf_history.specs.Groups.{groups}
use Rattle.ddf_view.proofs.Finds.{place_within}
use Rattle.ddf_history.specs.Issued.{Past, acknowledge, issue, leave_out, take_off}
use Rattle.ddf_seats.specs.Group.{GroupValue}
use Rattle.ddf_seats.specs.Leading.{some}
use Rattle.ddf_steps.specs.Steps.{Step}
use Rattle.ddf_history_steps.specs.Going.{Goes, IsOver, IsUnderway, begun, changes_in, issue_all}
use Rattle.ddf_history_steps.proofs.CommittingGoes.{change_goes, change_over}
use Rattle.ddf_rebuild_command.specs.Filled.{HasComeIn, behind_rounds, made}
use Rattle.ddf_rebuild_command.specs.Rounds.{Round, steps_of}
use Rattle.ddf_rebuild_command.specs.Stages.{Stage}
use Rattle.ddf_rebuild_command.specs.Stages.Stage.{Filling, Noting, Opening}

-- ---- the changes of steps

pub changes_both : (found : GroupValue) (steps others : List Step) → changes_in found (steps ++ others) ≡ changes_in found steps ++ changes_in found others
changes_both found steps others =
    let raises = λ (step : Step). not (step.config.sequence == found.config.sequence) in
    ap (map (λ (step : Step). step.config)) (filter-append raises steps others)
    ∙ map-append (λ (step : Step). step.config) (filter raises steps) (filter raises others)

-- A step to a greater sequence number issues its configuration.
pub change_of : (found : GroupValue) (step : Step) → found.config.sequence < step.config.sequence → changes_in found (step ∷ []) ≡ step.config ∷ []
change_of found step rises = by (step.config.sequence == found.config.sequence) refl
  where
    by : (same : Bool) → (step.config.sequence == found.config.sequence) ≡ same
        → map (λ (one : Step). one.config) (cond (not (step.config.sequence == found.config.sequence)) (step ∷ []) []) ≡ step.config ∷ []
    by true e = absurd (omega (arith, rises, eqb-true step.config.sequence found.config.sequence e))
    by false e = ap (λ (same : Bool). map (λ (one : Step). one.config) (cond (not same) (step ∷ []) [])) e

-- ---- how far it came

module _ (group : List ℕ) (past : Past (groups group)) (readable : ℕ → Bool) (found : GroupValue) where
  -- A call of more changes came as far.
  pub goes_more : (first later : List Configuration) (now : Past (groups group)) → Goes group past readable found first now → Goes group past readable found (first ++ later) now
  goes_more first later now (inl before) = inl before
  goes_more first later now (inr way) =
      let few = way.few in
      let long = length-append first later in
      inr (record {
        number = way.number;
        since = way.since;
        issued = way.issued;
        few = omega (arith, few, long);
        loses = way.loses;
        acked = way.acked;
        stands = way.stands;
        most = way.most;
        in_turn = way.in_turn;
        is_now = way.is_now
            ∙ ap (λ (changes : List Configuration). acknowledge (issue_all group (begun group past readable found way.number) changes) way.acked)
            (sym (take-append-le way.issued first later few));
      })

  module _ (first : List Configuration) (now : Past (groups group)) (over : IsOver group past readable found first now) (loses : some found.absent ≡ true → 1 ≤ length first) where
    -- All of its first changes are acknowledged.
    pub over_goes : (later : List Configuration) → Goes group past readable found (first ++ later) now
    over_goes later =
        let long = length-append first later in
        inr (record {
          number = over.number;
          since = over.since;
          issued = length first;
          few = omega (arith, long);
          loses = loses;
          acked = over.number + length first;
          stands = inr (omega arith);
          most = omega arith;
          in_turn = inr (inl (omega arith));
          is_now = over.is_now
              ∙ ap (λ (changes : List Configuration). acknowledge (issue_all group (begun group past readable found over.number) changes) (over.number + length first))
              (sym (take-append_seam first later));
        })

    -- The next one is issued behind them,
    pub issue_goes : (next : Configuration) (later : List Configuration) → Goes group past readable found (first ++ next ∷ later) (issue now next)
    issue_goes next later =
        subst (λ (changes : List Configuration). Goes group past readable found changes (issue now next)) (append_assoc first (next ∷ []) later)
        (goes_more (first ++ next ∷ []) later (issue now next)
        (inr (subst (λ (before : Past (groups group)). IsUnderway group past readable found (first ++ next ∷ []) (issue before next)) (sym over.is_now)
        (change_goes group past readable found over.number over.since first next (over.number + length first) (inr (omega arith)) (omega arith)))))

    -- and acknowledged.
    pub next_over : (next : Configuration) → IsOver group past readable found (first ++ next ∷ []) (made group now next)
    next_over next =
        subst (λ (before : Past (groups group)). IsOver group past readable found (first ++ next ∷ []) (made group before next)) (sym over.is_now)
        (change_over group past readable found over.number over.since first next (over.number + length first))

    pub next_loses : (next : Configuration) → some found.absent ≡ true → 1 ≤ length (first ++ next ∷ [])
    next_loses next absent = let least = loses absent in let long = length-append first (next ∷ []) in omega (arith, least, long)

-- ---- the number of the last change

module _ (group : List ℕ) where
  issued_many : (past : Past (groups group)) (changes : List Configuration) → length (issue_all group past changes).changes.issued ≡ length past.changes.issued + length changes
  issued_many past [] = omega arith
  issued_many past (first ∷ changes) =
      let more : length (past.changes.issued ++ first ∷ []) ≡ length past.changes.issued + 1 = length-append past.changes.issued (first ∷ []) in
      let all = issued_many (issue past first) changes in
      omega (arith, more, all)

  -- Where a call is over the last change that is issued is acknowledged.
  pub over_counts : (past : Past (groups group)) (readable : ℕ → Bool) (found : GroupValue) (changes : List Configuration) (now : Past (groups group))
      → IsOver group past readable found changes now → length now.changes.issued ≡ now.changes.acked + 1
  over_counts past readable found changes now over =
      let within = place_within past.changes.issued over.number found.config over.since.is_there in
      let first : length (begun group past readable found over.number).changes.issued ≡ over.number + 1 =
      ap (λ (all : List Configuration). length all) (by (some found.absent)) ∙ length-take-le (over.number + 1) past.changes.issued (omega (arith, within)) in
      let many = issued_many (begun group past readable found over.number) changes in
      let issued : length now.changes.issued ≡ length (issue_all group (begun group past readable found over.number) changes).changes.issued = ap (λ (one : Past (groups group)). length one.changes.issued) over.is_now in
      let acked : now.changes.acked ≡ over.number + length changes = ap (λ (one : Past (groups group)). one.changes.acked) over.is_now in
      omega (arith, first, many, issued, acked)
    where
      by : (absent : Bool) → (if absent then take_off (leave_out past readable found.config) over.number else take_off past over.number).changes.issued ≡ take (over.number + 1) past.changes.issued
      by true = refl
      by false = refl

-- ---- rounds

-- Each step of the rounds has a greater sequence number than this one.
abbrev pub AreAbove : (sequence : ℕ) → List Round → Type 0
AreAbove sequence rounds = AllByRecursion (λ round. sequence < round.step.config.sequence) rounds

pub above_first : (sequence number : ℕ) (rounds : List Round) → AreAbove sequence rounds → AreAbove sequence (take number rounds)
above_first sequence zero rounds above = tt
above_first sequence (suc number) [] above = tt
above_first sequence (suc number) (round ∷ rounds) above = (above.0, above_first sequence number rounds above.1)

pub above_at : (sequence number : ℕ) (rounds : List Round) (round : Round) → AreAbove sequence rounds → slice_get rounds number ≡ Some round → sequence < round.step.config.sequence
above_at sequence number [] round above at = absurd cc
above_at sequence zero (first ∷ rounds) round above at = let same : first ≡ round = cc in subst (λ (one : Round). sequence < one.step.config.sequence) same above.0
above_at sequence (suc number) (first ∷ rounds) round above at = above_at sequence number rounds round above.1 at

module _ (group : List ℕ) (past : Past (groups group)) (readable : ℕ → Bool) (found : GroupValue) where
  module _ (before : List Step) (step : Step) (rises : found.config.sequence < step.config.sequence) where
    one_more : changes_in found (before ++ step ∷ []) ≡ changes_in found before ++ step.config ∷ []
    one_more = changes_both found before (step ∷ []) ∙ ap (λ (changes : List Configuration). changes_in found before ++ changes) (change_of found step rises)

    over_one : (now : Past (groups group)) → IsOver group past readable found (changes_in found before) now → (some found.absent ≡ true → 1 ≤ length (changes_in found before))
        → IsOver group past readable found (changes_in found (before ++ step ∷ [])) (made group now step.config)
    over_one now over loses =
        subst (λ (changes : List Configuration). IsOver group past readable found changes (made group now step.config)) (sym one_more)
        (next_over group past readable found (changes_in found before) now over loses step.config)

    loses_one : (some found.absent ≡ true → 1 ≤ length (changes_in found before)) → some found.absent ≡ true → 1 ≤ length (changes_in found (before ++ step ∷ []))
    loses_one loses absent =
        let least = loses absent in
        let long = length-append (changes_in found before) (step.config ∷ []) in
        subst (λ (changes : List Configuration). 1 ≤ length changes) (sym one_more) (omega (arith, least, long))

  -- Behind rounds the call is over with the changes of these too.
  pub over_rounds : (rounds : List Round) → AreAbove found.config.sequence rounds → (before : List Step) (now : Past (groups group)) → IsOver group past readable found (changes_in found before) now
      → (some found.absent ≡ true → 1 ≤ length (changes_in found before)) → IsOver group past readable found (changes_in found (before ++ steps_of rounds)) (behind_rounds group now rounds)
  over_rounds [] above before now over loses = subst (λ (steps : List Step). IsOver group past readable found (changes_in found steps) now) (sym (append-nil before)) over
  over_rounds (round ∷ rounds) above before now over loses =
      subst (λ (steps : List Step). IsOver group past readable found (changes_in found steps) (behind_rounds group (made group now round.step.config) rounds)) (append_assoc before (round.step ∷ []) (steps_of rounds))
      (over_rounds rounds above.1 (before ++ round.step ∷ []) (made group now round.step.config) (over_one before round.step above.0 now over loses) (loses_one before round.step above.0 loses))

  -- On their way it has come as far by the changes of all.
  abbrev GoesTo : List Step → Past (groups group) → Type 0
  GoesTo steps now = Goes group past readable found (changes_in found steps) now

  pub rounds_goes : (rounds : List Round) → AreAbove found.config.sequence rounds → (before : List Step) (first : Past (groups group)) → IsOver group past readable found (changes_in found before) first
      → (some found.absent ≡ true → 1 ≤ length (changes_in found before)) → (stage : Stage) (now : Past (groups group)) → HasComeIn group first rounds stage now → GoesTo (before ++ steps_of rounds) now
  rounds_goes rounds above before first over loses Opening now come = absurd come
  rounds_goes rounds above before first over loses (Filling zero) now come =
      subst (λ (one : Past (groups group)). GoesTo (before ++ steps_of rounds) one) (sym come)
      (subst (λ (changes : List Configuration). Goes group past readable found changes first) (sym (changes_both found before (steps_of rounds)))
      (over_goes group past readable found (changes_in found before) first over loses (changes_in found (steps_of rounds))))
  rounds_goes [] above before first over loses (Filling (suc number)) now come =
      subst (λ (one : Past (groups group)). GoesTo (before ++ []) one) (sym come)
      (subst (λ (changes : List Configuration). Goes group past readable found changes first) (sym (changes_both found before []))
      (over_goes group past readable found (changes_in found before) first over loses (changes_in found [])))
  rounds_goes (round ∷ rounds) above before first over loses (Filling (suc number)) now come =
      subst (λ (steps : List Step). GoesTo steps now) (append_assoc before (round.step ∷ []) (steps_of rounds))
      (rounds_goes rounds above.1 (before ++ round.step ∷ []) (made group first round.step.config) (over_one before round.step above.0 first over loses) (loses_one before round.step above.0 loses)
      (Filling number) now come)
  rounds_goes [] above before first over loses (Noting number) now come = let at = come.1 in absurd cc
  rounds_goes (round ∷ rounds) above before first over loses (Noting zero) now come =
      let same : round ≡ come.0 = (let at = come.1 in cc) in
      let all : changes_in found (before ++ round.step ∷ steps_of rounds) ≡ changes_in found before ++ round.step.config ∷ changes_in found (steps_of rounds) =
      changes_both found before (round.step ∷ steps_of rounds)
      ∙ ap (λ (changes : List Configuration). changes_in found before ++ changes)
      (changes_both found (round.step ∷ []) (steps_of rounds) ∙ ap (λ (changes : List Configuration). changes ++ changes_in found (steps_of rounds)) (change_of found round.step above.0)) in
      subst (λ (changes : List Configuration). Goes group past readable found changes now) (sym all)
      (⊎_elim
      (λ issued. subst (λ (one : Past (groups group)). Goes group past readable found (changes_in found before ++ round.step.config ∷ changes_in found (steps_of rounds)) one)
      (sym (issued ∙ ap (λ (one : Round). issue first one.step.config) (sym same)))
      (issue_goes group past readable found (changes_in found before) first over loses round.step.config (changes_in found (steps_of rounds))))
      (λ acked. subst (λ (one : Past (groups group)). Goes group past readable found (changes_in found before ++ round.step.config ∷ changes_in found (steps_of rounds)) one)
      (sym (acked ∙ ap (λ (one : Round). made group first one.step.config) (sym same)))
      (subst (λ (changes : List Configuration). Goes group past readable found changes (made group first round.step.config)) (append_assoc (changes_in found before) (round.step.config ∷ []) (changes_in found (steps_of rounds)))
      (over_goes group past readable found (changes_in found before ++ round.step.config ∷ []) (made group first round.step.config) (next_over group past readable found (changes_in found before) first over loses round.step.config)
      (next_loses group past readable found (changes_in found before) first over loses round.step.config) (changes_in found (steps_of rounds)))))
      come.2)
  rounds_goes (round ∷ rounds) above before first over loses (Noting (suc number)) now come =
      subst (λ (steps : List Step). GoesTo steps now) (append_assoc before (round.step ∷ []) (steps_of rounds))
      (rounds_goes rounds above.1 (before ++ round.step ∷ []) (made group first round.step.config) (over_one before round.step above.0 first over loses) (loses_one before round.step above.0 loses)
      (Noting number) now come)
