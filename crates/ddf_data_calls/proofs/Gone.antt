-- How far the changes of a call on blocks have come at each of its stages, as its history tells of it.
use Rattle.std.proofs.Common.{◌≡◌, ◌∙◌, inl, inr, ℕ, ◌+◌, ◌≤◌, Bool, true, false, List, [], ◌∷◌, ◌++◌, length, take, Ok, refl, sym, ap, subst, arith, length-append, if◌then◌else◌}
use Rattle.std.proofs.lemmas.List.{take-append-le}
use Rattle.std.proofs.Math.Seq.{take-append_seam, take-length}
use Rattle.ddf_config.specs.Configuration.{Configuration}
use Rattle.ddf_plan.specs.declared.change.Change.{Change}
use Rattle.ddf_history.specs.Groups.{groups}
use Rattle.ddf_history.specs.Issued.{Past, acknowledge, issue}
use Rattle.ddf_seats.specs.Group.{GroupValue}
use Rattle.ddf_recovery.specs.Ready.{readied}
use Rattle.ddf_recovery.specs.Recovery.{config_lost}
use Rattle.ddf_seats.specs.Leading.{some}
use Rattle.ddf_steps.specs.Steps.{Step}
use Rattle.ddf_recovery.proofs.ReadiedSteps.{behind}
use Rattle.ddf_history_steps.specs.Going.{Goes, IsOver, IsUnderway, begun, changes_in, issue_all}
use Rattle.ddf_history_steps.proofs.LastStep.{configs}
use Rattle.ddf_data_calls.proofs.Steps.{issued_are}

-- ---- changes that are issued one after another

module _ (group : List ℕ) where
  issued_parts : (past : Past (groups group)) (one other : List Configuration) → issue_all group past (one ++ other) ≡ issue_all group (issue_all group past one) other
  issued_parts past [] other = refl
  issued_parts past (next ∷ one) other = issued_parts (issue past next) one other

  issued_acked : (past : Past (groups group)) (acked : ℕ) (changes : List Configuration) → issue_all group (acknowledge past acked) changes ≡ acknowledge (issue_all group past changes) acked
  issued_acked past acked [] = refl
  issued_acked past acked (next ∷ others) = issued_acked (issue past next) acked others

  -- ---- a call of other changes

  module _ (past : Past (groups group)) (readable : ℕ → Bool) (found : GroupValue) where
    -- One came as far that begins with the changes that were issued.
    pub goes_by : (changes others : List Configuration) (now : Past (groups group)) (way : IsUnderway group past readable found changes now) → way.issued ≤ length others
        → take way.issued changes ≡ take way.issued others → Goes group past readable found others now
    goes_by changes others now way few same = inr (record {
      number = way.number;
      since = way.since;
      issued = way.issued;
      few = few;
      loses = way.loses;
      acked = way.acked;
      stands = way.stands;
      most = way.most;
      in_turn = way.in_turn;
      is_now = way.is_now ∙ ap (λ (some_of : List Configuration). acknowledge (issue_all group (begun group past readable found way.number) some_of) way.acked) same;
    })

  module _ (past : Past (groups group)) (readable : ℕ → Bool) (found : GroupValue) (first last : List Configuration) where
    -- One of more changes did.
    pub goes_more : (now : Past (groups group)) → Goes group past readable found first now → Goes group past readable found (first ++ last) now
    goes_more now (inl before) = inl before
    goes_more now (inr way) =
        let few = way.few in
        let long = length-append first last in
        goes_by past readable found first (first ++ last) now way (omega (arith, few, long)) (sym (take-append-le way.issued first last few))

    module _ (loses : some found.absent ≡ true → 1 ≤ length first) (before : Past (groups group)) (over : IsOver group past readable found first before) where
      -- its first changes are acknowledged;
      pub over_goes : Goes group past readable found (first ++ last) before
      over_goes =
          let long = length-append first last in
          inr (record {
            number = over.number;
            since = over.since;
            issued = length first;
            few = omega (arith, long);
            loses = loses;
            acked = over.number + length first;
            stands = inr (omega arith);
            most = omega arith;
            in_turn = inr (inl (omega arith));
            is_now = over.is_now
                ∙ ap (λ (changes : List Configuration). acknowledge (issue_all group (begun group past readable found over.number) changes) (over.number + length first)) (sym (take-append_seam first last));
          })

      issued_is : issue_all group before last ≡ acknowledge (issue_all group (begun group past readable found over.number) (first ++ last)) (over.number + length first)
      issued_is =
          ap (λ (start : Past (groups group)). issue_all group start last) over.is_now
          ∙ issued_acked (issue_all group (begun group past readable found over.number) first) (over.number + length first) last
          ∙ ap (λ (all : Past (groups group)). acknowledge all (over.number + length first)) (sym (issued_parts (begun group past readable found over.number) first last))

      loses_all : some found.absent ≡ true → 1 ≤ length (first ++ last)
      loses_all absent = let one = loses absent in let long = length-append first last in omega (arith, one, long)

      -- the other one is issued, where there is one;
      pub issued_goes : length last ≤ 1 → Goes group past readable found (first ++ last) (issue_all group before last)
      issued_goes one =
          let long = length-append first last in
          inr (record {
            number = over.number;
            since = over.since;
            issued = length (first ++ last);
            few = omega arith;
            loses = loses_all;
            acked = over.number + length first;
            stands = inr (omega arith);
            most = omega (arith, long);
            in_turn = inr (inl (omega (arith, long, one)));
            is_now = issued_is
                ∙ ap (λ (changes : List Configuration). acknowledge (issue_all group (begun group past readable found over.number) changes) (over.number + length first)) (sym (take-length (first ++ last)));
          })

      -- and acknowledged.
      pub acked_over : IsOver group past readable found (first ++ last) (acknowledge (issue_all group before last) (before.changes.acked + length last))
      acked_over =
          let long = length-append first last in
          let acked : before.changes.acked ≡ over.number + length first = ap (λ (start : Past (groups group)). start.changes.acked) over.is_now in
          let same : before.changes.acked + length last ≡ over.number + length (first ++ last) = omega (arith, long, acked) in
          record {
            number = over.number;
            since = over.since;
            is_now = ap (λ (all : Past (groups group)). acknowledge all (before.changes.acked + length last)) issued_is
                ∙ ap (acknowledge (issue_all group (begun group past readable found over.number) (first ++ last))) same;
          }

      pub acked_goes : Goes group past readable found (first ++ last) (acknowledge (issue_all group before last) (before.changes.acked + length last))
      acked_goes =
          let all = acked_over in
          inr (record {
            number = all.number;
            since = all.since;
            issued = length (first ++ last);
            few = omega arith;
            loses = loses_all;
            acked = all.number + length (first ++ last);
            stands = inr (omega arith);
            most = omega arith;
            in_turn = inr (inl (omega arith));
            is_now = all.is_now
                ∙ ap (λ (changes : List Configuration). acknowledge (issue_all group (begun group past readable found all.number) changes) (all.number + length (first ++ last))) (sym (take-length (first ++ last)));
          })

-- where members are absent their loss is issued first
pub steps_lose : (found : GroupValue) (changes : List Change) (timestamp : ℕ) (steps : List Step) → readied found changes timestamp ≡ Ok steps → some found.absent ≡ true → 1 ≤ length (changes_in found steps)
steps_lose found changes timestamp steps are absent =
    subst (λ (all : List Configuration). 1 ≤ length all) (sym (issued_are found changes timestamp steps are)) (by (some found.absent) absent)
  where
    by : (b : Bool) → b ≡ true → 1 ≤ length (if b then config_lost found ∷ configs (behind found changes timestamp steps are) else configs (behind found changes timestamp steps are))
    by true e = omega arith
    by false e = absurd cc
