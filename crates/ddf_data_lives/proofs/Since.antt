-- Which configurations stand since the last acknowledged one, behind a call of any kind.
use Rattle.std.proofs.Common.{◌≡◌, ◌⊎◌, ℕ, suc, ◌+◌, ◌≤◌, Bool, true, false, List, [], ◌∷◌, length, take, Some, if◌then◌else◌, ap, sym, subst, inl, inr, ⊎_elim, arith}
use Rattle.std.specs.Prelude.{slice_get}
use Rattle.ddf_config.specs.Configuration.{Configuration}
use Rattle.ddf_history.specs.Groups.{groups}
use Rattle.ddf_history.specs.Issued.{IsSince, Past, issue, leave_out, take_off}
use Rattle.ddf_history.proofs.Lists.{get_more, get_taken}
use Rattle.ddf_seats.specs.Group.{GroupValue}
use Rattle.ddf_seats.specs.Leading.{some}
use Rattle.ddf_history_steps.specs.Going.{Ends, Goes, IsOver, begun, issue_all}

module _ (group : List ℕ) where
  -- An issued change is an earlier one, or one of these.
  issued_one : (past : Past (groups group)) (changes : List Configuration) (n : ℕ) (config : Configuration) → slice_get (issue_all group past changes).changes.issued n ≡ Some config
      → (slice_get past.changes.issued n ≡ Some config) ⊎ ((i : ℕ) × (slice_get changes i ≡ Some config))
  issued_one past [] n config at = inl at
  issued_one past (next ∷ others) n config at = elim (issued_one (issue past next) others n config at) [
    | inl before ↦ elim (get_more past.changes.issued next n config before) [
      | inl older ↦ inl older
      | inr new ↦ inr (0, ap Some (sym new.1))
    ]
    | inr later ↦ inr (suc later.0, later.1)
  ]

  module _ (past : Past (groups group)) (readable : ℕ → Bool) (found : GroupValue) where
    begun_one : (number n : ℕ) (config : Configuration) → slice_get (begun group past readable found number).changes.issued n ≡ Some config → slice_get past.changes.issued n ≡ Some config
    begun_one number n config at = by (some found.absent) at
      where
        by : (absent : Bool) → slice_get (if absent then take_off (leave_out past readable found.config) number else take_off past number).changes.issued n ≡ Some config
            → slice_get past.changes.issued n ≡ Some config
        by true is = (get_taken past.changes.issued (number + 1) n config is).0
        by false is = (get_taken past.changes.issued (number + 1) n config is).0

    module _ (P : Configuration → Type 0) (before : (number : ℕ) (config : Configuration) → IsSince past.changes number config → P config) where
      under : (number : ℕ) → IsSince past.changes number found.config → (changes : List Configuration) → ((place : ℕ) (config : Configuration) → slice_get changes place ≡ Some config → P config)
          → (acked n : ℕ) (config : Configuration) → (acked ≡ past.changes.acked) ⊎ (number ≤ acked) → acked ≤ n
          → slice_get (issue_all group (begun group past readable found number) changes).changes.issued n ≡ Some config → P config
      under number since changes each acked n config stands late at = elim (issued_one (begun group past readable found number) changes n config at) [
        | inl older ↦
            let from = since.late in
            before n config (record {
              late = ⊎_elim (λ same. omega (arith, same, late)) (λ far. omega (arith, far, from, late)) stands;
              is_there = begun_one number n config older;
            })
        | inr new ↦ each new.0 config new.1
      ]

      module _ (changes : List Configuration) (each : (place : ℕ) (config : Configuration) → slice_get changes place ≡ Some config → P config) where
        pub goes_since : (now : Past (groups group)) → Goes group past readable found changes now → (n : ℕ) (config : Configuration) → IsSince now.changes n config → P config
        goes_since now (inl same) n config since = before n config (subst (λ (one : Past (groups group)). IsSince one.changes n config) same since)
        goes_since now (inr is) n config since =
            let at = subst (λ (one : Past (groups group)). IsSince one.changes n config) is.is_now since in
            under is.number is.since (take is.issued changes) (λ place one there. each place one (get_taken changes is.issued place one there).0) is.acked n config is.stands at.late at.is_there

        pub over_since : (now : Past (groups group)) → IsOver group past readable found changes now → (n : ℕ) (config : Configuration) → IsSince now.changes n config → P config
        over_since now is n config since =
            let at = subst (λ (one : Past (groups group)). IsSince one.changes n config) is.is_now since in
            under is.number is.since changes each (is.number + length changes) n config (inr (omega arith)) at.late at.is_there

        pub ends_since : (done : Bool) (now : Past (groups group)) → Ends group past readable found changes done now → (n : ℕ) (config : Configuration) → IsSince now.changes n config → P config
        ends_since true now over = over_since now over
        ends_since false now goes = goes_since now goes
