-- What was acknowledged stays in the list, however far a call came.
use Rattle.std.proofs.Common.{◌≡◌, ℕ, ◌+◌, ◌≤◌, Bool, true, false, List, [], ◌∷◌, take, Some, slice_get, inl, inr, ⊎_elim, if◌then◌else◌, arith}
use Rattle.ddf_lemmas.proofs.Lists.{first_get}
use Rattle.ddf_config.specs.Configuration.{Configuration}
use Rattle.ddf_history.specs.Groups.{groups}
use Rattle.ddf_history.specs.History.{KeepsAcked}
use Rattle.ddf_history.specs.Issued.{Past, issue, leave_out, take_off}
use Rattle.ddf_history.proofs.Lists.{taken_get}
use Rattle.ddf_seats.specs.Group.{GroupValue}
use Rattle.ddf_seats.specs.Leading.{some}
use Rattle.ddf_history_steps.specs.Going.{Ends, Goes, IsOver, IsUnderway, begun, issue_all}

module _ (group : List ℕ) where
  -- issued changes stay where they are
  pub issued_stays : (past : Past (groups group)) (changes : List Configuration) (i : ℕ) (config : Configuration)
      → slice_get past.changes.issued i ≡ Some config → slice_get (issue_all group past changes).changes.issued i ≡ Some config
  issued_stays past [] i config at = at
  issued_stays past (next ∷ others) i config at = issued_stays (issue past next) others i config (first_get past.changes.issued (next ∷ []) i config at)

  -- those up to the one that was assembled stay where they are
  begun_stays : (past : Past (groups group)) (readable : ℕ → Bool) (found : GroupValue) (number i : ℕ) (config : Configuration) → i ≤ number
      → slice_get past.changes.issued i ≡ Some config → slice_get (begun group past readable found number).changes.issued i ≡ Some config
  begun_stays past readable found number i config le at = by (some found.absent)
    where
      by : (absent : Bool) → slice_get (if absent then take_off (leave_out past readable found.config) number else take_off past number).changes.issued i ≡ Some config
      by true = taken_get past.changes.issued (number + 1) i config at (omega (arith, le))
      by false = taken_get past.changes.issued (number + 1) i config at (omega (arith, le))

  -- A call under way keeps what was acknowledged.
  underway_keeps : (past now : Past (groups group)) (readable : ℕ → Bool) (found : GroupValue) (changes : List Configuration)
      → IsUnderway group past readable found changes now → KeepsAcked past now
  underway_keeps past now readable found changes is = rw is.is_now (record {
    later = let late = is.since.late in ⊎_elim (λ same. omega (arith, same)) (λ from. omega (arith, from, late)) is.stands;
    same = λ i config le at.
        let late = is.since.late in
        issued_stays (begun group past readable found is.number) (take is.issued changes) i config (begun_stays past readable found is.number i config (omega (arith, le, late)) at);
  })

  -- So does one that is over.
  over_keeps : (past now : Past (groups group)) (readable : ℕ → Bool) (found : GroupValue) (changes : List Configuration)
      → IsOver group past readable found changes now → KeepsAcked past now
  over_keeps past now readable found changes is = rw is.is_now (record {
    later = let late = is.since.late in omega (arith, late);
    same = λ i config le at.
        let late = is.since.late in
        issued_stays (begun group past readable found is.number) changes i config (begun_stays past readable found is.number i config (omega (arith, le, late)) at);
  })

  -- How far a call came, it keeps what was acknowledged.
  pub goes_keeps : (past now : Past (groups group)) (readable : ℕ → Bool) (found : GroupValue) (changes : List Configuration)
      → Goes group past readable found changes now → KeepsAcked past now
  goes_keeps past now readable found changes (inl same) = rw same (record { later = omega arith; same = λ i config le at. at })
  goes_keeps past now readable found changes (inr underway) = underway_keeps past now readable found changes underway

  -- At its end too.
  pub ends_keeps : (past now : Past (groups group)) (readable : ℕ → Bool) (found : GroupValue) (changes : List Configuration) (done : Bool)
      → Ends group past readable found changes done now → KeepsAcked past now
  ends_keeps past now readable found changes true over = over_keeps past now readable found changes over
  ends_keeps past now readable found changes false goes = goes_keeps past now readable found changes goes
