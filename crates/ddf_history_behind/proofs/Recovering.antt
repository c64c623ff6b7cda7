-- A recovery issues no change but the loss of absent members, which is near each configuration before it.
use Rattle.std.proofs.Common.{◌≡◌, ◌⊎◌, ℕ, zero, suc, ◌+◌, ◌≤◌, ◌==◌, not, Bool, true, false, List, [], ◌∷◌, map, take, Some, None, if◌then◌else◌, cond, inl, inr, refl, ap, sym, ◌∙◌, subst, arith}
use Rattle.std.proofs.lemmas.Bool.{eq-eqb, false≢true}
use Rattle.std.specs.Prelude.{option_to_list}
use Rattle.std.specs.List.{AllByRecursion}
use Rattle.ddf_config.specs.Configuration.{Configuration}
use Rattle.ddf_config.specs.Members.{is_current}
use Rattle.ddf_plan.specs.declared.change.Change.TheVariants.{Lose}
use Rattle.ddf_plan.specs.Lose.{is_among}
use Rattle.ddf_history.specs.Groups.{groups}
use Rattle.ddf_history.specs.Issued.{Changes, IsChain, IsSince, Past, cut, issue, leave_out, take_off}
use Rattle.ddf_seats.specs.Group.{GroupValue}
use Rattle.ddf_seats.specs.Leading.{some}
use Rattle.ddf_steps.specs.Steps.{Step}
use Rattle.ddf_recovery.specs.Recovery.{config_lost, lost_step, mending_step, recovery_of}
use Rattle.ddf_history_steps.specs.Going.{Goes, IsUnderway, begun, changes_in, issue_all}
use Rattle.ddf_history_steps.specs.Steps.{recovery_changes}
use Rattle.ddf_history_behind.specs.Behind.{AreNear, most_between}
use Rattle.ddf_history_behind.proofs.Losing.{lost_more}
use Rattle.ddf_history_behind.proofs.Near.{near_acknowledged, near_cut, near_issued, since_cut}
use Rattle.ddf_history_behind.proofs.Steps.{first_among, raised_most}

-- ---- what it issues

-- It issues nothing, or the loss alone where members are absent.
abbrev pub IsLossAlone : GroupValue → List Configuration → Type 0
IsLossAlone found changes = (changes ≡ []) ⊎ ((some found.absent ≡ true) × (changes ≡ config_lost found ∷ []))

module _ (timestamp : ℕ) (found : GroupValue) where
  -- one step, as it raises the sequence number or not
  abbrev one_issued : Step → Bool → List Configuration
  one_issued step same = map (λ (one : Step). one.config) (cond (not same) (step ∷ []) [])

  lost_issued : some found.absent ≡ true → (same : Bool) → IsLossAlone found (one_issued (lost_step timestamp found) same)
  lost_issued absent true = inl refl
  lost_issued absent false = inr (absent, refl)

  mending_issued : (same : Bool) → same ≡ true → IsLossAlone found (one_issued (mending_step timestamp found) same)
  mending_issued true is = inl refl
  mending_issued false is = absurd (false≢true is)

  by_state : (absent lagging : Bool) → some found.absent ≡ absent
      → IsLossAlone found (changes_in found (option_to_list (if absent then Some (lost_step timestamp found) else if lagging then Some (mending_step timestamp found) else None)))
  by_state true lagging is = lost_issued is ((config_lost found).sequence == found.config.sequence)
  by_state false true is = mending_issued (found.config.sequence == found.config.sequence) (eq-eqb found.config.sequence found.config.sequence refl)
  by_state false false is = inl refl

  pub few_issued : IsLossAlone found (recovery_changes timestamp found)
  unfolding recovery_of
  few_issued = by_state (some found.absent) (some found.lagging) refl

-- ---- how near the loss is

-- The first of some that are absent.
pub first_absent : (config : Configuration) (absent : List ℕ) → some absent ≡ true → AllByRecursion (λ reference. is_current config.members reference ≡ true) absent
    → (reference : ℕ) × (others : List ℕ) × (absent ≡ reference ∷ others) × (is_current config.members reference ≡ true)
first_absent config [] some current = absurd (false≢true some)
first_absent config (reference ∷ others) some current = (reference, others, refl, current.0)

module _ (group : List ℕ) (past : Past (groups group)) (chain : IsChain past.changes) (found : GroupValue)
    (current : AllByRecursion (λ reference. is_current found.config.members reference ≡ true) found.absent) (near : AreNear group past.changes)
    (number : ℕ) (since : IsSince past.changes number found.config) where
  -- It is near each that was issued before what is assembled.
  loss_near : some found.absent ≡ true → (i : ℕ) (earlier : Configuration) → IsSince (cut past.changes number) i earlier
      → (config_lost found).sequence ≤ earlier.sequence + most_between earlier (config_lost found)
  loss_near absent i earlier at =
      let was = since_cut group past.changes number i earlier at in
      let below = was.1 in
      let le : i ≤ number = omega (arith, below) in
      let first = first_absent found.config found.absent absent current in
      let among = subst (λ (all : List ℕ). is_among all first.0 ≡ true) (sym first.2) (first_among first.0 first.1) in
      let most = raised_most found.config.sequence 2 in
      let before = near i number earlier found.config was.0 since le in
      let more = lost_more earlier found.config (Lose found.absent) (config_lost found).sequence first.0 first.3 among
      (λ disk is_current missing. chain.stays_missing i number earlier found.config disk was.0 since le missing is_current) in
      omega (arith, most, before, more)

  module _ (readable : ℕ → Bool) where
    -- what the call begins with
    abbrev start : Past (groups group)
    start = begun group past readable found number

    pub start_changes : start.changes ≡ cut past.changes number
    start_changes = by (some found.absent)
      where
        by : (absent : Bool) → (if absent then take_off (leave_out past readable found.config) number else take_off past number).changes ≡ cut past.changes number
        by true = refl
        by false = refl

    pub start_near : AreNear group start.changes
    start_near = subst (AreNear group) (sym start_changes) (near_cut group past.changes number near)

    pub start_loss : some found.absent ≡ true → AreNear group (issue start (config_lost found)).changes
    start_loss absent =
        near_issued group start.changes (config_lost found) start_near
        (λ i earlier at. loss_near absent i earlier (subst (λ (changes : Changes (groups group)). IsSince changes i earlier) start_changes at))

    -- So many of its changes are issued then.
    some_issued : (changes : List Configuration) → IsLossAlone found changes → (issued : ℕ) → AreNear group (issue_all group start (take issued changes)).changes
    some_issued changes (inl none) zero = start_near
    some_issued changes (inl none) (suc n) = subst (λ (all : List Configuration). AreNear group (issue_all group start (take (suc n) all)).changes) (sym none) start_near
    some_issued changes (inr one) zero = start_near
    some_issued changes (inr one) (suc zero) = subst (λ (all : List Configuration). AreNear group (issue_all group start (take 1 all)).changes) (sym one.1) (start_loss one.0)
    some_issued changes (inr one) (suc (suc n)) = subst (λ (all : List Configuration). AreNear group (issue_all group start (take (suc (suc n)) all)).changes) (sym one.1) (start_loss one.0)

-- ---- how far a recovery came

module _ (group : List ℕ) where
  -- To issue acknowledges nothing.
  issued_acked : (past : Past (groups group)) (changes : List Configuration) → (issue_all group past changes).changes.acked ≡ past.changes.acked
  issued_acked past [] = refl
  issued_acked past (next ∷ others) = issued_acked (issue past next) others

  module _ (past : Past (groups group)) (chain : IsChain past.changes) (found : GroupValue)
      (current : AllByRecursion (λ reference. is_current found.config.members reference ≡ true) found.absent) (near : AreNear group past.changes) (readable : ℕ → Bool)
      (changes : List Configuration) (few : IsLossAlone found changes) where
    way_near : (now : Past (groups group)) → IsUnderway group past readable found changes now → AreNear group now.changes
    way_near now way =
        let before = begun group past readable found way.number in
        let all = some_issued group past chain found current near way.number way.since readable changes few way.issued in
        let same : (issue_all group before (take way.issued changes)).changes.acked ≡ past.changes.acked =
        issued_acked before (take way.issued changes) ∙ ap (λ (one : Changes (groups group)). one.acked) (start_changes group past chain found current near way.number way.since readable) in
        let late = way.since.late in
        let later : (issue_all group before (take way.issued changes)).changes.acked ≤ way.acked = elim way.stands [ inl at ↦ omega (arith, same, at) | inr past_it ↦ omega (arith, same, past_it, late) ] in
        subst (λ (one : Past (groups group)). AreNear group one.changes) (sym way.is_now)
        (near_acknowledged group (issue_all group before (take way.issued changes)).changes way.acked later all)

    -- However far it came, none is too far on from an earlier one.
    pub goes_near : (now : Past (groups group)) → Goes group past readable found changes now → AreNear group now.changes
    goes_near now (inl same) = subst (λ (one : Past (groups group)). AreNear group one.changes) (sym same) near
    goes_near now (inr way) = way_near now way
