-- A call whose changes are issued in turn, each near the one before it, leaves no disk further behind than one change and what is lost.
use Rattle.std.proofs.Common.{◌≡◌, ◌⊎◌, ℕ, zero, suc, ◌+◌, ◌≤◌, Bool, true, false, List, [], ◌∷◌, ◌++◌, length, take, Some, slice_get, inl, inr, ap, sym, ◌∙◌, subst, arith, length-append}
use Rattle.std.proofs.lemmas.Bool.{cases_lt}
use Rattle.std.proofs.lemmas.List.{length-take-le}
use Rattle.std.specs.List.{AllByRecursion}
use Rattle.std.proofs.lemmas.Option.{same_Some, slice_get_within}
use Rattle.ddf_lemmas.proofs.Lists.{first_get, get_last}
use Rattle.ddf_bay.specs.State.{BayState}
use Rattle.ddf_config.specs.Configuration.{Configuration}
use Rattle.ddf_config.specs.Members.{is_current}
use Rattle.ddf_history.specs.Groups.{groups}
use Rattle.ddf_history.specs.Issued.{Changes, IsChain, IsSince, Past, acknowledged, issue}
use Rattle.ddf_history.proofs.Since.{same_number}
use Rattle.ddf_seats.specs.Group.{GroupValue}
use Rattle.ddf_seats.specs.Leading.{some}
use Rattle.ddf_recovery.specs.Recovery.{config_lost}
use Rattle.ddf_history_steps.specs.Going.{Ends, Goes, IsOver, IsUnderway, KeepsHistory, begun, issue_all}
use Rattle.ddf_history_steps.specs.Kept.{is_read}
use Rattle.ddf_history_steps.proofs.Acked.{issued_stays}
use Rattle.ddf_history_steps.proofs.LastIssued.{begun_last, over_length}
use Rattle.ddf_history_behind.specs.Behind.{AreNear, KeepsNear, most_between}
use Rattle.ddf_history_behind.proofs.Near.{near_acknowledged}
use Rattle.ddf_history_behind.proofs.Recovering.{start_changes, start_loss, start_near}

-- ---- configurations, each behind the one before it

-- Each is no further on than that from the one before it.
abbrev pub AreNearOn : Configuration → List Configuration → Type 0
AreNearOn config [] = Unit {0}
AreNearOn config (next ∷ others) = (next.sequence ≤ config.sequence + most_between config next) × AreNearOn next others

-- So are the first of them.
first_near : (config : Configuration) (changes : List Configuration) → AreNearOn config changes → (n : ℕ) → AreNearOn config (take n changes)
first_near config [] near zero = tt
first_near config [] near (suc n) = tt
first_near config (next ∷ others) near zero = tt
first_near config (next ∷ others) near (suc n) = (near.0, first_near next others near.1 n)

-- Each is near the next one,
next_near : (config : Configuration) (changes : List Configuration) → AreNearOn config changes → (k : ℕ) (earlier later : Configuration)
    → slice_get (config ∷ changes) k ≡ Some earlier → slice_get (config ∷ changes) (suc k) ≡ Some later → later.sequence ≤ earlier.sequence + most_between earlier later
next_near config [] near k earlier later at there = absurd cc
next_near config (next ∷ others) near zero earlier later at there =
    subst (λ (one : Configuration). later.sequence ≤ one.sequence + most_between one later) (same_Some config earlier at)
    (subst (λ (one : Configuration). one.sequence ≤ config.sequence + most_between config one) (same_Some next later there) near.0)
next_near config (next ∷ others) near (suc k) earlier later at there = next_near next others near.1 k earlier later at there

-- and itself.
two_near : (config : Configuration) (changes : List Configuration) → AreNearOn config changes → (k m : ℕ) (earlier later : Configuration)
    → slice_get (config ∷ changes) k ≡ Some earlier → slice_get (config ∷ changes) m ≡ Some later → k ≤ m → m ≤ suc k → later.sequence ≤ earlier.sequence + most_between earlier later
two_near config changes near k m earlier later at there le most = elim (cases_lt k m) [
  | inl less ↦
      let next : m ≡ suc k = omega (arith, less, most) in
      next_near config changes near k earlier later at (subst (λ (n : ℕ). slice_get (config ∷ changes) n ≡ Some later) next there)
  | inr also ↦
      let same : m ≡ k = omega (arith, le, also) in
      let equal : later.sequence ≡ earlier.sequence = ap (λ (c : Configuration). c.sequence) (same_Some later earlier (sym there ∙ ap (slice_get (config ∷ changes)) same ∙ at)) in
      omega (arith, equal)
]

-- ---- where they stand

-- A number is a lesser one and some more.
split_at : (a b : ℕ) → a ≤ b → (k : ℕ) × (b ≡ a + k)
split_at zero b le = (b, omega arith)
split_at (suc a) zero le = absurd (omega (arith, le))
split_at (suc a) (suc b) le =
    let rest = split_at a b (omega (arith, le)) in
    (rest.0, let same = rest.1 in omega (arith, same))

module _ (group : List ℕ) where
  -- What stood last, and the changes that are issued behind it, stand from there on.
  issued_from : (past : Past (groups group)) (n : ℕ) (config : Configuration) → slice_get past.changes.issued n ≡ Some config → length past.changes.issued ≡ n + 1
      → (changes : List Configuration) (k : ℕ) (one : Configuration) → slice_get (issue_all group past changes).changes.issued (n + k) ≡ Some one → slice_get (config ∷ changes) k ≡ Some one
  issued_from past n config at long [] zero one there =
      let here : n + 0 ≡ n = omega arith in
      sym at ∙ subst (λ (place : ℕ). slice_get past.changes.issued place ≡ Some one) here there
  issued_from past n config at long [] (suc k) one there =
      let within = slice_get_within past.changes.issued (n + suc k) one there in
      absurd (omega (arith, long, within))
  issued_from past n config at long (next ∷ others) zero one there =
      let here : n + 0 ≡ n = omega arith in
      sym (issued_stays group (issue past next) others n config (first_get past.changes.issued (next ∷ []) n config at))
      ∙ subst (λ (place : ℕ). slice_get (issue_all group (issue past next) others).changes.issued place ≡ Some one) here there
  issued_from past n config at long (next ∷ others) (suc k) one there =
      let last : slice_get (past.changes.issued ++ next ∷ []) (n + 1) ≡ Some next =
      subst (λ (place : ℕ). slice_get (past.changes.issued ++ next ∷ []) place ≡ Some next) long (get_last past.changes.issued next) in
      let more = length-append past.changes.issued (next ∷ []) in
      let along : n + suc k ≡ n + 1 + k = omega arith in
      issued_from (issue past next) (n + 1) next last (omega (arith, long, more)) others k one
      (subst (λ (place : ℕ). slice_get (issue_all group (issue past next) others).changes.issued place ≡ Some one) along there)

-- ---- how far a call came

module _ (group : List ℕ) (past : Past (groups group)) (chain : IsChain past.changes) (found : GroupValue)
    (current : AllByRecursion (λ reference. is_current found.config.members reference ≡ true) found.absent) (near : AreNear group past.changes) (readable : ℕ → Bool)
    (changes : List Configuration) (on : AreNearOn found.config changes) (loses : some found.absent ≡ true → (others : List Configuration) × (changes ≡ config_lost found ∷ others)) where
  module _ (number : ℕ) (since : IsSince past.changes number found.config) (issued acked : ℕ) (few : issued ≤ length changes) (late : past.changes.acked ≤ acked) where
    abbrev start : Past (groups group)
    start = begun group past readable found number

    -- so many are issued
    abbrev after : ℕ → Changes (groups group)
    after n = (issue_all group start (take n changes)).changes

    same_acked : start.changes.acked ≡ past.changes.acked
    same_acked = ap (λ (one : Changes (groups group)). one.acked) (start_changes group past chain found current near number since readable)

    -- None is issued, or the loss alone.
    none_near : AreNear group (acknowledged (after 0) acked)
    none_near = near_acknowledged group start.changes acked (omega (arith, late, same_acked)) (start_near group past chain found current near number since readable)

    loss_near : some found.absent ≡ true → AreNear group (acknowledged (after 1) acked)
    loss_near absent =
        subst (λ (all : List Configuration). AreNear group (acknowledged (issue_all group start (take 1 all)).changes acked)) (sym (loses absent).1)
        (near_acknowledged group (issue start (config_lost found)).changes acked (omega (arith, late, same_acked)) (start_loss group past chain found current near number since readable absent))

    -- All but the last are acknowledged.
    last_near : number + issued ≤ acked + 1 → 1 ≤ issued → AreNear group (acknowledged (after issued) acked)
    last_near turn least i j earlier later at there le =
        let first = begun_last group past readable found number since in
        let from = at.late in
        let to = there.late in
        let one = split_at number i (omega (arith, turn, least, from)) in
        let other = split_at number j (omega (arith, turn, least, to)) in
        let here : slice_get (found.config ∷ take issued changes) one.0 ≡ Some earlier =
        issued_from group start number found.config first.0 first.1 (take issued changes) one.0 earlier
        (subst (λ (place : ℕ). slice_get (after issued).issued place ≡ Some earlier) one.1 at.is_there) in
        let also : slice_get (found.config ∷ take issued changes) other.0 ≡ Some later =
        issued_from group start number found.config first.0 first.1 (take issued changes) other.0 later
        (subst (λ (place : ℕ). slice_get (after issued).issued place ≡ Some later) other.1 there.is_there) in
        let within = slice_get_within (found.config ∷ take issued changes) other.0 later also in
        let count = length-take-le issued changes few in
        let first_is = one.1 in
        let other_is = other.1 in
        two_near found.config (take issued changes) (first_near found.config changes on issued) one.0 other.0 earlier later here also
        (omega (arith, le, first_is, other_is)) (omega (arith, within, count, turn, from, first_is))

    -- So it is in turn.
    turn_near : (issued ≡ 0) ⊎ (number + issued ≤ acked + 1) ⊎ ((some found.absent ≡ true) × (issued ≡ 1)) → AreNear group (acknowledged (after issued) acked)
    turn_near (inl none) = subst (λ (n : ℕ). AreNear group (acknowledged (after n) acked)) (sym none) none_near
    turn_near (inr (inl turn)) = elim (cases_lt 0 issued) [
      | inl least ↦ last_near turn (omega (arith, least))
      | inr below ↦ let none : issued ≡ 0 = omega (arith, below) in subst (λ (n : ℕ). AreNear group (acknowledged (after n) acked)) (sym none) none_near
    ]
    turn_near (inr (inr loss)) = subst (λ (n : ℕ). AreNear group (acknowledged (after n) acked)) (sym loss.1) (loss_near loss.0)

  way_near : (now : Past (groups group)) → IsUnderway group past readable found changes now → AreNear group now.changes
  way_near now way =
      let from = way.since.late in
      let late : past.changes.acked ≤ way.acked = elim way.stands [ inl at ↦ omega (arith, at) | inr past_it ↦ omega (arith, past_it, from) ] in
      subst (λ (one : Past (groups group)). AreNear group one.changes) (sym way.is_now) (turn_near way.number way.since way.issued way.acked way.few late way.in_turn)

  goes_near : (now : Past (groups group)) → Goes group past readable found changes now → AreNear group now.changes
  goes_near now (inl same) = subst (λ (one : Past (groups group)). AreNear group one.changes) (sym same) near
  goes_near now (inr way) = way_near now way

  over_near : (now : Past (groups group)) → IsOver group past readable found changes now → AreNear group now.changes
  over_near now over i j earlier later at there le =
      let long = over_length group past readable found changes now over in
      let within = slice_get_within now.changes.issued j later there.is_there in
      let from = at.late in
      let equal : later.sequence ≡ earlier.sequence = ap (λ (c : Configuration). c.sequence) (same_number j i later earlier there at (omega (arith, long, within, from, le))) in
      omega (arith, equal)

  -- However far it came, none is too far on from an earlier one.
  pub ends_near : (done : Bool) (now : Past (groups group)) → Ends group past readable found changes done now → AreNear group now.changes
  ends_near true now over = over_near now over
  ends_near false now goes = goes_near now goes

-- So a call that keeps a history keeps it near.
pub keeps_near : (group : List ℕ) {D : Type 0} (old new : BayState D) (past : Past (groups group)) (left : List Bool) (found : GroupValue) (changes : List Configuration) (done : Bool)
    → ((far : Bool) (now : Past (groups group)) → Ends group past (is_read left) found changes far now → AreNear group now.changes)
    → KeepsHistory group old new past left found changes done → KeepsNear group old new past left found changes done
keeps_near group old new past left found changes done stay keeps = record {
  any_moment = record {
    later = keeps.any_moment.later;
    since = λ t image le was_left. elim (keeps.any_moment.since t image le was_left) [
      | inl before ↦ inl before
      | inr now ↦ inr (now.0, now.1, stay false now.0 now.1, now.2)
    ];
  };
  ends = λ tells. let now = keeps.ends tells in (now.0, now.1, stay done now.0 now.1, now.2);
}
