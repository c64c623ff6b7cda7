-- The last change of a call that was done is the last acknowledged one, and none is issued behind it.
use Rattle.std.proofs.Common.{◌≡◌, ℕ, suc, ◌+◌, Bool, true, false, List, [], ◌∷◌, ◌++◌, length, take, Some, if◌then◌else◌, refl, sym, subst, arith}
use Rattle.std.proofs.lemmas.List.{length-append, length-take}
use Rattle.std.specs.Prelude.{slice_get}
use Rattle.std.proofs.lemmas.Option.{slice_get_within}
use Rattle.ddf_lemmas.proofs.Lists.{get_last}
use Rattle.ddf_config.specs.Configuration.{Configuration}
use Rattle.ddf_history.specs.Groups.{groups}
use Rattle.ddf_history.specs.Issued.{Past, IsSince, issue, leave_out, take_off}
use Rattle.ddf_history.proofs.Lists.{taken_get}
use Rattle.ddf_seats.specs.Group.{GroupValue}
use Rattle.ddf_seats.specs.Leading.{some}
use Rattle.ddf_history_steps.specs.Going.{IsOver, begun, issue_all}

-- The last of some changes and one more is that one.
pub last_more : {X : Type 0} (first : X) (xs : List X) (x : X) → slice_get (first ∷ (xs ++ x ∷ [])) (length (xs ++ x ∷ [])) ≡ Some x
last_more first [] x = refl
last_more first (y ∷ xs) x = last_more y xs x

module _ (group : List ℕ) where
  -- The last of changes that are issued one after another stands last, or where there is none what stood so before.
  last_of_all : (past : Past (groups group)) (n : ℕ) (config : Configuration) (changes : List Configuration)
      → slice_get past.changes.issued n ≡ Some config → length past.changes.issued ≡ n + 1
      → slice_get (issue_all group past changes).changes.issued (n + length changes) ≡ slice_get (config ∷ changes) (length changes)
  last_of_all past n config [] at long = let same : n + 0 ≡ n = omega arith in rw same at
  last_of_all past n config (next ∷ others) at long =
      let here : slice_get (past.changes.issued ++ next ∷ []) (n + 1) ≡ Some next =
      subst (λ (place : ℕ). slice_get (past.changes.issued ++ next ∷ []) place ≡ Some next) long (get_last past.changes.issued next) in
      let more = length-append past.changes.issued (next ∷ []) in
      let rest = last_of_all (issue past next) (n + 1) next others here (omega (arith, more, long)) in
      let same : n + 1 + length others ≡ n + suc (length others) = omega arith in
      subst (λ (place : ℕ). slice_get (issue_all group (issue past next) others).changes.issued place ≡ slice_get (next ∷ others) (length others)) same rest

  issued_length : (past : Past (groups group)) (changes : List Configuration)
      → length (issue_all group past changes).changes.issued ≡ length past.changes.issued + length changes
  issued_length past [] = omega arith
  issued_length past (next ∷ others) =
      let rest = issued_length (issue past next) others in
      let more = length-append past.changes.issued (next ∷ []) in
      omega (arith, rest, more)

  module _ (past : Past (groups group)) (readable : ℕ → Bool) (found : GroupValue) where
    -- What the call assembled stands last where it begins.
    pub begun_last : (number : ℕ) → IsSince past.changes number found.config
        → (slice_get (begun group past readable found number).changes.issued number ≡ Some found.config)
        × (length (begun group past readable found number).changes.issued ≡ number + 1)
    begun_last number since = by (some found.absent)
      where
        taken : (slice_get (take (number + 1) past.changes.issued) number ≡ Some found.config) × (length (take (number + 1) past.changes.issued) ≡ number + 1)
        taken = (
          taken_get past.changes.issued (number + 1) number found.config since.is_there (omega arith),
          let all = length-take (number + 1) past.changes.issued in
              let within = slice_get_within past.changes.issued number found.config since.is_there in
              omega (arith, all, within),
        )

        by : (absent : Bool) → (slice_get (if absent then take_off (leave_out past readable found.config) number else take_off past number).changes.issued number ≡ Some found.config)
            × (length (if absent then take_off (leave_out past readable found.config) number else take_off past number).changes.issued ≡ number + 1)
        by true = taken
        by false = taken

    -- Where the call is done, its last change is the last that is acknowledged, and none is behind it.
    pub over_last : (changes : List Configuration) (now : Past (groups group)) → IsOver group past readable found changes now
        → slice_get now.changes.issued now.changes.acked ≡ slice_get (found.config ∷ changes) (length changes)
    over_last changes now over =
        let start = begun_last over.number over.since in
        subst (λ (one : Past (groups group)). slice_get one.changes.issued one.changes.acked ≡ slice_get (found.config ∷ changes) (length changes)) (sym over.is_now)
        (last_of_all (begun group past readable found over.number) over.number found.config changes start.0 start.1)

    pub over_length : (changes : List Configuration) (now : Past (groups group)) → IsOver group past readable found changes now
        → length now.changes.issued ≡ now.changes.acked + 1
    over_length changes now over =
        let start = (begun_last over.number over.since).1 in
        let more = issued_length (begun group past readable found over.number) changes in
        subst (λ (one : Past (groups group)). length one.changes.issued ≡ one.changes.acked + 1) (sym over.is_now) (omega (arith, start, more))
