-- What is assembled where a stop cut an import: what was so before, or one of its changes.
use Rattle.std.proofs.Common.{◌≡◌, ◌⊎◌, ℕ, suc, ◌+◌, ◌≤◌, Bool, true, false, List, [], ◌∷◌, length, take, Some, slice_get, inl, inr, ⊎_elim, if◌then◌else◌, ap, sym, subst, arith}
use Rattle.std.proofs.lemmas.Option.{slice_get_within}
use Rattle.ddf_bay.specs.State.{BayState}
use Rattle.ddf_config.specs.Configuration.{Configuration}
use Rattle.ddf_view.specs.View.{View}
use Rattle.ddf_history.specs.Groups.{groups}
use Rattle.ddf_history.specs.History.{Moment}
use Rattle.ddf_history.specs.Issued.{Past, IsSince, issue, leave_out, take_off}
use Rattle.ddf_history.specs.Promise.{IsKept}
use Rattle.ddf_history.specs.Reading.{Scene}
use Rattle.ddf_history.specs.Scenes.{scene_of}
use Rattle.ddf_history.proofs.Lists.{get_more, get_taken}
use Rattle.ddf_seats.specs.Group.{GroupValue}
use Rattle.ddf_seats.specs.Leading.{some}
use Rattle.ddf_history_steps.specs.Going.{Goes, begun, issue_all}
use Rattle.ddf_history_steps.specs.Kept.{is_read}
use Rattle.ddf_history_steps.proofs.Acked.{goes_keeps}
use Rattle.ddf_command.specs.History.{IsJoinCut, joins_of, kept_by_join, past_at}

module _ (group : List ℕ) where
  -- what stands among changes issued behind others is one of either
  issued_from : (past : Past (groups group)) (changes : List Configuration) (i : ℕ) (config : Configuration)
      → slice_get (issue_all group past changes).changes.issued i ≡ Some config
      → (slice_get past.changes.issued i ≡ Some config) ⊎ ((n : ℕ) × (slice_get changes n ≡ Some config))
  issued_from past [] i config at = inl at
  issued_from past (next ∷ others) i config at =
      ⊎_elim
      (λ more. ⊎_elim inl (λ last. inr (0, ap Some (sym last.1))) (get_more past.changes.issued next i config more))
      (λ rest. inr (suc rest.0, rest.1))
      (issued_from (issue past next) others i config at)

  begun_from : (past : Past (groups group)) (readable : ℕ → Bool) (found : GroupValue) (number i : ℕ) (config : Configuration)
      → slice_get (begun group past readable found number).changes.issued i ≡ Some config → slice_get past.changes.issued i ≡ Some config
  begun_from past readable found number i config = by (some found.absent)
    where
      by : (absent : Bool) → slice_get (if absent then take_off (leave_out past readable found.config) number else take_off past number).changes.issued i ≡ Some config
          → slice_get past.changes.issued i ≡ Some config
      by true at = (get_taken past.changes.issued (number + 1) i config at).0
      by false at = (get_taken past.changes.issued (number + 1) i config at).0

  found_in : (past now : Past (groups group)) (readable : ℕ → Bool) (found : GroupValue) (changes : List Configuration) → Goes group past readable found changes now
      → (i : ℕ) (config : Configuration) → slice_get now.changes.issued i ≡ Some config
      → (slice_get past.changes.issued i ≡ Some config) ⊎ ((n : ℕ) × (slice_get changes n ≡ Some config))
  found_in past now readable found changes (inl same) i config at = inl (subst (λ (one : Past (groups group)). slice_get one.changes.issued i ≡ Some config) same at)
  found_in past now readable found changes (inr is) i config at =
      let there = subst (λ (one : Past (groups group)). slice_get one.changes.issued i ≡ Some config) is.is_now at in
      ⊎_elim
      (λ before. inl (begun_from past readable found is.number i config before))
      (λ rest. inr (rest.0, (get_taken changes is.issued rest.0 config rest.1).0))
      (issued_from (begun group past readable found is.number) (take is.issued changes) i config there)

  last_or : (past : Past (groups group)) (i : ℕ) (config : Configuration) → length past.changes.issued ≡ past.changes.acked + 1 → past.changes.acked ≤ i
      → slice_get past.changes.issued i ≡ Some config → slice_get past.changes.issued past.changes.acked ≡ Some config
  last_or past i config long late at =
      let within = slice_get_within past.changes.issued i config at in
      let same : i ≡ past.changes.acked = omega (arith, within, long, late) in
      subst (λ (n : ℕ). slice_get past.changes.issued n ≡ Some config) same at

  goes_from : (past now : Past (groups group)) (readable : ℕ → Bool) (found : GroupValue) (changes : List Configuration) → Goes group past readable found changes now
      → length past.changes.issued ≡ past.changes.acked + 1 → (i : ℕ) (config : Configuration) → IsSince now.changes i config
      → (slice_get past.changes.issued past.changes.acked ≡ Some config) ⊎ ((n : ℕ) × (slice_get changes n ≡ Some config))
  goes_from past now readable found changes goes long i config since =
      let later = (goes_keeps group past now readable found changes goes).later in
      let late = since.late in
      ⊎_elim (λ before. inl (last_or past i config long (omega (arith, later, late)) before)) inr (found_in past now readable found changes goes i config since.is_there)

module _ {B : Type 0} {tells : Type 0} (told : tells) (disks : B → BayState B) (group : List ℕ) where
  at_from : {A : Type 0} (past : Past (groups group)) (readable : ℕ → Bool) (found : GroupValue) (changes : List Configuration) (scene : Scene View)
      → (at : A ⊎ ((now : Past (groups group)) × Goes group past readable found changes now × IsKept now scene))
      → length past.changes.issued ≡ past.changes.acked + 1 → (i : ℕ) (config : Configuration)
      → IsSince (past_at told disks group {P = Goes group past readable found changes} {Q = λ now. IsKept now scene} past at).changes i config
      → (slice_get past.changes.issued past.changes.acked ≡ Some config) ⊎ ((n : ℕ) × (slice_get changes n ≡ Some config))
  at_from past readable found changes scene (inl first) long i config since = inl (last_or group past i config long since.late since.is_there)
  at_from past readable found changes scene (inr now) long i config since = goes_from group past now.0 readable found changes now.1 long i config since

  pub cut_from : (old new : Moment (groups group) B) (cut : IsJoinCut told disks group old new) → length old.past.changes.issued ≡ old.past.changes.acked + 1
      → (i : ℕ) (config : Configuration) → IsSince new.past.changes i config
      → (slice_get old.past.changes.issued old.past.changes.acked ≡ Some config) ⊎ ((n : ℕ) × (slice_get (joins_of told disks group old cut.call) n ≡ Some config))
  cut_from old new cut long i config since =
      at_from old.past (is_read cut.call.imported.first.left) cut.call.group (joins_of told disks group old cut.call) (scene_of (disks old.bay).sizes cut.image)
      ((kept_by_join told disks group old cut.call cut.kept).any_moment.since (disks old.bay).moment cut.image cut.since cut.was_left) long i config
      (subst (λ (one : Past (groups group)). IsSince one.changes i config) cut.is_past since)
