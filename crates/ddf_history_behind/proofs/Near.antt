-- Changes of which none is too far on from an earlier one, as changes are issued, taken off and acknowledged.
use Rattle.std.proofs.Common.{◌≡◌, ◌⊎◌, ℕ, zero, suc, ◌+◌, ◌≤◌, ◌<◌, List, [], ◌∷◌, length, Some, slice_get, sym, ap, ◌∙◌, inl, inr, arith}
use Rattle.ddf_config.specs.Configuration.{Configuration}
use Rattle.ddf_history.specs.Groups.{groups}
use Rattle.ddf_history.specs.Issued.{Changes, IsSince, acknowledged, cut, issued}
use Rattle.ddf_history.specs.Steps.{IsLast}
use Rattle.ddf_history.proofs.Issuing.{since_before, since_more}
use Rattle.ddf_history.proofs.Lists.{get_taken}
use Rattle.ddf_history.proofs.Since.{same_number}
use Rattle.ddf_history_behind.specs.Behind.{AreNear, most_between}

module _ (group : List ℕ) (changes : Changes (groups group)) where
  -- A change is issued behind them that is near each.
  pub near_issued : (next : Configuration) → AreNear group changes
      → ((i : ℕ) (earlier : Configuration) → IsSince changes i earlier → next.sequence ≤ earlier.sequence + most_between earlier next)
      → AreNear group (issued changes next)
  near_issued next near raise i j earlier later at there le = go (since_more changes next i earlier at) (since_more changes next j later there)
    where
      go : IsSince changes i earlier ⊎ ((i ≡ length changes.issued) × (earlier ≡ next)) → IsSince changes j later ⊎ ((j ≡ length changes.issued) × (later ≡ next))
          → later.sequence ≤ earlier.sequence + most_between earlier later
      go (inl before) (inl also) = near i j earlier later before also le
      go (inl before) (inr last) = rw last.1 (raise i earlier before)
      go (inr first) (inl also) = let within = since_before changes next j later also in absurd (omega (arith, le, within, first.0))
      go (inr first) (inr last) = let same : later.sequence ≡ earlier.sequence = ap (λ (c : Configuration). c.sequence) last.1 ∙ sym (ap (λ (c : Configuration). c.sequence) first.1) in omega (arith, same)

  -- One that was issued before the last that is left stays so.
  pub since_cut : (number i : ℕ) (config : Configuration) → IsSince (cut changes number) i config → IsSince changes i config × (i < number + 1)
  since_cut number i config at =
      let taken = get_taken changes.issued (number + 1) i config at.is_there in
      (record { late = at.late; is_there = taken.0 }, taken.1)

  -- Some are taken off.
  pub near_cut : (number : ℕ) → AreNear group changes → AreNear group (cut changes number)
  near_cut number near i j earlier later at there le = near i j earlier later (since_cut number i earlier at).0 (since_cut number j later there).0 le

  -- A later one is acknowledged.
  pub near_acknowledged : (number : ℕ) → changes.acked ≤ number → AreNear group changes → AreNear group (acknowledged changes number)
  near_acknowledged number later near i j earlier last at there le = near i j earlier last (back i earlier at) (back j last there) le
    where
      back : (k : ℕ) (config : Configuration) → IsSince (acknowledged changes number) k config → IsSince changes k config
      back k config is = record { late = let late = is.late in omega (arith, later, late); is_there = is.is_there }

  -- Where all are acknowledged, each since then is the last.
  pub only_last : (last : Configuration) → IsLast changes changes.acked last → (i : ℕ) (config : Configuration) → IsSince changes i config → config ≡ last
  only_last last is i config at =
      let late = at.late in
      let most = is.none_later i config at in
      same_number i changes.acked config last at is.since (omega (arith, late, most))

  -- So they are near.
  pub near_last : (last : Configuration) → IsLast changes changes.acked last → AreNear group changes
  near_last last is i j earlier later at there le =
      let one : earlier.sequence ≡ last.sequence = ap (λ (c : Configuration). c.sequence) (only_last last is i earlier at) in
      let other : later.sequence ≡ last.sequence = ap (λ (c : Configuration). c.sequence) (only_last last is j later there) in
      omega (arith, one, other)

  -- One alone is.
  pub near_alone : (config : Configuration) → changes.issued ≡ config ∷ [] → AreNear group changes
  near_alone config is i j earlier later at there le =
      let one : earlier.sequence ≡ config.sequence = ap (λ (c : Configuration). c.sequence) (only i earlier (rw is at at.is_there)) in
      let other : later.sequence ≡ config.sequence = ap (λ (c : Configuration). c.sequence) (only j later (rw is at there.is_there)) in
      omega (arith, one, other)
    where
      only : (k : ℕ) (found : Configuration) → slice_get (config ∷ []) k ≡ Some found → found ≡ config
      only zero found here = cc
      only (suc k) found here = absurd cc
