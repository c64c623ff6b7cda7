-- Slots that a call claims.
use Rattle.std.proofs.Common.{◌≡◌, ◌⊎◌, ℕ, Bool, true, false, if◌then◌else◌, refl, sym, ap, ◌∙◌, inl, inr, arith}
use Rattle.std.proofs.lemmas.Bool.{or_from}
use Rattle.ddf_history.specs.Reading.{Reading, Scene, Shown, IsCopyOf, IsFirstOf, IsSound}
use Rattle.ddf_history.specs.Reading.Shown.{Nothing}
use Rattle.ddf_history.specs.Issued.{Past, IsSince, is_away}
use Rattle.ddf_history.specs.Leaders.{seen}
use Rattle.ddf_history.specs.Promise.{IsNamed, IsRight}
use Rattle.ddf_history.specs.Answer.{IsClaimed}
use Rattle.ddf_history.specs.Calls.{IsAssembled}
use Rattle.ddf_history.proofs.Since.{which, first_is_copy, on_copy, on_shows, same_number}
use Rattle.ddf_history.proofs.Assembling.{read_as}

-- The copy by which a disk that is seen is known is that of its slot, which is read.
pub seen_first : {A : Type 0} (readable : Bool) (shown : Shown A) (copy : A) → IsFirstOf (if readable then shown else Nothing) copy
    → (readable ≡ true) × IsFirstOf shown copy
seen_first true shown copy is = (refl, is)
seen_first false shown copy is = absurd is

module _ (r : Reading) (sound : IsSound r) (past : Past r) (held : Scene r.Copy) (readable : ℕ → Bool) (config : r.Config)
    (assembled : IsAssembled past held readable config) (slot : ℕ) (copy : r.Copy) (claimed : IsClaimed r (seen readable held) slot copy) where
  -- It is read, and its disk is known by the same copy.
  pub claimed_held : (readable slot ≡ true) × IsFirstOf (held slot) copy
  claimed_held = seen_first (readable slot) (held slot) copy claimed.is_first

  -- Its disk is a current member of what was assembled.
  pub claimed_current : r.has_current config (r.disk_of copy) ≡ true
  claimed_current =
      let is = read_as r sound past held assembled.is_kept readable assembled.may_read assembled.member config assembled.is_read in
      let config_is : is.4.config ≡ config = same_number is.4.number is.0 is.4.config config is.4.since is.1 is.5 in
      let least = claimed.is_lowest.lowest assembled.is_read.leader assembled.is_read.leading assembled.is_read.leads in
      let most = assembled.is_read.lowest claimed.leader claimed.is_lowest.leads.0 claimed.is_lowest.leads.1 in
      let leader_is : claimed.leader ≡ assembled.is_read.leader = omega arith in
      let first = (seen_first (readable claimed.leader) (held claimed.leader) claimed.leading claimed.is_lowest.is_first).1 in
      let there : IsFirstOf (held assembled.is_read.leader) claimed.leading = rw leader_is at first in
      let shows = on_shows (past.disk assembled.is_read.leader) (held assembled.is_read.leader) is.4 claimed.leading
      (first_is_copy (held assembled.is_read.leader) claimed.leading there) in
      ap (λ (x : r.Config). r.has_current x (r.disk_of copy)) (sym config_is)
      ∙ sym (sound.same_current claimed.leading is.4.config (r.disk_of copy) shows) ∙ claimed.is_listed

  module _ (number : ℕ) (since : IsSince past.changes number config) where
    -- It is the disk of the slot.
    pub claimed_member : r.has_current config (past.disk slot) ≡ true
    claimed_member =
        let named = assembled.is_kept.named slot copy (first_is_copy (held slot) copy claimed_held.1) (inr (number, config, since, claimed_current)) in
        rw named at claimed_current

    -- The slot isn't away.
    pub claimed_here : is_away past slot ≡ false
    claimed_here = or_from (past.lost slot) (past.returned slot) (assembled.may_read.not_lost slot claimed_held.0) (stays (which (past.returned slot)))
      where
        stays : (past.returned slot ≡ true) ⊎ (past.returned slot ≡ false) → past.returned slot ≡ false
        stays (inl back) = absurd (sound.not_both config (past.disk slot) claimed_member (assembled.is_kept.gone slot number config back since))
        stays (inr here) = here

    -- Of two copies that differ either one names it.
    pub claimed_named : IsNamed r (past.disk slot) (held slot)
    claimed_named = shows_some (assembled.is_kept.each slot claimed_here)
      where
        shows_some : IsRight past.changes (past.disk slot) (held slot) → IsNamed r (past.disk slot) (held slot)
        shows_some (inl on) = record {
          copy = on.copy;
          is_copy = rw on.is_only refl;
          all = λ other is. ap r.disk_of (on_copy (past.disk slot) (held slot) on other is) ∙ on.names;
        }
        shows_some (inr (inl outside)) = outside.shows_some number config since claimed_member
        shows_some (inr (inr lagging)) = lagging.shows_some

    -- So either one names a current member of what was assembled.
    pub claimed_each_current : (other : r.Copy) → IsCopyOf (held slot) other → r.has_current config (r.disk_of other) ≡ true
    claimed_each_current other is = rw (claimed_named.all other is) claimed_member
