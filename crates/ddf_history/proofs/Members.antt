-- The members of the last acknowledged configuration that aren't lost are current members, as a history asks that one is read.
use Rattle.std.proofs.Common.{◌≡◌, ◌⊎◌, ℕ, ◌≤◌, Bool, true, false, Some, refl, sym, ap, ◌∙◌, subst, inl, inr, ⊎_elim, arith}
use Rattle.std.proofs.lemmas.Bool.{and_from, false_from_ne_true}
use Rattle.std.specs.Prelude.{slice_get}
use Rattle.ddf_history.specs.Answer.{HasMember}
use Rattle.ddf_history.specs.Issued.{Past}
use Rattle.ddf_history.specs.Promise.{IsKept, IsLagging, IsOn}
use Rattle.ddf_history.specs.Reading.{IsCopyOf, IsSound, Reading, Scene, Shown, stands}

module _ (r : Reading) (sound : IsSound r) (past : Past r) (scene : Scene r.Copy) (kept : IsKept past scene) (slot : ℕ) (config : r.Config)
    (last : slice_get past.changes.issued past.changes.acked ≡ Some config) (current : r.has_current config (past.disk slot) ≡ true) (here : past.lost slot ≡ false) where
  -- Such a member hasn't returned, since it would be missing.
  not_returned : past.returned slot ≡ false
  not_returned =
      false_from_ne_true (past.returned slot)
      (λ back. sound.not_both config (past.disk slot) current (kept.gone slot past.changes.acked config back (record { late = omega arith; is_there = last })))

  -- So its slot shows a configuration since the last acknowledged one, or it lags.
  on_or_lags : IsOn past.changes (past.disk slot) (scene slot) ⊎ IsLagging past.changes (past.disk slot) (scene slot)
  on_or_lags = elim (kept.each slot (rw (here, not_returned) refl)) [
    | inl on ↦ inl on
    | inr out ↦ ⊎_elim (λ outside. absurd (outside.no_member config last current)) (λ lagging. inr lagging) out
  ]

  module _ (readable : ℕ → Bool) (read : readable slot ≡ true) where
    on_member : IsOn past.changes (past.disk slot) (scene slot) → HasMember past scene readable
    on_member on = record {
      slot = slot;
      is_readable = read;
      is_here = not_returned;
      number = on.number;
      config = on.config;
      since = on.since;
      copy = on.copy;
      is_copy = subst (λ (shown : Shown r.Copy). IsCopyOf shown on.copy) (sym on.is_only) refl;
      is_standing = and_from _ _ on.is_ours (sound.same_current on.copy on.config (r.disk_of on.copy) on.shows ∙ ap (r.has_current on.config) on.names ∙ on.is_member);
      shows = on.shows;
    }

    -- It doesn't lag once a change of this engine is acknowledged,
    pub own_member : past.changes.own_from ≤ past.changes.acked → HasMember past scene readable
    own_member own = ⊎_elim on_member (λ lagging. let young = lagging.is_young in absurd (omega (arith, own, young))) on_or_lags

    -- nor where it shows the group with the last acknowledged sequence number or a later one.
    pub leading_member : (copy : r.Copy) → IsCopyOf (scene slot) copy → stands r copy ≡ true → r.sequence config ≤ r.sequence_of copy → HasMember past scene readable
    leading_member copy is standing late =
        ⊎_elim on_member (λ lagging. let older = lagging.is_older copy config is standing last in absurd (omega (arith, late, older))) on_or_lags
