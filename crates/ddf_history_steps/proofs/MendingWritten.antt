-- What the slots show while copies of what was assembled are written to its seats, and at the end.
use Rattle.std.proofs.Common.{◌≡◌, ℕ, ◌≤◌, Bool, true, false, refl, sym, ap, ◌∙◌, inl, inr, ⊎_elim, arith, subst}
use Rattle.std.proofs.lemmas.Bool.{and_from, true≢false}
use Rattle.ddf_history.specs.Reading.{Reading, Scene, Shown, IsCopyOf, IsSound}
use Rattle.ddf_history.specs.Reading.Shown.{One}
use Rattle.ddf_history.specs.Issued.{Past, IsSince, is_away, acknowledge, take_off}
use Rattle.ddf_history.specs.Promise.{IsKept, IsNamed, IsRight}
use Rattle.ddf_history.specs.Steps.{AllShow, AreWritten, GivesAfter, IsLast, IsShown, JoinLast, MayWrite, OthersLast, OthersShow}
use Rattle.ddf_history.specs.Calls.{IsAssembled, AreSure, NoneAbsent}
use Rattle.ddf_history.proofs.Since.{which, on_copy}
use Rattle.ddf_history.proofs.Turns.{join_last as joined_last}
use Rattle.ddf_history.proofs.Writing.{written_kept}
use Rattle.ddf_history.proofs.Cutting.{acknowledged_kept}
use Rattle.ddf_history_steps.proofs.MendingLeaders.{cut_kept, stands_showing}

module _ (r : Reading) (sound : IsSound r) (past : Past r) (held scene : Scene r.Copy) (readable : ℕ → Bool) (j : ℕ) (c : r.Config)
    (assembled : IsAssembled past held readable c) (at : IsSince past.changes j c) (kept : IsKept past scene) (sure : AreSure r readable held scene) (none_absent : NoneAbsent r readable held c)
    (seats : ℕ → Bool) (new : ℕ → r.Copy) (may : MayWrite (take_off past j) scene j c seats new)
    -- the members that aren't written show what was assembled
    (others : (slot : ℕ) → seats slot ≡ false → is_away past slot ≡ false → r.has_current c (past.disk slot) ≡ true → (copy : r.Copy) × (scene slot ≡ One copy) × (r.is_ours copy ≡ true) × r.Shows copy c) where
  -- with the changes behind it taken off
  abbrev begun : Past r
  begun = take_off past j

  -- Each slot shows what it should before.
  begun_kept : IsKept begun scene
  begun_kept = cut_kept r sound past held scene readable j c assembled at kept sure none_absent

  -- Each of them shows it.
  others_show : OthersShow begun scene c seats
  others_show slot here rest now = let other = others slot rest here now in record { copy = other.0; is_copy = rw other.1 refl; shows = other.3 }

  -- Disks that join are written last.
  pub join_last : (after : Scene r.Copy) → AreWritten seats new scene after → OthersLast r seats new scene after → JoinLast begun seats new after
  join_last after written last = joined_last r sound begun scene after begun_kept j c seats new may written last others_show

  -- So each slot shows what it should after, where the slots that show a configuration from elsewhere give it.
  pub mended_kept : (after : Scene r.Copy) → AreWritten seats new scene after → OthersLast r seats new scene after → GivesAfter begun j c after → IsKept begun after
  mended_kept after written last gives = written_kept r sound begun scene after begun_kept j c seats new may written (join_last after written last) gives

  -- ---- at the end

  -- The copies of a member's slot name its disk.
  named : (slot : ℕ) → is_away past slot ≡ false → r.has_current c (past.disk slot) ≡ true → IsNamed r (past.disk slot) (scene slot)
  named slot here now = go (begun_kept.each slot here)
    where
      go : IsRight begun.changes (past.disk slot) (scene slot) → IsNamed r (past.disk slot) (scene slot)
      go (inl on) = record { copy = on.copy; is_copy = subst (λ (shown : Shown r.Copy). IsCopyOf shown on.copy) (sym on.is_only) refl; all = λ other is. ap r.disk_of (on_copy (past.disk slot) (scene slot) on other is) ∙ on.names }
      go (inr (inl outside)) = outside.shows_some j c may.at_last.since now
      go (inr (inr lagging)) = lagging.shows_some

  -- A member's slot that shows the configuration does so fully where it is this engine's.
  shown_before : (slot : ℕ) (copy : r.Copy) → is_away past slot ≡ false → r.has_current c (past.disk slot) ≡ true → scene slot ≡ One copy → r.is_ours copy ≡ true → r.Shows copy c → IsShown r (past.disk slot) (past.changes.own_from ≤ j) (scene slot) c
  shown_before slot copy here now only is_ours shows =
      let is : IsCopyOf (scene slot) copy = subst (λ (shown : Shown r.Copy). IsCopyOf shown copy) (sym only) refl in
      let names = (named slot here now).all copy is in
      let listed : r.lists_current copy (r.disk_of copy) ≡ true = sound.same_current copy c (r.disk_of copy) shows ∙ ap (r.has_current c) names ∙ now in
      let showing = stands_showing r sound past held scene readable j c assembled at kept sure none_absent slot copy here is (and_from _ _ is_ours listed) (sound.same_sequence copy c shows) in
      record { copy = copy; is_only = only; is_ours = is_ours; names = names; shows = shows; is_full = showing.is_full }

  module _ (after : Scene r.Copy) (written : AreWritten seats new scene after) (gives : GivesAfter begun j c after) (done : (slot : ℕ) → seats slot ≡ true → after slot ≡ One (new slot)) where
    -- Each member that is here shows the configuration.
    pub mended_show : AllShow begun after j c
    mended_show slot here now = elim (which (seats slot)) [
      | inl seat ↦ record { copy = new slot; is_only = done slot seat; is_ours = may.are_ours slot seat; names = may.names slot seat; shows = may.show slot seat; is_full = may.are_full slot seat }
      | inr rest ↦
          let other = others slot rest here now in
          let same : after slot ≡ scene slot = ⊎_elim (λ same. same) (λ wrote. absurd (true≢false (sym wrote.0 ∙ rest))) (written slot) in
          subst (λ (shown : Shown r.Copy). IsShown r (past.disk slot) (past.changes.own_from ≤ j) shown c) (sym same) (shown_before slot other.0 here now other.1 other.2 other.3)
    ]

    -- It may be acknowledged.
    pub mended_acknowledged : IsKept (acknowledge begun j) after × IsLast (acknowledge begun j).changes j c
    mended_acknowledged = (
      acknowledged_kept r sound begun after (mended_kept after written (λ s t copy seat none only at is ours. done t at) gives) j c may.at_last mended_show,
      record {
        since = record { late = omega arith; is_there = may.at_last.since.is_there };
        none_later = λ i next is. let late = is.late in may.at_last.none_later i next (record { late = let from = at.late in omega (arith, late, from); is_there = is.is_there });
      },
    )
