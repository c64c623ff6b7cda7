-- Where the disks that show nothing of the group are written last, those that join do so last.
use Rattle.std.proofs.Common.{◌≡◌, ℕ, ◌<◌, Bool, true, false, refl, sym, ap, ◌∙◌, inl, inr, ⊎_elim, arith, subst}
use Rattle.std.proofs.lemmas.Bool.{cases_eq}
use Rattle.ddf_history.specs.Reading.{Reading, Scene, Shown, IsCopyOf, IsSound}
use Rattle.ddf_history.specs.Reading.Shown.{One}
use Rattle.ddf_history.specs.Issued.{Past, IsSince, is_away}
use Rattle.ddf_history.specs.Promise.{IsKept, IsOn, IsOutside}
use Rattle.ddf_history.specs.Steps.{AreWritten, JoinLast, MayWrite, OthersLast, OthersShow}
use Rattle.ddf_history.proofs.Since.{last_since, on_copy, same_number, same_sequence_same, which}
use Rattle.ddf_history.proofs.Writing.{on_either, one_is}

module _ (r : Reading) (sound : IsSound r) (past : Past r) (before after : Scene r.Copy) (kept : IsKept past before) (j : ℕ) (c : r.Config) (seats : ℕ → Bool) (new : ℕ → r.Copy)
    (may : MayWrite past before j c seats new) (written : AreWritten seats new before after) (others_last : OthersLast r seats new before after) (others_show : OthersShow past before c seats) where
  -- A configuration with a member that the last acknowledged one hasn't is a later one.
  later : (disk : r.Disk) (i : ℕ) (d : r.Config) → IsSince past.changes i d → r.has_current d disk ≡ true → r.has_current kept.last disk ≡ false → past.changes.acked < i
  later disk i d at now joins = let late = at.late in elim (cases_eq i past.changes.acked) [
    | inl same ↦
        let is : d ≡ kept.last = same_number i past.changes.acked d kept.last at (last_since past before kept) same in
        let was : r.has_current kept.last disk ≡ true = sym (ap (λ (x : r.Config). r.has_current x disk) is) ∙ now in
        absurd cc
    | inr differ ↦ omega arith
  ]

  -- a slot that shows what its copy shows, shows the last change
  is_last : (t : ℕ) → (on : IsOn past.changes (past.disk t) (after t)) → r.Shows on.copy c → on.number ≡ j
  is_last t on shows =
      let one = sound.same_sequence on.copy c shows in
      let other = sound.same_sequence on.copy on.config on.shows in
      (same_sequence_same kept.chain on.number j on.config c on.since may.at_last.since (omega arith)).0

  -- so does one with its new copy
  new_is_last : (t : ℕ) → (on : IsOn past.changes (past.disk t) (after t)) → seats t ≡ true → after t ≡ One (new t) → on.number ≡ j
  new_is_last t on seat only = is_last t on (subst (λ (x : r.Copy). r.Shows x c) (one_is (new t) on.copy (sym only ∙ on.is_only)) (may.show t seat))

  module _ (s : ℕ) (here : is_away past s ≡ false) (seat : seats s ≡ true) (joins : r.has_current kept.last (past.disk s) ≡ false) (only : after s ≡ One (new s)) where
    -- where it showed nothing of the group, each member shows the last change
    when_foreign : IsOutside past.changes (past.disk s) (before s) → (t : ℕ) → is_away past t ≡ false → r.has_current kept.last (past.disk t) ≡ true → (on : IsOn past.changes (past.disk t) (after t)) → on.number ≡ j
    when_foreign outside t there native on = elim (which (seats t)) [
      | inl at ↦
          ⊎_elim
          (λ was. new_is_last t on at (others_last s t was.0.copy seat (λ other is. outside.joins_later j c other may.at_last.since (may.are_members s seat) is) only at was.0.is_only was.0.is_ours))
          (λ wrote. wrote.2)
          (on_either r sound past before after kept j c seats new may written t on there)
      | inr at ↦
          let current = kept.remain j c (past.disk s) t may.at_last.since (may.are_members s seat) joins there native in
          let shown = others_show t there at current in
          let same : after t ≡ before t = ⊎_elim (λ e. e) (λ wrote. let is = wrote.0 in absurd cc) (written t) in
          let is : IsCopyOf (after t) shown.copy = subst (λ (x : Shown r.Copy). IsCopyOf x shown.copy) (sym same) shown.is_copy in
          is_last t on (subst (λ (x : r.Copy). r.Shows x c) (on_copy (past.disk t) (after t) on shown.copy is) shown.shows)
    ]

    -- each member shows a later change than the last acknowledged one
    joined_last : (t : ℕ) → is_away past t ≡ false → r.has_current kept.last (past.disk t) ≡ true → (on : IsOn past.changes (past.disk t) (after t)) → past.changes.acked < on.number
    joined_last t there native on = ⊎_elim
        (λ was.
        let first = later (past.disk s) was.number was.config was.since was.is_member joins in
        let le = may.at_last.none_later was.number was.config was.since in
        ⊎_elim
        (λ other. let lt = kept.entered s t here there was joins other.0 native in omega (arith, other.1))
        (λ wrote. omega (arith, wrote.2))
        (on_either r sound past before after kept j c seats new may written t on there))
        (⊎_elim
        (λ outside.
        let is = when_foreign outside t there native on in
        let lt = later (past.disk s) j c may.at_last.since (may.are_members s seat) joins in
        omega arith)
        (λ lagging. let is = lagging.is_member kept.last kept.is_last in absurd cc))
        (kept.each s here)

  -- The disks that join do so last.
  pub join_last : JoinLast past seats new after
  join_last last s t at here seat joins only there native on =
      let is : last ≡ kept.last = same_number past.changes.acked past.changes.acked last kept.last (record { late = omega arith; is_there = at }) (last_since past before kept) refl in
      joined_last s here seat (sym (ap (λ (x : r.Config). r.has_current x (past.disk s)) is) ∙ joins) only t there (sym (ap (λ (x : r.Config). r.has_current x (past.disk t)) is) ∙ native) on
