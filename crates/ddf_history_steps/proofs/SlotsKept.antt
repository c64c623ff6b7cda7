-- A call keeps the slots of a history, however far it came.
use Rattle.std.proofs.Common.{◌≡◌, ◌⊎◌, ℕ, ◌+◌, not, ◌&&◌, ◌||◌, Bool, true, false, List, [], ◌∷◌, length, take, if◌then◌else◌, refl, ap, sym, ◌∙◌, subst, inl, inr}
use Rattle.std.proofs.lemmas.Bool.{and_parts, not-true, or_cases}
use Rattle.std.proofs.Math.Bool.{or-false}
use Rattle.ddf_config.specs.Configuration.{Configuration}
use Rattle.ddf_history.specs.Groups.{groups, has_current}
use Rattle.ddf_history.specs.Issued.{Past, acknowledge, issue, leave_out, take_off}
use Rattle.ddf_seats.specs.Group.{GroupValue}
use Rattle.ddf_seats.specs.Leading.{some}
use Rattle.ddf_history_steps.specs.Going.{Ends, KeepsSlots, begun, issue_all}

module _ (group : List ℕ) (past : Past (groups group)) (readable : ℕ → Bool) (found : GroupValue) where
  -- A change that is issued leaves them.
  pub record AreSame (before after : Past (groups group)) : Type 0 where
    pub same_slots : after.slots ≡ before.slots
    pub same_disks : after.disk ≡ before.disk
    pub same_returned : after.returned ≡ before.returned
    pub same_own : after.changes.own_from ≡ before.changes.own_from
    pub same_lost : after.lost ≡ before.lost

  pub issued_same : (one : Past (groups group)) (changes : List Configuration) → AreSame one (issue_all group one changes)
  issued_same one [] = record { same_slots = refl; same_disks = refl; same_returned = refl; same_own = refl; same_lost = refl }
  issued_same one (next ∷ others) =
      let rest = issued_same (issue one next) others in
      record { same_slots = rest.same_slots; same_disks = rest.same_disks; same_returned = rest.same_returned; same_own = rest.same_own; same_lost = rest.same_lost }

  abbrev Keeps : (now : Past (groups group)) → Type 0
  Keeps now = KeepsSlots group past now readable found

  -- Where a call begins a slot is lost only where members are absent, and only one that it doesn't read.
  left_lost : (slot : ℕ) → (past.lost slot || not (readable slot) && has_current found.config (past.disk slot)) ≡ true
      → (past.lost slot ≡ true) ⊎ ((readable slot ≡ false) × (has_current found.config (past.disk slot) ≡ true))
  left_lost slot lost = elim (or_cases (past.lost slot) (not (readable slot) && has_current found.config (past.disk slot)) lost) [
    | inl was ↦ inl was
    | inr left ↦
        let parts = and_parts (not (readable slot)) (has_current found.config (past.disk slot)) left in
        inr (not-true (readable slot) parts.0, parts.1)
  ]

  under_slots : (number acked : ℕ) (changes : List Configuration) → Keeps (acknowledge (issue_all group (begun group past readable found number) changes) acked)
  under_slots number acked changes = by (some found.absent)
    where
      by : (absent : Bool)
          → Keeps (acknowledge (issue_all group (if absent then take_off (leave_out past readable found.config) number else take_off past number) changes) acked)
      by true =
          let same = issued_same (take_off (leave_out past readable found.config) number) changes in
          record {
            same_slots = same.same_slots;
            same_disks = same.same_disks;
            same_returned = same.same_returned;
            same_own = same.same_own;
            still_lost = λ slot was. ap (λ (lost : ℕ → Bool). lost slot) same.same_lost ∙ rw was refl;
            not_lost = λ slot read. ap (λ (lost : ℕ → Bool). lost slot) same.same_lost ∙ rw read (or-false (past.lost slot));
            lost_one = λ slot lost. left_lost slot (sym (ap (λ (all : ℕ → Bool). all slot) same.same_lost) ∙ lost);
          }
      by false =
          let same = issued_same (take_off past number) changes in
          record {
            same_slots = same.same_slots;
            same_disks = same.same_disks;
            same_returned = same.same_returned;
            same_own = same.same_own;
            still_lost = λ slot was. ap (λ (lost : ℕ → Bool). lost slot) same.same_lost ∙ was;
            not_lost = λ slot read. ap (λ (lost : ℕ → Bool). lost slot) same.same_lost;
            lost_one = λ slot lost. inl (sym (ap (λ (all : ℕ → Bool). all slot) same.same_lost) ∙ lost);
          }

  -- They stay, however far the call came.
  pub ends_slots : (changes : List Configuration) (done : Bool) (now : Past (groups group)) → Ends group past readable found changes done now → Keeps now
  ends_slots changes true now over = subst Keeps (sym over.is_now) (under_slots over.number (over.number + length changes) changes)
  ends_slots changes false now (inl same) =
      subst Keeps (sym same)
      (record { same_slots = refl; same_disks = refl; same_returned = refl; same_own = refl; still_lost = λ slot was. was; not_lost = λ slot read. refl; lost_one = λ slot lost. inl lost })
  ends_slots changes false now (inr is) = subst Keeps (sym is.is_now) (under_slots is.number is.acked (take is.issued changes))
