-- Each change of a rebuild is a step: it makes another position of the one that it is of.
use Rattle.std.proofs.Common.{◌≡◌, ℕ, ◌<◌, Bool, true, false, not, ◌&&◌, ◌==◌, List, nat_eq, refl, sym, ap, subst, ◌∙◌, if◌then◌else◌, arith}
use Rattle.std.proofs.lemmas.Bool.{and_parts, eq-eqb, eqb-true, false≢true}
use Rattle.ddf_config.specs.declared.element.Position.{Position}
use Rattle.ddf_config.specs.Configuration.{Configuration}
use Rattle.ddf_plan.specs.declared.change.Change.{Change}
use Rattle.ddf_plan.specs.declared.change.Change.TheVariants.{Begin, Finish, Progress, Return}
use Rattle.ddf_plan.specs.Arrays.{position_after}
use Rattle.ddf_plan.specs.Changes.{changed, changed_at}
use Rattle.ddf_plan.specs.Rebuild.{new_position}
use Rattle.ddf_plan.specs.Same.{is_step, same_flag, same_position, same_tables}
use Rattle.ddf_rebuild_command.proofs.Positions.{IsHeld, IsOfElement, begins, finishes, held_after, progresses, returns, same_held}

-- A position that is out of sync, of which so many rows are rebuilt.
pub record IsOutAt (config : Configuration) (guid : List ℕ) (element position row : ℕ) : Type 0 where
  pub held : Position
  pub is_held : IsHeld config guid element position held
  pub is_out : held.synced ≡ false
  pub row_is : held.row ≡ row

-- the parts of what two positions have in common
record AreSame (one other : Position) : Type 0 where
  references : one.reference ≡ other.reference
  flags : same_flag one.synced other.synced ≡ true
  rows : one.row ≡ other.row

are_same : (one other : Position) → same_position one other ≡ true → AreSame one other
are_same one other same =
    let last = and_parts (one.reference == other.reference && one.start == other.start && same_flag one.synced other.synced) (one.row == other.row) same in
    let third = and_parts (one.reference == other.reference && one.start == other.start) (same_flag one.synced other.synced) last.0 in
    let first = and_parts (one.reference == other.reference) (one.start == other.start) third.0 in
    record { references = eqb-true one.reference other.reference first.0; flags = third.1; rows = eqb-true one.row other.row last.1 }

module _ (config : Configuration) (guid : List ℕ) (element position : ℕ) where
  -- A change that makes another position of it is a step.
  step_by : (change : Change) → IsOfElement config guid element change → (held : Position) → IsHeld config guid element position held → (AreSame held (position_after change position held) → ⊥)
      → is_step config change ≡ true
  step_by change is held before another = by (same_tables config (changed config change)) refl
    where
      by : (b : Bool) → same_tables config (changed config change) ≡ b → not b ≡ true
      by false e = refl
      by true e = absurd (another (are_same held (position_after change position held) (same_held config guid element change is position held before e)))

  own_number : nat_eq position position ≡ true
  own_number = eq-eqb position position refl

  module _ (reference start : ℕ) (held : Position) (before : IsHeld config guid element position held) where
    abbrev beginning : Change
    beginning = Begin guid element position reference start

    begun_is : position_after beginning position held ≡ new_position reference start
    begun_is = ap (λ (b : Bool). if b then new_position reference start else held) own_number

    -- A position on another disk begins anew.
    pub begin_steps : (held.reference ≡ reference → ⊥) → is_step config beginning ≡ true
    begin_steps other =
        step_by beginning (begins config guid element position reference start) held before
        (λ (same : AreSame held (position_after beginning position held)). other (same.references ∙ ap (λ (one : Position). one.reference) begun_is))

    pub held_begun : (sequence : ℕ) → IsHeld (changed_at config beginning sequence) guid element position (new_position reference start)
    held_begun sequence =
        subst (IsHeld (changed_at config beginning sequence) guid element position) begun_is
        (held_after config guid element beginning (begins config guid element position reference start) position held before sequence)

    pub out_begun : (sequence : ℕ) → IsOutAt (changed_at config beginning sequence) guid element position 0
    out_begun sequence = record {
      held = new_position reference start;
      is_held = held_begun sequence;
      is_out = refl;
      row_is = refl;
    }

  -- One that goes to another disk is another too.
  pub return_steps : (reference start : ℕ) (held : Position) → IsHeld config guid element position held → (held.reference ≡ reference → ⊥) → is_step config (Return guid element position reference start) ≡ true
  return_steps reference start held before other =
      step_by (Return guid element position reference start) (returns config guid element position reference start) held before
      (λ (same : AreSame held (position_after (Return guid element position reference start) position held)).
      other (same.references ∙ ap (λ (b : Bool). (returned_by b).reference) own_number))
    where
      returned_by : Bool → Position
      returned_by b = let there = (if b then new_position reference start else held) in if b then record there { synced = true; row = 0 } else there

  module _ (row : ℕ) (out : IsOutAt config guid element position row) where
    -- So does its progress, where it goes on,
    pub progress_steps : (next : ℕ) → row < next → is_step config (Progress guid element position next) ≡ true
    progress_steps next less =
        step_by (Progress guid element position next) (progresses config guid element position next) out.held out.is_held
        (λ (same : AreSame out.held (position_after (Progress guid element position next) position out.held)).
        let is : out.held.row ≡ next = same.rows ∙ ap (λ (b : Bool). if b then next else 0) own_number in
        omega (arith, less, is, out.row_is))

    pub out_progressed : (next sequence : ℕ) → IsOutAt (changed_at config (Progress guid element position next) sequence) guid element position next
    out_progressed next sequence = record {
      held = position_after (Progress guid element position next) position out.held;
      is_held = held_after config guid element (Progress guid element position next) (progresses config guid element position next) position out.held out.is_held sequence;
      is_out = out.is_out;
      row_is = ap (λ (b : Bool). if b then next else 0) own_number;
    }

    -- and its end.
    pub finish_steps : is_step config (Finish guid element position) ≡ true
    finish_steps =
        step_by (Finish guid element position) (finishes config guid element position) out.held out.is_held
        (λ (same : AreSame out.held (position_after (Finish guid element position) position out.held)).
        let synced : (position_after (Finish guid element position) position out.held).synced ≡ true = ap (λ (b : Bool). (if b then record out.held { synced = true; row = 0 } else out.held).synced) own_number in
        false≢true (sym (ap (λ (b : Bool). same_flag b true) out.is_out) ∙ ap (same_flag out.held.synced) (sym synced) ∙ same.flags))
