use Rattle.std.proofs.Common.{◌≡◌, Bool, true, List, [], ◌∷◌, ◌++◌, cond, sym, subst, ◌∙◌}
use Rattle.ddf_plan.specs.Same.{same_flag}
use Rattle.ddf_update.specs.declared.prepared.Prepared.{Prepared}
use Rattle.ddf_seats.specs.Seated.{is_adopted}
use Rattle.ddf_steps.specs.Trying.{ArePrepared}
use Rattle.ddf_steps.proofs.Updates.{prepared_more}
use Rattle.ddf_steps.proofs.steps.put_update.Goals as goal

pub returns-then-is_turn : goal.returns-then-is_turn
returns-then-is_turn c = λ before are.
    let disk = c.args.disk.now in
    let turn : same_flag c.args.adopted (is_adopted disk) ≡ true = sym c.is_turn.ensures ∙ c.if-is_turn.true in
    subst (λ (b : Bool). ArePrepared (before ++ cond b (disk ∷ []) []) c.push.new.self.items) (sym turn)
    (subst (λ (l : List Prepared). ArePrepared (before ++ disk ∷ []) l) (sym c.in_ok-push.ensures.items)
    (prepared_more before c.args.updates.now.items disk c.in_ok-prepare.field-0 are c.in_ok-prepare.ensures))
