use Rattle.std.proofs.Common.{◌∙◌, refl, sym, subst, arith}
use Rattle.std.proofs.lemmas.Result.{IfOk-weaker}
use Rattle.ddf_lemmas.proofs.Options.{always_ok}
use Rattle.ddf_lemmas.proofs.Tests.{true_not_false}
use Rattle.ddf_read.specs.Reading.{Failed}
use Rattle.ddf_cells.proofs.Whole.{readable}
use Rattle.ddf_write.specs.Keeping.{AreGivenThem, AreTheirValues, Keeping, KeepsNone}
use Rattle.ddf_write.proofs.Looked.{given_them, no_parity_kept, nothing_kept, their_values}
use Rattle.ddf_write.proofs.WrittenValues.{not_refused}
use Rattle.ddf_write.proofs.beside.look_beside.Goals as goal
use Rattle.ddf_write.proofs.KeptValues.{never_some}

pub look_at-requires-clause-readable : goal.look_at-requires-clause-readable
look_at-requires-clause-readable g c =
    let is = not_refused c.args.view.now c.args.start c.args.count (sym c.in_default.ensures.value) in
    readable c.args.view.now c.in_default.ensures.sound is.1 is.0

pub look_at-requires-clause-keeps : goal.look_at-requires-clause-keeps
look_at-requires-clause-keeps g c = sym c.if-not-has_parity.ensures

pub look_at-requires-clause-trusted : goal.look_at-requires-clause-trusted
look_at-requires-clause-trusted g c = c.requires.trusted (sym c.if-not-has_parity.ensures)

pub returns-then-not-has_parity-clause-beside : goal.returns-then-not-has_parity-clause-beside
returns-then-not-has_parity-clause-beside g c =
    let v = c.args.view.now in
    record {
      some = omega arith;
      some_first = omega arith;
      plain = λ none. (refl, refl);
      stripes = λ keeps. absurd (true_not_false (sym keeps ∙ sym c.if-not-has_parity.ensures));
      all_kept = nothing_kept v c.args.start c.args.count 2048 0 _ (omega arith) (no_parity_kept v (sym c.if-not-has_parity.ensures) _) c.args.count 0 (omega arith);
      keeps_none = subst (λ (kept : Keeping). KeepsNone v c.args.start c.args.count kept) (sym c.new.ensures) (λ element position sector bytes is. absurd (never_some is));
    }

pub returns-then-not-has_parity-clause-values : goal.returns-then-not-has_parity-clause-values
returns-then-not-has_parity-clause-values g c = λ tells sure.
    subst (λ (kept : Keeping). AreTheirValues c.args.view.now (g.B.Bay.disks c.args.bay.now).held kept) (sym c.new.ensures) (λ element part position sector bytes cell is. absurd (never_some is))

pub returns-then-not-has_parity-clause-given : goal.returns-then-not-has_parity-clause-given
returns-then-not-has_parity-clause-given g c = λ tells.
    subst (λ (kept : Keeping). AreGivenThem (Failed (g.B.Bay.disks c.args.bay.now) (g.B.Bay.disks c.args.bay.now)) c.args.view.now (g.B.Bay.disks c.args.bay.now).held kept) (sym c.new.ensures)
    (λ element part position sector bytes cell is. absurd (never_some is))

pub returns-clause-values : goal.returns-clause-values
returns-clause-values g c = λ tells.
    IfOk-weaker c.look_at.result _ _
    (λ beside gathers sure. their_values g.B.Bay.tells (g.B.Bay.disks c.args.bay.now) (g.B.Bay.disks c.look_at.new.bay) c.args.view.now c.args.start c.args.count beside.kept gathers c.in_default.ensures.sound tells sure)
    c.look_at.ensures.gathers

pub returns-clause-given : goal.returns-clause-given
returns-clause-given g c = λ tells.
    IfOk-weaker c.look_at.result _ _
    (λ beside gathers. given_them g.B.Bay.tells (g.B.Bay.disks c.args.bay.now) (g.B.Bay.disks c.look_at.new.bay) c.args.view.now c.args.start c.args.count beside.kept gathers tells)
    c.look_at.ensures.gathers

pub returns-clause-idle : goal.returns-clause-idle
returns-clause-idle g c = λ none. absurd (true_not_false (c.if-not-has_parity.ensures ∙ none))

pub returns-clause-ok : goal.returns-clause-ok
returns-clause-ok g c = always_ok c.look_at.result (sym c.in_default.ensures.value)
