use Rattle.std.proofs.Common.{◌≡◌, ◌∙◌, Bool, true, Some, None, List, ℕ, sym, ap, subst}
use Rattle.std.specs.Prelude.{nat_eq}
use Rattle.std.specs.Cmp.Lexicographic.{pointwise}
use Rattle.ddf_stage.specs.declared.gate.Gate.{Gate}
use Rattle.ddf_stage.specs.Gate.{IsGate, gate_at, gate_bytes}
use Rattle.ddf_stage.proofs.Gates.{both_ways, opened_none, opened_some}
use Rattle.ddf_stage.proofs.gate.open_gate.Goals as goal

-- what was compared
test : (sector written : List ℕ) (gate : Gate) (b : Bool) → written ≡ gate_bytes true gate → gate ≡ gate_at sector → b ≡ pointwise nat_eq written sector
    → pointwise nat_eq (gate_bytes true (gate_at sector)) sector ≡ b
test sector written gate b exact is e = ap (λ (g : Gate). pointwise nat_eq (gate_bytes true g) sector) (sym is) ∙ ap (λ (l : List ℕ). pointwise nat_eq l sector) (sym exact) ∙ sym e

some_is : goal.returns-then-eq-clause-exact
some_is c =
    ap Some c.read-gate.ensures.exact
    ∙ sym (opened_some c.args.sector.now (test c.args.sector.now c.gate_sector.result c.read-gate.result c.eq.result c.gate_sector.ensures.exact c.read-gate.ensures.exact c.eq.ensures ∙ c.if-eq.true))

none_is : goal.returns-clause-exact
none_is c =
    sym (opened_none c.args.sector.now (test c.args.sector.now c.gate_sector.result c.read-gate.result c.eq.result c.gate_sector.ensures.exact c.read-gate.ensures.exact c.eq.ensures ∙ c.if-eq.false))

pub returns-then-eq-clause-exact : goal.returns-then-eq-clause-exact
returns-then-eq-clause-exact c = some_is c

pub returns-then-eq-clause-gate : goal.returns-then-eq-clause-gate
returns-then-eq-clause-gate c =
    both_ways c.args.sector.now (Some c.read-gate.result) (some_is c) (subst IsGate c.read-gate.ensures.exact c.read-gate.ensures.fits)

pub returns-clause-exact : goal.returns-clause-exact
returns-clause-exact c = none_is c

pub returns-clause-gate : goal.returns-clause-gate
returns-clause-gate c = both_ways c.args.sector.now None (none_is c) (subst IsGate c.read-gate.ensures.exact c.read-gate.ensures.fits)
