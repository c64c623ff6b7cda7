use Rattle.std.proofs.Common.{◌+◌, ℕ, sym, ◌∙◌, ap, subst, arith, ⊎_elim}
use Rattle.std.proofs.lemmas.Bool.{cases_eq}
use Rattle.std.proofs.lemmas.Grind.{common_steps}
use Rattle.ddf_bay.specs.Moments.{IsSettled}
use Rattle.ddf_bay.specs.Sectors.{IsLeft}
use Rattle.ddf_bay.proofs.Steps.{keeps_then, left_keeps, over_most, over_then, over_writes, settled_keeps, stops_then}
use Rattle.ddf_stage.specs.Staging.{HasCell}
use Rattle.ddf_stage.proofs.Owned.{has_none, has_one}
use Rattle.ddf_stage.proofs.cells.sync_cells.Goals.{then-has_cell+in-Ok, else-has_cell}
use Rattle.ddf_stage.proofs.cells.sync_cells.Goals as goal

pub returns-in-Err-clause-failed : goal.returns-in-Err-clause-failed
returns-in-Err-clause-failed g c =
    let has : HasCell c.args.cells.now c.loop-slot.slot = has_one c.args.cells.now c.loop-slot.slot (sym c.has_cell.ensures ∙ c.if-has_cell.true) in
    grind (arith, common_steps, has)

pub loop-slot-preserved : goal.loop-slot-preserved
loop-slot-preserved g c =
    let was = g.B.Bay.disks c.loop-slot.bay in
    elim c.if-has_cell.branch [
      | then-has_cell+in-Ok w ↦
          let now = g.B.Bay.disks w.sync.new.self in
          rw w.bay-is (record {
            settled = λ slot below has.
                ⊎_elim
                (λ same. subst (λ (n : ℕ). IsSettled now.may_hold now.held n) (sym same) w.in-Ok.ensures.durable)
                (λ apart.
                settled_keeps was.may_hold now.may_hold was.held now.held slot (c.loop-slot.invariant.settled slot (omega (arith, below, apart)) has) w.sync.ensures.left
                (λ l. ap (λ (i : ℕ → ℕ → _). i slot l) w.sync.ensures.held))
                (cases_eq slot c.loop-slot.slot);
            held = w.sync.ensures.held ∙ c.loop-slot.invariant.held;
            left = keeps_then {a = (g.B.Bay.disks c.args.bay.now).may_hold} c.loop-slot.invariant.left w.sync.ensures.left;
            any_moment = stops_then {Q = IsLeft was.may_hold} c.loop-slot.invariant.any_moment w.sync.ensures.any_moment
                (λ image left. left_keeps (g.B.Bay.disks c.args.bay.now).may_hold was.may_hold image c.loop-slot.invariant.left left);
            reads = w.sync.ensures.spends.same ∙ c.loop-slot.invariant.reads;
            spends = over_most 0 (c.loop-slot.slot + 1) (over_then c.loop-slot.invariant.spends (over_writes w.sync.ensures.spends)) (omega arith) (omega arith);
            writes = w.in-Ok.ensures.ok ∙ c.loop-slot.invariant.writes;
          })
      | else-has_cell w ↦
          rw w.bay-is (record {
            settled = λ slot below has.
                ⊎_elim
                (λ same. absurd (has_none c.args.cells.now c.loop-slot.slot (sym c.has_cell.ensures ∙ w.if-has_cell.false) (subst (λ (n : ℕ). HasCell c.args.cells.now n) same has)))
                (λ apart. c.loop-slot.invariant.settled slot (omega (arith, below, apart)) has)
                (cases_eq slot c.loop-slot.slot);
            held = c.loop-slot.invariant.held;
            left = c.loop-slot.invariant.left;
            any_moment = c.loop-slot.invariant.any_moment;
            reads = c.loop-slot.invariant.reads;
            spends = over_most 0 (c.loop-slot.slot + 1) c.loop-slot.invariant.spends (omega arith) (omega arith);
            writes = c.loop-slot.invariant.writes;
          })
    ]

pub returns-clause-settled : goal.returns-clause-settled
returns-clause-settled g c = λ slot has.
    let there = (c.requires has.number has.cell has.is_cell).0 in
    c.loop-slot.invariant.settled slot (omega (arith, there, has.on_slot, c.loop-slot-test.false, c.slots-slot-end.ensures)) has
