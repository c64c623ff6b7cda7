use Rattle.std.proofs.Common.{◌≡◌, ◌∙◌, ◌+◌, Some, sym, ap, arith}
use Rattle.std.specs.Prelude.{true}
use Rattle.std.proofs.lemmas.Grind.{common_steps}
use Rattle.ddf_bay.proofs.Steps.{spends_then}
use Rattle.ddf_bay.specs.Sectors.{Image, IsRead}
use Rattle.ddf_stage.specs.Gate.{opened}
use Rattle.ddf_stage.specs.Laid.{names_one}
use Rattle.ddf_stage.proofs.DeskReads.{read_is, stands_there}
use Rattle.ddf_stage.proofs.reading.read_desk.Goals as goal

pub returns-clause-exact : goal.returns-clause-exact
returns-clause-exact g c = λ tells.
    let image : Image = (g.B.Bay.disks c.args.bay.now).held in
    let sector : c.read.new.into ≡ image c.args.desk.slot c.args.desk.lba = c.in_ok-read.ensures.bytes tells in
    let is : opened (image c.args.desk.slot c.args.desk.lba) ≡ Some c.in-Some.gate = ap opened (sym sector) ∙ sym c.open_gate.ensures.exact ∙ c.in-Some.is in
    let names : names_one c.args.arrays.now c.in-Some.gate ≡ true = sym c.names_one.ensures ∙ c.if-not-names_one.false in
    let read : IsRead (image c.args.desk.slot) (c.args.desk.lba + 1) c.read_run.new.into = rw c.read.ensures.held at (c.in_ok-read_run.ensures.bytes tells) in
    read_is c.args.arrays.now image c.args.desk c.in-Some.gate c.read_run.new.into is names (grind (arith, common_steps)) read

pub returns-in_err-read_run-clause-spends : goal.returns-in_err-read_run-clause-spends
returns-in_err-read_run-clause-spends g c = spends_then c.read.ensures.spends c.read_run.ensures.spends

pub returns-in_err-read_run-clause-shut : goal.returns-in_err-read_run-clause-shut
returns-in_err-read_run-clause-shut g c = λ tells.
    let image : Image = (g.B.Bay.disks c.args.bay.now).held in
    let sector : c.read.new.into ≡ image c.args.desk.slot c.args.desk.lba = c.in_ok-read.ensures.bytes tells in
    stands_there c.args.arrays.now image c.args.desk c.in-Some.gate (ap opened (sym sector) ∙ sym c.open_gate.ensures.exact ∙ c.in-Some.is) (sym c.names_one.ensures ∙ c.if-not-names_one.false)

pub returns-clause-spends : goal.returns-clause-spends
returns-clause-spends g c = spends_then c.read.ensures.spends c.read_run.ensures.spends

pub returns-clause-shut : goal.returns-clause-shut
returns-clause-shut g c = λ tells.
    let image : Image = (g.B.Bay.disks c.args.bay.now).held in
    let sector : c.read.new.into ≡ image c.args.desk.slot c.args.desk.lba = c.in_ok-read.ensures.bytes tells in
    stands_there c.args.arrays.now image c.args.desk c.in-Some.gate (ap opened (sym sector) ∙ sym c.open_gate.ensures.exact ∙ c.in-Some.is) (sym c.names_one.ensures ∙ c.if-not-names_one.false)
