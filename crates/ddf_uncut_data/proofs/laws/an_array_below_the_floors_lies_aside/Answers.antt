use Rattle.ddf_uncut_data.proofs.Aside.{aside_below, blank_below}
use Rattle.ddf_uncut_data.proofs.laws.an_array_below_the_floors_lies_aside.Goals as goal

pub returns-clause-aside : goal.returns-clause-aside
returns-clause-aside c = λ floor volume low sizes steps same. aside_below floor volume low sizes steps same

pub returns-clause-blank : goal.returns-clause-blank
returns-clause-blank c = λ floor volume low image empty. blank_below floor volume low image empty
