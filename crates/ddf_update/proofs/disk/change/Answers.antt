use Rattle.std.proofs.lemmas.Result.{on_ok_weaker}
use Rattle.std.specs.Prelude.{slice_index}
use Rattle.ddf_bay.proofs.Steps.{stops_weaken}
use Rattle.ddf_copy.specs.Which.{other_of}
use Rattle.ddf_update.proofs.Changing.{are_apart, both_are_apart, changed, changing}
use Rattle.ddf_update.proofs.disk.change.Goals as goal

pub returns-clause-change : goal.returns-clause-change
returns-clause-change g c = λ tells anchor last old copy is can.
    let size = slice_index (g.B.Bay.disks c.args.bay.now).sizes c.args.slot in
    let prepared = c.args.prepared.now in
    let apart = are_apart size anchor copy prepared.runs can.is_under is.runs_are in
    let both = both_are_apart size anchor copy prepared.runs can.is_under is.runs_are (other_of last) prepared.first prepared.second is.first_is is.second_is in
    stops_weaken (rw c.items-runs.ensures at c.write_both.ensures.any_moment tells can.is_settled apart both)
    (changing (g.B.Bay.disks c.args.bay.now) c.args.slot anchor last old copy prepared is can)

pub returns-clause-changed : goal.returns-clause-changed
returns-clause-changed g c = λ tells anchor last old copy is can.
    let size = slice_index (g.B.Bay.disks c.args.bay.now).sizes c.args.slot in
    let prepared = c.args.prepared.now in
    let apart = are_apart size anchor copy prepared.runs can.is_under is.runs_are in
    let both = both_are_apart size anchor copy prepared.runs can.is_under is.runs_are (other_of last) prepared.first prepared.second is.first_is is.second_is in
    on_ok_weaker c.write_both.result
    (changed (g.B.Bay.disks c.args.bay.now) c.args.slot anchor last old copy prepared is can (g.B.Bay.disks c.write_both.new.bay))
    (rw c.items-runs.ensures at c.write_both.ensures.copied tells apart both)
