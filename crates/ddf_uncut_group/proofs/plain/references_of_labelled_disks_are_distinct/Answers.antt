use Rattle.ddf_uncut_group.proofs.PlainReferences.{names_disk, one_place}
use Rattle.ddf_uncut_group.proofs.plain.references_of_labelled_disks_are_distinct.Goals as goal

pub returns-clause-differ : goal.returns-clause-differ
returns-clause-differ c = λ stamp one other same. one_place stamp one other same

pub returns-clause-named : goal.returns-clause-named
returns-clause-named c = λ stamp place low. names_disk stamp place low
