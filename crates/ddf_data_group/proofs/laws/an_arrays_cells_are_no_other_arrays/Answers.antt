use Rattle.ddf_data_group.proofs.Clearly.{others_same, used}
use Rattle.ddf_data_group.proofs.laws.an_arrays_cells_are_no_other_arrays.Goals as goal

pub returns : goal.returns
returns c = λ config guid other seats volume other_volume array before image are seated e known changes apart found over.
    others_same config guid seats volume (used config guid seats volume e known) are seated before image changes other array other_volume apart found over
