use Rattle.ddf_data_group.proofs.Free.{alike, aside, filled_in}
use Rattle.ddf_data_group.proofs.laws.a_free_extent_is_no_arrays.Goals as goal

pub returns-clause-alike : goal.returns-clause-alike
returns-clause-alike c = λ config guid seats one slot array volume before image are seated on clear found over stays. alike config seats seated one slot on clear guid array volume found over before image stays

pub returns-clause-aside : goal.returns-clause-aside
returns-clause-aside c = λ config guid seats one slot array volume sizes element part are seated on clear found over fits part_at blocks.
    aside config seats seated one slot on clear guid array volume found over (are.small one.reference) sizes element part fits part_at blocks

pub returns-clause-filled : goal.returns-clause-filled
returns-clause-filled c = λ volume element slot start part before image part_at stays. filled_in volume element slot start part part_at before image stays
