use Rattle.ddf_data_lives.proofs.Standing.{finds_standing}
use Rattle.ddf_data_lives.proofs.laws.a_command_is_admitted_where_a_disk_stands.Goals as goal

pub returns : goal.returns
returns c = λ group kept disk old exit stands well told left every_slot failed out newest read found is_found.
    finds_standing group kept disk old stands exit well told left every_slot failed out newest read found is_found
