use Rattle.ddf_data_lives.proofs.Standing.{printed_standing}
use Rattle.ddf_data_lives.proofs.laws.a_read_prints_what_is_promised_where_a_disk_stands.Goals as goal

pub returns : goal.returns
returns c = λ group kept disk old exit guid stands read out told allowed promised. printed_standing group kept disk old stands exit guid read out told allowed promised
