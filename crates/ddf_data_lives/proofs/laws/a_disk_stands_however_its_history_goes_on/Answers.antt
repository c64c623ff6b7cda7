use Rattle.ddf_data_lives.proofs.Standing.{stands_however}
use Rattle.ddf_data_lives.proofs.laws.a_disk_stands_however_its_history_goes_on.Goals as goal

pub returns : goal.returns
returns c = λ group kept disk start stands turns. stands_however group kept disk turns start stands
