use Rattle.ddf_data_lives.proofs.Lasting.{lasts_however}
use Rattle.ddf_data_lives.proofs.laws.a_disk_that_no_call_fails_stands_however_its_history_goes_on.Goals as goal

pub returns : goal.returns
returns c = λ group kept disk start stands times. lasts_however group kept disk times start stands
