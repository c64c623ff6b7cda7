use Rattle.std.proofs.Common.{ap}
use Rattle.ddf_group_commands.specs.Requests.{at_most_one}
use Rattle.ddf_data_calls.proofs.Wished.{wish_may}
use Rattle.ddf_data_calls.proofs.laws.what_a_wish_asks_for.Goals as goal

pub returns-clause-request : goal.returns-clause-request
returns-clause-request c = λ slots config seats linux stamp wish asked is. ap at_most_one is

pub returns-clause-may : goal.returns-clause-may
returns-clause-may c = λ slots config seats linux stamp wish asked is image promises may. wish_may config seats linux stamp image promises slots wish asked is may
