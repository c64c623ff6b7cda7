use Rattle.ddf_data_array.proofs.Holding.{holds_same, holds_wanted}
use Rattle.ddf_data_array.proofs.laws.an_available_position_holds_what_it_should.Goals as goal

pub returns-clause-holds : goal.returns-clause-holds
returns-clause-holds c = λ is_absent volume image element position sector slot part place known unmarked within none sound part_at place_at synced there deep.
    holds_wanted is_absent volume known image sound unmarked within element part part_at none position place place_at synced slot there sector deep

pub returns-clause-filled : goal.returns-clause-filled
returns-clause-filled c = λ is_absent volume image element position slot start old part place known unmarked within none sound part_at place_at synced there filled.
    holds_same is_absent volume known image sound unmarked within element part part_at none position place place_at synced old there slot start filled
