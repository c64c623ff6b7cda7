use Rattle.ddf_array.proofs.Fits.{place_seat}
use Rattle.ddf_array.proofs.laws.a_place_is_on_a_seat.Goals as goal

pub returns : goal.returns
returns c = place_seat
