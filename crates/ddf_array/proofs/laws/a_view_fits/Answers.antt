use Rattle.ddf_array.proofs.Fits.{view_fits}
use Rattle.ddf_array.proofs.laws.a_view_fits.Goals as goal

pub returns : goal.returns
returns c = view_fits
