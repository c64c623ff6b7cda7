use Rattle.ddf_data_array.proofs.Resynced.{kept_resyncing}
use Rattle.ddf_data_array.proofs.laws.a_resync_keeps_what_the_array_keeps.Goals as goal

pub returns : goal.returns
returns c = λ is_absent volume first before image allowed known apart writable first_kept kept left are.
    kept_resyncing is_absent volume known apart first before image allowed writable first_kept kept left are
