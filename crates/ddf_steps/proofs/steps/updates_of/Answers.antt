use Rattle.std.proofs.Common.{not, List, [], filter, sym, subst}
use Rattle.ddf_update.specs.declared.prepared.Prepared.{Prepared}
use Rattle.ddf_seats.specs.declared.seated.Seated.{Seated}
use Rattle.ddf_seats.specs.Seated.{is_adopted}
use Rattle.ddf_steps.specs.Trying.{ArePrepared}
use Rattle.ddf_steps.proofs.Updates.{none_prepared}
use Rattle.ddf_steps.proofs.steps.updates_of.Goals as goal

pub returns : goal.returns
returns c =
    let own = filter (λ (disk : Seated). not (is_adopted disk)) c.args.disks.now in
    c.in_ok-put_updates-2.ensures own (c.in_ok-put_updates.ensures [] (subst (λ (l : List Prepared). ArePrepared [] l) (sym c.in_ok-updates.ensures.items) none_prepared))
