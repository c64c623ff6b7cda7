use Rattle.std.proofs.Common.{◌≡◌, drop}
use Rattle.std.specs.List.{list_all}
use Rattle.ddf_rewrite.specs.Before.{before}
use Rattle.ddf_rewrite.specs.Elements.{has_places}
use Rattle.ddf_rewrite.specs.Room.{spares_before}
use Rattle.ddf_rewrite.proofs.room.lacks_places.Given as goal

abbrev pub invariant-loop-wanted : goal.invariant-loop-wanted
invariant-loop-wanted l =
    list_all (λ wanted. has_places l.config wanted.guid (spares_before (before l.leaders) wanted)) (drop l.wanted-index l.all)
    ≡ list_all (λ wanted. has_places l.config wanted.guid (spares_before (before l.leaders) wanted)) l.all
