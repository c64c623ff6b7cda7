use Rattle.std.proofs.Common.{Option, subst}
use Rattle.std.specs.Prelude.{IfSome}
use Rattle.std.proofs.lemmas.List.Elements.{All-push}
use Rattle.ddf_array.specs.declared.part.Part.{Part}
use Rattle.ddf_array.specs.Volume.{IsPart}
use Rattle.ddf_array.proofs.viewing.push_part.Goals as goal

pub returns-in_ok-push-clause-sound : goal.returns-in_ok-push-clause-sound
returns-in_ok-push-clause-sound c = λ before.
    rw c.in_ok-push.ensures.items
    (All-push IsPart _ _ before (subst (λ (part : Option Part). IfSome part IsPart) c.in-Some.is c.in_ok-known.ensures.sound))
