use Rattle.std.proofs.Common.{◌≡◌, ◌∙◌, true, sym}
use Rattle.ddf_linux.specs.Places.{lie_from}
use Rattle.ddf_linux.proofs.Listed.{before_places}
use Rattle.ddf_linux.proofs.kind.SlotKind.is_plain_below.Goals as goal

pub returns-in-Turned : goal.returns-in-Turned
returns-in-Turned c = λ yes l bytes under.
    let places = c.in-Turned.places in
    let lie : lie_from places c.args.end ≡ true = sym c.lie_from.ensures ∙ yes in
    rw c.in-Turned.is (before_places places c.args.end l bytes lie under)
