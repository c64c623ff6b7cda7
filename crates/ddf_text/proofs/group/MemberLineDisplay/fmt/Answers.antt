use Rattle.std.proofs.Common.{◌≡◌, ◌∙◌, append_assoc, codes, false, sym}
use Rattle.ddf_text.specs.Hexes.{hex32}
use Rattle.ddf_text.specs.Standing.{has_seat}
use Rattle.ddf_text.proofs.group.MemberLineDisplay.fmt.Goals as goal

pub returns-then-not-has_seat-clause-writes : goal.returns-then-not-has_seat-clause-writes
returns-then-not-has_seat-clause-writes g c =
    let reference = c.args.self.now.reference in
    let none : has_seat c.args.self.now.seats.now reference ≡ false = sym c.has_seat.ensures ∙ c.if-not-has_seat.true in
    rw (c.if-self.false, none, append_assoc (hex32 reference) (codes " absent") (codes "\n")) c.writeln-then-not-has_seat.ensures.writes
