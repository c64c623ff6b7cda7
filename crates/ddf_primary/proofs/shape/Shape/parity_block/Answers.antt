use Rattle.std.proofs.Common.{◌∙◌}
use Rattle.ddf_primary.proofs.ShapeFacts.{none_on_parity, parity_answer}
use Rattle.ddf_primary.proofs.shape.Shape.parity_block.Goals as goal

pub returns-then-member-on : goal.returns-then-member-on
returns-then-member-on c =
    rw (← c.self.view_is)
    (none_on_parity _ c.args.parity c.args.member c.args.sector (rw (← c.self.view_is) at c.requires.layout) c.self.invariant (c.if-member-on.true ∙ c.parity_of-on.ensures.value))

pub returns : goal.returns
returns c =
    rw (c.striped_block.ensures, ← c.self.view_is)
    (parity_answer _ c.args.parity c.args.member c.args.sector c.strip_of-number.result (rw (← c.self.view_is) at c.requires.layout) c.self.invariant (rw c.parity_of-on.ensures.value at c.strip_of-number.ensures.value) (rw (← c.self.view_is) at c.requires.sector))
