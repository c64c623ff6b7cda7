use Rattle.ddf_primary.proofs.ShapeFacts.{rows_is, rows_le, rows_le_concatenated, rows_le_mirror}
use Rattle.ddf_primary.proofs.Needs.{not_mirror}
use Rattle.ddf_primary.proofs.shape.Shape.rows.Goals as goal

pub returns-in-Concatenation-clause-fits : goal.returns-in-Concatenation-clause-fits
returns-in-Concatenation-clause-fits c = rw (c.from.ensures, ← c.self.view_is) (rows_le_concatenated _ c.in-Concatenation.is)

pub returns-in-Mirror-clause-fits : goal.returns-in-Mirror-clause-fits
returns-in-Mirror-clause-fits c = rw (← c.self.view_is) (rows_le_mirror _ _ c.in-Mirror.is c.self.invariant)

pub returns-in_default : goal.returns-in_default
returns-in_default c =
    rw (← c.self.view_is)
    (record {
      value = rows_is _ c.in_default.not-Concatenation (not_mirror _ c.in_default.not-Mirror);
      fits = rows_le _ c.self.invariant c.in_default.not-Concatenation (not_mirror _ c.in_default.not-Mirror);
    })
