use Rattle.std.proofs.Common.{◌∙◌, length, sym}
use Rattle.std.proofs.lemmas.Bool.{eq-eqb}
use Rattle.ddf_hidden_logs.specs.TurnLaws.{sector_of}
use Rattle.ddf_hidden_logs.proofs.mask.is_sector.Goals as goal

pub returns : goal.returns
returns c = c.fills_sector.ensures ∙ eq-eqb (length c.args.bytes.now) 512 c.told-bytes ∙ sym (sector_of c.args.bytes.now c.told-bytes c.fits-bytes)
