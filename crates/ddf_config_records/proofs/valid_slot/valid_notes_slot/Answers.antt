use Rattle.std.proofs.Common.{◌∙◌, ap}
use Rattle.std.specs.Prelude.{slice_get}
use Rattle.std.specs.Option.{option_and_then}
use Rattle.ddf_config_records.specs.Slots.{valid_of}
use Rattle.ddf_config_records.proofs.Building.{first_is}
use Rattle.ddf_config_records.proofs.valid_slot.valid_notes_slot.Goals as goal

pub returns-clause-notes : goal.returns-clause-notes
returns-clause-notes c =
    let valid = valid_of c.args.group.now c.args.sequence in
    ap (option_and_then (λ place. option_and_then valid (slice_get c.args.slots.now place))) c.first_valid.ensures ∙ first_is valid c.args.slots.now
