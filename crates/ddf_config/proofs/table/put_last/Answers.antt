use Rattle.std.proofs.Common.{◌∙◌}
use Rattle.indexmap.proofs.CallerLemmas.{insert_entry-new}
use Rattle.ddf_config.proofs.table.put_last.Goals as goal

pub returns-clause-put : goal.returns-clause-put
returns-clause-put g c = c.in_ok-insert.ensures.entries ∙ insert_entry-new _ c.args.table.now c.args.key c.args.value c.requires
