use Rattle.std.proofs.Common.{◌≡◌, ◌++◌, drop, map}
use Rattle.std.specs.List.{enumerate_from}
use Rattle.ddf_config_records.specs.declared.notes.Notes.{Notes}
use Rattle.ddf_config_records.specs.declared.spare.SpareRecord.{SpareRecord}
use Rattle.ddf_config_records.specs.declared.slot.RecordSlot.TheVariants as slots
use Rattle.ddf_rewrite.specs.Copies.{slot_after, slots_with}
use Rattle.ddf_rewrite.proofs.slots.slots_with.Given as goal

abbrev pub invariant-loop-index : goal.invariant-loop-index
invariant-loop-index l = (notes : Notes) (spare : SpareRecord) → l.records.notes ≡ slots.Notes notes → l.records.spare ≡ slots.Spare spare
    → l.after.items ++ map (slot_after l.old.header.geometry l.records.holdings.now notes spare l.placed) (enumerate_from l.index (drop l.index l.old.slots))
    ≡ slots_with l.old l.records.holdings.now spare l.placed notes
