-- The notes that a disk has after a change or a recovery (profile): one for each slot, by what is placed there.
use Rattle.std.specs.Prelude.{ℕ, Bool, false, not, ◌&&◌, ◌==◌, List, [], map, filter, find, Option, Some, None}
use Rattle.std.specs.List.{enumerate_from, range_with_len}
use Rattle.std.specs.Option.{option_map_or}
use Rattle.std.specs.Str.{bytes_eq}
use Rattle.ddf_config_records.specs.declared.notes.SlotNote.{SlotNote}
use Rattle.ddf_config_records.specs.declared.notes.Notes.{Notes}
use Rattle.ddf_config_records.specs.ElementValue.{ElementValue}
use Rattle.ddf_config.specs.declared.element.Position.{Position}
use Rattle.ddf_config.specs.ElementValue.{ElementValue as ElementPlan}
use Rattle.ddf_config.specs.Configuration.{Configuration}
use Rattle.ddf_rewrite.specs.declared.item.Item.{Item}
use Rattle.ddf_rewrite.specs.declared.item.Item.TheVariants as items
use Rattle.ddf_rewrite.specs.declared.item.Slotted.{Slotted}
use Rattle.ddf_rewrite.specs.Wanted.{Wanted}
use Rattle.ddf_rewrite.specs.Placement.{item_at}

-- an element that a disk is to hold: what it is, whether its record is a copy, and the record
pub record Holding : Type 0 where
  pub wanted : Wanted
  pub copied : Bool
  pub element : ElementValue

abbrev pub is_holding : (array : List ℕ) → (index : ℕ) → Holding → Bool
is_holding array index holding = bytes_eq holding.wanted.guid array && holding.wanted.index == index

abbrev pub find_holding : (array : List ℕ) → (index : ℕ) → List Holding → Option Holding
find_holding array index holdings = find (is_holding array index) holdings

-- ---- a note

-- the note of a slot that holds no element
abbrev pub no_note : SlotNote
no_note = record { copied = false; position = 0xFFFF; stand_in = 0; row = 0; out = [] }

-- the position that is being rebuilt, with its number
abbrev pub rebuilt : ElementPlan → Option (ℕ × Position)
rebuilt plan = find (λ pair. not (pair.1.row == 0)) (enumerate_from 0 plan.positions)

-- the numbers of the positions that are out of sync
abbrev pub out_of_sync : ElementPlan → List ℕ
out_of_sync plan = map (λ pair. pair.0) (filter (λ pair. not pair.1.synced) (enumerate_from 0 plan.positions))

abbrev pub note_of : (copied : Bool) → ElementPlan → SlotNote
note_of copied plan = record {
  copied = copied;
  position = option_map_or (λ pair. pair.0) (rebuilt plan) 0xFFFF;
  stand_in = plan.stand_in;
  row = option_map_or (λ pair. pair.1.row) (rebuilt plan) 0;
  out = out_of_sync plan;
}

abbrev pub note_for : List Holding → Option Item → SlotNote
note_for holdings None = no_note
note_for holdings (Some items.Notes) = no_note
note_for holdings (Some items.Spare) = no_note
note_for holdings (Some (items.Element array index)) = option_map_or (λ holding. note_of holding.copied holding.wanted.plan) (find_holding array index holdings) no_note

-- ---- all of them

unfoldable pub notes_after : Configuration → List Holding → List Slotted → (count : ℕ) → Notes
notes_after config holdings placed count = record {
  group = config.group;
  sequence = config.sequence;
  slots = map (λ slot. note_for holdings (item_at placed slot)) (range_with_len 0 count);
}
