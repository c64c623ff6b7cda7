-- Which record stands in which slot of the configuration records (profile): one that is there keeps its slot, and each new one takes
-- the lowest unused slot.
use Rattle.std.specs.Prelude.{ℕ, Bool, true, false, ◌&&◌, ◌||◌, ◌==◌, List, [], ◌∷◌, find, filter_map, position, Option, Some, None, option_map, is_some, if◌then◌else◌}
use Rattle.std.specs.List.{enumerate_from, list_any}
use Rattle.std.specs.Option.{option_or, option_map_or}
use Rattle.std.specs.Str.{bytes_eq}
use Rattle.ddf_config_records.specs.declared.slot.RecordSlot.{RecordSlot}
use Rattle.ddf_config_records.specs.declared.slot.RecordSlot.TheVariants as slots
use Rattle.ddf_config_records.specs.Slots.{valid_of}
use Rattle.ddf_view.specs.View.{element_of, spare_of}
use Rattle.ddf_rewrite.specs.declared.item.Item.{Item}
use Rattle.ddf_rewrite.specs.declared.item.Item.TheVariants as items
use Rattle.ddf_rewrite.specs.declared.item.Slotted.{Slotted}

-- ---- what is to have a slot

abbrev pub is_item : Item → Item → Bool
is_item items.Notes items.Notes = true
is_item items.Notes items.Spare = false
is_item items.Notes (items.Element other place) = false
is_item items.Spare items.Notes = false
is_item items.Spare items.Spare = true
is_item items.Spare (items.Element other place) = false
is_item (items.Element array index) items.Notes = false
is_item (items.Element array index) items.Spare = false
is_item (items.Element array index) (items.Element other place) = bytes_eq array other && index == place

-- ---- where it stands

abbrev pub is_notes_slot : RecordSlot → Bool
is_notes_slot (slots.Notes notes) = true
is_notes_slot (slots.Element element) = false
is_notes_slot (slots.Copied element) = false
is_notes_slot (slots.Spare spare) = false
is_notes_slot (slots.Vendor guid rest) = false
is_notes_slot (slots.Unread fault kept) = false
is_notes_slot (slots.Unused kept) = false

abbrev pub is_slot_of : (array : List ℕ) → (index : ℕ) → RecordSlot → Bool
is_slot_of array index slot = option_map_or (λ element. bytes_eq element.array array && element.index == index) (element_of slot) false

-- The lowest slot. Of the notes the valid ones count before others.
abbrev pub slot_of : (group : List ℕ) → (sequence : ℕ) → List RecordSlot → Item → Option ℕ
slot_of group sequence all items.Notes = option_or (position (λ slot. is_some (valid_of group sequence slot)) all) (position is_notes_slot all)
slot_of group sequence all items.Spare = position (λ slot. is_some (spare_of slot)) all
slot_of group sequence all (items.Element array index) = position (is_slot_of array index) all

-- ---- where it is to stand

-- the records that no rewriting touches: those of other vendors and those that aren't read
abbrev pub is_others : RecordSlot → Bool
is_others (slots.Vendor guid rest) = true
is_others (slots.Unread fault kept) = true
is_others (slots.Element element) = false
is_others (slots.Copied element) = false
is_others (slots.Spare spare) = false
is_others (slots.Notes notes) = false
is_others (slots.Unused kept) = false

abbrev pub stays_in : (group : List ℕ) → (sequence : ℕ) → List RecordSlot → List Item → (slot : ℕ) → Bool
stays_in group sequence all items slot = list_any (λ item. option_map_or (λ place. place == slot) (slot_of group sequence all item) false) items

-- a slot that new records may take
abbrev pub free_slot : (group : List ℕ) → (sequence : ℕ) → List RecordSlot → List Item → (ℕ × RecordSlot) → Option ℕ
free_slot group sequence all items pair = if is_others pair.1 || stays_in group sequence all items pair.0 then None else Some pair.0

abbrev pub free_slots : (group : List ℕ) → (sequence : ℕ) → List RecordSlot → List Item → List ℕ
free_slots group sequence all items = filter_map (free_slot group sequence all items) (enumerate_from 0 all)

-- an item in the slot where it stands, or else in the first free one, and then the others
abbrev pub take_one : Item → Option ℕ → (List ℕ → List Slotted) → List ℕ → List Slotted
take_one item (Some slot) others free = record { item = item; slot = slot } ∷ others free
take_one item None others [] = others []
take_one item None others (slot ∷ free) = record { item = item; slot = slot } ∷ others free

abbrev pub take_slots : (Item → Option ℕ) → List Item → List ℕ → List Slotted
take_slots stands [] free = []
take_slots stands (item ∷ items) free = take_one item (stands item) (take_slots stands items) free

-- The items with their slots, without those for which there is none.
unfoldable pub slotted_items : (group : List ℕ) → (sequence : ℕ) → List RecordSlot → List Item → List Slotted
slotted_items group sequence all items = take_slots (slot_of group sequence all) items (free_slots group sequence all items)

abbrev pub item_at : List Slotted → (slot : ℕ) → Option Item
item_at placed slot = option_map (λ one. one.item) (find (λ one. one.slot == slot) placed)
