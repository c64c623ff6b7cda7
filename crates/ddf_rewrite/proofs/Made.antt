-- The records of a copy that are made of what a disk is to hold.
use Rattle.std.proofs.Common.{◌≡◌, ℕ, zero, suc, ◌+◌, ◌<◌, ◌≤◌, Bool, true, false, List, [], ◌∷◌, ◌++◌, length, map, Option, Some, None, refl, ap, sym, ◌∙◌, subst, arith}
use Rattle.std.proofs.lemmas.List.{length-map}
use Rattle.std.proofs.lemmas.List.FromFn.{length-enumerate_from, length-map-range_with_len}
use Rattle.std.specs.Prelude.{slice_get, is_some, option_map}
use Rattle.std.specs.List.{AllByRecursion, IsDistinct, cons_option, enumerate_from}
use Rattle.ddf_lemmas.proofs.Lists.{in_map, some_at_place}
use Rattle.ddf_tables.specs.declared.disks.DiskEntry.{DiskEntry}
use Rattle.ddf_config_records.specs.ElementValue.{ElementValue}
use Rattle.ddf_config_records.specs.declared.notes.Notes.{Notes}
use Rattle.ddf_config_records.specs.declared.slot.RecordSlot.{RecordSlot}
use Rattle.ddf_copy.specs.declared.copy.DiskCopy.{DiskCopy}
use Rattle.ddf_config.specs.Configuration.{Configuration}
use Rattle.ddf_config.specs.Members.{is_spare}
use Rattle.ddf_config.specs.declared.member.SpareUse.{SpareUse}
use Rattle.ddf_view.specs.Readable.{HasNotes}
use Rattle.ddf_view.specs.View.{HeldRecord, element_of, find_held, held_from, notes_of, view_of}
use Rattle.ddf_rewrite.specs.declared.item.Item.TheVariants as kinds
use Rattle.ddf_rewrite.specs.declared.item.Item.{Item}
use Rattle.ddf_rewrite.specs.declared.item.Slotted.{Slotted}
use Rattle.ddf_rewrite.specs.Placement.{is_item, item_at}
use Rattle.ddf_rewrite.specs.Notes.{Holding, note_for, notes_after}
use Rattle.ddf_rewrite.specs.Spares.{spare_use}
use Rattle.ddf_rewrite.specs.Wanted.{Wanted, all_wanted}
use Rattle.ddf_rewrite.specs.Copies.{copy_after, element_item, items_of, one_if, slotted_on, slots_after, spare_on}
use Rattle.ddf_rewrite.specs.Readable.{HasOwnNames}
use Rattle.ddf_rewrite.proofs.InPlace.{AreInPlace, in_place}
use Rattle.ddf_rewrite.proofs.After.{AreOwn, held_after, none_after, note_if, notes_given, notes_if}
use Rattle.ddf_rewrite.proofs.Holdings.{IsPlanned}
use Rattle.ddf_rewrite.proofs.AllWanted.{own_found, wanted_item}

-- ---- items that differ

all_elements : (x : Item) (holdings : List Holding) → ((holding : Holding) → is_item x (element_item holding) ≡ false) → AllByRecursion (λ y. is_item x y ≡ false) (map element_item holdings)
all_elements x [] h = tt
all_elements x (y ∷ holdings) h = (h y, all_elements x holdings h)

pub items_differ : (noted : Bool) (use_as : SpareUse) (holdings : List Holding) → IsDistinct is_item (map element_item holdings) → IsDistinct is_item (items_of noted use_as holdings)
unfolding IsDistinct
items_differ noted use_as holdings differ = go noted (is_spare use_as)
  where
    go : (a b : Bool) → IsDistinct is_item (one_if a kinds.Notes ++ one_if b kinds.Spare ++ map element_item holdings)
    go true true = ((refl, all_elements kinds.Notes holdings (λ holding. refl)), (all_elements kinds.Spare holdings (λ holding. refl), differ))
    go true false = (all_elements kinds.Notes holdings (λ holding. refl), differ)
    go false true = (all_elements kinds.Spare holdings (λ holding. refl), differ)
    go false false = differ

-- an element among the items is that of a holding
item_is : (noted : Bool) (use_as : SpareUse) (holdings : List Holding) (array : List ℕ) (index i : ℕ) → slice_get (items_of noted use_as holdings) i ≡ Some (kinds.Element array index) → (n : ℕ) × (slice_get (map element_item holdings) n ≡ Some (kinds.Element array index))
item_is noted use_as holdings array index i h = go noted (is_spare use_as) i h
  where
    go : (a b : Bool) (i : ℕ) → slice_get (one_if a kinds.Notes ++ one_if b kinds.Spare ++ map element_item holdings) i ≡ Some (kinds.Element array index) → (n : ℕ) × (slice_get (map element_item holdings) n ≡ Some (kinds.Element array index))
    go true true zero h = absurd cc
    go true true (suc zero) h = absurd cc
    go true true (suc (suc i)) h = (i, h)
    go true false zero h = absurd cc
    go true false (suc i) h = (i, h)
    go false true zero h = absurd cc
    go false true (suc i) h = (i, h)
    go false false i h = (i, h)

-- ---- holdings of elements that differ

-- Each holding has the record of its element, and no two are of one element.
pub record AreApart (holdings : List Holding) : Type 0 where
  pub differ : IsDistinct is_item (map element_item holdings)
  pub array_is : (n : ℕ) (holding : Holding) → slice_get holdings n ≡ Some holding → holding.element.array ≡ holding.wanted.guid
  pub index_is : (n : ℕ) (holding : Holding) → slice_get holdings n ≡ Some holding → holding.element.index ≡ holding.wanted.index

-- there is a slot for each
abbrev pub HasSlots : DiskCopy → (noted : Bool) → Configuration → List Holding → Type 0
HasSlots old noted config holdings = length (items_of noted (spare_use config old.disk_data.reference) holdings) ≤ length (slotted_on old noted config holdings)

abbrev array_named : Item → List ℕ
array_named kinds.Notes = []
array_named kinds.Spare = []
array_named (kinds.Element array index) = array

abbrev index_named : Item → ℕ
index_named kinds.Notes = 0
index_named kinds.Spare = 0
index_named (kinds.Element array index) = index

-- ---- each record has a note

some_at : {X : Type 0} (xs : List X) (n : ℕ) → n < length xs → is_some (slice_get xs n) ≡ true
some_at xs n lt = let there = some_at_place xs n lt in ap (λ o. is_some o) there.1

pub notes_each : (notes : Notes) (n : ℕ) (all : List RecordSlot) → n + length all ≤ length notes.slots → AllByRecursion (λ held. is_some held.note ≡ true) (held_from (Some notes) n all)
notes_each notes n [] few = tt
notes_each notes n (slot ∷ all) few =
    go (notes_each notes (n + 1) all (omega (arith, few))) (some_at notes.slots n (omega (arith, few))) (element_of slot)
  where
    go : AllByRecursion (λ held. is_some held.note ≡ true) (held_from (Some notes) (n + 1) all) → is_some (slice_get notes.slots n) ≡ true → (o : Option ElementValue)
        → AllByRecursion (λ held. is_some held.note ≡ true) (cons_option (option_map (λ (element : ElementValue). record { element = element; note = slice_get notes.slots n }) o) (held_from (Some notes) (n + 1) all))
    go rest noted None = rest
    go rest noted (Some element) = (noted, rest)

pub slots_long : (old : DiskCopy) (noted : Bool) (config : Configuration) (timestamp : ℕ) (holdings : List Holding) → length (slots_after old noted config timestamp holdings) ≡ length old.slots
unfolding slots_after
slots_long old noted config timestamp holdings = length-map (enumerate_from 0 old.slots) _ ∙ length-enumerate_from 0 old.slots

notes_long : (config : Configuration) (holdings : List Holding) (placed : List Slotted) (count : ℕ) → length (notes_after config holdings placed count).slots ≡ count
unfolding notes_after
notes_long config holdings placed count = length-map-range_with_len (λ slot. note_for holdings (item_at placed slot)) 0 count

module _ (old : DiskCopy) (noted : Bool) (config : Configuration) (timestamp : ℕ) (disks : List DiskEntry) (holdings : List Holding) (apart : AreApart holdings) (room : HasSlots old noted config holdings) where
  abbrev use_as : SpareUse
  use_as = spare_use config old.disk_data.reference

  abbrev placed : List Slotted
  placed = slotted_on old noted config holdings

  abbrev notes : Notes
  notes = notes_after config holdings placed (length old.slots)

  own : AreOwn holdings
  own = record { array_is = apart.array_is; index_is = apart.index_is; first_is = λ n holding at. own_found holdings apart.differ n holding at }

  made_in_place : AreInPlace old.slots (items_of noted use_as holdings) placed
  made_in_place = in_place old.header.guid old.header.sequence old.slots (items_of noted use_as holdings) (items_differ noted use_as holdings apart.differ) room

  -- the notes of the copy count
  pub made_notes : notes_of (copy_after old noted config timestamp disks holdings) ≡ notes_if noted notes
  unfolding slots_after
  made_notes = notes_given noted old.header.geometry config holdings (spare_on old config timestamp) use_as old.slots placed made_in_place

  pub made_noted : (view_of (copy_after old noted config timestamp disks holdings)).noted ≡ noted
  unfolding view_of
  made_noted = ap (λ (o : Option Notes). is_some o) made_notes ∙ there noted
    where
      there : (b : Bool) → is_some (notes_if b notes) ≡ b
      there true = refl
      there false = refl

  pub made_elements : (view_of (copy_after old noted config timestamp disks holdings)).elements ≡ held_from (notes_if noted notes) 0 (slots_after old noted config timestamp holdings)
  unfolding view_of
  made_elements = ap (λ (o : Option Notes). held_from o 0 (slots_after old noted config timestamp holdings)) made_notes

  -- the record of an element, with its note
  pub made_found : (n : ℕ) (holding : Holding) → slice_get holdings n ≡ Some holding
      → find_held holding.wanted.guid holding.wanted.index (view_of (copy_after old noted config timestamp disks holdings)).elements ≡ Some (record { element = holding.element; note = note_if noted holding })
  unfolding slots_after
  made_found n holding at =
      ap (λ (elements : List HeldRecord). find_held holding.wanted.guid holding.wanted.index elements) made_elements
      ∙ held_after old.header.geometry config holdings (spare_on old config timestamp) use_as noted old.slots placed made_in_place own n holding at

  -- and of no other element there is one
  pub made_none : (guid : List ℕ) (index : ℕ) → ((n : ℕ) (holding : Holding) → slice_get holdings n ≡ Some holding → holding.wanted.guid ≡ guid → holding.wanted.index ≡ index → ⊥)
      → find_held guid index (view_of (copy_after old noted config timestamp disks holdings)).elements ≡ None
  unfolding slots_after
  made_none guid index away =
      ap (λ (elements : List HeldRecord). find_held guid index elements) made_elements
      ∙ none_after old.header.geometry config holdings notes (notes_if noted notes) (spare_on old config timestamp) use_as noted old.slots placed made_in_place own guid index (λ i h.
      let item = item_is noted use_as holdings guid index i h in
      let from = in_map element_item holdings item.0 (kinds.Element guid index) item.1 in
      away item.0 from.0 from.1 (ap array_named from.2) (ap index_named from.2))

  -- Where there are notes each record has one.
  pub made_has_notes : noted ≡ true → HasNotes (view_of (copy_after old noted config timestamp disks holdings))
  made_has_notes is =
      let slots = slots_long old noted config timestamp holdings in
      let long = notes_long config holdings placed (length old.slots) in
      let each = notes_each notes 0 (slots_after old noted config timestamp holdings) (omega (arith, slots, long)) in
      subst (λ (elements : List HeldRecord). AllByRecursion (λ held. is_some held.note ≡ true) elements)
      (sym (made_elements ∙ ap (λ (b : Bool). held_from (notes_if b notes) 0 (slots_after old noted config timestamp holdings)) is)) each

-- ---- holdings that are made of all elements

pub record Makes (config : Configuration) (make : Wanted → Holding) : Type 0 where
  pub wanted_is : (wanted : Wanted) → (make wanted).wanted ≡ wanted
  pub planned : (n : ℕ) (wanted : Wanted) → slice_get (all_wanted config) n ≡ Some wanted → IsPlanned wanted (make wanted).element

same_items : (make : Wanted → Holding) → ((wanted : Wanted) → (make wanted).wanted ≡ wanted) → (all : List Wanted) → map element_item (map make all) ≡ map wanted_item all
same_items make is [] = refl
same_items make is (x ∷ all) =
    let first : element_item (make x) ≡ wanted_item x = ap wanted_item (is x) in
    let rest = same_items make is all in
    rw (first, rest) refl

pub made_apart : (config : Configuration) (make : Wanted → Holding) → HasOwnNames config → Makes config make → AreApart (map make (all_wanted config))
made_apart config make names makes = record {
  differ = subst (λ (items : List Item). IsDistinct is_item items) (sym (same_items make makes.wanted_is (all_wanted config))) names.elements;
  array_is = λ n holding at. let from = in_map make (all_wanted config) n holding at in
      subst (λ (h : Holding). h.element.array ≡ h.wanted.guid) from.2 ((makes.planned n from.0 from.1).array ∙ ap (λ (w : Wanted). w.guid) (sym (makes.wanted_is from.0)));
  index_is = λ n holding at. let from = in_map make (all_wanted config) n holding at in
      subst (λ (h : Holding). h.element.index ≡ h.wanted.index) from.2 ((makes.planned n from.0 from.1).index ∙ ap (λ (w : Wanted). w.index) (sym (makes.wanted_is from.0)));
}
