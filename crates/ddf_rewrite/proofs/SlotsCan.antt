-- The slots that a change gives can be written.
use Rattle.std.proofs.Common.{◌≡◌, ℕ, zero, suc, ◌+◌, ◌<◌, ◌≤◌, Bool, true, false, ◌&&◌, cond, eqb, List, [], ◌∷◌, length, replicate, Option, Some, None, refl, ap, sym, ◌∙◌, subst, arith}
use Rattle.std.proofs.lemmas.List.{length-map, length-replicate}
use Rattle.std.proofs.lemmas.List.FromFn.{length-enumerate_from}
use Rattle.std.specs.Prelude.{slice_get}
use Rattle.std.specs.Option.{option_map_or}
use Rattle.std.specs.List.{AllByRecursion, enumerate_from, cons_option}
use Rattle.std.specs.Int.{w32}
use Rattle.std.specs.Str.{bytes_eq}
use Rattle.ddf_lemmas.proofs.Lists.{in_map}
use Rattle.ddf_bytes.specs.Bytes.{number_at}
use Rattle.ddf_seal.proofs.Common.{bytes_replicate}
use Rattle.ddf_header.specs.declared.geometry.Geometry.{Geometry}
use Rattle.ddf_config_records.specs.declared.notes.Notes.{Notes}
use Rattle.ddf_config_records.specs.declared.spare.SpareRecord.{SpareRecord}
use Rattle.ddf_config_records.specs.declared.slot.RecordSlot.{RecordSlot}
use Rattle.ddf_config_records.specs.declared.slot.RecordSlot.TheVariants as slots
use Rattle.ddf_config_records.specs.Elements.{record_size, HasRoom, CanBeElement}
use Rattle.ddf_config_records.specs.Spares.{CanBeSpare}
use Rattle.ddf_config_records.specs.NoteRecords.{CanBeNotes}
use Rattle.ddf_config_records.specs.Slots.{is_known, is_copied, lists, valid_notes, IsUnused, CanBeSlot, CanBeSlots}
use Rattle.ddf_config.specs.Configuration.{Configuration}
use Rattle.ddf_config.specs.declared.member.SpareUse.{SpareUse}
use Rattle.ddf_view.specs.View.{HeldRecord, first_spare, held_from, held_of}
use Rattle.ddf_view.proofs.Finds.{find_has, place_within}
use Rattle.ddf_rewrite.specs.Copies.{element_slot, items_of, left_slot, record_of, slot_after, unused_slot}
use Rattle.ddf_rewrite.specs.Notes.{Holding, find_holding, no_note, note_for, note_of, notes_after}
use Rattle.ddf_rewrite.specs.Placement.{item_at}
use Rattle.ddf_rewrite.specs.declared.item.Item.TheVariants as kinds
use Rattle.ddf_rewrite.specs.declared.item.Item.{Item}
use Rattle.ddf_rewrite.specs.declared.item.Slotted.{Slotted}
use Rattle.ddf_rewrite.proofs.After.{made_slots, note_is, notes_none, notes_valid}
use Rattle.ddf_rewrite.proofs.InPlace.{AreInPlace}
use Rattle.ddf_rewrite.proofs.SparesCan.{CanBeOwn}
use Rattle.ddf_rewrite.proofs.Lists.{enumerated_get}

-- ---- an unused slot

ffs_unknown : (n : ℕ) → 4 ≤ n → is_known (number_at w32 (replicate n 255) 0) ≡ false
ffs_unknown zero le = absurd (omega (arith, le))
ffs_unknown (suc zero) le = absurd (omega (arith, le))
ffs_unknown (suc (suc zero)) le = absurd (omega (arith, le))
ffs_unknown (suc (suc (suc zero))) le = absurd (omega (arith, le))
ffs_unknown (suc (suc (suc (suc n)))) le = refl

unused_can : (geometry : Geometry) → HasRoom geometry → IsUnused geometry (replicate (record_size geometry) 255)
unused_can geometry room = record {
  size = length-replicate {A = ℕ} (record_size geometry) 255;
  are_bytes = bytes_replicate (record_size geometry);
  unknown = ffs_unknown (record_size geometry) (let whole = room.whole in omega (arith, whole));
}

-- ---- each slot

-- what is left can be written where no note lists it
left_can : (geometry : Geometry) (count : ℕ) (listed : Bool) (slot : RecordSlot) → HasRoom geometry → CanBeSlot geometry count listed slot → CanBeSlot geometry count false (left_slot geometry slot)
unfolding CanBeSlot
left_can geometry count listed (slots.Element element) room can = unused_can geometry room
left_can geometry count listed (slots.Copied element) room can = unused_can geometry room
left_can geometry count listed (slots.Spare spare) room can = unused_can geometry room
left_can geometry count listed (slots.Notes notes) room can = unused_can geometry room
left_can geometry count listed (slots.Vendor guid rest) room can = (can.0, can.1, refl)
left_can geometry count listed (slots.Unread fault kept) room can = can
left_can geometry count listed (slots.Unused kept) room can = can

abbrev pub HasElement : Geometry → Holding → Type 0
HasElement geometry holding = CanBeElement geometry holding.element

placed_can : (geometry : Geometry) (count : ℕ) (listed : Bool) (holdings : List Holding) (notes : Notes) (spare : SpareRecord) (old : RecordSlot) → HasRoom geometry → CanBeSlot geometry count listed old → AllByRecursion (HasElement geometry) holdings
    → (o : Option Item) → (o ≡ Some kinds.Notes → CanBeNotes geometry count notes) → (o ≡ Some kinds.Spare → CanBeSpare geometry spare)
    → CanBeSlot geometry count (note_for holdings o).copied (option_map_or (record_of geometry holdings notes spare) o (left_slot geometry old))
unfolding CanBeSlot
placed_can geometry count listed holdings notes spare old room can elements None noted spared = left_can geometry count listed old room can
placed_can geometry count listed holdings notes spare old room can elements (Some kinds.Notes) noted spared = noted refl
placed_can geometry count listed holdings notes spare old room can elements (Some kinds.Spare) noted spared = spared refl
placed_can geometry count listed holdings notes spare old room can elements (Some (kinds.Element array index)) noted spared = go (find_holding array index holdings) refl
  where
    by_copied : (holding : Holding) (b : Bool) → CanBeElement geometry holding.element → CanBeSlot geometry count b (cond b (slots.Copied holding.element) (slots.Element holding.element))
    by_copied holding true is = (is, refl)
    by_copied holding false is = is

    go : (o : Option Holding) → find_holding array index holdings ≡ o
        → CanBeSlot geometry count (option_map_or (λ (holding : Holding). note_of holding.copied holding.wanted.plan) o no_note).copied (option_map_or element_slot o (unused_slot geometry))
    go None e = unused_can geometry room
    go (Some holding) e = by_copied holding holding.copied (find_has (HasElement geometry) (λ one. bytes_eq one.wanted.guid array && eqb one.wanted.index index) holdings holding elements e)

-- ---- all slots

pub count_after : (geometry : Geometry) (holdings : List Holding) (notes : Notes) (spare : SpareRecord) (placed : List Slotted) (all : List RecordSlot) → length (made_slots geometry holdings notes spare placed all) ≡ length all
count_after geometry holdings notes spare placed all = length-map (enumerate_from 0 all) (slot_after geometry holdings notes spare placed) ∙ length-enumerate_from 0 all

-- what the slots are made of
pub record AreMade (geometry : Geometry) (config : Configuration) (holdings : List Holding) (notes : Notes) (spare : SpareRecord) (placed : List Slotted) (all : List RecordSlot) : Type 0 where
  pub elements : AllByRecursion (HasElement geometry) holdings
  pub noted : (k : ℕ) → item_at placed k ≡ Some kinds.Notes → CanBeNotes geometry (length all) notes
  pub spared : (k : ℕ) → item_at placed k ≡ Some kinds.Spare → CanBeSpare geometry spare
  pub listed : (k : ℕ) → k < length all → lists (valid_notes config.group config.sequence (made_slots geometry holdings notes spare placed all)) k ≡ (note_for holdings (item_at placed k)).copied

pub slots_can : (geometry : Geometry) (config : Configuration) (holdings : List Holding) (notes : Notes) (spare : SpareRecord) (placed : List Slotted) (all : List RecordSlot) (group : List ℕ) (sequence : ℕ) → HasRoom geometry → CanBeSlots geometry group sequence all
    → AreMade geometry config holdings notes spare placed all → CanBeSlots geometry config.group config.sequence (made_slots geometry holdings notes spare placed all)
slots_can geometry config holdings notes spare placed all group sequence room can made = record {
  each = λ k slot at.
      let from = in_map (slot_after geometry holdings notes spare placed) (enumerate_from 0 all) k slot at in
      let pair = from.0 in
      let numbered = enumerated_get 0 all k pair from.1 in
      let here : pair.0 ≡ k = numbered.0 ∙ omega arith in
      let count = count_after geometry holdings notes spare placed all in
      let lt : k < length all = within all k pair.1 numbered.1 in
      let is = placed_can geometry (length all) (lists (valid_notes group sequence all) k) holdings notes spare pair.1 room (can.each k pair.1 numbered.1) made.elements (item_at placed k) (made.noted k) (made.spared k) in
      let same : option_map_or (record_of geometry holdings notes spare) (item_at placed k) (left_slot geometry pair.1) ≡ slot =
      ap (λ (n : ℕ). option_map_or (record_of geometry holdings notes spare) (item_at placed n) (left_slot geometry pair.1)) (sym here) ∙ from.2 in
      let listed = made.listed k lt in
      subst (λ (n : ℕ). CanBeSlot geometry n (lists (valid_notes config.group config.sequence (made_slots geometry holdings notes spare placed all)) k) slot) (sym count)
      (subst (λ (b : Bool). CanBeSlot geometry (length all) b slot) (sym listed) (subst (λ (s : RecordSlot). CanBeSlot geometry (length all) (note_for holdings (item_at placed k)).copied s) same is));
}
  where
    within : (xs : List RecordSlot) (i : ℕ) (x : RecordSlot) → slice_get xs i ≡ Some x → i < length xs
    within xs i x h = place_within xs i x h

-- ---- which slots the notes list

-- with notes among the items
pub listed_noted : (geometry : Geometry) (config : Configuration) (holdings : List Holding) (spare : SpareRecord) (use_as : SpareUse) (placed : List Slotted) (all : List RecordSlot) → AreInPlace all (items_of true use_as holdings) placed
    → (k : ℕ) → k < length all
    → lists (valid_notes config.group config.sequence (made_slots geometry holdings (notes_after config holdings placed (length all)) spare placed all)) k ≡ (note_for holdings (item_at placed k)).copied
listed_noted geometry config holdings spare use_as placed all in_place k lt =
    ap (λ (o : Option Notes). lists o k) (notes_valid geometry config holdings spare use_as all placed in_place) ∙ ap is_copied (note_is config holdings placed (length all) k lt)

-- a note for a list of holdings of which none is a copy
none_copied : (holdings : List Holding) → AllByRecursion (λ holding. holding.copied ≡ false) holdings → (o : Option Item) → (note_for holdings o).copied ≡ false
none_copied holdings all None = refl
none_copied holdings all (Some kinds.Notes) = refl
none_copied holdings all (Some kinds.Spare) = refl
none_copied holdings all (Some (kinds.Element array index)) = go (find_holding array index holdings) refl
  where
    go : (o : Option Holding) → find_holding array index holdings ≡ o → (option_map_or (λ (holding : Holding). note_of holding.copied holding.wanted.plan) o no_note).copied ≡ false
    go None e = refl
    go (Some holding) e = find_has (λ one. one.copied ≡ false) (λ one. bytes_eq one.wanted.guid array && eqb one.wanted.index index) holdings holding all e

-- without notes among the items
pub listed_none : (geometry : Geometry) (config : Configuration) (holdings : List Holding) (notes : Notes) (spare : SpareRecord) (use_as : SpareUse) (placed : List Slotted) (all : List RecordSlot) → AreInPlace all (items_of false use_as holdings) placed
    → AllByRecursion (λ holding. holding.copied ≡ false) holdings → (k : ℕ) → k < length all
    → lists (valid_notes config.group config.sequence (made_slots geometry holdings notes spare placed all)) k ≡ (note_for holdings (item_at placed k)).copied
listed_none geometry config holdings notes spare use_as placed all in_place none k lt =
    ap (λ (o : Option Notes). lists o k) (notes_none geometry config holdings notes spare use_as all placed in_place) ∙ sym (none_copied holdings none (item_at placed k))

-- ---- what an old copy holds

held_can : (geometry : Geometry) (count : ℕ) (listed : Bool) (notes : Option Notes) (at : ℕ) (slot : RecordSlot) (rest : List HeldRecord) → CanBeSlot geometry count listed slot → AllByRecursion (λ held. CanBeElement geometry held.element) rest
    → AllByRecursion (λ held. CanBeElement geometry held.element) (cons_option (held_of notes at slot) rest)
unfolding CanBeSlot
held_can geometry count listed notes at (slots.Element element) rest can all = (can, all)
held_can geometry count listed notes at (slots.Copied element) rest can all = (can.0, all)
held_can geometry count listed notes at (slots.Spare spare) rest can all = all
held_can geometry count listed notes at (slots.Notes value) rest can all = all
held_can geometry count listed notes at (slots.Vendor guid kept) rest can all = all
held_can geometry count listed notes at (slots.Unread fault kept) rest can all = all
held_can geometry count listed notes at (slots.Unused kept) rest can all = all

all_held_can : (geometry : Geometry) (count : ℕ) (listed : ℕ → Bool) (notes : Option Notes) (at n : ℕ) (all : List RecordSlot) → ((i : ℕ) (slot : RecordSlot) → slice_get all i ≡ Some slot → CanBeSlot geometry count (listed (n + i)) slot)
    → AllByRecursion (λ held. CanBeElement geometry held.element) (held_from notes at all)
all_held_can geometry count listed notes at n [] can = tt
all_held_can geometry count listed notes at n (slot ∷ all) can =
    held_can geometry count (listed (n + 0)) notes at slot (held_from notes (at + 1) all) (can 0 slot refl)
    (all_held_can geometry count listed notes (at + 1) (n + 1) all (λ i other there.
    let next : n + suc i ≡ n + 1 + i = omega arith in
    subst (λ (m : ℕ). CanBeSlot geometry count (listed m) other) next (can (suc i) other there)))

-- The records of a copy that can be written can be.
pub elements_can : (geometry : Geometry) (group : List ℕ) (sequence : ℕ) (notes : Option Notes) (all : List RecordSlot) → CanBeSlots geometry group sequence all → AllByRecursion (λ held. CanBeElement geometry held.element) (held_from notes 0 all)
elements_can geometry group sequence notes all can =
    all_held_can geometry (length all) (λ i. lists (valid_notes group sequence all) i) notes 0 0 all (λ i slot at. let here : i ≡ 0 + i = omega arith in subst (λ (m : ℕ). CanBeSlot geometry (length all) (lists (valid_notes group sequence all) m) slot) here (can.each i slot at))

own_spare : (geometry : Geometry) (all : List RecordSlot) → ((i : ℕ) (slot : RecordSlot) → slice_get all i ≡ Some slot → (count : ℕ) × (listed : Bool) × CanBeSlot geometry count listed slot) → CanBeOwn geometry (first_spare all)
unfolding CanBeSlot
own_spare geometry [] can = tt
own_spare geometry (slots.Spare spare ∷ all) can = (can 0 (slots.Spare spare) refl).2
own_spare geometry (slots.Element element ∷ all) can = own_spare geometry all (λ i slot at. can (suc i) slot at)
own_spare geometry (slots.Copied element ∷ all) can = own_spare geometry all (λ i slot at. can (suc i) slot at)
own_spare geometry (slots.Notes notes ∷ all) can = own_spare geometry all (λ i slot at. can (suc i) slot at)
own_spare geometry (slots.Vendor guid rest ∷ all) can = own_spare geometry all (λ i slot at. can (suc i) slot at)
own_spare geometry (slots.Unread fault kept ∷ all) can = own_spare geometry all (λ i slot at. can (suc i) slot at)
own_spare geometry (slots.Unused kept ∷ all) can = own_spare geometry all (λ i slot at. can (suc i) slot at)

pub first_spare_can : (geometry : Geometry) (group : List ℕ) (sequence : ℕ) (all : List RecordSlot) → CanBeSlots geometry group sequence all → CanBeOwn geometry (first_spare all)
first_spare_can geometry group sequence all can = own_spare geometry all (λ i slot at. (length all, lists (valid_notes group sequence all) i, can.each i slot at))
