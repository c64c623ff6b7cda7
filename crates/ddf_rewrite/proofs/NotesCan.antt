-- The notes that a change gives can be written.
use Rattle.std.proofs.Common.{◌≡◌, ℕ, zero, suc, ◌+◌, ◌-◌, ◌/◌, ◌<◌, ◌≤◌, ◌^◌, Bool, true, false, not, ◌&&◌, ◌||◌, cond, eqb, List, [], ◌∷◌, ◌++◌, length, map, Option, Some, None, refl, ap, sym, ◌∙◌, subst, arith}
use Rattle.std.proofs.lemmas.List.{length-replicate}
use Rattle.std.proofs.lemmas.List.FromFn.{length-map-range_with_len}
use Rattle.std.proofs.lemmas.Bool.{eq-eqb, ne_eqb}
use Rattle.std.specs.Prelude.{filter}
use Rattle.std.specs.Option.{option_map_or}
use Rattle.std.specs.List.{AllByRecursion, enumerate_from, range_with_len}
use Rattle.std.specs.Str.{bytes_eq}
use Rattle.ddf_lemmas.proofs.Lists.{all_append}
use Rattle.ddf_seal.specs.Unread.{Fits}
use Rattle.ddf_header.specs.declared.geometry.Geometry.{Geometry}
use Rattle.ddf_header.specs.Geometry.{IsSound, record_sectors}
use Rattle.ddf_config_records.specs.declared.notes.SlotNote.{SlotNote}
use Rattle.ddf_config_records.specs.declared.layout.TheConstants.{NOTES_AT}
use Rattle.ddf_config_records.specs.Bits.{is_among, IsRising}
use Rattle.ddf_config_records.specs.Elements.{record_size}
use Rattle.ddf_config_records.specs.NoteRecords.{note_size, note_place, note_fields, all_note_fields, head_fields, filling, CanBeNotes}
use Rattle.ddf_config_records.proofs.Bits.{length-bits_of}
use Rattle.ddf_config_records.proofs.Building.{record_small}
use Rattle.ddf_config.specs.Configuration.{Configuration}
use Rattle.ddf_config.specs.ElementValue.{ElementValue as ElementPlan}
use Rattle.ddf_config.specs.declared.element.Position.{Position}
use Rattle.ddf_view.proofs.Finds.{find_has, filter_same}
use Rattle.ddf_rewrite.specs.Hold.{FitsPlan, FitsPosition}
use Rattle.ddf_rewrite.specs.Notes.{Holding, find_holding, no_note, note_for, note_of, notes_after, out_of_sync, rebuilt}
use Rattle.ddf_rewrite.specs.Placement.{item_at}
use Rattle.ddf_rewrite.specs.declared.item.Item.TheVariants as kinds
use Rattle.ddf_rewrite.specs.declared.item.Item.{Item}
use Rattle.ddf_rewrite.specs.declared.item.Slotted.{Slotted}
use Rattle.ddf_rewrite.proofs.Plans.{places_from, later_places}

-- ---- geometry

few_members : (geometry : Geometry) → IsSound geometry → geometry.max_members < 2 ^ 16
few_members geometry sound =
    let small = record_small geometry sound in
    let fit : geometry.record_length ≡ record_sectors geometry.max_members = sound.records_fit in
    omega (arith, small, fit)

-- ---- the positions out of sync

-- the tests of two lists of places are the same beyond the first place
all_beyond : (P : ℕ → Type 0) (from count : ℕ) → ((i : ℕ) → from ≤ i → P i) → AllByRecursion P (range_with_len from count)
all_beyond P from zero h = tt
all_beyond P from (suc count) h = (h from (omega arith), all_beyond P (from + 1) count (λ i le. h i (omega (arith, le))))

none_rise : (from count : ℕ) → filter (is_among []) (range_with_len from count) ≡ []
none_rise from zero = refl
none_rise from (suc count) = none_rise (from + 1) count

rise_from : (n count : ℕ) (positions : List Position) → length positions ≤ count → filter (is_among (places_from n positions)) (range_with_len n count) ≡ places_from n positions
rise_from n count [] few = none_rise n count
rise_from n zero (x ∷ positions) few = absurd (omega (arith, few))
rise_from n (suc count) (x ∷ positions) few = go (rise_from (n + 1) count positions (omega (arith, few))) x.synced refl
  where
    go : filter (is_among (places_from (n + 1) positions)) (range_with_len (n + 1) count) ≡ places_from (n + 1) positions → (b : Bool) → x.synced ≡ b
        → filter (is_among (places_from n (x ∷ positions))) (range_with_len n (suc count)) ≡ places_from n (x ∷ positions)
    go rest true e =
        let none = later_places n (n + 1) positions (omega arith) in
        let is : places_from n (x ∷ positions) ≡ places_from (n + 1) positions = rw e refl in
        subst (λ (l : List ℕ). filter (is_among l) (range_with_len n (suc count)) ≡ l) (sym is) (rw none rest)
    go rest false e =
        let here : eqb n n ≡ true = eq-eqb n n refl in
        let same = filter_same (λ p. eqb p n || is_among (places_from (n + 1) positions) p) (is_among (places_from (n + 1) positions)) (range_with_len (n + 1) count)
        (all_beyond (λ p. (eqb p n || is_among (places_from (n + 1) positions) p) ≡ is_among (places_from (n + 1) positions) p) (n + 1) count
        (λ p le. let apart : eqb p n ≡ false = ne_eqb p n (λ is. absurd (omega (arith, le, is))) in rw apart refl)) in
        let is : places_from n (x ∷ positions) ≡ n ∷ places_from (n + 1) positions = rw e refl in
        subst (λ (l : List ℕ). filter (is_among l) (range_with_len n (suc count)) ≡ l) (sym is) (rw here (ap (λ (l : List ℕ). n ∷ l) (same ∙ rest)))

out_rises : (most : ℕ) (plan : ElementPlan) → length plan.positions ≤ most → IsRising most (out_of_sync plan)
unfolding IsRising
out_rises most plan few = rise_from 0 most plan.positions few

no_rise : (most : ℕ) → IsRising most []
unfolding IsRising
no_rise most = none_rise 0 most

-- ---- a note

record IsNote (most : ℕ) (note : SlotNote) : Type 0 where
  position : note.position < 2 ^ 16
  stand_in : note.stand_in < 2 ^ 32
  row : note.row < 2 ^ 64
  rises : IsRising most note.out

no_note_is : (most : ℕ) → IsNote most no_note
no_note_is most = record { position = omega arith; stand_in = omega arith; row = omega arith; rises = no_rise most }

abbrev IsPair : ℕ × Position → Type 0
IsPair pair = (pair.0 < 2 ^ 16) × (pair.1.row < 2 ^ 64)

pairs_fit : (n : ℕ) (positions : List Position) → n + length positions < 2 ^ 16 → AllByRecursion FitsPosition positions → AllByRecursion IsPair (enumerate_from n positions)
pairs_fit n [] few all = tt
pairs_fit n (x ∷ positions) few all = ((omega (arith, few), all.0.row), pairs_fit (n + 1) positions (omega (arith, few)) all.1)

note_is : (most : ℕ) (copied : Bool) (plan : ElementPlan) → length plan.positions ≤ most → length plan.positions ≤ 64 → plan.stand_in < 2 ^ 32 → AllByRecursion FitsPosition plan.positions → IsNote most (note_of copied plan)
note_is most copied plan allowed few stands fit =
    let numbers = go (rebuilt plan) refl in
    record { position = numbers.0; stand_in = stands; row = numbers.1; rises = out_rises most plan allowed }
  where
    pairs : AllByRecursion IsPair (enumerate_from 0 plan.positions)
    pairs = pairs_fit 0 plan.positions (omega (arith, few)) fit

    go : (o : Option (ℕ × Position)) → rebuilt plan ≡ o → (option_map_or (λ (pair : ℕ × Position). pair.0) o 0xFFFF < 2 ^ 16) × (option_map_or (λ (pair : ℕ × Position). pair.1.row) o 0 < 2 ^ 64)
    go None e = (omega arith, omega arith)
    go (Some pair) e = find_has IsPair (λ one. not (eqb one.1.row 0)) (enumerate_from 0 plan.positions) pair pairs e

abbrev pub HasPlan : ℕ → Holding → Type 0
HasPlan most holding = FitsPlan most holding.wanted

note_for_is : (most : ℕ) (holdings : List Holding) (item : Option Item) → AllByRecursion (HasPlan most) holdings → IsNote most (note_for holdings item)
note_for_is most holdings None all = no_note_is most
note_for_is most holdings (Some kinds.Notes) all = no_note_is most
note_for_is most holdings (Some kinds.Spare) all = no_note_is most
note_for_is most holdings (Some (kinds.Element array index)) all = go (find_holding array index holdings) refl
  where
    go : (o : Option Holding) → find_holding array index holdings ≡ o → IsNote most (option_map_or (λ (holding : Holding). note_of holding.copied holding.wanted.plan) o no_note)
    go None e = no_note_is most
    go (Some holding) e =
        let fits = find_has (HasPlan most) (λ one. bytes_eq one.wanted.guid array && eqb one.wanted.index index) holdings holding all e in
        note_is most holding.copied holding.wanted.plan fits.allowed fits.few fits.stand_in fits.positions

all_notes : (most from count : ℕ) (holdings : List Holding) (placed : List Slotted) → AllByRecursion (HasPlan most) holdings → AllByRecursion (IsNote most) (map (λ slot. note_for holdings (item_at placed slot)) (range_with_len from count))
all_notes most from zero holdings placed all = tt
all_notes most from (suc count) holdings placed all = (note_for_is most holdings (item_at placed from) all, all_notes most (from + 1) count holdings placed all)

-- ---- the fields

copied_small : (b : Bool) → cond b 1 0 < 2 ^ 8
copied_small true = omega arith
copied_small false = omega arith

note_fits : (most at : ℕ) (note : SlotNote) → IsNote most note → AllByRecursion Fits (note_fields most at note)
note_fits most at note is = (copied_small note.copied, (omega arith, (is.position, (is.stand_in, (is.row, (length-bits_of (most / 8) note.out, tt))))))

notes_fit : (most at : ℕ) (notes : List SlotNote) → AllByRecursion (IsNote most) notes → AllByRecursion Fits (all_note_fields most at notes)
notes_fit most at [] all = tt
notes_fit most at (note ∷ notes) all = all_append Fits (note_fields most at note) (all_note_fields most (at + note_size most) notes) (note_fits most at note all.0) (notes_fit most (at + note_size most) notes all.1)

rising : (most : ℕ) (notes : List SlotNote) → AllByRecursion (IsNote most) notes → AllByRecursion (λ note. IsRising most note.out) notes
rising most [] all = tt
rising most (note ∷ notes) all = (all.0.rises, rising most notes all.1)

-- The notes can be written.
pub notes_can : (geometry : Geometry) (config : Configuration) (holdings : List Holding) (placed : List Slotted) (count : ℕ) → IsSound geometry → note_place geometry.max_members count ≤ record_size geometry → length config.group ≡ 24 → config.sequence < 2 ^ 32
    → AllByRecursion (HasPlan geometry.max_members) holdings → CanBeNotes geometry count (notes_after config holdings placed count)
unfolding notes_after
notes_can geometry config holdings placed count sound room group sequence fit =
    let most = geometry.max_members in
    let notes = notes_after config holdings placed count in
    let counted : length notes.slots ≡ count = length-map-range_with_len (λ slot. note_for holdings (item_at placed slot)) 0 count in
    let all = all_notes most 0 count holdings placed fit in
    let small = record_small geometry sound in
    let few = few_members geometry sound in
    let head : AllByRecursion Fits (head_fields most notes) = (group, (refl, (sequence, (omega (arith, counted, room, small), (omega (arith, few), (refl, tt)))))) in
    let last : AllByRecursion Fits (filling most (record_size geometry) (length notes.slots) ∷ []) = (length-replicate {A = ℕ} (record_size geometry - note_place most (length notes.slots)) 255, tt) in
    record {
      counted = counted;
      room = room;
      rising = rising most notes.slots all;
      fields_fit = all_append Fits (head_fields most notes) (all_note_fields most NOTES_AT notes.slots ++ filling most (record_size geometry) (length notes.slots) ∷ []) head
          (all_append Fits (all_note_fields most NOTES_AT notes.slots) (filling most (record_size geometry) (length notes.slots) ∷ []) (notes_fit most NOTES_AT notes.slots all) last);
    }
