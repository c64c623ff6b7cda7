-- Which sectors of a new disk are turned: the first of each record, and the anchor.
use Rattle.std.proofs.Common.{◌≡◌, ◌⊎◌, ℕ, zero, suc, ◌+◌, ◌-◌, ◌*◌, ◌/◌, ◌%◌, ◌<◌, ◌≤◌, Bool, true, false, not, ◌&&◌, ◌||◌, eqb, leb, cond, List, Option, Some, None, ⊎_elim, refl, ap, sym, ◌∙◌, subst, arith}
use Rattle.std.proofs.lemmas.Bool.{and_parts, cases_eq, cases_lt, eq-eqb, le-leb, le-ltb, lt-leb, ne_eqb, not-true}
use Rattle.std.proofs.lemmas.Nat.{le-div}
use Rattle.std.proofs.Math.Bool.{and-false}
use Rattle.ddf_lemmas.proofs.Tests.{or_true}
use Rattle.ddf_header.specs.Header.{header_signature}
use Rattle.ddf_update.specs.declared.new_layout.NewLayout.{NewLayout}
use Rattle.ddf_update.specs.declared.new_layout.NewLayout.TheVariants.{Large, Small}
use Rattle.ddf_update.specs.NewCopies.{new_geometry}
use Rattle.ddf_update.specs.NewLayouts.{copy_length, least_sectors, primary_back, record_length_of, records_sectors, secondary_back, slots_of, table_sectors_of}
use Rattle.ddf_linux.specs.declared.layout.Layout.{Layout}
use Rattle.ddf_linux.specs.declared.places.Copies.{Copies}
use Rattle.ddf_linux.specs.declared.records.Records.{Records}
use Rattle.ddf_linux.specs.Crcs.{constant_of}
use Rattle.ddf_linux.specs.Layouts.{layout_of, records_with}
use Rattle.ddf_linux.specs.Places.{constant_at, copies_constant, is_first, kind_constant, names, new_places, signature_of, stands_at}
use Rattle.ddf_linux.proofs.Listed.{before_header}

-- ---- the records

abbrev records : (offset stride count constant : ℕ) → Records
records offset stride count constant = record { offset = offset; stride = stride; count = count; constant = constant }

-- from a header to its slots
abbrev pub slots_behind : NewLayout → ℕ
slots_behind layout = 2 + 2 * table_sectors_of layout

-- the records of a new disk, by the constants of one sector, of a table and of a slot
abbrev pub new_records : NewLayout → (one table slot : ℕ) → Layout
new_records layout one table slot = record {
  header = records 0 1 1 one;
  controller = records 1 1 1 one;
  disks = records 2 (table_sectors_of layout) 1 table;
  arrays = records (2 + table_sectors_of layout) (table_sectors_of layout) 1 table;
  configs = records (slots_behind layout) (record_length_of layout) (slots_of layout) slot;
  disk_data = records (slots_behind layout + records_sectors layout) 1 1 one;
  bad_blocks = records (3 + 2 * table_sectors_of layout + records_sectors layout) 1 1 one;
}

-- with the constants that they have
abbrev pub own_records : NewLayout → Layout
own_records layout = new_records layout (constant_of 512) (constant_of (512 * table_sectors_of layout)) (constant_of (512 * record_length_of layout))

pub layout_is : (layout : NewLayout) (size : ℕ) → layout_of (new_geometry layout size) ≡ own_records layout
unfolding layout_of
layout_is Small size = refl
layout_is Large size = refl

-- ---- a sector behind a header

-- Which of the sectors behind a header begin a record doesn't depend on where the header is.
shifted : (own : Records) (header behind : ℕ) → is_first own header (header + behind) ≡ is_first own 0 behind
unfolding is_first
shifted own header behind =
    let back : header + behind - (header + own.offset) ≡ behind - (0 + own.offset) = omega arith in
    let from : leb (header + own.offset) (header + behind) ≡ leb (0 + own.offset) behind =
    ⊎_elim
    (λ (below : behind < own.offset). lt-leb (header + own.offset) (header + behind) (omega arith) ∙ sym (lt-leb (0 + own.offset) behind (omega arith)))
    (λ (above : own.offset ≤ behind). le-leb (header + own.offset) (header + behind) (omega arith) ∙ sym (le-leb (0 + own.offset) behind (omega arith)))
    (cases_lt behind own.offset) in
    rw (from, back) refl

-- none of these records begins so far behind its header
abbrev pub none_begins : NewLayout → (one table slot behind : ℕ) → Bool
none_begins layout one table slot behind =
    not (is_first (new_records layout one table slot).header 0 behind)
    && (not (is_first (new_records layout one table slot).controller 0 behind)
    && (not (is_first (new_records layout one table slot).disks 0 behind)
    && (not (is_first (new_records layout one table slot).arrays 0 behind)
    && (not (is_first (new_records layout one table slot).configs 0 behind)
    && (not (is_first (new_records layout one table slot).disk_data 0 behind)
    && not (is_first (new_records layout one table slot).bad_blocks 0 behind))))))

-- ---- the two headers

-- one of the two headers of a new disk of so many sectors
abbrev pub IsNewHeader : NewLayout → (size header : ℕ) → Type 0
IsNewHeader layout size header = (header ≡ size - primary_back layout) ⊎ (header ≡ size - secondary_back layout)

abbrev copies : NewLayout → (size one table slot : ℕ) → Copies
copies layout size one table slot = record { primary = size - primary_back layout; secondary = size - secondary_back layout; layout = new_records layout one table slot }

-- behind the end of the last of these records none of them begins
far : (own : Records) (behind : ℕ) → own.offset + own.count * own.stride ≤ behind → is_first own 0 behind ≡ false
unfolding is_first
far own behind past = ⊎_elim
    (λ (none : own.stride ≡ 0). rw (eq-eqb own.stride 0 none) (and-false (leb (0 + own.offset) behind)))
    (λ differs.
    let some : 0 < own.stride = omega (arith, differs) in
    let room : own.count * own.stride ≤ behind - (0 + own.offset) = omega (arith, past) in
    let full : own.count ≤ (behind - (0 + own.offset)) / own.stride = le-div own.count (behind - (0 + own.offset)) own.stride some room in
    rw (le-ltb ((behind - (0 + own.offset)) / own.stride) own.count full)
    (ap (λ (b : Bool). leb (0 + own.offset) behind && (not (eqb own.stride 0) && b)) (and-false (eqb ((behind - (0 + own.offset)) % own.stride) 0))
    ∙ ap (λ (b : Bool). leb (0 + own.offset) behind && b) (and-false (not (eqb own.stride 0)))
    ∙ and-false (leb (0 + own.offset) behind)))
    (cases_eq own.stride 0)

-- ---- a lookup

either : {X : Type 0} (P : X → Type 0) (test : Bool) (x y : X) → P x → P y → P (cond test x y)
either P true x y one other = one
either P false x y one other = other

seven : (a b c d e f g : Bool) → (a && (b && (c && (d && (e && (f && g)))))) ≡ true
    → (a ≡ true) × (b ≡ true) × (c ≡ true) × (d ≡ true) × (e ≡ true) × (f ≡ true) × (g ≡ true)
seven a b c d e f g all =
    let first = and_parts a (b && (c && (d && (e && (f && g))))) all in
    let second = and_parts b (c && (d && (e && (f && g)))) first.1 in
    let third = and_parts c (d && (e && (f && g))) second.1 in
    let fourth = and_parts d (e && (f && g)) third.1 in
    let fifth = and_parts e (f && g) fourth.1 in
    let sixth = and_parts f g fifth.1 in
    (first.0, second.0, third.0, fourth.0, fifth.0, sixth.0, sixth.1)

module _ (layout : NewLayout) (size : ℕ) (large : least_sectors layout ≤ size) (header behind : ℕ) (is_header : IsNewHeader layout size header) (near : behind < copy_length layout) where
  -- it isn't the anchor
  no_anchor : (signature : ℕ) → (eqb signature header_signature && eqb (header + behind) (size - 1)) ≡ false
  no_anchor signature =
      let other : eqb (header + behind) (size - 1) ≡ false =
      ne_eqb (header + behind) (size - 1) (λ (e : header + behind ≡ size - 1). ⊎_elim (λ first. absurd (omega (arith, e, first))) (λ second. absurd (omega (arith, e, second))) is_header) in
      rw other (and-false (eqb signature header_signature))

  module _ (one table slot : ℕ) where
    abbrev own_copies : Copies
    own_copies = copies layout size one table slot

    abbrev all : Layout
    all = new_records layout one table slot

    -- where a record begins behind one header, it begins on the disk
    begins : (own : Records) → is_first own 0 behind ≡ true → stands_at own_copies own (header + behind) ≡ true
    begins own is = ⊎_elim
        (λ first. let here : is_first own (size - primary_back layout) (header + behind) ≡ true = rw (← first) (shifted own header behind ∙ is) in rw here refl)
        (λ second. let here : is_first own (size - secondary_back layout) (header + behind) ≡ true = rw (← second) (shifted own header behind ∙ is) in
        rw here (or_true (is_first own (size - primary_back layout) (header + behind))))
        is_header

    -- where none does, none does behind the other header either
    begins_none : (own : Records) → own.offset + own.count * own.stride ≤ copy_length layout → is_first own 0 behind ≡ false → stands_at own_copies own (header + behind) ≡ false
    begins_none own ends none = ⊎_elim
        (λ first.
        let here : is_first own (size - primary_back layout) (header + behind) ≡ false = rw (← first) (shifted own header behind ∙ none) in
        let at : header + behind ≡ size - secondary_back layout + (copy_length layout + behind) = omega (arith, first, large) in
        let past : own.offset + own.count * own.stride ≤ copy_length layout + behind = omega (arith, ends) in
        let there : is_first own (size - secondary_back layout) (header + behind) ≡ false =
        rw at (shifted own (size - secondary_back layout) (copy_length layout + behind) ∙ far own (copy_length layout + behind) past) in
        rw (here, there) refl)
        (λ second.
        let here : is_first own (size - secondary_back layout) (header + behind) ≡ false = rw (← second) (shifted own header behind ∙ none) in
        let there : is_first own (size - primary_back layout) (header + behind) ≡ false = before_header own (size - primary_back layout) (header + behind) (omega (arith, second, large)) in
        rw (here, there) refl)
        is_header

    none_of : (own : Records) → own.offset + own.count * own.stride ≤ copy_length layout → not (is_first own 0 behind) ≡ true → kind_constant own_copies (Some own) (header + behind) ≡ None
    none_of own ends none =
        let out : is_first own 0 behind ≡ false = not-true (is_first own 0 behind) none in
        rw (begins_none own ends out) refl

    -- where no record begins, no signature is turned
    no_lookup : (signature : ℕ) → none_begins layout one table slot behind ≡ true → copies_constant own_copies (header + behind) signature ≡ None
    unfolding records_with
    no_lookup signature none =
        let P : Option Records → Type 0 = λ (found : Option Records). kind_constant own_copies found (header + behind) ≡ None in
        let parts = seven _ _ _ _ _ _ _ none in
        either P (eqb signature header_signature) _ _ (none_of all.header (omega arith) parts.0)
        (either P (eqb signature 0xAD11_1111) _ _ (none_of all.controller (omega arith) parts.1)
        (either P (eqb signature 0x2222_2222) _ _ (none_of all.disks (omega arith) parts.2)
        (either P (eqb signature 0xDDDD_DDDD) _ _ (none_of all.arrays (omega arith) parts.3)
        (either P (eqb signature 0xEEEE_EEEE || (eqb signature 0x5555_5555 || eqb signature 0x8888_8888)) _ _ (none_of all.configs (omega arith) parts.4)
        (either P (eqb signature 0x3333_3333) _ _ (none_of all.disk_data (omega arith) parts.5)
        (either P (eqb signature 0xABAD_B10C) _ _ (none_of all.bad_blocks (omega arith) parts.6) refl))))))

    -- where one does, its signature is
    lookup : (signature : ℕ) (own : Records) → records_with all signature ≡ Some own → is_first own 0 behind ≡ true
        → copies_constant own_copies (header + behind) signature ≡ Some own.constant
    lookup signature own is first =
        ap (λ (found : Option Records). kind_constant own_copies found (header + behind)) is
        ∙ ap (λ (b : Bool). cond b (Some own.constant) None) (begins own first)

  -- the constant by the copies that a new disk has
  by_own : (bytes : List ℕ) → constant_at (new_places layout size) (header + behind) bytes
      ≡ copies_constant (own_copies (constant_of 512) (constant_of (512 * table_sectors_of layout)) (constant_of (512 * record_length_of layout))) (header + behind) (signature_of bytes)
  unfolding constant_at
  by_own bytes =
      rw (no_anchor (signature_of bytes))
      (ap (λ (found : Layout). copies_constant (record { primary = size - primary_back layout; secondary = size - secondary_back layout; layout = found }) (header + behind) (signature_of bytes)) (layout_is layout size))

  -- the first sector of a record is turned by its constant
  pub turned_at : (signature : ℕ) (own : Records) → records_with (own_records layout) signature ≡ Some own → is_first own 0 behind ≡ true
      → (bytes : List ℕ) → signature_of bytes ≡ signature → constant_at (new_places layout size) (header + behind) bytes ≡ Some own.constant
  turned_at signature own is first bytes begins =
      by_own bytes
      ∙ ap (λ (n : ℕ). copies_constant (own_copies (constant_of 512) (constant_of (512 * table_sectors_of layout)) (constant_of (512 * record_length_of layout))) (header + behind) n) begins
      ∙ lookup (constant_of 512) (constant_of (512 * table_sectors_of layout)) (constant_of (512 * record_length_of layout)) signature own is first

  -- a sector that begins no record isn't
  pub none_turned : none_begins layout (constant_of 512) (constant_of (512 * table_sectors_of layout)) (constant_of (512 * record_length_of layout)) behind ≡ true
      → (bytes : List ℕ) → constant_at (new_places layout size) (header + behind) bytes ≡ None
  none_turned none bytes = by_own bytes ∙ no_lookup (constant_of 512) (constant_of (512 * table_sectors_of layout)) (constant_of (512 * record_length_of layout)) (signature_of bytes) none

-- the anchor is turned as a record of a sector is
pub anchor_turned : (layout : NewLayout) (size : ℕ) (bytes : List ℕ) → signature_of bytes ≡ header_signature → names (new_places layout size) bytes ≡ true
    → constant_at (new_places layout size) (size - 1) bytes ≡ Some (constant_of 512)
unfolding constant_at
anchor_turned layout size bytes begins named = rw (begins, eq-eqb (size - 1) (size - 1) refl, named) refl

-- ---- tables

all_below : (n : ℕ) → (ℕ → Bool) → Bool
all_below zero test = true
all_below (suc n) test = test n && all_below n test

below_holds : (n : ℕ) (test : ℕ → Bool) → all_below n test ≡ true → (k : ℕ) → k < n → test k ≡ true
unfolding all_below
below_holds zero test all k lt = absurd (omega (arith, lt))
below_holds (suc n) test all k lt =
    let parts = and_parts (test n) (all_below n test) all in
    ⊎_elim
    (λ (under : k < n). below_holds n test parts.1 k under)
    (λ (last : n ≤ k). let here : k ≡ n = omega (arith, last, lt) in rw here parts.0)
    (cases_lt k n)

module _ (layout : NewLayout) (one table slot : ℕ) where
  -- a record of so many sectors goes on without another one
  abbrev pub GoesOn : (start sectors : ℕ) → Type 0
  GoesOn start sectors = (later : ℕ) → 0 < later → later < sectors → none_begins layout one table slot (start + later) ≡ true

  -- by a test of each of its sectors but the first
  goes_on : (start sectors : ℕ) → all_below (sectors - 1) (λ (k : ℕ). none_begins layout one table slot (start + (1 + k))) ≡ true → GoesOn start sectors
  goes_on start sectors all later some within =
      let here : none_begins layout one table slot (start + (1 + (later - 1))) ≡ true =
      below_holds (sectors - 1) (λ (k : ℕ). none_begins layout one table slot (start + (1 + k))) all (later - 1) (omega (arith, some, within)) in
      let same : 1 + (later - 1) ≡ later = omega (arith, some) in
      subst (λ (n : ℕ). none_begins layout one table slot (start + n) ≡ true) same here

pub disks_go_on : (layout : NewLayout) (one table slot : ℕ) → GoesOn layout one table slot 2 (table_sectors_of layout)
unfolding is_first all_below
disks_go_on Small one table slot = goes_on Small one table slot 2 2 refl
disks_go_on Large one table slot = goes_on Large one table slot 2 8 refl

pub arrays_go_on : (layout : NewLayout) (one table slot : ℕ) → GoesOn layout one table slot (2 + table_sectors_of layout) (table_sectors_of layout)
unfolding is_first all_below
arrays_go_on Small one table slot = goes_on Small one table slot 4 2 refl
arrays_go_on Large one table slot = goes_on Large one table slot 10 8 refl

-- each slot goes on so
pub slot_goes_on : (layout : NewLayout) (one table slot place : ℕ) → place < slots_of layout
    → GoesOn layout one table slot (slots_behind layout + record_length_of layout * place) (record_length_of layout)
unfolding is_first all_below
slot_goes_on Small one table slot place lt =
    goes_on Small one table slot (6 + 2 * place) 2 (below_holds 16 (λ (p : ℕ). all_below 1 (λ (k : ℕ). none_begins Small one table slot (6 + 2 * p + (1 + k)))) refl place lt)
slot_goes_on Large one table slot place lt =
    goes_on Large one table slot (18 + 3 * place) 3 (below_holds 60 (λ (p : ℕ). all_below 2 (λ (k : ℕ). none_begins Large one table slot (18 + 3 * p + (1 + k)))) refl place lt)

-- and its first sector begins a record
pub slot_begins : (layout : NewLayout) (one table slot place : ℕ) → place < slots_of layout
    → is_first (new_records layout one table slot).configs 0 (slots_behind layout + record_length_of layout * place) ≡ true
unfolding is_first all_below
slot_begins Small one table slot place lt = below_holds 16 (λ (p : ℕ). is_first (records 6 2 16 slot) 0 (6 + 2 * p)) refl place lt
slot_begins Large one table slot place lt = below_holds 60 (λ (p : ℕ). is_first (records 18 3 60 slot) 0 (18 + 3 * p)) refl place lt

-- so do both tables
pub disks_begin : (layout : NewLayout) (one table slot : ℕ) → is_first (new_records layout one table slot).disks 0 2 ≡ true
unfolding is_first
disks_begin Small one table slot = refl
disks_begin Large one table slot = refl

pub arrays_begin : (layout : NewLayout) (one table slot : ℕ) → is_first (new_records layout one table slot).arrays 0 (2 + table_sectors_of layout) ≡ true
unfolding is_first
arrays_begin Small one table slot = refl
arrays_begin Large one table slot = refl

pub disk_data_begins : (layout : NewLayout) (one table slot : ℕ) → is_first (new_records layout one table slot).disk_data 0 (slots_behind layout + records_sectors layout) ≡ true
unfolding is_first
disk_data_begins Small one table slot = refl
disk_data_begins Large one table slot = refl

pub log_begins : (layout : NewLayout) (one table slot : ℕ) → is_first (new_records layout one table slot).bad_blocks 0 (3 + 2 * table_sectors_of layout + records_sectors layout) ≡ true
unfolding is_first
log_begins Small one table slot = refl
log_begins Large one table slot = refl
