-- The words of elements, and where they go wrong.
use Rattle.std.proofs.Common.{◌≡◌, ◌∙◌, ℕ, ◌+◌, ◌<◌, ◌≤◌, ◌^◌, List, [], ◌∷◌, ◌++◌, Bool, false, Bor, Option, Some, None, map, length, length-append, length-take, get_or, take, zero, suc, append_assoc, refl, sym, ap, codes, arith}
use Rattle.std.specs.Prelude.{eqb}
use Rattle.std.specs.Fmt.{decimal}
use Rattle.std.specs.Int.{IsInRange}
use Rattle.std.specs.List.{All, join_with_byte, slice_split}
use Rattle.std.specs.Str.Parse.{AllDigits, digits_value}
use Rattle.std.proofs.lemmas.Bool.{eqb-false, ne_eqb}
use Rattle.std.proofs.lemmas.Fmt.{digits_decimal}
use Rattle.std.proofs.lemmas.List.{append-nil, get_or_append_left, get_or_default, get_or-map, get_or-take, length-map, map_push, take_more}
use Rattle.std.proofs.lemmas.List.Elements.{All-append, All-cons, All-head, All-nil, All-tail}
use Rattle.std.proofs.lemmas.List.Splits.{join_with_byte-slice_split, length-slice_split, slice_split_at, slice_split_none}
use Rattle.std.proofs.lemmas.Str.Parse.{IsNumeralModel, not_in_digits, numerals_by_value, tells_digits}
use Rattle.std.proofs.lemmas.Str.Pattern.{IsSplitOnceResult, split_after, split_parts}
use Rattle.ddf_words.proofs.Fields.{IsMet}
use Rattle.ddf_words.proofs.Numbers.{same_number, same_numbers}
use Rattle.ddf_words.proofs.Places.{wanting_words, wrong_word}
use Rattle.ddf_words.specs.Words.{Word, AreElements, Begins, GoWrongAt, SpellElements, SpellsElement, SpellsNumber, SpellsSlots}
use Rattle.ddf_words.specs.declared.command.CreateElement.{CreateElement}

-- ---- the signs between numbers

digits : IsNumeralModel (AllDigits 10) (digits_value 10)
digits = numerals_by_value (AllDigits 10) tells_digits

-- no byte is this sign
abbrev pub Lacks : ℕ → List ℕ → Type 0
Lacks sign bytes = All (λ byte. eqb byte sign ≡ false) bytes

pub number_lacks : (sign n : ℕ) → (IsInRange 48 57 sign → ⊥) → n < 2 ^ 64 → Lacks sign (decimal n)
number_lacks sign n other small k d lt =
    ne_eqb (get_or (decimal n) k d) sign (λ e. not_in_digits digits (decimal n) sign (digits_decimal digits n small) other k lt (get_or_default (decimal n) k 0 d lt ∙ e))

comma_no_digit : IsInRange 48 57 0x2C → ⊥
comma_no_digit range = omega (arith, range.0)

at_no_digit : IsInRange 48 57 0x40 → ⊥
at_no_digit range = omega (arith, range.1)

abbrev IsSlot : ℕ → Type 0
IsSlot slot = slot ≤ 63

-- slots joined by commas have no `@`
joined_lacks : (slots : List ℕ) → All IsSlot slots → Lacks 0x40 (join_with_byte 0x2C (map decimal slots))
joined_lacks [] within = All-nil (λ byte. eqb byte 0x40 ≡ false)
joined_lacks (slot ∷ []) within = let small = All-head IsSlot slot [] within in number_lacks 0x40 slot at_no_digit (omega arith)
joined_lacks (slot ∷ next ∷ slots) within =
    let small = All-head IsSlot slot (next ∷ slots) within in
    let P : ℕ → Type 0 = λ byte. eqb byte 0x40 ≡ false in
    All-append P (decimal slot) (0x2C ∷ join_with_byte 0x2C (map decimal (next ∷ slots))) (number_lacks 0x40 slot at_no_digit (omega arith))
    (All-cons P 0x2C (join_with_byte 0x2C (map decimal (next ∷ slots))) refl (joined_lacks (next ∷ slots) (All-tail IsSlot slot (next ∷ slots) within)))

abbrev pub is_comma : ℕ → Bool
is_comma byte = eqb byte 0x2C

-- and are parted at the commas
parted : (slots : List ℕ) → 1 ≤ length slots → All IsSlot slots → slice_split is_comma (join_with_byte 0x2C (map decimal slots)) ≡ map decimal slots
parted [] some within = absurd (omega arith)
parted (slot ∷ []) some within = let small = All-head IsSlot slot [] within in slice_split_none is_comma (decimal slot) (number_lacks 0x2C slot comma_no_digit (omega arith))
parted (slot ∷ next ∷ slots) some within =
    let small = All-head IsSlot slot (next ∷ slots) within in
    slice_split_at is_comma (decimal slot) 0x2C (join_with_byte 0x2C (map decimal (next ∷ slots))) (number_lacks 0x2C slot comma_no_digit (omega arith)) refl
    ∙ ap (λ (parts : List Word). decimal slot ∷ parts) (parted (next ∷ slots) (omega arith) (All-tail IsSlot slot (next ∷ slots) within))

-- ---- the slots of an element

module _ (slots : List ℕ) (word : Word) (spells : SpellsSlots slots word) where
  -- the parts of the word are their numbers
  pub parts_of_slots : slice_split is_comma word ≡ map decimal slots
  parts_of_slots = ap (slice_split is_comma) spells.spelled ∙ parted slots spells.some spells.within

  pub slots_lack : Lacks 0x40 word
  slots_lack = rw spells.spelled (joined_lacks slots spells.within)

pub same_element_slots : (slots slots' : List ℕ) (word : Word) → SpellsSlots slots word → SpellsSlots slots' word → slots ≡ slots'
same_element_slots slots slots' word spells spells' =
    same_numbers 63 slots slots' (omega arith) spells.within spells'.within (sym (parts_of_slots slots word spells) ∙ parts_of_slots slots' word spells')

module _ (text : Word) (n : ℕ) (more : n < length (slice_split is_comma text)) where
  -- a part that is no slot
  pub no_slot_part : (part : Word) → part ≡ get_or (slice_split is_comma text) n part → ((slot : ℕ) → SpellsNumber 63 slot part → ⊥) → (slots : List ℕ) → SpellsSlots slots text → ⊥
  no_slot_part part here none slots spells =
      let parts = parts_of_slots slots text spells in
      let lt : n < length slots = omega (arith, more, ap length parts, length-map slots decimal) in
      none (get_or slots n 0) (record {
        spelled = here ∙ ap (λ (ws : List Word). get_or ws n part) parts ∙ get_or-map decimal slots n 0 part lt;
        within = spells.within n 0 lt;
      })

  -- more parts than an element has slots
  pub many_parts : 64 ≤ n → (slots : List ℕ) → SpellsSlots slots text → ⊥
  many_parts many slots spells = omega (arith, more, many, spells.few, ap length (parts_of_slots slots text spells), length-map slots decimal)

  -- one part more
  pub one_part_more : (slots : List ℕ) (slot : ℕ) (part : Word) → map decimal slots ≡ take n (slice_split is_comma text) → part ≡ get_or (slice_split is_comma text) n part → part ≡ decimal slot
      → map decimal (slots ++ slot ∷ []) ≡ take (n + 1) (slice_split is_comma text)
  one_part_more slots slot part so_far here is =
      let last : get_or (slice_split is_comma text) n part ≡ decimal slot = sym here ∙ is in
      map_push decimal slots slot ∙ ap (λ (ws : List Word). ws ++ decimal slot ∷ []) so_far ∙ ap (λ (w : Word). take n (slice_split is_comma text) ++ w ∷ []) (sym last)
      ∙ sym (take_more (slice_split is_comma text) n part more)

-- all parts
pub all_parts : (slots : List ℕ) (text : Word) → map decimal slots ≡ slice_split is_comma text → length slots ≤ 64 → All IsSlot slots → SpellsSlots slots text
all_parts slots text parts few within = record {
  spelled = sym (join_with_byte-slice_split 0x2C text) ∙ ap (join_with_byte 0x2C) (sym parts);
  some = omega (arith, ap length parts, length-map slots decimal, length-slice_split is_comma text);
  few = few;
  within = within;
}

-- ---- an element

abbrev is_at : ℕ → Bool
is_at byte = eqb byte 0x40

module _ (element : CreateElement) (word : Word) (spells : SpellsElement element word) where
  pub element_word : word ≡ spells.slots ++ 0x40 ∷ decimal element.blocks
  element_word = spells.spelled ∙ append_assoc spells.slots (codes "@") (decimal element.blocks)

  element_parts : slice_split is_at word ≡ spells.slots ∷ decimal element.blocks ∷ []
  element_parts =
      ap (slice_split is_at) element_word
      ∙ slice_split_at is_at spells.slots 0x40 (decimal element.blocks) (slots_lack element.slots spells.slots spells.are_slots) refl
      ∙ ap (λ (parts : List Word). spells.slots ∷ parts) (slice_split_none is_at (decimal element.blocks) (number_lacks 0x40 element.blocks at_no_digit (omega (arith, spells.within))))

  -- cut at its first `@`, the word gives the two
  pub cut_slots : (slots blocks : Bor (List ℕ)) → IsSplitOnceResult 0x40 word (Some (slots, blocks)) → SpellsSlots element.slots slots.now × SpellsNumber (2 ^ 48) element.blocks blocks.now
  cut_slots slots blocks cut =
      let both = split_after 0x40 word spells.slots (decimal element.blocks) (Some (slots, blocks)) cut (omega arith) element_word
      (λ i lt. eqb-false (get_or spells.slots i 0) 0x40 (slots_lack element.slots spells.slots spells.are_slots i 0 lt)) in
      (rw both.0 spells.are_slots, record { spelled = both.1; within = spells.within })

  -- and it has one
  pub has_at : IsSplitOnceResult 0x40 word None → ⊥
  has_at cut = split_after 0x40 word spells.slots (decimal element.blocks) None cut (omega arith) element_word
      (λ i lt. eqb-false (get_or spells.slots i 0) 0x40 (slots_lack element.slots spells.slots spells.are_slots i 0 lt))

  -- it has blocks
  pub some_blocks : (found : ℕ) → ◌≡◌ {A = Option ℕ} (Some found) (Some element.blocks) → 1 ≤ found
  some_blocks found e = let same : found ≡ element.blocks = cc in omega (arith, spells.some)

-- a word that is cut into the slots and the blocks of an element
pub joined_element : (element : CreateElement) (word : Word) (slots blocks : Bor (List ℕ)) → IsSplitOnceResult 0x40 word (Some (slots, blocks)) → SpellsSlots element.slots slots.now
    → SpellsNumber (2 ^ 48) element.blocks blocks.now → 1 ≤ element.blocks → SpellsElement element word
joined_element element word slots blocks cut are_slots number some =
    let parts = split_parts 0x40 word (Some (slots, blocks)) cut (omega arith) in
    record {
      slots = slots.now;
      spelled = parts.0 ∙ ap (λ (w : Word). slots.now ++ 0x40 ∷ w) number.spelled ∙ sym (append_assoc slots.now (codes "@") (decimal element.blocks));
      are_slots = are_slots;
      some = some;
      within = number.within;
    }

pub same_element : (element element' : CreateElement) (word : Word) → SpellsElement element word → SpellsElement element' word → element ≡ element'
same_element element element' word spells spells' =
    let parts = sym (element_parts element word spells) ∙ element_parts element' word spells' in
    let same : spells.slots ≡ spells'.slots = ap (λ (ws : List Word). get_or ws 0 []) parts in
    let slots : element.slots ≡ element'.slots = same_element_slots element.slots element'.slots spells'.slots (rw same at spells.are_slots) spells'.are_slots in
    let blocks : element.blocks ≡ element'.blocks = same_number (2 ^ 48) element.blocks element'.blocks (omega arith) spells.within spells'.within (ap (λ (ws : List Word). get_or ws 1 []) parts) in
    λ i. record { slots = slots i; blocks = blocks i }

-- ---- several elements

pub same_elements : (elements elements' : List CreateElement) (words : List Word) → SpellElements elements words → SpellElements elements' words → elements ≡ elements'
same_elements [] [] words spell spell' = refl
same_elements [] (element' ∷ elements') [] spell spell' = absurd spell'
same_elements [] (element' ∷ elements') (word ∷ words) spell spell' = absurd spell
same_elements (element ∷ elements) elements' [] spell spell' = absurd spell
same_elements (element ∷ elements) [] (word ∷ words) spell spell' = absurd spell'
same_elements (element ∷ elements) (element' ∷ elements') (word ∷ words) spell spell' =
    let first = same_element element element' word spell.0 spell'.0 in
    let rest = same_elements elements elements' words spell.1 spell'.1 in
    ap (λ (e : CreateElement). e ∷ elements) first ∙ ap (λ (es : List CreateElement). element' ∷ es) rest

-- one element more
pub element_more : (elements : List CreateElement) (words : List Word) (element : CreateElement) (word : Word) → SpellElements elements words → SpellsElement element word
    → SpellElements (elements ++ element ∷ []) (words ++ word ∷ [])
element_more [] [] element word spell spells = (spells, tt)
element_more [] (first ∷ words) element word spell spells = absurd spell
element_more (first ∷ elements) [] element word spell spells = absurd spell
element_more (first ∷ elements) (next ∷ words) element word spell spells = (spell.0, element_more elements words element word spell.1 spells)

-- each word is that of an element
pub element_at : (elements : List CreateElement) (words : List Word) (k : ℕ) → SpellElements elements words → k < length words → (element : CreateElement) × SpellsElement element (get_or words k [])
element_at elements [] k spell lt = absurd (omega arith)
element_at [] (word ∷ words) k spell lt = absurd spell
element_at (element ∷ elements) (word ∷ words) zero spell lt = (element, spell.0)
element_at (element ∷ elements) (word ∷ words) (suc k) spell lt = element_at elements words k spell.1 (omega arith)

-- ---- where they go wrong

an_element : CreateElement
an_element = record { slots = 0 ∷ []; blocks = 1 }

an_element_word : Word
an_element_word = decimal 0 ++ codes "@" ++ decimal 1

element_spelled : SpellsElement an_element an_element_word
unfolding an_element an_element_word
element_spelled = record {
  slots = decimal 0;
  spelled = refl;
  are_slots = record { spelled = refl; some = omega arith; few = omega arith; within = All-cons IsSlot 0 [] (omega arith) (All-nil IsSlot) };
  some = omega arith;
  within = omega arith;
}

-- elements, fewer than may be, begin a list of elements
elements_begin : (elements : List CreateElement) (words : List Word) → SpellElements elements words → length words < 16 → Begins AreElements words
elements_begin elements words spell few = record {
  more = an_element_word ∷ [];
  goes_on = record {
    elements = elements ++ an_element ∷ [];
    spell = record {
      some = omega (arith, length-append words (an_element_word ∷ []));
      few = omega (arith, few, length-append words (an_element_word ∷ []));
      spell = element_more elements words an_element (an_element_word) spell element_spelled;
    };
  };
}

pub elements_met : IsMet AreElements
elements_met = let begun = elements_begin [] [] tt (omega arith) in record { words = begun.more; is = begun.goes_on }

pub no_elements : (words : List Word) → length words ≡ 0 → GoWrongAt AreElements words 0
no_elements [] none = wanting_words AreElements [] (elements_begin [] [] tt (omega arith)) (λ are. omega (arith, are.spell.some))
no_elements (word ∷ words) none = absurd (omega (arith, none))

module _ (words : List Word) (elements : List CreateElement) (place : ℕ) (lt : place < length words) (spell : SpellElements elements (take place words)) where
  many : length (take place words) ≡ place
  many = length-take place words ∙ omega arith

  long : length (take (place + 1) words) ≡ place + 1
  long = length-take (place + 1) words ∙ omega arith

  -- a word that is no element's
  pub no_element : place < 16 → ((element : CreateElement) → SpellsElement element (get_or words place []) → ⊥) → GoWrongAt AreElements words place
  no_element few none = wrong_word AreElements words place lt (elements_begin elements (take place words) spell (omega (arith, many)))
      (λ begun.
      let front = take (place + 1) words in
      let all : length (front ++ begun.more) ≡ place + 1 + length begun.more = length-append front begun.more ∙ omega (arith, long) in
      let found = element_at begun.goes_on.elements (front ++ begun.more) place begun.goes_on.spell.spell (omega (arith, all)) in
      let here : get_or (front ++ begun.more) place [] ≡ get_or words place [] = get_or_append_left front begun.more [] place (omega (arith, long)) ∙ get_or-take (place + 1) words place [] (omega arith) in
      none found.0 (rw here at found.1))

  -- a word behind as many as may be
  pub many_elements : place ≡ 16 → GoWrongAt AreElements words place
  many_elements full = wrong_word AreElements words place lt
      (record {
        more = [];
        goes_on = record { elements = elements; spell = rw (append-nil (take place words)) record { some = omega (arith, many, full); few = omega (arith, many, full); spell = spell } };
      })
      (λ begun. omega (arith, begun.goes_on.spell.few, full, long, length-append (take (place + 1) words) begun.more))

  -- one element more
  pub elements_more : (element : CreateElement) → SpellsElement element (get_or words place []) → SpellElements (elements ++ element ∷ []) (take (place + 1) words)
  elements_more element spells = rw (take_more words place [] lt) (element_more elements (take place words) element (get_or words place []) spell spells)
