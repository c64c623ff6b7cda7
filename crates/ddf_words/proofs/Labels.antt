-- The words behind `label`.
use Rattle.std.proofs.Common.{◌≡◌, ◌≢◌, ℕ, ◌+◌, ◌<◌, ◌≤◌, List, [], ◌∷◌, Bool, true, false, length, get_or, drop, refl, sym, ap, ◌∙◌, arith, codes}
use Rattle.std.specs.Fmt.{decimal}
use Rattle.std.proofs.lemmas.Fmt.{length-decimal-le}
use Rattle.ddf_words.proofs.Numbers.{same_slots, small_slot, word_of_slot}
use Rattle.ddf_words.proofs.Places.{wrong_among, wrong_behind}
use Rattle.ddf_words.proofs.Wishes.{unlike}
use Rattle.ddf_words.specs.Words.{Word, AreSlotWords, GoWrongAt, NameDisks, NameSized, NameSlots, SpellDisks, SpellSized}
use Rattle.ddf_words.specs.declared.command.DiskStyle.{DiskStyle}
use Rattle.ddf_words.specs.declared.command.DiskStyle.TheVariants.{Linux, Standard}

abbrev pub linux : Word
linux = codes "linux"

abbrev pub large_word : Word
large_word = codes "large"

-- the number of a slot has at most two digits
no_slot_is_long : (word : Word) → 2 < length word → (slots : List ℕ) (words : List Word) → AreSlotWords slots (word ∷ words) → ⊥
no_slot_is_long word long slots words are =
    let first : word ≡ decimal (get_or slots 0 0) = word_of_slot slots (word ∷ words) are 0 (omega arith) in
    let small : get_or slots 0 0 ≤ 63 = small_slot slots (word ∷ words) are 0 (omega arith) in
    let short : length (decimal (get_or slots 0 0)) ≤ 2 = length-decimal-le 2 (get_or slots 0 0) (omega arith) (omega (arith, small)) (omega (arith, small)) in
    let same : length word ≡ length (decimal (get_or slots 0 0)) = ap length first in
    omega (arith, short, long, same)

-- no slots are named by no words
no_slots : AreSlotWords [] []
no_slots = record { spelled = refl; within = λ i lt. absurd (omega (arith, lt)); different = λ i j lt le. absurd (omega (arith, le)) }

-- `linux` begins no words of a size
no_size_is_linux : (large : Bool) (slots : List ℕ) (words : List Word) → SpellSized large slots (linux ∷ words) → ⊥
no_size_is_linux false slots words spells = no_slot_is_long linux (omega arith) slots words (rw (sym spells.parts) at spells.are_slots)
no_size_is_linux true slots words spells = unlike linux large_word refl (ap (λ (ws : List Word). get_or ws 0 []) spells.parts)

-- ---- words name one kind of new disks

same_sized : (large large' : Bool) (slots slots' : List ℕ) (words : List Word) → SpellSized large slots words → SpellSized large' slots' words
    → (large ≡ large') × (slots ≡ slots')
same_sized false false slots slots' words spells spells' =
    let same : spells.numbers ≡ spells'.numbers = sym spells.parts ∙ spells'.parts in
    (refl, same_slots slots slots' spells'.numbers (rw same at spells.are_slots) spells'.are_slots)
same_sized true true slots slots' words spells spells' =
    let same : spells.numbers ≡ spells'.numbers = ap (drop 1) (sym spells.parts ∙ spells'.parts) in
    (refl, same_slots slots slots' spells'.numbers (rw same at spells.are_slots) spells'.are_slots)
same_sized false true slots slots' words spells spells' =
    let same : spells.numbers ≡ large_word ∷ spells'.numbers = sym spells.parts ∙ spells'.parts in
    absurd (no_slot_is_long large_word (omega arith) slots spells'.numbers (rw same at spells.are_slots))
same_sized true false slots slots' words spells spells' =
    let same : spells'.numbers ≡ large_word ∷ spells.numbers = sym spells'.parts ∙ spells.parts in
    absurd (no_slot_is_long large_word (omega arith) slots' spells.numbers (rw same at spells'.are_slots))

pub same_disks : (style style' : DiskStyle) (large large' : Bool) (slots slots' : List ℕ) (words : List Word) → SpellDisks style large slots words → SpellDisks style' large' slots' words
    → (style ≡ style') × (large ≡ large') × (slots ≡ slots')
same_disks Standard Standard large large' slots slots' words spells spells' =
    let same : spells.rest ≡ spells'.rest = sym spells.parts ∙ spells'.parts in
    let both = same_sized large large' slots slots' spells'.rest (rw same at spells.are_sized) spells'.are_sized in
    (refl, both.0, both.1)
same_disks Linux Linux large large' slots slots' words spells spells' =
    let same : spells.rest ≡ spells'.rest = ap (drop 1) (sym spells.parts ∙ spells'.parts) in
    let both = same_sized large large' slots slots' spells'.rest (rw same at spells.are_sized) spells'.are_sized in
    (refl, both.0, both.1)
same_disks Standard Linux large large' slots slots' words spells spells' =
    let same : spells.rest ≡ linux ∷ spells'.rest = sym spells.parts ∙ spells'.parts in
    absurd (no_size_is_linux large slots spells'.rest (rw same at spells.are_sized))
same_disks Linux Standard large large' slots slots' words spells spells' =
    let same : spells'.rest ≡ linux ∷ spells.rest = sym spells'.parts ∙ spells.parts in
    absurd (no_size_is_linux large' slots' spells.rest (rw same at spells'.are_sized))

-- ---- where they go wrong behind their style

-- slots alone name disks of which no size is said
slots_alone : (words : List Word) → NameSlots words → NameSized words
slots_alone words is = record { large = false; slots = is.slots; are_sized = record { numbers = words; parts = refl; are_slots = is.are_slots } }

among_slots : (words : List Word) → ((rest : List Word) → words ≢ large_word ∷ rest) → (large : Bool) (slots : List ℕ) → SpellSized large slots words → NameSlots words
among_slots words none false slots spells = record { slots = slots; are_slots = rw (sym spells.parts) at spells.are_slots }
among_slots words none true slots spells = absurd (none spells.numbers spells.parts)

behind_size : (more : List Word) (large : Bool) (slots : List ℕ) → SpellSized large slots (large_word ∷ more) → NameSlots more
behind_size more false slots spells = absurd (no_slot_is_long large_word (omega arith) slots more (rw (sym spells.parts) at spells.are_slots))
behind_size more true slots spells =
    let same : spells.numbers ≡ more = ap (drop 1) (sym spells.parts) in
    record { slots = slots; are_slots = rw same at spells.are_slots }

-- without `large` they go wrong where the words of slots do
pub wrong_unsized : (words : List Word) (place : ℕ) → ((rest : List Word) → words ≢ large_word ∷ rest) → GoWrongAt NameSlots words place → GoWrongAt NameSized words place
wrong_unsized [] place none wrong = absurd (wrong.refused (record { slots = []; are_slots = no_slots }))
wrong_unsized (first ∷ rest) place none wrong = wrong_among NameSlots NameSized first rest place slots_alone
    (λ more is. among_slots (first ∷ more) (λ others e. none rest (ap (λ (ws : List Word). get_or ws 0 [] ∷ rest) e)) is.large is.slots is.are_sized)
    wrong

-- and behind it
pub wrong_large : (words rest : List Word) (place : ℕ) → words ≡ large_word ∷ rest → GoWrongAt NameSlots rest place → GoWrongAt NameSized words (1 + place)
wrong_large words rest place e wrong = rw e (wrong_behind NameSlots NameSized large_word rest place
    (λ more is. behind_size more is.large is.slots is.are_sized)
    (λ more is. record { large = true; slots = is.slots; are_sized = record { numbers = more; parts = refl; are_slots = is.are_slots } })
    wrong)

-- ---- where they go wrong

-- words of a size alone name disks as the standard has them
sized_alone : (words : List Word) → NameSized words → NameDisks words
sized_alone words is = record { style = Standard; large = is.large; slots = is.slots; are_disks = record { rest = words; parts = refl; are_sized = is.are_sized } }

among_sized : (words : List Word) → ((rest : List Word) → words ≢ linux ∷ rest) → (style : DiskStyle) (large : Bool) (slots : List ℕ) → SpellDisks style large slots words → NameSized words
among_sized words none Standard large slots spells = record { large = large; slots = slots; are_sized = rw (sym spells.parts) at spells.are_sized }
among_sized words none Linux large slots spells = absurd (none spells.rest spells.parts)

behind_style : (more : List Word) (style : DiskStyle) (large : Bool) (slots : List ℕ) → SpellDisks style large slots (linux ∷ more) → NameSized more
behind_style more Standard large slots spells = absurd (no_size_is_linux large slots more (rw (sym spells.parts) at spells.are_sized))
behind_style more Linux large slots spells =
    let same : spells.rest ≡ more = ap (drop 1) (sym spells.parts) in
    record { large = large; slots = slots; are_sized = rw same at spells.are_sized }

-- no words name all disks, of no size
none_named : NameSized []
none_named = record { large = false; slots = []; are_sized = record { numbers = []; parts = refl; are_slots = no_slots } }

-- without `linux` they go wrong where the words of a size do
pub wrong_alone : (words : List Word) (place : ℕ) → ((rest : List Word) → words ≢ linux ∷ rest) → GoWrongAt NameSized words place → GoWrongAt NameDisks words place
wrong_alone [] place none wrong = absurd (wrong.refused none_named)
wrong_alone (first ∷ rest) place none wrong = wrong_among NameSized NameDisks first rest place sized_alone
    (λ more is. among_sized (first ∷ more) (λ others e. none rest (ap (λ (ws : List Word). get_or ws 0 [] ∷ rest) e)) is.style is.large is.slots is.are_disks)
    wrong

-- and behind it
pub wrong_linux : (words rest : List Word) (place : ℕ) → words ≡ linux ∷ rest → GoWrongAt NameSized rest place → GoWrongAt NameDisks words (1 + place)
wrong_linux words rest place e wrong = rw e (wrong_behind NameSized NameDisks linux rest place
    (λ more is. behind_style more is.style is.large is.slots is.are_disks)
    (λ more is. record { style = Linux; large = is.large; slots = is.slots; are_disks = record { rest = more; parts = refl; are_sized = is.are_sized } })
    wrong)
