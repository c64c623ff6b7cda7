-- Where the words of commands over the disk of a slot go wrong.
use Rattle.std.proofs.Common.{◌≡◌, ◌≢◌, ◌+◌, ◌<◌, ℕ, List, [], ◌∷◌, codes, length, drop, refl, ap, arith}
use Rattle.std.specs.Fmt.{decimal}
use Rattle.ddf_words.proofs.Commands.{fail_names, spare_names}
use Rattle.ddf_words.proofs.Fields.{Fields, Ends, ends_met, field_met, lacks_field, behind_field, more_words}
use Rattle.ddf_words.proofs.Numbers.{zero_number}
use Rattle.ddf_words.proofs.Places.{wanting_words, wrong_behind, wrong_word}
use Rattle.ddf_words.proofs.Wishes.{fail, spare, spare_begins, spare_name, unlike}
use Rattle.ddf_words.specs.Words.{Word, AreNames, AreSpareWords, Begins, GoWrongAt, IsGroupCommand, IsNumber, LacksAt, SpellsSpare, StandsAt}
use Rattle.ddf_words.specs.declared.command.Command.TheVariants.{Change}
use Rattle.ddf_words.specs.declared.command.SpareWord.{SpareWord}
use Rattle.ddf_words.specs.declared.command.SpareWord.TheVariants as spares
use Rattle.ddf_words.specs.declared.command.Wish.TheVariants.{Fail, Spare}

abbrev pub IsSlot : Word → Type 0
IsSlot word = IsNumber 63 word

-- ---- `fail`

-- the words behind it
abbrev AreSlot : List Word → Type 0
AreSlot words = Fields (IsSlot ∷ []) Ends words

are_fail : (words : List Word) → AreSlot words → IsGroupCommand (fail ∷ words)
are_fail [] are = absurd are
are_fail (slot ∷ others) are =
    let ends : others ≡ [] = are.1 in
    record {
      command = Change (Fail are.0.number);
      takes_one = refl;
      spells = record { parts = rw (are.0.spells.spelled, ends) refl; slot_within = are.0.spells.within };
    }

fail_are : (words : List Word) → IsGroupCommand (fail ∷ words) → AreSlot words
fail_are words is =
    let named = fail_names words is.command is.spells in
    let parts : words ≡ decimal named.0 ∷ [] = ap (drop 1) named.1.parts in
    rw parts (record { number = named.0; spells = record { spelled = refl; within = named.1.slot_within } }, refl)

wrong_fail : (words : List Word) (place : ℕ) → GoWrongAt AreSlot words place → GoWrongAt IsGroupCommand (fail ∷ words) (1 + place)
wrong_fail words place wrong = wrong_behind AreSlot IsGroupCommand fail words place fail_are are_fail wrong

module _ (words : List Word) where
  pub wrong_fail_slot : LacksAt IsSlot words 1 → GoWrongAt IsGroupCommand (fail ∷ drop 1 words) 1
  wrong_fail_slot lacks = wrong_fail (drop 1 words) 0 (lacks_field IsSlot [] Ends words 1 (field_met IsSlot [] Ends (decimal 0) (zero_number 63) ends_met) lacks)

  pub wrong_fail_end : StandsAt IsSlot words 1 → 2 < length words → GoWrongAt IsGroupCommand (fail ∷ drop 1 words) 2
  wrong_fail_end slot more = wrong_fail (drop 1 words) 1 (behind_field IsSlot [] Ends words 1 0 slot (more_words words 2 more))

-- ---- what a disk is to be a spare for

abbrev off : Word
off = codes "off"

off_spelled : AreSpareWords (off ∷ [])
off_spelled = record { word = spares.Off; spells = refl }

spare_begin : Begins AreSpareWords []
spare_begin = record { more = off ∷ []; goes_on = off_spelled }

no_use : (word : SpareWord) → SpellsSpare word [] → ⊥
no_use spares.Global spells = cc
no_use spares.Revertible spells = cc
no_use spares.Off spells = cc
no_use (spares.For names) spells = let parts = spells.parts in cc

pub wanting_use : (words : List Word) → words ≡ [] → GoWrongAt AreSpareWords words 0
wanting_use words e = rw e (wanting_words AreSpareWords [] spare_begin (λ are. no_use are.word are.spells))

other_use : (word : SpareWord) (first : Word) → first ≢ codes "global" → first ≢ codes "revertible" → first ≢ codes "off" → first ≢ codes "for" → first ≢ spare_name word
other_use spares.Global first not_global not_revertible not_off not_for e = not_global e
other_use spares.Revertible first not_global not_revertible not_off not_for e = not_revertible e
other_use spares.Off first not_global not_revertible not_off not_for e = not_off e
other_use (spares.For names) first not_global not_revertible not_off not_for e = not_for e

pub wrong_use : (words rest : List Word) (first : Word) → words ≡ first ∷ rest → first ≢ codes "global" → first ≢ codes "revertible" → first ≢ codes "off" → first ≢ codes "for" → GoWrongAt AreSpareWords words 0
wrong_use words rest first e not_global not_revertible not_off not_for = rw e (wrong_word AreSpareWords (first ∷ rest) 0 (omega arith) spare_begin
    (λ begun. other_use begun.goes_on.word first not_global not_revertible not_off not_for (spare_begins (first ∷ begun.more) begun.goes_on.word begun.goes_on.spells)))

global_alone : (rest : List Word) (word : SpareWord) → SpellsSpare word (codes "global" ∷ rest) → Ends rest
global_alone rest spares.Global spells = ap (drop 1) spells
global_alone rest word spells = absurd (unlike (codes "global") (spare_name word) refl (spare_begins (codes "global" ∷ rest) word spells))

revertible_alone : (rest : List Word) (word : SpareWord) → SpellsSpare word (codes "revertible" ∷ rest) → Ends rest
revertible_alone rest spares.Revertible spells = ap (drop 1) spells
revertible_alone rest word spells = absurd (unlike (codes "revertible") (spare_name word) refl (spare_begins (codes "revertible" ∷ rest) word spells))

off_alone : (rest : List Word) (word : SpareWord) → SpellsSpare word (off ∷ rest) → Ends rest
off_alone rest spares.Off spells = ap (drop 1) spells
off_alone rest word spells = absurd (unlike off (spare_name word) refl (spare_begins (off ∷ rest) word spells))

for_names : (rest : List Word) (word : SpareWord) → SpellsSpare word (codes "for" ∷ rest) → AreNames rest
for_names rest (spares.For names) spells =
    let same : rest ≡ names = ap (drop 1) spells.parts in
    rw same spells.are_names
for_names rest word spells = absurd (unlike (codes "for") (spare_name word) refl (spare_begins (codes "for" ∷ rest) word spells))

module _ (words : List Word) where
  pub wrong_global_end : 1 < length words → GoWrongAt AreSpareWords (codes "global" ∷ drop 1 words) 1
  wrong_global_end more = wrong_behind Ends AreSpareWords (codes "global") (drop 1 words) 0 (λ rest are. global_alone rest are.word are.spells)
      (λ rest ends. record { word = spares.Global; spells = ap (λ (ws : List Word). codes "global" ∷ ws) ends }) (more_words words 1 more)

  pub wrong_revertible_end : 1 < length words → GoWrongAt AreSpareWords (codes "revertible" ∷ drop 1 words) 1
  wrong_revertible_end more = wrong_behind Ends AreSpareWords (codes "revertible") (drop 1 words) 0 (λ rest are. revertible_alone rest are.word are.spells)
      (λ rest ends. record { word = spares.Revertible; spells = ap (λ (ws : List Word). codes "revertible" ∷ ws) ends }) (more_words words 1 more)

  pub wrong_off_end : 1 < length words → GoWrongAt AreSpareWords (off ∷ drop 1 words) 1
  wrong_off_end more = wrong_behind Ends AreSpareWords off (drop 1 words) 0 (λ rest are. off_alone rest are.word are.spells)
      (λ rest ends. record { word = spares.Off; spells = ap (λ (ws : List Word). off ∷ ws) ends }) (more_words words 1 more)

pub wrong_names : (words rest : List Word) (place : ℕ) → words ≡ codes "for" ∷ rest → GoWrongAt AreNames rest place → GoWrongAt AreSpareWords words (1 + place)
wrong_names words rest place e wrong = rw e (wrong_behind AreNames AreSpareWords (codes "for") rest place (λ names are. for_names names are.word are.spells)
    (λ names are. record { word = spares.For names; spells = record { parts = refl; are_names = are } }) wrong)

-- ---- `spare`

-- the words behind it
abbrev AreSlotAndUse : List Word → Type 0
AreSlotAndUse words = Fields (IsSlot ∷ []) AreSpareWords words

are_spare : (words : List Word) → AreSlotAndUse words → IsGroupCommand (spare ∷ words)
are_spare [] are = absurd are
are_spare (slot ∷ others) are = record {
  command = Change (Spare are.0.number are.1.word);
  takes_one = refl;
  spells = record { rest = others; parts = rw are.0.spells.spelled refl; slot_within = are.0.spells.within; spells = are.1.spells };
}

spare_are : (words : List Word) → IsGroupCommand (spare ∷ words) → AreSlotAndUse words
spare_are words is =
    let named = spare_names words is.command is.spells in
    let parts : words ≡ decimal named.slot ∷ named.spells.rest = ap (drop 1) named.spells.parts in
    rw parts (
      record { number = named.slot; spells = record { spelled = refl; within = named.spells.slot_within } },
      record { word = named.word; spells = named.spells.spells },
    )

wrong_spare : (words : List Word) (place : ℕ) → GoWrongAt AreSlotAndUse words place → GoWrongAt IsGroupCommand (spare ∷ words) (1 + place)
wrong_spare words place wrong = wrong_behind AreSlotAndUse IsGroupCommand spare words place spare_are are_spare wrong

module _ (words : List Word) where
  pub wrong_spare_slot : LacksAt IsSlot words 1 → GoWrongAt IsGroupCommand (spare ∷ drop 1 words) 1
  wrong_spare_slot lacks = wrong_spare (drop 1 words) 0
      (lacks_field IsSlot [] AreSpareWords words 1 (field_met IsSlot [] AreSpareWords (decimal 0) (zero_number 63) (record { words = off ∷ []; is = off_spelled })) lacks)

  pub wrong_spare_use : (place : ℕ) → StandsAt IsSlot words 1 → GoWrongAt AreSpareWords (drop 2 words) place → GoWrongAt IsGroupCommand (spare ∷ drop 1 words) (2 + place)
  wrong_spare_use place slot wrong =
      let behind = wrong_spare (drop 1 words) (1 + place) (behind_field IsSlot [] AreSpareWords words 1 place slot wrong) in
      let same : 1 + (1 + place) ≡ 2 + place = omega arith in
      rw same at behind
