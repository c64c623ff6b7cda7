-- Where the words of commands over a whole array go wrong.
use Rattle.std.proofs.Common.{◌≡◌, ◌+◌, ◌<◌, ℕ, List, [], ◌∷◌, None, codes, length, drop, refl, ap, arith}
use Rattle.std.specs.Fmt.{decimal}
use Rattle.ddf_words.proofs.Commands.{copyback, copyback_names, create_names}
use Rattle.ddf_words.proofs.Elements.{elements_met}
use Rattle.ddf_words.proofs.Fields.{Fields, Ends, IsMet, ends_met, field_met, lacks_field, behind_field, more_words}
use Rattle.ddf_words.proofs.Names.{a_name, a_plain_name}
use Rattle.ddf_words.proofs.Numbers.{zero_number}
use Rattle.ddf_words.proofs.Places.{wrong_behind}
use Rattle.ddf_words.proofs.Wishes.{create}
use Rattle.ddf_words.specs.Words.{Word, AreElements, GoWrongAt, IsGroupCommand, IsLevel, IsName, IsNamed, IsNumber, IsPlainName, IsSecondary, LacksAt, StandsAt}
use Rattle.ddf_words.specs.declared.command.Command.TheVariants.{Change, Copyback}
use Rattle.ddf_words.specs.declared.command.Wish.TheVariants.{Create}
use Rattle.ddf_words.proofs.Disks.{IsSlot}

-- ---- a name alone

-- the words behind a command's
abbrev AreName : List Word → Type 0
AreName words = Fields (IsName ∷ []) Ends words

are_named : (command : Word) (words : List Word) → AreName words → IsNamed command (command ∷ words)
are_named command [] are = absurd are
are_named command (name ∷ others) are =
    let ends : others ≡ [] = are.1 in
    record { name = name; spells = record { parts = rw ends refl; is_name = are.0 } }

named_are : (command : Word) (words : List Word) → IsNamed command (command ∷ words) → AreName words
named_are command words is =
    let parts : words ≡ is.name ∷ [] = ap (drop 1) is.spells.parts in
    rw parts (is.spells.is_name, refl)

wrong_named : (command : Word) (words : List Word) (place : ℕ) → GoWrongAt AreName words place → GoWrongAt (IsNamed command) (command ∷ words) (1 + place)
wrong_named command words place wrong = wrong_behind AreName (IsNamed command) command words place (named_are command) (are_named command) wrong

module _ (command : Word) (words : List Word) where
  pub wrong_named_name : LacksAt IsName words 1 → GoWrongAt (IsNamed command) (command ∷ drop 1 words) 1
  wrong_named_name lacks = wrong_named command (drop 1 words) 0 (lacks_field IsName [] Ends words 1 (field_met IsName [] Ends (codes "a") a_name ends_met) lacks)

  pub wrong_named_end : StandsAt IsName words 1 → 2 < length words → GoWrongAt (IsNamed command) (command ∷ drop 1 words) 2
  wrong_named_end name more = wrong_named command (drop 1 words) 1 (behind_field IsName [] Ends words 1 0 name (more_words words 2 more))

-- ---- `copyback`

abbrev AreSlotAlone : List Word → Type 0
AreSlotAlone words = Fields (IsSlot ∷ []) Ends words

-- the words behind it
abbrev AreArrayAndSlot : List Word → Type 0
AreArrayAndSlot words = Fields (IsName ∷ IsSlot ∷ []) Ends words

are_copyback : (words : List Word) → AreArrayAndSlot words → IsGroupCommand (copyback ∷ words)
are_copyback [] are = absurd are
are_copyback (name ∷ []) are = absurd are.1
are_copyback (name ∷ slot ∷ others) are =
    let ends : others ≡ [] = are.1.1 in
    let number = are.1.0 in
    record {
      command = Copyback name number.number;
      takes_one = refl;
      spells = record { parts = rw (number.spells.spelled, ends) refl; is_name = are.0; slot_within = number.spells.within };
    }

copyback_are : (words : List Word) → IsGroupCommand (copyback ∷ words) → AreArrayAndSlot words
copyback_are words is =
    let named = copyback_names words is.command is.spells in
    let parts : words ≡ named.name ∷ decimal named.slot ∷ [] = ap (drop 1) named.spells.parts in
    rw parts (named.spells.is_name, (record { number = named.slot; spells = record { spelled = refl; within = named.spells.slot_within } }, refl))

wrong_copyback : (words : List Word) (place : ℕ) → GoWrongAt AreArrayAndSlot words place → GoWrongAt IsGroupCommand (copyback ∷ words) (1 + place)
wrong_copyback words place wrong = wrong_behind AreArrayAndSlot IsGroupCommand copyback words place copyback_are are_copyback wrong

slot_met : IsMet AreSlotAlone
slot_met = field_met IsSlot [] Ends (decimal 0) (zero_number 63) ends_met

module _ (words : List Word) where
  pub wrong_copyback_name : LacksAt IsName words 1 → GoWrongAt IsGroupCommand (copyback ∷ drop 1 words) 1
  wrong_copyback_name lacks = wrong_copyback (drop 1 words) 0 (lacks_field IsName (IsSlot ∷ []) Ends words 1 (field_met IsName (IsSlot ∷ []) Ends (codes "a") a_name slot_met) lacks)

  pub wrong_copyback_slot : StandsAt IsName words 1 → LacksAt IsSlot words 2 → GoWrongAt IsGroupCommand (copyback ∷ drop 1 words) 2
  wrong_copyback_slot name lacks = wrong_copyback (drop 1 words) 1 (behind_field IsName (IsSlot ∷ []) Ends words 1 0 name (lacks_field IsSlot [] Ends words 2 slot_met lacks))

  pub wrong_copyback_end : StandsAt IsName words 1 → StandsAt IsSlot words 2 → 3 < length words → GoWrongAt IsGroupCommand (copyback ∷ drop 1 words) 3
  wrong_copyback_end name slot more = wrong_copyback (drop 1 words) 2 (behind_field IsName (IsSlot ∷ []) Ends words 1 1 name
      (behind_field IsSlot [] Ends words 2 0 slot (more_words words 3 more)))

-- ---- `create`

abbrev IsCode : Word → Type 0
IsCode word = IsNumber 15 word

abbrev AreLast : List Word → Type 0
AreLast words = Fields (IsSecondary ∷ []) AreElements words

abbrev AreCodeAndLast : List Word → Type 0
AreCodeAndLast words = Fields (IsCode ∷ IsSecondary ∷ []) AreElements words

abbrev AreLevels : List Word → Type 0
AreLevels words = Fields (IsLevel ∷ IsCode ∷ IsSecondary ∷ []) AreElements words

-- the words behind `create`
abbrev AreArray : List Word → Type 0
AreArray words = Fields (IsPlainName ∷ IsLevel ∷ IsCode ∷ IsSecondary ∷ []) AreElements words

are_create : (words : List Word) → AreArray words → IsGroupCommand (create ∷ words)
are_create [] are = absurd are
are_create (name ∷ []) are = absurd are.1
are_create (name ∷ level ∷ []) are = absurd are.1.1
are_create (name ∷ level ∷ code ∷ []) are = absurd are.1.1.1
are_create (name ∷ level ∷ code ∷ secondary ∷ others) are =
    let is_level = are.1.0 in
    let is_code = are.1.1.0 in
    let is_secondary = are.1.1.1.0 in
    let are_elements = are.1.1.1.1 in
    record {
      command = Change (Create (record {
        name = name;
        level = is_level.level.0;
        qualifier = is_level.level.1;
        code = is_code.number;
        secondary = is_secondary.secondary;
        elements = are_elements.elements;
      }));
      takes_one = refl;
      spells = record {
        level_word = level;
        secondary_word = secondary;
        rest = others;
        parts = rw is_code.spells.spelled refl;
        is_name = are.0;
        is_level = is_level.says;
        code_within = is_code.spells.within;
        is_secondary = is_secondary.says;
        are_elements = are_elements.spell;
      };
    }

create_are : (words : List Word) → IsGroupCommand (create ∷ words) → AreArray words
create_are words is =
    let named = create_names words is.command is.spells in
    let creation = named.0 in
    let spells = named.1 in
    let parts : words ≡ creation.name ∷ spells.level_word ∷ decimal creation.code ∷ spells.secondary_word ∷ spells.rest = ap (drop 1) spells.parts in
    rw parts (
      spells.is_name,
      (
        record { level = (creation.level, creation.qualifier); says = spells.is_level },
        (
          record { number = creation.code; spells = record { spelled = refl; within = spells.code_within } },
          (record { secondary = creation.secondary; says = spells.is_secondary }, record { elements = creation.elements; spell = spells.are_elements }),
        ),
      ),
    )

wrong_create : (words : List Word) (place : ℕ) → GoWrongAt AreArray words place → GoWrongAt IsGroupCommand (create ∷ words) (1 + place)
wrong_create words place wrong = wrong_behind AreArray IsGroupCommand create words place create_are are_create wrong

raid0 : IsLevel (codes "raid0")
raid0 = record { level = (0, 0); says = refl }

single : IsSecondary (codes "single")
single = record { secondary = None; says = refl }

last_met : IsMet AreLast
last_met = field_met IsSecondary [] AreElements (codes "single") single elements_met

code_met : IsMet AreCodeAndLast
code_met = field_met IsCode (IsSecondary ∷ []) AreElements (decimal 0) (zero_number 15) last_met

levels_met : IsMet AreLevels
levels_met = field_met IsLevel (IsCode ∷ IsSecondary ∷ []) AreElements (codes "raid0") raid0 code_met

array_met : IsMet AreArray
array_met = field_met IsPlainName (IsLevel ∷ IsCode ∷ IsSecondary ∷ []) AreElements (codes "a") a_plain_name levels_met

module _ (words : List Word) where
  pub wrong_create_name : LacksAt IsPlainName words 1 → GoWrongAt IsGroupCommand (create ∷ drop 1 words) 1
  wrong_create_name lacks = wrong_create (drop 1 words) 0 (lacks_field IsPlainName (IsLevel ∷ IsCode ∷ IsSecondary ∷ []) AreElements words 1 array_met lacks)

  behind_name : (place : ℕ) → StandsAt IsPlainName words 1 → GoWrongAt AreLevels (drop 2 words) place → GoWrongAt AreArray (drop 1 words) (1 + place)
  behind_name place name wrong = behind_field IsPlainName (IsLevel ∷ IsCode ∷ IsSecondary ∷ []) AreElements words 1 place name wrong

  pub wrong_level : StandsAt IsPlainName words 1 → LacksAt IsLevel words 2 → GoWrongAt IsGroupCommand (create ∷ drop 1 words) 2
  wrong_level name lacks = wrong_create (drop 1 words) 1 (behind_name 0 name (lacks_field IsLevel (IsCode ∷ IsSecondary ∷ []) AreElements words 2 levels_met lacks))

  behind_level : (place : ℕ) → StandsAt IsLevel words 2 → GoWrongAt AreCodeAndLast (drop 3 words) place → GoWrongAt AreLevels (drop 2 words) (1 + place)
  behind_level place level wrong = behind_field IsLevel (IsCode ∷ IsSecondary ∷ []) AreElements words 2 place level wrong

  pub wrong_code : StandsAt IsPlainName words 1 → StandsAt IsLevel words 2 → LacksAt IsCode words 3 → GoWrongAt IsGroupCommand (create ∷ drop 1 words) 3
  wrong_code name level lacks = wrong_create (drop 1 words) 2 (behind_name 1 name (behind_level 0 level (lacks_field IsCode (IsSecondary ∷ []) AreElements words 3 code_met lacks)))

  behind_code : (place : ℕ) → StandsAt IsCode words 3 → GoWrongAt AreLast (drop 4 words) place → GoWrongAt AreCodeAndLast (drop 3 words) (1 + place)
  behind_code place code wrong = behind_field IsCode (IsSecondary ∷ []) AreElements words 3 place code wrong

  pub wrong_secondary : StandsAt IsPlainName words 1 → StandsAt IsLevel words 2 → StandsAt IsCode words 3 → LacksAt IsSecondary words 4 → GoWrongAt IsGroupCommand (create ∷ drop 1 words) 4
  wrong_secondary name level code lacks = wrong_create (drop 1 words) 3
      (behind_name 2 name (behind_level 1 level (behind_code 0 code (lacks_field IsSecondary [] AreElements words 4 last_met lacks))))

  pub wrong_elements : (place : ℕ) → StandsAt IsPlainName words 1 → StandsAt IsLevel words 2 → StandsAt IsCode words 3 → StandsAt IsSecondary words 4 → GoWrongAt AreElements (drop 5 words) place
      → GoWrongAt IsGroupCommand (create ∷ drop 1 words) (5 + place)
  wrong_elements place name level code secondary wrong =
      let behind = wrong_create (drop 1 words) (1 + (1 + (1 + (1 + place))))
      (behind_name (1 + (1 + (1 + place))) name (behind_level (1 + (1 + place)) level (behind_code (1 + place) code (behind_field IsSecondary [] AreElements words 4 place secondary wrong)))) in
      let same : 1 + (1 + (1 + (1 + (1 + place)))) ≡ 5 + place = omega arith in
      rw same at behind
