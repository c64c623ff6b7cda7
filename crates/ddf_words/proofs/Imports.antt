-- Where the words of an import go wrong.
use Rattle.std.proofs.Common.{◌≡◌, ◌+◌, ◌<◌, ℕ, zero, suc, List, [], ◌∷◌, length, drop, replicate, slice_index, refl, ap, arith}
use Rattle.hex.specs.Hex.{encode_lower}
use Rattle.ddf_words.proofs.Commands.{import_names, join_words}
use Rattle.ddf_words.proofs.Fields.{Fields, Ends, ends_met, field_met, lacks_field, behind_field, more_words}
use Rattle.ddf_words.proofs.Places.{wrong_behind}
use Rattle.ddf_words.specs.Words.{Word, GoWrongAt, IsGroupCommand, IsGuidWord, LacksAt, SpellsGuid, StandsAt}
use Rattle.ddf_words.specs.declared.command.Command.TheVariants.{Import}

-- the words behind it
abbrev AreGuid : List Word → Type 0
AreGuid words = Fields (IsGuidWord ∷ []) Ends words

are_import : (words : List Word) → AreGuid words → IsGroupCommand (join_words ∷ words)
are_import [] are = absurd are
are_import (word ∷ others) are =
    let ends : others ≡ [] = are.1 in
    record {
      command = Import are.0.group;
      takes_one = refl;
      spells = record { parts = rw (are.0.spells.spelled, ends) refl; is_guid = are.0.spells.is_guid };
    }

import_are : (words : List Word) → IsGroupCommand (join_words ∷ words) → AreGuid words
import_are words is =
    let named = import_names words is.command is.spells in
    let parts : words ≡ encode_lower named.0 ∷ [] = ap (drop 1) named.1.parts in
    rw parts (record { group = named.0; spells = record { spelled = refl; is_guid = named.1.is_guid } }, refl)

wrong_import : (words : List Word) (place : ℕ) → GoWrongAt AreGuid words place → GoWrongAt IsGroupCommand (join_words ∷ words) (1 + place)
wrong_import words place wrong = wrong_behind AreGuid IsGroupCommand join_words words place import_are are_import wrong

-- a GUID
zero_bytes : (n i : ℕ) → slice_index (replicate n 0) i < 256
zero_bytes zero i = omega arith
zero_bytes (suc n) zero = omega arith
zero_bytes (suc n) (suc i) = zero_bytes n i

a_guid : IsGuidWord (encode_lower (replicate 24 0))
a_guid = record { group = replicate 24 0; spells = record { is_guid = record { count = refl; each = zero_bytes 24 }; spelled = refl } }

module _ (words : List Word) where
  pub wrong_import_guid : LacksAt IsGuidWord words 1 → GoWrongAt IsGroupCommand (join_words ∷ drop 1 words) 1
  wrong_import_guid lacks = wrong_import (drop 1 words) 0 (lacks_field IsGuidWord [] Ends words 1 (field_met IsGuidWord [] Ends (encode_lower (replicate 24 0)) a_guid ends_met) lacks)

  pub wrong_import_end : StandsAt IsGuidWord words 1 → 2 < length words → GoWrongAt IsGroupCommand (join_words ∷ drop 1 words) 2
  wrong_import_end guid more = wrong_import (drop 1 words) 1 (behind_field IsGuidWord [] Ends words 1 0 guid (more_words words 2 more))

-- where the GUID of this group stands, a GUID stands
pub guid_stands : (group : List ℕ) (words : List Word) (place : ℕ) → StandsAt (SpellsGuid group) words place → StandsAt IsGuidWord words place
guid_stands group words place stands = record { within = stands.within; is = record { group = group; spells = stands.is } }
