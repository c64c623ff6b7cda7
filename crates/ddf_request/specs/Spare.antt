-- What a disk is to stand in for.
use Rattle.std.specs.Prelude.{ℕ, Bool, List, [], ◌∷◌, is_some, Option, Some, None, Result, Ok, Err, if◌then◌else◌}
use Rattle.std.specs.List.{list_any}
use Rattle.ddf_config.specs.declared.member.SpareUse.{SpareUse}
use Rattle.ddf_config.specs.declared.member.SpareUse.TheVariants as uses
use Rattle.ddf_config.specs.declared.array.Array.{Array}
use Rattle.ddf_config.specs.declared.refusal.Refusal.{Refusal}
use Rattle.ddf_config.specs.declared.refusal.Refusal.TheVariants.{NoArray}
use Rattle.ddf_config.specs.Configuration.{Configuration}
use Rattle.ddf_words.specs.declared.command.SpareWord.{SpareWord}
use Rattle.ddf_words.specs.declared.command.SpareWord.TheVariants as spares
use Rattle.ddf_request.specs.Named.{named_array}

-- the disks tell of some element of it
abbrev pub has_element : Array → Bool
has_element array = list_any is_some array.elements

-- the GUID of an array that a spare may stand in for
abbrev pub served_guid : List (List ℕ × Array) → (word : List ℕ) → Option (List ℕ)
served_guid arrays word =
    elim (named_array arrays word) [ None ↦ None | Some entry ↦ if has_element entry.1 then Some entry.0 else None ]

abbrev pub with_guid : Option (List ℕ) → Option (List (List ℕ)) → Option (List (List ℕ))
with_guid None guids = None
with_guid (Some guid) None = None
with_guid (Some guid) (Some guids) = Some (guid ∷ guids)

-- those of all, in the order of the words, or one isn't there
abbrev pub served_guids : List (List ℕ × Array) → (words : List (List ℕ)) → Option (List (List ℕ))
served_guids arrays [] = Some []
served_guids arrays (word ∷ words) = with_guid (served_guid arrays word) (served_guids arrays words)

-- what the words say: each name is that of an array of which the disks tell some element, or there is no such use
abbrev pub use_of : Configuration → SpareWord → Result SpareUse Refusal
use_of config spares.Global = Ok uses.Global
use_of config spares.Revertible = Ok uses.Revertible
use_of config spares.Off = Ok uses.No
use_of config (spares.For words) = elim (served_guids config.arrays words) [ None ↦ Err NoArray | Some guids ↦ Ok (uses.Dedicated guids) ]
