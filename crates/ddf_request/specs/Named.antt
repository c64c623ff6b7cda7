-- Which array a word names.
use Rattle.std.specs.Prelude.{ℕ, Bool, List, ◌∷◌, find, Option, Some, None, option_map}
use Rattle.std.specs.Map.{lookup}
use Rattle.std.specs.Option.{option_and_then}
use Rattle.std.specs.Fmt.{decimal}
use Rattle.std.specs.List.{enumerate_from}
use Rattle.std.specs.Str.{bytes_eq}
use Rattle.ddf_config.specs.declared.array.Array.{Array}
use Rattle.ddf_config.specs.Members.{same_guid}
use Rattle.ddf_name.specs.Names.{name_text}

-- the GUID of the first array of the table whose name prints as this word
abbrev pub has_printed_name : (word : List ℕ) → (List ℕ × Array) → Bool
has_printed_name word entry = bytes_eq (name_text entry.1.name) word

abbrev pub printed_guid : List (List ℕ × Array) → (word : List ℕ) → Option (List ℕ)
printed_guid arrays word = option_map (λ entry. entry.0) (find (has_printed_name word) arrays)

-- the word of a place in the table: `#` and its number from 0 on, in decimal, without a leading zero
abbrev pub place_word : (place : ℕ) → List ℕ
place_word place = 0x23 ∷ decimal place

abbrev pub has_place : (word : List ℕ) → ℕ × (List ℕ × Array) → Bool
has_place word pair = bytes_eq (place_word pair.0) word

-- the GUID of the array at the place of this word
unfoldable pub placed_guid : List (List ℕ × Array) → (word : List ℕ) → Option (List ℕ)
placed_guid arrays word = option_map (λ pair. pair.1.0) (find (has_place word) (enumerate_from 0 arrays))

-- A name that prints as the word comes first, wherever it stands; a place counts where there is none.
abbrev pub printed_or_placed : List (List ℕ × Array) → (word : List ℕ) → Option (List ℕ) → Option (List ℕ)
printed_or_placed arrays word (Some guid) = Some guid
printed_or_placed arrays word None = placed_guid arrays word

abbrev pub named_guid : List (List ℕ × Array) → (word : List ℕ) → Option (List ℕ)
named_guid arrays word = printed_or_placed arrays word (printed_guid arrays word)

-- the array with its GUID
abbrev pub with_array : List (List ℕ × Array) → (guid : List ℕ) → Option (List ℕ × Array)
with_array arrays guid = option_map (λ array. (guid, array)) (lookup (same_guid guid) arrays)

abbrev pub named_array : List (List ℕ × Array) → (word : List ℕ) → Option (List ℕ × Array)
named_array arrays word = option_and_then (with_array arrays) (named_guid arrays word)
