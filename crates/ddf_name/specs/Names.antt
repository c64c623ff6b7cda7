-- The word that the name of an array prints as.
use Rattle.std.specs.Prelude.{ℕ, Bool, false, ◌&&◌, ◌||◌, not, ◌==◌, nat_le, List, [], ◌∷◌, ◌++◌, length, drop, take, codes, if◌then◌else◌}
use Rattle.std.specs.List.{list_all, prefix_len}
use Rattle.std.specs.Str.{bytes_eq}
use Rattle.hex.specs.Hex.{encode_lower}

-- a character that isn't a space and prints
abbrev pub is_plain : ℕ → Bool
is_plain byte = nat_le 0x21 byte && nat_le byte 0x7E

-- how many of these stand in front of the padding
abbrev pub plain_len : List ℕ → ℕ
plain_len name = prefix_len is_plain name

abbrev pub are_all : ℕ → List ℕ → Bool
are_all value bytes = list_all (λ byte. byte == value) bytes

-- one such character or more, and behind them spaces alone or zeros alone
abbrev pub is_plain_name : List ℕ → Bool
is_plain_name name =
    let padding = drop (plain_len name) name in
    not (plain_len name == 0) && (are_all 0x20 padding || are_all 0 padding)

-- a name as it prints
abbrev pub name_text : List ℕ → List ℕ
name_text name = if is_plain_name name then take (plain_len name) name else codes "hex:" ++ encode_lower name

-- Two names print as one word. So do equal names, and names that differ in their padding alone.
abbrev pub print_alike : (one other : List ℕ) → Bool
print_alike one other = bytes_eq (name_text one) (name_text other)

abbrev pub is_digit : ℕ → Bool
is_digit byte = nat_le 0x30 byte && nat_le byte 0x39

-- `#` and digits: so a word names an array by its place, where no name prints so
abbrev pub is_place_text : List ℕ → Bool
is_place_text [] = false
is_place_text (byte ∷ digits) = byte == 0x23 && not (length digits == 0) && list_all is_digit digits

-- a name prints as that
abbrev pub is_place_name : List ℕ → Bool
is_place_name name = is_place_text (name_text name)
