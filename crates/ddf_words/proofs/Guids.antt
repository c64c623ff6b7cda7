-- GUIDs that were read from digits.
use Rattle.std.proofs.Common.{◌≡◌, ℕ, zero, suc, ◌-◌, ◌/◌, ◌%◌, ◌<◌, ◌≤◌, List, [], ◌∷◌, length, length-drop, get_or, take, drop, true, slice_index, Option, Some, None, IsSome, IfSome, refl, ap, sym, ◌∙◌, ⊎_elim, arith}
use Rattle.std.specs.List.{AllPass}
use Rattle.std.proofs.lemmas.Bool.{cases_lt}
use Rattle.std.proofs.lemmas.List.{get_or_past, take_all, drop_more}
use Rattle.std.proofs.lemmas.List.Elements.{All-head, All-tail}
use Rattle.hex.specs.Hex.{decode_of, encode_with, encode_lower, lower_digits}
use Rattle.hex.proofs.HexLemmas.{decode_of-encode_lower, decode_of-same, length-encode_with}
use Rattle.ddf_bytes.specs.Guids.{IsGuid, is_lower_digit}
use Rattle.ddf_words.specs.Words.{Word, NamesGroup}

-- what has a digit for its high half is a byte
small_byte : (byte : ℕ) → is_lower_digit (slice_index lower_digits (byte / 16)) ≡ true → byte < 256
small_byte byte digit = ⊎_elim
    (λ (small : byte / 16 < 16). omega arith)
    (λ (past : 16 ≤ byte / 16).
    let none : slice_index lower_digits (byte / 16) ≡ 0 = get_or_past lower_digits (byte / 16) 0 past in
    let digit : is_lower_digit 0 ≡ true = rw none at digit in
    absurd (cc))
    (cases_lt (byte / 16) 16)

small_bytes : (bytes : List ℕ) → AllPass is_lower_digit (encode_lower bytes) → (i : ℕ) → slice_index bytes i < 256
unfolding encode_with
small_bytes [] digits i = omega arith
small_bytes (byte ∷ bytes) digits zero =
    let high : ℕ = slice_index lower_digits (byte / 16) in
    let low : ℕ = slice_index lower_digits (byte % 16) in
    small_byte byte (All-head (λ d. is_lower_digit d ≡ true) high (low ∷ encode_lower bytes) digits)
small_bytes (byte ∷ bytes) digits (suc i) =
    let high : ℕ = slice_index lower_digits (byte / 16) in
    let low : ℕ = slice_index lower_digits (byte % 16) in
    let P : ℕ → Type 0 = λ d. is_lower_digit d ≡ true in
    small_bytes bytes (All-tail P low (encode_lower bytes) (All-tail P high (low ∷ encode_lower bytes) digits)) i

pub guid_of_digits : (bytes digits : List ℕ) → encode_lower bytes ≡ digits → length digits ≡ 48 → AllPass is_lower_digit digits → IsGuid bytes
guid_of_digits bytes digits e long lower = record {
  count = omega (arith, length-encode_with lower_digits bytes, ap length e, long);
  each = small_bytes bytes (rw e lower);
}

-- digits are of one GUID
pub same_guid : (group group' : List ℕ) → IsGuid group → IsGuid group' → encode_lower group ≡ encode_lower group' → group ≡ group'
same_guid group group' is is' digits =
    decode_of-same (encode_lower group) group group' (decode_of-encode_lower group is.each) (ap decode_of digits ∙ decode_of-encode_lower group' is'.each)

-- what `@` and then digits name
pub reads_group : (word : Word) (found : Option (List ℕ)) → 1 ≤ length word → slice_index word 0 ≡ 64
    → (IsSome found → (length (take (length word - 1) (drop 1 word)) ≡ 48) × AllPass is_lower_digit (take (length word - 1) (drop 1 word)))
    → IfSome found (λ group. encode_lower group ≡ take (length word - 1) (drop 1 word)) → IfSome found (λ group. NamesGroup group word)
reads_group word None some sign digits value = tt
reads_group word (Some group) some sign digits value =
    let behind : take (length word - 1) (drop 1 word) ≡ drop 1 word = take_all (length word - 1) (drop 1 word) (omega (arith, length-drop 1 word)) in
    let parts : word ≡ get_or word 0 0 ∷ drop 1 word = drop_more word 0 0 (omega arith) in
    let long = digits refl in
    record {
      is_guid = guid_of_digits group (take (length word - 1) (drop 1 word)) value long.0 long.1;
      spelled = parts ∙ ap (λ (n : ℕ). n ∷ drop 1 word) sign ∙ ap (λ (ds : List ℕ). 64 ∷ ds) (sym behind ∙ sym value);
    }
