-- Lower-case digits are read and written back.
use Rattle.std.proofs.Common.{◌≡◌, ℕ, zero, suc, ◌+◌, ◌*◌, ◌/◌, ◌%◌, ◌<◌, ◌==◌, Bool, true, ◌&&◌, ◌||◌, inl, inr, List, [], ◌∷◌, length, slice_index, Some, unwrap_or, Option, None, Result, Ok, Err, refl, ap, ◌∙◌, arith}
use Rattle.std.specs.Prelude.{nat_lt, not, MatchResult}
use Rattle.std.specs.List.{AllPass}
use Rattle.std.proofs.lemmas.Bool.{and_parts, cases_lt}
use Rattle.std.proofs.lemmas.Grind.{common_steps}
use Rattle.std.proofs.lemmas.List.Elements.{All-head, All-tail, All-nil, All-cons}
use Rattle.std.specs.Str.{IsAscii}
use Rattle.hex.specs.Hex.{IsBytes, decode_sized, decode_pairs, encode_with, encode_lower, lower_digits, hex_digit_value, pair_value}
use Rattle.hex.specs.declared.error.FromHexError.{FromHexError}
use Rattle.hex.proofs.HexLemmas.{decode_of-even, decode_sized-encode_lower, decode_sized-ok, decode_sized-twice}
use Rattle.hex.proofs.Pairs.{cons_byte, decode_pairs-ok_pair}
use Rattle.ddf_bytes.specs.Guids.{is_lower_digit}

abbrev all_ascii : List ℕ → Bool
all_ascii [] = true
all_ascii (c ∷ cs) = nat_lt c 128 && all_ascii cs

ascii_from_test : (cs : List ℕ) → all_ascii cs ≡ true → IsAscii cs
ascii_from_test [] h i = omega arith
ascii_from_test (c ∷ cs) h zero = grind (arith, common_steps)
ascii_from_test (c ∷ cs) h (suc i) = ascii_from_test cs (and_parts (nat_lt c 128) (all_ascii cs) h).1 i

-- a digit has a value below 16, and stands at that place of the table
abbrev reads_back : ℕ → Bool
reads_back c = not (is_lower_digit c)
    || (nat_lt (unwrap_or (hex_digit_value c) 99) 16 && (slice_index lower_digits (unwrap_or (hex_digit_value c) 99) == c))

abbrev all_below : ℕ → Bool
all_below zero = true
all_below (suc n) = reads_back n && all_below n

one_below : (n c : ℕ) → all_below n ≡ true → c < n → reads_back c ≡ true
one_below zero c h lt = absurd (omega arith)
one_below (suc n) c h lt =
    let parts = and_parts (reads_back n) (all_below n) h in
    elim (cases_lt c n) [
      | inl below ↦ one_below n c parts.1 below
      | inr top ↦
          let e : c ≡ n = omega arith in
          rw e parts.0
    ]

record IsDigit (c v : ℕ) : Type 0 where
  small : v < 16
  value : hex_digit_value c ≡ Some v
  glyph : slice_index lower_digits v ≡ c

digit_of : (c : ℕ) (o : Option ℕ) → hex_digit_value c ≡ o → unwrap_or o 99 < 16 → slice_index lower_digits (unwrap_or o 99) ≡ c → IsDigit c (unwrap_or o 99)
digit_of c (Some v) e small glyph = record { small = small; value = e; glyph = glyph }
digit_of c None e small glyph = absurd (omega arith)

lower_digit : (c : ℕ) → is_lower_digit c ≡ true → IsDigit c (unwrap_or (hex_digit_value c) 99)
lower_digit c lower =
    let under : c < 103 = grind (arith, common_steps) in
    let read = one_below 103 c refl under in
    digit_of c (hex_digit_value c) refl (grind (arith, common_steps)) (grind (arith, common_steps))

-- a text of pairs of lower-case digits is that of the bytes that it decodes to
pub record IsReadBack (i : ℕ) (s bytes : List ℕ) : Type 0 where
  pub decodes : decode_pairs i s ≡ Ok bytes
  pub encodes : encode_lower bytes ≡ s

read_back_more : (i a b va vb : ℕ) (rest bytes : List ℕ) → IsDigit a va → IsDigit b vb → IsReadBack (i + 2) rest bytes
    → IsReadBack i (a ∷ b ∷ rest) ((va * 16 + vb) ∷ bytes)
unfolding encode_with
read_back_more i a b va vb rest bytes high low more =
    let pair : pair_value a b i ≡ Ok (va * 16 + vb) = rw (high.value, low.value) refl in
    let first : (va * 16 + vb) / 16 ≡ va = omega (arith, high.small, low.small) in
    let second : (va * 16 + vb) % 16 ≡ vb = omega (arith, high.small, low.small) in
    record {
      decodes = decode_pairs-ok_pair i a b _ rest pair ∙ ap (cons_byte (va * 16 + vb)) more.decodes;
      encodes = rw (first, second, high.glyph, low.glyph) (ap (λ (ds : List ℕ). a ∷ b ∷ ds) more.encodes);
    }

abbrev is_lower : ℕ → Type 0
is_lower c = is_lower_digit c ≡ true

pub read_back : (i : ℕ) (s : List ℕ) → length s % 2 ≡ 0 → AllPass is_lower_digit s → (bytes : List ℕ) × IsReadBack i s bytes
unfolding decode_pairs encode_with
read_back i [] even all = ([], record { decodes = refl; encodes = refl })
read_back i (a ∷ []) even all = absurd (omega arith)
read_back i (a ∷ b ∷ rest) even all =
    let tail : AllPass is_lower_digit (b ∷ rest) = All-tail is_lower a (b ∷ rest) all in
    let more = read_back (i + 2) rest (omega arith) (All-tail is_lower b rest tail) in
    (_, read_back_more i a b _ _ rest more.0 (lower_digit a (All-head is_lower a (b ∷ rest) all)) (lower_digit b (All-head is_lower b rest tail)) more.1)

-- what is written is in lower case
abbrev glyphs_below : ℕ → Bool
glyphs_below zero = true
glyphs_below (suc n) = is_lower_digit (slice_index lower_digits n) && glyphs_below n

glyph_below : (n d : ℕ) → glyphs_below n ≡ true → d < n → is_lower_digit (slice_index lower_digits d) ≡ true
glyph_below zero d h lt = absurd (omega arith)
glyph_below (suc n) d h lt =
    let parts = and_parts (is_lower_digit (slice_index lower_digits n)) (glyphs_below n) h in
    elim (cases_lt d n) [
      | inl below ↦ glyph_below n d parts.1 below
      | inr top ↦
          let e : d ≡ n = omega arith in
          rw e parts.0
    ]

pub written_lower : (bytes : List ℕ) → IsBytes bytes → AllPass is_lower_digit (encode_lower bytes)
unfolding encode_with
written_lower [] each = All-nil is_lower
written_lower (b ∷ rest) each =
    let b_small : b < 256 = each 0 in
    let later : AllPass is_lower_digit (encode_lower rest) = written_lower rest (λ i. each (suc i)) in
    All-cons is_lower (slice_index lower_digits (b / 16)) (slice_index lower_digits (b % 16) ∷ encode_lower rest) (glyph_below 16 (b / 16) refl (omega arith))
    (All-cons is_lower (slice_index lower_digits (b % 16)) (encode_lower rest) (glyph_below 16 (b % 16) refl (omega arith)) later)

-- what decoding into 24 bytes answered, and what it left there
abbrev Answered : List ℕ → List ℕ → Result Unit FromHexError → Type 0
Answered text out r = MatchResult (decode_sized text 24) (λ bytes. (r ≡ Ok tt) × (out ≡ bytes)) (λ e. r ≡ Err e)

-- a text of 48 lower-case digits is read, and is that of the bytes
pub read_24 : (text : List ℕ) → length text ≡ 48 → AllPass is_lower_digit text → (bytes : List ℕ) × (decode_sized text 24 ≡ Ok bytes) × (encode_lower bytes ≡ text)
read_24 text long all =
    let even : length text % 2 ≡ 0 = rw long refl in
    let back = read_back 0 text even all in
    (back.0, decode_sized-twice text 24 long ∙ decode_of-even text even ∙ back.1.decodes, back.1.encodes)

long_at : (text out : List ℕ) (r : Result Unit FromHexError) (d : Result (List ℕ) FromHexError) → decode_sized text 24 ≡ d → MatchResult d (λ bytes. (r ≡ Ok tt) × (out ≡ bytes)) (λ e. r ≡ Err e) → r ≡ Ok tt → length text ≡ 48
long_at text out r (Ok bytes) e m ok = decode_sized-ok text 24 bytes e
long_at text out r (Err fault) e m ok = cc

pub long_text : (text out : List ℕ) (r : Result Unit FromHexError) → Answered text out r → r ≡ Ok tt → length text ≡ 48
long_text text out r answered ok = long_at text out r (decode_sized text 24) refl answered ok

pub text_back : (text out : List ℕ) (r : Result Unit FromHexError) → AllPass is_lower_digit text → Answered text out r → r ≡ Ok tt → encode_lower out ≡ text
text_back text out r all answered ok =
    let read = read_24 text (long_text text out r answered ok) all in
    let there = rw read.1 at answered in
    rw there.1 read.2

pub refused_text : (text out : List ℕ) (r : Result Unit FromHexError) (e : FromHexError) → AllPass is_lower_digit text → Answered text out r → r ≡ Err e → length text ≡ 48 → ⊥
refused_text text out r e all answered err long =
    let read = read_24 text long all in
    let there = rw read.1 at answered in
    let both = there.0 in
    cc

-- what was written is read
pub same_bytes : (text out bytes : List ℕ) (r : Result Unit FromHexError) → length bytes ≡ 24 → IsBytes bytes → text ≡ encode_lower bytes → Answered text out r → out ≡ bytes
same_bytes text out bytes r count each e answered =
    let read : decode_sized text 24 ≡ Ok bytes = rw e (decode_sized-encode_lower bytes 24 count each) in
    (rw read at answered).1

pub lower_digits_ascii : IsAscii lower_digits
lower_digits_ascii = ascii_from_test lower_digits refl
