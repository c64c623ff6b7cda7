-- Names in front of their padding.
use Rattle.std.proofs.Common.{◌≡◌, ℕ, zero, suc, ◌+◌, ◌<◌, ◌≤◌, List, [], ◌∷◌, length, take, drop, Bool, true, false, refl, arith, get_or}
use Rattle.std.proofs.lemmas.Str.Ascii.{IsAscii-nil, IsAscii-cons}
use Rattle.std.proofs.lemmas.Grind.{common_steps}
use Rattle.std.specs.Prelude.{if◌then◌else◌}
use Rattle.std.specs.Str.{IsAscii}
use Rattle.ddf_name.specs.Names.{is_plain, plain_len}

-- a character counts
step : (name : List ℕ) (count : ℕ) → count < length name → is_plain (get_or name count 0) ≡ true → plain_len (drop count name) ≡ 1 + plain_len (drop (suc count) name)
step [] count lt plain = absurd (omega (arith, lt))
step (byte ∷ name) zero lt plain = rw plain refl
step (byte ∷ name) (suc count) lt plain = step name count (omega (arith, lt)) plain

-- one more character
pub plain_more : (name : List ℕ) (count : ℕ) → count < length name → is_plain (get_or name count 0) ≡ true
    → plain_len name ≡ count + plain_len (drop count name) → plain_len name ≡ (count + 1) + plain_len (drop (count + 1) name)
plain_more name count lt plain so_far =
    let next : count + 1 ≡ suc count = omega arith in
    rw next (omega (arith, so_far, step name count lt plain))

-- no more
pub plain_none : (name : List ℕ) (count : ℕ) → count < length name → is_plain (get_or name count 0) ≡ false → plain_len (drop count name) ≡ 0
plain_none [] count lt other = absurd (omega (arith, lt))
plain_none (byte ∷ name) zero lt other = rw other refl
plain_none (byte ∷ name) (suc count) lt other = plain_none name count (omega (arith, lt)) other

pub plain_end : (name : List ℕ) (count : ℕ) → length name ≤ count → plain_len (drop count name) ≡ 0
plain_end [] zero le = refl
plain_end [] (suc count) le = refl
plain_end (byte ∷ name) zero le = absurd (omega (arith, le))
plain_end (byte ∷ name) (suc count) le = plain_end name count (omega (arith, le))

-- the characters are ASCII
front_ascii : (byte : ℕ) (name : List ℕ) (plain : Bool) → is_plain byte ≡ plain → IsAscii (take (plain_len name) name)
    → IsAscii (take (if plain then 1 + plain_len name else 0) (byte ∷ name))
front_ascii byte name false e rest = IsAscii-nil
front_ascii byte name true e rest =
    let below : byte < 128 = grind (arith, common_steps, e) in
    let next : 1 + plain_len name ≡ suc (plain_len name) = omega arith in
    rw next (IsAscii-cons byte (take (plain_len name) name) below rest)

pub plain_ascii : (name : List ℕ) → IsAscii (take (plain_len name) name)
plain_ascii [] = IsAscii-nil
plain_ascii (byte ∷ name) = front_ascii byte name (is_plain byte) refl (plain_ascii name)
