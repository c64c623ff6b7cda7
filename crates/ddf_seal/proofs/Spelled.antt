-- A value that stands in bytes, against the bytes that it is written as.
use Rattle.std.proofs.Common.{◌≡◌, ℕ, zero, suc, ◌+◌, ◌<◌, ◌≤◌, ◌*◌, ◌^◌, ◌++◌, List, [], ◌∷◌, length, get_or, take, drop, refl, sym, ◌∙◌, ap, subst, arith, inl, inr}
use Rattle.std.specs.List.{AllByRecursion, flat_map}
use Rattle.std.specs.Int.{w16, w32, w64, to_be_bytes, from_be_bytes}
use Rattle.std.proofs.lemmas.Bool.{cases_lt}
use Rattle.std.proofs.lemmas.List.{drop_more, get_or_past, drop-drop, length-append}
use Rattle.std.proofs.Math.Seq.{take-add}
use Rattle.std.proofs.lemmas.Nat.{be_bytes_2, be_bytes_4, be_bytes_8, from_be_bytes-to_be_bytes_2, from_be_bytes-to_be_bytes_4, from_be_bytes-to_be_bytes_8}
use Rattle.ddf_lemmas.proofs.Lists.{append_parts}
use Rattle.ddf_bytes.specs.Bytes.{bytes_at, number_at}
use Rattle.ddf_seal.specs.Unread.{Field, u8_at, u16_at, u32_at, u64_at, u32s_at, u64s_at, plain_at, numbers32_at, numbers64_at, place_of, places, bytes_of, Stands, Fits, AreBytes}
use Rattle.ddf_seal.proofs.Placing.{length-bytes_at, get_or-bytes_at}
use Rattle.ddf_seal.proofs.Same.{AreWithin}

-- a field's bytes stand in its place
abbrev pub IsSpelled : List ℕ → Field → Type 0
IsSpelled bytes field = bytes_at bytes (place_of field).at (place_of field).length ≡ bytes_of field

pub AreBytes-bytes_at : (bytes : List ℕ) (at size : ℕ) → at + size ≤ length bytes → AreBytes bytes → AreBytes (bytes_at bytes at size)
AreBytes-bytes_at bytes at size within fits i =
    elim (cases_lt i size) [
      | inl lt ↦ rw (get_or-bytes_at bytes at size i 0 lt) (fits (at + i))
      | inr le ↦ rw (get_or_past (bytes_at bytes at size) i 0 (omega (arith, length-bytes_at bytes at size within))) (omega arith)
    ]

pub bytes_at-append : (bytes : List ℕ) (at m n : ℕ) → bytes_at bytes at (m + n) ≡ bytes_at bytes at m ++ bytes_at bytes (at + m) n
bytes_at-append bytes at m n = take-add m n (drop at bytes) ∙ ap (λ l. take m (drop at bytes) ++ take n l) (drop-drop m at bytes)

numbers_spelled : (bytes : List ℕ) (at count : ℕ) → AreBytes bytes → at + 4 * count ≤ length bytes → bytes_at bytes at (4 * count) ≡ flat_map (to_be_bytes w32) (numbers32_at bytes at count)
unfolding numbers32_at
numbers_spelled bytes at zero fits within = refl
numbers_spelled bytes at (suc count) fits within =
    let four : 4 * suc count ≡ 4 + 4 * count = omega arith in
    let first : to_be_bytes w32 (number_at w32 bytes at) ≡ bytes_at bytes at 4 = be_bytes_4 (bytes_at bytes at 4) (number_at w32 bytes at) (length-bytes_at bytes at 4 (omega arith)) (AreBytes-bytes_at bytes at 4 (omega arith) fits) refl in
    let rest = numbers_spelled bytes (at + 4) count fits (omega arith) in
    ap (bytes_at bytes at) four ∙ bytes_at-append bytes at 4 (4 * count) ∙ ap (λ l. bytes_at bytes at 4 ++ l) rest
    ∙ ap (λ l. l ++ flat_map (to_be_bytes w32) (numbers32_at bytes (at + 4) count)) (sym first)

numbers64_spelled : (bytes : List ℕ) (at count : ℕ) → AreBytes bytes → at + 8 * count ≤ length bytes → bytes_at bytes at (8 * count) ≡ flat_map (to_be_bytes w64) (numbers64_at bytes at count)
unfolding numbers64_at
numbers64_spelled bytes at zero fits within = refl
numbers64_spelled bytes at (suc count) fits within =
    let eight : 8 * suc count ≡ 8 + 8 * count = omega arith in
    let first : to_be_bytes w64 (number_at w64 bytes at) ≡ bytes_at bytes at 8 = be_bytes_8 (bytes_at bytes at 8) (number_at w64 bytes at) (length-bytes_at bytes at 8 (omega arith)) (AreBytes-bytes_at bytes at 8 (omega arith) fits) refl in
    let rest = numbers64_spelled bytes (at + 8) count fits (omega arith) in
    ap (bytes_at bytes at) eight ∙ bytes_at-append bytes at 8 (8 * count) ∙ ap (λ l. bytes_at bytes at 8 ++ l) rest
    ∙ ap (λ l. l ++ flat_map (to_be_bytes w64) (numbers64_at bytes (at + 8) count)) (sym first)

length-numbers : (values : List ℕ) → length (flat_map (to_be_bytes w32) values) ≡ 4 * length values
length-numbers [] = refl
length-numbers (value ∷ values) =
    let rest = length-numbers values in
    omega (arith, length-append (to_be_bytes w32 value) (flat_map (to_be_bytes w32) values), rest)

length-numbers64 : (values : List ℕ) → length (flat_map (to_be_bytes w64) values) ≡ 8 * length values
length-numbers64 [] = refl
length-numbers64 (value ∷ values) =
    let rest = length-numbers64 values in
    omega (arith, length-append (to_be_bytes w64 value) (flat_map (to_be_bytes w64) values), rest)

numbers_stand : (bytes : List ℕ) (at : ℕ) (values : List ℕ) → at + 4 * length values ≤ length bytes → AllByRecursion (λ value. value < 2 ^ 32) values
    → bytes_at bytes at (4 * length values) ≡ flat_map (to_be_bytes w32) values → numbers32_at bytes at (length values) ≡ values
unfolding numbers32_at
numbers_stand bytes at [] within fit spelled = refl
numbers_stand bytes at (value ∷ values) within fit spelled =
    let four : 4 * suc (length values) ≡ 4 + 4 * length values = omega arith in
    let whole : bytes_at bytes at 4 ++ bytes_at bytes (at + 4) (4 * length values) ≡ to_be_bytes w32 value ++ flat_map (to_be_bytes w32) values =
    sym (bytes_at-append bytes at 4 (4 * length values)) ∙ ap (bytes_at bytes at) (sym four) ∙ spelled in
    let parts = append_parts (bytes_at bytes at 4) (bytes_at bytes (at + 4) (4 * length values)) (to_be_bytes w32 value) (flat_map (to_be_bytes w32) values) (length-bytes_at bytes at 4 (omega arith)) whole in
    let first : number_at w32 bytes at ≡ value = ap (from_be_bytes w32) parts.0 ∙ from_be_bytes-to_be_bytes_4 value fit.0 in
    let rest = numbers_stand bytes (at + 4) values (omega arith) fit.1 parts.1 in
    ap (λ n. n ∷ numbers32_at bytes (at + 4) (length values)) first ∙ ap (λ l. value ∷ l) rest

numbers64_stand : (bytes : List ℕ) (at : ℕ) (values : List ℕ) → at + 8 * length values ≤ length bytes → AllByRecursion (λ value. value < 2 ^ 64) values
    → bytes_at bytes at (8 * length values) ≡ flat_map (to_be_bytes w64) values → numbers64_at bytes at (length values) ≡ values
unfolding numbers64_at
numbers64_stand bytes at [] within fit spelled = refl
numbers64_stand bytes at (value ∷ values) within fit spelled =
    let eight : 8 * suc (length values) ≡ 8 + 8 * length values = omega arith in
    let whole : bytes_at bytes at 8 ++ bytes_at bytes (at + 8) (8 * length values) ≡ to_be_bytes w64 value ++ flat_map (to_be_bytes w64) values =
    sym (bytes_at-append bytes at 8 (8 * length values)) ∙ ap (bytes_at bytes at) (sym eight) ∙ spelled in
    let parts = append_parts (bytes_at bytes at 8) (bytes_at bytes (at + 8) (8 * length values)) (to_be_bytes w64 value) (flat_map (to_be_bytes w64) values) (length-bytes_at bytes at 8 (omega arith)) whole in
    let first : number_at w64 bytes at ≡ value = ap (from_be_bytes w64) parts.0 ∙ from_be_bytes-to_be_bytes_8 value fit.0 in
    let rest = numbers64_stand bytes (at + 8) values (omega arith) fit.1 parts.1 in
    ap (λ n. n ∷ numbers64_at bytes (at + 8) (length values)) first ∙ ap (λ l. value ∷ l) rest

pub spelled_from_stands : (bytes : List ℕ) (field : Field) → AreBytes bytes → (place_of field).at + (place_of field).length ≤ length bytes → Stands bytes field → IsSpelled bytes field
spelled_from_stands bytes (u8_at at value) fits within stands =
    ap (take 1) (drop_more bytes at 0 (omega arith)) ∙ ap (λ n. n ∷ []) stands
spelled_from_stands bytes (u16_at at value) fits within stands =
    sym (be_bytes_2 (bytes_at bytes at 2) value (length-bytes_at bytes at 2 within) (AreBytes-bytes_at bytes at 2 within fits) (sym stands))
spelled_from_stands bytes (u32_at at value) fits within stands =
    sym (be_bytes_4 (bytes_at bytes at 4) value (length-bytes_at bytes at 4 within) (AreBytes-bytes_at bytes at 4 within fits) (sym stands))
spelled_from_stands bytes (u64_at at value) fits within stands =
    sym (be_bytes_8 (bytes_at bytes at 8) value (length-bytes_at bytes at 8 within) (AreBytes-bytes_at bytes at 8 within fits) (sym stands))
spelled_from_stands bytes (u32s_at at count values) fits within stands =
    numbers_spelled bytes at count fits within ∙ ap (flat_map (to_be_bytes w32)) stands
spelled_from_stands bytes (u64s_at at count values) fits within stands =
    numbers64_spelled bytes at count fits within ∙ ap (flat_map (to_be_bytes w64)) stands
spelled_from_stands bytes (plain_at at size plain) fits within stands = stands

pub stands_from_spelled : (bytes : List ℕ) (field : Field) → (place_of field).at + (place_of field).length ≤ length bytes → Fits field → IsSpelled bytes field → Stands bytes field
stands_from_spelled bytes (u8_at at value) within fits spelled =
    let first : at ≡ at + 0 = omega arith in
    ap (λ k. get_or bytes k 0) first ∙ sym (get_or-bytes_at bytes at 1 0 0 (omega arith)) ∙ ap (λ l. get_or l 0 0) spelled
stands_from_spelled bytes (u16_at at value) within fits spelled = ap (from_be_bytes w16) spelled ∙ from_be_bytes-to_be_bytes_2 value fits
stands_from_spelled bytes (u32_at at value) within fits spelled = ap (from_be_bytes w32) spelled ∙ from_be_bytes-to_be_bytes_4 value fits
stands_from_spelled bytes (u64_at at value) within fits spelled = ap (from_be_bytes w64) spelled ∙ from_be_bytes-to_be_bytes_8 value fits
stands_from_spelled bytes (u32s_at at count values) within fits spelled =
    let four : 4 * count ≡ 4 * length values = ap (λ n. 4 * n) (sym fits.0) in
    ap (numbers32_at bytes at) (sym fits.0) ∙ numbers_stand bytes at values (omega (arith, four, within)) fits.1 (ap (bytes_at bytes at) (sym four) ∙ spelled)
stands_from_spelled bytes (u64s_at at count values) within fits spelled =
    let eight : 8 * count ≡ 8 * length values = ap (λ n. 8 * n) (sym fits.0) in
    ap (numbers64_at bytes at) (sym fits.0) ∙ numbers64_stand bytes at values (omega (arith, eight, within)) fits.1 (ap (bytes_at bytes at) (sym eight) ∙ spelled)
stands_from_spelled bytes (plain_at at size plain) within fits spelled = spelled

pub length-bytes_of : (field : Field) → Fits field → length (bytes_of field) ≡ (place_of field).length
length-bytes_of (u8_at at value) fits = refl
length-bytes_of (u16_at at value) fits = refl
length-bytes_of (u32_at at value) fits = refl
length-bytes_of (u64_at at value) fits = refl
length-bytes_of (u32s_at at count values) fits = length-numbers values ∙ ap (λ n. 4 * n) fits.0
length-bytes_of (u64s_at at count values) fits = length-numbers64 values ∙ ap (λ n. 8 * n) fits.0
length-bytes_of (plain_at at size plain) fits = fits

-- the same of each field
pub all_spelled_from_stands : (bytes : List ℕ) (fields : List Field) → AreBytes bytes → AreWithin (length bytes) (places fields) → AllByRecursion (Stands bytes) fields → AllByRecursion (IsSpelled bytes) fields
all_spelled_from_stands bytes [] fits within stand = tt
all_spelled_from_stands bytes (field ∷ fields) fits within stand =
    (spelled_from_stands bytes field fits within.0 stand.0, all_spelled_from_stands bytes fields fits within.1 stand.1)

pub all_stand_from_spelled : (bytes : List ℕ) (fields : List Field) → AreWithin (length bytes) (places fields) → AllByRecursion Fits fields → AllByRecursion (IsSpelled bytes) fields → AllByRecursion (Stands bytes) fields
all_stand_from_spelled bytes [] within fit spelled = tt
all_stand_from_spelled bytes (field ∷ fields) within fit spelled =
    (stands_from_spelled bytes field within.0 fit.0 spelled.0, all_stand_from_spelled bytes fields within.1 fit.1 spelled.1)

below16 : (bytes : List ℕ) (at : ℕ) → at + 2 ≤ length bytes → AreBytes bytes → number_at w16 bytes at < 2 ^ 16
below16 bytes at within fits = let f = AreBytes-bytes_at bytes at 2 within fits in omega (arith, f 0, f 1)

below32 : (bytes : List ℕ) (at : ℕ) → at + 4 ≤ length bytes → AreBytes bytes → number_at w32 bytes at < 2 ^ 32
below32 bytes at within fits = let f = AreBytes-bytes_at bytes at 4 within fits in omega (arith, f 0, f 1, f 2, f 3)

below64 : (bytes : List ℕ) (at : ℕ) → at + 8 ≤ length bytes → AreBytes bytes → number_at w64 bytes at < 2 ^ 64
below64 bytes at within fits = let f = AreBytes-bytes_at bytes at 8 within fits in omega (arith, f 0, f 1, f 2, f 3, f 4, f 5, f 6, f 7)

numbers_fit : (bytes : List ℕ) (at count : ℕ) → at + 4 * count ≤ length bytes → AreBytes bytes → (length (numbers32_at bytes at count) ≡ count) × AllByRecursion (λ value. value < 2 ^ 32) (numbers32_at bytes at count)
unfolding numbers32_at
numbers_fit bytes at zero within fits = (refl, tt)
numbers_fit bytes at (suc count) within fits =
    let rest = numbers_fit bytes (at + 4) count (omega arith) fits in
    (ap suc rest.0, (below32 bytes at (omega arith) fits, rest.1))

numbers64_fit : (bytes : List ℕ) (at count : ℕ) → at + 8 * count ≤ length bytes → AreBytes bytes → (length (numbers64_at bytes at count) ≡ count) × AllByRecursion (λ value. value < 2 ^ 64) (numbers64_at bytes at count)
unfolding numbers64_at
numbers64_fit bytes at zero within fits = (refl, tt)
numbers64_fit bytes at (suc count) within fits =
    let rest = numbers64_fit bytes (at + 8) count (omega arith) fits in
    (ap suc rest.0, (below64 bytes at (omega arith) fits, rest.1))

-- what stands in bytes can be written
pub fits_from_stands : (bytes : List ℕ) (field : Field) → AreBytes bytes → (place_of field).at + (place_of field).length ≤ length bytes → Stands bytes field → Fits field
fits_from_stands bytes (u8_at at value) fits within stands = rw (← stands) (fits at)
fits_from_stands bytes (u16_at at value) fits within stands = rw (← stands) (below16 bytes at within fits)
fits_from_stands bytes (u32_at at value) fits within stands = rw (← stands) (below32 bytes at within fits)
fits_from_stands bytes (u64_at at value) fits within stands = rw (← stands) (below64 bytes at within fits)
fits_from_stands bytes (u32s_at at count values) fits within stands =
    subst (λ (numbers : List ℕ). (length numbers ≡ count) × AllByRecursion (λ value. value < 2 ^ 32) numbers) stands (numbers_fit bytes at count within fits)
fits_from_stands bytes (u64s_at at count values) fits within stands =
    subst (λ (numbers : List ℕ). (length numbers ≡ count) × AllByRecursion (λ value. value < 2 ^ 64) numbers) stands (numbers64_fit bytes at count within fits)
fits_from_stands bytes (plain_at at size plain) fits within stands = ap length (sym stands) ∙ length-bytes_at bytes at size within

pub all_fit_from_stand : (bytes : List ℕ) (fields : List Field) → AreBytes bytes → AreWithin (length bytes) (places fields) → AllByRecursion (Stands bytes) fields → AllByRecursion Fits fields
all_fit_from_stand bytes [] fits within stand = tt
all_fit_from_stand bytes (field ∷ fields) fits within stand =
    (fits_from_stands bytes field fits within.0 stand.0, all_fit_from_stand bytes fields fits within.1 stand.1)
