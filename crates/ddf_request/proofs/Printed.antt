-- A name of plain bytes, padded with spaces, prints as it is.
use Rattle.std.proofs.Common.{◌≡◌, ◌∙◌, ℕ, zero, suc, ◌-◌, ◌≤◌, Bool, true, false, not, ◌&&◌, ◌||◌, ◌==◌, List, [], ◌∷◌, ◌++◌, length, take, drop, replicate, refl, sym, ap, arith, if◌then◌else◌}
use Rattle.std.specs.List.{list_all}
use Rattle.std.proofs.lemmas.Bool.{and_parts}
use Rattle.std.proofs.lemmas.Grind.{common_steps}
use Rattle.std.proofs.lemmas.List.{drop-replicate}
use Rattle.std.proofs.lemmas.List.Sums.{list_all-from_AllPass}
use Rattle.std.proofs.Math.Seq.{drop-append_seam, take-append_seam}
use Rattle.ddf_name.specs.Names.{are_all, is_plain, is_plain_name, name_text, plain_len}
use Rattle.ddf_words.specs.Words.{IsPlainName}
use Rattle.ddf_request.specs.NewArray.{padded}
use Rattle.ddf_request.proofs.Names.{padded_is}

-- plain bytes count, up to what doesn't
counted : (name rest : List ℕ) → list_all is_plain name ≡ true → plain_len rest ≡ 0 → plain_len (name ++ rest) ≡ length name
counted [] rest plain none = none
counted (byte ∷ name) rest plain none =
    let parts = and_parts (is_plain byte) (list_all is_plain name) plain in
    let more = counted name rest parts.1 none in
    rw parts.0 (omega (arith, more))

-- spaces are none of them
are_blank : (count : ℕ) → are_all 0x20 (replicate count 0x20) ≡ true
are_blank zero = refl
are_blank (suc count) = are_blank count

none_plain : (count : ℕ) → plain_len (replicate count 0x20) ≡ 0
none_plain zero = refl
none_plain (suc count) = refl

-- its plain front, or another text
text_by : (count : ℕ) (padding plain other : List ℕ) → List ℕ
text_by count padding plain other = if not (count == 0) && (are_all 0x20 padding || are_all 0 padding) then plain else other

is_front : (empty blank zeros : Bool) (plain other : List ℕ) → empty ≡ false → blank ≡ true → (if not empty && (blank || zeros) then plain else other) ≡ plain
is_front true blank zeros plain other some all = absurd (cc)
is_front false true zeros plain other some all = refl
is_front false false zeros plain other some all = absurd (cc)

some_bytes : (count : ℕ) → 1 ≤ count → (count == 0) ≡ false
some_bytes count some = grind (arith, common_steps, some)

shows_front : (name spaces other : List ℕ) → 1 ≤ length name → list_all is_plain name ≡ true → are_all 0x20 spaces ≡ true → plain_len spaces ≡ 0
    → (if is_plain_name (name ++ spaces) then take (plain_len (name ++ spaces)) (name ++ spaces) else other) ≡ name
unfolding text_by
shows_front name spaces other some plain blank none =
    let whole = name ++ spaces in
    ap (λ (count : ℕ). text_by count (drop count whole) (take count whole) other) (counted name spaces plain none)
    ∙ ap (λ (padding : List ℕ). text_by (length name) padding (take (length name) whole) other) (drop-append_seam name spaces)
    ∙ ap (λ (text : List ℕ). text_by (length name) spaces text other) (take-append_seam name spaces)
    ∙ is_front (length name == 0) (are_all 0x20 spaces) (are_all 0 spaces) name other (some_bytes (length name) some) blank

pub padded_prints : (name : List ℕ) → IsPlainName name → name_text (padded name) ≡ name
padded_prints name is =
    let blanks = drop-replicate (length name) 16 0x20 in
    ap name_text (sym (padded_is name is.few))
    ∙ shows_front name (drop (length name) (replicate 16 0x20)) _ is.some (list_all-from_AllPass is_plain name is.plain)
    (ap (are_all 0x20) blanks ∙ are_blank (16 - length name)) (ap plain_len blanks ∙ none_plain (16 - length name))
