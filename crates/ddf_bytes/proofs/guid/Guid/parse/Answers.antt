use Rattle.std.proofs.Common.{◌≡◌, ◌∙◌, length, refl, ap, Some}
use Rattle.std.specs.List.{AllPass}
use Rattle.hex.specs.Hex.{lower_digits}
use Rattle.hex.proofs.HexLemmas.{length-encode_with}
use Rattle.ddf_bytes.specs.Guids.{is_lower_digit}
use Rattle.ddf_bytes.proofs.HexDigits.{long_text, text_back, refused_text, same_bytes, written_lower}
use Rattle.ddf_bytes.proofs.guid.Guid.parse.Goals as goal

pub returns-then-not-are_digits-clause-printed : goal.returns-then-not-are_digits-clause-printed
returns-then-not-are_digits-clause-printed c = λ bytes guid e.
    let lower : AllPass is_lower_digit c.args.text.now = rw e (written_lower bytes guid.each) in
    let passes = c.are_digits.ensures.1 lower in
    cc

pub returns-in-Ok-clause-digits : goal.returns-in-Ok-clause-digits
returns-in-Ok-clause-digits c =
    let lower = c.are_digits.ensures.0 c.if-not-are_digits.false in
    (λ some. (long_text c.args.text.now c.decode_to_slice.new.out c.decode_to_slice.result c.decode_to_slice.ensures.value c.in-Ok.is, lower), λ digits. refl)

pub returns-in-Ok-clause-value : goal.returns-in-Ok-clause-value
returns-in-Ok-clause-value c =
    let lower = c.are_digits.ensures.0 c.if-not-are_digits.false in
    text_back c.args.text.now c.decode_to_slice.new.out c.decode_to_slice.result lower c.decode_to_slice.ensures.value c.in-Ok.is

pub returns-in-Ok-clause-printed : goal.returns-in-Ok-clause-printed
returns-in-Ok-clause-printed c = λ bytes guid e.
    ap Some (same_bytes c.args.text.now c.decode_to_slice.new.out bytes c.decode_to_slice.result guid.count guid.each e c.decode_to_slice.ensures.value)

pub returns-in-Err-clause-digits : goal.returns-in-Err-clause-digits
returns-in-Err-clause-digits c =
    (λ some. cc, λ digits. absurd (refused_text c.args.text.now c.decode_to_slice.new.out c.decode_to_slice.result c.in-Err.field-0 digits.1 c.decode_to_slice.ensures.value c.in-Err.is digits.0))

pub returns-in-Err-clause-printed : goal.returns-in-Err-clause-printed
returns-in-Err-clause-printed c = λ bytes guid e.
    let lower = c.are_digits.ensures.0 c.if-not-are_digits.false in
    let long : length c.args.text.now ≡ 48 = rw e (length-encode_with lower_digits bytes ∙ rw guid.count refl) in
    absurd (refused_text c.args.text.now c.decode_to_slice.new.out c.decode_to_slice.result c.in-Err.field-0 lower c.decode_to_slice.ensures.value c.in-Err.is long)
