use Rattle.std.proofs.Common.{◌≡◌, ◌++◌, ◌∙◌, Some, sym, codes, string_bytes}
use Rattle.std.proofs.lemmas.Bool.Decides.{Decides-eqb}
use Rattle.std.proofs.lemmas.Slice.Eq.{bytes_eq-Decides, strip_prefix_is}
use Rattle.hex.specs.Hex.{encode_lower}
use Rattle.ddf_words.proofs.Names.{name_of_digits, digits_of_name}
use Rattle.ddf_words.proofs.name_words.is_hex_name.Goals as goal

pub returns-in_default-decode_to_slice : goal.returns-in_default-decode_to_slice
returns-in_default-decode_to_slice c =
    let parts : string_bytes c.args.word.now ≡ codes "hex:" ++ c.in-Some.digits.now = rw c.as_bytes.ensures.value at (strip_prefix_is Decides-eqb c.as_bytes.result.now (codes "hex:") (Some c.in-Some.digits) c.in-Some.ensures.cases) in (
      λ no. cc,
      λ hex.
          let read = digits_of_name (string_bytes c.args.word.now) c.in-Some.digits.now c.decode_to_slice.new.out c.decode_to_slice.result parts c.decode_to_slice.ensures.value hex in
          let ok = read.0 in
          cc,
    )

pub returns : goal.returns
returns c =
    let parts : string_bytes c.args.word.now ≡ codes "hex:" ++ c.in-Some.digits.now = rw c.as_bytes.ensures.value at (strip_prefix_is Decides-eqb c.as_bytes.result.now (codes "hex:") (Some c.in-Some.digits) c.in-Some.ensures.cases) in
    let written : c.as_slice.result.now ≡ encode_lower c.decode_to_slice.new.out = c.as_slice.ensures ∙ c.put_digits.ensures.digits in
    let test = bytes_eq-Decides c.in-Some.digits.now c.as_slice.result.now in (
      λ yes. name_of_digits (string_bytes c.args.word.now) c.in-Some.digits.now c.decode_to_slice.new.out c.decode_to_slice.result parts c.decode_to_slice.ensures.value c.in-Ok.is
          (test.0 (sym c.eq.ensures ∙ yes) ∙ written),
      λ hex.
          let read = digits_of_name (string_bytes c.args.word.now) c.in-Some.digits.now c.decode_to_slice.new.out c.decode_to_slice.result parts c.decode_to_slice.ensures.value hex in
          c.eq.ensures ∙ test.1 (read.1 ∙ sym written),
    )
