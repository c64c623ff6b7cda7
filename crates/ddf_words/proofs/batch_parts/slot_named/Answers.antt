use Rattle.std.proofs.Common.{◌≡◌, ◌∙◌, false, string_bytes, sym}
use Rattle.std.specs.List.{list_all}
use Rattle.std.specs.Str.{bytes_eq}
use Rattle.ddf_words.proofs.Lists.{position-map}
use Rattle.ddf_words.specs.Words.{Word}
use Rattle.ddf_words.specs.Lines.{is_digit}
use Rattle.ddf_words.proofs.batch_parts.slot_named.Goals as goal

pub returns : goal.returns
returns c =
    let other : list_all is_digit (string_bytes c.args.word.now) ≡ false = sym c.is_number.ensures ∙ c.if-is_number.false in
    rw other (c.image_at.ensures ∙ sym (position-map (λ (path : Word). bytes_eq path (string_bytes c.args.word.now)) string_bytes c.args.images.now))
