use Rattle.std.proofs.Common.{◌≡◌, ◌∙◌, sym, ap, Some, None, string_bytes}
use Rattle.std.specs.Prelude.{position}
use Rattle.std.proofs.lemmas.List.{take-map}
use Rattle.ddf_words.specs.Words.{is_dashes, words_of, words_before}
use Rattle.ddf_words.proofs.Lists.{position-map}
use Rattle.ddf_words.proofs.words.image_paths.Goals as goal

pub returns-in-Some : goal.returns-in-Some
returns-in-Some c =
    let at : position is_dashes (words_of c.args.words.now) ≡ Some c.in-Some.count = position-map is_dashes string_bytes c.args.words.now ∙ sym c.dashes_at.ensures ∙ c.in-Some.is in
    rw at (sym (take-map string_bytes c.in-Some.count c.args.words.now))

pub returns-in-None : goal.returns-in-None
returns-in-None c =
    let at : position is_dashes (words_of c.args.words.now) ≡ None = position-map is_dashes string_bytes c.args.words.now ∙ sym c.dashes_at.ensures ∙ c.in-None.is in
    ap (words_before (words_of c.args.words.now)) (sym at)
