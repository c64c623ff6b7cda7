use Rattle.std.proofs.Common.{ℕ, List, ◌++◌, ◌∙◌, ap, append_assoc}
use Rattle.std.specs.Prelude.{string_bytes}
use Rattle.ddf_copy.specs.declared.newest_copy.Newest.{Newest}
use Rattle.ddf_text.specs.CopyText.{copy_lines, newest_text}
use Rattle.ddf_text.specs.Report.{head_text}
use Rattle.ddf_copy.specs.Copies.{newest_of_copies}
use Rattle.ddf_text.proofs.report.headers_text.Goals as goal

pub returns : goal.returns
returns c =
    let copies = c.args.headers.copies in
    let front : List ℕ = head_text c.args.slot c.args.sectors c.args.headers ++ copy_lines copies in
    c.in_ok-push_newest.ensures
    ∙ ap (λ (newest : Newest). string_bytes c.in_ok-text.text ++ newest_text newest) c.newest.ensures.value
    ∙ ap (λ (text : List ℕ). text ++ newest_text (newest_of_copies copies)) c.in_ok-text.ensures
    ∙ append_assoc (head_text c.args.slot c.args.sectors c.args.headers) (copy_lines copies) (newest_text (newest_of_copies copies))
