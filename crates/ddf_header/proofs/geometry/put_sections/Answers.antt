use Rattle.std.proofs.Common.{◌≡◌, ◌+◌, ◌*◌, ◌<◌, [], ◌∷◌, ◌∙◌, sym, ap, length, take, get_or, arith}
use Rattle.std.proofs.lemmas.List.{length-take-le}
use Rattle.ddf_seal.specs.Unread.{placed}
use Rattle.ddf_seal.proofs.Same.{placed_none, placed_after}
use Rattle.ddf_header.specs.declared.geometry.Section.{Section}
use Rattle.ddf_header.specs.declared.layout.TheConstants.{SECTIONS_AT}
use Rattle.ddf_header.proofs.Sections.{section_bytes, section_bytes_more, length-section_bytes}
use Rattle.ddf_header.proofs.geometry.put_sections.Goals as goal

pub loop-index-init : goal.loop-index-init
loop-index-init c = sym (placed_none c.args.header.now SECTIONS_AT)

pub loop-index-preserved : goal.loop-index-preserved
loop-index-preserved c =
    let header = c.args.header.now in
    let sections = c.args.sections.now in
    let i = c.loop-index.index in
    let done = section_bytes (take i sections) in
    let eight : length sections ≡ 8 = c.told-sections in
    let lt : i < length sections = omega arith in
    let none : Section = record { offset = 0; length = 0 } in
    let one = section_bytes (get_or sections i none ∷ []) in
    let size : length done ≡ 8 * i = length-section_bytes (take i sections) ∙ ap (λ n. 8 * n) (length-take-le i sections (omega arith)) in
    let now : c.put_section.new.header ≡ placed c.loop-index.header (SECTIONS_AT + 8 * i) one = c.put_section.ensures in
    let at : SECTIONS_AT + 8 * i ≡ SECTIONS_AT + length done = omega arith in
    now ∙ ap (λ h. placed h (SECTIONS_AT + 8 * i) one) c.loop-index.invariant ∙ ap (λ k. placed (placed header SECTIONS_AT done) k one) at
    ∙ placed_after header SECTIONS_AT done one (omega arith) ∙ ap (placed header SECTIONS_AT) (sym (section_bytes_more sections i none lt))
