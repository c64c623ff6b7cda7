use Rattle.std.proofs.Common.{◌≡◌, ◌∷◌, [], ◌∙◌, ap, sym, length, map, List, ℕ, arith}
use Rattle.std.specs.List.{range_with_len}
use Rattle.ddf_seal.specs.declared.unread.Span.{Span}
use Rattle.ddf_seal.specs.Seal.{seal_place}
use Rattle.ddf_seal.specs.Unread.{cleared}
use Rattle.ddf_seal.proofs.Same.{cleared_outside}
use Rattle.ddf_config_records.specs.declared.layout.TheConstants.{SPARE_TIMESTAMP_AT, SPARE_KIND_AT}
use Rattle.ddf_config_records.specs.Spares.{entry_place}
use Rattle.ddf_config_records.proofs.Spares.{entry_places, spare_head_within}
use Rattle.ddf_config_records.proofs.spare_building.clear_fields.Goals as goal

abbrev head : List Span
head = seal_place ∷ record { at = SPARE_TIMESTAMP_AT; length = 4 } ∷ record { at = SPARE_KIND_AT; length = 1 } ∷ []

pub clear_entries-requires : goal.clear_entries-requires
clear_entries-requires c =
    let bytes = c.args.bytes.now.items in
    let size : length c.clear_more.new.rest.items ≡ length bytes = ap length c.clear_more.ensures ∙ (cleared_outside head bytes (spare_head_within (length bytes) c.requires.long)).size in
    omega arith

pub returns : goal.returns
returns c = λ spare count.
    let bytes = c.args.bytes.now.items in
    let spans = ap (λ (n : ℕ). map entry_place (range_with_len 0 n)) (sym count) ∙ sym (entry_places 0 spare.arrays) in
    c.clear_entries.ensures ∙ ap (cleared (map entry_place (range_with_len 0 c.args.arrays))) c.clear_more.ensures ∙ ap (λ (l : List Span). cleared l (cleared head bytes)) spans
