use Rattle.std.proofs.Common.{◌≡◌, ◌∷◌, [], ◌∙◌, ap, length, map, List, ℕ, arith}
use Rattle.std.specs.List.{range_with_len}
use Rattle.ddf_seal.specs.declared.unread.Span.{Span}
use Rattle.ddf_seal.specs.Seal.{seal_place}
use Rattle.ddf_seal.specs.Unread.{cleared, cleared_one}
use Rattle.ddf_seal.proofs.Same.{cleared_outside}
use Rattle.ddf_config_records.specs.declared.layout.TheConstants.{SPARE_TIMESTAMP_AT, SPARE_KIND_AT}
use Rattle.ddf_config_records.specs.Spares.{entry_place, spare_count}
use Rattle.ddf_config_records.proofs.Spans.{test_from_within}
use Rattle.ddf_config_records.proofs.Spares.{range_within, spare_head_within, entries_cleared_more, spare_rest_is}
use Rattle.ddf_config_records.proofs.spare_reading.unread.Goals as goal

pub rest_of-requires : goal.rest_of-requires
rest_of-requires c =
    test_from_within (length c.args.bytes.now) (seal_place ∷ record { at = SPARE_TIMESTAMP_AT; length = 4 } ∷ record { at = SPARE_KIND_AT; length = 1 } ∷ []) (spare_head_within (length c.args.bytes.now) c.requires.long)

pub clear_more-requires : goal.clear_more-requires
clear_more-requires c =
    let bytes = c.args.bytes.now in
    let i = c.loop-index.index in
    let first = c.in_ok-rest.rest.items in
    let head : List Span = seal_place ∷ record { at = SPARE_TIMESTAMP_AT; length = 4 } ∷ record { at = SPARE_KIND_AT; length = 1 } ∷ [] in
    let one : length first ≡ length bytes = ap length c.in_ok-rest.ensures ∙ (cleared_outside head bytes (spare_head_within (length bytes) c.requires.long)).size in
    let two : length c.loop-index.rest.items ≡ length first = ap length c.loop-index.invariant ∙ (cleared_outside (map entry_place (range_with_len 0 i)) first (range_within 0 i (length first) (omega arith))).size in
    test_from_within (length c.loop-index.rest.items) (entry_place i ∷ []) (omega arith, tt)

pub loop-index-preserved : goal.loop-index-preserved
loop-index-preserved c =
    let i = c.loop-index.index in
    c.clear_more.ensures ∙ ap (λ (l : List ℕ). cleared_one l (entry_place i)) c.loop-index.invariant ∙ entries_cleared_more c.in_ok-rest.rest.items i

pub returns : goal.returns
returns c =
    let bytes = c.args.bytes.now in
    let all : c.loop-index.index ≡ spare_count bytes = omega arith in
    c.loop-index.invariant ∙ ap (λ (n : ℕ). cleared (map entry_place (range_with_len 0 n)) c.in_ok-rest.rest.items) all
    ∙ ap (cleared (map entry_place (range_with_len 0 (spare_count bytes)))) c.in_ok-rest.ensures ∙ spare_rest_is bytes
