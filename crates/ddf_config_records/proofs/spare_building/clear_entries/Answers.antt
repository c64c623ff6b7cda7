use Rattle.std.proofs.Common.{◌≡◌, ◌∷◌, [], ◌∙◌, ap, length, map, List, ℕ, arith}
use Rattle.std.specs.List.{range_with_len}
use Rattle.ddf_seal.specs.Unread.{cleared, cleared_one}
use Rattle.ddf_seal.proofs.Same.{cleared_outside}
use Rattle.ddf_config_records.specs.Spares.{entry_place}
use Rattle.ddf_config_records.proofs.Spans.{test_from_within}
use Rattle.ddf_config_records.proofs.Spares.{range_within, entries_cleared_more}
use Rattle.ddf_config_records.proofs.spare_building.clear_entries.Goals as goal

pub clear_more-requires : goal.clear_more-requires
clear_more-requires c =
    let i = c.loop-index.index in
    let first = c.args.bytes.now.items in
    let now = c.loop-index.bytes.items in
    let size : length now ≡ length first = ap length c.loop-index.invariant ∙ (cleared_outside (map entry_place (range_with_len 0 i)) first (range_within 0 i (length first) (omega arith))).size in
    test_from_within (length now) (entry_place i ∷ []) (omega arith, tt)

pub loop-index-preserved : goal.loop-index-preserved
loop-index-preserved c =
    let i = c.loop-index.index in
    c.clear_more.ensures ∙ ap (λ (l : List ℕ). cleared_one l (entry_place i)) c.loop-index.invariant ∙ entries_cleared_more c.args.bytes.now.items i

pub returns : goal.returns
returns c =
    let all : c.loop-index.index ≡ c.args.entries = omega arith in
    c.loop-index.invariant ∙ ap (λ (n : ℕ). cleared (map entry_place (range_with_len 0 n)) c.args.bytes.now.items) all
