use Rattle.std.proofs.Common.{◌≡◌, ◌+◌, ◌*◌, ◌∙◌, ap, List, ℕ, arith}
use Rattle.std.specs.Int.{w16, to_be_bytes}
use Rattle.ddf_seal.specs.Unread.{placed, written}
use Rattle.ddf_seal.proofs.Same.{as_placed}
use Rattle.ddf_config_records.specs.declared.layout.TheConstants.{SPARE_ENTRIES_AT, SPARE_ENTRY_BYTES, SPARE_SECONDARY_AT}
use Rattle.ddf_config_records.specs.Building.{secondary_fields}
use Rattle.ddf_config_records.proofs.Building.{secondary_more}
use Rattle.ddf_config_records.proofs.spare_building.put_secondary.Goals as goal

pub loop-index-preserved : goal.loop-index-preserved
loop-index-preserved c =
    let i = c.loop-index.index in
    let put : c.put16.new.into ≡ placed c.loop-index.into (SPARE_ENTRIES_AT + SPARE_ENTRY_BYTES * i + SPARE_SECONDARY_AT) (to_be_bytes w16 0) = as_placed _ _ _ _ c.put16.ensures.written in
    put ∙ ap (λ (l : List ℕ). placed l (SPARE_ENTRIES_AT + SPARE_ENTRY_BYTES * i + SPARE_SECONDARY_AT) (to_be_bytes w16 0)) c.loop-index.invariant ∙ secondary_more c.args.into.now i

pub returns : goal.returns
returns c =
    let all : c.loop-index.index ≡ c.args.entries = omega arith in
    c.loop-index.invariant ∙ ap (λ (n : ℕ). written (secondary_fields n) c.args.into.now) all
