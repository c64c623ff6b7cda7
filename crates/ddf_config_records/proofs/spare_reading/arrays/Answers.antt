use Rattle.std.proofs.Common.{◌≡◌, ◌++◌, ◌∷◌, [], ◌∙◌, sym, ap, List, ℕ}
use Rattle.ddf_config_records.specs.Spares.{array_at}
use Rattle.ddf_config_records.proofs.Spares.{arrays_at_none, arrays_at_more}
use Rattle.ddf_config_records.proofs.spare_reading.arrays.Goals as goal

pub loop-index-init : goal.loop-index-init
loop-index-init c = c.in_ok-arrays.ensures.items ∙ sym (arrays_at_none c.args.bytes.now)

pub loop-index-preserved : goal.loop-index-preserved
loop-index-preserved c =
    let bytes = c.args.bytes.now in
    let i = c.loop-index.index in
    let one : c.guid_at.result ≡ array_at bytes i = c.guid_at.ensures in
    c.in_ok-push.ensures.items ∙ ap (λ (guid : List ℕ). c.loop-index.arrays.items ++ guid ∷ []) one
    ∙ ap (λ (l : List (List ℕ)). l ++ array_at bytes i ∷ []) c.loop-index.invariant ∙ sym (arrays_at_more bytes i)
