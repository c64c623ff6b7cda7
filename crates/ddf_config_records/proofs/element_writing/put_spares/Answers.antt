use Rattle.std.proofs.Common.{◌≡◌, ◌+◌, ◌*◌, ◌<◌, ◌∙◌, refl, sym, ap, length, get_or, arith, List, ℕ}
use Rattle.std.specs.Int.{w32, to_be_bytes}
use Rattle.ddf_seal.specs.Unread.{placed}
use Rattle.ddf_seal.proofs.Same.{as_placed, placed_none}
use Rattle.ddf_config_records.specs.declared.layout.TheConstants.{SPARES_AT}
use Rattle.ddf_config_records.proofs.Numbers.{one_more}
use Rattle.ddf_config_records.proofs.element_writing.put_spares.Goals as goal

pub loop-index-init : goal.loop-index-init
loop-index-init c = sym (placed_none c.args.into.now SPARES_AT)

pub loop-index-preserved : goal.loop-index-preserved
loop-index-preserved c =
    let into = c.args.into.now in
    let items = c.args.spares.now in
    let i = c.loop-index.index in
    let lt : i < length items = omega arith in
    let none : ℕ = 0 in
    let f = λ (n : ℕ). to_be_bytes w32 n in
    let now : c.put32.new.into ≡ placed c.loop-index.into (SPARES_AT + 4 * i) (f (get_or items i none)) = as_placed _ _ _ _ c.put32.ensures.written in
    now ∙ ap (λ (l : List ℕ). placed l (SPARES_AT + 4 * i) (f (get_or items i none))) c.loop-index.invariant
    ∙ one_more f 4 SPARES_AT into items i none (λ _. refl) lt (omega arith)
