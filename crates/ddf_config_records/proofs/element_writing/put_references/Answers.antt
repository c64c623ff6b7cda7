use Rattle.std.proofs.Common.{◌≡◌, ◌+◌, ◌*◌, ◌<◌, ◌∙◌, refl, sym, ap, length, get_or, arith, List, ℕ}
use Rattle.std.specs.List.{flat_map}
use Rattle.std.specs.Int.{w32, to_be_bytes}
use Rattle.std.proofs.lemmas.List.{take_all}
use Rattle.std.proofs.lemmas.List.Folds.{flat_map-map}
use Rattle.ddf_seal.specs.Unread.{placed}
use Rattle.ddf_seal.proofs.Same.{as_placed, placed_none}
use Rattle.ddf_config_records.specs.declared.place.Place.{Place}
use Rattle.ddf_config_records.specs.declared.layout.TheConstants.{REFERENCES_AT}
use Rattle.ddf_config_records.proofs.Numbers.{one_more}
use Rattle.ddf_config_records.proofs.element_writing.put_references.Goals as goal

pub loop-index-init : goal.loop-index-init
loop-index-init c = sym (placed_none c.args.into.now REFERENCES_AT)

pub loop-index-preserved : goal.loop-index-preserved
loop-index-preserved c =
    let into = c.args.into.now in
    let items = c.args.members.now in
    let i = c.loop-index.index in
    let lt : i < length items = omega arith in
    let none : Place = record { reference = 0; start = 0 } in
    let f = λ (place : Place). to_be_bytes w32 place.reference in
    let now : c.put32.new.into ≡ placed c.loop-index.into (REFERENCES_AT + 4 * i) (f (get_or items i none)) = as_placed _ _ _ _ c.put32.ensures.written in
    now ∙ ap (λ (l : List ℕ). placed l (REFERENCES_AT + 4 * i) (f (get_or items i none))) c.loop-index.invariant
    ∙ one_more f 4 REFERENCES_AT into items i none (λ _. refl) lt (omega arith)

pub returns : goal.returns
returns c =
    let items = c.args.members.now in
    let f = λ (place : Place). to_be_bytes w32 place.reference in
    c.loop-index.invariant ∙ ap (λ (l : List Place). placed c.args.into.now REFERENCES_AT (flat_map f l)) (take_all c.loop-index.index items (omega arith))
    ∙ ap (placed c.args.into.now REFERENCES_AT) (sym (flat_map-map (to_be_bytes w32) (λ (place : Place). place.reference) items))
