use Rattle.std.proofs.Common.{◌≡◌, ◌∷◌, ◌∙◌, ap, sym, subst, length, List, ℕ, arith}
use Rattle.ddf_seal.specs.Seal.{seal_place}
use Rattle.ddf_seal.specs.Unread.{cleared, places}
use Rattle.ddf_config_records.specs.ElementValue.{ElementValue}
use Rattle.ddf_config_records.specs.Elements.{record_size, element_fields, CanBeElement}
use Rattle.ddf_config_records.specs.Building.{element_bytes}
use Rattle.ddf_config_records.proofs.Building.{element_over_can}
use Rattle.ddf_config_records.proofs.element.Element.over.Goals as goal

pub returns-clause-exact : goal.returns-clause-exact
returns-clause-exact c =
    let element = c.args.self in
    let geometry = c.args.geometry.now in
    let spans = seal_place ∷ places (element_fields geometry.max_members element) in
    let count : length element.members ≡ c.len.result = ap (λ (e : ElementValue). length e.members) (sym c.self.view_is) ∙ sym c.len.ensures.value in
    let rest : c.clear_fields.new.bytes.items ≡ cleared spans (element_bytes geometry c.args.bytes.now) = c.clear_fields.ensures element count ∙ ap (cleared spans) c.in_ok-rest.ensures.exact in
    c.with_rest.ensures.exact ∙ ap (λ (l : List ℕ). record element { rest = l }) rest

pub returns-clause-writable : goal.returns-clause-writable
returns-clause-writable c = λ none.
    let element = c.args.self in
    let geometry = c.args.geometry.now in
    let bytes = element_bytes geometry c.args.bytes.now in
    let long : length bytes ≡ record_size geometry = sym (ap length c.in_ok-rest.ensures.exact) ∙ c.in_ok-rest.ensures.size ∙ c.requires.size in
    let fit = c.with_rest.ensures.fits geometry.max_members (omega arith) in
    subst (CanBeElement geometry) (sym (returns-clause-exact c)) (element_over_can geometry bytes element c.requires.room long fit none)
