use Rattle.std.proofs.Common.{◌≡◌, ℕ, List, ap, ◌∙◌, subst}
use Rattle.std.specs.Prelude.{IfOk}
use Rattle.ddf_config_records.specs.ElementValue.{ElementValue}
use Rattle.ddf_config_records.specs.Building.{element_over}
use Rattle.ddf_config_records.specs.Elements.{record_size}
use Rattle.ddf_moving.specs.Copies.{moved_element, moved_rest}
use Rattle.ddf_moving.proofs.records.moved_element.Goals as goal

pub returns : goal.returns
returns c =
    let geometry = c.args.geometry.now in
    let element = c.args.element.now in
    let rest : c.in_ok-rest.rest ≡ moved_rest (record_size geometry) element.rest =
    c.in_ok-rest.ensures
    ∙ ap (λ (n : ℕ). moved_rest n c.items.result.now) c.record_size.ensures
    ∙ ap (λ (bytes : List ℕ). moved_rest (record_size geometry) bytes) (c.items.ensures ∙ ap (λ (one : ElementValue). one.rest) c.element.view_is) in
    let bytes : c.element_with-bytes.result ≡ record element { rest = moved_rest (record_size geometry) element.rest } =
    c.element_with-bytes.ensures ∙ ap (λ (all : List ℕ). record element { rest = all }) rest in
    let same : element_over geometry c.element_with-bytes.result c.element_with-fields.result ≡ moved_element geometry element =
    ap (λ (carrier : ElementValue). element_over geometry carrier c.element_with-fields.result) bytes
    ∙ ap (λ (fields : ElementValue). element_over geometry (record element { rest = moved_rest (record_size geometry) element.rest }) fields) c.element_with-fields.ensures in
    subst (λ (made : ElementValue). IfOk c.over.result (λ moved. moved ≡ made)) same c.over.ensures.exact
