use Rattle.std.proofs.Common.{◌≡◌, [], ◌∷◌, ◌∙◌, ap, length, IsTrue, arith}
use Rattle.std.specs.List.{list_all}
use Rattle.ddf_seal.specs.Seal.{seal_place}
use Rattle.ddf_seal.specs.Unread.{places, is_within}
use Rattle.ddf_seal.proofs.Same.{AreWithin, cleared_outside}
use Rattle.ddf_config_records.specs.Elements.{head_fields, member_places, element_with}
use Rattle.ddf_config_records.proofs.Elements.{head_within}
use Rattle.ddf_config_records.proofs.Spans.{test_from_within}
use Rattle.ddf_config_records.proofs.element_building.clear_fields.Goals as goal

pub clear_more-requires-2 : goal.clear_more-requires-2
clear_more-requires-2 c =
    let bytes = c.args.bytes.now.items in
    let size = length c.clear_more.new.rest.items in
    let element = element_with c.args.most bytes [] in
    let same : size ≡ length bytes = ap length c.clear_more.ensures ∙ (cleared_outside (seal_place ∷ places (head_fields element)) bytes (head_within element (length bytes) (omega arith))).size in
    let inside : AreWithin size (member_places c.args.most c.args.members) = (omega arith, (omega arith, tt)) in
    let test : IsTrue (list_all (is_within size) (member_places c.args.most c.args.members)) = test_from_within size (member_places c.args.most c.args.members) inside in
    rw (c.member_spans.ensures) test
