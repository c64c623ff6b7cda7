use Rattle.std.proofs.Common.{◌≡◌, ◌∙◌, [], ◌∷◌, ap, length, arith, IsTrue}
use Rattle.std.specs.Int.{w16}
use Rattle.std.specs.List.{list_all}
use Rattle.ddf_bytes.specs.Bytes.{number_at}
use Rattle.ddf_seal.specs.Seal.{seal_place}
use Rattle.ddf_seal.specs.Unread.{cleared, places, is_within}
use Rattle.ddf_seal.proofs.Same.{AreWithin, cleared_outside}
use Rattle.ddf_config_records.specs.declared.layout.TheConstants.{MEMBERS_AT}
use Rattle.ddf_config_records.specs.Elements.{element_with, head_fields, member_places}
use Rattle.ddf_config_records.proofs.Elements.{head_within, count_with, rest_is}
use Rattle.ddf_config_records.proofs.Spans.{test_from_within}
use Rattle.ddf_config_records.proofs.element_reading.unread.Goals as goal

pub rest_of-requires : goal.rest_of-requires
rest_of-requires c =
    let element = element_with c.args.most c.args.bytes.now [] in
    let size = length c.args.bytes.now in
    test_from_within size (seal_place ∷ places (head_fields element)) (head_within element size (omega arith))

pub clear_more-requires : goal.clear_more-requires
clear_more-requires c =
    let bytes = c.args.bytes.now in
    let size = length c.in_ok-rest.rest.items in
    let element = element_with c.args.most bytes [] in
    let same : size ≡ length bytes = ap length c.in_ok-rest.ensures ∙ (cleared_outside (seal_place ∷ places (head_fields element)) bytes (head_within element (length bytes) (omega arith))).size in
    let count : c.from-count.result ≡ number_at w16 bytes MEMBERS_AT = cc in
    let inside : AreWithin size (member_places c.args.most c.from-count.result) = (omega arith, (omega arith, tt)) in
    let test : IsTrue (list_all (is_within size) (member_places c.args.most c.from-count.result)) = test_from_within size (member_places c.args.most c.from-count.result) inside in
    rw (c.member_spans.ensures) test

pub returns : goal.returns
returns c =
    let bytes = c.args.bytes.now in
    let element = element_with c.args.most bytes [] in
    let count : c.from-count.result ≡ number_at w16 bytes MEMBERS_AT = cc in
    c.new.ensures ∙ c.clear_more.ensures ∙ ap (λ spans. cleared spans c.in_ok-rest.rest.items) c.member_spans.ensures
    ∙ ap (λ n. cleared (member_places c.args.most n) c.in_ok-rest.rest.items) count
    ∙ ap (cleared (member_places c.args.most (number_at w16 bytes MEMBERS_AT))) c.in_ok-rest.ensures
    ∙ rest_is c.args.most bytes element (count_with c.args.most bytes [])
