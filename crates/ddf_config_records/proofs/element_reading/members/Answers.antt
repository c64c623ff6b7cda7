use Rattle.std.proofs.Common.{◌≡◌, ◌++◌, ◌∷◌, [], ◌∙◌, sym, ap, length, List, arith}
use Rattle.ddf_config_records.specs.declared.place.Place.{Place}
use Rattle.ddf_config_records.specs.Elements.{member_at}
use Rattle.ddf_config_records.proofs.Elements.{same_place, members_at_none, length-members_at, members_at_more}
use Rattle.ddf_config_records.proofs.element_reading.members.Goals as goal

pub loop-index-init : goal.loop-index-init
loop-index-init c = c.new-members.ensures ∙ sym (members_at_none c.args.most c.args.bytes.now)

pub push-requires : goal.push-requires
push-requires c =
    let size : length c.loop-index.members.items ≡ c.loop-index.index = ap length c.loop-index.invariant ∙ length-members_at c.args.most c.args.bytes.now c.loop-index.index in
    omega arith

pub loop-index-preserved : goal.loop-index-preserved
loop-index-preserved c =
    let one = member_at c.args.most c.args.bytes.now c.loop-index.index in
    let reference : c.be32.result ≡ one.reference = c.be32.ensures in
    let wide : c.from.result ≡ c.args.most = c.from.ensures in
    let start : c.be64.result ≡ one.start = rw (← wide) c.be64.ensures in
    let read : Place = record { reference = c.be32.result; start = c.be64.result } in
    let same : read ≡ one = same_place c.be32.result c.be64.result one.reference one.start reference start in
    c.push.ensures.items ∙ ap (λ (place : Place). c.loop-index.members.items ++ place ∷ []) same ∙ ap (λ (l : List Place). l ++ one ∷ []) c.loop-index.invariant ∙ sym (members_at_more c.args.most c.args.bytes.now c.loop-index.index)
