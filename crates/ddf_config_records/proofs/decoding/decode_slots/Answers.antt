use Rattle.std.proofs.Common.{arith}
use Rattle.std.proofs.lemmas.Result.{IfOk-weaker, IfErr-weaker}
use Rattle.ddf_seal.specs.Unread.{AreBytes}
use Rattle.ddf_config_records.proofs.Sound.{room_from_sound}
use Rattle.ddf_config_records.proofs.Sections.{decoded_sealed, decodes, decoded_can, whole_faults}
use Rattle.ddf_config_records.proofs.Fits.{do_fit}
use Rattle.ddf_config_records.proofs.decoding.decode_slots.Goals as goal

pub read-requires : goal.read-requires
read-requires c = room_from_sound c.args.geometry.now c.requires

pub returns-clause-sealed : goal.returns-clause-sealed
returns-clause-sealed c =
    let are : AreBytes c.args.section.now = λ i. omega (arith, c.type_inv.section i) in
    IfOk-weaker c.read.result _ _ (λ slots exact. decoded_sealed c.args.geometry.now c.args.group.now c.args.sequence c.args.section.now slots.items (room_from_sound c.args.geometry.now c.requires) are exact) c.read.ensures.exact

pub returns-clause-whole : goal.returns-clause-whole
returns-clause-whole c = λ sealed.
    let are : AreBytes c.args.section.now = λ i. omega (arith, c.type_inv.section i) in
    IfErr-weaker c.read.result _ _ (λ fault told. whole_faults c.args.geometry.now c.args.group.now c.args.sequence c.args.section.now fault (room_from_sound c.args.geometry.now c.requires) are sealed told) c.read.ensures.fault

pub returns-clause-ok : goal.returns-clause-ok
returns-clause-ok c =
    let are : AreBytes c.args.section.now = λ i. omega (arith, c.type_inv.section i) in
    IfOk-weaker c.read.result _ _ (λ slots exact. decodes c.args.geometry.now c.args.group.now c.args.sequence c.args.section.now slots.items (room_from_sound c.args.geometry.now c.requires) are exact) c.read.ensures.exact

pub returns-clause-writable : goal.returns-clause-writable
returns-clause-writable c =
    let are : AreBytes c.args.section.now = λ i. omega (arith, c.type_inv.section i) in
    IfOk-weaker c.read.result _ _ (λ slots exact. decoded_can c.args.geometry.now c.args.group.now c.args.sequence c.args.section.now slots.items (room_from_sound c.args.geometry.now c.requires) are exact) c.read.ensures.exact

pub returns-clause-fits : goal.returns-clause-fits
returns-clause-fits c =
    let are : AreBytes c.args.section.now = λ i. omega (arith, c.type_inv.section i) in
    let room = room_from_sound c.args.geometry.now c.requires in
    IfOk-weaker c.read.result _ _ (λ slots exact. do_fit c.args.geometry.now c.args.group.now c.args.sequence slots.items room
    (decoded_can c.args.geometry.now c.args.group.now c.args.sequence c.args.section.now slots.items room are exact)) c.read.ensures.exact
