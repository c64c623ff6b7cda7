use Rattle.std.proofs.Common.{◌≡◌, ◌∙◌, sym, subst, List, ℕ, length, arith}
use Rattle.ddf_seal.specs.Unread.{AreBytes}
use Rattle.ddf_tables.specs.Sectors.{IsControllerOf}
use Rattle.ddf_tables.proofs.SectorValues.{controller_again, controller_is_written}
use Rattle.ddf_tables.proofs.controller.encode_controller.Goals as goal

pub returns-clause-back : goal.returns-clause-back
returns-clause-back c = λ sector is. c.write.ensures.exact ∙ controller_again c.args.value.now sector is

pub returns-clause-made : goal.returns-clause-made
returns-clause-made c = λ can.
    let value = c.args.value.now in
    let size : length value.rest ≡ 512 = omega arith in
    let exact = c.write.ensures.exact in
    subst (λ (sector : List ℕ). IsControllerOf value sector) (sym exact) (controller_is_written value size can (subst AreBytes exact c.write.ensures.bytes))
