use Rattle.std.proofs.Common.{⊎_elim, arith}
use Rattle.ddf_data_calls.proofs.Aside.{aside_keeps}
use Rattle.ddf_data_calls.proofs.laws.a_call_on_other_disks_keeps_the_data.Goals as goal

pub returns-clause-any_moment : goal.returns-clause-any_moment
returns-clause-any_moment g c = λ group past floor small promises old new written leaves held none all image was_left are. ⊎_elim
    (λ first. all image ((g.met.B.Bay.told old).only_now image first))
    (λ others. aside_keeps group floor small past promises (g.B.Bay.disks old) written (λ slot here number config since current. none slot number config here since current) held all image are others)
    (leaves.since (g.B.Bay.disks old).moment image (omega arith) was_left)

pub returns-clause-ends : goal.returns-clause-ends
returns-clause-ends g c = λ group past floor small promises old new written leaves held none all image is_left. ⊎_elim
    (λ first. all image ((g.met.B.Bay.told old).only_now image first))
    (λ others. aside_keeps group floor small past promises (g.B.Bay.disks old) written (λ slot here number config since current. none slot number config here since current) held all image
    (λ slot lba. ((g.met.B.Bay.told new).whole slot lba (image slot lba) (is_left slot lba)).size) others)
    (leaves.since (g.B.Bay.disks old).moment image (omega arith) ((g.met.B.Bay.told new).counts (g.B.Bay.disks old).moment image leaves.later is_left))
