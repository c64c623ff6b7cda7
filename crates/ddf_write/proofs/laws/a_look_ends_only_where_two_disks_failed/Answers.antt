use Rattle.ddf_read.specs.Reading.{Failed}
use Rattle.ddf_write.proofs.TwoFailed.{ends_with_two}
use Rattle.ddf_write.proofs.laws.a_look_ends_only_where_two_disks_failed.Goals as goal

pub returns : goal.returns
returns g c = λ volume start count slot known whole own_disks left. ends_with_two volume known whole own_disks (Failed (g.B.Bay.disks c.args.old.now) (g.B.Bay.disks c.args.new.now)) start count slot left
