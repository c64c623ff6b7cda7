use Rattle.std.proofs.Common.{◌<◌, length, sym, arith}
use Rattle.ddf_bay.specs.Finding.{noted}
use Rattle.ddf_bay.specs.Logged.{zeros}
use Rattle.ddf_bay.proofs.Finding.{bytes_found}
use Rattle.ddf_bay.proofs.log.Log.newest.Goals as goal

pub index-requires : goal.index-requires
index-requires c = let lt : c.in-Some.at.now < length c.args.self.now.logged.items = c.args.self.now.within c.args.slot c.args.lba c.in-Some.at.now (sym c.in-Some.ensures.value) in omega arith

pub returns-in-Some : goal.returns-in-Some
returns-in-Some c =
    let here = sym c.in-Some.ensures.value in
    bytes_found (noted c.args.self.now.index) c.args.self.now.logged.items c.args.slot c.args.lba c.in-Some.at.now c.index.result.now zeros c.args.self.now.finds here (c.args.self.now.within c.args.slot c.args.lba c.in-Some.at.now here) c.index.ensures
