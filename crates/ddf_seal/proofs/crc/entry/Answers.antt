use Rattle.std.proofs.Common.{◌≡◌, ◌+◌, ◌*◌, ◌<◌, length, get_or, ◌∙◌, ap, arith}
use Rattle.ddf_seal.proofs.CrcTables.{table_entry}
use Rattle.ddf_seal.proofs.crc.entry.Goals as goal

pub returns : goal.returns
returns c =
    let len : length c.args.tables.now ≡ 4096 = omega arith in
    let lt : c.args.byte < 256 = omega arith in
    let index : c.from.result ≡ c.args.byte = c.from.ensures in
    ap (λ i. get_or c.args.tables.now (256 * c.args.more + i) 0) index
    ∙ table_entry c.args.tables.now c.args.more c.args.byte c.requires.tables len c.requires.few lt
