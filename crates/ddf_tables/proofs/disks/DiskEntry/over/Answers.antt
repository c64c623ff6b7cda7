use Rattle.std.proofs.Common.{◌≡◌, ◌∙◌, ap, sym, subst, option_copied, List, ℕ, arith}
use Rattle.std.specs.List.{AllByRecursion}
use Rattle.std.specs.Int.{w16, to_be_bytes}
use Rattle.ddf_seal.specs.Unread.{Fits, placed}
use Rattle.ddf_seal.proofs.Same.{as_placed}
use Rattle.ddf_tables.specs.declared.disks.DiskEntry.{DiskEntry}
use Rattle.ddf_tables.specs.declared.disks.DiskRow.TheVariants.{Entry}
use Rattle.ddf_tables.specs.declared.layout.TheConstants.{DISK_BLOCK_SIZE_AT}
use Rattle.ddf_tables.specs.Disks.{disk_fields, IsDiskRow}
use Rattle.ddf_tables.specs.Building.{kept_disk_rest}
use Rattle.ddf_tables.proofs.Building.{disk_over_can}
use Rattle.ddf_tables.proofs.disks.DiskEntry.over.Goals as goal

pub returns-clause-exact : goal.returns-clause-exact
returns-clause-exact c =
    let entry = c.args.self in
    let size = to_be_bytes w16 c.args.block_size in
    let put : c.put16.new.into ≡ placed c.kept_rest-rest.result DISK_BLOCK_SIZE_AT size = as_placed _ _ _ _ c.put16.ensures.written in
    let rest : c.put16.new.into ≡ placed (kept_disk_rest (option_copied c.args.bytes) entry) DISK_BLOCK_SIZE_AT size = put ∙ ap (λ (l : List ℕ). placed l DISK_BLOCK_SIZE_AT size) (c.kept_rest-rest.ensures entry) in
    ap (λ (l : List ℕ). record entry { rest = l }) rest

pub returns-clause-writable : goal.returns-clause-writable
returns-clause-writable c = λ can used.
    let entry = c.args.self in
    let fit : AllByRecursion Fits (disk_fields entry) = (omega arith, (omega arith, (omega arith, (omega arith, (omega arith, tt))))) in
    subst (λ (e : DiskEntry). IsDiskRow (Entry e)) (sym (returns-clause-exact c)) (disk_over_can (option_copied c.args.bytes) c.args.block_size entry fit can used)
