use Rattle.std.proofs.Common.{◌≡◌, ap, sym, subst, option_copied, List, ℕ, arith}
use Rattle.std.specs.List.{AllByRecursion}
use Rattle.ddf_seal.specs.Unread.{Fits}
use Rattle.ddf_tables.specs.declared.arrays.ArrayEntry.{ArrayEntry}
use Rattle.ddf_tables.specs.declared.arrays.ArrayRow.TheVariants.{Entry}
use Rattle.ddf_tables.specs.Arrays.{array_fields, IsArrayRow}
use Rattle.ddf_tables.specs.Building.{array_over}
use Rattle.ddf_tables.proofs.Building.{array_over_can}
use Rattle.ddf_tables.proofs.arrays.ArrayEntry.over.Goals as goal

pub returns-clause-writable : goal.returns-clause-writable
returns-clause-writable c = λ can used.
    let entry = c.args.self in
    let exact : record entry { rest = c.kept_rest.result } ≡ array_over (option_copied c.args.bytes) entry = ap (λ (l : List ℕ). record entry { rest = l }) (c.kept_rest.ensures entry) in
    let fit : AllByRecursion Fits (array_fields entry) = (omega arith, (omega arith, (omega arith, (omega arith, (omega arith, tt))))) in
    subst (λ (e : ArrayEntry). IsArrayRow (Entry e)) (sym exact) (array_over_can (option_copied c.args.bytes) entry fit can used)
