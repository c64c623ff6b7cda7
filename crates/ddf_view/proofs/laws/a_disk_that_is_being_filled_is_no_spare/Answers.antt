use Rattle.std.proofs.Common.{◌≡◌, ◌∙◌, ℕ, Bool, cond, eqb, map, ap, sym}
use Rattle.std.proofs.lemmas.Nat.Bits.{bit_at_or}
use Rattle.std.specs.Prelude.{filter}
use Rattle.std.specs.Int.{bit_at}
use Rattle.std.specs.Int.RustNames.{bit_or}
use Rattle.ddf_lemmas.proofs.Tests.{max_zero}
use Rattle.ddf_config.specs.declared.member.SpareUse.TheVariants as uses
use Rattle.ddf_tables.specs.DiskFlags.{spare}
use Rattle.ddf_view.specs.Reading.{arrays_in, dedicated_or_not, is_dedicated, spare_in}
use Rattle.ddf_view.specs.View.{has_bit}
use Rattle.ddf_view.proofs.laws.a_disk_that_is_being_filled_is_no_spare.Goals as goal

bit_kept : (kind : ℕ) → has_bit (bit_or kind spare) 2 ≡ has_bit kind 2
bit_kept kind = ap (λ (n : ℕ). eqb n 1) (bit_at_or kind spare 2 ∙ max_zero (bit_at kind 2))

pub returns : goal.returns
unfolding spare_in
returns c = λ views disk other.
    let otherwise = dedicated_or_not (map (λ entry. entry.guid) (filter (is_dedicated views disk.reference) (arrays_in views))) in
    ap (λ (b : Bool). cond b (cond (has_bit (bit_or disk.kind.0 spare) 3) uses.Revertible uses.Global) otherwise) (bit_kept disk.kind.0 ∙ other)
    ∙ sym (ap (λ (b : Bool). cond b (cond (has_bit disk.kind.0 3) uses.Revertible uses.Global) otherwise) other)
