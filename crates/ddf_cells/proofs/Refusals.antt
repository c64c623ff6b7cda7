-- No blocks of an array that can be read are refused.
use Rattle.std.proofs.Common.{◌≡◌, ◌∙◌, ℕ, ◌+◌, ◌≤◌, Bool, true, false, Option, Some, None, refl, sym, arith}
use Rattle.std.specs.Prelude.{is_none, nat_lt, not, ◌&&◌, if◌then◌else◌}
use Rattle.std.specs.List.{range_with_len, list_any}
use Rattle.std.proofs.lemmas.Bool.{le-ltb}
use Rattle.ddf_array.specs.declared.site.Site.{Site}
use Rattle.ddf_array.specs.Volume.{Volume, capacity}
use Rattle.ddf_array.specs.Sources.{first_copy}
use Rattle.ddf_array.specs.Within.{is_within}
use Rattle.ddf_read.specs.declared.fault.VolumeFault.{VolumeFault}
use Rattle.ddf_read.specs.declared.fault.VolumeFault.TheVariants.{Range, Lost, Unsure, Degraded, Disk}
use Rattle.ddf_read.specs.Refused.{lacks_copy, is_unsure, read_refusal, IsReadFault}
use Rattle.ddf_read.proofs.Lacking.{any_none}
use Rattle.ddf_cells.specs.CellSources.{IsReadable}
use Rattle.ddf_cells.proofs.Lists.{some_not_none}

has_copy : (found : Option Site) → (found ≡ None → ⊥) → is_none found ≡ false
has_copy None never = absurd (never refl)
has_copy (Some one) never = refl

module _ (v : Volume) (readable : IsReadable v) (start count : ℕ) (below : start + count ≤ capacity v) where
  sure_by : (marked : Bool) → v.marked ≡ marked → (marked && list_any (lacks_copy v) (range_with_len start count)) ≡ false
  sure_by false is = refl
  sure_by true is = any_none (lacks_copy v) start count (λ k inside. has_copy (first_copy v (start + k)) (readable.copied is (start + k) (omega (arith, below, inside))))

  by : (a b c : Bool) (x y z : VolumeFault) → a ≡ false → b ≡ true → c ≡ false → (if a then Some x else (if not b then Some y else (if c then Some z else None))) ≡ None
  by true b c x y z p q r = absurd (cc)
  by false false c x y z p q r = absurd (cc)
  by false true true x y z p q r = absurd (cc)
  by false true false x y z p q r = refl

  pub none_refused : read_refusal v start count ≡ None
  none_refused =
      by (nat_lt (capacity v) (start + count)) (is_within v) (is_unsure v start count) (Range (capacity v)) Lost Unsure
      (le-ltb (capacity v) (start + count) below) readable.within (sure_by v.marked refl)

-- so only a disk can keep them
pub only_disk : (failed : ℕ → Type 0) (v : Volume) (start count : ℕ) (fault : VolumeFault) → read_refusal v start count ≡ None → IsReadFault failed v start count fault → (slot : ℕ) × (fault ≡ Disk slot)
only_disk failed v start count (Range most) none is = absurd (some_not_none (Range most) (sym is ∙ none))
only_disk failed v start count Lost none is = absurd (some_not_none Lost (sym is ∙ none))
only_disk failed v start count Unsure none is = absurd (some_not_none Unsure (sym is ∙ none))
only_disk failed v start count Degraded none is = elim is [ ]
only_disk failed v start count (Disk slot) none is = (slot, refl)
