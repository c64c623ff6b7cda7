-- The copy that a change or a recovery gives a disk can be written in both of its places.
use Rattle.std.proofs.Common.{◌≡◌, ℕ, List, ap}
use Rattle.ddf_header.specs.declared.reading.Header.{Header}
use Rattle.ddf_header.specs.declared.kind.HeaderKind.TheVariants.{Anchor}
use Rattle.ddf_copy.specs.declared.copy.DiskCopy.{DiskCopy}
use Rattle.ddf_copy.specs.Headers.{IsUnder, anchor_header}
use Rattle.ddf_copy.proofs.Again.{under_changed}
use Rattle.ddf_config.specs.Configuration.{Configuration}
use Rattle.ddf_rewrite.specs.Before.{Before}
use Rattle.ddf_rewrite.specs.Changing.{CanChange}
use Rattle.ddf_rewrite.specs.Copies.{changed_copy, recovered_copy}
use Rattle.ddf_rewrite.specs.Hold.{CanBeRecovered, CanWrite}
use Rattle.ddf_rewrite.proofs.Writable.{changed_copy_can, recovered_copy_can}

same_anchor : (header : Header) (group : List ℕ) (sequence : ℕ) → group ≡ header.guid → record (record header { guid = group; sequence = sequence }) { kind = Anchor; openness = 0xFF; sequence = 0xFFFF_FFFF } ≡ record header { kind = Anchor; openness = 0xFF; sequence = 0xFFFF_FFFF }
same_anchor header group sequence e = ap (λ (g : List ℕ). record (record header { guid = g; sequence = sequence }) { kind = Anchor; openness = 0xFF; sequence = 0xFFFF_FFFF }) e

changed_anchor : (old : DiskCopy) (leaders : Before) (config : Configuration) (timestamp : ℕ) → config.group ≡ old.header.guid → anchor_header (changed_copy old leaders config timestamp) ≡ anchor_header old
unfolding changed_copy
changed_anchor old leaders config timestamp e = same_anchor old.header config.group config.sequence e

recovered_anchor : (old : DiskCopy) (leaders : Before) (config : Configuration) (timestamp : ℕ) → config.group ≡ old.header.guid → anchor_header (recovered_copy old leaders config timestamp) ≡ anchor_header old
unfolding recovered_copy
recovered_anchor old leaders config timestamp e = same_anchor old.header config.group config.sequence e

-- ---- in both places

-- A member of the group keeps its anchor.
pub changed_under : (size : ℕ) (anchor : Header) (old : DiskCopy) (leaders : Before) (config : Configuration) (timestamp : ℕ) → IsUnder size anchor old → config.group ≡ old.header.guid
    → CanChange old leaders config timestamp → CanWrite old leaders config timestamp → IsUnder size anchor (changed_copy old leaders config timestamp)
changed_under size anchor old leaders config timestamp under group change can =
    under_changed size anchor old (changed_copy old leaders config timestamp) under (changed_copy_can old leaders config timestamp under.is_copy change can) (changed_anchor old leaders config timestamp group)

pub recovered_under : (size : ℕ) (anchor : Header) (old : DiskCopy) (leaders : Before) (config : Configuration) (timestamp : ℕ) → IsUnder size anchor old → config.group ≡ old.header.guid
    → CanBeRecovered old leaders config timestamp → IsUnder size anchor (recovered_copy old leaders config timestamp)
recovered_under size anchor old leaders config timestamp under group can =
    under_changed size anchor old (recovered_copy old leaders config timestamp) under (recovered_copy_can old leaders config timestamp under.is_copy can) (recovered_anchor old leaders config timestamp group)
