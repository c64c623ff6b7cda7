-- Where copies that are read stand: all that are read under one anchor have the same places and sections.
use Rattle.std.proofs.Common.{◌≡◌, ◌⊎◌, ◌∙◌, inl, inr, ⊎_elim, ℕ, Bool, true, false, List, Some, Result, Ok, Err, if◌then◌else◌, ap, sym, arith}
use Rattle.std.specs.Prelude.{nat_lt}
use Rattle.std.proofs.lemmas.Option.{same_Some}
use Rattle.ddf_header.specs.declared.reading.Header.{Header}
use Rattle.ddf_header.specs.declared.layout.TheConstants.{PRIMARY_LBA_AT, SECONDARY_LBA_AT}
use Rattle.ddf_copy.specs.declared.copy.DiskCopy.{DiskCopy}
use Rattle.ddf_copy.specs.declared.fault.CopyFault.{CopyFault}
use Rattle.ddf_copy.specs.declared.newest_copy.Newest.TheVariants as newests
use Rattle.ddf_copy.specs.declared.which.Which.{Which}
use Rattle.ddf_copy.specs.declared.which.Which.TheVariants.{Primary, Secondary}
use Rattle.ddf_copy.specs.Copies.{are_level, copy_of, newest_in, newest_of, newest_of_both, standing_copy}
use Rattle.ddf_copy.specs.Gate.{header_bytes}
use Rattle.ddf_copy.specs.Which.{place_of}
use Rattle.ddf_copy.proofs.Gates.{IsFound, found_is}
use Rattle.ddf_copy.proofs.LastCopies.{header_is}
use Rattle.ddf_copy.proofs.Shared.{AreShared, shared_geometry, shared_place}

-- Two copies stand in the same places, and have the same sections.
pub record AreAlike (one other : DiskCopy) : Type 0 where
  pub same_sections : one.header.geometry ≡ other.header.geometry
  pub same_primary : one.header.primary_lba ≡ other.header.primary_lba
  pub same_secondary : one.header.secondary_lba ≡ other.header.secondary_lba

-- Two that are read under one anchor do, also of different moments of a disk.
module _ (size : ℕ) (anchor : Header) (here there : ℕ → List ℕ) (one other : Which) (first second : DiskCopy) (is : copy_of size here anchor one ≡ Ok first) (also : copy_of size there anchor other ≡ Ok second) where
  own : IsFound size here anchor one first.header
  own = found_is size here anchor one first.header (header_is size here anchor one first is)

  its : IsFound size there anchor other second.header
  its = found_is size there anchor other second.header (header_is size there anchor other second also)

  both : AreShared (header_bytes anchor) (here (place_of one anchor)) (there (place_of other anchor))
  both = record { one_is = (own).is_gate.is_shared; other_is = (its).is_gate.is_shared }

  pub alike : AreAlike first second
  alike = record {
    same_sections = (own).geometry_is ∙ shared_geometry (header_bytes anchor) (here (place_of one anchor)) (there (place_of other anchor)) both ∙ sym (its).geometry_is;
    same_primary = (own).primary_is ∙ shared_place (header_bytes anchor) (here (place_of one anchor)) (there (place_of other anchor)) both PRIMARY_LBA_AT (omega arith) (omega arith) ∙ sym (its).primary_is;
    same_secondary = (own).secondary_is ∙ shared_place (header_bytes anchor) (here (place_of one anchor)) (there (place_of other anchor)) both SECONDARY_LBA_AT (omega arith) (omega arith) ∙ sym (its).secondary_is;
  }

-- ---- the copy that stands for a disk is read of one of its places

of_both : (level : Bool) (primary secondary copy : DiskCopy) → standing_copy (newest_of_both level primary secondary) ≡ Some copy → (primary ≡ copy) ⊎ (secondary ≡ copy)
of_both level primary secondary copy is = by (nat_lt primary.header.sequence secondary.header.sequence) (nat_lt secondary.header.sequence primary.header.sequence) level is
  where
    by : (less more same : Bool)
        → standing_copy (if less then newests.One Secondary secondary else if more then newests.One Primary primary else if same then newests.Level primary else newests.TwoDiffer primary secondary) ≡ Some copy
        → (primary ≡ copy) ⊎ (secondary ≡ copy)
    by true more same e = inr (same_Some secondary copy e)
    by false true same e = inl (same_Some primary copy e)
    by false false true e = inl (same_Some primary copy e)
    by false false false e = inl (same_Some primary copy e)

pub of_parts : (level : Bool) (primary secondary : Result DiskCopy CopyFault) (copy : DiskCopy) → standing_copy (newest_in level primary secondary) ≡ Some copy → (primary ≡ Ok copy) ⊎ (secondary ≡ Ok copy)
of_parts level (Ok primary) (Ok secondary) copy is = ⊎_elim (λ same. inl (ap Ok same)) (λ same. inr (ap Ok same)) (of_both level primary secondary copy is)
of_parts level (Ok primary) (Err fault) copy is = inl (ap Ok (same_Some primary copy is))
of_parts level (Err fault) (Ok secondary) copy is = inr (ap Ok (same_Some secondary copy is))
of_parts level (Err first) (Err second) copy is = absurd cc

pub standing_whole : (size : ℕ) (sector : ℕ → List ℕ) (anchor : Header) (copy : DiskCopy) → standing_copy (newest_of size sector anchor) ≡ Some copy → (which : Which) × (copy_of size sector anchor which ≡ Ok copy)
unfolding newest_of
standing_whole size sector anchor copy is =
    ⊎_elim (λ first. (Primary, first)) (λ second. (Secondary, second))
    (of_parts (are_level (copy_of size sector anchor Primary) (copy_of size sector anchor Secondary)) (copy_of size sector anchor Primary) (copy_of size sector anchor Secondary) copy is)
