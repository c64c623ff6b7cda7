-- What is known once what lies beside blocks was looked at.
use Rattle.std.proofs.Common.{◌≡◌, ◌∙◌, inl, ⊎_elim, ℕ, zero, suc, ◌+◌, ◌-◌, ◌%◌, ◌<◌, ◌≤◌, true, false, [], None, sym, subst, arith, max}
use Rattle.std.proofs.Math.Nat.{zero-mod}
use Rattle.std.proofs.lemmas.Bool.{cases_lt}
use Rattle.std.proofs.lemmas.Nat.{mod_below}
use Rattle.std.proofs.lemmas.Map.Keys.{any_passes_from_place}
use Rattle.ddf_bay.specs.State.{BayState}
use Rattle.ddf_primary.proofs.ShapeFacts.{depth_le}
use Rattle.ddf_array.specs.Volume.{IsVolume, Volume}
use Rattle.ddf_read.specs.Reading.{Failed}
use Rattle.ddf_read.specs.declared.fault.VolumeFault.TheVariants.{Range, Lost, Unsure, Degraded, Disk}
use Rattle.ddf_read.proofs.Tries.{Within}
use Rattle.ddf_write.specs.declared.beside.LookFault.{LookFault}
use Rattle.ddf_write.specs.declared.beside.LookFault.TheVariants as faults
use Rattle.ddf_write.specs.Beside.{NoneLeftBeside}
use Rattle.ddf_write.specs.Gathering.{Gathers, IsUnkept}
use Rattle.ddf_write.specs.Keeping.{AllAreKept, AreGivenThem, AreTheirValues, Keeping, KeepsNone}
use Rattle.ddf_write.specs.Looking.{ArePiecesKept, IsLookFault, no_more, one_more, piece_of}
use Rattle.ddf_write.specs.WriteRefused.{write_refusal}
use Rattle.ddf_write.proofs.Gathered.{beside_wider}
use Rattle.ddf_write.specs.RowWrites.{IsSure, keeps_parity_anywhere, keeps_parity_in}
use Rattle.ddf_write.proofs.Wholly.{value_read, value_redundant}
use Rattle.ddf_write.proofs.KeptValues.{never_some}

-- ---- pieces

pub piece_some : (each ahead at left : ℕ) → 0 < each → 0 < left → 0 < piece_of each ahead at left
piece_some each ahead at left some more = omega (arith, more, mod_below (ahead + at) each some)

-- of a range that is one piece
pub whole_piece : (count : ℕ) → piece_of (max 1 count) 0 0 (count - 0) ≡ count
whole_piece count =
    let none : (0 + 0) % max 1 count ≡ 0 = zero-mod (max 1 count) in
    omega (arith, none)

pub whole_kept : (v : Volume) (start count : ℕ) (kept : Keeping) → AllAreKept v start count kept → ArePiecesKept v start count (max 1 count) 0 kept 0
whole_kept v start count kept all =
    ⊎_elim
    (λ (more : 0 < count).
    let here : start ≡ start + 0 = omega arith in
    let size : count ≡ piece_of (max 1 count) 0 0 (count - 0) = sym (whole_piece count) in
    one_more 0 more (subst (λ n. AllAreKept v (start + 0) n kept) size (subst (λ n. AllAreKept v n count kept) here all)) (no_more (0 + piece_of (max 1 count) 0 0 (count - 0)) (omega (arith, size))))
    (λ (none : count ≤ 0). no_more 0 none)
    (cases_lt 0 count)

-- where nothing is to be kept
pub nothing_kept : (v : Volume) (start count each ahead : ℕ) (kept : Keeping) → 0 < each → ((from many : ℕ) → AllAreKept v from many kept) → (more at : ℕ) → count ≤ at + more → ArePiecesKept v start count each ahead kept at
nothing_kept v start count each ahead kept some all zero at within = no_more at (omega (arith, within))
nothing_kept v start count each ahead kept some all (suc more) at within =
    ⊎_elim
    (λ (below : at < count).
    one_more at below (all (start + at) (piece_of each ahead at (count - at)))
    (nothing_kept v start count each ahead kept some all more (at + piece_of each ahead at (count - at)) (omega (arith, within, piece_some each ahead at (count - at) some (omega (arith, below))))))
    (λ (end : count ≤ at). no_more at end)
    (cases_lt at count)

pub no_parity_kept : (v : Volume) → keeps_parity_anywhere v ≡ false → (kept : Keeping) (from many : ℕ) → AllAreKept v from many kept
no_parity_kept v none kept from many element part position sector beside = absurd (never (sym (any_passes_from_place keeps_parity_in v.parts element part beside.is_cell.is_part beside.is_cell.keeps) ∙ none))
  where
    never : true ≡ false → ⊥
    never e = cc

-- ---- what was kept

module _ {D : Type 0} (tells : Type 0) (a b : BayState D) (v : Volume) (start count : ℕ) (kept : Keeping) (gathers : Gathers tells a b v start count [] kept) where
  pub none_kept : KeepsNone v start count kept
  none_kept element position sector bytes is = ⊎_elim (λ was. absurd (never_some was)) (λ may. may.holds_none) (gathers.added element position sector bytes is)

  pub given_them : tells → AreGivenThem (Failed a b) v a.held kept
  given_them tell element part position sector bytes cell is = ⊎_elim (λ was. absurd (never_some was)) (λ may. may.given tell part cell.is_part) (gathers.added element position sector bytes is)

  pub their_values : IsVolume v → tells → IsSure (Failed a b) v a.held → AreTheirValues v a.held kept
  their_values known tell sure element part position sector bytes cell is =
      let below : sector < part.shape.blocks = omega (arith, cell.below, depth_le part.shape.layout part.shape.strip part.shape.blocks) in
      ⊎_elim
      (λ never. value_read v known element part cell.is_part position sector below a b cell bytes (inl never) (given_them tell element part position sector bytes cell is))
      (λ redundant. value_redundant v known element part cell.is_part position sector below a b cell bytes redundant.0 redundant.1 (given_them tell element part position sector bytes cell is))
      sure

-- ---- why nothing is known

pub unkept_fault : {D : Type 0} (a b c : BayState D) (v : Volume) (start count : ℕ) → write_refusal v start count ≡ None → Within (Failed b c) (Failed a c) → (fault : LookFault)
    → IsUnkept (NoneLeftBeside (Failed b c) v start count) fault → IsLookFault a c v start count fault
unkept_fault a b c v start count accepted within (faults.Volume (Range most)) is = absurd is
unkept_fault a b c v start count accepted within (faults.Volume Lost) is = absurd is
unkept_fault a b c v start count accepted within (faults.Volume Unsure) is = absurd is
unkept_fault a b c v start count accepted within (faults.Volume Degraded) is = absurd is
unkept_fault a b c v start count accepted within (faults.Volume (Disk slot)) is = (accepted, beside_wider within v start count slot is)
unkept_fault a b c v start count accepted within faults.Memory is = tt
