-- Why the log of a slot's disk isn't honoured.
use Rattle.std.specs.Prelude.{◌≡◌, ℕ, ◌-◌, List, Option, None, Result, Ok, Err, IfOk}
use Rattle.std.proofs.Common.{refl, sym, subst}
use Rattle.ddf_header.specs.declared.reading.Header.{Header}
use Rattle.ddf_copy.specs.declared.fault.AnchorFault.{AnchorFault}
use Rattle.ddf_copy.specs.Anchor.{anchor_at}
use Rattle.ddf_copy.specs.Copies.{copies_of}
use Rattle.ddf_logs.specs.declared.defect.LogDefect.{LogDefect}
use Rattle.ddf_logs.specs.Defects.{TellsDefect, TellsSlot, TellsUnder}

-- a slot with an anchor
pub anchored_ok : {E : Type 0} (size : ℕ) (sector : ℕ → List ℕ) (anchor : Header) → anchor_at size sector ≡ Ok anchor → (result : Result (Option LogDefect) E)
    → IfOk result (TellsDefect (size - 1) anchor (copies_of size sector anchor)) → IfOk result (TellsSlot size sector)
anchored_ok size sector anchor is (Ok found) tells = subst (λ (one : Result Header AnchorFault). TellsUnder size sector one found) (sym is) tells
anchored_ok size sector anchor is (Err fault) tells = tt

-- an empty slot has none
empty_of : (sector : ℕ → List ℕ) → TellsSlot 0 sector None
unfolding anchor_at
empty_of sector = refl

pub empty_told : (size : ℕ) (sector : ℕ → List ℕ) → size ≡ 0 → TellsSlot size sector None
empty_told size sector none = subst (λ (n : ℕ). TellsSlot n sector None) (sym none) (empty_of sector)
