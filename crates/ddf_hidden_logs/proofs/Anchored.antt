-- The mask of a slot by its anchor.
use Rattle.std.proofs.Common.{◌≡◌, ℕ, List, Ok, ap, refl, subst, sym}
use Rattle.std.specs.Prelude.{◌-◌, None, Err}
use Rattle.ddf_header.specs.declared.reading.Header.{Header}
use Rattle.ddf_copy.specs.declared.fault.AnchorFault.{AnchorFault}
use Rattle.ddf_copy.specs.Anchor.{anchor_at}
use Rattle.ddf_copy.specs.Copies.{copies_of}
use Rattle.ddf_hidden_logs.specs.Shown.{mask_at, mask_by_anchor, mask_in}

pub mask_is : (size : ℕ) (sector : ℕ → List ℕ) (anchor : Header) → anchor_at size sector ≡ Ok anchor → mask_at size sector ≡ mask_in (size - 1) anchor (copies_of size sector anchor)
unfolding mask_at
mask_is size sector anchor is = ap (mask_by_anchor size sector) is

pub none_is : (size : ℕ) (sector : ℕ → List ℕ) (fault : AnchorFault) → anchor_at size sector ≡ Err fault → mask_at size sector ≡ None
unfolding mask_at
none_is size sector fault is = ap (mask_by_anchor size sector) is

none_of_none : (sector : ℕ → List ℕ) → mask_at 0 sector ≡ None
unfolding mask_at anchor_at
none_of_none sector = refl

-- a slot without sectors has none
pub none_on_empty : (size : ℕ) (sector : ℕ → List ℕ) → size ≡ 0 → mask_at size sector ≡ None
none_on_empty size sector none = subst (λ (n : ℕ). mask_at n sector ≡ None) (sym none) (none_of_none sector)
