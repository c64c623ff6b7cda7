-- A bay that goes on from another one whose slots are seen through other masks.
use Rattle.std.specs.Prelude.{◌≡◌, ℕ, List, Option}
use Rattle.ddf_bay.specs.Sectors.{Image}
use Rattle.ddf_hidden_logs.specs.declared.mask.Mask.{Mask}
use Rattle.ddf_hidden_logs.specs.Masks.{mask_of, turn}

-- An image shows through some masks what an image that might be left shows through others.
pub record WasShown (Left : Image → Type 0) (before now : List (Option Mask)) (image : Image) : Type 0 where
  pub prior : Image
  pub was_left : Left prior
  pub same : (s l : ℕ) → turn (mask_of now s) l (image s l) ≡ turn (mask_of before s) l (prior s l)
