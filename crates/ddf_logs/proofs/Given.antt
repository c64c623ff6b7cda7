-- What the exchange of a log that is honoured gives, and that no slot's is refused which was looked at.
use Rattle.std.proofs.Common.{◌≡◌, ℕ, ◌<◌, true, List, [], length, Option, Some, None, refl, sym, ap, ◌∙◌}
use Rattle.std.specs.Prelude.{option_map, slice_index, slice_index_or, unwrap_or}
use Rattle.std.specs.Option.{option_map_or}
use Rattle.ddf_tables.specs.BadBlocks.{LogValue}
use Rattle.ddf_badblocks.specs.declared.range.Range.{Range}
use Rattle.ddf_badblocks.specs.declared.remapped.RemapFault.{RemapFault}
use Rattle.ddf_badblocks.specs.declared.remapped.RemapFault.TheVariants.{BadBlocks}
use Rattle.ddf_badblocks.specs.Bad.{FirstBad}
use Rattle.ddf_badblocks.specs.Fits.{ranges_of}
use Rattle.ddf_badblocks.specs.Ranges.{are_exchangeable}

by_log : (log : Option LogValue) → unwrap_or (option_map ranges_of log) [] ≡ option_map_or ranges_of log []
by_log (Some log) = refl
by_log None = refl

pub ranges_given : (found : Option (List Range)) (log : Option LogValue) → found ≡ option_map ranges_of log → unwrap_or found [] ≡ option_map_or ranges_of log []
ranges_given found log is = ap (λ (one : Option (List Range)). unwrap_or one []) is ∙ by_log log

-- ranges that can be exchanged on each slot are refused on none
pub never_bad : (sizes : List ℕ) (logs : List (List Range)) (fault : RemapFault) → ((s : ℕ) → s < length sizes → are_exchangeable (slice_index sizes s) (slice_index_or logs s []) ≡ true)
    → FirstBad sizes logs fault → ⊥
never_bad sizes logs (BadBlocks slot) can is = let both = sym (can slot is.there) ∙ is.cannot in absurd cc
