use Rattle.std.proofs.Common.{◌≡◌, ◌++◌, take}
use Rattle.std.specs.List.{flat_map}
use Rattle.std.specs.String.{string_bytes}
use Rattle.ddf_text.proofs.listing.push_all.Given as goal

abbrev pub invariant-loop-item : goal.invariant-loop-item
invariant-loop-item g l = string_bytes l.text ≡ string_bytes l.initial.text ++ flat_map g.T.Listed.text_of (take l.item-index l.items)
