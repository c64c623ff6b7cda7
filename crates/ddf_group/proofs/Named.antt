-- Slots whose copies name each disk and each array once.
use Rattle.std.proofs.Common.{ℕ, zero, suc, List, [], ◌∷◌, Option, Some, None, filter_map}
use Rattle.std.specs.List.{IsDistinct, cons_option}
use Rattle.std.specs.Prelude.{IfSome}
use Rattle.ddf_view.specs.View.{View}
use Rattle.ddf_view.specs.Readable.{DoNamesDiffer}
use Rattle.ddf_group.specs.declared.shown.Shown.{Shown}
use Rattle.ddf_group.specs.Names.{AreNamed, IsNamed}
use Rattle.ddf_group.specs.Slots.{slot_at, view_in}

pub named_at : (slots : List Shown) → AreNamed slots → (slot : ℕ) → IsNamed (slot_at slots slot)
named_at [] named slot = tt
named_at (shown ∷ slots) named zero = named.0
named_at (shown ∷ slots) named (suc slot) = named_at slots named.1 slot

-- the first of several views alone names disks and arrays
named_first : (o : Option View) (views : List View) → IfSome o (λ view. DoNamesDiffer (view ∷ [])) → DoNamesDiffer views → DoNamesDiffer (cons_option o views)
named_first None views one rest = rest
named_first (Some view) views one rest = record { references = one.references; guids = one.guids }

-- and so do those of some slots
pub named_views : (slots : List Shown) → AreNamed slots → (numbers : List ℕ) → DoNamesDiffer (filter_map (λ slot. view_in (slot_at slots slot)) numbers)
unfolding IsDistinct
named_views slots named [] = record { references = tt; guids = tt }
named_views slots named (slot ∷ numbers) =
    named_first (view_in (slot_at slots slot)) (filter_map (λ slot. view_in (slot_at slots slot)) numbers) (named_at slots named slot) (named_views slots named numbers)
