-- The list of spots at a level that is known.
use Rattle.std.proofs.Common.{◌≡◌, ◌⊎◌, ⊎_elim, ℕ, ◌<◌, ◌≤◌, ◌↔◌, List, length, get_or, Option, None, Some, slice_get, subst, sym, ap, ◌∙◌, zero-add, arith}
use Rattle.std.proofs.lemmas.Option.{none-some}
use Rattle.ddf_lemmas.proofs.Options.{some_block}
use Rattle.ddf_secondary.specs.declared.element.ElementSize.{ElementSize}
use Rattle.ddf_secondary.specs.declared.level.SecondaryLevel.{SecondaryLevel}
use Rattle.ddf_secondary.specs.declared.spot.Spot.{Spot}
use Rattle.ddf_secondary.specs.Arrangement.{Arrangement, IsArray}
use Rattle.ddf_secondary.specs.Spots.{blocks, spots_by, spots_of, spots, HoldsBy, Holds, carried_by, carried_of, carried}
use Rattle.ddf_secondary.proofs.Blocks.{length-blocks, slice_get-blocks}
use Rattle.ddf_secondary.proofs.SpotFacts.{spot_facts, spots_of-single, spots_of-several, carried_of-single, carried_of-several}

pub single_spots : (tiers : Arrangement) (sizes : List ElementSize) (none : ElementSize) → sizes ≡ tiers.sizes → length sizes ≡ 1 → spots tiers ≡ blocks 0 (get_or sizes 0 none).capacity 0
unfolding spots
single_spots tiers sizes none is one =
    ap (spots_of tiers.level) (sym is) ∙ spots_of-single tiers.level sizes none one

pub level_spots : (tiers : Arrangement) (level : SecondaryLevel) (sizes : List ElementSize) → tiers.level ≡ level → sizes ≡ tiers.sizes → 1 ≤ length tiers.sizes → (length sizes ≡ 1 → ⊥) → spots tiers ≡ spots_by level sizes
unfolding spots
level_spots tiers level sizes level_is is some several =
    ap (spots_of tiers.level) (sym is) ∙ ap (λ (l : SecondaryLevel). spots_of l sizes) level_is ∙ spots_of-several level sizes (omega (arith, ap length is)) several

pub single_carried : (tiers : Arrangement) (sizes : List ElementSize) (none : ElementSize) (element : ℕ) → sizes ≡ tiers.sizes → length sizes ≡ 1 → carried tiers element ≡ (get_or sizes 0 none).capacity
single_carried tiers sizes none element is one =
    ap (λ (l : List ElementSize). carried_of tiers.level l element) (sym is) ∙ carried_of-single tiers.level sizes none element one

pub level_carried : (tiers : Arrangement) (level : SecondaryLevel) (sizes : List ElementSize) (element : ℕ) → tiers.level ≡ level → sizes ≡ tiers.sizes → 1 ≤ length tiers.sizes → (length sizes ≡ 1 → ⊥) → carried tiers element ≡ carried_by level sizes element
level_carried tiers level sizes element level_is is some several =
    ap (λ (l : List ElementSize). carried_of tiers.level l element) (sym is)
    ∙ ap (λ (l : SecondaryLevel). carried_of l sizes element) level_is ∙ carried_of-several level sizes element (omega (arith, ap length is)) several

pub own_spot_is : (count block : ℕ) → block < length (blocks 0 count 0) → slice_get (blocks 0 count 0) block ≡ Some (record { element = 0; block = block })
own_spot_is count block below =
    slice_get-blocks 0 count 0 block block (omega (arith, length-blocks 0 count 0)) (zero-add block)

-- a spot past the elements, or past what its element carries, holds no block
pub none_past : (tiers : Arrangement) (spot : Spot) → IsArray tiers.level tiers.sizes → (length tiers.sizes ≤ spot.element) ⊎ (carried tiers spot.element ≤ spot.block) → (block : ℕ) → (◌≡◌ {A = Option ℕ} None (Some block)) ↔ Holds tiers spot block
none_past tiers spot array past block =
    let facts = spot_facts tiers array in (
      λ e. absurd (none-some block e),
      λ holds. absurd
          (⊎_elim (λ h. omega (arith, facts.element_within spot block holds)) (λ h. omega (arith, facts.block_within spot block holds)) past),
    )

-- the level of a value that is seen as an arrangement
pub level_of : (inside tiers : Arrangement) (level : SecondaryLevel) → inside ≡ tiers → inside.level ≡ level → tiers.level ≡ level
level_of inside tiers level seen is = ap (λ (t : Arrangement). t.level) (sym seen) ∙ is

-- the block of a spot, by what the level says of it
pub level_holds : (tiers : Arrangement) (level : SecondaryLevel) (spot : Spot) (answer block : ℕ) → tiers.level ≡ level → (block ≡ answer) ↔ HoldsBy level tiers.sizes (spots tiers) spot block → (◌≡◌ {A = Option ℕ} (Some answer) (Some block)) ↔ Holds tiers spot block
level_holds tiers level spot answer block is both =
    some_block answer block (subst (λ (l : SecondaryLevel). (block ≡ answer) ↔ HoldsBy l tiers.sizes (spots tiers) spot block) (sym is) both)

pub array_at : (tiers : Arrangement) (level : SecondaryLevel) (sizes : List ElementSize) → tiers.level ≡ level → sizes ≡ tiers.sizes → IsArray tiers.level tiers.sizes → IsArray level sizes
array_at tiers level sizes level_is is array =
    subst (λ (l : List ElementSize). IsArray level l) (sym is) (subst (λ (l : SecondaryLevel). IsArray l tiers.sizes) level_is array)
