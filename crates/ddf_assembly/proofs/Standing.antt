-- Newest copies that can be written again under the anchors of their slots, read one after another.
use Rattle.std.proofs.Common.{◌≡◌, ℕ, List, [], ◌∷◌, ◌++◌, length, Option, Some, sym, subst, ◌∙◌, ⊎_elim}
use Rattle.std.specs.Prelude.{IfSome}
use Rattle.ddf_bay.specs.State.{BayState}
use Rattle.ddf_copy.specs.declared.newest_copy.Newest.{Newest}
use Rattle.ddf_assembly.specs.Held.{StandUnder, StandsUnder}
use Rattle.ddf_seats.proofs.Lists.{get_more}

-- what a slot's newest copy stands under at a later read is so at the first one
pub stands_on : {D : Type 0} (old now : BayState D) (slot : ℕ) (one : Option Newest) → now.sizes ≡ old.sizes → now.held ≡ old.held → IfSome one (StandsUnder now slot) → IfSome one (StandsUnder old slot)
stands_on old now slot one sizes held stands = rw (sizes, held) at stands

-- one slot more
pub stand_more : {D : Type 0} (old : BayState D) (all : List (Option Newest)) (slot : ℕ) (one : Option Newest) → length all ≡ slot → StandUnder old all → IfSome one (StandsUnder old slot)
    → StandUnder old (all ++ one ∷ [])
stand_more old all slot one counted stand stands k newest at =
    ⊎_elim (λ before. stand k newest before)
    (λ last.
    let here : slot ≡ k = sym counted ∙ sym last.0 in
    subst (λ (n : ℕ). StandsUnder old n newest) here (subst (λ (x : Option Newest). IfSome x (StandsUnder old slot)) last.1 stands))
    (get_more all one (Some newest) k at)
