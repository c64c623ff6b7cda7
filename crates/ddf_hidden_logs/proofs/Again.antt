-- That a bay goes on from another one is seen through masks.
use Rattle.std.proofs.Common.{◌≡◌, ℕ, List, sym, ◌∙◌, ap}
use Rattle.std.specs.Prelude.{Option}
use Rattle.std.proofs.Math.Path.{fun_ext}
use Rattle.ddf_bay.specs.Sectors.{Image, Outcomes, IsLeft}
use Rattle.ddf_hidden_logs.specs.declared.mask.Mask.{Mask}
use Rattle.ddf_hidden_logs.specs.Masks.{mask_of, turn}
use Rattle.ddf_hidden_logs.specs.State.{shown_image}
use Rattle.ddf_hidden_logs.specs.TurnLaws.{turn_twice}
use Rattle.ddf_hidden_logs.specs.WasShown.{WasShown}

pub same_left : (masks other : List (Option Mask)) (might may : Outcomes) → other ≡ masks → ((image : Image) → IsLeft may image → IsLeft might image)
    → (image : Image) → ((s l : ℕ) → may s l (turn (mask_of other s) l (image s l))) → (s l : ℕ) → might s l (turn (mask_of masks s) l (image s l))
same_left masks other might may same below image left = below (shown_image masks image) (rw same at left)

pub one_left : (masks other : List (Option Mask)) (may : Outcomes) → other ≡ masks → (image : Image) → ((left : Image) → IsLeft may left → left ≡ shown_image masks image)
    → (left : Image) → ((s l : ℕ) → may s l (turn (mask_of other s) l (left s l))) → left ≡ image
one_left masks other may same image only left stays =
    let one = only (shown_image masks left) (rw same at stays) in
    fun_ext (λ s. fun_ext (λ l.
    sym (turn_twice (mask_of masks s) l (left s l))
    ∙ ap (λ (seen : Image). turn (mask_of masks s) l (seen s l)) one
    ∙ turn_twice (mask_of masks s) l (image s l)))

pub shown_left : (before now : List (Option Mask)) (might may : Outcomes) → ((image : Image) → IsLeft may image → WasShown (IsLeft might) before now image)
    → (image : Image) → ((s l : ℕ) → may s l (turn (mask_of now s) l (image s l))) → (s l : ℕ) → might s l (turn (mask_of before s) l (image s l))
shown_left before now might may below image left s l =
    let was = below (shown_image now image) left in
    let here : turn (mask_of before s) l (image s l) ≡ was.prior s l =
    ap (turn (mask_of before s) l) (sym (turn_twice (mask_of now s) l (image s l)) ∙ was.same s l) ∙ turn_twice (mask_of before s) l (was.prior s l) in
    rw here (was.was_left s l)
