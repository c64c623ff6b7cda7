use Rattle.std.proofs.Common.{◌≡◌, Some, refl, sym, ap, ◌∙◌}
use Rattle.ddf_config.specs.declared.array.Array.{Array}
use Rattle.ddf_config.specs.declared.extent.Extent.{Extent}
use Rattle.ddf_config.specs.Extents.{extents}
use Rattle.ddf_config.specs.Unusable.{passes_floor}
use Rattle.ddf_plan.specs.declared.change.Change.TheVariants.{Begin}
use Rattle.ddf_plan.specs.Create.{lies_clear}
use Rattle.ddf_plan.specs.CreateRefusal.{references}
use Rattle.ddf_plan.specs.Lose.{is_among}
use Rattle.ddf_repair.specs.Begin.{begin_change}
use Rattle.ddf_repair.proofs.Begins.{extent_is, found_free, is_elsewhere, is_fresh, is_passed_over}
use Rattle.ddf_repair.proofs.laws.the_extent_of_a_rebuild_is_free.Goals as goal

pub returns-clause-clear : goal.returns-clause-clear
returns-clause-clear c = λ config guid seats aside target element position reference start array plan h here known.
    let change = Begin guid element position reference start in
    let fresh = is_fresh config guid seats aside target change h in
    ap (λ (one : Extent). lies_clear config.members (extents config.arrays) one) (sym (extent_is config guid seats aside change fresh element position reference start array plan refl here known))
    ∙ (found_free config guid seats aside change fresh).clear

pub returns-clause-below : goal.returns-clause-below
returns-clause-below c = λ config guid seats aside target element position reference start array plan h here known.
    let change = Begin guid element position reference start in
    let fresh = is_fresh config guid seats aside target change h in
    ap (λ (one : Extent). passes_floor seats one) (sym (extent_is config guid seats aside change fresh element position reference start array plan refl here known))
    ∙ (found_free config guid seats aside change fresh).below

pub returns-clause-elsewhere : goal.returns-clause-elsewhere
returns-clause-elsewhere c = λ config guid seats aside target element position reference start array h here.
    let change = Begin guid element position reference start in
    let fresh = is_fresh config guid seats aside target change h in
    let both : begin_change guid fresh.out fresh.found ≡ Begin guid element position reference start = fresh.change_is in
    let same_reference : fresh.found.reference ≡ reference = cc in
    let arrays : Some fresh.array ≡ Some array = sym fresh.is_array ∙ here in
    let same_array : fresh.array ≡ array = cc in
    ap (λ (one : Array). is_among (references one) reference) (sym same_array)
    ∙ ap (is_among (references fresh.array)) (sym same_reference)
    ∙ is_elsewhere config guid seats aside change fresh

pub returns-clause-passed_over : goal.returns-clause-passed_over
returns-clause-passed_over c = λ config guid seats aside target element position reference start h.
    let change = Begin guid element position reference start in
    let fresh = is_fresh config guid seats aside target change h in
    let both : begin_change guid fresh.out fresh.found ≡ Begin guid element position reference start = fresh.change_is in
    let same_reference : fresh.found.reference ≡ reference = cc in
    ap (is_among aside) (sym same_reference) ∙ is_passed_over config guid seats aside change fresh
