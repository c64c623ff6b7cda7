-- The loss of the absent members of an assembled group: nothing refuses it, and copies can hold what it gives.
use Rattle.std.proofs.Common.{◌≡◌, ℕ, Bool, true, false, not, cond, List, [], ◌∷◌, Option, Some, None, refl, ap}
use Rattle.std.specs.Prelude.{find, option_map}
use Rattle.std.specs.List.{AllByRecursion}
use Rattle.ddf_config.specs.declared.refusal.Refusal.TheVariants.{NotMember}
use Rattle.ddf_config.specs.declared.seat.Seat.{Seat}
use Rattle.ddf_config.specs.Configuration.{Configuration}
use Rattle.ddf_config.specs.Members.{is_current}
use Rattle.ddf_config.specs.Refusals.{first_refusal}
use Rattle.ddf_config.specs.Seats.{slot_of}
use Rattle.ddf_plan.specs.declared.change.Change.TheVariants.{Lose}
use Rattle.ddf_plan.specs.Causes.{causes}
use Rattle.ddf_assembly.specs.Assembled.{IsAssembledGroup}
use Rattle.ddf_seats.specs.Group.{GroupValue}
use Rattle.ddf_recovery.specs.Recovery.{config_lost, loss}
use Rattle.ddf_steps.specs.Refusing.{most_members}
use Rattle.ddf_seats.specs.Seated.{seated, seats_in}
use Rattle.ddf_seats.specs.Changing.{CanBeHeldOn}
use Rattle.ddf_steps.proofs.Following.{next_held}
use Rattle.ddf_assembly.proofs.Leaders.{held_on}

-- Where each passes a test, none is found that fails it.
none_fails : {X : Type 0} (test : X → Bool) (xs : List X) → AllByRecursion (λ x. test x ≡ true) xs → find (λ x. not (test x)) xs ≡ None
none_fails test [] all = refl
none_fails {X = X} test (x ∷ xs) all = by (test x) all.0 (none_fails test xs all.1)
  where
    by : (b : Bool) → b ≡ true → find (λ y. not (test y)) xs ≡ None → cond (not b) (Some x) (find (λ y. not (test y)) xs) ≡ None
    by true e rest = rest
    by false e rest = absurd cc

-- The loss of current members isn't refused.
loss_free : (most : Option ℕ) (config : Configuration) (references : List ℕ) (seats : List Seat) → AllByRecursion (λ reference. is_current config.members reference ≡ true) references
    → causes most config (Lose references) seats ≡ None
unfolding causes
loss_free most config references seats are =
    ap (λ (found : Option ℕ). first_refusal (option_map (λ reference. NotMember (slot_of seats reference)) found ∷ [])) (none_fails (is_current config.members) references are)

-- The copies of the disks can hold what it gives, where their records have one length.
pub lost_held : (group : GroupValue) → IsAssembledGroup group → CanBeHeldOn (config_lost group) (seated group)
lost_held group is =
    next_held group.config (seated group) (loss group) is.are_copies (held_on group is) tt
    (loss_free (Some (most_members (seated group))) group.config group.absent (seats_in (seated group)) is.are_current)
