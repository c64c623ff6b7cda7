-- The members of a configuration of which some are lost.
use Rattle.std.proofs.Common.{◌≡◌, ℕ, zero, suc, Bool, true, false, ◌||◌, List, [], ◌∷◌, Some, refl, ap, sym, ◌∙◌}
use Rattle.std.specs.Prelude.{slice_get}
use Rattle.ddf_config.specs.declared.member.Member.{Member}
use Rattle.ddf_config.specs.Configuration.{Configuration}
use Rattle.ddf_config.specs.Entries.{changed_entries}
use Rattle.ddf_plan.specs.declared.change.Change.TheVariants.{Lose}
use Rattle.ddf_plan.specs.Lose.{is_among}
use Rattle.ddf_plan.specs.Members.{member_after, members_after}
use Rattle.ddf_assembly.proofs.LeftMembers.{AreApart, IsCurrentIn}

module _ (config : Configuration) (lost : List ℕ) where
  abbrev made : ℕ → Member → Member
  made reference member = member_after config (Lose lost) reference member

  abbrev all_made : List (ℕ × Member) → List (ℕ × Member)
  all_made members = changed_entries (λ reference member. Some (made reference member)) members

  get_made : (members : List (ℕ × Member)) (i : ℕ) (entry : ℕ × Member) → slice_get members i ≡ Some entry → slice_get (all_made members) i ≡ Some (entry.0, made entry.0 entry.1)
  get_made [] i entry at = absurd cc
  get_made (e ∷ es) zero entry at = let same : e ≡ entry = cc in ap (λ (one : ℕ × Member). Some (one.0, made one.0 one.1)) same
  get_made (e ∷ es) (suc i) entry at = get_made es i entry at

  made_get : (members : List (ℕ × Member)) (i : ℕ) (entry : ℕ × Member) → slice_get (all_made members) i ≡ Some entry → (m : Member) × (slice_get members i ≡ Some (entry.0, m)) × (entry.1 ≡ made entry.0 m)
  made_get [] i entry at = absurd cc
  made_get (e ∷ es) zero entry at =
      let same : (e.0, made e.0 e.1) ≡ entry = cc in
      let key : e.0 ≡ entry.0 = ap (λ (one : ℕ × Member). one.0) same in
      (e.1, ap (λ (n : ℕ). Some (n, e.1)) key, sym (ap (λ (one : ℕ × Member). one.1) same) ∙ ap (λ (n : ℕ). made n e.1) key)
  made_get (e ∷ es) (suc i) entry at = made_get es i entry at

  -- Each reference is of one member still.
  pub lost_apart : AreApart config.members → AreApart (members_after config (Lose lost))
  lost_apart apart i j one other at also same =
      let first = made_get config.members i one at in
      let second = made_get config.members j other also in
      let both = apart i j (one.0, first.0) (other.0, second.0) first.1 second.1 same in
      let members : first.0 ≡ second.0 = ap (λ (entry : ℕ × Member). entry.1) both in
      let values : one.1 ≡ other.1 = first.2 ∙ ap (λ (n : ℕ). made n first.0) same ∙ ap (λ (m : Member). made other.0 m) members ∙ sym second.2 in
      let keys : (one.0, one.1) ≡ (other.0, one.1) = ap (λ (n : ℕ). (n, one.1)) same in
      keys ∙ ap (λ (m : Member). (other.0, m)) values

  -- A current member that isn't lost stays one.
  pub lost_stays : (guid : List ℕ) (reference : ℕ) → IsCurrentIn config.members guid reference → is_among lost reference ≡ false → IsCurrentIn (members_after config (Lose lost)) guid reference
  lost_stays guid reference is kept = record {
    place = is.place;
    member = made reference is.member;
    at = get_made config.members is.place (reference, is.member) is.at;
    same_guid = is.same_guid;
    is_here = ap (λ b. b || is.member.missing) kept ∙ is.is_here;
  }

  -- A member that isn't missing then wasn't, and isn't lost.
  pub lost_was : (i : ℕ) (entry : ℕ × Member) → slice_get (members_after config (Lose lost)) i ≡ Some entry → entry.1.missing ≡ false
      → (m : Member) × (slice_get config.members i ≡ Some (entry.0, m)) × (m.missing ≡ false) × (is_among lost entry.0 ≡ false)
  lost_was i entry at here =
      let was = made_get config.members i entry at in
      let both = neither (is_among lost entry.0) was.0.missing (sym (ap (λ (m : Member). m.missing) was.2) ∙ here) in
      (was.0, was.1, both.1, both.0)
    where
      neither : (a b : Bool) → (a || b) ≡ false → (a ≡ false) × (b ≡ false)
      neither true b h = absurd cc
      neither false b h = (refl, h)
