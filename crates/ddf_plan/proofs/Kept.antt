-- What a change keeps of members, whichever it is.
use Rattle.std.proofs.Common.{◌≡◌, ℕ, Bool, true, false, not, List, [], ◌∷◌, Some, None, nat_eq, cond, refl, ap}
use Rattle.std.specs.Map.{lookup, keys_of}
use Rattle.ddf_lemmas.proofs.Tests.{or_second}
use Rattle.ddf_config.specs.declared.member.Member.{Member}
use Rattle.ddf_config.specs.Configuration.{Configuration}
use Rattle.ddf_config.specs.Entries.{changed_entries}
use Rattle.ddf_config.specs.Members.{is_current}
use Rattle.ddf_plan.specs.declared.change.Change.{Change}
use Rattle.ddf_plan.specs.Lose.{is_among}
use Rattle.ddf_plan.specs.Members.{lost_by, member_after, members_after}

module _ (g : ℕ → Member → Member) where
  pub keys_kept : (es : List (ℕ × Member)) → keys_of (changed_entries (λ k m. Some (g k m)) es) ≡ keys_of es
  keys_kept [] = refl
  keys_kept (e ∷ es) = ap (λ keys. e.0 ∷ keys) (keys_kept es)

  pub current_before : ((k : ℕ) (m : Member) → (g k m).missing ≡ false → m.missing ≡ false) → (es : List (ℕ × Member)) (reference : ℕ) → is_current (changed_entries (λ k m. Some (g k m)) es) reference ≡ true → is_current es reference ≡ true
  current_before stays [] reference h = h
  current_before stays (e ∷ es) reference h = by (nat_eq reference e.0) (current_before stays es reference) h
    where
      here : (a b : Bool) → (a ≡ false → b ≡ false) → not a ≡ true → not b ≡ true
      here false b f h = ap not (f refl)
      here true b f h = absurd (cc)

      by : (b : Bool) → (is_current (changed_entries (λ k m. Some (g k m)) es) reference ≡ true → is_current es reference ≡ true) → (elim (cond b (Some (g e.0 e.1)) (lookup (nat_eq reference) (changed_entries (λ k m. Some (g k m)) es))) [ None ↦ false | Some member ↦ not member.missing ]) ≡ true → (elim (cond b (Some e.1) (lookup (nat_eq reference) es)) [ None ↦ false | Some member ↦ not member.missing ]) ≡ true
      by true rest at = here (g e.0 e.1).missing e.1.missing (stays e.0 e.1) at
      by false rest at = rest at

-- a member that isn't missing after a change wasn't before it
pub missing_stays : (config : Configuration) (change : Change) (k : ℕ) (m : Member) → (member_after config change k m).missing ≡ false → m.missing ≡ false
missing_stays config change k m h = or_second (is_among (lost_by change) k) m.missing h

pub members_keys : (config : Configuration) (change : Change) → keys_of (members_after config change) ≡ keys_of config.members
members_keys config change = keys_kept (member_after config change) config.members

pub current_stays : (config : Configuration) (change : Change) (reference : ℕ) → is_current (members_after config change) reference ≡ true → is_current config.members reference ≡ true
current_stays config change reference h =
    current_before (member_after config change) (missing_stays config change) config.members reference h
