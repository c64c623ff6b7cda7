-- What a change makes of members: each keeps its disk, its size and its place.
use Rattle.std.proofs.Common.{◌≡◌, ℕ, ◌<◌, ◌^◌, List, [], ◌∷◌, length, map, Some, refl, ap, sym, ◌∙◌, subst}
use Rattle.std.specs.List.{AllByRecursion}
use Rattle.ddf_config.specs.declared.member.Member.{Member}
use Rattle.ddf_config.specs.declared.member.SpareUse.{SpareUse}
use Rattle.ddf_config.specs.Configuration.{Configuration}
use Rattle.ddf_config.specs.Entries.{changed_entries}
use Rattle.ddf_plan.specs.declared.change.Change.{Change}
use Rattle.ddf_plan.specs.Members.{member_after, members_after, use_after}
use Rattle.ddf_tables.specs.Rows.{is_unused}
use Rattle.ddf_rewrite.specs.Hold.{FitsMember}

-- A member stays the same but for its use and whether it is missing.
pub record KeepsMember (g : ℕ → Member → Member) (use_of : ℕ → SpareUse → SpareUse) : Type 0 where
  pub guid : (k : ℕ) (m : Member) → (g k m).guid ≡ m.guid
  pub size : (k : ℕ) (m : Member) → (g k m).size ≡ m.size
  pub spare : (k : ℕ) (m : Member) → (g k m).spare ≡ use_of k m.spare

-- The members after a change, one for each.
pub record AreAfter (config : Configuration) (change : Change) : Type 0 where
  pub g : ℕ → Member → Member
  pub are : members_after config change ≡ map (λ (entry : ℕ × Member). (entry.0, g entry.0 entry.1)) config.members
  pub keeps : KeepsMember g (use_after config change)

pub changed_map : (g : ℕ → Member → Member) (entries : List (ℕ × Member)) → changed_entries (λ k m. Some (g k m)) entries ≡ map (λ (entry : ℕ × Member). (entry.0, g entry.0 entry.1)) entries
changed_map g [] = refl
changed_map g (entry ∷ entries) = ap (λ l. (entry.0, g entry.0 entry.1) ∷ l) (changed_map g entries)

pub are_after : (config : Configuration) (change : Change) → AreAfter config change
are_after config change = record {
  g = member_after config change;
  are = changed_map (member_after config change) config.members;
  keeps = record { guid = λ k m. refl; size = λ k m. refl; spare = λ k m. refl };
}

module _ (g : ℕ → Member → Member) (use_of : ℕ → SpareUse → SpareUse) (keeps : KeepsMember g use_of) where
  pub keys_kept : (entries : List (ℕ × Member)) → map (λ (entry : ℕ × Member). entry.0) (map (λ (entry : ℕ × Member). (entry.0, g entry.0 entry.1)) entries) ≡ map (λ (entry : ℕ × Member). entry.0) entries
  keys_kept [] = refl
  keys_kept (entry ∷ entries) = ap (λ l. entry.0 ∷ l) (keys_kept entries)

  pub members_fit : (entries : List (ℕ × Member)) → AllByRecursion FitsMember entries → AllByRecursion FitsMember (map (λ (entry : ℕ × Member). (entry.0, g entry.0 entry.1)) entries)
  members_fit [] all = tt
  members_fit (entry ∷ entries) all = (
    record {
      guid = ap (λ (b : List ℕ). length b) (keeps.guid entry.0 entry.1) ∙ all.0.guid;
      used = ap (λ (b : List ℕ). is_unused b) (keeps.guid entry.0 entry.1) ∙ all.0.used;
      reference = all.0.reference;
      size = subst (λ (n : ℕ). n < 2 ^ 64) (sym (keeps.size entry.0 entry.1)) all.0.size;
    },
    members_fit entries all.1,
  )
