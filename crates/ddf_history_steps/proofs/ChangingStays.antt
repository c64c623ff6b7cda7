-- Members that a change leaves current.
use Rattle.std.proofs.Common.{◌≡◌, ℕ, Bool, true, false, not, ◌&&◌, ◌==◌, eqb, nat_eq, List, [], ◌∷◌, map, refl, ap, sym, ◌∙◌, subst}
use Rattle.std.proofs.lemmas.Bool.{and_from, and_parts, eq-eqb, eqb-true, true≢false}
use Rattle.std.specs.Map.{lookup}
use Rattle.std.specs.Option.{option_map_or}
use Rattle.std.specs.Str.{bytes_eq}
use Rattle.ddf_config.specs.declared.member.Member.{Member}
use Rattle.ddf_config.specs.Configuration.{Configuration}
use Rattle.ddf_config.specs.Members.{is_current}
use Rattle.ddf_plan.specs.declared.change.Change.{Change}
use Rattle.ddf_plan.specs.Members.{members_after}
use Rattle.ddf_plan.specs.Changes.{changed_at}
use Rattle.ddf_history.specs.Groups.{Disk, has_current}
use Rattle.ddf_steps.proofs.MembersAfter.{are_after}

-- Numbers that differ one way do so the other.
pub turned : (one other : ℕ) (test : Bool) → nat_eq other one ≡ test → eqb one other ≡ false → nat_eq other one ≡ false
turned one other true same differ = absurd (true≢false (sym (eq-eqb one other (sym (eqb-true other one same))) ∙ differ))
turned one other false same differ = same

-- whether a disk is a current member by these entries
abbrev is_listed : Disk → List (ℕ × Member) → Bool
is_listed disk members =
    option_map_or (λ (member : Member). bytes_eq member.guid disk.guid && not member.missing) (lookup (λ reference. reference == disk.reference) members) false

module _ (given : ℕ → Member → Member) (guids : (reference : ℕ) (member : Member) → (given reference member).guid ≡ member.guid) (disk : Disk) where
  -- the entries with what a change makes of each member
  abbrev all_given : List (ℕ × Member) → List (ℕ × Member)
  all_given members = map (λ (entry : ℕ × Member). (entry.0, given entry.0 entry.1)) members

  -- A disk that was a current member is one where its reference is current.
  still_listed : (members : List (ℕ × Member)) → is_listed disk members ≡ true → is_current (all_given members) disk.reference ≡ true
      → is_listed disk (all_given members) ≡ true
  still_listed [] was is = was
  still_listed (entry ∷ members) was is = go (still_listed members) (eqb entry.0 disk.reference) refl
    where
      go : (is_listed disk members ≡ true → is_current (all_given members) disk.reference ≡ true → is_listed disk (all_given members) ≡ true)
          → (here : Bool) → eqb entry.0 disk.reference ≡ here → is_listed disk (all_given (entry ∷ members)) ≡ true
      go later true here =
          let back : nat_eq disk.reference entry.0 ≡ true = eq-eqb disk.reference entry.0 (sym (eqb-true entry.0 disk.reference here)) in
          let parts = and_parts (bytes_eq entry.1.guid disk.guid) (not entry.1.missing) (rw here at was) in
          let named : bytes_eq (given entry.0 entry.1).guid disk.guid ≡ true =
          ap (λ (name : List ℕ). bytes_eq name disk.guid) (guids entry.0 entry.1) ∙ parts.0 in
          let present : not (given entry.0 entry.1).missing ≡ true = rw (back, is_current) at is in
          rw here (and_from _ _ named present)
      go later false here =
          let back : nat_eq disk.reference entry.0 ≡ false = turned entry.0 disk.reference (nat_eq disk.reference entry.0) refl here in
          rw here (later (rw here at was) (rw (back, is_current) at is))

-- A disk that was a current member is one after a change by which its reference is current.
pub stays_current : (config : Configuration) (change : Change) (sequence : ℕ) (disk : Disk) → has_current config disk ≡ true
    → is_current (members_after config change) disk.reference ≡ true → has_current (changed_at config change sequence) disk ≡ true
stays_current config change sequence disk was is =
    let after = are_after config change in
    let current = subst (λ (members : List (ℕ × Member)). is_current members disk.reference ≡ true) after.are is in
    subst (λ (members : List (ℕ × Member)). is_listed disk members ≡ true) (sym after.are)
    (still_listed after.g after.keeps.guid disk config.members was current)
