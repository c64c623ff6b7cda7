-- What is absent of a group that disks give are current members of it.
use Rattle.std.proofs.Common.{◌≡◌, ℕ, Bool, true, false, not, ◌∙◌, List, [], ◌∷◌, map, filter, filter_map, nat_eq, Option, Some, None, Result, Ok, Err, refl, ap, sym, subst}
use Rattle.std.proofs.lemmas.Bool.{and_parts}
use Rattle.std.specs.Prelude.{IfSome, slice_get}
use Rattle.std.specs.List.{AllByRecursion, IsDistinct, cons_option, list_any}
use Rattle.ddf_lemmas.proofs.Lists.{all_from, filter_get, filter_pass}
use Rattle.ddf_bay.specs.State.{BayState}
use Rattle.ddf_tables.specs.declared.disks.DiskEntry.{DiskEntry}
use Rattle.ddf_copy.specs.declared.newest_copy.Newest.{Newest}
use Rattle.ddf_config.specs.declared.member.Member.{Member}
use Rattle.ddf_config.specs.Configuration.{Configuration}
use Rattle.ddf_config.specs.Members.{is_current}
use Rattle.ddf_view.specs.Readable.{DoNamesDiffer}
use Rattle.ddf_view.specs.Reading.{disks_in, member_entry_in, read}
use Rattle.ddf_view.specs.View.{View}
use Rattle.ddf_group.specs.declared.answer.Assembly.{Assembly}
use Rattle.ddf_group.specs.declared.shown.Shown.{Shown}
use Rattle.ddf_group.specs.Assembled.{absent, assembled, assembled_as, assembled_group, config_of, has_reference, is_absent, leading_views, unless_contradicted}
use Rattle.ddf_group.specs.Choice.{chosen}
use Rattle.ddf_group.specs.Conflicts.{contradiction}
use Rattle.ddf_group.specs.Names.{AreNamed, IsNamed}
use Rattle.ddf_group.specs.Shown.{shown_of}
use Rattle.ddf_group.specs.Slots.{claimed, leaders, leads, numbers, slot_at, view_in}
use Rattle.ddf_group.proofs.Named.{named_at}
use Rattle.ddf_rewrite.proofs.Lists.{all_at, all_mapped}
use Rattle.ddf_rewrite.proofs.ReadCan.{same_names}
use Rattle.ddf_seats.specs.Group.{GroupValue}
use Rattle.ddf_assembly.specs.Group.{group_as, group_of, group_or_fault}
use Rattle.ddf_assembly.specs.Slots.{newest_from}
use Rattle.ddf_assembly.proofs.AssembledLists.{first_of_reference}
use Rattle.ddf_assembly.proofs.ClaimedLeaders.{leader_view}
use Rattle.ddf_history_behind.specs.Behind.{AbsentAreCurrent}
use Rattle.ddf_history_behind.proofs.Named.{are_named}

-- ---- slots that nothing contradicts

module _ (slots : List Shown) (named : AreNamed slots) (guid : List ℕ) (none : contradiction slots guid ≡ None) where
  abbrev config : Configuration
  config = config_of slots guid

  first_leads : (first : ℕ) (rest : List ℕ) → leaders slots guid ≡ first ∷ rest → leads slots guid first ≡ true
  unfolding leaders
  first_leads first rest e = (subst (λ (all : List ℕ). AllByRecursion (λ slot. leads slots guid slot ≡ true) all) e (filter_pass (leads slots guid) (numbers slots))).0

  -- The references that the lowest leader lists are apart.
  led_apart : (leading : List ℕ) → leaders slots guid ≡ leading → IsDistinct nat_eq (map (λ (disk : DiskEntry). disk.reference) (disks_in (filter_map (λ slot. view_in (slot_at slots slot)) leading)))
  unfolding leaders IsDistinct
  led_apart [] e = tt
  led_apart (first ∷ rest) e =
      let own = leader_view slots named guid none first (first_leads first rest e) in
      let names : IsNamed (slot_at slots first) = named_at slots named first in
      let apart : DoNamesDiffer (own.view ∷ []) = subst (λ (found : Option View). IfSome found (λ view. DoNamesDiffer (view ∷ []))) own.is_shown names in
      subst (λ (found : Option View). IsDistinct nat_eq (map (λ (disk : DiskEntry). disk.reference) (disks_in (cons_option found (filter_map (λ slot. view_in (slot_at slots slot)) rest))))) (sym own.is_shown)
      apart.references

  -- So are those of the configuration's members.
  members_apart : IsDistinct nat_eq (map (λ (entry : ℕ × Member). entry.0) config.members)
  unfolding config_of read
  members_apart =
      let views = leading_views slots guid in
      subst (λ (all : List ℕ). IsDistinct nat_eq all) (sym (same_names (member_entry_in views) (λ (disk : DiskEntry). disk.reference) (λ disk. refl) (disks_in views))) (led_apart (leaders slots guid) refl)

  module _ (seats : List ℕ) where
    current_each : (members : List (ℕ × Member)) → ((i : ℕ) (entry : ℕ × Member) → slice_get members i ≡ Some entry → is_absent slots seats entry ≡ true → is_current config.members entry.0 ≡ true)
        → AllByRecursion (λ reference. is_current config.members reference ≡ true) (absent slots seats members)
    current_each members each =
        all_mapped (λ (reference : ℕ). is_current config.members reference ≡ true) (λ (entry : ℕ × Member). entry.0) (filter (is_absent slots seats) members)
        (all_from (λ (entry : ℕ × Member). is_current config.members entry.0 ≡ true) (filter (is_absent slots seats) members)
        (λ k entry at.
        let passes = all_at (λ (one : ℕ × Member). is_absent slots seats one ≡ true) (filter (is_absent slots seats) members) k entry (filter_pass (is_absent slots seats) members) at in
        let place = filter_get (is_absent slots seats) members k entry at in
        each place.0 entry place.1 passes))

    -- A member that has no seat is looked up by its reference, for no other has it.
    absent_current : AllByRecursion (λ reference. is_current config.members reference ≡ true) (absent slots seats config.members)
    absent_current = current_each config.members (λ i entry at passes.
        let parts = and_parts (not entry.1.missing) (not (list_any (has_reference slots entry.0) seats)) passes in
        ap (λ (found : Option Member). elim found [ None ↦ false | Some member ↦ not member.missing ]) (first_of_reference config.members members_apart i entry at) ∙ parts.0)

-- ---- what is found

found_current : (newest : List (Option Newest)) (named : Option (List ℕ)) (found : GroupValue) → AreNamed (map shown_of newest) → group_of newest named ≡ Ok found → AbsentAreCurrent found
unfolding group_of assembled assembled_as
found_current newest named found are is = by (chosen (map shown_of newest) named) is
  where
    by_fault : (guid : List ℕ) (fault : Option Assembly) → contradiction (map shown_of newest) guid ≡ fault
        → group_or_fault newest (unless_contradicted (map shown_of newest) guid fault) ≡ Ok found → AbsentAreCurrent found
    by_fault guid None none made =
        let same : group_as newest (assembled_as (map shown_of newest) (claimed (map shown_of newest) guid) (config_of (map shown_of newest) guid)) ≡ found = cc in
        subst AbsentAreCurrent same (absent_current (map shown_of newest) are guid none (claimed (map shown_of newest) guid))
    by_fault guid (Some fault) some made = absurd cc

    by : (answer : Result (List ℕ) Assembly) → group_or_fault newest (assembled_group (map shown_of newest) answer) ≡ Ok found → AbsentAreCurrent found
    by (Ok guid) made = by_fault guid (contradiction (map shown_of newest) guid) refl made
    by (Err fault) made = absurd cc

-- What is absent of a group that disks give are current members.
pub disks_current : {D : Type 0} (disks : BayState D) (left : List Bool) (named : Option (List ℕ)) (found : GroupValue) → group_of (newest_from disks 0 left) named ≡ Ok found → AbsentAreCurrent found
disks_current disks left named found is = found_current (newest_from disks 0 left) named found (are_named disks 0 left) is
