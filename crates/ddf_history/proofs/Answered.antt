-- What assembly answers of a named group is what histories tell of.
use Rattle.std.proofs.Common.{◌≡◌, ℕ, Bool, true, false, List, length, Option, Some, None, Ok, Err, if◌then◌else◌, refl, sym, ◌∙◌, inl, inr, ⊎_elim}
use Rattle.std.proofs.lemmas.Bool.{false≢true}
use Rattle.std.specs.Option.{option_or}
use Rattle.ddf_config.specs.Configuration.{Configuration}
use Rattle.ddf_group.specs.declared.shown.Shown.{Shown as GroupShown}
use Rattle.ddf_group.specs.declared.answer.Assembly.{Assembly}
use Rattle.ddf_group.specs.declared.answer.Assembly.TheVariants as faults
use Rattle.ddf_group.specs.Assembled.{assembled, assembled_as, assembled_group, config_of, unless_contradicted}
use Rattle.ddf_group.specs.Choice.{chosen, is_shown}
use Rattle.ddf_group.specs.Conflicts.{contradiction, differing, split_in, twins, two_copies}
use Rattle.ddf_group.specs.Slots.{shows_group, slot_at}
use Rattle.ddf_history.specs.Answer.{Answer, HasConflict, HasSplit, IsAnswer, IsReadAs}
use Rattle.ddf_history.specs.Answer.Answer.{Conflict, Split}
use Rattle.ddf_history.specs.Answered.{AreOfOneGroup}
use Rattle.ddf_history.specs.Groups.{groups}
use Rattle.ddf_history.specs.Scenes.{answer_of, scene_in}
use Rattle.ddf_history.proofs.AnsweredConfig.{lowest_leader, reads_leaders, some_leader}
use Rattle.ddf_history.proofs.AnsweredConflicts.{copies_found, dispute_found, no_copies, no_dispute, no_split, no_twin, split_found, twins_found}
use Rattle.ddf_history.proofs.AnsweredLists.{none_below, some_below}
use Rattle.ddf_history.proofs.AnsweredSlots.{copy_within, slot_shows, slot_shows_by}

module _ (group : List ℕ) (slots : List GroupShown) (alike : AreOfOneGroup slots) where
  -- The answer is one that histories tell of.
  abbrev IsTold : Answer Configuration → Type 0
  IsTold answer = IsAnswer (groups group) (length slots) (scene_in slots) answer

  -- A conflict is told of.
  conflict_told : (answer : Answer Configuration) → answer ≡ Conflict → HasConflict (groups group) (scene_in slots) → IsTold answer
  conflict_told answer is has = rw is has

  -- A split is told of where there is no conflict.
  split_told : (answer : Answer Configuration) → answer ≡ Split → (HasConflict (groups group) (scene_in slots) → ⊥) → HasSplit (groups group) (scene_in slots) → IsTold answer
  split_told answer is none has = rw is (none, has)

  -- Where nothing contradicts the group, its leaders are read.
  config_told : (t : ℕ) → shows_group group (slot_at slots t) ≡ true → two_copies slots group ≡ None → (HasConflict (groups group) (scene_in slots) → ⊥) → (HasSplit (groups group) (scene_in slots) → ⊥) → IsReadAs (groups group) (length slots) (scene_in slots) (config_of slots group)
  config_told t shows one_copy no_conflict none_split =
      let by = slot_shows_by group slots alike t shows in
      let some = some_leader group slots alike t by.0 by.1 by.2 in
      let lowest = lowest_leader group slots alike some.0 some.1 some.2 in record {
        leader = lowest.0;
        leading = lowest.1;
        leads = lowest.2.leads;
        lowest = lowest.2.lowest;
        no_conflict = no_conflict;
        no_split = none_split;
        is_read = reads_leaders group slots alike one_copy lowest.0 lowest.1 lowest.2;
      }

  -- The answer of a group that a slot shows is told of.
  group_told : (t : ℕ) → shows_group group (slot_at slots t) ≡ true → IsTold (answer_of (unless_contradicted slots group (contradiction slots group)))
  unfolding contradiction assembled_as
  group_told t shows = by_copies (two_copies slots group) refl
    where
      by_split : two_copies slots group ≡ None → (HasConflict (groups group) (scene_in slots) → ⊥) → (o : Option Assembly) → split_in slots group ≡ o → IsTold (answer_of (unless_contradicted slots group (option_or o None)))
      by_split one_copy none (Some fault) is = let found = split_found group slots alike one_copy fault is in split_told (answer_of (Err fault)) found.0 none found.1
      by_split one_copy none None is = config_told t shows one_copy none (no_split group slots alike one_copy is)

      by_leaders : two_copies slots group ≡ None → twins slots group ≡ None → (o : Option Assembly) → differing slots group ≡ o → IsTold (answer_of (unless_contradicted slots group (option_or o (option_or (split_in slots group) None))))
      by_leaders one_copy no_twins (Some fault) is = let found = dispute_found group slots alike one_copy fault is in conflict_told (answer_of (Err fault)) found.0 (inr (inr found.1))
      by_leaders one_copy no_twins None is =
          by_split one_copy
          (⊎_elim (no_copies group slots alike one_copy) (⊎_elim (no_twin group slots alike no_twins) (no_dispute group slots alike one_copy is)))
          (split_in slots group)
          refl

      by_twins : two_copies slots group ≡ None → (o : Option Assembly) → twins slots group ≡ o → IsTold (answer_of (unless_contradicted slots group (option_or o (option_or (differing slots group) (option_or (split_in slots group) None)))))
      by_twins one_copy (Some fault) is = let found = twins_found group slots alike fault is in conflict_told (answer_of (Err fault)) found.0 (inr (inl found.1))
      by_twins one_copy None is = by_leaders one_copy is (differing slots group) refl

      by_copies : (o : Option Assembly) → two_copies slots group ≡ o → IsTold (answer_of (unless_contradicted slots group (option_or o (option_or (twins slots group) (option_or (differing slots group) (option_or (split_in slots group) None))))))
      by_copies (Some fault) is = let found = copies_found group slots alike fault is in conflict_told (answer_of (Err fault)) found.0 (inl found.1)
      by_copies None is = by_twins is (twins slots group) refl

  -- What assembly answers of a named group is told of.
  pub assembled_told : IsTold (answer_of (assembled slots (Some group)))
  unfolding assembled chosen
  assembled_told = go (is_shown slots group) refl
    where
      shows_at : ℕ → Bool
      shows_at slot = shows_group group (slot_at slots slot)

      go : (b : Bool) → is_shown slots group ≡ b → IsTold (answer_of (assembled_group slots (if b then Ok group else Err faults.NoGroup)))
      go true is = let some = some_below shows_at (length slots) is in group_told some.0 some.1
      go false is = λ slot copy is_copy standing. false≢true (sym (none_below shows_at (length slots) is slot (copy_within slots slot copy is_copy)) ∙ slot_shows group slots alike slot copy is_copy standing)
