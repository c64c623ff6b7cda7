-- How a rebuild begins: its first steps, and the position between them and the rows.
use Rattle.std.proofs.Common.{◌≡◌, ◌∙◌, ⊎_elim, ℕ, true, false, List, [], ◌∷◌, ◌++◌, Option, Some, None, Ok, refl, ap, sym, subst}
use Rattle.std.proofs.lemmas.Bool.{false≢true}
use Rattle.std.specs.Prelude.{option_to_list}
use Rattle.std.specs.Map.{lookup}
use Rattle.ddf_lemmas.proofs.Options.{some_is}
use Rattle.ddf_bay.specs.Sectors.{Image}
use Rattle.ddf_config.specs.declared.array.Array.{Array}
use Rattle.ddf_config.specs.declared.seat.Seat.{Seat}
use Rattle.ddf_config.specs.Configuration.{Configuration}
use Rattle.ddf_config.specs.Members.{is_current, same_guid}
use Rattle.ddf_plan.specs.declared.change.Change.{Change}
use Rattle.ddf_plan.specs.declared.change.Change.TheVariants.{Begin}
use Rattle.ddf_plan.specs.Changes.{changed_at}
use Rattle.ddf_plan.specs.Members.{member_after}
use Rattle.ddf_plan.specs.Same.{is_step}
use Rattle.ddf_array.specs.Viewing.{view_of}
use Rattle.ddf_data_group.specs.Clearing.{IsFirstOf}
use Rattle.ddf_data_group.specs.Grouped.{Promises}
use Rattle.ddf_data_group.proofs.Entries.{current_same}
use Rattle.ddf_data_group.proofs.Firsts.{first_again, first_begun, first_fresh}
use Rattle.ddf_data_group.proofs.Vacant.{asks_for}
use Rattle.ddf_history.specs.Groups.{Disk, has_current}
use Rattle.ddf_seats.specs.Group.{GroupValue}
use Rattle.ddf_recovery.specs.Ready.{readied}
use Rattle.ddf_recovery.specs.Recovery.{config_recovered}
use Rattle.ddf_steps.specs.Steps.{config_after}
use Rattle.ddf_data_calls.specs.Calls.{MayAsk}
use Rattle.ddf_read_commands.proofs.ArrayUse.{named_is}
use Rattle.ddf_rebuild_command.specs.Asked.{changes_behind}
use Rattle.ddf_rebuild_command.specs.Planned.{IsPlanned}
use Rattle.ddf_rebuild_command.specs.Rounds.{steps_of}
use Rattle.ddf_group_commands.specs.Requests.{linux_members}
use Rattle.ddf_rebuild_command.specs.PassedOver.{passed_over}
use Rattle.ddf_rebuild_command.proofs.Beginnings.{Beginning, beginning, goes_on, spares}
use Rattle.ddf_rebuild_command.proofs.Begun.{fresh_out, fresh_steps}
use Rattle.ddf_rebuild_command.proofs.PlanMade.{kept_is}
use Rattle.ddf_rebuild_command.proofs.Steps.{IsOutAt}
use Rattle.ddf_rebuild_command.proofs.Targets.{is_again, is_fresh_at}
use Rattle.ddf_data_calls.proofs.Split as split
use Rattle.ddf_data_calls.proofs.Standing.{kept_current}

-- the first of these changes, if there is one
abbrev pub mark_in : List Change → Option Change
mark_in [] = None
mark_in (change ∷ changes) = Some change

pub none_some : {A X : Type 0} (o : Option X) (x : X) → o ≡ None → o ≡ Some x → A
none_some o x a b = absurd cc

module _ (group : List ℕ) (found : GroupValue) (timestamp : ℕ) (word : List ℕ) (plan : IsPlanned found timestamp word) where
  abbrev config : Configuration
  config = config_recovered found

  abbrev pub mark : Option Change
  mark = mark_in plan.before

  abbrev pub asked : List Change
  asked = changes_behind plan.entry plan.target plan.kept

  abbrev Begins : Type 0
  Begins = Beginning (config_recovered found) found.seats (passed_over (linux_members found) plan.entry.1) plan.entry plan.target plan.kept plan.before

  begins : Begins
  begins = beginning (config_recovered found) found.seats (passed_over (linux_members found) plan.entry.1) plan.entry plan.target plan.kept plan.before plan.begins

  before_is : plan.before ≡ option_to_list (mark_in plan.before)
  before_is = by begins
    where
      by : Begins → plan.before ≡ option_to_list (mark_in plan.before)
      by (goes_on h kept before) = subst (λ (changes : List Change). changes ≡ option_to_list (mark_in changes)) (sym before) refl
      by (spares change h kept before) = subst (λ (changes : List Change). changes ≡ option_to_list (mark_in changes)) (sym before) refl

  pub are_first : readied found (option_to_list (mark_in plan.before)) timestamp ≡ Ok plan.first
  are_first = ap (λ (changes : List Change). readied found changes timestamp) (sym before_is) ∙ plan.are_first

  pub are_all : readied found (option_to_list (mark_in plan.before) ++ changes_behind plan.entry plan.target plan.kept) timestamp ≡ Ok (plan.first ++ steps_of plan.rounds)
  are_all = ap (λ (changes : List Change). readied found (changes ++ changes_behind plan.entry plan.target plan.kept) timestamp) (sym before_is) ∙ plan.are_readied

  -- the configuration between the first steps and the rows
  abbrev pub between : Configuration
  between = split.between found timestamp (mark_in plan.before) (changes_behind plan.entry plan.target plan.kept) plan.first (steps_of plan.rounds) are_first are_all

  pub is_view : view_of between plan.entry.0 found.seats ≡ Ok plan.volume
  is_view =
      ap (λ (c : Configuration). view_of c plan.entry.0 found.seats)
      (sym (split.between_is found timestamp (mark_in plan.before) (changes_behind plan.entry plan.target plan.kept) plan.first (steps_of plan.rounds) are_first are_all)) ∙ plan.is_view

  found_entry : lookup (same_guid plan.entry.0) (config_recovered found).arrays ≡ Some plan.entry.1
  found_entry = named_is (config_recovered found).arrays word plan.entry plan.is_named

  -- ---- what is known of it

  pub record HasBegun : Type 0 where
    -- the change before the rows, if there is one, has what it asks for
    pub may : (seats : List Seat) (image : Image) (promises : Promises) → MayAsk (config_recovered found) seats image promises (mark_in plan.before)
    pub current : (disk : Disk) → has_current between disk ≡ has_current (config_recovered found) disk
    pub members : (reference : ℕ) → is_current (between).members reference ≡ is_current (config_recovered found).members reference
    -- the position is out of sync, with the rows that are kept, and no earlier one of its element is
    pub out : IsOutAt between plan.entry.0 plan.target.element plan.target.position plan.kept
    pub first : (array : Array) → lookup (same_guid plan.entry.0) (between).arrays ≡ Some array → IsFirstOf array plan.target.element plan.target.position

  -- on the same disk
  again : (before : plan.before ≡ []) → between ≡ config_recovered found
  again before = ⊎_elim
      (λ same. same)
      (λ (made : (change : Change) × (mark_in plan.before ≡ Some change) × (between ≡ config_after (config_recovered found) change)).
      none_some (mark_in plan.before) made.0 (ap mark_in before) made.1)
      (split.between_config found timestamp (mark_in plan.before) (changes_behind plan.entry plan.target plan.kept) plan.first (steps_of plan.rounds) are_first are_all)

  -- on a spare
  begun_by : (change : Change) → plan.before ≡ change ∷ [] → is_step (config_recovered found) change ≡ true → between ≡ config_after (config_recovered found) change
  begun_by change before steps = ⊎_elim
      (λ (none : (between ≡ config_recovered found) × ((one : Change) → mark_in plan.before ≡ Some one → is_step (config_recovered found) one ≡ false)).
      absurd (false≢true (sym (none.1 change (ap mark_in before)) ∙ steps)))
      (λ (made : (one : Change) × (mark_in plan.before ≡ Some one) × (between ≡ config_after (config_recovered found) one)).
      made.2 ∙ ap (config_after (config_recovered found)) (some_is (sym made.1 ∙ ap mark_in before)))
      (split.between_steps found timestamp (mark_in plan.before) (changes_behind plan.entry plan.target plan.kept) plan.first (steps_of plan.rounds) are_first are_all)

  pub has_begun : HasBegun
  has_begun = by begins
    where
      by : Begins → HasBegun
      by (goes_on h kept before) =
          let same = again before in
          let first = (is_again (config_recovered found) plan.entry.0 found.seats _ plan.target h).first in
          let view : view_of (config_recovered found) plan.entry.0 found.seats ≡ Ok plan.volume = ap (λ (c : Configuration). view_of c plan.entry.0 found.seats) (sym same) ∙ is_view in
          let row = kept_is (config_recovered found) plan.entry.0 found.seats plan.volume view plan.target first plan.entry.1 found_entry in
          let out : IsOutAt (config_recovered found) plan.entry.0 plan.target.element plan.target.position plan.kept =
          record { held = first.held; is_held = first.is_held; is_out = first.is_out; row_is = sym (kept ∙ row) } in
          record {
            may = λ seats image promises. subst (λ (changes : List Change). MayAsk (config_recovered found) seats image promises (mark_in changes)) (sym before) tt;
            current = λ disk. ap (λ (c : Configuration). has_current c disk) same;
            members = λ reference. ap (λ (c : Configuration). is_current c.members reference) same;
            out = subst (λ (c : Configuration). IsOutAt c plan.entry.0 plan.target.element plan.target.position plan.kept) (sym same) out;
            first = λ array there.
                first_again (config_recovered found) plan.entry.0 found.seats (passed_over (linux_members found) plan.entry.1) plan.target array (ap (λ (c : Configuration). lookup (same_guid plan.entry.0) c.arrays) (sym same) ∙ there) h;
          }
      by (spares change h kept before) =
          let fresh = is_fresh_at (config_recovered found) plan.entry.0 found.seats _ plan.target change h in
          let same = begun_by change before (fresh_steps (config_recovered found) plan.entry.0 found.seats plan.target change fresh) in
          let sequence = (config_after (config_recovered found) change).sequence in
          let started : between ≡ changed_at (config_recovered found) (Begin plan.entry.0 plan.target.element plan.target.position fresh.reference fresh.start) sequence =
          same ∙ ap (λ (one : Change). changed_at (config_recovered found) one sequence) fresh.change_is in
          record {
            may = λ seats image promises. subst (λ (changes : List Change). MayAsk (config_recovered found) seats image promises (mark_in changes)) (sym before)
                (asks_for (config_recovered found) plan.entry.0 found.seats (passed_over (linux_members found) plan.entry.1) plan.target change seats image promises h);
            current = λ disk. ap (λ (c : Configuration). has_current c disk) started
                ∙ kept_current group (config_recovered found) (Begin plan.entry.0 plan.target.element plan.target.position fresh.reference fresh.start) (λ reference member. refl) sequence disk;
            members = λ reference. ap (λ (c : Configuration). is_current c.members reference) started
                ∙ current_same (member_after (config_recovered found) (Begin plan.entry.0 plan.target.element plan.target.position fresh.reference fresh.start)) (λ k m. refl) (config_recovered found).members reference;
            out = subst (λ (c : Configuration). IsOutAt c plan.entry.0 plan.target.element plan.target.position plan.kept) (sym same)
                (subst (λ (n : ℕ). IsOutAt (config_after (config_recovered found) change) plan.entry.0 plan.target.element plan.target.position n) (sym kept)
                (fresh_out (config_recovered found) plan.entry.0 found.seats plan.target change fresh sequence));
            first = λ array there.
                first_begun (config_recovered found) plan.entry.0 plan.target.element plan.target.position fresh.reference fresh.start sequence plan.entry.1 array found_entry
                (ap (λ (c : Configuration). lookup (same_guid plan.entry.0) c.arrays) (sym started) ∙ there)
                (first_fresh (config_recovered found) plan.entry.0 found.seats (passed_over (linux_members found) plan.entry.1) plan.target change plan.entry.1 found_entry h);
          }
