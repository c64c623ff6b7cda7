-- The steps of a rebuild of an exercise: the loss of the disk that is gone, the spare in its place, and the end.
use Rattle.std.proofs.Common.{◌≡◌, ◌∙◌, ℕ, ◌+◌, ◌*◌, ◌^◌, ◌<◌, ◌≤◌, ◌==◌, Bool, false, not, List, [], ◌∷◌, ◌++◌, length, filter, Some, None, Result, Ok, refl, sym, ap, subst, inr, arith, lit≤, lit<, length-append}
use Rattle.std.specs.Prelude.{slice_get}
use Rattle.std.specs.List.{AllByRecursion}
use Rattle.std.proofs.lemmas.Bool.{le-ltb}
use Rattle.std.proofs.Math.Nat.{mul-le-mul_left}
use Rattle.std.proofs.lemmas.List.{append_cancel_left}
use Rattle.std.proofs.lemmas.Option.{same_Some}
use Rattle.ddf_lemmas.proofs.Options.{same_ok}
use Rattle.ddf_lemmas.proofs.Lists.{all_append}
use Rattle.ddf_config.specs.declared.seat.Seat.{Seat}
use Rattle.ddf_config.specs.Configuration.{Configuration}
use Rattle.ddf_rewrite.specs.Wanted.{all_wanted}
use Rattle.ddf_plan.specs.declared.change.Change.{Change}
use Rattle.ddf_plan.specs.declared.change.Change.TheVariants.{Begin, Finish, Lose}
use Rattle.ddf_plan.specs.Refusals.{greatest_sequence}
use Rattle.ddf_seats.specs.Group.{GroupValue}
use Rattle.ddf_steps.specs.Ready.{group_after}
use Rattle.ddf_recovery.specs.Ready.{readied, with_recovery}
use Rattle.ddf_recovery.specs.Recovery.{config_lost, config_recovered, full_of_recovery, loss_spent, lost_step}
use Rattle.ddf_seats.specs.Leading.{leading}
use Rattle.ddf_seats.specs.Seated.{seated, seats_in}
use Rattle.ddf_steps.specs.Steps.{Step, config_after}
use Rattle.ddf_group_commands.specs.Change.{last_sequence, steps_asked, steps_of, steps_or}
use Rattle.ddf_array.specs.Viewing.{view_of}
use Rattle.ddf_array.specs.declared.part.Part.{Part}
use Rattle.ddf_array.specs.Volume.{Volume}
use Rattle.ddf_config.specs.declared.array.Array.{Array}
use Rattle.ddf_repair.specs.declared.first.Target.{Target}
use Rattle.ddf_repair.specs.declared.beginning.Begun.{Begun}
use Rattle.ddf_repair.specs.declared.beginning.Begun.TheVariants.{Fresh, Nothing}
use Rattle.ddf_repair.specs.declared.beginning.RebuildFault.{RebuildFault}
use Rattle.ddf_repair.specs.Begin.{begun as begun_at}
use Rattle.ddf_request.specs.Named.{named_array}
use Rattle.ddf_group_commands.specs.Costs.{steps_sectors}
use Rattle.ddf_write_commands.specs.Around.{config_behind}
use Rattle.ddf_write_commands.specs.Planned.{Entry}
use Rattle.ddf_group_commands.specs.Requests.{linux_members}
use Rattle.ddf_rebuild_command.specs.Asked.{rebuild_request, rows_in}
use Rattle.ddf_rebuild_command.specs.PassedOver.{passed_over}
use Rattle.ddf_rebuild_command.specs.Costs.{sectors_from}
use Rattle.ddf_rebuild_command.specs.Notes.{notes}
use Rattle.ddf_rebuild_command.specs.Planned.{BeginsAt, IsIdle, IsPlanned, first_row}
use Rattle.ddf_rebuild_command.specs.Rounds.{Round, rows_of, steps_of as steps_in}
use Rattle.ddf_exercise_config.specs.Disks.{AreApart, Disks, seat}
use Rattle.ddf_exercise_config.specs.Stages.{begun, lost, lost_disk, lost_position, seats_at, spare_disk, whole}
use Rattle.ddf_exercise_config.specs.Turns.{Loss, turn_before, turn_behind}
use Rattle.ddf_exercise_config.specs.Turns.Loss.{OfSecond, OfThird}
use Rattle.ddf_exercise_config.specs.Views.{part, places_begun, shape, view_begun}
use Rattle.ddf_exercise_config.specs.Words.{word}
use Rattle.ddf_exercise_config.proofs.Asked as asked
use Rattle.ddf_exercise_config.proofs.Made as made
use Rattle.ddf_exercise_config.proofs.Readable as readable
use Rattle.ddf_exercise_config.proofs.Spares as spares
use Rattle.ddf_exercise_config.proofs.Used as used
use Rattle.ddf_exercise_config.specs.Stages as stages
use Rattle.ddf_uncut_group.specs.Asking.{AreBothReadied, AreNext, IsNext}
use Rattle.ddf_uncut_group.specs.Plain.{ArePlain, HasRoom, HavePlain}
use Rattle.ddf_uncut_group.specs.Settled.{IsToldByAll, group_behind}
use Rattle.ddf_uncut_group.specs.Without.{group_lost, without_seat}
use Rattle.ddf_uncut_group.proofs.AskingReadied.{both_readied}
use Rattle.ddf_uncut_group.proofs.LostGroup.{IsToldWithout, seats_lost, told_lost}
use Rattle.ddf_uncut_group.proofs.LostSteps.{config_is, readied_lost}
use Rattle.ddf_uncut_group.proofs.PlainCopies.{loss_plain}
use Rattle.ddf_uncut_group.proofs.PlainNewest.{newest_after, newest_seated, newest_without}
use Rattle.ddf_uncut_group.proofs.PlainRoom.{plain_full}
use Rattle.ddf_uncut_group.proofs.UnpluggedTold.{told_without}
use Rattle.ddf_exercise_disks.proofs.Standing.{last_is, steps_cost}
use Rattle.ddf_exercise_disks.specs.Lost.{lost_slot}
use Rattle.ddf_exercise_disks.specs.Well.{sizes_made}
use Rattle.ddf_exercise_disks.proofs.WritingRoom.{behind_is}

-- ---- the seat that is lost

abbrev pub lost_seat : Disks → Loss → Seat
lost_seat disks OfSecond = seat disks.second 1
lost_seat disks OfThird = seat disks.third 2

pub at_place : (disks : Disks) (loss : Loss) → slice_get (seats_at disks (turn_before loss)) 1 ≡ Some (lost_seat disks loss)
at_place disks OfSecond = refl
at_place disks OfThird = refl

pub its_slot : (disks : Disks) (loss : Loss) → (lost_seat disks loss).slot ≡ lost_slot loss
its_slot disks OfSecond = refl
its_slot disks OfThird = refl

its_reference : (disks : Disks) (loss : Loss) → (lost_seat disks loss).reference ≡ lost_disk disks loss
its_reference disks OfSecond = refl
its_reference disks OfThird = refl

several : (disks : Disks) (loss : Loss) → 1 < length (seats_at disks (turn_before loss))
several disks OfSecond = lit< tt
several disks OfThird = lit< tt

abbrev is_other : Seat → Seat → Bool
is_other lost other = not (other.slot == lost.slot)

seats_left : (disks : Disks) (loss : Loss) → filter (is_other (lost_seat disks loss)) (seats_at disks (turn_before loss)) ≡ seats_at disks (turn_behind loss)
seats_left disks OfSecond = refl
seats_left disks OfThird = refl

-- ---- lists

pub behind_both : (group : GroupValue) (xs ys : List Step) → group_behind group (xs ++ ys) ≡ group_behind (group_behind group xs) ys
behind_both group [] ys = refl
behind_both group (x ∷ xs) ys = behind_both (group_after group x) xs ys

-- rows that are one round's
pub record IsOneRound (rounds : List Round) : Type 0 where
  pub round : Round
  pub rounds_are : rounds ≡ round ∷ []
  pub row_is : round.row ≡ 512

one_round : (rounds : List Round) → rows_of rounds ≡ 512 ∷ [] → IsOneRound rounds
one_round [] rows = absurd (cc)
one_round (round ∷ []) rows = record { round = round; rounds_are = refl; row_is = cc }
one_round (round ∷ (next ∷ rounds)) rows = absurd (cc)

-- ---- the configurations on the way

pub lost_room : (name : List ℕ) (disks : Disks) (guid : List ℕ) (loss : Loss) (sequence : ℕ) → HasRoom (lost name disks guid loss sequence)
unfolding all_wanted
lost_room name disks guid OfSecond sequence = record { members = lit≤ tt; arrays = lit≤ tt; elements = lit≤ tt; none_dedicated = (refl, (refl, (refl, (refl, (refl, tt))))) }
lost_room name disks guid OfThird sequence = record { members = lit≤ tt; arrays = lit≤ tt; elements = lit≤ tt; none_dedicated = (refl, (refl, (refl, (refl, (refl, tt))))) }

begun_room : (name : List ℕ) (disks : Disks) (guid : List ℕ) (loss : Loss) (sequence : ℕ) → HasRoom (begun name disks guid loss sequence)
unfolding all_wanted
begun_room name disks guid OfSecond sequence = record { members = lit≤ tt; arrays = lit≤ tt; elements = lit≤ tt; none_dedicated = (refl, (refl, (refl, (refl, (refl, tt))))) }
begun_room name disks guid OfThird sequence = record { members = lit≤ tt; arrays = lit≤ tt; elements = lit≤ tt; none_dedicated = (refl, (refl, (refl, (refl, (refl, tt))))) }

whole_room : (name : List ℕ) (disks : Disks) (guid : List ℕ) (loss : Loss) (sequence : ℕ) → HasRoom (whole name disks guid (turn_behind loss) sequence)
unfolding all_wanted
whole_room name disks guid OfSecond sequence = record { members = lit≤ tt; arrays = lit≤ tt; elements = lit≤ tt; none_dedicated = (refl, (refl, (refl, (refl, (refl, tt))))) }
whole_room name disks guid OfThird sequence = record { members = lit≤ tt; arrays = lit≤ tt; elements = lit≤ tt; none_dedicated = (refl, (refl, (refl, (refl, (refl, tt))))) }

-- A group of which every disk tells it, on plain disks, is about to lose a disk: numbers are left for four steps more.
pub record IsLosing (name : List ℕ) (disks : Disks) (guid : List ℕ) (loss : Loss) (sequence timestamp : ℕ) (group : GroupValue) : Type 0 where
  pub apart : AreApart disks
  pub unspent : sequence + 4 ≤ greatest_sequence
  pub fits : spare_disk disks loss < 2 ^ 32
  pub told : IsToldByAll group
  pub plain : HavePlain sizes_made group.newest
  pub config_was : group.config ≡ whole name disks guid (turn_before loss) sequence
  pub seats_were : group.seats ≡ seats_at disks (turn_before loss)
  pub time : timestamp < 2 ^ 32

module _ {name : List ℕ} {disks : Disks} {guid : List ℕ} {loss : Loss} {sequence timestamp : ℕ} {group : GroupValue} (losing : IsLosing name disks guid loss sequence timestamp group) where
  abbrev pub seats : List Seat
  seats = seats_at disks (turn_behind loss)

  abbrev pub is_lost : Configuration
  is_lost = lost name disks guid loss (sequence + 2)

  abbrev pub has_begun : Configuration
  has_begun = begun name disks guid loss (sequence + 2 + 1)

  abbrev pub is_whole : Configuration
  is_whole = whole name disks guid (turn_behind loss) (sequence + 2 + 1 + 1)

  abbrev pub begins : Change
  begins = Begin guid 0 (lost_position loss) (spare_disk disks loss) 0

  abbrev pub ends : Change
  ends = Finish guid 0 (lost_position loss)

  begun_next : IsNext is_lost seats begins has_begun
  begun_next =
      let makes = made.beginning name disks losing.apart guid (sequence + 2) loss (let more = losing.unspent in omega (arith, more)) in
      record {
        can_be_asked = record { reference = losing.fits; start = lit< tt; row = lit< tt };
        no_cause = makes.allowed;
        has_extents = makes.has_room;
        is_step = makes.steps;
        is_next = makes.is_next;
        unspent = (let more = losing.unspent in omega (arith, more));
        members = (readable.turn_current name disks losing.apart guid (sequence + 2 + 1) (turn_behind loss) (stages.array (stages.positions_begun disks loss) 1 2)).seats_are;
        has_room = begun_room name disks guid loss (sequence + 2 + 1);
      }

  whole_next : IsNext has_begun seats ends is_whole
  whole_next =
      let makes = made.finishing name disks losing.apart guid (sequence + 2 + 1) loss (let more = losing.unspent in omega (arith, more)) in
      record {
        can_be_asked = tt;
        no_cause = makes.allowed;
        has_extents = makes.has_room;
        is_step = makes.steps;
        is_next = makes.is_next;
        unspent = (let more = losing.unspent in omega (arith, more));
        members = (readable.turn_current name disks losing.apart guid (sequence + 2 + 1 + 1) (turn_behind loss) (stages.array (stages.positions_at disks (turn_behind loss)) 0 2)).seats_are;
        has_room = whole_room name disks guid loss (sequence + 2 + 1 + 1);
      }

  pub next_begins : AreNext seats is_lost (begins ∷ []) has_begun
  next_begins = inr (has_begun, begun_next, refl)

  pub next_ends : AreNext seats has_begun (ends ∷ []) is_whole
  next_ends = inr (is_whole, whole_next, refl)

  -- ---- the group without its disk

  abbrev pub without : GroupValue
  without = without_seat group (lost_seat disks loss)

  pub is_seat : slice_get group.seats 1 ≡ Some (lost_seat disks loss)
  is_seat = ap (λ (all : List Seat). slice_get all 1) losing.seats_were ∙ at_place disks loss

  pub two : 1 < length group.seats
  two = subst (λ (all : List Seat). 1 < length all) (sym losing.seats_were) (several disks loss)

  pub without_told : IsToldWithout without
  without_told = told_without group losing.told 1 (lost_seat disks loss) is_seat two

  pub without_seats : without.seats ≡ seats
  without_seats = ap (filter (is_other (lost_seat disks loss))) losing.seats_were ∙ seats_left disks loss

  pub lost_config : config_lost without ≡ is_lost
  lost_config =
      ap (λ (config : Configuration). config_after config (Lose ((lost_seat disks loss).reference ∷ []))) losing.config_was
      ∙ ap (λ (reference : ℕ). config_after (whole name disks guid (turn_before loss) sequence) (Lose (reference ∷ []))) (its_reference disks loss)
      ∙ made.losing name disks losing.apart guid sequence loss (let more = losing.unspent in omega (arith, more))

  pub recovered : config_recovered without ≡ is_lost
  recovered = config_is without without_told timestamp [] ∙ lost_config

  plain_without : HavePlain sizes_made without.newest
  plain_without = newest_without sizes_made group.newest (lost_seat disks loss).slot losing.plain

  pub plain_disks : ArePlain sizes_made (seated without)
  plain_disks = newest_seated sizes_made without plain_without

  pub free : full_of_recovery timestamp without ≡ None
  unfolding full_of_recovery
  free = plain_full sizes_made (leading without) (config_lost without) (subst HasRoom (sym lost_config) (lost_room name disks guid loss (sequence + 2))) timestamp (seated without) plain_disks

  not_spent : loss_spent without ≡ false
  not_spent =
      le-ltb greatest_sequence (config_lost without).sequence
      (subst (λ (config : Configuration). config.sequence ≤ greatest_sequence) (sym lost_config) (let more = losing.unspent in omega (arith, more)))

  -- ---- the group behind the loss

  abbrev pub after : GroupValue
  after = group_lost timestamp without

  pub after_told : IsToldByAll after
  after_told = told_lost without without_told timestamp losing.time free

  pub after_seats : after.seats ≡ seats
  after_seats = seats_lost without without_told timestamp ∙ without_seats

  pub loss_is_plain : ArePlain sizes_made (lost_step timestamp without).disks
  loss_is_plain = loss_plain sizes_made timestamp without plain_disks

  after_plain : HavePlain sizes_made after.newest
  after_plain = newest_after sizes_made (record without { absent = []; lagging = [] }) (lost_step timestamp without) plain_without loss_is_plain

  pub both : AreBothReadied sizes_made timestamp after (begins ∷ []) (ends ∷ []) has_begun is_whole
  both =
      both_readied sizes_made timestamp losing.time (begins ∷ []) (ends ∷ []) after has_begun is_whole after_told after_plain
      (subst (λ (config : Configuration). AreNext after.seats config (begins ∷ []) has_begun) (sym lost_config)
      (subst (λ (all : List Seat). AreNext all is_lost (begins ∷ []) has_begun) (sym after_seats) next_begins))
      (subst (λ (all : List Seat). AreNext all has_begun (ends ∷ []) is_whole) (sym after_seats) next_ends)

  -- ---- the steps

  abbrev pub loses : Step
  loses = lost_step timestamp without

  behind_loss : (changes : List Change) (rest : List Step) → readied after changes timestamp ≡ Ok rest → readied without changes timestamp ≡ Ok (loses ∷ rest)
  behind_loss changes rest is =
      readied_lost without without_told timestamp changes losing.time free
      ∙ ap (λ (spent : Bool). with_recovery spent (Some loses) (readied after changes timestamp)) not_spent
      ∙ ap (with_recovery false (Some loses)) is

  abbrev pub first_steps : List Step
  first_steps = loses ∷ both.first.steps

  abbrev pub all_steps : List Step
  all_steps = loses ∷ (both.first.steps ++ both.second.steps)

  pub first_ready : readied without (begins ∷ []) timestamp ≡ Ok first_steps
  first_ready = behind_loss (begins ∷ []) both.first.steps both.first.are_readied

  all_ready : readied without (begins ∷ ends ∷ []) timestamp ≡ Ok all_steps
  all_ready = behind_loss (begins ∷ ends ∷ []) (both.first.steps ++ both.second.steps) both.together

  pub asks : steps_of without timestamp (rebuild_request word (linux_members without)) ≡ Ok all_steps
  asks =
      ap (λ (config : Configuration). steps_asked without timestamp (rebuild_request word (linux_members without) config without.seats)) recovered
      ∙ ap (λ (all : List Seat). steps_asked without timestamp (rebuild_request word (linux_members without) is_lost all)) without_seats
      ∙ ap (steps_asked without timestamp) (asked.rebuilds name disks losing.apart guid (sequence + 2) (linux_members without) loss)
      ∙ ap steps_or all_ready

  -- ---- what they cost

  on_seats : AllByRecursion (λ (step : Step). seats_in step.disks ≡ seats) all_steps
  on_seats = (
    after_seats,
    all_append (λ (step : Step). seats_in step.disks ≡ seats) both.first.steps both.second.steps
        (subst (λ (all : List Seat). AllByRecursion (λ (step : Step). seats_in step.disks ≡ all) both.first.steps) after_seats both.first.on_all)
        (subst (λ (all : List Seat). AllByRecursion (λ (step : Step). seats_in step.disks ≡ all) both.second.steps) (both.first.same_seats ∙ after_seats) both.second.on_all),
  )

  pub first_plain : AllByRecursion (λ (step : Step). ArePlain sizes_made step.disks) first_steps
  first_plain = (loss_is_plain, both.first.plain_steps)

  pub first_on : AllByRecursion (λ (step : Step). seats_in step.disks ≡ seats) first_steps
  first_on = (after_seats, subst (λ (all : List Seat). AllByRecursion (λ (step : Step). seats_in step.disks ≡ all) both.first.steps) after_seats both.first.on_all)

  pub second_on : AllByRecursion (λ (step : Step). seats_in step.disks ≡ seats) both.second.steps
  second_on = subst (λ (all : List Seat). AllByRecursion (λ (step : Step). seats_in step.disks ≡ all) both.second.steps) (both.first.same_seats ∙ after_seats) both.second.on_all

  all_plain : AllByRecursion (λ (step : Step). ArePlain sizes_made step.disks) all_steps
  all_plain = (loss_is_plain, all_append (λ (step : Step). ArePlain sizes_made step.disks) both.first.steps both.second.steps both.first.plain_steps both.second.plain_steps)

  three : length all_steps ≤ 3
  three =
      let long = length-append both.first.steps both.second.steps in
      let one = both.first.few in
      let other = both.second.few in
      omega (arith, long, one, other)

  pub all_cost : steps_sectors all_steps ≤ 249 * length seats
  all_cost =
      let cost = steps_cost seats all_steps all_plain on_seats in
      let most : 83 * length seats * length all_steps ≤ 83 * length seats * 3 = mul-le-mul_left (83 * length seats) three in
      let thrice : 83 * length seats * 3 ≡ 249 * length seats = omega arith in
      omega (arith, cost, most, thrice)

  -- ---- each plan

  abbrev left : Array
  left = stages.array (stages.positions_lost disks loss) 1 2

  abbrev pub its_target : Target
  its_target = record { element = 0; position = lost_position loss }

  -- the entry that the word names
  its_entry : (entry : Entry) → named_array (config_recovered without).arrays word ≡ Some entry → entry ≡ (guid, left)
  its_entry entry named = same_Some entry (guid, left) (sym named ∙ ap (λ (config : Configuration). named_array config.arrays word) recovered ∙ used.is_named guid (stages.positions_lost disks loss) 1 2)

  it_begins : (entry : Entry) → named_array (config_recovered without).arrays word ≡ Some entry → begun_at (config_recovered without) entry.0 without.seats (passed_over (linux_members without) entry.1) ≡ Ok (Fresh its_target begins)
  it_begins entry named =
      ap (λ (config : Configuration). begun_at config entry.0 without.seats (passed_over (linux_members without) entry.1)) recovered
      ∙ ap (λ (one : Entry). begun_at is_lost one.0 without.seats (passed_over (linux_members without) one.1)) (its_entry entry named)
      ∙ ap (λ (all : List Seat). begun_at is_lost guid all (passed_over (linux_members without) left)) without_seats
      ∙ spares.begins_beside name disks losing.apart guid (sequence + 2) (linux_members without) loss

  pub not_idle : IsIdle without timestamp word → ⊥
  not_idle idle = let both : ◌≡◌ {A = Result Begun RebuildFault} (Ok (Fresh its_target begins)) (Ok Nothing) = sym (it_begins idle.entry idle.is_named) ∙ idle.nothing in absurd (cc)

  -- the sequence number behind all of them
  pub last_number : last_sequence group.config.sequence all_steps ≡ sequence + 4
  last_number =
      last_is after (both.first.steps ++ both.second.steps)
      ∙ ap (λ (some : GroupValue). some.config.sequence) (behind_both after both.first.steps both.second.steps)
      ∙ ap (λ (config : Configuration). config.sequence) both.second.is_last
      ∙ (let four : sequence + 2 + 1 + 1 ≡ sequence + 4 = omega arith in four)

  module _ (plan : IsPlanned without timestamp word) where
    entry_is : plan.entry ≡ (guid, left)
    entry_is = its_entry plan.entry plan.is_named

    begins_at : BeginsAt plan.entry plan.target plan.kept plan.before (Ok (Fresh its_target begins))
    begins_at = subst (BeginsAt plan.entry plan.target plan.kept plan.before) (it_begins plan.entry plan.is_named) plan.begins

    pub target_is : plan.target ≡ its_target
    target_is = begins_at.0

    pub first_is : plan.first ≡ first_steps
    first_is = same_ok plan.first first_steps (sym plan.are_first ∙ ap (λ (changes : List Change). readied without changes timestamp) begins_at.2 ∙ first_ready)

    pub all_are : plan.first ++ steps_in plan.rounds ≡ all_steps
    all_are = same_ok (plan.first ++ steps_in plan.rounds) all_steps (sym plan.are_asked ∙ asks)

    pub rest_is : steps_in plan.rounds ≡ both.second.steps
    rest_is = append_cancel_left first_steps (steps_in plan.rounds) both.second.steps (ap (λ (steps : List Step). steps ++ steps_in plan.rounds) (sym first_is) ∙ all_are)

    rows : rows_in plan.entry.1 plan.target.element ≡ 512
    rows = ap (λ (entry : Entry). rows_in entry.1 plan.target.element) entry_is ∙ ap (λ (target : Target). rows_in left target.element) target_is ∙ asked.rows_are disks loss

    pub is_one : IsOneRound plan.rounds
    is_one =
        one_round plan.rounds
        (plan.rows_are ∙ ap (λ (n : ℕ). notes plan.kept n ++ n ∷ []) rows ∙ ap (λ (kept : ℕ). notes kept 512 ++ 512 ∷ []) begins_at.1 ∙ ap (λ (some : List ℕ). some ++ 512 ∷ []) asked.no_notes)

    pub from_is : first_row plan ≡ 0
    from_is = let kept = begins_at.1 in omega (arith, kept)

    config_there : config_behind group.config plan.first ≡ has_begun
    config_there = ap (config_behind group.config) first_is ∙ behind_is after both.first.steps ∙ both.first.is_last

    pub volume_is : plan.volume ≡ view_begun loss
    volume_is =
        same_ok plan.volume (view_begun loss)
        (sym plan.is_view
        ∙ ap (λ (config : Configuration). view_of config plan.entry.0 without.seats) config_there
        ∙ ap (λ (entry : Entry). view_of has_begun entry.0 without.seats) entry_is
        ∙ ap (λ (all : List Seat). view_of has_begun guid all) without_seats
        ∙ used.begun_view name disks losing.apart guid 1 2 (sequence + 2 + 1) loss)

    part_is : part (places_begun loss) ≡ plan.is_out.part
    part_is =
        same_Some (part (places_begun loss)) plan.is_out.part
        (ap (λ (volume : Volume). slice_get volume.parts 0) (sym volume_is) ∙ ap (λ (target : Target). slice_get plan.volume.parts target.element) (sym target_is) ∙ plan.is_out.is_target.is_part)

    pub fill_cost : sectors_from plan.is_out.part.shape (first_row plan) ≡ 4096
    fill_cost = ap (λ (one : Part). sectors_from one.shape (first_row plan)) (sym part_is) ∙ ap (sectors_from shape) from_is
