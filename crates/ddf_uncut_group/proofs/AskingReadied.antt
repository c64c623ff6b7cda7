-- Changes that nothing refuses are readied, one after another.
use Rattle.std.proofs.Common.{◌≡◌, ◌∙◌, ℕ, suc, ◌^◌, ◌<◌, ◌≤◌, false, List, [], ◌∷◌, ◌++◌, length, map, Some, None, Result, Ok, refl, sym, ap, subst, inl, inr, arith}
use Rattle.std.proofs.lemmas.Bool.{le-ltb}
use Rattle.std.specs.List.{AllByRecursion}
use Rattle.ddf_config.specs.declared.seat.Seat.{Seat}
use Rattle.ddf_config.specs.Configuration.{Configuration}
use Rattle.ddf_plan.specs.declared.change.Change.{Change}
use Rattle.ddf_plan.specs.Causes.{causes}
use Rattle.ddf_plan.specs.Floors.{extents_refusal}
use Rattle.ddf_plan.specs.Refusals.{greatest_sequence}
use Rattle.ddf_seats.specs.declared.seated.Seated.{Seated}
use Rattle.ddf_seats.specs.declared.fault.GroupFault.{GroupFault}
use Rattle.ddf_steps.specs.Asked.{CanBeAsked}
use Rattle.ddf_seats.specs.Group.{GroupValue}
use Rattle.ddf_steps.specs.Ready.{group_after, is_spent}
use Rattle.ddf_recovery.specs.Ready.{readied, with_recovery}
use Rattle.ddf_steps.specs.Refusing.{step_refusal}
use Rattle.ddf_seats.specs.Seated.{seated, seats_in, levelled}
use Rattle.ddf_steps.specs.Steps.{Step, step_of}
use Rattle.ddf_uncut_group.specs.Asking.{AreBothReadied, AreNext, AreReadiedTo, IsNext, IsNothing}
use Rattle.ddf_uncut_group.specs.Plain.{ArePlain, HasRoom, HavePlain}
use Rattle.ddf_uncut_group.specs.Settled.{AreMembers, IsToldByAll}
use Rattle.ddf_uncut_group.proofs.PlainCopies.{step_plain}
use Rattle.ddf_uncut_group.proofs.PlainNewest.{newest_after, newest_seated}
use Rattle.ddf_uncut_group.proofs.PlainRefusal.{most_plain, plain_unrefused}
use Rattle.ddf_uncut_group.proofs.SettledStep.{disks_behind, seats_behind, told_behind}
use Rattle.ddf_uncut_group.proofs.StepsSettled.{readied_nothing}
use Rattle.ddf_uncut_group.proofs.StepsSplit.{one_first, one_same, readied_behind, readied_none}

pub seats_long : (disks : List Seated) → length (seats_in disks) ≡ length disks
seats_long [] = refl
seats_long (disk ∷ disks) = ap suc (seats_long disks)

with_first : (step : Step) (rest : List Step) (others : Result (List Step) GroupFault) → others ≡ Ok rest → with_recovery false (Some step) others ≡ Ok (step ∷ rest)
with_first step rest others is = ap (with_recovery false (Some step)) is

module _ (sizes : List ℕ) (timestamp : ℕ) (time : timestamp < 2 ^ 32) where
  -- ---- one change

  module _ (group : GroupValue) (told : IsToldByAll group) (plain : HavePlain sizes group.newest) (change : Change) (next : Configuration) (is : IsNext group.config group.seats change next) where
    plain_disks : ArePlain sizes (seated group)
    plain_disks = newest_seated sizes group plain

    abbrev own : Step
    own = step_of timestamp group.config (seated group) change

    some_disk : 0 < length (seated group)
    some_disk = let long = seats_long (seated group) in let same = ap (λ (seats : List Seat). length seats) told.is_settled.are_seated in let some = told.some_seat in omega (arith, long, same, some)

    unrefused : step_refusal timestamp None group.config (seated group) change ≡ None
    unrefused =
        let seats = told.is_settled.are_seated in
        plain_unrefused sizes timestamp group.config (seated group) change plain_disks some_disk (subst HasRoom (sym is.is_next) is.has_room)
        (ap (causes (Some 16) group.config change) seats ∙ is.no_cause)
        (ap (λ (all : List Seat). extents_refusal group.config change all all) seats ∙ is.has_extents)

    unspent : is_spent own ≡ false
    unspent = le-ltb greatest_sequence own.config.sequence (subst (λ (config : Configuration). config.sequence ≤ greatest_sequence) (sym is.is_next) is.unspent)

    one_ready : readied group (change ∷ []) timestamp ≡ Ok (own ∷ [])
    one_ready = one_first timestamp group told.is_settled change unrefused is.is_step unspent

    members : AreMembers own.config group.seats
    members = subst (λ (config : Configuration). AreMembers config group.seats) (sym is.is_next) is.members

    told_then : IsToldByAll (group_after group own)
    told_then = told_behind group told change is.can_be_asked timestamp time own one_ready members

    seats_then : (group_after group own).seats ≡ group.seats
    seats_then = seats_behind group told change is.can_be_asked timestamp time own one_ready members

    long_then : length own.disks ≡ length group.seats
    long_then = sym (seats_long own.disks) ∙ ap (λ (seats : List Seat). length seats) seats_then

    some_written : 0 < length own.disks
    some_written = let long = long_then in let some = told.some_seat in omega (arith, long, some)

    disks_then : seated (group_after group own) ≡ map levelled own.disks
    disks_then = disks_behind group told change is.can_be_asked timestamp time own one_ready some_written

    plain_own : ArePlain sizes own.disks
    plain_own = step_plain sizes timestamp group.config (seated group) change plain_disks

    plain_then : HavePlain sizes (group_after group own).newest
    plain_then = newest_after sizes group own plain plain_own

    -- ---- and those behind it

    module _ (changes : List Change) (last : Configuration) (rest : AreReadiedTo sizes timestamp (group_after group own) changes last) where
      all_ready : readied group (change ∷ changes) timestamp ≡ Ok (own ∷ rest.steps)
      all_ready =
          readied_behind timestamp group told.is_settled change changes own one_ready told_then.is_settled disks_then
          ∙ with_first own rest.steps (readied (group_after group own) changes timestamp) rest.are_readied

      abbrev first_then : AreReadiedTo sizes timestamp group (change ∷ changes) last
      first_then = record {
        steps = own ∷ rest.steps;
        are_readied = all_ready;
        is_last = rest.is_last;
        is_told = rest.is_told;
        same_seats = rest.same_seats ∙ seats_then;
        members = (members, subst (λ (seats : List Seat). AllByRecursion (λ (step : Step). AreMembers step.config seats) rest.steps) seats_then rest.members);
        plain_newest = rest.plain_newest;
        plain_steps = (plain_own, rest.plain_steps);
        on_all = (seats_then, subst (λ (seats : List Seat). AllByRecursion (λ (step : Step). seats_in step.disks ≡ seats) rest.steps) seats_then rest.on_all);
        few = let fewer = rest.few in omega (arith, fewer);
      }

  -- ---- a change that is no step

  module _ (group : GroupValue) (told : IsToldByAll group) (plain : HavePlain sizes group.newest) (change : Change) (is : IsNothing group.config group.seats change) where
    free : step_refusal timestamp None group.config (seated group) change ≡ None
    unfolding step_refusal
    free =
        let seats = told.is_settled.are_seated in
        let long = seats_long (seated group) in
        let same = ap (λ (all : List Seat). length all) told.is_settled.are_seated in
        let some = told.some_seat in
        let most = most_plain sizes (seated group) (omega (arith, long, same, some)) (newest_seated sizes group plain) in
        rw (most, seats, is.no_cause, is.is_no_step) refl

    abbrev nothing_then : (changes : List Change) (last : Configuration) → AreReadiedTo sizes timestamp group changes last → AreReadiedTo sizes timestamp group (change ∷ changes) last
    nothing_then changes last rest = record {
      steps = rest.steps;
      are_readied = readied_none timestamp group told.is_settled change changes (one_same timestamp group told.is_settled change free is.is_no_step) ∙ rest.are_readied;
      is_last = rest.is_last;
      is_told = rest.is_told;
      same_seats = rest.same_seats;
      members = rest.members;
      plain_newest = rest.plain_newest;
      plain_steps = rest.plain_steps;
      on_all = rest.on_all;
      few = let fewer = rest.few in omega (arith, fewer);
    }

  -- ---- all of them

  abbrev none_readied : (group : GroupValue) (last : Configuration) → IsToldByAll group → HavePlain sizes group.newest → last ≡ group.config → AreReadiedTo sizes timestamp group [] last
  none_readied group last told plain is = record {
    steps = [];
    are_readied = readied_nothing group told.is_settled timestamp;
    is_last = sym is;
    is_told = told;
    same_seats = refl;
    members = tt;
    plain_newest = plain;
    plain_steps = tt;
    on_all = tt;
    few = omega arith;
  }

  pub all_readied : (changes : List Change) (group : GroupValue) (last : Configuration) → IsToldByAll group → HavePlain sizes group.newest → AreNext group.seats group.config changes last
      → AreReadiedTo sizes timestamp group changes last
  all_readied [] group last told plain is = none_readied group last told plain is
  all_readied (change ∷ changes) group last told plain (inl (nothing, rest)) = nothing_then group told plain change nothing changes last (all_readied changes group last told plain rest)
  all_readied (change ∷ changes) group last told plain (inr (next, is, rest)) =
      let then = group_after group (own group told plain change next is) in
      let along : AreNext then.seats then.config changes last =
      subst (λ (config : Configuration). AreNext then.seats config changes last) (sym is.is_next) (subst (λ (seats : List Seat). AreNext seats next changes last) (sym (seats_then group told plain change next is)) rest) in
      first_then group told plain change next is changes last
      (all_readied changes then last (told_then group told plain change next is) (plain_then group told plain change next is) along)

  -- ---- some, and then others

  pub both_readied : (changes others : List Change) (group : GroupValue) (middle last : Configuration) → IsToldByAll group → HavePlain sizes group.newest → AreNext group.seats group.config changes middle
      → AreNext group.seats middle others last → AreBothReadied sizes timestamp group changes others middle last
  both_readied [] others group middle last told plain is rest =
      let second = all_readied others group last told plain (subst (λ (config : Configuration). AreNext group.seats config others last) is rest) in
      record { first = none_readied group middle told plain is; second = second; together = second.are_readied }
  both_readied (change ∷ changes) others group middle last told plain (inl (nothing, then)) rest =
      let both = both_readied changes others group middle last told plain then rest in
      record {
        first = nothing_then group told plain change nothing changes middle both.first;
        second = both.second;
        together = readied_none timestamp group told.is_settled change (changes ++ others) (one_same timestamp group told.is_settled change (free group told plain change nothing) nothing.is_no_step)
            ∙ both.together;
      }
  both_readied (change ∷ changes) others group middle last told plain (inr (next, is, then)) rest =
      let behind = group_after group (own group told plain change next is) in
      let seats = seats_then group told plain change next is in
      let along : AreNext behind.seats behind.config changes middle =
      subst (λ (config : Configuration). AreNext behind.seats config changes middle) (sym is.is_next) (subst (λ (all : List Seat). AreNext all next changes middle) (sym seats) then) in
      let both =
      both_readied changes others behind middle last (told_then group told plain change next is) (plain_then group told plain change next is) along
      (subst (λ (all : List Seat). AreNext all middle others last) (sym seats) rest) in
      record {
        first = first_then group told plain change next is changes middle both.first;
        second = both.second;
        together =
            readied_behind timestamp group told.is_settled change (changes ++ others) (own group told plain change next is) (one_ready group told plain change next is)
            (told_then group told plain change next is).is_settled (disks_then group told plain change next is)
            ∙ with_first (own group told plain change next is) (both.first.steps ++ both.second.steps) (readied behind (changes ++ others) timestamp) both.together;
      }

-- ---- what they ask

-- Each of them can be asked.
pub all_asked : (changes : List Change) (seats : List Seat) (config last : Configuration) → AreNext seats config changes last → AllByRecursion CanBeAsked changes
all_asked [] seats config last is = tt
all_asked (change ∷ changes) seats config last (inl (nothing, rest)) = (nothing.can_be_asked, all_asked changes seats config last rest)
all_asked (change ∷ changes) seats config last (inr (next, is, rest)) = (is.can_be_asked, all_asked changes seats next last rest)
