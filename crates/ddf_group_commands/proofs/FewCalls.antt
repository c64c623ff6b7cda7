-- How many calls a command makes that writes steps of a group.
use Rattle.std.proofs.Common.{◌≡◌, ℕ, zero, suc, ◌+◌, ◌*◌, ◌<◌, ◌≤◌, eqb, true, false, List, [], ◌∷◌, length, Option, Some, None, refl, sym, ap, subst, inl, inr, arith}
use Rattle.std.proofs.lemmas.Bool.{eqb-true, false_from_ne_true, or_cases}
use Rattle.std.proofs.lemmas.List.Sums.{sum_by-cons}
use Rattle.std.proofs.lemmas.Map.Steps.{length-le_from_distinct_below}
use Rattle.std.specs.Prelude.{IfSome, slice_get}
use Rattle.std.specs.List.{AllByRecursion, IsDistinct, list_any}
use Rattle.ddf_lemmas.proofs.Lists.{all_from, some_at_place}
use Rattle.ddf_bay.specs.Moments.{Costs}
use Rattle.ddf_bay.specs.State.{BayState}
use Rattle.ddf_config.specs.declared.seat.Seat.{Seat}
use Rattle.ddf_copy.specs.declared.copy.DiskCopy.{DiskCopy}
use Rattle.ddf_copy.specs.declared.run.Run.{Run}
use Rattle.ddf_copy.specs.Runs.{AreRunsOf}
use Rattle.ddf_plan.specs.declared.change.Change.{Change}
use Rattle.ddf_update.specs.declared.prepared.Prepared.{Prepared}
use Rattle.ddf_update.specs.Group.{AreSlots}
use Rattle.ddf_update.specs.Prepared.{all_calls, all_sectors, most_calls}
use Rattle.ddf_update.proofs.Lies.{few_at}
use Rattle.ddf_seats.specs.declared.seated.Seated.{Seated}
use Rattle.ddf_recovery.specs.Committed.{WasReadied, next_slots, next_updates, recovery_slots, recovery_updates, updates_written}
use Rattle.ddf_seats.specs.Group.{GroupValue}
use Rattle.ddf_steps.specs.Ready.{ReadyStep}
use Rattle.ddf_recovery.specs.Ready.{ReadyValue}
use Rattle.ddf_recovery.specs.Recovery.{disks_recovered}
use Rattle.ddf_seats.specs.Seated.{seated}
use Rattle.ddf_steps.specs.Steps.{in_order}
use Rattle.ddf_steps.specs.Trying.{AreFollowing, ArePrepared, Follows}
use Rattle.ddf_seats.specs.Changing.{SlotsRise}
use Rattle.ddf_group_commands.specs.GroupRead.{IsReadFrom}
use Rattle.ddf_group_commands.proofs.Recovering.{first_lies, rest_lies, slots_there}

-- ---- one update

update_few : (copy : DiskCopy) (prepared : Prepared) → AreRunsOf copy prepared.runs → most_calls prepared ≤ 25
update_few copy prepared are =
    let few : length prepared.runs ≤ 6 = subst (λ (runs : List Run). length runs ≤ 6) (sym are.are_runs) (few_at copy.header.geometry are.raw) in
    omega (arith, few)

-- ---- several

all_few : (updates : List Prepared) → ((place : ℕ) (update : Prepared) → slice_get updates place ≡ Some update → most_calls update ≤ 25) → all_calls updates ≤ 25 * length updates
all_few [] each = omega arith
all_few (update ∷ updates) each =
    let here = each 0 update refl in
    let rest = all_few updates (λ place one at. each (suc place) one at) in
    let both = sum_by-cons most_calls update updates in
    omega (arith, here, rest, both)

pub prepared_few : (disks : List Seated) (updates : List Prepared) → ArePrepared disks updates → all_calls updates ≤ 25 * length updates
prepared_few disks updates are = all_few updates (λ place update at.
    let within = below updates place update at in
    let counted = are.counted in
    let disk = some_at_place disks place (omega (arith, within, counted)) in
    update_few disk.0.copy update (are.each place disk.0 update disk.1 at).runs_are)
  where
    below : {X : Type 0} (xs : List X) (place : ℕ) (x : X) → slice_get xs place ≡ Some x → place < length xs
    below [] place x at = absurd cc
    below (one ∷ xs) zero x at = omega arith
    below (one ∷ xs) (suc place) x at = let rest = below xs place x at in omega (arith, rest)

-- ---- slots

differ_from : (slots : List ℕ) → ((one other slot : ℕ) → slice_get slots one ≡ Some slot → slice_get slots other ≡ Some slot → one ≡ other) → IsDistinct eqb slots
unfolding IsDistinct
differ_from [] differ = tt
differ_from (slot ∷ slots) differ = (
  all_from (λ (other : ℕ). eqb slot other ≡ false) slots (λ place other at. false_from_ne_true (eqb slot other) (λ same.
      let is : slot ≡ other = eqb-true slot other same in
      let twice : zero ≡ suc place = differ zero (suc place) other (ap Some is) at in
      omega (arith, twice))),
  differ_from slots (λ one other each at also. let same = differ (suc one) (suc other) each at also in omega (arith, same)),
)

place_of : (slot : ℕ) (slots : List ℕ) → list_any (eqb slot) slots ≡ true → (place : ℕ) × (slice_get slots place ≡ Some slot)
place_of slot [] any = absurd cc
place_of slot (first ∷ slots) any = elim (or_cases (eqb slot first) (list_any (eqb slot) slots) any) [
  | inl same ↦ (0, ap Some (sym (eqb-true slot first same)))
  | inr later ↦ (let rest = place_of slot slots later in (suc rest.0, rest.1))
]

pub slots_few : (sizes slots : List ℕ) → AreSlots sizes slots → length slots ≤ length sizes
slots_few sizes slots are =
    length-le_from_distinct_below slots (length sizes) (differ_from slots are.differ) (λ slot any. let at = place_of slot slots any in are.there at.0 slot at.1)

-- Seats whose slots rise, from one on, are no more than the slots from it on.
pub rise_few : (first count : ℕ) (seats : List Seat) → SlotsRise seats → ((place : ℕ) (seat : Seat) → slice_get seats place ≡ Some seat → (first ≤ seat.slot) × (seat.slot < first + count)) → length seats ≤ count
rise_few first count [] rise each = omega arith
rise_few first count (seat ∷ seats) rise each =
    let here = each 0 seat refl in
    let low = here.0 in
    let behind : (n : ℕ) → count ≡ suc n → length seats ≤ n = λ n is.
    rise_few (first + 1) n seats rise.1 (λ place other at.
    let up = above seats rise.0 place other at in
    let bound = (each (suc place) other at).1 in
    (omega (arith, up, low), omega (arith, bound, is))) in
    by behind count refl low here.1
  where
    above : (others : List Seat) → AllByRecursion (λ (other : Seat). seat.slot < other.slot) others → (place : ℕ) (other : Seat) → slice_get others place ≡ Some other → seat.slot < other.slot
    above [] all place other at = absurd cc
    above (one ∷ others) all zero other at = let same : one ≡ other = cc in subst (λ (each : Seat). seat.slot < each.slot) same all.0
    above (one ∷ others) all (suc place) other at = above others all.1 place other at

    by : ((n : ℕ) → count ≡ suc n → length seats ≤ n) → (n : ℕ) → count ≡ n → first ≤ seat.slot → seat.slot < first + count → length (seat ∷ seats) ≤ count
    by behind zero none low high = absurd (omega (arith, none, low, high))
    by behind (suc n) is low high = let rest = behind n is in omega (arith, rest, is)

-- ---- the recovery and the next step

module _ {D : Type 0} (tells : Type 0) (old : BayState D) (group : GroupValue) (changes : List Change) (timestamp : ℕ) (ready : ReadyValue) (from : IsReadFrom tells old group)
    (was : WasReadied group changes timestamp ready) where
  abbrev count : ℕ
  count = length old.sizes

  pub seats_few : length group.seats ≤ count
  seats_few = rise_few 0 count group.seats was.assembled.slots_rise (λ place seat at. let low = slots_there tells old group changes timestamp ready from was place seat at in (omega arith, omega (arith, low)))

  pub recovery_few : all_calls (recovery_updates ready) ≤ 25 * count
  recovery_few =
      let lies = first_lies tells old group changes timestamp ready from was in
      let slots = slots_few old.sizes (recovery_slots ready) lies.are_slots in
      let counted = lies.counted in
      let few = by ready.recovery was.recovers in
      omega (arith, few, slots, counted)
    where
      by : (next : Option ReadyStep) → IfSome next (Follows (seated group)) → all_calls (updates_written next) ≤ 25 * length (updates_written next)
      by None follows = omega arith
      by (Some one) follows = prepared_few (in_order one.step.disks) one.updates follows.are_prepared

  next_few : all_calls (next_updates (record { recovery = None; steps = ready.steps })) ≤ 25 * count
  next_few =
      let lies = rest_lies tells old group changes timestamp ready from was in
      let slots = slots_few old.sizes (next_slots (record { recovery = None; steps = ready.steps })) lies.are_slots in
      let counted = lies.counted in
      let few = by ready.steps was.follows in
      omega (arith, few, slots, counted)
    where
      by : (steps : List ReadyStep) → AreFollowing (disks_recovered timestamp group) steps → all_calls (next_updates (record { recovery = None; steps = steps })) ≤ 25 * length (next_updates (record { recovery = None; steps = steps }))
      by [] follows = omega arith
      by (one ∷ others) follows = prepared_few (in_order one.step.disks) one.updates follows.0.are_prepared

  -- Once the recovery was tried,
  pub recovered_few : (middle : BayState D) → Costs old middle (all_sectors (recovery_updates ready)) (length group.seats + all_calls (recovery_updates ready))
      → middle.calls ≤ old.calls + 51 * count
  recovered_few middle costs = let most = costs.calls_most in let seats = seats_few in let first = recovery_few in omega (arith, most, seats, first)

  -- and the step behind it.
  pub committed_few : (middle new : BayState D) → Costs old middle (all_sectors (recovery_updates ready)) (length group.seats + all_calls (recovery_updates ready))
      → Costs middle new (all_sectors (next_updates (record { recovery = None; steps = ready.steps }))) (all_calls (next_updates (record { recovery = None; steps = ready.steps })))
      → new.calls ≤ old.calls + 51 * count
  committed_few middle new first second =
      let most = first.calls_most in
      let then = second.calls_most in
      let seats = seats_few in
      let one = recovery_few in
      let other = next_few in
      omega (arith, most, then, seats, one, other)
