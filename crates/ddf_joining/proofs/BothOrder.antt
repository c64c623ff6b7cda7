-- The disks of both groups of a join are on rising slots, and those that join are written last.
use Rattle.std.proofs.Common.{◌≡◌, ◌≢◌, ℕ, ◌<◌, Bool, true, false, not, cond, List, [], ◌∷◌, ◌++◌, map, filter, refl, sym, ap, subst, ◌∙◌, arith, if◌then◌else◌, append-nil}
use Rattle.std.proofs.lemmas.Bool.{false≢true, ltb-false, ltb-true}
use Rattle.std.specs.List.{AllByRecursion}
use Rattle.std.specs.Str.{bytes_eq}
use Rattle.std.proofs.Math.Seq.{append_snoc}
use Rattle.std.proofs.lemmas.List.Elements.{filter-append}
use Rattle.ddf_lemmas.proofs.Lists.{all_unmapped, all_weaken, filter_whole}
use Rattle.ddf_config.specs.declared.seat.Seat.{Seat}
use Rattle.ddf_config.specs.Configuration.{Configuration}
use Rattle.ddf_rewrite.specs.Before.{Before}
use Rattle.ddf_rewrite.proofs.Lists.{all_mapped}
use Rattle.ddf_update.specs.declared.prepared.Mode.TheVariants as modes
use Rattle.ddf_update.specs.Prepared.{writes_anchor}
use Rattle.ddf_seats.specs.declared.seated.Seated.{Seated}
use Rattle.ddf_seats.specs.Group.{GroupValue}
use Rattle.ddf_joining.specs.Importing.{AreApart, IsOfGroupAll, IsOfAnother}
use Rattle.ddf_joining.specs.Joining.{both_disks, is_behind, join_config, join_leaders, join_step, placed}
use Rattle.ddf_recovery.specs.Recovery.{disks_recovered}
use Rattle.ddf_seats.specs.Seated.{seated, seats_in, is_adopted}
use Rattle.ddf_steps.specs.Steps.{disks_after, in_order, mode_of, rewritten, stays_in}
use Rattle.ddf_seats.specs.Changing.{SlotsRise}
use Rattle.ddf_joining.proofs.BothSides.{all_placed}
use Rattle.ddf_joining.proofs.JoinHoldable.{filter_none}

-- ---- one disk among others

abbrev before_it : Seated → List Seated → List Seated
before_it disk disks = filter (λ other. not (is_behind disk other)) disks

abbrev behind_it : Seated → List Seated → List Seated
behind_it disk disks = filter (is_behind disk) disks

-- Where one is behind it, so are all on later slots.
all_behind : (disk first : Seated) (disks : List Seated) → is_behind disk first ≡ true → AllByRecursion (λ (other : Seat). first.seat.slot < other.slot) (seats_in disks) → AllByRecursion (λ other. is_behind disk other ≡ true) disks
all_behind disk first disks h above =
    all_weaken (λ (other : Seated). first.seat.slot < other.seat.slot) (λ (other : Seated). is_behind disk other ≡ true)
    (λ other more. let less = ltb-true disk.seat.slot first.seat.slot h in grind arith)
    disks (all_unmapped (λ (other : Seat). first.seat.slot < other.slot) (λ (disk : Seated). disk.seat) disks above)

none_before : (disk : Seated) (disks : List Seated) → AllByRecursion (λ other. is_behind disk other ≡ true) disks → before_it disk disks ≡ []
none_before disk disks all = filter_none (λ other. not (is_behind disk other)) disks (all_weaken (λ (other : Seated). is_behind disk other ≡ true) (λ (other : Seated). not (is_behind disk other) ≡ false) (λ other h. ap not h) disks all)

parted : (disk : Seated) (disks : List Seated) → SlotsRise (seats_in disks) → before_it disk disks ++ behind_it disk disks ≡ disks
parted disk [] rise = refl
parted disk (first ∷ disks) rise = by (is_behind disk first) refl (parted disk disks rise.1)
  where
    by : (b : Bool) → is_behind disk first ≡ b → before_it disk disks ++ behind_it disk disks ≡ disks
        → cond (not b) (first ∷ before_it disk disks) (before_it disk disks) ++ cond b (first ∷ behind_it disk disks) (behind_it disk disks) ≡ first ∷ disks
    by true e rest =
        let all = all_behind disk first disks e rise.0 in
        ap (λ (l : List Seated). l ++ first ∷ behind_it disk disks) (none_before disk disks all) ∙ ap (λ (l : List Seated). first ∷ l) (filter_whole (is_behind disk) disks all)
    by false e rest = ap (λ (l : List Seated). first ∷ l) rest

-- A disk on a slot of its own is placed where it rises.
placed_rises : (disk : Seated) (disks : List Seated) → SlotsRise (seats_in disks) → AllByRecursion (λ other. disk.seat.slot ≢ other.seat.slot) disks → SlotsRise (seats_in (placed disks disk))
placed_rises disk [] rise differ = (tt, tt)
placed_rises disk (first ∷ disks) rise differ = by (is_behind disk first) refl (placed_rises disk disks rise.1 differ.1)
  where
    by : (b : Bool) → is_behind disk first ≡ b → SlotsRise (seats_in (placed disks disk))
        → SlotsRise (seats_in (cond (not b) (first ∷ before_it disk disks) (before_it disk disks) ++ disk ∷ cond b (first ∷ behind_it disk disks) (behind_it disk disks)))
    by true e rest =
        let less = ltb-true disk.seat.slot first.seat.slot e in
        let all = all_behind disk first disks e rise.0 in
        let above : AllByRecursion (λ (other : Seat). disk.seat.slot < other.slot) (seats_in disks) =
        all_weaken (λ (other : Seat). first.seat.slot < other.slot) (λ (other : Seat). disk.seat.slot < other.slot) (λ other more. omega (arith, less, more)) (seats_in disks) rise.0 in
        subst (λ (l : List Seated). SlotsRise (seats_in (l ++ disk ∷ first ∷ behind_it disk disks))) (sym (none_before disk disks all))
        (subst (λ (l : List Seated). SlotsRise (seats_in (disk ∷ first ∷ l))) (sym (filter_whole (is_behind disk) disks all)) ((less, above), rise))
    by false e rest =
        let most = ltb-false disk.seat.slot first.seat.slot e in
        let apart = differ.0 in
        let more : first.seat.slot < disk.seat.slot = omega (arith, most, apart) in (
          all_mapped (λ (other : Seat). first.seat.slot < other.slot) (λ (one : Seated). one.seat) (placed disks disk)
              (all_placed (λ (other : Seated). first.seat.slot < other.seat.slot) disks disk (all_unmapped (λ (other : Seat). first.seat.slot < other.slot) (λ (one : Seated). one.seat) disks rise.0) more),
          rest,
        )

-- Disks that are apart from others are so from these with one more placed among them, where they are behind it.
still_apart : (disk : Seated) (native joining : List Seated) → AreApart native joining → AllByRecursion (λ (other : Seat). disk.seat.slot < other.slot) (seats_in joining) → AreApart (placed native disk) joining
still_apart disk native [] apart behind = tt
still_apart disk native (first ∷ joining) apart behind =
    let more = behind.0 in
    (all_placed (λ (other : Seated). first.seat.slot ≢ other.seat.slot) native disk apart.0 (λ same. omega (arith, same, more)), still_apart disk native joining apart.1 behind.1)

-- The disks of both groups rise where each group's do and no slot is in both.
pub both_rise : (native joining : List Seated) → SlotsRise (seats_in native) → SlotsRise (seats_in joining) → AreApart native joining → SlotsRise (seats_in (both_disks native joining))
both_rise native [] rise also apart = rise
both_rise native (disk ∷ joining) rise also apart =
    both_rise (placed native disk) joining (placed_rises disk native rise apart.0) also.1 (still_apart disk native joining apart.1 also.0)

-- ---- the disks of each group among those of both

-- One that fails a test changes nothing of those that pass it.
kept_placed : (p : Seated → Bool) (disks : List Seated) (disk : Seated) → SlotsRise (seats_in disks) → p disk ≡ false → filter p (placed disks disk) ≡ filter p disks
kept_placed p disks disk rise fails =
    filter-append p (before_it disk disks) (disk ∷ behind_it disk disks)
    ∙ ap (λ (b : Bool). filter p (before_it disk disks) ++ cond b (disk ∷ filter p (behind_it disk disks)) (filter p (behind_it disk disks))) fails
    ∙ sym (filter-append p (before_it disk disks) (behind_it disk disks))
    ∙ ap (filter p) (parted disk disks rise)

-- One that passes it, on a slot behind them, is the last of them.
none_passes : (p : Seated → Bool) (disk : Seated) (disks : List Seated) → AllByRecursion (λ other. p other ≡ true → other.seat.slot < disk.seat.slot) disks → filter p (behind_it disk disks) ≡ []
none_passes p disk [] all = refl
none_passes p disk (first ∷ disks) all = by (is_behind disk first) refl (p first) refl (none_passes p disk disks all.1)
  where
    by : (b : Bool) → is_behind disk first ≡ b → (a : Bool) → p first ≡ a → filter p (behind_it disk disks) ≡ [] → filter p (cond b (first ∷ behind_it disk disks) (behind_it disk disks)) ≡ []
    by true e true f rest = let more = ltb-true disk.seat.slot first.seat.slot e in let less = all.0 f in absurd (omega (arith, more, less))
    by true e false f rest = ap (λ (a : Bool). cond a (first ∷ filter p (behind_it disk disks)) (filter p (behind_it disk disks))) f ∙ rest
    by false e a f rest = rest

added_placed : (p : Seated → Bool) (disks : List Seated) (disk : Seated) → SlotsRise (seats_in disks) → p disk ≡ true → AllByRecursion (λ other. p other ≡ true → other.seat.slot < disk.seat.slot) disks
    → filter p (placed disks disk) ≡ filter p disks ++ disk ∷ []
added_placed p disks disk rise passes all =
    let none = none_passes p disk disks all in
    let early : filter p (before_it disk disks) ≡ filter p disks =
    sym (append-nil (filter p (before_it disk disks))) ∙ ap (λ (l : List Seated). filter p (before_it disk disks) ++ l) (sym none)
    ∙ sym (filter-append p (before_it disk disks) (behind_it disk disks)) ∙ ap (filter p) (parted disk disks rise) in
    filter-append p (before_it disk disks) (disk ∷ behind_it disk disks)
    ∙ ap (λ (b : Bool). filter p (before_it disk disks) ++ cond b (disk ∷ filter p (behind_it disk disks)) (filter p (behind_it disk disks))) passes
    ∙ ap (λ (l : List Seated). filter p (before_it disk disks) ++ disk ∷ l) none
    ∙ ap (λ (l : List Seated). l ++ disk ∷ []) early

module _ (p : Seated → Bool) where
  pub native_kept : (native joining : List Seated) → SlotsRise (seats_in native) → SlotsRise (seats_in joining) → AreApart native joining → AllByRecursion (λ disk. p disk ≡ false) joining
      → filter p (both_disks native joining) ≡ filter p native
  native_kept native [] rise also apart fail = refl
  native_kept native (disk ∷ joining) rise also apart fail =
      native_kept (placed native disk) joining (placed_rises disk native rise apart.0) also.1 (still_apart disk native joining apart.1 also.0) fail.1
      ∙ kept_placed p native disk rise fail.0

  pub joining_kept : (native joining : List Seated) → SlotsRise (seats_in native) → SlotsRise (seats_in joining) → AreApart native joining → AllByRecursion (λ disk. p disk ≡ true) joining
      → AllByRecursion (λ disk. AllByRecursion (λ other. p other ≡ true → other.seat.slot < disk.seat.slot) native) joining
      → filter p (both_disks native joining) ≡ filter p native ++ joining
  joining_kept native [] rise also apart pass early = sym (append-nil (filter p native))
  joining_kept native (disk ∷ joining) rise also apart pass early =
      joining_kept (placed native disk) joining (placed_rises disk native rise apart.0) also.1 (still_apart disk native joining apart.1 also.0) pass.1 (later joining also.0 early.1)
      ∙ ap (λ (l : List Seated). l ++ joining) (added_placed p native disk rise pass.0 early.0)
      ∙ append_snoc (filter p native) disk joining
    where
      later : (some : List Seated) → AllByRecursion (λ (other : Seat). disk.seat.slot < other.slot) (seats_in some)
          → AllByRecursion (λ one. AllByRecursion (λ other. p other ≡ true → other.seat.slot < one.seat.slot) native) some
          → AllByRecursion (λ one. AllByRecursion (λ other. p other ≡ true → other.seat.slot < one.seat.slot) (placed native disk)) some
      later [] above all = tt
      later (one ∷ some) above all = (all_placed (λ (other : Seated). p other ≡ true → other.seat.slot < one.seat.slot) native disk all.0 (λ h. above.0), later some above.1 all.1)

-- ---- the order in which they are written

filter_mapped : (q : Seated → Bool) (f : Seated → Seated) (disks : List Seated) → filter q (map f disks) ≡ map f (filter (λ disk. q (f disk)) disks)
filter_mapped q f [] = refl
filter_mapped q f (disk ∷ disks) = by (q (f disk)) (filter_mapped q f disks)
  where
    by : (b : Bool) → filter q (map f disks) ≡ map f (filter (λ one. q (f one)) disks) → cond b (f disk ∷ filter q (map f disks)) (filter q (map f disks)) ≡ map f (cond b (disk ∷ filter (λ one. q (f one)) disks) (filter (λ one. q (f one)) disks))
    by true rest = ap (λ (l : List Seated). f disk ∷ l) rest
    by false rest = rest

filter_both : (p q : Seated → Bool) (xs : List Seated) → filter p (filter q xs) ≡ filter q (filter p xs)
filter_both p q [] = refl
filter_both p q (x ∷ xs) = by (p x) (q x) refl refl (filter_both p q xs)
  where
    by : (a b : Bool) → p x ≡ a → q x ≡ b → filter p (filter q xs) ≡ filter q (filter p xs)
        → filter p (cond b (x ∷ filter q xs) (filter q xs)) ≡ filter q (cond a (x ∷ filter p xs) (filter p xs))
    by true true e f rest = rw (e, f) (ap (λ (l : List Seated). x ∷ l) rest)
    by true false e f rest = rw f rest
    by false true e f rest = rw e rest
    by false false e f rest = rest

module _ (timestamp : ℕ) (leaders : Before) (config : Configuration) where
  abbrev after : List Seated → List Seated
  after disks = map (rewritten leaders config timestamp) (filter (stays_in config) disks)

  abbrev adopts : Seated → Bool
  adopts disk = writes_anchor (mode_of config disk)

  adopts_own : (disk : Seated) → bytes_eq disk.copy.header.guid config.group ≡ true → adopts disk ≡ false
  adopts_own disk h = ap (λ (b : Bool). writes_anchor (if b then modes.Change else modes.Adopt)) h

  adopts_other : (disk : Seated) → bytes_eq disk.copy.header.guid config.group ≡ false → adopts disk ≡ true
  adopts_other disk h = ap (λ (b : Bool). writes_anchor (if b then modes.Change else modes.Adopt)) h

  part_of : (q : Seated → Bool) (disks : List Seated) → filter q (after disks) ≡ after (filter (λ disk. q (rewritten leaders config timestamp disk)) disks)
  part_of q disks =
      filter_mapped q (rewritten leaders config timestamp) (filter (stays_in config) disks)
      ∙ ap (map (rewritten leaders config timestamp)) (filter_both (λ disk. q (rewritten leaders config timestamp disk)) (stays_in config) disks)

  no_native : (native joining : List Seated) → AllByRecursion (λ disk. bytes_eq disk.copy.header.guid config.group ≡ true) native
      → AllByRecursion (λ disk. AllByRecursion (λ other. adopts other ≡ true → other.seat.slot < disk.seat.slot) native) joining
  no_native native [] own = tt
  no_native native (disk ∷ joining) own = (
    all_weaken (λ (other : Seated). bytes_eq other.copy.header.guid config.group ≡ true) (λ (other : Seated). adopts other ≡ true → other.seat.slot < disk.seat.slot)
        (λ other h k. absurd (false≢true (sym (adopts_own other h) ∙ k))) native own,
    no_native native joining own,
  )

  pub natives_first : (native joining : List Seated) → SlotsRise (seats_in native) → SlotsRise (seats_in joining) → AreApart native joining → IsOfGroupAll config native → IsOfAnother config joining
      → in_order (after (both_disks native joining)) ≡ after native ++ after joining
  natives_first native joining rise also apart own others =
      let joining_adopted = all_weaken (λ (disk : Seated). bytes_eq disk.copy.header.guid config.group ≡ false) (λ (disk : Seated). adopts disk ≡ true) adopts_other joining others in
      let native_not = all_weaken (λ (disk : Seated). bytes_eq disk.copy.header.guid config.group ≡ true) (λ (disk : Seated). adopts disk ≡ false) adopts_own native own in
      let first : filter (λ disk. not (adopts disk)) (both_disks native joining) ≡ native =
      native_kept (λ disk. not (adopts disk)) native joining rise also apart (all_weaken (λ (disk : Seated). adopts disk ≡ true) (λ (disk : Seated). not (adopts disk) ≡ false) (λ disk h. ap not h) joining joining_adopted)
      ∙ filter_whole (λ disk. not (adopts disk)) native (all_weaken (λ (disk : Seated). adopts disk ≡ false) (λ (disk : Seated). not (adopts disk) ≡ true) (λ disk h. ap not h) native native_not) in
      let last : filter adopts (both_disks native joining) ≡ joining =
      joining_kept adopts native joining rise also apart joining_adopted (no_native native joining own) ∙ ap (λ (l : List Seated). l ++ joining) (filter_none adopts native native_not) in
      ap (λ (l : List Seated). l ++ filter is_adopted (after (both_disks native joining))) (part_of (λ disk. not (is_adopted disk)) (both_disks native joining) ∙ ap after first)
      ∙ ap (λ (l : List Seated). after native ++ l) (part_of is_adopted (both_disks native joining) ∙ ap after last)

-- The disks of a join are written so.
pub join_order : (timestamp : ℕ) (native other : GroupValue) → SlotsRise (seats_in (disks_recovered timestamp native)) → SlotsRise (seats_in (seated other)) → AreApart (disks_recovered timestamp native) (seated other)
    → IsOfGroupAll (join_config native other) (disks_recovered timestamp native) → IsOfAnother (join_config native other) (seated other)
    → in_order (join_step timestamp native other).disks
    ≡ disks_after timestamp (join_leaders timestamp native other) (join_config native other) (disks_recovered timestamp native)
    ++ disks_after timestamp (join_leaders timestamp native other) (join_config native other) (seated other)
unfolding join_step disks_after
join_order timestamp native other rise also apart own others =
    natives_first timestamp (join_leaders timestamp native other) (join_config native other) (disks_recovered timestamp native) (seated other) rise also apart own others
