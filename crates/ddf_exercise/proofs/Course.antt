-- The course of an exercise, step by step to its end: each step is done, or memory ran out.
use Rattle.std.proofs.Common.{◌≡◌, ◌∙◌, ℕ, zero, suc, ◌+◌, ◌*◌, ◌%◌, ◌≤◌, Bool, true, List, [], ◌∷◌, ◌++◌, length, take, drop, replicate, refl, sym, ap, subst, inr, arith, append_assoc, length-append}
use Rattle.std.specs.Prelude.{slice_set}
use Rattle.std.proofs.lemmas.List.{length-drop, length-replicate, length-take-le}
use Rattle.ddf_bytes.specs.declared.stamp.Stamp.{Stamp}
use Rattle.ddf_bay.specs.Memory.{state_of}
use Rattle.ddf_bay.specs.declared.memory.MemoryBay.{MemoryBay}
use Rattle.ddf_plan.specs.Refusals.{greatest_sequence}
use Rattle.ddf_exercise_config.specs.Stages.{seats_at}
use Rattle.ddf_exercise_config.specs.Turns.{Loss, Turn, turn_before, turn_behind}
use Rattle.ddf_exercise_config.specs.Turns.Loss.{OfSecond, OfThird}
use Rattle.ddf_exercise_config.specs.Turns.Turn.{Closing, Middle, Opening}
use Rattle.ddf_exercise_disks.specs.Lost.{lost_slot}
use Rattle.ddf_exercise_disks.specs.Zeros.{none_out}
use Rattle.ddf_exercise.specs.Blocks.{behind_step, blocks_behind, filled, zero_blocks}
use Rattle.ddf_exercise.specs.Draws.{behind_fill, behind_fills, drawn, first_state, next_fill, next_state}
use Rattle.ddf_exercise.specs.Exercise.{new_disks}
use Rattle.ddf_exercise.specs.Steps.{all_steps, first_steps, loss_steps, write_steps}
use Rattle.ddf_exercise.specs.Taking.{AreTaken, IsTried}
use Rattle.ddf_exercise.specs.declared.draws.Fill.{Fill}
use Rattle.ddf_exercise.specs.declared.steps.Step.{Step}
use Rattle.ddf_exercise.specs.declared.steps.Step.TheVariants.{Create, Label, Rebuild, Resync, Scrub, Spare, Unplug, Write}
use Rattle.ddf_exercise.proofs.Peeling.{GoesOnOr, peel}
use Rattle.ddf_exercise.proofs.Stepping.{At, create_on, disks, first_spare_on, label_on, rebuild_on, resync_on, scrub_on, second_spare_on, total, unplug_on, write_cost, write_on}

-- ---- what the draws give

-- A fill lies within the array, and is of 1 to 16 blocks.
pub record IsSmall (fill : Fill) : Type 0 where
  pub within : fill.start + fill.count ≤ 8192
  pub some : 1 ≤ fill.count
  pub few : fill.count ≤ 16

small_fill : (first second byte : ℕ) → IsSmall (record { start = first % 8177; count = 1 + second % 16; byte = byte })
small_fill first second byte = record { within = omega arith; some = omega arith; few = omega arith }

next_small : (state : ℕ) → IsSmall (next_fill state)
unfolding next_fill
next_small state = small_fill (drawn (next_state state)) (drawn (next_state (next_state state))) (drawn (next_state (next_state (next_state state))) % 256)

-- Blocks that are filled are as many as before.
filled_long : (fill : Fill) (bytes : List ℕ) → fill.start + fill.count ≤ length bytes → length (filled fill bytes) ≡ length bytes
filled_long fill bytes within =
    let before = length-take-le fill.start bytes (omega (arith, within)) in
    let put = length-replicate fill.count fill.byte in
    let behind = length-drop (fill.start + fill.count) bytes in
    let two = length-append (take fill.start bytes) (replicate fill.count fill.byte) in
    let all = length-append (take fill.start bytes ++ replicate fill.count fill.byte) (drop (fill.start + fill.count) bytes) in
    omega (arith, before, put, behind, two, all, within)

-- ---- steps in order

right_of : (a b c d e f g : List Step) → ((((((a ++ b) ++ c) ++ d) ++ e) ++ f) ++ g) ≡ a ++ (b ++ (c ++ (d ++ (e ++ (f ++ g)))))
right_of a b c d e f g =
    append_assoc (((((a ++ b) ++ c) ++ d) ++ e)) f g
    ∙ append_assoc ((((a ++ b) ++ c) ++ d)) e (f ++ g)
    ∙ append_assoc (((a ++ b) ++ c)) d (e ++ (f ++ g))
    ∙ append_assoc ((a ++ b)) c (d ++ (e ++ (f ++ g)))
    ∙ append_assoc a b (c ++ (d ++ (e ++ (f ++ g))))

module _ (seed rounds : ℕ) where
  abbrev first : ℕ
  first = first_state seed

  abbrev second : ℕ
  second = behind_fills rounds first

  abbrev third : ℕ
  third = behind_fills rounds second

  abbrev last_steps : List Step
  last_steps = write_steps rounds third ++ Scrub ∷ []

  abbrev middle_steps : List Step
  middle_steps = write_steps rounds second ++ (Unplug 2 ∷ Rebuild ∷ last_steps)

  abbrev opening_steps : List Step
  opening_steps = write_steps rounds first ++ (Unplug 1 ∷ Rebuild ∷ middle_steps)

  abbrev steps_right : List Step
  steps_right = Label ∷ Create ∷ Resync ∷ Spare 3 ∷ Spare 4 ∷ opening_steps

  all_right : all_steps seed rounds ≡ steps_right
  unfolding all_steps
  all_right = right_of first_steps (write_steps rounds first) (loss_steps 1) (write_steps rounds second) (loss_steps 2) (write_steps rounds third) (Scrub ∷ [])

  -- the blocks behind all writes
  abbrev pub last_blocks : List ℕ
  last_blocks = blocks_behind (write_steps rounds third) (blocks_behind (write_steps rounds second) (blocks_behind (write_steps rounds first) (zero_blocks 8192)))

behind_both : (steps others : List Step) (blocks : List ℕ) → blocks_behind (steps ++ others) blocks ≡ blocks_behind others (blocks_behind steps blocks)
behind_both [] others blocks = refl
behind_both (step ∷ steps) others blocks = behind_both steps others (behind_step step blocks)

-- No other step changes the blocks.
pub blocks_are : (seed rounds : ℕ) (blocks : List ℕ) → blocks_behind (all_steps seed rounds) blocks
    ≡ blocks_behind (write_steps rounds (third seed rounds)) (blocks_behind (write_steps rounds (second seed rounds)) (blocks_behind (write_steps rounds (first seed rounds)) blocks))
blocks_are seed rounds blocks =
    ap (λ (steps : List Step). blocks_behind steps blocks) (all_right seed rounds)
    ∙ behind_both (write_steps rounds (first seed rounds)) (Unplug 1 ∷ Rebuild ∷ middle_steps seed rounds) blocks
    ∙ behind_both (write_steps rounds (second seed rounds)) (Unplug 2 ∷ Rebuild ∷ last_steps seed rounds) (blocks_behind (write_steps rounds (first seed rounds)) blocks)
    ∙ behind_both (write_steps rounds (third seed rounds)) (Scrub ∷ []) (blocks_behind (write_steps rounds (second seed rounds)) (blocks_behind (write_steps rounds (first seed rounds)) blocks))

-- ---- writes

more : (cost left : ℕ) → cost * suc left ≡ cost + cost * left
more cost left = omega arith

module _ (stamp : Stamp) (rounds : ℕ) where
  at_along : (turn : Turn) (out : List Bool) (bytes : List ℕ) (bay : MemoryBay) {asked other sequence number : ℕ} → asked ≡ other → sequence ≡ number
      → At stamp rounds turn asked sequence out bytes bay → At stamp rounds turn other number out bytes bay
  at_along turn out bytes bay {other = other} {sequence = sequence} same is at =
      subst (λ (n : ℕ). At stamp rounds turn other n out bytes bay) is (subst (λ (n : ℕ). At stamp rounds turn n sequence out bytes bay) same at)

  tried_along : (step : Step) (old next : MemoryBay) (status : ℕ) {sequence number : ℕ} → sequence ≡ number → IsTried stamp step sequence old next status → IsTried stamp step number old next status
  tried_along step old next status is tried = subst (λ (n : ℕ). IsTried stamp step n old next status) is tried

  taken_along : (steps : List Step) (old new : MemoryBay) (code : ℕ) {sequence number : ℕ} → sequence ≡ number → AreTaken stamp sequence steps old new code → AreTaken stamp number steps old new code
  taken_along steps old new code is taken = subst (λ (n : ℕ). AreTaken stamp n steps old new code) is taken

  module _ (turn : Turn) (out : List Bool) (others : List Step) (new : MemoryBay) (code : ℕ) {R : Type 0} where
    writes_on : (left state asked sequence : ℕ) (bytes : List ℕ) (old : MemoryBay) → At stamp rounds turn asked sequence out bytes old → length bytes ≡ 8192 → sequence + 2 * left ≤ greatest_sequence
        → asked + write_cost stamp rounds turn * left ≤ total stamp rounds
        → ((next : MemoryBay) → At stamp rounds turn (asked + write_cost stamp rounds turn * left) (sequence + 2 * left) out (blocks_behind (write_steps left state) bytes) next
        → length (blocks_behind (write_steps left state) bytes) ≡ 8192 → AreTaken stamp (sequence + 2 * left) others next new code → GoesOnOr code R)
        → AreTaken stamp sequence (write_steps left state ++ others) old new code → GoesOnOr code R
    writes_on zero state asked sequence bytes old at long within enough follows taken =
        let cost : asked ≡ asked + write_cost stamp rounds turn * 0 = omega arith in
        let number : sequence ≡ sequence + 2 * 0 = omega arith in
        follows old (at_along turn out bytes old cost number at) long (taken_along others old new code number taken)
    writes_on (suc left) state asked sequence bytes old at long within enough follows taken =
        let fill = next_fill state in
        let small = next_small state in
        let one = more (write_cost stamp rounds turn) left in
        let fits_in : fill.start + fill.count ≤ length bytes = subst (λ (n : ℕ). fill.start + fill.count ≤ n) (sym long) small.within in
        let long_then : length (filled fill bytes) ≡ 8192 = filled_long fill bytes fits_in ∙ long in
        peel stamp sequence (Write fill) (write_steps left (behind_fill state) ++ others) old new code
        (λ next status tried. write_on stamp rounds turn asked sequence out bytes (omega (arith, within)) long (omega (arith, enough, one)) fill small.within small.some small.few old next status at tried)
        (λ next stores rest.
        writes_on left (behind_fill state) (asked + 166 * length (seats_at (disks stamp rounds) turn) + 32) (sequence + 2) (filled fill bytes) next stores long_then (omega (arith, within)) (omega (arith, enough, one))
        (λ final there all behind.
        follows final (at_along turn out (blocks_behind (write_steps left (behind_fill state)) (filled fill bytes)) final (omega (arith, one)) (omega arith) there) all (taken_along others final new code (omega arith) behind))
        rest)
        taken

-- ---- all of it

-- The array has the blocks of the writes in the end.
pub record IsFinal (stamp : Stamp) (seed rounds : ℕ) (new : MemoryBay) : Type 0 where
  pub asked : ℕ
  pub sequence : ℕ
  pub out : List Bool
  pub enough : asked ≤ total stamp rounds
  pub long : length (last_blocks seed rounds) ≡ 8192
  pub stores : At stamp rounds Closing asked sequence out (last_blocks seed rounds) new

module _ (stamp : Stamp) (seed rounds : ℕ) (few : rounds ≤ 256) (new : MemoryBay) (code : ℕ) where
  abbrev Ends : Type 0
  Ends = GoesOnOr code (IsFinal stamp seed rounds new)

  zeros_last : blocks_behind (write_steps rounds (third seed rounds)) (blocks_behind (write_steps rounds (second seed rounds)) (blocks_behind (write_steps rounds (first seed rounds)) (replicate 8192 0))) ≡ last_blocks seed rounds
  unfolding zero_blocks
  zeros_last = refl

  -- ---- behind the second rebuild

  closed : (asked sequence : ℕ) (out : List Bool) (old : MemoryBay) → asked ≤ total stamp rounds → length (last_blocks seed rounds) ≡ 8192
      → At stamp rounds Closing asked sequence out (last_blocks seed rounds) old → AreTaken stamp sequence (Scrub ∷ []) old new code → Ends
  closed asked sequence out old enough long at taken =
      peel stamp sequence Scrub [] old new code
      (λ next status tried. scrub_on stamp rounds Closing asked sequence out (last_blocks seed rounds) enough old next status at (tried_along stamp rounds Scrub old next status (omega arith) tried))
      (λ next stores done. inr (
        done.1,
        record {
          asked = asked;
          sequence = sequence;
          out = out;
          enough = enough;
          long = long;
          stores = subst (λ (bay : MemoryBay). At stamp rounds Closing asked sequence out (last_blocks seed rounds) bay) (sym done.0) stores;
        },
      ))
      taken

  module _ (bytes : List ℕ) where
    -- a disk is lost, and the array is rebuilt
    loss_on : (loss : Loss) (slot : ℕ) → slot ≡ lost_slot loss → {R : Type 0} (steps : List Step) (asked sequence : ℕ) (out : List Bool) (old : MemoryBay)
        → At stamp rounds (turn_before loss) asked sequence out bytes old → sequence + 4 ≤ greatest_sequence
        → asked + 249 * length (seats_at (disks stamp rounds) (turn_behind loss)) + 4096 ≤ total stamp rounds
        → ((next : MemoryBay) → At stamp rounds (turn_behind loss) (asked + 249 * length (seats_at (disks stamp rounds) (turn_behind loss)) + 4096) (sequence + 4) (slice_set out (lost_slot loss) true) bytes next
        → AreTaken stamp (sequence + 4) steps next new code → GoesOnOr code R)
        → AreTaken stamp sequence (Unplug slot ∷ Rebuild ∷ steps) old new code → GoesOnOr code R
    loss_on loss slot is steps asked sequence out old at within enough follows taken =
        peel stamp sequence (Unplug (lost_slot loss)) (Rebuild ∷ steps) old new code
        (λ between status tried. unplug_on stamp rounds loss asked sequence out bytes old between status at (tried_along stamp rounds (Unplug (lost_slot loss)) old between status (omega arith) tried))
        (λ between unplugged rest.
        peel stamp sequence Rebuild steps between new code
        (λ next status tried. rebuild_on stamp rounds loss asked sequence out bytes within enough between next status unplugged tried)
        (λ next stores behind. follows next stores behind)
        (taken_along stamp rounds (Rebuild ∷ steps) between new code (omega arith) rest))
        (subst (λ (n : ℕ). AreTaken stamp sequence (Unplug n ∷ Rebuild ∷ steps) old new code) is taken)

  -- ---- the writes of each turn, and what follows them

  closing : (bytes : List ℕ) (asked sequence : ℕ) (out : List Bool) (old : MemoryBay) → At stamp rounds Closing asked sequence out bytes old → length bytes ≡ 8192 → sequence ≤ 2000 → asked + 530 * rounds ≤ total stamp rounds
      → blocks_behind (write_steps rounds (third seed rounds)) bytes ≡ last_blocks seed rounds → AreTaken stamp sequence (last_steps seed rounds) old new code → Ends
  closing bytes asked sequence out old at long low enough same taken =
      writes_on stamp rounds Closing out (Scrub ∷ []) new code rounds (third seed rounds) asked sequence bytes old at long (omega (arith, low, few)) enough
      (λ next there all rest. closed (asked + 530 * rounds) (sequence + 2 * rounds) out next enough (subst (λ (some : List ℕ). length some ≡ 8192) same all) (subst (λ (some : List ℕ). At stamp rounds Closing (asked + 530 * rounds) (sequence + 2 * rounds) out some next) same there) rest)
      taken

  middle : (bytes : List ℕ) (asked sequence : ℕ) (out : List Bool) (old : MemoryBay) → At stamp rounds Middle asked sequence out bytes old → length bytes ≡ 8192 → sequence ≤ 1000
      → asked + 696 * rounds + 4843 + 530 * rounds ≤ total stamp rounds
      → blocks_behind (write_steps rounds (third seed rounds)) (blocks_behind (write_steps rounds (second seed rounds)) bytes) ≡ last_blocks seed rounds
      → AreTaken stamp sequence (middle_steps seed rounds) old new code → Ends
  middle bytes asked sequence out old at long low enough same taken =
      writes_on stamp rounds Middle out (Unplug 2 ∷ Rebuild ∷ last_steps seed rounds) new code rounds (second seed rounds) asked sequence bytes old at long (omega (arith, low, few)) (omega (arith, enough))
      (λ next there all rest.
      loss_on (blocks_behind (write_steps rounds (second seed rounds)) bytes) OfThird 2 refl (last_steps seed rounds) (asked + 696 * rounds) (sequence + 2 * rounds) out next there (omega (arith, low, few)) (omega (arith, enough))
      (λ rebuilt stores behind.
      closing (blocks_behind (write_steps rounds (second seed rounds)) bytes) (asked + 696 * rounds + 249 * 3 + 4096) (sequence + 2 * rounds + 4) (slice_set out 2 true) rebuilt stores all (omega (arith, low, few))
      (omega (arith, enough)) same behind)
      rest)
      taken

  opening : (old : MemoryBay) → At stamp rounds Opening 14363 5 none_out (replicate 8192 0) old → AreTaken stamp 5 (opening_steps seed rounds) old new code → Ends
  opening old at taken =
      writes_on stamp rounds Opening none_out (Unplug 1 ∷ Rebuild ∷ middle_steps seed rounds) new code rounds (first seed rounds) 14363 5 (replicate 8192 0) old at (length-replicate {A = ℕ} 8192 0) (omega (arith, few)) (omega arith)
      (λ next there all rest.
      loss_on (blocks_behind (write_steps rounds (first seed rounds)) (replicate 8192 0)) OfSecond 1 refl (middle_steps seed rounds) (14363 + 862 * rounds) (5 + 2 * rounds) none_out next there (omega (arith, few)) (omega arith)
      (λ rebuilt stores behind.
      middle (blocks_behind (write_steps rounds (first seed rounds)) (replicate 8192 0)) (14363 + 862 * rounds + 249 * 4 + 4096) (5 + 2 * rounds + 4) (slice_set none_out 1 true) rebuilt stores all (omega (arith, few))
      (omega arith) zeros_last behind)
      rest)
      taken

  -- ---- from the beginning

  pub course_on : (old : MemoryBay) → state_of old ≡ new_disks rounds → AreTaken stamp 0 (all_steps seed rounds) old new code → Ends
  course_on old is taken =
      peel stamp 0 Label (Create ∷ Resync ∷ Spare 3 ∷ Spare 4 ∷ opening_steps seed rounds) old new code (λ next status tried. label_on stamp rounds old next status is tried)
      (λ labelled at_label rest.
      peel stamp 1 Create (Resync ∷ Spare 3 ∷ Spare 4 ∷ opening_steps seed rounds) labelled new code (λ next status tried. create_on stamp rounds labelled next status at_label tried)
      (λ created at_create rest2.
      peel stamp 2 Resync (Spare 3 ∷ Spare 4 ∷ opening_steps seed rounds) created new code (λ next status tried. resync_on stamp rounds created next status at_create tried)
      (λ resynced at_resync rest3.
      peel stamp 3 (Spare 3) (Spare 4 ∷ opening_steps seed rounds) resynced new code (λ next status tried. first_spare_on stamp rounds resynced next status at_resync tried)
      (λ spared at_spare rest4.
      peel stamp 4 (Spare 4) (opening_steps seed rounds) spared new code (λ next status tried. second_spare_on stamp rounds spared next status at_spare tried)
      (λ whole at_whole rest5. opening whole at_whole rest5)
      rest4)
      rest3)
      rest2)
      rest)
      (subst (λ (steps : List Step). AreTaken stamp 0 steps old new code) (all_right seed rounds) taken)
