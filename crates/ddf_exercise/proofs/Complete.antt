-- An exercise is done, or memory ran out.
use Rattle.std.proofs.Common.{◌≡◌, ◌∙◌, ◌⊎◌, ℕ, ◌≤◌, List, [], ◌∷◌, ◌++◌, replicate, refl, sym, ap, inl, inr, ⊎_elim, arith}
use Rattle.std.specs.List.{flat_map}
use Rattle.ddf_bytes.specs.declared.stamp.Stamp.{Stamp}
use Rattle.ddf_bay.specs.Memory.{state_of}
use Rattle.ddf_bay.specs.declared.memory.MemoryBay.{MemoryBay}
use Rattle.ddf_exercise_config.specs.Turns.Turn.{Closing}
use Rattle.ddf_exercise.specs.Blocks.{block_of, bytes_behind, bytes_of_blocks, zero_blocks}
use Rattle.ddf_exercise.specs.Exercise.{IsExercised, new_disks}
use Rattle.ddf_exercise.specs.Steps.{all_steps}
use Rattle.ddf_exercise.proofs.Course.{IsFinal, blocks_are, course_on, last_blocks}
use Rattle.ddf_exercise.proofs.Peeling.{GoesOnOr}
use Rattle.ddf_exercise.proofs.Stepping.{read_on}

-- The bytes of blocks are those of each, one after another.
joined : (blocks : List ℕ) → flat_map (λ (byte : ℕ). replicate 512 byte) blocks ≡ bytes_of_blocks blocks
unfolding block_of
joined [] = refl
joined (byte ∷ blocks) = ap (λ (others : List ℕ). replicate 512 byte ++ others) (joined blocks)

all_bytes : (seed rounds : ℕ) → flat_map (λ (byte : ℕ). replicate 512 byte) (last_blocks seed rounds) ≡ bytes_behind (all_steps seed rounds)
unfolding bytes_behind
all_bytes seed rounds = joined (last_blocks seed rounds) ∙ ap bytes_of_blocks (sym (blocks_are seed rounds (zero_blocks 8192)))

pub exercised_well : (stamp : Stamp) (seed rounds : ℕ) → rounds ≤ 256 → (old new : MemoryBay) (code : ℕ) → state_of old ≡ new_disks rounds → IsExercised stamp seed rounds old new code → (code ≡ 0) ⊎ (code ≡ 5)
exercised_well stamp seed rounds few old new code is (inl went) = by_course (course_on stamp seed rounds few went.between 0 old is went.taken)
  where
    ended : {P : Type 0} → GoesOnOr code P → (code ≡ 0) ⊎ (code ≡ 5)
    ended (inl five) = inr five
    ended (inr done) = inl done.0

    by_course : GoesOnOr 0 (IsFinal stamp seed rounds went.between) → (code ≡ 0) ⊎ (code ≡ 5)
    by_course (inl five) = absurd (omega (arith, five))
    by_course (inr (done, final)) =
        ended (read_on stamp rounds Closing final.asked final.sequence final.out (last_blocks seed rounds) final.enough went.between new (bytes_behind (all_steps seed rounds)) code final.stores final.long
        (all_bytes seed rounds) went.read)
exercised_well stamp seed rounds few old new code is (inr (inl ended)) =
    ⊎_elim (λ five. inr five) (λ done. absurd (ended.not_done done.0)) (course_on stamp seed rounds few new code old is ended.taken)
exercised_well stamp seed rounds few old new code is (inr (inr lacks)) = inr lacks.is_status
