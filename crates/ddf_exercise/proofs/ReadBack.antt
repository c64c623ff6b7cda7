-- An exercise whose steps were all done ends as its read does.
use Rattle.std.proofs.Common.{◌≡◌, ◌∙◌, ℕ, ◌+◌, ◌*◌, Bool, List, Result, Ok, Err, inl, ap, subst}
use Rattle.std.specs.Prelude.{◌↔◌, IsTrue}
use Rattle.std.specs.List.{sum}
use Rattle.ddf_bytes.specs.declared.stamp.Stamp.{Stamp}
use Rattle.ddf_bay.specs.declared.memory.MemoryBay.{MemoryBay}
use Rattle.ddf_answer.specs.Call.{Answer}
use Rattle.ddf_answer.specs.Tells.{ClosesWith}
use Rattle.ddf_answer.specs.declared.status.Status.{Status}
use Rattle.ddf_exercise.specs.Blocks.{blocks_behind, blocks_in, bytes_behind, bytes_of_blocks, zero_blocks}
use Rattle.ddf_exercise.specs.Exercise.{EndsAs, IsExercised, IsTriedRead, exercise_line, found_behind, line_saying}
use Rattle.ddf_exercise.specs.Steps.{all_steps}
use Rattle.ddf_exercise.specs.Taking.{AreTaken}
use Rattle.ddf_exercise.specs.declared.exercising.Found.{Found}
use Rattle.ddf_exercise.specs.declared.steps.Step.{Step}

module _ (stamp : Stamp) (seed rounds : ℕ) (old between new : MemoryBay) (taken : AreTaken stamp 0 (all_steps seed rounds) old between 0) where
  went : (result : Result Found Status) → EndsAs (IsTriedRead stamp (bytes_behind (all_steps seed rounds)) between new) (all_steps seed rounds) result
      → EndsAs (IsExercised stamp seed rounds old new) (all_steps seed rounds) result
  went (Ok found) ends = (inl (record { between = between; taken = taken; read = ends.0 }), ends.1)
  went (Err status) ends = (inl (record { between = between; taken = taken; read = ends.0 }), ends.1, ends.2)

  pub read_through : (steps : List Step) (result : Result Found Status) → steps ≡ all_steps seed rounds → EndsAs (IsTriedRead stamp (bytes_behind steps) between new) steps result
      → EndsAs (IsExercised stamp seed rounds old new) (all_steps seed rounds) result
  read_through steps result is ends = went result (subst (λ (some : List Step). EndsAs (IsTriedRead stamp (bytes_behind some) between new) some result) is ends)

-- ---- the bytes that are read

pub bytes_are : (steps : List Step) (blocks bytes : List ℕ) → blocks ≡ blocks_behind steps (zero_blocks 8192) → bytes ≡ bytes_of_blocks blocks → bytes ≡ bytes_behind steps
unfolding bytes_behind
bytes_are steps blocks bytes is_blocks is_bytes = is_bytes ∙ ap bytes_of_blocks is_blocks

pub tells_along : (test : Bool) (told other expected all : List ℕ) → told ≡ other → expected ≡ all → (IsTrue test ↔ (told ≡ expected)) → (IsTrue test ↔ (other ≡ all))
tells_along test told other expected all same is tells =
    subst (λ (some : List ℕ). IsTrue test ↔ (other ≡ some)) is (subst (λ (some : List ℕ). IsTrue test ↔ (some ≡ expected)) same tells)

found : (blocks total : ℕ) → Found
found blocks total = record { blocks = blocks; sum = total }

pub found_is : (steps : List Step) (blocks total : ℕ) → blocks ≡ blocks_in steps → total ≡ sum (bytes_behind steps) → record { blocks = blocks; sum = total } ≡ found_behind steps
unfolding found
found_is steps blocks total is_blocks is_total = ap (λ (some : ℕ). found some total) is_blocks ∙ ap (found (blocks_in steps)) is_total

-- ---- what is told

pub tells_line : (answer : Answer) (seed rounds : ℕ) (found : Found) (text : List ℕ) → text ≡ line_saying (3 * rounds) found.blocks found.sum (13 + 6 * rounds)
    → found ≡ found_behind (all_steps seed rounds) → ClosesWith 0 text answer → ClosesWith 0 (exercise_line seed rounds) answer
tells_line answer seed rounds found text is_text is_found =
    subst (λ (line : List ℕ). ClosesWith 0 line answer) (is_text ∙ ap (λ (some : Found). line_saying (3 * rounds) some.blocks some.sum (13 + 6 * rounds)) is_found)
