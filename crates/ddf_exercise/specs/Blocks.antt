-- The blocks of an exercise's array behind its writes, each by the byte that fills it.
use Rattle.std.specs.Prelude.{ℕ, ◌+◌, List, [], ◌∷◌, ◌++◌, replicate, take, drop}
use Rattle.std.specs.List.{sum_by}
use Rattle.ddf_exercise.specs.declared.draws.Fill.{Fill}
use Rattle.ddf_exercise.specs.declared.steps.Step.{Step}
use Rattle.ddf_exercise.specs.declared.steps.Step.TheVariants.{Write}

-- so many blocks of zeros
unfoldable pub zero_blocks : (count : ℕ) → List ℕ
zero_blocks count = replicate count 0

-- blocks, some of which are filled
abbrev pub filled : Fill → List ℕ → List ℕ
filled fill blocks = take fill.start blocks ++ replicate fill.count fill.byte ++ drop (fill.start + fill.count) blocks

-- the blocks behind a step
abbrev pub behind_step : Step → List ℕ → List ℕ
behind_step (Write fill) blocks = filled fill blocks
behind_step step blocks = blocks

-- and behind all of them
abbrev pub blocks_behind : List Step → List ℕ → List ℕ
blocks_behind [] blocks = blocks
blocks_behind (step ∷ steps) blocks = blocks_behind steps (behind_step step blocks)

-- the bytes of a block, which is filled with one
unfoldable pub block_of : (byte : ℕ) → List ℕ
block_of byte = replicate 512 byte

-- the bytes of all of them
abbrev pub bytes_of_blocks : List ℕ → List ℕ
bytes_of_blocks [] = []
bytes_of_blocks (byte ∷ blocks) = block_of byte ++ bytes_of_blocks blocks

-- the bytes of an exercise's 8,192 blocks behind its steps, from zeros on
unfoldable pub bytes_behind : List Step → List ℕ
bytes_behind steps = bytes_of_blocks (blocks_behind steps (zero_blocks 8192))

-- how many blocks a step writes
abbrev pub written_by : Step → ℕ
written_by (Write fill) = fill.count
written_by step = 0

-- and all of them
abbrev pub blocks_in : List Step → ℕ
blocks_in steps = sum_by written_by steps
