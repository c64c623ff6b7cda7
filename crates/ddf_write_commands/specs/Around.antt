-- What is written around the blocks of an array: the steps before them, and the last one behind them.
use Rattle.std.specs.Prelude.{ℕ, Bool, true, false, List, [], ◌∷◌, if◌then◌else◌}
use Rattle.ddf_config.specs.declared.array.Array.{Array}
use Rattle.ddf_config.specs.Configuration.{Configuration}
use Rattle.ddf_array.specs.Viewing.{is_array_redundant}
use Rattle.ddf_plan.specs.declared.change.Change.{Change}
use Rattle.ddf_plan.specs.declared.change.Change.TheVariants.{Mark}
use Rattle.ddf_steps.specs.Steps.{Step}

-- An array, with its GUID, is marked before its blocks are written, where it keeps what it holds in more than one place.
abbrev pub marking : (List ℕ × Array) → List Change
marking entry = if is_array_redundant entry.1 then Mark entry.0 ∷ [] else []

abbrev pub IsMark : Change → Type 0
IsMark (Mark guid) = Unit {0}
IsMark other = ⊥

-- the first item of a list, where it stands before the others, and the others
abbrev pub front : {X : Type 0} → Bool → List X → List X
front false xs = []
front true [] = []
front true (x ∷ xs) = x ∷ []

abbrev pub rest : {X : Type 0} → Bool → List X → List X
rest false xs = xs
rest true [] = []
rest true (x ∷ xs) = xs

-- the configuration behind these steps
abbrev pub config_behind : Configuration → List Step → Configuration
config_behind config [] = config
config_behind config (step ∷ steps) = config_behind step.config steps
