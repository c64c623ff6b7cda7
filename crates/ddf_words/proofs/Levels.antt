-- The words of levels.
use Rattle.std.proofs.Common.{◌≡◌, ℕ, List, Option, Some}
use Rattle.ddf_words.specs.Words.{Word, IsLevel, IsSecondary, StandsAt, level_rows, said_by, secondary_rows}

-- where a level is said, one is said
pub level_stands : (level : ℕ × ℕ) (words : List Word) (place : ℕ) → StandsAt (λ word. said_by level_rows word ≡ Some level) words place → StandsAt IsLevel words place
level_stands level words place stands = record { within = stands.within; is = record { level = level; says = stands.is } }

pub secondary_stands : (secondary : Option ℕ) (words : List Word) (place : ℕ) → StandsAt (λ word. said_by secondary_rows word ≡ Some secondary) words place → StandsAt IsSecondary words place
secondary_stands secondary words place stands = record { within = stands.within; is = record { secondary = secondary; says = stands.is } }
