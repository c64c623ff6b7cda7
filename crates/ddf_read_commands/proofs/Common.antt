-- What several crates above ask of the definitions of this one.
use Rattle.std.proofs.Common.{inl, inr, refl, ◌≡◌, ◌⊎◌}
use Rattle.ddf_answer.specs.declared.failure.Failure.TheVariants.{Conflict, Disk, Memory, Refused, Split}
use Rattle.ddf_read_commands.specs.Read.{Outcome}
use Rattle.ddf_read_commands.specs.Read.Outcome.{CutShort, NotRead, Stopped, Whole}

pub read_memory : (outcome : Outcome) → (outcome ≡ NotRead Memory) ⊎ (outcome ≡ NotRead Memory → ⊥)
read_memory (Whole sectors) = inr (λ is. cc)
read_memory (NotRead (Refused refusal)) = inr (λ is. cc)
read_memory (NotRead (Disk slot)) = inr (λ is. cc)
read_memory (NotRead (Conflict i j sequence differ)) = inr (λ is. cc)
read_memory (NotRead (Split i j)) = inr (λ is. cc)
read_memory (NotRead Memory) = inl refl
read_memory (Stopped front slot) = inr (λ is. cc)
read_memory (CutShort front) = inr (λ is. cc)
