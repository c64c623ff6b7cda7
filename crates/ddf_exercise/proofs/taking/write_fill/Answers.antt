use Rattle.std.proofs.Common.{inl, inr, refl}
use Rattle.ddf_bytes.specs.Memory.{input_of}
use Rattle.ddf_exercise.proofs.taking.write_fill.Goals as goal

pub returns-in-Err-clause-taken : goal.returns-in-Err-clause-taken
returns-in-Err-clause-taken c = inr (record { same_bay = refl; same_output = refl; is_status = refl })

pub returns-clause-taken : goal.returns-clause-taken
returns-clause-taken c =
    let bytes = c.in-Ok.ensures.items_if_clones_equal (λ y same. same) in
    inl (record { left = input_of c.write.new.source; done = rw (c.requires.named, c.new-source.ensures, bytes) at c.write.ensures.done; goes_on = c.write.ensures.ends.goes_on; stays = λ none. absurd cc })
