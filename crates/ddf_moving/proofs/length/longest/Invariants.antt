use Rattle.std.proofs.Common.{◌≡◌, ◌<◌, ◌^◌, max, take, fold}
use Rattle.ddf_moving.specs.Places.{end_of}
use Rattle.ddf_moving.proofs.length.longest.Given as goal

abbrev pub invariant-loop-section : goal.invariant-loop-section
invariant-loop-section l = record {
  so_far : l.most ≡ fold (λ most section. max most (end_of section)) 1 (take l.section-index l.sections);
  few : l.most < 2 ^ 33;
}
