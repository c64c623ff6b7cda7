use Rattle.std.proofs.Common.{◌≡◌, ◌∙◌, ℕ, ◌+◌, ap, length, length-append}
use Rattle.ddf_update.specs.NewCopies.{sizes_of}
use Rattle.ddf_update.proofs.FirstCopies.{first_more}
use Rattle.ddf_update.proofs.group.found.Goals as goal

pub loop-place-preserved : goal.loop-place-preserved
loop-place-preserved c =
    let sizes : c.deref.result.now ≡ sizes_of c.args.disks.now = c.deref.ensures.value ∙ c.in_ok-sizes.ensures in
    let under = rw sizes at c.in_ok-first_update.ensures.under in
    let prepared = rw sizes at c.in_ok-first_update.ensures.prepared in
    record {
      end = c.loop-place.invariant.end;
      counted = ap length c.in_ok-push.ensures.items ∙ length-append c.loop-place.updates.items _ ∙ ap (λ (n : ℕ). n + 1) c.loop-place.invariant.counted;
      first = rw c.in_ok-push.ensures.items (first_more _ _ _ c.loop-place.place _ c.loop-place.invariant.first c.loop-place.invariant.counted under prepared);
    }
