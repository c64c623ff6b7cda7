use Rattle.std.proofs.Common.{◌≡◌, ◌+◌, ◌-◌, ◌≤◌, ◌<◌, [], length, get_or, take, drop, ◌∙◌, arith}
use Rattle.std.specs.Prelude.{slice_index}
use Rattle.ddf_lemmas.proofs.Lists.{length_of_rest}
use Rattle.ddf_bay.proofs.Steps.{keeps_then, spends_then, stops_then}
use Rattle.ddf_badblocks.specs.Pieces.{pieces_below}
use Rattle.ddf_badblocks.specs.State.{place}
use Rattle.ddf_bay.proofs.Fronts.{remembers_then, spends_more}
use Rattle.ddf_badblocks.proofs.Cuts.{pieces_more, rest_begins}
use Rattle.ddf_badblocks.proofs.Given.{bytes_more, held_since}
use Rattle.ddf_badblocks.proofs.pieces.read_pieces.Goals as goal

pub returns-in_err-done-clause-spends : goal.returns-in_err-done-clause-spends
returns-in_err-done-clause-spends g c =
    let so_far = c.loop-done.invariant in
    let long = length c.args.into.now in
    let done = c.loop-done.done in
    let size = slice_index (g.B.Bay.disks c.args.bay.now).sizes c.args.slot in
    let ranges = get_or c.args.logs.now c.args.slot [] in
    let some : done < long = omega (arith, c.loop-done-test.true, c.loop-done.auto.into) in
    let whole : done + (long - done) ≡ long = omega (arith, some) in
    let up = pieces_more size ranges c.args.lba done (long - done) (omega (arith, some)) (so_far.begins some) in
    spends_more 0 (pieces_below size ranges c.args.lba long) (spends_then so_far.spends c.read_front.ensures.spends) (omega arith) (rw whole at up)

pub loop-done-preserved : goal.loop-done-preserved
loop-done-preserved g c =
    let old = g.B.Bay.disks c.args.bay.now in
    let now = g.B.Bay.disks c.loop-done.bay in
    let new = g.B.Bay.disks c.read_front.new.bay in
    let so_far = c.loop-done.invariant in
    let done = c.loop-done.done in
    let n = c.in_ok-done.field-0 in
    let size = slice_index old.sizes c.args.slot in
    let ranges = get_or c.args.logs.now c.args.slot [] in
    let some : done < length c.args.into.now = omega (arith, c.loop-done-test.true, c.loop-done.auto.into) in
    let begins = so_far.begins some in
    let rest = length_of_rest c.loop-done.into done in
    let most : n ≤ length c.loop-done.into - done = omega (arith, c.in_ok-done.ensures.most, rest) in
    record {
      within = omega (arith, most, c.loop-done.auto.into, some);
      bytes = λ tells. bytes_more (λ k. old.held c.args.slot (place old.sizes c.args.logs.now c.args.slot (c.args.lba + k))) c.loop-done.into c.read_front.new.into _ done n
          (omega (arith, some, c.loop-done.auto.into)) (omega (arith, c.in_ok-done.ensures.most, c.read_front.auto.into))
          (so_far.bytes tells)
          (λ k lt. c.in_ok-done.ensures.bytes tells k lt ∙ held_since old.sizes now.sizes c.args.logs.now old.held now.held c.args.slot c.args.lba done k so_far.spends.same_sizes so_far.held);
      held = c.in_ok-done.ensures.held ∙ so_far.held;
      left = keeps_then so_far.left c.in_ok-done.ensures.left;
      any_moment = stops_then so_far.any_moment c.in_ok-done.ensures.any_moment (λ image left s l. so_far.left s l (image s l) (left s l));
      remembers = remembers_then old now new so_far.remembers c.in_ok-done.ensures.remembers c.in_ok-done.ensures.spends.told so_far.any_moment.later;
      gone = λ first was. c.in_ok-done.ensures.gone (g.met.B.Bay.stays_gone c.args.bay.now c.loop-done.bay c.args.slot (so_far.spends.goes_on c.loop-done.bay (g.met.B.Bay.leads c.loop-done.bay)) was);
      ok = c.in_ok-done.ensures.ok ∙ so_far.ok;
      spends = spends_more _ _ (spends_then so_far.spends c.in_ok-done.ensures.spends) (omega arith) (pieces_more size ranges c.args.lba done n c.in_ok-done.ensures.some begins);
      begins = λ lt. rest_begins size ranges c.args.lba done n c.in_ok-done.ensures.some (
          let left : n < length (take (length c.loop-done.into - done) (drop done c.loop-done.into)) = omega (arith, rest, lt, c.loop-done.auto.into) in
          (rw so_far.spends.same_sizes at c.in_ok-done.ensures.next) left);
    }
