use Rattle.std.proofs.Common.{◌≡◌, ◌+◌, ◌-◌, ◌≤◌, ◌<◌, length, take, drop, ap, ◌∙◌, arith}
use Rattle.std.proofs.lemmas.List.{take_rest, length-drop}
use Rattle.ddf_lemmas.proofs.Options.{on_err}
use Rattle.ddf_bay.specs.Sectors.{Image, put_run}
use Rattle.ddf_bay.proofs.Steps.{spends_then}
use Rattle.ddf_linux.specs.State.{turned_state}
use Rattle.ddf_bay.proofs.Fronts.{rest_adds, rest_stops, rest_mixes, put_pieces, remembers_then, spends_more}
use Rattle.ddf_linux.specs.Kinds.{kind_at}
use Rattle.ddf_linux.specs.Pieces.{pieces_below}
use Rattle.ddf_linux.proofs.Cuts.{pieces_more, rest_begins}
use Rattle.ddf_linux.proofs.pieces.write_pieces.Goals as goal

pub returns-in_err-done-clause-held_failed : goal.returns-in_err-done-clause-held_failed
returns-in_err-done-clause-held_failed g c = λ tells.
    on_err c.from_residual.result (rest_mixes c.args.lba c.args.from.now c.loop-done.done c.loop-done.invariant.within c.args.slot
    (turned_state c.args.kinds.now (g.B.Bay.disks c.args.bay.now)).held (turned_state c.args.kinds.now (g.B.Bay.disks c.loop-done.bay)).held (turned_state c.args.kinds.now (g.B.Bay.disks c.write_front.new.bay)).held
    (c.loop-done.invariant.held tells) (rw (take_rest c.args.from.now c.loop-done.done) at (c.in_err-done.ensures.held_failed tells)))

pub returns-in_err-done-clause-left : goal.returns-in_err-done-clause-left
returns-in_err-done-clause-left g c =
    rest_adds c.args.lba c.args.from.now c.loop-done.done c.loop-done.invariant.within c.args.slot
    (turned_state c.args.kinds.now (g.B.Bay.disks c.args.bay.now)).may_hold (turned_state c.args.kinds.now (g.B.Bay.disks c.loop-done.bay)).may_hold (turned_state c.args.kinds.now (g.B.Bay.disks c.write_front.new.bay)).may_hold
    c.loop-done.invariant.left (rw (take_rest c.args.from.now c.loop-done.done) at c.in_err-done.ensures.left)

pub returns-in_err-done-clause-any_moment : goal.returns-in_err-done-clause-any_moment
returns-in_err-done-clause-any_moment g c =
    rest_stops c.args.lba c.args.from.now c.loop-done.done c.loop-done.invariant.within c.args.slot
    (turned_state c.args.kinds.now (g.B.Bay.disks c.args.bay.now)) (turned_state c.args.kinds.now (g.B.Bay.disks c.loop-done.bay)) (turned_state c.args.kinds.now (g.B.Bay.disks c.write_front.new.bay))
    c.loop-done.invariant.left c.loop-done.invariant.any_moment (rw (take_rest c.args.from.now c.loop-done.done) at c.in_err-done.ensures.any_moment)

pub returns-in_err-done-clause-spends : goal.returns-in_err-done-clause-spends
returns-in_err-done-clause-spends g c =
    let so_far = c.loop-done.invariant in
    let from = c.args.from.now in
    let done = c.loop-done.done in
    let kind = kind_at c.args.kinds.now c.args.slot in
    let rest : length (drop done from) ≡ length from - done = length-drop done from in
    let some : 0 < length from - done = omega (arith, c.loop-done-test.true) in
    let whole : done + (length from - done) ≡ length from = omega (arith, so_far.within) in
    let up = pieces_more kind c.args.lba from done (length from - done) some (so_far.begins c.loop-done-test.true) in
    let step = rw (take_rest from done, rest) at c.in_err-done.ensures.spends_failed in
    let sectors : done + (length from - done) ≤ length from = omega (arith, whole) in
    spends_more (length from) (pieces_below kind c.args.lba from (length from)) (spends_then so_far.spends step) sectors (rw whole at up)

pub loop-done-preserved : goal.loop-done-preserved
loop-done-preserved g c =
    let old = turned_state c.args.kinds.now (g.B.Bay.disks c.args.bay.now) in
    let now = turned_state c.args.kinds.now (g.B.Bay.disks c.loop-done.bay) in
    let new = turned_state c.args.kinds.now (g.B.Bay.disks c.write_front.new.bay) in
    let so_far = c.loop-done.invariant in
    let from = c.args.from.now in
    let done = c.loop-done.done in
    let n = c.in_ok-done.field-0 in
    let kind = kind_at c.args.kinds.now c.args.slot in
    let begins = so_far.begins c.loop-done-test.true in
    record {
      within =
          let most : n ≤ length (drop done from) = rw (take_rest from done) at c.in_ok-done.ensures.most in
          let long : length (drop done from) ≡ length from - done = length-drop done from in
          omega (arith, most, long, so_far.within);
      held = λ tells. (rw (take_rest from done) at (c.in_ok-done.ensures.held tells))
          ∙ ap (λ (image : Image). put_run image c.args.slot (c.args.lba + done) (take n (drop done from))) (so_far.held tells)
          ∙ put_pieces old.held c.args.slot c.args.lba from done n so_far.within;
      left = rest_adds c.args.lba from done so_far.within c.args.slot old.may_hold now.may_hold new.may_hold so_far.left (rw (take_rest from done) at c.in_ok-done.ensures.left);
      any_moment = rest_stops c.args.lba from done so_far.within c.args.slot old now new so_far.left so_far.any_moment (rw (take_rest from done) at c.in_ok-done.ensures.any_moment);
      remembers = remembers_then old now new so_far.remembers c.in_ok-done.ensures.remembers c.in_ok-done.ensures.spends.told so_far.any_moment.later;
      gone = λ some was. c.in_ok-done.ensures.gone (g.met.B.Bay.stays_gone c.args.bay.now c.loop-done.bay c.args.slot (so_far.spends.goes_on c.loop-done.bay (g.met.B.Bay.leads c.loop-done.bay)) was);
      ok = c.in_ok-done.ensures.ok ∙ so_far.ok;
      spends = spends_more _ _ (spends_then so_far.spends c.in_ok-done.ensures.spends) (omega arith) (pieces_more kind c.args.lba from done n c.in_ok-done.ensures.some begins);
      begins = λ lt. rest_begins kind c.args.lba from done n c.in_ok-done.ensures.some (let left : n < length (drop done from) = omega (arith, length-drop done from, lt) in
          (rw (take_rest from done) at c.in_ok-done.ensures.next) left);
    }
