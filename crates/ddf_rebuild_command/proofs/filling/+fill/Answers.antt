use Rattle.std.proofs.Common.{◌≡◌, ◌∙◌, ◌<◌, ℕ, suc, false, List, [], ◌∷◌, length, ap, subst, sym, arith, rules}
use Rattle.std.proofs.lemmas.Result.{IfErr-weaker, err_from_is_err_and, on_ok_weaker}
use Rattle.std.specs.Prelude.{is_ok}
use Rattle.ddf_config.specs.declared.seat.Seat.{Seat}
use Rattle.ddf_recovery.specs.Committed.{left_behind}
use Rattle.ddf_recovery.specs.Ready.{ReadyValue}
use Rattle.ddf_bay.specs.Told.{IsTold}
use Rattle.ddf_rebuild_command.specs.Filled.{AreFilled, CanFill, GoesFilling, IsFillFault, rounds_in}
use Rattle.ddf_rebuild_command.proofs.Costs.{first_asks, rounds_ask}
use Rattle.ddf_rebuild_command.proofs.AllRounds.{can_first, can_later, fault_behind, filled_behind, first_failed, first_fault, from_row, goes_behind, many_behind, row_end}
use Rattle.ddf_rebuild_command.proofs.filling.+fill.Goals as goal

pub fill_round-requires-clause-fills : goal.fill_round-requires-clause-fills
fill_round-requires-clause-fills g t c =
    let old = g.B.Bay.disks c.args.bay.now in
    let filling = c.args.filling.now in
    let row = c.in-Some.row.now in
    let later = c.in-Some.later.now in
    let steps = c.args.ready.now.steps in
    let list : c.args.rows.now ≡ row ∷ later = c.in-Some.ensures.cases.0 in
    let many : length steps ≡ suc (length later) = c.requires.many ∙ ap (λ (rows : List ℕ). length rows) list in
    let end = c.requires.fills.0 in
    let can : CanFill old.sizes c.args.group.now.seats filling.view filling.target end c.args.from (row ∷ later) =
    subst (λ (rows : List ℕ). CanFill old.sizes c.args.group.now.seats filling.view filling.target end c.args.from rows) list c.requires.fills.1 in
    (end, can_first old.sizes c.args.group.now.seats filling.view filling.target end c.args.from row later can)

pub returns-in_err-fill_round-clause-goes : goal.returns-in_err-fill_round-clause-goes
returns-in_err-fill_round-clause-goes g t c =
    let old = g.B.Bay.disks c.args.bay.now in
    let filling = c.args.filling.now in
    let row = c.in-Some.row.now in
    let later = c.in-Some.later.now in
    let steps = c.args.ready.now.steps in
    let list : c.args.rows.now ≡ row ∷ later = c.in-Some.ensures.cases.0 in
    let many : length steps ≡ suc (length later) = c.requires.many ∙ ap (λ (rows : List ℕ). length rows) list in
    let new = g.B.Bay.disks c.fill_round.new.bay in
    let failed = err_from_is_err_and c.from_residual.result c.from_residual.ensures.1 in
    let tells_new : IsTold (g.B.Bay.disks c.fill_round.new.bay) = g.met.B.Bay.told c.fill_round.new.bay in
    rw failed.1
    (subst (λ (rows : List ℕ). GoesFilling g.B.Bay.tells old new filling.view filling.target c.args.from (rounds_in rows steps) c.args.group.now c.args.ready.now false) (sym list)
    (first_failed g.B.Bay.tells filling.view filling.target c.args.from row later c.args.group.now c.args.ready.now.recovery old new tells_new steps many c.in_err-fill_round.ensures.goes))

pub returns-in_err-fill_round-clause-failed : goal.returns-in_err-fill_round-clause-failed
returns-in_err-fill_round-clause-failed g t c =
    let old = g.B.Bay.disks c.args.bay.now in
    let filling = c.args.filling.now in
    let row = c.in-Some.row.now in
    let later = c.in-Some.later.now in
    let steps = c.args.ready.now.steps in
    let list : c.args.rows.now ≡ row ∷ later = c.in-Some.ensures.cases.0 in
    let many : length steps ≡ suc (length later) = c.requires.many ∙ ap (λ (rows : List ℕ). length rows) list in
    let new = g.B.Bay.disks c.fill_round.new.bay in
    let failed = err_from_is_err_and c.from_residual.result c.from_residual.ensures.1 in
    let tells_new : IsTold (g.B.Bay.disks c.fill_round.new.bay) = g.met.B.Bay.told c.fill_round.new.bay in
    rw (failed.1, failed.2)
    (λ end can.
    let all : CanFill old.sizes c.args.group.now.seats filling.view filling.target end c.args.from (row ∷ later) =
    subst (λ (rows : List ℕ). CanFill old.sizes c.args.group.now.seats filling.view filling.target end c.args.from rows) list can in
    subst (λ (rows : List ℕ). IsFillFault g.B.Bay.tells old new filling.view filling.target c.args.from (rounds_in rows steps) c.args.group.now c.args.ready.now end c.in_err-fill_round.field-0.0) (sym list)
    (first_fault g.B.Bay.tells filling.view filling.target c.args.from row later c.args.group.now c.args.ready.now.recovery old new tells_new steps many c.in_err-fill_round.ensures.goes end (row_end old.sizes c.args.group.now.seats filling.view filling.target end c.args.from row later all)
    c.in_err-fill_round.field-0.0 c.in_err-fill_round.ensures.failed))

pub fill-requires : goal.fill-requires
fill-requires g t c κs within =
    let old = g.B.Bay.disks c.args.bay.now in
    let filling = c.args.filling.now in
    let row = c.in-Some.row.now in
    let later = c.in-Some.later.now in
    let steps = c.args.ready.now.steps in
    let list : c.args.rows.now ≡ row ∷ later = c.in-Some.ensures.cases.0 in
    let many : length steps ≡ suc (length later) = c.requires.many ∙ ap (λ (rows : List ℕ). length rows) list in
    let middle = g.B.Bay.disks c.fill_round.new.bay in
    let is = c.in_ok-fill_round.ensures in
    let end = c.requires.fills.0 in
    let can : CanFill old.sizes c.args.group.now.seats filling.view filling.target end c.args.from (row ∷ later) =
    subst (λ (rows : List ℕ). CanFill old.sizes c.args.group.now.seats filling.view filling.target end c.args.from rows) list c.requires.fills.1 in
    let can_behind : CanFill middle.sizes c.fill_round.new.group.seats filling.view filling.target end row later =
    subst (λ (sizes : List ℕ). CanFill sizes c.fill_round.new.group.seats filling.view filling.target end row later) (sym is.goes.goes.same_sizes)
    (subst (λ (seats : List Seat). CanFill old.sizes seats filling.view filling.target end row later) (sym is.filled.same_seats)
    (can_later old.sizes c.args.group.now.seats filling.view filling.target end c.args.from row later can)) in
    let fewer : length later < length c.args.rows.now = let long = ap (λ (rows : List ℕ). length rows) list in omega (arith, long) in
    (omega (arith, fewer, c.decreases), (search rules, (is.filled.stands, ((end, can_behind), many_behind steps later c.args.ready.now.recovery c.fill_round.new.ready is.left many))))

pub returns-clause-goes : goal.returns-clause-goes
returns-clause-goes g t c =
    let old = g.B.Bay.disks c.args.bay.now in
    let filling = c.args.filling.now in
    let row = c.in-Some.row.now in
    let later = c.in-Some.later.now in
    let steps = c.args.ready.now.steps in
    let list : c.args.rows.now ≡ row ∷ later = c.in-Some.ensures.cases.0 in
    let many : length steps ≡ suc (length later) = c.requires.many ∙ ap (λ (rows : List ℕ). length rows) list in
    let middle = g.B.Bay.disks c.fill_round.new.bay in
    let new = g.B.Bay.disks c.fill.new.bay in
    let behind : c.fill_round.new.ready ≡ left_behind c.args.ready.now = c.in_ok-fill_round.ensures.left in
    let filled = subst (λ (one : ReadyValue). AreFilled g.B.Bay.tells old middle filling.view filling.target c.args.from (rounds_in (row ∷ []) steps) c.args.group.now c.args.ready.now c.fill_round.new.group one)
    behind c.in_ok-fill_round.ensures.filled in
    let last = subst (λ (one : ReadyValue). GoesFilling g.B.Bay.tells middle new filling.view filling.target row (rounds_in later one.steps) c.fill_round.new.group one (is_ok c.fill.result)) behind c.fill.ensures.goes in
    let tells_middle : IsTold (g.B.Bay.disks c.fill_round.new.bay) = g.met.B.Bay.told c.fill_round.new.bay in
    let tells_new : IsTold (g.B.Bay.disks c.fill.new.bay) = g.met.B.Bay.told c.fill.new.bay in
    subst (λ (rows : List ℕ). GoesFilling g.B.Bay.tells old new filling.view filling.target c.args.from (rounds_in rows steps) c.args.group.now c.args.ready.now (is_ok c.fill.result)) (sym list)
    (goes_behind g.B.Bay.tells filling.view filling.target c.args.from row later c.args.group.now c.args.ready.now.recovery old middle new tells_middle tells_new c.fill_round.new.group (is_ok c.fill.result) steps many c.in_ok-fill_round.ensures.goes filled last)

pub returns-clause-filled : goal.returns-clause-filled
returns-clause-filled g t c =
    let old = g.B.Bay.disks c.args.bay.now in
    let filling = c.args.filling.now in
    let row = c.in-Some.row.now in
    let later = c.in-Some.later.now in
    let steps = c.args.ready.now.steps in
    let list : c.args.rows.now ≡ row ∷ later = c.in-Some.ensures.cases.0 in
    let many : length steps ≡ suc (length later) = c.requires.many ∙ ap (λ (rows : List ℕ). length rows) list in
    let middle = g.B.Bay.disks c.fill_round.new.bay in
    let new = g.B.Bay.disks c.fill.new.bay in
    let behind : c.fill_round.new.ready ≡ left_behind c.args.ready.now = c.in_ok-fill_round.ensures.left in
    let filled = subst (λ (one : ReadyValue). AreFilled g.B.Bay.tells old middle filling.view filling.target c.args.from (rounds_in (row ∷ []) steps) c.args.group.now c.args.ready.now c.fill_round.new.group one)
    behind c.in_ok-fill_round.ensures.filled in
    let last = subst (λ (one : ReadyValue). GoesFilling g.B.Bay.tells middle new filling.view filling.target row (rounds_in later one.steps) c.fill_round.new.group one (is_ok c.fill.result)) behind c.fill.ensures.goes in
    let tells_middle : IsTold (g.B.Bay.disks c.fill_round.new.bay) = g.met.B.Bay.told c.fill_round.new.bay in
    let tells_new : IsTold (g.B.Bay.disks c.fill.new.bay) = g.met.B.Bay.told c.fill.new.bay in
    on_ok_weaker c.fill.result
    (λ others. subst (λ (rows : List ℕ). AreFilled g.B.Bay.tells old new filling.view filling.target c.args.from (rounds_in rows steps) c.args.group.now c.args.ready.now c.fill.new.group c.fill.new.ready) (sym list)
    (filled_behind g.B.Bay.tells filling.view filling.target c.args.from row later c.args.group.now c.args.ready.now.recovery old middle new tells_middle tells_new c.fill_round.new.group (is_ok c.fill.result) steps many c.in_ok-fill_round.ensures.goes filled last c.fill.new.group c.fill.new.ready
    (subst (λ (one : ReadyValue). AreFilled g.B.Bay.tells middle new filling.view filling.target row (rounds_in later one.steps) c.fill_round.new.group one c.fill.new.group c.fill.new.ready) behind others)))
    c.fill.ensures.filled

pub returns-clause-failed : goal.returns-clause-failed
returns-clause-failed g t c =
    let old = g.B.Bay.disks c.args.bay.now in
    let filling = c.args.filling.now in
    let row = c.in-Some.row.now in
    let later = c.in-Some.later.now in
    let steps = c.args.ready.now.steps in
    let list : c.args.rows.now ≡ row ∷ later = c.in-Some.ensures.cases.0 in
    let many : length steps ≡ suc (length later) = c.requires.many ∙ ap (λ (rows : List ℕ). length rows) list in
    let middle = g.B.Bay.disks c.fill_round.new.bay in
    let new = g.B.Bay.disks c.fill.new.bay in
    let behind : c.fill_round.new.ready ≡ left_behind c.args.ready.now = c.in_ok-fill_round.ensures.left in
    let filled = subst (λ (one : ReadyValue). AreFilled g.B.Bay.tells old middle filling.view filling.target c.args.from (rounds_in (row ∷ []) steps) c.args.group.now c.args.ready.now c.fill_round.new.group one)
    behind c.in_ok-fill_round.ensures.filled in
    let last = subst (λ (one : ReadyValue). GoesFilling g.B.Bay.tells middle new filling.view filling.target row (rounds_in later one.steps) c.fill_round.new.group one (is_ok c.fill.result)) behind c.fill.ensures.goes in
    let tells_middle : IsTold (g.B.Bay.disks c.fill_round.new.bay) = g.met.B.Bay.told c.fill_round.new.bay in
    let tells_new : IsTold (g.B.Bay.disks c.fill.new.bay) = g.met.B.Bay.told c.fill.new.bay in
    IfErr-weaker c.fill.result
    (λ failure. (end : ℕ) → CanFill middle.sizes c.fill_round.new.group.seats filling.view filling.target end row later
    → IsFillFault g.B.Bay.tells middle new filling.view filling.target row (rounds_in later c.fill_round.new.ready.steps) c.fill_round.new.group c.fill_round.new.ready end failure)
    (λ failure. (end : ℕ) → CanFill old.sizes c.args.group.now.seats filling.view filling.target end c.args.from c.args.rows.now
    → IsFillFault g.B.Bay.tells old new filling.view filling.target c.args.from (rounds_in c.args.rows.now steps) c.args.group.now c.args.ready.now end failure)
    (λ failure fault end can.
    let all : CanFill old.sizes c.args.group.now.seats filling.view filling.target end c.args.from (row ∷ later) =
    subst (λ (rows : List ℕ). CanFill old.sizes c.args.group.now.seats filling.view filling.target end c.args.from rows) list can in
    let can_behind : CanFill middle.sizes c.fill_round.new.group.seats filling.view filling.target end row later =
    subst (λ (sizes : List ℕ). CanFill sizes c.fill_round.new.group.seats filling.view filling.target end row later) (sym c.in_ok-fill_round.ensures.goes.goes.same_sizes)
    (subst (λ (seats : List Seat). CanFill old.sizes seats filling.view filling.target end row later) (sym c.in_ok-fill_round.ensures.filled.same_seats)
    (can_later old.sizes c.args.group.now.seats filling.view filling.target end c.args.from row later all)) in
    subst (λ (rows : List ℕ). IsFillFault g.B.Bay.tells old new filling.view filling.target c.args.from (rounds_in rows steps) c.args.group.now c.args.ready.now end failure) (sym list)
    (fault_behind g.B.Bay.tells filling.view filling.target c.args.from row later c.args.group.now c.args.ready.now.recovery old middle new tells_middle tells_new c.fill_round.new.group (is_ok c.fill.result) steps many c.in_ok-fill_round.ensures.goes filled last
    (from_row old.sizes c.args.group.now.seats filling.view filling.target end c.args.from row later all) end failure
    (subst (λ (one : ReadyValue). IsFillFault g.B.Bay.tells middle new filling.view filling.target row (rounds_in later one.steps) c.fill_round.new.group one end failure) behind (fault end can_behind))))
    c.fill.ensures.failed

pub returns-in_err-fill_round-clause-asks : goal.returns-in_err-fill_round-clause-asks
returns-in_err-fill_round-clause-asks g t c part at = first_asks part.shape c.args.from c.in-Some.row.now c.args.ready.now (c.fill_round.ensures.asks part at)

pub returns-clause-asks : goal.returns-clause-asks
returns-clause-asks g t c part at =
    let old = g.B.Bay.disks c.args.bay.now in
    let filling = c.args.filling.now in
    let row = c.in-Some.row.now in
    let later = c.in-Some.later.now in
    let list : c.args.rows.now ≡ row ∷ later = c.in-Some.ensures.cases.0 in
    let end = c.requires.fills.0 in
    let can : CanFill old.sizes c.args.group.now.seats filling.view filling.target end c.args.from (row ∷ later) =
    subst (λ (rows : List ℕ). CanFill old.sizes c.args.group.now.seats filling.view filling.target end c.args.from rows) list c.requires.fills.1 in
    rounds_ask part.shape c.args.from row c.args.ready.now can.rise.0 c.fill_round.new.ready c.in_ok-fill_round.ensures.left (c.fill_round.ensures.asks part at) (c.fill.ensures.asks part at)

pub returns-clause-unfailed : goal.returns-clause-unfailed
returns-clause-unfailed g t c = on_ok_weaker c.fill.result (λ same. same ∙ c.in_ok-fill_round.ensures.unfailed) c.fill.ensures.unfailed
