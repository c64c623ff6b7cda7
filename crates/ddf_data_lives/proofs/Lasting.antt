-- A disk that no call fails stands however its history goes on.
use Rattle.std.proofs.Common.{ℕ, zero, suc, List}
use Rattle.ddf_bay.specs.declared.memory.MemoryBay.{MemoryBay}
use Rattle.ddf_history.specs.Groups.{Disk}
use Rattle.ddf_history.specs.History.{KeepsAcked}
use Rattle.ddf_data_events.specs.Moments.{Moment}
use Rattle.ddf_data_lives.specs.Sparing.{ComesTo, Happening, LastsFor}
use Rattle.ddf_data_lives.specs.Sparing.Happening.{Between, Broken, Done}
use Rattle.ddf_data_lives.specs.Standing.{Stands}
use Rattle.ddf_data_lives.specs.Standing.Turn.{Cut, Ended}
use Rattle.ddf_data_lives.proofs.Keeping.{keeps_on}
use Rattle.ddf_data_lives.proofs.Standing.{follows}

module _ (group : List ℕ) (kept : ℕ) (disk : Disk) where
  record Lasts (old : Moment group MemoryBay) (happening : Happening group kept disk old) : Type 0 where
    next : Moment group MemoryBay
    comes : ComesTo group kept disk old happening next
    acked : KeepsAcked old.past next.past
    next_stands : Stands group kept disk next

  lasts : (old : Moment group MemoryBay) → Stands group kept disk old → (happening : Happening group kept disk old) → Lasts old happening
  lasts old stands (Done call well told spares) =
      let on = follows group kept disk old stands (Ended call well told (keeps_on group kept disk old stands call well told spares)) in
      record { next = on.next; comes = on.behind_it; acked = on.acked; next_stands = on.next_stands }
  lasts old stands (Broken call well image cut was_left is_cut told plugged spares) =
      let on = follows group kept disk old stands (Cut call well image cut was_left is_cut told plugged (keeps_on group kept disk old stands call well was_left.0 spares)) in
      record { next = on.next; comes = on.behind_it; acked = on.acked; next_stands = on.next_stands }
  lasts old stands (Between turn is) =
      let on = follows group kept disk old stands turn in
      record { next = on.next; comes = on.behind_it; acked = on.acked; next_stands = on.next_stands }

  pub lasts_however : (times : ℕ) (start : Moment group MemoryBay) → Stands group kept disk start → LastsFor group kept disk times start
  lasts_however zero start stands = stands
  lasts_however (suc more) start stands =
      (stands, λ happening. let on = lasts start stands happening in (on.next, on.comes, on.acked, lasts_however more on.next on.next_stands))
