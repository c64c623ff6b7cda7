use Rattle.ddf_exercise_disks.proofs.RebuildingBlocks.{rebuild_stores}
use Rattle.ddf_exercise_disks.proofs.RebuildingGroup.{IsRebuilding, rebuild_stands}
use Rattle.ddf_exercise_disks.proofs.RebuildingUnplugged.{unplugged_well}
use Rattle.ddf_exercise_disks.proofs.rebuilding.a_rebuild_is_done.Goals as goal

pub returns-clause-well : goal.returns-clause-well
returns-clause-well c = λ total out slot low old between is gone well. unplugged_well total out slot low old between is gone well

pub returns-clause-stands : goal.returns-clause-stands
returns-clause-stands c = λ name total asked out disks guid loss sequence timestamp old between new stands apart fits unspent time is gone goes enough after status done.
    let run : IsRebuilding name total asked out disks guid loss sequence timestamp old between new =
    record { apart = apart; unspent = unspent; fits = fits; stands = stands; is = is; gone = gone; goes = goes; time = time; enough = enough } in
    rebuild_stands run after status done

pub returns-clause-stores : goal.returns-clause-stores
returns-clause-stores c = λ name total asked out disks guid loss sequence timestamp bytes old between new stores apart fits unspent time is gone goes enough after status done.
    let run : IsRebuilding name total asked out disks guid loss sequence timestamp old between new =
    record { apart = apart; unspent = unspent; fits = fits; stands = stores.stands; is = is; gone = gone; goes = goes; time = time; enough = enough } in
    rebuild_stores run bytes stores.holds after status done
