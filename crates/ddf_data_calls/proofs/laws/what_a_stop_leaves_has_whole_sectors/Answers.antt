use Rattle.ddf_data_calls.proofs.laws.what_a_stop_leaves_has_whole_sectors.Goals as goal

pub returns-clause-left : goal.returns-clause-left
returns-clause-left g c = λ image is_left slot lba. ((g.met.B.Bay.told c.args.bay.now).whole slot lba (image slot lba) (is_left slot lba)).size

pub returns-clause-held : goal.returns-clause-held
returns-clause-held g c = λ tells slot lba.
    ((g.met.B.Bay.told c.args.bay.now).whole slot lba ((g.B.Bay.disks c.args.bay.now).held slot lba) ((g.met.B.Bay.told c.args.bay.now).held tells slot lba)).size
