use Rattle.std.proofs.Common.{refl, inr, ◌∙◌}
use Rattle.std.proofs.lemmas.Result.{err_from_is_err_and}
use Rattle.ddf_assembly.specs.Slots.{newest_from}
use Rattle.ddf_assembly.proofs.assembling.assemble_with_left_out.Goals as goal

pub returns-in_err-slots-clause-assembled : goal.returns-in_err-slots-clause-assembled
returns-in_err-slots-clause-assembled g c =
    let failed = err_from_is_err_and c.from_residual.result c.from_residual.ensures.1 in
    rw (failed.1, failed.2) (record {
      assembled = record {
        looked = c.read_slots.ensures.looked;
        newest = newest_from (g.B.Bay.disks c.args.bay.now) 0 c.read_slots.ensures.looked.left;
        read = λ told. refl;
        answer = inr refl;
        gone = λ given. absurd (given refl);
      };
      left_out = tt;
    })

pub returns-in_err-made-clause-assembled : goal.returns-in_err-made-clause-assembled
returns-in_err-made-clause-assembled g c =
    let failed = err_from_is_err_and c.from_residual-in_err-made.result c.from_residual-in_err-made.ensures.1 in
    rw (failed.1, failed.2) (record {
      assembled = record {
        looked = c.in_ok-slots.ensures.read.looked;
        newest = c.in_ok-slots.slots.newest.items;
        read = c.in_ok-slots.ensures.read.answer;
        answer = c.in_err-made.ensures.group;
        gone = λ given. c.in_ok-slots.ensures.read.gone;
      };
      left_out = tt;
    })

pub returns-clause-assembled : goal.returns-clause-assembled
returns-clause-assembled g c = record {
  assembled = record {
    looked = c.in_ok-slots.ensures.read.looked;
    newest = c.in_ok-slots.slots.newest.items;
    read = c.in_ok-slots.ensures.read.answer;
    answer = c.in_ok-made.ensures.group;
    gone = λ given. c.in_ok-slots.ensures.read.gone;
  };
  left_out = c.new.ensures ∙ c.in_ok-slots.ensures.read.is_left;
}

pub returns-clause-under : goal.returns-clause-under
returns-clause-under g c = c.in_ok-made.ensures.under (g.B.Bay.disks c.args.bay.now).sizes c.in_ok-slots.ensures.under

pub returns-clause-seats : goal.returns-clause-seats
returns-clause-seats g c = c.in_ok-made.ensures.seats (g.B.Bay.disks c.args.bay.now).sizes c.in_ok-slots.ensures.under

pub returns-clause-none : goal.returns-clause-none
returns-clause-none g c = rw (c.new.ensures, c.in_ok-made.ensures.newest) c.in_ok-slots.ensures.none
