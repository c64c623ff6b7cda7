use Rattle.std.proofs.Common.{ap}
use Rattle.std.proofs.lemmas.Result.{err_from_is_err_and}
use Rattle.ddf_assembly.proofs.SettledHeld.{are_held}
use Rattle.ddf_group_commands.specs.GroupRead.{group_or}
use Rattle.ddf_group_commands.proofs.Outcomes.{group_found, none_found}
use Rattle.ddf_group_commands.proofs.writing.read_with_left_out.Goals as goal

pub returns-clause-read : goal.returns-clause-read
returns-clause-read g c =
    let is = c.in_ok-read.ensures.assembled in
    let assembled = is.assembled in
    record {
      read = record {
        left = assembled.looked.left;
        every_slot = assembled.looked.every_slot;
        failed = assembled.looked.are_failed.rose;
        seen = assembled.looked.are_failed.same;
        unsynced = assembled.looked.are_failed.unsynced;
        newest = assembled.newest;
        read = assembled.read;
        answer = group_found c.in_ok-read.read.group _ assembled.answer;
        gone = λ given. assembled.gone (λ spent. absurd cc);
        calls = c.assemble_with_left_out.ensures.calls;
      };
      left_out = is.left_out;
    }

pub returns-in_err-read-clause-read : goal.returns-in_err-read-clause-read
returns-in_err-read-clause-read g c =
    let failed = err_from_is_err_and c.from_residual.result c.from_residual.ensures.1 in
    let assembled = c.in_err-read.ensures.assembled.assembled in
    rw (failed.1, failed.2) (record {
      read = record {
        left = assembled.looked.left;
        every_slot = assembled.looked.every_slot;
        failed = assembled.looked.are_failed.rose;
        seen = assembled.looked.are_failed.same;
        unsynced = assembled.looked.are_failed.unsynced;
        newest = assembled.newest;
        read = assembled.read;
        answer = none_found c.in_err-read.field-0.0 _ assembled.answer;
        gone = λ given. assembled.gone (λ spent. given (ap group_or spent));
        calls = c.assemble_with_left_out.ensures.calls;
      };
      left_out = tt;
    })

pub returns-clause-from : goal.returns-clause-from
returns-clause-from g c =
    let is = c.in_ok-read.ensures in
    record {
      assembled = is.recovers;
      held = λ told. are_held g.B.Bay.tells (g.B.Bay.disks c.args.bay.now) (g.B.Bay.disks c.assemble_with_left_out.new.bay) c.args.named c.in_ok-read.read.group is.assembled.assembled told;
      stand = is.stand;
      under = is.under;
      seats = is.seats;
    }
