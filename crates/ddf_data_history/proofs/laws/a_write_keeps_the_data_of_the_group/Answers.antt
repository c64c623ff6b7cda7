use Rattle.ddf_data_history.proofs.Viewed.{view_write, view_written}
use Rattle.ddf_data_history.proofs.laws.a_write_keeps_the_data_of_the_group.Goals as goal

pub returns-clause-interrupted : goal.returns-clause-interrupted
returns-clause-interrupted c = λ group floor small past config guid volume view known before image promises allowed kept alone promised are start sectors writable left.
    view_write group floor small past config guid volume view known before image promises allowed kept alone promised are start sectors writable left

pub returns-clause-done : goal.returns-clause-done
returns-clause-done c = λ group floor small past config guid volume view known before image promises allowed kept alone promised are start sectors writable left written.
    view_written group floor small past config guid volume view known before image promises allowed kept alone promised are start sectors writable left written
