use Rattle.ddf_data_history.proofs.Viewed.{view_counts, view_rebuild, view_resync}
use Rattle.ddf_data_history.proofs.laws.a_resync_keeps_the_data_of_the_group.Goals as goal

pub returns-clause-resync : goal.returns-clause-resync
returns-clause-resync c = λ group floor small past config guid volume view known first before image promises allowed first_kept kept alone promised are writable left.
    view_resync group floor small past config guid volume view known before image promises allowed kept alone promised are first first_kept writable left

pub returns-clause-rebuild : goal.returns-clause-rebuild
returns-clause-rebuild c = λ group floor small past config guid volume view known before image promises allowed kept alone promised are element position from to behind left.
    view_rebuild group floor small past config guid volume view known before image promises allowed kept alone promised are element position from to behind left

pub returns-clause-counts : goal.returns-clause-counts
returns-clause-counts c = view_counts
