use Rattle.ddf_availability.proofs.Given.{left_again, left_missing, left_more_there, left_other, left_spare}
use Rattle.ddf_availability.proofs.copyback.a_disk_that_stood_in_at_a_deleted_array_is_a_spare_again.Goals as goal

pub returns-clause-again : goal.returns-clause-again
returns-clause-again c = λ config guid sequence reference member there here no_spare at none. left_again config guid reference sequence member there here no_spare at none

pub returns-clause-missing : goal.returns-clause-missing
returns-clause-missing c = λ config guid sequence reference member there is. left_missing config guid reference sequence member there is

pub returns-clause-spare : goal.returns-clause-spare
returns-clause-spare c = λ config guid sequence reference member there is. left_spare config guid reference sequence member there is

pub returns-clause-elsewhere : goal.returns-clause-elsewhere
returns-clause-elsewhere c = λ config guid sequence reference member there away. left_other config guid reference sequence member there away

pub returns-clause-more : goal.returns-clause-more
returns-clause-more c = λ config guid sequence reference member there some. left_more_there config guid reference sequence member there some
