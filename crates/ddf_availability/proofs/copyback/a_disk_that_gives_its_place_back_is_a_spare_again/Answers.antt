use Rattle.ddf_availability.proofs.Given.{given_again, missing_kept, more_kept, other_kept, spare_kept}
use Rattle.ddf_availability.proofs.copyback.a_disk_that_gives_its_place_back_is_a_spare_again.Goals as goal

pub returns-clause-again : goal.returns-clause-again
returns-clause-again c = λ config guid element position disk start sequence reference member apart there here no_spare on none.
    given_again config guid element position disk start sequence reference member there apart here no_spare on none

pub returns-clause-missing : goal.returns-clause-missing
returns-clause-missing c = λ config guid element position disk start sequence reference member there is. missing_kept config guid element position disk start sequence reference member there is

pub returns-clause-spare : goal.returns-clause-spare
returns-clause-spare c = λ config guid element position disk start sequence reference member there is. spare_kept config guid element position disk start sequence reference member there is

pub returns-clause-elsewhere : goal.returns-clause-elsewhere
returns-clause-elsewhere c = λ config guid element position disk start sequence reference member there away. other_kept config guid element position disk start sequence reference member there away

pub returns-clause-more : goal.returns-clause-more
returns-clause-more c = λ config guid element position disk start sequence reference member apart there some. more_kept config guid element position disk start sequence reference member there apart some
