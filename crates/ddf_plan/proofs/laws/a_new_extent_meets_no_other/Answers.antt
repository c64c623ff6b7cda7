use Rattle.ddf_plan.proofs.Made.{made_is_clear, made_names_none_twice}
use Rattle.ddf_plan.proofs.laws.a_new_extent_meets_no_other.Goals as goal

pub returns-clause-clear : goal.returns-clause-clear
returns-clause-clear c = λ config next guid array made seats e found. made_is_clear config next guid array made seats e found

pub returns-clause-alone : goal.returns-clause-alone
returns-clause-alone c = λ config next guid array made seats e found. made_names_none_twice config next guid array made seats e found
