use Rattle.ddf_data_calls.proofs.Issued.{ends_keep}
use Rattle.ddf_data_calls.proofs.laws.the_changes_of_a_call_keep_the_data.Goals as goal

pub returns : goal.returns
returns c = λ group past now floor small alone readable found changes done ends image promises made kept.
    ends_keep group floor small image promises past alone kept readable found changes made done now ends
