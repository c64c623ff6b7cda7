use Rattle.std.proofs.Common.{◌∙◌, ℕ, List, option_map, sym, ap}
use Rattle.ddf_config.specs.declared.array.Array.{Array}
use Rattle.ddf_request.specs.Named.{named_array}
use Rattle.ddf_request.specs.NewArray.{new_array, new_array_guid}
use Rattle.ddf_request.proofs.Created.{names_it}
use Rattle.ddf_request.proofs.Printed.{padded_prints}
use Rattle.ddf_request.proofs.laws.a_new_array_is_named_by_its_word.Goals as goal

pub returns-clause-created : goal.returns-clause-created
returns-clause-created c = λ config next seats all stamp creation plain e.
    ap (λ (word : List ℕ). option_map (λ (entry : List ℕ × Array). entry.0) (named_array next.arrays word)) (sym (padded_prints creation.name plain))
    ∙ names_it config next (new_array_guid config stamp) (new_array config seats creation) all e

pub returns-clause-printed : goal.returns-clause-printed
returns-clause-printed c = λ config next all guid array e. names_it config next guid array all e
