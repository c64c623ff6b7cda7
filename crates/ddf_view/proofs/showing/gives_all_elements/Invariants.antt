use Rattle.std.proofs.Common.{◌≡◌}
use Rattle.std.specs.List.{list_all}
use Rattle.ddf_view.specs.Shows.{gives_elements}
use Rattle.ddf_view.proofs.showing.gives_all_elements.Given as goal

abbrev pub invariant-loop-guid : goal.invariant-loop-guid
invariant-loop-guid l = list_all (gives_elements l.view.elements) l.guid-iterator ≡ list_all (gives_elements l.view.elements) l.arrays.entries
