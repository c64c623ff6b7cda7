use Rattle.std.proofs.Common.{◌<◌, ◌^◌, sym, subst, length, map, List, arith}
use Rattle.std.proofs.lemmas.List.{length-map}
use Rattle.std.specs.List.{AllByRecursion}
use Rattle.ddf_seal.specs.Unread.{Fits}
use Rattle.ddf_config_records.specs.declared.place.Place.{Place}
use Rattle.ddf_config_records.specs.ElementValue.{ElementValue}
use Rattle.ddf_config_records.specs.Elements.{element_fields}
use Rattle.ddf_config_records.proofs.element_building.with_rest.Goals as goal

pub returns-clause-fits : goal.returns-clause-fits
returns-clause-fits c = λ most few.
    let members = c.element.inside.members.items in
    let count : length members < 2 ^ 16 = subst (λ (e : ElementValue). length e.members < 2 ^ 16) (sym c.element.view_is) few in
    let references = subst (λ (l : List Place). AllByRecursion (λ n. n < 2 ^ 32) (map (λ (member : Place). member.reference) l)) c.as_slice.ensures.value c.members_fit.ensures.references in
    let starts = subst (λ (l : List Place). AllByRecursion (λ n. n < 2 ^ 64) (map (λ (member : Place). member.start) l)) c.as_slice.ensures.value c.members_fit.ensures.starts in
    subst (λ (e : ElementValue). AllByRecursion Fits (element_fields most e)) c.element.view_is (
      omega arith,
      (
        omega arith,
        (
          omega arith,
          (
            count,
            (
              omega arith,
              (
                omega arith,
                (
                  omega arith,
                  (
                    omega arith,
                    (
                      omega arith,
                      (
                        omega arith,
                        (
                          omega arith,
                          (
                            omega arith,
                            (
                              omega arith,
                              ((omega arith, c.references_fit.ensures), ((length-map members (λ (member : Place). member.reference), references), ((length-map members (λ (member : Place). member.start), starts), tt))),
                            ),
                          ),
                        ),
                      ),
                    ),
                  ),
                ),
              ),
            ),
          ),
        ),
      ),
    )
