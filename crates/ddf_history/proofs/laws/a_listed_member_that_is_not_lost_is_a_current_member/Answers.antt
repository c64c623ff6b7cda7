use Rattle.ddf_history.specs.Groups.{groups}
use Rattle.ddf_history.proofs.Sound.{groups_are_sound}
use Rattle.ddf_history.proofs.Members.{leading_member, own_member}
use Rattle.ddf_history.proofs.laws.a_listed_member_that_is_not_lost_is_a_current_member.Goals as goal

pub returns-clause-own : goal.returns-clause-own
returns-clause-own c = λ group past scene kept own slot config last current here readable read.
    own_member (groups group) (groups_are_sound group) past scene kept slot config last current here readable read own

pub returns-clause-leads : goal.returns-clause-leads
returns-clause-leads c = λ group past scene kept slot config last current here copy is standing late readable read.
    leading_member (groups group) (groups_are_sound group) past scene kept slot config last current here readable read copy is standing late
