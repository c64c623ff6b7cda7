use Rattle.std.proofs.Common.{◌≡◌, ◌∙◌, length}
use Rattle.ddf_lemmas.proofs.Lists.{zip_matches}
use Rattle.ddf_plan.specs.Same.{same_member}
use Rattle.ddf_plan.proofs.same.same_members.Goals as goal

pub returns-then-len : goal.returns-then-len
returns-then-len c =
    let lengths : length c.args.one.now.entries ≡ length c.args.other.now.entries = cc in
    c.each_same_member.ensures ∙ zip_matches same_member c.args.one.now.entries c.args.other.now.entries lengths
