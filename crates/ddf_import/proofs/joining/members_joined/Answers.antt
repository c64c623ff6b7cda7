use Rattle.std.proofs.Common.{◌≡◌, ℕ, None, nat_eq, sym, subst}
use Rattle.std.specs.Map.{lookup}
use Rattle.std.specs.List.{AllByRecursion}
use Rattle.ddf_config.specs.declared.member.Member.{Member}
use Rattle.ddf_config.specs.Configuration.{Configuration}
use Rattle.ddf_import.proofs.Apart.{members_fresh}
use Rattle.ddf_import.proofs.joining.members_joined.Goals as goal

pub push_members-requires : goal.push_members-requires
push_members-requires c =
    subst (λ (joining : Configuration). AllByRecursion (λ (entry : ℕ × Member). lookup (nat_eq entry.0) c.in_ok-members.members.entries ≡ None) joining.members) (sym c.joining.view_is)
    (rw c.in_ok-members.ensures (members_fresh c.args.config.now c.args.joining.now c.requires))
