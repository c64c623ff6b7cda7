-- What several crates above ask of the definitions of this one.
use Rattle.std.proofs.Common.{Bool, Some, ap, eqb, nat_eq, not, true, ℕ, ◌&&◌, ◌∙◌, ◌≡◌}
use Rattle.std.proofs.Math.Path.{fun_ext}
use Rattle.std.proofs.lemmas.Bool.{and_parts}
use Rattle.std.specs.Map.{lookup}
use Rattle.std.specs.Str.{bytes_eq}
use Rattle.ddf_lemmas.proofs.Options.{value_there}
use Rattle.ddf_lemmas.proofs.Tests.{eqb_turned}
use Rattle.ddf_config.specs.Configuration.{Configuration}
use Rattle.ddf_config.specs.Members.{is_current}
use Rattle.ddf_config.specs.declared.member.Member.{Member}
use Rattle.ddf_history.specs.Groups.{Disk, has_current}

-- The reference of a current member is current.
pub current_listed : (config : Configuration) (disk : Disk) → has_current config disk ≡ true → is_current config.members disk.reference ≡ true
current_listed config disk is =
    let is_here = λ (member : Member). bytes_eq member.guid disk.guid && not member.missing in
    let there = value_there is_here (lookup (λ reference. eqb reference disk.reference) config.members) is in
    let turned : lookup (nat_eq disk.reference) config.members ≡ Some there.0 =
    ap (λ (test : ℕ → Bool). lookup test config.members) (fun_ext (λ (reference : ℕ). eqb_turned disk.reference reference)) ∙ there.1 in
    rw (turned, is_current) (and_parts (bytes_eq there.0.guid disk.guid) (not there.0.missing) there.2).1
