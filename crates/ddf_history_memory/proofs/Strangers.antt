-- A disk that no configuration has.
use Rattle.std.proofs.Common.{◌≡◌, ◌∙◌, ℕ, suc, ◌+◌, ◌≤◌, ◌==◌, Bool, false, cond, not, ◌&&◌, List, [], ◌∷◌, Option, Some, None, refl, ap, arith}
use Rattle.std.proofs.lemmas.Bool.{eqb-true, false_from_ne_true}
use Rattle.std.specs.Map.{lookup}
use Rattle.std.specs.Option.{option_map_or}
use Rattle.std.specs.Str.{bytes_eq}
use Rattle.ddf_config.specs.declared.member.Member.{Member}
use Rattle.ddf_config.specs.Configuration.{Configuration}
use Rattle.ddf_history.specs.Groups.{Disk, has_current}

-- greater than each member's reference
abbrev bound : List (ℕ × Member) → ℕ
bound [] = 0
bound (entry ∷ entries) = suc (entry.0 + bound entries)

none_found : (n : ℕ) (members : List (ℕ × Member)) → bound members ≤ n → lookup (λ reference. reference == n) members ≡ None
none_found n [] up = refl
none_found n (entry ∷ entries) up =
    let other : (entry.0 == n) ≡ false = false_from_ne_true (entry.0 == n) (λ same. let is = eqb-true entry.0 n same in omega (arith, is, up)) in
    ap (λ (b : Bool). cond b (Some entry.1) (lookup (λ reference. reference == n) entries)) other ∙ none_found n entries (omega (arith, up))

abbrev pub stranger : Configuration → Disk
stranger config = record { guid = []; reference = bound config.members }

pub strange : (config : Configuration) → has_current config (stranger config) ≡ false
strange config =
    ap (λ (found : Option Member). option_map_or (λ (member : Member). bytes_eq member.guid (stranger config).guid && not member.missing) found false)
    (none_found (bound config.members) config.members (omega arith))
