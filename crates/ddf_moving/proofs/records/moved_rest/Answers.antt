use Rattle.std.proofs.Common.{◌≡◌, ℕ, ◌-◌, ◌++◌, List, length, replicate, take, vec_len, ap, ◌∙◌, rules}
use Rattle.ddf_moving.specs.Copies.{filled}
use Rattle.ddf_moving.proofs.records.moved_rest.Goals as goal

pub returns : goal.returns
returns c =
    let moved = c.truncate.new.self in
    let size = c.args.size in
    let items : c.resize.new.self.items ≡ take size moved.items ++ replicate (size - vec_len moved) 255 = c.in_ok-resize.ensures.items in
    let counted : vec_len moved ≡ length moved.items = search rules in
    c.new.ensures
    ∙ items
    ∙ ap (λ (n : ℕ). take size moved.items ++ replicate (size - n) 255) counted
    ∙ ap (λ (bytes : List ℕ). filled 255 size bytes) (search rules)
