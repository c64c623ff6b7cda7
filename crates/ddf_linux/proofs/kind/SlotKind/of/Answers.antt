use Rattle.std.proofs.Common.{◌≡◌, sym, ◌∙◌, rules}
use Rattle.std.specs.Prelude.{IsOk}
use Rattle.ddf_header.specs.Header.{header_signature}
use Rattle.ddf_linux.specs.Crcs.{constant_of}
use Rattle.ddf_linux.specs.Turning.{turned}
use Rattle.ddf_linux.proofs.Listed.{linux_anchor, turned_by_ok}
use Rattle.ddf_linux.proofs.kind.SlotKind.of.Goals as goal

pub returns-in-Ok-clause-exact : goal.returns-in-Ok-clause-exact
returns-in-Ok-clause-exact c =
    let anchor : c.add.new.bytes ≡ turned (constant_of 512) c.args.bytes.now = rw c.constant.ensures at c.add.ensures in
    rw c.new.ensures (turned_by_ok c.args.last c.args.bytes.now c.add.new.bytes anchor c.in-Ok.field-0 (sym c.in-Ok.is ∙ c.check.ensures.exact))

pub returns-in-Ok-clause-turned : goal.returns-in-Ok-clause-turned
returns-in-Ok-clause-turned c =
    let anchor : c.add.new.bytes ≡ turned (constant_of 512) c.args.bytes.now = rw c.constant.ensures at c.add.ensures in
    let ok : IsOk c.check.result = rw c.in-Ok.is (search rules) in
    (λ yes. (linux_anchor header_signature c.args.bytes.now c.add.new.bytes c.told-bytes anchor).1 (c.check.ensures.sealed.0 ok), λ sealed. search rules)

pub returns-in-Err-clause-turned : goal.returns-in-Err-clause-turned
returns-in-Err-clause-turned c =
    let anchor : c.add.new.bytes ≡ turned (constant_of 512) c.args.bytes.now = rw c.constant.ensures at c.add.ensures in (
      λ no. search rules,
      λ sealed.
          let ok : IsOk c.check.result = c.check.ensures.sealed.1 ((linux_anchor header_signature c.args.bytes.now c.add.new.bytes c.told-bytes anchor).0 sealed) in
          let none = rw c.in-Err.is at ok in
          absurd cc,
    )
