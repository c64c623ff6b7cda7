use Rattle.std.proofs.Common.{◌≡◌, ◌∙◌, ℕ, Bool, not, Option, ap}
use Rattle.ddf_config.specs.declared.refusal.Refusal.{Refusal}
use Rattle.ddf_config.specs.declared.refusal.Refusal.TheVariants.{Held, Lost, Range}
use Rattle.ddf_config.specs.Refusals.{refuse_if}
use Rattle.ddf_config.specs.Within.{is_complete}
use Rattle.ddf_config.specs.Shapes.{array_capacity}
use Rattle.ddf_request.specs.Usable.{bad_blocks, useless}
use Rattle.ddf_read_commands.specs.Use.{is_forbidden, is_out_of_range}
use Rattle.ddf_read_commands.proofs.ArrayUse.{five_same}
use Rattle.ddf_read_commands.proofs.using.array_refusal.Goals as goal

pub returns : goal.returns
returns c =
    let config = c.args.config.now in
    let seats = c.args.seats.now in
    let array = c.args.array.now in
    let out : Option Refusal = refuse_if (is_out_of_range array c.args.start c.args.count) (Range (array_capacity array)) in
    let range : c.refuse_if.result ≡ out =
    c.refuse_if.ensures ∙ ap (λ (b : Bool). refuse_if b (Range c.in_ok-capacity.capacity)) c.is_out_of_range-is_out.ensures
    ∙ ap (λ (n : ℕ). refuse_if (is_out_of_range array c.args.start c.args.count) (Range n)) c.in_ok-capacity.ensures in
    let held : c.refuse_if-2.result ≡ refuse_if (is_forbidden c.args.access array) Held = c.refuse_if-2.ensures ∙ ap (λ (b : Bool). refuse_if b Held) c.is_forbidden.ensures in
    let unknown : c.refuse_if-3.result ≡ refuse_if (not (is_complete array)) Lost = c.refuse_if-3.ensures ∙ ap (λ (b : Bool). refuse_if (not b) Lost) c.is_complete.ensures in
    c.first_refusal.ensures
    ∙ five_same c.in_ok-useless.useless c.refuse_if.result c.in_ok-bad.bad c.refuse_if-2.result c.refuse_if-3.result
    (useless config seats c.args.guid.now array) out (bad_blocks seats array) (refuse_if (is_forbidden c.args.access array) Held) (refuse_if (not (is_complete array)) Lost)
    c.in_ok-useless.ensures range c.in_ok-bad.ensures held unknown
