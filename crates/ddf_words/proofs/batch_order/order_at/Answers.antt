use Rattle.std.proofs.Common.{◌∙◌, List, ⊎_elim, string_bytes, sym, subst, arith}
use Rattle.std.proofs.lemmas.List.{length-map}
use Rattle.ddf_words.specs.Words.{Word, IsAsked, words_of}
use Rattle.ddf_words.specs.Batch.{assembling}
use Rattle.ddf_words.proofs.Batches.{ask_for_batch, assembles, batch_at, not_assembling, not_like, not_there, one_asked, same_twin, words_behind}
use Rattle.ddf_words.proofs.batch_order.order_at.Goals as goal

pub returns-then-not-is_batch_at : goal.returns-then-not-is_batch_at
returns-then-not-is_batch_at c = not_there (words_of c.args.words.now) c.args.place c.requires (sym c.is_batch_at.ensures ∙ c.if-not-is_batch_at.true)

pub returns-in-Err-Place : goal.returns-in-Err-Place
returns-in-Err-Place c =
    let twin = same_twin c.args.words.now c.in_ok-twin.twin.items c.as_slice.result.now c.args.place c.as_slice.ensures.value c.in_ok-twin.ensures in
    not_like (words_of c.args.words.now) c.args.place c.requires
    (λ group is.
    let every = c.asked.ensures.every (assembling group) (subst (λ (ws : List Word). IsAsked ws (assembling group)) (sym twin) is) in
    ⊎_elim (λ ok. absurd (cc)) (λ memory. absurd (cc)) every)

pub returns-then-not-is_assemble : goal.returns-then-not-is_assemble
returns-then-not-is_assemble c =
    let twin = same_twin c.args.words.now c.in_ok-twin.twin.items c.as_slice.result.now c.args.place c.as_slice.ensures.value c.in_ok-twin.ensures in
    not_like (words_of c.args.words.now) c.args.place c.requires
    (λ group is. not_assembling c.asked.result c.in-Ok.asked group c.in-Ok.is (sym c.is_assemble.ensures ∙ c.if-not-is_assemble.true)
    (c.asked.ensures.every (assembling group) (subst (λ (ws : List Word). IsAsked ws (assembling group)) (sym twin) is)))

pub returns-then-place-words : goal.returns-then-place-words
returns-then-place-words c =
    let twin = same_twin c.args.words.now c.in_ok-twin.twin.items c.as_slice.result.now c.args.place c.as_slice.ensures.value c.in_ok-twin.ensures in
    let yes = sym c.is_assemble.ensures ∙ c.if-not-is_assemble.false in
    let at = batch_at (words_of c.args.words.now) c.args.place (sym c.is_batch_at.ensures ∙ c.if-not-is_batch_at.false) c.in-Ok.asked yes
    (subst (λ (ws : List Word). IsAsked ws c.in-Ok.asked) twin c.in-Ok.ensures.ok) in
    ask_for_batch (words_of c.args.words.now) c.args.place c.in-Ok.asked.group at (omega (arith, length-map c.args.words.now string_bytes, c.if-place-words.true))
    (λ other is. one_asked c.asked.result c.in-Ok.asked other c.in-Ok.is (c.asked.ensures.every other (subst (λ (ws : List Word). IsAsked ws other) (sym twin) is)) ∙ assembles c.in-Ok.asked yes)

pub returns : goal.returns
returns c =
    let twin = same_twin c.args.words.now c.in_ok-twin.twin.items c.as_slice.result.now c.args.place c.as_slice.ensures.value c.in_ok-twin.ensures in
    let yes = sym c.is_assemble.ensures ∙ c.if-not-is_assemble.false in
    let at = batch_at (words_of c.args.words.now) c.args.place (sym c.is_batch_at.ensures ∙ c.if-not-is_batch_at.false) c.in-Ok.asked yes
    (subst (λ (ws : List Word). IsAsked ws c.in-Ok.asked) twin c.in-Ok.ensures.ok) in
    words_behind (words_of c.args.words.now) c.args.place c.in-Ok.asked.group at (omega (arith, at.within, length-map c.args.words.now string_bytes, c.if-place-words.false))
