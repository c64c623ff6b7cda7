use Rattle.std.proofs.Common.{◌≡◌, ◌∙◌, ◌||◌, true, List, ap}
use Rattle.ddf_rewrite.specs.Before.{before}
use Rattle.ddf_rewrite.specs.Copies.{changed_holdings}
use Rattle.ddf_rewrite.specs.Notes.{Holding}
use Rattle.ddf_rewrite.specs.Room.{full_after_change, full_with, lacks_entries, lacks_slots}
use Rattle.ddf_rewrite.proofs.room.full_after_change.Goals as goal

pub returns : goal.returns
unfolding full_after_change
returns c =
    let old = c.args.old.now in
    let config = c.args.config.now in
    let holdings = changed_holdings old (before c.args.leaders.now) config c.args.timestamp in
    let made : c.deref-2.result.now ≡ holdings = c.deref-2.ensures.value ∙ c.in_ok-holdings.ensures.exact in
    let lacks : c.in_ok-records.records ≡ (lacks_slots old true config holdings || lacks_entries old config) =
    c.in_ok-records.ensures ∙ ap (λ (all : List Holding). lacks_slots old true config all || lacks_entries old config) made in
    c.full_with.ensures true holdings lacks c.lacks_notes.ensures ∙ ap (full_with old true config holdings) c.in_ok-places.ensures
