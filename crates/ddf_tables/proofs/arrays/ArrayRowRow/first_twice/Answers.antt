use Rattle.std.proofs.Common.{◌≡◌, ◌+◌, true, false, Some, None, sym, ◌∙◌, ap, subst, take}
use Rattle.std.specs.BTreeSet.{contains, Updates}
use Rattle.std.specs.Cmp.Lexicographic.{slice_cmp, texts_ties}
use Rattle.std.specs.List.{list_any}
use Rattle.std.specs.Ordering.{nat_cmp}
use Rattle.std.specs.Str.{bytes_eq}
use Rattle.ddf_tables.specs.declared.fault.TableFault.TheVariants.{TwiceSameGuid}
use Rattle.ddf_tables.specs.Arrays.{array_twice, guid_of, has_guid, is_no_array}
use Rattle.ddf_tables.proofs.SeenNames.{HasNames, names_more, names_same, wrong_here, sound_here, unnamed_here, was_there, was_new}
use Rattle.ddf_tables.proofs.arrays.ArrayRowRow.first_twice.Goals as goal
use Rattle.ddf_tables.proofs.arrays.ArrayRowRow.first_twice.Goals.{in-Entry+in_ok-insert+else-not-branch, in_default}

pub returns-then-not-branch : goal.returns-then-not-branch
unfolding array_twice
returns-then-not-branch c =
    let rows = c.args.rows.now in
    let i = c.loop-row.row-index in
    let guid = c.in-Entry.entry.guid in
    let named : guid_of c.row-item.result ≡ Some guid = ap guid_of c.in-Entry.is in
    let key : c.bytes.result ≡ guid = c.bytes.ensures in
    let there : contains (slice_cmp nat_cmp) c.loop-row.seen guid ≡ true =
    ap (contains (slice_cmp nat_cmp) c.loop-row.seen) (sym key) ∙ was_there c.in_ok-insert.field-0 _ c.in_ok-insert.ensures.added c.if-not-branch.true in
    let wrong : list_any (has_guid guid) (take i rows) ≡ true = sym (c.loop-row.invariant.seen guid) ∙ there in
    sym (c.loop-row.invariant.left ∙ wrong_here guid_of bytes_eq is_no_array TwiceSameGuid rows i c.row-item.result guid c.loop-row-test.true c.row-item.is named wrong)

pub loop-row-preserved : goal.loop-row-preserved
unfolding array_twice
loop-row-preserved c =
    let rows = c.args.rows.now in
    let i = c.loop-row.row-index in
    let row = c.row-item.result in
    elim c.match-row.branch [
      | in-Entry+in_ok-insert+else-not-branch w ↦
          let guid = w.in-Entry.entry.guid in
          let named : guid_of row ≡ Some guid = ap guid_of w.in-Entry.is in
          let key : w.bytes.result ≡ guid = w.bytes.ensures in
          let new : contains (slice_cmp nat_cmp) c.loop-row.seen guid ≡ false =
          ap (contains (slice_cmp nat_cmp) c.loop-row.seen) (sym key) ∙ was_new w.in_ok-insert.field-0 _ w.in_ok-insert.ensures.added w.if-not-branch.false in
          let sound : list_any (has_guid guid) (take i rows) ≡ false = sym (c.loop-row.invariant.seen guid) ∙ new in
          let updates = subst (λ k. Updates (slice_cmp nat_cmp) c.loop-row.seen w.insert.new.self k true) key w.in_ok-insert.ensures.updates in
          let more = names_more guid_of bytes_eq (slice_cmp nat_cmp) texts_ties c.loop-row.seen w.insert.new.self rows i row guid c.loop-row-test.true c.row-item.is named updates c.loop-row.invariant.seen in
          record {
            left = c.loop-row.invariant.left ∙ sound_here guid_of bytes_eq is_no_array TwiceSameGuid rows i row guid c.loop-row-test.true c.row-item.is named sound;
            seen = subst (λ set. HasNames guid_of bytes_eq (slice_cmp nat_cmp) set rows (i + 1)) (sym w.seen-is) more;
          }
      | in_default w ↦
          let unnamed : guid_of row ≡ None = ap guid_of w.in_default.is in
          let same = names_same guid_of bytes_eq (slice_cmp nat_cmp) c.loop-row.seen rows i row c.loop-row-test.true c.row-item.is unnamed c.loop-row.invariant.seen in
          record {
            left = c.loop-row.invariant.left ∙ unnamed_here guid_of bytes_eq is_no_array TwiceSameGuid rows i row c.loop-row-test.true c.row-item.is unnamed;
            seen = subst (λ set. HasNames guid_of bytes_eq (slice_cmp nat_cmp) set rows (i + 1)) (sym w.seen-is) same;
          }
    ]
