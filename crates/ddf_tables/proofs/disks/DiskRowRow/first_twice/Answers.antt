use Rattle.std.proofs.Common.{◌≡◌, ◌+◌, true, false, ◌||◌, Some, None, nat_eq, sym, ◌∙◌, ap, subst, take}
use Rattle.std.specs.Cmp.{unsigned_ties}
use Rattle.std.specs.List.{list_any}
use Rattle.std.specs.Ordering.{nat_cmp}
use Rattle.std.proofs.lemmas.Bool.{eq-eqb, ne_eqb}
use Rattle.ddf_tables.specs.declared.fault.TableFault.TheVariants.{TwiceSameReference}
use Rattle.ddf_tables.specs.Disks.{disk_twice, has_reference, is_no_disk, reference_of}
use Rattle.ddf_tables.proofs.SeenNames.{HasNames, names_more, names_same, wrong_here, sound_here, unnamed_here, was_there, was_new}
use Rattle.ddf_tables.proofs.disks.DiskRowRow.first_twice.Goals as goal
use Rattle.ddf_tables.proofs.disks.DiskRowRow.first_twice.Goals.{in-Entry+else-reference+in_ok-insert+else-not-branch, in_default, then-reference-via-then-reference, then-reference-via-else-reference+in_ok-insert+then-not-branch}

pub returns-then-reference : goal.returns-then-reference
unfolding disk_twice
returns-then-reference c =
    let rows = c.args.rows.now in
    let i = c.loop-row.row-index in
    let reference = c.in-Entry.entry.reference in
    let named : reference_of c.row-item.result ≡ Some reference = ap reference_of c.in-Entry.is in
    let wrong : (is_no_disk reference || list_any (has_reference reference) (take i rows)) ≡ true =
    elim c.then-reference.branch [
      | then-reference-via-then-reference w ↦ ap (λ b. b || list_any (has_reference reference) (take i rows)) (eq-eqb reference 4294967295 w.if-reference.true)
      | then-reference-via-else-reference+in_ok-insert+then-not-branch w ↦
          let seen = sym (c.loop-row.invariant.seen reference) ∙ was_there w.in_ok-insert.field-0 _ w.in_ok-insert.ensures.added w.if-not-branch.true in
          ap (λ b. b || list_any (has_reference reference) (take i rows)) (ne_eqb reference 4294967295 w.if-reference.false) ∙ seen
    ] in
    sym (c.loop-row.invariant.left ∙ wrong_here reference_of nat_eq is_no_disk TwiceSameReference rows i c.row-item.result reference c.loop-row-test.true c.row-item.is named wrong)

pub loop-row-preserved : goal.loop-row-preserved
unfolding disk_twice
loop-row-preserved c =
    let rows = c.args.rows.now in
    let i = c.loop-row.row-index in
    let row = c.row-item.result in
    elim c.match-row.branch [
      | in-Entry+else-reference+in_ok-insert+else-not-branch w ↦
          let reference = w.in-Entry.entry.reference in
          let named : reference_of row ≡ Some reference = ap reference_of w.in-Entry.is in
          let new = sym (c.loop-row.invariant.seen reference) ∙ was_new w.in_ok-insert.field-0 _ w.in_ok-insert.ensures.added w.if-not-branch.false in
          let sound : (is_no_disk reference || list_any (has_reference reference) (take i rows)) ≡ false =
          ap (λ b. b || list_any (has_reference reference) (take i rows)) (ne_eqb reference 4294967295 w.if-reference.false) ∙ new in
          let more = names_more reference_of nat_eq nat_cmp unsigned_ties c.loop-row.seen w.insert.new.self rows i row reference c.loop-row-test.true c.row-item.is named w.in_ok-insert.ensures.updates c.loop-row.invariant.seen in
          record {
            left = c.loop-row.invariant.left ∙ sound_here reference_of nat_eq is_no_disk TwiceSameReference rows i row reference c.loop-row-test.true c.row-item.is named sound;
            seen = subst (λ set. HasNames reference_of nat_eq nat_cmp set rows (i + 1)) (sym w.seen-is) more;
          }
      | in_default w ↦
          let unnamed : reference_of row ≡ None = ap reference_of w.in_default.is in
          let same = names_same reference_of nat_eq nat_cmp c.loop-row.seen rows i row c.loop-row-test.true c.row-item.is unnamed c.loop-row.invariant.seen in
          record {
            left = c.loop-row.invariant.left ∙ unnamed_here reference_of nat_eq is_no_disk TwiceSameReference rows i row c.loop-row-test.true c.row-item.is unnamed;
            seen = subst (λ set. HasNames reference_of nat_eq nat_cmp set rows (i + 1)) (sym w.seen-is) same;
          }
    ]
