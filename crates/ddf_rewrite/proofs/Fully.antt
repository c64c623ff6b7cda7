-- The copy that a change gives a disk shows the configuration fully.
use Rattle.std.proofs.Common.{◌≡◌, ℕ, zero, suc, ◌+◌, ◌<◌, Bool, true, false, ◌&&◌, ◌||◌, List, [], ◌∷◌, length, map, Option, Some, None, refl, ap, sym, ◌∙◌, arith, inl}
use Rattle.std.proofs.lemmas.Bool.{and_from, or_from, not-false, or_right}
use Rattle.std.specs.Prelude.{slice_get, filter, filter_map}
use Rattle.std.specs.List.{AllByRecursion, list_any, list_all, cons_option, range_with_len}
use Rattle.std.specs.Str.{bytes_eq}
use Rattle.ddf_tables.specs.declared.disks.DiskEntry.{DiskEntry}
use Rattle.ddf_tables.specs.declared.arrays.ArrayEntry.{ArrayEntry}
use Rattle.ddf_copy.specs.declared.copy.DiskCopy.{DiskCopy}
use Rattle.std.specs.Cmp.Lexicographic.{pointwise}
use Rattle.ddf_lemmas.proofs.Lists.{bytes_same, list_all_read, some_at_place}
use Rattle.ddf_config.specs.Configuration.{Configuration}
use Rattle.ddf_config.specs.ElementValue.{ElementValue as ElementPlan}
use Rattle.ddf_config.specs.declared.array.Array.{Array}
use Rattle.ddf_config.specs.declared.member.Member.{Member}
use Rattle.ddf_config.specs.declared.member.SpareUse.TheVariants as uses
use Rattle.ddf_config.specs.declared.member.SpareUse.{SpareUse}
use Rattle.ddf_view.specs.Readable.{HasNotes, IsReadable}
use Rattle.ddf_view.specs.Reading.{dedicated_or_not, elements_in, is_associated, is_dedicated, read, spare_in, spare_of_kind}
use Rattle.ddf_view.specs.Shows.{gives_elements, gives_spare, holds_all, same_spare, shows, shows_fully}
use Rattle.ddf_view.specs.View.{HeldRecord, View, find_held, has_bit, view_of}
use Rattle.ddf_view.proofs.Agreement.{Gives, Holds, records_read, dedicated_noted, shown_from, read_together}
use Rattle.ddf_view.proofs.Finds.{place_within}
use Rattle.ddf_rewrite.specs.Arrays.{array_on, arrays_after}
use Rattle.ddf_rewrite.specs.Before.{Before, leading_record}
use Rattle.ddf_rewrite.specs.Changing.{CanChange, HasRoomFor}
use Rattle.ddf_rewrite.specs.Copies.{changed_copy, changed_holdings, own_record}
use Rattle.ddf_rewrite.specs.Disks.{block_size_of, changed_disks, disk_on, disks_for, has_spare_bit, is_global, kind_after, kind_in, member_entry}
use Rattle.ddf_rewrite.specs.Elements.{contains, has_places, is_spare_for, spares_after}
use Rattle.ddf_rewrite.specs.Readable.{HasOwnNames, HasSpares}
use Rattle.ddf_rewrite.specs.Wanted.{Wanted, all_wanted}
use Rattle.ddf_rewrite.proofs.Given.{not_wanted}
use Rattle.ddf_rewrite.proofs.Changed.{changed_apart, record_found, none_found, disks_are, arrays_are, changed_shows, changed_noted, changed_holds}
use Rattle.ddf_rewrite.proofs.Made.{made_has_notes}
use Rattle.ddf_rewrite.proofs.Filled.{filled_spares}
use Rattle.ddf_rewrite.proofs.Flags.{kind_global, kind_spare}
use Rattle.ddf_rewrite.proofs.SpareLists.{spares_tell, base_spares, record_spares}
use Rattle.ddf_rewrite.proofs.AllWanted.{is_wanted}
use Rattle.ddf_rewrite.proofs.Lists.{some_same, all_at, match_made}

-- ---- tests over what is found

any_none : {X : Type 0} (test : X → Bool) (f : ℕ → Option X) (n count : ℕ) → ((i : ℕ) (x : X) → i < count → f (n + i) ≡ Some x → test x ≡ false) → list_any test (filter_map f (range_with_len n count)) ≡ false
any_none test f n zero h = refl
any_none {X = X} test f n (suc count) h =
    go (any_none test f (n + 1) count (λ i x lt is. let there : n + suc i ≡ n + 1 + i = omega arith in h (suc i) x (omega (arith, lt)) (ap f there ∙ is))) (f n) refl
  where
    go : list_any test (filter_map f (range_with_len (n + 1) count)) ≡ false → (o : Option X) → f n ≡ o → list_any test (cons_option o (filter_map f (range_with_len (n + 1) count))) ≡ false
    go rest None e = rest
    go rest (Some x) e = let here : n + 0 ≡ n = omega arith in or_from (test x) (list_any test (filter_map f (range_with_len (n + 1) count))) (h 0 x (omega arith) (ap f here ∙ e)) rest

any_some : {X : Type 0} (test : X → Bool) (f : ℕ → Option X) (n count i : ℕ) (x : X) → i < count → f (n + i) ≡ Some x → test x ≡ true → list_any test (filter_map f (range_with_len n count)) ≡ true
any_some test f n zero i x lt is passes = absurd (omega (arith, lt))
any_some test f n (suc count) zero x lt is passes =
    let here : n ≡ n + 0 = omega arith in
    let first : f n ≡ Some x = ap f here ∙ is in
    rw (first, passes) refl
any_some {X = X} test f n (suc count) (suc i) x lt is passes =
    go (let there : n + 1 + i ≡ n + suc i = omega arith in any_some test f (n + 1) count i x (omega (arith, lt)) (ap f there ∙ is) passes) (f n)
  where
    go : list_any test (filter_map f (range_with_len (n + 1) count)) ≡ true → (o : Option X) → list_any test (cons_option o (filter_map f (range_with_len (n + 1) count))) ≡ true
    go rest None = rest
    go rest (Some y) = or_right (test y) (list_any test (filter_map f (range_with_len (n + 1) count))) rest

-- ---- what the view tells of a spare

associated : (old : DiskCopy) (leaders : Before) (config : Configuration) (timestamp : ℕ) → CanChange old leaders config timestamp
    → (a k : ℕ) (entry : List ℕ × Array) (member : ℕ × Member) → slice_get config.arrays a ≡ Some entry → slice_get config.members k ≡ Some member
    → is_associated (elements_in (view_of (changed_copy old leaders config timestamp) ∷ [])) member.0 entry.0 ≡ is_spare_for entry.0 member.1.spare
associated old leaders config timestamp can a k entry member at there =
    let view = view_of (changed_copy old leaders config timestamp) in
    let gives : Gives entry view = list_all_read (gives_elements view.elements) config.arrays a entry (shown_from config view (changed_shows old leaders config timestamp can.names can.rebuilt can.room)).elements at in
    let has : Holds entry view = list_all_read (holds_all view.elements) config.arrays a entry (changed_holds old leaders config timestamp can.names can.room) at in
    let records = records_read entry view [] (all_at (λ (one : List ℕ × Array). IsReadable one.1) config.arrays a entry can.readable at) gives has tt in
    ap (λ (list : List HeldRecord). list_any (λ held. contains held.element.spares member.0) list) records ∙ go (is_spare_for entry.0 member.1.spare) refl
  where
    V : View
    V = view_of (changed_copy old leaders config timestamp)

    tells : (i : ℕ) (held : HeldRecord) → i < length entry.1.elements → find_held entry.0 i V.elements ≡ Some held → contains held.element.spares member.0 ≡ is_spare_for entry.0 member.1.spare
    tells i held lt found = by_plan (some_at_place entry.1.elements i lt)
      where
        by_plan : (plan : Option ElementPlan) × (slice_get entry.1.elements i ≡ Some plan) → contains held.element.spares member.0 ≡ is_spare_for entry.0 member.1.spare
        by_plan (None, is) =
            let none = none_found old leaders config timestamp can.names can.room entry.0 i (not_wanted config a i entry can.names at (inl is)) in
            let got : None ≡ Some held = sym none ∙ found in
            absurd cc
        by_plan (Some plan, is) =
            let wanted : Wanted = record { guid = entry.0; array = entry.1; index = i; plan = plan } in
            let place = is_wanted config a i entry plan at is in
            let record_is = record_found old leaders config timestamp can.names can.room place.0 wanted place.1 in
            let same = some_same found record_is in
            let spares : held.element.spares ≡ spares_after config entry.0 (base_spares (leading_record leaders wanted.guid wanted.index)) =
            ap (λ (h : HeldRecord). h.element.spares) same ∙ record_spares config timestamp old.header.geometry old.header.revision (own_record old wanted) (leading_record leaders wanted.guid wanted.index) wanted in
            let places : has_places config entry.0 (base_spares (leading_record leaders wanted.guid wanted.index)) ≡ true =
            list_all_read (λ one. has_places config one.guid (base_spares (leading_record leaders one.guid one.index))) (all_wanted config) place.0 wanted (not-false (list_all (λ one. has_places config one.guid (base_spares (leading_record leaders one.guid one.index))) (all_wanted config)) can.places) place.1 in
            ap (λ (list : List ℕ). contains list member.0) spares ∙ spares_tell config entry.0 (base_spares (leading_record leaders wanted.guid wanted.index)) k member can.spares there places

    go : (b : Bool) → is_spare_for entry.0 member.1.spare ≡ b → list_any (λ held. contains held.element.spares member.0) (filter_map (λ i. find_held entry.0 i V.elements) (range_with_len 0 (length entry.1.elements))) ≡ b
    go false e = any_none (λ held. contains held.element.spares member.0) (λ i. find_held entry.0 i V.elements) 0 (length entry.1.elements)
        (λ i held lt is. let here : 0 + i ≡ i = omega arith in tells i held lt (sym (ap (λ (n : ℕ). find_held entry.0 n V.elements) here) ∙ is) ∙ e)
    go true e =
        let some = can.spares.held k a member entry there at e in
        let wanted : Wanted = record { guid = entry.0; array = entry.1; index = some.0; plan = some.1 } in
        let place = is_wanted config a some.0 entry some.1 at some.2 in
        let lt = place_within entry.1.elements some.0 (Some some.1) some.2 in
        let record_is = record_found old leaders config timestamp can.names can.room place.0 wanted place.1 in
        let here : 0 + some.0 ≡ some.0 = omega arith in
        any_some (λ held. contains held.element.spares member.0) (λ i. find_held entry.0 i V.elements) 0 (length entry.1.elements) some.0 _ lt
        (ap (λ (n : ℕ). find_held entry.0 n V.elements) here ∙ record_is) (tells some.0 _ lt record_is ∙ e)

-- ---- the spare use of each member

filter_alike : (p : ArrayEntry → Bool) (q : List ℕ → Bool) (f : List ℕ × Array → ArrayEntry) (entries : List (List ℕ × Array)) → ((entry : List ℕ × Array) → (f entry).guid ≡ entry.0) → ((a : ℕ) (entry : List ℕ × Array) → slice_get entries a ≡ Some entry → p (f entry) ≡ q entry.0)
    → map (λ row. row.guid) (filter p (map f entries)) ≡ filter q (map (λ entry. entry.0) entries)
filter_alike p q f [] guid h = refl
filter_alike p q f (entry ∷ entries) guid h = go (filter_alike p q f entries guid (λ a one at. h (suc a) one at)) (q entry.0) (h 0 entry refl) refl
  where
    go : map (λ row. row.guid) (filter p (map f entries)) ≡ filter q (map (λ one. one.0) entries) → (b : Bool) → p (f entry) ≡ q entry.0 → q entry.0 ≡ b → map (λ row. row.guid) (filter p (map f (entry ∷ entries))) ≡ filter q (map (λ one. one.0) (entry ∷ entries))
    go rest true same e = let here : p (f entry) ≡ true = same ∙ e in let name = guid entry in rw (here, e, name, rest) refl
    go rest false same e = let here : p (f entry) ≡ false = same ∙ e in rw (here, e) rest

no_filter : (xs : List (List ℕ)) → filter (λ guid. false) xs ≡ []
no_filter [] = refl
no_filter (x ∷ xs) = no_filter xs

make_dedicated : (arrays : List (List ℕ)) → (arrays ≡ [] → ⊥) → dedicated_or_not arrays ≡ uses.Dedicated arrays
make_dedicated [] h = absurd (h refl)
make_dedicated (x ∷ arrays) h = refl

pub spare_again : (spare : SpareUse) → same_spare spare spare ≡ true
spare_again uses.No = refl
spare_again uses.Global = refl
spare_again uses.Revertible = refl
spare_again (uses.Dedicated arrays) = go arrays
  where
    go : (xs : List (List ℕ)) → pointwise bytes_eq xs xs ≡ true
    go [] = refl
    go (x ∷ xs) = let first = bytes_same x in let rest = go xs in rw (first, rest) refl

-- the use that the type and the associated spares give
use_is : (config : Configuration) (k : ℕ) (member : ℕ × Member) (kind : ℕ) (listed : List (List ℕ)) → HasSpares config → slice_get config.members k ≡ Some member → has_bit kind 2 ≡ is_global member.1.spare → has_bit kind 3 ≡ has_spare_bit member.1.spare
    → listed ≡ filter (λ guid. is_spare_for guid member.1.spare) (map (λ entry. entry.0) config.arrays) → spare_of_kind kind (dedicated_or_not listed) ≡ member.1.spare
use_is config k member kind listed has at bit third are = go member.1.spare refl
  where
    go : (spare : SpareUse) → member.1.spare ≡ spare → spare_of_kind kind (dedicated_or_not listed) ≡ member.1.spare
    go uses.No e =
        let none : has_bit kind 2 ≡ false = bit ∙ ap is_global e in
        let empty : listed ≡ [] = are ∙ ap (λ (s : SpareUse). filter (λ guid. is_spare_for guid s) (map (λ entry. entry.0) config.arrays)) e ∙ no_filter (map (λ entry. entry.0) config.arrays) in
        rw (none, empty) (sym e)
    go uses.Global e =
        let one : has_bit kind 2 ≡ true = bit ∙ ap is_global e in
        let none : has_bit kind 3 ≡ false = third ∙ ap has_spare_bit e in
        rw (one, none) (sym e)
    go uses.Revertible e =
        let one : has_bit kind 2 ≡ true = bit ∙ ap is_global e in
        let also : has_bit kind 3 ≡ true = third ∙ ap has_spare_bit e in
        rw (one, also) (sym e)
    go (uses.Dedicated arrays) e =
        let none : has_bit kind 2 ≡ false = bit ∙ ap is_global e in
        let is = has.listed k member arrays at e in
        let list : listed ≡ arrays = are ∙ ap (λ (s : SpareUse). filter (λ guid. is_spare_for guid s) (map (λ entry. entry.0) config.arrays)) e ∙ is.0 in
        rw (none, list) (make_dedicated arrays is.1 ∙ sym e)

spare_given : (old : DiskCopy) (leaders : Before) (config : Configuration) (timestamp : ℕ) → CanChange old leaders config timestamp
    → (k : ℕ) (member : ℕ × Member) → slice_get config.members k ≡ Some member
    → gives_spare (view_of (changed_copy old leaders config timestamp)) (disk_on (view_of old).disks (block_size_of old.header.revision) (member_entry (all_wanted config) leaders.disks member)) member ≡ true
unfolding spare_in arrays_after
spare_given old leaders config timestamp can k member at =
    let view = view_of (changed_copy old leaders config timestamp) in
    let own = (view_of old).arrays in
    let some_noted = changed_noted old leaders config timestamp can.names can.room in
    let arrays = arrays_are old leaders config timestamp can.room in
    let noted : list_any (λ (one : View). one.noted) (view ∷ []) ≡ true = rw some_noted refl in
    let each = λ (a : ℕ) (entry : List ℕ × Array) (there : slice_get config.arrays a ≡ Some entry).
    dedicated_noted (view ∷ []) member.0 (array_on own entry) noted ∙ ap (λ (b : Bool). b || false) (associated old leaders config timestamp can a k entry member there at) ∙ or_nothing (is_spare_for entry.0 member.1.spare) in
    let listed : map (λ row. row.guid) (filter (is_dedicated (view ∷ []) member.0) view.arrays) ≡ filter (λ guid. is_spare_for guid member.1.spare) (map (λ entry. entry.0) config.arrays) =
    ap (λ (rows : List ArrayEntry). map (λ row. row.guid) (filter (is_dedicated (view ∷ []) member.0) rows)) arrays
    ∙ filter_alike (is_dedicated (view ∷ []) member.0) (λ guid. is_spare_for guid member.1.spare) (λ entry. array_on own entry) config.arrays (λ entry. refl) each in
    let is = use_is config k member (kind_after (all_wanted config) member (kind_in leaders.disks member.0)) (map (λ row. row.guid) (filter (is_dedicated (view ∷ []) member.0) view.arrays)) can.spares at (kind_global (all_wanted config) member (kind_in leaders.disks member.0)) (kind_spare (all_wanted config) member (kind_in leaders.disks member.0)) listed in
    ap (λ (s : SpareUse). same_spare s member.1.spare) is ∙ spare_again member.1.spare
  where
    or_nothing : (b : Bool) → (b || false) ≡ b
    or_nothing true = refl
    or_nothing false = refl

-- The copy that a change gives a disk shows the configuration fully.
pub changed_fully : (old : DiskCopy) (leaders : Before) (config : Configuration) (timestamp : ℕ) → CanChange old leaders config timestamp
    → shows_fully config (view_of (changed_copy old leaders config timestamp)) ≡ true
unfolding shows_fully changed_disks disks_for
changed_fully old leaders config timestamp can =
    let view = view_of (changed_copy old leaders config timestamp) in
    let shown = changed_shows old leaders config timestamp can.names can.rebuilt can.room in
    let noted = changed_noted old leaders config timestamp can.names can.room in
    let held = changed_holds old leaders config timestamp can.names can.room in
    let disks = disks_are old leaders config timestamp can.room in
    let spares : pointwise (gives_spare view) view.disks config.members ≡ true =
    ap (λ (list : List DiskEntry). pointwise (gives_spare view) list config.members) disks
    ∙ filled_spares old.header.revision true (all_wanted config) view (changed_disks config leaders.disks old.header.revision (view_of old).disks) config.members
    ∙ match_made (gives_spare view) (λ entry. disk_on (view_of old).disks (block_size_of old.header.revision) (member_entry (all_wanted config) leaders.disks entry)) config.members
    (λ k member at. spare_given old leaders config timestamp can k member at) in
    let a = shows config view in
    let b = view.noted in
    let c = list_all (holds_all view.elements) config.arrays in
    let d = pointwise (gives_spare view) view.disks config.members in
    and_from (a && b && c) d (and_from (a && b) c (and_from a b shown noted) held) spares

-- ---- each record has a note

pub changed_has_notes : (old : DiskCopy) (leaders : Before) (config : Configuration) (timestamp : ℕ) → HasOwnNames config → HasRoomFor old leaders config timestamp → HasNotes (view_of (changed_copy old leaders config timestamp))
unfolding changed_copy
changed_has_notes old leaders config timestamp names room =
    made_has_notes old true config timestamp (changed_disks config leaders.disks old.header.revision (view_of old).disks) (changed_holdings old leaders config timestamp) (changed_apart old leaders config timestamp names) room.records refl

-- Where each seat has the copy that a change gives it, they give the configuration together.
pub changed_together : (old : DiskCopy) (leaders : Before) (config : Configuration) (timestamp : ℕ) → CanChange old leaders config timestamp
    → (others : List DiskCopy) → AllByRecursion (λ other. CanChange other leaders config timestamp) others
    → read config.group config.sequence (view_of (changed_copy old leaders config timestamp) ∷ map (λ other. view_of (changed_copy other leaders config timestamp)) others) ≡ config
changed_together old leaders config timestamp can others all =
    read_together config (view_of (changed_copy old leaders config timestamp)) (map (λ other. view_of (changed_copy other leaders config timestamp)) others) can.readable (changed_has_notes old leaders config timestamp can.names can.room)
    (changed_fully old leaders config timestamp can) (each others all)
  where
    each : (list : List DiskCopy) → AllByRecursion (λ other. CanChange other leaders config timestamp) list → AllByRecursion (λ one. shows config one ≡ true) (map (λ other. view_of (changed_copy other leaders config timestamp)) list)
    each [] h = tt
    each (other ∷ list) h = (changed_shows other leaders config timestamp h.0.names h.0.rebuilt h.0.room, each list h.1)
