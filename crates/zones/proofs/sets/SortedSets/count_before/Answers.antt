use Rattle.std.proofs.Common.{◌-◌, ◌<◌, ◌≤◌, length, get_or, vec_items, sym, ap, ◌∙◌, subst, arith}
use lib.ListN.{length-map}
use Rattle.std.proofs.lemmas.List.{get_or_default}
use Rattle.names.specs.Names.{labels}
use Rattle.names.specs.Order.{within}
use Rattle.records.specs.Sets.{set_of}
use Rattle.zones.specs.Sorted.{is_before_below}
use Rattle.zones.specs.Zones.{sets_of}
use Rattle.zones.proofs.ByPlace.{behind_last}
use Rattle.zones.proofs.Narrow.{before_agrees, behind_front}
use Rattle.zones.proofs.Places.{place_within, fronts_many}
use Rattle.zones.proofs.Topmost.{each_read}
use Rattle.zones.proofs.sets.SortedSets.count_before.Goals as goal

pub returns-in_default : goal.returns-in_default
returns-in_default c =
    let s = c.args.self.now in
    let x = set_of c.args.set.now in
    let l = subst (λ zs. length zs ≤ 0) c.deref.ensures.value c.in_default.ensures.item.3 in
    let f = fronts_many set_of (vec_items s.sets) (vec_items s.fronts) (length (labels s.apex)) s.marked in
    let m = length-map (vec_items s.sets) set_of in
    let w = place_within x.name x.kind (sets_of s) in
    omega arith

pub returns-then-last_front-front : goal.returns-then-last_front-front
returns-then-last_front-front c =
    let s = c.args.self.now in
    let fs = vec_items s.fronts in
    let x = set_of c.args.set.now in
    let last = c.in-Some.last_front.now in
    let l = subst (λ zs. 0 < length zs) c.deref.ensures.value c.in-Some.ensures.item.3.0 in
    let e = c.in-Some.ensures.item.1 ∙ ap (λ zs. get_or zs (length zs - 1) last) c.deref.ensures.value in
    let d = get_or_default fs (length fs - 1) last 0 (omega arith) in
    c.len.ensures ∙ s.sets.ok.0
    ∙ behind_front (labels s.apex) (vec_items s.sets) fs s.ordered s.inside s.marked c.args.set.now.name x.kind c.requires.inside c.args.front c.requires.front l (subst (λ y. y < c.args.front) (e ∙ d) c.if-last_front-front.true)

pub returns-then-is_before : goal.returns-then-is_before
returns-then-is_before c =
    let s = c.args.self.now in
    let xs = vec_items s.sets in
    let x = set_of c.args.set.now in
    let a = labels s.apex in
    let last = c.in-Some-last.last.now in
    let l = subst (λ zs. 0 < length zs) c.deref-2.ensures.value c.in-Some-last.ensures.item.3.0 in
    let e = c.in-Some-last.ensures.item.1 ∙ ap (λ zs. get_or zs (length zs - 1) last) c.deref-2.ensures.value in
    let inside = each_read set_of (λ t. within a t.name) xs (length xs - 1) last (omega arith) e s.inside in
    let before = sym (before_agrees a x.name x.kind c.label_count.result c.label_count.ensures (set_of last) inside c.requires.inside)
    ∙ (λ i. is_before_below c.label_count.result (sym c.name.ensures i) (sym c.kind.ensures i) (set_of last)) ∙ sym c.is_before.ensures ∙ c.if-is_before.true in
    c.len-then-is_before.ensures ∙ s.sets.ok.0 ∙ behind_last set_of xs x.name x.kind s.ordered last l e before
