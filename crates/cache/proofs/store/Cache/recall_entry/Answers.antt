use Rattle.std.proofs.Common.{◌≡◌, ◌<◌, length, get_or, IfSome, Some, sym, refl, ap, ◌∙◌, subst, arith, rules}
use Rattle.std.specs.List.{slice_get}
use Rattle.std.specs.Option.{option_map}
use Rattle.names.specs.Names.{labels}
use Rattle.protocol.specs.World.{counts}
use Rattle.cache.specs.Entries.{entry_of}
use Rattle.cache.specs.Entries.{rules as times}
use Rattle.cache.specs.Caches.{entries_of}
use Rattle.cache.proofs.Recalled.{not_there, key_within, recalled_of, placed_of}
use Rattle.cache.proofs.store.Cache.recall_entry.Goals as goal

within : (c : goal.After-as_slice) → c.in_ok-place.place < length c.as_slice.result.now
within c =
    let self = c.args.self.now in
    let key = c.args.key.now in
    let w = key_within entry_of self.entries (counts times c.args.moment.0) (labels key.apex) (labels key.name) key.kind.number self.apart c.in_ok-place.place c.in_ok-place.ensures in
    let e = ap length c.as_slice.ensures.value in
    omega arith

pub offset_bounds-as_slice-place : goal.offset_bounds-as_slice-place
offset_bounds-as_slice-place c = let w = within c in search rules

pub bounds-as_slice-place : goal.bounds-as_slice-place
bounds-as_slice-place c = within c

pub returns-in_err-place-clause-entry : goal.returns-in_err-place-clause-entry
returns-in_err-place-clause-entry c =
    let key = c.args.key.now in
    ap (option_map (λ p. entry_of p.1.now)) c.from_residual.ensures
    ∙ not_there entry_of c.args.self.now.entries (counts times c.args.moment.0) (labels key.apex) (labels key.name) key.kind.number c.in_err-place.ensures

pub returns-clause-entry : goal.returns-clause-entry
returns-clause-entry c =
    let self = c.args.self.now in
    let key = c.args.key.now in
    ap (option_map (λ p. entry_of p.1.now)) c.then_some.ensures
    ∙ recalled_of entry_of self.entries (counts times c.args.moment.0) (labels key.apex) (labels key.name) key.kind.number self.apart c.in_ok-place.place c.in_ok-place.ensures
    (λ p. p.1.now) _ (c.index-as_slice-place.is ∙ ap (λ es. get_or es c.in_ok-place.place c.index-as_slice-place.result) c.as_slice.ensures.value) c.counts.result c.counts.ensures

pub returns-clause-place : goal.returns-clause-place
returns-clause-place c =
    let self = c.args.self.now in
    let key = c.args.key.now in
    subst (λ o. IfSome o (λ p. slice_get (entries_of self) p.0 ≡ Some (entry_of p.1.now))) (sym c.then_some.ensures)
    (placed_of entry_of self.entries (counts times c.args.moment.0) (labels key.apex) (labels key.name) key.kind.number self.apart c.in_ok-place.place c.in_ok-place.ensures
    (λ p. p.1.now) _ (c.index-as_slice-place.is ∙ ap (λ es. get_or es c.in_ok-place.place c.index-as_slice-place.result) c.as_slice.ensures.value) (λ p. p.0) refl c.counts.result)
