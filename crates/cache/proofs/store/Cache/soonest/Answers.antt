use Rattle.std.proofs.Common.{◌≡◌, ℕ, Bool, not, ap, ◌∙◌, rules, tests}
use Rattle.std.proofs.lemmas.Iterator.{YieldsList-from_slice, YieldsList-from_zip, YieldsList-from_map}
use Rattle.std.proofs.lemmas.Iterator.Consumers.{YieldsList-at, YieldsList-from_enumerate, YieldsList-from_filter, reduce_from_yields_List}
use Rattle.std.specs.Option.{option_map}
use Rattle.cache.specs.declared.entry.Entry.{Entry}
use Rattle.cache.specs.Entries.{entry_of, turn_of}
use Rattle.cache.proofs.Soonest.{soonest_turn}
use Rattle.cache.proofs.store.Cache.soonest.Goals as goal

pub returns : goal.returns
returns c =
    let xs = c.args.self.now.entries in
    let us = c.args.used.now in
    let least = reduce_from_yields_List _ _ c.min.result c.min.ensures.ran
    (YieldsList-from_map _ (λ (p : ℕ × (Entry × Bool)). (turn_of (entry_of p.1.0), p.0))
    (YieldsList-at c.map-turns.ensures.source
    (YieldsList-from_filter _ (λ (p : ℕ × (Entry × Bool)). not p.1.1)
    (YieldsList-at c.filter-free.ensures.source (YieldsList-from_enumerate (YieldsList-at c.enumerate-entries.ensures.source (YieldsList-from_zip (YieldsList-from_slice xs cc) (YieldsList-from_slice us cc))) cc))
    c.filter-free.ensures.closure (λ x b q k. search (rules, tests))))
    c.map-turns.ensures.closure (λ x r q k. search rules)) in
    let place : c.map.result ≡ option_map (λ t. t.1) c.min.result = search rules in
    place ∙ ap (option_map (λ t. t.1)) least ∙ soonest_turn us xs
