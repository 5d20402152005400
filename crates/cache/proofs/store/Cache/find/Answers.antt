use Rattle.std.proofs.Common.{◌≡◌, List, map, Some, None, Option, Bor, refl, ap, ◌∙◌, rules, tests}
use Rattle.std.specs.List.{filter, find, take_while}
use Rattle.std.specs.Option.{option_map}
use Rattle.std.proofs.lemmas.Iterator.{YieldsList-from_slice}
use Rattle.std.proofs.lemmas.Iterator.Consumers.{YieldsList-at}
use Rattle.std.proofs.lemmas.Iterator.Search.{find_from_yields_List, YieldsList-from_take_while}
use Rattle.names.specs.Names.{labels}
use Rattle.cache.specs.declared.index.Hint.{Hint}
use Rattle.cache.specs.Caches.{entries_of}
use Rattle.cache.specs.Indexes.{hints_of}
use Rattle.cache.proofs.Looking.{has, test, first_place, looked}
use Rattle.cache.proofs.store.Cache.find.Goals as goal

twice : (o : Option (Bor Hint)) → option_map (λ x. x.now.place) o ≡ option_map (λ (x : Hint). x.place) (option_map (λ x. x.now) o)
twice None = refl
twice (Some x) = refl

pub returns : goal.returns
returns c =
    let self = c.args.self.now in
    let key = c.args.key.now in
    let h = c.hash-hash.result in
    let at = test (entries_of self) (labels key.apex) (labels key.name) key.kind.number in
    let found = find_from_yields_List (λ (x : Hint). at x.place) _ _ c.find-found.result c.find-found.ensures.ran (YieldsList-from_take_while _ (has h) (YieldsList-at c.take_while-alike.ensures.source (YieldsList-from_slice c.from_hash.result.now c.iter-hints.ensures.rest)) c.take_while-alike.ensures.closure c.take_while-alike.ensures.done (λ x b q k. search (rules, tests))) (λ x b q k. search (rules, tests)) in
    let mapped : c.map.result ≡ option_map (λ (x : Bor Hint). x.now.place) c.find-found.result = search rules in
    mapped ∙ twice c.find-found.result ∙ ap (option_map (λ (x : Hint). x.place)) found
    ∙ first_place at (take_while (has h) c.from_hash.result.now)
    ∙ ap (λ (hs : List Hint). find at (map (λ (x : Hint). x.place) hs)) c.from_hash.ensures
    ∙ ap (λ m. find at (map (λ (x : Hint). x.place) (filter (has m) (hints_of self.index)))) c.hash-hash.ensures
    ∙ looked (entries_of self) (labels key.apex) (labels key.name) key.kind.number (hints_of self.index) self.covered self.apart
