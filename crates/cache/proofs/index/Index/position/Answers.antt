use Rattle.std.proofs.Common.{◌≡◌, ◌≢◌, rules, tests}
use Rattle.std.proofs.lemmas.Iterator.{IsFirst-from_position, YieldsList-from_slice}
use Rattle.cache.specs.declared.index.Hint.{Hint}
use Rattle.cache.specs.Indexes.{hints_of}
use Rattle.cache.proofs.Hinting.{no_hint}
use Rattle.cache.proofs.index.Index.position.Goals as goal

pub returns : goal.returns
returns c =
    no_hint (hints_of c.args.self.now) c.args.place c.position.result
    (IsFirst-from_position _ _ _ (λ (x : Hint). x.place ≡ c.args.place) (λ (x : Hint). x.place ≢ c.args.place) c.position.ensures.ran (YieldsList-from_slice (hints_of c.args.self.now) cc) (λ x q k. search (rules, tests)) (λ x q k. search (rules, tests)))
