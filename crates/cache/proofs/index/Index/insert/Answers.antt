use Rattle.std.proofs.Common.{length, ap, ◌∙◌}
use Rattle.std.proofs.lemmas.List.Edits.{length-insert}
use Rattle.cache.specs.declared.index.Hint.{Hint}
use Rattle.cache.specs.Hints.{hinted}
use Rattle.cache.specs.Indexes.{hints_of}
use Rattle.cache.proofs.Hinting.{hinted_inserted, hinted_new}
use Rattle.cache.proofs.index.Index.insert.Goals as goal

pub returns : goal.returns
returns c =
    let xs = hints_of c.args.self.now in
    let at = c.first-at.result in
    let x : Hint = record { hash = c.args.hash; place = c.args.place } in
    let e = (c.insert.ensures.inserted c.requires c.first-at.ensures.within).1 in
    record {
      there = ap (hinted c.args.hash c.args.place) e ∙ hinted_new xs at c.args.hash c.args.place;
      others = λ h i b. ap (hinted h i) e ∙ hinted_inserted xs at x h i b;
      len = ap length e ∙ length-insert xs at x c.first-at.ensures.within;
    }
