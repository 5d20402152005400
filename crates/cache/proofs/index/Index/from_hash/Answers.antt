use Rattle.std.proofs.Common.{drop, ap, ◌∙◌}
use Rattle.std.specs.List.{take_while}
use Rattle.std.proofs.lemmas.List.{take_rest}
use Rattle.cache.specs.Indexes.{hints_of}
use Rattle.cache.proofs.Hinting.{far}
use Rattle.cache.proofs.Looking.{has, run}
use Rattle.cache.proofs.index.Index.from_hash.Goals as goal

pub returns : goal.returns
returns c =
    let xs = hints_of c.args.self.now in
    let h = c.args.hash in
    let n = c.first.result in
    let behind = take_rest c.as_slice.result.now n ∙ ap (drop n) c.as_slice.ensures.value in
    ap (take_while (has h)) behind ∙ run h xs n (far xs c.args.self.now.rising) c.first.ensures.below c.first.ensures.above
