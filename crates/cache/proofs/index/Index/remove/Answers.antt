use Rattle.std.proofs.Common.{◌+◌, length, sym, ap, ◌∙◌, subst}
use Rattle.std.proofs.lemmas.List.Edits.{length-remove}
use Rattle.bounded.proofs.Writing.{removed}
use Rattle.cache.specs.Hints.{hinted, Rising}
use Rattle.cache.specs.Indexes.{hints_of}
use Rattle.cache.proofs.Hinting.{rising_removed, hinted_removed}
use Rattle.cache.proofs.index.Index.remove.Goals as goal

pub invariant_of-self : goal.invariant_of-self
invariant_of-self c =
    let xs = hints_of c.args.self.now in
    let e = removed 1024 xs c.remove.new.self c.in-Some.at c.remove.result c.remove.ensures c.in-Some.ensures.0 in
    record { rising = subst Rising (sym e.0) (rising_removed xs c.in-Some.at c.args.self.now.rising c.in-Some.ensures.0) }

pub returns-in-Some : goal.returns-in-Some
returns-in-Some c =
    let xs = hints_of c.args.self.now in
    let f = c.in-Some.ensures in
    let r = removed 1024 xs c.remove.new.self c.in-Some.at c.remove.result c.remove.ensures f.0 in
    let e = r.0 in
    record {
      others = λ h i a b. ap (hinted h i) e ∙ hinted_removed xs c.in-Some.at f.0 c.args.place f.1 h i a b;
      len = ap (λ ys. length ys + 1) e ∙ length-remove xs c.in-Some.at f.0;
      room = r.1;
    }
