use Rattle.std.proofs.Common.{◌≡◌, false, ltb, sym, ◌∙◌, arith}
use Rattle.std.proofs.lemmas.Bool.Decides.{nat_tests}
use Rattle.records.specs.Sets.{set_of}
use Rattle.zones.specs.Zones.{sets_of}
use Rattle.zones.proofs.Clashing.{clash_here, clash_first, clash_before}
use Rattle.zones.proofs.sets.SortedSets.has_clash.Goals as goal

pub returns-then-clashes_at : goal.returns-then-clashes_at
returns-then-clashes_at c =
    let s = c.args.self.now in
    clash_here (sets_of s) s.ordered c.requires.alone (set_of c.args.set.now) c.args.at c.requires.place (sym c.if-clashes_at.ensures)

pub returns-then-at-gt0 : goal.returns-then-at-gt0
returns-then-at-gt0 c =
    let s = c.args.self.now in
    c.clashes_at-then-at-gt0.ensures ∙ clash_before (sets_of s) s.ordered c.requires.alone (set_of c.args.set.now) c.args.at c.requires.place (sym c.if-clashes_at.ensures)

pub returns-else-at-gt0 : goal.returns-else-at-gt0
returns-else-at-gt0 c =
    let s = c.args.self.now in
    let none : ltb 0 c.args.at ≡ false = grind (arith, nat_tests) in
    none ∙ clash_first (sets_of s) s.ordered c.requires.alone (set_of c.args.set.now) c.args.at c.requires.place (omega arith) (sym c.if-clashes_at.ensures)
