use Rattle.std.proofs.Common.{arith, rules}
use Rattle.names.proofs.Laws.{count_is, label_part, start_below}
use Rattle.names.proofs.name.Name.label_at.Goals as goal

pub start-requires : goal.start-requires
start-requires c = let h = count_is c.args.self.now in omega arith

pub overflow_add-depth : goal.overflow_add-depth
overflow_add-depth c = let h = count_is c.args.self.now in search rules

pub start-requires-2 : goal.start-requires-2
start-requires-2 c = let h = count_is c.args.self.now in omega arith

pub slice_bounds-result-count : goal.slice_bounds-result-count
slice_bounds-result-count c =
    let h = count_is c.args.self.now in
    let k = start_below c.args.self.now c.args.depth (omega arith) in
    omega arith

pub slice_bounds-result-start : goal.slice_bounds-result-start
slice_bounds-result-start c =
    let h = count_is c.args.self.now in
    let k = start_below c.args.self.now c.args.depth (omega arith) in
    search rules

pub returns : goal.returns
returns c = label_part c.args.self.now c.args.depth c.start.result c.start-2.result c.requires c.start.ensures.value c.start-2.ensures.value
