use Rattle.std.proofs.Common.{◌≡◌, ◌<◌, true, ◌++◌, length, vec_items, arith, rules}
use Rattle.names.specs.Labels.{written}
use Rattle.names.specs.Names.{labels}
use Rattle.names.specs.Order.{within}
use Rattle.zonetext.proofs.Appending.{short_room, short_done}
use Rattle.zonetext.proofs.writing.name.write_name.Goals as goal

pub overflow_sub-len : goal.overflow_sub-len
overflow_sub-len c =
    let e : vec_items c.write.new.self ≡ vec_items c.args.out.now ++ written (labels c.args.name.now) = search rules in
    let h : within (labels c.args.apex.now) (labels c.args.name.now) ≡ true = search rules in
    let l : length (labels c.args.apex.now) < length (labels c.args.name.now) = omega arith in
    let r = short_room (labels c.args.apex.now) (labels c.args.name.now) (vec_items c.args.out.now) (vec_items c.write.new.self) h l (omega arith) e in
    omega arith

pub returns-then-label_count-gt0 : goal.returns-then-label_count-gt0
returns-then-label_count-gt0 c =
    let e : vec_items c.write.new.self ≡ vec_items c.args.out.now ++ written (labels c.args.name.now) = search rules in
    let h : within (labels c.args.apex.now) (labels c.args.name.now) ≡ true = search rules in
    let l : length (labels c.args.apex.now) < length (labels c.args.name.now) = omega arith in
    short_done (labels c.args.apex.now) (labels c.args.name.now) (vec_items c.args.out.now) (vec_items c.write.new.self) _ _ h l (omega arith) e (omega arith) c.truncate.ensures.items
