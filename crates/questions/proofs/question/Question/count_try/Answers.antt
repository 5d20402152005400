use Rattle.std.proofs.Common.{length, sym, refl, arith}
use Rattle.std.proofs.lemmas.Bool.{leb-false, leb-true}
use lib.ListN.{length-map}
use Rattle.names.specs.Names.{labels}
use Rattle.machine.specs.Machine.{is_word}
use Rattle.questions.specs.Tries.{tried_for, tried_first, tries_of, question_of}
use Rattle.questions.proofs.Finding.{stands, lacks, stands_within}
use Rattle.questions.proofs.Counting.{counts_place, counts_pushed}
use Rattle.questions.proofs.question.Question.count_try.Goals as goal

pub recount-requires : goal.recount-requires
recount-requires c =
    let key = c.args.pending.now.query.key in
    let test = is_word (labels key.apex) (labels key.name) in
    let ts = tries_of c.args.self.now in
    stands_within test ts c.in-Some.at (stands test ts c.in-Some.at c.in-Some.ensures)

pub returns-in-Some : goal.returns-in-Some
returns-in-Some c =
    let query = c.args.pending.now.query in
    let a = labels query.key.apex in
    let p = labels query.key.name in
    let self = c.args.self.now in
    let d = tried_first a p 0 0 in
    counts_place a p c.args.pending.now.place query.id.0 (question_of self) (question_of c.recount.new.self) c.in-Some.at d (stands (is_word a p) (tries_of self) c.in-Some.at c.in-Some.ensures) (c.recount.ensures d)

pub returns-in-None : goal.returns-in-None
returns-in-None c =
    let query = c.args.pending.now.query in
    let a = labels query.key.apex in
    let p = labels query.key.name in
    let self = c.args.self.now in
    counts_pushed tried_for a p c.args.pending.now.place query.id.0 (question_of self) self.tries c.push.new.self c.first.result c.push.result c.push.ensures (lacks (is_word a p) (tries_of self) c.in-None.ensures) c.first.ensures.value
