-- What tries and questions stand for.
use Rattle.std.specs.Prelude.{ℕ, cond, List, map, ◌==◌}
use Rattle.names.specs.Names.{labels}
use Rattle.protocol.specs.Words.{Name}
use Rattle.machine.specs.Machine as machine
use Rattle.machine.specs.Machine.{count_up, tried_of, too_many, try_more}
use Rattle.questions.specs.declared.tried.Tried.{Tried}
use Rattle.questions.specs.declared.question.Question.{Question}

abbrev pub tried_for : Tried → machine.Tried
tried_for t = record { apex = labels t.key.apex; name = labels t.key.name; count = t.count; place = t.place; id = t.id.0 }

abbrev pub tries_of : Question → List machine.Tried
tries_of q = map tried_for q.tries

abbrev pub question_of : Question → machine.Question
question_of q = record { ticket = q.request.ticket; name = labels q.request.name; kind = q.request.kind.number; tries = tries_of q }

abbrev pub with_tries : List machine.Tried → machine.Question → machine.Question
with_tries ts u = record { ticket = u.ticket; name = u.name; kind = u.kind; tries = ts }

-- the first try for a word, and one more, unless its query was counted last
abbrev pub tried_first : Name → Name → ℕ → ℕ → machine.Tried
tried_first a p at n = record { apex = a; name = p; count = 1; place = at; id = n }

abbrev pub tried_again : ℕ → ℕ → machine.Tried → machine.Tried
tried_again at n t = cond (t.id == n) t (record { apex = t.apex; name = t.name; count = count_up t.count; place = at; id = n })

-- a query counted as a try for a word, unless the question would need too many words
abbrev pub counted : Name → Name → ℕ → ℕ → machine.Question → machine.Question
counted a p at n u = cond (too_many (tried_of a p u.tries) u.tries) u (with_tries (try_more a p at n u.tries) u)
