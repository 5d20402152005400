use Rattle.std.proofs.Common.{true, false, Ok, sym, ap, ◌∙◌}
use Rattle.cache.specs.Caches.{entries_of}
use Rattle.cache.specs.Entries.{word_of}
use Rattle.questions.specs.Queries.{pending_of}
use Rattle.questions.specs.Tables.{table_of}
use Rattle.machine.specs.Machine.{State, heard_by}
use Rattle.resolver.specs.Resolvers.{roots_of, rules_for, state_of}
use Rattle.resolver.proofs.Hearing.{first_flags, put_is, has_room, kept_so}
use Rattle.resolver.proofs.resolver.Resolver.remember.Goals as goal

pub mark_used-requires : goal.mark_used-requires
mark_used-requires c = first_flags (entries_of c.args.self.now.cache) c.len.result c.len.ensures.value c.len.ensures.few

pub unreachable-requires : goal.unreachable-requires
unreachable-requires c =
    let self = c.args.self.now in
    has_room (roots_of self) (state_of self) (state_of c.count_tries.new.self) (pending_of c.args.pending.now) (word_of c.args.word) c.count_tries.ensures.state c.mark_used.new.used _ c.mark_used.ensures.used c.entry_for-entry.ensures
    self.cache.apart c.mark_used.ensures.few c.in-NoRoom.ensures.0

pub returns-in-Kept-clause-done : goal.returns-in-Kept-clause-done
returns-in-Kept-clause-done c =
    let self = c.args.self.now in
    let s = state_of c.count_tries.new.self in
    let x = pending_of c.args.pending.now in
    let put = put_is (roots_of self) (state_of self) s x (word_of c.args.word) c.count_tries.ensures.state c.mark_used.new.used _ c.mark_used.ensures.used c.entry_for-entry.ensures in
    ap (heard_by (rules_for self) (state_of self) x) (sym put ∙ c.in-Kept.ensures)
    ∙ ap (λ (y : State). Ok (record { state = y; ousted = false })) (sym (kept_so (roots_of self) (state_of self) s x (word_of c.args.word) c.count_tries.ensures.state (table_of c.close.new.self) (entries_of c.put.new.self) c.close.ensures))

pub returns-in-Ousted-clause-done : goal.returns-in-Ousted-clause-done
returns-in-Ousted-clause-done c =
    let self = c.args.self.now in
    let s = state_of c.count_tries.new.self in
    let x = pending_of c.args.pending.now in
    let put = put_is (roots_of self) (state_of self) s x (word_of c.args.word) c.count_tries.ensures.state c.mark_used.new.used _ c.mark_used.ensures.used c.entry_for-entry.ensures in
    ap (heard_by (rules_for self) (state_of self) x) (sym put ∙ c.in-Ousted.ensures.1)
    ∙ ap (λ (y : State). Ok (record { state = y; ousted = true })) (sym (kept_so (roots_of self) (state_of self) s x (word_of c.args.word) c.count_tries.ensures.state (table_of c.close.new.self) (entries_of c.put.new.self) c.close.ensures))
