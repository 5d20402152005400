use Rattle.std.proofs.Common.{Some, None, Ok, sym, refl, is_ok}
use Rattle.names.specs.Names.{labels}
use Rattle.cache.specs.Caches.{entries_of}
use Rattle.questions.specs.Queries.{pending_of}
use Rattle.questions.specs.Tables.{table_of}
use Rattle.machine.specs.Machine.{send}
use Rattle.walks.specs.Ways.{servers_at}
use Rattle.resolver.specs.Resolvers.{roots_of, rules_for, state_of, one_tried}
use Rattle.resolver.proofs.Drawing.{pending_if, draw_refused, draw_full, draw_none, draw_sends, has_servers, added}
use Rattle.resolver.proofs.Running.{drawn_goes}
use Rattle.resolver.proofs.resolver.Resolver.draw.Goals as goal

pub returns-then-is_some-clause-done : goal.returns-then-is_some-clause-done
returns-then-is_some-clause-done c =
    let self = c.args.self.now in
    let found = pending_if pending_of c.args.id.0 (table_of self.pending) c.by_id.result _ c.by_id.ensures c.if-is_some.ensures in
    (draw_refused (rules_for self) c.args.id.0 (state_of self) found, refl)

pub returns-then-is_full-clause-done : goal.returns-then-is_full-clause-done
returns-then-is_full-clause-done c =
    let self = c.args.self.now in
    let found = pending_if pending_of c.args.id.0 (table_of self.pending) c.by_id.result _ c.by_id.ensures c.if-is_some.ensures in
    (record { state = state_of self; query = None }, draw_full (rules_for self) c.args.id.0 (state_of self) found (sym c.if-is_full.ensures), refl, refl)

pub returns-in_default-clause-done : goal.returns-in_default-clause-done
returns-in_default-clause-done c =
    let self = c.args.self.now in
    let found = pending_if pending_of c.args.id.0 (table_of self.pending) c.by_id.result _ c.by_id.ensures c.if-is_some.ensures in
    (record { state = state_of self; query = None }, draw_none (rules_for self) c.args.id.0 (state_of self) found (sym c.if-is_full.ensures) c.in_default.ensures, refl, refl)

pub query_for-pending-requires : goal.query_for-pending-requires
query_for-pending-requires c =
    let self = c.args.self.now in
    let w = c.in-Some.wanted in
    has_servers (rules_for self) c.args.id.0 (state_of self) w.key.kind.number (labels w.key.apex) (labels w.key.name) (servers_at (roots_of self) (entries_of self.cache) w.referral) (one_tried w.tried) c.in-Some.ensures

pub returns-clause-done : goal.returns-clause-done
returns-clause-done c =
    let self = c.args.self.now in
    let w = c.in-Some.wanted in
    let x = pending_of c.query_for-pending.result in
    let found = pending_if pending_of c.args.id.0 (table_of self.pending) c.by_id.result _ c.by_id.ensures c.if-is_some.ensures in (
      send (rules_for self) (state_of self) x,
      draw_sends (rules_for self) c.args.id.0 (state_of self) w.key.kind.number (labels w.key.apex) (labels w.key.name) (servers_at (roots_of self) (entries_of self.cache) w.referral) (one_tried w.tried) c.in-Some.ensures x found (sym c.if-is_full.ensures) c.query_for-pending.ensures,
      added (rules_for self) (state_of self) x (state_of c.count_tries.new.self) (table_of c.add.new.self) (is_ok c.add.result) c.count_tries.ensures.state c.add.ensures.told c.add.ensures.table (sym c.if-is_full.ensures),
      refl,
    )

pub returns-clause-runs : goal.returns-clause-runs
returns-clause-runs c = drawn_goes c.args.self.now (record { moment = c.count_tries.new.self.moment; roots = c.count_tries.new.self.roots; pending = c.add.new.self; cache = c.count_tries.new.self.cache; walks = c.count_tries.new.self.walks; few = c.count_tries.new.self.few; seats = c.count_tries.new.self.seats }) c.args.id.0 (Ok (Some c.query_for-pending.result.query)) c.count_tries.ensures.roots (returns-clause-done c)
