use Rattle.std.proofs.Common.{sym, refl, ap, ◌∙◌, arith}
use Rattle.cache.specs.Entries.{entry_of, rules}
use Rattle.cache.specs.Caches.{entries_of}
use Rattle.machine.specs.Store as store
use Rattle.cache.proofs.Soonest.{by_within}
use Rattle.cache.proofs.Storing.{put_replaces, put_appends, put_ousts, put_refuses}
use Rattle.cache.proofs.store.Cache.put.Goals as goal

pub returns-in-Some : goal.returns-in-Some
returns-in-Some c =
    put_replaces rules c.args.used.now (entry_of c.args.entry) (entries_of c.args.self.now) c.in-Some.place c.in-Some.ensures ∙ ap store.Kept (sym c.replace.ensures)

pub returns-then-len-lt-MAX_ENTRIES : goal.returns-then-len-lt-MAX_ENTRIES
returns-then-len-lt-MAX_ENTRIES c =
    let p = sym c.in_default.is ∙ c.find.ensures in
    put_appends rules c.args.used.now (entry_of c.args.entry) (entries_of c.args.self.now) p (omega arith) ∙ ap store.Kept (sym c.append.ensures)

pub oust-requires : goal.oust-requires
oust-requires c = (sym c.in_default.is ∙ c.find.ensures, by_within rules c.args.used.now (entries_of c.args.self.now) c.in-Some-soonest.place (sym c.in-Some-soonest.ensures))

pub returns-in-Some-soonest : goal.returns-in-Some-soonest
returns-in-Some-soonest c =
    let p = sym c.in_default.is ∙ c.find.ensures in
    let i = c.in-Some-soonest.place in
    (i, put_ousts rules c.args.used.now (entry_of c.args.entry) (entries_of c.args.self.now) p (omega arith) i c.in-Some-soonest.ensures ∙ ap (store.Ousted i) (sym c.oust.ensures))

pub returns-in-None : goal.returns-in-None
returns-in-None c =
    let p = sym c.in_default.is ∙ c.find.ensures in
    (put_refuses rules c.args.used.now (entry_of c.args.entry) (entries_of c.args.self.now) p (omega arith) c.in-None.ensures, refl)
