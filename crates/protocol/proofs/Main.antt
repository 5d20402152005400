-- The promise of the whole, from its parts.
use Rattle.std.proofs.Common.{List}
use Rattle.protocol.specs.World.{Rules, rules_of, Event, world, Brought}
use Rattle.protocol.specs.Promise.{Promise, Main}
use Rattle.protocol.proofs.Steps.{inv}
use Rattle.protocol.proofs.Settled.{fresh, words_fresh, settled_way, settled}
use Rattle.protocol.proofs.Live.{live, live_copied}

-- whatever the day and patience
pub promise : (r : Rules) (es : List Event) → Brought r es → Promise r es
promise r es b =
    let i = inv r es b in
    record {
      copies_true = i.copy;
      offers_true = i.offer;
      from_queries = λ e m. (i.entry e m).from;
      fresh = fresh r (world r es) i;
      words_fresh = words_fresh r (world r es) i;
      settled_way = settled_way r (world r es) i;
      settled = settled r (world r es) i;
      live = live r es b;
      live_copied = live_copied r es b;
    }

pub main : Main
main roots es b = promise (rules_of roots) es b
