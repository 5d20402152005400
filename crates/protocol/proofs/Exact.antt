-- A run in which the bound on the age of words is reached.
use Rattle.std.proofs.Common.{◌≡◌, ℕ, zero, suc, ◌+◌, ◌<◌, ◌≤◌, Bool, true, false, cond, ◌&&◌, ltb, leb, List, [], ◌∷◌, ◌++◌, Some, None, codes, sym, refl, ap, ◌∙◌, subst, ⊎_elim, true≢false, arith}
use mathlib.Core.List.Memᴰ
use mathlib.Core.List.{Memᴰ}
use Rattle.std.proofs.lemmas.Bool.{cond-true, cond-false, le-leb, lt-leb, le-ltb, and_from, and_left}
use Rattle.names.specs.Order.{within}
use Rattle.meaning.specs.Model.{Content, Texts, Zone}
use Rattle.meaning.specs.Says.{same, find, highest, any_under, speaker, says}
use Rattle.meaning.specs.Speech.{Found}
use Rattle.meaning.proofs.Rules.{so_same}
use Rattle.protocol.specs.Lists.{first, kept, any}
use Rattle.protocol.specs.Words.{Name, Server, Word, tells, Told, next}
use Rattle.protocol.specs.World.{Rules, rules_of, Version, Offer, Copy, Query, Response, Entry, World, Event, Tick, Publishes, OffersOwn, Takes, Asks, Responds, Hears, with_time, with_query, with_responses, with_cache, current, unexpired, copy_says, respond, counts, is_key, entry_for, query_for, ask, step, world, Brought}
use Rattle.protocol.specs.History.{in_force, longest, oldest, SaidSince}
use Rattle.protocol.specs.Walks.{Shows, LacksAt, Walk, by_owners, word_said, meant, remembered, entry_said, shown}
use Rattle.protocol.specs.Promise.{Exact, BoundExact}
use Rattle.protocol.proofs.Lists.{some_is, kept_all, first_here, first_there}
use Rattle.protocol.proofs.Force.{Forced, newest, earlier, of_others, forced, unforced, none_forced}
use Rattle.protocol.proofs.Walks.{walk_ends, walk_lacks}

-- ---- seconds in which no query expires

ticks : ℕ → List Event
ticks zero = []
ticks (suc n) = Tick ∷ ticks n

time_is : (w : World) (n : ℕ) → n ≡ w.now → with_time n w.pending w ≡ w
time_is w n e = ap (λ m. with_time m w.pending w) e

pass : (r : Rules) (n : ℕ) (es : List Event) → ((q : Query) → Memᴰ q (world r es).pending → (world r es).now + n ≤ q.asked + r.patience) → world r (ticks n ++ es) ≡ with_time ((world r es).now + n) (world r es).pending (world r es)
unfolding ticks world
pass r zero es h = sym (time_is (world r es) ((world r es).now + 0) (omega arith))
pass r (suc n) es h =
    let w = world r es in
    let ih = pass r n es (λ q m. let l = h q m in omega arith) in
    ap (step r Tick) ih
    ∙ (λ i. with_time ((world r es).now + n + 1) (kept_all (λ (q : Query). leb ((world r es).now + n + 1) (q.asked + r.patience)) (world r es).pending (λ q m. le-leb ((world r es).now + n + 1) (q.asked + r.patience) (let l = h q m in omega arith)) i) (world r es))
    ∙ ap (λ m. with_time m (world r es).pending (world r es)) (let e : (world r es).now + n + 1 ≡ (world r es).now + suc n = omega arith in e)

pass_brought : (r : Rules) (n : ℕ) (es : List Event) → Brought r es → Brought r (ticks n ++ es)
unfolding ticks
pass_brought r zero es b = b
pass_brought r (suc n) es b = (tt, pass_brought r n es b)

-- ---- the zones: a text at x, then another

abbrev x_name : Name
x_name = codes "x" ∷ []

abbrev one : Server
one = 0 ∷ 0 ∷ 0 ∷ 0 ∷ 0 ∷ 0 ∷ 0 ∷ 1 ∷ []

abbrev text : ℕ → Content
text n = Texts ((n ∷ []) ∷ [])

abbrev zone : ℕ → ℕ → Zone
zone most n = record { apex = []; serial = n; negative = 60; refresh = 600; expire = most; sets = record { name = x_name; kind = 2; ttl = 86400; content = text n } ∷ [] }

abbrev word : ℕ → Word
word n = record { said = Found (text n); ttl = 86400 }

tells_text : (most n : ℕ) → tells (zone most n) x_name 2 ≡ Some (word n)
unfolding tells within find highest any_under speaker says
tells_text most n = refl

differs : word 1 ≡ word 2 → ⊥
differs e = texts (ap (λ (t : Word). t.said) e)
  where
    texts : Found (text 1) ≡ Found (text 2) → ⊥
    texts h = let w : ◌≡◌ {A = ℕ} 1 2 = cc in omega arith

root_same : same [] [] ≡ true
root_same = so_same [] [] refl

module _ (most : ℕ) where
  abbrev r : Rules
  r = rules_of (one ∷ [])

  abbrev offered : Offer
  offered = record { zone = zone most 1; moment = 0 }

  abbrev copied : Copy
  copied = record { server = one; zone = zone most 1; taken = 0 }

  -- the zone is copied in the moment in which it is superseded
  abbrev base : List Event
  base = Publishes (zone most 2) ∷ Takes one offered 0 ∷ OffersOwn [] ∷ Publishes (zone most 1) ∷ []

  abbrev history : List Version
  history = record { moment = 0; zone = zone most 2 } ∷ record { moment = 0; zone = zone most 1 } ∷ []

  abbrev at_base : World
  at_base = record { now = 0; published = history; offered = offered ∷ []; copies = copied ∷ []; sent = []; pending = []; responses = []; cache = [] }

  base_is : world r base ≡ at_base
  unfolding world current within kept
  base_is = refl

  -- a query in its last good second; the response is heard in the last second of its patience; the word counts for a day
  abbrev asked_at : ℕ
  asked_at = 0 + most

  abbrev query : Query
  query = query_for 1 one [] x_name 2 asked_at

  abbrev response : Response
  response = record { id = 1; apex = []; word = word 1 }

  abbrev entry : Entry
  entry = entry_for (asked_at + 5) query (word 1)

  waited : List Event
  waited = ticks most ++ base

  abbrev at_waited : World
  at_waited = with_time asked_at [] at_base

  waited_is : world r waited ≡ at_waited
  unfolding waited
  waited_is =
      pass r most base (λ q m. absurd (Memᴰ.not-nil (subst (λ (w : World). Memᴰ q w.pending) base_is m)))
      ∙ ap (λ (w : World). with_time (w.now + most) w.pending w) base_is

  abbrev at_asked : World
  at_asked = with_query query at_waited

  asked_is : world r (Asks 1 one [] x_name 2 ∷ waited) ≡ at_asked
  unfolding world any within
  asked_is = ap (λ (w : World). ask r (query_for 1 one [] x_name 2 w.now) w) waited_is

  says_old : copy_says asked_at query (Some copied) ≡ Some (word 1)
  says_old = cond-true (unexpired asked_at copied) (tells (zone most 1) x_name 2) None (le-leb asked_at (0 + most) (omega arith)) ∙ tells_text most 1

  abbrev at_responded : World
  at_responded = with_responses (response ∷ []) at_asked

  responded_is : world r (Responds query ∷ Asks 1 one [] x_name 2 ∷ waited) ≡ at_responded
  unfolding world first within
  responded_is = ap (step r (Responds query)) asked_is ∙ ap (λ o. respond query o at_asked) says_old

  abbrev responded : List Event
  responded = Responds query ∷ Asks 1 one [] x_name 2 ∷ waited

  late : List Event
  late = ticks 5 ++ responded

  abbrev at_late : World
  at_late = with_time (asked_at + 5) (query ∷ []) at_responded

  late_is : world r late ≡ at_late
  unfolding late
  late_is =
      pass r 5 responded
      (λ q m.
      let i = ap (λ (p : Query). p.asked) (only q (subst (λ (w : World). Memᴰ q w.pending) responded_is m)) in
      let n = ap (λ (w : World). w.now) responded_is in
      omega arith)
      ∙ ap (λ (w : World). with_time (w.now + 5) w.pending w) responded_is
    where
      only : (q : Query) → Memᴰ q (query ∷ []) → q ≡ query
      only q m = ⊎_elim (λ e. e) (λ n. absurd (Memᴰ.not-nil n)) (Memᴰ.cases_cons m)

  abbrev at_heard : World
  at_heard = with_cache [] (entry ∷ []) at_late

  heard_is : world r (Hears response ∷ late) ≡ at_heard
  unfolding world first kept within
  heard_is = ap (step r (Hears response)) late_is

  run : List Event
  run = ticks 86400 ++ (Hears response ∷ late)

  abbrev at_last : World
  at_last = with_time (asked_at + 5 + 86400) [] at_heard

  run_is : world r run ≡ at_last
  unfolding run
  run_is =
      pass r 86400 (Hears response ∷ late) (λ q m. absurd (Memᴰ.not-nil (subst (λ (w : World). Memᴰ q w.pending) heard_is m)))
      ∙ ap (λ (w : World). with_time (w.now + 86400) w.pending w) heard_is

  base_brought : Brought r base
  unfolding world current within
  base_brought = (tt, (Memᴰ.head refl, (tt, (tt, tt))))

  run_brought : Brought r run
  unfolding run late waited
  run_brought =
      pass_brought r 86400 (Hears response ∷ late) (
        subst (λ (w : World). Memᴰ response w.responses) (sym late_is) (Memᴰ.head refl),
        pass_brought r 5 responded (
          subst (λ (w : World). Memᴰ query w.sent) (sym asked_is) (Memᴰ.head refl),
          (tt, pass_brought r most base base_brought),
        ),
      )

  longest_is : longest history ≡ most
  unfolding longest
  longest_is = pick (ltb most 0) refl
    where
      zero_most : cond (ltb most 0) 0 most ≡ most
      zero_most = cond-false (ltb most 0) 0 most (not_below most)
        where
          not_below : (n : ℕ) → ltb n 0 ≡ false
          not_below n = le-ltb n 0 (omega arith)

      pick : (b : Bool) → ltb most 0 ≡ b → cond (ltb most (cond (ltb most 0) 0 most)) (cond (ltb most 0) 0 most) most ≡ most
      pick b e = ap (λ n. cond (ltb most n) n most) zero_most ∙ cond-false (ltb most most) most most (le-ltb most most (omega arith))

  -- the old word, up to the moment 0
  said_old : SaidSince at_last 0 [] x_name 2 (word 1)
  said_old = record { zone = zone most 1; is_in_force = there; tells_so = tells_text most 1 }
    where
      there : Memᴰ (zone most 1) (in_force (asked_at + 5 + 86400) 0 [] history)
      there =
          unforced [] (record { moment = 0; zone = zone most 2 }) (record { moment = 0; zone = zone most 1 } ∷ []) (asked_at + 5 + 86400) 0 (zone most 1)
          (earlier root_same (unforced [] (record { moment = 0; zone = zone most 1 }) [] 0 0 (zone most 1) (newest root_same (omega arith) refl)))

  not_since : (m : ℕ) → 0 < m → SaidSince at_last m [] x_name 2 (word 1) → ⊥
  not_since m l s = by (forced [] (record { moment = 0; zone = zone most 2 }) (record { moment = 0; zone = zone most 1 } ∷ []) (asked_at + 5 + 86400) m s.zone s.is_in_force)
    where
      by : Forced [] (record { moment = 0; zone = zone most 2 }) (record { moment = 0; zone = zone most 1 } ∷ []) (asked_at + 5 + 86400) m s.zone → ⊥
      by (newest e k z-is) = differs (some_is (word 1) (word 2) (sym s.tells_so ∙ ap (λ z. tells z x_name 2) z-is ∙ tells_text most 2))
      by (earlier e h) = earlier_not (forced [] (record { moment = 0; zone = zone most 1 }) [] 0 m s.zone h)
        where
          earlier_not : Forced [] (record { moment = 0; zone = zone most 1 }) [] 0 m s.zone → ⊥
          earlier_not (newest e k z-is) = omega arith
          earlier_not (earlier e h) = none_forced [] 0 m s.zone h
          earlier_not (of_others e h) = none_forced [] 0 m s.zone h
      by (of_others e h) = true≢false (sym root_same ∙ e)

  counts_still : counts r (asked_at + 5 + 86400) entry ≡ true
  counts_still = le-leb (asked_at + 5 + 86400) (asked_at + 5 + 86400) (omega arith)

  found : remembered r (asked_at + 5 + 86400) (entry ∷ []) 2 [] x_name ≡ Some entry
  unfolding within
  found = first_here (λ e. counts r (asked_at + 5 + 86400) e && is_key [] x_name 2 e) entry [] (and_from (counts r (asked_at + 5 + 86400) entry) (is_key [] x_name 2 entry) counts_still refl)

  not_found : remembered r (asked_at + 5 + 86400 + 1) (entry ∷ []) 2 [] x_name ≡ None
  unfolding first
  not_found =
      first_there (λ e. counts r (asked_at + 5 + 86400 + 1) e && is_key [] x_name 2 e) entry []
      (and_left (counts r (asked_at + 5 + 86400 + 1) entry) (is_key [] x_name 2 entry) (lt-leb (asked_at + 5 + 86400 + 1) (asked_at + 5 + 86400) (omega arith)))

  shows_old : (shown r at_last x_name 2).end ≡ Shows (Told (text 1))
  unfolding next
  shows_old = ap (λ (y : Walk Entry). y.end) (walk_ends entry_said 23 (remembered r (asked_at + 5 + 86400) (entry ∷ []) 2) [] x_name entry (Told (text 1)) found refl)

  owned : by_owners at_last 2 [] x_name ≡ tells (zone most 2) x_name 2
  unfolding current within
  owned = refl

  means_new : (meant at_last x_name 2).end ≡ Shows (Told (text 2))
  unfolding next
  means_new = ap (λ (y : Walk Word). y.end) (walk_ends word_said 23 (by_owners at_last 2) [] x_name (word 2) (Told (text 2)) (owned ∙ tells_text most 2) refl)

  lacks_then : (shown r (with_time (asked_at + 5 + 86400 + 1) [] at_heard) x_name 2).end ≡ LacksAt [] x_name
  lacks_then = ap (λ (y : Walk Entry). y.end) (walk_lacks entry_said 23 (remembered r (asked_at + 5 + 86400 + 1) (entry ∷ []) 2) [] x_name not_found)

  later_is : world r (Tick ∷ run) ≡ with_time (asked_at + 5 + 86400 + 1) [] at_heard
  unfolding world kept
  later_is = ap (step r Tick) run_is

  exact : Exact most
  exact =
      record {
        roots = one ∷ [];
        run = run;
        brought = run_brought;
        longest_is = ap (λ (w : World). longest w.published) run_is ∙ longest_is;
        name = x_name;
        kind = 2;
        old = word 1;
        new = word 2;
        moment = 0;
        said_then = subst (λ w. SaidSince w 0 [] x_name 2 (word 1)) (sym run_is) said_old;
        not_since = λ m l s. not_since m l (subst (λ w. SaidSince w m [] x_name 2 (word 1)) run_is s);
        now_is =
            ap (λ (w : World). w.now) run_is ∙ (let l = longest_is in let e : asked_at + 5 + 86400 ≡ 0 + (86400 + 5 + longest history) = omega arith in e)
            ∙ ap (λ w. 0 + oldest r w) (sym run_is);
        shows_old = (text 1, refl, ap (λ w. (shown r w x_name 2).end) run_is ∙ shows_old);
        means_new = (text 2, refl, ap (λ w. (meant w x_name 2).end) run_is ∙ means_new);
        differ = differs;
        one_second_later = ([], x_name, ap (λ w. (shown r w x_name 2).end) later_is ∙ lacks_then);
      }

pub bound_exact : BoundExact
bound_exact = exact
