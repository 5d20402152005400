-- No state of the machine is a dead end.
use Rattle.std.proofs.Common.{◌≡◌, ℕ, zero, suc, ◌+◌, ◌*◌, ◌<◌, ◌≤◌, not, leb, ◌⊎◌, List, [], ◌∷◌, ◌++◌, length, Some, None, Option, sym, refl, ap, ◌∙◌, subst, inl, inr, ⊎_elim, append-nil, arith}
use mathlib.Core.List.Memᴰ
use mathlib.Core.List.{Memᴰ}
use Rattle.std.proofs.lemmas.Bool.{cond-false, lt-leb, leb-true}
use Rattle.meaning.specs.Model.{Delegation}
use Rattle.meaning.specs.Speech.{Referred}
use Rattle.protocol.specs.Lists.{first, kept}
use Rattle.protocol.specs.Words.{Name, Server, Word, Outcome, Next, Ends, Goes, next}
use Rattle.protocol.specs.World.{Rules, Version, Entry, World, Event, world}
use Rattle.protocol.specs.Walks.{End, Shows, LacksAt, TooLong, Walk, walk, by_owners, word_said, meant, remembered, entry_said, shown}
use Rattle.protocol.specs.Promise.{Lacks, Rested, AnyServer, HasCopy, Served}
use Rattle.protocol.proofs.Lists.{kept_in}
use Rattle.protocol.proofs.Live.{by_say}
use Rattle.protocol.proofs.Main.{promise}
use Rattle.protocol.proofs.Settled.{says_now, out_everywhere}
use Rattle.protocol.proofs.Steps.{inv}
use Rattle.protocol.proofs.Walks.{walk_lacks, walk_ends, walk_goes, walk_none}
use Rattle.machine.specs.Machine.{max_walks, Tried, Question, Pending, State, Answer, Answered, Endless, Nowhere, Shown, shown_as, walk_of, servers_after, servers_on, exhausted, pending_for, Standing, Done, Awaits, Wants, lacking, standing_by, standing, with_walks, question, Began, begin_by, begin, is_open, tick}
use Rattle.machine.specs.Live.{Sound, answer_of, ClearNext, ClearFrom, Clear, Answers, six_ticks, six_later, MachineLive}
use Rattle.machine.specs.Refine.{Joint, begins, ticks}
use Rattle.machine.proofs.Alike.{in_map, remembered_alike, walk_is}
use Rattle.machine.proofs.Going.{Steps, steps_any, steps_copied, At, Tries, named_next, going}
use Rattle.machine.proofs.Main.{runs}
use Rattle.machine.proofs.Paths.{Source, Path, here, path_end, path_words, path_more, never_full}
use Rattle.machine.proofs.Refining.{count_length}
use Rattle.machine.proofs.Standings.{DoneSo, by_answer, by_length, by_want, done_so}

done_wants : (x : Answer) (n : ℕ) (a p : Name) (ss : List Server) (o : Option Tried) → Wants a p ss o ≡ Done x n → ⊥
done_wants x n a p ss o e = let w : ◌≡◌ {A = ℕ} 0 1 = cc in omega arith

answer_is : (x y : Answer) (m n : ℕ) → Done x m ≡ Done y n → x ≡ y
answer_is x y m n e = cc

long_not_shown : (o : Outcome) → TooLong ≡ Shows o → ⊥
long_not_shown o e = let w : ◌≡◌ {A = ℕ} 0 1 = cc in omega arith

some_first : (ss : List Server) (s : Server) → Memᴰ s ss → 0 < length ss
some_first [] s m = absurd (Memᴰ.not-nil m)
some_first (t ∷ ss) s m = omega arith

module _ (Can : World → Server → Name → Type 0) (cost : ℕ) (r : Rules) (steps : Steps Can cost r) (st : State) (es : List Event) (j : Joint r st es) (t : ℕ) (q : Name) (k : ℕ) (few : length st.walks < max_walks) (room : length st.pending < 96) (rest : Rested r (world r es)) (sound : Sound (world r es)) (some : Lacks (meant (world r es) q k).end → ⊥) (served : Served Can r (world r es) q k) (clear : Clear st (world r es) q k) where
  abbrev u : Question
  u = question t q k

  abbrev vs : List Version
  vs = (world r es).published

  abbrev source : Source
  source = remembered r st.now st.cache k

  abbrev onward : State
  onward = with_walks (st.walks ++ (u ∷ [])) st

  -- the question under way
  at_start : Joint r onward es → At Can cost r steps q k vs sound onward es st.walks u [] 24 [] q
  unfolding servers_after
  at_start jo =
      record {
        joint = jo;
        walks_are = refl;
        name_is = refl;
        kind_is = refl;
        published_is = refl;
        rest = rest;
        path = here;
        room = room;
        clear = clear;
        root = served.root;
        served = served.referred;
        named = served.root;
        had_some = some;
      }

  no_tries : Tries Can cost r steps q k vs sound u []
  no_tries = record { among = λ x m. absurd (Memᴰ.not-nil m); few = omega arith }

  under_way : Joint r onward es → Answers cost r es u
  under_way jo =
      let g = going Can cost r steps q k vs sound 24 onward es st.walks u [] [] q (at_start jo) no_tries in
      record {
        moves = g.moves;
        after = g.after;
        joint = g.joint;
        only_steps = g.only_steps;
        bound = g.bound;
        offers = g.offers;
        asked = g.asked;
        under_way = g.under_way;
        ticket_is = g.ticket_is;
        name_is = g.name_is;
        kind_is = g.kind_is;
        left = g.left;
        done = g.done;
      }

  begun : begin r u st ≡ begin_by u st (standing r st u)
  unfolding begin
  begun = cond-false (leb max_walks (length st.walks)) (record { state = st; shown = Some (shown_as u Nowhere 0) }) (begin_by u st (standing r st u)) (lt-leb max_walks (length st.walks) few)

  -- where the walk lacks a word a query is wanted, so nowhere is never shown at once
  lacks_wants : (ws : List Entry) (a p : Name) → (walk_of r st u).end ≡ LacksAt a p → (walk_of r st u).words ≡ ws → (s : Server) → Memᴰ s (servers_on r ws) → pending_for a p k st.pending ≡ None → standing r st u ≡ Wants a p (servers_on r (walk_of r st u).words) None
  unfolding standing first
  lacks_wants ws a p e words s m none =
      let l = some_first (servers_on r ws) s m in
      let i = ap (λ xs. length (servers_on r xs)) words in
      ap (standing_by r st u (walk_of r st u).words) e
      ∙ ap (lacking a p (servers_on r (walk_of r st u).words) None) none
      ∙ cond-false (exhausted (servers_on r (walk_of r st u).words) None) (Done Nowhere 0) (Wants a p (servers_on r (walk_of r st u).words) None) (lt-leb (2 * length (servers_on r (walk_of r st u).words)) 0 (omega arith))

  abbrev rest_of : ℕ → Name → Name → Walk Word
  rest_of n a p = walk word_said n (by_say vs k) a p

  -- along the path of what the cache has
  Never : ℕ → Type 0
  Never m = (ws : List Entry) (a p : Name) → Path source 24 [] q ws m a p → ClearFrom st.pending k (by_say vs k) m a p → ((v : Word) → Memᴰ v (rest_of m a p).words → (c : Name) (d : Delegation) → v.said ≡ Referred c d → (s : Server) × Memᴰ s d.servers × Can (world r es) s c) → (s : Server) × Memᴰ s (servers_on r ws) × Can (world r es) s a → (n : ℕ) → standing r st u ≡ Done Nowhere n → ⊥

  -- what the cache has is what the owner says
  owners_agree : (a p : Name) (e : Entry) → source a p ≡ Some e → by_say vs k a p ≡ Some e.word
  owners_agree a p e found =
      let run = runs r st es j in
      let i = inv r es run.0 in
      let s = run.1 in
      let in_world : remembered r (world r es).now (world r es).cache k a p ≡ Some e =
      ap (λ n. remembered r n (world r es).cache k a p) (sym s.now_is) ∙ sym (remembered_alike r st.now st.cache (world r es).cache s.keys s.cache_is k a p) ∙ found in
      says_now r (world r es) i k a p e in_world (out_everywhere r (world r es) i rest a)

  shows_not_nowhere : (o : Outcome) (n : ℕ) → (walk_of r st u).end ≡ Shows o → standing r st u ≡ Done Nowhere n → ⊥
  unfolding standing
  shows_not_nowhere o n e h = differ (answer_is (Answered o) Nowhere _ n (sym (ap (standing_by r st u (walk_of r st u).words) e) ∙ h))
    where
      differ : Answered o ≡ Nowhere → ⊥
      differ g = let w : ◌≡◌ {A = ℕ} 0 1 = cc in omega arith

  long_not_nowhere : (n : ℕ) → (walk_of r st u).end ≡ TooLong → standing r st u ≡ Done Nowhere n → ⊥
  unfolding standing
  long_not_nowhere n e h = differ (answer_is Endless Nowhere _ n (sym (ap (standing_by r st u (walk_of r st u).words) e) ∙ h))
    where
      differ : Endless ≡ Nowhere → ⊥
      differ g = let w : ◌≡◌ {A = ℕ} 0 1 = cc in omega arith

  never_on : (m : ℕ) → Never m → Never (suc m)
  unfolding Never
  never_on m ih ws a p path way serves named n h = go (source a p) refl
    where
      by : (e : Entry) → source a p ≡ Some e → (x : Next) → next (entry_said e) p ≡ x → ⊥
      by e found (Ends o) d = shows_not_nowhere o n (path_end source path ∙ ap (λ (y : Walk Entry). y.end) (walk_ends entry_said m source a p e o found d)) h
      by e found (Goes c b) d =
          let said_so = owners_agree a p e found in
          let i = walk_goes word_said m (by_say vs k) a p e.word c b said_so d in
          let on_way : (v : Word) → Memᴰ v (e.word ∷ (rest_of m c b).words) → Memᴰ v (rest_of (suc m) a p).words = λ v x. subst (λ (y : Walk Word). Memᴰ v y.words) (sym i) x in
          let clear_on : ClearNext (λ c' p'. ClearFrom st.pending k (by_say vs k) m c' p') p (Some e.word) = subst (ClearNext (λ c' p'. ClearFrom st.pending k (by_say vs k) m c' p') p) said_so way.1 in
          ih (ws ++ (e ∷ [])) c b (path_more source path e c b found d) (clear_on c b d) (λ v x. serves v (on_way v (Memᴰ.tail x)))
          (named_next Can cost r steps q k vs sound st es ws a p c b e (entry_said e) refl d served.root (serves e.word (on_way e.word (Memᴰ.head refl)))) n h

      go : (o : Option Entry) → source a p ≡ o → ⊥
      go (Some e) found = by e found (next (entry_said e) p) refl
      go None none =
          let words_are : (walk_of r st u).words ≡ ws = path_words source path ∙ ap (λ (y : Walk Entry). ws ++ y.words) (walk_lacks entry_said m source a p none) ∙ append-nil ws in
          let lacks = path_end source path ∙ ap (λ (y : Walk Entry). y.end) (walk_lacks entry_said m source a p none) in
          done_wants Nowhere n a p (servers_on r (walk_of r st u).words) None (sym (lacks_wants ws a p lacks words_are named.0 named.1 way.0) ∙ h)

  never : (m : ℕ) → Never m
  unfolding Never
  never zero ws a p path way serves named n h = long_not_nowhere n (path_end source path ∙ ap (λ (y : Walk Entry). y.end) (walk_none entry_said source a p)) h
  never (suc m) ws a p path way serves named n h = never_on m (never m) ws a p path way serves named n h

  never_nowhere : (n : ℕ) → standing r st u ≡ Done Nowhere n → ⊥
  unfolding Never servers_after
  never_nowhere n h = never 24 [] [] q here clear served.referred served.root n h

  -- what is shown at once is what is meant
  at_once : (x : Answer) (n : ℕ) → standing r st u ≡ Done x n → x ≡ answer_of (meant (world r es) q k).end
  at_once x n e = go x n (done_so r st u x n e) e
    where
      means : (y : End) → (walk_of r st u).end ≡ y → ((a p : Name) → y ≡ LacksAt a p → ⊥) → (meant (world r es) q k).end ≡ y
      means y h never =
          let i = sym (ap (λ (v : Walk Entry). v.end) (walk_is r st (world r es) (runs r st es j).1 u)) ∙ h in
          ⊎_elim (λ (l : Lacks (shown r (world r es) q k).end). absurd (never l.0 l.1 (sym i ∙ l.2))) (λ m. sym m ∙ i) ((promise r es (runs r st es j).0).settled rest q k)

      shows_not : (o : Outcome) (a p : Name) → Shows o ≡ LacksAt a p → ⊥
      shows_not o a p h = let w : ◌≡◌ {A = ℕ} 0 1 = cc in omega arith

      long_not : (a p : Name) → TooLong ≡ LacksAt a p → ⊥
      long_not a p h = let w : ◌≡◌ {A = ℕ} 0 1 = cc in omega arith

      go : (x : Answer) (n : ℕ) → DoneSo r st u x n → standing r st u ≡ Done x n → x ≡ answer_of (meant (world r es) q k).end
      go x n (by_answer o h) e = sym (ap answer_of (means (Shows o) h (shows_not o)))
      go x n (by_length h) e = sym (ap answer_of (means TooLong h long_not))
      go x n (by_want a p h) e = absurd (never_nowhere n e)

  answers : ((x : Shown) × ((begin r u st).shown ≡ Some x) × (x.answer ≡ answer_of (meant (world r es) q k).end)) ⊎ Answers cost r es u
  answers = go (standing r st u) refl
    where
      go : (x : Standing) → standing r st u ≡ x → ((x : Shown) × ((begin r u st).shown ≡ Some x) × (x.answer ≡ answer_of (meant (world r es) q k).end)) ⊎ Answers cost r es u
      go (Done x n) e = inl (shown_as u x n, ap (λ (b : Began). b.shown) begun ∙ ap (λ y. (begin_by u st y).shown) e, at_once x n e)
      go (Awaits a p) e = inr (under_way (subst (λ z. Joint r z es) (ap (λ (b : Began). b.state) begun ∙ ap (λ y. (begin_by u st y).state) e) (begins j u)))
      go (Wants a p ss o) e = inr (under_way (subst (λ z. Joint r z es) (ap (λ (b : Began). b.state) begun ∙ ap (λ y. (begin_by u st y).state) e) (begins j u)))

-- ---- six seconds

nothing_in : {A : Type 0} (xs : List A) → ((x : A) → Memᴰ x xs → ⊥) → xs ≡ []
nothing_in [] h = refl
nothing_in (x ∷ xs) h = absurd (h x (Memᴰ.head refl))

ticks_walks : (r : Rules) (st : State) → length (tick r st).walks ≡ length st.walks
unfolding tick
ticks_walks r st = count_length r st (kept (λ x. not (is_open r (st.now + 1) x)) st.pending) st.walks

ticks_pending : (r : Rules) (st : State) (x : Pending) → Memᴰ x (tick r st).pending → Memᴰ x st.pending × (st.now + 1 ≤ x.query.asked + r.patience)
unfolding tick
ticks_pending r st x m =
    let k = kept_in (is_open r (st.now + 1)) st.pending x m in
    (k.0, leb-true (st.now + 1) (x.query.asked + r.patience) k.1)

ticks_now : (r : Rules) (st : State) → (tick r st).now ≡ st.now + 1
unfolding tick
ticks_now r st = refl

soon : (r : Rules) (st : State) (es : List Event) → r.patience ≡ 5 → Joint r st es → Joint r (six_ticks r st) (six_later es) × ((six_ticks r st).pending ≡ []) × (length (six_ticks r st).walks ≡ length st.walks)
soon r st es five j = (ticks (ticks (ticks (ticks (ticks (ticks j))))), nothing_in (six_ticks r st).pending none, walks_same)
  where
    walks_same : length (six_ticks r st).walks ≡ length st.walks
    walks_same = ticks_walks r (tick r (tick r (tick r (tick r (tick r st))))) ∙ ticks_walks r (tick r (tick r (tick r (tick r st)))) ∙ ticks_walks r (tick r (tick r (tick r st))) ∙ ticks_walks r (tick r (tick r st)) ∙ ticks_walks r (tick r st) ∙ ticks_walks r st

    none : (x : Pending) → Memᴰ x (six_ticks r st).pending → ⊥
    none x m =
        let k6 = ticks_pending r (tick r (tick r (tick r (tick r (tick r st))))) x m in
        let k5 = ticks_pending r (tick r (tick r (tick r (tick r st)))) x k6.0 in
        let k4 = ticks_pending r (tick r (tick r (tick r st))) x k5.0 in
        let k3 = ticks_pending r (tick r (tick r st)) x k4.0 in
        let k2 = ticks_pending r (tick r st) x k3.0 in
        let k1 = ticks_pending r st x k2.0 in
        let n5 = ticks_now r (tick r (tick r (tick r (tick r st)))) in
        let n4 = ticks_now r (tick r (tick r (tick r st))) in
        let n3 = ticks_now r (tick r (tick r st)) in
        let n2 = ticks_now r (tick r st) in
        let n1 = ticks_now r st in
        let late = k6.1 in
        let run = runs r st es j in
        let i = inv r es run.0 in
        let asked = i.sent_past x.query (i.pending_sent x.query ((run.1.pending_is x.query).0 (in_map (λ (y : Pending). y.query) st.pending x k1.0))) in
        let now = run.1.now_is in
        omega arith

clear_by : (ps : List Pending) → ps ≡ [] → (k : ℕ) (f : Name → Name → Option Word) (n : ℕ) (a q : Name) → ClearFrom ps k f n a q
unfolding first
clear_by ps e k f zero a q = tt
clear_by ps e k f (suc n) a q = (ap (pending_for a q k) e, on (λ c p. clear_by ps e k f n c p) (f a q))
  where
    on : ((c p : Name) → ClearFrom ps k f n c p) → (o : Option Word) → ClearNext (λ c p. ClearFrom ps k f n c p) q o
    on ih None = tt
    on ih (Some v) = λ c p h. ih c p

pub machine_live : MachineLive
machine_live = record {
  live = λ r st es j t q k few room rest sound some served clear. answers AnyServer 4 r (steps_any r) st es j t q k few room rest sound some served clear;
  live_copied = λ r st es j t q k few room rest sound some served clear. answers HasCopy 3 r (steps_copied r) st es j t q k few room rest sound some served clear;
  soon = soon;
  clear_empty = λ st e w q k. clear_by st.pending e k (by_owners w k) 24 [] q;
  room = λ r st es j. never_full r st (runs r st es j).1.keys (runs r st es j).1.few;
}
