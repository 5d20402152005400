-- The machine's youngest question goes its whole way, word by word.
use Rattle.std.proofs.Common.{◌≡◌, ℕ, zero, suc, ◌+◌, ◌*◌, ◌<◌, ◌≤◌, Bool, true, false, not, List, [], ◌∷◌, ◌++◌, length, Some, None, Option, sym, refl, ap, ◌∙◌, subst, ⊎_elim, append_assoc, append-nil, mul-one, mul-add, arith, length-append}
use mathlib.Core.List.Memᴰ
use mathlib.Core.List.{Memᴰ}
use Rattle.std.proofs.lemmas.Bool.{cond-true, cond-false, and_parts, and_from, le-leb}
use Rattle.names.specs.Order.{same_label}
use Rattle.names.proofs.Within.{label_same}
use Rattle.meaning.specs.Model.{Delegation, Zone}
use Rattle.meaning.specs.Says.{same}
use Rattle.meaning.specs.Speech.{Said, Found, AliasTo, Referred, Empty, Absent}
use Rattle.meaning.proofs.Rules.{same_so, so_same}
use Rattle.protocol.specs.Lists.{kept}
use Rattle.protocol.specs.Words.{Name, Server, Word, Outcome, Next, Ends, Goes, next, tells}
use Rattle.protocol.specs.World.{Rules, Version, Offer, Copy, Entry, World, Event, OffersOwn, Takes, current, lower, is_copy_at, copy_at, unexpired, offer, offer_own, take, until, counts, world}
use Rattle.protocol.specs.History.{rested, oldest}
use Rattle.protocol.specs.Walks.{End, Shows, LacksAt, TooLong, Walk, walk, by_zone, word_said, remembered, entry_said, shown_by}
use Rattle.protocol.specs.Promise.{Lacks, Rested, AnyServer, HasCopy, price, offers_in}
use Rattle.protocol.proofs.Lists.{some_is, some_none, first_here, first_some, first_none}
use Rattle.protocol.proofs.Fetch.{lower_same}
use Rattle.protocol.proofs.Force.{current_apex}
use Rattle.protocol.proofs.Live.{by_say, copy_current, price_both, offers_both}
use Rattle.protocol.proofs.Settled.{held, says_now, out_everywhere}
use Rattle.protocol.proofs.Steps.{inv}
use Rattle.protocol.proofs.Walks.{walk_lacks, walk_ends, walk_goes, walk_none, by_owner}
use Rattle.machine.specs.Machine.{Tried, Question, Pending, State, walk_of, servers_by, servers_after, servers_on, is_word, tried_of, is_for, pending_for, Done, standing_by, standing}
use Rattle.machine.specs.Live.{SoundZone, answer_of, all_steps, ClearNext, ClearFrom}
use Rattle.machine.specs.Refine.{Joint, others}
use Rattle.machine.proofs.Alike.{remembered_alike}
use Rattle.machine.proofs.Asking.{Had, ask_and_hear, tried_in, tries_least}
use Rattle.machine.proofs.Main.{runs}
use Rattle.machine.proofs.Paths.{Source, Path, path_end, path_words, path_length, path_more, path_found, path_move, recalled}

-- ---- one word, had by the machine

-- what others did before, and the asking and hearing
pub record Step (Can : World → Server → Name → Type 0) (cost : ℕ) (r : Rules) (st : State) (es : List Event) (u : Question) (a p : Name) (t : Word) : Type 0 where
  pub before : List Event
  pub had : Had r st (before ++ es) u a p t
  pub only_steps : all_steps before ≡ true
  pub bound : price before + 3 ≤ cost
  pub offers : offers_in before ≤ 1
  pub now_is : (world r (before ++ es)).now ≡ (world r es).now
  pub published_is : (world r (before ++ es)).published ≡ (world r es).published
  pub still_can : (s : Server) (c : Name) → Can (world r es) s c → Can (world r (had.moves ++ (before ++ es))) s c

abbrev pub Steps : (World → Server → Name → Type 0) → ℕ → Rules → Type 0
Steps Can cost r =
    (st : State) (es : List Event) → Joint r st es → Rested r (world r es) → (us : List Question) (u : Question) → st.walks ≡ us ++ (u ∷ []) → (a p : Name) (s : Server) (t : Word) (z : Zone) → (walk_of r st u).end ≡ LacksAt a p → Memᴰ s (servers_on r (walk_of r st u).words) → Can (world r es) s a →
    current a (world r es).published ≡ Some z → tells z p u.kind ≡ Some t → SoundZone z → pending_for a p u.kind st.pending ≡ None → length st.pending < 96 → tried_of a p u.tries ≡ None → length u.tries < 24 → Step Can cost r st es u a p t

-- by a copy that is there
pub steps_copied : (r : Rules) → Steps HasCopy 3 r
steps_copied r st es j rest us u walks_are a p s t z lacks named can owned tells-it sound clear room untried few =
    let z-is = copy_current r es (runs r st es j).0 rest s a can.0 z can.1 can.2 owned in
    let h = ask_and_hear r st es j us u walks_are a p s t can.0 lacks named can.1 can.2 (ap (λ y. tells y p u.kind) z-is ∙ tells-it) (subst SoundZone (sym z-is) sound) clear room untried few in
    record {
      before = [];
      had = h;
      only_steps = refl;
      bound = omega arith;
      offers = omega arith;
      now_is = refl;
      published_is = refl;
      still_can = λ v d c. (c.0, ap (copy_at v d) h.world_copies ∙ c.1, ap (λ n. unexpired n c.0) h.world_now ∙ c.2);
    }

-- after a copying from the owner
pub steps_any : (r : Rules) → Steps AnyServer 4 r
unfolding world
steps_any r st es j rest us u walks_are a p s t z lacks named can owned tells-it sound clear room untried few =
    let w = world r es in
    let made : Offer = record { zone = z; moment = (world r es).now } in
    let copied : Copy = record { server = s; zone = z; taken = lower (world r es).now (world r es).now } in
    let offered : world r (OffersOwn a ∷ es) ≡ offer made (world r es) = ap (λ o. offer_own o (world r es)) owned in
    let two = Takes s made (world r es).now ∷ OffersOwn a ∷ [] in
    let taken : world r (two ++ es) ≡ take s made (world r es).now (offer made (world r es)) = ap (take s made (world r es).now) offered in
    let there : copy_at s a (world r (two ++ es)).copies ≡ Some copied =
    ap (λ (v : World). copy_at s a v.copies) taken
    ∙ first_here (is_copy_at s a) copied (kept (λ d. not (is_copy_at s z.apex d)) (world r es).copies) (and_from (same_label s s) (same z.apex a) (label_same s s refl) (so_same z.apex a (current_apex a (world r es).published z owned))) in
    let l = lower_same (world r es).now in
    let good : unexpired (world r (two ++ es)).now copied ≡ true = ap (λ (v : World). unexpired v.now copied) taken ∙ le-leb (world r es).now (lower (world r es).now (world r es).now + z.expire) (omega arith) in
    let j2 : Joint r st (two ++ es) = others (others j (OffersOwn a) refl tt) (Takes s made (world r es).now) refl (subst (λ (v : World). Memᴰ made v.offered) (sym offered) (Memᴰ.head refl)) in
    let h = ask_and_hear r st (two ++ es) j2 us u walks_are a p s t copied lacks named there good tells-it sound clear room untried few in
    record {
      before = two;
      had = h;
      only_steps = refl;
      bound = omega arith;
      offers = omega arith;
      now_is = ap (λ (v : World). v.now) taken;
      published_is = ap (λ (v : World). v.published) taken;
      still_can = λ v d c. tt;
    }

-- ---- along the way

steps_both : (xs ys : List Event) → all_steps xs ≡ true → all_steps ys ≡ true → all_steps (xs ++ ys) ≡ true
steps_both [] ys h k = k
steps_both (x ∷ xs) ys h k = let g = and_parts _ (all_steps xs) h in and_from _ (all_steps (xs ++ ys)) g.0 (steps_both xs ys g.1 k)

servers_snoc : (roots named : List Server) (ws : List Entry) (e : Entry) → servers_after roots named (ws ++ (e ∷ [])) ≡ servers_by roots e.word.said
unfolding servers_after
servers_snoc roots named [] e = refl
servers_snoc roots named (x ∷ ws) e = servers_snoc roots (servers_by roots x.word.said) ws e

-- a question, and where it is to end
pub record Goal (cost : ℕ) (r : Rules) (es : List Event) (u : Question) (words : ℕ) (x : End) : Type 0 where
  pub moves : List Event
  pub after : State
  pub joint : Joint r after (moves ++ es)
  pub only_steps : all_steps moves ≡ true
  pub bound : price moves ≤ cost * words
  pub offers : offers_in moves ≤ words
  pub asked : Question
  pub under_way : Memᴰ asked after.walks
  pub ticket_is : asked.ticket ≡ u.ticket
  pub name_is : asked.name ≡ u.name
  pub kind_is : asked.kind ≡ u.kind
  pub left : ℕ
  pub done : standing r after asked ≡ Done (answer_of x) left

goal_more : (cost : ℕ) (r : Rules) (es : List Event) (u : Question) (words : ℕ) (x : End) → Goal cost r es u words x → Goal cost r es u (suc words) x
goal_more cost r es u words x g =
    let b = g.bound in
    let o = g.offers in
    let m = mul-add cost 1 words in
    let one_more : cost * suc words ≡ cost * (1 + words) = ap (λ n. cost * n) (omega arith) in
    record {
      moves = g.moves;
      after = g.after;
      joint = g.joint;
      only_steps = g.only_steps;
      bound = omega arith;
      offers = omega arith;
      asked = g.asked;
      under_way = g.under_way;
      ticket_is = g.ticket_is;
      name_is = g.name_is;
      kind_is = g.kind_is;
      left = g.left;
      done = g.done;
    }

-- a step, and what follows it
goal_after : (Can : World → Server → Name → Type 0) (cost : ℕ) (r : Rules) (st : State) (es : List Event) (u : Question) (a p : Name) (t : Word) (words : ℕ) (x : End) → (f : Step Can cost r st es u a p t) → Goal cost r (f.had.moves ++ (f.before ++ es)) f.had.asked words x → Goal cost r es u (suc words) x
goal_after Can cost r st es u a p t words x f g =
    let h = f.had in
    let first-moves = h.moves ++ f.before in
    let same_events : (g.moves ++ (h.moves ++ f.before)) ++ es ≡ g.moves ++ (h.moves ++ (f.before ++ es)) = append_assoc g.moves (h.moves ++ f.before) es ∙ ap (λ xs. g.moves ++ xs) (append_assoc h.moves f.before es) in
    let p1 = price_both g.moves (h.moves ++ f.before) in
    let p2 = price_both h.moves f.before in
    let o1 = offers_both g.moves (h.moves ++ f.before) in
    let o2 = offers_both h.moves f.before in
    let b1 = f.bound in
    let b2 = h.bound in
    let b3 = g.bound in
    let q1 = f.offers in
    let q2 = h.offers in
    let q3 = g.offers in
    let m1 = mul-one cost in
    let m2 = mul-add cost 1 words in
    let one_more : cost * suc words ≡ cost * (1 + words) = ap (λ n. cost * n) (omega arith) in
    record {
      moves = g.moves ++ (h.moves ++ f.before);
      after = g.after;
      joint = subst (Joint r g.after) (sym same_events) g.joint;
      only_steps = steps_both g.moves (h.moves ++ f.before) g.only_steps (steps_both h.moves f.before h.only_steps f.only_steps);
      bound = omega arith;
      offers = omega arith;
      asked = g.asked;
      under_way = g.under_way;
      ticket_is = g.ticket_is ∙ h.ticket_is;
      name_is = g.name_is ∙ h.name_is;
      kind_is = g.kind_is ∙ h.kind_is;
      left = g.left;
      done = g.done;
    }

-- the standing of a question whose walk has come to its end
done_at : (r : Rules) (st : State) (u : Question) (o : Outcome) → (walk_of r st u).end ≡ Shows o → (n : ℕ) × (standing r st u ≡ Done (answer_of (Shows o)) n)
unfolding standing
done_at r st u o e = (_, ap (standing_by r st u (walk_of r st u).words) e)

done_long : (r : Rules) (st : State) (u : Question) → (walk_of r st u).end ≡ TooLong → (n : ℕ) × (standing r st u ≡ Done (answer_of TooLong) n)
unfolding standing
done_long r st u e = (_, ap (standing_by r st u (walk_of r st u).words) e)

at_end : (cost : ℕ) (r : Rules) (st : State) (es : List Event) (us : List Question) (u : Question) (words : ℕ) (x : End) → Joint r st es → st.walks ≡ us ++ (u ∷ []) → (n : ℕ) × (standing r st u ≡ Done (answer_of x) n) → Goal cost r es u words x
at_end cost r st es us u words x j walks_are d =
    record {
      moves = [];
      after = st;
      joint = j;
      only_steps = refl;
      bound = omega arith;
      offers = omega arith;
      asked = u;
      under_way = subst (Memᴰ u) (sym walks_are) (Memᴰ.append_right us (Memᴰ.head refl));
      ticket_is = refl;
      name_is = refl;
      kind_is = refl;
      left = d.0;
      done = d.1;
    }

-- clear ways stay clear where fewer are pending
clear_less : (ps qs : List Pending) (k : ℕ) (f : Name → Name → Option Word) → ((x : Pending) → Memᴰ x qs → Memᴰ x ps) → (n : ℕ) (a q : Name) → ClearFrom ps k f n a q → ClearFrom qs k f n a q
clear_less ps qs k f sub zero a q h = tt
clear_less ps qs k f sub (suc n) a q h = (none (pending_for a q k qs) refl, onward (λ c p. clear_less ps qs k f sub n c p) (f a q) h.1)
  where
    none : (o : Option Pending) → pending_for a q k qs ≡ o → pending_for a q k qs ≡ None
    none None e = e
    none (Some x) e = let g = first_some (is_for a q k) qs x e in absurd (first_none (is_for a q k) ps h.0 x (sub x g.0) g.1)

    onward : ((c p : Name) → ClearFrom ps k f n c p → ClearFrom qs k f n c p) → (o : Option Word) → ClearNext (λ c p. ClearFrom ps k f n c p) q o → ClearNext (λ c p. ClearFrom qs k f n c p) q o
    onward ih None g = tt
    onward ih (Some t) g = λ c p e. ih c p (g c p e)

module _ (Can : World → Server → Name → Type 0) (cost : ℕ) (r : Rules) (steps : Steps Can cost r) (q : Name) (k : ℕ) (vs : List Version) (sound : (v : Version) → Memᴰ v vs → SoundZone v.zone) where
  abbrev pub source : State → Source
  source st = remembered r st.now st.cache k

  abbrev pub rest_of : ℕ → Name → Name → Walk Word
  rest_of n a p = walk word_said n (by_say vs k) a p

  -- every word that was tried is among these
  pub record Tries (u : Question) (ws : List Entry) : Type 0 where
    pub among : (t : Tried) → Memᴰ t u.tries → (e : Entry) × Memᴰ e ws × (e.apex ≡ t.apex) × (e.name ≡ t.name)
    pub few : length u.tries ≤ length ws

  -- where a question stands on its way
  pub record At (st : State) (es : List Event) (us : List Question) (u : Question) (ws : List Entry) (m : ℕ) (a p : Name) : Type 0 where
    pub joint : Joint r st es
    pub walks_are : st.walks ≡ us ++ (u ∷ [])
    pub name_is : u.name ≡ q
    pub kind_is : u.kind ≡ k
    pub published_is : (world r es).published ≡ vs
    pub rest : Rested r (world r es)
    pub path : Path (source st) 24 [] q ws m a p
    pub room : length st.pending < 96
    pub clear : ClearFrom st.pending k (by_say vs k) m a p
    pub root : (s : Server) × Memᴰ s r.roots × Can (world r es) s []
    pub served : (t : Word) → Memᴰ t (rest_of m a p).words → (c : Name) (d : Delegation) → t.said ≡ Referred c d → (s : Server) × Memᴰ s d.servers × Can (world r es) s c
    pub named : (s : Server) × Memᴰ s (servers_on r ws) × Can (world r es) s a
    pub had_some : Lacks (rest_of m a p).end → ⊥

  abbrev pub Going : ℕ → Type 0
  Going m = (st : State) (es : List Event) (us : List Question) (u : Question) (ws : List Entry) (a p : Name) → At st es us u ws m a p → Tries u ws → Goal cost r es u (length (rest_of m a p).words) (rest_of m a p).end

  walk_of_lem : (st : State) (es : List Event) (us : List Question) (u : Question) (ws : List Entry) (m : ℕ) (a p : Name) → At st es us u ws m a p → walk_of r st u ≡ walk entry_said 24 (source st) [] q
  walk_of_lem st es us u ws m a p h = λ i. shown_by r st.now st.cache (h.name_is i) (h.kind_is i)

  end_of : (st : State) (es : List Event) (us : List Question) (u : Question) (ws : List Entry) (m : ℕ) (a p : Name) → At st es us u ws m a p → (walk_of r st u).end ≡ (walk entry_said m (source st) a p).end
  end_of st es us u ws m a p h = ap (λ (x : Walk Entry). x.end) (walk_of_lem st es us u ws m a p h) ∙ path_end (source st) h.path

  -- the zone that a word leads to has a named server
  pub named_next : (st : State) (es : List Event) (ws : List Entry) (a p c b : Name) (e : Entry) (s : Said) → entry_said e ≡ s → next s p ≡ Goes c b → ((s : Server) × Memᴰ s r.roots × Can (world r es) s []) → ((c : Name) (d : Delegation) → e.word.said ≡ Referred c d → (s : Server) × Memᴰ s d.servers × Can (world r es) s c) → (s : Server) × Memᴰ s (servers_on r (ws ++ (e ∷ []))) × Can (world r es) s c
  unfolding next
  named_next st es ws a p c b e (Found x) i g root served = let w : ◌≡◌ {A = ℕ} 0 1 = cc in absurd (omega arith)
  named_next st es ws a p c b e Empty i g root served = let w : ◌≡◌ {A = ℕ} 0 1 = cc in absurd (omega arith)
  named_next st es ws a p c b e Absent i g root served = let w : ◌≡◌ {A = ℕ} 0 1 = cc in absurd (omega arith)
  named_next st es ws a p c b e (AliasTo n) i g root served =
      let apex_is : [] ≡ c = goes_apex [] c n b g in
      (root.0, subst (Memᴰ root.0) (sym (servers_snoc r.roots r.roots ws e ∙ ap (servers_by r.roots) i)) root.1, subst (Can (world r es) root.0) apex_is root.2)
    where
      goes_apex : (x y z w : Name) → Goes x z ≡ Goes y w → x ≡ y
      goes_apex x y z w h = cc
  named_next st es ws a p c b e (Referred n d) i g root served =
      let apex_is : n ≡ c = goes_apex n c p b g in
      let s = served n d i in
      (s.0, subst (Memᴰ s.0) (sym (servers_snoc r.roots r.roots ws e ∙ ap (servers_by r.roots) i)) s.1, subst (Can (world r es) s.0) apex_is s.2)
    where
      goes_apex : (x y z w : Name) → Goes x z ≡ Goes y w → x ≡ y
      goes_apex x y z w h = cc

  -- with its next word in the cache, a question goes on
  with_word : (m : ℕ) → Going m → (st : State) (es : List Event) (us : List Question) (u : Question) (ws : List Entry) (a p : Name) → At st es us u ws (suc m) a p → (e : Entry) → Tries u (ws ++ (e ∷ [])) → source st a p ≡ Some e → by_say vs k a p ≡ Some e.word →
      (n : ℕ) × (suc n ≡ length (rest_of (suc m) a p).words) × Goal cost r es u n (rest_of (suc m) a p).end
  with_word m ih st es us u ws a p h e tries found said_so = go (next (entry_said e) p) refl
    where
      go : (x : Next) → next (entry_said e) p ≡ x → (n : ℕ) × (suc n ≡ length (rest_of (suc m) a p).words) × Goal cost r es u n (rest_of (suc m) a p).end
      go (Ends o) d =
          let i = walk_ends word_said m (by_say vs k) a p e.word o said_so d in
          let shows : (walk_of r st u).end ≡ Shows o = end_of st es us u ws (suc m) a p h ∙ ap (λ (y : Walk Entry). y.end) (walk_ends entry_said m (source st) a p e o found d) in (
            0,
            sym (ap (λ (y : Walk Word). length y.words) i),
            subst (Goal cost r es u 0) (sym (ap (λ (y : Walk Word). y.end) i)) (at_end cost r st es us u 0 (Shows o) h.joint h.walks_are (done_at r st u o shows)),
          )
      go (Goes c b) d =
          let i = walk_goes word_said m (by_say vs k) a p e.word c b said_so d in
          let on_way : (t : Word) → Memᴰ t (e.word ∷ (rest_of m c b).words) → Memᴰ t (rest_of (suc m) a p).words = λ t x. subst (λ (y : Walk Word). Memᴰ t y.words) (sym i) x in
          let clear_on : ClearNext (λ c' p'. ClearFrom st.pending k (by_say vs k) m c' p') p (Some e.word) = subst (ClearNext (λ c' p'. ClearFrom st.pending k (by_say vs k) m c' p') p) said_so h.clear.1 in
          let served = h.served in (
            length (rest_of m c b).words,
            sym (ap (λ (y : Walk Word). length y.words) i),
            subst (Goal cost r es u (length (rest_of m c b).words)) (sym (ap (λ (y : Walk Word). y.end) i))
                (ih st es us u (ws ++ (e ∷ [])) c b (record {
                  joint = h.joint;
                  walks_are = h.walks_are;
                  name_is = h.name_is;
                  kind_is = h.kind_is;
                  published_is = h.published_is;
                  rest = h.rest;
                  path = path_more (source st) h.path e c b found d;
                  room = h.room;
                  clear = clear_on c b d;
                  root = h.root;
                  served = λ t x. served t (on_way t (Memᴰ.tail x));
                  named = named_next st es ws a p c b e (entry_said e) refl d h.root (served e.word (on_way e.word (Memᴰ.head refl)));
                  had_some = λ l. h.had_some (l.0, l.1, ap (λ (y : Walk Word). y.end) i ∙ l.2);
                }) tries),
          )

  -- the world's zone of an apex is sound
  sound_now : (a : Name) (ws : List Version) → ((v : Version) → Memᴰ v ws → SoundZone v.zone) → (z : Zone) → current a ws ≡ Some z → SoundZone z
  unfolding current
  sound_now a [] h z e = absurd (some_none z e)
  sound_now a (v ∷ ws) h z e = go (same v.zone.apex a) refl (sound_now a ws (λ x m. h x (Memᴰ.tail m)) z)
    where
      go : (b : Bool) → same v.zone.apex a ≡ b → (current a ws ≡ Some z → SoundZone z) → SoundZone z
      go true f ih = subst SoundZone (some_is v.zone z (sym (cond-true (same v.zone.apex a) (Some v.zone) (current a ws) f) ∙ e)) (h v (Memᴰ.head refl))
      go false f ih = ih (sym (cond-false (same v.zone.apex a) (Some v.zone) (current a ws) f) ∙ e)

  -- a word that was tried is on the way, so one that is lacking was not
  not_tried : (st : State) (es : List Event) (us : List Question) (u : Question) (ws : List Entry) (m : ℕ) (a p : Name) → At st es us u ws m a p → Tries u ws → source st a p ≡ None → tried_of a p u.tries ≡ None
  not_tried st es us u ws m a p h tries none = go (tried_of a p u.tries) refl
    where
      go : (o : Option Tried) → tried_of a p u.tries ≡ o → tried_of a p u.tries ≡ None
      go None e = e
      go (Some t) e =
          let f = first_some (is_word a p) u.tries t e in
          let w = and_parts (same t.apex a) (same t.name p) f.1 in
          let y = tries.among t f.0 in
          let g = path_found (source st) h.path y.0 y.1 in
          let i = held r st.now st.cache k g.0 g.1 y.0 g.2 in
          let s = (runs r st es h.joint).1 in
          absurd (some_none y.0 (sym none ∙ recalled r st.now st.cache k a p y.0 s.keys (record {
            there = i.there;
            counting = i.counting;
            apex_is = y.2 ∙ same_so t.apex a w.0;
            name_is = y.3 ∙ same_so t.name p w.1;
            kind_is = i.kind_is;
          })))

  -- what the cache has is what the owner says
  pub agrees : (st : State) (es : List Event) (us : List Question) (u : Question) (ws : List Entry) (m : ℕ) (a p : Name) → At st es us u ws m a p → (e : Entry) → source st a p ≡ Some e → by_say vs k a p ≡ Some e.word
  agrees st es us u ws m a p h e found =
      let run = runs r st es h.joint in
      let i = inv r es run.0 in
      let s = run.1 in
      let in_world : remembered r (world r es).now (world r es).cache k a p ≡ Some e =
      ap (λ n. remembered r n (world r es).cache k a p) (sym s.now_is) ∙ sym (remembered_alike r st.now st.cache (world r es).cache s.keys s.cache_is k a p) ∙ found in
      ap (λ ws. by_zone (current a ws) p k) (sym h.published_is) ∙ says_now r (world r es) i k a p e in_world (out_everywhere r (world r es) i h.rest a)

  -- the state after a step is on the same way
  after_step : (m : ℕ) (st : State) (es : List Event) (us : List Question) (u : Question) (ws : List Entry) (a p : Name) (t : Word) → At st es us u ws (suc m) a p → (walk_of r st u).words ≡ ws → (f : Step Can cost r st es u a p t) → At f.had.after (f.had.moves ++ (f.before ++ es)) f.had.front f.had.asked ws (suc m) a p
  after_step m st es us u ws a p t h words_are f =
      let y = f.had in
      let es1 = f.had.moves ++ (f.before ++ es) in
      let run = runs r f.had.after (f.had.moves ++ (f.before ++ es)) f.had.joint in
      let pub_same : (world r (f.had.moves ++ (f.before ++ es))).published ≡ (world r es).published = f.had.world_published ∙ f.published_is in
      let now_same : (world r (f.had.moves ++ (f.before ++ es))).now ≡ (world r es).now = f.had.world_now ∙ f.now_is in
      let pl = f.had.pending_least in
      let rm = h.room in
      record {
        joint = f.had.joint;
        walks_are = f.had.walks_are;
        name_is = f.had.name_is ∙ h.name_is;
        kind_is = f.had.kind_is ∙ h.kind_is;
        published_is = f.had.world_published ∙ f.published_is ∙ h.published_is;
        rest = (λ i. rested (pub_same i) (now_same i) (oldest r (record { now = now_same i; published = pub_same i; offered = []; copies = []; sent = []; pending = []; responses = []; cache = [] }))) ∙ h.rest;
        path = path_move (source st) (source f.had.after) h.path (λ b x e i found.
            let g = held r st.now st.cache k b x e found in
            recalled r f.had.after.now f.had.after.cache k b x e run.1.keys (record {
              there = f.had.keeps e (subst (Memᴰ e) (sym words_are) i);
              counting = ap (λ n. counts r n e) f.had.now_is ∙ g.counting;
              apex_is = g.apex_is;
              name_is = g.name_is;
              kind_is = g.kind_is;
            }));
        room = omega arith;
        clear = clear_less st.pending f.had.after.pending k (by_say vs k) f.had.pending_in (suc m) a p h.clear;
        root = (h.root.0, h.root.1, f.still_can h.root.0 [] h.root.2);
        served = λ v x c d s. let g = h.served v x c d s in (g.0, g.1, f.still_can g.0 c g.2);
        named = (h.named.0, h.named.1, f.still_can h.named.0 a h.named.2);
        had_some = h.had_some;
      }

  -- the word that was had, in the cache
  found_after : (m : ℕ) (st : State) (es : List Event) (us : List Question) (u : Question) (ws : List Entry) (a p : Name) (t : Word) → At st es us u ws (suc m) a p → (f : Step Can cost r st es u a p t) → source f.had.after a p ≡ Some f.had.entry
  found_after m st es us u ws a p t h f =
      let y = f.had in
      let n = f.had.now_is in
      let i = f.had.heard_is in
      let run = runs r f.had.after (f.had.moves ++ (f.before ++ es)) f.had.joint in
      recalled r f.had.after.now f.had.after.cache k a p f.had.entry run.1.keys (record {
        there = f.had.there;
        counting = le-leb f.had.after.now (until r f.had.entry) (omega arith);
        apex_is = f.had.apex_is;
        name_is = f.had.entry_name;
        kind_is = f.had.entry_kind ∙ h.kind_is;
      })

  -- one more try, for a word that is now on the way
  tries_after : (st : State) (es : List Event) (u : Question) (ws : List Entry) (a p : Name) (t : Word) → Tries u ws → (f : Step Can cost r st es u a p t) → Tries f.had.asked (ws ++ (f.had.entry ∷ []))
  tries_after st es u ws a p t tries f =
      let y = f.had in
      let l = length-append ws (f.had.entry ∷ []) in
      let k1 = tries_least a p f.had.at f.had.id u.tries in
      let k2 = ap length f.had.tries_are in
      let k3 = tries.few in
      record {
        among = λ x m. ⊎_elim
            (λ (g : (z : Tried) × Memᴰ z u.tries × (z.apex ≡ x.apex) × (z.name ≡ x.name)). let e = tries.among g.0 g.1 in (e.0, Memᴰ.append_left (f.had.entry ∷ []) e.1, e.2 ∙ g.2, e.3 ∙ g.3))
            (λ (g : (x.apex ≡ a) × (x.name ≡ p)). (f.had.entry, Memᴰ.append_right ws (Memᴰ.head refl), f.had.apex_is ∙ sym g.0, f.had.entry_name ∙ sym g.1))
            (tried_in a p f.had.at f.had.id u.tries x (subst (Memᴰ x) f.had.tries_are m));
        few = omega arith;
      }

  going_on : (m : ℕ) → Going m → Going (suc m)
  going_on m ih st es us u ws a p h tries = go (by_say vs k a p) refl
    where
      has : (t : Word) → by_say vs k a p ≡ Some t → (z : Zone) → current a vs ≡ Some z → tells z p k ≡ Some t → (o : Option Entry) → source st a p ≡ o → Goal cost r es u (length (rest_of (suc m) a p).words) (rest_of (suc m) a p).end
      has t said_so z owned tells-it (Some e) found =
          let l = length-append ws (e ∷ []) in
          let few = tries.few in
          let wider : Tries u (ws ++ (e ∷ [])) = record { among = λ x m. let y = tries.among x m in (y.0, Memᴰ.append_left (e ∷ []) y.1, y.2, y.3); few = omega arith } in
          let g = with_word m ih st es us u ws a p h e wider found (agrees st es us u ws (suc m) a p h e found) in
          subst (λ n. Goal cost r es u n (rest_of (suc m) a p).end) g.1 (goal_more cost r es u g.0 (rest_of (suc m) a p).end g.2)
      has t said_so z owned tells-it None none =
          let lacks : (walk_of r st u).end ≡ LacksAt a p = end_of st es us u ws (suc m) a p h ∙ ap (λ (y : Walk Entry). y.end) (walk_lacks entry_said m (source st) a p none) in
          let words_are : (walk_of r st u).words ≡ ws = ap (λ (y : Walk Entry). y.words) (walk_of_lem st es us u ws (suc m) a p h) ∙ path_words (source st) h.path ∙ ap (λ (y : Walk Entry). ws ++ y.words) (walk_lacks entry_said m (source st) a p none) ∙ append-nil ws in
          let len = path_length (source st) h.path in
          let few = tries.few in
          let f : Step Can cost r st es u a p t = steps st es h.joint h.rest us u h.walks_are a p h.named.0 t z lacks (subst (λ x. Memᴰ h.named.0 (servers_on r x)) (sym words_are) h.named.1) h.named.2 (ap (current a) h.published_is ∙ owned) (ap (tells z p) h.kind_is ∙ tells-it) (sound_now a vs sound z owned) (ap (λ i. pending_for a p i st.pending) h.kind_is ∙ h.clear.0) h.room (not_tried st es us u ws (suc m) a p h tries none) (omega arith) in
          let g = with_word m ih f.had.after (f.had.moves ++ (f.before ++ es)) f.had.front f.had.asked ws a p (after_step m st es us u ws a p t h words_are f) f.had.entry (tries_after st es u ws a p t tries f) (found_after m st es us u ws a p t h f) (said_so ∙ ap Some (sym f.had.word_is)) in
          subst (λ n. Goal cost r es u n (rest_of (suc m) a p).end) g.1 (goal_after Can cost r st es u a p t g.0 (rest_of (suc m) a p).end f g.2)

      go : (o : Option Word) → by_say vs k a p ≡ o → Goal cost r es u (length (rest_of (suc m) a p).words) (rest_of (suc m) a p).end
      go None e = absurd (h.had_some (a, p, ap (λ (y : Walk Word). y.end) (walk_lacks word_said m (by_say vs k) a p e)))
      go (Some t) e =
          let o = by_owner (world r es) k a p t (ap (λ v. by_zone (current a v) p k) h.published_is ∙ e) in
          has t e o.0 (sym (ap (current a) h.published_is) ∙ o.1) o.2 (source st a p) refl

  pub going : (m : ℕ) → Going m
  going zero st es us u ws a p h tries =
      let long : (walk_of r st u).end ≡ TooLong = end_of st es us u ws 0 a p h ∙ ap (λ (y : Walk Entry). y.end) (walk_none entry_said (source st) a p) in
      subst (Goal cost r es u (length (rest_of 0 a p).words)) (sym (ap (λ (y : Walk Word). y.end) (walk_none word_said (by_say vs k) a p))) (at_end cost r st es us u (length (rest_of 0 a p).words) TooLong h.joint h.walks_are (done_long r st u long))
  going (suc m) st es us u ws a p h tries = going_on m (going m) st es us u ws a p h tries
