-- A question ends within a bounded time, if the machine is looked after.
use Rattle.std.proofs.Common.{◌≡◌, ℕ, ◌+◌, ◌*◌, ◌≤◌, true, eqb, ◌⊎◌, List, length, sym, refl, subst, inl, inr, add-zero, mul-le-mul, le_refl, arith}
use mathlib.Core.List.Memᴰ
use mathlib.Core.List.{Memᴰ}
use Rattle.protocol.specs.Words.{Name}
use Rattle.protocol.specs.World.{Rules, Event, entry_for}
use Rattle.protocol.proofs.Lists.{first_some}
use Rattle.machine.specs.Machine.{max_words, max_tries, Question, Pending, State, question, begin, count_try, Sent, tick}
use Rattle.machine.specs.Refine.{Joint}
use Rattle.machine.specs.Bounds.{Call, to_begin, to_settle, to_draw, to_hear, to_tick, by_others, Spot, all_of, Stays, seconds_in, Life, begun, goes_on, in_time, Tended, most}
use Rattle.machine.proofs.Bounded.{tidy_life, spent_bound}
use Rattle.machine.proofs.Heard.{heard_so}
use Rattle.machine.proofs.Lives.{NoneSent, Sending, drew_so, began_so, heard_keeps, asked_begin, asked_settle, asked_idle, asked_draw, asked_hear, asked_tick, asked_others, in_run}
use Rattle.machine.proofs.Main.{runs}
use Rattle.machine.proofs.Patient.{asked_past}
use Rattle.machine.proofs.Trying.{spent}
use Rattle.machine.proofs.Waiting.{Waiting, awaiting_so, waits_heard, waits_drawn, waits_ticked}
use Rattle.machine.proofs.Ways.{Cached, cached}

-- where a question stands in its waiting
abbrev Waits : Rules → State → Question → ℕ → Type 0
Waits r st u n = Waiting r st.now st.cache st.pending u n

module _ (r : Rules) (small : length r.roots ≤ 32) (st : State) (es : List Event) (x y : Spot) (m n : ℕ) (l : Life r st es x m n) (w : Waiting r st.now st.cache st.pending x.asked n) where
  at : st.walks ≡ all_of x
  at = (in_run r st es x m n l).1

  under_way : Memᴰ x.asked st.walks
  under_way = subst (Memᴰ x.asked) (sym at) (Memᴰ.append_right x.before (Memᴰ.head refl))

  no_time : (s : State) (u : Question) → Waits r s u n → Waits r s u (n + 0)
  no_time s u h = subst (Waits r s u) (sym (add-zero n)) h

  wait_call : (st' : State) (es' : List Event) (c : Call r st es st' es') → Stays r st es st' es' c x y → in_time c x ≡ true → Waiting r st'.now st'.cache st'.pending y.asked (n + seconds_in c)
  unfolding tick
  wait_call st' es' (to_begin v) k t =
      no_time (begin r v st).state y.asked
      (subst (λ (s : State). Waits r s y.asked n) (sym (began_so r v st).1) (subst (λ u. Waits r st u n) (sym (asked_begin r st x at es y v k)) w))
  wait_call st' es' to_settle k t = no_time st y.asked (subst (λ u. Waits r st u n) (sym (asked_settle r st x at es y k)) w)
  wait_call st' es' (to_draw i may s e) k t = no_time s.state y.asked (go (drew_so r i st s e))
    where
      go : NoneSent st s ⊎ Sending r i st s → Waits r s.state y.asked n
      go (inl h) = subst (λ (z : Sent). Waits r z.state y.asked n) (sym h) (subst (λ u. Waits r st u n) (sym (asked_idle r st x at es y i may s e h k)) w)
      go (inr h) =
          subst (λ u. Waits r s.state u n) (sym (asked_draw r st x at es y i may s e h k))
          (subst (λ (z : Sent). Waits r z.state (count_try r st h.pending x.asked) n) (sym h.sent_is)
          (waits_drawn r small st es (in_run r st es x m n l).0 x.asked under_way (tidy_life r st es x m n l) n w i may s h t))
  wait_call st' es' (to_hear z i p f h e) k t =
      let g = heard_keeps r z st p h f e in
      let j = (in_run r st es x m n l).0 in
      let c = cached r z st p h (runs r st es j).1.keys (heard_so r z st p h f e) in
      let c2 : Cached r st (entry_for st.now p.query z.word) g.0 = subst (λ (s : State). Cached r st (entry_for st.now p.query z.word) s.cache) g.1 c in
      no_time h.state y.asked
      (subst (λ u. Waits r h.state u n) (sym (asked_hear r st x at es y z i p f h e k))
      (subst (λ (s : State). Waits r s (count_try r st p x.asked) n) (sym g.1)
      (waits_heard r small st es j x.asked under_way (tidy_life r st es x m n l) n w p (first_some (λ (q : Pending). eqb q.query.id z.id) st.pending p f).0 (entry_for st.now p.query z.word) refl refl refl g.0 c2)))
  wait_call st' es' to_tick k t =
      subst (λ u. Waits r (tick r st) u (n + 1)) (sym (asked_tick r st x at es y k))
      (waits_ticked r small st es (in_run r st es x m n l).0 x.asked under_way (tidy_life r st es x m n l) n w (awaiting_so r st x.asked t))
  wait_call st' es' (by_others e o i) k t = no_time st y.asked (subst (λ u. Waits r st u n) (sym (asked_others r st x at es y e o i k)) w)

-- from its beginning on
wait_begun : (r : Rules) (st : State) (es : List Event) → Joint r st es → (t : ℕ) (q : Name) (k : ℕ) → Waits r st (question t q k) 0
unfolding spent
wait_begun r st es j t q k =
    record {
      start = st.now;
      limit = st.now;
      time = omega arith;
      low = omega arith;
      high = omega arith;
      in_limit = omega arith;
      counted = λ z m t i e. absurd (Memᴰ.not-nil i);
      waits = λ a p e z m f g. (asked_past r st es j z m, λ b. omega arith);
    }

waiting_life : (r : Rules) → length r.roots ≤ 32 → (st : State) (es : List Event) (x : Spot) (m n : ℕ) → (l : Life r st es x m n) → Tended l → Waits r st x.asked n
waiting_life r small st es x m n (begun {st = s} {es = fs} j t q k h) d = subst (λ (z : State). Waits r z (question t q k) 0) (sym (began_so r (question t q k) s).1) (wait_begun r s fs j t q k)
waiting_life r small st es x m n (goes_on {st = s} {es = fs} {x = z} {sent = a} {seconds = b} l c k) d =
    wait_call r small s fs z x a b l (waiting_life r small s fs z a b l d.0) st es c k d.1

pub ends_soon : (r : Rules) → length r.roots ≤ 32 → (st : State) (es : List Event) (x : Spot) (m n : ℕ) → (l : Life r st es x m n) → Tended l → n ≤ max_words * (max_tries * most r) * (2 * r.patience + 1) + (r.patience + 1)
ends_soon r small st es x m n l d =
    let w = waiting_life r small st es x m n l d in
    let a = w.time in
    let b = w.high in
    let c = w.in_limit in
    let s = spent_bound (2 * most r) x.asked.tries (tidy_life r st es x m n l).few in
    let g : spent (2 * most r) x.asked.tries * (2 * r.patience + 1) ≤ 24 * (2 * most r) * (2 * r.patience + 1) = mul-le-mul s (le_refl (2 * r.patience + 1)) in
    omega arith
