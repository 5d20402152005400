-- Every sequence of calls is the resolver's part of a run of the world; so what the machine shows keeps the promise.
use Rattle.std.proofs.Common.{◌≡◌, ℕ, Bool, true, false, leb, List, [], ◌∷◌, length, Some, None, Option, sym, refl, ap, ◌∙◌, ⊎_elim, arith}
use Rattle.std.proofs.lemmas.Bool.{cond-true, cond-false}
use Rattle.protocol.specs.Words.{Name, Outcome}
use Rattle.protocol.specs.World.{Rules, Entry, World, Event, world, Brought}
use Rattle.protocol.specs.Walks.{End, Shows, LacksAt, TooLong, Walk, meant, shown, least_left}
use Rattle.protocol.specs.Promise.{Lacks, Rested, Promise}
use Rattle.protocol.proofs.Lists.{some_is, some_none}
use Rattle.protocol.proofs.Main.{promise}
use Rattle.machine.specs.Machine.{max_walks, Question, State, Answer, Answered, Endless, Nowhere, Shown, walk_of, Standing, Done, Awaits, Wants, standing, shown_as, Began, begin_by, begin, is_done, settle_on, settle_in}
use Rattle.machine.specs.Refine.{Stands, Joint, starts, begins, settles, draws, hears, ticks, others, Showing, Refines, MachineRefines}
use Rattle.machine.proofs.Alike.{walk_is}
use Rattle.machine.proofs.Standings.{DoneSo, by_answer, by_length, by_want, done_so}
use Rattle.machine.proofs.Refining.{stands_start, stands_outside, stands_tick, stands_begin, stands_settle, drawn_so, stands_drawn}
use Rattle.machine.proofs.Heard.{heard_so, stands_heard}

abbrev pub Runs : Rules → State → List Event → Type 0
Runs r st es = Brought r es × Stands st (world r es)

pub runs : (r : Rules) (st : State) (es : List Event) → Joint r st es → Runs r st es
unfolding world
runs r st es starts = (tt, stands_start)
runs r st es (begins {st = t} {es = fs} j u) = let h = runs r t fs j in (h.0, stands_begin r t (world r fs) u h.1)
runs r st es (settles {st = t} {es = fs} j) = let h = runs r t fs j in (h.0, stands_settle r t (world r fs) h.1)
runs r st es (draws {st = t} {es = fs} j n new s e) = let h = runs r t fs j in stands_drawn r n t fs h.0 new h.1 s (drawn_so r n t s e)
runs r st es (hears {st = t} {es = fs} j y said x found h e) = let g = runs r t fs j in stands_heard r y t fs g.0 said g.1 x found h (heard_so r y t x h found e)
runs r st es (ticks {st = t} {es = fs} j) = let h = runs r t fs j in ((tt, h.0), stands_tick r t (world r fs) h.1)
runs r st es (others {st = t} {es = fs} j e out may) = let h = runs r t fs j in ((may, h.0), stands_outside r t (world r fs) e out h.1)

-- ---- what is shown

-- what is shown is of a question that is done
record FromDone (r : Rules) (st : State) (x : Shown) : Type 0 where
  asked : Question
  name_is : x.name ≡ asked.name
  kind_is : x.kind ≡ asked.kind
  answer : Answer
  left : ℕ
  answer_is : x.answer ≡ answer
  left_is : x.left ≡ left
  done : DoneSo r st asked answer left

from_done : (r : Rules) (st : State) (x : Shown) (u : Question) (a : Answer) (n : ℕ) → x ≡ shown_as u a n → DoneSo r st u a n → FromDone r st x
from_done r st x u a n e d =
    record {
      asked = u;
      name_is = ap (λ (y : Shown). y.name) e;
      kind_is = ap (λ (y : Shown). y.kind) e;
      answer = a;
      left = n;
      answer_is = ap (λ (y : Shown). y.answer) e;
      left_is = ap (λ (y : Shown). y.left) e;
      done = d;
    }

pub done_is : (x : Standing) (a : Answer) (n : ℕ) → is_done x ≡ Some (a, n) → x ≡ Done a n
done_is (Done b m) a n h = let e = some_is (b, m) (a, n) h in λ i. Done (e i).0 (e i).1
done_is (Awaits b p) a n h = absurd (some_none (a, n) h)
done_is (Wants b p ss o) a n h = absurd (some_none (a, n) h)

settled_from : (r : Rules) (st : State) (us : List Question) (x : Shown) → (settle_in r st us).shown ≡ Some x → FromDone r st x
unfolding settle_in
settled_from r st [] x h = absurd (some_none x h)
settled_from r st (u ∷ us) x h = go (is_done (standing r st u)) refl (settled_from r st us x)
  where
    go : (o : Option (Answer × ℕ)) → is_done (standing r st u) ≡ o → ((settle_in r st us).shown ≡ Some x → FromDone r st x) → FromDone r st x
    go None e ih = ih (sym (ap (λ o. (settle_on u us o (settle_in r st us)).shown) e) ∙ h)
    go (Some y) e ih =
        from_done r st x u y.0 y.1 (sym (some_is (shown_as u y.0 y.1) x (sym (ap (λ o. (settle_on u us o (settle_in r st us)).shown) e) ∙ h)))
        (done_so r st u y.0 y.1 (done_is (standing r st u) y.0 y.1 e))

-- at once: by the cache, or nowhere for want of a place
data AtOnce (r : Rules) (st : State) (u : Question) (x : Shown) : Type 0 where
  by_cache : FromDone r st x → AtOnce r st u x
  no_place : x ≡ shown_as u Nowhere 0 → AtOnce r st u x

began_from : (r : Rules) (st : State) (u : Question) (x : Shown) → (begin r u st).shown ≡ Some x → AtOnce r st u x
unfolding begin
began_from r st u x h = go (leb max_walks (length st.walks)) refl
  where
    full : Began
    full = record { state = st; shown = Some (shown_as u Nowhere 0) }

    by : (y : Standing) → standing r st u ≡ y → (begin_by u st y).shown ≡ Some x → AtOnce r st u x
    by (Done a n) e g = by_cache (from_done r st x u a n (sym (some_is (shown_as u a n) x g)) (done_so r st u a n e))
    by (Awaits a p) e g = absurd (some_none x g)
    by (Wants a p ss o) e g = absurd (some_none x g)

    go : (b : Bool) → leb max_walks (length st.walks) ≡ b → AtOnce r st u x
    go true e = no_place (sym (some_is (shown_as u Nowhere 0) x (sym (ap (λ (z : Began). z.shown) (cond-true (leb max_walks (length st.walks)) (record { state = st; shown = Some (shown_as u Nowhere 0) }) (begin_by u st (standing r st u)) e)) ∙ h)))
    go false e = by (standing r st u) refl (sym (ap (λ (z : Began). z.shown) (cond-false (leb max_walks (length st.walks)) (record { state = st; shown = Some (shown_as u Nowhere 0) }) (begin_by u st (standing r st u)) e)) ∙ h)

-- ---- it keeps the promise

answers_differ : (o : Outcome) → Nowhere ≡ Answered o → ⊥
answers_differ o e = let w : ◌≡◌ {A = ℕ} 0 1 = cc in omega arith

endless_answered : (o : Outcome) → Endless ≡ Answered o → ⊥
endless_answered o e = let w : ◌≡◌ {A = ℕ} 0 1 = cc in omega arith

nowhere_endless : Nowhere ≡ Endless → ⊥
nowhere_endless e = let w : ◌≡◌ {A = ℕ} 0 1 = cc in omega arith

outcome_is : (o p : Outcome) → Answered o ≡ Answered p → o ≡ p
outcome_is o p e = cc

shows_not : (a p : Name) (o : Outcome) → Shows o ≡ LacksAt a p → ⊥
shows_not a p o e = let w : ◌≡◌ {A = ℕ} 0 1 = cc in omega arith

long_not : (a p : Name) → TooLong ≡ LacksAt a p → ⊥
long_not a p e = let w : ◌≡◌ {A = ℕ} 0 1 = cc in omega arith

module _ (r : Rules) (st : State) (es : List Event) (b : Brought r es) (s : Stands st (world r es)) where
  abbrev w : World
  w = world r es

  whole : Promise r es
  whole = promise r es b

  -- where owners rest, an end that is no lack is what is meant
  means : (q : Name) (k : ℕ) (x : End) → (shown r w q k).end ≡ x → ((a p : Name) → x ≡ LacksAt a p → ⊥) → Rested r w → (meant w q k).end ≡ x
  means q k x e never rest = ⊎_elim (λ (l : Lacks (shown r w q k).end). absurd (never l.0 l.1 (sym e ∙ l.2))) (λ m. sym m ∙ e) (whole.settled rest q k)

  module _ (x : Shown) (f : FromDone r st x) where
    walked : walk_of r st f.asked ≡ shown r w x.name x.kind
    walked = walk_is r st w s f.asked ∙ (λ i. shown r w (sym f.name_is i) (sym f.kind_is i))

    end_is : (y : End) → (walk_of r st f.asked).end ≡ y → (shown r w x.name x.kind).end ≡ y
    end_is y e = sym (ap (λ (z : Walk Entry). z.end) walked) ∙ e

    time_is : least_left r st.now (walk_of r st f.asked).words ≡ least_left r w.now (shown r w x.name x.kind).words
    time_is = λ i. least_left r (s.now_is i) (walked i).words

    answered_by : (a : Answer) (n : ℕ) → DoneSo r st f.asked a n → (o : Outcome) → a ≡ Answered o → ((shown r w x.name x.kind).end ≡ Shows o) × (n ≡ least_left r w.now (shown r w x.name x.kind).words)
    answered_by a n (by_answer p e) o h = (end_is (Shows o) (e ∙ ap Shows (outcome_is p o h)), time_is)
    answered_by a n (by_length e) o h = absurd (endless_answered o h)
    answered_by a n (by_want c p e) o h = absurd (answers_differ o h)

    endless_by : (a : Answer) (n : ℕ) → DoneSo r st f.asked a n → a ≡ Endless → ((shown r w x.name x.kind).end ≡ TooLong) × (n ≡ least_left r w.now (shown r w x.name x.kind).words)
    endless_by a n (by_answer p e) h = absurd (endless_answered p (sym h))
    endless_by a n (by_length e) h = (end_is TooLong e, time_is)
    endless_by a n (by_want c p e) h = absurd (nowhere_endless h)

    nowhere_by : (a : Answer) (n : ℕ) → DoneSo r st f.asked a n → a ≡ Nowhere → n ≡ 0
    nowhere_by a n (by_answer p e) h = absurd (answers_differ p (sym h))
    nowhere_by a n (by_length e) h = absurd (nowhere_endless (sym h))
    nowhere_by a n (by_want c p e) h = refl

    showing : Showing r w x
    showing =
        record {
          answered = λ o h. let y = answered_by f.answer f.left f.done o (sym f.answer_is ∙ h) in (y.0, f.left_is ∙ y.1);
          endless = λ h. let y = endless_by f.answer f.left f.done (sym f.answer_is ∙ h) in (y.0, f.left_is ∙ y.1);
          nowhere = λ h. f.left_is ∙ nowhere_by f.answer f.left f.done (sym f.answer_is ∙ h);
          fresh = whole.words_fresh x.name x.kind;
          settled = λ o h rest. means x.name x.kind (Shows o) (answered_by f.answer f.left f.done o (sym f.answer_is ∙ h)).0 (λ a p. shows_not a p o) rest;
          settled_endless = λ h rest. means x.name x.kind TooLong (endless_by f.answer f.left f.done (sym f.answer_is ∙ h)).0 long_not rest;
        }

  showing_nowhere : (u : Question) (x : Shown) → x ≡ shown_as u Nowhere 0 → Showing r w x
  showing_nowhere u x e =
      let a = ap (λ (y : Shown). y.answer) e in
      record {
        answered = λ o h. absurd (answers_differ o (sym a ∙ h));
        endless = λ h. absurd (nowhere_endless (sym a ∙ h));
        nowhere = λ h. ap (λ (y : Shown). y.left) e;
        fresh = whole.words_fresh x.name x.kind;
        settled = λ o h rest. absurd (answers_differ o (sym a ∙ h));
        settled_endless = λ h rest. absurd (nowhere_endless (sym a ∙ h));
      }

  at_once : (u : Question) (x : Shown) → AtOnce r st u x → Showing r w x
  at_once u x (by_cache f) = showing x f
  at_once u x (no_place e) = showing_nowhere u x e

  refines : Refines r st es
  refines =
      record {
        brought = b;
        stands = s;
        promise = whole;
        shows = λ x h. showing x (settled_from r st st.walks x h);
        shows_at_once = λ u x h. at_once u x (began_from r st u x h);
      }

pub machine_refines : MachineRefines
machine_refines r st es j = let h = runs r st es j in refines r st es h.0 h.1
