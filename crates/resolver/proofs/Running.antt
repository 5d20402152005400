-- Calls as parts of a run of the world.
use lib.ListN.{length-map}
use Rattle.std.proofs.Common.{◌≡◌, ℕ, ◌*◌, ◌≤◌, length, rules, arith, Bool, true, false, cond, List, [], ◌∷◌, ◌++◌, Some, None, Ok, Err, Option, Result, nat_eq, sym, refl, ap, ◌∙◌, subst, true≢false}
use mathlib.Core.List.{Memᴰ}
use Rattle.names.specs.declared.fault.Fault.{Fault}
use Rattle.names.specs.declared.fault.Fault.TheVariants.{TooMuch, NotPending, WrongApex}
use Rattle.meaning.specs.Says.{same}
use Rattle.protocol.specs.Lists.{first}
use Rattle.protocol.specs.Words.{Server}
use Rattle.protocol.specs.World.{Rules, rules_of, Response, Event, Hears, Forgets, entry_for, world}
use Rattle.machine.specs.Store.{Put, Kept, Ousted, NoRoom, put}
use Rattle.machine.specs.Machine.{Question, Pending, State, Shown, begin, settle, draw, Heard, misfit, in_use, keep, heard_by, hear_fit, hear_for, hear}
use Rattle.machine.specs.Refine.{Joint, draws, hears, sends, drops, Showing}
use Rattle.machine.specs.Bounds.{most}
use Rattle.machine.proofs.Bounds.{machine_bounds}
use Rattle.machine.proofs.Main.{machine_refines}
use Rattle.machine.proofs.Refining.{ok_is, err_ok}
use Rattle.questions.specs.declared.query.Query as rust_query
use Rattle.resolver.specs.declared.resolver.Resolver.{Resolver}
use Rattle.resolver.specs.declared.resolver.hear.Heard as declared
use Rattle.resolver.specs.declared.resolver.hear.Heard.TheVariants as rust
use Rattle.resolver.specs.Resolvers.{roots_of, rules_for, state_of}
use Rattle.resolver.specs.Draws.{Draws}
use Rattle.resolver.specs.Hears as hearing
use Rattle.records.specs.Contents.{bytes_of}
use Rattle.resolver.specs.Runs.{GoesOnAsking, GoesOnHearing, RunsBounded}

-- the same state by the same rules goes on where that goes on
pub moved : (rs qs : List Server) (st s : State) (es : List Event) → qs ≡ rs → s ≡ st → Joint (rules_of rs) st es → Joint (rules_of qs) s es
moved rs qs st s es e h j = subst (λ x. Joint (rules_of x) s es) (sym e) (subst (λ y. Joint (rules_of rs) y es) (sym h) j)

module _ (r : Rules) (st : State) (es : List Event) (j : Joint r st es) where
  pub begun_keeps : (u : Question) (x : Shown) → Some x ≡ (begin r u st).shown → Showing r (world r es) x
  begun_keeps u x h = (machine_refines r st es j).shows_at_once u x (sym h)

  pub settled_keeps : (x : Shown) → Some x ≡ (settle r st).shown → Showing r (world r es) x
  settled_keeps x h = (machine_refines r st es j).shows x (sym h)

-- ---- a drawn id

pub drawn_goes : (x y : Resolver) (n : ℕ) (result : Result (Option rust_query.Query) Fault) → roots_of y ≡ roots_of x → Draws (draw (rules_for x) n (state_of x)) (state_of x) result (state_of y) → GoesOnAsking x n result y
drawn_goes x y n (Ok None) e d =
    λ es j m. moved (roots_of x) (roots_of y) d.0.state (state_of y) es e d.2 (subst (λ p. Joint (rules_for x) d.0.state (sends p ++ es)) (sym d.3) (draws j n m d.0 d.1))
drawn_goes x y n (Ok (Some q)) e d =
    λ es j m. moved (roots_of x) (roots_of y) d.0.state (state_of y) _ e d.2 (subst (λ p. Joint (rules_for x) d.0.state (sends p ++ es)) (sym d.3) (draws j n m d.0 d.1))
drawn_goes x y n (Err f) e d = λ es j m. moved (roots_of x) (roots_of y) (state_of x) (state_of y) es e d.1 j

-- ---- a response that is heard

module _ (r : Rules) (y : Response) (st : State) (h : Heard) where
  -- nothing was forgotten for it, or what came before it
  abbrev Before : List Event → Type 0
  Before fs = (h.ousted ≡ false → fs ≡ []) × (h.ousted ≡ true → (a q : List (List ℕ)) × (k : ℕ) × (fs ≡ Forgets a q k ∷ []))

  dropped : (x : Pending) (p : Put) → heard_by r st x p ≡ Ok h → Before (drops st.cache (entry_for st.now x.query y.word) p)
  dropped x (Kept es) e = (λ b. refl, λ b. absurd (true≢false (sym b ∙ sym (ap (λ (z : Heard). z.ousted) (ok_is {B = Fault} (record { state = keep r st x es; ousted = false }) h e)))))
  dropped x (Ousted i es) e = (λ b. absurd (true≢false (ap (λ (z : Heard). z.ousted) (ok_is {B = Fault} (record { state = keep r st x es; ousted = true }) h e) ∙ b)), λ b. (_, _, _, refl))
  dropped x NoRoom e = absurd (err_ok TooMuch h e)

  by_fit : (x : Pending) (o : Option Fault) → hear_fit r st x y.word o ≡ Ok h → Before (drops st.cache (entry_for st.now x.query y.word) (put r (in_use r st) (entry_for st.now x.query y.word) st.cache))
  by_fit x (Some f) e = absurd (err_ok f h e)
  by_fit x None e = dropped x (put r (in_use r st) (entry_for st.now x.query y.word) st.cache) e

  by_apex : (x : Pending) (b : Bool) → cond b (hear_fit r st x y.word (misfit x.query y.word.said)) (Err WrongApex) ≡ Ok h → Before (drops st.cache (entry_for st.now x.query y.word) (put r (in_use r st) (entry_for st.now x.query y.word) st.cache))
  by_apex x true e = by_fit x (misfit x.query y.word.said) e
  by_apex x false e = absurd (err_ok WrongApex h e)

  abbrev Answering : Type 0
  Answering = (x : Pending) × (first (λ (p : Pending). nat_eq p.query.id y.id) st.pending ≡ Some x) × Before (drops st.cache (entry_for st.now x.query y.word) (put r (in_use r st) (entry_for st.now x.query y.word) st.cache))

  by_pending : (o : Option Pending) → first (λ (p : Pending). nat_eq p.query.id y.id) st.pending ≡ o → hear_for r st y o ≡ Ok h → Answering
  by_pending None f e = absurd (err_ok NotPending h e)
  by_pending (Some x) f e = (x, f, by_apex x (same x.query.apex y.apex) e)

  answering : hear r y st ≡ Ok h → Answering
  unfolding hear
  answering e = by_pending (first (λ (p : Pending). nat_eq p.query.id y.id) st.pending) refl e

  module _ (es : List Event) (j : Joint r st es) (m : Memᴰ y (world r es).responses) (e : hear r y st ≡ Ok h) where
    pub kept_goes : h.ousted ≡ false → Joint r h.state (Hears y ∷ es)
    kept_goes b =
        let a = answering e in
        subst (λ fs. Joint r h.state (Hears y ∷ (fs ++ es))) (a.2.0 b) (hears j y m a.0 a.1 h e)

    pub ousted_goes : h.ousted ≡ true → (a q : List (List ℕ)) × (k : ℕ) × Joint r h.state (Hears y ∷ Forgets a q k ∷ es)
    ousted_goes b =
        let a = answering e in
        let d = a.2.1 b in
        (d.0, d.1, d.2, subst (λ fs. Joint r h.state (Hears y ∷ (fs ++ es))) d.3 (hears j y m a.0 a.1 h e))

pub heard_goes : (x y : Resolver) (r : Response) (result : Result declared.Heard Fault) → roots_of y ≡ roots_of x → hearing.Hears (hear (rules_for x) r (state_of x)) (state_of x) result (state_of y) → GoesOnHearing x r result y
heard_goes x y r (Ok rust.Kept) e h =
    λ es j m. moved (roots_of x) (roots_of y) (state_of y) (state_of y) _ e refl (kept_goes (rules_for x) r (state_of x) (record { state = state_of y; ousted = false }) es j m h refl)
heard_goes x y r (Ok rust.Ousted) e h =
    λ es j m.
    let o = ousted_goes (rules_for x) r (state_of x) (record { state = state_of y; ousted = true }) es j m h refl in
    (o.0, o.1, o.2, moved (roots_of x) (roots_of y) (state_of y) (state_of y) _ e refl o.3)
heard_goes x y r (Err f) e h = λ es j m. moved (roots_of x) (roots_of y) (state_of x) (state_of y) es e h.1 j

-- ---- bounds of one question

few_roots : (x : Resolver) → length (roots_of x) ≤ 16
few_roots x = let l = x.few in let m = length-map x.roots.items bytes_of in search rules

most_16 : (x : Resolver) → most (rules_for x) ≡ 16
most_16 x = let l = few_roots x in search rules

pub runs_bounded : RunsBounded
runs_bounded = record {
  sent_few = λ x st es p m n l.
      let few = few_roots x in
      let most_is = most_16 x in
      let b = machine_bounds.sent_few (rules_for x) (omega arith) st es p m n l in
      let e = ap (λ k. 24 * (2 * k)) most_is in
      omega arith;
  ends_soon = λ x st es p m n l t.
      let few = few_roots x in
      let most_is = most_16 x in
      let b = machine_bounds.ends_soon (rules_for x) (omega arith) st es p m n l t in
      let e = ap (λ k. 24 * (2 * k) * 11) most_is in
      omega arith;
}
