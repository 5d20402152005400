-- A response that is heard, step by step.
use Rattle.std.proofs.Common.{◌≡◌, ℕ, suc, ◌≤◌, Bool, true, false, cond, ltb, List, [], ◌∷◌, ◌++◌, map, length, replicate, take, Some, None, Err, Option, Result, nat_eq, sym, refl, ap, ◌∙◌}
use Rattle.std.specs.Option.{option_map}
use Rattle.std.proofs.lemmas.List.{take-replicate}
use Rattle.std.proofs.lemmas.Bool.{cond-true, cond-false}
use Rattle.names.specs.declared.fault.Fault.{Fault}
use Rattle.names.specs.declared.fault.Fault.TheVariants.{WrongApex}
use Rattle.meaning.specs.Says.{same}
use Rattle.protocol.specs.Lists.{first}
use Rattle.protocol.specs.Words.{Server, Word}
use Rattle.protocol.specs.World.{Rules, rules_of, Response, Entry, entry_for}
use Rattle.machine.specs.Machine.{State, Pending, with_walks, count_tries, misfit, in_use, Heard, close_in, keep, hear_fit, hear_for, hear}
use Rattle.machine.specs.Store.{one_a_key, pick, Kept, NoRoom, oust, put, max_entries}
use Rattle.machine.proofs.Paths.{never_full}
use Rattle.cache.specs.Entries.{rules}
use Rattle.cache.specs.Flags.{soonest_by, put_by_at, put_by}
use Rattle.cache.proofs.Soonest.{flags_laws}

-- ---- the query that is answered

module _ (r : Rules) (st : State) (y : Response) (x : Pending) (o : Option Pending) (found : o ≡ Some x) where
  pub wrong_apex : same x.query.apex y.apex ≡ false → hear_for r st y o ≡ Err WrongApex
  wrong_apex e = ap (hear_for r st y) found ∙ cond-false (same x.query.apex y.apex) (hear_fit r st x y.word (misfit x.query y.word.said)) (Err WrongApex) e

  module _ (right : same x.query.apex y.apex ≡ true) (p : Option Fault) (checked : p ≡ misfit x.query y.word.said) where
    pub by_check : hear_for r st y o ≡ hear_fit r st x y.word p
    by_check = ap (hear_for r st y) found ∙ cond-true (same x.query.apex y.apex) (hear_fit r st x y.word (misfit x.query y.word.said)) (Err WrongApex) right ∙ ap (hear_fit r st x y.word) (sym checked)

-- ---- putting its word in

no_flags : {A : Type 0} (xs : List A) → replicate (length xs) false ≡ map (λ _. false) xs
no_flags [] = refl
no_flags (x ∷ xs) = ap (λ us. false ∷ us) (no_flags xs)

pub first_flags : {A : Type 0} (xs : List A) (n : ℕ) → n ≡ length xs → n ≤ 1024 → take n (replicate 1024 false) ≡ map (λ _. false) xs
first_flags xs n e l = take-replicate n 1024 false l ∙ ap (λ m. replicate m false) e ∙ no_flags xs

-- times depend on the day alone
module _ (roots : List Server) where
  soonest_same : (us : List Bool) (es : List Entry) → soonest_by rules us es ≡ soonest_by (rules_of roots) us es
  unfolding soonest_by
  soonest_same [] es = refl
  soonest_same (u ∷ us) [] = refl
  soonest_same (u ∷ us) (e ∷ es) = ap (λ o. cond u (option_map suc o) (pick rules e es o)) (soonest_same us es)

  put_same : (us : List Bool) (e : Entry) (es : List Entry) (o : Option ℕ) → put_by_at rules us e es o ≡ put_by_at (rules_of roots) us e es o
  put_same us e es (Some i) = refl
  put_same us e es None = ap (λ o. cond (ltb (length es) max_entries) (Kept (es ++ (e ∷ []))) (oust e es o)) (soonest_same us es)

  rules_same : (us : List Bool) (e : Entry) (es : List Entry) → put_by rules us e es ≡ put_by (rules_of roots) us e es
  unfolding put_by
  rules_same us e es = put_same us e es _

-- ---- its word is put in, and the state after

-- s is the state with the tries counted, by whose time and cache the word is put in
module _ (roots : List Server) (st s : State) (x : Pending) (t : Word) (counted : s ≡ with_walks (count_tries (rules_of roots) st x st.walks) st) where
  module _ (us : List Bool) (e : Entry) (used : us ≡ map (in_use (rules_of roots) st) st.cache) (made : e ≡ entry_for s.now x.query t) where
    -- by the flags of what is in use it is put where the machine puts it
    pub put_is : put_by rules us e s.cache ≡ put (rules_of roots) (in_use (rules_of roots) st) (entry_for st.now x.query t) st.cache
    put_is =
        rules_same roots us e s.cache
        ∙ (λ i. put_by (rules_of roots) (used i) ((made ∙ ap (λ (y : State). entry_for y.now x.query t) counted) i) (counted i).cache)
        ∙ flags_laws.by_use (rules_of roots) (in_use (rules_of roots) st) (entry_for st.now x.query t) st.cache

    pub has_room : one_a_key st.cache ≡ true → length st.walks ≤ 16 → put_by rules us e s.cache ≡ NoRoom → ⊥
    has_room one few h = never_full (rules_of roots) st one few (entry_for st.now x.query t) (sym put_is ∙ h)

  pub kept_so : (ps : List Pending) (es : List Entry) → ps ≡ close_in x.query.id s.pending → record { now = s.now; pending = ps; cache = es; walks = s.walks } ≡ keep (rules_of roots) st x es
  kept_so ps es e =
      (λ i. record { now = s.now; pending = e i; cache = es; walks = s.walks })
      ∙ (λ i. record { now = (counted i).now; pending = close_in x.query.id (counted i).pending; cache = es; walks = (counted i).walks })

pub heard_is : (r : Rules) (y : Response) (st : State) (h : Result Heard Fault) → hear_for r st y (first (λ (x : Pending). nat_eq x.query.id y.id) st.pending) ≡ h → hear r y st ≡ h
unfolding hear
heard_is r y st h e = e
