-- Queries that run out, counted one by one.
use Rattle.std.proofs.Common.{◌≡◌, ℕ, ◌+◌, ◌<◌, ◌≤◌, Bool, true, false, not, List, ◌∷◌, map, length, get_or, drop, sym, ap, ◌∙◌}
use Rattle.std.proofs.lemmas.List.{drop_more, drop_all}
use Rattle.protocol.specs.Lists.{kept}
use Rattle.protocol.specs.Words.{Server}
use Rattle.protocol.specs.World.{Rules, rules_of}
use Rattle.protocol.proofs.Lists.{kept_here, kept_not}
use Rattle.machine.specs.Machine.{Question, Pending, State, with_walks, count_tries, is_open, count_all, tick}
use Rattle.cache.specs.Entries.{rules as times}

-- of the pending queries that elements stand for, those before a place that pass are counted
module _ {X : Type 0} (f : X → Pending) (test : Pending → Bool) (r : Rules) (st : State) (xs : List X) where
  abbrev counted_from : ℕ → List Question → List Question
  counted_from i us = count_all r st (kept test (map f (drop i xs))) us

  abbrev pub Counted : ℕ → List Question → List Question → Type 0
  Counted i before us = counted_from i us ≡ count_all r st (kept test (map f xs)) before

  split : (i : ℕ) (x : X) → i < length xs → x ≡ get_or xs i x → map f (drop i xs) ≡ f x ∷ map f (drop (i + 1) xs)
  split i x l e = ap (map f) (drop_more xs i x l) ∙ ap (λ y. f y ∷ map f (drop (i + 1) xs)) (sym e)

  pub passed_by : (i : ℕ) (x : X) (before us vs : List Question) → i < length xs → x ≡ get_or xs i x → test (f x) ≡ false → vs ≡ us → Counted i before us → Counted (i + 1) before vs
  passed_by i x before us vs l e t same h =
      ap (counted_from (i + 1)) same
      ∙ sym (ap (λ ys. count_all r st ys us) (ap (kept test) (split i x l e) ∙ kept_not test (f x) (map f (drop (i + 1) xs)) t)) ∙ h

  pub counted_one : (i : ℕ) (x : X) (before us vs : List Question) → i < length xs → x ≡ get_or xs i x → test (f x) ≡ true → vs ≡ count_tries r st (f x) us → Counted i before us → Counted (i + 1) before vs
  unfolding count_all
  counted_one i x before us vs l e t step h =
      ap (counted_from (i + 1)) step
      ∙ sym (ap (λ ys. count_all r st ys us) (ap (kept test) (split i x l e) ∙ kept_here test (f x) (map f (drop (i + 1) xs)) t)) ∙ h

  pub all_counted : (i : ℕ) (before us : List Question) → length xs ≤ i → Counted i before us → us ≡ count_all r st (kept test (map f xs)) before
  unfolding count_all kept
  all_counted i before us l h = sym (ap (λ ys. count_all r st (kept test (map f ys)) us) (drop_all i xs l)) ∙ h

-- the state after, with those that ran out taken from the table
pub ticked : (roots : List Server) (st s : State) (next : ℕ) (ps : List Pending) → next ≡ st.now + 1 → s ≡ with_walks (count_all (rules_of roots) st (kept (λ x. not (is_open times next x)) st.pending) st.walks) st → ps ≡ kept (is_open times next) s.pending → record { now = next; pending = ps; cache = s.cache; walks = s.walks } ≡ tick (rules_of roots) st
unfolding tick
ticked roots st s next ps now_is e table =
    (λ i. record { now = next; pending = (table ∙ ap (λ (y : State). kept (is_open times next) y.pending) e) i; cache = (e i).cache; walks = (e i).walks })
    ∙ (λ i. record { now = now_is i; pending = kept (is_open times (now_is i)) st.pending; cache = st.cache; walks = count_all (rules_of roots) st (kept (λ x. not (is_open times (now_is i) x)) st.pending) st.walks })
