-- The ways of putting an entry in, and that each leaves no two entries of one key.
use Rattle.std.proofs.Common.{◌≡◌, ℕ, ◌<◌, ◌≤◌, Bool, true, cond, ltb, List, [], ◌∷◌, ◌++◌, length, get_or, set, Some, None, sym, ap, ◌∙◌, inl, true≢false}
use Rattle.std.proofs.lemmas.Bool.{cond-true, cond-false, lt-ltb, le-ltb}
use Rattle.protocol.specs.World.{Rules, Entry}
use Rattle.machine.specs.Store.{max_entries, place_of, one_a_key, soonest, Put, Kept, Ousted, NoRoom, oust, put_at, put}
use Rattle.machine.proofs.Keys.{of_key, place_none, set_one, placed, placed_at, placed_self}
use Rattle.machine.proofs.Storing.{store_laws}
use Rattle.cache.specs.Flags.{soonest_by, put_by_at, put_by}

module _ (r : Rules) (us : List Bool) (e : Entry) (es : List Entry) where
  pub put_replaces : (i : ℕ) → Some i ≡ place_of (of_key e) es → put_by r us e es ≡ Kept (set es i e)
  unfolding put_by
  put_replaces i h = ap (put_by_at r us e es) (sym h)

  full : (fs : List Entry) (p : Put) → max_entries ≤ length es → cond (ltb (length es) max_entries) (Kept fs) p ≡ p
  full fs p l = cond-false (ltb (length es) max_entries) (Kept fs) p (le-ltb (length es) max_entries l)

  pub put_appends : None ≡ place_of (of_key e) es → length es < max_entries → put_by r us e es ≡ Kept (es ++ (e ∷ []))
  unfolding put_by
  put_appends h l = ap (put_by_at r us e es) (sym h) ∙ cond-true (ltb (length es) max_entries) (Kept (es ++ (e ∷ []))) (oust e es (soonest_by r us es)) (lt-ltb (length es) max_entries l)

  pub put_ousts : None ≡ place_of (of_key e) es → max_entries ≤ length es → (i : ℕ) → Some i ≡ soonest_by r us es → put_by r us e es ≡ Ousted i (set es i e)
  unfolding put_by
  put_ousts h l i s = ap (put_by_at r us e es) (sym h) ∙ full (es ++ (e ∷ [])) (oust e es (soonest_by r us es)) l ∙ ap (oust e es) (sym s)

  pub put_refuses : None ≡ place_of (of_key e) es → max_entries ≤ length es → None ≡ soonest_by r us es → put_by r us e es ≡ NoRoom
  unfolding put_by
  put_refuses h l s = ap (put_by_at r us e es) (sym h) ∙ full (es ++ (e ∷ [])) (oust e es (soonest_by r us es)) l ∙ ap (oust e es) (sym s)

module _ (r : Rules) (e : Entry) (es : List Entry) (o : one_a_key es ≡ true) where
  pub one_replaced : (i : ℕ) → Some i ≡ place_of (of_key e) es → one_a_key (set es i e) ≡ true
  one_replaced i h = set_one (of_key e) es i e (placed e es i o (sym h)) o (λ f m t k. true≢false (sym k ∙ t))

  pub one_appended : None ≡ place_of (of_key e) es → length es < max_entries → one_a_key (es ++ (e ∷ [])) ≡ true
  unfolding put
  one_appended h l =
      store_laws.keeps_keys r (λ _. true) e es (es ++ (e ∷ [])) o
      (inl (ap (put_at r (λ _. true) e es) (sym h) ∙ cond-true (ltb (length es) max_entries) (Kept (es ++ (e ∷ []))) (oust e es (soonest r (λ _. true) es)) (lt-ltb (length es) max_entries l)))

  pub one_ousted : None ≡ place_of (of_key e) es → (i : ℕ) → i < length es → one_a_key (set es i e) ≡ true
  one_ousted h i l = set_one (of_key (get_or es i e)) es i e (placed_self es i e o l) o (λ f m t k. place_none (of_key e) es (sym h) f m k)

  pub place_within : (i : ℕ) → Some i ≡ place_of (of_key e) es → i < length es
  place_within i h = (placed_at (of_key e) es i (placed e es i o (sym h))).0
