-- A set more: the topmost delegations stay right.
use Rattle.std.proofs.Common.{◌≡◌, ℕ, zero, suc, ◌+◌, ◌-◌, ◌<◌, ◌≤◌, Bool, true, false, cond, not, ◌&&◌, ◌||◌, eqb, ◌⊎◌, List, [], ◌∷◌, ◌++◌, map, length, get_or, take, drop, is_some, Some, None, Option, Ordering, Less, Equal, Greater, sym, refl, ap, ◌∙◌, subst, inl, inr, ⊎_elim, true≢false, length-append, length-drop, length-take, drop-drop, arith}
use mathlib.Core.List.Memᴰ
use mathlib.Core.List.{Memᴰ}
use lib.ListN.{length-map}
use Rattle.std.specs.List.{insert, remove_range, slice_range}
use Rattle.std.specs.List.Sorted.{IsPartitionPoint, IsPartitionedBy}
use Rattle.std.proofs.lemmas.List.{map-append, take-map, drop-map, get_or-map, get_or-take, get_or-drop, length-take-le}
use Rattle.std.proofs.Math.Seq.{take-append_seam, drop-append_seam}
use Rattle.std.specs.Ordering.{is_lt, is_le, ordering_reverse}
use Rattle.std.proofs.lemmas.Bool.{and_from, or_left, or_right, cond-true, cond-false, not_from_false, cases_lt, cases_Bool, eq-eqb, eqb-true}
use Rattle.names.specs.Order.{order, within, NotAfter}
use Rattle.names.proofs.Order.{order_laws, order_flip, order_equal}
use Rattle.names.proofs.Within.{within_laws, within_itself}
use Rattle.meaning.specs.Model.{delegates, Set}
use Rattle.meaning.specs.Says.{same, is_exactly, find}
use Rattle.meaning.proofs.Finding.{Found, some, none, finds}
use Rattle.meaning.proofs.Rules.{so_same}
use Rattle.zones.specs.Sorted as sorts
use Rattle.zones.specs.Sorted.{is_before, each}
use Rattle.zones.specs.Valid.{insert_set}
use Rattle.zones.specs.Cuts.{apart, cuts_of, cut_place, cut_over, all_below, beyond, with_cut, with_any, no_other, new_cut}
use Rattle.zones.proofs.Places.{index_of, leading_more, leading_stop, leading_nil, leading_within, right_half}
use Rattle.zones.proofs.Insert.{insert_on, insert_here}
use Rattle.zones.proofs.Topmost.{each_so, so_each, so_some, apart_tail, apart_parts, pair_apart, cuts_fall, less_le, Covers, covers, uncovered, looks_over, right_so, so_right, at_cut, covered_so}

-- ---- members

pub in_new : (s : Set) (ss : List Set) → Memᴰ s (insert_set s ss)
unfolding insert_set
in_new s [] = Memᴰ.head refl
in_new s (t ∷ ss) = go (is_before s.name s.kind t) refl (in_new s ss)
  where
    go : (b : Bool) → is_before s.name s.kind t ≡ b → Memᴰ s (insert_set s ss) → Memᴰ s (insert_set s (t ∷ ss))
    go true e ih = subst (Memᴰ s) (sym (insert_on s t ss e)) (Memᴰ.tail ih)
    go false e ih = subst (Memᴰ s) (sym (insert_here s t ss e)) (Memᴰ.head refl)

in_old : (s : Set) (ss : List Set) (u : Set) → Memᴰ u ss → Memᴰ u (insert_set s ss)
in_old s [] u m = absurd (Memᴰ.not-nil m)
in_old s (t ∷ ss) u m = go (is_before s.name s.kind t) refl (in_old s ss u)
  where
    go : (b : Bool) → is_before s.name s.kind t ≡ b → (Memᴰ u ss → Memᴰ u (insert_set s ss)) → Memᴰ u (insert_set s (t ∷ ss))
    go true e ih = subst (Memᴰ u) (sym (insert_on s t ss e)) (⊎_elim (λ f. Memᴰ.head f) (λ l. Memᴰ.tail (ih l)) (Memᴰ.cases_cons m))
    go false e ih = subst (Memᴰ u) (sym (insert_here s t ss e)) (Memᴰ.tail m)

from_insert : (s : Set) (ss : List Set) (u : Set) → Memᴰ u (insert_set s ss) → (u ≡ s) ⊎ Memᴰ u ss
unfolding insert_set
from_insert s [] u m = ⊎_elim (λ e. inl e) (λ l. inr l) (Memᴰ.cases_cons m)
from_insert s (t ∷ ss) u m = go (is_before s.name s.kind t) refl (from_insert s ss u)
  where
    go : (b : Bool) → is_before s.name s.kind t ≡ b → (Memᴰ u (insert_set s ss) → (u ≡ s) ⊎ Memᴰ u ss) → (u ≡ s) ⊎ Memᴰ u (t ∷ ss)
    go true e ih =
        ⊎_elim (λ f. inr (Memᴰ.head f)) (λ l. ⊎_elim (λ f. inl f) (λ j. inr (Memᴰ.tail j)) (ih l))
        (Memᴰ.cases_cons (subst (Memᴰ u) (insert_on s t ss e) m))
    go false e ih = Memᴰ.cases_cons (subst (Memᴰ u) (insert_here s t ss e) m)

module _ (n : List (List ℕ)) where
  beyond_on : (c : List (List ℕ)) (cs : List (List (List ℕ))) → within n c ≡ true → beyond n (c ∷ cs) ≡ beyond n cs
  unfolding beyond
  beyond_on c cs h = cond-true (within n c) (beyond n cs) (c ∷ cs) h

  beyond_stop : (c : List (List ℕ)) (cs : List (List (List ℕ))) → within n c ≡ false → beyond n (c ∷ cs) ≡ c ∷ cs
  unfolding beyond
  beyond_stop c cs h = cond-false (within n c) (beyond n cs) (c ∷ cs) h

  pub with_on : (c : List (List ℕ)) (cs : List (List (List ℕ))) → is_le (order c n) ≡ true → with_cut n (c ∷ cs) ≡ c ∷ with_cut n cs
  unfolding with_cut
  with_on c cs h = cond-true (is_le (order c n)) (c ∷ with_cut n cs) (n ∷ beyond n (c ∷ cs)) h

  pub with_here : (c : List (List ℕ)) (cs : List (List (List ℕ))) → is_le (order c n) ≡ false → with_cut n (c ∷ cs) ≡ n ∷ beyond n (c ∷ cs)
  unfolding with_cut
  with_here c cs h = cond-false (is_le (order c n)) (c ∷ with_cut n cs) (n ∷ beyond n (c ∷ cs)) h

  from_beyond : (cs : List (List (List ℕ))) (c : List (List ℕ)) → Memᴰ c (beyond n cs) → Memᴰ c cs
  unfolding beyond
  from_beyond [] c m = m
  from_beyond (d ∷ cs) c m = go (within n d) refl (from_beyond cs c)
    where
      go : (b : Bool) → within n d ≡ b → (Memᴰ c (beyond n cs) → Memᴰ c cs) → Memᴰ c (d ∷ cs)
      go true e ih = Memᴰ.tail (ih (subst (Memᴰ c) (beyond_on d cs e) m))
      go false e ih = subst (Memᴰ c) (beyond_stop d cs e) m

  to_beyond : (cs : List (List (List ℕ))) (c : List (List ℕ)) → Memᴰ c cs → Memᴰ c (beyond n cs) ⊎ (within n c ≡ true)
  to_beyond [] c m = absurd (Memᴰ.not-nil m)
  to_beyond (d ∷ cs) c m = go (within n d) refl (to_beyond cs c)
    where
      go : (b : Bool) → within n d ≡ b → (Memᴰ c cs → Memᴰ c (beyond n cs) ⊎ (within n c ≡ true)) → Memᴰ c (beyond n (d ∷ cs)) ⊎ (within n c ≡ true)
      go true e ih = ⊎_elim (λ f. inr (ap (within n) f ∙ e)) (λ l. ⊎_elim (λ j. inl (subst (Memᴰ c) (sym (beyond_on d cs e)) j)) (λ w. inr w) (ih l)) (Memᴰ.cases_cons m)
      go false e ih = inl (subst (Memᴰ c) (sym (beyond_stop d cs e)) m)

  with_new : (cs : List (List (List ℕ))) → Memᴰ n (with_cut n cs)
  unfolding with_cut
  with_new [] = Memᴰ.head refl
  with_new (c ∷ cs) = go (is_le (order c n)) refl (with_new cs)
    where
      go : (b : Bool) → is_le (order c n) ≡ b → Memᴰ n (with_cut n cs) → Memᴰ n (with_cut n (c ∷ cs))
      go true e ih = subst (Memᴰ n) (sym (with_on c cs e)) (Memᴰ.tail ih)
      go false e ih = subst (Memᴰ n) (sym (with_here c cs e)) (Memᴰ.head refl)

  with_old : (cs : List (List (List ℕ))) (c : List (List ℕ)) → Memᴰ c cs → Memᴰ c (with_cut n cs) ⊎ (within n c ≡ true)
  with_old [] c m = absurd (Memᴰ.not-nil m)
  with_old (d ∷ cs) c m = go (is_le (order d n)) refl (with_old cs c)
    where
      go : (b : Bool) → is_le (order d n) ≡ b → (Memᴰ c cs → Memᴰ c (with_cut n cs) ⊎ (within n c ≡ true)) → Memᴰ c (with_cut n (d ∷ cs)) ⊎ (within n c ≡ true)
      go true e ih =
          ⊎_elim (λ f. inl (subst (Memᴰ c) (sym (with_on d cs e)) (Memᴰ.head f))) (λ l. ⊎_elim (λ j. inl (subst (Memᴰ c) (sym (with_on d cs e)) (Memᴰ.tail j))) (λ w. inr w) (ih l))
          (Memᴰ.cases_cons m)
      go false e ih = ⊎_elim (λ j. inl (subst (Memᴰ c) (sym (with_here d cs e)) (Memᴰ.tail j))) (λ w. inr w) (to_beyond (d ∷ cs) c m)

  from_with : (cs : List (List (List ℕ))) (c : List (List ℕ)) → Memᴰ c (with_cut n cs) → (c ≡ n) ⊎ Memᴰ c cs
  unfolding with_cut
  from_with [] c m = ⊎_elim (λ e. inl e) (λ l. inr l) (Memᴰ.cases_cons m)
  from_with (d ∷ cs) c m = go (is_le (order d n)) refl (from_with cs c)
    where
      go : (b : Bool) → is_le (order d n) ≡ b → (Memᴰ c (with_cut n cs) → (c ≡ n) ⊎ Memᴰ c cs) → (c ≡ n) ⊎ Memᴰ c (d ∷ cs)
      go true e ih =
          ⊎_elim (λ f. inr (Memᴰ.head f)) (λ l. ⊎_elim (λ f. inl f) (λ j. inr (Memᴰ.tail j)) (ih l))
          (Memᴰ.cases_cons (subst (Memᴰ c) (with_on d cs e) m))
      go false e ih = ⊎_elim (λ f. inl f) (λ l. inr (from_beyond (d ∷ cs) c l)) (Memᴰ.cases_cons (subst (Memᴰ c) (with_here d cs e) m))

  -- ---- still in order and apart

  after : (c : List (List ℕ)) (r : Ordering) → order c n ≡ r → is_le r ≡ false → is_lt (order n c) ≡ true
  after c Less e h = absurd (true≢false h)
  after c Equal e h = absurd (true≢false h)
  after c Greater e h = ap is_lt (order_flip n c ∙ ap ordering_reverse e)

  ahead : (c : List (List ℕ)) (r : Ordering) → order c n ≡ r → is_le r ≡ true → within c n ≡ false → is_lt (order c n) ≡ true
  ahead c Less e h f = ap is_lt e
  ahead c Equal e h f = absurd (true≢false (sym (subst (λ x. within c x ≡ true) (order_equal c n e) (within_itself c)) ∙ f))
  ahead c Greater e h f = absurd (true≢false (sym h))

  join : (c d : List (List ℕ)) (cs : List (List (List ℕ))) → is_lt (order c d) ≡ true → within c d ≡ false → apart (d ∷ cs) ≡ true → apart (c ∷ d ∷ cs) ≡ true
  unfolding apart
  join c d cs l w h = and_from (is_lt (order c d) && not (within c d)) (apart (d ∷ cs)) (and_from (is_lt (order c d)) (not (within c d)) l (not_from_false (within c d) w)) h

  beyond_apart : (cs : List (List (List ℕ))) → apart cs ≡ true → ((c : List (List ℕ)) → Memᴰ c cs → is_lt (order n c) ≡ true) → apart (n ∷ beyond n cs) ≡ true
  unfolding apart beyond
  beyond_apart [] o h = refl
  beyond_apart (c ∷ cs) o h = go (within n c) refl (beyond_apart cs (apart_tail c cs o) (λ e m. h e (Memᴰ.tail m)))
    where
      go : (b : Bool) → within n c ≡ b → apart (n ∷ beyond n cs) ≡ true → apart (n ∷ beyond n (c ∷ cs)) ≡ true
      go true e ih = ap (λ x. apart (n ∷ x)) (beyond_on c cs e) ∙ ih
      go false e ih = ap (λ x. apart (n ∷ x)) (beyond_stop c cs e) ∙ join n c cs (h c (Memᴰ.head refl)) e o

  -- what stands behind one that is after the name is after it too
  all_after : (c : List (List ℕ)) (cs : List (List (List ℕ))) → apart (c ∷ cs) ≡ true → is_le (order c n) ≡ false → (e : List (List ℕ)) → Memᴰ e (c ∷ cs) → is_lt (order n e) ≡ true
  all_after c cs o f e m = after e (order e n) refl (⊎_elim (λ (le : is_le (order e n) ≡ true). absurd (true≢false (sym (order_laws.transitive c e n (first e m) le) ∙ f))) (λ g. g) (cases_Bool (is_le (order e n))))
    where
      first : (e : List (List ℕ)) → Memᴰ e (c ∷ cs) → NotAfter c e
      first e m = go (index_of (c ∷ cs) c e m)
        where
          go : (i : ℕ) × (i < length (c ∷ cs)) × (get_or (c ∷ cs) i c ≡ e) → NotAfter c e
          go p = subst (NotAfter c) p.2 (from_first p.0 p.1)
            where
              from_first : (i : ℕ) → i < length (c ∷ cs) → NotAfter c (get_or (c ∷ cs) i c)
              from_first zero l = order_laws.above_first c c (within_itself c)
              from_first (suc i) l = (pair_apart (c ∷ cs) o c 0 (suc i) (omega arith) l).0

  abbrev None-over : List (List (List ℕ)) → Type 0
  None-over cs = (c : List (List ℕ)) → Memᴰ c cs → within c n ≡ false

  behind_apart : (c : List (List ℕ)) (cs : List (List (List ℕ))) → apart (c ∷ cs) ≡ true → is_lt (order c n) ≡ true → within c n ≡ false → None-over cs → apart (c ∷ with_cut n cs) ≡ true
  unfolding apart with_cut
  behind_apart c [] o l w h = join c n [] l w refl
  behind_apart c (d ∷ cs) o l w h = go (is_le (order d n)) refl (λ lt. behind_apart d cs (apart_parts c d cs o).2 lt (h d (Memᴰ.head refl)) (λ e m. h e (Memᴰ.tail m)))
    where
      go : (b : Bool) → is_le (order d n) ≡ b → (is_lt (order d n) ≡ true → apart (d ∷ with_cut n cs) ≡ true) → apart (c ∷ with_cut n (d ∷ cs)) ≡ true
      go true e ih =
          let p = apart_parts c d cs o in
          ap (λ x. apart (c ∷ x)) (with_on d cs e) ∙ join c d (with_cut n cs) p.0 p.1 (ih (ahead d (order d n) refl e (h d (Memᴰ.head refl))))
      go false e ih =
          let p = apart_parts c d cs o in
          ap (λ x. apart (c ∷ x)) (with_here d cs e) ∙ join c n (beyond n (d ∷ cs)) l w (beyond_apart (d ∷ cs) p.2 (all_after d cs p.2 e))

  with_apart : (cs : List (List (List ℕ))) → apart cs ≡ true → None-over cs → apart (with_cut n cs) ≡ true
  unfolding apart with_cut
  with_apart [] o h = refl
  with_apart (c ∷ cs) o h = go (is_le (order c n)) refl
    where
      go : (b : Bool) → is_le (order c n) ≡ b → apart (with_cut n (c ∷ cs)) ≡ true
      go true e = ap apart (with_on c cs e) ∙ behind_apart c cs o (ahead c (order c n) refl e (h c (Memᴰ.head refl))) (h c (Memᴰ.head refl)) (λ d m. h d (Memᴰ.tail m))
      go false e = ap apart (with_here c cs e) ∙ beyond_apart (c ∷ cs) o (all_after c cs o e)

pub new_apart : (n : List (List ℕ)) (cs : List (List (List ℕ))) → apart cs ≡ true → None ≡ cut_over n cs → apart (with_cut n cs) ≡ true
new_apart n cs o fresh = with_apart n cs o (none_over (cut_over n cs) (looks_over n cs) fresh)
  where
    none_over : (x : Option (List (List ℕ))) → Covers n cs x → None ≡ x → (c : List (List ℕ)) → Memᴰ c cs → within c n ≡ false
    none_over x (covers e m w) f c l = let z : ◌≡◌ {A = ℕ} 0 1 = cc in absurd (omega arith)
    none_over x (uncovered never) f c l = ⊎_elim (λ w. absurd (never c l w)) (λ g. g) (cases_Bool (within c n))

pub new_below : (apex n : List (List ℕ)) (cs : List (List (List ℕ))) → within apex n ≡ true → all_below apex cs ≡ true → all_below apex (with_cut n cs) ≡ true
new_below apex n cs inside below = so_each (within apex) (with_cut n cs) (λ c m. ⊎_elim (λ e. ap (within apex) e ∙ inside) (λ l. each_so (within apex) cs below c l) (from_with n cs c m))

-- ---- as the code makes it

module _ (n : List (List ℕ)) where
  -- with the name at an index, and none below it behind it
  abbrev pub placed : ℕ → List (List (List ℕ)) → List (List (List ℕ))
  placed i cs = take i cs ++ (n ∷ beyond n (drop i cs))

  -- those at the front that are below the name go
  beyond_drop : (m : ℕ) (cs : List (List (List ℕ))) → m ≤ length cs → ((i : ℕ) → i < m → within n (get_or cs i []) ≡ true) → (m < length cs → within n (get_or cs m []) ≡ false) → drop m cs ≡ beyond n cs
  unfolding beyond
  beyond_drop zero [] l h k = refl
  beyond_drop zero (c ∷ cs) l h k = sym (beyond_stop n c cs (k (omega arith)))
  beyond_drop (suc m) [] l h k = absurd (omega arith)
  beyond_drop (suc m) (c ∷ cs) l h k = beyond_drop m cs (omega arith) (λ i q. h (suc i) (omega arith)) (λ q. k (omega arith)) ∙ sym (beyond_on n c cs (h 0 (omega arith)))

  pub placed_with : (cs : List (List (List ℕ))) → placed (cut_place n cs) cs ≡ with_cut n cs
  unfolding with_cut beyond
  placed_with [] = ap (λ i. placed i []) (leading_nil (λ c. is_le (order c n)))
  placed_with (c ∷ cs) = go (is_le (order c n)) refl (placed_with cs)
    where
      go : (b : Bool) → is_le (order c n) ≡ b → placed (cut_place n cs) cs ≡ with_cut n cs → placed (cut_place n (c ∷ cs)) (c ∷ cs) ≡ with_cut n (c ∷ cs)
      go true e ih = ap (λ i. placed i (c ∷ cs)) (leading_more (λ c. is_le (order c n)) c cs e) ∙ ap (λ x. c ∷ x) ih ∙ sym (with_on n c cs e)
      go false e ih = ap (λ i. placed i (c ∷ cs)) (leading_stop (λ c. is_le (order c n)) c cs e) ∙ sym (with_here n c cs e)

module _ {X : Type 0} (f : X → List (List ℕ)) (n : List (List ℕ)) (xs : List X) (o : apart (map f xs) ≡ true) (at : ℕ) (p : at ≡ cut_place n (map f xs)) where
  -- those that are after the name
  abbrev pub behind : List X
  behind = slice_range xs at (length xs)

  inside : at ≤ length xs
  inside = let w = leading_within (λ c. is_le (order c n)) (map f xs) in let m = length-map xs f in omega arith

  behind_len : length behind ≡ length xs - at
  behind_len = let r = length-drop at xs in let l = inside in length-take-le (length xs - at) (drop at xs) (omega arith)

  behind_at : (i : ℕ) (d : X) → at + i < length xs → get_or behind i d ≡ get_or xs (at + i) d
  behind_at i d l = get_or-take (length xs - at) (drop at xs) i d (omega arith) ∙ get_or-drop at xs i d

  all_behind : (i : ℕ) (d : X) → at ≤ i → i < length xs → NotAfter n (f (get_or xs i d))
  all_behind i d l k =
      let m = length-map xs f in
      let e = get_or-map f xs i d (f d) k in
      ⊎_elim
      (λ (t : is_le (order (f (get_or xs i d)) n) ≡ true).
      let r = right_half (λ c. is_le (order c n)) (map f xs) (cuts_fall n (map f xs) o) (f d) i (omega arith) (ap (λ c. is_le (order c n)) e ∙ t) in
      absurd (omega arith))
      (λ t. less_le (order n (f (get_or xs i d))) (after n (f (get_or xs i d)) (order (f (get_or xs i d)) n) refl t))
      (cases_Bool (is_le (order (f (get_or xs i d)) n)))

  rises : (i j : ℕ) (d : X) → i ≤ j → j < length xs → NotAfter (f (get_or xs i d)) (f (get_or xs j d))
  rises i j d le l =
      let m = length-map xs f in
      ⊎_elim
      (λ (lt : i < j). (λ t. is_le (order (sym (get_or-map f xs i d (f d) (omega arith)) t) (sym (get_or-map f xs j d (f d) l) t))) ∙ (pair_apart (map f xs) o (f d) i j lt (omega arith)).0)
      (λ (ge : j ≤ i). let e : i ≡ j = omega arith in subst (λ k. NotAfter (f (get_or xs i d)) (f (get_or xs k d))) e (order_laws.above_first (f (get_or xs i d)) (f (get_or xs i d)) (within_itself (f (get_or xs i d)))))
      (cases_lt i j)

  -- of those the ones below the name come first
  pub below_part : IsPartitionedBy (λ x. within n (f x)) behind
  below_part i j d le l h =
      let r = behind_len in
      let k = inside in
      ap (λ x. within n (f x)) (behind_at i d (omega arith))
      ∙ order_laws.between n (f (get_or xs (at + i) d)) (f (get_or xs (at + j) d)) (all_behind (at + i) d (omega arith) (omega arith)) (rises (at + i) (at + j) d (omega arith) (omega arith))
      (ap (λ x. within n (f x)) (sym (behind_at j d (omega arith))) ∙ h)

  module _ (m : ℕ) (few : m ≤ length behind) (q : IsPartitionPoint (λ x. within n (f x) ≡ true) (λ x. within n (f x) ≡ false) behind m) where
    some_at : 0 < length xs → X
    some_at q = first xs q
      where
        first : (ys : List X) → 0 < length ys → X
        first [] q = absurd (omega arith)
        first (y ∷ ys) q = y

    read : (i : ℕ) (x : X) → at + i < length xs → within n (get_or (drop at (map f xs)) i []) ≡ within n (f (get_or behind i x))
    read i x l =
        ap (within n) (get_or-drop at (map f xs) i [] ∙ get_or-map f xs (at + i) x [] l) ∙ ap (λ y. within n (f y)) (sym (behind_at i x l))

    gone : drop m (drop at (map f xs)) ≡ beyond n (drop at (map f xs))
    gone =
        let r = behind_len in
        let k = inside in
        let c = length-map xs f in
        let d = length-drop at (map f xs) in
        beyond_drop n m (drop at (map f xs)) (omega arith)
        (λ i l. let x = some_at (omega arith) in read i x (omega arith) ∙ q.0 i x (omega arith) l)
        (λ l. let x = some_at (omega arith) in read m x (omega arith) ∙ q.1 m x (omega arith) (omega arith))

    front_part : take at (take at xs ++ drop (at + m) xs) ≡ take at xs
    front_part = let k = inside in ap (λ i. take i (take at xs ++ drop (at + m) xs)) (sym (length-take-le at xs k)) ∙ take-append_seam (take at xs) (drop (at + m) xs)

    back_part : drop at (take at xs ++ drop (at + m) xs) ≡ drop (at + m) xs
    back_part = let k = inside in ap (λ i. drop i (take at xs ++ drop (at + m) xs)) (sym (length-take-le at xs k)) ∙ drop-append_seam (take at xs) (drop (at + m) xs)

    -- they are taken out, and the name put in
    pub put_over : (x : X) (zs ys : List X) → f x ≡ n → zs ≡ remove_range xs at (at + m) → ys ≡ insert zs at x → map f ys ≡ with_cut n (map f xs)
    put_over x zs ys e g h =
        ap (map f) (h ∙ ap (λ us. insert us at x) g ∙ (λ j. front_part j ++ (x ∷ back_part j)))
        ∙ map-append f (take at xs) (x ∷ drop (at + m) xs)
        ∙ (λ j. sym (take-map f at xs) j ++ (e j ∷ sym (drop-map f (at + m) xs) j))
        ∙ ap (λ us. take at (map f xs) ++ (n ∷ us)) (sym (drop-drop m at (map f xs)) ∙ gone)
        ∙ ap (λ i. placed n i (map f xs)) p
        ∙ placed_with n (map f xs)

-- there is no more then than there was
pub fewer : {X : Type 0} (xs zs : List X) (i j : ℕ) → i ≤ j → zs ≡ remove_range xs i j → length zs ≤ length xs
fewer xs zs i j l e =
    let a = ap length e in
    let b = length-append (take i xs) (drop j xs) in
    let c = length-drop j xs in
    let d = length-take i xs in
    omega arith

-- ---- still right

there_from : (ss : List Set) (c : List (List ℕ)) (s : Set) → Memᴰ s ss → s.name ≡ c → s.kind ≡ 4 → is_some (find (is_exactly c 4) ss) ≡ true
there_from ss c s m e k = go (find (is_exactly c 4) ss) (finds (is_exactly c 4) ss)
  where
    go : (x : Option Set) → Found (is_exactly c 4) ss x → is_some x ≡ true
    go x (some t l p) = refl
    go x (none never) = absurd (never s m (and_from (same s.name c) (eqb s.kind 4) (so_same s.name c e) (eq-eqb s.kind 4 k)))

module _ (apex : List (List ℕ)) (ss : List Set) (cs : List (List (List ℕ))) (h : cuts_of apex ss cs ≡ true) (s : Set) where
  abbrev covered : List (List (List ℕ)) → Set → Bool
  covered ds t = not (delegates t.kind) || sorts.some (λ c. within c t.name) ds

  kept_there : (c : List (List ℕ)) → Memᴰ c cs → is_some (find (is_exactly c 4) (insert_set s ss)) ≡ true
  kept_there c m =
      let a = at_cut ss c (each_so (λ c. is_some (find (is_exactly c 4) ss)) cs (right_so apex ss cs h).there c m) in
      there_from (insert_set s ss) c a.0 (in_old s ss a.0 a.1) a.2 a.3

  -- a set that is no delegation, or lies below one
  pub kept_right : covered cs s ≡ true → cuts_of apex (insert_set s ss) cs ≡ true
  kept_right below =
      let r = right_so apex ss cs h in
      so_right apex (insert_set s ss) cs (record {
        ordered = r.ordered;
        below = r.below;
        there = so_each (λ c. is_some (find (is_exactly c 4) (insert_set s ss))) cs kept_there;
        all = so_each (covered cs) (insert_set s ss) (λ t m. ⊎_elim (λ e. ap (covered cs) e ∙ below) (λ l. each_so (covered cs) ss r.all t l) (from_insert s ss t m));
      })

  -- a new topmost one
  pub more_right : within apex s.name ≡ true → delegates s.kind ≡ true → None ≡ cut_over s.name cs → cuts_of apex (insert_set s ss) (with_cut s.name cs) ≡ true
  more_right inside d fresh =
      let r = right_so apex ss cs h in
      so_right apex (insert_set s ss) (with_cut s.name cs) (record {
        ordered = new_apart s.name cs r.ordered fresh;
        below = new_below apex s.name cs inside r.below;
        there = so_each (λ c. is_some (find (is_exactly c 4) (insert_set s ss))) (with_cut s.name cs) (λ c m. ⊎_elim (λ e. there_from (insert_set s ss) c s (in_new s ss) (sym e) (eqb-true s.kind 4 d)) (λ l. kept_there c l) (from_with s.name cs c m));
        all = so_each (covered (with_cut s.name cs)) (insert_set s ss) (λ t m. ⊎_elim (λ e. ap (covered (with_cut s.name cs)) e ∙ itself) (λ l. still t (each_so (covered cs) ss r.all t l) (delegates t.kind) refl) (from_insert s ss t m));
      })
    where
      itself : covered (with_cut s.name cs) s ≡ true
      itself = or_right (not (delegates s.kind)) (sorts.some (λ c. within c s.name) (with_cut s.name cs)) (so_some (λ c. within c s.name) (with_cut s.name cs) s.name (with_new s.name cs) (within_itself s.name))

      still : (t : Set) → covered cs t ≡ true → (b : Bool) → delegates t.kind ≡ b → covered (with_cut s.name cs) t ≡ true
      still t k false e = or_left (not (delegates t.kind)) (sorts.some (λ c. within c t.name) (with_cut s.name cs)) (not_from_false (delegates t.kind) e)
      still t k true e =
          let a = covered_so cs t k e in
          or_right (not (delegates t.kind)) (sorts.some (λ c. within c t.name) (with_cut s.name cs))
          (⊎_elim (λ m. so_some (λ c. within c t.name) (with_cut s.name cs) a.0 m a.2) (λ w. so_some (λ c. within c t.name) (with_cut s.name cs) s.name (with_new s.name cs) (within_laws.transitive s.name a.0 t.name w a.2)) (with_old s.name cs a.0 a.1))

  -- by whether it is a new topmost one
  kept_by : None ≡ new_cut s cs → cuts_of apex (insert_set s ss) cs ≡ true
  kept_by e = kept_right (go (delegates s.kind) refl (cut_over s.name cs) (looks_over s.name cs) e)
    where
      go : (b : Bool) → delegates s.kind ≡ b → (x : Option (List (List ℕ))) → Covers s.name cs x → None ≡ cond b (no_other s.name x) None → covered cs s ≡ true
      go false d x v f = or_left (not (delegates s.kind)) (sorts.some (λ c. within c s.name) cs) (not_from_false (delegates s.kind) d)
      go true d x (covers c m w) f = or_right (not (delegates s.kind)) (sorts.some (λ c. within c s.name) cs) (so_some (λ c. within c s.name) cs c m w)
      go true d x (uncovered never) f = let z : ◌≡◌ {A = ℕ} 0 1 = cc in absurd (omega arith)

  more_by : (n : List (List ℕ)) → within apex s.name ≡ true → Some n ≡ new_cut s cs → cuts_of apex (insert_set s ss) (with_cut n cs) ≡ true
  more_by n inside e = go (delegates s.kind) refl (cut_over s.name cs) refl (looks_over s.name cs) e
    where
      go : (b : Bool) → delegates s.kind ≡ b → (x : Option (List (List ℕ))) → cut_over s.name cs ≡ x → Covers s.name cs x → Some n ≡ cond b (no_other s.name x) None → cuts_of apex (insert_set s ss) (with_cut n cs) ≡ true
      go false d x g v f = let z : ◌≡◌ {A = ℕ} 0 1 = cc in absurd (omega arith)
      go true d x g (covers c m w) f = let z : ◌≡◌ {A = ℕ} 0 1 = cc in absurd (omega arith)
      go true d x g (uncovered never) f = let same_name : n ≡ s.name = cc in ap (λ y. cuts_of apex (insert_set s ss) (with_cut y cs)) same_name ∙ more_right inside d (sym g)

  pub one_more : within apex s.name ≡ true → cuts_of apex (insert_set s ss) (with_any (new_cut s cs) cs) ≡ true
  one_more inside = go (new_cut s cs) refl
    where
      go : (o : Option (List (List ℕ))) → new_cut s cs ≡ o → cuts_of apex (insert_set s ss) (with_any o cs) ≡ true
      go None e = kept_by (sym e)
      go (Some n) e = more_by n inside (sym e)
