-- The laws of putting an entry into the cache.
use Rattle.std.proofs.Common.{◌≡◌, ℕ, zero, suc, ◌<◌, ◌≤◌, Bool, true, false, cond, ◌&&◌, eqb, ltb, ◌⊎◌, List, [], ◌∷◌, ◌++◌, length, get_or, set, Some, None, Option, sym, refl, ap, ◌∙◌, subst, inl, inr, ⊎_elim, true≢false, arith, length-append}
use mathlib.Core.List.Memᴰ
use mathlib.Core.List.{Memᴰ}
use Rattle.std.specs.Option.{option_map}
use Rattle.std.proofs.lemmas.Bool.{cond-true, cond-false, and_parts, or_cases, or_parts, ltb-true, ltb-false, eqb-true}
use Rattle.protocol.specs.Lists.{any}
use Rattle.protocol.specs.World.{Rules, Entry, until}
use Rattle.protocol.proofs.Lists.{none_any}
use Rattle.machine.specs.Store.{max_entries, place_of, one_a_key, sooner, pick, soonest, Put, Kept, Ousted, NoRoom, oust, put_at, put, OustedFirst, StoreLaws}
use Rattle.machine.proofs.Keys.{of_key, key_so, so_key, one_tail, one_head, one_more, place_none, set_length, Left, set_in, in_set, set_one, placed, placed_self}

-- ---- the one that runs out first

sooner_le : (r : Rules) (a b : Entry) → sooner r a b ≡ true → until r a ≤ until r b
sooner_le r a b h =
    ⊎_elim (λ l. let k = ltb-true (until r a) (until r b) l in omega arith)
    (λ e. let k = eqb-true (until r a) (until r b) (and_parts (eqb (until r a) (until r b)) (ltb a.heard b.heard) e).0 in omega arith)
    (or_cases (ltb (until r a) (until r b)) (eqb (until r a) (until r b) && ltb a.heard b.heard) h)

not_sooner : (r : Rules) (a b : Entry) → sooner r a b ≡ false → until r b ≤ until r a
not_sooner r a b h = ltb-false (until r a) (until r b) (or_parts (ltb (until r a) (until r b)) (eqb (until r a) (until r b) && ltb a.heard b.heard) h).0

get_d_any : (es : List Entry) (i : ℕ) (c d : Entry) → i < length es → get_or es i c ≡ get_or es i d
get_d_any [] i c d l = absurd (omega arith)
get_d_any (e ∷ es) zero c d l = refl
get_d_any (e ∷ es) (suc i) c d l = get_d_any es i c d (omega arith)

mem_at : (es : List Entry) (i : ℕ) (d : Entry) → i < length es → Memᴰ (get_or es i d) es
mem_at [] i d l = absurd (omega arith)
mem_at (e ∷ es) zero d l = Memᴰ.head refl
mem_at (e ∷ es) (suc i) d l = Memᴰ.tail (mem_at es i d (omega arith))

module _ (r : Rules) (used : Entry → Bool) where
  abbrev pub AllUsed : List Entry → Type 0
  AllUsed es = (f : Entry) → Memᴰ f es → used f ≡ true

  pub record First (es : List Entry) (i : ℕ) : Type 0 where
    pub within_list : i < length es
    pub unused : (d : Entry) → used (get_or es i d) ≡ false
    pub least : (d f : Entry) → Memᴰ f es → used f ≡ false → until r (get_or es i d) ≤ until r f

  abbrev pub Found : List Entry → Option ℕ → Type 0
  Found es None = AllUsed es
  Found es (Some i) = First es i

  by_used : (e : Entry) (es : List Entry) (o : Option ℕ) → used e ≡ true → Found es o → Found (e ∷ es) (option_map suc o)
  by_used e es None u h = λ f m. ⊎_elim (λ a. ap used a ∙ u) (λ n. h f n) (Memᴰ.cases_cons m)
  by_used e es (Some i) u h =
      let l = h.within_list in
      record {
        within_list = omega arith;
        unused = h.unused;
        least = λ d f m k. ⊎_elim (λ a. absurd (true≢false (sym u ∙ sym (ap used a) ∙ k))) (λ n. h.least d f n k) (Memᴰ.cases_cons m);
      }

  at_front : (e : Entry) (es : List Entry) → used e ≡ false → ((f : Entry) → Memᴰ f es → used f ≡ false → until r e ≤ until r f) → First (e ∷ es) 0
  at_front e es u h =
      record {
        within_list = omega arith;
        unused = λ d. u;
        least = λ d f m k. ⊎_elim (λ a. let x = ap (until r) a in omega arith) (λ n. h f n k) (Memᴰ.cases_cons m);
      }

  by_unused : (e : Entry) (es : List Entry) (o : Option ℕ) → used e ≡ false → Found es o → Found (e ∷ es) (pick r e es o)
  by_unused e es None u h = at_front e es u (λ f m k. absurd (true≢false (sym (h f m) ∙ k)))
  by_unused e es (Some i) u h = go (sooner r (get_or es i e) e) refl
    where
      go : (b : Bool) → sooner r (get_or es i e) e ≡ b → Found (e ∷ es) (pick r e es (Some i))
      go true s =
          let l = h.within_list in
          let x = sooner_le r (get_or es i e) e s in
          subst (Found (e ∷ es)) (sym (cond-true (sooner r (get_or es i e) e) (Some (suc i)) (Some 0) s))
          (record {
            within_list = omega arith;
            unused = h.unused;
            least = λ d f m k. ⊎_elim (λ a. let y = ap (until r) a in let z = ap (until r) (get_d_any es i d e l) in omega arith) (λ n. h.least d f n k) (Memᴰ.cases_cons m);
          })
      go false s =
          let x = not_sooner r (get_or es i e) e s in
          subst (Found (e ∷ es)) (sym (cond-false (sooner r (get_or es i e) e) (Some (suc i)) (Some 0) s))
          (at_front e es u (λ f m k. let y = h.least e f m k in omega arith))

  pub finds_first : (es : List Entry) → Found es (soonest r used es)
  unfolding soonest
  finds_first [] = λ f m. absurd (Memᴰ.not-nil m)
  finds_first (e ∷ es) = go (used e) refl (finds_first es)
    where
      go : (b : Bool) → used e ≡ b → Found es (soonest r used es) → Found (e ∷ es) (cond (used e) (option_map suc (soonest r used es)) (pick r e es (soonest r used es)))
      go true u ih = subst (Found (e ∷ es)) (sym (cond-true (used e) (option_map suc (soonest r used es)) (pick r e es (soonest r used es)) u)) (by_used e es (soonest r used es) u ih)
      go false u ih = subst (Found (e ∷ es)) (sym (cond-false (used e) (option_map suc (soonest r used es)) (pick r e es (soonest r used es)) u)) (by_unused e es (soonest r used es) u ih)

-- ---- the ways of putting in

module _ (r : Rules) (used : Entry → Bool) (e : Entry) (es : List Entry) where
  pub data Way : Put → Type 0 where
    replaces : (i : ℕ) → place_of (of_key e) es ≡ Some i → Way (Kept (set es i e))
    appends : place_of (of_key e) es ≡ None → length es < max_entries → Way (Kept (es ++ (e ∷ [])))
    ousts : (i : ℕ) → place_of (of_key e) es ≡ None → First r used es i → Way (Ousted i (set es i e))
    cannot : max_entries ≤ length es → AllUsed r used es → Way NoRoom

  by_oust : (o : Option ℕ) → place_of (of_key e) es ≡ None → max_entries ≤ length es → Found r used es o → Way (oust e es o)
  by_oust None p l h = cannot l h
  by_oust (Some i) p l h = ousts i p h

  by_place : (o : Option ℕ) → place_of (of_key e) es ≡ o → Way (put_at r used e es o)
  by_place (Some i) p = replaces i p
  by_place None p = go (ltb (length es) max_entries) refl
    where
      go : (b : Bool) → ltb (length es) max_entries ≡ b → Way (put_at r used e es None)
      go true l = subst Way (sym (cond-true (ltb (length es) max_entries) (Kept (es ++ (e ∷ []))) (oust e es (soonest r used es)) l)) (appends p (ltb-true (length es) max_entries l))
      go false l = subst Way (sym (cond-false (ltb (length es) max_entries) (Kept (es ++ (e ∷ []))) (oust e es (soonest r used es)) l)) (by_oust (soonest r used es) p (ltb-false (length es) max_entries l) (finds_first r used es))

  pub way : Way (put r used e es)
  unfolding put
  way = by_place (place_of (of_key e) es) refl

-- ---- the laws

kept_is : (xs ys : List Entry) → Kept xs ≡ Kept ys → xs ≡ ys
kept_is xs ys h = cc

kept_not : (xs ys : List Entry) (i : ℕ) → Kept xs ≡ Ousted i ys → ⊥
kept_not xs ys i h = let w : ◌≡◌ {A = ℕ} 0 1 = cc in omega arith

ousted_is : (xs ys : List Entry) (i j : ℕ) → Ousted i xs ≡ Ousted j ys → xs ≡ ys
ousted_is xs ys i j h = cc

ousted_place : (xs ys : List Entry) (i j : ℕ) → Ousted i xs ≡ Ousted j ys → i ≡ j
ousted_place xs ys i j h = cc

no_room_kept : (xs : List Entry) → NoRoom ≡ Kept xs → ⊥
no_room_kept xs h = let w : ◌≡◌ {A = ℕ} 0 1 = cc in omega arith

no_room_ousted : (i : ℕ) (xs : List Entry) → NoRoom ≡ Ousted i xs → ⊥
no_room_ousted i xs h = let w : ◌≡◌ {A = ℕ} 0 1 = cc in omega arith

abbrev In : Put → List Entry → Type 0
In p fs = (p ≡ Kept fs) ⊎ ((i : ℕ) × (p ≡ Ousted i fs))

-- one more at the end
snoc_in : (es : List Entry) (e f : Entry) → Memᴰ f (es ++ (e ∷ [])) → (f ≡ e) ⊎ Memᴰ f es
snoc_in es e f m = ⊎_elim (λ n. inr n) (λ n. inl (Memᴰ.eq_of_singleton n)) (Memᴰ.append_cases es m)

snoc_one : (es : List Entry) (e : Entry) → one_a_key es ≡ true → ((f : Entry) → Memᴰ f es → of_key e f ≡ true → ⊥) → one_a_key (es ++ (e ∷ [])) ≡ true
snoc_one [] e o h = one_more e [] o (λ f m k. Memᴰ.not-nil m)
snoc_one (x ∷ xs) e o h =
    one_more x (xs ++ (e ∷ [])) (snoc_one xs e (one_tail x xs o) (λ f m k. h f (Memᴰ.tail m) k))
    (λ f m k. ⊎_elim (λ a. h x (Memᴰ.head refl) (turn x e (subst (λ y. of_key x y ≡ true) a k))) (λ n. one_head x xs o f n k) (snoc_in xs e f m))
  where
    turn : (a b : Entry) → of_key a b ≡ true → of_key b a ≡ true
    turn a b g = let s = key_so a b g in so_key b a (record { apex_is = sym s.apex_is; name_is = sym s.name_is; kind_is = sym s.kind_is })

module _ (r : Rules) (used : Entry → Bool) (e : Entry) (es fs : List Entry) where
  room_by : (p : Put) → Way r used e es p → one_a_key es ≡ true → length es ≤ max_entries → In p fs → length fs ≤ max_entries
  room_by p (replaces i q) o l (inl h) = let x = ap length (kept_is (set es i e) fs h) in let y = set_length (of_key e) es i e (placed e es i o q) in omega arith
  room_by p (replaces i q) o l (inr h) = absurd (kept_not (set es i e) fs h.0 h.1)
  room_by p (appends q k) o l (inl h) = let x = ap length (kept_is (es ++ (e ∷ [])) fs h) in let y = length-append es (e ∷ []) in omega arith
  room_by p (appends q k) o l (inr h) = absurd (kept_not (es ++ (e ∷ [])) fs h.0 h.1)
  room_by p (ousts i q f) o l (inl h) = absurd (kept_not fs (set es i e) i (sym h))
  room_by p (ousts i q f) o l (inr h) = let x = ap length (ousted_is (set es i e) fs i h.0 h.1) in let y = set_length (of_key (get_or es i e)) es i e (placed_self es i e o f.within_list) in omega arith
  room_by p (cannot l' a) o l (inl h) = absurd (no_room_kept fs h)
  room_by p (cannot l' a) o l (inr h) = absurd (no_room_ousted h.0 fs h.1)

  keys_by : (p : Put) → Way r used e es p → one_a_key es ≡ true → In p fs → one_a_key fs ≡ true
  keys_by p (replaces i q) o (inl h) = subst (λ xs. one_a_key xs ≡ true) (kept_is (set es i e) fs h) (set_one (of_key e) es i e (placed e es i o q) o (λ f m t k. true≢false (sym k ∙ t)))
  keys_by p (replaces i q) o (inr h) = absurd (kept_not (set es i e) fs h.0 h.1)
  keys_by p (appends q k) o (inl h) = subst (λ xs. one_a_key xs ≡ true) (kept_is (es ++ (e ∷ [])) fs h) (snoc_one es e o (place_none (of_key e) es q))
  keys_by p (appends q k) o (inr h) = absurd (kept_not (es ++ (e ∷ [])) fs h.0 h.1)
  keys_by p (ousts i q f) o (inl h) = absurd (kept_not fs (set es i e) i (sym h))
  keys_by p (ousts i q f) o (inr h) = subst (λ xs. one_a_key xs ≡ true) (ousted_is (set es i e) fs i h.0 h.1) (set_one (of_key (get_or es i e)) es i e (placed_self es i e o f.within_list) o (λ g m t k. place_none (of_key e) es q g m k))
  keys_by p (cannot l a) o (inl h) = absurd (no_room_kept fs h)
  keys_by p (cannot l a) o (inr h) = absurd (no_room_ousted h.0 fs h.1)

  kept_by : (p : Put) → Way r used e es p → one_a_key es ≡ true → p ≡ Kept fs → (f : Entry) → (Memᴰ f fs → Left (of_key e) e es f) × (Left (of_key e) e es f → Memᴰ f fs)
  kept_by p (replaces i q) o h f =
      let x = kept_is (set es i e) fs h in
      let s = placed e es i o q in
      (λ m. set_in (of_key e) es i e f s (subst (Memᴰ f) (sym x) m), λ l. subst (Memᴰ f) x (in_set (of_key e) es i e f s l))
  kept_by p (appends q k) o h f =
      let x = kept_is (es ++ (e ∷ [])) fs h in
      (λ m. ⊎_elim (λ a. inl a) (λ n. inr (n, not_key n (of_key e f) refl)) (snoc_in es e f (subst (Memᴰ f) (sym x) m)), λ l. subst (Memᴰ f) x (⊎_elim (λ a. Memᴰ.append_right es (Memᴰ.head a)) (λ n. Memᴰ.append_left (e ∷ []) n.0) l))
    where
      not_key : Memᴰ f es → (b : Bool) → of_key e f ≡ b → of_key e f ≡ false
      not_key n true g = absurd (place_none (of_key e) es q f n g)
      not_key n false g = g
  kept_by p (ousts i q g) o h f = absurd (kept_not fs (set es i e) i (sym h))
  kept_by p (cannot l a) o h f = absurd (no_room_kept fs h)

  abbrev Ousting : ℕ → Type 0
  Ousting i = OustedFirst r used es (get_or es i e) × (any (of_key e) es ≡ false) × ((f : Entry) → (Memᴰ f fs → Left (of_key (get_or es i e)) e es f) × (Left (of_key (get_or es i e)) e es f → Memᴰ f fs))

  ousted_by : (p : Put) (i : ℕ) → Way r used e es p → one_a_key es ≡ true → p ≡ Ousted i fs → Ousting i
  ousted_by p i (replaces j q) o h = absurd (kept_not (set es j e) fs i h)
  ousted_by p i (appends q k) o h = absurd (kept_not (es ++ (e ∷ [])) fs i h)
  ousted_by p i (cannot l a) o h = absurd (no_room_ousted i fs h)
  ousted_by p i (ousts j q f) o h =
      let x = ousted_is (set es j e) fs j i h in
      let s = placed_self es j e o f.within_list in
      subst Ousting (ousted_place (set es j e) fs j i h) (
        record { there = mem_at es j e f.within_list; unused = f.unused e; first_out = f.least e },
        none_any (of_key e) es (λ g m. not_key g m (of_key e g) refl),
        λ g. (λ m. set_in (of_key (get_or es j e)) es j e g s (subst (Memᴰ g) (sym x) m), λ l. subst (Memᴰ g) x (in_set (of_key (get_or es j e)) es j e g s l)),
      )
    where
      not_key : (g : Entry) → Memᴰ g es → (b : Bool) → of_key e g ≡ b → of_key e g ≡ false
      not_key g n true k = absurd (place_none (of_key e) es q g n k)
      not_key g n false k = k

no_room_by : (r : Rules) (used : Entry → Bool) (e : Entry) (es : List Entry) (p : Put) → Way r used e es p → p ≡ NoRoom → (max_entries ≤ length es) × ((f : Entry) → Memᴰ f es → used f ≡ true)
no_room_by r used e es p (replaces i q) h = absurd (no_room_kept (set es i e) (sym h))
no_room_by r used e es p (appends q k) h = absurd (no_room_kept (es ++ (e ∷ [])) (sym h))
no_room_by r used e es p (ousts i q f) h = absurd (no_room_ousted i (set es i e) (sym h))
no_room_by r used e es p (cannot l a) h = (l, a)

pub store_laws : StoreLaws
store_laws = record {
  keeps_room = λ r used e es fs o l h. room_by r used e es fs (put r used e es) (way r used e es) o l h;
  keeps_keys = λ r used e es fs o h. keys_by r used e es fs (put r used e es) (way r used e es) o h;
  kept = λ r used e es fs o h. kept_by r used e es fs (put r used e es) (way r used e es) o h;
  ousted = λ r used e es fs i o h. ousted_by r used e es fs (put r used e es) i (way r used e es) o h;
  no_room = λ r used e es h. no_room_by r used e es (put r used e es) (way r used e es) h;
}
