-- The entry whose turn is first, of those not in use.
use Rattle.std.proofs.Common.{◌≡◌, ℕ, suc, ◌+◌, ◌<◌, Bool, true, false, not, cond, ltb, eqb, ◌&&◌, ◌||◌, ◌⊎◌, List, [], ◌∷◌, ◌++◌, map, length, get_or, Some, None, Option, sym, refl, ap, ◌∙◌, subst, inl, inr, true≢false, arith}
use Rattle.std.specs.declared.cmp.Ordering.{Ordering}
use Rattle.std.specs.declared.cmp.Ordering.TheVariants.{Less, Equal, Greater}
use Rattle.std.specs.Ordering.{nat_cmp, ordering_then, ordering_reverse, min_by_ordering, is_gt}
use Rattle.std.specs.Cmp.{IsTotalOrder}
use Rattle.std.specs.List.{filter, zip, enumerate_from, fold, reduce}
use Rattle.std.specs.Option.{option_map}
use Rattle.std.proofs.lemmas.Cmp.{upto, nat_cmp_total, on_total, then_total}
use Rattle.std.proofs.lemmas.List.{get_or_default}
use Rattle.std.proofs.lemmas.Bool.Decides.{nat_tests}
use Rattle.protocol.specs.World.{Rules, Entry, is_key, until}
use Rattle.machine.specs.Store.{max_entries, place_of, sooner, pick, soonest, Kept, oust, put_at, put}
use Rattle.cache.specs.declared.entry.Entry as rust
use Rattle.cache.specs.declared.word.Moment.{Moment}
use Rattle.cache.specs.Entries.{entry_of, rules, turn_of}
use Rattle.cache.specs.Flags.{soonest_by, put_by_at, put_by, FlagsLaws}
use Rattle.cache.proofs.Places.{probe}

blank : Entry
blank = probe [] [] 0

module _ (r : Rules) where
  abbrev Within : List Entry → Option ℕ → Type 0
  Within es None = Unit {0}
  Within es (Some j) = j < length es

  within_later : (e : Entry) (es : List Entry) (o : Option ℕ) → Within es o → Within (e ∷ es) (option_map suc o)
  within_later e es None h = tt
  within_later e es (Some j) h = omega arith

  within_picked : (e : Entry) (es : List Entry) (o : Option ℕ) → Within es o → Within (e ∷ es) (pick r e es o)
  within_picked e es None h = omega arith
  within_picked e es (Some j) h =
      elim (sooner r (get_or es j e) e) as (λ b. Within (e ∷ es) (cond b (Some (suc j)) (Some 0))) [ true ↦ omega arith | false ↦ omega arith ]

  is_within : (us : List Bool) (es : List Entry) → Within es (soonest_by r us es)
  unfolding soonest_by
  is_within [] es = tt
  is_within (u ∷ us) [] = tt
  is_within (u ∷ us) (e ∷ es) =
      let ih = is_within us es in
      elim u as (λ b. Within (e ∷ es) (cond b (option_map suc (soonest_by r us es)) (pick r e es (soonest_by r us es)))) [
        | true ↦ within_later e es (soonest_by r us es) ih
        | false ↦ within_picked e es (soonest_by r us es) ih
      ]

  pub by_within : (us : List Bool) (es : List Entry) (j : ℕ) → soonest_by r us es ≡ Some j → j < length es
  by_within us es j h = subst (Within es) h (is_within us es)

  -- flags of what is in use
  by_use : (used : Entry → Bool) (es : List Entry) → soonest_by r (map used es) es ≡ soonest r used es
  unfolding soonest_by soonest
  by_use used [] = refl
  by_use used (e ∷ es) = ap (λ o. cond (used e) (option_map suc o) (pick r e es o)) (by_use used es)

  put_by_use : (used : Entry → Bool) (e : Entry) (es : List Entry) (o : Option ℕ) → put_by_at r (map used es) e es o ≡ put_at r used e es o
  put_by_use used e es (Some i) = refl
  put_by_use used e es None = ap (λ o. cond (ltb (length es) max_entries) (Kept (es ++ (e ∷ []))) (oust e es o)) (by_use used es)

-- ---- the lesser of two, of a total order, from the front on and from the back on

gt_cases : (o : Ordering) → (o ≡ Greater) ⊎ (is_gt o ≡ false)
gt_cases Less = inr refl
gt_cases Equal = inr refl
gt_cases Greater = inl refl

module _ {K : Type 0} {R : K → K → Ordering} (o : IsTotalOrder R) where
  abbrev lesser : K → K → K
  lesser x y = min_by_ordering (R x y) x y

  keeps : (x y : K) → is_gt (R x y) ≡ false → lesser x y ≡ x
  keeps x y = go (R x y)
    where
      go : (r : Ordering) → is_gt r ≡ false → min_by_ordering r x y ≡ x
      go Less e = refl
      go Equal e = refl
      go Greater e = absurd (true≢false e)

  takes : (x y : K) → R x y ≡ Greater → lesser x y ≡ y
  takes x y e = ap (λ r. min_by_ordering r x y) e

  above : (x y z : K) → R x y ≡ Greater → R y z ≡ Greater → R x z ≡ Greater
  above x y z a b =
      let back = o.trans z y x (o.antisymm z y ∙ ap ordering_reverse b) (o.antisymm y x ∙ ap ordering_reverse a) in
      o.antisymm x z ∙ ap ordering_reverse back

  assoc : (x y z : K) → lesser (lesser x y) z ≡ lesser x (lesser y z)
  assoc x y z = go (gt_cases (R x y)) (gt_cases (R y z))
    where
      go : (R x y ≡ Greater) ⊎ (is_gt (R x y) ≡ false) → (R y z ≡ Greater) ⊎ (is_gt (R y z) ≡ false) → lesser (lesser x y) z ≡ lesser x (lesser y z)
      go (inr a) (inr b) = ap (λ t. lesser t z) (keeps x y a) ∙ keeps x z (upto o x y z a b) ∙ sym (ap (lesser x) (keeps y z b) ∙ keeps x y a)
      go (inr a) (inl b) = ap (λ t. lesser t z) (keeps x y a) ∙ sym (ap (lesser x) (takes y z b))
      go (inl a) (inr b) = ap (λ t. lesser t z) (takes x y a) ∙ keeps y z b ∙ sym (ap (lesser x) (keeps y z b) ∙ takes x y a)
      go (inl a) (inl b) = ap (λ t. lesser t z) (takes x y a) ∙ takes y z b ∙ sym (ap (lesser x) (takes y z b) ∙ takes x z (above x y z a b))

  abbrev joined : K → Option K → K
  joined x None = x
  joined x (Some z) = lesser x z

  abbrev least : List K → Option K
  least [] = None
  least (x ∷ xs) = Some (joined x (least xs))

  folded : (x : K) (ys : List K) → fold lesser x ys ≡ joined x (least ys)
  folded x [] = refl
  folded x (y ∷ ys) = folded (lesser x y) ys ∙ go (least ys)
    where
      go : (m : Option K) → joined (lesser x y) m ≡ joined x (Some (joined y m))
      go None = refl
      go (Some z) = assoc x y z

  reduced : (xs : List K) → reduce lesser xs ≡ least xs
  reduced [] = refl
  reduced (x ∷ xs) = ap Some (folded x xs)

-- ---- turns

abbrev Turn : Type 0
Turn = (ℕ × Moment) × ℕ

abbrev by_turn : Turn → Turn → Ordering
by_turn x y = ordering_then (ordering_then (nat_cmp x.0.0 y.0.0) (nat_cmp x.0.1.0 y.0.1.0)) (nat_cmp x.1 y.1)

total : IsTotalOrder by_turn
total = then_total (then_total (on_total (λ (t : Turn). t.0.0) nat_cmp_total) (on_total (λ (t : Turn). t.0.1.0) nat_cmp_total)) (on_total (λ (t : Turn). t.1) nat_cmp_total)

abbrev turn_at : Entry → ℕ → Turn
turn_at e i = (turn_of e, i)

numbers : {X : Type 0} (a b c d i j : ℕ) (x y : X) → i < j → min_by_ordering (ordering_then (ordering_then (nat_cmp a b) (nat_cmp c d)) (nat_cmp i j)) x y ≡ cond (ltb b a || (eqb b a && ltb d c)) y x
numbers a b c d i j x y l = grind (arith, nat_tests)

-- the one behind is taken only where it runs out sooner
later : (e f : Entry) (i j : ℕ) → i < j → lesser total (turn_at e i) (turn_at f j) ≡ cond (sooner rules f e) (turn_at f j) (turn_at e i)
later e f i j l = numbers (until rules e) (until rules f) e.heard f.heard i j (turn_at e i) (turn_at f j) l

abbrev turns : List Entry → List Bool → ℕ → List Turn
turns es us i = map (λ (p : ℕ × (Entry × Bool)). turn_at p.1.0 p.0) (filter (λ (p : ℕ × (Entry × Bool)). not p.1.1) (enumerate_from i (zip es us)))

found : (us : List Bool) (es : List Entry) (i : ℕ) → least total (turns es us i) ≡ option_map (λ j. turn_at (get_or es j blank) (i + j)) (soonest_by rules us es)
unfolding soonest_by
found [] [] i = refl
found (u ∷ us) [] i = refl
found [] (e ∷ es) i = refl
found (true ∷ us) (e ∷ es) i = found us es (i + 1) ∙ moved (soonest_by rules us es)
  where
    moved : (o : Option ℕ) → option_map (λ j. turn_at (get_or es j blank) (i + 1 + j)) o ≡ option_map (λ j. turn_at (get_or (e ∷ es) j blank) (i + j)) (option_map suc o)
    moved None = refl
    moved (Some j) = let n : i + 1 + j ≡ i + suc j = omega arith in ap (λ k. Some (turn_at (get_or es j blank) k)) n
found (false ∷ us) (e ∷ es) i = ap (λ m. Some (joined total (turn_at e i) m)) (found us es (i + 1)) ∙ go (soonest_by rules us es) (is_within rules us es)
  where
    chosen : (j : ℕ) (b : Bool) → Some (cond b (turn_at (get_or es j blank) (i + 1 + j)) (turn_at e i)) ≡ option_map (λ k. turn_at (get_or (e ∷ es) k blank) (i + k)) (cond b (Some (suc j)) (Some 0))
    chosen j true = let n : i + 1 + j ≡ i + suc j = omega arith in ap (λ k. Some (turn_at (get_or es j blank) k)) n
    chosen j false = let n : i ≡ i + 0 = omega arith in ap (λ k. Some (turn_at e k)) n

    go : (o : Option ℕ) → Within rules es o → Some (joined total (turn_at e i) (option_map (λ j. turn_at (get_or es j blank) (i + 1 + j)) o)) ≡ option_map (λ j. turn_at (get_or (e ∷ es) j blank) (i + j)) (pick rules e es o)
    go None w = let n : i ≡ i + 0 = omega arith in ap (λ k. Some (turn_at e k)) n
    go (Some j) w =
        ap Some (later e (get_or es j blank) i (i + 1 + j) (omega arith)) ∙ chosen j (sooner rules (get_or es j blank) e)
        ∙ ap (λ f. option_map (λ k. turn_at (get_or (e ∷ es) k blank) (i + k)) (cond (sooner rules f e) (Some (suc j)) (Some 0))) (get_or_default es j blank e w)

-- as the code reads it
pub soonest_turn : (us : List Bool) (xs : List rust.Entry) → option_map (λ (t : Turn). t.1) (reduce (λ x y. min_by_ordering (by_turn x y) x y) (map (λ (p : ℕ × (rust.Entry × Bool)). turn_at (entry_of p.1.0) p.0) (filter (λ (p : ℕ × (rust.Entry × Bool)). not p.1.1) (enumerate_from 0 (zip xs us))))) ≡ soonest_by rules us (map entry_of xs)
soonest_turn us xs =
    ap (λ ts. option_map (λ (t : Turn). t.1) (reduce (lesser total) ts)) (fused us xs 0)
    ∙ ap (option_map (λ (t : Turn). t.1)) (reduced total (turns (map entry_of xs) us 0) ∙ found us (map entry_of xs) 0)
    ∙ go (soonest_by rules us (map entry_of xs))
  where
    fused : (us : List Bool) (xs : List rust.Entry) (i : ℕ) → map (λ (p : ℕ × (rust.Entry × Bool)). turn_at (entry_of p.1.0) p.0) (filter (λ (p : ℕ × (rust.Entry × Bool)). not p.1.1) (enumerate_from i (zip xs us))) ≡ turns (map entry_of xs) us i
    fused us [] i = refl
    fused [] (x ∷ xs) i = refl
    fused (true ∷ us) (x ∷ xs) i = fused us xs (i + 1)
    fused (false ∷ us) (x ∷ xs) i = ap (λ ts. turn_at (entry_of x) i ∷ ts) (fused us xs (i + 1))

    go : (o : Option ℕ) → option_map (λ (t : Turn). t.1) (option_map (λ j. turn_at (get_or (map entry_of xs) j blank) (0 + j)) o) ≡ o
    go None = refl
    go (Some j) = ap Some (omega arith)

pub flags_laws : FlagsLaws
unfolding put_by put
flags_laws = record { by_use = λ r used e es. put_by_use r used e es (place_of (is_key e.apex e.name e.kind) es) }
