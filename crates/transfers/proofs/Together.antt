-- Sets that may come together may come one by one: none of them is refused.
use Rattle.std.proofs.Common.{◌≡◌, ℕ, ◌+◌, ◌≤◌, Bool, true, false, cond, not, ◌&&◌, ◌||◌, eqb, leb, ltb, List, [], ◌∷◌, length, Ok, Err, Result, sym, refl, ap, ◌∙◌, true≢false, arith}
use Rattle.std.specs.List.{list_any}
use Rattle.std.proofs.lemmas.Bool.{and_parts, or_parts, or_from, not-true, not-false, ltb-false, eqb-true, eq-eqb}
use Rattle.names.specs.declared.fault.Fault.{Fault}
use Rattle.names.specs.declared.fault.Fault.TheVariants.{Misplaced, Conflict, TooMuch}
use Rattle.names.specs.Order.{within}
use Rattle.meaning.specs.Model.{delegates, Set}
use Rattle.meaning.specs.Says.{same, is_exactly}
use Rattle.meaning.proofs.Rules.{same_so, so_same}
use Rattle.zones.specs.Sorted.{is_before}
use Rattle.zones.specs.Valid.{clash, clashes, no_clash, insert_set, added}
use Rattle.zones.proofs.Insert.{insert_on, insert_here, insert_length, clash_turned, clashes_insert}
use Rattle.wire.specs.Cuts.{next}
use Rattle.transfers.specs.Joining.{stands, any_outside, any_stands, any_twice, any_cut_at, any_clash, insert_all, added_all, joined}
use Rattle.transfers.proofs.Searched.{any_found}
use Rattle.transfers.proofs.Judging.{IsMisplaced, InConflict}

-- what may come in
pub record Fit (apex : List (List ℕ)) (old new : List Set) : Type 0 where
  pub inside : any_outside apex new ≡ false
  pub once : any_twice new ≡ false
  pub fresh : any_stands old new ≡ false
  pub below : any_cut_at apex new ≡ false
  pub apart : no_clash new ≡ true
  pub alone : any_clash old new ≡ false
  pub room : length old + length new ≤ 4096

-- ---- one set more on the other side

-- a search finds the new one or one of the old
found_more : (test : Set → Bool) (s : Set) (ss : List Set) → test s ≡ false → list_any test ss ≡ false → list_any test (insert_set s ss) ≡ false
unfolding insert_set
found_more test s [] h k = or_from (test s) false h refl
found_more test s (t ∷ ss) h k = go (is_before s.name s.kind t) refl (found_more test s ss h (or_parts (test t) (list_any test ss) k).1)
  where
    go : (b : Bool) → is_before s.name s.kind t ≡ b → list_any test (insert_set s ss) ≡ false → list_any test (insert_set s (t ∷ ss)) ≡ false
    go true e ih = ap (list_any test) (insert_on s t ss e) ∙ or_from (test t) (list_any test (insert_set s ss)) (or_parts (test t) (list_any test ss) k).0 ih
    go false e ih = ap (list_any test) (insert_here s t ss e) ∙ or_from (test s) (list_any test (t ∷ ss)) h k

exactly_turned : (s t : Set) → is_exactly s.name s.kind t ≡ false → is_exactly t.name t.kind s ≡ false
exactly_turned s t h = go (is_exactly t.name t.kind s) refl
  where
    go : (b : Bool) → is_exactly t.name t.kind s ≡ b → is_exactly t.name t.kind s ≡ false
    go false e = e
    go true e =
        let p = and_parts (same s.name t.name) (eqb s.kind t.kind) e in
        let n = so_same t.name s.name (sym (same_so s.name t.name p.0)) in
        let k = eq-eqb t.kind s.kind (sym (eqb-true s.kind t.kind p.1)) in
        absurd (true≢false (sym (λ i. n i && k i) ∙ h))

still_fresh : (s t : Set) (old : List Set) → is_exactly s.name s.kind t ≡ false → stands old t ≡ false → stands (insert_set s old) t ≡ false
still_fresh s t old h k =
    sym (any_found (is_exactly t.name t.kind) (insert_set s old))
    ∙ found_more (is_exactly t.name t.kind) s old (exactly_turned s t h) (any_found (is_exactly t.name t.kind) old ∙ k)

all_fresh : (s : Set) (old new : List Set) → list_any (is_exactly s.name s.kind) new ≡ false → any_stands old new ≡ false → any_stands (insert_set s old) new ≡ false
all_fresh s old [] h k = refl
all_fresh s old (t ∷ ts) h k =
    let p = or_parts (is_exactly s.name s.kind t) (list_any (is_exactly s.name s.kind) ts) h in
    let q = or_parts (stands old t) (any_stands old ts) k in
    or_from (stands (insert_set s old) t) (any_stands (insert_set s old) ts) (still_fresh s t old p.0 q.0) (all_fresh s old ts p.1 q.1)

all_alone : (s : Set) (old new : List Set) → clashes s new ≡ false → any_clash old new ≡ false → any_clash (insert_set s old) new ≡ false
all_alone s old [] h k = refl
all_alone s old (t ∷ ts) h k =
    let p = or_parts (clash s t) (clashes s ts) h in
    let q = or_parts (clashes t old) (any_clash old ts) k in
    or_from (clashes t (insert_set s old)) (any_clash (insert_set s old) ts) (clashes_insert t s old (clash_turned s t p.0) q.0) (all_alone s old ts p.1 q.1)

-- ---- the first one is taken, and the others still fit

module _ (apex : List (List ℕ)) (old : List Set) (s : Set) (ss : List Set) (f : Fit apex old (s ∷ ss)) where
  first_taken : added apex old s ≡ Ok (insert_set s old)
  first_taken =
      let a = (or_parts (not (within apex s.name)) (any_outside apex ss) f.inside).0 in
      let b = (or_parts (stands old s) (any_stands old ss) f.fresh).0 in
      let d = (or_parts (delegates s.kind && same s.name apex) (any_cut_at apex ss) f.below).0 in
      let e = (or_parts (clashes s old) (any_clash old ss) f.alone).0 in
      let g : leb 4096 (length old) ≡ false = let r = f.room in search arith in
      λ i. cond (a i) (Err Misplaced) (cond (b i) (Err Misplaced) (cond (d i) (Err Conflict) (cond (e i) (Err Conflict) (cond (g i) (Err TooMuch) (Ok (insert_set s old))))))

  others_fit : Fit apex (insert_set s old) ss
  others_fit =
      let t = or_parts (stands ss s) (any_twice ss) f.once in
      let n = and_parts (not (clashes s ss)) (no_clash ss) f.apart in
      let r = f.room in
      let l = insert_length s old in
      record {
        inside = (or_parts (not (within apex s.name)) (any_outside apex ss) f.inside).1;
        once = t.1;
        fresh = all_fresh s old ss (any_found (is_exactly s.name s.kind) ss ∙ t.0) (or_parts (stands old s) (any_stands old ss) f.fresh).1;
        below = (or_parts (delegates s.kind && same s.name apex) (any_cut_at apex ss) f.below).1;
        apart = n.1;
        alone = all_alone s old ss (not-true (clashes s ss) n.0) (or_parts (clashes s old) (any_clash old ss) f.alone).1;
        room = omega arith;
      }

all_taken : (apex : List (List ℕ)) (old new : List Set) → Fit apex old new → added_all apex old new ≡ Ok (insert_all new old)
unfolding added_all insert_all next
all_taken apex old [] f = refl
all_taken apex old (s ∷ ss) f =
    ap (λ r. next r (λ more. added_all apex more ss)) (first_taken apex old s ss f)
    ∙ all_taken apex (insert_set s old) ss (others_fit apex old s ss f)

-- ---- what was judged good fits

fits : (apex : List (List ℕ)) (old new xs : List Set) → joined apex old new ≡ Ok xs → Fit apex old new × (xs ≡ insert_all new old)
unfolding joined
fits apex old new xs h = go (IsMisplaced apex old new) refl (InConflict apex old new) refl (ltb 4096 (length old + length new)) refl
  where
    no_ok : (f : Fault) → ◌≡◌ {A = Result (List Set) Fault} (Err f) (Ok xs) → ⊥
    no_ok f q = let w : ◌≡◌ {A = ℕ} 0 1 = cc in omega arith

    inner : (ss ts : List Set) → ◌≡◌ {A = Result (List Set) Fault} (Ok ss) (Ok ts) → ss ≡ ts
    inner ss ts q = cc

    go : (a : Bool) → IsMisplaced apex old new ≡ a → (b : Bool) → InConflict apex old new ≡ b → (c : Bool) → ltb 4096 (length old + length new) ≡ c → Fit apex old new × (xs ≡ insert_all new old)
    go true p b q c r = absurd (no_ok Misplaced (sym (λ i. cond (p i) (Err Misplaced) (cond (q i) (Err Conflict) (cond (r i) (Err TooMuch) (Ok (insert_all new old))))) ∙ h))
    go false p true q c r = absurd (no_ok Conflict (sym (λ i. cond (p i) (Err Misplaced) (cond (q i) (Err Conflict) (cond (r i) (Err TooMuch) (Ok (insert_all new old))))) ∙ h))
    go false p false q true r = absurd (no_ok TooMuch (sym (λ i. cond (p i) (Err Misplaced) (cond (q i) (Err Conflict) (cond (r i) (Err TooMuch) (Ok (insert_all new old))))) ∙ h))
    go false p false q false r =
        let m = or_parts (any_outside apex new || any_twice new) (any_stands old new) p in
        let n = or_parts (any_outside apex new) (any_twice new) m.0 in
        let c = or_parts (any_cut_at apex new || not (no_clash new)) (any_clash old new) q in
        let d = or_parts (any_cut_at apex new) (not (no_clash new)) c.0 in (
          record { inside = n.0; once = n.1; fresh = m.1; below = d.0; apart = not-false (no_clash new) d.1; alone = c.1; room = ltb-false 4096 (length old + length new) r },
          sym (inner (insert_all new old) xs (sym (λ i. cond (p i) (Err Misplaced) (cond (q i) (Err Conflict) (cond (r i) (Err TooMuch) (Ok (insert_all new old))))) ∙ h)),
        )

pub none_refused : (apex : List (List ℕ)) (old new xs : List Set) → joined apex old new ≡ Ok xs → added_all apex old new ≡ Ok xs
none_refused apex old new xs h =
    let f = fits apex old new xs h in
    all_taken apex old new f.0 ∙ ap Ok (sym f.1)
