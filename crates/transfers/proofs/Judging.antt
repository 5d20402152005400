-- Which fault sets that come together have, from what is found of them.
use Rattle.std.proofs.Common.{◌≡◌, ℕ, ◌+◌, ◌<◌, ◌≤◌, Bool, true, false, cond, not, ◌&&◌, ◌||◌, leb, ltb, List, [], ◌∷◌, length, Ok, Err, Result, sym, refl, ap, ◌∙◌, true≢false}
use Rattle.std.specs.List.{list_any}
use Rattle.std.proofs.lemmas.Bool.{cond-true, cond-false, or_parts, or_from, lt-ltb, le-ltb}
use Rattle.names.specs.declared.fault.Fault.{Fault}
use Rattle.names.specs.declared.fault.Fault.TheVariants.{Misplaced, Conflict, TooMuch}
use Rattle.names.specs.Order.{within}
use Rattle.meaning.specs.Model.{delegates, Set}
use Rattle.meaning.specs.Says.{same, find}
use Rattle.zones.specs.Valid.{clashes, no_clash, insert_set, added}
use Rattle.transfers.specs.Joining.{stands, any_outside, any_stands, any_twice, any_cut_at, any_clash, insert_all, joined}
use Rattle.transfers.specs.Joinings.{is_misplaced, is_conflict}

pub or_left : (a b : Bool) → a ≡ true → (a || b) ≡ true
or_left a b e = ap (λ x. x || b) e

pub or_right : (a b : Bool) → b ≡ true → (a || b) ≡ true
or_right true b e = refl
or_right false b e = e

or_none : (a : Bool) → (a || false) ≡ a
or_none true = refl
or_none false = refl

or_moved : (a b c : Bool) → (b || (a || c)) ≡ (a || b || c)
or_moved true true c = refl
or_moved true false c = refl
or_moved false true c = refl
or_moved false false c = refl

or_three : (a b c d : Bool) → ((a || b) || (c || d)) ≡ ((a || c) || (b || d))
or_three true b true d = refl
or_three true b false d = refl
or_three false true true d = refl
or_three false true false d = refl
or_three false false true d = refl
or_three false false false d = refl

any_or : {X : Type 0} (f g : X → Bool) (xs : List X) → list_any (λ x. f x || g x) xs ≡ (list_any f xs || list_any g xs)
any_or f g [] = refl
any_or f g (x ∷ xs) = ap (λ b. (f x || g x) || b) (any_or f g xs) ∙ or_three (f x) (g x) (list_any f xs) (list_any g xs)

any_alike : {X : Type 0} (f g : X → Bool) → ((x : X) → f x ≡ g x) → (xs : List X) → list_any f xs ≡ list_any g xs
any_alike f g h [] = refl
any_alike f g h (x ∷ xs) = λ i. h x i || any_alike f g h xs i

any_none : {X : Type 0} (f : X → Bool) → ((x : X) → f x ≡ false) → (xs : List X) → list_any f xs ≡ false
any_none f h [] = refl
any_none f h (x ∷ xs) = λ i. h x i || any_none f h xs i

-- ---- by the faults of single sets

misplaced_one : (a b c d e : Bool) (xs : List Set) → is_misplaced (cond a (Err Misplaced) (cond b (Err Misplaced) (cond c (Err Conflict) (cond d (Err Conflict) (cond e (Err TooMuch) (Ok xs)))))) ≡ (a || b)
misplaced_one true b c d e xs = refl
misplaced_one false true c d e xs = refl
misplaced_one false false true d e xs = refl
misplaced_one false false false true e xs = refl
misplaced_one false false false false true xs = refl
misplaced_one false false false false false xs = refl

conflict_one : (a b c d e : Bool) (xs : List Set) → (a || b) ≡ false → is_conflict (cond a (Err Misplaced) (cond b (Err Misplaced) (cond c (Err Conflict) (cond d (Err Conflict) (cond e (Err TooMuch) (Ok xs)))))) ≡ (c || d)
conflict_one true b c d e xs h = absurd (true≢false h)
conflict_one false true c d e xs h = absurd (true≢false h)
conflict_one false false true d e xs h = refl
conflict_one false false false true e xs h = refl
conflict_one false false false false true xs h = refl
conflict_one false false false false false xs h = refl

module _ (apex : List (List ℕ)) (old : List Set) where
  refused_one : (s : Set) → is_misplaced (added apex old s) ≡ (not (within apex s.name) || stands old s)
  refused_one s = misplaced_one (not (within apex s.name)) (stands old s) (delegates s.kind && same s.name apex) (clashes s old) (leb 4096 (length old)) (insert_set s old)

  pub misplaced_by : (new : List Set) → list_any (λ s. is_misplaced (added apex old s)) new ≡ (any_outside apex new || any_stands old new)
  misplaced_by new =
      any_alike (λ s. is_misplaced (added apex old s)) (λ s. not (within apex s.name) || stands old s) refused_one new
      ∙ any_or (λ s. not (within apex s.name)) (stands old) new

  pub conflict_by : (new : List Set) → (any_outside apex new || any_stands old new) ≡ false → list_any (λ s. is_conflict (added apex old s)) new ≡ (any_cut_at apex new || any_clash old new)
  conflict_by [] h = refl
  conflict_by (s ∷ ss) h =
      let p = or_parts (not (within apex s.name) || any_outside apex ss) (stands old s || any_stands old ss) h in
      let q = or_parts (not (within apex s.name)) (any_outside apex ss) p.0 in
      let r = or_parts (stands old s) (any_stands old ss) p.1 in
      let one = conflict_one (not (within apex s.name)) (stands old s) (delegates s.kind && same s.name apex) (clashes s old) (leb 4096 (length old)) (insert_set s old) (or_from (not (within apex s.name)) (stands old s) q.0 r.0) in
      let rest = conflict_by ss (or_from (any_outside apex ss) (any_stands old ss) q.1 r.1) in
      (λ i. one i || rest i) ∙ or_three (delegates s.kind && same s.name apex) (clashes s old) (any_cut_at apex ss) (any_clash old ss)

-- ---- all together

pub none_stands : (new : List Set) → any_stands [] new ≡ false
unfolding find
none_stands new = any_none (stands []) (λ s. refl) new

pub none_clashes : (new : List Set) → any_clash [] new ≡ false
none_clashes new = any_none (λ s. clashes s []) (λ s. refl) new

module _ (apex : List (List ℕ)) (old new : List Set) where
  abbrev pub IsMisplaced : Bool
  IsMisplaced = any_outside apex new || any_twice new || any_stands old new

  abbrev pub InConflict : Bool
  InConflict = any_cut_at apex new || not (no_clash new) || any_clash old new

  abbrev none_more : Result (List Set) Fault
  none_more = cond (ltb 4096 (length old + length new)) (Err TooMuch) (Ok (insert_all new old))

  pub misplaced : IsMisplaced ≡ true → joined apex old new ≡ Err Misplaced
  unfolding joined
  misplaced m = cond-true IsMisplaced (Err Misplaced) (cond InConflict (Err Conflict) none_more) m

  at_least : IsMisplaced ≡ false → joined apex old new ≡ cond InConflict (Err Conflict) none_more
  unfolding joined
  at_least m = cond-false IsMisplaced (Err Misplaced) (cond InConflict (Err Conflict) none_more) m

  pub conflict : IsMisplaced ≡ false → InConflict ≡ true → joined apex old new ≡ Err Conflict
  conflict m c = at_least m ∙ cond-true InConflict (Err Conflict) none_more c

  pub too_much : IsMisplaced ≡ false → InConflict ≡ false → 4096 < length old + length new → joined apex old new ≡ Err TooMuch
  too_much m c l = at_least m ∙ cond-false InConflict (Err Conflict) none_more c ∙ cond-true (ltb 4096 (length old + length new)) (Err TooMuch) (Ok (insert_all new old)) (lt-ltb 4096 (length old + length new) l)

  pub all_in : IsMisplaced ≡ false → InConflict ≡ false → length old + length new ≤ 4096 → joined apex old new ≡ Ok (insert_all new old)
  all_in m c l = at_least m ∙ cond-false InConflict (Err Conflict) none_more c ∙ cond-false (ltb 4096 (length old + length new)) (Err TooMuch) (Ok (insert_all new old)) (le-ltb 4096 (length old + length new) l)

  -- as the zone tells it
  pub beside_misplaced : (b : Bool) → (any_twice new || list_any (λ s. is_misplaced (added apex old s)) new) ≡ b → IsMisplaced ≡ b
  beside_misplaced b h = sym (or_moved (any_outside apex new) (any_twice new) (any_stands old new)) ∙ ap (λ x. any_twice new || x) (sym (misplaced_by apex old new)) ∙ h

  pub beside_conflict : (b : Bool) → IsMisplaced ≡ false → (not (no_clash new) || list_any (λ s. is_conflict (added apex old s)) new) ≡ b → InConflict ≡ b
  beside_conflict b m h =
      let p = or_parts (any_outside apex new || any_twice new) (any_stands old new) m in
      let q = or_parts (any_outside apex new) (any_twice new) p.0 in
      let e = conflict_by apex old new (or_from (any_outside apex new) (any_stands old new) q.0 p.1) in
      sym (or_moved (any_cut_at apex new) (not (no_clash new)) (any_clash old new)) ∙ ap (λ x. not (no_clash new) || x) (sym e) ∙ h

-- without others
pub alone_misplaced : (apex : List (List ℕ)) (new : List Set) (b : Bool) → (any_outside apex new || any_twice new) ≡ b → IsMisplaced apex [] new ≡ b
alone_misplaced apex new b h = ap (λ x. any_outside apex new || any_twice new || x) (none_stands new) ∙ or_none (any_outside apex new || any_twice new) ∙ h

pub alone_conflict : (apex : List (List ℕ)) (new : List Set) (b : Bool) → (any_cut_at apex new || not (no_clash new)) ≡ b → InConflict apex [] new ≡ b
alone_conflict apex new b h = ap (λ x. any_cut_at apex new || not (no_clash new) || x) (none_clashes new) ∙ or_none (any_cut_at apex new || not (no_clash new)) ∙ h
