-- A set more: the sets stay sorted and valid.
use Rattle.std.proofs.Common.{◌≡◌, ℕ, suc, ◌+◌, ◌<◌, Bool, true, false, not, ◌&&◌, ◌||◌, leb, List, [], ◌∷◌, length, Ordering, Less, Equal, Greater, sym, refl, ap, ◌∙◌, subst, true≢false, arith}
use Rattle.std.specs.Cmp.{ranks}
use Rattle.std.specs.Ordering.{is_lt, ordering_reverse, ordering_then, MatchOrdering, nat_cmp}
use Rattle.std.specs.List.{insert}
use Rattle.std.proofs.lemmas.Bool.{cond-true, cond-false, and_parts, and_from, or_parts, or_from, not-true, not_from_false, le-leb}
use Rattle.names.specs.Order.{order, within}
use Rattle.names.proofs.Order.{order_equal}
use Rattle.meaning.specs.Model.{aliases, Set}
use Rattle.meaning.specs.Says.{same}
use Rattle.zones.specs.Sorted.{is_before, sorted, place, each, all_within}
use Rattle.zones.specs.Valid.{clash, clashes, no_clash, belongs, all_belong, valid, insert_set}
use Rattle.zones.proofs.Places.{sets_total, place_more, place_stop, place_nil}
use Rattle.meaning.specs.Transfer.{transferred, all_transferred}
use Rattle.meaning.proofs.Carried.{length_all, length_none}
use Rattle.meaning.proofs.Rules.{same_so, so_same}

pub insert_on : (s t : Set) (ss : List Set) → is_before s.name s.kind t ≡ true → insert_set s (t ∷ ss) ≡ t ∷ insert_set s ss
unfolding insert_set
insert_on s t ss h = cond-true (is_before s.name s.kind t) (t ∷ insert_set s ss) (s ∷ t ∷ ss) h

pub insert_here : (s t : Set) (ss : List Set) → is_before s.name s.kind t ≡ false → insert_set s (t ∷ ss) ≡ s ∷ t ∷ ss
unfolding insert_set
insert_here s t ss h = cond-false (is_before s.name s.kind t) (t ∷ insert_set s ss) (s ∷ t ∷ ss) h

-- ---- at its place

pub insert_place : (s : Set) (ss : List Set) → insert_set s ss ≡ insert ss (place s.name s.kind ss) s
unfolding insert_set
insert_place s [] = sym (ap (λ n. insert [] n s) (place_nil s.name s.kind))
insert_place s (t ∷ ss) = go (is_before s.name s.kind t) refl (insert_place s ss)
  where
    go : (b : Bool) → is_before s.name s.kind t ≡ b → insert_set s ss ≡ insert ss (place s.name s.kind ss) s → insert_set s (t ∷ ss) ≡ insert (t ∷ ss) (place s.name s.kind (t ∷ ss)) s
    go true e ih = insert_on s t ss e ∙ ap (λ x. t ∷ x) ih ∙ ap (λ n. insert (t ∷ ss) n s) (sym (place_more s.name s.kind t ss e))
    go false e ih = insert_here s t ss e ∙ ap (λ n. insert (t ∷ ss) n s) (sym (place_stop s.name s.kind t ss e))

-- ---- sorted

-- not before, and another key: after
after : (s t : Set) → is_before s.name s.kind t ≡ false → (t.name ≡ s.name → t.kind ≡ s.kind → ⊥) → is_before t.name t.kind s ≡ true
after s t h other = go (order t.name s.name) refl (nat_cmp t.kind s.kind) refl (ranks t.kind s.kind)
  where
    flipped : ordering_then (order s.name t.name) (nat_cmp s.kind t.kind) ≡ ordering_reverse (ordering_then (order t.name s.name) (nat_cmp t.kind s.kind))
    flipped = sets_total.antisymm s t

    go : (a : Ordering) → order t.name s.name ≡ a → (b : Ordering) → nat_cmp t.kind s.kind ≡ b → MatchOrdering (nat_cmp t.kind s.kind) (t.kind < s.kind) (t.kind ≡ s.kind) (s.kind < t.kind) → is_before t.name t.kind s ≡ true
    go Less e b f r = absurd (true≢false (sym (ap (λ x. is_lt (ordering_then x (nat_cmp t.kind s.kind))) e) ∙ h))
    go Greater e b f r = ap is_lt (flipped ∙ ap (λ x. ordering_reverse (ordering_then x (nat_cmp t.kind s.kind))) e)
    go Equal e Less f r = absurd (true≢false (sym ((λ i. is_lt (ordering_then (e i) (f i)))) ∙ h))
    go Equal e Equal f r = absurd (other (order_equal t.name s.name e) (subst (λ x. MatchOrdering x (t.kind < s.kind) (t.kind ≡ s.kind) (s.kind < t.kind)) f r))
    go Equal e Greater f r = ap is_lt (flipped ∙ (λ i. ordering_reverse (ordering_then (e i) (f i))))

-- no set of the same name and kind
abbrev pub New : Set → List Set → Type 0
New s ss = (t : Set) → mathlib.Core.List.Memᴰ t ss → t.name ≡ s.name → t.kind ≡ s.kind → ⊥

sorted_cons : (t : Set) (s : Set) (ss : List Set) → is_before s.name s.kind t ≡ true → sorted (s ∷ ss) ≡ true → sorted (t ∷ s ∷ ss) ≡ true
unfolding sorted
sorted_cons t s ss h k = and_from (is_before s.name s.kind t) (sorted (s ∷ ss)) h k

-- what stands before the new one and before the old ones stands before them all
before_both : (t s : Set) (ss : List Set) → is_before s.name s.kind t ≡ true → sorted (t ∷ ss) ≡ true → sorted (insert_set s ss) ≡ true → sorted (t ∷ insert_set s ss) ≡ true
unfolding insert_set sorted
before_both t s [] h o k = and_from (is_before s.name s.kind t) true h refl
before_both t s (u ∷ ss) h o k = go (is_before s.name s.kind u) refl
  where
    go : (b : Bool) → is_before s.name s.kind u ≡ b → sorted (t ∷ insert_set s (u ∷ ss)) ≡ true
    go true e =
        let p = insert_on s u ss e in
        subst (λ x. sorted (t ∷ x) ≡ true) (sym p) (sorted_cons t u (insert_set s ss) (and_parts (is_before u.name u.kind t) (sorted (u ∷ ss)) o).0 (ap sorted (sym p) ∙ k))
    go false e =
        let p = insert_here s u ss e in
        subst (λ x. sorted (t ∷ x) ≡ true) (sym p) (sorted_cons t s (u ∷ ss) h (ap sorted (sym p) ∙ k))

tail_of : (t : Set) (ss : List Set) → sorted (t ∷ ss) ≡ true → sorted ss ≡ true
unfolding sorted
tail_of t [] h = refl
tail_of t (u ∷ ss) h = (and_parts (is_before u.name u.kind t) (sorted (u ∷ ss)) h).1

one_sorted : (s : Set) → sorted (s ∷ []) ≡ true
unfolding sorted
one_sorted s = refl

pub insert_sorted : (s : Set) (ss : List Set) → sorted ss ≡ true → New s ss → sorted (insert_set s ss) ≡ true
unfolding insert_set
insert_sorted s [] o n = one_sorted s
insert_sorted s (t ∷ ss) o n = go (is_before s.name s.kind t) refl (insert_sorted s ss (tail_of t ss o) (λ u m. n u (mathlib.Core.List.Memᴰ.tail m)))
  where
    go : (b : Bool) → is_before s.name s.kind t ≡ b → sorted (insert_set s ss) ≡ true → sorted (insert_set s (t ∷ ss)) ≡ true
    go true e ih = ap sorted (insert_on s t ss e) ∙ before_both t s ss e o ih
    go false e ih = ap sorted (insert_here s t ss e) ∙ sorted_cons s t ss (after s t e (n t (mathlib.Core.List.Memᴰ.head refl))) o

-- ---- within the apex

pub insert_within : (apex : List (List ℕ)) (s : Set) (ss : List Set) → within apex s.name ≡ true → all_within apex ss ≡ true → all_within apex (insert_set s ss) ≡ true
unfolding insert_set each
insert_within apex s [] h k = and_from (within apex s.name) true h refl
insert_within apex s (t ∷ ss) h k = go (is_before s.name s.kind t) refl (insert_within apex s ss h (and_parts (within apex t.name) (all_within apex ss) k).1)
  where
    go : (b : Bool) → is_before s.name s.kind t ≡ b → all_within apex (insert_set s ss) ≡ true → all_within apex (insert_set s (t ∷ ss)) ≡ true
    go true e ih = ap (all_within apex) (insert_on s t ss e) ∙ and_from (within apex t.name) (all_within apex (insert_set s ss)) (and_parts (within apex t.name) (all_within apex ss) k).0 ih
    go false e ih = ap (all_within apex) (insert_here s t ss e) ∙ and_from (within apex s.name) (all_within apex (t ∷ ss)) h k

-- ---- valid

insert_belongs : (apex : List (List ℕ)) (s : Set) (ss : List Set) → belongs apex s ≡ true → all_belong apex ss ≡ true → all_belong apex (insert_set s ss) ≡ true
unfolding insert_set
insert_belongs apex s [] h k = and_from (belongs apex s) true h refl
insert_belongs apex s (t ∷ ss) h k = go (is_before s.name s.kind t) refl (insert_belongs apex s ss h (and_parts (belongs apex t) (all_belong apex ss) k).1)
  where
    go : (b : Bool) → is_before s.name s.kind t ≡ b → all_belong apex (insert_set s ss) ≡ true → all_belong apex (insert_set s (t ∷ ss)) ≡ true
    go true e ih = ap (all_belong apex) (insert_on s t ss e) ∙ and_from (belongs apex t) (all_belong apex (insert_set s ss)) (and_parts (belongs apex t) (all_belong apex ss) k).0 ih
    go false e ih = ap (all_belong apex) (insert_here s t ss e) ∙ and_from (belongs apex s) (all_belong apex (t ∷ ss)) h k

same_turned : (a b : List (List ℕ)) → same a b ≡ false → same b a ≡ false
same_turned a b h = go (same b a) refl
  where
    go : (c : Bool) → same b a ≡ c → same b a ≡ false
    go true e = absurd (true≢false (sym (so_same a b (sym (same_so b a e))) ∙ h))
    go false e = e

or_turned : (a b : Bool) → (a || b) ≡ false → (b || a) ≡ false
or_turned a b h = let p = or_parts a b h in or_from b a p.1 p.0

pub clash_turned : (s t : Set) → clash s t ≡ false → clash t s ≡ false
clash_turned s t h = go (same s.name t.name) refl (aliases s.kind || aliases t.kind) refl h
  where
    go : (a : Bool) → same s.name t.name ≡ a → (b : Bool) → (aliases s.kind || aliases t.kind) ≡ b → clash s t ≡ false → clash t s ≡ false
    go false e b f g = ap (λ x. x && (aliases t.kind || aliases s.kind)) (same_turned s.name t.name e)
    go true e true f g = absurd (true≢false (sym (and_from (same s.name t.name) (aliases s.kind || aliases t.kind) e f) ∙ g))
    go true e false f g = and_false (same t.name s.name) (aliases t.kind || aliases s.kind) (or_turned (aliases s.kind) (aliases t.kind) f)
      where
        and_false : (x y : Bool) → y ≡ false → (x && y) ≡ false
        and_false true y e = e
        and_false false y e = refl

pub clashes_insert : (t s : Set) (ss : List Set) → clash t s ≡ false → clashes t ss ≡ false → clashes t (insert_set s ss) ≡ false
unfolding insert_set
clashes_insert t s [] h k = or_from (clash t s) false h refl
clashes_insert t s (u ∷ ss) h k = go (is_before s.name s.kind u) refl (clashes_insert t s ss h (or_parts (clash t u) (clashes t ss) k).1)
  where
    go : (b : Bool) → is_before s.name s.kind u ≡ b → clashes t (insert_set s ss) ≡ false → clashes t (insert_set s (u ∷ ss)) ≡ false
    go true e ih = ap (clashes t) (insert_on s u ss e) ∙ or_from (clash t u) (clashes t (insert_set s ss)) (or_parts (clash t u) (clashes t ss) k).0 ih
    go false e ih = ap (clashes t) (insert_here s u ss e) ∙ or_from (clash t s) (clashes t (u ∷ ss)) h k

insert_no_clash : (s : Set) (ss : List Set) → clashes s ss ≡ false → no_clash ss ≡ true → no_clash (insert_set s ss) ≡ true
unfolding insert_set
insert_no_clash s [] h k = refl
insert_no_clash s (t ∷ ss) h k = go (is_before s.name s.kind t) refl (insert_no_clash s ss (or_parts (clash s t) (clashes s ss) h).1 (and_parts (not (clashes t ss)) (no_clash ss) k).1)
  where
    go : (b : Bool) → is_before s.name s.kind t ≡ b → no_clash (insert_set s ss) ≡ true → no_clash (insert_set s (t ∷ ss)) ≡ true
    go true e ih =
        let p = or_parts (clash s t) (clashes s ss) h in
        let q = and_parts (not (clashes t ss)) (no_clash ss) k in
        ap no_clash (insert_on s t ss e) ∙ and_from (not (clashes t (insert_set s ss))) (no_clash (insert_set s ss)) (not_from_false (clashes t (insert_set s ss)) (clashes_insert t s ss (clash_turned s t p.0) (not-true (clashes t ss) q.0))) ih
    go false e ih = ap no_clash (insert_here s t ss e) ∙ and_from (not (clashes s (t ∷ ss))) (no_clash (t ∷ ss)) (not_from_false (clashes s (t ∷ ss)) h) k

pub insert_length : (s : Set) (ss : List Set) → length (insert_set s ss) ≡ suc (length ss)
unfolding insert_set
insert_length s [] = refl
insert_length s (t ∷ ss) = go (is_before s.name s.kind t) refl (insert_length s ss)
  where
    go : (b : Bool) → is_before s.name s.kind t ≡ b → length (insert_set s ss) ≡ suc (length ss) → length (insert_set s (t ∷ ss)) ≡ suc (suc (length ss))
    go true e ih = ap length (insert_on s t ss e) ∙ ap suc ih
    go false e ih = ap length (insert_here s t ss e)

pub insert_valid : (apex : List (List ℕ)) (s : Set) (ss : List Set) → valid apex ss ≡ true → belongs apex s ≡ true → clashes s ss ≡ false → length ss < 4096 → valid apex (insert_set s ss) ≡ true
insert_valid apex s ss v b c l =
    let p = and_parts (all_belong apex ss && no_clash ss) (leb (length ss) 4096) v in
    let q = and_parts (all_belong apex ss) (no_clash ss) p.0 in
    let n = insert_length s ss in
    and_from (all_belong apex (insert_set s ss) && no_clash (insert_set s ss)) (leb (length (insert_set s ss)) 4096)
    (and_from (all_belong apex (insert_set s ss)) (no_clash (insert_set s ss)) (insert_belongs apex s ss b q.0) (insert_no_clash s ss c q.1))
    (le-leb (length (insert_set s ss)) 4096 (omega arith))

-- ---- its bytes

pub insert_carried : (s : Set) (ss : List Set) → length (all_transferred (insert_set s ss)) ≡ length (all_transferred ss) + length (transferred s)
unfolding insert_set
insert_carried s [] = let a = length_all s [] in let z = length_none in omega arith
insert_carried s (t ∷ ss) = go (is_before s.name s.kind t) refl (insert_carried s ss)
  where
    go : (b : Bool) → is_before s.name s.kind t ≡ b → length (all_transferred (insert_set s ss)) ≡ length (all_transferred ss) + length (transferred s) → length (all_transferred (insert_set s (t ∷ ss))) ≡ length (all_transferred (t ∷ ss)) + length (transferred s)
    go true e ih =
        let a = ap (λ x. length (all_transferred x)) (insert_on s t ss e) in
        let b = length_all t (insert_set s ss) in
        let c = length_all t ss in
        omega arith
    go false e ih =
        let a = ap (λ x. length (all_transferred x)) (insert_here s t ss e) in
        let b = length_all s (t ∷ ss) in
        omega arith
