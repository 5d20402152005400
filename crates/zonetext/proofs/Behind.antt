-- A set that stands behind all others of a zone is taken, and comes last.
use Rattle.std.proofs.Common.{◌≡◌, ℕ, ◌+◌, ◌<◌, ◌≤◌, Bool, true, false, cond, not, ◌&&◌, ◌||◌, eqb, leb, List, [], ◌∷◌, ◌++◌, length, is_some, Some, Ok, Err, Ordering, Less, Equal, Greater, sym, refl, ap, ◌∙◌, true≢false, arith, length-append}
use Rattle.std.specs.Cmp.{IsTotalOrder, nat_cmp_total, on_total, then_total, ranks}
use Rattle.std.specs.Ordering.{is_lt, ordering_then, MatchOrdering, nat_cmp, then_cmp, on}
use Rattle.std.proofs.lemmas.Bool.{cond-true, cond-false, and_parts, or_parts, or_from, not-true, eqb-true, leb-true, lt-leb}
use Rattle.names.specs.declared.fault.Fault.TheVariants.{Misplaced, Conflict, TooMuch}
use Rattle.names.specs.Comparing.{names_total}
use Rattle.names.specs.Order.{order, within}
use Rattle.names.proofs.Order.{order_itself}
use Rattle.meaning.specs.Model.{delegates, aliases, Set}
use Rattle.meaning.specs.Says.{same, is_exactly, find}
use Rattle.meaning.specs.Transfer.{all_transferred}
use Rattle.meaning.proofs.Carried.{length_all, length_none}
use Rattle.meaning.proofs.Rules.{same_so, so_same}
use Rattle.zones.specs.Sorted.{is_before, sorted}
use Rattle.zones.specs.Valid.{clash, clashes, no_clash, belongs, all_belong, valid, insert_set, added}

-- ---- in order

key_total : IsTotalOrder (then_cmp (on (λ (s : Set). s.name) order) (on (λ (s : Set). s.kind) nat_cmp))
key_total = then_total (on_total (λ (s : Set). s.name) names_total) (on_total (λ (s : Set). s.kind) nat_cmp_total)

less : (r : Ordering) → is_lt r ≡ true → r ≡ Less
less Less h = refl
less Equal h = absurd (true≢false (sym h))
less Greater h = absurd (true≢false (sym h))

before_trans : (s t u : Set) → is_before t.name t.kind s ≡ true → is_before u.name u.kind t ≡ true → is_before u.name u.kind s ≡ true
before_trans s t u h g =
    ap is_lt (key_total.trans s t u (less (ordering_then (order s.name t.name) (nat_cmp s.kind t.kind)) h) (less (ordering_then (order t.name u.name) (nat_cmp t.kind u.kind)) g))

rank_same : (k : ℕ) (r : Ordering) → MatchOrdering r (k < k) (k ≡ k) (k < k) → is_lt r ≡ false
rank_same k Less h = absurd (omega arith)
rank_same k Equal h = refl
rank_same k Greater h = refl

-- what stands before a set has another name or kind
not_itself : (s t : Set) → is_before s.name s.kind t ≡ true → is_exactly s.name s.kind t ≡ false
not_itself s t h = go (is_exactly s.name s.kind t) refl
  where
    go : (b : Bool) → is_exactly s.name s.kind t ≡ b → is_exactly s.name s.kind t ≡ false
    go false e = e
    go true e =
        let p = and_parts (same t.name s.name) (eqb t.kind s.kind) e in
        let n = same_so t.name s.name p.0 in
        let k = eqb-true t.kind s.kind p.1 in
        let f : is_before s.name s.kind t ≡ false =
        (λ i. is_lt (ordering_then (order (n i) s.name) (nat_cmp (k i) s.kind))) ∙ ap (λ r. is_lt (ordering_then r (nat_cmp s.kind s.kind))) (order_itself s.name) ∙ rank_same s.kind (nat_cmp s.kind s.kind) (ranks s.kind s.kind) in
        absurd (true≢false (sym h ∙ f))

sorted_tail : (s : Set) (ss : List Set) → sorted (s ∷ ss) ≡ true → sorted ss ≡ true
unfolding sorted
sorted_tail s [] h = refl
sorted_tail s (t ∷ ss) h = (and_parts (is_before t.name t.kind s) (sorted (t ∷ ss)) h).1

-- the first stands before one further back
first_before : (t : Set) (done : List Set) (s : Set) (left : List Set) → sorted (t ∷ (done ++ s ∷ left)) ≡ true → is_before s.name s.kind t ≡ true
unfolding sorted
first_before t [] s left h = (and_parts (is_before s.name s.kind t) (sorted (s ∷ left)) h).0
first_before t (u ∷ done) s left h =
    let p = and_parts (is_before u.name u.kind t) (sorted (u ∷ (done ++ s ∷ left))) h in
    before_trans t u s p.0 (first_before u done s left p.1)

comes_last : (done : List Set) (s : Set) (left : List Set) → sorted (done ++ s ∷ left) ≡ true → insert_set s done ≡ done ++ s ∷ []
unfolding insert_set
comes_last [] s left h = refl
comes_last (t ∷ done) s left h =
    cond-true (is_before s.name s.kind t) (t ∷ insert_set s done) (s ∷ t ∷ done) (first_before t done s left h)
    ∙ ap (λ x. t ∷ x) (comes_last done s left (sorted_tail t (done ++ s ∷ left) h))

not_found : (done : List Set) (s : Set) (left : List Set) → sorted (done ++ s ∷ left) ≡ true → is_some (find (is_exactly s.name s.kind) done) ≡ false
unfolding find
not_found [] s left h = refl
not_found (t ∷ done) s left h =
    ap is_some (cond-false (is_exactly s.name s.kind t) (Some t) (find (is_exactly s.name s.kind) done) (not_itself s t (first_before t done s left h)))
    ∙ not_found done s left (sorted_tail t (done ++ s ∷ left) h)

-- ---- within the rules

its_place : (apex : List (List ℕ)) (done : List Set) (s : Set) (left : List Set) → all_belong apex (done ++ s ∷ left) ≡ true → belongs apex s ≡ true
its_place apex [] s left h = (and_parts (belongs apex s) (all_belong apex left) h).0
its_place apex (t ∷ done) s left h = its_place apex done s left (and_parts (belongs apex t) (all_belong apex (done ++ s ∷ left)) h).1

both_false : (x y : Bool) → y ≡ false → (x && y) ≡ false
both_false true y e = e
both_false false y e = refl

or_turned : (a b : Bool) → (a || b) ≡ false → (b || a) ≡ false
or_turned a b h = let p = or_parts a b h in or_from b a p.1 p.0

clash_turned : (s t : Set) → clash s t ≡ false → clash t s ≡ false
clash_turned s t h = go (same t.name s.name) refl
  where
    go : (c : Bool) → same t.name s.name ≡ c → clash t s ≡ false
    go false e = ap (λ x. x && (aliases t.kind || aliases s.kind)) e
    go true e =
        let there : same s.name t.name ≡ true = so_same s.name t.name (sym (same_so t.name s.name e)) in
        both_false (same t.name s.name) (aliases t.kind || aliases s.kind) (or_turned (aliases s.kind) (aliases t.kind) (sym (ap (λ x. x && (aliases s.kind || aliases t.kind)) there) ∙ h))

clash_behind : (t : Set) (done : List Set) (s : Set) (left : List Set) → clashes t (done ++ s ∷ left) ≡ false → clash t s ≡ false
clash_behind t [] s left h = (or_parts (clash t s) (clashes t left) h).0
clash_behind t (u ∷ done) s left h = clash_behind t done s left (or_parts (clash t u) (clashes t (done ++ s ∷ left)) h).1

clashes_none : (done : List Set) (s : Set) (left : List Set) → no_clash (done ++ s ∷ left) ≡ true → clashes s done ≡ false
clashes_none [] s left h = refl
clashes_none (t ∷ done) s left h =
    let p = and_parts (not (clashes t (done ++ s ∷ left))) (no_clash (done ++ s ∷ left)) h in
    or_from (clash s t) (clashes s done) (clash_turned t s (clash_behind t done s left (not-true (clashes t (done ++ s ∷ left)) p.0))) (clashes_none done s left p.1)

pub added_last : (apex : List (List ℕ)) (done : List Set) (s : Set) (left : List Set) → sorted (done ++ s ∷ left) ≡ true → valid apex (done ++ s ∷ left) ≡ true → added apex done s ≡ Ok (done ++ s ∷ [])
added_last apex done s left o v =
    let all = done ++ s ∷ left in
    let p = and_parts (all_belong apex all && no_clash all) (leb (length all) 4096) v in
    let q = and_parts (all_belong apex all) (no_clash all) p.0 in
    let b = and_parts (within apex s.name) (not (delegates s.kind && same s.name apex)) (its_place apex done s left q.0) in
    let n = leb-true (length all) 4096 p.1 in
    let a = length-append done (s ∷ left) in
    let room : leb 4096 (length done) ≡ false = lt-leb 4096 (length done) (omega arith) in
    let found = not_found done s left o in
    let top = not-true (delegates s.kind && same s.name apex) b.1 in
    let alone = clashes_none done s left q.1 in
    (λ i. cond (not (b.0 i)) (Err Misplaced) (cond (found i) (Err Misplaced) (cond (top i) (Err Conflict) (cond (alone i) (Err Conflict) (cond (room i) (Err TooMuch) (Ok (insert_set s done)))))))
    ∙ ap Ok (comes_last done s left o)

-- ---- its bytes

carried_both : (xs ys : List Set) → length (all_transferred (xs ++ ys)) ≡ length (all_transferred xs) + length (all_transferred ys)
carried_both [] ys = let z = length_none in omega arith
carried_both (x ∷ xs) ys =
    let h = carried_both xs ys in
    let a = length_all x (xs ++ ys) in
    let b = length_all x xs in
    omega arith

pub carried_front : (done : List Set) (s : Set) (left : List Set) → length (all_transferred (done ++ s ∷ [])) ≤ length (all_transferred (done ++ s ∷ left))
carried_front done s left =
    let a = carried_both done (s ∷ []) in
    let b = carried_both done (s ∷ left) in
    let c = length_all s [] in
    let d = length_all s left in
    let z = length_none in
    omega arith
