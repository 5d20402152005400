-- Where sets can stand at a name, by the fronts alone, and the place of a name and kind among them.
use Rattle.std.proofs.Common.{◌≡◌, ℕ, ◌+◌, ◌-◌, ◌<◌, ◌≤◌, Bool, true, false, eqb, ltb, not, ◌⊎◌, Option, Some, None, List, [], ◌∷◌, map, length, get_or, drop, Ordering, Less, Equal, Greater, sym, refl, ap, ◌∙◌, subst, inl, inr, ⊎_elim, true≢false, length-drop, arith}
use lib.ListN.{length-map}
use Rattle.std.specs.List.Sorted.{IsPartitionPoint, IsPartitionedBy, IsNonDecreasingBy}
use Rattle.std.specs.List.{slice_range, ItemBy}
use Rattle.std.specs.Option.{option_eq}
use Rattle.std.specs.Ordering.{is_lt, is_le, ordering_reverse, ordering_then, nat_cmp}
use Rattle.std.proofs.lemmas.Bool.{cases_lt, cases_Bool, ltb-true, lt-ltb, eqb-true, eq-eqb}
use Rattle.std.proofs.lemmas.List.{get_or-take, get_or-drop, get_or-map, get_or_default, length-take-le}
use Rattle.names.specs.declared.name.Name.{Name}
use Rattle.names.specs.Fronts.{front_below}
use Rattle.names.specs.Names.{labels}
use Rattle.names.specs.Order.{order, within, NotAfter}
use Rattle.names.proofs.Fronts.{front_order}
use Rattle.names.proofs.Order.{order_flip, order_below, order_laws}
use Rattle.meaning.specs.Model.{AliasOf, Set}
use Rattle.records.specs.declared.set.RecordSet.{RecordSet}
use Rattle.records.specs.Sets.{set_of}
use Rattle.zones.specs.Sorted.{is_before, is_before_below, sorted, place, leading, all_within, fronts_of, Alike, Narrowed}
use Rattle.zones.proofs.Places.{mem_at, leading_is, place_leading, sets_fall, fronts_many}
use Rattle.zones.proofs.ByPlace.{names_rise, all_before}
use Rattle.zones.proofs.Topmost.{each_so}

-- ---- two names, by which comes first

not_first : (a b : List (List ℕ)) → is_lt (order a b) ≡ false → NotAfter b a
not_first a b h = go (order a b) refl h
  where
    go : (r : Ordering) → order a b ≡ r → is_lt r ≡ false → NotAfter b a
    go Less e f = absurd (true≢false f)
    go Equal e f = ap is_le (order_flip b a ∙ ap ordering_reverse e)
    go Greater e f = ap is_le (order_flip b a ∙ ap ordering_reverse e)

first_only : (a b : List (List ℕ)) → is_lt (order a b) ≡ true → NotAfter b a → ⊥
first_only a b h k = go (order a b) refl h
  where
    go : (r : Ordering) → order a b ≡ r → is_lt r ≡ true → ⊥
    go Less e f = true≢false (sym k ∙ ap is_le (order_flip b a ∙ ap ordering_reverse e))
    go Equal e f = true≢false (sym f)
    go Greater e f = true≢false (sym f)

-- ---- a name outside the apex stands before all sets, or behind them

module _ (apex n : List (List ℕ)) (ss : List Set) (inside : all_within apex ss ≡ true) where
  set_in : (i : ℕ) (d : Set) → i < length ss → within apex (get_or ss i d).name ≡ true
  set_in i d l = each_so (λ s. within apex s.name) ss inside (get_or ss i d) (mem_at ss d i l)

  pub before_all : is_lt (order n apex) ≡ true → Narrowed apex n ss 0 0
  before_all h = record {
    rise = omega arith;
    bound = omega arith;
    before = λ i d l. absurd (omega arith);
    behind = λ i d l m. ⊎_elim (λ t. t) (λ f. absurd (first_only n apex h (order_laws.transitive apex (get_or ss i d).name n (order_laws.above_first apex (get_or ss i d).name (set_in i d m)) (not_first n (get_or ss i d).name f)))) (cases_Bool (is_lt (order n (get_or ss i d).name)));
    asked = λ l. absurd (omega arith);
  }

  pub behind_all : is_lt (order n apex) ≡ false → within apex n ≡ false → Narrowed apex n ss (length ss) (length ss)
  behind_all h w = record {
    rise = omega arith;
    bound = omega arith;
    before = λ i d l. ⊎_elim (λ t. t) (λ f. absurd (true≢false (sym (order_laws.between apex n (get_or ss i d).name (not_first n apex h) (not_first (get_or ss i d).name n f) (set_in i d l)) ∙ w))) (cases_Bool (is_lt (order (get_or ss i d).name n)));
    behind = λ i d l m. absurd (omega arith);
    asked = λ l. absurd (omega arith);
  }

less_before : (n : List (List ℕ)) (k : ℕ) (s : Set) → is_lt (order s.name n) ≡ true → is_before n k s ≡ true
less_before n k s h = go (order s.name n) refl h
  where
    go : (r : Ordering) → order s.name n ≡ r → is_lt r ≡ true → is_before n k s ≡ true
    go Less e f = ap (λ x. is_lt (ordering_then x (nat_cmp s.kind k))) e
    go Equal e f = absurd (true≢false (sym f))
    go Greater e f = absurd (true≢false (sym f))

-- ---- within the apex the fronts decide where they differ

-- the set that the code has at an index
at_of : (xs : List RecordSet) (i : ℕ) → i < length xs → (x : RecordSet) × ((d : Set) → get_or (map set_of xs) i d ≡ set_of x)
at_of [] i l = absurd (omega arith)
at_of (x ∷ xs) i l = (get_or (x ∷ xs) i x, λ d. get_or-map set_of (x ∷ xs) i x d l)

-- another number at an index, or none
abbrev pub Another : List ℕ → ℕ → ℕ → Type 0
Another fs i y = (length fs ≤ i) ⊎ ((i < length fs) × (get_or fs i 0 ≡ y → ⊥))

-- as a look at the index finds it
pub another_by : {R : Type 0} (now : R → ℕ) (fs : List ℕ) (i : ℕ) (r : Option R) (s : R) → ItemBy now fs i i r → true ≡ not (option_eq (λ x y. eqb (now x) (now y)) r (Some s)) → Another fs i (now s)
another_by now fs i None s h e = inl h.3
another_by now fs i (Some x) s h e = inr (h.3.0, λ f. absurd (true≢false (e ∙ ap not (eq-eqb (now x) (now s) (h.1 ∙ get_or_default fs i (now x) 0 h.3.0 ∙ f)))))

pub there_by : {R : Type 0} (now : R → ℕ) (fs : List ℕ) (i : ℕ) (r : Option R) (s : R) → ItemBy now fs i i r → false ≡ not (option_eq (λ x y. eqb (now x) (now y)) r (Some s)) → (i < length fs) × (get_or fs i 0 ≡ now s)
there_by now fs i None s h e = absurd (true≢false (sym e))
there_by now fs i (Some x) s h e = (h.3.0, sym (h.1 ∙ get_or_default fs i (now x) 0 h.3.0) ∙ eqb-true (now x) (now s) (go (eqb (now x) (now s)) e))
  where
    go : (b : Bool) → false ≡ not b → b ≡ true
    go true f = refl
    go false f = absurd (true≢false (sym f))

module _ (apex : List (List ℕ)) (xs : List RecordSet) (fs : List ℕ) (o : sorted (map set_of xs) ≡ true) (inside : all_within apex (map set_of xs) ≡ true) (m : fs ≡ fronts_of (length apex) (map set_of xs)) where
  many : length fs ≡ length xs
  many = fronts_many set_of xs fs (length apex) m

  abbrev Is : ℕ → RecordSet → Type 0
  Is i x = (d : Set) → get_or (map set_of xs) i d ≡ set_of x

  front_there : (i d : ℕ) → i < length xs → (x : RecordSet) → Is i x → get_or fs i d ≡ front_below (length apex) (labels x.name)
  front_there i d l x e =
      let n = length-map xs set_of in
      ap (λ gs. get_or gs i d) m ∙ get_or-map (λ (s : Set). front_below (length apex) s.name) (map set_of xs) i (set_of x) d (omega arith)
      ∙ ap (λ (s : Set). front_below (length apex) s.name) (e (set_of x))

  in_apex : (i : ℕ) → i < length xs → (x : RecordSet) → Is i x → within apex (labels x.name) ≡ true
  in_apex i l x e =
      let n = length-map xs set_of in
      ap (λ (s : Set). within apex s.name) (sym (e (set_of x))) ∙ set_in apex apex (map set_of xs) inside i (set_of x) (omega arith)

  by_names : (i j d : ℕ) → i ≤ j → (l : i < length xs) (k : j < length xs) (x y : RecordSet) → Is i x → Is j y → get_or fs i d ≤ get_or fs j d
  by_names i j d le l k x y e f =
      let n = length-map xs set_of in
      let p = front_there i d l x e in
      let q = front_there j d k y f in
      ⊎_elim
      (λ (lt : get_or fs j d < get_or fs i d).
      absurd (first_only (labels y.name) (labels x.name) (ap is_lt (front_order apex y.name x.name (in_apex j k y f) (in_apex i l x e) (omega arith)))
      ((λ t. is_le (order (sym (e (set_of x)) t).name (sym (f (set_of x)) t).name)) ∙ names_rise (map set_of xs) o (set_of x) i j le (omega arith))))
      (λ ge. ge)
      (cases_lt (get_or fs j d) (get_or fs i d))

  pub fronts_rise : IsNonDecreasingBy (λ x. x) fs
  fronts_rise i j d le l =
      let k = many in
      let a = at_of xs i (omega arith) in
      let b = at_of xs j (omega arith) in
      by_names i j d le (omega arith) (omega arith) a.0 b.0 a.1 b.1

  -- behind the last one, where its front is lower
  pub behind_front : (n : Name) (k : ℕ) → within apex (labels n) ≡ true → (sought : ℕ) → sought ≡ front_below (length apex) (labels n) → 0 < length fs → get_or fs (length fs - 1) 0 < sought → length xs ≡ place (labels n) k (map set_of xs)
  behind_front n k w sought h l lt = go (at_of xs (length xs - 1) (let c = many in omega arith))
    where
      go : (x : RecordSet) × Is (length xs - 1) x → length xs ≡ place (labels n) k (map set_of xs)
      go a =
          let c = many in
          let len = length-map xs set_of in
          let f = front_there (length xs - 1) 0 (omega arith) a.0 a.1 in
          let g : get_or fs (length xs - 1) 0 < sought = subst (λ i. get_or fs (i - 1) 0 < sought) c lt in
          let before = less_before (labels n) k (set_of a.0) (ap is_lt (front_order apex a.0.name n (in_apex (length xs - 1) (omega arith) a.0 a.1) w (omega arith))) in
          sym len
          ∙ all_before (map set_of xs) (labels n) k o (set_of a.0) (omega arith) (ap (λ i. is_before (labels n) k (get_or (map set_of xs) (i - 1) (set_of a.0))) len ∙ ap (is_before (labels n) k) (a.1 (set_of a.0)) ∙ before)

  module _ (n : Name) (w : within apex (labels n) ≡ true) (sought : ℕ) (h : sought ≡ front_below (length apex) (labels n)) (low : ℕ) (below : low ≤ length fs) (p : IsPartitionPoint (λ y. ltb y sought ≡ true) (λ y. ltb y sought ≡ false) fs low) where
    from_low : (i d : ℕ) → low ≤ i → i < length fs → sought ≤ get_or fs i d
    from_low i d l k = ⊎_elim (λ (lt : get_or fs i d < sought). absurd (true≢false (sym (lt-ltb (get_or fs i d) sought lt) ∙ p.1 i d l k))) (λ ge. ge) (cases_lt (get_or fs i d) sought)

    abbrev pub rest : List ℕ
    rest = slice_range fs low (length fs)

    rest_len : length rest ≡ length fs - low
    rest_len = let r = length-drop low fs in length-take-le (length fs - low) (drop low fs) (omega arith)

    rest_at : (i d : ℕ) → low + i < length fs → get_or rest i d ≡ get_or fs (low + i) d
    rest_at i d l = get_or-take (length fs - low) (drop low fs) i d (omega arith) ∙ get_or-drop low fs i d

    pub alike_part : IsPartitionedBy (λ y. eqb y sought) rest
    alike_part i j d le l e =
        let r = rest_len in
        let a = rest_at i d (omega arith) in
        let b = rest_at j d (omega arith) in
        let s = from_low (low + i) d (omega arith) (omega arith) in
        let t = fronts_rise (low + i) (low + j) d (omega arith) (omega arith) in
        let u = eqb-true (get_or rest j d) sought e in
        eq-eqb (get_or rest i d) sought (omega arith)

    -- from high on the fronts are higher
    by_fronts : (high : ℕ) → low ≤ high → high ≤ length fs → ((i : ℕ) → high ≤ i → i < length fs → sought < get_or fs i 0) → Narrowed apex (labels n) (map set_of xs) low high
    by_fronts high u v after = record {
      rise = u;
      bound = let k = many in let c = length-map xs set_of in omega arith;
      before = λ i d l.
          let k = many in
          let a = at_of xs i (omega arith) in
          first i d l (omega arith) a.0 a.1;
      behind = λ i d l r.
          let c = length-map xs set_of in
          let a = at_of xs i (omega arith) in
          last i d l (omega arith) a.0 a.1;
      asked = λ l. w;
    }
      where
        first : (i : ℕ) (d : Set) → i < low → i < length xs → (x : RecordSet) → Is i x → is_lt (order (get_or (map set_of xs) i d).name (labels n)) ≡ true
        first i d l k x e =
            let f = front_there i 0 k x e in
            let g = ltb-true (get_or fs i 0) sought (p.0 i 0 (omega arith) l) in
            ap (λ (s : Set). is_lt (order s.name (labels n))) (e d) ∙ ap is_lt (front_order apex x.name n (in_apex i k x e) w (omega arith))

        last : (i : ℕ) (d : Set) → high ≤ i → i < length xs → (x : RecordSet) → Is i x → is_lt (order (labels n) (get_or (map set_of xs) i d).name) ≡ true
        last i d l k x e =
            let c = many in
            let f = front_there i 0 k x e in
            let g = after i l (omega arith) in
            ap (λ (s : Set). is_lt (order (labels n) s.name)) (e d) ∙ ap is_lt (front_order apex n x.name w (in_apex i k x e) (omega arith))

    -- those with the same front
    pub narrowed : (alike : ℕ) → alike ≤ length rest → IsPartitionPoint (λ y. eqb y sought ≡ true) (λ y. eqb y sought ≡ false) rest alike → Narrowed apex (labels n) (map set_of xs) low (low + alike)
    narrowed alike few q = let r = rest_len in by_fronts (low + alike) (omega arith) (omega arith) higher
      where
        higher : (i : ℕ) → low + alike ≤ i → i < length fs → sought < get_or fs i 0
        higher i l k =
            let r = rest_len in
            let g = from_low i 0 (omega arith) k in
            let j : low + (i - low) ≡ i = omega arith in
            let at : get_or rest (i - low) 0 ≡ get_or fs i 0 = rest_at (i - low) 0 (omega arith) ∙ ap (λ y. get_or fs y 0) j in
            ⊎_elim (λ lt. lt)
            (λ (ge : get_or fs i 0 ≤ sought). absurd (true≢false (sym (eq-eqb (get_or rest (i - low) 0) sought (omega arith)) ∙ q.1 (i - low) 0 (omega arith) (omega arith))))
            (cases_lt sought (get_or fs i 0))

    pub alike_all : (alike : ℕ) → alike ≤ length rest → IsPartitionPoint (λ y. eqb y sought ≡ true) (λ y. eqb y sought ≡ false) rest alike → Alike sought fs low (low + alike)
    alike_all alike few q i l k =
        let r = rest_len in
        let j : low + (i - low) ≡ i = omega arith in
        sym (rest_at (i - low) 0 (omega arith) ∙ ap (λ y. get_or fs y 0) j) ∙ eqb-true (get_or rest (i - low) 0) sought (q.0 (i - low) 0 (omega arith) (omega arith))

    -- up to where another front is or there is none
    pub narrowed_to : (high : ℕ) → low ≤ high → high ≤ length fs → Another fs high sought → Narrowed apex (labels n) (map set_of xs) low high
    narrowed_to high u v (inl end) = by_fronts high u v (λ i l k. absurd (omega arith))
    narrowed_to high u v (inr other) = by_fronts high u v higher
      where
        higher : (i : ℕ) → high ≤ i → i < length fs → sought < get_or fs i 0
        higher i l k =
            let a = other.0 in
            let g = from_low high 0 u a in
            let h = fronts_rise high i 0 l k in
            ⊎_elim (λ (lt : sought < get_or fs high 0). omega arith) (λ (ge : get_or fs high 0 ≤ sought). absurd (other.1 (omega arith))) (cases_lt sought (get_or fs high 0))

-- ---- the place among those that are left

-- a test of the labels below the apex that is that of a name and kind
abbrev pub Agrees : List (List ℕ) → List (List ℕ) → ℕ → (Set → Bool) → Type 0
Agrees apex n k test = (s : Set) → within apex s.name ≡ true → within apex n ≡ true → test s ≡ is_before n k s

pub before_agrees : (apex n : List (List ℕ)) (k d : ℕ) → d ≡ length apex → Agrees apex n k (is_before_below d n k)
before_agrees apex n k d e s v w = (λ i. is_lt (ordering_then (order (drop (e i) s.name) (drop (e i) n)) (nat_cmp s.kind k))) ∙ ap (λ x. is_lt (ordering_then x (nat_cmp s.kind k))) (order_below apex s.name n v w)

greater_behind : (n : List (List ℕ)) (k : ℕ) (s : Set) → is_lt (order n s.name) ≡ true → is_before n k s ≡ false
greater_behind n k s h = go (order n s.name) refl h
  where
    go : (r : Ordering) → order n s.name ≡ r → is_lt r ≡ true → is_before n k s ≡ false
    go Less e f = ap (λ x. is_lt (ordering_then x (nat_cmp s.kind k))) (order_flip s.name n ∙ ap ordering_reverse e)
    go Equal e f = absurd (true≢false (sym f))
    go Greater e f = absurd (true≢false (sym f))

module _ {X : Type 0} (f : X → Set) (apex n : List (List ℕ)) (k : ℕ) (xs : List X) (o : sorted (map f xs) ≡ true) (inside : all_within apex (map f xs) ≡ true) (low high : ℕ) (r : Narrowed apex n (map f xs) low high) (test : Set → Bool) (agrees : Agrees apex n k test) where
  long : length (slice_range xs low high) ≡ high - low
  long =
      let a = r.bound in
      let b = length-map xs f in
      let c = length-drop low xs in
      length-take-le (high - low) (drop low xs) (omega arith)

  -- what the test says of one of them
  says : (i : ℕ) (x : X) (d : Set) → low + i < high → test (f (get_or (slice_range xs low high) i x)) ≡ is_before n k (get_or (map f xs) (low + i) d)
  says i x d l =
      let a = r.bound in
      let b = length-map xs f in
      let here : f (get_or (slice_range xs low high) i x) ≡ get_or (map f xs) (low + i) d =
      ap f (get_or-take (high - low) (drop low xs) i x (omega arith) ∙ get_or-drop low xs i x) ∙ sym (get_or-map f xs (low + i) x d (omega arith)) in
      ap test here ∙ agrees (get_or (map f xs) (low + i) d) (set_in apex n (map f xs) inside (low + i) d (omega arith)) (r.asked (omega arith))

  pub placed_part : IsPartitionedBy (λ x. test (f x)) (slice_range xs low high)
  placed_part i j d le l h =
      let a = r.bound in
      let b = length-map xs f in
      let c = long in
      ⊎_elim
      (λ (lt : i < j). says i d (f d) (omega arith) ∙ sets_fall n k (map f xs) o (f d) (low + i) (low + j) (omega arith) (omega arith) (sym (says j d (f d) (omega arith)) ∙ h))
      (λ (ge : j ≤ i). let e : i ≡ j = omega arith in ap (λ y. test (f (get_or (slice_range xs low high) y d))) e ∙ h)
      (cases_lt i j)

  pub placed_at : (m : ℕ) → m ≤ length (slice_range xs low high) → IsPartitionPoint (λ x. test (f x) ≡ true) (λ x. test (f x) ≡ false) (slice_range xs low high) m → low + m ≡ place n k (map f xs)
  placed_at m l p = place_of (leading_is (is_before n k) (map f xs) (low + m) any (let c = long in let a = r.bound in let b = r.rise in omega arith) passing failing)
    where
      any : Set
      any = record { name = []; kind = 0; ttl = 0; content = AliasOf [] }

      place_of : low + m ≡ leading (is_before n k) (map f xs) → low + m ≡ place n k (map f xs)
      place_of e = e ∙ sym (place_leading n k (map f xs))

      some_at : (i : ℕ) → i < length (map f xs) → X
      some_at i q = first xs (let b = length-map xs f in omega arith)
        where
          first : (ys : List X) → 0 < length ys → X
          first [] q = absurd (omega arith)
          first (y ∷ ys) q = y

      passing : (i : ℕ) → i < low + m → is_before n k (get_or (map f xs) i any) ≡ true
      passing i q =
          let a = r.bound in
          let b = r.rise in
          let c = long in
          ⊎_elim
          (λ (lt : i < low). less_before n k (get_or (map f xs) i any) (r.before i any lt))
          (λ (ge : low ≤ i).
          let j : low + (i - low) ≡ i = omega arith in
          let x = some_at i (omega arith) in
          ap (λ y. is_before n k (get_or (map f xs) y any)) (sym j) ∙ sym (says (i - low) x any (omega arith)) ∙ p.0 (i - low) x (omega arith) (omega arith))
          (cases_lt i low)

      failing : low + m < length (map f xs) → is_before n k (get_or (map f xs) (low + m) any) ≡ false
      failing q =
          let a = r.bound in
          let b = r.rise in
          let c = long in
          ⊎_elim
          (λ (lt : low + m < high).
          let x = some_at (low + m) q in
          sym (says m x any lt) ∙ p.1 m x (omega arith) (omega arith))
          (λ (ge : high ≤ low + m). greater_behind n k (get_or (map f xs) (low + m) any) (r.behind (low + m) any ge q))
          (cases_lt (low + m) high)
