-- The topmost delegations: the one over a name speaks of it, and one search finds it.
use Rattle.std.proofs.Common.{◌≡◌, ℕ, zero, suc, ◌-◌, ◌<◌, ◌≤◌, Bool, true, false, cond, not, ◌&&◌, ◌||◌, eqb, ltb, leb, List, [], ◌∷◌, map, length, get_or, take, drop, is_some, Some, None, Option, Ordering, Less, Equal, Greater, sym, refl, ap, ◌∙◌, subst, ⊎_elim, true≢false, arith}
use mathlib.Core.List.Memᴰ
use mathlib.Core.List.{Memᴰ}
use lib.ListN.{length-map}
use Rattle.std.specs.List.Sorted.{IsPartitionPoint, IsPartitionedBy}
use Rattle.std.specs.Ordering.{is_lt, is_le}
use Rattle.std.proofs.lemmas.List.{get_or-map, get_or-take, length-take-le}
use Rattle.std.proofs.lemmas.Bool.{and_from, and_parts, or_left, or_right, or_cases, cond-true, cond-false, not-true, not_from_true, cases_lt, cases_Bool, eq-eqb, eqb-true, lt-ltb}
use Rattle.names.specs.Order.{order, within, NotAfter}
use Rattle.names.proofs.Order.{order_laws, order_below}
use Rattle.names.proofs.Within.{within_laws, within_level}
use Rattle.meaning.specs.Model.{delegates, Set}
use Rattle.meaning.specs.Says.{same, is_over, is_exactly, find, highest}
use Rattle.meaning.proofs.Finding.{Found, some, none, finds, Highest, high, none_high, finds_highest}
use Rattle.meaning.proofs.Rules.{same_so, so_same}
use Rattle.meaning.proofs.Saying.{no_longer}
use Rattle.zones.specs.Sorted as sorts
use Rattle.zones.specs.Sorted.{sorted, leading, each}
use Rattle.zones.specs.Valid.{belongs, all_belong, no_clash, valid}
use Rattle.zones.specs.Cuts.{apart, all_below, all_there, all_covered, cuts_of, cut_place, cut_over, is_up_to_below}
use Rattle.zones.proofs.Places.{mem_at, index_of, Falls, leading_is, passes, leading_within, right_half, read_at}
use Rattle.zones.proofs.ByPlace.{distinct}

-- ---- all of a list, and some of it

module _ {A : Type 0} (test : A → Bool) where
  pub each_so : (xs : List A) → each test xs ≡ true → (x : A) → Memᴰ x xs → test x ≡ true
  unfolding each
  each_so [] h x m = absurd (Memᴰ.not-nil m)
  each_so (y ∷ xs) h x m =
      let p = and_parts (test y) (each test xs) h in
      ⊎_elim (λ e. ap test e ∙ p.0) (λ l. each_so xs p.1 x l) (Memᴰ.cases_cons m)

  pub so_each : (xs : List A) → ((x : A) → Memᴰ x xs → test x ≡ true) → each test xs ≡ true
  unfolding each
  so_each [] h = refl
  so_each (y ∷ xs) h = and_from (test y) (each test xs) (h y (Memᴰ.head refl)) (so_each xs (λ x m. h x (Memᴰ.tail m)))

  pub some_so : (xs : List A) → sorts.some test xs ≡ true → (x : A) × Memᴰ x xs × (test x ≡ true)
  unfolding sorts.some
  some_so [] h = absurd (true≢false (sym h))
  some_so (y ∷ xs) h =
      ⊎_elim (λ e. (y, Memᴰ.head refl, e)) (λ l. let r = some_so xs l in (r.0, Memᴰ.tail r.1, r.2)) (or_cases (test y) (sorts.some test xs) h)

  pub so_some : (xs : List A) (x : A) → Memᴰ x xs → test x ≡ true → sorts.some test xs ≡ true
  unfolding sorts.some
  so_some [] x m h = absurd (Memᴰ.not-nil m)
  so_some (y ∷ xs) x m h =
      ⊎_elim (λ e. or_left (test y) (sorts.some test xs) (ap test (sym e) ∙ h)) (λ l. or_right (test y) (sorts.some test xs) (so_some xs x l h)) (Memᴰ.cases_cons m)

-- what holds of all holds of one that the code reads
pub each_read : {X A : Type 0} (f : X → A) (test : A → Bool) (xs : List X) (i : ℕ) (x : X) → i < length xs → x ≡ get_or xs i x → each test (map f xs) ≡ true → test (f x) ≡ true
each_read f test xs i x l e h =
    let m = length-map xs f in
    ap test (sym (read_at f xs i x l e)) ∙ each_so test (map f xs) h (get_or (map f xs) i (f x)) (mem_at (map f xs) (f x) i (omega arith))

-- ---- in order and apart

pub less_le : (r : Ordering) → is_lt r ≡ true → is_le r ≡ true
less_le Less h = refl
less_le Equal h = refl
less_le Greater h = absurd (true≢false (sym h))

pub apart_parts : (c d : List (List ℕ)) (cs : List (List (List ℕ))) → apart (c ∷ d ∷ cs) ≡ true → (is_lt (order c d) ≡ true) × (within c d ≡ false) × (apart (d ∷ cs) ≡ true)
unfolding apart
apart_parts c d cs h =
    let p = and_parts (is_lt (order c d) && not (within c d)) (apart (d ∷ cs)) h in
    let q = and_parts (is_lt (order c d)) (not (within c d)) p.0 in
    (q.0, not-true (within c d) q.1, p.1)

pub apart_tail : (c : List (List ℕ)) (cs : List (List (List ℕ))) → apart (c ∷ cs) ≡ true → apart cs ≡ true
unfolding apart
apart_tail c [] h = refl
apart_tail c (d ∷ cs) h = (apart_parts c d cs h).2

-- the first is before all others and over none
first_apart : (c : List (List ℕ)) (cs : List (List (List ℕ))) → apart (c ∷ cs) ≡ true → (d : List (List ℕ)) (i : ℕ) → i < length cs → NotAfter c (get_or cs i d) × (within c (get_or cs i d) ≡ false)
first_apart c [] h d i l = absurd (omega arith)
first_apart c (e ∷ cs) h d zero l = let p = apart_parts c e cs h in (less_le (order c e) p.0, p.1)
first_apart c (e ∷ cs) h d (suc i) l =
    let p = apart_parts c e cs h in
    let r = first_apart e cs p.2 d i (omega arith) in
    let le = less_le (order c e) p.0 in
    (order_laws.transitive c e (get_or cs i d) le r.0, not_over (within c (get_or cs i d)) refl r le p.1)
  where
    not_over : (b : Bool) → within c (get_or cs i d) ≡ b → NotAfter e (get_or cs i d) × (within e (get_or cs i d) ≡ false) → NotAfter c e → within c e ≡ false → within c (get_or cs i d) ≡ false
    not_over false w r le f = w
    not_over true w r le f = absurd (true≢false (sym (order_laws.between c e (get_or cs i d) le r.0 w) ∙ f))

pub pair_apart : (cs : List (List (List ℕ))) → apart cs ≡ true → (d : List (List ℕ)) (i j : ℕ) → i < j → j < length cs → NotAfter (get_or cs i d) (get_or cs j d) × (within (get_or cs i d) (get_or cs j d) ≡ false)
pair_apart [] h d i j l m = absurd (omega arith)
pair_apart (c ∷ cs) h d i zero l m = absurd (omega arith)
pair_apart (c ∷ cs) h d zero (suc j) l m = first_apart c cs h d j (omega arith)
pair_apart (c ∷ cs) h d (suc i) (suc j) l m = pair_apart cs (apart_tail c cs h) d i j (omega arith) (omega arith)

pub cuts_fall : (n : List (List ℕ)) (cs : List (List (List ℕ))) → apart cs ≡ true → Falls (λ c. is_le (order c n)) cs
cuts_fall n cs h d i j l m p = order_laws.transitive (get_or cs i d) (get_or cs j d) n (pair_apart cs h d i j l m).0 p

-- the labels below the apex decide
pub below_found : (apex n c : List (List ℕ)) (d : ℕ) (r : Ordering) (b : Bool) → within apex c ≡ true → within apex n ≡ true → d ≡ length apex → r ≡ order (drop d c) (drop d n) → b ≡ is_le r → b ≡ is_le (order c n)
below_found apex n c d r b v w e h k = k ∙ ap is_le (h ∙ ap (λ x. order (drop x c) (drop x n)) e ∙ order_below apex c n v w)

-- of two over one name, one is the other
pub one_cut : (cs : List (List (List ℕ))) → apart cs ≡ true → (n a b : List (List ℕ)) → Memᴰ a cs → Memᴰ b cs → within a n ≡ true → within b n ≡ true → a ≡ b
one_cut cs h n a b m l v w = go (index_of cs a a m) (index_of cs a b l)
  where
    nested : (c d : List (List ℕ)) → NotAfter c d → within c n ≡ true → within d n ≡ true → within c d ≡ true
    nested c d le x y = order_laws.between c d n le (order_laws.above_first d n y) x

    go : (i : ℕ) × (i < length cs) × (get_or cs i a ≡ a) → (j : ℕ) × (j < length cs) × (get_or cs j a ≡ b) → a ≡ b
    go p q =
        let u : within (get_or cs p.0 a) n ≡ true = subst (λ x. within x n ≡ true) (sym p.2) v in
        let z : within (get_or cs q.0 a) n ≡ true = subst (λ x. within x n ≡ true) (sym q.2) w in
        let pl = p.1 in
        let ql = q.1 in
        ⊎_elim
        (λ (lt : p.0 < q.0). let r = pair_apart cs h a p.0 q.0 lt q.1 in absurd (true≢false (sym (nested (get_or cs p.0 a) (get_or cs q.0 a) r.0 u z) ∙ r.1)))
        (λ (ge : q.0 ≤ p.0).
        ⊎_elim
        (λ (lt : q.0 < p.0). let r = pair_apart cs h a q.0 p.0 lt p.1 in absurd (true≢false (sym (nested (get_or cs q.0 a) (get_or cs p.0 a) r.0 z u) ∙ r.1)))
        (λ (le : p.0 ≤ q.0). let e : p.0 ≡ q.0 = omega arith in sym p.2 ∙ ap (λ i. get_or cs i a) e ∙ q.2)
        (cases_lt q.0 p.0))
        (cases_lt p.0 q.0)

-- ---- the one over a name

pub data Covers (n : List (List ℕ)) (cs : List (List (List ℕ))) : Option (List (List ℕ)) → Type 0 where
  covers : (c : List (List ℕ)) → Memᴰ c cs → within c n ≡ true → Covers n cs (Some c)
  uncovered : ((c : List (List ℕ)) → Memᴰ c cs → within c n ≡ true → ⊥) → Covers n cs None

pub looks_over : (n : List (List ℕ)) (cs : List (List (List ℕ))) → Covers n cs (cut_over n cs)
unfolding cut_over
looks_over n [] = uncovered (λ c m w. Memᴰ.not-nil m)
looks_over n (c ∷ cs) = go (within c n) refl (cut_over n cs) (looks_over n cs)
  where
    more : (x : Option (List (List ℕ))) → within c n ≡ false → Covers n cs x → Covers n (c ∷ cs) x
    more x f (covers e m w) = covers e (Memᴰ.tail m) w
    more x f (uncovered h) = uncovered (λ e m w. ⊎_elim (λ s. true≢false (sym w ∙ ap (λ y. within y n) s ∙ f)) (λ l. h e l w) (Memᴰ.cases_cons m))

    go : (b : Bool) → within c n ≡ b → (x : Option (List (List ℕ))) → Covers n cs x → Covers n (c ∷ cs) (cond (within c n) (Some c) x)
    go true e x ih = subst (Covers n (c ∷ cs)) (sym (cond-true (within c n) (Some c) x e)) (covers c (Memᴰ.head refl) e)
    go false e x ih = subst (Covers n (c ∷ cs)) (sym (cond-false (within c n) (Some c) x e)) (more x e ih)

module _ (n : List (List ℕ)) (cs : List (List (List ℕ))) (o : apart cs ≡ true) (d : List (List ℕ)) where
  abbrev last : List (List ℕ)
  last = get_or cs (cut_place n cs - 1) d

  -- one over the name is the last that isn't after it
  over_last : (c : List (List ℕ)) → Memᴰ c cs → within c n ≡ true → (0 < cut_place n cs) × (within last n ≡ true)
  over_last c m w = go (index_of cs d c m)
    where
      go : (i : ℕ) × (i < length cs) × (get_or cs i d ≡ c) → (0 < cut_place n cs) × (within last n ≡ true)
      go a =
          let l = a.1 in
          let at : within (get_or cs a.0 d) n ≡ true = subst (λ x. within x n ≡ true) (sym a.2) w in
          let low = right_half (λ x. is_le (order x n)) cs (cuts_fall n cs o) d a.0 a.1 (order_laws.above_first (get_or cs a.0 d) n at) in
          let pl = leading_within (λ x. is_le (order x n)) cs in (
            omega arith,
            ⊎_elim
                (λ (lt : a.0 < cut_place n cs - 1).
                let r = pair_apart cs o d a.0 (cut_place n cs - 1) lt (omega arith) in
                absurd (true≢false (sym (order_laws.between (get_or cs a.0 d) last n r.0 (passes (λ x. is_le (order x n)) cs d (cut_place n cs - 1) (omega arith)) at) ∙ r.1)))
                (λ (ge : cut_place n cs - 1 ≤ a.0). let e : a.0 ≡ cut_place n cs - 1 = omega arith in subst (λ i. within (get_or cs i d) n ≡ true) e at)
                (cases_lt a.0 (cut_place n cs - 1)),
          )

  pub cut_first : cut_place n cs ≡ 0 → None ≡ cut_over n cs
  cut_first z = go (cut_over n cs) (looks_over n cs)
    where
      go : (x : Option (List (List ℕ))) → Covers n cs x → None ≡ x
      go x (covers c m w) = let p = (over_last c m w).0 in absurd (omega arith)
      go x (uncovered h) = refl

  pub cut_last : 0 < cut_place n cs → within last n ≡ true → Some last ≡ cut_over n cs
  cut_last l w = go (cut_over n cs) (looks_over n cs)
    where
      there : Memᴰ last cs
      there = let pl = leading_within (λ x. is_le (order x n)) cs in mem_at cs d (cut_place n cs - 1) (omega arith)

      go : (x : Option (List (List ℕ))) → Covers n cs x → Some last ≡ x
      go x (covers c m v) = ap Some (one_cut cs o n last c there m w v)
      go x (uncovered h) = absurd (h last there w)

  pub cut_other : within last n ≡ false → None ≡ cut_over n cs
  cut_other f = go (cut_over n cs) (looks_over n cs)
    where
      go : (x : Option (List (List ℕ))) → Covers n cs x → None ≡ x
      go x (covers c m w) = absurd (true≢false (sym (over_last c m w).1 ∙ f))
      go x (uncovered h) = refl

-- as the code reads it
module _ {X : Type 0} (f : X → List (List ℕ)) (xs : List X) (o : apart (map f xs) ≡ true) (n : List (List ℕ)) where
  pub cut_read : (i : ℕ) (x : X) (b : Bool) → i ≡ cut_place n (map f xs) → 0 < i → i ≤ length xs → x ≡ get_or xs (i - 1) x → b ≡ within (f x) n → cond b (Some (f x)) None ≡ cut_over n (map f xs)
  cut_read i x b p l m e h = go b h
    where
      here : get_or (map f xs) (cut_place n (map f xs) - 1) (f x) ≡ f x
      here = ap (λ j. get_or (map f xs) (j - 1) (f x)) (sym p) ∙ read_at f xs (i - 1) x (omega arith) e

      go : (b : Bool) → b ≡ within (f x) n → cond b (Some (f x)) None ≡ cut_over n (map f xs)
      go true h = ap Some (sym here) ∙ cut_last n (map f xs) o (f x) (omega arith) (ap (λ c. within c n) here ∙ sym h)
      go false h = cut_other n (map f xs) o (f x) (ap (λ c. within c n) here ∙ sym h)

-- outside the apex none is over a name
pub cut_outside : (apex n : List (List ℕ)) (cs : List (List (List ℕ))) → all_below apex cs ≡ true → within apex n ≡ false → None ≡ cut_over n cs
cut_outside apex n cs h f = go (cut_over n cs) (looks_over n cs)
  where
    go : (x : Option (List (List ℕ))) → Covers n cs x → None ≡ x
    go x (covers c m w) = absurd (true≢false (sym (within_laws.transitive apex c n (each_so (within apex) cs h c m) w) ∙ f))
    go x (uncovered never) = refl

-- the last that isn't after the name, where the name is within the apex; elsewhere whichever
module _ {X : Type 0} (f : X → List (List ℕ)) (apex n : List (List ℕ)) (xs : List X) (o : apart (map f xs) ≡ true) (below : all_below apex (map f xs) ≡ true) (i : ℕ) (p : within apex n ≡ true → i ≡ cut_place n (map f xs)) where
  pub cut_none : i ≡ 0 → None ≡ cut_over n (map f xs)
  cut_none z = ⊎_elim (λ w. cut_first n (map f xs) o [] (sym (p w) ∙ z)) (λ w. cut_outside apex n (map f xs) below w) (cases_Bool (within apex n))

  pub cut_by : (x : X) (b : Bool) → 0 < i → i ≤ length xs → x ≡ get_or xs (i - 1) x → b ≡ within (f x) n → cond b (Some (f x)) None ≡ cut_over n (map f xs)
  cut_by x b l m e h = ⊎_elim (λ w. cut_read f xs o n i x b (p w) l m e h) (λ w. go w b h) (cases_Bool (within apex n))
    where
      go : within apex n ≡ false → (b : Bool) → b ≡ within (f x) n → cond b (Some (f x)) None ≡ cut_over n (map f xs)
      go w true h = absurd (true≢false (sym (within_laws.transitive apex (f x) n (each_read f (within apex) xs (i - 1) x (omega arith) e below) (sym h)) ∙ w))
      go w false h = cut_outside apex n (map f xs) below w

-- the last of the first so many
pub last_of : {X : Type 0} (xs : List X) (i : ℕ) (x : X) → i ≤ length xs → 0 < length (take i xs) → x ≡ get_or (take i xs) (length (take i xs) - 1) x → (0 < i) × (x ≡ get_or xs (i - 1) x)
last_of xs i x l m e =
    let n = length-take-le i xs l in
    let p : length (take i xs) - 1 ≡ i - 1 = omega arith in
    (omega arith, e ∙ ap (λ j. get_or (take i xs) j x) p ∙ get_or-take i xs (i - 1) x (omega arith))

-- a test of the labels below the apex halves them
module _ {X : Type 0} (f : X → List (List ℕ)) (apex n : List (List ℕ)) (xs : List X) (o : apart (map f xs) ≡ true) (below : all_below apex (map f xs) ≡ true) (w : within apex n ≡ true) (d : ℕ) (deep : d ≡ length apex) where
  told : (i : ℕ) (x : X) → i < length xs → is_up_to_below d n (f (get_or xs i x)) ≡ is_le (order (f (get_or xs i x)) n)
  told i x l =
      below_found apex n (f (get_or xs i x)) d (order (drop d (f (get_or xs i x))) (drop d n)) (is_up_to_below d n (f (get_or xs i x)))
      (let m = length-map xs f in ap (within apex) (sym (get_or-map f xs i x (f x) l)) ∙ each_so (within apex) (map f xs) below (get_or (map f xs) i (f x)) (mem_at (map f xs) (f x) i (omega arith))) w deep refl refl

  pub cut_part : IsPartitionedBy (λ x. is_up_to_below d n (f x)) xs
  cut_part i j x le l h = ⊎_elim
      (λ (lt : i < j).
      let m = length-map xs f in
      told i x (omega arith) ∙ ap (λ c. is_le (order c n)) (sym (get_or-map f xs i x (f x) (omega arith)))
      ∙ cuts_fall n (map f xs) o (f x) i j lt (omega arith) (ap (λ c. is_le (order c n)) (get_or-map f xs j x (f x) l) ∙ sym (told j x l) ∙ h))
      (λ (ge : j ≤ i). let e : i ≡ j = omega arith in ap (λ k. is_up_to_below d n (f (get_or xs k x))) e ∙ h)
      (cases_lt i j)

  pub cut_placed : (m : ℕ) → m ≤ length xs → IsPartitionPoint (λ x. is_up_to_below d n (f x) ≡ true) (λ x. is_up_to_below d n (f x) ≡ false) xs m → m ≡ cut_place n (map f xs)
  cut_placed m l p = leading_is (λ c. is_le (order c n)) (map f xs) m [] (let k = length-map xs f in omega arith) passing failing
    where
      some_at : 0 < length xs → X
      some_at q = first xs q
        where
          first : (ys : List X) → 0 < length ys → X
          first [] q = absurd (omega arith)
          first (y ∷ ys) q = y

      read : (i : ℕ) (x : X) → i < length xs → is_le (order (get_or (map f xs) i []) n) ≡ is_up_to_below d n (f (get_or xs i x))
      read i x q = ap (λ c. is_le (order c n)) (get_or-map f xs i x [] q) ∙ sym (told i x q)

      passing : (i : ℕ) → i < m → is_le (order (get_or (map f xs) i []) n) ≡ true
      passing i q = let x = some_at (omega arith) in read i x (omega arith) ∙ p.0 i x (omega arith) q

      failing : m < length (map f xs) → is_le (order (get_or (map f xs) m []) n) ≡ false
      failing q = let k = length-map xs f in let x = some_at (omega arith) in read m x (omega arith) ∙ p.1 m x (omega arith) (omega arith)

-- ---- it speaks

pub record Right (apex : List (List ℕ)) (ss : List Set) (cs : List (List (List ℕ))) : Type 0 where
  pub ordered : apart cs ≡ true
  pub below : all_below apex cs ≡ true
  pub there : all_there ss cs ≡ true
  pub all : all_covered cs ss ≡ true

pub right_so : (apex : List (List ℕ)) (ss : List Set) (cs : List (List (List ℕ))) → cuts_of apex ss cs ≡ true → Right apex ss cs
right_so apex ss cs h =
    let p = and_parts (apart cs && all_below apex cs && all_there ss cs) (all_covered cs ss) h in
    let q = and_parts (apart cs && all_below apex cs) (all_there ss cs) p.0 in
    let r = and_parts (apart cs) (all_below apex cs) q.0 in
    record { ordered = r.0; below = r.1; there = q.1; all = p.1 }

pub so_right : (apex : List (List ℕ)) (ss : List Set) (cs : List (List (List ℕ))) → Right apex ss cs → cuts_of apex ss cs ≡ true
so_right apex ss cs r =
    and_from (apart cs && all_below apex cs && all_there ss cs) (all_covered cs ss) (and_from (apart cs && all_below apex cs) (all_there ss cs) (and_from (apart cs) (all_below apex cs) r.ordered r.below) r.there) r.all

-- a delegation at a name
pub at_cut : (ss : List Set) (c : List (List ℕ)) → is_some (find (is_exactly c 4) ss) ≡ true → (s : Set) × Memᴰ s ss × (s.name ≡ c) × (s.kind ≡ 4)
at_cut ss c h = go (find (is_exactly c 4) ss) (finds (is_exactly c 4) ss) h
  where
    go : (x : Option Set) → Found (is_exactly c 4) ss x → is_some x ≡ true → (s : Set) × Memᴰ s ss × (s.name ≡ c) × (s.kind ≡ 4)
    go x (some s m p) e = let q = and_parts (same s.name c) (eqb s.kind 4) p in (s, m, same_so s.name c q.0, eqb-true s.kind 4 q.1)
    go x (none k) e = absurd (true≢false (sym e))

pub covered_so : (cs : List (List (List ℕ))) (s : Set) → (not (delegates s.kind) || sorts.some (λ c. within c s.name) cs) ≡ true → delegates s.kind ≡ true → (c : List (List ℕ)) × Memᴰ c cs × (within c s.name ≡ true)
covered_so cs s h e =
    some_so (λ c. within c s.name) cs (⊎_elim (λ f. absurd (true≢false (sym f ∙ not_from_true (delegates s.kind) e))) (λ g. g) (or_cases (not (delegates s.kind)) (sorts.some (λ c. within c s.name) cs) h))

pub all_belong_lem : (apex : List (List ℕ)) (ss : List Set) → valid apex ss ≡ true → all_belong apex ss ≡ true
all_belong_lem apex ss v = (and_parts (all_belong apex ss) (no_clash ss) (and_parts (all_belong apex ss && no_clash ss) (leb (length ss) 4096) v).0).0

pub belong_at : (apex : List (List ℕ)) (ss : List Set) → all_belong apex ss ≡ true → (t : Set) → Memᴰ t ss → belongs apex t ≡ true
belong_at apex [] h t m = absurd (Memᴰ.not-nil m)
belong_at apex (s ∷ ss) h t m =
    let p = and_parts (belongs apex s) (all_belong apex ss) h in
    ⊎_elim (λ e. ap (belongs apex) e ∙ p.0) (λ l. belong_at apex ss p.1 t l) (Memᴰ.cases_cons m)

module _ (apex : List (List ℕ)) (ss : List Set) (o : sorted ss ≡ true) (cs : List (List (List ℕ))) (r : Right apex ss cs) (inside : all_belong apex ss ≡ true) (q : List (List ℕ)) where
  parts : (t : Set) → is_over apex q t ≡ true → (delegates t.kind ≡ true) × (within t.name q ≡ true)
  parts t h =
      let p = and_parts (delegates t.kind && within t.name q) (ltb (length apex) (length t.name)) h in
      and_parts (delegates t.kind) (within t.name q) p.0

  -- one that covers a delegation over the name is over the name
  above : (t : Set) → Memᴰ t ss → is_over apex q t ≡ true → (c : List (List ℕ)) × Memᴰ c cs × (within c q ≡ true) × (within c t.name ≡ true)
  above t m h =
      let p = parts t h in
      let a = covered_so cs t (each_so (λ s. not (delegates s.kind) || sorts.some (λ c. within c s.name) cs) ss r.all t m) p.0 in
      (a.0, a.1, within_laws.transitive a.0 t.name q a.2 p.1, a.2)

  pub none_speaks : None ≡ cut_over q cs → None ≡ highest (is_over apex q) ss
  none_speaks e = go (cut_over q cs) (looks_over q cs) e (highest (is_over apex q) ss) (finds_highest (is_over apex q) ss)
    where
      go : (x : Option (List (List ℕ))) → Covers q cs x → None ≡ x → (y : Option Set) → Highest (is_over apex q) ss y → None ≡ y
      go x (covers c m w) f y k = let z : ◌≡◌ {A = ℕ} 0 1 = cc in absurd (omega arith)
      go x (uncovered h) f y (high t m p least) = let a = above t m p in absurd (h a.0 a.1 a.2)
      go x (uncovered h) f y (none_high k) = refl

  pub cut_speaks : (c : List (List ℕ)) → Some c ≡ cut_over q cs → find (is_exactly c 4) ss ≡ highest (is_over apex q) ss
  cut_speaks c e = by_cover (cut_over q cs) (looks_over q cs) e
    where
      longer : (t : Set) → Memᴰ t ss → delegates t.kind ≡ true → length apex < length t.name
      longer t m k =
          let b = belong_at apex ss inside t m in
          let p = and_parts (within apex t.name) (not (delegates t.kind && same t.name apex)) b in
          let l = no_longer apex t.name p.0 in
          ⊎_elim (λ lt. lt)
          (λ (ge : length t.name ≤ length apex).
          let e : length apex ≡ length t.name = omega arith in
          absurd (true≢false (sym (and_from (delegates t.kind) (same t.name apex) k (so_same t.name apex (sym (within_level apex t.name p.0 e)))) ∙ not-true (delegates t.kind && same t.name apex) p.1)))
          (cases_lt (length apex) (length t.name))

      over : (s : Set) → Memᴰ s ss → s.name ≡ c → s.kind ≡ 4 → within c q ≡ true → is_over apex q s ≡ true
      over s m e k w =
          let d = eq-eqb s.kind 4 k in
          and_from (delegates s.kind && within s.name q) (ltb (length apex) (length s.name)) (and_from (delegates s.kind) (within s.name q) d (subst (λ x. within x q ≡ true) (sym e) w)) (lt-ltb (length apex) (length s.name) (longer s m d))

      is_highest : (s : Set) → Memᴰ s ss → s.name ≡ c → s.kind ≡ 4 → within c q ≡ true → Memᴰ c cs → (y : Option Set) → Highest (is_over apex q) ss y → Some s ≡ y
      is_highest s m e k w l y (high t j p least) =
          let a = above t j p in
          let b = parts t p in
          let same_cut : a.0 ≡ c = one_cut cs r.ordered q a.0 c a.1 l a.2 w in
          let up : within c t.name ≡ true = subst (λ x. within x t.name ≡ true) same_cut a.3 in
          let least-is = least s m (over s m e k w) in
          let low = no_longer c t.name up in
          let lengths = ap length e in
          ap Some (distinct ss o s t m j (e ∙ within_level c t.name up (omega arith)) (k ∙ sym (eqb-true t.kind 4 b.0)))
      is_highest s m e k w l y (none_high never) = absurd (never s m (over s m e k w))

      by_find : within c q ≡ true → Memᴰ c cs → (x : Option Set) → Found (is_exactly c 4) ss x → x ≡ highest (is_over apex q) ss
      by_find w l x (some s m p) =
          let u = and_parts (same s.name c) (eqb s.kind 4) p in
          is_highest s m (same_so s.name c u.0) (eqb-true s.kind 4 u.1) w l (highest (is_over apex q) ss) (finds_highest (is_over apex q) ss)
      by_find w l x (none never) =
          let a = at_cut ss c (each_so (λ c. is_some (find (is_exactly c 4) ss)) cs r.there c l) in
          absurd (never a.0 a.1 (and_from (same a.0.name c) (eqb a.0.kind 4) (so_same a.0.name c a.2) (eq-eqb a.0.kind 4 a.3)))

      by_cover : (x : Option (List (List ℕ))) → Covers q cs x → Some c ≡ x → find (is_exactly c 4) ss ≡ highest (is_over apex q) ss
      by_cover x (covers d m w) f =
          let s : c ≡ d = cc in
          by_find (subst (λ y. within y q ≡ true) (sym s) w) (subst (λ y. Memᴰ y cs) (sym s) m) (find (is_exactly c 4) ss) (finds (is_exactly c 4) ss)
      by_cover x (uncovered h) f = let z : ◌≡◌ {A = ℕ} 0 1 = cc in absurd (omega arith)
