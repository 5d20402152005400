-- Searches by place find what a look through all sets finds.
use Rattle.std.proofs.Common.{◌≡◌, ℕ, ◌-◌, ◌<◌, ◌≤◌, Bool, true, false, cond, eqb, List, [], map, length, get_or, Some, None, Option, Ordering, Less, Equal, Greater, sym, refl, ap, ◌∙◌, subst, ⊎_elim, true≢false, arith}
use mathlib.Core.List.{Memᴰ}
use lib.ListN.{length-map}
use Rattle.std.specs.Bool.{then_some}
use Rattle.std.specs.List.{ItemBy}
use Rattle.std.specs.Option.{option_map, MatchOption}
use Rattle.std.specs.Cmp.{ranks}
use Rattle.std.specs.Ordering.{is_lt, is_le, ordering_reverse, ordering_then, MatchOrdering, nat_cmp}
use Rattle.std.proofs.lemmas.Bool.{and_from, and_parts, cases_lt, cases_order, eq-eqb, eqb-true}
use Rattle.names.specs.Order.{order, within, NotAfter}
use Rattle.names.proofs.Order.{order_flip, order_itself, order_laws}
use Rattle.meaning.specs.Model.{AliasOf, Set}
use Rattle.meaning.specs.Says.{same, is_exactly, find, any_under}
use Rattle.zones.specs.Sorted.{is_before, sorted, place}
use Rattle.meaning.proofs.Finding.{Found, some, none, finds, Below, one, no_one, looks_below}
use Rattle.zones.proofs.Places.{mem_at, index_of, in_order, right_half, sets_fall, place_leading, place_within, at_place, place_left, read_at}
use Rattle.meaning.proofs.Rules.{same_so, so_same}

-- ---- keys that are the same

rank_same : (k : ℕ) (r : Ordering) → MatchOrdering r (k < k) (k ≡ k) (k < k) → is_lt r ≡ false
rank_same k Less h = absurd (omega arith)
rank_same k Equal h = refl
rank_same k Greater h = refl

pub not_itself : (n : List (List ℕ)) (k : ℕ) (s : Set) → s.name ≡ n → s.kind ≡ k → is_before n k s ≡ false
not_itself n k s e f =
    (λ i. is_lt (ordering_then (order (e i) n) (nat_cmp (f i) k))) ∙ ap (λ r. is_lt (ordering_then r (nat_cmp k k))) ((order_laws.equal n n).1 refl) ∙ rank_same k (nat_cmp k k) (ranks k k)

-- sorted sets are apart
pub apart : (ss : List Set) → sorted ss ≡ true → (d : Set) (i j : ℕ) → i < length ss → j < length ss → (get_or ss i d).name ≡ (get_or ss j d).name → (get_or ss i d).kind ≡ (get_or ss j d).kind → i ≡ j
apart ss o d i j l m e f =
    ⊎_elim (λ g. g)
    (⊎_elim
    (λ (a : i < j). absurd (true≢false (sym (in_order ss o d i j a m) ∙ not_itself (get_or ss j d).name (get_or ss j d).kind (get_or ss i d) e f)))
    (λ (a : j < i). absurd (true≢false (sym (in_order ss o d j i a l) ∙ not_itself (get_or ss i d).name (get_or ss i d).kind (get_or ss j d) (sym e) (sym f)))))
    (cases_order i j)

pub distinct : (ss : List Set) → sorted ss ≡ true → (s t : Set) → Memᴰ s ss → Memᴰ t ss → s.name ≡ t.name → s.kind ≡ t.kind → s ≡ t
distinct ss o s t m n e f =
    let a = index_of ss s s m in
    let b = index_of ss s t n in
    let i = apart ss o s a.0 b.0 a.1 b.1 (ap (λ (x : Set). x.name) a.2 ∙ e ∙ sym (ap (λ (x : Set). x.name) b.2)) (ap (λ (x : Set). x.kind) a.2 ∙ f ∙ sym (ap (λ (x : Set). x.kind) b.2)) in
    sym a.2 ∙ ap (λ j. get_or ss j s) i ∙ b.2

-- ---- the set of a name and kind

module _ (ss : List Set) (o : sorted ss ≡ true) (n : List (List ℕ)) (k : ℕ) where
  pub exact_there : (d : Set) → place n k ss < length ss → (get_or ss (place n k ss) d).name ≡ n → (get_or ss (place n k ss) d).kind ≡ k → Some (get_or ss (place n k ss) d) ≡ find (is_exactly n k) ss
  exact_there d l e f = go (find (is_exactly n k) ss) (finds (is_exactly n k) ss)
    where
      go : (x : Option Set) → Found (is_exactly n k) ss x → Some (get_or ss (place n k ss) d) ≡ x
      go x (some s m p) =
          let q = and_parts (same s.name n) (eqb s.kind k) p in
          ap Some (distinct ss o (get_or ss (place n k ss) d) s (mem_at ss d (place n k ss) l) m (e ∙ sym (same_so s.name n q.0)) (f ∙ sym (eqb-true s.kind k q.1)))
      go x (none h) = absurd (h (get_or ss (place n k ss) d) (mem_at ss d (place n k ss) l) (and_from (same (get_or ss (place n k ss) d).name n) (eqb (get_or ss (place n k ss) d).kind k) (so_same (get_or ss (place n k ss) d).name n e) (eq-eqb (get_or ss (place n k ss) d).kind k f)))

  pub exact_absent : (d : Set) → (place n k ss < length ss → (get_or ss (place n k ss) d).name ≡ n → (get_or ss (place n k ss) d).kind ≡ k → ⊥) → None ≡ find (is_exactly n k) ss
  exact_absent d no-one-here = go (find (is_exactly n k) ss) (finds (is_exactly n k) ss)
    where
      clash : (s : Set) → Memᴰ s ss → s.name ≡ n → s.kind ≡ k → ⊥
      clash s m e f =
          let a = index_of ss d s m in
          let nm : (get_or ss a.0 d).name ≡ n = ap (λ (x : Set). x.name) a.2 ∙ e in
          let kd : (get_or ss a.0 d).kind ≡ k = ap (λ (x : Set). x.kind) a.2 ∙ f in
          let p = place_left n k ss d a.0 (not_itself n k (get_or ss a.0 d) nm kd) in
          let l = a.1 in
          ⊎_elim
          (λ (lt : place n k ss < a.0).
          let before : is_before n k (get_or ss (place n k ss) d) ≡ true = subst (λ x. is_before n x (get_or ss (place n k ss) d) ≡ true) kd (subst (λ x. is_before x (get_or ss a.0 d).kind (get_or ss (place n k ss) d) ≡ true) nm (in_order ss o d (place n k ss) a.0 lt l)) in
          true≢false (sym before ∙ at_place n k ss d (omega arith)))
          (λ (ge : a.0 ≤ place n k ss).
          let i : a.0 ≡ place n k ss = omega arith in
          no-one-here (omega arith) (ap (λ j. (get_or ss j d).name) (sym i) ∙ nm) (ap (λ j. (get_or ss j d).kind) (sym i) ∙ kd))
          (cases_lt (place n k ss) a.0)

      go : (x : Option Set) → Found (is_exactly n k) ss x → None ≡ x
      go x (some s m p) =
          let q = and_parts (same s.name n) (eqb s.kind k) p in
          absurd (clash s m (same_so s.name n q.0) (eqb-true s.kind k q.1))
      go x (none h) = refl

-- where the last set stands before a key, all do
pub all_before : (ss : List Set) (n : List (List ℕ)) (k : ℕ) → sorted ss ≡ true → (d : Set) → 0 < length ss → is_before n k (get_or ss (length ss - 1) d) ≡ true → length ss ≡ place n k ss
all_before ss n k o d l h =
    let r = right_half (is_before n k) ss (sets_fall n k ss o) d (length ss - 1) (omega arith) h in
    let p = place_leading n k ss in
    let w = place_within n k ss in
    omega arith

pub behind_last : {X : Type 0} (f : X → Set) (xs : List X) (n : List (List ℕ)) (k : ℕ) → sorted (map f xs) ≡ true → (x : X) → 0 < length xs → x ≡ get_or xs (length xs - 1) x → is_before n k (f x) ≡ true → length xs ≡ place n k (map f xs)
behind_last f xs n k o x l e h =
    let m = length-map xs f in
    let last : get_or (map f xs) (length (map f xs) - 1) (f x) ≡ f x = ap (λ i. get_or (map f xs) (i - 1) (f x)) m ∙ read_at f xs (length xs - 1) x (omega arith) e in
    sym m ∙ all_before (map f xs) n k o (f x) (omega arith) (ap (is_before n k) last ∙ h)

-- ---- the order of names, from that of sets

pub not_less : (n : List (List ℕ)) (k : ℕ) (s : Set) (r : Ordering) → order s.name n ≡ r → is_lt (ordering_then r (nat_cmp s.kind k)) ≡ false → NotAfter n s.name
not_less n k s Less e h = absurd (true≢false h)
not_less n k s Equal e h = ap is_le (order_flip n s.name ∙ ap ordering_reverse e)
not_less n k s Greater e h = ap is_le (order_flip n s.name ∙ ap ordering_reverse e)

pub least_kind : (k : ℕ) (r : Ordering) → MatchOrdering r (k < 0) (k ≡ 0) (0 < k) → is_lt r ≡ false
least_kind k Less h = absurd (omega arith)
least_kind k Equal h = refl
least_kind k Greater h = refl

pub not_before : (n : List (List ℕ)) (s : Set) → NotAfter n s.name → is_before n 0 s ≡ false
not_before n s h = go (order s.name n) refl
  where
    go : (r : Ordering) → order s.name n ≡ r → is_lt (ordering_then (order s.name n) (nat_cmp s.kind 0)) ≡ false
    go Less e = absurd (true≢false (sym h ∙ ap is_le (order_flip n s.name ∙ ap ordering_reverse e)))
    go Equal e = ap (λ r. is_lt (ordering_then r (nat_cmp s.kind 0))) e ∙ least_kind s.kind (nat_cmp s.kind 0) (ranks s.kind 0)
    go Greater e = ap (λ r. is_lt (ordering_then r (nat_cmp s.kind 0))) e

-- a set before another has a name that isn't after the other's
pub up_to : (s : Set) (n : List (List ℕ)) (k : ℕ) (r : Ordering) → order s.name n ≡ r → is_lt (ordering_then r (nat_cmp s.kind k)) ≡ true → NotAfter s.name n
up_to s n k Less e h = ap is_le e
up_to s n k Equal e h = ap is_le e
up_to s n k Greater e h = absurd (true≢false (sym h))

-- names rise along sorted sets
pub names_rise : (ss : List Set) → sorted ss ≡ true → (d : Set) (i j : ℕ) → i ≤ j → j < length ss → NotAfter (get_or ss i d).name (get_or ss j d).name
names_rise ss o d i j l m =
    ⊎_elim (λ lt. up_to (get_or ss i d) (get_or ss j d).name (get_or ss j d).kind (order (get_or ss i d).name (get_or ss j d).name) refl (in_order ss o d i j lt m))
    (λ ge. let e : i ≡ j = omega arith in subst (λ x. NotAfter (get_or ss i d).name (get_or ss x d).name) e (ap is_le (order_itself (get_or ss i d).name)))
    (cases_lt i j)

-- ---- anything at or below a name

module _ (ss : List Set) (o : sorted ss ≡ true) (n : List (List ℕ)) where
  pub under_there : (d : Set) → place n 0 ss < length ss → within n (get_or ss (place n 0 ss) d).name ≡ true → true ≡ any_under n ss
  under_there d l w = go (any_under n ss) (looks_below n ss)
    where
      go : (b : Bool) → Below n ss b → true ≡ b
      go b (one s m p) = refl
      go b (no_one h) = absurd (h (get_or ss (place n 0 ss) d) (mem_at ss d (place n 0 ss) l) w)

  pub under_absent : (d : Set) → (place n 0 ss < length ss → within n (get_or ss (place n 0 ss) d).name ≡ true → ⊥) → false ≡ any_under n ss
  under_absent d no-one-here = go (any_under n ss) (looks_below n ss)
    where
      clash : (s : Set) → Memᴰ s ss → within n s.name ≡ true → ⊥
      clash s m w =
          let a = index_of ss d s m in
          let l = a.1 in
          let below : within n (get_or ss a.0 d).name ≡ true = subst (λ x. within n x.name ≡ true) (sym a.2) w in
          let p = place_left n 0 ss d a.0 (not_before n (get_or ss a.0 d) (order_laws.above_first n (get_or ss a.0 d).name below)) in
          let first : NotAfter n (get_or ss (place n 0 ss) d).name = not_less n 0 (get_or ss (place n 0 ss) d) (order (get_or ss (place n 0 ss) d).name n) refl (at_place n 0 ss d (omega arith)) in
          no-one-here (omega arith)
          (⊎_elim
          (λ (lt : place n 0 ss < a.0). order_laws.between n (get_or ss (place n 0 ss) d).name (get_or ss a.0 d).name first (up_to (get_or ss (place n 0 ss) d) (get_or ss a.0 d).name (get_or ss a.0 d).kind (order (get_or ss (place n 0 ss) d).name (get_or ss a.0 d).name) refl (in_order ss o d (place n 0 ss) a.0 lt l)) below)
          (λ (ge : a.0 ≤ place n 0 ss). let i : a.0 ≡ place n 0 ss = omega arith in subst (λ j. within n (get_or ss j d).name ≡ true) i below)
          (cases_lt (place n 0 ss) a.0))

      go : (b : Bool) → Below n ss b → false ≡ b
      go b (one s m p) = absurd (clash s m p)
      go b (no_one h) = refl

-- ---- the code's tests and reads

-- what is shown where a test passes
pub shown : {R A : Type 0} (g : R → A) (b : Bool) (r : R) → option_map g (then_some b r) ≡ cond b (Some (g r)) None
shown g true r = refl
shown g false r = refl

module _ {X : Type 0} (f : X → Set) (xs : List X) (n : List (List ℕ)) (k : ℕ) where
  -- the set at the place is the one, or none is
  pub exact_read : sorted (map f xs) ≡ true → (i : ℕ) (x : X) → i ≡ place n k (map f xs) → i < length xs → x ≡ get_or xs i x → true ≡ is_exactly n k (f x) → Some (f x) ≡ find (is_exactly n k) (map f xs)
  exact_read o i x p l e h =
      let m = length-map xs f in
      let here : get_or (map f xs) (place n k (map f xs)) (f x) ≡ f x = ap (λ j. get_or (map f xs) j (f x)) (sym p) ∙ read_at f xs i x l e in
      let q = and_parts (same (f x).name n) (eqb (f x).kind k) (sym h) in
      ap Some (sym here) ∙ exact_there (map f xs) o n k (f x) (omega arith) (ap (λ (s : Set). s.name) here ∙ same_so (f x).name n q.0) (ap (λ (s : Set). s.kind) here ∙ eqb-true (f x).kind k q.1)

  pub exact_other : sorted (map f xs) ≡ true → (i : ℕ) (x : X) → i ≡ place n k (map f xs) → i < length xs → x ≡ get_or xs i x → false ≡ is_exactly n k (f x) → None ≡ find (is_exactly n k) (map f xs)
  exact_other o i x p l e h =
      let here : get_or (map f xs) (place n k (map f xs)) (f x) ≡ f x = ap (λ j. get_or (map f xs) j (f x)) (sym p) ∙ read_at f xs i x l e in
      exact_absent (map f xs) o n k (f x) (λ _ a b. true≢false (sym (and_from (same (f x).name n) (eqb (f x).kind k) (so_same (f x).name n (sym (ap (λ (s : Set). s.name) here) ∙ a)) (eq-eqb (f x).kind k (sym (ap (λ (s : Set). s.kind) here) ∙ b))) ∙ sym h))

  pub exact_by : sorted (map f xs) ≡ true → (i : ℕ) (x : X) (b : Bool) → i ≡ place n k (map f xs) → i < length xs → x ≡ get_or xs i x → b ≡ is_exactly n k (f x) → cond b (Some (f x)) None ≡ find (is_exactly n k) (map f xs)
  exact_by o i x true p l e h = exact_read o i x p l e h
  exact_by o i x false p l e h = exact_other o i x p l e h

  pub exact_past : sorted (map f xs) ≡ true → (i : ℕ) → i ≡ place n k (map f xs) → length xs ≤ i → None ≡ find (is_exactly n k) (map f xs)
  exact_past o i p l = let m = length-map xs f in exact_absent (map f xs) o n k any (λ q a b. let r = q in omega arith)
    where
      any : Set
      any = record { name = []; kind = 0; ttl = 0; content = AliasOf [] }

module _ {X : Type 0} (f : X → Set) (xs : List X) (n : List (List ℕ)) where
  pub under_read : sorted (map f xs) ≡ true → (i : ℕ) (x : X) (b : Bool) → i ≡ place n 0 (map f xs) → i < length xs → x ≡ get_or xs i x → b ≡ within n (f x).name → b ≡ any_under n (map f xs)
  under_read o i x true p l e h =
      let m = length-map xs f in
      let here : get_or (map f xs) (place n 0 (map f xs)) (f x) ≡ f x = ap (λ j. get_or (map f xs) j (f x)) (sym p) ∙ read_at f xs i x l e in
      under_there (map f xs) o n (f x) (omega arith) (ap (λ (s : Set). within n s.name) here ∙ sym h)
  under_read o i x false p l e h =
      let here : get_or (map f xs) (place n 0 (map f xs)) (f x) ≡ f x = ap (λ j. get_or (map f xs) j (f x)) (sym p) ∙ read_at f xs i x l e in
      under_absent (map f xs) o n (f x) (λ _ w. true≢false (sym w ∙ ap (λ (s : Set). within n s.name) here ∙ sym h))

  pub under_past : sorted (map f xs) ≡ true → (i : ℕ) → i ≡ place n 0 (map f xs) → length xs ≤ i → false ≡ any_under n (map f xs)
  under_past o i p l = let m = length-map xs f in under_absent (map f xs) o n any (λ q w. let r = q in omega arith)
    where
      any : Set
      any = record { name = []; kind = 0; ttl = 0; content = AliasOf [] }

  -- of the element that the code got, or of none
  pub under_by : sorted (map f xs) ≡ true → {R : Type 0} (now : R → X) (i : ℕ) (r : Option R) (b : Bool) (P : R → Type 0) → i ≡ place n 0 (map f xs) → ItemBy now xs i i r → MatchOption r (b ≡ false) P → ((x : R) → P x → b ≡ within n (f (now x)).name) → b ≡ any_under n (map f xs)
  under_by o now i None b P p h k by = k ∙ under_past o i p h.3
  under_by o now i (Some x) b P p h k by = under_read o i (now x) b p h.3.0 h.1 (by x k)
