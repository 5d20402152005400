-- What may come into a zone, and the zone with it.
use Rattle.std.proofs.Common.{◌≡◌, ℕ, ◌+◌, ◌*◌, ◌≤◌, Bool, true, false, cond, not, ◌&&◌, eqb, leb, List, [], ◌∷◌, ◌++◌, map, length, take, drop, is_some, Ok, Err, Option, Result, sym, refl, ap, ◌∙◌, true≢false, arith}
use Rattle.std.specs.List.{insert}
use Rattle.std.proofs.lemmas.List.{map-append, take-map, drop-map}
use Rattle.std.proofs.lemmas.Bool.{and_from, not_from_false, leb-false, eq-eqb}
use Rattle.names.specs.declared.fault.Fault.{Fault}
use Rattle.names.specs.declared.fault.Fault.TheVariants.{Misplaced, Conflict, TooMuch}
use Rattle.names.specs.Fronts.{front_below}
use Rattle.names.specs.Order.{within}
use Rattle.meaning.specs.Model.{delegates, Set}
use Rattle.meaning.specs.Says.{same, is_exactly, find}
use Rattle.zones.specs.Sorted.{fronts_of, place}
use Rattle.zones.specs.Valid.{clashes, valid, insert_set, added}
use Rattle.meaning.proofs.Finding.{Found, some, none, finds}
use Rattle.meaning.specs.Transfer.{transferred, all_transferred}
use Rattle.zones.proofs.Insert.{New, insert_place, insert_valid, insert_length, insert_carried}
use Rattle.meaning.proofs.Rules.{so_same}

pub record May (apex : List (List ℕ)) (ss : List Set) (s : Set) : Type 0 where
  pub inside : within apex s.name ≡ true
  pub fresh : is_some (find (is_exactly s.name s.kind) ss) ≡ false
  pub below : (delegates s.kind && same s.name apex) ≡ false
  pub alone : clashes s ss ≡ false
  pub room : leb 4096 (length ss) ≡ false

-- a set that is taken breaks no rule
pub may : (apex : List (List ℕ)) (ss : List Set) (s : Set) (xs : List Set) → added apex ss s ≡ Ok xs → May apex ss s
may apex ss s xs h = go (within apex s.name) refl (is_some (find (is_exactly s.name s.kind) ss)) refl (delegates s.kind && same s.name apex) refl (clashes s ss) refl (leb 4096 (length ss)) refl
  where
    chain : Bool → Bool → Bool → Bool → Bool → Result (List Set) Fault
    chain a b c d e = cond (not a) (Err Misplaced) (cond b (Err Misplaced) (cond c (Err Conflict) (cond d (Err Conflict) (cond e (Err TooMuch) (Ok (insert_set s ss))))))

    no_ok : (f : Fault) → ◌≡◌ {A = Result (List Set) Fault} (Err f) (Ok xs) → ⊥
    no_ok f q = let w : ◌≡◌ {A = ℕ} 0 1 = cc in omega arith

    go : (a : Bool) → within apex s.name ≡ a → (b : Bool) → is_some (find (is_exactly s.name s.kind) ss) ≡ b → (c : Bool) → (delegates s.kind && same s.name apex) ≡ c → (d : Bool) → clashes s ss ≡ d → (e : Bool) → leb 4096 (length ss) ≡ e → May apex ss s
    go false p b q c r d t e u = absurd (no_ok Misplaced (sym (λ i. cond (not (p i)) (Err Misplaced) (cond (q i) (Err Misplaced) (cond (r i) (Err Conflict) (cond (t i) (Err Conflict) (cond (u i) (Err TooMuch) (Ok (insert_set s ss))))))) ∙ h))
    go true p true q c r d t e u = absurd (no_ok Misplaced (sym (λ i. cond (not (p i)) (Err Misplaced) (cond (q i) (Err Misplaced) (cond (r i) (Err Conflict) (cond (t i) (Err Conflict) (cond (u i) (Err TooMuch) (Ok (insert_set s ss))))))) ∙ h))
    go true p false q true r d t e u = absurd (no_ok Conflict (sym (λ i. cond (not (p i)) (Err Misplaced) (cond (q i) (Err Misplaced) (cond (r i) (Err Conflict) (cond (t i) (Err Conflict) (cond (u i) (Err TooMuch) (Ok (insert_set s ss))))))) ∙ h))
    go true p false q false r true t e u = absurd (no_ok Conflict (sym (λ i. cond (not (p i)) (Err Misplaced) (cond (q i) (Err Misplaced) (cond (r i) (Err Conflict) (cond (t i) (Err Conflict) (cond (u i) (Err TooMuch) (Ok (insert_set s ss))))))) ∙ h))
    go true p false q false r false t true u = absurd (no_ok TooMuch (sym (λ i. cond (not (p i)) (Err Misplaced) (cond (q i) (Err Misplaced) (cond (r i) (Err Conflict) (cond (t i) (Err Conflict) (cond (u i) (Err TooMuch) (Ok (insert_set s ss))))))) ∙ h))
    go true p false q false r false t false u = record { inside = p; fresh = q; below = r; alone = t; room = u }

pub new_so : (ss : List Set) (s : Set) → is_some (find (is_exactly s.name s.kind) ss) ≡ false → New s ss
new_so ss s h t m e f = go (find (is_exactly s.name s.kind) ss) (finds (is_exactly s.name s.kind) ss) h
  where
    go : (x : Option Set) → Found (is_exactly s.name s.kind) ss x → is_some x ≡ false → ⊥
    go x (some u n p) g = true≢false g
    go x (none no_one) g = no_one t m (and_from (same t.name s.name) (eqb t.kind s.kind) (so_same t.name s.name e) (eq-eqb t.kind s.kind f))

-- ---- the sets as the code keeps them

pub pushed : {A : Type 0} (xs : List A) (i : ℕ) (x : A) → i ≡ length xs → xs ++ x ∷ [] ≡ insert xs i x
pushed {A = A} xs i x e = at_end xs ∙ ap (λ j. insert xs j x) (sym e)
  where
    at_end : (ys : List A) → ys ++ x ∷ [] ≡ insert ys (length ys) x
    at_end [] = refl
    at_end (y ∷ ys) = ap (λ zs. y ∷ zs) (at_end ys)

map_inserted : {X Y : Type 0} (f : X → Y) (xs : List X) (x : X) (i : ℕ) → map f (insert xs i x) ≡ insert (map f xs) i (f x)
map_inserted f xs x i = map-append f (take i xs) (x ∷ drop i xs) ∙ (λ j. sym (take-map f i xs) j ++ (f x ∷ sym (drop-map f i xs) j))

module _ {X : Type 0} (f : X → Set) (xs : List X) (x : X) where
  pub put_in : (i : ℕ) → i ≡ place (f x).name (f x).kind (map f xs) → map f (insert xs i x) ≡ insert_set (f x) (map f xs)
  put_in i e = map_inserted f xs x i ∙ ap (λ j. insert (map f xs) j (f x)) e ∙ sym (insert_place (f x) (map f xs))

  -- each has its front: g is that of the new one
  pub still_marked : (d i g : ℕ) (fs gs : List ℕ) (ys : List X) → fs ≡ fronts_of d (map f xs) → g ≡ front_below d (f x).name → ys ≡ insert xs i x → gs ≡ insert fs i g → gs ≡ fronts_of d (map f ys)
  still_marked d i g fs gs ys m e h k =
      k ∙ (λ j. insert (m j) i (e j))
      ∙ sym (map_inserted (λ (s : Set). front_below d s.name) (map f xs) (f x) i)
      ∙ ap (fronts_of d) (sym (ap (map f) h ∙ map_inserted f xs x i))

-- ---- the zone with it

module _ (apex : List (List ℕ)) (ss : List Set) (s : Set) (m : May apex ss s) (ts : List Set) (is : ts ≡ insert_set s ss) where
  pub still_valid : valid apex ss ≡ true → valid apex ts ≡ true
  still_valid v =
      let l = leb-false 4096 (length ss) m.room in
      ap (valid apex) is
      ∙ insert_valid apex s ss v (and_from (within apex s.name) (not (delegates s.kind && same s.name apex)) m.inside (not_from_false (delegates s.kind && same s.name apex) m.below)) m.alone l

  -- its bytes are counted: n are those of the new one
  pub still_carried : (sum n : ℕ) → sum ≡ length (all_transferred ss) → n ≡ length (transferred s) → sum + n ≡ length (all_transferred ts)
  still_carried sum n e t =
      let a = ap (λ zs. length (all_transferred zs)) is in
      let b = insert_carried s ss in
      omega arith

  pub still_bounded : (sum n : ℕ) → sum ≤ 879 * length ss → n ≤ 879 → sum + n ≤ 879 * length ts
  still_bounded sum n e t =
      let a = ap length is in
      let b = insert_length s ss in
      omega arith
