-- Rows: as many sets in each as fit.
use Rattle.std.proofs.Common.{◌≡◌, ◌+◌, ◌<◌, ◌≤◌, ◌&&◌, ℕ, true, leb, List, [], ◌∷◌, ◌++◌, length, sym, refl, ap, ◌∙◌, subst, ◌⊎◌, inl, inr, ⊎_elim, append_assoc, arith, length-append}
use mathlib.Core.List.Memᴰ
use mathlib.Core.List.{Memᴰ}
use Rattle.std.proofs.lemmas.Bool.{cond-true, cond-false, and_parts, leb-true, le-leb, lt-leb, cases_lt}
use Rattle.meaning.specs.Model.{Set}
use Rattle.meaning.specs.Transfer.{transferred, all_transferred}
use Rattle.meaning.proofs.Carried.{length_all, length_none}
use Rattle.zones.specs.Valid.{no_clash, all_belong, valid}
use Rattle.transfers.specs.Splitting.{room, rows_behind, rows, EachFits}

pub length_more : (ss : List Set) (s : Set) → length (all_transferred (ss ++ s ∷ [])) ≡ length (all_transferred ss) + length (transferred s)
length_more [] s = let a = length_all s [] in let z = length_none in omega arith
length_more (t ∷ ss) s =
    let h = length_more ss s in
    let a = length_all t (ss ++ s ∷ []) in
    let b = length_all t ss in
    omega arith

-- ---- one set more

pub rows_on : (row : List Set) (s : Set) (ss : List Set) → length (all_transferred (row ++ s ∷ [])) ≤ room → rows_behind row (s ∷ ss) ≡ rows_behind (row ++ s ∷ []) ss
unfolding rows_behind
rows_on row s ss h = cond-true (leb (length (all_transferred (row ++ s ∷ []))) room) (rows_behind (row ++ s ∷ []) ss) (row ∷ rows_behind (s ∷ []) ss) (le-leb (length (all_transferred (row ++ s ∷ []))) room h)

pub rows_cut : (row : List Set) (s : Set) (ss : List Set) → room < length (all_transferred (row ++ s ∷ [])) → rows_behind row (s ∷ ss) ≡ row ∷ rows_behind (s ∷ []) ss
unfolding rows_behind
rows_cut row s ss h = cond-false (leb (length (all_transferred (row ++ s ∷ []))) room) (rows_behind (row ++ s ∷ []) ss) (row ∷ rows_behind (s ∷ []) ss) (lt-leb (length (all_transferred (row ++ s ∷ []))) room h)

pub rows_end : (row : List Set) → rows_behind row [] ≡ row ∷ []
unfolding rows_behind
rows_end row = refl

-- the next set goes on with the row, or begins another
abbrev pub Next : List Set → Set → List Set → Type 0
Next row s ss =
    (length (all_transferred (row ++ s ∷ [])) ≤ room) × (rows_behind row (s ∷ ss) ≡ rows_behind (row ++ s ∷ []) ss)
    ⊎ (room < length (all_transferred (row ++ s ∷ []))) × (rows_behind row (s ∷ ss) ≡ row ∷ rows_behind (s ∷ []) ss)

pub next_row : (row : List Set) (s : Set) (ss : List Set) → Next row s ss
next_row row s ss =
    ⊎_elim (λ l. inr (l, rows_cut row s ss l)) (λ l. inl (l, rows_on row s ss l)) (cases_lt room (length (all_transferred (row ++ s ∷ []))))

-- ---- at most one more than sets

pub rows_many : (row : List Set) (ss : List Set) → length (rows_behind row ss) ≤ length ss + 1
rows_many row [] = let e = ap length (rows_end row) in omega arith
rows_many row (s ∷ ss) =
    ⊎_elim
    (λ n. let e = ap length n.1 in let h = rows_many (row ++ s ∷ []) ss in omega arith)
    (λ n. let e = ap length n.1 in let h = rows_many (s ∷ []) ss in omega arith)
    (next_row row s ss)

pub few_sets : (apex : List (List ℕ)) (ss : List Set) → valid apex ss ≡ true → length ss ≤ 4096
few_sets apex ss v = leb-true (length ss) 4096 (and_parts (all_belong apex ss && no_clash ss) (leb (length ss) 4096) v).1

pub rows_limited : (apex : List (List ℕ)) (ss : List Set) → valid apex ss ≡ true → length (rows ss) ≤ 4097
rows_limited apex ss v =
    let l = few_sets apex ss v in
    let m = rows_many [] ss in
    omega arith

pub rows_some : (row : List Set) (ss : List Set) → 1 ≤ length (rows_behind row ss)
rows_some row [] = let e = ap length (rows_end row) in omega arith
rows_some row (s ∷ ss) =
    ⊎_elim
    (λ n. let e = ap length n.1 in let h = rows_some (row ++ s ∷ []) ss in omega arith)
    (λ n. let e = ap length n.1 in omega arith)
    (next_row row s ss)

-- ---- all sets, in their order

abbrev pub joint : List (List Set) → List Set
joint [] = []
joint (r ∷ rs) = r ++ joint rs

pub joint_append : (rs ts : List (List Set)) → joint (rs ++ ts) ≡ joint rs ++ joint ts
joint_append [] ts = refl
joint_append (r ∷ rs) ts = ap (λ xs. r ++ xs) (joint_append rs ts) ∙ sym (append_assoc r (joint rs) (joint ts))

rows_joint : (row : List Set) (ss : List Set) → joint (rows_behind row ss) ≡ row ++ ss
rows_joint row [] = ap joint (rows_end row)
rows_joint row (s ∷ ss) =
    ⊎_elim
    (λ n. ap joint n.1 ∙ rows_joint (row ++ s ∷ []) ss ∙ append_assoc row (s ∷ []) ss)
    (λ n. ap joint n.1 ∙ ap (λ xs. row ++ xs) (rows_joint (s ∷ []) ss))
    (next_row row s ss)

pub rows_whole : (ss : List Set) → joint (rows ss) ≡ ss
rows_whole ss = rows_joint [] ss

-- ---- what holds of each row: of one under way, with a set more that fits, and with its first set

module _ (P : List Set → Type 0) (Q : Set → Type 0)
    (more : (row : List Set) (s : Set) → P row → Q s → length (all_transferred (row ++ s ∷ [])) ≤ room → P (row ++ s ∷ []))
    (first : (s : Set) → Q s → P (s ∷ [])) where
  pub each_row : (row : List Set) (ss : List Set) → P row → ((s : Set) → Memᴰ s ss → Q s) → (r : List Set) → Memᴰ r (rows_behind row ss) → P r
  each_row row [] p q r m = ⊎_elim (λ e. subst P (sym e) p) (λ n. absurd (Memᴰ.not-nil n)) (Memᴰ.cases_cons (subst (Memᴰ r) (rows_end row) m))
  each_row row (s ∷ ss) p q r m =
      ⊎_elim
      (λ n. each_row (row ++ s ∷ []) ss (more row s p (q s (Memᴰ.head refl)) n.0) (λ t k. q t (Memᴰ.tail k)) r (subst (Memᴰ r) n.1 m))
      (λ n. ⊎_elim (λ e. subst P (sym e) p) (λ k. each_row (s ∷ []) ss (first s (q s (Memᴰ.head refl))) (λ t i. q t (Memᴰ.tail i)) r k) (Memᴰ.cases_cons (subst (Memᴰ r) n.1 m)))
      (next_row row s ss)

-- where each set alone fits, so does each row
pub light_rows : (ss : List Set) → EachFits ss → (r : List Set) → Memᴰ r (rows ss) → length (all_transferred r) ≤ room
light_rows ss h r m =
    let z = length_none in
    each_row (λ r. length (all_transferred r) ≤ room) (λ s. length (transferred s) ≤ room) (λ row s p k l. l) (λ s k. let a = length_all s [] in let z = length_none in omega arith) [] ss (omega arith) h r m

-- ---- each is as full as can be

-- the first row begins with what is under way
first_row : (t : Set) (row : List Set) (ss : List Set) → (r : List Set) × (rs : List (List Set)) × (rows_behind (t ∷ row) ss ≡ (t ∷ r) ∷ rs)
first_row t row [] = (row, [], rows_end (t ∷ row))
first_row t row (s ∷ ss) =
    ⊎_elim
    (λ n. let h = first_row t (row ++ s ∷ []) ss in (h.0, h.1, n.1 ∙ h.2))
    (λ n. (row, rows_behind (s ∷ []) ss, n.1))
    (next_row (t ∷ row) s ss)

no_two : (row : List Set) (front back : List (List Set)) (a b : List Set) → row ∷ [] ≡ front ++ a ∷ b ∷ back → ⊥
no_two row front back a b h = let e = ap length h in let n = length-append front (a ∷ b ∷ back) in omega arith

abbrev Full : List (List Set) → Type 0
Full rs = (front back : List (List Set)) (a b : List Set) (s : Set) → rs ≡ front ++ a ∷ (s ∷ b) ∷ back → room < length (all_transferred (a ++ s ∷ []))

-- a row, and one behind it that begins with a set that didn't fit
full_more : (row : List Set) (t : Set) (ss : List Set) → room < length (all_transferred (row ++ t ∷ [])) → Full (rows_behind (t ∷ []) ss) → Full (row ∷ rows_behind (t ∷ []) ss)
full_more row t ss l ih [] back a b s e =
    let f = first_row t [] ss in
    let g : row ∷ (t ∷ f.0) ∷ f.1 ≡ a ∷ (s ∷ b) ∷ back = sym (ap (λ xs. row ∷ xs) f.2) ∙ e in
    let m : row ≡ a = cc in
    let n : t ≡ s = cc in
    let w : length (all_transferred (row ++ t ∷ [])) ≡ length (all_transferred (a ++ s ∷ [])) = λ i. length (all_transferred (m i ++ n i ∷ [])) in
    omega arith
full_more row t ss l ih (f ∷ fs) back a b s e = let g : rows_behind (t ∷ []) ss ≡ fs ++ a ∷ (s ∷ b) ∷ back = cc in ih fs back a b s g

rows_full : (row ss : List Set) → Full (rows_behind row ss)
rows_full row [] front back a b s h = absurd (no_two row front back a (s ∷ b) (sym (rows_end row) ∙ h))
rows_full row (t ∷ ss) front back a b s h =
    ⊎_elim
    (λ n. rows_full (row ++ t ∷ []) ss front back a b s (sym n.1 ∙ h))
    (λ n. full_more row t ss n.0 (rows_full (t ∷ []) ss) front back a b s (sym n.1 ∙ h))
    (next_row row t ss)

pub full : (ss : List Set) → Full (rows ss)
full ss = rows_full [] ss
