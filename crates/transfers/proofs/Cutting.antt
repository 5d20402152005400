-- Rows as the code makes them, one set after the other.
use Rattle.std.proofs.Common.{◌≡◌, ℕ, ◌+◌, ◌<◌, ◌≤◌, List, [], ◌∷◌, ◌++◌, map, length, get_or, take, drop, sym, ap, ◌∙◌, subst, ⊎_elim, append_assoc, arith}
use mathlib.Core.List.Memᴰ
use mathlib.Core.List.{Memᴰ}
use Rattle.std.specs.List.{between}
use Rattle.std.proofs.lemmas.List.{map-append, take_more, take_all, drop_more, drop_all}
use Rattle.std.proofs.lemmas.List.Edits.{between_none, between_more}
use Rattle.std.proofs.lemmas.Slice.{between_to_end}
use Rattle.meaning.specs.Model.{Set}
use Rattle.meaning.specs.Transfer.{transferred, all_transferred}
use Rattle.meaning.proofs.Carried.{length_none}
use Rattle.transfers.specs.Splitting.{room, rows_behind, rows, EachFits}
use Rattle.transfers.proofs.Rows.{length_more, rows_on, rows_cut, rows_end}

module _ {X : Type 0} (f : X → Set) (xs : List X) where
  abbrev pub Row : ℕ → ℕ → List Set
  Row s i = map f (between s i xs)

  abbrev pub Weighed : ℕ → ℕ → ℕ → Type 0
  Weighed s i n = n ≡ length (all_transferred (Row s i))

  abbrev pub Cut : List (List Set) → ℕ → ℕ → Type 0
  Cut rs s i = rs ++ rows_behind (Row s i) (map f (drop i xs)) ≡ rows (map f xs)

  -- each set before i alone fits
  abbrev pub Light : ℕ → Type 0
  Light i = EachFits (map f (take i xs))

  -- rows that are done, and one under way from s on, up to i, that takes n bytes
  pub record Going (rs : List (List Set)) (s i n : ℕ) : Type 0 where
    pub order : s ≤ i
    pub short : n ≤ room
    pub weighed : Weighed s i n
    pub done : Cut rs s i
    pub light : Light i

  pub none_going : (rs : List (List Set)) → rs ≡ [] → Going rs 0 0 0
  none_going rs e = record { order = omega arith; short = omega arith; weighed = sym length_none; done = ap (λ ys. ys ++ rows (map f xs)) e; light = λ s m. absurd (Memᴰ.not-nil m) }

  -- at the end the row under way is the last
  pub all_gone : (rs : List (List Set)) (s i n : ℕ) → Going rs s i n → length xs ≤ i → rs ++ Row s (length xs) ∷ [] ≡ rows (map f xs)
  all_gone rs s i n g l =
      ap (λ ys. rs ++ map f ys ∷ []) (between_to_end xs s (length xs) (omega arith) ∙ sym (between_to_end xs s i l))
      ∙ ap (λ r. rs ++ r) (sym (rows_end (Row s i)))
      ∙ ap (λ ys. rs ++ rows_behind (Row s i) (map f ys)) (sym (drop_all i xs l))
      ∙ g.done

  pub all_light : (rs : List (List Set)) (s i n : ℕ) → Going rs s i n → length xs ≤ i → EachFits (map f xs)
  all_light rs s i n g l t m = g.light t (subst (λ ys. Memᴰ t (map f ys)) (sym (take_all i xs l)) m)

  module _ (i : ℕ) (x : X) (l : i < length xs) (is : x ≡ get_or xs i x) where
    left : map f (drop i xs) ≡ f x ∷ map f (drop (i + 1) xs)
    left = ap (map f) (drop_more xs i x l) ∙ ap (λ y. f y ∷ map f (drop (i + 1) xs)) (sym is)

    longer : (s : ℕ) → s ≤ i → Row s (i + 1) ≡ Row s i ++ f x ∷ []
    longer s o =
        ap (map f) (between_more xs s i x o l)
        ∙ map-append f (between s i xs) (get_or xs i x ∷ [])
        ∙ ap (λ y. Row s i ++ f y ∷ []) (sym is)

    alone : Row i (i + 1) ≡ f x ∷ []
    alone = longer i (omega arith) ∙ ap (λ ys. map f ys ++ f x ∷ []) (between_none xs i)

    module _ (rs : List (List Set)) (s n m : ℕ) (g : Going rs s i n) (e : m ≡ length (transferred (f x))) where
      lighter : m ≤ room → Light (i + 1)
      lighter fit t k =
          let more : map f (take (i + 1) xs) ≡ map f (take i xs) ++ f x ∷ [] =
          ap (map f) (take_more xs i x l) ∙ map-append f (take i xs) (get_or xs i x ∷ []) ∙ ap (λ y. map f (take i xs) ++ f y ∷ []) (sym is) in
          ⊎_elim (λ a. g.light t a) (λ b. ⊎_elim (λ q. let w = ap (λ y. length (transferred y)) q in omega arith) (λ z. absurd (Memᴰ.not-nil z)) (Memᴰ.cases_cons b)) (Memᴰ.append_cases (map f (take i xs)) (subst (Memᴰ t) more k))

      weight : n + m ≡ length (all_transferred (Row s i ++ f x ∷ []))
      weight = let w = g.weighed in let b = length_more (Row s i) (f x) in omega arith

      -- it fits
      pub one_on : n + m ≤ room → Going rs s (i + 1) (n + m)
      one_on fit =
          let o = g.order in
          let b = weight in
          record {
            order = omega arith;
            short = fit;
            weighed = b ∙ ap (λ ys. length (all_transferred ys)) (sym (longer s o));
            done =
                ap (λ r. rs ++ rows_behind r (map f (drop (i + 1) xs))) (longer s o)
                ∙ ap (λ r. rs ++ r) (sym (rows_on (Row s i) (f x) (map f (drop (i + 1) xs)) (omega arith)))
                ∙ ap (λ ys. rs ++ rows_behind (Row s i) ys) (sym left)
                ∙ g.done;
            light = lighter (omega arith);
          }

      -- it doesn't, so it begins the next row
      pub one_cut : (ts : List (List Set)) → ts ≡ rs ++ Row s i ∷ [] → m ≤ room → room < n + m → Going ts i (i + 1) (0 + m)
      one_cut ts t fit big =
          let b = weight in
          let a = ap (λ ys. length (all_transferred ys)) alone in
          let d = length_more [] (f x) in
          let z = length_none in
          record {
            order = omega arith;
            short = omega arith;
            weighed = omega arith;
            done =
                ap (λ ys. ys ++ rows_behind (Row i (i + 1)) (map f (drop (i + 1) xs))) t
                ∙ ap (λ r. (rs ++ Row s i ∷ []) ++ rows_behind r (map f (drop (i + 1) xs))) alone
                ∙ append_assoc rs (Row s i ∷ []) (rows_behind (f x ∷ []) (map f (drop (i + 1) xs)))
                ∙ ap (λ r. rs ++ r) (sym (rows_cut (Row s i) (f x) (map f (drop (i + 1) xs)) (omega arith)))
                ∙ ap (λ ys. rs ++ rows_behind (Row s i) ys) (sym left)
                ∙ g.done;
            light = lighter fit;
          }
