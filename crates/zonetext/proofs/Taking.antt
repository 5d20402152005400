-- Pieces taken one by one, each for what it stands for.
use Rattle.std.proofs.Common.{◌≡◌, ℕ, ◌+◌, ◌<◌, ◌≤◌, ◌⊎◌, List, [], ◌∷◌, ◌++◌, map, length, get_or, drop, Some, None, Ok, Err, Option, inl, inr, refl, sym, ap, ◌∙◌, append_assoc}
use Rattle.std.specs.Option.{option_map, ok_or}
use Rattle.std.proofs.lemmas.List.{append-nil, drop_more, drop_all, map-append}
use Rattle.names.specs.declared.fault.Fault.{Fault}
use Rattle.names.specs.declared.fault.Fault.TheVariants.{BadData, NoMemory}
use Rattle.zonetext.specs.declared.division.Piece as declared
use Rattle.zonetext.specs.Division.{Piece}
use Rattle.zonetext.specs.Fields.{cons_if, all_of}
use Rattle.zonetext.specs.Readings.{piece_of}

pub some_ok : {A : Type 0} (o : Option A) (y : A) → ok_or o BadData ≡ Ok y → o ≡ Some y
some_ok None y h = cc
some_ok (Some x) y h = let e : x ≡ y = cc in ap Some e

module _ (f : Piece → Option (List ℕ)) where
  all_nil : all_of f [] ≡ Some []
  unfolding all_of
  all_nil = refl

  all_cons : (p : Piece) (ps : List Piece) → all_of f (p ∷ ps) ≡ cons_if (f p) (all_of f ps)
  unfolding all_of
  all_cons p ps = refl

  module _ (xs : List declared.Piece) where
    -- what those so far stand for, and what the rest does
    pub record Taking (ys : List (List ℕ)) (i : ℕ) : Type 0 where
      pub so_far : all_of f (map piece_of xs) ≡ option_map (λ zs. ys ++ zs) (all_of f (map piece_of (drop i xs)))

    pub none_taken : Taking [] 0
    none_taken = record { so_far = go (all_of f (map piece_of xs)) }
      where
        go : (o : Option (List (List ℕ))) → o ≡ option_map (λ zs. [] ++ zs) o
        go None = refl
        go (Some zs) = refl

    next : (i : ℕ) (x : declared.Piece) → i < length xs → x ≡ get_or xs i x → all_of f (map piece_of (drop i xs)) ≡ cons_if (f (piece_of x)) (all_of f (map piece_of (drop (i + 1) xs)))
    next i x l e =
        ap (λ r. all_of f (map piece_of r)) (drop_more xs i x l ∙ ap (λ y. y ∷ drop (i + 1) xs) (sym e)) ∙ all_cons (piece_of x) (map piece_of (drop (i + 1) xs))

    pub one_taken : (ys : List (List ℕ)) (i : ℕ) (x : declared.Piece) (y : List ℕ) → Taking ys i → i < length xs → x ≡ get_or xs i x → f (piece_of x) ≡ Some y → Taking (ys ++ y ∷ []) (i + 1)
    one_taken ys i x y t l e h =
        record { so_far = t.so_far ∙ ap (option_map (λ zs. ys ++ zs)) (next i x l e ∙ ap (λ o. cons_if o (all_of f (map piece_of (drop (i + 1) xs)))) h) ∙ go (all_of f (map piece_of (drop (i + 1) xs))) }
      where
        go : (o : Option (List (List ℕ))) → option_map (λ zs. ys ++ zs) (cons_if (Some y) o) ≡ option_map (λ zs. (ys ++ y ∷ []) ++ zs) o
        go None = refl
        go (Some zs) = ap Some (sym (append_assoc ys (y ∷ []) zs))

    pub bad_taken : (ys : List (List ℕ)) (i : ℕ) (x : declared.Piece) → Taking ys i → i < length xs → x ≡ get_or xs i x → f (piece_of x) ≡ None → all_of f (map piece_of xs) ≡ None
    bad_taken ys i x t l e h = t.so_far ∙ ap (option_map (λ zs. ys ++ zs)) (next i x l e ∙ ap (λ o. cons_if o (all_of f (map piece_of (drop (i + 1) xs)))) h)

    -- the fault of one piece is the fault of all
    pub one_refused : (ys : List (List ℕ)) (i : ℕ) (x : declared.Piece) (e : Fault) → Taking ys i → i < length xs → x ≡ get_or xs i x → (ok_or (f (piece_of x)) BadData ≡ Err e) ⊎ (e ≡ NoMemory) → (ok_or (all_of f (map piece_of xs)) BadData ≡ Err e) ⊎ (e ≡ NoMemory)
    one_refused ys i x e t l g (inr m) = inr m
    one_refused ys i x e t l g (inl h) = go (f (piece_of x)) refl h
      where
        go : (o : Option (List ℕ)) → f (piece_of x) ≡ o → ok_or o BadData ≡ Err e → (ok_or (all_of f (map piece_of xs)) BadData ≡ Err e) ⊎ (e ≡ NoMemory)
        go None k h =
            let bad : BadData ≡ e = cc in
            inl (ap (λ o. ok_or o BadData) (bad_taken ys i x t l g k) ∙ ap Err bad)
        go (Some y) k h = cc

    pub all_taken : (ys : List (List ℕ)) (i : ℕ) → Taking ys i → length xs ≤ i → all_of f (map piece_of xs) ≡ Some ys
    all_taken ys i t l = t.so_far ∙ ap (λ r. option_map (λ zs. ys ++ zs) (all_of f (map piece_of r))) (drop_all i xs l) ∙ ap (option_map (λ zs. ys ++ zs)) all_nil ∙ ap Some (append-nil ys)

-- one more that was kept
pub one_kept : {X : Type 0} (of : X → List ℕ) (vs ws : List X) (v : X) → ws ≡ vs ++ v ∷ [] → map of ws ≡ map of vs ++ of v ∷ []
one_kept of vs ws v e = ap (map of) e ∙ map-append of vs (v ∷ [])
