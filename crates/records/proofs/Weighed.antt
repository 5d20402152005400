-- Pieces in a transfer, added up one by one.
use Rattle.std.proofs.Common.{◌≡◌, ℕ, ◌+◌, ◌<◌, ◌≤◌, true, ◌&&◌, eqb, leb, List, [], ◌∷◌, map, length, get_or, drop, sym, refl, ap, arith, length-append}
use lib.ListN.{length-map}
use Rattle.std.proofs.lemmas.List.{drop_more, drop_all}
use Rattle.std.proofs.lemmas.Bool.{and_parts, leb-true}
use Rattle.names.specs.Wire.{wire_labels}
use Rattle.meaning.specs.Model.{delegates, total, short, pieces_fit, Addresses, Delegated, fits}

-- one piece more
wire_more : (p : List ℕ) (ps : List (List ℕ)) → length (wire_labels (p ∷ ps)) ≡ length p + 1 + length (wire_labels ps)
unfolding wire_labels
wire_more p ps = let a = length-append p (wire_labels ps) in omega arith

wire_none : length (wire_labels []) ≡ 0
unfolding wire_labels
wire_none = refl

pub one_wire : (p : List ℕ) → length (wire_labels (p ∷ [])) ≡ length p + 1
one_wire p = let a = wire_more p [] in let b = wire_none in omega arith

wire_total : (ps : List (List ℕ)) → length (wire_labels ps) ≡ total ps + length ps
wire_total [] = let b = wire_none in omega arith
wire_total (p ∷ ps) = let a = wire_more p ps in let h = wire_total ps in omega arith

pub fit_wire : (ps : List (List ℕ)) → pieces_fit ps ≡ true → length (wire_labels ps) ≤ 616
fit_wire ps h =
    let p = and_parts (leb (length ps) 16 && short ps) (leb (total ps) 600) h in
    let q = and_parts (leb (length ps) 16) (short ps) p.0 in
    let a = leb-true (total ps) 600 p.1 in
    let b = leb-true (length ps) 16 q.0 in
    let w = wire_total ps in
    omega arith

module _ {X : Type 0} (bytes : X → List ℕ) (xs : List X) where
  -- those so far, and those of the rest
  abbrev pub Weighed : ℕ → ℕ → Type 0
  Weighed sum i = sum + length (wire_labels (map bytes (drop i xs))) ≡ length (wire_labels (map bytes xs))

  pub one_weighed : (sum i n : ℕ) (x : X) → Weighed sum i → i < length xs → x ≡ get_or xs i x → n ≡ length (bytes x) → Weighed (sum + (1 + n)) (i + 1)
  one_weighed sum i n x h l e n-is =
      let s = ap (λ ys. length (wire_labels (map bytes ys))) (drop_more xs i x l) in
      let t = ap (λ y. length (wire_labels (bytes y ∷ map bytes (drop (i + 1) xs)))) (sym e) in
      let w = wire_more (bytes x) (map bytes (drop (i + 1) xs)) in
      omega arith

  pub all_weighed : (sum i : ℕ) → Weighed sum i → length xs ≤ i → sum ≡ length (wire_labels (map bytes xs))
  all_weighed sum i h l =
      let s = ap (λ ys. length (wire_labels (map bytes ys))) (drop_all i xs l) in
      let z = wire_none in
      omega arith
