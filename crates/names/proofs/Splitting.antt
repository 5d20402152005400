-- A text cut at its dots from the back: the pieces are its labels from the root down.
use Rattle.std.proofs.Common.{◌≡◌, ℕ, suc, Bor, ◌+◌, ◌-◌, ◌<◌, Bool, true, false, cond, eqb, List, [], ◌∷◌, ◌++◌, map, length, get_or, take, Some, None, MatchBool, MatchOption, Option, sym, refl, ap, ◌∙◌, subst, arith}
use denote.Param.Members.{Mut}
use Rattle.std.specs.Fn.{ComputesKey, CalledAt}
use Rattle.std.specs.Iterator.{Yields}
use Rattle.std.specs.List.{IsAfterLastMatch}
use Rattle.std.proofs.lemmas.Bool.{and_from, not_from_false}
use Rattle.std.proofs.lemmas.Fn.{always_returns_same}
use Rattle.std.proofs.lemmas.Grind.{common_steps}
use Rattle.std.proofs.lemmas.Iterator.{YieldsList}
use Rattle.std.proofs.lemmas.Iterator.Consumers.{YieldsList-so_far, YieldsList-turn, YieldsList-end}
use Rattle.std.proofs.lemmas.Iterator.Splits.{YieldsList-from_shown_while}
use Rattle.names.specs.Reading.{dotless, labels_in}
use Rattle.names.proofs.Pieced.{labels_cut, labels_one}

dotless_all : (x : List ℕ) → ((k : ℕ) → k < length x → eqb (get_or x k 0) 46 ≡ false) → dotless x ≡ true
dotless_all [] h = refl
dotless_all (b ∷ x) h = and_from _ (dotless x) (not_from_false (eqb b 46) (h 0 (omega arith))) (dotless_all x (λ k l. h (suc k) (omega arith)))

last_piece : (xs x rest : List ℕ) (done : Bool) → MatchBool done (xs ≡ x) ((y : ℕ) × (xs ≡ rest ++ (y ∷ x))) → IsAfterLastMatch (λ b. eqb b 46) xs (length xs - length x) → labels_in xs ≡ x ∷ cond done [] (labels_in rest)
last_piece xs x rest true e h =
    let n = ap length e in
    ap labels_in e ∙ labels_one x (dotless_all x (λ k l. subst (λ ys. eqb (get_or ys k 0) 46 ≡ false) e (h.0 k 0 (omega arith) (omega arith))))
last_piece xs x rest false e h =
    let clean : (k : ℕ) → k < length x → eqb (get_or x k 0) 46 ≡ false = λ k l. let a = h.0 (length rest + 1 + k) 0 in let b = e.1 in grind (arith, common_steps) in
    let dot : e.0 ≡ 46 = let b = e.1 in let a = h.1 (grind (arith, common_steps)) e.0 in grind (arith, common_steps) in
    ap labels_in (e.1 ∙ ap (λ y. rest ++ (y ∷ x)) dot) ∙ labels_cut rest x (dotless_all x clean)

-- the iterator that `rsplit` returns, by its parts
module _ {S P F : Type 0} (parts : S → P) (rest : P → List ℕ) (done : P → Bool) (callee : P → F) where
  abbrev pub pieces_off : Mut F (Bor ℕ × Unit {0}) Bool → S → Option (Bor (List ℕ)) → S → Type 0
  pieces_off g s r t =
      MatchOption r ((done (parts s) ≡ true) × (parts t ≡ parts s))
      (λ x. (done (parts s) ≡ false)
      × MatchBool (done (parts t)) (rest (parts s) ≡ x.now) ((y : ℕ) × (rest (parts s) ≡ rest (parts t) ++ (y ∷ x.now)))
      × ((p : ℕ → Bool) → ComputesKey g p (callee (parts s)) → ComputesKey g p (callee (parts t)) × IsAfterLastMatch p (rest (parts s)) (length (rest (parts s)) - length x.now)))

  -- a closure that tells dots
  abbrev pub TellsDots : Mut F (Bor ℕ × Unit {0}) Bool → F → Type 0
  TellsDots g f = (x : ℕ) (b : Bool) (q : F) → CalledAt g f x b q → (q ≡ f) × (b ≡ eqb x 46)

  abbrev shown : S → List (List ℕ)
  shown u = cond (done (parts u)) [] (labels_in (rest (parts u)))

  module _ (g : Mut F (Bor ℕ × Unit {0}) Bool) (s : S) {f : F} (t : List ℕ) (is : rest (parts s) ≡ t) (more : done (parts s) ≡ false) (closure : callee (parts s) ≡ f) (tells : TellsDots g f) where
    yields_labels : YieldsList (pieces_off g) (λ x. x.now) s (labels_in t)
    yields_labels =
        subst (YieldsList (pieces_off g) (λ x. x.now) s) (λ i. cond (more i) [] (labels_in (is i)))
        (YieldsList-from_shown_while (pieces_off g) (λ x. x.now) shown (λ u. ComputesKey g (λ b. eqb b 46) (callee (parts u)))
        (λ u v h k. ap (λ b. length (cond b [] (labels_in (rest (parts u))))) k.0)
        (λ u x v h k. ((k.2 (λ b. eqb b 46) h).0, ap (λ b. cond b [] (labels_in (rest (parts u)))) k.0 ∙ last_piece _ x.now _ (done (parts v)) k.1 (k.2 (λ b. eqb b 46) h).1))
        s (subst (ComputesKey g (λ b. eqb b 46)) (sym closure) (always_returns_same g (λ a r. r ≡ eqb a.0.now 46) f (λ a r q k. let m = tells a.0.now r q (record { shown = a.0; shows = refl; called = k }) in (m.1, m.0)))))

  -- a loop over it, which has read some pieces: where it reads one more, and where it ends
  pub one_more_read : (g : Mut F (Bor ℕ × Unit {0}) Bool) (s u v : S) {f : F} (t : List ℕ) (read : List (Bor (List ℕ))) (r : Option (Bor (List ℕ))) (l : Bor (List ℕ)) → Yields (pieces_off g) s read u → r ≡ Some l → pieces_off g u r v → rest (parts s) ≡ t → done (parts s) ≡ false → callee (parts s) ≡ f → TellsDots g f
      → (map (λ x. x.now) read ≡ take (length read) (labels_in t)) × ((length read < length (labels_in t)) × (l.now ≡ get_or (labels_in t) (length read) l.now))
  one_more_read g s u v t read r l y some step is more closure tells =
      let road = yields_labels g s t is more closure tells in
      (YieldsList-so_far road read u y, YieldsList-turn road read u y r v l some step)

  pub all_read : (g : Mut F (Bor ℕ × Unit {0}) Bool) (s u v : S) {f : F} (t : List ℕ) (read : List (Bor (List ℕ))) (r : Option (Bor (List ℕ))) → Yields (pieces_off g) s read u → r ≡ None → pieces_off g u r v → rest (parts s) ≡ t → done (parts s) ≡ false → callee (parts s) ≡ f → TellsDots g f → map (λ x. x.now) read ≡ labels_in t
  all_read g s u v t read r y none step is more closure tells = (YieldsList-end (yields_labels g s t is more closure tells) read u y r v none step).0
