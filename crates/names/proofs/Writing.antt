-- The loop that writes a name: a dot and the next label up, until the root is reached.
use Rattle.std.proofs.Common.{◌≡◌, ℕ, List, [], ◌∷◌, ◌++◌, reverse, sym, refl, ap, ◌∙◌, append_assoc, append-nil}
use mathlib.Core.List.{reverse-append}
use Rattle.std.specs.declared.fmt.Formatter.{Formatter}
use Rattle.std.specs.Fmt.{IsPlainFormatter, HasWritten}
use Rattle.std.proofs.Output.{writes_in_calls_nil, has_written_append, has_written_of_eq}
use Rattle.names.specs.Labels.{written}
use Rattle.names.proofs.Shown.{trail, written_lowest}

module _ {W : Type 0} (took : W → List ℕ → W → Type 0) where
  -- from f to g all labels were written, but for those that are left
  abbrev pub Upto : Formatter W → List (List ℕ) → Formatter W → List (List ℕ) → Type 0
  Upto f all g rest = IsPlainFormatter f → (so : List ℕ) × HasWritten took f so g × (so ++ trail (reverse rest) ≡ trail (reverse all))

  pub none_yet : (f : Formatter W) (all : List (List ℕ)) → Upto f all f all
  none_yet f all p = ([], record { wrote = writes_in_calls_nil took _; plain = p }, refl)

  pub one_up : (f : Formatter W) (all : List (List ℕ)) (g h k : Formatter W) (rest more : List (List ℕ)) (l : List ℕ) → rest ≡ more ++ l ∷ [] → Upto f all g rest → (IsPlainFormatter g → HasWritten took g (46 ∷ []) h) → (IsPlainFormatter h → HasWritten took h l k) → Upto f all k more
  one_up f all g h k rest more l at done dot label p =
      let d = done p in
      let a = dot d.1.plain in
      let b = label a.plain in
      let up : trail (reverse rest) ≡ 46 ∷ (l ++ trail (reverse more)) = ap (λ ls. trail (reverse ls)) at ∙ ap trail (reverse-append more (l ∷ [])) in (
        d.0 ++ (46 ∷ l),
        has_written_append took f d.0 g (46 ∷ l) k d.1 (has_written_append took g (46 ∷ []) h l k a b),
        append_assoc d.0 (46 ∷ l) (trail (reverse more)) ∙ ap (λ x. d.0 ++ x) (sym up) ∙ d.2,
      )

  pub all_up : (f g h : Formatter W) (ls upper rest : List (List ℕ)) (l : List ℕ) → ls ≡ upper ++ l ∷ [] → rest ≡ [] → (IsPlainFormatter f → HasWritten took f l g) → Upto g upper h rest → IsPlainFormatter f → HasWritten took f (written ls) h
  all_up f g h ls upper rest l at none first done p =
      let a = first p in
      let d = done a.plain in
      let above : d.0 ≡ trail (reverse upper) = sym (append-nil d.0) ∙ ap (λ r. d.0 ++ trail (reverse r)) (sym none) ∙ d.2 in
      has_written_of_eq took f (l ++ d.0) (written ls) h (ap (λ x. l ++ x) above ∙ sym (ap written at ∙ written_lowest upper l)) (has_written_append took f l g d.0 h a d.1)
