-- A serial beside that of the zone that was there.
use Rattle.std.proofs.Common.{◌≡◌, ℕ, true, false, List, Some, sym, ap, ◌∙◌}
use Rattle.std.proofs.lemmas.Bool.{cond-true, cond-false}
use Rattle.meaning.specs.Model.{Zone, newer}
use Rattle.meaning.specs.Says.{same}
use Rattle.zonetext.specs.Texts.{renews}

module _ (z : Zone) (a apex : List (List ℕ)) (n : ℕ) (here : a ≡ z.apex) where
  pub other_apex : same a apex ≡ false → renews (Some z) apex n ≡ true
  other_apex h = cond-false (same z.apex apex) (newer n z.serial) true (ap (λ x. same x apex) (sym here) ∙ h)

  pub same_apex : (m : ℕ) → m ≡ z.serial → same a apex ≡ true → renews (Some z) apex n ≡ newer n m
  same_apex m e h = cond-true (same z.apex apex) (newer n z.serial) true (ap (λ x. same x apex) (sym here) ∙ h) ∙ ap (newer n) (sym e)
