-- What a zone says, by what its searches found.
use Rattle.std.proofs.Common.{◌≡◌, ℕ, Bool, true, false, cond, List, Some, None, Option, sym, refl, ap, ◌∙◌}
use Rattle.std.proofs.lemmas.Bool.{cond-true, cond-false}
use Rattle.names.specs.Order.{within}
use Rattle.meaning.specs.Model.{Set, Zone}
use Rattle.meaning.specs.Says.{Speaker, ByDelegation, BySet, ByAlias, NoData, NoName, is_over, is_exactly, find, highest, any_under, or_else, speaker, says}
use Rattle.meaning.specs.Speech.{undelegated}
use Rattle.zones.specs.declared.reply.Reply.{Reply}
use Rattle.zones.specs.Zones.{speaker_of}

module _ (z : Zone) (q : List (List ℕ)) (k : ℕ) where
  -- the rules, by what each search found
  abbrev by_searches : Option Set → Option Set → Option Set → Bool → Speaker
  by_searches d e a u = or_else ByDelegation d (or_else BySet e (or_else ByAlias a (cond u NoData NoName)))

  searched : by_searches (highest (is_over z.apex q) z.sets) (find (is_exactly q k) z.sets) (find (is_exactly q 5) z.sets) (any_under q z.sets) ≡ speaker z q k
  unfolding speaker
  searched = refl

  pub referred : (s : Set) → Some s ≡ highest (is_over z.apex q) z.sets → ByDelegation s ≡ speaker z q k
  referred s d = ap (λ x. by_searches x (find (is_exactly q k) z.sets) (find (is_exactly q 5) z.sets) (any_under q z.sets)) d ∙ searched

  -- where no delegation is over the name, all the others together
  pub unreferred : (r : Speaker) → None ≡ highest (is_over z.apex q) z.sets → r ≡ undelegated q k z.sets → r ≡ speaker z q k
  unreferred r d h = h ∙ ap (λ x. or_else ByDelegation x (undelegated q k z.sets)) d ∙ searched

-- within the apex or not, by what is told
pub said_inside : (z : Zone) (q : List (List ℕ)) (k : ℕ) (r : Reply) → within z.apex q ≡ true → speaker_of r ≡ speaker z q k → Some (speaker_of r) ≡ says z q k
unfolding says
said_inside z q k r h e = ap Some e ∙ sym (cond-true (within z.apex q) (Some (speaker z q k)) None h)

pub said_outside : (z : Zone) (q : List (List ℕ)) (k : ℕ) → within z.apex q ≡ false → None ≡ says z q k
unfolding says
said_outside z q k h = sym (cond-false (within z.apex q) (Some (speaker z q k)) None h)
