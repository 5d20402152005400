-- Sets that are put into a zone one by one.
use Rattle.std.proofs.Common.{◌≡◌, List, [], ◌∷◌, Ok, Err, sym, ap, ◌∙◌}
use Rattle.names.specs.declared.fault.Fault.{Fault}
use Rattle.meaning.specs.Model.{Set, Zone}
use Rattle.zones.specs.Valid.{added}
use Rattle.zones.specs.Zones.{with_sets}
use Rattle.wire.specs.Cuts.{next}
use Rattle.transfers.specs.Joining.{added_all}

-- what is left to put in makes of the zone as it is what all of them make of the one before
pub record Putting (z y : Zone) (new left : List Set) : Type 0 where
  pub due : added_all y.apex y.sets left ≡ added_all z.apex z.sets new
  pub same : y ≡ with_sets z y.sets

pub none_put : (z y : Zone) → y ≡ z → (new left : List Set) → left ≡ new → Putting z y new left
none_put z y h new left e = record { due = (λ i. added_all (h i).apex (h i).sets (e i)); same = h ∙ (λ i. with_sets z (sym h i).sets) }

taken_first : (y : Zone) (s : Set) (ss ts : List Set) → added y.apex y.sets s ≡ Ok ts → added_all y.apex y.sets (s ∷ ss) ≡ added_all y.apex ts ss
unfolding added_all next
taken_first y s ss ts e = ap (λ r. next r (λ more. added_all y.apex more ss)) e

refused_first : (y : Zone) (s : Set) (ss : List Set) (f : Fault) → added y.apex y.sets s ≡ Err f → added_all y.apex y.sets (s ∷ ss) ≡ Err f
unfolding added_all next
refused_first y s ss f e = ap (λ r. next r (λ more. added_all y.apex more ss)) e

pub one_put : (z y w : Zone) (new : List Set) (s : Set) (left ss ts : List Set) → left ≡ s ∷ ss → added y.apex y.sets s ≡ Ok ts → w ≡ with_sets y ts → Putting z y new left → Putting z w new ss
one_put z y w new s left ss ts l e h p = record {
  due = ap (λ (v : Zone). added_all v.apex v.sets ss) h ∙ sym (taken_first y s ss ts e) ∙ ap (added_all y.apex y.sets) (sym l) ∙ p.due;
  same = h ∙ (λ i. with_sets (p.same i) ts) ∙ (λ i. with_sets z (sym h i).sets);
}

pub one_refused : (z y : Zone) (new : List Set) (s : Set) (left ss : List Set) (f : Fault) → left ≡ s ∷ ss → added y.apex y.sets s ≡ Err f → Putting z y new left → added_all z.apex z.sets new ≡ Err f
one_refused z y new s left ss f l e p = sym p.due ∙ ap (added_all y.apex y.sets) l ∙ refused_first y s ss f e

pub all_put : (z y : Zone) (new left : List Set) → left ≡ [] → Putting z y new left → added_all z.apex z.sets new ≡ Ok y.sets
unfolding added_all
all_put z y new left e p = sym p.due ∙ ap (added_all y.apex y.sets) e
