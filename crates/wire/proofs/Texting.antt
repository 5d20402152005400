-- A name written as text, from its lowest label up.
use Rattle.std.proofs.Common.{◌≡◌, ℕ, List, [], ◌∷◌, ◌++◌, Option, sym, ap, ◌∙◌, append_assoc}
use Rattle.names.specs.Labels.{written}
use Rattle.names.proofs.RoundTrip.{written_one, written_highest, written_root}
use Rattle.wire.specs.Given.{joined}
use Rattle.wire.proofs.Putting.{put_more}

-- some labels are left, and those below them are written
pub record Texting (before now : Option (List ℕ)) (ls left : List (List ℕ)) : Type 0 where
  pub upper : List ℕ
  pub lower : List (List ℕ)
  pub parted : ls ≡ left ++ (upper ∷ lower)
  pub so : now ≡ joined before (written (upper ∷ lower))

pub lowest_text : (before now : Option (List ℕ)) (ls left : List (List ℕ)) (l : List ℕ) → ls ≡ left ++ l ∷ [] → now ≡ joined before l → Texting before now ls left
lowest_text before now ls left l e k = record { upper = l; lower = []; parted = e; so = k ∙ ap (joined before) (sym (written_one l)) }

-- a dot, and the next label up
pub one_text : (before now dot after : Option (List ℕ)) (ls left more : List (List ℕ)) (l : List ℕ) → Texting before now ls left → left ≡ more ++ l ∷ [] → dot ≡ joined now (46 ∷ []) → after ≡ joined dot l → Texting before after ls more
one_text before now dot after ls left more l t e d k =
    record {
      upper = l;
      lower = t.upper ∷ t.lower;
      parted = t.parted ∙ ap (λ x. x ++ (t.upper ∷ t.lower)) e ∙ append_assoc more (l ∷ []) (t.upper ∷ t.lower);
      so = put_more before now after (written (t.upper ∷ t.lower)) (46 ∷ l) t.so (put_more now dot after (46 ∷ []) l d k) ∙ ap (joined before) (sym (written_highest l t.upper t.lower));
    }

pub all_text : (before now : Option (List ℕ)) (ls left : List (List ℕ)) → Texting before now ls left → left ≡ [] → now ≡ joined before (written ls)
all_text before now ls left t e = t.so ∙ ap (λ x. joined before (written x)) (sym (t.parted ∙ ap (λ x. x ++ (t.upper ∷ t.lower)) e))

pub root_text : (before now : Option (List ℕ)) (ls : List (List ℕ)) → ls ≡ [] → now ≡ joined before (46 ∷ []) → now ≡ joined before (written ls)
root_text before now ls e k = k ∙ ap (joined before) (sym (ap written e ∙ written_root))
