-- The laws of words, from those of what a zone says.
use Rattle.std.proofs.Common.{◌≡◌, ℕ, ◌<◌, true, ◌⊎◌, [], length, Some, None, Option, refl, ap, ◌∙◌, subst, inl, inr, arith}
use Rattle.names.specs.Order.{within}
use Rattle.meaning.specs.Model.{Delegation, Set, Zone}
use Rattle.meaning.specs.Says.{Speaker, ByDelegation, BySet, ByAlias, NoData, NoName, time_of, says}
use Rattle.meaning.specs.Speech.{Said, Found, AliasTo, Referred, Empty, Absent, said_by}
use Rattle.meaning.proofs.Saying.{says_laws}
use Rattle.protocol.specs.Words.{Name, Word, word_by, tells, Goes, next, WordLaws}

-- a word is somebody's
spoken : (z : Zone) (o : Option Speaker) (t : Word) → word_by z o ≡ Some t → (a : Speaker) × (o ≡ Some a) × (said_by a ≡ t.said)
spoken z None t e = let w : ◌≡◌ {A = ℕ} 0 1 = cc in absurd (omega arith)
spoken z (Some a) t e = (a, refl, ap (λ (u : Word). u.said) (word_is (record { said = said_by a; ttl = time_of z a }) t e))
  where
    word_is : (x y : Word) → Some x ≡ Some y → x ≡ y
    word_is x y h = cc

told : (z : Zone) (q : Name) (k : ℕ) → within z.apex q ≡ true → (t : Word) × (tells z q k ≡ Some t)
unfolding tells
told z q k h =
    let a = says_laws.answers z q k h in
    (record { said = said_by a.0; ttl = time_of z a.0 }, ap (word_by z) a.1)

within_apex : (z : Zone) (q : Name) (k : ℕ) (t : Word) → tells z q k ≡ Some t → within z.apex q ≡ true
unfolding tells
within_apex z q k t e =
    let a = spoken z (says z q k) t e in
    says_laws.within_apex z q k a.0 a.1

-- only a delegation refers
refers : (a : Speaker) (n : Name) (d : Delegation) → said_by a ≡ Referred n d → (s : Set) × (a ≡ ByDelegation s) × (s.name ≡ n)
refers (ByDelegation s) n d e = (s, refl, name_is e)
  where
    name_is : {c : Delegation} → Referred s.name c ≡ Referred n d → s.name ≡ n
    name_is h = cc
refers (BySet s) n d e = let w : ◌≡◌ {A = ℕ} 0 1 = cc in absurd (omega arith)
refers (ByAlias s) n d e = let w : ◌≡◌ {A = ℕ} 0 1 = cc in absurd (omega arith)
refers NoData n d e = let w : ◌≡◌ {A = ℕ} 0 1 = cc in absurd (omega arith)
refers NoName n d e = let w : ◌≡◌ {A = ℕ} 0 1 = cc in absurd (omega arith)

down : (z : Zone) (q : Name) (k : ℕ) (t : Word) (n : Name) (d : Delegation) → tells z q k ≡ Some t → t.said ≡ Referred n d → (length z.apex < length n) × (within n q ≡ true)
unfolding tells
down z q k t n d e f =
    let a = spoken z (says z q k) t e in
    let s = refers a.0 n d (a.2 ∙ f) in
    let o = says_laws.referral z q k s.0 (a.1 ∙ ap Some s.1) in
    (subst (λ m. length z.apex < length m) s.2 o.below_apex, subst (λ m. within m q ≡ true) s.2 o.above)

on : (s : Said) (q a p : Name) → next s q ≡ Goes a p → (a ≡ []) ⊎ ((d : Delegation) × (s ≡ Referred a d) × (p ≡ q))
unfolding next
on (Found c) q a p e = let w : ◌≡◌ {A = ℕ} 0 1 = cc in absurd (omega arith)
on (AliasTo n) q a p e = inl (apex_is n e)
  where
    apex_is : (n : Name) → Goes [] n ≡ Goes a p → a ≡ []
    apex_is n h = cc
on (Referred n d) q a p e = inr (d, ap (λ m. Referred m d) (apex_is e), name_is e)
  where
    apex_is : Goes n q ≡ Goes a p → n ≡ a
    apex_is h = cc

    name_is : Goes n q ≡ Goes a p → p ≡ q
    name_is h = cc
on Empty q a p e = let w : ◌≡◌ {A = ℕ} 0 1 = cc in absurd (omega arith)
on Absent q a p e = let w : ◌≡◌ {A = ℕ} 0 1 = cc in absurd (omega arith)

pub word_laws : WordLaws
word_laws = record { told = told; within_apex = within_apex; down = down; on = on }
