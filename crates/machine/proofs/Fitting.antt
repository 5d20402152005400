-- What a sound zone says always fits the query that asked for it.
use Rattle.std.proofs.Common.{◌≡◌, ℕ, ◌<◌, ◌≤◌, Bool, true, false, not, ◌&&◌, eqb, leb, length, Some, None, Option, sym, refl, ap, ◌∙◌, subst, ⊎_elim, true≢false, arith, length-append}
use Rattle.names.specs.declared.fault.Fault.TheVariants.{BadData, Misplaced, Conflict}
use Rattle.names.specs.Order.{within}
use Rattle.names.proofs.Within.{within_laws, within_level, within_itself}
use Rattle.std.proofs.lemmas.Bool.{cond-true, cond-false, and_parts, and_from, not_from_true, not_from_false, eqb-true, ne_eqb, lt-leb, cases_lt}
use Rattle.meaning.specs.Model.{delegates, aliases, plain, fits, Content, Addresses, Texts, Others, AliasOf, Delegated, Set, Zone}
use Rattle.meaning.specs.Says.{Speaker, ByDelegation, BySet, ByAlias, NoData, NoName, Over, time_of, says}
use Rattle.meaning.specs.Speech.{delegation_of, said_by}
use Rattle.meaning.proofs.Saying.{says_laws}
use Rattle.protocol.specs.Words.{Name, Word, word_by, tells}
use Rattle.protocol.specs.World.{Query}
use Rattle.protocol.proofs.Lists.{some_is, some_none}
use Rattle.machine.specs.Machine.{misfit}
use Rattle.machine.specs.Live.{SoundZone}

false_true : false ≡ true → ⊥
false_true e = true≢false (sym e)

-- a delegation's data are a delegation
delegated_so : (k : ℕ) (c : Content) → delegates k ≡ true → fits k c ≡ true → (leb 1 (length (delegation_of c).servers) && leb (length (delegation_of c).servers) 16) ≡ true
delegated_so k (Delegated d) e h =
    let p = and_parts (delegates k && leb 1 (length d.servers)) (leb (length d.servers) 16) h in
    let q = and_parts (delegates k) (leb 1 (length d.servers)) p.0 in
    and_from (leb 1 (length d.servers)) (leb (length d.servers) 16) q.1 p.1
delegated_so k (Addresses ps) e h = let p = eqb-true k 1 (and_parts (eqb k 1) (leb (length ps) 16) h).0 in let q = eqb-true k 4 e in absurd (omega arith)
delegated_so k (Texts ps) e h = let p = eqb-true k 2 (and_parts (eqb k 2) _ h).0 in let q = eqb-true k 4 e in absurd (omega arith)
delegated_so k (AliasOf n) e h = let p = eqb-true k 5 h in let q = eqb-true k 4 e in absurd (omega arith)
delegated_so k (Others ps) e h = absurd (false_true (sym (ap plain (eqb-true k 4 e)) ∙ (and_parts (plain k) _ h).0))

module _ (z : Zone) (sound : SoundZone z) (p : Name) (k : ℕ) (q : Query) (apex_is : q.apex ≡ z.apex) (name_is : q.name ≡ p) (kind_is : q.kind ≡ k) where
  -- a set of kind 4 at a name speaks as a delegation, so it is never data
  not_delegation : (s : Set) → says z p k ≡ Some (BySet s) → delegates k ≡ true → ⊥
  not_delegation s e d =
      let x = says_laws.data_of z p k s e in
      let y = sound s x.0 in
      let front = within_laws.front z.apex s.name y.1 in
      let len = ap length front.1 ∙ length-append z.apex front.0 in
      let longer : length z.apex < length s.name = ⊎_elim (λ (l : length z.apex < length s.name). l) (λ (l : length s.name ≤ length z.apex). absurd (y.2 (subst (λ j. delegates j ≡ true) (sym x.2) d) (sym (within_level z.apex s.name y.1 (omega arith))))) (cases_lt (length z.apex) (length s.name)) in
      let o : Over z p s = record { there = x.0; delegation = subst (λ j. delegates j ≡ true) (sym x.2) d; above = subst (λ n. within s.name n ≡ true) x.1 (within_self s.name); below_apex = longer } in
      let t = says_laws.delegated z p k s (says_laws.within_apex z p k (BySet s) e) o in
      by_set_not s t.0 (some_is (BySet s) (ByDelegation t.0) (sym e ∙ t.1))
    where
      within_self : (n : Name) → within n n ≡ true
      within_self n = within_itself n

      by_set_not : (a b : Set) → BySet a ≡ ByDelegation b → ⊥
      by_set_not a b h = let w : ◌≡◌ {A = ℕ} 0 1 = cc in omega arith

  by_speaker : (a : Speaker) → says z p k ≡ Some a → misfit q (said_by a) ≡ None
  by_speaker (BySet s) e =
      let x = says_laws.data_of z p k s e in
      let f : fits q.kind s.content ≡ true = subst (λ j. fits j s.content ≡ true) (x.2 ∙ sym kind_is) (sound s x.0).0 in
      cond-true (fits q.kind s.content && not (delegates q.kind)) None (Some BadData) (and_from (fits q.kind s.content) (not (delegates q.kind)) f (not_from_false (delegates q.kind) (no_delegates (delegates q.kind) refl)))
    where
      no_delegates : (b : Bool) → delegates q.kind ≡ b → delegates q.kind ≡ false
      no_delegates true h = absurd (not_delegation s e (subst (λ j. delegates j ≡ true) kind_is h))
      no_delegates false h = h
  by_speaker (ByAlias s) e =
      let x = says_laws.alias_of z p k s e in
      cond-false (aliases q.kind) (Some BadData) None (ne_eqb q.kind 5 (λ h. x.1 (eqb-true s.kind 5 x.0.alias ∙ sym h ∙ kind_is)))
  by_speaker (ByDelegation s) e =
      let o = says_laws.referral z p k s e in
      let y = sound s o.there in
      let d = delegation_of s.content in
      let n = s.name in
      let few = delegated_so s.kind s.content o.delegation y.0 in
      let placed : (within q.apex s.name && within s.name q.name) ≡ true = and_from (within q.apex s.name) (within s.name q.name) (subst (λ a. within a s.name ≡ true) (sym apex_is) y.1) (subst (λ m. within s.name m ≡ true) (sym name_is) o.above) in
      let low : leb (length s.name) (length q.apex) ≡ false = lt-leb (length s.name) (length q.apex) (subst (λ a. length a < length s.name) (sym apex_is) o.below_apex) in
      cond-false (not (leb 1 (length (delegation_of s.content).servers) && leb (length (delegation_of s.content).servers) 16)) (Some BadData) _ (not_from_true (leb 1 (length (delegation_of s.content).servers) && leb (length (delegation_of s.content).servers) 16) few)
      ∙ cond-false (not (within q.apex s.name && within s.name q.name)) (Some Misplaced) _ (not_from_true (within q.apex s.name && within s.name q.name) placed)
      ∙ cond-false (leb (length s.name) (length q.apex)) (Some Conflict) None low
  by_speaker NoData e = refl
  by_speaker NoName e = refl

  -- a word of the zone, by whom it was said
  pub fits_query : (t : Word) → tells z p k ≡ Some t → misfit q t.said ≡ None
  unfolding tells
  fits_query t e = go (says z p k) refl
    where
      go : (o : Option Speaker) → says z p k ≡ o → misfit q t.said ≡ None
      go None h = absurd (some_none t (sym (ap (word_by z) h) ∙ e))
      go (Some a) h =
          let w = some_is (record { said = said_by a; ttl = time_of z a }) t (sym (ap (word_by z) h) ∙ e) in
          ap (misfit q) (sym (ap (λ (x : Word). x.said) w)) ∙ by_speaker a h
