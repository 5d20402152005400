-- Walks go by words alone, and where referrals lead down and nothing is an alias they end.
use Rattle.std.proofs.Common.{◌≡◌, ℕ, zero, suc, ◌+◌, ◌<◌, ◌≤◌, true, ◌⊎◌, [], ◌∷◌, length, Some, None, Option, sym, refl, ap, ◌∙◌, subst, inl, inr, ⊎_elim, arith, length-append}
use mathlib.Core.List.{Memᴰ}
use Rattle.names.specs.Order.{within}
use Rattle.names.proofs.Within.{within_laws}
use Rattle.meaning.specs.Model.{Zone}
use Rattle.meaning.specs.Speech.{Said, Found, AliasTo, Referred, Empty, Absent}
use Rattle.protocol.specs.Words.{Name, Word, tells, Outcome, Next, Ends, Goes, next}
use Rattle.protocol.specs.World.{World, current}
use Rattle.protocol.specs.Walks.{Shows, LacksAt, TooLong, Walk, behind, on_next, on_word, walk, by_zone, by_owners, word_said, meant}
use Rattle.protocol.specs.Promise.{Lacks, NoAliases, LeadsDown, WalkLaws}
use Rattle.protocol.proofs.Lists.{some_none}
use Rattle.protocol.proofs.Force.{current_apex}
use Rattle.protocol.proofs.Words.{word_laws}

-- ---- one step of a walk

module _ {W : Type 0} (said : W → Said) where
  pub walk_lacks : (n : ℕ) (f : Name → Name → Option W) (a q : Name) → f a q ≡ None → walk said (suc n) f a q ≡ record { end = LacksAt a q; words = [] }
  unfolding walk
  walk_lacks n f a q e = ap (on_word said (λ c p. walk said n f c p) a q) e

  pub walk_ends : (n : ℕ) (f : Name → Name → Option W) (a q : Name) (w : W) (o : Outcome) → f a q ≡ Some w → next (said w) q ≡ Ends o → walk said (suc n) f a q ≡ record { end = Shows o; words = w ∷ [] }
  unfolding walk
  walk_ends n f a q w o e g = ap (on_word said (λ c p. walk said n f c p) a q) e ∙ ap (on_next said (λ c p. walk said n f c p) w) g

  pub walk_goes : (n : ℕ) (f : Name → Name → Option W) (a q : Name) (w : W) (c p : Name) → f a q ≡ Some w → next (said w) q ≡ Goes c p → walk said (suc n) f a q ≡ behind w (walk said n f c p)
  unfolding walk
  walk_goes n f a q w c p e g = ap (on_word said (λ c p. walk said n f c p) a q) e ∙ ap (on_next said (λ c p. walk said n f c p) w) g

  pub walk_none : (f : Name → Name → Option W) (a q : Name) → walk said zero f a q ≡ record { end = TooLong; words = [] }
  unfolding walk
  walk_none f a q = refl

-- ---- by words alone

module _ {W V : Type 0} (saidW : W → Said) (saidV : V → Said) (f : Name → Name → Option W) (g : Name → Name → Option V) where
  -- on the way the other source says the same
  abbrev pub Agree : ℕ → Name → Name → Type 0
  Agree n a q = (c p : Name) (w : W) → Memᴰ w (walk saidW n f a q).words → f c p ≡ Some w → (v : V) × (g c p ≡ Some v) × (saidV v ≡ saidW w)

  pub walk_by : (n : ℕ) (a q : Name) → Agree n a q → Lacks (walk saidW n f a q).end ⊎ ((walk saidV n g a q).end ≡ (walk saidW n f a q).end)
  walk_by zero a q h = inr (ap (λ (x : Walk V). x.end) (walk_none saidV g a q) ∙ sym (ap (λ (x : Walk W). x.end) (walk_none saidW f a q)))
  walk_by (suc n) a q h = go (λ c p. walk_by n c p) (f a q) refl
    where
      on : ((c p : Name) → Agree n c p → Lacks (walk saidW n f c p).end ⊎ ((walk saidV n g c p).end ≡ (walk saidW n f c p).end)) → (w : W) → f a q ≡ Some w → (x : Next) → next (saidW w) q ≡ x → Lacks (walk saidW (suc n) f a q).end ⊎ ((walk saidV (suc n) g a q).end ≡ (walk saidW (suc n) f a q).end)
      on ih w e (Ends o) d =
          let i = walk_ends saidW n f a q w o e d in
          let v = h a q w (subst (λ (x : Walk W). Memᴰ w x.words) (sym i) (Memᴰ.head refl)) e in
          inr (ap (λ (x : Walk V). x.end) (walk_ends saidV n g a q v.0 o v.1 (ap (λ s. next s q) v.2 ∙ d)) ∙ sym (ap (λ (x : Walk W). x.end) i))
      on ih w e (Goes c p) d =
          let i = walk_goes saidW n f a q w c p e d in
          let v = h a q w (subst (λ (x : Walk W). Memᴰ w x.words) (sym i) (Memᴰ.head refl)) e in
          let j = walk_goes saidV n g a q v.0 c p v.1 (ap (λ s. next s q) v.2 ∙ d) in
          let below : Agree n c p = λ c' p' w' m e'. h c' p' w' (subst (λ (x : Walk W). Memᴰ w' x.words) (sym i) (Memᴰ.tail m)) e' in
          ⊎_elim
          (λ (l : Lacks (walk saidW n f c p).end). inl (l.0, l.1, ap (λ (x : Walk W). x.end) i ∙ l.2))
          (λ same. inr (ap (λ (x : Walk V). x.end) j ∙ same ∙ sym (ap (λ (x : Walk W). x.end) i)))
          (ih c p below)

      go : ((c p : Name) → Agree n c p → Lacks (walk saidW n f c p).end ⊎ ((walk saidV n g c p).end ≡ (walk saidW n f c p).end)) → (o : Option W) → f a q ≡ o → Lacks (walk saidW (suc n) f a q).end ⊎ ((walk saidV (suc n) g a q).end ≡ (walk saidW (suc n) f a q).end)
      go ih None e = inl (a, q, ap (λ (x : Walk W). x.end) (walk_lacks saidW n f a q e))
      go ih (Some w) e = on ih w e (next (saidW w) q) refl

by_words : (n : ℕ) (f g : Name → Name → Option Word) (a q : Name) → ((c p : Name) (t : Word) → Memᴰ t (walk word_said n f a q).words → f c p ≡ Some t → g c p ≡ Some t) → Lacks (walk word_said n f a q).end ⊎ ((walk word_said n g a q).end ≡ (walk word_said n f a q).end)
by_words n f g a q h = walk_by word_said word_said f g n a q (λ c p t m e. (t, h c p t m e, refl))

-- ---- down

owner_word : (w : World) (k : ℕ) (a q : Name) (o : Option Zone) (t : Word) → current a w.published ≡ o → by_zone o q k ≡ Some t → (z : Zone) × (current a w.published ≡ Some z) × (tells z q k ≡ Some t)
owner_word w k a q None t e f = absurd (some_none t f)
owner_word w k a q (Some z) t e f = (z, e, f)

-- whatever an owner says now is said by its zone
pub by_owner : (w : World) (k : ℕ) (a q : Name) (t : Word) → by_owners w k a q ≡ Some t → (z : Zone) × (current a w.published ≡ Some z) × (tells z q k ≡ Some t)
by_owner w k a q t e = owner_word w k a q (current a w.published) t refl e

down : (w : World) (k : ℕ) → LeadsDown (by_owners w k)
down w k a q t n d e f =
    let o = by_owner w k a q t e in
    let r = word_laws.down o.0 q k t n d o.2 f in
    (subst (λ b. length b < length n) (current_apex a w.published o.0 o.1) r.0, r.1)

shorter : (a q : Name) → within a q ≡ true → length a ≤ length q
shorter a q h =
    let r = within_laws.front a q h in
    let s = ap length r.1 in
    let t = length-append a r.0 in
    omega arith

shows_ends : (o : Outcome) → Shows o ≡ TooLong → ⊥
shows_ends o e = let w : ◌≡◌ {A = ℕ} 0 1 = cc in omega arith

lacks_ends : (a q : Name) → LacksAt a q ≡ TooLong → ⊥
lacks_ends a q e = let w : ◌≡◌ {A = ℕ} 0 1 = cc in omega arith

abbrev TooLongAt : (Name → Name → Option Word) → ℕ → Name → Name → Type 0
TooLongAt f n a q = (walk word_said n f a q).end ≡ TooLong

module _ (f : Name → Name → Option Word) (leads : LeadsDown f) (none : NoAliases f) where
  ends : (n : ℕ) (a q : Name) → within a q ≡ true → length q < n + length a → TooLongAt f n a q → ⊥
  unfolding next
  ends zero a q h l e = let s = shorter a q h in omega arith
  ends (suc n) a q h l e = go (λ c. ends n c q) (f a q) refl
    where
      end_is : (x : Walk Word) → walk word_said (suc n) f a q ≡ x → x.end ≡ TooLong
      end_is x i = sym (ap (λ (y : Walk Word). y.end) i) ∙ e

      by : ((c : Name) → within c q ≡ true → length q < n + length c → TooLongAt f n c q → ⊥) → (t : Word) → f a q ≡ Some t → (s : Said) → t.said ≡ s → ⊥
      by ih t g (Found c) d = shows_ends _ (end_is _ (walk_ends word_said n f a q t _ g (ap (λ s. next s q) d)))
      by ih t g (AliasTo p) d = none a q t p g d
      by ih t g (Referred c to) d =
          let r = leads a q t c to g d in
          let k = r.0 in
          ih c r.1 (omega arith) (end_is _ (walk_goes word_said n f a q t c q g (ap (λ s. next s q) d)))
      by ih t g Empty d = shows_ends _ (end_is _ (walk_ends word_said n f a q t _ g (ap (λ s. next s q) d)))
      by ih t g Absent d = shows_ends _ (end_is _ (walk_ends word_said n f a q t _ g (ap (λ s. next s q) d)))

      go : ((c : Name) → within c q ≡ true → length q < n + length c → TooLongAt f n c q → ⊥) → (o : Option Word) → f a q ≡ o → ⊥
      go ih None g = lacks_ends a q (end_is _ (walk_lacks word_said n f a q g))
      go ih (Some t) g = by ih t g t.said refl

ends_24 : (w : World) (k : ℕ) → NoAliases (by_owners w k) → (q : Name) → length q ≤ 16 → (meant w q k).end ≡ TooLong → ⊥
ends_24 w k none q l e = ends (by_owners w k) (down w k) none 24 [] q (within_laws.extends [] q) (omega arith) e

pub walk_laws : WalkLaws
walk_laws = record { by_words = by_words; down = down; ends = ends; ends_24 = ends_24 }
