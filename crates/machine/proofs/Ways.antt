-- What becomes of a walk where words are heard or run out.
use Rattle.std.proofs.Common.{◌≡◌, ℕ, zero, suc, ◌+◌, true, false, ◌&&◌, eqb, ◌⊎◌, List, Some, None, Option, sym, refl, ap, ◌∙◌, subst, inl, inr, ⊎_elim, true≢false, arith}
use mathlib.Core.List.{Memᴰ}
use Rattle.std.proofs.lemmas.Bool.{and_from, eq-eqb, leb-true, le-leb, false_from_ne_true}
use Rattle.meaning.specs.Says.{same}
use Rattle.meaning.proofs.Rules.{so_same}
use Rattle.protocol.specs.Words.{Name, Next, Ends, Goes, next}
use Rattle.protocol.specs.World.{Rules, Response, Entry, until, counts, is_key, entry_for}
use Rattle.protocol.specs.Walks.{LacksAt, Walk, behind, walk, remembered, entry_said}
use Rattle.protocol.proofs.Lists.{first_none}
use Rattle.protocol.proofs.Settled.{Held, held}
use Rattle.protocol.proofs.Walks.{walk_none, walk_lacks, walk_ends, walk_goes}
use Rattle.machine.specs.Store.{one_a_key}
use Rattle.machine.specs.Machine.{Pending, State, in_use, Heard}
use Rattle.machine.proofs.Heard.{HeardSo, Stored}
use Rattle.machine.proofs.Keys.{of_key, one_of}
use Rattle.machine.proofs.Paths.{Source, recalled}
use Rattle.machine.proofs.Storing.{store_laws}

-- ---- the same way

module _ (f g : Source) where
  abbrev pub Stay : ℕ → Name → Name → Type 0
  Stay n a q = (c p : Name) (e : Entry) → Memᴰ e (walk entry_said n f a q).words → f c p ≡ Some e → g c p ≡ Some e

  abbrev pub LackStill : ℕ → Name → Name → Type 0
  LackStill n a q = (c p : Name) → (walk entry_said n f a q).end ≡ LacksAt c p → g c p ≡ None

  -- its words are there still, and the word that it lacks isn't
  pub same_way : (n : ℕ) (a q : Name) → Stay n a q → LackStill n a q → walk entry_said n g a q ≡ walk entry_said n f a q
  same_way zero a q s l = walk_none entry_said g a q ∙ sym (walk_none entry_said f a q)
  same_way (suc n) a q s l = go (λ c p. same_way n c p) (f a q) refl
    where
      by : ((c p : Name) → Stay n c p → LackStill n c p → walk entry_said n g c p ≡ walk entry_said n f c p) → (e : Entry) → f a q ≡ Some e → (x : Next) → next (entry_said e) q ≡ x → walk entry_said (suc n) g a q ≡ walk entry_said (suc n) f a q
      by ih e h (Ends o) d =
          let i = walk_ends entry_said n f a q e o h d in
          let k = s a q e (subst (λ (x : Walk Entry). Memᴰ e x.words) (sym i) (Memᴰ.head refl)) h in
          walk_ends entry_said n g a q e o k d ∙ sym i
      by ih e h (Goes c p) d =
          let i = walk_goes entry_said n f a q e c p h d in
          let k = s a q e (subst (λ (x : Walk Entry). Memᴰ e x.words) (sym i) (Memᴰ.head refl)) h in
          walk_goes entry_said n g a q e c p k d
          ∙ ap (behind e)
          (ih c p (λ c' p' e' m. s c' p' e' (subst (λ (x : Walk Entry). Memᴰ e' x.words) (sym i) (Memᴰ.tail m)))
          (λ c' p' m. l c' p' (ap (λ (x : Walk Entry). x.end) i ∙ m)))
          ∙ sym i

      go : ((c p : Name) → Stay n c p → LackStill n c p → walk entry_said n g c p ≡ walk entry_said n f c p) → (o : Option Entry) → f a q ≡ o → walk entry_said (suc n) g a q ≡ walk entry_said (suc n) f a q
      go ih None h =
          let i = walk_lacks entry_said n f a q h in
          walk_lacks entry_said n g a q (l a q (ap (λ (x : Walk Entry). x.end) i)) ∙ sym i
      go ih (Some e) h = by ih e h (next (entry_said e) q) refl

  -- ---- where words only run out, it is the same, or cut short where one ran out

  abbrev pub Fades : Type 0
  Fades = (c p : Name) → (g c p ≡ f c p) ⊎ ((g c p ≡ None) × (e : Entry) × (f c p ≡ Some e))

  abbrev pub Cut : ℕ → Name → Name → Type 0
  Cut n a q = (c : Name) × (p : Name) × (e : Entry) × ((walk entry_said n g a q).end ≡ LacksAt c p) × (f c p ≡ Some e)

  pub same_or_cut : Fades → (n : ℕ) (a q : Name) → (walk entry_said n g a q ≡ walk entry_said n f a q) ⊎ Cut n a q
  same_or_cut fades zero a q = inl (walk_none entry_said g a q ∙ sym (walk_none entry_said f a q))
  same_or_cut fades (suc n) a q = go (λ c p. same_or_cut fades n c p) (fades a q) (f a q) refl
    where
      Out : Type 0
      Out = (walk entry_said (suc n) g a q ≡ walk entry_said (suc n) f a q) ⊎ Cut (suc n) a q

      by : ((c p : Name) → (walk entry_said n g c p ≡ walk entry_said n f c p) ⊎ Cut n c p) → (e : Entry) → f a q ≡ Some e → g a q ≡ Some e → (x : Next) → next (entry_said e) q ≡ x → Out
      by ih e h k (Ends o) d = inl (walk_ends entry_said n g a q e o k d ∙ sym (walk_ends entry_said n f a q e o h d))
      by ih e h k (Goes c p) d =
          let j = walk_goes entry_said n g a q e c p k d in
          ⊎_elim (λ i. inl (j ∙ ap (behind e) i ∙ sym (walk_goes entry_said n f a q e c p h d)))
          (λ i. inr (i.0, i.1, i.2, ap (λ (x : Walk Entry). x.end) j ∙ i.3, i.4)) (ih c p)

      go : ((c p : Name) → (walk entry_said n g c p ≡ walk entry_said n f c p) ⊎ Cut n c p) → (g a q ≡ f a q) ⊎ ((g a q ≡ None) × (e : Entry) × (f a q ≡ Some e)) → (o : Option Entry) → f a q ≡ o → Out
      go ih (inr k) o h = inr (a, q, k.1, ap (λ (x : Walk Entry). x.end) (walk_lacks entry_said n g a q k.0), k.2)
      go ih (inl k) None h = inl (walk_lacks entry_said n g a q (k ∙ h) ∙ sym (walk_lacks entry_said n f a q h))
      go ih (inl k) (Some e) h = by ih e h (k ∙ h) (next (entry_said e) q) refl

-- ---- none remembered

-- no entry of a key counts, so none is remembered
pub none_remembered : (r : Rules) (now : ℕ) (es : List Entry) (k : ℕ) (a q : Name) → ((e : Entry) → Held r now es k a q e → ⊥) → remembered r now es k a q ≡ None
none_remembered r now es k a q h = go (remembered r now es k a q) refl
  where
    go : (o : Option Entry) → remembered r now es k a q ≡ o → remembered r now es k a q ≡ None
    go None e = e
    go (Some x) e = absurd (h x (held r now es k a q x e))

pub not_held : (r : Rules) (now : ℕ) (es : List Entry) (k : ℕ) (a q : Name) → remembered r now es k a q ≡ None → (e : Entry) → Held r now es k a q e → ⊥
not_held r now es k a q none e h =
    first_none (λ x. counts r now x && is_key a q k x) es none e h.there
    (and_from (counts r now e) (is_key a q k e) h.counting
    (and_from (same e.apex a && same e.name q) (eqb e.kind k)
    (and_from (same e.apex a) (same e.name q) (so_same e.apex a h.apex_is) (so_same e.name q h.name_is)) (eq-eqb e.kind k h.kind_is)))

-- ---- a second passes

pub counted_before : (r : Rules) (now : ℕ) (e : Entry) → counts r (now + 1) e ≡ true → counts r now e ≡ true
counted_before r now e h = let l = leb-true (now + 1) (until r e) h in le-leb now (until r e) (omega arith)

pub fades : (r : Rules) (now : ℕ) (es : List Entry) (k : ℕ) → one_a_key es ≡ true → Fades (remembered r now es k) (remembered r (now + 1) es k)
fades r now es k one c p = go (remembered r (now + 1) es k c p) refl (remembered r now es k c p) refl
  where
    Out : Type 0
    Out = (remembered r (now + 1) es k c p ≡ remembered r now es k c p) ⊎ ((remembered r (now + 1) es k c p ≡ None) × (e : Entry) × (remembered r now es k c p ≡ Some e))

    go : (x : Option Entry) → remembered r (now + 1) es k c p ≡ x → (y : Option Entry) → remembered r now es k c p ≡ y → Out
    go None e None f = inl (e ∙ sym f)
    go None e (Some y) f = inr (e, y, f)
    go (Some x) e y f =
        let h = held r (now + 1) es k c p x e in
        inl (e ∙ sym (recalled r now es k c p x one (record { there = h.there; counting = counted_before r now x h.counting; apex_is = h.apex_is; name_is = h.name_is; kind_is = h.kind_is })))

-- ---- a response is heard

-- what the cache holds after it: the new entry, and what was there; of what was there, all that is in use and of another key
pub record Cached (r : Rules) (st : State) (made : Entry) (es : List Entry) : Type 0 where
  pub one : one_a_key es ≡ true
  pub members : (f : Entry) → Memᴰ f es → (f ≡ made) ⊎ Memᴰ f st.cache
  pub stays : (f : Entry) → Memᴰ f st.cache → of_key made f ≡ false → in_use r st f ≡ true → Memᴰ f es

pub cached : (r : Rules) (y : Response) (st : State) (p : Pending) (h : Heard) → one_a_key st.cache ≡ true → HeardSo r y st p h → Cached r st (entry_for st.now p.query y.word) h.state.cache
cached r y st p h keys so = go so.stored
  where
    made : Entry
    made = entry_for st.now p.query y.word

    go : Stored r y st p h → Cached r st (entry_for st.now p.query y.word) h.state.cache
    go (inl k) =
        let law = store_laws.kept r (in_use r st) made st.cache k.0 keys k.1 in
        subst (λ (s : State). Cached r st made s.cache) (sym k.2)
        (record {
          one = store_laws.keeps_keys r (in_use r st) made st.cache k.0 keys (inl k.1);
          members = λ f m. ⊎_elim (λ e. inl e) (λ e. inr e.0) ((law f).0 m);
          stays = λ f m other used. (law f).1 (inr (m, other));
        })
    go (inr k) =
        let law = store_laws.ousted r (in_use r st) made st.cache k.1 k.0 keys k.2 in
        subst (λ (s : State). Cached r st made s.cache) (sym k.3)
        (record {
          one = store_laws.keeps_keys r (in_use r st) made st.cache k.1 keys (inr (k.0, k.2));
          members = λ f m. ⊎_elim (λ e. inl e) (λ e. inr e.0) ((law.2 f).0 m);
          stays = λ f m other used. (law.2 f).1 (inr (
            m,
            false_from_ne_true _ (λ i. true≢false (sym used ∙ ap (in_use r st) (sym (one_of st.cache keys _ f law.0.there m i)) ∙ law.0.unused)),
          ));
        })
