-- What counts is fresh; and where all that was superseded has run out, what is shown is what is meant.
use Rattle.std.proofs.Common.{◌≡◌, ℕ, zero, suc, ◌+◌, true, ◌&&◌, eqb, List, [], Some, None, Option, sym, refl, ap, ◌∙◌, subst, inl, inr, ⊎_elim, arith}
use mathlib.Core.List.Memᴰ
use mathlib.Core.List.{Memᴰ}
use Rattle.std.proofs.lemmas.Bool.{and_parts, leb-true, eqb-true}
use Rattle.meaning.specs.Says.{same}
use Rattle.meaning.specs.Speech.{Said}
use Rattle.meaning.proofs.Rules.{same_so}
use Rattle.protocol.specs.Words.{Name, tells, Next, Ends, Goes, next}
use Rattle.protocol.specs.World.{Rules, Entry, World, current, until, counts, is_key}
use Rattle.protocol.specs.History.{in_force, longest, others_run_out}
use Rattle.protocol.specs.Walks.{Walk, walk, by_zone, by_owners, word_said, remembered, entry_said, shown}
use Rattle.protocol.specs.Promise.{Fresh, ShowsMeant, WayRested, Rested}
use Rattle.protocol.proofs.Lists.{first_some}
use Rattle.protocol.proofs.Force.{force_longest, still_current, others_run_out_lem}
use Rattle.protocol.proofs.Inv.{Inv}
use Rattle.protocol.proofs.Steps.{lower_right}
use Rattle.protocol.proofs.Walks.{walk_lacks, walk_ends, walk_goes, walk_none, walk_by}

-- what is found in the cache is there, counts, and has its key
pub record Held (r : Rules) (now : ℕ) (es : List Entry) (k : ℕ) (a q : Name) (e : Entry) : Type 0 where
  pub there : Memᴰ e es
  pub counting : counts r now e ≡ true
  pub apex_is : e.apex ≡ a
  pub name_is : e.name ≡ q
  pub kind_is : e.kind ≡ k

pub held : (r : Rules) (now : ℕ) (es : List Entry) (k : ℕ) (a q : Name) (e : Entry) → remembered r now es k a q ≡ Some e → Held r now es k a q e
held r now es k a q e h =
    let f = first_some (λ x. counts r now x && is_key a q k x) es e h in
    let p = and_parts (counts r now e) (is_key a q k e) f.1 in
    let i = and_parts (same e.apex a && same e.name q) (eqb e.kind k) p.1 in
    let j = and_parts (same e.apex a) (same e.name q) i.0 in
    record { there = f.0; counting = p.0; apex_is = same_so e.apex a j.0; name_is = same_so e.name q j.1; kind_is = eqb-true e.kind k i.1 }

-- every word of a walk was found by it
pub found_by : {W : Type 0} (said : W → Said) (f : Name → Name → Option W) (n : ℕ) (a q : Name) (w : W) → Memᴰ w (walk said n f a q).words → (c : Name) × (p : Name) × (f c p ≡ Some w)
found_by {W} said f zero a q w m = absurd (Memᴰ.not-nil (subst (λ (x : Walk W). Memᴰ w x.words) (walk_none said f a q) m))
found_by {W} said f (suc n) a q w m = go (λ c p. found_by said f n c p w) (f a q) refl
  where
    on : ((c p : Name) → Memᴰ w (walk said n f c p).words → (c' : Name) × (p' : Name) × (f c' p' ≡ Some w)) → (v : W) → f a q ≡ Some v → (x : Next) → next (said v) q ≡ x → (c : Name) × (p : Name) × (f c p ≡ Some w)
    on ih v e (Ends o) d =
        ⊎_elim (λ i. (a, q, e ∙ ap Some (sym i))) (λ n. absurd (Memᴰ.not-nil n))
        (Memᴰ.cases_cons (subst (λ (x : Walk W). Memᴰ w x.words) (walk_ends said n f a q v o e d) m))
    on ih v e (Goes c p) d =
        ⊎_elim (λ i. (a, q, e ∙ ap Some (sym i))) (λ l. ih c p l)
        (Memᴰ.cases_cons (subst (λ (x : Walk W). Memᴰ w x.words) (walk_goes said n f a q v c p e d) m))

    go : ((c p : Name) → Memᴰ w (walk said n f c p).words → (c' : Name) × (p' : Name) × (f c' p' ≡ Some w)) → (o : Option W) → f a q ≡ o → (c : Name) × (p : Name) × (f c p ≡ Some w)
    go ih None e = absurd (Memᴰ.not-nil (subst (λ (x : Walk W). Memᴰ w x.words) (walk_lacks said n f a q e) m))
    go ih (Some v) e = on ih v e (next (said v) q) refl

module _ (r : Rules) (w : World) (i : Inv r w) where
  pub fresh : (e : Entry) → Memᴰ e w.cache → counts r w.now e ≡ true → Fresh r w e
  fresh e m c =
      let t = i.entry e m in
      let l = leb-true w.now (until r e) c in
      let x = force_longest e.apex w.published w.now t.moment t.zone t.is_in_force in
      let g = t.age in
      let d = lower_right e.word.ttl r.day in
      record {
        moment = t.moment;
        said_then = record { zone = t.zone; is_in_force = t.is_in_force; tells_so = t.tells_so };
        age = omega arith;
        plain = omega arith;
      }

  pub words_fresh : (q : Name) (k : ℕ) (e : Entry) → Memᴰ e (shown r w q k).words → Fresh r w e
  words_fresh q k e m =
      let f = found_by entry_said (remembered r w.now w.cache k) 24 [] q e m in
      let h = held r w.now w.cache k f.0 f.1 e f.2 in
      fresh e h.there h.counting

  -- a word that counts, of a zone whose other versions have run out, is what its owner says now
  pub says_now : (k : ℕ) (a q : Name) (e : Entry) → remembered r w.now w.cache k a q ≡ Some e → others_run_out w.now (r.day + r.patience) a w.published ≡ true → by_owners w k a q ≡ Some e.word
  says_now k a q e found out =
      let h = held r w.now w.cache k a q e found in
      let t = i.entry e h.there in
      let l = leb-true w.now (until r e) h.counting in
      let g = t.age in
      let d = lower_right e.word.ttl r.day in
      let now_so : current a w.published ≡ Some t.zone =
      still_current w.now (r.day + r.patience) t.moment a t.zone (omega arith) w.published w.now out
      (subst (λ b. Memᴰ t.zone (in_force w.now t.moment b w.published)) h.apex_is t.is_in_force) in
      ap (λ o. by_zone o q k) now_so ∙ (λ j. tells t.zone (sym h.name_is j) (sym h.kind_is j)) ∙ t.tells_so

  pub settled_way : (q : Name) (k : ℕ) → WayRested r w q k → ShowsMeant r w q k
  settled_way q k rest =
      ⊎_elim (λ l. inl l) (λ e. inr (sym e))
      (walk_by entry_said word_said (remembered r w.now w.cache k) (by_owners w k) 24 [] q
      (λ c p e m found. (e.word, says_now k c p e found (subst (λ a. others_run_out w.now (r.day + r.patience) a w.published ≡ true) (held r w.now w.cache k c p e found).apex_is (rest e m)), refl)))

  pub out_everywhere : Rested r w → (a : Name) → others_run_out w.now (r.day + r.patience) a w.published ≡ true
  out_everywhere rest a = others_run_out_lem w.now (r.day + r.patience) (longest w.published) a w.published (omega arith) rest

  pub settled : Rested r w → (q : Name) (k : ℕ) → ShowsMeant r w q k
  settled rest q k = settled_way q k (λ e m. out_everywhere rest e.apex)
