-- The front of a walk, up to a zone and name, and how it goes on from there; and how many words can be in use.
use Rattle.std.proofs.Common.{◌≡◌, ℕ, zero, suc, ◌+◌, ◌*◌, ◌<◌, ◌≤◌, Bool, true, false, not, ◌&&◌, eqb, ◌⊎◌, List, [], ◌∷◌, ◌++◌, length, Some, None, Option, sym, refl, ap, ◌∙◌, subst, inl, inr, ⊎_elim, true≢false, arith, length-append}
use mathlib.Core.List.Memᴰ
use mathlib.Core.List.{Memᴰ}
use Rattle.std.proofs.lemmas.Bool.{not_from_false, and_from, eq-eqb}
use Rattle.meaning.specs.Says.{same}
use Rattle.meaning.proofs.Rules.{so_same}
use Rattle.protocol.specs.Lists.{kept}
use Rattle.protocol.specs.Words.{Name, Next, Ends, Goes, next}
use Rattle.protocol.specs.World.{Rules, Entry, counts, is_key}
use Rattle.protocol.specs.Walks.{Walk, walk, remembered, entry_said}
use Rattle.protocol.proofs.Lists.{first_found, kept_here, kept_not, in_kept, any_some}
use Rattle.protocol.proofs.Settled.{Held, held}
use Rattle.protocol.proofs.Walks.{walk_none, walk_lacks, walk_ends, walk_goes}
use Rattle.machine.specs.Store.{one_a_key}
use Rattle.machine.specs.Machine.{Question, State, walk_of, used_by, in_use}
use Rattle.machine.specs.Live.{NeverFull}
use Rattle.machine.proofs.Keys.{of_key, key_so, so_key, one_tail, one_head, one_of}
use Rattle.machine.proofs.Storing.{store_laws}

abbrev pub Source : Type 0
Source = Name → Name → Option Entry

-- by these words a walk comes from one place to another, with so many steps left
pub data Path (f : Source) : ℕ → Name → Name → List Entry → ℕ → Name → Name → Type 0 where
  here : {n : ℕ} {a q : Name} → Path f n a q [] n a q
  further : {n : ℕ} {a q : Name} {ws : List Entry} {m : ℕ} {c p : Name} (e : Entry) (b x : Name) → f a q ≡ Some e → next (entry_said e) q ≡ Goes b x → Path f n b x ws m c p → Path f (suc n) a q (e ∷ ws) m c p

module _ (f : Source) where
  pub path_end : {n : ℕ} {a q : Name} {ws : List Entry} {m : ℕ} {c p : Name} → Path f n a q ws m c p → (walk entry_said n f a q).end ≡ (walk entry_said m f c p).end
  path_end here = refl
  path_end (further {n = n} {a = a} {q = q} e b x h d t) = ap (λ (y : Walk Entry). y.end) (walk_goes entry_said n f a q e b x h d) ∙ path_end t

  pub path_words : {n : ℕ} {a q : Name} {ws : List Entry} {m : ℕ} {c p : Name} → Path f n a q ws m c p → (walk entry_said n f a q).words ≡ ws ++ (walk entry_said m f c p).words
  path_words here = refl
  path_words (further {n = n} {a = a} {q = q} e b x h d t) = ap (λ (y : Walk Entry). y.words) (walk_goes entry_said n f a q e b x h d) ∙ ap (λ ys. e ∷ ys) (path_words t)

  pub path_length : {n : ℕ} {a q : Name} {ws : List Entry} {m : ℕ} {c p : Name} → Path f n a q ws m c p → length ws + m ≡ n
  path_length here = omega arith
  path_length (further e b x h d t) = let l = path_length t in omega arith

  pub path_more : {n : ℕ} {a q : Name} {ws : List Entry} {m : ℕ} {c p : Name} → Path f n a q ws (suc m) c p → (e : Entry) (b x : Name) → f c p ≡ Some e → next (entry_said e) p ≡ Goes b x → Path f n a q (ws ++ (e ∷ [])) m b x
  path_more here e b x h d = further e b x h d here
  path_more (further f' c' x' g k t) e b x h d = further f' c' x' g k (path_more t e b x h d)

  pub path_found : {n : ℕ} {a q : Name} {ws : List Entry} {m : ℕ} {c p : Name} → Path f n a q ws m c p → (e : Entry) → Memᴰ e ws → (b : Name) × (x : Name) × (f b x ≡ Some e)
  path_found here e i = absurd (Memᴰ.not-nil i)
  path_found (further {a = a} {q = q} g b x h d t) e i = ⊎_elim (λ k. (a, q, h ∙ ap Some (sym k))) (λ k. path_found t e k) (Memᴰ.cases_cons i)

-- the same path by another source that has its words
pub path_move : (f g : Source) {n : ℕ} {a q : Name} {ws : List Entry} {m : ℕ} {c p : Name} → Path f n a q ws m c p → ((b x : Name) (e : Entry) → Memᴰ e ws → f b x ≡ Some e → g b x ≡ Some e) → Path g n a q ws m c p
path_move f g here h = here
path_move f g (further {a = a} {q = q} e b x k d t) h = further e b x (h a q e (Memᴰ.head refl) k) d (path_move f g t (λ c y w i. h c y w (Memᴰ.tail i)))

-- an entry that is there and counts is remembered
pub recalled : (r : Rules) (now : ℕ) (es : List Entry) (k : ℕ) (a q : Name) (e : Entry) → one_a_key es ≡ true → Held r now es k a q e → remembered r now es k a q ≡ Some e
recalled r now es k a q e one h =
    let f = first_found (λ x. counts r now x && is_key a q k x) es e h.there (and_from (counts r now e) (is_key a q k e) h.counting (key_at_lem e h)) in
    let g = held r now es k a q f.0 f.1 in
    f.1 ∙ ap Some (one_of es one f.0 e g.there h.there (so_key f.0 e (record { apex_is = h.apex_is ∙ sym g.apex_is; name_is = h.name_is ∙ sym g.name_is; kind_is = h.kind_is ∙ sym g.kind_is })))
  where
    key_at_lem : (e : Entry) → Held r now es k a q e → is_key a q k e ≡ true
    key_at_lem e h =
        and_from (same e.apex a && same e.name q) (eqb e.kind k)
        (and_from (same e.apex a) (same e.name q) (so_same e.apex a h.apex_is) (so_same e.name q h.name_is)) (eq-eqb e.kind k h.kind_is)

-- ---- how many words can be in use

kept_least : (test : Entry → Bool) (xs : List Entry) → length (kept test xs) ≤ length xs
unfolding kept
kept_least test [] = omega arith
kept_least test (x ∷ xs) = go (test x) refl (kept_least test xs)
  where
    go : (b : Bool) → test x ≡ b → length (kept test xs) ≤ length xs → length (kept test (x ∷ xs)) ≤ suc (length xs)
    go true e ih = let l = ap length (kept_here test x xs e) in omega arith
    go false e ih = let l = ap length (kept_not test x xs e) in omega arith

kept_fewer : (test : Entry → Bool) (xs : List Entry) (y : Entry) → Memᴰ y xs → test y ≡ false → length (kept test xs) < length xs
kept_fewer test [] y m h = absurd (Memᴰ.not-nil m)
kept_fewer test (x ∷ xs) y m h = go (test x) refl (λ n. kept_fewer test xs y n h) (Memᴰ.cases_cons m)
  where
    go : (b : Bool) → test x ≡ b → (Memᴰ y xs → length (kept test xs) < length xs) → (y ≡ x) ⊎ Memᴰ y xs → length (kept test (x ∷ xs)) < suc (length xs)
    go true e ih (inl i) = absurd (true≢false (sym e ∙ sym (ap test i) ∙ h))
    go true e ih (inr n) = let l = ap length (kept_here test x xs e) in let k = ih n in omega arith
    go false e ih s = let l = ap length (kept_not test x xs e) in let k = kept_least test xs in omega arith

-- a list of one entry a key, each of whose keys is in another, is no longer
pigeons : (es gs : List Entry) → one_a_key es ≡ true → ((f : Entry) → Memᴰ f es → (g : Entry) × Memᴰ g gs × (of_key f g ≡ true)) → length es ≤ length gs
pigeons [] gs o h = omega arith
pigeons (e ∷ es) gs o h =
    let g = h e (Memᴰ.head refl) in
    let fewer = kept_fewer (λ x. not (of_key e x)) gs g.0 g.1 (ap not g.2) in
    let rest = pigeons es (kept (λ x. not (of_key e x)) gs) (one_tail e es o) (λ f m. others f m (h f (Memᴰ.tail m))) in
    omega arith
  where
    others : (f : Entry) → Memᴰ f es → (g : Entry) × Memᴰ g gs × (of_key f g ≡ true) → (g : Entry) × Memᴰ g (kept (λ x. not (of_key e x)) gs) × (of_key f g ≡ true)
    others f m g = (g.0, in_kept (λ x. not (of_key e x)) gs g.0 g.1 (not_from_false (of_key e g.0) (apart (of_key e g.0) refl)), g.2)
      where
        apart : (b : Bool) → of_key e g.0 ≡ b → of_key e g.0 ≡ false
        apart true x =
            let k = key_so e g.0 x in
            let l = key_so f g.0 g.2 in
            absurd (one_head e es o f m (so_key e f (record { apex_is = sym l.apex_is ∙ k.apex_is; name_is = sym l.name_is ∙ k.name_is; kind_is = sym l.kind_is ∙ k.kind_is })))
        apart false x = x

walk_least : (f : Source) (n : ℕ) (a q : Name) → length (walk entry_said n f a q).words ≤ n
walk_least f zero a q = let l = ap (λ (x : Walk Entry). length x.words) (walk_none entry_said f a q) in omega arith
walk_least f (suc n) a q = go (λ c p. walk_least f n c p) (f a q) refl
  where
    by : ((c p : Name) → length (walk entry_said n f c p).words ≤ n) → (e : Entry) → f a q ≡ Some e → (x : Next) → next (entry_said e) q ≡ x → length (walk entry_said (suc n) f a q).words ≤ suc n
    by ih e h (Ends o) d = let l = ap (λ (x : Walk Entry). length x.words) (walk_ends entry_said n f a q e o h d) in omega arith
    by ih e h (Goes c p) d = let l = ap (λ (x : Walk Entry). length x.words) (walk_goes entry_said n f a q e c p h d) in let k = ih c p in omega arith

    go : ((c p : Name) → length (walk entry_said n f c p).words ≤ n) → (o : Option Entry) → f a q ≡ o → length (walk entry_said (suc n) f a q).words ≤ suc n
    go ih None h = let l = ap (λ (x : Walk Entry). length x.words) (walk_lacks entry_said n f a q h) in omega arith
    go ih (Some e) h = by ih e h (next (entry_said e) q) refl

-- all words of all walks
all_words : Rules → State → List Question → List Entry
all_words r st [] = []
all_words r st (u ∷ us) = (walk_of r st u).words ++ all_words r st us

words_least : (r : Rules) (st : State) (us : List Question) → length (all_words r st us) ≤ 24 * length us
unfolding all_words
words_least r st [] = omega arith
words_least r st (u ∷ us) =
    let a = length-append (walk_of r st u).words (all_words r st us) in
    let b = walk_least (remembered r st.now st.cache u.kind) 24 [] u.name in
    let c = words_least r st us in
    omega arith

words_in : (r : Rules) (st : State) (us : List Question) (u : Question) (g : Entry) → Memᴰ u us → Memᴰ g (walk_of r st u).words → Memᴰ g (all_words r st us)
unfolding all_words
words_in r st [] u g m n = absurd (Memᴰ.not-nil m)
words_in r st (v ∷ us) u g m n =
    ⊎_elim (λ e. Memᴰ.append_left (all_words r st us) (subst (λ (x : Question). Memᴰ g (walk_of r st x).words) e n)) (λ k. Memᴰ.append_right (walk_of r st v).words (words_in r st us u g k n)) (Memᴰ.cases_cons m)

pub never_full : (r : Rules) (st : State) → one_a_key st.cache ≡ true → length st.walks ≤ 16 → NeverFull r st
never_full r st one few e h =
    let full = store_laws.no_room r (in_use r st) e st.cache h in
    let p = pigeons st.cache (all_words r st st.walks) one (λ f m. by f (full.1 f m)) in
    let l = words_least r st st.walks in
    let k = full.0 in
    omega arith
  where
    by : (f : Entry) → in_use r st f ≡ true → (g : Entry) × Memᴰ g (all_words r st st.walks) × (of_key f g ≡ true)
    by f used =
        let u = any_some (used_by r st f) st.walks used in
        let g = any_some (λ (x : Entry). is_key f.apex f.name f.kind x) (walk_of r st u.0).words u.2 in
        (g.0, words_in r st st.walks u.0 g.0 u.1 g.1, g.2)
