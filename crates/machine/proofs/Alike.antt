-- Lists with the same members: a cache of one entry a key tells the same in any order.
use Rattle.std.proofs.Common.{◌≡◌, ℕ, Bool, true, ◌&&◌, ◌⊎◌, List, [], ◌∷◌, map, Some, None, Option, sym, refl, ap, ◌∙◌, subst, inl, inr, ⊎_elim}
use mathlib.Core.List.Memᴰ
use mathlib.Core.List.{Memᴰ}
use Rattle.protocol.specs.Lists.{kept}
use Rattle.protocol.specs.Words.{Name}
use Rattle.protocol.specs.World.{Rules, Entry, World, counts, is_key}
use Rattle.protocol.specs.Walks.{walk, entry_said, remembered, shown_by, shown}
use Rattle.protocol.proofs.Lists.{first_some, first_none, kept_in, in_kept}
use Rattle.protocol.proofs.Settled.{held}
use Rattle.machine.specs.Store.{one_a_key}
use Rattle.machine.specs.Machine.{Question, State, walk_of}
use Rattle.machine.specs.Refine.{SameMembers, Stands}
use Rattle.machine.proofs.Keys.{of_key, so_key, one_of}

-- ---- members of lists that were mapped and sifted

pub map_in : {A B : Type 0} (f : A → B) (xs : List A) (y : B) → Memᴰ y (map f xs) → (x : A) × Memᴰ x xs × (f x ≡ y)
map_in f [] y m = absurd (Memᴰ.not-nil m)
map_in {A} f (x ∷ xs) y m = go (map_in f xs y) (Memᴰ.cases_cons m)
  where
    go : (Memᴰ y (map f xs) → (x : A) × Memᴰ x xs × (f x ≡ y)) → (y ≡ f x) ⊎ Memᴰ y (map f xs) → (z : A) × Memᴰ z (x ∷ xs) × (f z ≡ y)
    go ih (inl e) = (x, Memᴰ.head refl, sym e)
    go ih (inr n) = let r = ih n in (r.0, Memᴰ.tail r.1, r.2)

pub in_map : {A B : Type 0} (f : A → B) (xs : List A) (x : A) → Memᴰ x xs → Memᴰ (f x) (map f xs)
in_map f [] x m = absurd (Memᴰ.not-nil m)
in_map f (y ∷ ys) x m = ⊎_elim (λ e. Memᴰ.head (ap f e)) (λ n. Memᴰ.tail (in_map f ys x n)) (Memᴰ.cases_cons m)

-- sifting by a test that the map keeps
pub sifted : {A B : Type 0} (f : A → B) (s : A → Bool) (t : B → Bool) (xs : List A) (ys : List B) → ((x : A) → s x ≡ t (f x)) → SameMembers (map f xs) ys → SameMembers (map f (kept s xs)) (kept t ys)
sifted {A} {B} f s t xs ys same h y = (there, back)
  where
    there : Memᴰ y (map f (kept s xs)) → Memᴰ y (kept t ys)
    there m =
        let a = map_in f (kept s xs) y m in
        let k = kept_in s xs a.0 a.1 in
        in_kept t ys y ((h y).0 (subst (λ z. Memᴰ z (map f xs)) a.2 (in_map f xs a.0 k.0))) (ap t (sym a.2) ∙ sym (same a.0) ∙ k.1)

    back : Memᴰ y (kept t ys) → Memᴰ y (map f (kept s xs))
    back m =
        let k = kept_in t ys y m in
        let a = map_in f xs y ((h y).1 k.0) in
        subst (λ z. Memᴰ z (map f (kept s xs))) a.2 (in_map f (kept s xs) a.0 (in_kept s xs a.0 a.1 (same a.0 ∙ ap t a.2 ∙ k.1)))

-- ---- the cache in any order

module _ (r : Rules) (now : ℕ) (es fs : List Entry) (one : one_a_key es ≡ true) (alike : SameMembers es fs) (k : ℕ) where
  pub remembered_alike : (a q : Name) → remembered r now es k a q ≡ remembered r now fs k a q
  remembered_alike a q = go (remembered r now es k a q) refl (remembered r now fs k a q) refl
    where
      go : (x : Option Entry) → remembered r now es k a q ≡ x → (y : Option Entry) → remembered r now fs k a q ≡ y → remembered r now es k a q ≡ remembered r now fs k a q
      go None e None f = e ∙ sym f
      go (Some x) e None f =
          let h = first_some (λ e. counts r now e && is_key a q k e) es x e in
          absurd (first_none (λ e. counts r now e && is_key a q k e) fs f x ((alike x).0 h.0) h.1)
      go None e (Some y) f =
          let h = first_some (λ e. counts r now e && is_key a q k e) fs y f in
          absurd (first_none (λ e. counts r now e && is_key a q k e) es e y ((alike y).1 h.0) h.1)
      go (Some x) e (Some y) f =
          let h = held r now es k a q x e in
          let g = held r now fs k a q y f in
          let same_key : of_key x y ≡ true = so_key x y (record { apex_is = g.apex_is ∙ sym h.apex_is; name_is = g.name_is ∙ sym h.name_is; kind_is = g.kind_is ∙ sym h.kind_is }) in
          e ∙ ap Some (one_of es one x y h.there ((alike y).1 g.there) same_key) ∙ sym f

  pub shown_alike : (q : Name) → shown_by r now es q k ≡ shown_by r now fs q k
  shown_alike q = ap (λ (f : Name → Name → Option Entry). walk entry_said 24 f [] q) (λ i a p. remembered_alike a p i)

-- a question's walk is what the world shows of it
pub walk_is : (r : Rules) (st : State) (w : World) → Stands st w → (u : Question) → walk_of r st u ≡ shown r w u.name u.kind
walk_is r st w s u = shown_alike r st.now st.cache w.cache s.keys s.cache_is u.kind u.name ∙ ap (λ n. shown_by r n w.cache u.name u.kind) s.now_is
