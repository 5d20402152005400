-- A set clashes with one of its neighbours, or with none.
use Rattle.std.proofs.Common.{◌≡◌, ℕ, ◌-◌, ◌<◌, ◌≤◌, Bool, true, false, ◌||◌, ◌⊎◌, List, [], ◌∷◌, map, length, get_or, Some, None, Option, sym, refl, ap, ◌∙◌, subst, inl, inr, ⊎_elim, true≢false, arith}
use mathlib.Core.List.Memᴰ
use mathlib.Core.List.{Memᴰ}
use lib.ListN.{length-map}
use Rattle.std.proofs.Math.Bool.{or-false}
use Rattle.std.proofs.lemmas.Bool.{and_parts, or_left, or_right, cases_lt, cases_Bool}
use Rattle.std.specs.List.{ItemBy}
use Rattle.std.specs.Option.{MatchOption}
use Rattle.names.specs.Order.{within, NotAfter}
use Rattle.names.proofs.Order.{order_laws}
use Rattle.names.proofs.Within.{within_itself}
use Rattle.meaning.specs.Model.{aliases, AliasOf, Set}
use Rattle.meaning.specs.Says.{same}
use Rattle.meaning.proofs.Rules.{same_so}
use Rattle.zones.specs.Sorted.{sorted, place, set_at}
use Rattle.zones.specs.Valid.{clash, clashes, no_clash}
use Rattle.zones.proofs.Places.{mem_at, place_within}
use Rattle.zones.proofs.Beside.{clash_so, alone, sides, at_index, past_index, set_there}

-- ---- among all

data Meets (s : Set) (ss : List Set) : Bool → Type 0 where
  meets : (t : Set) → Memᴰ t ss → clash s t ≡ true → Meets s ss true
  meets_none : ((t : Set) → Memᴰ t ss → clash s t ≡ false) → Meets s ss false

looks : (s : Set) (ss : List Set) → Meets s ss (clashes s ss)
looks s [] = meets_none (λ t m. absurd (Memᴰ.not-nil m))
looks s (t ∷ ss) = go (clash s t) refl (clashes s ss) (looks s ss)
  where
    go : (b : Bool) → clash s t ≡ b → (c : Bool) → Meets s ss c → Meets s (t ∷ ss) (b || c)
    go true e c ih = meets t (Memᴰ.head refl) e
    go false e c (meets u m f) = meets u (Memᴰ.tail m) f
    go false e c (meets_none h) = meets_none (λ u m. ⊎_elim (λ d. ap (clash s) d ∙ e) (λ k. h u k) (Memᴰ.cases_cons m))

-- ---- on both sides of its place

module _ (ss : List Set) (o : sorted ss ≡ true) (c : no_clash ss ≡ true) (s : Set) (d : Set) where
  -- a neighbour at the name of one that the set clashes with
  also : (t u : Set) → Memᴰ t ss → Memᴰ u ss → clash s t ≡ true → u.name ≡ s.name → clash s u ≡ true
  also t u m l h e =
      let p = and_parts (same s.name t.name) (aliases s.kind || aliases t.kind) h in
      clash_so s u (sym e)
      (⊎_elim
      (λ a. or_left (aliases s.kind) (aliases u.kind) a)
      (λ n. or_right (aliases s.kind) (aliases u.kind) (ap (λ (x : Set). aliases x.kind) (sym (alone ss c t u m l (sym (same_so s.name t.name p.0) ∙ sym e) (other (aliases s.kind) (aliases t.kind) p.1 n))) ∙ other (aliases s.kind) (aliases t.kind) p.1 n))
      (cases_Bool (aliases s.kind)))
    where
      other : (a b : Bool) → (a || b) ≡ true → a ≡ false → b ≡ true
      other true b f n = absurd (true≢false n)
      other false b f n = f

  near : (t : Set) → Memᴰ t ss → clash s t ≡ true → ((0 < place s.name s.kind ss) × (clash s (get_or ss (place s.name s.kind ss - 1) d) ≡ true)) ⊎ ((place s.name s.kind ss < length ss) × (clash s (get_or ss (place s.name s.kind ss) d) ≡ true))
  near t m h =
      let e = same_so s.name t.name (and_parts (same s.name t.name) (aliases s.kind || aliases t.kind) h).0 in
      let w = place_within s.name s.kind ss in
      ⊎_elim
      (λ q. let l = q.0 in inl (q.0, also t (get_or ss (place s.name s.kind ss - 1) d) m (mem_at ss d (place s.name s.kind ss - 1) (omega arith)) h q.1))
      (λ q. inr (q.0, also t (get_or ss (place s.name s.kind ss) d) m (mem_at ss d (place s.name s.kind ss) q.0) h (level e q.1 q.2)))
      (sides ss o c s.name s.kind d t m (ap (within s.name) (sym e) ∙ within_itself s.name))
    where
      level : s.name ≡ t.name → within s.name (get_or ss (place s.name s.kind ss) d).name ≡ true → NotAfter (get_or ss (place s.name s.kind ss) d).name t.name → (get_or ss (place s.name s.kind ss) d).name ≡ s.name
      level e w na = order_laws.antisymmetric (get_or ss (place s.name s.kind ss) d).name s.name (subst (NotAfter (get_or ss (place s.name s.kind ss) d).name) (sym e) na) (order_laws.above_first s.name (get_or ss (place s.name s.kind ss) d).name w)

module _ (ss : List Set) (o : sorted ss ≡ true) (c : no_clash ss ≡ true) (s : Set) (i : ℕ) (at : i ≡ place s.name s.kind ss) where
  any : Set
  any = record { name = []; kind = 0; ttl = 0; content = AliasOf [] }

  at_there : (j : ℕ) → j < length ss → clashes s (set_at j ss) ≡ clash s (get_or ss j any)
  at_there j l = ap (clashes s) (at_index ss j any l) ∙ or-false (clash s (get_or ss j any))

  meets_at : (j : ℕ) → clashes s (set_at j ss) ≡ true → true ≡ clashes s ss
  meets_at j h =
      ⊎_elim
      (λ l. go l (clashes s ss) (looks s ss))
      (λ l. absurd (true≢false (sym h ∙ ap (clashes s) (past_index ss j l))))
      (cases_lt j (length ss))
    where
      go : j < length ss → (b : Bool) → Meets s ss b → true ≡ b
      go l b (meets t m e) = refl
      go l b (meets_none never) = absurd (true≢false (sym h ∙ at_there j l ∙ never (get_or ss j any) (mem_at ss any j l)))

  near_at : (t : Set) → Memᴰ t ss → clash s t ≡ true → ((0 < i) × (clash s (get_or ss (i - 1) any) ≡ true)) ⊎ ((i < length ss) × (clash s (get_or ss i any) ≡ true))
  near_at t m h = subst (λ j. ((0 < j) × (clash s (get_or ss (j - 1) any) ≡ true)) ⊎ ((j < length ss) × (clash s (get_or ss j any) ≡ true))) (sym at) (near ss o c s any t m h)

  none_near : clashes s (set_at i ss) ≡ false → (0 < i → clashes s (set_at (i - 1) ss) ≡ false) → false ≡ clashes s ss
  none_near h k = go (clashes s ss) (looks s ss)
    where
      within_all : i ≤ length ss
      within_all = let w = place_within s.name s.kind ss in omega arith

      go : (b : Bool) → Meets s ss b → false ≡ b
      go b (meets_none never) = refl
      go b (meets t m e) =
          absurd
          (⊎_elim
          (λ q. let l = q.0 in let w = within_all in true≢false (sym q.1 ∙ sym (at_there (i - 1) (omega arith)) ∙ k q.0))
          (λ q. true≢false (sym q.1 ∙ sym (at_there i q.0) ∙ h))
          (near_at t m e))

  pub clash_here : clashes s (set_at i ss) ≡ true → true ≡ clashes s ss
  clash_here h = meets_at i h

  pub clash_first : i ≡ 0 → clashes s (set_at i ss) ≡ false → false ≡ clashes s ss
  clash_first z h = none_near h (λ l. absurd (omega arith))

  pub clash_before : clashes s (set_at i ss) ≡ false → clashes s (set_at (i - 1) ss) ≡ clashes s ss
  clash_before h = go (clashes s (set_at (i - 1) ss)) refl
    where
      go : (b : Bool) → clashes s (set_at (i - 1) ss) ≡ b → b ≡ clashes s ss
      go true e = meets_at (i - 1) e
      go false e = none_near h (λ l. e)

-- of the element that the code got, or of none
pub clash_by : {R X : Type 0} (now : R → X) (f : X → Set) (xs : List X) (s : Set) (i : ℕ) (r : Option R) (b : Bool) (P : R → Type 0) → ItemBy now xs i i r → MatchOption r (b ≡ false) P → ((x : R) → P x → b ≡ clash s (f (now x))) → b ≡ clashes s (set_at i (map f xs))
clash_by now f xs s i None b P h e by = let m = length-map xs f in let l = h.3 in e ∙ ap (clashes s) (sym (past_index (map f xs) i (omega arith)))
clash_by now f xs s i (Some x) b P h e by = by x e ∙ sym (or-false (clash s (f (now x)))) ∙ ap (clashes s) (set_there f xs i (now x) h.3.0 h.1)
