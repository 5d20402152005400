-- Versions in force, and when those that were superseded have run out.
use Rattle.std.proofs.Common.{◌≡◌, ℕ, ◌+◌, ◌<◌, ◌≤◌, Bool, true, false, cond, ◌&&◌, ltb, leb, List, [], ◌∷◌, Some, sym, refl, ap, ◌∙◌, subst, ⊎_elim, arith}
use mathlib.Core.List.Memᴰ
use mathlib.Core.List.{Memᴰ}
use Rattle.std.proofs.lemmas.Bool.{cond-true, cond-false, cond_both, leb-true, leb-false, le-leb, lt-leb, ltb-true, ltb-false, lt-ltb, and_parts, and_from}
use Rattle.meaning.specs.Model.{Zone}
use Rattle.meaning.specs.Says.{same}
use Rattle.meaning.proofs.Rules.{same_so}
use Rattle.protocol.specs.Words.{Name}
use Rattle.protocol.specs.World.{Version, current}
use Rattle.protocol.specs.History.{in_force, higher, longest, rested, run_out, others_run_out}

-- ---- the ways of a version at the head

module _ (a : Name) (v : Version) (vs : List Version) where
  pub force_other : (end m : ℕ) → same v.zone.apex a ≡ false → in_force end m a (v ∷ vs) ≡ in_force end m a vs
  unfolding in_force
  force_other end m e = cond-false (same v.zone.apex a) (cond (leb m end) (v.zone ∷ in_force v.moment m a vs) (in_force v.moment m a vs)) (in_force end m a vs) e

  pub force_here : (end m : ℕ) → same v.zone.apex a ≡ true → m ≤ end → in_force end m a (v ∷ vs) ≡ v.zone ∷ in_force v.moment m a vs
  unfolding in_force
  force_here end m e l =
      cond-true (same v.zone.apex a) (cond (leb m end) (v.zone ∷ in_force v.moment m a vs) (in_force v.moment m a vs)) (in_force end m a vs) e
      ∙ cond-true (leb m end) (v.zone ∷ in_force v.moment m a vs) (in_force v.moment m a vs) (le-leb m end l)

  pub force_late : (end m : ℕ) → same v.zone.apex a ≡ true → end < m → in_force end m a (v ∷ vs) ≡ in_force v.moment m a vs
  unfolding in_force
  force_late end m e l =
      cond-true (same v.zone.apex a) (cond (leb m end) (v.zone ∷ in_force v.moment m a vs) (in_force v.moment m a vs)) (in_force end m a vs) e
      ∙ cond-false (leb m end) (v.zone ∷ in_force v.moment m a vs) (in_force v.moment m a vs) (lt-leb m end l)

  pub current_here : same v.zone.apex a ≡ true → current a (v ∷ vs) ≡ Some v.zone
  unfolding current
  current_here e = cond-true (same v.zone.apex a) (Some v.zone) (current a vs) e

  pub current_other : same v.zone.apex a ≡ false → current a (v ∷ vs) ≡ current a vs
  unfolding current
  current_other e = cond-false (same v.zone.apex a) (Some v.zone) (current a vs) e

  -- a zone in force is the head's, up to the end, or one before it, up to the head's moment; or the head is another apex's
  pub data Forced (end m : ℕ) (z : Zone) : Type 0 where
    newest : same v.zone.apex a ≡ true → m ≤ end → z ≡ v.zone → Forced end m z
    earlier : same v.zone.apex a ≡ true → Memᴰ z (in_force v.moment m a vs) → Forced end m z
    of_others : same v.zone.apex a ≡ false → Memᴰ z (in_force end m a vs) → Forced end m z

  pub forced : (end m : ℕ) (z : Zone) → Memᴰ z (in_force end m a (v ∷ vs)) → Forced end m z
  forced end m z h = go (same v.zone.apex a) refl (leb m end) refl
    where
      go : (b : Bool) → same v.zone.apex a ≡ b → (c : Bool) → leb m end ≡ c → Forced end m z
      go false e c f = of_others e (subst (Memᴰ z) (force_other end m e) h)
      go true e true f =
          ⊎_elim (λ z-is. newest e (leb-true m end f) z-is) (λ n. earlier e n)
          (Memᴰ.cases_cons (subst (Memᴰ z) (force_here end m e (leb-true m end f)) h))
      go true e false f = earlier e (subst (Memᴰ z) (force_late end m e (leb-false m end f)) h)

  pub unforced : (end m : ℕ) (z : Zone) → Forced end m z → Memᴰ z (in_force end m a (v ∷ vs))
  unforced end m z (newest e l z-is) = subst (Memᴰ z) (sym (force_here end m e l)) (Memᴰ.head z-is)
  unforced end m z (of_others e h) = subst (Memᴰ z) (sym (force_other end m e)) h
  unforced end m z (earlier e h) = go (leb m end) refl
    where
      go : (c : Bool) → leb m end ≡ c → Memᴰ z (in_force end m a (v ∷ vs))
      go true f = subst (Memᴰ z) (sym (force_here end m e (leb-true m end f))) (Memᴰ.tail h)
      go false f = subst (Memᴰ z) (sym (force_late end m e (leb-false m end f))) h

pub none_forced : (a : Name) (end m : ℕ) (z : Zone) → Memᴰ z (in_force end m a []) → ⊥
unfolding in_force
none_forced a end m z h = Memᴰ.not-nil h

-- ---- it only grows weaker

-- with time, and from an earlier moment on
pub force_later : (a : Name) (vs : List Version) (end end' m m' : ℕ) (z : Zone) → end ≤ end' → m' ≤ m → Memᴰ z (in_force end m a vs) → Memᴰ z (in_force end' m' a vs)
force_later a [] end end' m m' z l k h = absurd (none_forced a end m z h)
force_later a (v ∷ vs) end end' m m' z l k h = go (forced a v vs end m z h) (λ e e' l' h'. force_later a vs e e' m m' z l' k h')
  where
    go : Forced a v vs end m z → ((e e' : ℕ) → e ≤ e' → Memᴰ z (in_force e m a vs) → Memᴰ z (in_force e' m' a vs)) → Memᴰ z (in_force end' m' a (v ∷ vs))
    go (newest e f z-is) ih = unforced a v vs end' m' z (newest e (omega arith) z-is)
    go (earlier e f) ih = unforced a v vs end' m' z (earlier e (ih v.moment v.moment (omega arith) f))
    go (of_others e f) ih = unforced a v vs end' m' z (of_others e (ih end end' l f))

-- when an owner publishes
pub force_more : (a : Name) (v : Version) (vs : List Version) (m : ℕ) (z : Zone) → Memᴰ z (in_force v.moment m a vs) → Memᴰ z (in_force v.moment m a (v ∷ vs))
force_more a v vs m z h = go (same v.zone.apex a) refl
  where
    go : (b : Bool) → same v.zone.apex a ≡ b → Memᴰ z (in_force v.moment m a (v ∷ vs))
    go true e = unforced a v vs v.moment m z (earlier e h)
    go false e = unforced a v vs v.moment m z (of_others e h)

-- what an owner says now is in force
pub force_now : (a : Name) (vs : List Version) (end m : ℕ) (z : Zone) → current a vs ≡ Some z → m ≤ end → Memᴰ z (in_force end m a vs)
unfolding current
force_now a [] end m z e l = let w : ◌≡◌ {A = ℕ} 0 1 = cc in absurd (omega arith)
force_now a (v ∷ vs) end m z e l = go (same v.zone.apex a) refl (force_now a vs end m z)
  where
    some_is : (x y : Zone) → Some x ≡ Some y → y ≡ x
    some_is x y h = cc

    go : (b : Bool) → same v.zone.apex a ≡ b → (current a vs ≡ Some z → m ≤ end → Memᴰ z (in_force end m a vs)) → Memᴰ z (in_force end m a (v ∷ vs))
    go true f ih = unforced a v vs end m z (newest f l (some_is v.zone z (sym (current_here a v vs f) ∙ e)))
    go false f ih = unforced a v vs end m z (of_others f (ih (sym (current_other a v vs f) ∙ e) l))

-- ---- what a zone in force is

pub force_apex : (a : Name) (vs : List Version) (end m : ℕ) (z : Zone) → Memᴰ z (in_force end m a vs) → z.apex ≡ a
force_apex a [] end m z h = absurd (none_forced a end m z h)
force_apex a (v ∷ vs) end m z h = go (forced a v vs end m z h) (λ e h'. force_apex a vs e m z h')
  where
    go : Forced a v vs end m z → ((e : ℕ) → Memᴰ z (in_force e m a vs) → z.apex ≡ a) → z.apex ≡ a
    go (newest e f z-is) ih = ap (λ (y : Zone). y.apex) z-is ∙ same_so v.zone.apex a e
    go (earlier e f) ih = ih v.moment f
    go (of_others e f) ih = ih end f

pub current_apex : (a : Name) (vs : List Version) (z : Zone) → current a vs ≡ Some z → z.apex ≡ a
current_apex a vs z e = force_apex a vs 0 0 z (force_now a vs 0 0 z e (omega arith))

higher_left : (x y : ℕ) → x ≤ higher x y
higher_left x y = cond_both (ltb x y) y x (λ n. x ≤ n) (λ e. let l = ltb-true x y e in omega arith) (λ e. omega arith)

higher_right : (x y : ℕ) → y ≤ higher x y
higher_right x y = cond_both (ltb x y) y x (λ n. y ≤ n) (λ e. omega arith) (λ e. ltb-false x y e)

pub longest_more : (v : Version) (vs : List Version) → longest vs ≤ longest (v ∷ vs)
unfolding longest
longest_more v vs = higher_right v.zone.expire (longest vs)

longest_head : (v : Version) (vs : List Version) → v.zone.expire ≤ longest (v ∷ vs)
unfolding longest
longest_head v vs = higher_left v.zone.expire (longest vs)

pub force_longest : (a : Name) (vs : List Version) (end m : ℕ) (z : Zone) → Memᴰ z (in_force end m a vs) → z.expire ≤ longest vs
force_longest a [] end m z h = absurd (none_forced a end m z h)
force_longest a (v ∷ vs) end m z h = go (forced a v vs end m z h) (λ e h'. force_longest a vs e m z h')
  where
    more : z.expire ≤ longest vs → z.expire ≤ longest (v ∷ vs)
    more l = let k = longest_more v vs in omega arith

    go : Forced a v vs end m z → ((e : ℕ) → Memᴰ z (in_force e m a vs) → z.expire ≤ longest vs) → z.expire ≤ longest (v ∷ vs)
    go (newest e f z-is) ih = let x = ap (λ (y : Zone). y.expire) z-is in let l = longest_head v vs in omega arith
    go (earlier e f) ih = more (ih v.moment f)
    go (of_others e f) ih = more (ih end f)

-- ---- what was superseded long ago is in force no more

module _ (now age m : ℕ) (a : Name) (z : Zone) (young : now ≤ m + (age + z.expire)) where
  gone : (vs : List Version) (end : ℕ) → run_out now age a end vs ≡ true → Memᴰ z (in_force end m a vs) → ⊥
  unfolding run_out
  gone [] end o h = none_forced a end m z h
  gone (v ∷ vs) end o h = go (forced a v vs end m z h) (gone vs)
    where
      parts : same v.zone.apex a ≡ true → (ltb (end + (age + v.zone.expire)) now ≡ true) × (run_out now age a v.moment vs ≡ true)
      parts e =
          and_parts (ltb (end + (age + v.zone.expire)) now) (run_out now age a v.moment vs)
          (sym (cond-true (same v.zone.apex a) (ltb (end + (age + v.zone.expire)) now && run_out now age a v.moment vs) (run_out now age a end vs) e) ∙ o)

      go : Forced a v vs end m z → ((e : ℕ) → run_out now age a e vs ≡ true → Memᴰ z (in_force e m a vs) → ⊥) → ⊥
      go (newest e l z-is) ih =
          let p = ltb-true (end + (age + v.zone.expire)) now (parts e).0 in
          let x = ap (λ (y : Zone). y.expire) z-is in
          omega arith
      go (earlier e f) ih = ih v.moment (parts e).1 f
      go (of_others e f) ih = ih end (sym (cond-false (same v.zone.apex a) (ltb (end + (age + v.zone.expire)) now && run_out now age a v.moment vs) (run_out now age a end vs) e) ∙ o) f

  -- so what is in force is what the owner says now
  pub still_current : (vs : List Version) (end : ℕ) → others_run_out now age a vs ≡ true → Memᴰ z (in_force end m a vs) → current a vs ≡ Some z
  unfolding others_run_out
  still_current [] end o h = absurd (none_forced a end m z h)
  still_current (v ∷ vs) end o h = go (forced a v vs end m z h) (still_current vs end)
    where
      go : Forced a v vs end m z → (others_run_out now age a vs ≡ true → Memᴰ z (in_force end m a vs) → current a vs ≡ Some z) → current a (v ∷ vs) ≡ Some z
      go (newest e l z-is) ih = current_here a v vs e ∙ ap Some (sym z-is)
      go (earlier e f) ih = absurd (gone vs v.moment (sym (cond-true (same v.zone.apex a) (run_out now age a v.moment vs) (others_run_out now age a vs) e) ∙ o) f)
      go (of_others e f) ih = current_other a v vs e ∙ ih (sym (cond-false (same v.zone.apex a) (run_out now age a v.moment vs) (others_run_out now age a vs) e) ∙ o) f

-- ---- owners at rest

module _ (now age most : ℕ) (a : Name) where
  rest_runs_out : (vs : List Version) (end : ℕ) → longest vs ≤ most → end + (age + most) < now → rested vs now (age + most) ≡ true → run_out now age a end vs ≡ true
  unfolding run_out rested
  rest_runs_out [] end k l o = refl
  rest_runs_out (v ∷ vs) end k l o = go (same v.zone.apex a) refl (rest_runs_out vs)
    where
      p : (ltb (v.moment + (age + most)) now ≡ true) × (rested vs now (age + most) ≡ true)
      p = and_parts (ltb (v.moment + (age + most)) now) (rested vs now (age + most)) o

      fewer : longest vs ≤ most
      fewer = let x = longest_more v vs in omega arith

      go : (b : Bool) → same v.zone.apex a ≡ b → ((end : ℕ) → longest vs ≤ most → end + (age + most) < now → rested vs now (age + most) ≡ true → run_out now age a end vs ≡ true) → cond (same v.zone.apex a) (ltb (end + (age + v.zone.expire)) now && run_out now age a v.moment vs) (run_out now age a end vs) ≡ true
      go true e ih =
          let x = longest_head v vs in
          let q = ltb-true (v.moment + (age + most)) now p.0 in
          cond-true (same v.zone.apex a) (ltb (end + (age + v.zone.expire)) now && run_out now age a v.moment vs) (run_out now age a end vs) e
          ∙ and_from (ltb (end + (age + v.zone.expire)) now) (run_out now age a v.moment vs) (lt-ltb (end + (age + v.zone.expire)) now (omega arith)) (ih v.moment fewer q p.1)
      go false e ih =
          cond-false (same v.zone.apex a) (ltb (end + (age + v.zone.expire)) now && run_out now age a v.moment vs) (run_out now age a end vs) e
          ∙ ih end fewer l p.1

  pub others_run_out_lem : (vs : List Version) → longest vs ≤ most → rested vs now (age + most) ≡ true → others_run_out now age a vs ≡ true
  unfolding others_run_out rested
  others_run_out_lem [] k o = refl
  others_run_out_lem (v ∷ vs) k o = go (same v.zone.apex a) refl (others_run_out_lem vs)
    where
      p : (ltb (v.moment + (age + most)) now ≡ true) × (rested vs now (age + most) ≡ true)
      p = and_parts (ltb (v.moment + (age + most)) now) (rested vs now (age + most)) o

      fewer : longest vs ≤ most
      fewer = let x = longest_more v vs in omega arith

      go : (b : Bool) → same v.zone.apex a ≡ b → (longest vs ≤ most → rested vs now (age + most) ≡ true → others_run_out now age a vs ≡ true) → cond (same v.zone.apex a) (run_out now age a v.moment vs) (others_run_out now age a vs) ≡ true
      go true e ih =
          cond-true (same v.zone.apex a) (run_out now age a v.moment vs) (others_run_out now age a vs) e
          ∙ rest_runs_out vs v.moment fewer (ltb-true (v.moment + (age + most)) now p.0) p.1
      go false e ih = cond-false (same v.zone.apex a) (run_out now age a v.moment vs) (others_run_out now age a vs) e ∙ ih fewer p.1
