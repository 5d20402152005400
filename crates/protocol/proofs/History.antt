-- Tests over the history mean what the run says; and serials name versions.
use Rattle.std.proofs.Common.{◌≡◌, ℕ, ◌+◌, ◌<◌, ◌≤◌, Bool, true, false, ◌⊎◌, List, [], ◌∷◌, ◌++◌, Some, sym, refl, ap, ◌∙◌, subst, inl, inr, ⊎_elim, arith}
use mathlib.Core.List.Memᴰ
use mathlib.Core.List.{Memᴰ}
use Rattle.std.proofs.lemmas.Bool.{ltb-true}
use Rattle.meaning.specs.Model.{Zone}
use Rattle.meaning.specs.Says.{same}
use Rattle.meaning.proofs.Rules.{same_so, so_same}
use Rattle.protocol.specs.Words.{Name}
use Rattle.protocol.specs.World.{Rules, Version, World, Event, current, rises, step, world}
use Rattle.protocol.specs.History.{in_force, OwnedSince}
use Rattle.protocol.specs.Promise.{HistoryTrue, OneVersion}
use Rattle.protocol.proofs.Force.{Forced, newest, earlier, of_others, forced, unforced, force_later, force_more, force_now, current_here, current_other}
use Rattle.protocol.proofs.Steps.{Moved, stays, ticks, adds, moved}

-- ---- one event back

-- what is in force up to a later end was so up to the earlier, or is what the owner says
force_tick_back : (a : Name) (vs : List Version) (end m : ℕ) (z : Zone) → Memᴰ z (in_force (end + 1) m a vs) → Memᴰ z (in_force end m a vs) ⊎ ((current a vs ≡ Some z) × (m ≤ end + 1))
unfolding in_force
force_tick_back a [] end m z h = absurd (Memᴰ.not-nil h)
force_tick_back a (v ∷ vs) end m z h = go (forced a v vs (end + 1) m z h) (force_tick_back a vs end m z)
  where
    go : Forced a v vs (end + 1) m z → (Memᴰ z (in_force (end + 1) m a vs) → Memᴰ z (in_force end m a vs) ⊎ ((current a vs ≡ Some z) × (m ≤ end + 1))) → Memᴰ z (in_force end m a (v ∷ vs)) ⊎ ((current a (v ∷ vs) ≡ Some z) × (m ≤ end + 1))
    go (newest e l z-is) ih = inr (current_here a v vs e ∙ ap Some (sym z-is), l)
    go (earlier e f) ih = inl (unforced a v vs end m z (earlier e f))
    go (of_others e f) ih = ⊎_elim (λ g. inl (unforced a v vs end m z (of_others e g))) (λ p. inr (current_other a v vs e ∙ p.0, p.1)) (ih f)

force_add_back : (a : Name) (v : Version) (vs : List Version) (m : ℕ) (z : Zone) → Memᴰ z (in_force v.moment m a (v ∷ vs)) → Memᴰ z (in_force v.moment m a vs) ⊎ ((current a (v ∷ vs) ≡ Some z) × (m ≤ v.moment))
force_add_back a v vs m z h = go (forced a v vs v.moment m z h)
  where
    go : Forced a v vs v.moment m z → Memᴰ z (in_force v.moment m a vs) ⊎ ((current a (v ∷ vs) ≡ Some z) × (m ≤ v.moment))
    go (newest e l z-is) = inr (current_here a v vs e ∙ ap Some (sym z-is), l)
    go (earlier e f) = inl f
    go (of_others e f) = inl f

abbrev InForceAt : World → ℕ → Name → Zone → Type 0
InForceAt w m a z = Memᴰ z (in_force w.now m a w.published)

abbrev Owns : World → ℕ → Name → Zone → Type 0
Owns w m a z = (m ≤ w.now) × (current a w.published ≡ Some z)

one_back : (w v : World) (m : ℕ) (a : Name) (z : Zone) → Moved w v → InForceAt v m a z → InForceAt w m a z ⊎ Owns v m a z
one_back w v m a z (stays n p) h = inl (subst (λ vs. Memᴰ z (in_force w.now m a vs)) p (subst (λ x. Memᴰ z (in_force x m a v.published)) n h))
one_back w v m a z (ticks n p) h =
    ⊎_elim (λ f. inl f) (λ q. inr (subst (λ x. m ≤ x) (sym n) q.1, ap (current a) p ∙ q.0))
    (force_tick_back a w.published w.now m z (subst (λ vs. Memᴰ z (in_force (w.now + 1) m a vs)) p (subst (λ x. Memᴰ z (in_force x m a v.published)) n h)))
one_back w v m a z (adds y n p up) h =
    ⊎_elim (λ f. inl f) (λ q. inr (subst (λ x. m ≤ x) (sym n) q.1, ap (current a) p ∙ q.0))
    (force_add_back a (record { moment = w.now; zone = y }) w.published m z (subst (λ vs. Memᴰ z (in_force w.now m a vs)) p (subst (λ x. Memᴰ z (in_force x m a v.published)) n h)))

one_on : (w v : World) (m : ℕ) (a : Name) (z : Zone) → Moved w v → InForceAt w m a z → InForceAt v m a z
one_on w v m a z (stays n p) h = subst (λ x. Memᴰ z (in_force x m a v.published)) (sym n) (subst (λ vs. Memᴰ z (in_force w.now m a vs)) (sym p) h)
one_on w v m a z (ticks n p) h =
    subst (λ x. Memᴰ z (in_force x m a v.published)) (sym n) (subst (λ vs. Memᴰ z (in_force (w.now + 1) m a vs)) (sym p) (force_later a w.published w.now (w.now + 1) m m z (omega arith) (omega arith) h))
one_on w v m a z (adds y n p up) h =
    subst (λ x. Memᴰ z (in_force x m a v.published)) (sym n) (subst (λ vs. Memᴰ z (in_force w.now m a vs)) (sym p) (force_more a (record { moment = w.now; zone = y }) w.published m z h))

-- ---- the whole run

back : (r : Rules) (es : List Event) (m : ℕ) (a : Name) (z : Zone) → InForceAt (world r es) m a z → OwnedSince r es m a z
unfolding world in_force
back r [] m a z h = absurd (Memᴰ.not-nil h)
back r (e ∷ es) m a z h = go (back r es m a z) (one_back (world r es) (step r e (world r es)) m a z (moved (world r es) r e) h)
  where
    go : (InForceAt (world r es) m a z → OwnedSince r es m a z) → InForceAt (world r es) m a z ⊎ Owns (step r e (world r es)) m a z → OwnedSince r (e ∷ es) m a z
    go ih (inl f) = let p = ih f in (e ∷ p.0, p.1, ap (λ xs. e ∷ xs) p.2, p.3, p.4)
    go ih (inr o) = ([], e ∷ es, refl, o.0, o.1)

forth_by : (r : Rules) (later before : List Event) (m : ℕ) (a : Name) (z : Zone) → Owns (world r before) m a z → InForceAt (world r (later ++ before)) m a z
unfolding world
forth_by r [] before m a z o = force_now a (world r before).published (world r before).now m z o.1 o.0
forth_by r (e ∷ later) before m a z o = one_on (world r (later ++ before)) (step r e (world r (later ++ before))) m a z (moved (world r (later ++ before)) r e) (forth_by r later before m a z o)

forth : (r : Rules) (es : List Event) (m : ℕ) (a : Name) (z : Zone) → OwnedSince r es m a z → InForceAt (world r es) m a z
forth r es m a z p = subst (λ xs. InForceAt (world r xs) m a z) (sym p.2) (forth_by r p.0 p.1 m a z (p.3, p.4))

pub history_true : HistoryTrue
history_true r es m a z = (back r es m a z, forth r es m a z)

-- ---- serials

-- every version of an apex has a serial up to that of what its owner says now, and those of one serial are one
record Numbered (vs : List Version) : Type 0 where
  up_to : (v : Version) → Memᴰ v vs → (z : Zone) × (current v.zone.apex vs ≡ Some z) × (v.zone.serial ≤ z.serial)
  once : (u v : Version) → Memᴰ u vs → Memᴰ v vs → u.zone.apex ≡ v.zone.apex → u.zone.serial ≡ v.zone.serial → u ≡ v

number_more : (v : Version) (vs : List Version) → rises v.zone (current v.zone.apex vs) ≡ true → Numbered vs → Numbered (v ∷ vs)
number_more v vs up n =
    record {
      up_to = λ u h. ⊎_elim (at_head u) (further u) (Memᴰ.cases_cons h);
      once = λ s u h k a e. ⊎_elim
          (λ (x : s ≡ v). ⊎_elim (λ (y : u ≡ v). x ∙ sym y) (λ m. absurd (not_again u m (sym (ap (λ (t : Version). t.zone.apex) x) ∙ a) (sym (ap (λ (t : Version). t.zone.serial) x) ∙ e))) (Memᴰ.cases_cons k))
          (λ m. ⊎_elim (λ (y : u ≡ v). absurd (not_again s m (sym (a ∙ ap (λ (t : Version). t.zone.apex) y)) (sym (e ∙ ap (λ (t : Version). t.zone.serial) y)))) (λ l. n.once s u m l a e) (Memᴰ.cases_cons k))
          (Memᴰ.cases_cons h);
    }
  where
    above : (u : Version) → Memᴰ u vs → v.zone.apex ≡ u.zone.apex → u.zone.serial < v.zone.serial
    above u m e =
        let c = n.up_to u m in
        let r : rises v.zone (Some c.0) ≡ true = subst (λ o. rises v.zone o ≡ true) (ap (λ x. current x vs) e ∙ c.1) up in
        let l = ltb-true c.0.serial v.zone.serial r in
        let k = c.2 in
        omega arith

    not_again : (u : Version) → Memᴰ u vs → v.zone.apex ≡ u.zone.apex → v.zone.serial ≡ u.zone.serial → ⊥
    not_again u m e s = let l = above u m e in omega arith

    at_head : (u : Version) → u ≡ v → (z : Zone) × (current u.zone.apex (v ∷ vs) ≡ Some z) × (u.zone.serial ≤ z.serial)
    at_head u e =
        let s = ap (λ (t : Version). t.zone.serial) e in
        (v.zone, current_here u.zone.apex v vs (so_same v.zone.apex u.zone.apex (sym (ap (λ (t : Version). t.zone.apex) e))), omega arith)

    further : (u : Version) → Memᴰ u vs → (z : Zone) × (current u.zone.apex (v ∷ vs) ≡ Some z) × (u.zone.serial ≤ z.serial)
    further u m = go (same v.zone.apex u.zone.apex) refl
      where
        go : (b : Bool) → same v.zone.apex u.zone.apex ≡ b → (z : Zone) × (current u.zone.apex (v ∷ vs) ≡ Some z) × (u.zone.serial ≤ z.serial)
        go true e = let l = above u m (same_so v.zone.apex u.zone.apex e) in (v.zone, current_here u.zone.apex v vs e, omega arith)
        go false e = let c = n.up_to u m in (c.0, current_other u.zone.apex v vs e ∙ c.1, c.2)

number_moved : (w v : World) → Moved w v → Numbered w.published → Numbered v.published
number_moved w v (stays n p) h = subst Numbered (sym p) h
number_moved w v (ticks n p) h = subst Numbered (sym p) h
number_moved w v (adds z n p up) h = subst Numbered (sym p) (number_more (record { moment = w.now; zone = z }) w.published up h)

numbered : (r : Rules) (es : List Event) → Numbered (world r es).published
unfolding world
numbered r [] = record { up_to = λ v h. absurd (Memᴰ.not-nil h); once = λ u v h k a e. absurd (Memᴰ.not-nil h) }
numbered r (e ∷ es) = number_moved (world r es) (step r e (world r es)) (moved (world r es) r e) (numbered r es)

pub one_version : OneVersion
one_version r es u v = (numbered r es).once u v
