-- What hearing and asking do, and what they leave.
use Rattle.std.proofs.Common.{◌≡◌, ℕ, ◌+◌, ◌≤◌, Bool, true, false, not, ◌&&◌, eqb, leb, ◌⊎◌, List, [], ◌∷◌, length, Some, None, Option, sym, refl, ap, ◌∙◌, subst, inl, inr, arith}
use mathlib.Core.List.{Memᴰ}
use Rattle.std.proofs.lemmas.Bool.{cond-true, cond-false, and_parts, not-true, leb-true, eqb-true, eqb-false}
use Rattle.names.specs.Order.{same_label, within}
use Rattle.names.proofs.Within.{same_label_lem}
use Rattle.meaning.specs.Model.{Delegation}
use Rattle.meaning.specs.Says.{same}
use Rattle.meaning.specs.Speech.{Said, Found, AliasTo, Referred, Empty, Absent}
use Rattle.meaning.proofs.Rules.{same_so}
use Rattle.protocol.specs.Words.{Name, Server}
use Rattle.protocol.specs.World.{Rules, Query, Response, Entry, World, Tick, Asks, Hears, with_query, is_server, drawn, counts, names_server, knows, may_ask, may_draw, matches, matching, hear, query_for, step}
use Rattle.protocol.specs.Promise.{HearLaws, NamedServer, AskLaw}
use Rattle.protocol.proofs.Lists.{first_some, kept_in, any_some}

unmatched : (r : Rules) (w : World) (x : Response) → ((q : Query) → Memᴰ q w.pending → q.id ≡ x.id → q.apex ≡ x.apex → ⊥) → step r (Hears x) w ≡ w
unmatched r w x none = go (matching x w.pending) refl
  where
    go : (o : Option Query) → matching x w.pending ≡ o → hear x o w ≡ w
    go None e = refl
    go (Some q) e =
        let f = first_some (matches x) w.pending q e in
        let p = and_parts (eqb q.id x.id) (same q.apex x.apex) f.1 in
        absurd (none q f.0 (eqb-true q.id x.id p.0) (same_so q.apex x.apex p.1))

closes : (r : Rules) (w : World) (x : Response) → (step r (Hears x) w ≡ w) ⊎ ((q : Query) → Memᴰ q (step r (Hears x) w).pending → q.id ≡ x.id → ⊥)
closes r w x = go (matching x w.pending) refl
  where
    go : (o : Option Query) → matching x w.pending ≡ o → (hear x o w ≡ w) ⊎ ((q : Query) → Memᴰ q (hear x o w).pending → q.id ≡ x.id → ⊥)
    go None e = inl refl
    go (Some p) e =
        let f = first_some (matches x) w.pending p e in
        let i = eqb-true p.id x.id (and_parts (eqb p.id x.id) (same p.apex x.apex) f.1).0 in
        inr (λ q m s. eqb-false q.id p.id (not-true (eqb q.id p.id) (kept_in (λ (y : Query). not (eqb y.id p.id)) w.pending q m).1) (s ∙ sym i))

expires : (r : Rules) (w : World) (q : Query) → Memᴰ q (step r Tick w).pending → w.now + 1 ≤ q.asked + r.patience
expires r w q m = leb-true (w.now + 1) (q.asked + r.patience) (kept_in (λ (p : Query). leb (w.now + 1) (p.asked + r.patience)) w.pending q m).1

pub hear_laws : HearLaws
hear_laws = record { unmatched = unmatched; closes = closes; expires = expires }

-- ---- who is asked

in_servers : (s : Server) (ss : List Server) → is_server s ss ≡ true → Memᴰ s ss
in_servers s ss h = let p = any_some (λ t. same_label t s) ss h in subst (λ t. Memᴰ t ss) (same_label_lem p.0 s p.2) p.1

by_referral : (a : Name) (s : Server) (x : Said) → names_server a s x ≡ true → (d : Delegation) × (x ≡ Referred a d) × Memᴰ s d.servers
by_referral a s (Referred n d) h =
    let p = and_parts (same n a) (is_server s d.servers) h in
    (d, ap (λ m. Referred m d) (same_so n a p.0), in_servers s d.servers p.1)
by_referral a s (Found c) h = absurd (false_true h)
  where
    false_true : false ≡ true → ⊥
    false_true e = let w : ◌≡◌ {A = ℕ} 0 1 = cc in omega arith
by_referral a s (AliasTo n) h = let w : ◌≡◌ {A = ℕ} 0 1 = cc in absurd (omega arith)
by_referral a s Empty h = let w : ◌≡◌ {A = ℕ} 0 1 = cc in absurd (omega arith)
by_referral a s Absent h = let w : ◌≡◌ {A = ℕ} 0 1 = cc in absurd (omega arith)

is_root : (a : Name) → length a ≡ 0 → a ≡ []
is_root [] e = refl
is_root (l ∷ ls) e = absurd (omega arith)

named : (r : Rules) (w : World) (a : Name) (s : Server) → may_ask r w.now w.cache a s ≡ true → NamedServer r w a s
named r w a s h = record { named = go (eqb (length a) 0) refl }
  where
    go : (b : Bool) → eqb (length a) 0 ≡ b → ((a ≡ []) × Memᴰ s r.roots) ⊎ ((e : Entry) × (d : Delegation) × Memᴰ e w.cache × (counts r w.now e ≡ true) × (e.word.said ≡ Referred a d) × Memᴰ s d.servers)
    go true e = inl (is_root a (eqb-true (length a) 0 e), in_servers s r.roots (sym (cond-true (eqb (length a) 0) (is_server s r.roots) (knows r w.now a s w.cache) e) ∙ h))
    go false e =
        let k = any_some (λ x. counts r w.now x && names_server a s x.word.said) w.cache (sym (cond-false (eqb (length a) 0) (is_server s r.roots) (knows r w.now a s w.cache) e) ∙ h) in
        let p = and_parts (counts r w.now k.0) (names_server a s k.0.word.said) k.2 in
        let d = by_referral a s k.0.word.said p.1 in
        inr (k.0, d.0, k.1, p.0, d.1, d.2)

pub ask_law : AskLaw
ask_law r w n s a q k = go (may_draw n w && may_ask r w.now w.cache a s && within a q) refl
  where
    go : (b : Bool) → (may_draw n w && may_ask r w.now w.cache a s && within a q) ≡ b → (step r (Asks n s a q k) w ≡ w) ⊎ ((step r (Asks n s a q k) w ≡ with_query (query_for n s a q k w.now) w) × NamedServer r w a s × (within a q ≡ true) × (drawn n w.sent ≡ false))
    go false e = inl (cond-false (may_draw n w && may_ask r w.now w.cache a s && within a q) (with_query (query_for n s a q k w.now) w) w e)
    go true e =
        let p = and_parts (may_draw n w && may_ask r w.now w.cache a s) (within a q) e in
        let d = and_parts (may_draw n w) (may_ask r w.now w.cache a s) p.0 in
        inr (cond-true (may_draw n w && may_ask r w.now w.cache a s && within a q) (with_query (query_for n s a q k w.now) w) w e, named r w a s d.1, p.1, not-true (drawn n w.sent) d.0)
