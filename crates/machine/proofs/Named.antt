-- Where a walk lacks a word, its servers are those that are named for the zone, and the name is within it.
use Rattle.std.proofs.Common.{◌≡◌, ℕ, zero, suc, ◌<◌, true, List, [], length, Some, None, Option, sym, refl, ap, ◌∙◌, subst, arith}
use mathlib.Core.List.{Memᴰ}
use Rattle.names.specs.Order.{within}
use Rattle.names.proofs.Within.{within_laws}
use Rattle.meaning.specs.Model.{Delegation}
use Rattle.meaning.specs.Speech.{Said, Found, AliasTo, Referred, Empty, Absent}
use Rattle.protocol.specs.Words.{Name, Server, Outcome, Ends, Goes, next}
use Rattle.protocol.specs.World.{Rules, Entry, World, counts, may_ask}
use Rattle.protocol.specs.Walks.{Shows, LacksAt, TooLong, Walk, walk, remembered, entry_said, shown}
use Rattle.protocol.proofs.Inv.{Inv}
use Rattle.protocol.proofs.Settled.{held}
use Rattle.protocol.proofs.Walks.{walk_lacks, walk_ends, walk_goes, walk_none}
use Rattle.protocol.proofs.Words.{word_laws}
use Rattle.protocol.proofs.Live.{may_ask_root, may_ask_referred}
use Rattle.machine.specs.Machine.{servers_by, servers_after, servers_on}

-- the servers of a zone, with the referral that names them
pub data ServersOf (r : Rules) (w : World) (a : Name) (ss : List Server) : Type 0 where
  of_root : a ≡ [] → ss ≡ r.roots → ServersOf r w a ss
  of_referral : (e : Entry) (d : Delegation) → Memᴰ e w.cache → counts r w.now e ≡ true → e.word.said ≡ Referred a d → 0 < length a → ss ≡ d.servers → ServersOf r w a ss

shows_lacks : (o : Outcome) (a p : Name) → Shows o ≡ LacksAt a p → ⊥
shows_lacks o a p e = let w : ◌≡◌ {A = ℕ} 0 1 = cc in omega arith

long_lacks : (a p : Name) → TooLong ≡ LacksAt a p → ⊥
long_lacks a p e = let w : ◌≡◌ {A = ℕ} 0 1 = cc in omega arith

lacks_apex : (a b p q : Name) → LacksAt a p ≡ LacksAt b q → a ≡ b
lacks_apex a b p q e = cc

lacks_name : (a b p q : Name) → LacksAt a p ≡ LacksAt b q → p ≡ q
lacks_name a b p q e = cc

module _ (r : Rules) (w : World) (i : Inv r w) (k : ℕ) where
  abbrev source : Name → Name → Option Entry
  source = remembered r w.now w.cache k

  -- a referral in the cache leads down, towards its name
  leads : (a q : Name) (e : Entry) (n : Name) (d : Delegation) → source a q ≡ Some e → e.word.said ≡ Referred n d → (0 < length n) × (within n q ≡ true)
  leads a q e n d h s =
      let g = held r w.now w.cache k a q e h in
      let t = i.entry e g.there in
      let x = word_laws.down t.zone e.name e.kind e.word n d t.tells_so s in
      let l = x.0 in
      (omega arith, subst (λ m. within n m ≡ true) g.name_is x.1)

  abbrev LacksWith : ℕ → Name → Name → List Server → Name → Name → Type 0
  LacksWith n a q ss c p = (walk entry_said n source a q).end ≡ LacksAt c p → ServersOf r w a ss → within a q ≡ true → ServersOf r w c (servers_after r.roots ss (walk entry_said n source a q).words) × (within c p ≡ true)

  named_on : (n : ℕ) (a q : Name) (ss : List Server) (c p : Name) → LacksWith n a q ss c p
  unfolding next servers_after
  named_on zero a q ss c p e s h = absurd (long_lacks c p (sym (ap (λ (x : Walk Entry). x.end) (walk_none entry_said source a q)) ∙ e))
  named_on (suc n) a q ss c p e s h = go (λ b x ts. named_on n b x ts c p) (source a q) refl
    where
      Goal : Type 0
      Goal = ServersOf r w c (servers_after r.roots ss (walk entry_said (suc n) source a q).words) × (within c p ≡ true)

      ends : (f : Entry) (o : Outcome) → source a q ≡ Some f → next (entry_said f) q ≡ Ends o → Goal
      ends f o g d = absurd (shows_lacks o c p (sym (ap (λ (x : Walk Entry). x.end) (walk_ends entry_said n source a q f o g d)) ∙ e))

      goes : ((b x : Name) (ts : List Server) → LacksWith n b x ts c p) → (f : Entry) (b x : Name) → source a q ≡ Some f → next (entry_said f) q ≡ Goes b x → ServersOf r w b (servers_by r.roots (entry_said f)) → within b x ≡ true → Goal
      goes ih f b x g d s' h' =
          let y = walk_goes entry_said n source a q f b x g d in
          subst (λ (z : Walk Entry). ServersOf r w c (servers_after r.roots ss z.words) × (within c p ≡ true)) (sym y)
          (ih b x (servers_by r.roots (entry_said f)) (sym (ap (λ (z : Walk Entry). z.end) y) ∙ e) s' h')

      by : ((b x : Name) (ts : List Server) → LacksWith n b x ts c p) → (f : Entry) → source a q ≡ Some f → (t : Said) → entry_said f ≡ t → Goal
      by ih f g (Found x) d = ends f _ g (ap (λ t. next t q) d)
      by ih f g Empty d = ends f _ g (ap (λ t. next t q) d)
      by ih f g Absent d = ends f _ g (ap (λ t. next t q) d)
      by ih f g (AliasTo x) d = goes ih f [] x g (ap (λ t. next t q) d) (of_root refl (ap (servers_by r.roots) d)) (within_laws.extends [] x)
      by ih f g (Referred b to) d =
          let x = leads a q f b to g d in
          let y = held r w.now w.cache k a q f g in
          goes ih f b q g (ap (λ t. next t q) d) (of_referral f to y.there y.counting d x.0 (ap (servers_by r.roots) d)) x.1

      go : ((b x : Name) (ts : List Server) → LacksWith n b x ts c p) → (o : Option Entry) → source a q ≡ o → Goal
      go ih (Some f) g = by ih f g (entry_said f) refl
      go ih None g =
          let y = walk_lacks entry_said n source a q g in
          let z = sym (ap (λ (x : Walk Entry). x.end) y) ∙ e in
          subst (λ (u : Walk Entry). ServersOf r w c (servers_after r.roots ss u.words) × (within c p ≡ true)) (sym y)
          (subst (λ b. ServersOf r w b ss) (lacks_apex a c q p z) s, subst (λ x. within c x ≡ true) (lacks_name a c q p z) (subst (λ b. within b q ≡ true) (lacks_apex a c q p z) h))

  -- what the walk of a question lacks
  pub named_at : (q c p : Name) → (shown r w q k).end ≡ LacksAt c p → ServersOf r w c (servers_on r (shown r w q k).words) × (within c p ≡ true)
  named_at q c p e = named_on 24 [] q r.roots c p e (of_root refl refl) (within_laws.extends [] q)

  pub may_ask_lem : (c : Name) (ss : List Server) (s : Server) → ServersOf r w c ss → Memᴰ s ss → may_ask r w.now w.cache c s ≡ true
  may_ask_lem c ss s (of_root e f) m = subst (λ b. may_ask r w.now w.cache b s ≡ true) (sym e) (may_ask_root r w.now w.cache s (subst (Memᴰ s) f m))
  may_ask_lem c ss s (of_referral e d h g x l f) m = may_ask_referred r w.now w.cache c s e d l h g x (subst (Memᴰ s) f m)
