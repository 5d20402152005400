-- The turns of the loop that walks.
use Rattle.std.proofs.Common.{◌≡◌, ℕ, suc, ◌+◌, ltb, List, [], ◌∷◌, ◌++◌, map, length, Some, None, Option, sym, refl, ap, ◌∙◌, append_assoc, append-nil, arith, length-append}
use mathlib.Core.List.{map-append}
use Rattle.std.specs.List.{slice_get}
use Rattle.meaning.specs.Speech.{Said, Found, AliasTo, Referred, Empty, Absent}
use Rattle.records.specs.declared.types.Kind.{Kind}
use Rattle.protocol.specs.Words.{Name, Server, Ends, Goes, next}
use Rattle.protocol.specs.World.{rules_of, Entry}
use Rattle.protocol.specs.Walks.{Shows, LacksAt, TooLong, remembered, left, Walk, walk, entry_said}
use Rattle.std.proofs.lemmas.Bool.{cond-true, lt-ltb}
use Rattle.protocol.proofs.Walks.{walk_none, walk_lacks, walk_ends, walk_goes}
use Rattle.cache.specs.Entries.{rules}
use Rattle.machine.specs.Machine.{servers_by}
use Rattle.walks.specs.Courses.{course_of, lesser, Gathered, gather, course_at, step_next, course}
use Rattle.walks.specs.Traces.{one_place}
use Rattle.walks.specs.Ways.{outcome_of, Names, servers_from, servers_at, outcome_at}
use Rattle.walks.proofs.Courses.{course_whole, course_none, course_some, course_end}

-- what is remembered of a kind, where two kinds are the same
pub of_kind : (now : ℕ) (es : List Entry) (k j : Kind) (a p : Name) → j ≡ k → remembered rules now es k.number a p ≡ remembered rules now es j.number a p
of_kind now es k j a p e = ap (λ (i : Kind). remembered rules now es i.number a p) (sym e)

-- a word that ends a walk names no servers
ended_servers : (s : Said) (p : Name) → next s p ≡ Ends (outcome_of s) → (roots : List Server) → servers_by roots s ≡ roots
unfolding next
ended_servers (Found c) p d roots = refl
ended_servers Empty p d roots = refl
ended_servers Absent p d roots = refl
ended_servers (AliasTo n) p d roots = refl
ended_servers (Referred n t) p d roots = let w : ◌≡◌ {A = ℕ} 0 1 = cc in absurd (omega arith)

module _ (now : ℕ) (es : List Entry) (k : ℕ) (q : Name) where
  abbrev source : Name → Name → Option Entry
  source = remembered rules now es k

  abbrev held : List Server → Option ℕ → Option ℕ → Gathered
  held roots least referral = record { least = least; servers = servers_at roots es referral }

  -- what is still to be walked gives the whole, whatever the root's servers
  abbrev pub OnWay : ℕ → Option ℕ → Option ℕ → Name → Name → Type 0
  OnWay n least referral a p = (roots : List Server) → course (rules_of roots) now source n (held roots least referral) a p ≡ course_of (rules_of roots) now es q k

  pub from_root : (m : ℕ) → m ≡ 24 → (a p : Name) (l o : Option ℕ) → a ≡ [] → p ≡ q → l ≡ None → o ≡ None → OnWay m l o a p
  from_root m em a p l o ea ep el eo roots = (λ i. course (rules_of roots) now source (em i) (held roots (el i) (eo i)) (ea i) (ep i)) ∙ course_whole (rules_of roots) now source 24 q

  module _ (m : ℕ) (l o : Option ℕ) (a p : Name) (way : OnWay (suc m) l o a p) where
    pub lacks : source a p ≡ None → (roots : List Server) → course_at (LacksAt a p) (held roots l o) ≡ course_of (rules_of roots) now es q k
    lacks e roots =
        sym (course_none (rules_of roots) now source m (held roots l o) a p e) ∙ way roots

    by_word : (e : Entry) → source a p ≡ Some e → (roots : List Server) → step_next (rules_of roots) now source (λ h c b. course (rules_of roots) now source m h c b) (gather (rules_of roots) now e (held roots l o)) (next (entry_said e) p) ≡ course_of (rules_of roots) now es q k
    by_word e h roots =
        sym (course_some (rules_of roots) now source m (held roots l o) a p e h) ∙ way roots

    -- the word at a place ends the walk
    pub ends : (e : Entry) (i n : ℕ) → source a p ≡ Some e → slice_get es i ≡ Some e → next (entry_said e) p ≡ Ends (outcome_of (entry_said e)) → n ≡ lesser l (left rules now e) → (roots : List Server) → record { end = Shows (outcome_at (slice_get es i)); least = n; servers = roots } ≡ course_of (rules_of roots) now es q k
    ends e i n h at d least roots =
        (λ j. record { end = Shows (outcome_at (at j)); least = least j; servers = sym (ended_servers (entry_said e) p d roots) j })
        ∙ sym (ap (step_next (rules_of roots) now source (λ g c b. course (rules_of roots) now source m g c b) (gather (rules_of roots) now e (held roots l o))) d)
        ∙ by_word e h roots

    -- or leads on
    pub goes : (e : Entry) (i : ℕ) (l' o' : Option ℕ) (c b : Name) → source a p ≡ Some e → slice_get es i ≡ Some e → next (entry_said e) p ≡ Goes c b → l' ≡ Some (lesser l (left rules now e)) → Names i (entry_said e) o' → OnWay m l' o' c b
    goes e i l' o' c b h at d least names roots =
        (λ j. course (rules_of roots) now source m (record { least = least j; servers = named (entry_said e) o' refl names roots j }) c b)
        ∙ sym (ap (step_next (rules_of roots) now source (λ g c b. course (rules_of roots) now source m g c b) (gather (rules_of roots) now e (held roots l o))) d)
        ∙ by_word e h roots
      where
        named : (s : Said) (o' : Option ℕ) → entry_said e ≡ s → Names i s o' → (roots : List Server) → servers_at roots es o' ≡ servers_by roots (entry_said e)
        named (Referred n t) x f g roots = ap (servers_at roots es) g ∙ ap (servers_from roots) at
        named (Found y) x f g roots = ap (servers_at roots es) g ∙ sym (ap (servers_by roots) f)
        named (AliasTo y) x f g roots = ap (servers_at roots es) g ∙ sym (ap (servers_by roots) f)
        named Empty x f g roots = ap (servers_at roots es) g ∙ sym (ap (servers_by roots) f)
        named Absent x f g roots = ap (servers_at roots es) g ∙ sym (ap (servers_by roots) f)

  pub too_long : (l o : Option ℕ) (a p : Name) → OnWay 0 l o a p → (roots : List Server) → course_at TooLong (held roots l o) ≡ course_of (rules_of roots) now es q k
  too_long l o a p way roots = sym (course_end (rules_of roots) now source (held roots l o) a p) ∙ way roots

-- ---- the places of the words

pushed_on : (ps ps' : List ℕ) (i m : ℕ) → length ps + suc m ≡ 24 → ps' ≡ one_place i ps → ps' ≡ ps ++ (i ∷ [])
pushed_on ps ps' i m l e = e ∙ cond-true (ltb (length ps) 24) (ps ++ (i ∷ [])) ps (lt-ltb (length ps) 24 (omega arith))

module _ (now : ℕ) (es : List Entry) (k : ℕ) (q : Name) where
  abbrev words_of : ℕ → Name → Name → List Entry
  words_of n a p = (walk entry_said n (remembered rules now es k) a p).words

  -- the places so far and the words still to come are those of the whole
  pub record Placed (n : ℕ) (ps : List ℕ) (a p : Name) : Type 0 where
    pub counted : length ps + n ≡ 24
    pub all : map (slice_get es) ps ++ map Some (words_of n a p) ≡ map Some (words_of 24 [] q)

  pub none_placed : (m : ℕ) → m ≡ 24 → (ps : List ℕ) (a p : Name) → ps ≡ [] → a ≡ [] → p ≡ q → Placed m ps a p
  none_placed m em ps a p e f g = record { counted = let l = ap length e in omega arith; all = λ i. map (slice_get es) (e i) ++ map Some (words_of (em i) (f i) (g i)) }

  module _ (m : ℕ) (ps : List ℕ) (a p : Name) (h : Placed (suc m) ps a p) where
    pub placed_lacks : remembered rules now es k a p ≡ None → map (slice_get es) ps ≡ map Some (words_of 24 [] q)
    placed_lacks e =
        sym (append-nil (map (slice_get es) ps))
        ∙ ap (λ ws. map (slice_get es) ps ++ map Some ws) (sym (ap (λ (w : Walk Entry). w.words) (walk_lacks entry_said m (remembered rules now es k) a p e))) ∙ h.all

    at_last : (ps' : List ℕ) (i : ℕ) (e : Entry) → ps' ≡ one_place i ps → slice_get es i ≡ Some e → map (slice_get es) ps' ≡ map (slice_get es) ps ++ (Some e ∷ [])
    at_last ps' i e f g = ap (map (slice_get es)) (pushed_on ps ps' i m h.counted f) ∙ map-append (slice_get es) ps (i ∷ []) ∙ ap (λ o. map (slice_get es) ps ++ (o ∷ [])) g

    pub placed_ends : (ps' : List ℕ) (i : ℕ) (e : Entry) → ps' ≡ one_place i ps → slice_get es i ≡ Some e → remembered rules now es k a p ≡ Some e → next (entry_said e) p ≡ Ends (outcome_of (entry_said e)) → map (slice_get es) ps' ≡ map Some (words_of 24 [] q)
    placed_ends ps' i e f g found d =
        at_last ps' i e f g
        ∙ ap (λ ws. map (slice_get es) ps ++ map Some ws) (sym (ap (λ (w : Walk Entry). w.words) (walk_ends entry_said m (remembered rules now es k) a p e (outcome_of (entry_said e)) found d))) ∙ h.all

    pub placed_goes : (ps' : List ℕ) (i : ℕ) (e : Entry) (c b : Name) → ps' ≡ one_place i ps → slice_get es i ≡ Some e → remembered rules now es k a p ≡ Some e → next (entry_said e) p ≡ Goes c b → Placed m ps' c b
    placed_goes ps' i e c b f g found d =
        record {
          counted =
              let l = ap length (pushed_on ps ps' i m h.counted f) in
              let m = length-append ps (i ∷ []) in
              let x = h.counted in
              omega arith;
          all =
              ap (λ xs. xs ++ map Some (words_of m c b)) (at_last ps' i e f g)
              ∙ append_assoc (map (slice_get es) ps) (Some e ∷ []) (map Some (words_of m c b))
              ∙ ap (λ ws. map (slice_get es) ps ++ map Some ws) (sym (ap (λ (w : Walk Entry). w.words) (walk_goes entry_said m (remembered rules now es k) a p e c b found d))) ∙ h.all;
        }

  pub placed_long : (ps : List ℕ) (a p : Name) → Placed 0 ps a p → map (slice_get es) ps ≡ map Some (words_of 24 [] q)
  placed_long ps a p h =
      sym (append-nil (map (slice_get es) ps))
      ∙ ap (λ ws. map (slice_get es) ps ++ map Some ws) (sym (ap (λ (w : Walk Entry). w.words) (walk_none entry_said (remembered rules now es k) a p))) ∙ h.all
