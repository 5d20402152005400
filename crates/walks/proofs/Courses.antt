-- A walk gone word by word gathers what its words come to.
use Rattle.std.proofs.Common.{◌≡◌, ℕ, zero, suc, ◌≤◌, Bool, true, false, ltb, ◌⊎◌, List, [], ◌∷◌, Some, None, Option, sym, refl, ap, ◌∙◌, inl, inr, arith}
use Rattle.std.proofs.lemmas.Bool.{cond-true, cond-false, ltb-true, ltb-false}
use Rattle.protocol.specs.Words.{Name, Server, Next, Ends, Goes, next}
use Rattle.protocol.specs.World.{Rules, Entry, lower}
use Rattle.protocol.specs.Walks.{LacksAt, TooLong, Walk, walk, entry_said, left, least_left}
use Rattle.protocol.proofs.Walks.{walk_none, walk_lacks, walk_ends, walk_goes}
use Rattle.machine.specs.Machine.{servers_by, servers_after}
use Rattle.walks.specs.Courses.{course_by, lesser, least_of, Gathered, nothing, gather, course_at, step_next, step_word, course}

-- ---- the lower of three

lower_cases : (a b : ℕ) → ((lower a b ≡ a) × (a ≤ b)) ⊎ ((lower a b ≡ b) × (b ≤ a))
lower_cases a b = go (ltb a b) refl
  where
    go : (c : Bool) → ltb a b ≡ c → ((lower a b ≡ a) × (a ≤ b)) ⊎ ((lower a b ≡ b) × (b ≤ a))
    go true e = let l = ltb-true a b e in inl (cond-true (ltb a b) a b e, omega arith)
    go false e = inr (cond-false (ltb a b) a b e, ltb-false a b e)

lower_assoc : (a b c : ℕ) → lower (lower a b) c ≡ lower a (lower b c)
lower_assoc a b c = go (lower_cases a b) (lower_cases b c) (lower_cases (lower a b) c) (lower_cases a (lower b c))
  where
    go : ((lower a b ≡ a) × (a ≤ b)) ⊎ ((lower a b ≡ b) × (b ≤ a)) → ((lower b c ≡ b) × (b ≤ c)) ⊎ ((lower b c ≡ c) × (c ≤ b)) → ((lower (lower a b) c ≡ lower a b) × (lower a b ≤ c)) ⊎ ((lower (lower a b) c ≡ c) × (c ≤ lower a b)) → ((lower a (lower b c) ≡ a) × (a ≤ lower b c)) ⊎ ((lower a (lower b c) ≡ lower b c) × (lower b c ≤ a)) → lower (lower a b) c ≡ lower a (lower b c)
    go (inl x) (inl y) (inl z) (inl w) = omega arith
    go (inl x) (inl y) (inl z) (inr w) = omega arith
    go (inl x) (inl y) (inr z) (inl w) = omega arith
    go (inl x) (inl y) (inr z) (inr w) = omega arith
    go (inl x) (inr y) (inl z) (inl w) = omega arith
    go (inl x) (inr y) (inl z) (inr w) = omega arith
    go (inl x) (inr y) (inr z) (inl w) = omega arith
    go (inl x) (inr y) (inr z) (inr w) = omega arith
    go (inr x) (inl y) (inl z) (inl w) = omega arith
    go (inr x) (inl y) (inl z) (inr w) = omega arith
    go (inr x) (inl y) (inr z) (inl w) = omega arith
    go (inr x) (inl y) (inr z) (inr w) = omega arith
    go (inr x) (inr y) (inl z) (inl w) = omega arith
    go (inr x) (inr y) (inl z) (inr w) = omega arith
    go (inr x) (inr y) (inr z) (inl w) = omega arith
    go (inr x) (inr y) (inr z) (inr w) = omega arith

module _ (r : Rules) (now : ℕ) where
  -- what was gathered, and the words still to come
  abbrev with_words : Gathered → List Entry → Gathered
  with_words g [] = g
  with_words g (e ∷ es) = with_words (gather r now e g) es

  least_from : (m : ℕ) (ss : List Server) (es : List Entry) (e : Entry) → (with_words (record { least = Some m; servers = ss }) (e ∷ es)).least ≡ Some (lower m (least_left r now (e ∷ es)))
  unfolding least_left
  least_from m ss [] e = refl
  least_from m ss (f ∷ es) e = least_from (lower m (left r now e)) (servers_by r.roots e.word.said) es f ∙ ap Some (lower_assoc m (left r now e) (least_left r now (f ∷ es)))

  least_all : (ss : List Server) (es : List Entry) → least_of (with_words (record { least = None; servers = ss }) es).least ≡ least_left r now es
  unfolding least_left
  least_all ss [] = refl
  least_all ss (e ∷ []) = refl
  least_all ss (e ∷ f ∷ es) = ap least_of (least_from (left r now e) (servers_by r.roots e.word.said) es f)

  servers_all : (o : Option ℕ) (ss : List Server) (es : List Entry) → (with_words (record { least = o; servers = ss }) es).servers ≡ servers_after r.roots ss es
  unfolding servers_after
  servers_all o ss [] = refl
  servers_all o ss (e ∷ es) = servers_all (Some (lesser o (left r now e))) (servers_by r.roots e.word.said) es

  module _ (f : Name → Name → Option Entry) where
    course_is : (n : ℕ) (g : Gathered) (a q : Name) → course r now f n g a q ≡ course_at (walk entry_said n f a q).end (with_words g (walk entry_said n f a q).words)
    unfolding course
    course_is zero g a q = sym (ap (λ (w : Walk Entry). course_at w.end (with_words g w.words)) (walk_none entry_said f a q))
    course_is (suc n) g a q = go (λ h c p. course_is n h c p) (f a q) refl
      where
        by : ((h : Gathered) (c p : Name) → course r now f n h c p ≡ course_at (walk entry_said n f c p).end (with_words h (walk entry_said n f c p).words)) → (e : Entry) → f a q ≡ Some e → (x : Next) → next (entry_said e) q ≡ x → step_next r now f (λ h c p. course r now f n h c p) (gather r now e g) x ≡ course_at (walk entry_said (suc n) f a q).end (with_words g (walk entry_said (suc n) f a q).words)
        by ih e h (Ends o) d = sym (ap (λ (w : Walk Entry). course_at w.end (with_words g w.words)) (walk_ends entry_said n f a q e o h d))
        by ih e h (Goes c p) d = ih (gather r now e g) c p ∙ sym (ap (λ (w : Walk Entry). course_at w.end (with_words g w.words)) (walk_goes entry_said n f a q e c p h d))

        go : ((h : Gathered) (c p : Name) → course r now f n h c p ≡ course_at (walk entry_said n f c p).end (with_words h (walk entry_said n f c p).words)) → (o : Option Entry) → f a q ≡ o → step_word r now f (λ h c p. course r now f n h c p) g a q (f a q) ≡ course_at (walk entry_said (suc n) f a q).end (with_words g (walk entry_said (suc n) f a q).words)
        go ih None h = ap (step_word r now f (λ u c p. course r now f n u c p) g a q) h ∙ sym (ap (λ (w : Walk Entry). course_at w.end (with_words g w.words)) (walk_lacks entry_said n f a q h))
        go ih (Some e) h = ap (step_word r now f (λ u c p. course r now f n u c p) g a q) h ∙ by ih e h (next (entry_said e) q) refl

    -- from the root, with nothing gathered
    pub course_whole : (n : ℕ) (q : Name) → course r now f n (nothing r) [] q ≡ course_by r now (walk entry_said n f [] q)
    course_whole n q =
        course_is n (nothing r) [] q
        ∙ (λ i. record { end = (walk entry_said n f [] q).end; least = least_all r.roots (walk entry_said n f [] q).words i; servers = servers_all None r.roots (walk entry_said n f [] q).words i })

    -- one step
    pub course_none : (n : ℕ) (g : Gathered) (a q : Name) → f a q ≡ None → course r now f (suc n) g a q ≡ course_at (LacksAt a q) g
    unfolding course
    course_none n g a q h = ap (step_word r now f (λ u c p. course r now f n u c p) g a q) h

    pub course_some : (n : ℕ) (g : Gathered) (a q : Name) (e : Entry) → f a q ≡ Some e → course r now f (suc n) g a q ≡ step_next r now f (λ u c p. course r now f n u c p) (gather r now e g) (next (entry_said e) q)
    unfolding course
    course_some n g a q e h = ap (step_word r now f (λ u c p. course r now f n u c p) g a q) h

    pub course_end : (g : Gathered) (a q : Name) → course r now f zero g a q ≡ course_at TooLong g
    unfolding course
    course_end g a q = refl
