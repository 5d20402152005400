-- Where a question stands, by what its walk came to.
use Rattle.std.proofs.Common.{◌≡◌, ℕ, true, false, sym, ap, ◌∙◌}
use Rattle.std.proofs.lemmas.Bool.{cond-true, cond-false}
use Rattle.protocol.specs.Words.{Name, Outcome}
use Rattle.protocol.specs.World.{Rules}
use Rattle.protocol.specs.Walks.{Shows, LacksAt, TooLong}
use Rattle.machine.specs.Machine.{Question, State, Answered, Endless, Nowhere, walk_of, servers_on, tried_of, too_many, pending_for, Done, lacking, standing_by, standing}
use Rattle.walks.specs.Courses.{Course, course_by, course_of}

module _ (r : Rules) (st : State) (u : Question) (c : Course) (q : Name) (k : ℕ) (walked : c ≡ course_of r st.now st.cache q k) (name_is : q ≡ u.name) (kind_is : k ≡ u.kind) where
  e : c ≡ course_by r st.now (walk_of r st u)
  e = walked ∙ (λ i. course_of r st.now st.cache (name_is i) (kind_is i))

  pub by_answer : (o : Outcome) → c.end ≡ Shows o → Done (Answered o) c.least ≡ standing r st u
  unfolding standing
  by_answer o h = ap (Done (Answered o)) (ap (λ (x : Course). x.least) e) ∙ ap (standing_by r st u (walk_of r st u).words) (sym h ∙ ap (λ (x : Course). x.end) e)

  pub by_length : c.end ≡ TooLong → Done Endless c.least ≡ standing r st u
  unfolding standing
  by_length h = ap (Done Endless) (ap (λ (x : Course). x.least) e) ∙ ap (standing_by r st u (walk_of r st u).words) (sym h ∙ ap (λ (x : Course). x.end) e)

  lacks : (a p : Name) → c.end ≡ LacksAt a p → standing_by r st u (walk_of r st u).words (LacksAt a p) ≡ standing r st u
  unfolding standing
  lacks a p h = ap (standing_by r st u (walk_of r st u).words) (sym h ∙ ap (λ (x : Course). x.end) e)

  pub by_many : (a p : Name) → c.end ≡ LacksAt a p → too_many (tried_of a p u.tries) u.tries ≡ true → Done Nowhere 0 ≡ standing r st u
  by_many a p h t =
      sym (cond-true (too_many (tried_of a p u.tries) u.tries) (Done Nowhere 0) (lacking a p (servers_on r (walk_of r st u).words) (tried_of a p u.tries) (pending_for a p u.kind st.pending)) t) ∙ lacks a p h

  pub by_lack : (a p : Name) → c.end ≡ LacksAt a p → too_many (tried_of a p u.tries) u.tries ≡ false → lacking a p c.servers (tried_of a p u.tries) (pending_for a p k st.pending) ≡ standing r st u
  by_lack a p h t =
      ap (λ n. lacking a p c.servers (tried_of a p u.tries) (pending_for a p n st.pending)) kind_is
      ∙ ap (λ ss. lacking a p ss (tried_of a p u.tries) (pending_for a p u.kind st.pending)) (ap (λ (x : Course). x.servers) e)
      ∙ sym (cond-false (too_many (tried_of a p u.tries) u.tries) (Done Nowhere 0) (lacking a p (servers_on r (walk_of r st u).words) (tried_of a p u.tries) (pending_for a p u.kind st.pending)) t) ∙ lacks a p h
