-- What it takes for a question to be done, to wait, or to want a query.
use Rattle.std.proofs.Common.{◌≡◌, ℕ, zero, suc, ◌+◌, ◌*◌, ◌%◌, ◌<◌, Bool, true, false, not, ◌&&◌, List, [], ◌∷◌, length, get_or, Some, None, Option, sym, refl, subst, mod-lt, arith}
use mathlib.Core.List.{Memᴰ}
use Rattle.std.proofs.lemmas.Bool.{cond-true, cond-false, cond_both, leb-false}
use Rattle.protocol.specs.Words.{Name, Server, Outcome}
use Rattle.protocol.specs.World.{Rules}
use Rattle.protocol.specs.Walks.{End, Shows, LacksAt, TooLong, least_left}
use Rattle.machine.specs.Machine.{max_tries, Tried, Question, Pending, State, Answer, Answered, Endless, Nowhere, walk_of, servers_on, tried_of, count_of, too_many, exhausted, is_last, pending_for, Standing, Done, Awaits, Wants, lacking, standing_by, standing, place_for}

-- a question that wants a query: where it lacks a word, whom it may ask, and that a try is left
pub record WantsSo (r : Rules) (st : State) (u : Question) (a p : Name) (ss : List Server) (o : Option Tried) : Type 0 where
  pub lacks : (walk_of r st u).end ≡ LacksAt a p
  pub servers_are : ss ≡ servers_on r (walk_of r st u).words
  pub tried_is : o ≡ tried_of a p u.tries
  pub may_use : too_many (tried_of a p u.tries) u.tries ≡ false
  pub not_pending : pending_for a p u.kind st.pending ≡ None
  pub try_left : exhausted ss o ≡ false

-- one that is done by its walk, or for want of an answer
pub data DoneSo (r : Rules) (st : State) (u : Question) : Answer → ℕ → Type 0 where
  by_answer : (o : Outcome) → (walk_of r st u).end ≡ Shows o → DoneSo r st u (Answered o) (least_left r st.now (walk_of r st u).words)
  by_length : (walk_of r st u).end ≡ TooLong → DoneSo r st u Endless (least_left r st.now (walk_of r st u).words)
  by_want : (a p : Name) → (walk_of r st u).end ≡ LacksAt a p → DoneSo r st u Nowhere 0

abbrev pub Explains : Rules → State → Question → Standing → Type 0
Explains r st u (Done x n) = DoneSo r st u x n
Explains r st u (Awaits a p) = (walk_of r st u).end ≡ LacksAt a p
Explains r st u (Wants a p ss o) = WantsSo r st u a p ss o

module _ (r : Rules) (st : State) (u : Question) where
  by_lack : (a p : Name) (x : Option Pending) → (walk_of r st u).end ≡ LacksAt a p → too_many (tried_of a p u.tries) u.tries ≡ false → pending_for a p u.kind st.pending ≡ x → Explains r st u (lacking a p (servers_on r (walk_of r st u).words) (tried_of a p u.tries) x)
  by_lack a p (Some x) e f h =
      cond_both (exhausted (servers_on r (walk_of r st u).words) (tried_of a p u.tries) && not (is_last (tried_of a p u.tries) x)) (Done Nowhere 0) (Awaits a p) (Explains r st u) (λ g. by_want a p e) (λ g. e)
  by_lack a p None e f h = go (exhausted (servers_on r (walk_of r st u).words) (tried_of a p u.tries)) refl
    where
      go : (b : Bool) → exhausted (servers_on r (walk_of r st u).words) (tried_of a p u.tries) ≡ b → Explains r st u (lacking a p (servers_on r (walk_of r st u).words) (tried_of a p u.tries) None)
      go true g = subst (Explains r st u) (sym (cond-true (exhausted (servers_on r (walk_of r st u).words) (tried_of a p u.tries)) (Done Nowhere 0) (Wants a p (servers_on r (walk_of r st u).words) (tried_of a p u.tries)) g)) (by_want a p e)
      go false g =
          subst (Explains r st u) (sym (cond-false (exhausted (servers_on r (walk_of r st u).words) (tried_of a p u.tries)) (Done Nowhere 0) (Wants a p (servers_on r (walk_of r st u).words) (tried_of a p u.tries)) g))
          (record { lacks = e; servers_are = refl; tried_is = refl; may_use = f; not_pending = h; try_left = g })

  by_end : (x : End) → (walk_of r st u).end ≡ x → Explains r st u (standing_by r st u (walk_of r st u).words x)
  by_end (Shows o) e = by_answer o e
  by_end TooLong e = by_length e
  by_end (LacksAt a p) e = go (too_many (tried_of a p u.tries) u.tries) refl
    where
      go : (b : Bool) → too_many (tried_of a p u.tries) u.tries ≡ b → Explains r st u (standing_by r st u (walk_of r st u).words (LacksAt a p))
      go true g = subst (Explains r st u) (sym (cond-true (too_many (tried_of a p u.tries) u.tries) (Done Nowhere 0) (lacking a p (servers_on r (walk_of r st u).words) (tried_of a p u.tries) (pending_for a p u.kind st.pending)) g)) (by_want a p e)
      go false g =
          subst (Explains r st u) (sym (cond-false (too_many (tried_of a p u.tries) u.tries) (Done Nowhere 0) (lacking a p (servers_on r (walk_of r st u).words) (tried_of a p u.tries) (pending_for a p u.kind st.pending)) g))
          (by_lack a p (pending_for a p u.kind st.pending) e g refl)

  pub explained : Explains r st u (standing r st u)
  unfolding standing
  explained = by_end (walk_of r st u).end refl

  pub wants_so : (a p : Name) (ss : List Server) (o : Option Tried) → standing r st u ≡ Wants a p ss o → WantsSo r st u a p ss o
  wants_so a p ss o e = subst (Explains r st u) e explained

  pub done_so : (x : Answer) (n : ℕ) → standing r st u ≡ Done x n → DoneSo r st u x n
  done_so x n e = subst (Explains r st u) e explained

-- ---- the server that is asked is one of those named

pub some_servers : (ss : List Server) (o : Option Tried) → exhausted ss o ≡ false → 0 < length ss
some_servers ss o e = let l = leb-false (max_tries * length ss) (count_of o) e in omega arith

pub place_below : (n many : ℕ) (o : Option Tried) → 0 < many → place_for n many o < many
place_below n many None l = mod-lt n l
place_below n many (Some t) l = mod-lt (t.place % many + 1) l

pub server_at : (ss : List Server) (i : ℕ) → i < length ss → Memᴰ (get_or ss i []) ss
server_at [] i l = absurd (omega arith)
server_at (s ∷ ss) zero l = Memᴰ.head refl
server_at (s ∷ ss) (suc i) l = Memᴰ.tail (server_at ss i (omega arith))
