-- Walks by what owners say now, step by step: what is left of the walk ends as the whole does.
use Rattle.std.proofs.Common.{◌≡◌, ℕ, suc, List, None, Some, Option, sym, ap, ◌∙◌}
use Rattle.protocol.specs.Words.{Name, Word, Outcome, Next, Ends, Goes, next}
use Rattle.protocol.specs.World.{Version, start, current, with_published}
use Rattle.protocol.specs.Walks.{End, Shows, LacksAt, TooLong, walk, on_word, on_next, word_said, by_zone, by_owners}
use Rattle.valley.specs.Meanings.{meant_by}

module _ (vs : List Version) (k : ℕ) (asked : Name) where
  abbrev source : Name → Name → Option Word
  source = by_owners (with_published vs start) k

  abbrev pub OnWay : ℕ → Name → Name → Type 0
  OnWay m a q = (walk word_said m source a q).end ≡ meant_by vs asked k

  abbrev then : ℕ → Name → Name → Option Word → End
  then m a q o = (on_word word_said (λ c p. walk word_said m source c p) a q o).end

  abbrev after : ℕ → Word → Next → End
  after m t n = (on_next word_said (λ c p. walk word_said m source c p) t n).end

  step : (m : ℕ) (a q : Name) (o : Option Word) → OnWay (suc m) a q → by_zone (current a vs) q k ≡ o → then m a q o ≡ meant_by vs asked k
  unfolding walk
  step m a q o way e = sym (ap (then m a q) e) ∙ way

  pub lacks : (m : ℕ) (a q : Name) → OnWay (suc m) a q → by_zone (current a vs) q k ≡ None → meant_by vs asked k ≡ LacksAt a q
  lacks m a q way e = sym (step m a q None way e)

  pub ends : (m : ℕ) (a q : Name) (t : Word) (o : Outcome) → OnWay (suc m) a q → by_zone (current a vs) q k ≡ Some t → next t.said q ≡ Ends o → meant_by vs asked k ≡ Shows o
  ends m a q t o way e n = sym (step m a q (Some t) way e) ∙ ap (after m t) n

  pub goes : (m : ℕ) (a q : Name) (t : Word) (c p : Name) → OnWay (suc m) a q → by_zone (current a vs) q k ≡ Some t → next t.said q ≡ Goes c p → OnWay m c p
  goes m a q t c p way e n = sym (ap (after m t) n) ∙ step m a q (Some t) way e

  pub too_long : (a q : Name) → OnWay 0 a q → meant_by vs asked k ≡ TooLong
  unfolding walk
  too_long a q way = sym way
