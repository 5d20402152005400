-- Walks from the root, by any source of words: what a question means, and what is shown. Assumes nothing.
use Rattle.std.specs.Prelude.{ℕ, zero, suc, ◌-◌, ◌&&◌, List, [], ◌∷◌, Some, None, Option}
use Rattle.meaning.specs.Model.{Zone}
use Rattle.meaning.specs.Speech.{Said}
use Rattle.protocol.specs.Lists.{first}
use Rattle.protocol.specs.Words.{Name, Word, tells, Outcome, Next, Ends, Goes, next}
use Rattle.protocol.specs.World.{Rules, Entry, World, current, lower, until, counts, is_key}

-- the most words on the way
abbrev pub max_steps : ℕ
max_steps = 24

pub data End : Type 0 where
  Shows : (outcome : Outcome) → End
  LacksAt : (apex : Name) → (name : Name) → End
  TooLong : End

-- the end of a walk, and the words by which it went, in their order
pub record Walk (W : Type 0) : Type 0 where
  pub end : End
  pub words : List W

abbrev pub behind : {W : Type 0} → W → Walk W → Walk W
behind w r = record { end = r.end; words = w ∷ r.words }

module _ {W : Type 0} (said : W → Said) where
  abbrev pub on_next : (Name → Name → Walk W) → W → Next → Walk W
  on_next go w (Ends o) = record { end = Shows o; words = w ∷ [] }
  on_next go w (Goes a p) = behind w (go a p)

  abbrev pub on_word : (Name → Name → Walk W) → Name → Name → Option W → Walk W
  on_word go a q None = record { end = LacksAt a q; words = [] }
  on_word go a q (Some w) = on_next go w (next (said w) q)

  -- from a zone, for a name, by at most so many words
  unfoldable pub walk : ℕ → (Name → Name → Option W) → Name → Name → Walk W
  walk zero f a q = record { end = TooLong; words = [] }
  walk (suc n) f a q = on_word (λ c p. walk n f c p) a q (f a q)

-- ---- by what owners say now

abbrev pub by_zone : Option Zone → Name → ℕ → Option Word
by_zone None q k = None
by_zone (Some z) q k = tells z q k

abbrev pub by_owners : World → ℕ → Name → Name → Option Word
by_owners w k a q = by_zone (current a w.published) q k

abbrev pub word_said : Word → Said
word_said t = t.said

-- what a question means; where a zone has no owner, nowhere
abbrev pub meant : World → Name → ℕ → Walk Word
meant w q k = walk word_said max_steps (by_owners w k) [] q

-- ---- by what is remembered

-- the entry of a key that still counts
abbrev pub remembered : Rules → ℕ → List Entry → ℕ → Name → Name → Option Entry
remembered r now es k a q = first (λ e. counts r now e && is_key a q k e) es

abbrev pub entry_said : Entry → Said
entry_said e = e.word.said

abbrev pub shown_by : Rules → ℕ → List Entry → Name → ℕ → Walk Entry
shown_by r now es q k = walk entry_said max_steps (remembered r now es k) [] q

abbrev pub shown : Rules → World → Name → ℕ → Walk Entry
shown r w q k = shown_by r w.now w.cache q k

-- what is shown may be remembered for the least of what is left of the times of its words
abbrev pub left : Rules → ℕ → Entry → ℕ
left r now e = until r e - now

unfoldable pub least_left : Rules → ℕ → List Entry → ℕ
least_left r now [] = 0
least_left r now (e ∷ []) = left r now e
least_left r now (e ∷ f ∷ es) = lower (left r now e) (least_left r now (f ∷ es))
