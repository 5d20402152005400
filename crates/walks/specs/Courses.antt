-- A walk as the code goes it: word by word, with what it has gathered on the way. Assumes nothing.
use Rattle.std.specs.Prelude.{ℕ, zero, suc, List, Some, None, Option}
use Rattle.protocol.specs.Words.{Name, Server, Next, Ends, Goes, next}
use Rattle.protocol.specs.World.{Rules, Entry, lower}
use Rattle.protocol.specs.Walks.{End, Shows, LacksAt, TooLong, Walk, entry_said, shown_by, left, least_left}
use Rattle.machine.specs.Machine.{servers_by, servers_on}

-- what a walk came to: its end, the least that is left of its words' times, and the servers named for where it is
pub record Course : Type 0 where
  pub end : End
  pub least : ℕ
  pub servers : List Server

-- what the words of a walk come to
abbrev pub course_by : Rules → ℕ → Walk Entry → Course
course_by r now w = record { end = w.end; least = least_left r now w.words; servers = servers_on r w.words }

abbrev pub course_of : Rules → ℕ → List Entry → Name → ℕ → Course
course_of r now es q k = course_by r now (shown_by r now es q k)

-- the least so far; before the first word there is none
abbrev pub lesser : Option ℕ → ℕ → ℕ
lesser None n = n
lesser (Some m) n = lower m n

abbrev pub least_of : Option ℕ → ℕ
least_of None = 0
least_of (Some n) = n

-- gathered on the way
pub record Gathered : Type 0 where
  pub least : Option ℕ
  pub servers : List Server

abbrev pub nothing : Rules → Gathered
nothing r = record { least = None; servers = r.roots }

abbrev pub gather : Rules → ℕ → Entry → Gathered → Gathered
gather r now e g = record { least = Some (lesser g.least (left r now e)); servers = servers_by r.roots e.word.said }

abbrev pub course_at : End → Gathered → Course
course_at x g = record { end = x; least = least_of g.least; servers = g.servers }

module _ (r : Rules) (now : ℕ) (f : Name → Name → Option Entry) where
  abbrev pub step_next : (Gathered → Name → Name → Course) → Gathered → Next → Course
  step_next go g (Ends o) = course_at (Shows o) g
  step_next go g (Goes a p) = go g a p

  abbrev pub step_word : (Gathered → Name → Name → Course) → Gathered → Name → Name → Option Entry → Course
  step_word go g a q None = course_at (LacksAt a q) g
  step_word go g a q (Some e) = step_next go (gather r now e g) (next (entry_said e) q)

  -- from a place on, with what was gathered before
  unfoldable pub course : ℕ → Gathered → Name → Name → Course
  course zero g a q = course_at TooLong g
  course (suc n) g a q = step_word (λ h c p. course n h c p) g a q (f a q)
