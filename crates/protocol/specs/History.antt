-- What owners said, and when: tests over the history of versions. Assumes nothing.
use Rattle.std.specs.Prelude.{◌≡◌, ℕ, ◌+◌, ◌≤◌, Bool, true, cond, ◌&&◌, List, [], ◌∷◌, ◌++◌, Some, nat_le, nat_lt}
use mathlib.Core.List.{Memᴰ}
use Rattle.meaning.specs.Model.{Zone}
use Rattle.meaning.specs.Says.{same}
use Rattle.protocol.specs.Words.{Name, Word, tells}
use Rattle.protocol.specs.World.{Rules, Version, World, Event, current, world}

-- the zones of an apex in force at some moment from m to `end`, newest first: a version is in force from its moment to its
-- successor's, both inclusive
unfoldable pub in_force : ℕ → ℕ → Name → List Version → List Zone
in_force end m a [] = []
in_force end m a (v ∷ vs) =
    cond (same v.zone.apex a)
    (cond (nat_le m end) (v.zone ∷ in_force v.moment m a vs) (in_force v.moment m a vs))
    (in_force end m a vs)

abbrev pub higher : ℕ → ℕ → ℕ
higher a b = cond (nat_lt a b) b a

-- the longest expire of any version ever published
unfoldable pub longest : List Version → ℕ
longest [] = 0
longest (v ∷ vs) = higher v.zone.expire (longest vs)

-- no version is as young as that
unfoldable pub rested : List Version → ℕ → ℕ → Bool
rested [] now age = true
rested (v ∷ vs) now age = nat_lt (v.moment + age) now && rested vs now age

-- each superseded version of an apex has run out everywhere: its successor came longer ago than the version's own expire
-- and the time that its words may be remembered
unfoldable pub run_out : ℕ → ℕ → Name → ℕ → List Version → Bool
run_out now age a end [] = true
run_out now age a end (v ∷ vs) =
    cond (same v.zone.apex a)
    (nat_lt (end + (age + v.zone.expire)) now && run_out now age a v.moment vs)
    (run_out now age a end vs)

-- all but the newest are superseded
unfoldable pub others_run_out : ℕ → ℕ → Name → List Version → Bool
others_run_out now age a [] = true
others_run_out now age a (v ∷ vs) = cond (same v.zone.apex a) (run_out now age a v.moment vs) (others_run_out now age a vs)

-- how old a word can be that still counts
abbrev pub oldest : Rules → World → ℕ
oldest r w = r.day + r.patience + longest w.published

-- the owner of an apex said a word at some moment from m on
pub record SaidSince (w : World) (m : ℕ) (a q : Name) (k : ℕ) (t : Word) : Type 0 where
  pub zone : Zone
  pub is_in_force : Memᴰ zone (in_force w.now m a w.published)
  pub tells_so : tells zone q k ≡ Some t

-- the same of a zone by the run: at some earlier state, at m or later, it was what its owner said
abbrev pub OwnedSince : Rules → List Event → ℕ → Name → Zone → Type 0
OwnedSince r es m a z =
    (later : List Event) × (before : List Event) × (es ≡ later ++ before) × (m ≤ (world r before).now) × (current a (world r before).published ≡ Some z)
