-- Which sets a zone may have beside being sorted.
use Rattle.std.specs.Prelude.{ℕ, Bool, true, false, cond, not, ◌&&◌, ◌||◌, List, [], ◌∷◌, length, is_some, Ok, Err, Result, nat_le}
use Rattle.names.specs.declared.fault.Fault.{Fault}
use Rattle.names.specs.declared.fault.Fault.TheVariants.{Misplaced, Conflict, TooMuch}
use Rattle.names.specs.Order.{within}
use Rattle.meaning.specs.Model.{delegates, aliases, Set}
use Rattle.meaning.specs.Says.{same, is_exactly, find}
use Rattle.zones.specs.Sorted.{is_before}

-- an alias and another set at one name
abbrev pub clash : Set → Set → Bool
clash s t = same s.name t.name && (aliases s.kind || aliases t.kind)

abbrev pub clashes : Set → List Set → Bool
clashes s [] = false
clashes s (t ∷ ts) = clash s t || clashes s ts

abbrev pub no_clash : List Set → Bool
no_clash [] = true
no_clash (s ∷ ss) = not (clashes s ss) && no_clash ss

-- within the apex, and no delegation at the apex itself
abbrev pub belongs : List (List ℕ) → Set → Bool
belongs apex s = within apex s.name && not (delegates s.kind && same s.name apex)

abbrev pub all_belong : List (List ℕ) → List Set → Bool
all_belong apex [] = true
all_belong apex (s ∷ ss) = belongs apex s && all_belong apex ss

-- at most 4,096 sets
abbrev pub valid : List (List ℕ) → List Set → Bool
valid apex ss = all_belong apex ss && no_clash ss && nat_le (length ss) 4096

-- a set in its place
unfoldable pub insert_set : Set → List Set → List Set
insert_set s [] = s ∷ []
insert_set s (t ∷ ss) = cond (is_before s.name s.kind t) (t ∷ insert_set s ss) (s ∷ t ∷ ss)

-- a set more, or the lowest fault
abbrev pub added : List (List ℕ) → List Set → Set → Result (List Set) Fault
added apex ss s =
    cond (not (within apex s.name)) (Err Misplaced)
    (cond (is_some (find (is_exactly s.name s.kind) ss)) (Err Misplaced)
    (cond (delegates s.kind && same s.name apex) (Err Conflict)
    (cond (clashes s ss) (Err Conflict)
    (cond (nat_le 4096 (length ss)) (Err TooMuch) (Ok (insert_set s ss))))))
