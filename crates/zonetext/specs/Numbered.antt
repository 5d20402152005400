-- The lines that are still to be read, and what reading the next one says.
use Rattle.std.specs.Prelude.{◌≡◌, ℕ, ◌+◌, ◌<◌, Bool, true, false, ◌⊎◌, List, [], ◌∷◌, map, length, vec_items, Some, None, Ok, Err, Result}
use Rattle.names.specs.declared.fault.Fault.TheVariants.{NoMemory, Malformed}
use Rattle.zonetext.specs.declared.numbered.Lines.{Lines}
use Rattle.zonetext.specs.declared.refusal.Said.{Said}
use Rattle.zonetext.specs.declared.refusal.Refusal as declared
use Rattle.zonetext.specs.Readings.{piece_of}
use Rattle.zonetext.specs.Texts.{Line, Refusal, lines_of, numbered}

abbrev pub lines_left : Lines → List (List ℕ)
lines_left x = lines_of x.rest.now

-- those that say something
abbrev pub said_left : Lines → List Line
said_left x = numbered x.number (lines_left x)

-- the number of the line behind the last one
abbrev pub end_of : Lines → ℕ
end_of x = x.number + length (lines_left x)

abbrev pub line_of : Said → Line
line_of s = record { number = s.number; pieces = Some (map piece_of (vec_items s.pieces)) }

abbrev pub refusal_of : declared.Refusal → Refusal
refusal_of r = record { line = r.line; fault = r.fault }

-- memory ended, or the line can't be divided
abbrev pub Undivided : List Line → declared.Refusal → List Line → Type 0
Undivided before r after = (r.fault ≡ NoMemory) ⊎ ((r.fault ≡ Malformed) × (before ≡ record { number = r.line; pieces = None } ∷ after))

-- the next line that says something, or none, at the end
abbrev pub SaysNext : List Line → Result Bool declared.Refusal → Said → List Line → ℕ → ℕ → Type 0
SaysNext before (Ok true) s after end number = before ≡ line_of s ∷ after
SaysNext before (Ok false) s after end number = (before ≡ []) × (number ≡ end)
SaysNext before (Err r) s after end number = Undivided before r after

abbrev pub Shorter : Result Bool declared.Refusal → Lines → Lines → Type 0
Shorter (Ok true) x y = length y.rest.now < length x.rest.now
Shorter (Ok false) x y = Unit {0}
Shorter (Err r) x y = Unit {0}

-- the next line that says something; where there is none, the line at the end is at fault
abbrev pub Requires : ℕ → List Line → Result Said declared.Refusal → List Line → Type 0
Requires end before (Ok s) after = before ≡ line_of s ∷ after
Requires end before (Err r) after = Undivided before r after ⊎ ((r.fault ≡ Malformed) × (before ≡ []) × (r.line ≡ end))
