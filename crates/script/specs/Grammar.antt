-- What a line of a script means. Assumes nothing.
use Rattle.std.specs.Prelude.{ℕ, nat_eq, Bool, cond, ◌&&◌, List, [], ◌∷◌, length, Some, None, Ok, Err, codes, Option, Result, nat_le}
use Rattle.std.specs.Cmp.Lexicographic.{pointwise}
use Rattle.names.specs.declared.fault.Fault.{Fault}
use Rattle.names.specs.declared.fault.Fault.TheVariants.{Malformed, BadName}
use Rattle.names.specs.Reading.{read_below}
use Rattle.lines.specs.Lines.{words, read_part, number_in}

-- a name is the list of its labels from the root down
pub data Meant : Type 0 where
  Nothing : Meant
  Zone : (file : List ℕ) → Meant
  Copy : (server : ℕ) → (name : List (List ℕ)) → Meant
  Ask : (asker : ℕ) → (name : List (List ℕ)) → (kind : ℕ) → Meant
  Bring : (packet : ℕ) → Meant
  Tick : Meant

abbrev pub same_word : List ℕ → List ℕ → Bool
same_word = pointwise nat_eq

-- a number from 1 to the most
abbrev pub within : ℕ → Option ℕ → Option ℕ
within most None = None
within most (Some n) = cond (nat_le 1 n && nat_le n most) (Some n) None

abbrev pub place_in : ℕ → List ℕ → Option ℕ
place_in most w = within most (number_in w)

abbrev pub tick_of : List (List ℕ) → Result Meant Fault
tick_of [] = Ok Tick
tick_of (w ∷ ws) = Err Malformed

abbrev pub zone_of : List (List ℕ) → Result Meant Fault
zone_of [] = Err Malformed
zone_of (file ∷ []) = Ok (Zone file)
zone_of (file ∷ w ∷ ws) = Err Malformed

abbrev pub brought : Option ℕ → Result Meant Fault
brought None = Err Malformed
brought (Some n) = Ok (Bring n)

abbrev pub bring_of : List (List ℕ) → Result Meant Fault
bring_of [] = Err Malformed
bring_of (n ∷ []) = brought (number_in n)
bring_of (n ∷ w ∷ ws) = Err Malformed

-- a server that isn't there is told before a bad name
abbrev pub copied : Option ℕ → Result (List (List ℕ)) Fault → Result Meant Fault
copied None n = Err Malformed
copied (Some s) (Err f) = Err f
copied (Some s) (Ok n) = Ok (Copy s n)

abbrev pub copy_of : List (List ℕ) → Result Meant Fault
copy_of [] = Err Malformed
copy_of (s ∷ []) = Err Malformed
copy_of (s ∷ n ∷ []) = copied (place_in 4 s) (read_below [] n)
copy_of (s ∷ n ∷ w ∷ ws) = Err Malformed

abbrev pub kind_from : Option ℕ → Result ℕ Fault
kind_from None = Err BadName
kind_from (Some k) = Ok k

-- a kind that is there
abbrev pub kind_in : List ℕ → Result ℕ Fault
kind_in w = kind_from (place_in 31 w)

-- an asker that isn't there is told before a bad name or kind
abbrev pub asked : Option ℕ → Result (List (List ℕ)) Fault → Option ℕ → Result Meant Fault
asked None n k = Err Malformed
asked (Some a) (Err f) k = Err f
asked (Some a) (Ok n) None = Err BadName
asked (Some a) (Ok n) (Some k) = Ok (Ask a n k)

abbrev pub ask_of : List (List ℕ) → Result Meant Fault
ask_of [] = Err Malformed
ask_of (a ∷ []) = Err Malformed
ask_of (a ∷ n ∷ []) = Err Malformed
ask_of (a ∷ n ∷ k ∷ []) = asked (place_in 12 a) (read_below [] n) (place_in 31 k)
ask_of (a ∷ n ∷ k ∷ w ∷ ws) = Err Malformed

-- the first word says what kind of line it is
abbrev pub meaning : List (List ℕ) → Result Meant Fault
meaning [] = Ok Nothing
meaning (w ∷ ws) =
    cond (same_word w (codes "tick")) (tick_of ws)
    (cond (same_word w (codes "zone")) (zone_of ws)
    (cond (same_word w (codes "bring")) (bring_of ws)
    (cond (same_word w (codes "copy")) (copy_of ws)
    (cond (same_word w (codes "ask")) (ask_of ws) (Err Malformed)))))

-- a line has at most 1,200 bytes, not counting a comment
abbrev pub line_meaning : List ℕ → Result Meant Fault
line_meaning line = cond (nat_le (length (read_part line)) 1200) (meaning (words (read_part line))) (Err Malformed)
