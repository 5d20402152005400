-- What the text of a zone means: its lines in their order, each with its meaning or its lowest fault. Assumes nothing.
use Rattle.std.specs.Prelude.{ℕ, suc, Bool, true, false, cond, ◌&&◌, List, [], ◌∷◌, length, Some, None, Ok, Err, codes, Option, Result, ◌==◌, nat_eq, nat_le}
use Rattle.std.specs.Cmp.Lexicographic.{pointwise}
use Rattle.names.specs.declared.fault.Fault.{Fault}
use Rattle.names.specs.declared.fault.Fault.TheVariants.{Malformed, StaleSerial, TooMuch}
use Rattle.meaning.specs.Model.{Set, Zone, newer}
use Rattle.meaning.specs.Says.{same}
use Rattle.meaning.specs.Transfer.{all_transferred}
use Rattle.zones.specs.Valid.{added}
use Rattle.zones.specs.Zones.{with_sets}
use Rattle.zonetext.specs.Division.{Piece, Word, Text, pieces_of}
use Rattle.zonetext.specs.Fields.{number_of, seconds_of, name_of, set_of}

-- ---- lines

abbrev pub push : ℕ → List (List ℕ) → List (List ℕ)
push b [] = (b ∷ []) ∷ []
push b (l ∷ ls) = (b ∷ l) ∷ ls

-- a line ends with a line end, the last one with the text too
unfoldable pub lines_of : List ℕ → List (List ℕ)
lines_of [] = []
lines_of (b ∷ bs) = cond (b == 10) ([] ∷ lines_of bs) (push b (lines_of bs))

-- the pieces of a line, by its number; none where it can't be divided
pub record Line : Type 0 where
  pub number : ℕ
  pub pieces : Option (List Piece)

abbrev pub unless_blank : ℕ → Option (List Piece) → List Line → List Line
unless_blank n None ls = record { number = n; pieces = None } ∷ ls
unless_blank n (Some []) ls = ls
unless_blank n (Some (p ∷ ps)) ls = record { number = n; pieces = Some (p ∷ ps) } ∷ ls

-- those that say something, from a number on
unfoldable pub numbered : ℕ → List (List ℕ) → List Line
numbered n [] = []
numbered n (l ∷ ls) = unless_blank n (pieces_of l) (numbered (suc n) ls)

-- ---- a line alone

abbrev pub is_verb : List ℕ → Piece → Bool
is_verb v (Word w) = pointwise nat_eq w v
is_verb v (Text t) = false

-- the fields of a line that begins with this word
abbrev pub fields : List ℕ → Option (List Piece) → Option (List Piece)
fields v None = None
fields v (Some []) = None
fields v (Some (p ∷ ps)) = cond (is_verb v p) (Some ps) None

-- the apex is whole, its last dot optional
abbrev pub top_of : Option (List Piece) → Result (List (List ℕ)) Fault
top_of None = Err Malformed
top_of (Some []) = Err Malformed
top_of (Some (n ∷ [])) = name_of [] n
top_of (Some (n ∷ p ∷ ps)) = Err Malformed

-- newer than the zone that was there, if that has the same apex
abbrev pub renews : Option Zone → List (List ℕ) → ℕ → Bool
renews None apex n = true
renews (Some z) apex n = cond (same z.apex apex) (newer n z.serial) true

abbrev pub serial_from : Option Zone → List (List ℕ) → Option ℕ → Result ℕ Fault
serial_from old apex None = Err Malformed
serial_from old apex (Some n) = cond (nat_le 1 n && renews old apex n) (Ok n) (Err StaleSerial)

abbrev pub serial_of : Option Zone → List (List ℕ) → Option (List Piece) → Result ℕ Fault
serial_of old apex None = Err Malformed
serial_of old apex (Some []) = Err Malformed
serial_of old apex (Some (n ∷ [])) = serial_from old apex (number_of n)
serial_of old apex (Some (n ∷ p ∷ ps)) = Err Malformed

pub record Times : Type 0 where
  pub negative : ℕ
  pub refresh : ℕ
  pub expire : ℕ

abbrev pub times_from : Option ℕ → Option ℕ → Option ℕ → Result Times Fault
times_from None b c = Err Malformed
times_from (Some a) None c = Err Malformed
times_from (Some a) (Some b) None = Err Malformed
times_from (Some a) (Some b) (Some c) = Ok (record { negative = a; refresh = b; expire = c })

abbrev pub times_of : Option (List Piece) → Result Times Fault
times_of None = Err Malformed
times_of (Some []) = Err Malformed
times_of (Some (a ∷ [])) = Err Malformed
times_of (Some (a ∷ b ∷ [])) = Err Malformed
times_of (Some (a ∷ b ∷ c ∷ [])) = times_from (seconds_of a) (seconds_of b) (seconds_of c)
times_of (Some (a ∷ b ∷ c ∷ p ∷ ps)) = Err Malformed

abbrev pub set_in : List (List ℕ) → Option (List Piece) → Result Set Fault
set_in apex None = Err Malformed
set_in apex (Some []) = Err Malformed
set_in apex (Some (n ∷ [])) = Err Malformed
set_in apex (Some (n ∷ k ∷ [])) = Err Malformed
set_in apex (Some (n ∷ k ∷ t ∷ ps)) = set_of apex n k t ps

-- ---- the zone, line by line

-- the first faulty line, and its lowest fault
pub record Refusal : Type 0 where
  pub line : ℕ
  pub fault : Fault

abbrev pub then : {A B : Type 0} → ℕ → Result A Fault → (A → Result B Refusal) → Result B Refusal
then n (Ok x) f = f x
then n (Err e) f = Err (record { line = n; fault = e })

-- one set more, within 1 MiB of a transfer
abbrev pub within_room : Zone → Result (List Set) Fault → Result Zone Fault
within_room z (Err f) = Err f
within_room z (Ok ss) = cond (nat_le (length (all_transferred ss)) 1048576) (Ok (with_sets z ss)) (Err TooMuch)

abbrev pub with_set : Zone → Result Set Fault → Result Zone Fault
with_set z (Err f) = Err f
with_set z (Ok s) = within_room z (added z.apex z.sets s)

unfoldable pub with_lines : Zone → List Line → Result Zone Refusal
with_lines z [] = Ok z
with_lines z (l ∷ ls) = then l.number (with_set z (set_in z.apex (fields (codes "set") l.pieces))) (λ y. with_lines y ls)

-- a line that has to be there is faulty behind the last line where the text ends before it
abbrev pub with_next : {A : Type 0} → ℕ → List Line → (Option (List Piece) → Result A Fault) → (A → List Line → Result Zone Refusal) → Result Zone Refusal
with_next end [] f go = Err (record { line = end; fault = Malformed })
with_next end (l ∷ ls) f go = then l.number (f l.pieces) (λ x. go x ls)

abbrev pub zone_with : List (List ℕ) → ℕ → Times → Zone
zone_with a n t = record { apex = a; serial = n; negative = t.negative; refresh = t.refresh; expire = t.expire; sets = [] }

abbrev pub zone_in : Option Zone → ℕ → List Line → Result Zone Refusal
zone_in old end ls =
    with_next end ls (λ o. top_of (fields (codes "top") o)) (λ apex ms.
    with_next end ms (λ o. serial_of old apex (fields (codes "number") o)) (λ n ns.
    with_next end ns (λ o. times_of (fields (codes "times") o)) (λ t rest. with_lines (zone_with apex n t) rest)))

-- the apex of a text, by its first line that says something
abbrev pub top_from : ℕ → List Line → Result (List (List ℕ)) Refusal
top_from end [] = Err (record { line = end; fault = Malformed })
top_from end (l ∷ ls) = then l.number (top_of (fields (codes "top") l.pieces)) (λ a. Ok a)

unfoldable pub top_in : List ℕ → Result (List (List ℕ)) Refusal
top_in text = top_from (suc (length (lines_of text))) (numbered 1 (lines_of text))

-- what a text means, beside the zone that was there
unfoldable pub text_meaning : Option Zone → List ℕ → Result Zone Refusal
text_meaning old text = zone_in old (suc (length (lines_of text))) (numbered 1 (lines_of text))
