-- What is cut off the front of a packet: numbers, and lists of pieces behind their lengths. Assumes nothing.
use Rattle.std.specs.Prelude.{ℕ, Bool, cond, ◌&&◌, List, [], ◌∷◌, length, take, drop, Some, None, Ok, Err, Option, Result, nat_le}
use Rattle.std.specs.Int.{Width, byte_len, from_be_bytes}
use Rattle.names.specs.declared.fault.Fault.{Fault}
use Rattle.names.specs.Wire.{cut_labels}

-- ---- each with what follows it, unless the bytes are cut short

unfoldable pub cut_byte : List ℕ → Option (ℕ × List ℕ)
cut_byte [] = None
cut_byte (b ∷ bs) = Some (b, bs)

-- the high byte first
unfoldable pub cut_number : Width → List ℕ → Option (ℕ × List ℕ)
cut_number w bs = cond (nat_le (byte_len w) (length bs)) (Some (from_be_bytes w (take (byte_len w) bs), drop (byte_len w) bs)) None

-- how many, and each behind its length; of the labels of a name, whatever they hold, as of pieces
unfoldable pub cut_list : List ℕ → Option (List (List ℕ) × List ℕ)
cut_list [] = None
cut_list (n ∷ bs) = cut_labels n bs

-- a name that is there only sometimes; the root stands for none
unfoldable pub cut_list_if : Bool → List ℕ → Option (List (List ℕ) × List ℕ)
cut_list_if b bs = cond b (cut_list bs) (Some ([], bs))

-- ---- one after the other

unfoldable pub then : {A B : Type 0} → Option (A × List ℕ) → (A → List ℕ → Option B) → Option B
then None f = None
then (Some p) f = f p.0 p.1

-- what was cut off, judged step by step
unfoldable pub next : {A B : Type 0} → Result A Fault → (A → Result B Fault) → Result B Fault
next (Ok x) f = f x
next (Err e) f = Err e

-- what a response is: a number from 1 to 7
unfoldable pub cut_what : List ℕ → Option (ℕ × List ℕ)
cut_what bs = then (cut_byte bs) (λ what rest. cond (nat_le 1 what && nat_le what 7) (Some (what, rest)) None)

-- nothing may be left over
unfoldable pub at_end : {A : Type 0} → A → List ℕ → Option A
at_end x [] = Some x
at_end x (b ∷ bs) = None
