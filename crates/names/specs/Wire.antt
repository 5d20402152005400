-- A name on the wire. Assumes nothing.
use Rattle.std.specs.Prelude.{◌≡◌, ℕ, zero, suc, true, cond, List, [], ◌∷◌, ◌++◌, length, take, drop, Some, None, Ok, Err, Option, Result, nat_le}
use Rattle.names.specs.declared.fault.Fault.{Fault}
use Rattle.names.specs.declared.fault.Fault.TheVariants.{Malformed, BadName}
use Rattle.names.specs.Labels.{proper}

-- each label behind its length
unfoldable pub wire_labels : List (List ℕ) → List ℕ
wire_labels [] = []
wire_labels (l ∷ ls) = length l ∷ (l ++ wire_labels ls)

-- the number of labels, then the labels from the root down
unfoldable pub wire : List (List ℕ) → List ℕ
wire ls = length ls ∷ wire_labels ls

-- a call that writes behind what is there: all that is due, or, where memory ends, a part, and what was there is kept
abbrev pub Appends : {A E : Type 0} → List ℕ → List ℕ → Result A E → List ℕ → Type 0
Appends before due (Ok a) after = after ≡ before ++ due
Appends before due (Err e) after = (part : List ℕ) × (after ≡ before ++ part)

-- the label at the front and what follows it, unless the bytes are cut short
abbrev pub cut_label : List ℕ → Option (List ℕ × List ℕ)
cut_label [] = None
cut_label (n ∷ bs) = cond (nat_le n (length bs)) (Some (take n bs, drop n bs)) None

-- with labels that were cut before
abbrev pub behind : List (List ℕ) → Option (List (List ℕ) × List ℕ) → Option (List (List ℕ) × List ℕ)
behind ls None = None
behind ls (Some p) = Some (ls ++ p.0, p.1)

-- that many labels from the front, whatever they hold, and what follows them
unfoldable pub cut_labels : ℕ → List ℕ → Option (List (List ℕ) × List ℕ)
cut_labels zero bs = Some ([], bs)
cut_labels (suc n) [] = None
cut_labels (suc n) (len ∷ bs) = cond (nat_le len (length bs)) (behind (take len bs ∷ []) (cut_labels n (drop len bs))) None

-- what is cut short is told before what is no name
abbrev pub judged : Option (List (List ℕ) × List ℕ) → Result (List (List ℕ) × List ℕ) Fault
judged None = Err Malformed
judged (Some p) = cond (proper p.0) (Ok p) (Err BadName)

-- a name from the front of the bytes, and what follows it
unfoldable pub read_wire : List ℕ → Result (List (List ℕ) × List ℕ) Fault
read_wire [] = Err Malformed
read_wire (n ∷ bs) = judged (cut_labels n bs)

-- the two parts of what was read: the name or the fault, and what is still to be read
abbrev pub name_read : Result (List (List ℕ) × List ℕ) Fault → Result (List (List ℕ)) Fault
name_read (Ok p) = Ok p.0
name_read (Err f) = Err f

abbrev pub rest_read : Result (List (List ℕ) × List ℕ) Fault → List ℕ → List ℕ
rest_read (Ok p) bs = p.1
rest_read (Err f) bs = bs

-- reading and writing undo each other
pub record WireLaws : Type 0 where
  pub reads_wire : (ls : List (List ℕ)) (rest : List ℕ) → proper ls ≡ true → read_wire (wire ls ++ rest) ≡ Ok (ls, rest)
  pub wire_read : (bs : List ℕ) (ls : List (List ℕ)) (rest : List ℕ) → read_wire bs ≡ Ok (ls, rest) → wire ls ++ rest ≡ bs
