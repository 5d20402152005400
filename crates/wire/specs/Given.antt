-- What the code's packets stand for, and what it is to read and to write one.
use Rattle.std.specs.Prelude.{◌≡◌, ℕ, ◌<◌, ◌≤◌, ◌⊎◌, cond, List, ◌++◌, length, drop, Some, None, Ok, Err, Option, Result, nat_le}
use Rattle.names.specs.declared.fault.Fault.{Fault}
use Rattle.names.specs.declared.fault.Fault.TheVariants.{NoMemory, Malformed}
use Rattle.names.specs.Names.{labels}
use Rattle.wire.specs.declared.buffer.Buffer.{Buffer}
use Rattle.wire.specs.declared.query.QueryPacket.{QueryPacket}
use Rattle.wire.specs.Packets.{Query}

-- ---- reading

-- what a shape says, if there is one
abbrev pub shaped : {S A : Type 0} → (S → Result A Fault) → Option S → Result A Fault
shaped f None = Err Malformed
shaped f (Some s) = f s

-- what is due, or that memory ended
abbrev pub Reads : {A X : Type 0} → (X → A) → Result A Fault → Result X Fault → Type 0
Reads of due (Ok x) = due ≡ Ok (of x)
Reads of due (Err f) = (due ≡ Err f) ⊎ (f ≡ NoMemory)

-- ---- writing

-- what is written so far, unless it is too long for a packet
abbrev pub written : Buffer → Option (List ℕ)
written b = cond b.overflown None (Some b.bytes.items)

abbrev pub short_enough : List ℕ → Option (List ℕ)
short_enough bs = cond (nat_le (length bs) 1200) (Some bs) None

-- with this behind it
unfoldable pub joined : Option (List ℕ) → List ℕ → Option (List ℕ)
joined None bs = None
joined (Some front) bs = short_enough (front ++ bs)

-- all of it behind what is there, or nothing: where memory ends, or where it is too long for a packet
abbrev pub Writes : List ℕ → List ℕ → Result Unit Fault → List ℕ → Type 0
Writes before due (Ok u) after = (length due ≤ 1200) × (after ≡ before ++ due)
Writes before due (Err f) after = (after ≡ before) × ((f ≡ NoMemory) ⊎ ((f ≡ Malformed) × (1200 < length due)))

-- at the front of the free bytes, which stay as they are where there is no room
abbrev pub Fills : List ℕ → List ℕ → Option ℕ → List ℕ → Type 0
Fills before due (Some n) after = (n ≡ length due) × (length due ≤ 1200) × (after ≡ due ++ drop n before)
Fills before due None after = (after ≡ before) × ((1200 < length due) ⊎ (length before < length due))

-- ---- queries

abbrev pub query_of : QueryPacket → Query
query_of q = record { id = q.id.0; apex = labels q.apex; kind = q.kind.number; name = labels q.name }

abbrev pub query_given : Result QueryPacket Fault → Result Query Fault
query_given (Ok q) = Ok (query_of q)
query_given (Err f) = Err f
