-- Parts of transfers: what their bytes say, and the bytes of each. Assumes nothing.
use Rattle.std.specs.Prelude.{ℕ, ◌^◌, Bool, true, false, cond, ◌&&◌, ◌||◌, List, [], ◌∷◌, ◌++◌, length, Some, None, Ok, Err, Option, Result, ◌==◌, nat_le, nat_lt}
use Rattle.std.specs.Int.{w16, w32, w64, to_be_bytes}
use Rattle.names.specs.declared.fault.Fault.{Fault}
use Rattle.names.specs.declared.fault.Fault.TheVariants.{BadData, StaleSerial}
use Rattle.names.specs.Faults.{number_of}
use Rattle.names.specs.Labels.{proper}
use Rattle.names.specs.Names.{name_of}
use Rattle.names.specs.Reading.{read_name}
use Rattle.meaning.specs.Model.{is_kind, is_serial, delegates, aliases, Content, Addresses, Texts, Others, AliasOf, Delegated, fits, Set}
use Rattle.meaning.specs.Transfer.{all_transferred}
use Rattle.records.specs.Numbers.{kind_of}
use Rattle.records.specs.Sets.{set_from}
use Rattle.wire.specs.Cuts.{next}
use Rattle.wire.specs.Shapes.{SetShape, Times, Head, PartShape}

pub record Part : Type 0 where
  pub head : Head
  pub sets : List Set

-- ---- what the sets of a part say

-- each an address of 8 bytes
abbrev pub are_addresses : List (List ℕ) → Bool
are_addresses [] = true
are_addresses (p ∷ ps) = length p == 8 && are_addresses ps

abbrev pub addresses_from : (List (List ℕ) → Content) → List (List ℕ) → Result Content Fault
addresses_from f ps = cond (are_addresses ps) (Ok (f ps)) (Err BadData)

-- each piece must be a name as it is written: the last one, or the name before all
unfoldable pub last_name : List (List ℕ) → List (List ℕ) → Result (List (List ℕ)) Fault
last_name n [] = Ok n
last_name n (p ∷ ps) = next (read_name p) (λ m. last_name m ps)

-- one name; a piece that is none is told before a wrong count
abbrev pub alias_of : List (List ℕ) → Result (List (List ℕ)) Fault
alias_of ps = next (last_name [] ps) (λ n. cond (length ps == 1) (Ok n) (Err BadData))

abbrev pub alias_to : Result (List (List ℕ)) Fault → Result Content Fault
alias_to (Ok n) = Ok (AliasOf n)
alias_to (Err f) = Err f

-- data in the form of their kind
abbrev pub content_in : ℕ → List (List ℕ) → Result Content Fault
content_in k ps =
    cond (k == 1) (addresses_from Addresses ps)
    (cond (k == 2) (Ok (Texts ps))
    (cond (delegates k) (addresses_from (λ xs. Delegated (record { servers = xs })) ps)
    (cond (aliases k) (alias_to (alias_of ps)) (Ok (Others ps)))))

unfoldable pub set_in : SetShape → Result Set Fault
set_in s =
    next (name_of s.name) (λ name.
    next (kind_of s.kind) (λ kind.
    next (content_in kind s.pieces) (λ c. set_from name kind s.ttl c)))

abbrev pub earlier : Option ℕ → Option ℕ → Bool
earlier None o = true
earlier (Some a) None = false
earlier (Some a) (Some b) = nat_le a b

abbrev pub lower : Fault → Fault → Fault
lower f g = cond (earlier (number_of f) (number_of g)) f g

-- with one set more, or the lowest fault of all
abbrev pub with_set : Result (List Set) Fault → Result Set Fault → Result (List Set) Fault
with_set (Ok ss) (Ok s) = Ok (ss ++ s ∷ [])
with_set (Ok ss) (Err g) = Err g
with_set (Err f) (Ok s) = Err f
with_set (Err f) (Err g) = Err (lower f g)

unfoldable pub with_sets : Result (List Set) Fault → List SetShape → Result (List Set) Fault
with_sets r [] = r
with_sets r (s ∷ ss) = with_sets (with_set r (set_in s)) ss

abbrev pub all_sets : List SetShape → Result (List Set) Fault
all_sets ss = with_sets (Ok []) ss

-- a part of a zone has the zone's serial, which is never 0
unfoldable pub part_in : PartShape → Result Part Fault
part_in s = next (all_sets s.sets) (λ ss. cond (is_serial s.head.serial) (Ok (record { head = s.head; sets = ss })) (Err StaleSerial))

-- ---- bytes

abbrev pub times_bytes : Times → List ℕ
times_bytes t = to_be_bytes w32 t.negative ++ (to_be_bytes w32 t.refresh ++ to_be_bytes w32 t.expire)

abbrev pub head_bytes : Head → List ℕ
head_bytes h =
    to_be_bytes w64 h.id ++ (to_be_bytes w64 h.serial ++ (to_be_bytes w64 h.moment ++
    (times_bytes h.times ++ (to_be_bytes w16 h.part ++ to_be_bytes w16 h.of))))

unfoldable pub part_bytes : Part → List ℕ
part_bytes p = 4 ∷ (head_bytes p.head ++ all_transferred p.sets)

-- ---- rules

abbrev pub times_keep : Times → Bool
times_keep t = nat_lt t.negative (2 ^ 32) && nat_lt t.refresh (2 ^ 32) && nat_lt t.expire (2 ^ 32)

abbrev pub head_keeps : Head → Bool
head_keeps h =
    nat_lt h.id (2 ^ 64) && nat_lt h.serial (2 ^ 64) && is_serial h.serial && nat_lt h.moment (2 ^ 64)
    && times_keep h.times && nat_lt h.part (2 ^ 16) && nat_lt h.of (2 ^ 16)

abbrev pub content_keeps : Content → Bool
content_keeps (Addresses ps) = are_addresses ps
content_keeps (Texts ps) = true
content_keeps (Others ps) = true
content_keeps (AliasOf n) = proper n
content_keeps (Delegated d) = are_addresses d.servers

abbrev pub set_keeps : Set → Bool
set_keeps s = proper s.name && is_kind s.kind && nat_lt s.ttl (2 ^ 32) && fits s.kind s.content && content_keeps s.content

abbrev pub sets_keep : List Set → Bool
sets_keep [] = true
sets_keep (s ∷ ss) = set_keeps s && sets_keep ss

-- a part of none has no sets
abbrev pub sets_belong : Head → List Set → Bool
sets_belong h ss = nat_le 1 h.of || length ss == 0

-- as many sets as fit
abbrev pub part_keeps : Part → Bool
part_keeps p = head_keeps p.head && sets_keep p.sets && sets_belong p.head p.sets && nat_le (length (part_bytes p)) 1200
