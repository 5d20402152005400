-- How parts of a transfer are put together to a zone, whatever the order in which they come. Assumes nothing.
use Rattle.std.specs.Prelude.{ℕ, zero, suc, ◌+◌, Bool, true, false, cond, not, ◌&&◌, ◌||◌, List, [], ◌∷◌, length, is_some, Ok, Err, Result, ◌==◌, nat_le, nat_lt}
use Rattle.std.specs.List.{list_any}
use Rattle.names.specs.declared.fault.Fault.{Fault}
use Rattle.names.specs.declared.fault.Fault.TheVariants.{Misplaced, Conflict, TooMuch, BadTransfer}
use Rattle.names.specs.Order.{within}
use Rattle.meaning.specs.Model.{delegates, Set, Zone}
use Rattle.meaning.specs.Says.{same, is_exactly, find}
use Rattle.zones.specs.Valid.{clashes, no_clash, insert_set, added}
use Rattle.wire.specs.Cuts.{next}
use Rattle.wire.specs.Parts.{Part}
use Rattle.wire.specs.Shapes.{Times}

-- ---- sets beside those that are there

-- another set of this name and kind
abbrev pub stands : List Set → Set → Bool
stands old s = is_some (find (is_exactly s.name s.kind) old)

abbrev pub any_outside : List (List ℕ) → List Set → Bool
any_outside apex = list_any (λ s. not (within apex s.name))

abbrev pub any_stands : List Set → List Set → Bool
any_stands old = list_any (stands old)

abbrev pub any_twice : List Set → Bool
any_twice [] = false
any_twice (s ∷ ss) = stands ss s || any_twice ss

abbrev pub any_cut_at : List (List ℕ) → List Set → Bool
any_cut_at apex = list_any (λ s. delegates s.kind && same s.name apex)

abbrev pub any_clash : List Set → List Set → Bool
any_clash old = list_any (λ s. clashes s old)

unfoldable pub insert_all : List Set → List Set → List Set
insert_all [] old = old
insert_all (s ∷ ss) old = insert_all ss (insert_set s old)

-- all of them beside those that are there, or the lowest fault of all
unfoldable pub joined : List (List ℕ) → List Set → List Set → Result (List Set) Fault
joined apex old new =
    cond (any_outside apex new || any_twice new || any_stands old new) (Err Misplaced)
    (cond (any_cut_at apex new || not (no_clash new) || any_clash old new) (Err Conflict)
    (cond (nat_lt 4096 (length old + length new)) (Err TooMuch) (Ok (insert_all new old))))

-- the same one by one, as a zone takes them
unfoldable pub added_all : List (List ℕ) → List Set → List Set → Result (List Set) Fault
added_all apex old [] = Ok old
added_all apex old (s ∷ ss) = next (added apex old s) (λ more. added_all apex more ss)

-- ---- a transfer under way

-- of which version of the zone, which of its parts are there, the first one first, and their sets
pub record Joining : Type 0 where
  pub apex : List (List ℕ)
  pub serial : ℕ
  pub moment : ℕ
  pub times : Times
  pub there : List Bool
  pub sets : List Set

abbrev pub same_times : Times → Times → Bool
same_times a b = a.negative == b.negative && a.refresh == b.refresh && a.expire == b.expire

abbrev pub has_sets : Part → Bool
has_sets p = not (length p.sets == 0)

-- parts are counted from 1, and of several none is without sets
abbrev pub is_counted : Part → Bool
is_counted p = nat_le 1 p.head.part && nat_le p.head.part p.head.of && (p.head.of == 1 || has_sets p)

-- of the same version, cut into as many
abbrev pub belongs_to : Joining → Part → Bool
belongs_to j p =
    p.head.serial == j.serial && p.head.moment == j.moment && same_times p.head.times j.times
    && p.head.of == length j.there && is_counted p

-- the first is number 1
unfoldable pub is_there : List Bool → ℕ → Bool
is_there [] n = false
is_there (b ∷ bs) zero = false
is_there (b ∷ bs) (suc zero) = b
is_there (b ∷ bs) (suc (suc n)) = is_there bs (suc n)

unfoldable pub marked : List Bool → ℕ → List Bool
marked [] n = []
marked (b ∷ bs) zero = b ∷ bs
marked (b ∷ bs) (suc zero) = true ∷ bs
marked (b ∷ bs) (suc (suc n)) = b ∷ marked bs (suc n)

unfoldable pub none_there : ℕ → List Bool
none_there zero = []
none_there (suc n) = false ∷ none_there n

abbrev pub is_complete : List Bool → Bool
is_complete [] = true
is_complete (b ∷ bs) = b && is_complete bs

-- how many are missing
abbrev pub absent : List Bool → ℕ
absent [] = 0
absent (b ∷ bs) = cond b (absent bs) (absent bs + 1)

-- with this part's sets
abbrev pub with_part : Joining → Part → List Set → Joining
with_part j p ss = record { apex = j.apex; serial = j.serial; moment = j.moment; times = j.times; there = marked j.there p.head.part; sets = ss }

-- nothing is there yet
abbrev pub begun : List (List ℕ) → Part → Joining
begun apex p = record { apex = apex; serial = p.head.serial; moment = p.head.moment; times = p.head.times; there = none_there p.head.of; sets = [] }

-- the first part that comes tells the version, and as many as there are
unfoldable pub begin : List (List ℕ) → Part → Result Joining Fault
begin apex p =
    next (joined apex [] p.sets) (λ ss.
    cond (nat_lt 4096 p.head.of) (Err TooMuch)
    (cond (is_counted p) (Ok (with_part (begun apex p) p ss)) (Err BadTransfer)))

-- faults of the part alone go before one that is of another version; one that is there already changes nothing
unfoldable pub take : Part → Joining → Result Joining Fault
take p j =
    cond (belongs_to j p)
    (cond (is_there j.there p.head.part)
    (next (joined j.apex [] p.sets) (λ ss. Ok j))
    (next (joined j.apex j.sets p.sets) (λ ss. Ok (with_part j p ss))))
    (next (joined j.apex [] p.sets) (λ ss. Err BadTransfer))

-- the zone, once all parts are there
abbrev pub zone_in : Joining → Zone
zone_in j = record { apex = j.apex; serial = j.serial; negative = j.times.negative; refresh = j.times.refresh; expire = j.times.expire; sets = j.sets }

-- ---- one part after the other

unfoldable pub take_all : List Part → Joining → Result Joining Fault
take_all [] j = Ok j
take_all (p ∷ ps) j = next (take p j) (λ k. take_all ps k)

abbrev pub join : List (List ℕ) → Part → List Part → Result Joining Fault
join apex p ps = next (begin apex p) (λ j. take_all ps j)
