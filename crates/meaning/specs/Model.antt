-- Zones as lists: record sets, the zone, and which of them are valid. Assumes nothing.
use Rattle.std.specs.Prelude.{ℕ, ◌+◌, Bool, true, not, ◌&&◌, ◌||◌, List, [], ◌∷◌, length, ◌==◌, nat_le, nat_lt}

-- a kind is a number from 1 to 31
abbrev pub is_kind : ℕ → Bool
is_kind k = nat_le 1 k && nat_le k 31

-- two classes of kinds mean more than their data
abbrev pub delegates : ℕ → Bool
delegates k = k == 4

abbrev pub aliases : ℕ → Bool
aliases k = k == 5

-- a serial is never 0, and a larger one is newer
abbrev pub is_serial : ℕ → Bool
is_serial n = nat_le 1 n

abbrev pub newer : ℕ → ℕ → Bool
newer a b = nat_lt b a

-- the servers of the zone whose apex is the delegation's name, each an address of 8 bytes
pub record Delegation : Type 0 where
  pub servers : List (List ℕ)

pub data Content : Type 0 where
  Addresses : (pieces : List (List ℕ)) → Content
  Texts : (pieces : List (List ℕ)) → Content
  Others : (pieces : List (List ℕ)) → Content
  AliasOf : (name : List (List ℕ)) → Content
  Delegated : (to : Delegation) → Content

-- the bytes of all pieces together, not counting their lengths
abbrev pub total : List (List ℕ) → ℕ
total [] = 0
total (p ∷ ps) = length p + total ps

abbrev pub short : List (List ℕ) → Bool
short [] = true
short (p ∷ ps) = nat_le (length p) 255 && short ps

-- at most 16 pieces, each of at most 255 bytes, and 600 bytes together
abbrev pub pieces_fit : List (List ℕ) → Bool
pieces_fit ps = nat_le (length ps) 16 && short ps && nat_le (total ps) 600

-- a kind whose data are bytes that mean nothing here
abbrev pub plain : ℕ → Bool
plain k = not (k == 1 || k == 2 || delegates k || aliases k)

-- do data fit their kind
abbrev pub fits : ℕ → Content → Bool
fits k (Addresses ps) = k == 1 && nat_le (length ps) 16
fits k (Texts ps) = k == 2 && pieces_fit ps
fits k (Others ps) = plain k && pieces_fit ps
fits k (AliasOf n) = aliases k
fits k (Delegated d) = delegates k && nat_le 1 (length d.servers) && nat_le (length d.servers) 16

-- all that stands at a name under one kind
pub record Set : Type 0 where
  pub name : List (List ℕ)
  pub kind : ℕ
  pub ttl : ℕ
  pub content : Content

-- negative: how long it may be remembered that something isn't there; refresh: how often a copy is looked at anew;
-- expire: how long a copy is good
pub record Zone : Type 0 where
  pub apex : List (List ℕ)
  pub serial : ℕ
  pub negative : ℕ
  pub refresh : ℕ
  pub expire : ℕ
  pub sets : List Set
