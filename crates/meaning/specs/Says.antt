-- What a zone says of a name and a kind. Assumes nothing.
use Rattle.std.specs.Prelude.{◌≡◌, ℕ, ◌<◌, ◌≤◌, Bool, true, false, cond, ◌&&◌, ◌||◌, List, [], ◌∷◌, length, Some, None, Option, ◌==◌, nat_le, nat_lt}
use mathlib.Core.List.{Memᴰ}
use Rattle.names.specs.Order.{within}
use Rattle.meaning.specs.Model.{delegates, aliases, Content, Set, Zone}

-- what spoke; what it says, and for how long that may be remembered, follow from it
pub data Speaker : Type 0 where
  ByDelegation : (set : Set) → Speaker
  BySet : (set : Set) → Speaker
  ByAlias : (set : Set) → Speaker
  NoData : Speaker
  NoName : Speaker

-- ---- the rules, of a name q and a kind k

-- a delegation at the name or above it, and below the apex
pub record Over (z : Zone) (q : List (List ℕ)) (s : Set) : Type 0 where
  pub there : Memᴰ s z.sets
  pub delegation : delegates s.kind ≡ true
  pub above : within s.name q ≡ true
  pub below_apex : length z.apex < length s.name

-- the set of this kind at the name
pub record Exactly (z : Zone) (q : List (List ℕ)) (k : ℕ) (s : Set) : Type 0 where
  pub there : Memᴰ s z.sets
  pub name_is : s.name ≡ q
  pub kind_is : s.kind ≡ k

-- an alias at the name
pub record AliasAt (z : Zone) (q : List (List ℕ)) (s : Set) : Type 0 where
  pub there : Memᴰ s z.sets
  pub name_is : s.name ≡ q
  pub alias : aliases s.kind ≡ true

-- a set at the name or below it
pub record Under (z : Zone) (q : List (List ℕ)) (s : Set) : Type 0 where
  pub there : Memᴰ s z.sets
  pub below : within q s.name ≡ true

abbrev pub No : (Set → Type 0) → Type 0
No P = (s : Set) → P s → ⊥

-- the first that fits
pub data Rule (z : Zone) (q : List (List ℕ)) (k : ℕ) : Speaker → Type 0 where
  -- of several delegations on the way, the highest
  refers : (s : Set) → Over z q s → ((t : Set) → Over z q t → length s.name ≤ length t.name) → Rule z q k (ByDelegation s)
  tells : (s : Set) → No (Over z q) → Exactly z q k s → Rule z q k (BySet s)
  points : (s : Set) → No (Over z q) → No (Exactly z q k) → AliasAt z q s → Rule z q k (ByAlias s)
  empty : (s : Set) → No (Over z q) → No (Exactly z q k) → No (AliasAt z q) → Under z q s → Rule z q k NoData
  absent : No (Over z q) → No (Exactly z q k) → No (AliasAt z q) → No (Under z q) → Rule z q k NoName

-- ---- the same as a function

-- the same name
abbrev pub same : List (List ℕ) → List (List ℕ) → Bool
same a b = length a == length b && within a b

abbrev pub is_over : List (List ℕ) → List (List ℕ) → Set → Bool
is_over apex q s = delegates s.kind && within s.name q && nat_lt (length apex) (length s.name)

abbrev pub is_exactly : List (List ℕ) → ℕ → Set → Bool
is_exactly q k s = same s.name q && s.kind == k

abbrev pub is_alias_at : List (List ℕ) → Set → Bool
is_alias_at q s = same s.name q && aliases s.kind

-- the first set that passes a test
unfoldable pub find : (Set → Bool) → List Set → Option Set
find test [] = None
find test (s ∷ ss) = cond (test s) (Some s) (find test ss)

abbrev pub shorter : Set → Option Set → Set
shorter s None = s
shorter s (Some t) = cond (nat_le (length s.name) (length t.name)) s t

-- of the sets that pass a test, one with the fewest labels
unfoldable pub highest : (Set → Bool) → List Set → Option Set
highest test [] = None
highest test (s ∷ ss) = cond (test s) (Some (shorter s (highest test ss))) (highest test ss)

unfoldable pub any_under : List (List ℕ) → List Set → Bool
any_under q [] = false
any_under q (s ∷ ss) = within q s.name || any_under q ss

-- the one that was found speaks, else the next rule
abbrev pub or_else : (Set → Speaker) → Option Set → Speaker → Speaker
or_else by None next = next
or_else by (Some s) next = by s

unfoldable pub speaker : Zone → List (List ℕ) → ℕ → Speaker
speaker z q k =
    or_else ByDelegation (highest (is_over z.apex q) z.sets)
    (or_else BySet (find (is_exactly q k) z.sets)
    (or_else ByAlias (find (is_alias_at q) z.sets)
    (cond (any_under q z.sets) NoData NoName)))

-- a zone speaks of the names within its apex
unfoldable pub says : Zone → List (List ℕ) → ℕ → Option Speaker
says z q k = cond (within z.apex q) (Some (speaker z q k)) None

-- a zone has one set of a name and kind
abbrev pub Distinct : Zone → Type 0
Distinct z = (s t : Set) → Memᴰ s z.sets → Memᴰ t z.sets → s.name ≡ t.name → s.kind ≡ t.kind → s ≡ t

-- the same sets, in whatever order
abbrev pub SameSets : Zone → Zone → Type 0
SameSets y z = (s : Set) → (Memᴰ s y.sets → Memᴰ s z.sets) × (Memᴰ s z.sets → Memᴰ s y.sets)

pub record SaysMeans : Type 0 where
  -- the function's answer is one of the rules'
  pub sound : (z : Zone) (q : List (List ℕ)) (k : ℕ) → Rule z q k (speaker z q k)
  -- there is only one
  pub unique : (z : Zone) → Distinct z → (q : List (List ℕ)) (k : ℕ) (a b : Speaker) → Rule z q k a → Rule z q k b → a ≡ b
  -- so the order of the sets doesn't matter
  pub unordered : (y z : Zone) → Distinct z → y.apex ≡ z.apex → SameSets y z → (q : List (List ℕ)) (k : ℕ) → says y q k ≡ says z q k

-- ---- what is said, and for how long

pub data Said : Type 0 where
  Found : (content : Content) → Said
  AliasTo : (content : Content) → Said
  Referred : (name : List (List ℕ)) → (content : Content) → Said
  Empty : Said
  Absent : Said

abbrev pub said_by : Speaker → Said
said_by (BySet s) = Found s.content
said_by (ByAlias s) = AliasTo s.content
said_by (ByDelegation s) = Referred s.name s.content
said_by NoData = Empty
said_by NoName = Absent

-- the time of the set that spoke, or that of what isn't there
abbrev pub time_of : Zone → Speaker → ℕ
time_of z (BySet s) = s.ttl
time_of z (ByAlias s) = s.ttl
time_of z (ByDelegation s) = s.ttl
time_of z NoData = z.negative
time_of z NoName = z.negative
