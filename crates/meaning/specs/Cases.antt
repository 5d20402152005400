-- The worked cases, as rows of one table.
use Rattle.std.specs.Prelude.{◌≡◌, ℕ, List, [], ◌∷◌, Some, codes}
use Rattle.std.specs.List.{AllByRecursion}
use Rattle.meaning.specs.Model.{Addresses, AliasOf, Delegated, Set, Zone}
use Rattle.meaning.specs.Says.{Speaker, ByDelegation, BySet, ByAlias, NoData, NoName, says}

-- a row: what is asked of which definition, and what it answers
pub data Case : Type 0 where
  Says : (zone : Zone) → (name : List (List ℕ)) → (kind : ℕ) → (answer : Speaker) → Case

abbrev pub Holds : Case → Type 0
Holds (Says z q k a) = says z q k ≡ Some a

-- ---- names, sets and zones of the cases

abbrev pub upperton : List (List ℕ)
upperton = codes "upperton" ∷ []

-- a name below upperton
abbrev pub below : List (List ℕ) → List (List ℕ)
below ls = codes "upperton" ∷ ls

abbrev pub server : ℕ → List ℕ
server n = 0 ∷ 0 ∷ 0 ∷ 0 ∷ 0 ∷ 0 ∷ 0 ∷ n ∷ []

abbrev pub address : List (List ℕ) → Set
address q = record { name = q; kind = 1; ttl = 3600; content = Addresses (server 9 ∷ []) }

abbrev pub delegation : List (List ℕ) → Set
delegation q = record { name = q; kind = 4; ttl = 3600; content = Delegated (record { servers = server 1 ∷ [] }) }

abbrev pub alias : List (List ℕ) → List (List ℕ) → Set
alias q to = record { name = q; kind = 5; ttl = 3600; content = AliasOf to }

abbrev pub zone : List (List ℕ) → List Set → Zone
zone a ss = record { apex = a; serial = 1; negative = 60; refresh = 600; expire = 3600; sets = ss }

abbrev pub rescue : List (List ℕ)
rescue = below (codes "rescue" ∷ [])

abbrev dairy : List (List ℕ)
dairy = below (codes "dairy" ∷ [])

abbrev milk : List (List ℕ)
milk = below (codes "dairy" ∷ codes "milk" ∷ [])

-- the root refers to upperton; upperton has a set, a delegation, and a set below that
abbrev pub root : Zone
root = zone [] (delegation upperton ∷ [])

abbrev pub village : Zone
village = zone upperton (delegation dairy ∷ address milk ∷ address rescue ∷ [])

-- a set at x.y.upperton alone
abbrev lone : Zone
lone = zone upperton (address (below (codes "y" ∷ codes "x" ∷ [])) ∷ [])

-- a.upperton is an alias of b.upperton, and that of a.upperton
abbrev pub a_name : List (List ℕ)
a_name = below (codes "a" ∷ [])

abbrev b_name : List (List ℕ)
b_name = below (codes "b" ∷ [])

abbrev pub ring : Zone
ring = zone upperton (alias a_name b_name ∷ alias b_name a_name ∷ [])

abbrev pub cases : List Case
cases =
    -- asked for rescue.upperton, the root refers to upperton, and upperton has the data
    Says root rescue 1 (ByDelegation (delegation upperton))
    ∷ Says village rescue 1 (BySet (address rescue))
    -- of a name below a delegation it says the delegation, whatever stands there
    ∷ Says village milk 1 (ByDelegation (delegation dairy))
    ∷ Says village dairy 1 (ByDelegation (delegation dairy))
    -- a set below a name makes it there, without data
    ∷ Says lone (below (codes "y" ∷ [])) 1 NoData
    ∷ Says lone (below (codes "z" ∷ [])) 1 NoName
    -- an alias speaks for every kind but its own, which is data
    ∷ Says ring a_name 1 (ByAlias (alias a_name b_name))
    ∷ Says ring a_name 5 (BySet (alias a_name b_name))
    ∷ []

abbrev pub CasesHold : Type 0
CasesHold = AllByRecursion Holds cases
