-- What is said, taken apart: an alias gives a name, a delegation its servers. Assumes nothing.
use Rattle.std.specs.Prelude.{ℕ, cond, List, []}
use Rattle.meaning.specs.Model.{Delegation, Content, Addresses, Texts, Others, AliasOf, Delegated, Set}
use Rattle.meaning.specs.Says.{Speaker, ByDelegation, BySet, ByAlias, NoData, NoName, is_exactly, is_alias_at, find, any_under, or_else}

-- what sets say of a name that no delegation is over
abbrev pub undelegated : List (List ℕ) → ℕ → List Set → Speaker
undelegated q k ss =
    or_else BySet (find (is_exactly q k) ss)
    (or_else ByAlias (find (is_alias_at q) ss)
    (cond (any_under q ss) NoData NoName))

-- the name that an alias gives, and what a delegation says; by `fits` an alias's data are such a name, a delegation's are such
abbrev pub target_of : Content → List (List ℕ)
target_of (AliasOf n) = n
target_of (Addresses ps) = []
target_of (Texts ps) = []
target_of (Others ps) = []
target_of (Delegated d) = []

abbrev pub delegation_of : Content → Delegation
delegation_of (Delegated d) = d
delegation_of (AliasOf n) = record { servers = [] }
delegation_of (Addresses ps) = record { servers = [] }
delegation_of (Texts ps) = record { servers = [] }
delegation_of (Others ps) = record { servers = [] }

pub data Said : Type 0 where
  Found : (content : Content) → Said
  AliasTo : (name : List (List ℕ)) → Said
  Referred : (name : List (List ℕ)) → (to : Delegation) → Said
  Empty : Said
  Absent : Said

abbrev pub said_by : Speaker → Said
said_by (BySet s) = Found s.content
said_by (ByAlias s) = AliasTo (target_of s.content)
said_by (ByDelegation s) = Referred s.name (delegation_of s.content)
said_by NoData = Empty
said_by NoName = Absent
