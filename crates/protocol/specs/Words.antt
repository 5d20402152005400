-- Words: what a zone says of a name and kind, and where a walk goes by it. Assumes nothing.
use Rattle.std.specs.Prelude.{◌≡◌, ℕ, ◌<◌, true, ◌⊎◌, List, [], length, Some, None, Option}
use Rattle.names.specs.Order.{within}
use Rattle.meaning.specs.Model.{Delegation, Content, Zone}
use Rattle.meaning.specs.Says.{Speaker, time_of, says}
use Rattle.meaning.specs.Speech.{Said, Found, AliasTo, Referred, Empty, Absent, said_by}

-- a name is its labels from the root down
abbrev pub Name : Type 0
Name = List (List ℕ)

-- a server's address
abbrev pub Server : Type 0
Server = List ℕ

-- what was said, and for how long it may be remembered
pub record Word : Type 0 where
  pub said : Said
  pub ttl : ℕ

abbrev pub word_by : Zone → Option Speaker → Option Word
word_by z None = None
word_by z (Some a) = Some (record { said = said_by a; ttl = time_of z a })

-- the word of a zone on a name and kind
unfoldable pub tells : Zone → Name → ℕ → Option Word
tells z q k = word_by z (says z q k)

-- what a question comes to
pub data Outcome : Type 0 where
  Told : (content : Content) → Outcome
  NoData : Outcome
  NoName : Outcome

-- where a walk for a name goes from a word: to its end, or on to a zone, for a name
pub data Next : Type 0 where
  Ends : (outcome : Outcome) → Next
  Goes : (apex : Name) → (name : Name) → Next

-- a referral leads to its zone with the same name, an alias back to the root with the other
unfoldable pub next : Said → Name → Next
next (Found c) q = Ends (Told c)
next (AliasTo n) q = Goes [] n
next (Referred n d) q = Goes n q
next Empty q = Ends NoData
next Absent q = Ends NoName

pub record WordLaws : Type 0 where
  -- a zone has words exactly for the names within its apex
  pub told : (z : Zone) (q : Name) (k : ℕ) → within z.apex q ≡ true → (t : Word) × (tells z q k ≡ Some t)
  pub within_apex : (z : Zone) (q : Name) (k : ℕ) (t : Word) → tells z q k ≡ Some t → within z.apex q ≡ true
  -- a referral leads down, towards the name
  pub down : (z : Zone) (q : Name) (k : ℕ) (t : Word) (n : Name) (d : Delegation) → tells z q k ≡ Some t → t.said ≡ Referred n d → (length z.apex < length n) × (within n q ≡ true)
  -- a walk goes on to the root, or to a zone that the word refers to, with the same name
  pub on : (s : Said) (q a p : Name) → next s q ≡ Goes a p → (a ≡ []) ⊎ ((d : Delegation) × (s ≡ Referred a d) × (p ≡ q))
