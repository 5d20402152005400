-- What the code's walks stand for.
use Rattle.std.specs.Prelude.{◌≡◌, ℕ, List, Some, None, Option}
use Rattle.std.specs.List.{slice_get}
use Rattle.names.specs.Names.{labels}
use Rattle.meaning.specs.Speech.{Said, Found, AliasTo, Referred, Empty, Absent}
use Rattle.records.specs.declared.types.Kind.{Kind}
use Rattle.protocol.specs.Words.{Server, Outcome, Told, NoData, NoName}
use Rattle.protocol.specs.World.{Entry}
use Rattle.protocol.specs.Walks as walks
use Rattle.protocol.specs.Walks.{End}
use Rattle.machine.specs.Machine.{servers_by}
use Rattle.walks.specs.declared.course.Course as declared
use Rattle.walks.specs.declared.course.Ending.{Ending}
use Rattle.walks.specs.declared.course.Ending.TheVariants as rust
use Rattle.walks.specs.Courses as model

-- what a word that ends a walk comes to
abbrev pub outcome_of : Said → Outcome
outcome_of (Found c) = Told c
outcome_of Empty = NoData
outcome_of Absent = NoName
outcome_of (AliasTo n) = NoName
outcome_of (Referred n d) = NoName

-- a referral's place is kept where it names the servers, and no other's
abbrev pub Names : ℕ → Said → Option ℕ → Type 0
Names i (Referred n d) o = o ≡ Some i
Names i (Found c) o = o ≡ None
Names i (AliasTo n) o = o ≡ None
Names i Empty o = o ≡ None
Names i Absent o = o ≡ None

-- the servers that the entry at a place names, or the root's
abbrev pub servers_from : List Server → Option Entry → List Server
servers_from roots None = roots
servers_from roots (Some e) = servers_by roots e.word.said

abbrev pub servers_at : List Server → List Entry → Option ℕ → List Server
servers_at roots es None = roots
servers_at roots es (Some i) = servers_from roots (slice_get es i)

abbrev pub outcome_at : Option Entry → Outcome
outcome_at None = NoName
outcome_at (Some e) = outcome_of e.word.said

abbrev pub end_for : List Entry → Ending → End
end_for es (rust.Shows i) = walks.Shows (outcome_at (slice_get es i))
end_for es (rust.Lacks k) = walks.LacksAt (labels k.apex) (labels k.name)
end_for es rust.TooLong = walks.TooLong

abbrev pub course_for : List Server → List Entry → declared.Course → model.Course
course_for roots es c = record { end = end_for es c.ending; least = c.least; servers = servers_at roots es c.referral }

-- what is lacking is of the kind that was asked for
abbrev pub IsOfKind : Kind → Ending → Type 0
IsOfKind k (rust.Shows i) = Unit {0}
IsOfKind k (rust.Lacks key) = key.kind ≡ k
IsOfKind k rust.TooLong = Unit {0}
