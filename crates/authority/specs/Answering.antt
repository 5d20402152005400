-- How a server answers a query: by the word of the zone that is asked, in one packet.
use Rattle.std.specs.Prelude.{◌≡◌, ℕ, List, ◌++◌, true, false, Bool, Ok, Err, Some, Result}
use Rattle.names.specs.declared.fault.Fault.{Fault}
use Rattle.names.specs.declared.fault.Fault.TheVariants.{NoMemory}
use Rattle.meaning.specs.Model.{Zone}
use Rattle.protocol.specs.Words.{Word, tells}
use Rattle.wire.specs.Packets.{Query, response_bytes}
use Rattle.wire.specs.Replies.{response_for}

-- the response that tells this word
abbrev pub answer : Query → Word → List ℕ
answer q w = response_bytes (response_for q.id q.apex w.ttl w.said)

-- the zone's word on what is asked stands behind what is there; where another zone is asked, nothing is written
abbrev pub Answers : Zone → Query → List ℕ → Result Bool Fault → List ℕ → Type 0
Answers z q before (Ok true) after = (z.apex ≡ q.apex) × (w : Word) × (tells z q.name q.kind ≡ Some w) × (after ≡ before ++ answer q w)
Answers z q before (Ok false) after = (z.apex ≡ q.apex → ⊥) × (after ≡ before)
Answers z q before (Err f) after = (f ≡ NoMemory) × (after ≡ before)
