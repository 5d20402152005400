-- What packets stand for, and what it is to read a zone's text beside the version that its owner says.
use Rattle.std.specs.Prelude.{◌≡◌, ℕ, ◌⊎◌, List, Ok, Err, Option, Result}
use Rattle.names.specs.declared.fault.Fault.TheVariants.{NoMemory}
use Rattle.names.specs.Names.{labels}
use Rattle.meaning.specs.Model as model
use Rattle.zones.specs.declared.zone.Zone.{Zone}
use Rattle.zones.specs.Zones.{zone_of}
use Rattle.protocol.specs.Words.{Name, Word}
use Rattle.protocol.specs.World.{Query, Response}
use Rattle.cache.specs.Entries.{word_of}
use Rattle.questions.specs.Queries.{query_of}
use Rattle.wire.specs.Packets as wire
use Rattle.wire.specs.Packets.{query_bytes, response_bytes}
use Rattle.wire.specs.Replies.{response_for}
use Rattle.zonetext.specs.declared.refusal.Refusal.{Refusal}
use Rattle.zonetext.specs.Numbered.{refusal_of}
use Rattle.zonetext.specs.Texts.{top_in, text_meaning}
use Rattle.valley.specs.declared.net.Told.{Told}
use Rattle.valley.specs.declared.net.Packet as rust
use Rattle.valley.specs.declared.net.Packet.TheVariants as rust_packet

-- to whom, by which server, what, and as of when that had the zone
pub record Telling : Type 0 where
  pub asker : ℕ
  pub server : ℕ
  pub response : Response
  pub moment : ℕ

pub data Packet : Type 0 where
  Asking : (asker : ℕ) → (query : Query) → Packet
  Responding : (telling : Telling) → Packet

abbrev pub telling_of : Told → Telling
telling_of t = record {
  asker = t.asker;
  server = t.server;
  response = record { id = t.id.0; apex = labels t.apex; word = word_of t.word };
  moment = t.moment.0;
}

abbrev pub packet_of : rust.Packet → Packet
packet_of (rust_packet.Query a) = Asking a.asker (query_of a.query)
packet_of (rust_packet.Response t) = Responding (telling_of t)

-- what is sent in response to a query: a word, and as of when it was had
abbrev pub telling_for : ℕ → ℕ → Query → Word × ℕ → Telling
telling_for asker server q p = record { asker = asker; server = server; response = record { id = q.id; apex = q.apex; word = p.0 }; moment = p.1 }

-- as they go over the net
abbrev pub asked_in : Query → wire.Query
asked_in q = record { id = q.id; apex = q.apex; kind = q.kind; name = q.name }

abbrev pub bytes_for : Packet → List ℕ
bytes_for (Asking a q) = query_bytes (asked_in q)
bytes_for (Responding t) = response_bytes (response_for t.response.id t.response.apex t.response.word.ttl t.response.word.said)

-- a text is read in the place of the zone that is there of its own apex
abbrev pub Renews : (Name → Option model.Zone) → List ℕ → Result Zone Refusal → Type 0
Renews there text (Ok z) = (a : Name) × (top_in text ≡ Ok a) × (text_meaning (there a) text ≡ Ok (zone_of z))
Renews there text (Err r) = (r.fault ≡ NoMemory) ⊎ (top_in text ≡ Err (refusal_of r)) ⊎ ((a : Name) × (top_in text ≡ Ok a) × (text_meaning (there a) text ≡ Err (refusal_of r)))
