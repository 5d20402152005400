-- What holds of every packet.
use Rattle.std.specs.Prelude.{◌≡◌, ℕ, ◌≤◌, Bool, true, ◌&&◌, List, [], ◌∷◌, length, Ok, nat_lt}
use Rattle.meaning.specs.Model.{Set}
use Rattle.wire.specs.Shapes.{Head}
use Rattle.wire.specs.Parts.{part_bytes, set_keeps, sets_belong}
use Rattle.wire.specs.Packets.{Query, Response, Request, Packet, IsQuery, IsResponse, IsRequest, IsPart, packet_in, packet_bytes, query_bytes, response_bytes, request_bytes, query_keeps, response_keeps, request_keeps, keeps}

abbrev pub are_bytes : List ℕ → Bool
are_bytes [] = true
are_bytes (b ∷ bs) = nat_lt b 256 && are_bytes bs

-- a part of 0 has no sets
abbrev pub belongs : Packet → Bool
belongs (IsQuery q) = true
belongs (IsResponse r) = true
belongs (IsRequest r) = true
belongs (IsPart p) = sets_belong p.head p.sets

-- what is written of it is read as this packet
abbrev pub IsReadAgain : Packet → Type 0
IsReadAgain p = belongs p ≡ true → length (packet_bytes p) ≤ 1200 → packet_in (packet_bytes p) ≡ Ok p

pub record PacketLaws : Type 0 where
  -- what was written is read
  pub reads_written : (p : Packet) → keeps p ≡ true → packet_in (packet_bytes p) ≡ Ok p
  -- whatever is read keeps the rules, and was written so: a packet has one form
  pub written_read : (bs : List ℕ) (p : Packet) → are_bytes bs ≡ true → packet_in bs ≡ Ok p → (packet_bytes p ≡ bs) × (keeps p ≡ true)
  -- no query and no response is too long
  pub query_fits : (q : Query) → query_keeps q ≡ true → length (query_bytes q) ≤ 1200
  pub response_fits : (r : Response) → response_keeps r ≡ true → length (response_bytes r) ≤ 1200
  pub request_fits : (r : Request) → request_keeps r ≡ true → length (request_bytes r) ≤ 1200
  -- and no set is too long for a part
  pub set_fits : (h : Head) (s : Set) → set_keeps s ≡ true → length (part_bytes (record { head = h; sets = s ∷ [] })) ≤ 1200
