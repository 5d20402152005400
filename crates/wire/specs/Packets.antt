-- Packets: what their bytes say, or by which fault they are refused, and the bytes of each. Assumes nothing.
use Rattle.std.specs.Prelude.{ℕ, ◌^◌, Bool, true, cond, ◌&&◌, List, [], ◌∷◌, ◌++◌, length, Some, None, Ok, Err, Option, Result, ◌==◌, nat_le, nat_lt}
use Rattle.std.specs.Int.{w32, w64, to_be_bytes}
use Rattle.names.specs.declared.fault.Fault.{Fault}
use Rattle.names.specs.declared.fault.Fault.TheVariants.{Malformed, BadData, Misplaced, Conflict}
use Rattle.names.specs.Labels.{proper}
use Rattle.names.specs.Names.{name_of}
use Rattle.names.specs.Order.{within}
use Rattle.names.specs.Wire.{wire}
use Rattle.meaning.specs.Model.{is_kind, pieces_fit}
use Rattle.records.specs.Numbers.{kind_of}
use Rattle.wire.specs.Cuts.{next}
use Rattle.wire.specs.Shapes.{QueryShape, ResponseShape, RequestShape, Shape, QueryShaped, ResponseShaped, RequestShaped, PartShaped, shape_of}
use Rattle.wire.specs.Parts.{Part, are_addresses, part_in, part_bytes, part_keeps}

pub record Query : Type 0 where
  pub id : ℕ
  pub apex : List (List ℕ)
  pub kind : ℕ
  pub name : List (List ℕ)

-- data are pieces: what kind they fit is judged beside the query. The last two are told to stubs only.
pub data Told : Type 0 where
  Data : (pieces : List (List ℕ)) → Told
  Alias : (name : List (List ℕ)) → Told
  Referral : (name : List (List ℕ)) (servers : List (List ℕ)) → Told
  NoData : Told
  NoName : Told
  Nowhere : Told
  TooLong : Told

pub record Response : Type 0 where
  pub id : ℕ
  pub apex : List (List ℕ)
  pub ttl : ℕ
  pub told : Told

pub record Request : Type 0 where
  pub id : ℕ
  pub apex : List (List ℕ)
  pub known : ℕ

pub data Packet : Type 0 where
  IsQuery : (query : Query) → Packet
  IsResponse : (response : Response) → Packet
  IsRequest : (request : Request) → Packet
  IsPart : (part : Part) → Packet

-- ---- what a shape says

-- a query's name lies within its apex
abbrev pub query_from : ℕ → List (List ℕ) → ℕ → List (List ℕ) → Result Query Fault
query_from id apex kind name = cond (within apex name) (Ok (record { id = id; apex = apex; kind = kind; name = name })) (Err Misplaced)

unfoldable pub query_in : QueryShape → Result Query Fault
query_in s =
    next (name_of s.apex) (λ apex.
    next (kind_of s.kind) (λ kind.
    next (name_of s.name) (λ name. query_from s.id apex kind name)))

-- what is told without data
abbrev pub bare : ℕ → List (List ℕ) → Told
bare what name =
    cond (what == 2) (Alias name)
    (cond (what == 4) NoData
    (cond (what == 5) NoName
    (cond (what == 6) Nowhere TooLong)))

-- only data and a referral have pieces
unfoldable pub told_in : ℕ → List (List ℕ) → List (List ℕ) → Result Told Fault
told_in what name pieces =
    cond (what == 1) (Ok (Data pieces))
    (cond (what == 3) (cond (are_addresses pieces) (Ok (Referral name pieces)) (Err BadData))
    (cond (length pieces == 0) (Ok (bare what name)) (Err BadData)))

abbrev pub few : List (List ℕ) → Bool
few ps = nat_le 1 (length ps) && nat_le (length ps) 16

-- a referral leads down: of the names within the apex only the apex itself has no more labels
abbrev pub placed : List (List ℕ) → List (List ℕ) → Told → Result Told Fault
placed apex n t = cond (within apex n) (cond (nat_lt (length apex) (length n)) (Ok t) (Err Conflict)) (Err Misplaced)

abbrev pub allowed : List (List ℕ) → Told → Result Told Fault
allowed apex (Data ps) = cond (pieces_fit ps) (Ok (Data ps)) (Err BadData)
allowed apex (Alias n) = Ok (Alias n)
allowed apex (Referral n ps) = cond (few ps) (placed apex n (Referral n ps)) (Err BadData)
allowed apex NoData = Ok NoData
allowed apex NoName = Ok NoName
allowed apex Nowhere = Ok Nowhere
allowed apex TooLong = Ok TooLong

abbrev pub response_from : ℕ → List (List ℕ) → ℕ → Told → Result Response Fault
response_from id apex ttl told = next (allowed apex told) (λ t. Ok (record { id = id; apex = apex; ttl = ttl; told = t }))

unfoldable pub response_in : ResponseShape → Result Response Fault
response_in s =
    next (name_of s.apex) (λ apex.
    next (name_of s.name) (λ name.
    next (told_in s.what name s.pieces) (λ told. response_from s.id apex s.ttl told)))

unfoldable pub request_in : RequestShape → Result Request Fault
request_in s = next (name_of s.apex) (λ apex. Ok (record { id = s.id; apex = apex; known = s.known }))

-- ---- what a packet says

abbrev pub packet_as : {A : Type 0} → (A → Packet) → Result A Fault → Result Packet Fault
packet_as f (Ok x) = Ok (f x)
packet_as f (Err e) = Err e

abbrev pub judged : Option Shape → Result Packet Fault
judged None = Err Malformed
judged (Some (QueryShaped s)) = packet_as IsQuery (query_in s)
judged (Some (ResponseShaped s)) = packet_as IsResponse (response_in s)
judged (Some (RequestShaped s)) = packet_as IsRequest (request_in s)
judged (Some (PartShaped s)) = packet_as IsPart (part_in s)

-- first the shape of the whole packet, then the lowest of its other faults
abbrev pub packet_in : List ℕ → Result Packet Fault
packet_in bs = judged (shape_of bs)

-- ---- the bytes of a packet

unfoldable pub query_bytes : Query → List ℕ
query_bytes q = 1 ∷ (to_be_bytes w64 q.id ++ (wire q.apex ++ (q.kind ∷ wire q.name)))

abbrev pub what_of : Told → ℕ
what_of (Data ps) = 1
what_of (Alias n) = 2
what_of (Referral n ps) = 3
what_of NoData = 4
what_of NoName = 5
what_of Nowhere = 6
what_of TooLong = 7

-- its name, if it has one, and its pieces
abbrev pub told_bytes : Told → List ℕ
told_bytes (Data ps) = wire ps
told_bytes (Alias n) = wire n ++ wire []
told_bytes (Referral n ps) = wire n ++ wire ps
told_bytes NoData = wire []
told_bytes NoName = wire []
told_bytes Nowhere = wire []
told_bytes TooLong = wire []

unfoldable pub response_bytes : Response → List ℕ
response_bytes r = 2 ∷ (to_be_bytes w64 r.id ++ (wire r.apex ++ (what_of r.told ∷ (to_be_bytes w32 r.ttl ++ told_bytes r.told))))

unfoldable pub request_bytes : Request → List ℕ
request_bytes r = 3 ∷ (to_be_bytes w64 r.id ++ (wire r.apex ++ to_be_bytes w64 r.known))

abbrev pub packet_bytes : Packet → List ℕ
packet_bytes (IsQuery q) = query_bytes q
packet_bytes (IsResponse r) = response_bytes r
packet_bytes (IsRequest r) = request_bytes r
packet_bytes (IsPart p) = part_bytes p

-- ---- the rules that a packet keeps

abbrev pub query_keeps : Query → Bool
query_keeps q = nat_lt q.id (2 ^ 64) && proper q.apex && is_kind q.kind && proper q.name && within q.apex q.name

abbrev pub told_keeps : List (List ℕ) → Told → Bool
told_keeps apex (Data ps) = pieces_fit ps
told_keeps apex (Alias n) = proper n
told_keeps apex (Referral n ps) = proper n && few ps && are_addresses ps && within apex n && nat_lt (length apex) (length n)
told_keeps apex NoData = true
told_keeps apex NoName = true
told_keeps apex Nowhere = true
told_keeps apex TooLong = true

-- the names are names, and the servers addresses
abbrev pub told_sound : Told → Bool
told_sound (Data ps) = true
told_sound (Alias n) = proper n
told_sound (Referral n ps) = proper n && are_addresses ps
told_sound NoData = true
told_sound NoName = true
told_sound Nowhere = true
told_sound TooLong = true

abbrev pub response_keeps : Response → Bool
response_keeps r = nat_lt r.id (2 ^ 64) && proper r.apex && nat_lt r.ttl (2 ^ 32) && told_keeps r.apex r.told

abbrev pub request_keeps : Request → Bool
request_keeps r = nat_lt r.id (2 ^ 64) && proper r.apex && nat_lt r.known (2 ^ 64)

abbrev pub keeps : Packet → Bool
keeps (IsQuery q) = query_keeps q
keeps (IsResponse r) = response_keeps r
keeps (IsRequest r) = request_keeps r
keeps (IsPart p) = part_keeps p
