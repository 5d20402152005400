-- Record sets and packets of the code keep the rules.
use Rattle.std.proofs.Common.{◌≡◌, true, ◌&&◌, leb, ltb, length}
use Rattle.std.proofs.lemmas.Bool.{and_from, le-leb}
use Rattle.names.specs.Labels.{proper}
use Rattle.names.specs.Names.{labels}
use Rattle.names.specs.Order.{within}
use Rattle.names.proofs.Laws.{labels_proper}
use Rattle.meaning.specs.Model.{is_kind, fits}
use Rattle.records.specs.declared.set.RecordSet.{RecordSet}
use Rattle.records.specs.Contents.{content_of}
use Rattle.records.specs.Sets.{set_of}
use Rattle.wire.specs.declared.query.QueryPacket.{QueryPacket}
use Rattle.wire.specs.declared.request.RequestPacket.{RequestPacket}
use Rattle.wire.specs.declared.response.ResponsePacket.{ResponsePacket}
use Rattle.wire.specs.Given.{query_of}
use Rattle.wire.specs.Requests.{request_of}
use Rattle.wire.specs.Responses.{response_of}
use Rattle.wire.specs.Tellings.{told_of}
use Rattle.wire.specs.Laws.{IsReadAgain}
use Rattle.wire.specs.Packets.{Query, Response, Request, IsQuery, IsResponse, IsRequest, IsPart, query_keeps, told_keeps, told_sound, response_keeps, request_keeps}
use Rattle.wire.specs.Parts.{Part, part_bytes, head_keeps, content_keeps, set_keeps, sets_keep, sets_belong}
use Rattle.wire.proofs.Laws.{packet_laws}
use Rattle.wire.proofs.Undone.{allowed_undone}

-- a name, a kind and fitting data are what a set's type asks; that its time and its addresses have their lengths is known where they are read
pub set_kept : (s : RecordSet) → ltb s.ttl.0 4294967296 ≡ true → content_keeps (content_of s.content) ≡ true → set_keeps (set_of s) ≡ true
set_kept s t c =
    let n = proper (labels s.name) in
    let k = is_kind s.kind.number in
    let l = ltb s.ttl.0 4294967296 in
    let f = fits s.kind.number (content_of s.content) in
    and_from (n && k && l && f) (content_keeps (content_of s.content)) (and_from (n && k && l) f (and_from (n && k) l (and_from n k (labels_proper s.name) s.kind.there) t) s.fitting) c

-- ---- packets, by what their types ask and by the numbers that were read

pub query_kept : (q : QueryPacket) → ltb q.id.0 18446744073709551616 ≡ true → query_keeps (query_of q) ≡ true
query_kept q h =
    let i = ltb q.id.0 18446744073709551616 in
    let a = proper (labels q.apex) in
    let k = is_kind q.kind.number in
    let n = proper (labels q.name) in
    and_from (i && a && k && n) (within (labels q.apex) (labels q.name)) (and_from (i && a && k) n (and_from (i && a) k (and_from i a h (labels_proper q.apex)) q.kind.there) (labels_proper q.name)) q.inside

pub request_kept : (r : RequestPacket) → ltb r.id.0 18446744073709551616 ≡ true → ltb r.known 18446744073709551616 ≡ true → request_keeps (request_of r) ≡ true
request_kept r h k =
    let i = ltb r.id.0 18446744073709551616 in
    and_from (i && proper (labels r.apex)) (ltb r.known 18446744073709551616) (and_from i (proper (labels r.apex)) h (labels_proper r.apex)) k

pub response_kept : (r : ResponsePacket) → ltb r.id.0 18446744073709551616 ≡ true → ltb r.ttl.0 4294967296 ≡ true → told_sound (told_of r.told) ≡ true → response_keeps (response_of r) ≡ true
response_kept r h t s =
    let i = ltb r.id.0 18446744073709551616 in
    let a = proper (labels r.apex) in
    let l = ltb r.ttl.0 4294967296 in
    and_from (i && a && l) (told_keeps (labels r.apex) (told_of r.told)) (and_from (i && a) l (and_from i a h (labels_proper r.apex)) t) (allowed_undone (labels r.apex) (told_of r.told) (told_of r.told) s r.fitting).1

-- ---- so they are read again

pub query_again : (q : Query) → query_keeps q ≡ true → IsReadAgain (IsQuery q)
query_again q k = λ b s. packet_laws.reads_written (IsQuery q) k

pub response_again : (r : Response) → response_keeps r ≡ true → IsReadAgain (IsResponse r)
response_again r k = λ b s. packet_laws.reads_written (IsResponse r) k

pub request_again : (r : Request) → request_keeps r ≡ true → IsReadAgain (IsRequest r)
request_again r k = λ b s. packet_laws.reads_written (IsRequest r) k

pub part_again : (p : Part) → head_keeps p.head ≡ true → sets_keep p.sets ≡ true → IsReadAgain (IsPart p)
part_again p h k = λ b s.
    packet_laws.reads_written (IsPart p)
    (and_from (head_keeps p.head && sets_keep p.sets && sets_belong p.head p.sets) (leb (length (part_bytes p)) 1200)
    (and_from (head_keeps p.head && sets_keep p.sets) (sets_belong p.head p.sets) (and_from (head_keeps p.head) (sets_keep p.sets) h k) b) (le-leb (length (part_bytes p)) 1200 s))
