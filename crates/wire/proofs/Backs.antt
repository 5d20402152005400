-- What was written is read.
use Rattle.std.proofs.Common.{◌≡◌, ℕ, ◌≤◌, true, leb, ltb, List, [], ◌∷◌, ◌++◌, length, Some, None, Ok, Err, sym, refl, ap, ◌∙◌, append-nil, arith}
use Rattle.std.specs.Int.{w16, w32, w64, to_be_bytes}
use Rattle.std.proofs.lemmas.Nat.{from_be_bytes-to_be_bytes_2, from_be_bytes-to_be_bytes_4, from_be_bytes-to_be_bytes_8}
use Rattle.std.proofs.lemmas.Bool.{cond-true, ltb-true, le-leb}
use Rattle.names.specs.declared.fault.Fault.TheVariants.{BadName, BadData}
use Rattle.names.specs.Labels.{proper, written}
use Rattle.names.specs.Names.{name_of}
use Rattle.names.specs.Wire.{wire}
use Rattle.meaning.specs.Model.{is_kind, pieces_fit}
use Rattle.records.specs.Numbers.{kind_of}
use Rattle.wire.specs.Cuts.{cut_byte, cut_number, cut_list, cut_list_if, cut_what, then, at_end, next}
use Rattle.wire.specs.Shapes.{ResponseShape, names_one, query_shape, response_shape, request_shape, shape_of, shape_by}
use Rattle.wire.specs.Packets.{Query, Told, Data, Alias, Referral, NoData, NoName, Nowhere, TooLong, Response, Request, IsQuery, IsResponse, IsRequest, query_in, told_in, allowed, response_in, request_in, packet_in, query_bytes, what_of, told_bytes, response_bytes, request_bytes, query_keeps, told_keeps, response_keeps, request_keeps}
use Rattle.wire.proofs.Cutting.{one_number, list_back}
use Rattle.wire.proofs.Sizes.{query_rules, response_rules, referral_rules, request_rules, query_fits, response_fits, request_fits}

-- ---- fields

pub eight_back : (n : ℕ) (rest : List ℕ) → ltb n 18446744073709551616 ≡ true → cut_number w64 (to_be_bytes w64 n ++ rest) ≡ Some (n, rest)
eight_back n rest h = one_number w64 (to_be_bytes w64 n ++ rest) (to_be_bytes w64 n) rest n (omega arith) refl refl (sym (from_be_bytes-to_be_bytes_8 n (ltb-true n 18446744073709551616 h)))

pub four_back : (n : ℕ) (rest : List ℕ) → ltb n 4294967296 ≡ true → cut_number w32 (to_be_bytes w32 n ++ rest) ≡ Some (n, rest)
four_back n rest h = one_number w32 (to_be_bytes w32 n ++ rest) (to_be_bytes w32 n) rest n (omega arith) refl refl (sym (from_be_bytes-to_be_bytes_4 n (ltb-true n 4294967296 h)))

pub two_back : (n : ℕ) (rest : List ℕ) → ltb n 65536 ≡ true → cut_number w16 (to_be_bytes w16 n ++ rest) ≡ Some (n, rest)
two_back n rest h = one_number w16 (to_be_bytes w16 n ++ rest) (to_be_bytes w16 n) rest n (omega arith) refl refl (sym (from_be_bytes-to_be_bytes_2 n (ltb-true n 65536 h)))

pub byte_back : (b : ℕ) (rest : List ℕ) → cut_byte (b ∷ rest) ≡ Some (b, rest)
unfolding cut_byte
byte_back b rest = refl

-- a list at the end
pub last_back : (ps : List (List ℕ)) → cut_list (wire ps) ≡ Some (ps, [])
last_back ps = ap cut_list (sym (append-nil (wire ps))) ∙ list_back ps []

pub end_back : {A : Type 0} (x : A) → at_end x [] ≡ Some x
unfolding at_end
end_back x = refl

pub name_named : (ls : List (List ℕ)) → proper ls ≡ true → name_of ls ≡ Ok ls
name_named ls h = cond-true (proper ls) (Ok ls) (Err BadName) h

pub kind_named : (k : ℕ) → is_kind k ≡ true → kind_of k ≡ Ok k
kind_named k h = cond-true (is_kind k) (Ok k) (Err BadName) h

-- ---- by the first byte

pub short_shaped : (b : ℕ) (bs : List ℕ) → length (b ∷ bs) ≤ 1200 → shape_of (b ∷ bs) ≡ shape_by b bs
unfolding then
short_shaped b bs h = cond-true (leb (length (b ∷ bs)) 1200) (then (cut_byte (b ∷ bs)) shape_by) None (le-leb (length (b ∷ bs)) 1200 h) ∙ ap (λ o. then o shape_by) (byte_back b bs)

-- ---- queries

query_rest : Query → List ℕ
query_rest q = to_be_bytes w64 q.id ++ (wire q.apex ++ (q.kind ∷ wire q.name))

query_first : (q : Query) → query_bytes q ≡ 1 ∷ query_rest q
unfolding query_bytes query_rest
query_first q = refl

query_shaped : (q : Query) → query_keeps q ≡ true → query_shape (query_rest q) ≡ Some (record { id = q.id; apex = q.apex; kind = q.kind; name = q.name })
unfolding then query_shape query_rest
query_shaped q h =
    let k = query_rules q h in
    rw (eight_back q.id (wire q.apex ++ (q.kind ∷ wire q.name)) k.id, list_back q.apex (q.kind ∷ wire q.name), byte_back q.kind (wire q.name), last_back q.name, end_back)

query_judged : (q : Query) → query_keeps q ≡ true → query_in (record { id = q.id; apex = q.apex; kind = q.kind; name = q.name }) ≡ Ok q
unfolding next query_in
query_judged q h =
    let k = query_rules q h in
    rw (k.apex, k.kind, k.name, k.inside)

pub query_back : (q : Query) → query_keeps q ≡ true → packet_in (query_bytes q) ≡ Ok (IsQuery q)
query_back q h =
    let short : length (1 ∷ query_rest q) ≤ 1200 = let f = query_fits q h in let e = ap length (query_first q) in omega arith in
    rw (query_first q, short_shaped 1 (query_rest q) short, query_shaped q h, query_judged q h)

-- ---- responses

-- the name and the pieces of what is told, none where there are none
pub name_in : Told → List (List ℕ)
name_in (Data ps) = []
name_in (Alias n) = n
name_in (Referral n ps) = n
name_in NoData = []
name_in NoName = []
name_in Nowhere = []
name_in TooLong = []

pub pieces_in : Told → List (List ℕ)
pieces_in (Data ps) = ps
pieces_in (Alias n) = []
pieces_in (Referral n ps) = ps
pieces_in NoData = []
pieces_in NoName = []
pieces_in Nowhere = []
pieces_in TooLong = []

root_proper : proper [] ≡ true
unfolding proper written
root_proper = refl

name_proper : (apex : List (List ℕ)) (t : Told) → told_keeps apex t ≡ true → proper (name_in t) ≡ true
unfolding name_in
name_proper apex (Data ps) h = root_proper
name_proper apex (Alias n) h = h
name_proper apex (Referral n ps) h = (referral_rules apex n ps h).name
name_proper apex NoData h = root_proper
name_proper apex NoName h = root_proper
name_proper apex Nowhere h = root_proper
name_proper apex TooLong h = root_proper

what_back : (t : Told) (rest : List ℕ) → cut_what (what_of t ∷ rest) ≡ Some (what_of t, rest)
unfolding then cut_what cut_byte
what_back (Data ps) rest = refl
what_back (Alias n) rest = refl
what_back (Referral n ps) rest = refl
what_back NoData rest = refl
what_back NoName rest = refl
what_back Nowhere rest = refl
what_back TooLong rest = refl

told_cut : (t : Told) → cut_list_if (names_one (what_of t)) (told_bytes t) ≡ Some (name_in t, wire (pieces_in t))
unfolding cut_list_if name_in pieces_in
told_cut (Data ps) = refl
told_cut (Alias n) = list_back n (wire [])
told_cut (Referral n ps) = list_back n (wire ps)
told_cut NoData = refl
told_cut NoName = refl
told_cut Nowhere = refl
told_cut TooLong = refl

told_back : (apex : List (List ℕ)) (t : Told) → told_keeps apex t ≡ true → told_in (what_of t) (name_in t) (pieces_in t) ≡ Ok t
unfolding told_in name_in pieces_in
told_back apex (Data ps) h = refl
told_back apex (Alias n) h = refl
told_back apex (Referral n ps) h = let k = (referral_rules apex n ps h).addresses in rw k
told_back apex NoData h = refl
told_back apex NoName h = refl
told_back apex Nowhere h = refl
told_back apex TooLong h = refl

told_allowed : (apex : List (List ℕ)) (t : Told) → told_keeps apex t ≡ true → allowed apex t ≡ Ok t
told_allowed apex (Data ps) h = cond-true (pieces_fit ps) (Ok (Data ps)) (Err BadData) h
told_allowed apex (Alias n) h = refl
told_allowed apex (Referral n ps) h = let k = referral_rules apex n ps h in rw (k.few, k.inside, k.lower)
told_allowed apex NoData h = refl
told_allowed apex NoName h = refl
told_allowed apex Nowhere h = refl
told_allowed apex TooLong h = refl

response_rest : Response → List ℕ
response_rest r = to_be_bytes w64 r.id ++ (wire r.apex ++ (what_of r.told ∷ (to_be_bytes w32 r.ttl ++ told_bytes r.told)))

response_first : (r : Response) → response_bytes r ≡ 2 ∷ response_rest r
unfolding response_bytes response_rest
response_first r = refl

shape_for : Response → ResponseShape
shape_for r = record { id = r.id; apex = r.apex; what = what_of r.told; ttl = r.ttl; name = name_in r.told; pieces = pieces_in r.told }

response_shaped : (r : Response) → response_keeps r ≡ true → response_shape (response_rest r) ≡ Some (shape_for r)
unfolding then response_shape response_rest shape_for
response_shaped r h =
    let k = response_rules r h in
    rw (
      eight_back r.id (wire r.apex ++ (what_of r.told ∷ (to_be_bytes w32 r.ttl ++ told_bytes r.told))) k.id,
      list_back r.apex (what_of r.told ∷ (to_be_bytes w32 r.ttl ++ told_bytes r.told)),
      what_back r.told (to_be_bytes w32 r.ttl ++ told_bytes r.told),
      four_back r.ttl (told_bytes r.told) k.ttl,
      told_cut r.told,
      last_back (pieces_in r.told),
      end_back,
    )

response_judged : (r : Response) → response_keeps r ≡ true → response_in (shape_for r) ≡ Ok r
unfolding next response_in shape_for
response_judged r h =
    let k = response_rules r h in
    rw (k.apex, name_proper r.apex r.told k.told, told_back r.apex r.told k.told, told_allowed r.apex r.told k.told)

pub response_back : (r : Response) → response_keeps r ≡ true → packet_in (response_bytes r) ≡ Ok (IsResponse r)
response_back r h =
    let short : length (2 ∷ response_rest r) ≤ 1200 = let f = response_fits r h in let e = ap length (response_first r) in omega arith in
    rw (response_first r, short_shaped 2 (response_rest r) short, response_shaped r h, response_judged r h)

-- ---- requests

request_rest : Request → List ℕ
request_rest r = to_be_bytes w64 r.id ++ (wire r.apex ++ to_be_bytes w64 r.known)

request_first : (r : Request) → request_bytes r ≡ 3 ∷ request_rest r
unfolding request_bytes request_rest
request_first r = refl

request_shaped : (r : Request) → request_keeps r ≡ true → request_shape (request_rest r) ≡ Some (record { id = r.id; apex = r.apex; known = r.known })
unfolding then request_shape request_rest
request_shaped r h =
    let k = request_rules r h in
    rw (eight_back r.id (wire r.apex ++ to_be_bytes w64 r.known) k.id, list_back r.apex (to_be_bytes w64 r.known), eight_back r.known [] k.known, end_back)

request_judged : (r : Request) → request_keeps r ≡ true → request_in (record { id = r.id; apex = r.apex; known = r.known }) ≡ Ok r
unfolding next request_in
request_judged r h = let k = request_rules r h in rw k.apex

pub request_back : (r : Request) → request_keeps r ≡ true → packet_in (request_bytes r) ≡ Ok (IsRequest r)
request_back r h =
    let short : length (3 ∷ request_rest r) ≤ 1200 = let f = request_fits r h in let e = ap length (request_first r) in omega arith in
    rw (request_first r, short_shaped 3 (request_rest r) short, request_shaped r h, request_judged r h)
