-- How many bytes packets take.
use Rattle.std.proofs.Common.{◌≡◌, ℕ, ◌*◌, ◌≤◌, true, ◌&&◌, eqb, leb, ltb, List, [], ◌∷◌, ◌++◌, length, refl, ap, arith, length-append}
use Rattle.std.specs.Int.{w32, w64, to_be_bytes}
use Rattle.std.proofs.lemmas.Bool.{and_parts, eqb-true, leb-true}
use Rattle.names.specs.Labels.{proper}
use Rattle.names.specs.Order.{within}
use Rattle.names.specs.Wire.{wire_labels, wire}
use Rattle.names.proofs.Proper.{limits, length_wire, weight}
use Rattle.meaning.specs.Model.{is_kind, pieces_fit}
use Rattle.records.proofs.Weighed.{fit_wire}
use Rattle.names.specs.Labels.{written}
use Rattle.names.proofs.Proper.{length_wire_labels, length_written_root, length_written_all}
use Rattle.meaning.specs.Model.{delegates, plain, fits, Content, Addresses, Texts, Others, AliasOf, Delegated, Set}
use Rattle.meaning.specs.Transfer.{pieces, transferred, all_transferred}
use Rattle.meaning.proofs.Carried.{length_transferred}
use Rattle.records.proofs.Weighed.{one_wire}
use Rattle.wire.specs.Parts.{head_bytes, part_bytes, content_keeps, set_keeps, are_addresses}
use Rattle.wire.specs.Shapes.{Head}
use Rattle.wire.specs.Packets.{Query, Told, Data, Alias, Referral, NoData, NoName, Nowhere, TooLong, Response, Request, few, query_bytes, what_of, told_bytes, response_bytes, request_bytes, query_keeps, told_keeps, response_keeps, request_keeps}

pub name_short : (ls : List (List ℕ)) → proper ls ≡ true → length (wire ls) ≤ 257
name_short ls h =
    let l = (limits ls h).short in
    let w = length_wire ls in
    omega arith

pub pieces_short : (ps : List (List ℕ)) → pieces_fit ps ≡ true → length (wire ps) ≤ 617
unfolding wire
pieces_short ps h = let f = fit_wire ps h in omega arith

addresses_weigh : (ps : List (List ℕ)) → are_addresses ps ≡ true → weight ps ≡ 9 * length ps
addresses_weigh [] h = refl
addresses_weigh (p ∷ ps) h =
    let q = and_parts (eqb (length p) 8) (are_addresses ps) h in
    let e = eqb-true (length p) 8 q.0 in
    let r = addresses_weigh ps q.1 in
    omega arith

pub addresses_short : (ps : List (List ℕ)) → length ps ≤ 16 → are_addresses ps ≡ true → length (wire ps) ≤ 145
addresses_short ps few h =
    let w = length_wire ps in
    let a = addresses_weigh ps h in
    omega arith

pub none_short : length (wire []) ≡ 1
none_short = length_wire []

pub few_is : (ps : List (List ℕ)) → few ps ≡ true → (1 ≤ length ps) × (length ps ≤ 16)
few_is ps h =
    let p = and_parts (leb 1 (length ps)) (leb (length ps) 16) h in
    (leb-true 1 (length ps) p.0, leb-true (length ps) 16 p.1)

-- ---- the rules, one by one

pub record QueryKeeps (q : Query) : Type 0 where
  pub id : ltb q.id 18446744073709551616 ≡ true
  pub apex : proper q.apex ≡ true
  pub kind : is_kind q.kind ≡ true
  pub name : proper q.name ≡ true
  pub inside : within q.apex q.name ≡ true

pub query_rules : (q : Query) → query_keeps q ≡ true → QueryKeeps q
query_rules q h =
    let a = and_parts (ltb q.id 18446744073709551616 && proper q.apex && is_kind q.kind && proper q.name) (within q.apex q.name) h in
    let b = and_parts (ltb q.id 18446744073709551616 && proper q.apex && is_kind q.kind) (proper q.name) a.0 in
    let c = and_parts (ltb q.id 18446744073709551616 && proper q.apex) (is_kind q.kind) b.0 in
    let d = and_parts (ltb q.id 18446744073709551616) (proper q.apex) c.0 in
    record { id = d.0; apex = d.1; kind = c.1; name = b.1; inside = a.1 }

pub record ResponseKeeps (r : Response) : Type 0 where
  pub id : ltb r.id 18446744073709551616 ≡ true
  pub apex : proper r.apex ≡ true
  pub ttl : ltb r.ttl 4294967296 ≡ true
  pub told : told_keeps r.apex r.told ≡ true

pub response_rules : (r : Response) → response_keeps r ≡ true → ResponseKeeps r
response_rules r h =
    let a = and_parts (ltb r.id 18446744073709551616 && proper r.apex && ltb r.ttl 4294967296) (told_keeps r.apex r.told) h in
    let b = and_parts (ltb r.id 18446744073709551616 && proper r.apex) (ltb r.ttl 4294967296) a.0 in
    let c = and_parts (ltb r.id 18446744073709551616) (proper r.apex) b.0 in
    record { id = c.0; apex = c.1; ttl = b.1; told = a.1 }

pub record ReferralKeeps (apex n ps : List (List ℕ)) : Type 0 where
  pub name : proper n ≡ true
  pub few : few ps ≡ true
  pub addresses : are_addresses ps ≡ true
  pub inside : within apex n ≡ true
  pub lower : ltb (length apex) (length n) ≡ true

pub referral_rules : (apex n ps : List (List ℕ)) → told_keeps apex (Referral n ps) ≡ true → ReferralKeeps apex n ps
referral_rules apex n ps h =
    let a = and_parts (proper n && few ps && are_addresses ps && within apex n) (ltb (length apex) (length n)) h in
    let b = and_parts (proper n && few ps && are_addresses ps) (within apex n) a.0 in
    let c = and_parts (proper n && few ps) (are_addresses ps) b.0 in
    let d = and_parts (proper n) (few ps) c.0 in
    record { name = d.0; few = d.1; addresses = c.1; inside = b.1; lower = a.1 }

pub record RequestKeeps (r : Request) : Type 0 where
  pub id : ltb r.id 18446744073709551616 ≡ true
  pub apex : proper r.apex ≡ true
  pub known : ltb r.known 18446744073709551616 ≡ true

pub request_rules : (r : Request) → request_keeps r ≡ true → RequestKeeps r
request_rules r h =
    let a = and_parts (ltb r.id 18446744073709551616 && proper r.apex) (ltb r.known 18446744073709551616) h in
    let b = and_parts (ltb r.id 18446744073709551616) (proper r.apex) a.0 in
    record { id = b.0; apex = b.1; known = a.1 }

-- ---- whole packets

pub query_fits : (q : Query) → query_keeps q ≡ true → length (query_bytes q) ≤ 1200
unfolding query_bytes
query_fits q h =
    let k = query_rules q h in
    let a = name_short q.apex k.apex in
    let b = name_short q.name k.name in
    let c = length-append (wire q.apex) (q.kind ∷ wire q.name) in
    omega arith

told_short : (apex : List (List ℕ)) (t : Told) → told_keeps apex t ≡ true → length (told_bytes t) ≤ 617
told_short apex (Data ps) h = pieces_short ps h
told_short apex (Alias n) h =
    let a = name_short n h in
    let b = none_short in
    let c = length-append (wire n) (wire []) in
    omega arith
told_short apex (Referral n ps) h =
    let k = referral_rules apex n ps h in
    let a = name_short n k.name in
    let b = addresses_short ps (few_is ps k.few).1 k.addresses in
    let c = length-append (wire n) (wire ps) in
    omega arith
told_short apex NoData h = let b = none_short in omega arith
told_short apex NoName h = let b = none_short in omega arith
told_short apex Nowhere h = let b = none_short in omega arith
told_short apex TooLong h = let b = none_short in omega arith

pub response_fits : (r : Response) → response_keeps r ≡ true → length (response_bytes r) ≤ 1200
unfolding response_bytes
response_fits r h =
    let k = response_rules r h in
    let a = name_short r.apex k.apex in
    let b = told_short r.apex r.told k.told in
    let c = length-append (wire r.apex) (what_of r.told ∷ (to_be_bytes w32 r.ttl ++ told_bytes r.told)) in
    omega arith

pub request_fits : (r : Request) → request_keeps r ≡ true → length (request_bytes r) ≤ 1200
unfolding request_bytes
request_fits r h =
    let k = request_rules r h in
    let a = name_short r.apex k.apex in
    let c = length-append (wire r.apex) (to_be_bytes w64 r.known) in
    omega arith

-- ---- a set in a part

alias_short : (n : List (List ℕ)) → proper n ≡ true → length (written n) ≤ 255
alias_short [] h = let e = length_written_root [] refl in omega arith
alias_short (l ∷ ls) h =
    let w = (limits (l ∷ ls) h).short in
    let e = length_written_all (l ∷ ls) (omega arith) in
    omega arith

few_addresses : (ps : List (List ℕ)) → length ps ≤ 16 → are_addresses ps ≡ true → length (wire_labels ps) ≤ 616
few_addresses ps few h =
    let w = length_wire_labels ps in
    let a = addresses_weigh ps h in
    omega arith

pub content_short : (k : ℕ) (c : Content) → fits k c ≡ true → content_keeps c ≡ true → length (wire_labels (pieces c)) ≤ 616
content_short k (Addresses ps) h s = few_addresses ps (leb-true (length ps) 16 (and_parts (eqb k 1) (leb (length ps) 16) h).1) s
content_short k (Texts ps) h s = fit_wire ps (and_parts (eqb k 2) (pieces_fit ps) h).1
content_short k (Others ps) h s = fit_wire ps (and_parts (plain k) (pieces_fit ps) h).1
content_short k (AliasOf n) h s =
    let a = alias_short n s in
    let b = one_wire (written n) in
    omega arith
content_short k (Delegated d) h s =
    few_addresses d.servers (leb-true (length d.servers) 16 (and_parts (delegates k && leb 1 (length d.servers)) (leb (length d.servers) 16) h).1) s

one_transferred : (s : Set) → all_transferred (s ∷ []) ≡ transferred s ++ []
unfolding all_transferred
one_transferred s = refl

head_long : (h : Head) → length (head_bytes h) ≡ 40
head_long h = refl

pub set_fits : (h : Head) (s : Set) → set_keeps s ≡ true → length (part_bytes (record { head = h; sets = s ∷ [] })) ≤ 1200
unfolding part_bytes
set_fits h s k =
    let a = and_parts (proper s.name && is_kind s.kind && ltb s.ttl 4294967296 && fits s.kind s.content) (content_keeps s.content) k in
    let b = and_parts (proper s.name && is_kind s.kind && ltb s.ttl 4294967296) (fits s.kind s.content) a.0 in
    let c = and_parts (proper s.name && is_kind s.kind) (ltb s.ttl 4294967296) b.0 in
    let d = and_parts (proper s.name) (is_kind s.kind) c.0 in
    let n = name_short s.name d.0 in
    let p = content_short s.kind s.content b.1 a.1 in
    let t = length_transferred s in
    let e = ap length (one_transferred s) in
    let f = length-append (transferred s) [] in
    let g = length-append (head_bytes h) (all_transferred (s ∷ [])) in
    let l = head_long h in
    omega arith
