-- What was written of a part is read.
use Rattle.std.proofs.Common.{◌≡◌, ℕ, ◌<◌, ◌≤◌, Bool, true, false, not, ◌&&◌, ◌||◌, eqb, leb, ltb, List, [], ◌∷◌, ◌++◌, map, length, Some, Ok, sym, refl, ap, ◌∙◌, append_assoc, append-nil, arith, length-append}
use Rattle.std.specs.Int.{w16, w32, w64, to_be_bytes}
use Rattle.std.specs.Option.{option_map}
use Rattle.std.proofs.lemmas.Bool.{and_parts, eqb-true, leb-true}
use Rattle.names.specs.Labels.{proper, written}
use Rattle.names.specs.Wire.{wire}
use Rattle.names.proofs.RoundTrip.{written_laws}
use Rattle.meaning.specs.Model.{is_kind, is_serial, delegates, aliases, plain, pieces_fit, Content, Addresses, Texts, Others, AliasOf, Delegated, fits, Set}
use Rattle.meaning.specs.Transfer.{pieces, transferred, all_transferred}
use Rattle.meaning.proofs.Carried.{length_transferred, length_none}
use Rattle.wire.specs.Cuts.{then, next}
use Rattle.wire.specs.Shapes.{SetShape, Times, Head, cut_set, sets_in, cut_times, cut_head, part_shape}
use Rattle.wire.specs.Packets.{IsPart, packet_in}
use Rattle.wire.specs.Parts.{Part, last_name, alias_of, content_in, set_in, with_set, with_sets, part_in, head_bytes, part_bytes, times_keep, head_keeps, content_keeps, set_keeps, sets_keep, sets_belong, part_keeps}
use Rattle.wire.proofs.Backs.{eight_back, four_back, two_back, byte_back, short_shaped}
use Rattle.wire.proofs.Cutting.{list_back}
use Rattle.wire.proofs.Naming.{no_sets, sets_step}
use Rattle.wire.proofs.Partly.{sets_there}

-- ---- data

alias_back : (n : List (List ℕ)) → proper n ≡ true → alias_of (written n ∷ []) ≡ Ok n
unfolding next last_name
alias_back n h = rw (written_laws.read_written n h)

none_of : (a b c d : Bool) → not (a || b || c || d) ≡ true → (a ≡ false) × (b ≡ false) × (c ≡ false) × (d ≡ false)
none_of true b c d h = cc
none_of false true c d h = cc
none_of false false true d h = cc
none_of false false false true h = cc
none_of false false false false h = (refl, refl, refl, refl)

pub content_back : (k : ℕ) (c : Content) → fits k c ≡ true → content_keeps c ≡ true → content_in k (pieces c) ≡ Ok c
content_back k (Addresses ps) h s = let e = (and_parts (eqb k 1) (leb (length ps) 16) h).0 in rw (e, s)
content_back k (Texts ps) h s = let e = eqb-true k 2 (and_parts (eqb k 2) (pieces_fit ps) h).0 in ap (λ j. content_in j ps) e
content_back k (Others ps) h s =
    let p = none_of (eqb k 1) (eqb k 2) (delegates k) (aliases k) (and_parts (plain k) (pieces_fit ps) h).0 in
    rw (p.0, p.1, p.2, p.3)
content_back k (AliasOf n) h s = ap (λ j. content_in j (written n ∷ [])) (eqb-true k 5 h) ∙ rw (alias_back n s)
content_back k (Delegated d) h s =
    let e = eqb-true k 4 (and_parts (delegates k) (leb 1 (length d.servers)) (and_parts (delegates k && leb 1 (length d.servers)) (leb (length d.servers) 16) h).0).0 in
    ap (λ j. content_in j d.servers) e ∙ rw s

-- ---- a set

pub record SetKeeps (s : Set) : Type 0 where
  pub name : proper s.name ≡ true
  pub kind : is_kind s.kind ≡ true
  pub ttl : ltb s.ttl 4294967296 ≡ true
  pub fits : fits s.kind s.content ≡ true
  pub content : content_keeps s.content ≡ true

pub set_rules : (s : Set) → set_keeps s ≡ true → SetKeeps s
set_rules s h =
    let a = and_parts (proper s.name && is_kind s.kind && ltb s.ttl 4294967296 && fits s.kind s.content) (content_keeps s.content) h in
    let b = and_parts (proper s.name && is_kind s.kind && ltb s.ttl 4294967296) (fits s.kind s.content) a.0 in
    let c = and_parts (proper s.name && is_kind s.kind) (ltb s.ttl 4294967296) b.0 in
    let d = and_parts (proper s.name) (is_kind s.kind) c.0 in
    record { name = d.0; kind = d.1; ttl = c.1; fits = b.1; content = a.1 }

pub set_shape : Set → SetShape
set_shape s = record { name = s.name; kind = s.kind; ttl = s.ttl; pieces = pieces s.content }

pub set_spread : (s : Set) (rest : List ℕ) → transferred s ++ rest ≡ wire s.name ++ (s.kind ∷ (to_be_bytes w32 s.ttl ++ (wire (pieces s.content) ++ rest)))
unfolding transferred wire
set_spread s rest = append_assoc (wire s.name) (s.kind ∷ (to_be_bytes w32 s.ttl ++ wire (pieces s.content))) rest

set_cut : (s : Set) (rest : List ℕ) → ltb s.ttl 4294967296 ≡ true → cut_set (transferred s ++ rest) ≡ Some (set_shape s, rest)
unfolding then cut_set set_shape
set_cut s rest h =
    rw (set_spread s rest, list_back s.name (s.kind ∷ (to_be_bytes w32 s.ttl ++ (wire (pieces s.content) ++ rest))), byte_back s.kind (to_be_bytes w32 s.ttl ++ (wire (pieces s.content) ++ rest)), four_back s.ttl (wire (pieces s.content) ++ rest) h, list_back (pieces s.content) rest)

set_judged : (s : Set) → set_keeps s ≡ true → set_in (set_shape s) ≡ Ok s
unfolding next set_in set_shape
set_judged s h = let k = set_rules s h in rw (k.name, k.kind, content_back s.kind s.content k.fits k.content, k.fits)

-- ---- all sets

set_long : (s : Set) (rest : List ℕ) → 0 < length (transferred s ++ rest)
set_long s rest =
    let a = length_transferred s in
    let b = length-append (transferred s) rest in
    omega arith

sets_cut : (ss : List Set) → sets_keep ss ≡ true → sets_in (all_transferred ss) ≡ Some (map set_shape ss)
unfolding all_transferred
sets_cut [] h = no_sets [] refl
sets_cut (s ∷ ss) h =
    let p = and_parts (set_keeps s) (sets_keep ss) h in
    sets_step (transferred s ++ all_transferred ss) (set_shape s) (all_transferred ss) (set_long s (all_transferred ss)) (set_cut s (all_transferred ss) (set_rules s p.0).ttl)
    ∙ ap (option_map (λ xs. set_shape s ∷ xs)) (sets_cut ss p.1)

sets_judged : (done ss : List Set) → sets_keep ss ≡ true → with_sets (Ok done) (map set_shape ss) ≡ Ok (done ++ ss)
unfolding with_sets
sets_judged done [] h = ap (λ x. Ok x) (sym (append-nil done))
sets_judged done (s ∷ ss) h =
    let p = and_parts (set_keeps s) (sets_keep ss) h in
    ap (λ r. with_sets (with_set (Ok done) r) (map set_shape ss)) (set_judged s p.0) ∙ sets_judged (done ++ s ∷ []) ss p.1 ∙ ap (λ x. Ok x) (append_assoc done (s ∷ []) ss)

-- ---- a head

pub record HeadKeeps (h : Head) : Type 0 where
  pub id : ltb h.id 18446744073709551616 ≡ true
  pub serial : ltb h.serial 18446744073709551616 ≡ true
  pub set : is_serial h.serial ≡ true
  pub moment : ltb h.moment 18446744073709551616 ≡ true
  pub negative : ltb h.times.negative 4294967296 ≡ true
  pub refresh : ltb h.times.refresh 4294967296 ≡ true
  pub expire : ltb h.times.expire 4294967296 ≡ true
  pub part : ltb h.part 65536 ≡ true
  pub of : ltb h.of 65536 ≡ true

pub head_rules : (h : Head) → head_keeps h ≡ true → HeadKeeps h
head_rules h k =
    let i = ltb h.id 18446744073709551616 in
    let s = ltb h.serial 18446744073709551616 in
    let m = ltb h.moment 18446744073709551616 in
    let t = times_keep h.times in
    let n = ltb h.times.negative 4294967296 in
    let r = ltb h.times.refresh 4294967296 in
    let a = and_parts (i && s && is_serial h.serial && m && t && ltb h.part 65536) (ltb h.of 65536) k in
    let b = and_parts (i && s && is_serial h.serial && m && t) (ltb h.part 65536) a.0 in
    let c = and_parts (i && s && is_serial h.serial && m) t b.0 in
    let d = and_parts (i && s && is_serial h.serial) m c.0 in
    let e = and_parts (i && s) (is_serial h.serial) d.0 in
    let f = and_parts i s e.0 in
    let g = and_parts (n && r) (ltb h.times.expire 4294967296) c.1 in
    let o = and_parts n r g.0 in
    record { id = f.0; serial = f.1; set = e.1; moment = d.1; negative = o.0; refresh = o.1; expire = g.1; part = b.1; of = a.1 }

times_cut : (t : Times) (rest : List ℕ) → ltb t.negative 4294967296 ≡ true → ltb t.refresh 4294967296 ≡ true → ltb t.expire 4294967296 ≡ true → cut_times (to_be_bytes w32 t.negative ++ (to_be_bytes w32 t.refresh ++ (to_be_bytes w32 t.expire ++ rest))) ≡ Some (t, rest)
unfolding then cut_times
times_cut t rest n r e =
    rw (four_back t.negative (to_be_bytes w32 t.refresh ++ (to_be_bytes w32 t.expire ++ rest)) n, four_back t.refresh (to_be_bytes w32 t.expire ++ rest) r, four_back t.expire rest e)

head_cut : (h : Head) (rest : List ℕ) → head_keeps h ≡ true → cut_head (head_bytes h ++ rest) ≡ Some (h, rest)
unfolding then cut_head
head_cut h rest k =
    let r = head_rules h k in
    let end = to_be_bytes w16 h.part ++ (to_be_bytes w16 h.of ++ rest) in
    let times = to_be_bytes w32 h.times.negative ++ (to_be_bytes w32 h.times.refresh ++ (to_be_bytes w32 h.times.expire ++ end)) in
    rw (
      eight_back h.id (to_be_bytes w64 h.serial ++ (to_be_bytes w64 h.moment ++ times)) r.id,
      eight_back h.serial (to_be_bytes w64 h.moment ++ times) r.serial,
      eight_back h.moment times r.moment,
      times_cut h.times end r.negative r.refresh r.expire,
      two_back h.part (to_be_bytes w16 h.of ++ rest) r.part,
      two_back h.of rest r.of,
    )

-- ---- a part

pub record PartKeeps (p : Part) : Type 0 where
  pub head : head_keeps p.head ≡ true
  pub sets : sets_keep p.sets ≡ true
  pub belong : sets_belong p.head p.sets ≡ true
  pub short : length (part_bytes p) ≤ 1200

pub part_rules : (p : Part) → part_keeps p ≡ true → PartKeeps p
part_rules p h =
    let a = and_parts (head_keeps p.head && sets_keep p.sets && sets_belong p.head p.sets) (leb (length (part_bytes p)) 1200) h in
    let b = and_parts (head_keeps p.head && sets_keep p.sets) (sets_belong p.head p.sets) a.0 in
    let c = and_parts (head_keeps p.head) (sets_keep p.sets) b.0 in
    record { head = c.0; sets = c.1; belong = b.1; short = leb-true (length (part_bytes p)) 1200 a.1 }

none_sent : (h : Head) (ss : List Set) → sets_belong h ss ≡ true → h.of ≡ 0 → length (all_transferred ss) ≡ 0
none_sent h [] b e = length_none
none_sent h (s ∷ ss) b e = let k : eqb (length (s ∷ ss)) 0 ≡ true = ap (λ n. leb 1 n || eqb (length (s ∷ ss)) 0) (sym e) ∙ b in let z = eqb-true (length (s ∷ ss)) 0 k in absurd (omega arith)

part_rest : Part → List ℕ
part_rest p = head_bytes p.head ++ all_transferred p.sets

part_first : (p : Part) → part_bytes p ≡ 4 ∷ part_rest p
unfolding part_bytes part_rest
part_first p = refl

part_shaped : (p : Part) → part_keeps p ≡ true → part_shape (part_rest p) ≡ Some (record { head = p.head; sets = map set_shape p.sets })
unfolding then part_shape part_rest
part_shaped p h =
    let k = part_rules p h in
    let there = sets_there p.head (all_transferred p.sets) (none_sent p.head p.sets k.belong) ∙ sets_cut p.sets k.sets in
    rw (head_cut p.head (all_transferred p.sets) k.head) (ap (option_map (λ ss. record { head = p.head; sets = ss })) there)

part_judged : (p : Part) → part_keeps p ≡ true → part_in (record { head = p.head; sets = map set_shape p.sets }) ≡ Ok p
unfolding next part_in
part_judged p h =
    let k = part_rules p h in
    let s = (head_rules p.head k.head).set in
    rw (sets_judged [] p.sets k.sets, s)

pub part_back : (p : Part) → part_keeps p ≡ true → packet_in (part_bytes p) ≡ Ok (IsPart p)
part_back p h =
    let short : length (4 ∷ part_rest p) ≤ 1200 = let f = (part_rules p h).short in let e = ap length (part_first p) in omega arith in
    rw (part_first p, short_shaped 4 (part_rest p) short, part_shaped p h, part_judged p h)
