-- Whatever is read was written so: reading, undone step by step.
use Rattle.std.proofs.Common.{◌≡◌, ℕ, zero, suc, ◌<◌, ◌≤◌, Bool, true, false, cond, ◌&&◌, eqb, leb, ltb, List, [], ◌∷◌, ◌++◌, length, take, drop, get_or, Some, None, Ok, Err, Option, Result, subst, sym, refl, ap, ◌∙◌, append-nil, arith}
use Rattle.std.specs.Int.{w16, w32, w64, to_be_bytes, from_be_bytes}
use Rattle.std.proofs.lemmas.Nat.{be_bytes_2, be_bytes_4, be_bytes_8}
use Rattle.std.proofs.lemmas.List.{take-append-drop, length-take-le}
use Rattle.std.proofs.lemmas.Bool.{cond-true, cond-false, and_parts, and_from, ltb-true, leb-true, lt-ltb, eqb-true}
use Rattle.names.specs.declared.fault.Fault.{Fault}
use Rattle.names.specs.declared.fault.Fault.TheVariants.{BadName, BadData, Misplaced, Conflict}
use Rattle.names.specs.Labels.{proper}
use Rattle.names.specs.Names.{name_of}
use Rattle.names.specs.Order.{within}
use Rattle.names.specs.Wire.{wire}
use Rattle.names.proofs.Cutting.{cut_back}
use Rattle.meaning.specs.Model.{is_kind, pieces_fit}
use Rattle.records.specs.Numbers.{kind_of}
use Rattle.wire.specs.Cuts.{cut_byte, cut_number, cut_list, cut_list_if, cut_what, then, at_end, next}
use Rattle.wire.specs.Shapes.{QueryShape, ResponseShape, RequestShape, names_one, query_shape, response_shape, request_shape}
use Rattle.wire.specs.Parts.{are_addresses}
use Rattle.wire.specs.Packets.{Query, Told, Data, Alias, Referral, NoData, NoName, Nowhere, TooLong, Response, Request, query_in, told_in, allowed, response_in, request_in, few, placed, query_bytes, what_of, told_bytes, response_bytes, request_bytes, query_keeps, told_keeps, told_sound, response_keeps, request_keeps}
use Rattle.wire.specs.Laws.{are_bytes}
use Rattle.wire.proofs.Copying.{same_pair}

-- ---- steps that went well

pub then_undone : {A B : Type 0} (o : Option (A × List ℕ)) (f : A → List ℕ → Option B) (y : B) → then o f ≡ Some y → (p : A × List ℕ) × (o ≡ Some p) × (f p.0 p.1 ≡ Some y)
unfolding then
then_undone None f y h = cc
then_undone (Some p) f y h = (p, refl, h)

pub next_undone : {A B : Type 0} (r : Result A Fault) (f : A → Result B Fault) (y : B) → next r f ≡ Ok y → (x : A) × (r ≡ Ok x) × (f x ≡ Ok y)
unfolding next
next_undone (Ok x) f y h = (x, refl, h)
next_undone (Err e) f y h = cc

pub ok_same : {A : Type 0} (x y : A) → ◌≡◌ {A = Result A Fault} (Ok x) (Ok y) → x ≡ y
ok_same x y h = cc

pub some_same : {A : Type 0} (x y : A) → Some x ≡ Some y → x ≡ y
some_same x y h = cc

-- a test that was passed
pub passed : {A : Type 0} (b : Bool) (r : Result A Fault) (y : A) (f : Fault) → cond b r (Err f) ≡ Ok y → (b ≡ true) × (r ≡ Ok y)
passed true r y f h = (refl, h)
passed false r y f h = cc

pub end_undone : {A : Type 0} (x : A) (bs : List ℕ) (y : A) → at_end x bs ≡ Some y → (x ≡ y) × (bs ≡ [])
unfolding at_end
end_undone x [] y h = (some_same x y h, refl)
end_undone x (b ∷ bs) y h = cc

-- ---- bytes

bytes_behind : (xs ys : List ℕ) → are_bytes (xs ++ ys) ≡ true → are_bytes ys ≡ true
bytes_behind [] ys h = h
bytes_behind (x ∷ xs) ys h = bytes_behind xs ys (and_parts (ltb x 256) (are_bytes (xs ++ ys)) h).1

bytes_before : (xs ys : List ℕ) → are_bytes (xs ++ ys) ≡ true → are_bytes xs ≡ true
bytes_before [] ys h = refl
bytes_before (x ∷ xs) ys h =
    let p = and_parts (ltb x 256) (are_bytes (xs ++ ys)) h in
    and_from (ltb x 256) (are_bytes xs) p.0 (bytes_before xs ys p.1)

byte_at : (xs : List ℕ) → are_bytes xs ≡ true → (i : ℕ) → get_or xs i 0 < 256
byte_at [] h i = omega arith
byte_at (x ∷ xs) h zero = ltb-true x 256 (and_parts (ltb x 256) (are_bytes xs) h).0
byte_at (x ∷ xs) h (suc i) = byte_at xs (and_parts (ltb x 256) (are_bytes xs) h).1 i

-- what stood in front, and bytes behind it
pub record Undone (bs front rest : List ℕ) : Type 0 where
  pub so : front ++ rest ≡ bs
  pub bytes : are_bytes rest ≡ true

undone : (bs front rest : List ℕ) → are_bytes bs ≡ true → front ++ rest ≡ bs → Undone bs front rest
undone bs front rest h e = record { so = e; bytes = bytes_behind front rest (ap are_bytes e ∙ h) }

pub byte_undone : (bs : List ℕ) (b : ℕ) (rest : List ℕ) → are_bytes bs ≡ true → cut_byte bs ≡ Some (b, rest) → Undone bs (b ∷ []) rest
unfolding cut_byte
byte_undone [] b rest u h = cc
byte_undone (x ∷ bs) b rest u h =
    let p = same_pair x b bs rest h in
    undone (x ∷ bs) (b ∷ []) rest u (λ i. sym p.0 i ∷ sym p.1 i)

pub list_undone : (bs : List ℕ) (ps : List (List ℕ)) (rest : List ℕ) → are_bytes bs ≡ true → cut_list bs ≡ Some (ps, rest) → Undone bs (wire ps) rest
unfolding cut_list wire
list_undone [] ps rest u h = cc
list_undone (n ∷ bs) ps rest u h =
    let p = cut_back n bs ps rest h in
    undone (n ∷ bs) (wire ps) rest u (λ i. p.0 i ∷ p.1 i)

-- a number of so many bytes
pub record Number (bs : List ℕ) (n most : ℕ) (front rest : List ℕ) : Type 0 where
  pub at : Undone bs front rest
  pub below : ltb n most ≡ true

pub cut_undone : (k : ℕ) (bs : List ℕ) (f : List ℕ → ℕ) (n : ℕ) (rest : List ℕ) → cond {A = Option (ℕ × List ℕ)} (leb k (length bs)) (Some (f (take k bs), drop k bs)) None ≡ Some (n, rest) → (k ≤ length bs) × (f (take k bs) ≡ n) × (drop k bs ≡ rest)
cut_undone k bs f n rest h = go (leb k (length bs)) refl
  where
    go : (c : Bool) → leb k (length bs) ≡ c → (k ≤ length bs) × (f (take k bs) ≡ n) × (drop k bs ≡ rest)
    go true e =
        let p = same_pair (f (take k bs)) n (drop k bs) rest (sym (cond-true (leb k (length bs)) (Some (f (take k bs), drop k bs)) None e) ∙ h) in
        (leb-true k (length bs) e, p.0, p.1)
    go false e =
        let s : ◌≡◌ {A = Option (ℕ × List ℕ)} None (Some (n, rest)) = sym (cond-false (leb k (length bs)) (Some (f (take k bs), drop k bs)) None e) ∙ h in
        cc

fronted : (k : ℕ) (bs front rest : List ℕ) → are_bytes bs ≡ true → front ≡ take k bs → drop k bs ≡ rest → Undone bs front rest
fronted k bs front rest u f d = undone bs front rest u ((λ i. f i ++ sym d i) ∙ take-append-drop k bs)

bytes_of_front : (k : ℕ) (bs : List ℕ) → are_bytes bs ≡ true → are_bytes (take k bs) ≡ true
bytes_of_front k bs u = bytes_before (take k bs) (drop k bs) (ap are_bytes (take-append-drop k bs) ∙ u)

below_8 : (xs : List ℕ) → ((i : ℕ) → get_or xs i 0 < 256) → from_be_bytes w64 xs < 18446744073709551616
below_8 xs h =
    let a = h 0 in
    let b = h 1 in
    let c = h 2 in
    let d = h 3 in
    let e = h 4 in
    let f = h 5 in
    let g = h 6 in
    let k = h 7 in
    omega arith

below_4 : (xs : List ℕ) → ((i : ℕ) → get_or xs i 0 < 256) → from_be_bytes w32 xs < 4294967296
below_4 xs h =
    let a = h 0 in
    let b = h 1 in
    let c = h 2 in
    let d = h 3 in
    omega arith

below_2 : (xs : List ℕ) → ((i : ℕ) → get_or xs i 0 < 256) → from_be_bytes w16 xs < 65536
below_2 xs h = let a = h 0 in let b = h 1 in omega arith

pub eight_undone : (bs : List ℕ) (n : ℕ) (rest : List ℕ) → are_bytes bs ≡ true → cut_number w64 bs ≡ Some (n, rest) → Number bs n 18446744073709551616 (to_be_bytes w64 n) rest
unfolding cut_number
eight_undone bs n rest u h =
    let c = cut_undone 8 bs (λ xs. from_be_bytes w64 xs) n rest h in
    let b = byte_at (take 8 bs) (bytes_of_front 8 bs u) in
    let l = below_8 (take 8 bs) b in
    let s = c.1 in
    record {
      at = fronted 8 bs (to_be_bytes w64 n) rest u (be_bytes_8 (take 8 bs) n (length-take-le 8 bs c.0) b (sym c.1)) c.2;
      below = lt-ltb n 18446744073709551616 (omega arith);
    }

pub four_undone : (bs : List ℕ) (n : ℕ) (rest : List ℕ) → are_bytes bs ≡ true → cut_number w32 bs ≡ Some (n, rest) → Number bs n 4294967296 (to_be_bytes w32 n) rest
unfolding cut_number
four_undone bs n rest u h =
    let c = cut_undone 4 bs (λ xs. from_be_bytes w32 xs) n rest h in
    let b = byte_at (take 4 bs) (bytes_of_front 4 bs u) in
    let l = below_4 (take 4 bs) b in
    let s = c.1 in
    record {
      at = fronted 4 bs (to_be_bytes w32 n) rest u (be_bytes_4 (take 4 bs) n (length-take-le 4 bs c.0) b (sym c.1)) c.2;
      below = lt-ltb n 4294967296 (omega arith);
    }

pub two_undone : (bs : List ℕ) (n : ℕ) (rest : List ℕ) → are_bytes bs ≡ true → cut_number w16 bs ≡ Some (n, rest) → Number bs n 65536 (to_be_bytes w16 n) rest
unfolding cut_number
two_undone bs n rest u h =
    let c = cut_undone 2 bs (λ xs. from_be_bytes w16 xs) n rest h in
    let b = byte_at (take 2 bs) (bytes_of_front 2 bs u) in
    let l = below_2 (take 2 bs) b in
    let s = c.1 in
    record {
      at = fronted 2 bs (to_be_bytes w16 n) rest u (be_bytes_2 (take 2 bs) n (length-take-le 2 bs c.0) b (sym c.1)) c.2;
      below = lt-ltb n 65536 (omega arith);
    }

-- ---- names and kinds

pub name_undone : (ls ns : List (List ℕ)) → name_of ls ≡ Ok ns → (proper ls ≡ true) × (ls ≡ ns)
name_undone ls ns h = let p = passed (proper ls) (Ok ls) ns BadName h in (p.0, ok_same ls ns p.1)

pub kind_undone : (k n : ℕ) → kind_of k ≡ Ok n → (is_kind k ≡ true) × (k ≡ n)
kind_undone k n h = let p = passed (is_kind k) (Ok k) n BadName h in (p.0, ok_same k n p.1)

-- ---- queries

pub record QueryRead (bs : List ℕ) (s : QueryShape) : Type 0 where
  pub so : to_be_bytes w64 s.id ++ (wire s.apex ++ (s.kind ∷ wire s.name)) ≡ bs
  pub id : ltb s.id 18446744073709551616 ≡ true

query_shape_undone : (bs : List ℕ) (s : QueryShape) → are_bytes bs ≡ true → query_shape bs ≡ Some s → QueryRead bs s
unfolding query_shape
query_shape_undone bs s u h =
    let a = then_undone _ _ s h in
    let n = eight_undone bs a.0.0 a.0.1 u a.1 in
    let b = then_undone _ _ s a.2 in
    let l = list_undone a.0.1 b.0.0 b.0.1 n.at.bytes b.1 in
    let c = then_undone _ _ s b.2 in
    let k = byte_undone b.0.1 c.0.0 c.0.1 l.bytes c.1 in
    let d = then_undone _ _ s c.2 in
    let m = list_undone c.0.1 d.0.0 d.0.1 k.bytes d.1 in
    let e = end_undone _ d.0.1 s d.2 in
    subst (QueryRead bs) e.0 (record {
      so =
          ap (λ r. to_be_bytes w64 a.0.0 ++ (wire b.0.0 ++ (c.0.0 ∷ r))) (sym (append-nil (wire d.0.0)) ∙ ap (λ r. wire d.0.0 ++ r) (sym e.1) ∙ m.so)
          ∙ ap (λ r. to_be_bytes w64 a.0.0 ++ (wire b.0.0 ++ r)) k.so
          ∙ ap (λ r. to_be_bytes w64 a.0.0 ++ r) l.so
          ∙ n.at.so;
      id = n.below;
    })

query_in_undone : (s : QueryShape) (q : Query) → query_in s ≡ Ok q → (proper s.apex ≡ true) × (is_kind s.kind ≡ true) × (proper s.name ≡ true) × (within s.apex s.name ≡ true) × (record { id = s.id; apex = s.apex; kind = s.kind; name = s.name } ≡ q)
unfolding query_in
query_in_undone s q h =
    let a = next_undone _ _ q h in
    let x = name_undone s.apex a.0 a.1 in
    let b = next_undone _ _ q a.2 in
    let k = kind_undone s.kind b.0 b.1 in
    let c = next_undone _ _ q b.2 in
    let y = name_undone s.name c.0 c.1 in
    let d = passed (within a.0 c.0) (Ok (record { id = s.id; apex = a.0; kind = b.0; name = c.0 })) q Misplaced c.2 in
    (x.0, k.0, y.0, (λ i. within (x.1 i) (y.1 i)) ∙ d.0, (λ i. record { id = s.id; apex = x.1 i; kind = k.1 i; name = y.1 i }) ∙ ok_same (record { id = s.id; apex = a.0; kind = b.0; name = c.0 }) q d.1)

query_written : (bs : List ℕ) (s : QueryShape) (q : Query) → QueryRead bs s → record { id = s.id; apex = s.apex; kind = s.kind; name = s.name } ≡ q → query_bytes q ≡ 1 ∷ bs
unfolding query_bytes
query_written bs s q r e = ap query_bytes (sym e) ∙ ap (λ x. 1 ∷ x) r.so

pub query_undone : (bs : List ℕ) (s : QueryShape) (q : Query) → are_bytes bs ≡ true → query_shape bs ≡ Some s → query_in s ≡ Ok q → (query_bytes q ≡ 1 ∷ bs) × (query_keeps q ≡ true)
query_undone bs s q u h k =
    let r = query_shape_undone bs s u h in
    let j = query_in_undone s q k in
    let i = ltb s.id 18446744073709551616 in (
      query_written bs s q r j.4,
      ap query_keeps (sym j.4)
          ∙ and_from (i && proper s.apex && is_kind s.kind && proper s.name) (within s.apex s.name)
          (and_from (i && proper s.apex && is_kind s.kind) (proper s.name)
          (and_from (i && proper s.apex) (is_kind s.kind) (and_from i (proper s.apex) r.id j.0) j.1) j.2) j.3,
    )

-- ---- responses

what_undone : (bs : List ℕ) (w : ℕ) (rest : List ℕ) → cut_what bs ≡ Some (w, rest) → (cut_byte bs ≡ Some (w, rest)) × (leb 1 w && leb w 7 ≡ true)
unfolding cut_what
what_undone bs w rest h =
    let p : ℕ × List ℕ = (w, rest) in
    let a = then_undone _ _ p h in
    let b = cond_some (leb 1 a.0.0 && leb a.0.0 7) a.0 p a.2 in
    (a.1 ∙ ap Some b.1, (λ i. leb 1 (sym b.1 i).0 && leb (sym b.1 i).0 7) ∙ b.0)
  where
    cond_some : (c : Bool) (x y : ℕ × List ℕ) → cond c (Some x) None ≡ Some y → (c ≡ true) × (x ≡ y)
    cond_some true x y k = (refl, some_same x y k)
    cond_some false x y k = cc

pub record ToldRead (w : ℕ) (bs : List ℕ) (t : Told) : Type 0 where
  pub what : what_of t ≡ w
  pub so : told_bytes t ≡ bs
  pub sound : told_sound t ≡ true

no_pieces : (ps : List (List ℕ)) → eqb (length ps) 0 ≡ true → ps ≡ []
no_pieces [] h = refl
no_pieces (p ∷ ps) h = let z = eqb-true (length (p ∷ ps)) 0 h in absurd (omega arith)

no_name : (bs name rest : _) → cut_list_if false bs ≡ Some (name, rest) → bs ≡ rest
unfolding cut_list_if
no_name bs name rest h = (same_pair [] name bs rest h).1

-- what has no name and no pieces
module _ (bs name rest : _) (ps : List (List ℕ)) (t : Told) (gone : cut_list_if false bs ≡ Some (name, rest)) (all : wire ps ≡ rest) where
  bare_undone : (w : ℕ) (x : Told) → what_of x ≡ w → told_bytes x ≡ wire [] → told_sound x ≡ true → cond (eqb (length ps) 0) (Ok x) (Err BadData) ≡ Ok t → ToldRead w bs t
  bare_undone w x e f s h =
      let p = passed (eqb (length ps) 0) (Ok x) t BadData h in
      subst (ToldRead w bs) (ok_same x t p.1) (record { what = e; so = f ∙ ap wire (sym (no_pieces ps p.0)) ∙ all ∙ sym (no_name bs name rest gone); sound = s })

named : (bs name rest : _) → are_bytes bs ≡ true → cut_list_if true bs ≡ Some (name, rest) → wire name ++ rest ≡ bs
unfolding cut_list_if
named bs name rest u h = (list_undone bs name rest u h).so

told_undone : (w : ℕ) (bs name rest : _) (ps : List (List ℕ)) (t : Told) → are_bytes bs ≡ true → leb 1 w && leb w 7 ≡ true → cut_list_if (names_one w) bs ≡ Some (name, rest) → wire ps ≡ rest → proper name ≡ true → told_in w name ps ≡ Ok t → ToldRead w bs t
unfolding told_in
told_undone zero bs name rest ps t u l c a n h = cc
told_undone (suc zero) bs name rest ps t u l c a n h =
    subst (ToldRead 1 bs) (ok_same (Data ps) t h) (record { what = refl; so = a ∙ sym (no_name bs name rest c); sound = refl })
told_undone (suc (suc zero)) bs name rest ps t u l c a n h =
    let p = passed (eqb (length ps) 0) (Ok (Alias name)) t BadData h in
    subst (ToldRead 2 bs) (ok_same (Alias name) t p.1)
    (record { what = refl; so = ap (λ x. wire name ++ x) (ap wire (sym (no_pieces ps p.0)) ∙ a) ∙ named bs name rest u c; sound = n })
told_undone (suc (suc (suc zero))) bs name rest ps t u l c a n h =
    let p = passed (are_addresses ps) (Ok (Referral name ps)) t BadData h in
    subst (ToldRead 3 bs) (ok_same (Referral name ps) t p.1)
    (record { what = refl; so = ap (λ x. wire name ++ x) a ∙ named bs name rest u c; sound = and_from (proper name) (are_addresses ps) n p.0 })
told_undone (suc (suc (suc (suc zero)))) bs name rest ps t u l c a n h = bare_undone bs name rest ps t c a 4 NoData refl refl refl h
told_undone (suc (suc (suc (suc (suc zero))))) bs name rest ps t u l c a n h = bare_undone bs name rest ps t c a 5 NoName refl refl refl h
told_undone (suc (suc (suc (suc (suc (suc zero)))))) bs name rest ps t u l c a n h = bare_undone bs name rest ps t c a 6 Nowhere refl refl refl h
told_undone (suc (suc (suc (suc (suc (suc (suc zero))))))) bs name rest ps t u l c a n h = bare_undone bs name rest ps t c a 7 TooLong refl refl refl h
told_undone (suc (suc (suc (suc (suc (suc (suc (suc w)))))))) bs name rest ps t u l c a n h =
    let p = and_parts (leb 1 (suc (suc (suc (suc (suc (suc (suc (suc w))))))))) (leb (suc (suc (suc (suc (suc (suc (suc (suc w)))))))) 7) l in
    let q = leb-true (suc (suc (suc (suc (suc (suc (suc (suc w)))))))) 7 p.1 in
    absurd (omega arith)

pub allowed_undone : (apex : List (List ℕ)) (t y : Told) → told_sound t ≡ true → allowed apex t ≡ Ok y → (t ≡ y) × (told_keeps apex t ≡ true)
allowed_undone apex (Data ps) y s h = let p = passed (pieces_fit ps) (Ok (Data ps)) y BadData h in (ok_same (Data ps) y p.1, p.0)
allowed_undone apex (Alias n) y s h = (ok_same (Alias n) y h, s)
allowed_undone apex (Referral n ps) y s h =
    let a = passed (few ps) (placed apex n (Referral n ps)) y BadData h in
    let b = passed (within apex n) (cond (ltb (length apex) (length n)) (Ok (Referral n ps)) (Err Conflict)) y Misplaced a.1 in
    let c = passed (ltb (length apex) (length n)) (Ok (Referral n ps)) y Conflict b.1 in
    let d = and_parts (proper n) (are_addresses ps) s in (
      ok_same (Referral n ps) y c.1,
      and_from (proper n && few ps && are_addresses ps && within apex n) (ltb (length apex) (length n))
          (and_from (proper n && few ps && are_addresses ps) (within apex n)
          (and_from (proper n && few ps) (are_addresses ps) (and_from (proper n) (few ps) d.0 a.0) d.1) b.0) c.0,
    )
allowed_undone apex NoData y s h = (ok_same NoData y h, refl)
allowed_undone apex NoName y s h = (ok_same NoName y h, refl)
allowed_undone apex Nowhere y s h = (ok_same Nowhere y h, refl)
allowed_undone apex TooLong y s h = (ok_same TooLong y h, refl)

-- what was read, and how its name and pieces were cut
pub record ResponseRead (bs : List ℕ) (s : ResponseShape) : Type 0 where
  pub rest : List ℕ
  pub behind : List ℕ
  pub so : to_be_bytes w64 s.id ++ (wire s.apex ++ (s.what ∷ (to_be_bytes w32 s.ttl ++ rest))) ≡ bs
  pub id : ltb s.id 18446744073709551616 ≡ true
  pub ttl : ltb s.ttl 4294967296 ≡ true
  pub what : leb 1 s.what && leb s.what 7 ≡ true
  pub bytes : are_bytes rest ≡ true
  pub name : cut_list_if (names_one s.what) rest ≡ Some (s.name, behind)
  pub pieces : wire s.pieces ≡ behind

bytes_if : (b : Bool) (bs name rest : _) → are_bytes bs ≡ true → cut_list_if b bs ≡ Some (name, rest) → are_bytes rest ≡ true
unfolding cut_list_if
bytes_if true bs name rest u h = (list_undone bs name rest u h).bytes
bytes_if false bs name rest u h = ap are_bytes (sym (same_pair [] name bs rest h).1) ∙ u

response_shape_undone : (bs : List ℕ) (s : ResponseShape) → are_bytes bs ≡ true → response_shape bs ≡ Some s → ResponseRead bs s
unfolding response_shape
response_shape_undone bs s u h =
    let a = then_undone _ _ s h in
    let n = eight_undone bs a.0.0 a.0.1 u a.1 in
    let b = then_undone _ _ s a.2 in
    let l = list_undone a.0.1 b.0.0 b.0.1 n.at.bytes b.1 in
    let c = then_undone _ _ s b.2 in
    let v = what_undone b.0.1 c.0.0 c.0.1 c.1 in
    let k = byte_undone b.0.1 c.0.0 c.0.1 l.bytes v.0 in
    let d = then_undone _ _ s c.2 in
    let t = four_undone c.0.1 d.0.0 d.0.1 k.bytes d.1 in
    let f = then_undone _ _ s d.2 in
    let g = then_undone _ _ s f.2 in
    let m = list_undone f.0.1 g.0.0 g.0.1 (bytes_if (names_one c.0.0) d.0.1 f.0.0 f.0.1 t.at.bytes f.1) g.1 in
    let e = end_undone _ g.0.1 s g.2 in
    subst (ResponseRead bs) e.0 (record {
      rest = d.0.1;
      behind = f.0.1;
      so =
          ap (λ r. to_be_bytes w64 a.0.0 ++ (wire b.0.0 ++ (c.0.0 ∷ r))) t.at.so
          ∙ ap (λ r. to_be_bytes w64 a.0.0 ++ (wire b.0.0 ++ r)) k.so
          ∙ ap (λ r. to_be_bytes w64 a.0.0 ++ r) l.so
          ∙ n.at.so;
      id = n.below;
      ttl = t.below;
      what = v.1;
      bytes = t.at.bytes;
      name = f.1;
      pieces = sym (append-nil (wire g.0.0)) ∙ ap (λ r. wire g.0.0 ++ r) (sym e.1) ∙ m.so;
    })

pub response_undone : (bs : List ℕ) (s : ResponseShape) (r : Response) → are_bytes bs ≡ true → response_shape bs ≡ Some s → response_in s ≡ Ok r → (response_bytes r ≡ 2 ∷ bs) × (response_keeps r ≡ true)
unfolding response_in response_bytes
response_undone bs s r u h j =
    let d = response_shape_undone bs s u h in
    let a = next_undone _ _ r j in
    let x = name_undone s.apex a.0 a.1 in
    let b = next_undone _ _ r a.2 in
    let y = name_undone s.name b.0 b.1 in
    let c = next_undone _ _ r b.2 in
    let t = told_undone s.what d.rest s.name d.behind s.pieces c.0 d.bytes d.what d.name d.pieces y.0 (ap (λ n. told_in s.what n s.pieces) y.1 ∙ c.1) in
    let e = next_undone _ _ r c.2 in
    let f = allowed_undone a.0 c.0 e.0 t.sound e.1 in
    let same : record { id = s.id; apex = s.apex; ttl = s.ttl; told = c.0 } ≡ r = (λ i. record { id = s.id; apex = x.1 i; ttl = s.ttl; told = f.0 i }) ∙ ok_same (record { id = s.id; apex = a.0; ttl = s.ttl; told = e.0 }) r e.2 in
    let i = ltb s.id 18446744073709551616 in (
      ap response_bytes (sym same)
          ∙ (λ k. 2 ∷ (to_be_bytes w64 s.id ++ (wire s.apex ++ (t.what k ∷ (to_be_bytes w32 s.ttl ++ t.so k)))))
          ∙ ap (λ z. 2 ∷ z) d.so,
      ap response_keeps (sym same)
          ∙ and_from (i && proper s.apex && ltb s.ttl 4294967296) (told_keeps s.apex c.0)
          (and_from (i && proper s.apex) (ltb s.ttl 4294967296) (and_from i (proper s.apex) d.id x.0) d.ttl)
          (ap (λ z. told_keeps z c.0) x.1 ∙ f.1),
    )

-- ---- requests

pub request_undone : (bs : List ℕ) (s : RequestShape) (r : Request) → are_bytes bs ≡ true → request_shape bs ≡ Some s → request_in s ≡ Ok r → (request_bytes r ≡ 3 ∷ bs) × (request_keeps r ≡ true)
unfolding request_shape request_in request_bytes
request_undone bs s r u h j =
    let a = then_undone _ _ s h in
    let n = eight_undone bs a.0.0 a.0.1 u a.1 in
    let b = then_undone _ _ s a.2 in
    let l = list_undone a.0.1 b.0.0 b.0.1 n.at.bytes b.1 in
    let c = then_undone _ _ s b.2 in
    let k = eight_undone b.0.1 c.0.0 c.0.1 l.bytes c.1 in
    let e = end_undone _ c.0.1 s c.2 in
    let p = next_undone _ _ r j in
    let x = name_undone s.apex p.0 p.1 in
    let shape : s ≡ record { id = a.0.0; apex = b.0.0; known = c.0.0 } = sym e.0 in
    let same : record { id = a.0.0; apex = b.0.0; known = c.0.0 } ≡ r = (λ i. record { id = (e.0 i).id; apex = (e.0 i).apex; known = (e.0 i).known }) ∙ (λ i. record { id = s.id; apex = x.1 i; known = s.known }) ∙ ok_same (record { id = s.id; apex = p.0; known = s.known }) r p.2 in
    let i = ltb a.0.0 18446744073709551616 in (
      ap request_bytes (sym same)
          ∙ ap (λ z. 3 ∷ (to_be_bytes w64 a.0.0 ++ (wire b.0.0 ++ z))) (sym (append-nil (to_be_bytes w64 c.0.0)) ∙ ap (λ z. to_be_bytes w64 c.0.0 ++ z) (sym e.1) ∙ k.at.so)
          ∙ ap (λ z. 3 ∷ (to_be_bytes w64 a.0.0 ++ z)) l.so
          ∙ ap (λ z. 3 ∷ z) n.at.so,
      ap request_keeps (sym same)
          ∙ and_from (i && proper b.0.0) (ltb c.0.0 18446744073709551616)
          (and_from i (proper b.0.0) n.below (ap (λ z. proper z.apex) e.0 ∙ x.0)) k.below,
    )
