-- What is written of a zone that was read is read as that zone.
use Rattle.std.proofs.Common.{◌≡◌, ℕ, suc, ◌+◌, ◌-◌, ◌*◌, ◌^◌, ◌<◌, ◌≤◌, Bool, true, false, cond, ◌&&◌, eqb, ltb, leb, List, [], ◌∷◌, ◌++◌, length, take, Some, None, Ok, Err, codes, Option, Result, sym, refl, ap, ◌∙◌, subst, arith}
use Rattle.std.specs.List.{list_all}
use Rattle.std.proofs.lemmas.Bool.{and_parts, and_from, ltb-true, leb-true, lt-ltb, eqb-true, eq-eqb}
use Rattle.lines.specs.Lines.{digits, value_from, number_in}
use Rattle.names.specs.declared.fault.Fault.{Fault}
use Rattle.names.specs.declared.fault.Fault.TheVariants.{BadName, BadData, TooMuch, StaleSerial}
use Rattle.names.specs.Labels.{written, proper}
use Rattle.names.specs.Reading.{labels_in, last_dot, is_dot, read_below}
use Rattle.names.proofs.Extend.{named_so}
use Rattle.names.proofs.Readings.{below_dot, below_whole, below_short}
use Rattle.meaning.specs.Model.{is_kind, is_serial, delegates, aliases, fits, Content, Addresses, Texts, Others, AliasOf, Delegated, Set, Zone}
use Rattle.meaning.specs.Transfer.{all_transferred}
use Rattle.meaning.proofs.Carried.{length_none}
use Rattle.zones.specs.declared.zone.Zone as declared
use Rattle.zones.specs.Valid.{added}
use Rattle.zones.specs.Zones.{zone_of, with_sets}
use Rattle.zonetext.specs.Division.{Piece, Word, Text}
use Rattle.zonetext.specs.Fields.{number_of, below, seconds_of, kind_from, kind_of, name_of, digit_of, byte_of, bytes_in, address_of, text_of, other_of, cons_if, all_of, some_bad_name, alias_to, alias_of, data_from, data_of}
use Rattle.zonetext.specs.Texts.{lines_of, Line, numbered, fields, top_of, renews, serial_from, serial_of, Times, times_from, times_of, set_in, Refusal, within_room, with_set, with_lines, with_next, zone_with, text_meaning}
use Rattle.zonetext.specs.Written.{written_zone}
use Rattle.zonetext.specs.TextLaws.{are_bytes, is_address, good_data, good_set}
use Rattle.zonetext.proofs.Fielded.{length_hex}
use Rattle.zonetext.proofs.Shorter.{hex_same, data_so}
use Rattle.zonetext.proofs.Holding.{From, set_so, added_so, insert_holds, then_so, read_held}
use Rattle.zonetext.proofs.Whole.{read_written}

-- ---- numbers

number_small : (p : Piece) (n : ℕ) → number_of p ≡ Some n → n < 2 ^ 64
unfolding number_in
number_small (Text t) n e = cc
number_small (Word w) n e = go (ltb 0 (length w) && digits w && ltb (value_from 0 w) (2 ^ 64)) refl e
  where
    go : (c : Bool) → (ltb 0 (length w) && digits w && ltb (value_from 0 w) (2 ^ 64)) ≡ c → cond c (Some (value_from 0 w)) None ≡ Some n → n < 2 ^ 64
    go true f g =
        let v : value_from 0 w ≡ n = cc in
        let l = ltb-true (value_from 0 w) (2 ^ 64) (and_parts (ltb 0 (length w) && digits w) (ltb (value_from 0 w) (2 ^ 64)) f).1 in
        omega arith
    go false f g = cc

seconds_small : (p : Piece) (n : ℕ) → seconds_of p ≡ Some n → ltb n (2 ^ 32) ≡ true
seconds_small p n e = go (number_of p) e
  where
    go : (o : Option ℕ) → below (2 ^ 32) o ≡ Some n → ltb n (2 ^ 32) ≡ true
    go None g = cc
    go (Some m) g = go2 (ltb m (2 ^ 32)) refl g
      where
        go2 : (b : Bool) → ltb m (2 ^ 32) ≡ b → cond b (Some m) None ≡ Some n → ltb n (2 ^ 32) ≡ true
        go2 true f k = let a : m ≡ n = cc in ap (λ x. ltb x (2 ^ 32)) (sym a) ∙ f
        go2 false f k = cc

kind_good : (p : Piece) (n : ℕ) → kind_of p ≡ Some n → is_kind n ≡ true
kind_good p n e = go (number_of p) e
  where
    go : (o : Option ℕ) → kind_from o ≡ Some n → is_kind n ≡ true
    go None g = cc
    go (Some m) g = go2 (leb 1 m && leb m 31) refl g
      where
        go2 : (b : Bool) → (leb 1 m && leb m 31) ≡ b → cond b (Some m) None ≡ Some n → is_kind n ≡ true
        go2 true f k = let a : m ≡ n = cc in ap is_kind (sym a) ∙ f
        go2 false f k = cc

-- ---- names

root_proper : proper [] ≡ true
unfolding proper written
root_proper = refl

read_proper : (apex : List (List ℕ)) (t : List ℕ) (n : List (List ℕ)) → read_below apex t ≡ Ok n → proper n ≡ true
read_proper apex t n h = go (is_dot t) (last_dot t) refl refl
  where
    go : (b c : Bool) → is_dot t ≡ b → last_dot t ≡ c → proper n ≡ true
    go true c e f = let o : [] ≡ n = let q = sym (below_dot t apex e) ∙ h in cc in ap proper (sym o) ∙ root_proper
    go false true e f =
        let ls = labels_in (take (length t - 1) t) in
        let q = named_so ls n (sym (below_whole t apex e f) ∙ h) in
        ap proper q.1 ∙ q.0
    go false false e f =
        let q = named_so (apex ++ labels_in t) n (sym (below_short t apex e f) ∙ h) in
        ap proper q.1 ∙ q.0

name_proper : (apex : List (List ℕ)) (p : Piece) (n : List (List ℕ)) → name_of apex p ≡ Ok n → proper n ≡ true
name_proper apex (Word w) n e = read_proper apex w n e
name_proper apex (Text t) n e = cc

-- ---- data

digit_small : (b d : ℕ) → digit_of b ≡ Some d → d < 16
digit_small b d e = go (leb 48 b && leb b 57) (leb 97 b && leb b 102) (leb 65 b && leb b 70) refl refl refl e
  where
    go : (x y z : Bool) → (leb 48 b && leb b 57) ≡ x → (leb 97 b && leb b 102) ≡ y → (leb 65 b && leb b 70) ≡ z → cond x (Some (b - 48)) (cond y (Some (b - 87)) (cond z (Some (b - 55)) None)) ≡ Some d → d < 16
    go true y z f g h k = let v : b - 48 ≡ d = cc in let l = leb-true b 57 (and_parts (leb 48 b) (leb b 57) f).1 in omega arith
    go false true z f g h k = let v : b - 87 ≡ d = cc in let l = leb-true b 102 (and_parts (leb 97 b) (leb b 102) g).1 in omega arith
    go false false true f g h k = let v : b - 55 ≡ d = cc in let l = leb-true b 70 (and_parts (leb 65 b) (leb b 70) h).1 in omega arith
    go false false false f g h k = cc

byte_good : (h l : Option ℕ) (o : Option (List ℕ)) (bs : List ℕ) → ((d : ℕ) → h ≡ Some d → d < 16) → ((d : ℕ) → l ≡ Some d → d < 16) → ((cs : List ℕ) → o ≡ Some cs → are_bytes cs ≡ true) → byte_of h l o ≡ Some bs → are_bytes bs ≡ true
byte_good None l o bs f g k e = cc
byte_good (Some h) None o bs f g k e = cc
byte_good (Some h) (Some l) None bs f g k e = cc
byte_good (Some h) (Some l) (Some cs) bs f g k e =
    let a : ((h * 16 + l) ∷ cs) ≡ bs = cc in
    let x = f h refl in
    let y = g l refl in
    ap are_bytes (sym a) ∙ and_from (ltb (h * 16 + l) 256) (are_bytes cs) (lt-ltb (h * 16 + l) 256 (omega arith)) (k cs refl)

hex_good : (w bs : List ℕ) → bytes_in w ≡ Some bs → are_bytes bs ≡ true
unfolding bytes_in
hex_good [] bs e = let a : [] ≡ bs = cc in ap are_bytes (sym a)
hex_good (x ∷ []) bs e = cc
hex_good (x ∷ y ∷ w) bs e = byte_good (digit_of x) (digit_of y) (bytes_in w) bs (digit_small x) (digit_small y) (hex_good w) e

address_good : (p : Piece) (x : List ℕ) → address_of p ≡ Some x → is_address x ≡ true
address_good (Text t) x e = cc
address_good (Word w) x e = go (eqb (length w) 16) refl e
  where
    go : (c : Bool) → eqb (length w) 16 ≡ c → cond c (bytes_in w) None ≡ Some x → is_address x ≡ true
    go true f g =
        let n = eqb-true (length w) 16 f in
        let l = hex_same w x g in
        let m = length_hex x in
        and_from (eqb (length x) 8) (are_bytes x) (eq-eqb (length x) 8 (omega arith)) (hex_good w x g)
    go false f g = cc

other_good : (p : Piece) (x : List ℕ) → other_of p ≡ Some x → are_bytes x ≡ true
other_good (Text []) x e = let a : [] ≡ x = cc in ap are_bytes (sym a)
other_good (Text (b ∷ t)) x e = cc
other_good (Word w) x e = hex_good w x e

module _ (read : Piece → Option (List ℕ)) (good : List ℕ → Bool) (each_good : (p : Piece) (x : List ℕ) → read p ≡ Some x → good x ≡ true) where
  all_good : (ps : List Piece) (xs : List (List ℕ)) → all_of read ps ≡ Some xs → list_all good xs ≡ true
  unfolding all_of
  all_good [] xs e = let a : [] ≡ xs = cc in ap (list_all good) (sym a)
  all_good (p ∷ ps) xs e = go (read p) refl (all_of read ps) e (λ ys g. all_good ps ys g)
    where
      go : (o : Option (List ℕ)) → read p ≡ o → (os : Option (List (List ℕ))) → cons_if o os ≡ Some xs → ((ys : List (List ℕ)) → os ≡ Some ys → list_all good ys ≡ true) → list_all good xs ≡ true
      go None f os k ih = cc
      go (Some x) f None k ih = cc
      go (Some x) f (Some ys) k ih = let a : (x ∷ ys) ≡ xs = cc in ap (list_all good) (sym a) ∙ and_from (good x) (list_all good ys) (each_good p x f) (ih ys refl)

alias_good : (apex : List (List ℕ)) (ps : List Piece) (c : Content) → alias_of apex ps ≡ Ok c → good_data c ≡ true
alias_good apex [] c e = cc
alias_good apex (Text t ∷ []) c e = cc
alias_good apex (p ∷ q ∷ ps) c e = go (some_bad_name apex (p ∷ q ∷ ps)) e
  where
    go : (b : Bool) → ◌≡◌ {A = Result Content Fault} (cond b (Err BadName) (Err BadData)) (Ok c) → good_data c ≡ true
    go true f = cc
    go false f = cc
alias_good apex (Word w ∷ []) c e = go (read_below apex w) refl e
  where
    go : (r : Result (List (List ℕ)) Fault) → read_below apex w ≡ r → alias_to r ≡ Ok c → good_data c ≡ true
    go (Err f) g k = cc
    go (Ok n) g k = let a : AliasOf n ≡ c = cc in ap good_data (sym a) ∙ read_proper apex w n g

read_data_good : (apex : List (List ℕ)) (k : ℕ) (ps : List Piece) (c : Content) → data_of k apex ps ≡ Ok c → good_data c ≡ true
read_data_good apex k ps c e = go (eqb k 1) (eqb k 2) (delegates k) (aliases k) e
  where
    go : (a b d f : Bool) → cond a (data_from Addresses (all_of address_of ps)) (cond b (data_from Texts (all_of text_of ps)) (cond d (data_from (λ xs. Delegated (record { servers = xs })) (all_of address_of ps)) (cond f (alias_of apex ps) (data_from Others (all_of other_of ps))))) ≡ Ok c → good_data c ≡ true
    go true b d f g = let q = data_so Addresses (all_of address_of ps) c g in ap good_data (sym q.2) ∙ all_good address_of is_address address_good ps q.0 q.1
    go false true d f g = let q = data_so Texts (all_of text_of ps) c g in ap good_data (sym q.2)
    go false false true f g = let q = data_so (λ xs. Delegated (record { servers = xs })) (all_of address_of ps) c g in ap good_data (sym q.2) ∙ all_good address_of is_address address_good ps q.0 q.1
    go false false false true g = alias_good apex ps c g
    go false false false false g = let q = data_so Others (all_of other_of ps) c g in ap good_data (sym q.2) ∙ all_good other_of are_bytes other_good ps q.0 q.1

set_from_good : (apex : List (List ℕ)) (n k t : Piece) (ps : List Piece) (s : Set) → From apex n k t ps s → good_set s ≡ true
set_from_good apex n k t ps s f =
    and_from (proper s.name && is_kind s.kind && ltb s.ttl (2 ^ 32) && fits s.kind s.content) (good_data s.content)
    (and_from (proper s.name && is_kind s.kind && ltb s.ttl (2 ^ 32)) (fits s.kind s.content)
    (and_from (proper s.name && is_kind s.kind) (ltb s.ttl (2 ^ 32))
    (and_from (proper s.name) (is_kind s.kind) (name_proper apex n s.name f.named) (kind_good k s.kind f.kind)) (seconds_small t s.ttl f.time)) f.fit)
    (read_data_good apex s.kind ps s.content f.content_is)

set_good : (apex : List (List ℕ)) (o : Option (List Piece)) (s : Set) → set_in apex o ≡ Ok s → good_set s ≡ true
set_good apex None s e = cc
set_good apex (Some []) s e = cc
set_good apex (Some (n ∷ [])) s e = cc
set_good apex (Some (n ∷ k ∷ [])) s e = cc
set_good apex (Some (n ∷ k ∷ t ∷ ps)) s e = set_from_good apex n k t ps s (set_so apex n k t ps s e)

-- ---- the zone, line by line

record Kept (z : Zone) : Type 0 where
  apex : proper z.apex ≡ true
  serial : (is_serial z.serial && ltb z.serial (2 ^ 64)) ≡ true
  times : (ltb z.negative (2 ^ 32) && ltb z.refresh (2 ^ 32) && ltb z.expire (2 ^ 32)) ≡ true
  sets : list_all good_set z.sets ≡ true
  room : length (all_transferred z.sets) ≤ 1048576

more_kept : (y z : Zone) (o : Option (List Piece)) → Kept y → with_set y (set_in y.apex o) ≡ Ok z → Kept z
more_kept y z o k e = go (set_in y.apex o) refl e
  where
    put : (s : Set) → good_set s ≡ true → (r : Result (List Set) Fault) → added y.apex y.sets s ≡ r → within_room y r ≡ Ok z → Kept z
    put s g (Err f) a m = cc
    put s g (Ok ts) a m = go2 (leb (length (all_transferred ts)) 1048576) refl m
      where
        go2 : (b : Bool) → leb (length (all_transferred ts)) 1048576 ≡ b → cond b (Ok (with_sets y ts)) (Err TooMuch) ≡ Ok z → Kept z
        go2 true r n =
            let q : with_sets y ts ≡ z = cc in
            let all = ap (list_all good_set) (added_so y.apex y.sets s ts a) ∙ insert_holds good_set s y.sets g k.sets in
            subst Kept q (record { apex = k.apex; serial = k.serial; times = k.times; sets = all; room = leb-true (length (all_transferred ts)) 1048576 r })
        go2 false r n = cc

    go : (r : Result Set Fault) → set_in y.apex o ≡ r → with_set y r ≡ Ok z → Kept z
    go (Err f) a m = cc
    go (Ok s) a m = put s (set_good y.apex o s a) (added y.apex y.sets s) refl m

sets_kept : (y z : Zone) (ls : List Line) → Kept y → with_lines y ls ≡ Ok z → Kept z
unfolding with_lines
sets_kept y z [] k e = let q : y ≡ z = cc in subst Kept q k
sets_kept y z (l ∷ ls) k e =
    let o = fields (codes "set") l.pieces in
    let t = then_so l.number (with_set y (set_in y.apex o)) (λ x. with_lines x ls) z e in
    sets_kept t.0 z ls (more_kept y t.0 o k t.1) t.2

-- ---- the lines before them

top_proper : (o : Option (List Piece)) (a : List (List ℕ)) → top_of o ≡ Ok a → proper a ≡ true
top_proper None a e = cc
top_proper (Some []) a e = cc
top_proper (Some (n ∷ [])) a e = name_proper [] n a e
top_proper (Some (n ∷ p ∷ ps)) a e = cc

serial_good : (old : Option Zone) (apex : List (List ℕ)) (o : Option (List Piece)) (n : ℕ) → serial_of old apex o ≡ Ok n → (is_serial n && ltb n (2 ^ 64)) ≡ true
serial_good old apex None n e = cc
serial_good old apex (Some []) n e = cc
serial_good old apex (Some (p ∷ q ∷ ps)) n e = cc
serial_good old apex (Some (p ∷ [])) n e = go (number_of p) refl e
  where
    go : (o : Option ℕ) → number_of p ≡ o → serial_from old apex o ≡ Ok n → (is_serial n && ltb n (2 ^ 64)) ≡ true
    go None f g = cc
    go (Some m) f g = go2 (leb 1 m && renews old apex m) refl g
      where
        go2 : (b : Bool) → (leb 1 m && renews old apex m) ≡ b → cond b (Ok m) (Err StaleSerial) ≡ Ok n → (is_serial n && ltb n (2 ^ 64)) ≡ true
        go2 true h k =
            let a : m ≡ n = cc in
            ap (λ x. is_serial x && ltb x (2 ^ 64)) (sym a) ∙ and_from (is_serial m) (ltb m (2 ^ 64)) (and_parts (leb 1 m) (renews old apex m) h).0 (lt-ltb m (2 ^ 64) (number_small p m f))
        go2 false h k = cc

abbrev small_times : Times → Bool
small_times t = ltb t.negative (2 ^ 32) && ltb t.refresh (2 ^ 32) && ltb t.expire (2 ^ 32)

times_good : (o : Option (List Piece)) (t : Times) → times_of o ≡ Ok t → small_times t ≡ true
times_good None t e = cc
times_good (Some []) t e = cc
times_good (Some (a ∷ [])) t e = cc
times_good (Some (a ∷ b ∷ [])) t e = cc
times_good (Some (a ∷ b ∷ c ∷ p ∷ ps)) t e = cc
times_good (Some (a ∷ b ∷ c ∷ [])) t e = go (seconds_of a) refl (seconds_of b) refl (seconds_of c) refl e
  where
    go : (x : Option ℕ) → seconds_of a ≡ x → (y : Option ℕ) → seconds_of b ≡ y → (w : Option ℕ) → seconds_of c ≡ w → times_from x y w ≡ Ok t → small_times t ≡ true
    go None f y g w h k = cc
    go (Some x) f None g w h k = cc
    go (Some x) f (Some y) g None h k = cc
    go (Some x) f (Some y) g (Some w) h k =
        let made : Times = record { negative = x; refresh = y; expire = w } in
        let q : made ≡ t = cc in
        ap small_times (sym q) ∙ and_from (ltb x (2 ^ 32) && ltb y (2 ^ 32)) (ltb w (2 ^ 32)) (and_from (ltb x (2 ^ 32)) (ltb y (2 ^ 32)) (seconds_small a x f) (seconds_small b y g)) (seconds_small c w h)

-- a line that had to be there, and what was read of it
next_read : {A : Type 0} (end : ℕ) (ls : List Line) (f : Option (List Piece) → Result A Fault) (go : A → List Line → Result Zone Refusal) (z : Zone) → with_next end ls f go ≡ Ok z → (x : A) × (ms : List Line) × (o : Option (List Piece)) × (f o ≡ Ok x) × (go x ms ≡ Ok z)
next_read end [] f go z e = cc
next_read end (l ∷ ls) f go z e =
    let t = then_so l.number (f l.pieces) (λ x. go x ls) z e in
    (t.0, ls, l.pieces, t.1, t.2)

read_kept : (old : Option Zone) (text : List ℕ) (z : Zone) → text_meaning old text ≡ Ok z → Kept z
unfolding text_meaning
read_kept old text z e =
    let end = suc (length (lines_of text)) in
    let times = λ (a : List (List ℕ)) (n : ℕ) (t : Times) (rest : List Line). with_lines (zone_with a n t) rest in
    let number = λ (a : List (List ℕ)) (n : ℕ) (ns : List Line). with_next end ns (λ o. times_of (fields (codes "times") o)) (times a n) in
    let top = λ (a : List (List ℕ)) (ms : List Line). with_next end ms (λ o. serial_of old a (fields (codes "number") o)) (number a) in
    let x = next_read end (numbered 1 (lines_of text)) (λ o. top_of (fields (codes "top") o)) top z e in
    let y = next_read end x.1 (λ o. serial_of old x.0 (fields (codes "number") o)) (number x.0) z x.4 in
    let w = next_read end y.1 (λ o. times_of (fields (codes "times") o)) (times x.0 y.0) z y.4 in
    let none = length_none in
    sets_kept (zone_with x.0 y.0 w.0) z w.1 (record {
      apex = top_proper (fields (codes "top") x.2) x.0 x.3;
      serial = serial_good old x.0 (fields (codes "number") y.2) y.0 y.3;
      times = times_good (fields (codes "times") w.2) w.0 w.3;
      sets = refl;
      room = omega arith;
    }) w.4

pub read_again : (old : Option Zone) (text : List ℕ) (z : declared.Zone) → text_meaning old text ≡ Ok (zone_of z) → text_meaning None (written_zone (zone_of z)) ≡ Ok (zone_of z)
read_again old text z e =
    let k = read_kept old text (zone_of z) e in
    read_written None (zone_of z) (record { apex = k.apex; serial = k.serial; times = k.times; sets = k.sets; ordered = z.sets.ordered; limited = z.limited }) (read_held old text (zone_of z) e) k.room refl
