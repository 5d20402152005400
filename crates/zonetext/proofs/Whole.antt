-- A zone's text, as it is written, is read as that zone.
use Rattle.std.proofs.Common.{◌≡◌, ℕ, suc, ◌+◌, ◌^◌, ◌<◌, ◌≤◌, true, ◌&&◌, ltb, leb, List, [], ◌∷◌, ◌++◌, length, Some, Ok, Err, codes, Option, Result, sym, refl, ap, ◌∙◌, subst, append_assoc, append-nil, arith, length-append}
use Rattle.std.specs.Fmt.{decimal}
use Rattle.std.specs.List.{list_all}
use Rattle.std.proofs.lemmas.Bool.{cond-true, and_parts, and_from, leb-true, le-leb, ltb-true}
use Rattle.std.proofs.lemmas.Fmt.{length-decimal-le}
use Rattle.names.specs.declared.fault.Fault.TheVariants.{StaleSerial, TooMuch}
use Rattle.names.specs.Labels.{written, proper}
use Rattle.names.proofs.Proper.{limits, length_written, length_written_root}
use Rattle.meaning.specs.Model.{is_serial, Set, Zone}
use Rattle.meaning.specs.Transfer.{all_transferred}
use Rattle.zones.specs.Sorted.{sorted}
use Rattle.zones.specs.Valid.{valid}
use Rattle.zones.specs.Zones.{with_sets}
use Rattle.zonetext.specs.Division.{Piece, Word, pieces_of}
use Rattle.zonetext.specs.Texts.{lines_of, Line, unless_blank, numbered, fields, top_of, renews, serial_from, serial_of, Times, times_from, times_of, set_in, Refusal, then, within_room, with_set, with_lines, with_next, zone_with, zone_in, text_meaning}
use Rattle.zonetext.specs.Written.{number_piece, line_text, whole, pieces_text, set_pieces, set_line, sets_text, number_line, times_line, written_zone, holds_data, holds_set, holds}
use Rattle.zonetext.specs.TextLaws.{good_set, Good, holds_word, holds_piece}
use Rattle.zonetext.proofs.Pieced.{line_back, verb_back, line_ends, one_line}
use Rattle.zonetext.proofs.Fielded.{number_back, number_word, seconds_back, whole_word, whole_back, set_back, set_held}
use Rattle.zonetext.proofs.Behind.{added_last, carried_front}

-- ---- one line, with its number

abbrev line_at : ℕ → List ℕ → List Piece → Line
line_at n verb ps = record { number = n; pieces = Some (Word verb ∷ ps) }

numbered_on : (n : ℕ) (l : List ℕ) (ls : List (List ℕ)) (p : Piece) (ps : List Piece) → pieces_of l ≡ Some (p ∷ ps) → numbered n (l ∷ ls) ≡ record { number = n; pieces = Some (p ∷ ps) } ∷ numbered (suc n) ls
unfolding numbered
numbered_on n l ls p ps h = ap (λ o. unless_blank n o (numbered (suc n) ls)) h

-- a line as it is written, and the pieces that are read of it
record Holds (verb : List ℕ) (ps : List Piece) : Type 0 where
  begins : holds_word verb ≡ true
  goes_on : list_all holds_piece ps ≡ true
  fits : length (line_text verb ps) ≤ 1200

module _ (verb : List ℕ) (ps : List Piece) (h : Holds verb ps) where
  line_first : (rest : List ℕ) → lines_of (line_text verb ps ++ 10 ∷ rest) ≡ line_text verb ps ∷ lines_of rest
  line_first rest = one_line (line_text verb ps) rest (line_ends verb ps h.begins h.goes_on)

  line_numbered : (n : ℕ) (rest : List ℕ) → numbered n (lines_of (line_text verb ps ++ 10 ∷ rest)) ≡ line_at n verb ps ∷ numbered (suc n) (lines_of rest)
  line_numbered n rest = ap (numbered n) (line_first rest) ∙ numbered_on n (line_text verb ps) (lines_of rest) (Word verb) ps (line_back verb ps h.begins h.goes_on h.fits)

-- ---- the sets

set_holds : (apex : List (List ℕ)) (s : Set) → good_set s ≡ true → holds_set apex s ≡ true → Holds (codes "set") (set_pieces apex s)
set_holds apex s g h =
    let p = and_parts (holds_data s.content) (leb (length (set_line apex s)) 1200) h in
    record { begins = refl; goes_on = set_held apex s g p.0; fits = leb-true (length (set_line apex s)) 1200 p.1 }

module _ (z : Zone) where
  set_taken : (done : List Set) (s : Set) (left : List Set) → sorted (done ++ s ∷ left) ≡ true → valid z.apex (done ++ s ∷ left) ≡ true → length (all_transferred (done ++ s ∷ left)) ≤ 1048576 → with_set (with_sets z done) (Ok s) ≡ Ok (with_sets z (done ++ s ∷ []))
  set_taken done s left o v r =
      let c = carried_front done s left in
      let ss = done ++ s ∷ [] in
      ap (within_room (with_sets z done)) (added_last z.apex done s left o v)
      ∙ cond-true (leb (length (all_transferred ss)) 1048576) (Ok (with_sets z ss)) (Err TooMuch) (le-leb (length (all_transferred ss)) 1048576 (omega arith))

  sets_back : (n : ℕ) (done left : List Set) → sorted (done ++ left) ≡ true → valid z.apex (done ++ left) ≡ true → length (all_transferred (done ++ left)) ≤ 1048576 → list_all good_set left ≡ true → list_all (holds_set z.apex) left ≡ true → with_lines (with_sets z done) (numbered n (lines_of (sets_text z.apex left))) ≡ Ok (with_sets z (done ++ left))
  unfolding with_lines sets_text lines_of numbered
  sets_back n done [] o v r g h = ap (λ ss. Ok (with_sets z ss)) (sym (append-nil done))
  sets_back n done (s ∷ left) o v r g h =
      let p = and_parts (good_set s) (list_all good_set left) g in
      let q = and_parts (holds_set z.apex s) (list_all (holds_set z.apex) left) h in
      let rest = numbered (suc n) (lines_of (sets_text z.apex left)) in
      let on = append_assoc done (s ∷ []) left in
      ap (with_lines (with_sets z done)) (line_numbered (codes "set") (set_pieces z.apex s) (set_holds z.apex s p.0 q.0) n (sets_text z.apex left))
      ∙ ap (λ o2. then n (with_set (with_sets z done) (set_in z.apex o2)) (λ y. with_lines y rest)) (verb_back (codes "set") (set_pieces z.apex s))
      ∙ ap (λ r2. then n (with_set (with_sets z done) r2) (λ y. with_lines y rest)) (set_back z.apex s p.0)
      ∙ ap (λ r2. then n r2 (λ y. with_lines y rest)) (set_taken done s left o v r)
      ∙ sets_back (suc n) (done ++ s ∷ []) left (ap sorted on ∙ o) (ap (valid z.apex) on ∙ v) (subst (λ ss. length (all_transferred ss) ≤ 1048576) (sym on) r) p.1 q.1
      ∙ ap (λ ss. Ok (with_sets z ss)) on

-- ---- the lines before them

length_whole : (n : List (List ℕ)) → proper n ≡ true → length (whole n) ≤ 256
length_whole [] h = let e = length_written_root [] refl in omega arith
length_whole (l ∷ ls) h =
    let w = length_written l ls in
    let a = length-append (written (l ∷ ls)) (46 ∷ []) in
    let s = (limits (l ∷ ls) h).short in
    omega arith

number_len : (n : ℕ) → n < 2 ^ 64 → length (decimal n) ≤ 20
number_len n h = length-decimal-le 20 n (omega arith) (omega arith) h

line_one : (verb : List ℕ) (p : List ℕ) → length (line_text verb (Word p ∷ [])) ≡ length verb + (1 + length p)
unfolding pieces_text
line_one verb p =
    let a = length-append verb (32 ∷ (p ++ [])) in
    let b = length-append p [] in
    omega arith

top_holds : (z : Zone) → Good z → Holds (codes "top") (Word (whole z.apex) ∷ [])
top_holds z g =
    let l = line_one (codes "top") (whole z.apex) in
    let w = length_whole z.apex g.apex in
    let v : length (codes "top") ≡ 3 = refl in
    record { begins = refl; goes_on = and_from (holds_word (whole z.apex)) true (whole_word z.apex g.apex) refl; fits = omega arith }

record Numbers (z : Zone) : Type 0 where
  from_one : is_serial z.serial ≡ true
  serial : z.serial < 2 ^ 64
  negative : ltb z.negative (2 ^ 32) ≡ true
  refresh : ltb z.refresh (2 ^ 32) ≡ true
  expire : ltb z.expire (2 ^ 32) ≡ true

numbers : (z : Zone) → Good z → Numbers z
numbers z g =
    let s = and_parts (is_serial z.serial) (ltb z.serial (2 ^ 64)) g.serial in
    let t = and_parts (ltb z.negative (2 ^ 32) && ltb z.refresh (2 ^ 32)) (ltb z.expire (2 ^ 32)) g.times in
    let u = and_parts (ltb z.negative (2 ^ 32)) (ltb z.refresh (2 ^ 32)) t.0 in
    record { from_one = s.0; serial = ltb-true z.serial (2 ^ 64) s.1; negative = u.0; refresh = u.1; expire = t.1 }

wide : (n : ℕ) → ltb n (2 ^ 32) ≡ true → n < 2 ^ 64
wide n h = let l = ltb-true n (2 ^ 32) h in omega arith

number_holds : (z : Zone) → Good z → Holds (codes "number") (number_piece z.serial ∷ [])
number_holds z g =
    let s = (numbers z g).serial in
    let l = line_one (codes "number") (decimal z.serial) in
    let d = number_len z.serial s in
    let v : length (codes "number") ≡ 6 = refl in
    record { begins = refl; goes_on = and_from (holds_word (decimal z.serial)) true (number_word z.serial s) refl; fits = omega arith }

line_three : (verb : List ℕ) (p q r : List ℕ) → length (line_text verb (Word p ∷ Word q ∷ Word r ∷ [])) ≡ length verb + (3 + length p + length q + length r)
unfolding pieces_text
line_three verb p q r =
    let a = length-append verb (32 ∷ (p ++ 32 ∷ (q ++ 32 ∷ (r ++ [])))) in
    let b = length-append p (32 ∷ (q ++ 32 ∷ (r ++ []))) in
    let c = length-append q (32 ∷ (r ++ [])) in
    let d = length-append r [] in
    omega arith

times_holds : (z : Zone) → Good z → Holds (codes "times") (number_piece z.negative ∷ number_piece z.refresh ∷ number_piece z.expire ∷ [])
times_holds z g =
    let n = numbers z g in
    let a = wide z.negative n.negative in
    let b = wide z.refresh n.refresh in
    let c = wide z.expire n.expire in
    let l = line_three (codes "times") (decimal z.negative) (decimal z.refresh) (decimal z.expire) in
    let la = number_len z.negative a in
    let lb = number_len z.refresh b in
    let lc = number_len z.expire c in
    let v : length (codes "times") ≡ 5 = refl in
    let wb = holds_word (decimal z.refresh) in
    let wc = holds_word (decimal z.expire) in
    record {
      begins = refl;
      goes_on = and_from (holds_word (decimal z.negative)) (wb && (wc && true)) (number_word z.negative a) (and_from wb (wc && true) (number_word z.refresh b) (and_from wc true (number_word z.expire c) refl));
      fits = omega arith;
    }

top_back : (z : Zone) → Good z → top_of (fields (codes "top") (Some (Word (codes "top") ∷ Word (whole z.apex) ∷ []))) ≡ Ok z.apex
top_back z g = ap top_of (verb_back (codes "top") (Word (whole z.apex) ∷ [])) ∙ whole_back [] z.apex g.apex

serial_back : (old : Option Zone) (z : Zone) → Good z → renews old z.apex z.serial ≡ true → serial_of old z.apex (fields (codes "number") (Some (Word (codes "number") ∷ number_piece z.serial ∷ []))) ≡ Ok z.serial
serial_back old z g h =
    let n = numbers z g in
    ap (serial_of old z.apex) (verb_back (codes "number") (number_piece z.serial ∷ []))
    ∙ ap (serial_from old z.apex) (number_back z.serial n.serial)
    ∙ cond-true (leb 1 z.serial && renews old z.apex z.serial) (Ok z.serial) (Err StaleSerial) (and_from (leb 1 z.serial) (renews old z.apex z.serial) n.from_one h)

abbrev times_there : Zone → Times
times_there z = record { negative = z.negative; refresh = z.refresh; expire = z.expire }

times_back : (z : Zone) → Good z → times_of (fields (codes "times") (Some (Word (codes "times") ∷ number_piece z.negative ∷ number_piece z.refresh ∷ number_piece z.expire ∷ []))) ≡ Ok (times_there z)
times_back z g =
    let n = numbers z g in
    ap times_of (verb_back (codes "times") (number_piece z.negative ∷ number_piece z.refresh ∷ number_piece z.expire ∷ []))
    ∙ (λ i. times_from (seconds_back z.negative n.negative i) (seconds_back z.refresh n.refresh i) (seconds_back z.expire n.expire i))

-- ---- the whole

pub read_written : (old : Option Zone) (z : Zone) → Good z → holds z ≡ true → length (all_transferred z.sets) ≤ 1048576 → renews old z.apex z.serial ≡ true → text_meaning old (written_zone z) ≡ Ok z
unfolding text_meaning written_zone
read_written old z g h r new =
    let end = suc (length (lines_of (written_zone z))) in
    let sets = sets_text z.apex z.sets in
    let times = times_line z ++ 10 ∷ sets in
    let number = number_line z ++ 10 ∷ times in
    ap (zone_in old end) (
    line_numbered (codes "top") (Word (whole z.apex) ∷ []) (top_holds z g) 1 number
    ∙ ap (λ ls. line_at 1 (codes "top") (Word (whole z.apex) ∷ []) ∷ ls) (
    line_numbered (codes "number") (number_piece z.serial ∷ []) (number_holds z g) 2 times
    ∙ ap (λ ls. line_at 2 (codes "number") (number_piece z.serial ∷ []) ∷ ls) (line_numbered (codes "times") (number_piece z.negative ∷ number_piece z.refresh ∷ number_piece z.expire ∷ []) (times_holds z g) 3 sets)))
    ∙ heads old z g end (numbered 4 (lines_of sets)) new
    ∙ sets_back z 4 [] z.sets g.ordered g.limited r g.sets h
  where
    heads : (o : Option Zone) (y : Zone) → Good y → (e : ℕ) (rest : List Line) → renews o y.apex y.serial ≡ true → zone_in o e (line_at 1 (codes "top") (Word (whole y.apex) ∷ []) ∷ line_at 2 (codes "number") (number_piece y.serial ∷ []) ∷ line_at 3 (codes "times") (number_piece y.negative ∷ number_piece y.refresh ∷ number_piece y.expire ∷ []) ∷ rest) ≡ with_lines (with_sets y []) rest
    heads o y k e rest m =
        let number = line_at 2 (codes "number") (number_piece y.serial ∷ []) in
        let times = line_at 3 (codes "times") (number_piece y.negative ∷ number_piece y.refresh ∷ number_piece y.expire ∷ []) in
        ap (λ t. then 1 t (λ apex. with_next e (number ∷ times ∷ rest) (λ p. serial_of o apex (fields (codes "number") p)) (λ n ns. with_next e ns (λ p. times_of (fields (codes "times") p)) (λ t2 last. with_lines (zone_with apex n t2) last)))) (top_back y k)
        ∙ ap (λ t. then 2 t (λ n. with_next e (times ∷ rest) (λ p. times_of (fields (codes "times") p)) (λ t2 last. with_lines (zone_with y.apex n t2) last))) (serial_back o y k m)
        ∙ ap (λ t. then 3 t (λ t2. with_lines (zone_with y.apex y.serial t2) rest)) (times_back y k)

-- an answer is one zone
one_answer : (y z : Zone) → ◌≡◌ {A = Result Zone Refusal} (Ok z) (Ok y) → y ≡ z
one_answer y z h = cc

pub written_read : (old : Option Zone) (y z : Zone) → Good z → holds z ≡ true → length (all_transferred z.sets) ≤ 1048576 → renews old z.apex z.serial ≡ true → text_meaning old (written_zone z) ≡ Ok y → written_zone y ≡ written_zone z
written_read old y z g h r new e = ap written_zone (one_answer y z (sym (read_written old z g h r new) ∙ e))
