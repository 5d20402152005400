-- What was read can be written.
use Rattle.std.proofs.Common.{◌≡◌, ℕ, suc, ◌+◌, ◌^◌, ◌≤◌, Bool, true, false, cond, not, ◌&&◌, eqb, ltb, leb, List, [], ◌∷◌, length, is_some, Some, None, Ok, Err, codes, Option, Result, sym, refl, ap, ◌∙◌, subst, true≢false, arith, length-append}
use Rattle.std.specs.Fmt.{decimal}
use Rattle.std.specs.List.{list_all}
use Rattle.std.proofs.lemmas.Bool.{and_parts, and_from, leb-true, le-leb}
use Rattle.names.specs.declared.fault.Fault.{Fault}
use Rattle.names.specs.declared.fault.Fault.TheVariants.{BadData, Misplaced, Conflict, TooMuch}
use Rattle.names.specs.Order.{within}
use Rattle.names.proofs.Within.{same_label_lem}
use Rattle.meaning.specs.Model.{delegates, fits, Content, Set, Zone}
use Rattle.meaning.specs.Says.{same, is_exactly, find}
use Rattle.meaning.specs.Transfer.{all_transferred}
use Rattle.zones.specs.Sorted.{is_before}
use Rattle.zones.specs.Valid.{clashes, insert_set, added}
use Rattle.zones.specs.Zones.{with_sets}
use Rattle.zonetext.specs.Division.{Piece, Word, Text, pieces_of}
use Rattle.zonetext.specs.Fields.{number_of, below, seconds_of, kind_from, kind_of, name_of, data_of, fitting, set_from, set_of}
use Rattle.zonetext.specs.Texts.{lines_of, push, Line, unless_blank, numbered, is_verb, fields, top_of, serial_of, Times, times_of, set_in, Refusal, then, within_room, with_set, with_lines, with_next, zone_with, text_meaning}
use Rattle.zonetext.specs.Written.{piece_text, pieces_text, number_piece, name_text, name_piece, data_pieces, set_pieces, set_line, holds_data, holds_set, holds}
use Rattle.zonetext.proofs.Pieced.{no_end}
use Rattle.zonetext.proofs.Taken.{taken, length_more, on_a_line, line_taken}
use Rattle.zonetext.proofs.Shorter.{number_shorter, name_shorter, data_fits}

-- ---- a set

number_so : (p : Piece) (n : ℕ) → number_of p ≡ Some n → length (decimal n) ≤ length (piece_text p)
number_so (Word w) n e = number_shorter w n e
number_so (Text t) n e = cc

seconds_so : (p : Piece) (n : ℕ) → seconds_of p ≡ Some n → length (decimal n) ≤ length (piece_text p)
seconds_so p n e = go (number_of p) refl e
  where
    go : (o : Option ℕ) → number_of p ≡ o → below (2 ^ 32) o ≡ Some n → length (decimal n) ≤ length (piece_text p)
    go None f g = cc
    go (Some m) f g = go2 (ltb m (2 ^ 32)) g
      where
        go2 : (b : Bool) → cond b (Some m) None ≡ Some n → length (decimal n) ≤ length (piece_text p)
        go2 true k = let a : m ≡ n = cc in number_so p n (f ∙ ap Some a)
        go2 false k = cc

kind_so : (p : Piece) (n : ℕ) → kind_of p ≡ Some n → length (decimal n) ≤ length (piece_text p)
kind_so p n e = go (number_of p) refl e
  where
    go : (o : Option ℕ) → number_of p ≡ o → kind_from o ≡ Some n → length (decimal n) ≤ length (piece_text p)
    go None f g = cc
    go (Some m) f g = go2 (leb 1 m && leb m 31) g
      where
        go2 : (b : Bool) → cond b (Some m) None ≡ Some n → length (decimal n) ≤ length (piece_text p)
        go2 true k = let a : m ≡ n = cc in number_so p n (f ∙ ap Some a)
        go2 false k = cc

name_so : (apex : List (List ℕ)) (p : Piece) (n : List (List ℕ)) → name_of apex p ≡ Ok n → length (name_text apex n) ≤ length (piece_text p)
name_so apex (Word w) n e = name_shorter apex w n e
name_so apex (Text t) n e = cc

-- what a set was read from
pub record From (apex : List (List ℕ)) (n k t : Piece) (ps : List Piece) (s : Set) : Type 0 where
  pub time : seconds_of t ≡ Some s.ttl
  pub named : name_of apex n ≡ Ok s.name
  pub kind : kind_of k ≡ Some s.kind
  pub content_is : data_of s.kind apex ps ≡ Ok s.content
  pub fit : fits s.kind s.content ≡ true

pub set_so : (apex : List (List ℕ)) (n k t : Piece) (ps : List Piece) (s : Set) → set_of apex n k t ps ≡ Ok s → From apex n k t ps s
set_so apex n k t ps s e = go (seconds_of t) refl (name_of apex n) refl (kind_of k) refl e
  where
    fitted : (m : List (List ℕ)) (j u : ℕ) (r : Result Content Fault) → data_of j apex ps ≡ r → seconds_of t ≡ Some u → name_of apex n ≡ Ok m → kind_of k ≡ Some j → fitting m j u r ≡ Ok s → From apex n k t ps s
    fitted m j u (Err f) d a b c h = cc
    fitted m j u (Ok x) d a b c h = go2 (fits j x) refl h
      where
        made : Set
        made = record { name = m; kind = j; ttl = u; content = x }

        go2 : (y : Bool) → fits j x ≡ y → cond y (Ok made) (Err BadData) ≡ Ok s → From apex n k t ps s
        go2 true f g = let q : made ≡ s = cc in subst (From apex n k t ps) q (record { time = a; named = b; kind = c; content_is = d; fit = f })
        go2 false f g = cc

    go : (u : Option ℕ) → seconds_of t ≡ u → (m : Result (List (List ℕ)) Fault) → name_of apex n ≡ m → (j : Option ℕ) → kind_of k ≡ j → set_from apex u m j ps ≡ Ok s → From apex n k t ps s
    go None a m b j c h = cc
    go (Some u) a (Err f) b j c h = cc
    go (Some u) a (Ok m) b None c h = cc
    go (Some u) a (Ok m) b (Some j) c h = fitted m j u (data_of j apex ps) refl a b c h

four_more : (a b c : Piece) (ps : List Piece) → length (pieces_text (a ∷ b ∷ c ∷ ps)) ≡ 3 + length (piece_text a) + length (piece_text b) + length (piece_text c) + length (pieces_text ps)
four_more a b c ps =
    let x = length_more a (b ∷ c ∷ ps) in
    let y = length_more b (c ∷ ps) in
    let z = length_more c ps in
    omega arith

set_holds : (apex : List (List ℕ)) (s : Set) (qs : List Piece) → list_all taken qs ≡ true → length (pieces_text qs) ≤ 1197 → set_in apex (Some qs) ≡ Ok s → holds_set apex s ≡ true
set_holds apex s [] h l e = cc
set_holds apex s (n ∷ []) h l e = cc
set_holds apex s (n ∷ k ∷ []) h l e = cc
set_holds apex s (n ∷ k ∷ t ∷ ps) h l e =
    let f = set_so apex n k t ps s e in
    let p = and_parts (taken n) (list_all taken (k ∷ t ∷ ps)) h in
    let q = and_parts (taken k) (list_all taken (t ∷ ps)) p.1 in
    let r = and_parts (taken t) (list_all taken ps) q.1 in
    let d = data_fits apex s.kind ps s.content r.1 f.content_is in
    let m = d.room in
    let a = name_so apex n s.name f.named in
    let b = kind_so k s.kind f.kind in
    let c = seconds_so t s.ttl f.time in
    let x = four_more n k t ps in
    let y = four_more (name_piece apex s.name) (number_piece s.kind) (number_piece s.ttl) (data_pieces apex s.content) in
    let z = length-append (codes "set") (pieces_text (set_pieces apex s)) in
    and_from (holds_data s.content) (leb (length (set_line apex s)) 1200) d.held (le-leb (length (set_line apex s)) 1200 (omega arith))

-- ---- a line, and the lines of a text

abbrev pub line_good : Option (List Piece) → Bool
line_good None = true
line_good (Some ps) = on_a_line ps

verb_word : (v : List ℕ) (p : Piece) → is_verb v p ≡ true → p ≡ Word v
verb_word v (Word w) h = ap Word (same_label_lem w v h)
verb_word v (Text t) h = absurd (true≢false (sym h))

line_holds : (apex : List (List ℕ)) (s : Set) (o : Option (List Piece)) → line_good o ≡ true → set_in apex (fields (codes "set") o) ≡ Ok s → holds_set apex s ≡ true
line_holds apex s None g e = cc
line_holds apex s (Some []) g e = cc
line_holds apex s (Some (p ∷ qs)) g e = go (is_verb (codes "set") p) refl e
  where
    go : (b : Bool) → is_verb (codes "set") p ≡ b → set_in apex (cond b (Some qs) None) ≡ Ok s → holds_set apex s ≡ true
    go false f h = cc
    go true f h =
        let q = and_parts (list_all taken (p ∷ qs)) (leb (length (pieces_text (p ∷ qs))) 1201) g in
        let t = and_parts (taken p) (list_all taken qs) q.0 in
        let l = leb-true (length (pieces_text (p ∷ qs))) 1201 q.1 in
        let m = length_more p qs in
        let v = ap (λ x. length (piece_text x)) (verb_word (codes "set") p f) in
        set_holds apex s qs t.1 (omega arith) h

pub added_so : (apex : List (List ℕ)) (ss : List Set) (s : Set) (ts : List Set) → added apex ss s ≡ Ok ts → ts ≡ insert_set s ss
added_so apex ss s ts h = go (not (within apex s.name)) (is_some (find (is_exactly s.name s.kind) ss)) (delegates s.kind && same s.name apex) (clashes s ss) (leb 4096 (length ss)) h
  where
    go : (a b c d e : Bool) → ◌≡◌ {A = Result (List Set) Fault} (cond a (Err Misplaced) (cond b (Err Misplaced) (cond c (Err Conflict) (cond d (Err Conflict) (cond e (Err TooMuch) (Ok (insert_set s ss))))))) (Ok ts) → ts ≡ insert_set s ss
    go true b c d e k = cc
    go false true c d e k = cc
    go false false true d e k = cc
    go false false false true e k = cc
    go false false false false true k = cc
    go false false false false false k = cc

pub insert_holds : (test : Set → Bool) (s : Set) (ss : List Set) → test s ≡ true → list_all test ss ≡ true → list_all test (insert_set s ss) ≡ true
unfolding insert_set
insert_holds test s [] h g = and_from (test s) true h refl
insert_holds test s (t ∷ ss) h g =
    let p = and_parts (test t) (list_all test ss) g in
    go (is_before s.name s.kind t) (and_from (test t) (list_all test (insert_set s ss)) p.0 (insert_holds test s ss h p.1))
  where
    go : (b : Bool) → list_all test (t ∷ insert_set s ss) ≡ true → list_all test (cond b (t ∷ insert_set s ss) (s ∷ t ∷ ss)) ≡ true
    go true k = k
    go false k = and_from (test s) (list_all test (t ∷ ss)) h g

-- the zone with a set more, by a line
more_holds : (y z : Zone) (o : Option (List Piece)) → line_good o ≡ true → holds y ≡ true → with_set y (set_in y.apex (fields (codes "set") o)) ≡ Ok z → holds z ≡ true
more_holds y z o g h e = go (set_in y.apex (fields (codes "set") o)) refl e
  where
    put : (s : Set) → holds_set y.apex s ≡ true → (r : Result (List Set) Fault) → added y.apex y.sets s ≡ r → within_room y r ≡ Ok z → holds z ≡ true
    put s k (Err f) a m = cc
    put s k (Ok ts) a m = go2 (leb (length (all_transferred ts)) 1048576) m
      where
        go2 : (b : Bool) → cond b (Ok (with_sets y ts)) (Err TooMuch) ≡ Ok z → holds z ≡ true
        go2 true n =
            let q : with_sets y ts ≡ z = cc in
            ap holds (sym q) ∙ ap (list_all (holds_set y.apex)) (added_so y.apex y.sets s ts a) ∙ insert_holds (holds_set y.apex) s y.sets k h
        go2 false n = cc

    go : (r : Result Set Fault) → set_in y.apex (fields (codes "set") o) ≡ r → with_set y r ≡ Ok z → holds z ≡ true
    go (Err f) a m = cc
    go (Ok s) a m = put s (line_holds y.apex s o g a) (added y.apex y.sets s) refl m

pub then_so : {A : Type 0} (n : ℕ) (r : Result A Fault) (f : A → Result Zone Refusal) (z : Zone) → then n r f ≡ Ok z → (x : A) × (r ≡ Ok x) × (f x ≡ Ok z)
then_so n (Ok x) f z e = (x, refl, e)
then_so n (Err g) f z e = cc

abbrev pub lines_good : List Line → Bool
lines_good ls = list_all (λ l. line_good l.pieces) ls

sets_hold : (y z : Zone) (ls : List Line) → lines_good ls ≡ true → holds y ≡ true → with_lines y ls ≡ Ok z → holds z ≡ true
unfolding with_lines
sets_hold y z [] g h e = let q : y ≡ z = cc in ap holds (sym q) ∙ h
sets_hold y z (l ∷ ls) g h e =
    let p = and_parts (line_good l.pieces) (lines_good ls) g in
    let t = then_so l.number (with_set y (set_in y.apex (fields (codes "set") l.pieces))) (λ x. with_lines x ls) z e in
    sets_hold t.0 z ls p.1 (more_holds y t.0 l.pieces p.0 h t.1) t.2

push_clean : (b : ℕ) (ls : List (List ℕ)) → no_end b ≡ true → list_all (list_all no_end) ls ≡ true → list_all (list_all no_end) (push b ls) ≡ true
push_clean b [] e h = and_from (list_all no_end (b ∷ [])) true (and_from (no_end b) true e refl) refl
push_clean b (l ∷ ls) e h =
    let p = and_parts (list_all no_end l) (list_all (list_all no_end) ls) h in
    and_from (list_all no_end (b ∷ l)) (list_all (list_all no_end) ls) (and_from (no_end b) (list_all no_end l) e p.0) p.1

lines_clean : (t : List ℕ) → list_all (list_all no_end) (lines_of t) ≡ true
unfolding lines_of
lines_clean [] = refl
lines_clean (b ∷ t) = go (eqb b 10) refl (lines_clean t)
  where
    go : (c : Bool) → eqb b 10 ≡ c → list_all (list_all no_end) (lines_of t) ≡ true → list_all (list_all no_end) (cond c ([] ∷ lines_of t) (push b (lines_of t))) ≡ true
    go true e h = h
    go false e h = push_clean b (lines_of t) (ap not e) h

numbered_good : (n : ℕ) (ls : List (List ℕ)) → list_all (list_all no_end) ls ≡ true → lines_good (numbered n ls) ≡ true
unfolding numbered
numbered_good n [] h = refl
numbered_good n (l ∷ ls) h =
    let p = and_parts (list_all no_end l) (list_all (list_all no_end) ls) h in
    go (pieces_of l) (λ ps e. line_taken l ps p.0 e) (numbered_good (suc n) ls p.1)
  where
    go : (o : Option (List Piece)) → ((ps : List Piece) → o ≡ Some ps → on_a_line ps ≡ true) → lines_good (numbered (suc n) ls) ≡ true → lines_good (unless_blank n o (numbered (suc n) ls)) ≡ true
    go None f g = g
    go (Some []) f g = g
    go (Some (p ∷ ps)) f g = and_from (on_a_line (p ∷ ps)) (lines_good (numbered (suc n) ls)) (f (p ∷ ps) refl) g

next_so : {A : Type 0} (end : ℕ) (ls : List Line) (f : Option (List Piece) → Result A Fault) (go : A → List Line → Result Zone Refusal) (z : Zone) → lines_good ls ≡ true → with_next end ls f go ≡ Ok z → (x : A) × (ms : List Line) × (lines_good ms ≡ true) × (go x ms ≡ Ok z)
next_so end [] f go z g e = cc
next_so end (l ∷ ls) f go z g e =
    let t = then_so l.number (f l.pieces) (λ x. go x ls) z e in
    (t.0, ls, (and_parts (line_good l.pieces) (lines_good ls) g).1, t.2)

pub read_held : (old : Option Zone) (text : List ℕ) (z : Zone) → text_meaning old text ≡ Ok z → holds z ≡ true
unfolding text_meaning
read_held old text z e =
    let end = suc (length (lines_of text)) in
    let ls = numbered 1 (lines_of text) in
    let times = λ (a : List (List ℕ)) (n : ℕ) (t : Times) (rest : List Line). with_lines (zone_with a n t) rest in
    let number = λ (a : List (List ℕ)) (n : ℕ) (ns : List Line). with_next end ns (λ o. times_of (fields (codes "times") o)) (times a n) in
    let top = λ (a : List (List ℕ)) (ms : List Line). with_next end ms (λ o. serial_of old a (fields (codes "number") o)) (number a) in
    let x = next_so end ls (λ o. top_of (fields (codes "top") o)) top z (numbered_good 1 (lines_of text) (lines_clean text)) e in
    let y = next_so end x.1 (λ o. serial_of old x.0 (fields (codes "number") o)) (number x.0) z x.2 x.3 in
    let w = next_so end y.1 (λ o. times_of (fields (codes "times") o)) (times x.0 y.0) z y.2 y.3 in
    sets_hold (zone_with x.0 y.0 w.0) z w.1 w.2 refl w.3
