-- No piece is longer in the normal form than as it was read.
use Rattle.std.proofs.Common.{◌≡◌, ℕ, suc, ◌+◌, ◌-◌, ◌*◌, ◌^◌, ◌<◌, ◌≤◌, Bool, true, false, cond, ◌&&◌, eqb, ltb, leb, List, [], ◌∷◌, ◌++◌, map, reverse, length, take, drop, Some, None, Ok, Err, Option, Result, sym, refl, ap, ◌∙◌, subst, arith, length-append}
use mathlib.Core.List.{reverse-cons}
use Rattle.std.specs.Fmt.{decimal}
use Rattle.std.specs.List.{list_all}
use Rattle.std.proofs.Math.Nat.{mul-le-mul_right, mul_assoc, pow-succ'}
use Rattle.std.proofs.lemmas.Bool.{cond-true, cond-false, and_parts, and_from, and_right, ltb-true, leb-true, lt-ltb, le-ltb, eqb-true}
use Rattle.std.proofs.lemmas.Fmt.{length-decimal-le}
use Rattle.std.proofs.lemmas.List.{length-take, drop_at}
use Rattle.lines.specs.Lines.{digit, digits, value_from, number_in}
use Rattle.names.specs.declared.fault.Fault.{Fault}
use Rattle.names.specs.declared.fault.Fault.TheVariants.{BadName, BadData}
use Rattle.names.specs.Labels.{written, proper}
use Rattle.names.specs.Order.{within}
use Rattle.names.specs.Reading.{first_piece as first_label, more_pieces, labels_in, last_dot, is_dot, read_below}
use Rattle.names.proofs.Extend.{named_so}
use Rattle.names.proofs.Proper.{weight, weight_append, length_written_root, length_written_all}
use Rattle.names.proofs.Readings.{below_dot, below_whole, below_short, last_there}
use Rattle.names.proofs.RoundTrip.{written_labels}
use Rattle.names.proofs.Within.{within_extends}
use Rattle.meaning.specs.Model.{delegates, aliases, Content, Addresses, Texts, Others, AliasOf, Delegated}
use Rattle.zonetext.specs.Division.{Piece, Word, Text}
use Rattle.zonetext.specs.Fields.{digit_of, byte_of, bytes_in, address_of, text_of, other_of, cons_if, all_of, some_bad_name, alias_to, alias_of, data_from, data_of}
use Rattle.zonetext.specs.Written.{piece_text, pieces_text, whole, is_below, name_text, name_piece, hexadecimal, address_piece, other_piece, data_pieces, holds_text, holds_data}
use Rattle.zonetext.proofs.Fielded.{short, name_cases, length_hex}
use Rattle.zonetext.proofs.Taken.{taken, length_more}

-- ---- numbers

nine_at_most : (m b : ℕ) → digit b ≡ true → m * 10 + (b - 48) + 1 ≤ (m + 1) * 10
nine_at_most m b h = let p = and_parts (leb 48 b) (leb b 57) h in let l = leb-true b 57 p.1 in omega arith

value_within : (m : ℕ) (w : List ℕ) → digits w ≡ true → value_from m w + 1 ≤ (m + 1) * 10 ^ length w
unfolding value_from
value_within m [] h = omega arith
value_within m (b ∷ w) h =
    let p = and_parts (digit b) (digits w) h in
    let ih = value_within (m * 10 + (b - 48)) w p.1 in
    let k = mul-le-mul_right (10 ^ length w) (nine_at_most m b p.0) in
    let e : (m + 1) * 10 * 10 ^ length w ≡ (m + 1) * 10 ^ length (b ∷ w) = mul_assoc (m + 1) 10 (10 ^ length w) ∙ ap (λ x. (m + 1) * x) (sym (pow-succ' 10 (length w))) in
    omega arith

-- without leading zeros no numeral is longer
pub number_shorter : (w : List ℕ) (n : ℕ) → number_in w ≡ Some n → length (decimal n) ≤ length w
unfolding number_in
number_shorter w n h = go (ltb 0 (length w) && digits w && ltb (value_from 0 w) (2 ^ 64)) refl h
  where
    go : (c : Bool) → (ltb 0 (length w) && digits w && ltb (value_from 0 w) (2 ^ 64)) ≡ c → cond c (Some (value_from 0 w)) None ≡ Some n → length (decimal n) ≤ length w
    go true e f =
        let p = and_parts (ltb 0 (length w) && digits w) (ltb (value_from 0 w) (2 ^ 64)) e in
        let q = and_parts (ltb 0 (length w)) (digits w) p.0 in
        let v : value_from 0 w ≡ n = cc in
        let b = value_within 0 w q.1 in
        let l = ltb-true (value_from 0 w) (2 ^ 64) p.1 in
        length-decimal-le (length w) n (ltb-true 0 (length w) q.0) (omega arith) (omega arith)
    go false e f = cc

-- ---- names

labels_there : (u : List ℕ) → 0 < length (labels_in u)
unfolding labels_in
labels_there u =
    let a = ap length (reverse-cons (first_label u) (more_pieces u)) in
    let b = length-append (reverse (more_pieces u)) (first_label u ∷ []) in
    omega arith

-- t is how the name was read
pub name_shorter : (apex : List (List ℕ)) (t : List ℕ) (n : List (List ℕ)) → read_below apex t ≡ Ok n → length (name_text apex n) ≤ length t
name_shorter apex t n h = go (is_dot t) (last_dot t) refl refl
  where
    root_whole : (m : List (List ℕ)) → m ≡ [] → length (name_text apex m) ≤ 1
    root_whole m e =
        let z : ltb (length apex) 0 ≡ false = le-ltb (length apex) 0 (omega arith) in
        let w : is_below apex [] ≡ false = and_right (within apex []) (ltb (length apex) 0) z in
        let k = ap length (ap (name_text apex) e ∙ cond-false (is_below apex []) (written (drop (length apex) [])) (whole []) w) in
        let o = length_written_root [] refl in
        omega arith

    -- with its last dot
    by_whole : (m : List (List ℕ)) → proper m ≡ true → 0 < length m → length (written m) + 1 ≤ length t → length (name_text apex m) ≤ length t
    by_whole m p l k = name_cases (λ x. length x ≤ length t) apex m (λ e. short_fits m p e k) (whole_fits m l k)
      where
        whole_fits : (m : List (List ℕ)) → 0 < length m → length (written m) + 1 ≤ length t → length (whole m) ≤ length t
        whole_fits [] l k = absurd (omega arith)
        whole_fits (x ∷ xs) l k = let a = length-append (written (x ∷ xs)) (46 ∷ []) in omega arith

        short_fits : (m : List (List ℕ)) → proper m ≡ true → is_below apex m ≡ true → length (written m) + 1 ≤ length t → length (written (drop (length apex) m)) ≤ length t
        short_fits m p e k =
            let s = short apex m e in
            let a = ap (λ r. length (written r)) s.behind in
            let b = ap weight s.parts in
            let c = weight_append apex s.rest in
            let n1 = ap length s.parts in
            let n2 = length-append apex s.rest in
            let d = length_written_all s.rest s.there in
            let f = length_written_all m (let y = s.there in omega arith) in
            omega arith

    go : (b c : Bool) → is_dot t ≡ b → last_dot t ≡ c → length (name_text apex n) ≤ length t
    go true c e f =
        let o : [] ≡ n = let q = sym (below_dot t apex e) ∙ h in cc in
        let k = root_whole n (sym o) in
        let l = eqb-true (length t) 1 (and_parts (eqb (length t) 1) (last_dot t) e).0 in
        omega arith
    go false true e f =
        let cut = take (length t - 1) t in
        let q = named_so (labels_in cut) n (sym (below_whole t apex e f) ∙ h) in
        let w = ap length (ap written q.1 ∙ written_labels cut) in
        let k = length-take (length t - 1) t in
        let l = last_there t f in
        let m = labels_there cut in
        let m2 = ap length q.1 in
        by_whole n (ap proper q.1 ∙ q.0) (omega arith) (omega arith)
    go false false e f =
        let q = named_so (apex ++ labels_in t) n (sym (below_short t apex e f) ∙ h) in
        let m = labels_there t in
        let a = length-append apex (labels_in t) in
        let n1 = ap length q.1 in
        let b : is_below apex n ≡ true = and_from (within apex n) (ltb (length apex) (length n)) (ap (within apex) q.1 ∙ within_extends apex (labels_in t)) (lt-ltb (length apex) (length n) (omega arith)) in
        let is : name_text apex n ≡ t =
        cond-true (is_below apex n) (written (drop (length apex) n)) (whole n) b ∙ ap (λ r. written (drop (length apex) r)) q.1 ∙ ap written (drop_at apex (labels_in t) (length apex) refl) ∙ written_labels t in
        let k = ap length is in
        omega arith

-- ---- hexadecimal

byte_some : (h l : Option ℕ) (o : Option (List ℕ)) (bs : List ℕ) → byte_of h l o ≡ Some bs → (cs : List ℕ) × (o ≡ Some cs) × (length bs ≡ suc (length cs))
byte_some None l o bs e = cc
byte_some (Some h) None o bs e = cc
byte_some (Some h) (Some l) None bs e = cc
byte_some (Some h) (Some l) (Some cs) bs e = let a : ((h * 16 + l) ∷ cs) ≡ bs = cc in (cs, refl, sym (ap length a))

pub hex_same : (w bs : List ℕ) → bytes_in w ≡ Some bs → length (hexadecimal bs) ≡ length w
unfolding bytes_in
hex_same [] bs e = let a : [] ≡ bs = cc in let b = ap length a in let l = length_hex bs in omega arith
hex_same (x ∷ []) bs e = cc
hex_same (x ∷ y ∷ w) bs e =
    let p = byte_some (digit_of x) (digit_of y) (bytes_in w) bs e in
    let q = hex_same w p.0 p.1 in
    let n = p.2 in
    let l = length_hex bs in
    let k = length_hex p.0 in
    omega arith

-- ---- data

address_shorter : (p : Piece) (x : List ℕ) → taken p ≡ true → address_of p ≡ Some x → length (piece_text (address_piece x)) ≤ length (piece_text p)
address_shorter (Text t) x h e = cc
address_shorter (Word w) x h e = go (eqb (length w) 16) e
  where
    go : (c : Bool) → cond c (bytes_in w) None ≡ Some x → length (hexadecimal x) ≤ length w
    go true f = let l = hex_same w x f in omega arith
    go false f = cc

text_shorter : (p : Piece) (x : List ℕ) → taken p ≡ true → text_of p ≡ Some x → length (piece_text (Text x)) ≤ length (piece_text p)
text_shorter (Word w) x h e = cc
text_shorter (Text t) x h e = let a : t ≡ x = cc in let l = ap (λ y. length (piece_text (Text y))) a in omega arith

other_shorter : (p : Piece) (x : List ℕ) → taken p ≡ true → other_of p ≡ Some x → length (piece_text (other_piece x)) ≤ length (piece_text p)
other_shorter (Text []) x h e = let a : [] ≡ x = cc in let l = ap (λ y. length (piece_text (other_piece y))) a in omega arith
other_shorter (Text (b ∷ t)) x h e = cc
other_shorter (Word w) [] h e =
    let l = hex_same w [] e in
    let z = length_hex [] in
    let n = ltb-true 0 (length w) h in
    absurd (omega arith)
other_shorter (Word w) (b ∷ x) h e = let l = hex_same w (b ∷ x) e in omega arith

module _ (write : List ℕ → Piece) (read : Piece → Option (List ℕ)) (shorter : (p : Piece) (x : List ℕ) → taken p ≡ true → read p ≡ Some x → length (piece_text (write x)) ≤ length (piece_text p)) where
  all_shorter : (ps : List Piece) (xs : List (List ℕ)) → list_all taken ps ≡ true → all_of read ps ≡ Some xs → length (pieces_text (map write xs)) ≤ length (pieces_text ps)
  unfolding all_of
  all_shorter [] xs h e = let a : [] ≡ xs = cc in let l = ap (λ ys. length (pieces_text (map write ys))) a in omega arith
  all_shorter (p ∷ ps) xs h e =
      let t = and_parts (taken p) (list_all taken ps) h in
      go (read p) refl (all_of read ps) refl e t.0 (λ ys g. all_shorter ps ys t.1 g)
    where
      go : (o : Option (List ℕ)) → read p ≡ o → (os : Option (List (List ℕ))) → all_of read ps ≡ os → cons_if o os ≡ Some xs → taken p ≡ true → ((ys : List (List ℕ)) → all_of read ps ≡ Some ys → length (pieces_text (map write ys)) ≤ length (pieces_text ps)) → length (pieces_text (map write xs)) ≤ length (pieces_text (p ∷ ps))
      go None f os g k t ih = cc
      go (Some x) f None g k t ih = cc
      go (Some x) f (Some ys) g k t ih =
          let a : (x ∷ ys) ≡ xs = cc in
          let l = ap (λ zs. length (pieces_text (map write zs))) a in
          let s = shorter p x t f in
          let r = ih ys g in
          let m = length_more p ps in
          let n = length_more (write x) (map write ys) in
          omega arith

texts_held : (ps : List Piece) (xs : List (List ℕ)) → list_all taken ps ≡ true → all_of text_of ps ≡ Some xs → list_all holds_text xs ≡ true
unfolding all_of
texts_held [] xs h e = let a : [] ≡ xs = cc in ap (list_all holds_text) (sym a)
texts_held (Word w ∷ ps) xs h e = cc
texts_held (Text t ∷ ps) xs h e =
    let q = and_parts (holds_text t) (list_all taken ps) h in
    go (all_of text_of ps) refl e q.0 (λ ys g. texts_held ps ys q.1 g)
  where
    go : (os : Option (List (List ℕ))) → all_of text_of ps ≡ os → cons_if (Some t) os ≡ Some xs → holds_text t ≡ true → ((ys : List (List ℕ)) → all_of text_of ps ≡ Some ys → list_all holds_text ys ≡ true) → list_all holds_text xs ≡ true
    go None g k t-held ih = cc
    go (Some ys) g k t-held ih =
        let a : (t ∷ ys) ≡ xs = cc in
        ap (list_all holds_text) (sym a) ∙ and_from (holds_text t) (list_all holds_text ys) t-held (ih ys g)

-- data that were read, as they are written
pub record Fits (apex : List (List ℕ)) (ps : List Piece) (c : Content) : Type 0 where
  pub held : holds_data c ≡ true
  pub room : length (pieces_text (data_pieces apex c)) ≤ length (pieces_text ps)

pub data_so : (f : List (List ℕ) → Content) (o : Option (List (List ℕ))) (c : Content) → data_from f o ≡ Ok c → (xs : List (List ℕ)) × (o ≡ Some xs) × (f xs ≡ c)
data_so f None c e = cc
data_so f (Some xs) c e = (xs, refl, let a : f xs ≡ c = cc in a)

alias_fits : (apex : List (List ℕ)) (ps : List Piece) (c : Content) → alias_of apex ps ≡ Ok c → Fits apex ps c
alias_fits apex [] c e = cc
alias_fits apex (Text t ∷ []) c e = cc
alias_fits apex (p ∷ q ∷ ps) c e = go (some_bad_name apex (p ∷ q ∷ ps)) e
  where
    go : (b : Bool) → ◌≡◌ {A = Result Content Fault} (cond b (Err BadName) (Err BadData)) (Ok c) → Fits apex (p ∷ q ∷ ps) c
    go true f = cc
    go false f = cc
alias_fits apex (Word w ∷ []) c e = go (read_below apex w) refl e
  where
    go : (r : Result (List (List ℕ)) Fault) → read_below apex w ≡ r → alias_to r ≡ Ok c → Fits apex (Word w ∷ []) c
    go (Err f) g k = cc
    go (Ok n) g k =
        let a : AliasOf n ≡ c = cc in
        let l = name_shorter apex w n g in
        let x = length_more (name_piece apex n) [] in
        let y = length_more (Word w) [] in
        let z : length (pieces_text (data_pieces apex (AliasOf n))) ≤ length (pieces_text (Word w ∷ [])) = omega arith in
        subst (Fits apex (Word w ∷ [])) a (record { held = refl; room = z })

pub data_fits : (apex : List (List ℕ)) (k : ℕ) (ps : List Piece) (c : Content) → list_all taken ps ≡ true → data_of k apex ps ≡ Ok c → Fits apex ps c
data_fits apex k ps c h e = go (eqb k 1) (eqb k 2) (delegates k) (aliases k) e
  where
    go : (a b d f : Bool) → cond a (data_from Addresses (all_of address_of ps)) (cond b (data_from Texts (all_of text_of ps)) (cond d (data_from (λ xs. Delegated (record { servers = xs })) (all_of address_of ps)) (cond f (alias_of apex ps) (data_from Others (all_of other_of ps))))) ≡ Ok c → Fits apex ps c
    go true b d f g =
        let q = data_so Addresses (all_of address_of ps) c g in
        subst (Fits apex ps) q.2 (record { held = refl; room = all_shorter address_piece address_of address_shorter ps q.0 h q.1 })
    go false true d f g =
        let q = data_so Texts (all_of text_of ps) c g in
        subst (Fits apex ps) q.2 (record { held = texts_held ps q.0 h q.1; room = all_shorter Text text_of text_shorter ps q.0 h q.1 })
    go false false true f g =
        let q = data_so (λ xs. Delegated (record { servers = xs })) (all_of address_of ps) c g in
        subst (Fits apex ps) q.2 (record { held = refl; room = all_shorter address_piece address_of address_shorter ps q.0 h q.1 })
    go false false false true g = alias_fits apex ps c g
    go false false false false g =
        let q = data_so Others (all_of other_of ps) c g in
        subst (Fits apex ps) q.2 (record { held = refl; room = all_shorter other_piece other_of other_shorter ps q.0 h q.1 })
