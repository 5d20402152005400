-- Numbers, names, data and sets are read as they were written.
use Rattle.std.proofs.Common.{◌≡◌, ℕ, ◌+◌, ◌-◌, ◌*◌, ◌/◌, ◌%◌, ◌^◌, ◌<◌, Bool, true, false, cond, ◌&&◌, ◌||◌, eqb, ltb, leb, List, [], ◌∷◌, ◌++◌, map, length, drop, Some, None, Ok, Err, Option, refl, sym, ap, ◌∙◌, subst, arith, length-append}
use Rattle.std.specs.Fmt.{decimal}
use Rattle.std.specs.List.{list_all}
use Rattle.std.proofs.lemmas.Bool.{cond-true, cond-false, and_parts, and_from, or_parts, not-true, ltb-true, ltb-false, lt-ltb, le-leb, eqb-true, eq-eqb}
use Rattle.std.proofs.lemmas.Bool.Decides.{nat_tests}
use Rattle.std.proofs.lemmas.Fmt.{decimal_by_steps}
use Rattle.std.proofs.lemmas.List.{drop_at}
use Rattle.lines.specs.Lines.{digit, digits, value_from, number_in}
use Rattle.names.specs.declared.fault.Fault.TheVariants.{BadData}
use Rattle.names.specs.Labels.{label_byte, label_bytes, proper_label, proper_labels, written, proper}
use Rattle.names.specs.Order.{within}
use Rattle.names.specs.Reading.{read_below}
use Rattle.names.proofs.Proper.{limits, labels_append}
use Rattle.names.proofs.RoundTrip.{written_laws, written_highest, written_one, written_root, written_there}
use Rattle.names.proofs.Within.{within_front}
use Rattle.meaning.specs.Model.{is_kind, plain, delegates, aliases, fits, pieces_fit, Content, Addresses, Texts, Others, AliasOf, Delegated, Set}
use Rattle.zonetext.specs.Division.{Piece, Text}
use Rattle.zonetext.specs.Fields.{below, seconds_of, kind_from, kind_of, digit_of, byte_of, bytes_in, address_of, text_of, other_of, cons_if, all_of, data_from, alias_to, alias_of, data_of, fitting, set_from}
use Rattle.zonetext.specs.Texts.{set_in}
use Rattle.zonetext.specs.Written.{number_piece, whole, is_below, name_text, name_piece, hex_digit, hexadecimal, address_piece, other_piece, data_pieces, set_pieces, holds_text, holds_data}
use Rattle.zonetext.specs.TextLaws.{are_bytes, is_address, good_data, good_set, holds_word, holds_piece}
use Rattle.zonetext.proofs.Pieced.{word_byte}

-- ---- numbers

digits_push : (ds : List ℕ) (b : ℕ) → digits ds ≡ true → digit b ≡ true → digits (ds ++ b ∷ []) ≡ true
digits_push [] b h g = and_from (digit b) true g refl
digits_push (d ∷ ds) b h g =
    let p = and_parts (digit d) (digits ds) h in
    and_from (digit d) (digits (ds ++ b ∷ [])) p.0 (digits_push ds b p.1 g)

value_push : (n : ℕ) (ds : List ℕ) (b : ℕ) → value_from n (ds ++ b ∷ []) ≡ value_from n ds * 10 + (b - 48)
unfolding value_from
value_push n [] b = refl
value_push n (d ∷ ds) b = value_push (n * 10 + (d - 48)) ds b

value_one : (b : ℕ) → value_from 0 (b ∷ []) ≡ b - 48
unfolding value_from
value_one b = omega arith

record Stands (n : ℕ) (ds : List ℕ) : Type 0 where
  there : 0 < length ds
  good : digits ds ≡ true
  value : value_from 0 ds ≡ n

digit_there : (n : ℕ) → n < 10 → digit (48 + n) ≡ true
digit_there n h = grind (arith, nat_tests)

stands : (n : ℕ) → n < 2 ^ 64 → Stands n (decimal n)
stands = decimal_by_steps Stands
    (λ n h. record { there = omega arith; good = and_from (digit (48 + n)) true (digit_there n h) refl; value = let v = value_one (48 + n) in omega arith })
    (λ n ds h s. record {
      there = let l = length-append ds ((48 + n % 10) ∷ []) in omega arith;
      good = digits_push ds (48 + n % 10) s.good (digit_there (n % 10) (omega arith));
      value = let v = value_push 0 ds (48 + n % 10) in let w = s.value in omega arith;
    })

pub number_back : (n : ℕ) → n < 2 ^ 64 → number_in (decimal n) ≡ Some n
unfolding number_in
number_back n h =
    let s = stands n h in
    let w = decimal n in
    cond-true (ltb 0 (length w) && digits w && ltb (value_from 0 w) (2 ^ 64)) (Some (value_from 0 w)) None
    (and_from (ltb 0 (length w) && digits w) (ltb (value_from 0 w) (2 ^ 64)) (and_from (ltb 0 (length w)) (digits w) (lt-ltb 0 (length w) s.there) s.good) (ap (λ v. ltb v (2 ^ 64)) s.value ∙ lt-ltb n (2 ^ 64) h))
    ∙ ap Some s.value

digit_byte : (b : ℕ) → digit b ≡ true → word_byte b ≡ true
digit_byte b h = grind (arith, nat_tests)

digits_word : (ds : List ℕ) → digits ds ≡ true → list_all word_byte ds ≡ true
digits_word [] h = refl
digits_word (d ∷ ds) h =
    let p = and_parts (digit d) (digits ds) h in
    and_from (word_byte d) (list_all word_byte ds) (digit_byte d p.0) (digits_word ds p.1)

pub number_word : (n : ℕ) → n < 2 ^ 64 → holds_word (decimal n) ≡ true
number_word n h =
    let s = stands n h in
    and_from (ltb 0 (length (decimal n))) (list_all word_byte (decimal n)) (lt-ltb 0 (length (decimal n)) s.there) (digits_word (decimal n) s.good)

pub seconds_back : (n : ℕ) → ltb n (2 ^ 32) ≡ true → seconds_of (number_piece n) ≡ Some n
seconds_back n h =
    let l = ltb-true n (2 ^ 32) h in
    ap (below (2 ^ 32)) (number_back n (omega arith)) ∙ cond-true (ltb n (2 ^ 32)) (Some n) None h

kind_back : (k : ℕ) → is_kind k ≡ true → kind_of (number_piece k) ≡ Some k
kind_back k h = ap kind_from (number_back k (kind_small k h)) ∙ cond-true (leb 1 k && leb k 31) (Some k) None h
  where
    kind_small : (j : ℕ) → is_kind j ≡ true → j < 2 ^ 64
    kind_small j g = let l = Rattle.std.proofs.lemmas.Bool.leb-true j 31 (and_parts (leb 1 j) (leb j 31) g).1 in omega arith

-- ---- names

label_word : (bs : List ℕ) → label_bytes bs ≡ true → list_all word_byte bs ≡ true
label_word [] h = refl
label_word (b ∷ bs) h =
    let p = and_parts (label_byte b) (label_bytes bs) h in
    and_from (word_byte b) (list_all word_byte bs) (byte b p.0) (label_word bs p.1)
  where
    byte : (c : ℕ) → label_byte c ≡ true → word_byte c ≡ true
    byte c g = grind (arith, nat_tests)

proper_word : (l : List ℕ) → proper_label l ≡ true → list_all word_byte l ≡ true
proper_word l h = label_word l (and_parts (leb 1 (length l) && leb (length l) 63) (label_bytes l) h).1

words_both : (xs ys : List ℕ) → list_all word_byte xs ≡ true → list_all word_byte ys ≡ true → list_all word_byte (xs ++ ys) ≡ true
words_both [] ys h g = g
words_both (x ∷ xs) ys h g =
    let p = and_parts (word_byte x) (list_all word_byte xs) h in
    and_from (word_byte x) (list_all word_byte (xs ++ ys)) p.0 (words_both xs ys p.1 g)

written_words : (ls : List (List ℕ)) → proper_labels ls ≡ true → list_all word_byte (written ls) ≡ true
written_words [] h = ap (list_all word_byte) written_root
written_words (l ∷ []) h = ap (list_all word_byte) (written_one l) ∙ proper_word l (and_parts (proper_label l) true h).0
written_words (l ∷ m ∷ ms) h =
    let p = and_parts (proper_label l) (proper_labels (m ∷ ms)) h in
    ap (list_all word_byte) (written_highest l m ms) ∙ words_both (written (m ∷ ms)) (46 ∷ l) (written_words (m ∷ ms) p.1) (proper_word l p.0)

written_word : (ls : List (List ℕ)) → proper_labels ls ≡ true → holds_word (written ls) ≡ true
written_word ls h = and_from (ltb 0 (length (written ls))) (list_all word_byte (written ls)) (lt-ltb 0 (length (written ls)) (there ls h)) (written_words ls h)
  where
    there : (ms : List (List ℕ)) → proper_labels ms ≡ true → 0 < length (written ms)
    there [] g = let e = ap length written_root in omega arith
    there (m ∷ ms) g = written_there (m ∷ ms) g (omega arith)

pub whole_word : (n : List (List ℕ)) → proper n ≡ true → holds_word (whole n) ≡ true
whole_word [] h = written_word [] refl
whole_word (l ∷ ls) h =
    let w = written (l ∷ ls) in
    let a = length-append w (46 ∷ []) in
    and_from (ltb 0 (length (w ++ 46 ∷ []))) (list_all word_byte (w ++ 46 ∷ [])) (lt-ltb 0 (length (w ++ 46 ∷ [])) (omega arith)) (words_both w (46 ∷ []) (written_words (l ∷ ls) (limits (l ∷ ls) h).labels) refl)

root_back : (apex : List (List ℕ)) → read_below apex (written []) ≡ Ok []
unfolding read_below written
root_back apex = refl

pub whole_back : (apex n : List (List ℕ)) → proper n ≡ true → read_below apex (whole n) ≡ Ok n
whole_back apex [] h = root_back apex
whole_back apex (l ∷ ls) h = written_laws.dotted_written apex (l ∷ ls) h (omega arith)

-- a name below the apex, as the apex and what stands below it
pub record Short (apex n : List (List ℕ)) : Type 0 where
  pub rest : List (List ℕ)
  pub parts : n ≡ apex ++ rest
  pub there : 0 < length rest
  pub behind : drop (length apex) n ≡ rest

pub short : (apex n : List (List ℕ)) → is_below apex n ≡ true → Short apex n
short apex n h =
    let p = and_parts (within apex n) (ltb (length apex) (length n)) h in
    let f = within_front apex n p.0 in
    let l = ltb-true (length apex) (length n) p.1 in
    let a = length-append apex f.0 in
    let e = ap length f.1 in
    record { rest = f.0; parts = f.1; there = omega arith; behind = ap (drop (length apex)) f.1 ∙ drop_at apex f.0 (length apex) refl }

pub name_cases : (P : List ℕ → Type 0) (apex n : List (List ℕ)) → (is_below apex n ≡ true → P (written (drop (length apex) n))) → P (whole n) → P (name_text apex n)
name_cases P apex n f g = go (is_below apex n) refl
  where
    go : (b : Bool) → is_below apex n ≡ b → P (name_text apex n)
    go true e = subst P (sym (cond-true (is_below apex n) (written (drop (length apex) n)) (whole n) e)) (f e)
    go false e = subst P (sym (cond-false (is_below apex n) (written (drop (length apex) n)) (whole n) e)) g

pub name_back : (apex n : List (List ℕ)) → proper n ≡ true → read_below apex (name_text apex n) ≡ Ok n
name_back apex n h = name_cases (λ t. read_below apex t ≡ Ok n) apex n
    (λ e. let s = short apex n e in ap (λ r. read_below apex (written r)) s.behind ∙ written_laws.short_written apex s.rest (ap proper (sym s.parts) ∙ h) s.there ∙ ap Ok (sym s.parts))
    (whole_back apex n h)

name_word : (apex n : List (List ℕ)) → proper n ≡ true → holds_word (name_text apex n) ≡ true
name_word apex n h = name_cases (λ t. holds_word t ≡ true) apex n
    (λ e. let s = short apex n e in ap (λ r. holds_word (written r)) s.behind ∙ written_word s.rest (labels_append apex s.rest (ap proper_labels (sym s.parts) ∙ (limits n h).labels)).1)
    (whole_word n h)

-- ---- hexadecimal

digit_back : (d : ℕ) → d < 16 → digit_of (hex_digit d) ≡ Some d
digit_back d h = go (ltb d 10) refl
  where
    low : (b : ℕ) → leb 48 b && leb b 57 ≡ true → digit_of b ≡ Some (b - 48)
    low b g = cond-true (leb 48 b && leb b 57) (Some (b - 48)) (cond (leb 97 b && leb b 102) (Some (b - 87)) (cond (leb 65 b && leb b 70) (Some (b - 55)) None)) g

    high : (b : ℕ) → leb 48 b && leb b 57 ≡ false → leb 97 b && leb b 102 ≡ true → digit_of b ≡ Some (b - 87)
    high b g k =
        cond-false (leb 48 b && leb b 57) (Some (b - 48)) (cond (leb 97 b && leb b 102) (Some (b - 87)) (cond (leb 65 b && leb b 70) (Some (b - 55)) None)) g
        ∙ cond-true (leb 97 b && leb b 102) (Some (b - 87)) (cond (leb 65 b && leb b 70) (Some (b - 55)) None) k

    go : (c : Bool) → ltb d 10 ≡ c → digit_of (hex_digit d) ≡ Some d
    go true e =
        let l = ltb-true d 10 e in
        ap digit_of (cond-true (ltb d 10) (48 + d) (87 + d) e) ∙ low (48 + d) (grind (arith, nat_tests)) ∙ ap Some (omega arith)
    go false e =
        let l = ltb-false d 10 e in
        ap digit_of (cond-false (ltb d 10) (48 + d) (87 + d) e) ∙ high (87 + d) (grind (arith, nat_tests)) (grind (arith, nat_tests)) ∙ ap Some (omega arith)

hex_byte : (d : ℕ) → d < 16 → word_byte (hex_digit d) ≡ true
hex_byte d h = go (ltb d 10) refl
  where
    go : (c : Bool) → ltb d 10 ≡ c → word_byte (hex_digit d) ≡ true
    go true e =
        let l = ltb-true d 10 e in
        ap word_byte (cond-true (ltb d 10) (48 + d) (87 + d) e) ∙ (grind (arith, nat_tests))
    go false e =
        let l = ltb-false d 10 e in
        ap word_byte (cond-false (ltb d 10) (48 + d) (87 + d) e) ∙ (grind (arith, nat_tests))

halves : (b : ℕ) → b < 256 → (b / 16 < 16) × (b % 16 < 16) × ((b / 16) * 16 + b % 16 ≡ b)
halves b h = (omega arith, omega arith, omega arith)

hex_back : (bs : List ℕ) → are_bytes bs ≡ true → bytes_in (hexadecimal bs) ≡ Some bs
unfolding bytes_in hexadecimal
hex_back [] h = refl
hex_back (b ∷ bs) h =
    let p = and_parts (ltb b 256) (are_bytes bs) h in
    let t = halves b (ltb-true b 256 p.0) in
    (λ i. byte_of (digit_back (b / 16) t.0 i) (digit_back (b % 16) t.1 i) (hex_back bs p.1 i)) ∙ ap (λ x. Some (x ∷ bs)) t.2

hex_words : (bs : List ℕ) → are_bytes bs ≡ true → list_all word_byte (hexadecimal bs) ≡ true
unfolding hexadecimal
hex_words [] h = refl
hex_words (b ∷ bs) h =
    let p = and_parts (ltb b 256) (are_bytes bs) h in
    let t = halves b (ltb-true b 256 p.0) in
    let x = hex_digit (b / 16) in
    let y = hex_digit (b % 16) in
    and_from (word_byte x) (word_byte y && list_all word_byte (hexadecimal bs)) (hex_byte (b / 16) t.0) (and_from (word_byte y) (list_all word_byte (hexadecimal bs)) (hex_byte (b % 16) t.1) (hex_words bs p.1))

pub length_hex : (bs : List ℕ) → length (hexadecimal bs) ≡ 2 * length bs
unfolding hexadecimal
length_hex [] = refl
length_hex (b ∷ bs) = let h = length_hex bs in omega arith

hex_word : (bs : List ℕ) → are_bytes bs ≡ true → 0 < length bs → holds_word (hexadecimal bs) ≡ true
hex_word bs h n =
    let l = length_hex bs in
    and_from (ltb 0 (length (hexadecimal bs))) (list_all word_byte (hexadecimal bs)) (lt-ltb 0 (length (hexadecimal bs)) (omega arith)) (hex_words bs h)

-- ---- data, piece by piece

address_back : (a : List ℕ) → is_address a ≡ true → address_of (address_piece a) ≡ Some a
address_back a h =
    let p = and_parts (eqb (length a) 8) (are_bytes a) h in
    let n = eqb-true (length a) 8 p.0 in
    let l = length_hex a in
    cond-true (eqb (length (hexadecimal a)) 16) (bytes_in (hexadecimal a)) None (eq-eqb (length (hexadecimal a)) 16 (omega arith)) ∙ hex_back a p.1

address_held : (a : List ℕ) → is_address a ≡ true → holds_piece (address_piece a) ≡ true
address_held a h =
    let p = and_parts (eqb (length a) 8) (are_bytes a) h in
    let n = eqb-true (length a) 8 p.0 in
    hex_word a p.1 (omega arith)

other_back : (bs : List ℕ) → are_bytes bs ≡ true → other_of (other_piece bs) ≡ Some bs
other_back [] h = refl
other_back (b ∷ bs) h = hex_back (b ∷ bs) h

other_held : (bs : List ℕ) → are_bytes bs ≡ true → holds_piece (other_piece bs) ≡ true
other_held [] h = refl
other_held (b ∷ bs) h = hex_word (b ∷ bs) h (omega arith)

module _ (write : List ℕ → Piece) (read : Piece → Option (List ℕ)) (good : List ℕ → Bool) where
  all_back : ((x : List ℕ) → good x ≡ true → read (write x) ≡ Some x) → (xs : List (List ℕ)) → list_all good xs ≡ true → all_of read (map write xs) ≡ Some xs
  unfolding all_of
  all_back f [] h = refl
  all_back f (x ∷ xs) h =
      let p = and_parts (good x) (list_all good xs) h in
      λ i. cons_if (f x p.0 i) (all_back f xs p.1 i)

  all_held : ((x : List ℕ) → good x ≡ true → holds_piece (write x) ≡ true) → (xs : List (List ℕ)) → list_all good xs ≡ true → list_all holds_piece (map write xs) ≡ true
  all_held f [] h = refl
  all_held f (x ∷ xs) h =
      let p = and_parts (good x) (list_all good xs) h in
      and_from (holds_piece (write x)) (list_all holds_piece (map write xs)) (f x p.0) (all_held f xs p.1)

texts_back : (xs : List (List ℕ)) → all_of text_of (map Text xs) ≡ Some xs
unfolding all_of
texts_back [] = refl
texts_back (x ∷ xs) = ap (cons_if (Some x)) (texts_back xs)

-- ---- the data of a kind

plain_apart : (k : ℕ) → plain k ≡ true → (eqb k 1 ≡ false) × (eqb k 2 ≡ false) × (eqb k 4 ≡ false) × (eqb k 5 ≡ false)
plain_apart k h =
    let n = not-true (eqb k 1 || eqb k 2 || delegates k || aliases k) h in
    let p = or_parts (eqb k 1 || eqb k 2 || delegates k) (aliases k) n in
    let q = or_parts (eqb k 1 || eqb k 2) (delegates k) p.0 in
    let r = or_parts (eqb k 1) (eqb k 2) q.0 in
    (r.0, r.1, q.1, p.1)

data_back : (apex : List (List ℕ)) (k : ℕ) (c : Content) → fits k c ≡ true → good_data c ≡ true → data_of k apex (data_pieces apex c) ≡ Ok c
data_back apex k (Addresses xs) h g =
    let e = eqb-true k 1 (and_parts (eqb k 1) (leb (length xs) 16) h).0 in
    ap (λ j. data_of j apex (map address_piece xs)) e ∙ ap (data_from Addresses) (all_back address_piece address_of is_address address_back xs g)
data_back apex k (Texts xs) h g =
    let e = eqb-true k 2 (and_parts (eqb k 2) (pieces_fit xs) h).0 in
    ap (λ j. data_of j apex (map Text xs)) e ∙ ap (data_from Texts) (texts_back xs)
data_back apex k (Others xs) h g =
    let n = plain_apart k (and_parts (plain k) (pieces_fit xs) h).0 in
    let ps = map other_piece xs in
    (λ i. cond (n.0 i) (data_from Addresses (all_of address_of ps)) (cond (n.1 i) (data_from Texts (all_of text_of ps)) (cond (n.2 i) (data_from (λ ys. Delegated (record { servers = ys })) (all_of address_of ps)) (cond (n.3 i) (alias_of apex ps) (data_from Others (all_of other_of ps))))))
    ∙ ap (data_from Others) (all_back other_piece other_of are_bytes other_back xs g)
data_back apex k (AliasOf m) h g =
    ap (λ j. data_of j apex (name_piece apex m ∷ [])) (eqb-true k 5 h) ∙ ap alias_to (name_back apex m g)
data_back apex k (Delegated d) h g =
    let e = eqb-true k 4 (and_parts (delegates k) (leb 1 (length d.servers)) (and_parts (delegates k && leb 1 (length d.servers)) (leb (length d.servers) 16) h).0).0 in
    ap (λ j. data_of j apex (map address_piece d.servers)) e ∙ ap (data_from (λ ys. Delegated (record { servers = ys }))) (all_back address_piece address_of is_address address_back d.servers g)

data_held : (apex : List (List ℕ)) (c : Content) → good_data c ≡ true → holds_data c ≡ true → list_all holds_piece (data_pieces apex c) ≡ true
data_held apex (Addresses xs) g h = all_held address_piece address_of is_address address_held xs g
data_held apex (Texts xs) g h = all_held Text text_of holds_text (λ x p. p) xs h
data_held apex (Others xs) g h = all_held other_piece other_of are_bytes other_held xs g
data_held apex (AliasOf m) g h = and_from (holds_word (name_text apex m)) true (name_word apex m g) refl
data_held apex (Delegated d) g h = all_held address_piece address_of is_address address_held d.servers g

-- ---- a set

record GoodSet (s : Set) : Type 0 where
  named : proper s.name ≡ true
  kind : is_kind s.kind ≡ true
  time : ltb s.ttl (2 ^ 32) ≡ true
  fit : fits s.kind s.content ≡ true
  data_good : good_data s.content ≡ true

good_parts : (s : Set) → good_set s ≡ true → GoodSet s
good_parts s h =
    let p = and_parts (proper s.name && is_kind s.kind && ltb s.ttl (2 ^ 32) && fits s.kind s.content) (good_data s.content) h in
    let q = and_parts (proper s.name && is_kind s.kind && ltb s.ttl (2 ^ 32)) (fits s.kind s.content) p.0 in
    let r = and_parts (proper s.name && is_kind s.kind) (ltb s.ttl (2 ^ 32)) q.0 in
    let t = and_parts (proper s.name) (is_kind s.kind) r.0 in
    record { named = t.0; kind = t.1; time = r.1; fit = q.1; data_good = p.1 }

pub set_back : (apex : List (List ℕ)) (s : Set) → good_set s ≡ true → set_in apex (Some (set_pieces apex s)) ≡ Ok s
set_back apex s h =
    let g = good_parts s h in
    (λ i. set_from apex (seconds_back s.ttl g.time i) (name_back apex s.name g.named i) (kind_back s.kind g.kind i) (data_pieces apex s.content))
    ∙ ap (fitting s.name s.kind s.ttl) (data_back apex s.kind s.content g.fit g.data_good)
    ∙ cond-true (fits s.kind s.content) (Ok s) (Err BadData) g.fit

pub set_held : (apex : List (List ℕ)) (s : Set) → good_set s ≡ true → holds_data s.content ≡ true → list_all holds_piece (set_pieces apex s) ≡ true
set_held apex s h d =
    let g = good_parts s h in
    let k = Rattle.std.proofs.lemmas.Bool.leb-true s.kind 31 (and_parts (leb 1 s.kind) (leb s.kind 31) g.kind).1 in
    let t = ltb-true s.ttl (2 ^ 32) g.time in
    let ps = data_pieces apex s.content in
    and_from (holds_word (name_text apex s.name)) (holds_word (decimal s.kind) && (holds_word (decimal s.ttl) && list_all holds_piece ps)) (name_word apex s.name g.named)
    (and_from (holds_word (decimal s.kind)) (holds_word (decimal s.ttl) && list_all holds_piece ps) (number_word s.kind (omega arith))
    (and_from (holds_word (decimal s.ttl)) (list_all holds_piece ps) (number_word s.ttl (omega arith)) (data_held apex s.content g.data_good d)))
