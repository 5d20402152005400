-- Lines in their normal form are read as they were meant.
use Rattle.std.proofs.Common.{◌≡◌, ℕ, ◌<◌, ◌≤◌, true, cond, ◌&&◌, ltb, leb, List, [], ◌∷◌, ◌++◌, length, Some, Ok, Err, codes, refl, ap, ◌∙◌, arith}
use Rattle.std.proofs.lemmas.Bool.{and_parts, and_from, cond-true, le-leb, lt-ltb}
use Rattle.std.proofs.lemmas.Bool.Decides.{nat_tests}
use Rattle.names.specs.declared.fault.Fault.TheVariants.{Malformed}
use Rattle.names.specs.Labels.{label_byte, label_bytes, proper_label, proper_labels, written, proper}
use Rattle.names.proofs.Proper.{limits}
use Rattle.names.proofs.RoundTrip.{written_laws, written_there, written_root, written_one, written_highest}
use Rattle.lines.specs.Lines.{in_word, readable, words, plain, field, fields, line_of, number_in}
use Rattle.lines.proofs.Cut.{line_laws}
use Rattle.script.specs.Grammar.{Copy, Ask, Bring, place_in, brought, copied, asked, meaning, line_meaning}
use Rattle.script.specs.Laws.{ScriptLaws}

line : (ws : List (List ℕ)) → fields ws ≡ true → length (line_of ws) ≤ 1200 → line_meaning (line_of ws) ≡ meaning ws
line ws h n =
    ap (λ t. cond (leb (length t) 1200) (meaning (words t)) (Err Malformed)) (line_laws.whole ws h)
    ∙ cond-true (leb (length (line_of ws)) 1200) (meaning (words (line_of ws))) (Err Malformed) (le-leb (length (line_of ws)) 1200 n)
    ∙ ap meaning (line_laws.row ws h)

comment : (text rest : List ℕ) → line_meaning (text ++ 59 ∷ rest) ≡ line_meaning text
comment text rest = ap (λ t. cond (leb (length t) 1200) (meaning (words t)) (Err Malformed)) (line_laws.comment text rest)

-- ---- a written name is a word

byte_plain : (b : ℕ) → label_byte b ≡ true → (in_word b && readable b) ≡ true
byte_plain b h = grind (arith, nat_tests)

bytes_plain : (bs : List ℕ) → label_bytes bs ≡ true → plain bs ≡ true
bytes_plain [] h = refl
bytes_plain (b ∷ bs) h =
    let p = and_parts (label_byte b) (label_bytes bs) h in
    and_from (in_word b && readable b) (plain bs) (byte_plain b p.0) (bytes_plain bs p.1)

plain_append : (xs ys : List ℕ) → plain xs ≡ true → plain ys ≡ true → plain (xs ++ ys) ≡ true
plain_append [] ys h k = k
plain_append (x ∷ xs) ys h k =
    let p = and_parts (in_word x && readable x) (plain xs) h in
    and_from (in_word x && readable x) (plain (xs ++ ys)) p.0 (plain_append xs ys p.1 k)

label_plain : (l : List ℕ) → proper_label l ≡ true → plain l ≡ true
label_plain l h = bytes_plain l (and_parts (leb 1 (length l) && leb (length l) 63) (label_bytes l) h).1

-- from the highest label, which stands last, down
written_plain : (ls : List (List ℕ)) → proper_labels ls ≡ true → plain (written ls) ≡ true
written_plain [] h = ap plain written_root
written_plain (l ∷ []) h = ap plain (written_one l) ∙ label_plain l (and_parts (proper_label l) true h).0
written_plain (l ∷ m ∷ ms) h =
    let p = and_parts (proper_label l) (proper_labels (m ∷ ms)) h in
    ap plain (written_highest l m ms) ∙ plain_append (written (m ∷ ms)) (46 ∷ l) (written_plain (m ∷ ms) p.1) (label_plain l p.0)

word : (n : List (List ℕ)) → proper n ≡ true → field (written n) ≡ true
word n h =
    let p = (limits n h).labels in
    and_from (ltb 0 (length (written n))) (plain (written n)) (lt-ltb 0 (length (written n)) (some n p)) (written_plain n p)
  where
    some : (ls : List (List ℕ)) → proper_labels ls ≡ true → 0 < length (written ls)
    some [] p = let e = ap length written_root in omega arith
    some (l ∷ ls) p = written_there (l ∷ ls) p (omega arith)

-- ---- each line

bring : (w : List ℕ) (n : ℕ) → number_in w ≡ Some n → meaning (codes "bring" ∷ w ∷ []) ≡ Ok (Bring n)
bring w n h = ap brought h

copy : (w : List ℕ) (s : ℕ) (n : List (List ℕ)) → place_in 4 w ≡ Some s → proper n ≡ true → meaning (codes "copy" ∷ w ∷ written n ∷ []) ≡ Ok (Copy s n)
copy w s n h p = λ i. copied (h i) (written_laws.whole_written n p i)

ask : (w v : List ℕ) (a k : ℕ) (n : List (List ℕ)) → place_in 12 w ≡ Some a → place_in 31 v ≡ Some k → proper n ≡ true → meaning (codes "ask" ∷ w ∷ written n ∷ v ∷ []) ≡ Ok (Ask a n k)
ask w v a k n h g p = λ i. asked (h i) (written_laws.whole_written n p i) (g i)

pub script_laws : ScriptLaws
script_laws = record {
  line = line;
  comment = comment;
  word = word;
  tick = refl;
  zone = λ file. refl;
  bring = bring;
  copy = copy;
  ask = ask;
}
