-- Writing behind what is there, piece by piece.
use Rattle.std.proofs.Common.{◌≡◌, ℕ, ◌<◌, true, false, List, [], ◌∷◌, ◌++◌, length, take, is_ok, Ok, Err, Result, sym, ap, ◌∙◌, true≢false, append_assoc, append-nil, arith}
use Rattle.std.proofs.lemmas.List.{take_at}
use Rattle.std.proofs.lemmas.Bool.{and_parts}
use Rattle.names.specs.Labels.{proper_label, proper_labels}
use Rattle.names.specs.Wire.{wire_labels, wire, Appends}
use Rattle.names.proofs.Push.{label_length}

-- ---- the labels

pub wire_push : (ls : List (List ℕ)) (l : List ℕ) → wire_labels (ls ++ l ∷ []) ≡ wire_labels ls ++ (length l ∷ l)
unfolding wire_labels
wire_push [] l = ap (λ x. length l ∷ x) (append-nil l)
wire_push (m ∷ ls) l = ap (λ x. length m ∷ (m ++ x)) (wire_push ls l) ∙ ap (λ x. length m ∷ x) (sym (append_assoc m (wire_labels ls) (length l ∷ l)))

-- the loop that writes them: out is start and the labels that are done, before those that are left
pub record Written (start out : List ℕ) (ls left : List (List ℕ)) : Type 0 where
  pub done : List (List ℕ)
  pub parted : ls ≡ done ++ left
  pub so : out ≡ start ++ wire_labels done

pub none_written : (start : List ℕ) (ls left : List (List ℕ)) → left ≡ ls → Written start start ls left
unfolding wire_labels
none_written start ls left h = record { done = []; parted = sym h; so = sym (append-nil start) }

pub one_written : (start mid after : List ℕ) (ls left more : List (List ℕ)) (l : List ℕ) → Written start mid ls left → left ≡ l ∷ more → after ≡ mid ++ (length l ∷ l) → Written start after ls more
one_written start mid after ls left more l w h a =
    record {
      done = w.done ++ l ∷ [];
      parted = w.parted ∙ ap (λ x. w.done ++ x) h ∙ sym (append_assoc w.done (l ∷ []) more);
      so = a ∙ ap (λ x. x ++ (length l ∷ l)) w.so ∙ append_assoc start (wire_labels w.done) (length l ∷ l) ∙ ap (λ x. start ++ x) (sym (wire_push w.done l));
    }

pub all_written : (before start out : List ℕ) (ls left : List (List ℕ)) (n : ℕ) → n ≡ length ls → start ≡ before ++ n ∷ [] → Written start out ls left → left ≡ [] → out ≡ before ++ wire ls
unfolding wire
all_written before start out ls left n e s w h =
    let whole : w.done ≡ ls = sym (w.parted ∙ ap (λ x. w.done ++ x) h ∙ append-nil w.done) in
    w.so ∙ (λ j. s j ++ wire_labels (whole j)) ∙ append_assoc before (n ∷ []) (wire_labels ls) ∙ (λ j. before ++ (e j ∷ wire_labels ls))

pub first_short : (left more : List (List ℕ)) (l : List ℕ) → proper_labels left ≡ true → left ≡ l ∷ more → (length l < 256) × (proper_labels more ≡ true)
first_short left more l p h =
    let q = and_parts (proper_label l) (proper_labels more) (ap proper_labels (sym h) ∙ p) in
    let n = (label_length l q.0).1 in
    (omega arith, q.1)

-- what was there, found again after a call that failed
pub kept : {A E : Type 0} (before due after : List ℕ) (r : Result A E) (n : ℕ) → Appends before due r after → is_ok r ≡ false → n ≡ length before → take n after ≡ before
kept before due after (Ok a) n h f e = absurd (true≢false f)
kept before due after (Err y) n h f e = ap (take n) h.1 ∙ take_at before h.0 n (sym e)
