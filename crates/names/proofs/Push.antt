-- One label more, as it is written into the block: the invariant, and what the block stands for then.
use Rattle.std.proofs.Common.{◌≡◌, ℕ, ◌+◌, ◌-◌, ◌<◌, ◌≤◌, Bool, true, false, ◌&&◌, leb, List, [], ◌∷◌, ◌++◌, length, get_or, take, set, Ok, Err, sym, refl, ap, ◌∙◌, true≢false, arith, length-append, rules}
use Rattle.std.specs.List.{between}
use borrow.Rule.Slice.PartMut.{put_mid}
use Rattle.std.proofs.lemmas.List.{take_more_set, length-set, places}
use Rattle.std.proofs.lemmas.Slice.{take-put_mid_below, between-put_mid}
use Rattle.std.proofs.lemmas.Bool.{leb-true, and_parts, and_from, cond-true, cond-false}
use Rattle.names.specs.declared.fault.Fault.TheVariants.{BadName}
use Rattle.names.specs.declared.name.Name.{Name}
use Rattle.names.specs.Labels.{label_bytes, proper_label, proper_labels, proper}
use Rattle.names.specs.Layout.{pieces, rising, start_at}
use Rattle.names.specs.Names.{labels, name_of}
use Rattle.names.proofs.Pieces.{pieces_push, pieces_same, rising_push}
use Rattle.names.proofs.Proper.{weight, weight_append, limits, proper_from, labels_append, labels_both}
use Rattle.names.proofs.Laws.{count_is, labels_proper, start_used, used, used_length, weight_is}

-- ---- which labels may be added

one : (l : List ℕ) → proper_label l ≡ true → proper_labels (l ∷ []) ≡ true
one l h = and_from (proper_label l) true h refl

pub label_length : (l : List ℕ) → proper_label l ≡ true → (0 < length l) × (length l ≤ 63)
label_length l h =
    let p = and_parts (leb 1 (length l)) (leb (length l) 63) (and_parts (leb 1 (length l) && leb (length l) 63) (label_bytes l) h).0 in
    (leb-true 1 (length l) p.0, leb-true (length l) 63 p.1)

pub proper_push : (ls : List (List ℕ)) (l : List ℕ) → proper ls ≡ true → length ls < 16 → proper_label l ≡ true → weight ls + length l ≤ 255 → proper (ls ++ l ∷ []) ≡ true
proper_push ls l h few good short =
    let p = limits ls h in
    let n = length-append ls (l ∷ []) in
    let w = weight_append ls (l ∷ []) in
    proper_from (ls ++ l ∷ []) (record { few = omega arith; labels = labels_both ls (l ∷ []) p.labels (one l good); short = omega arith })

-- what a name with one label more asks of the label and of the others
pub record Fit (ls : List (List ℕ)) (l : List ℕ) : Type 0 where
  pub few : length ls < 16
  pub good : proper_label l ≡ true
  pub short : weight ls + length l ≤ 255

pub fit : (ls : List (List ℕ)) (l : List ℕ) → proper (ls ++ l ∷ []) ≡ true → Fit ls l
fit ls l h =
    let p = limits (ls ++ l ∷ []) h in
    let a = p.few in
    let b = p.short in
    let n = length-append ls (l ∷ []) in
    let w = weight_append ls (l ∷ []) in
    record {
      few = omega arith;
      good = (and_parts (proper_label l) true (labels_append ls (l ∷ []) p.labels).1).0;
      short = omega arith;
    }

pub named : (ls : List (List ℕ)) → proper ls ≡ true → name_of ls ≡ Ok ls
named ls h = cond-true (proper ls) (Ok ls) (Err BadName) h

pub unnamed : (ls : List (List ℕ)) → (proper ls ≡ true → ⊥) → name_of ls ≡ Err BadName
unnamed ls no' = cond-false (proper ls) (Ok ls) (Err BadName) (is_false (proper ls) no')
  where
    is_false : (b : Bool) → (b ≡ true → ⊥) → b ≡ false
    is_false true f = absurd (f refl)
    is_false false f = refl

-- ---- the block with the label l behind the others, from s, where the last of them ends

record Put (n : Name) (l : List ℕ) (s : ℕ) (bs : List ℕ) : Type 0 where
  pub start : s ≡ start_at n.ends n.count
  pub few : n.count < length n.ends
  pub good : 0 < length l
  pub room : s + length l ≤ length n.bytes
  pub whole : length bs ≡ length n.bytes
  pub kept : take s bs ≡ take s n.bytes
  pub put : between s (s + length l) bs ≡ l

module _ (n : Name) (l : List ℕ) (s : ℕ) (bs : List ℕ) (p : Put n l s bs) where
  abbrev ends : List ℕ
  ends = set n.ends n.count (s + length l)

  ends_are : take (n.count + 1) ends ≡ used n ++ (s + length l) ∷ []
  ends_are = take_more_set n.ends n.count (s + length l) p.few

  last_is : get_or (0 ∷ used n) (length (used n)) 0 ≡ s
  last_is = ap (λ i. get_or (0 ∷ used n) i 0) (used_length n) ∙ start_used n n.count (omega arith) ∙ sym p.start

  push_counted : n.count + 1 ≤ length ends
  push_counted = let h = length-set n.ends n.count (s + length l) in omega arith

  push_laid : rising 0 (take (n.count + 1) ends) (length bs) ≡ true
  push_laid =
      let a = last_is in
      let r = rising_push 0 (used n) (s + length l) (length n.bytes) n.laid (omega arith) p.room in
      (λ i. rising 0 (ends_are i) (p.whole i)) ∙ r

  push_pieces : pieces 0 (take (n.count + 1) ends) bs ≡ labels n ++ l ∷ []
  unfolding labels
  push_pieces =
      let a = last_is in
      let same = pieces_same 0 (used n) (length n.bytes) s bs n.bytes n.laid (omega arith) p.kept in
      let last : between (get_or (0 ∷ used n) (length (used n)) 0) (s + length l) bs ≡ l = ap (λ k. between k (s + length l) bs) last_is ∙ p.put in
      ap (λ es. pieces 0 es bs) ends_are ∙ pieces_push 0 (used n) (s + length l) bs ∙ (λ i. same i ++ last i ∷ [])

  -- the new name's limits, where it has few enough labels and bytes
  push_limited : n.count < 16 → proper_label l ≡ true → s + length l + n.count ≤ 255 → proper (labels n ++ l ∷ []) ≡ true
  push_limited few good short =
      let c = count_is n in
      let w = weight_is n in
      proper_push (labels n) l (labels_proper n) (omega arith) good (omega arith)

-- what `push` leaves, where the label was copied: ys is what the part behind the others holds then
abbrev pub written_to : Name → List ℕ → ℕ → List ℕ → List ℕ
written_to n l s ys = put_mid s (s + length l - s) n.bytes ys

abbrev pub ends_with : Name → List ℕ → ℕ → List ℕ
ends_with n l s = set n.ends n.count (s + length l)

pub record Pushed (n : Name) (l : List ℕ) (s : ℕ) (ys : List ℕ) : Type 0 where
  pub counted : n.count + 1 ≤ length (ends_with n l s)
  pub laid : rising 0 (take (n.count + 1) (ends_with n l s)) (length (written_to n l s ys)) ≡ true
  pub labelled : pieces 0 (take (n.count + 1) (ends_with n l s)) (written_to n l s ys) ≡ labels n ++ l ∷ []
  pub limited : proper (labels n ++ l ∷ []) ≡ true

pub pushed : (n : Name) (l : List ℕ) (s : ℕ) (ys : List ℕ) → proper_label l ≡ true → s ≡ start_at n.ends n.count → n.count < 16 → n.count < length n.ends → s + length l + n.count ≤ 255 → s + length l ≤ length n.bytes → ys ≡ l → Pushed n l s ys
pushed n l s ys good st few in-ends short room is =
    let m : length ys ≡ s + length l - s = ap length is ∙ omega arith in
    let p : Put n l s (written_to n l s ys) =
    record {
      start = st;
      few = in-ends;
      good = (label_length l good).0;
      room = room;
      whole = search (rules, places);
      kept = take-put_mid_below s (s + length l - s) n.bytes ys s (omega arith) (omega arith);
      put = between-put_mid s (s + length l - s) n.bytes ys (s + length l) (omega arith) m ∙ is;
    } in
    record {
      counted = push_counted n l s (written_to n l s ys) p;
      laid = push_laid n l s (written_to n l s ys) p;
      labelled = push_pieces n l s (written_to n l s ys) p;
      limited = push_limited n l s (written_to n l s ys) p few good short;
    }

-- ---- why a label is refused

module _ (n : Name) (l : List ℕ) where
  pub full : 16 ≤ n.count → name_of (labels n ++ l ∷ []) ≡ Err BadName
  full h = unnamed (labels n ++ l ∷ []) (λ p. let f = (fit (labels n) l p).few in let c = count_is n in omega arith)

  pub ill_made : proper_label l ≡ false → name_of (labels n ++ l ∷ []) ≡ Err BadName
  ill_made h = unnamed (labels n ++ l ∷ []) (λ p. true≢false (sym (fit (labels n) l p).good ∙ h))

  pub too_long : 255 < start_at n.ends n.count + length l + n.count → name_of (labels n ++ l ∷ []) ≡ Err BadName
  too_long h = unnamed (labels n ++ l ∷ []) (λ p. let f = (fit (labels n) l p).short in let w = weight_is n in omega arith)
