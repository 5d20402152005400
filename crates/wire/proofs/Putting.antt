-- Writing piece by piece: what is written so far, behind what was there.
use Rattle.std.proofs.Common.{◌≡◌, ℕ, zero, suc, ◌+◌, ◌&&◌, map, get_or, drop, ◌<◌, ◌≤◌, Bool, true, false, leb, List, [], ◌∷◌, ◌++◌, length, Some, None, Option, sym, refl, ap, ◌∙◌, append_assoc, append-nil, arith, length-append}
use Rattle.std.proofs.lemmas.Bool.{cond-true, cond-false, leb-false, lt-leb, leb-true, and_parts}
use Rattle.std.proofs.lemmas.List.{drop_more, drop_all}
use lib.ListN.{length-map}
use Rattle.meaning.specs.Model.{total, short, pieces_fit}
use Rattle.names.specs.Wire.{wire_labels, wire}
use Rattle.names.proofs.Appending.{wire_push}
use Rattle.wire.specs.Given.{short_enough, joined}

too_long : (bs : List ℕ) → 1200 < length bs → short_enough bs ≡ None
too_long bs h = cond-false (leb (length bs) 1200) (Some bs) None (lt-leb (length bs) 1200 h)

-- one call after the other is one call
pub joined_more : (o : Option (List ℕ)) (xs ys : List ℕ) → joined (joined o xs) ys ≡ joined o (xs ++ ys)
unfolding joined
joined_more None xs ys = refl
joined_more (Some front) xs ys = go (leb (length (front ++ xs)) 1200) refl
  where
    go : (b : Bool) → leb (length (front ++ xs)) 1200 ≡ b → joined (short_enough (front ++ xs)) ys ≡ short_enough (front ++ (xs ++ ys))
    go true e = ap (λ o. joined o ys) (cond-true (leb (length (front ++ xs)) 1200) (Some (front ++ xs)) None e) ∙ ap short_enough (append_assoc front xs ys)
    go false e =
        let l = leb-false (length (front ++ xs)) 1200 e in
        let a = ap length (append_assoc front xs ys) in
        let b = length-append (front ++ xs) ys in
        ap (λ o. joined o ys) (cond-false (leb (length (front ++ xs)) 1200) (Some (front ++ xs)) None e) ∙ sym (too_long (front ++ (xs ++ ys)) (omega arith))

-- by what was written before and what the calls wrote
pub put_more : (before mid after : Option (List ℕ)) (xs ys : List ℕ) → mid ≡ joined before xs → after ≡ joined mid ys → after ≡ joined before (xs ++ ys)
put_more before mid after xs ys h k = k ∙ ap (λ o. joined o ys) h ∙ joined_more before xs ys

-- ---- the pieces of a list, one behind the other: some are done, and others left

pub record Listing (before now : Option (List ℕ)) (ls left : List (List ℕ)) : Type 0 where
  pub done : List (List ℕ)
  pub parted : ls ≡ done ++ left
  pub so : now ≡ joined before (length ls ∷ wire_labels done)

pub none_put : (before now : Option (List ℕ)) (n : ℕ) (ls left : List (List ℕ)) → n ≡ length ls → left ≡ ls → now ≡ joined before (n ∷ []) → Listing before now ls left
unfolding wire_labels
none_put before now n ls left e h k = record { done = []; parted = sym h; so = k ∙ ap (λ m. joined before (m ∷ [])) e }

pub one_put : (before now after : Option (List ℕ)) (ls left more : List (List ℕ)) (l : List ℕ) → Listing before now ls left → left ≡ l ∷ more → after ≡ joined now (length l ∷ l) → Listing before after ls more
one_put before now after ls left more l p h k =
    record {
      done = p.done ++ l ∷ [];
      parted = p.parted ∙ ap (λ x. p.done ++ x) h ∙ sym (append_assoc p.done (l ∷ []) more);
      so = put_more before now after (length ls ∷ wire_labels p.done) (length l ∷ l) p.so k ∙ ap (λ x. joined before (length ls ∷ x)) (sym (wire_push p.done l));
    }

pub all_put : (before now : Option (List ℕ)) (ls left : List (List ℕ)) → Listing before now ls left → left ≡ [] → now ≡ joined before (wire ls)
unfolding wire
all_put before now ls left p h =
    let whole : p.done ≡ ls = sym (p.parted ∙ ap (λ x. p.done ++ x) h ∙ append-nil p.done) in
    p.so ∙ ap (λ x. joined before (length ls ∷ wire_labels x)) whole

-- the items of a slice, those from i on left
module _ {X : Type 0} (bytes : X → List ℕ) (xs : List X) where
  abbrev pub Behind : Option (List ℕ) → Option (List ℕ) → ℕ → Type 0
  Behind before now i = Listing before now (map bytes xs) (map bytes (drop i xs))

  pub none_behind : (before now : Option (List ℕ)) (n : ℕ) → n ≡ length xs → now ≡ joined before (n ∷ []) → Behind before now 0
  none_behind before now n e k = none_put before now n (map bytes xs) (map bytes xs) (e ∙ sym (length-map xs bytes)) refl k

  pub one_behind : (before now after : Option (List ℕ)) (i : ℕ) (x : X) → Behind before now i → i < length xs → x ≡ get_or xs i x → after ≡ joined now (length (bytes x) ∷ bytes x) → Behind before after (i + 1)
  one_behind before now after i x p l e k =
      one_put before now after (map bytes xs) (map bytes (drop i xs)) (map bytes (drop (i + 1) xs)) (bytes x) p
      (ap (map bytes) (drop_more xs i x l) ∙ ap (λ y. bytes y ∷ map bytes (drop (i + 1) xs)) (sym e)) k

  pub all_behind : (before now : Option (List ℕ)) (i : ℕ) → Behind before now i → length xs ≤ i → now ≡ joined before (wire (map bytes xs))
  all_behind before now i p l = all_put before now (map bytes xs) (map bytes (drop i xs)) p (ap (map bytes) (drop_all i xs l))

  short_at : (ys : List X) (i : ℕ) (x : X) → short (map bytes ys) ≡ true → i < length ys → x ≡ get_or ys i x → length (bytes x) ≤ 255
  short_at [] i x h l e = absurd (omega arith)
  short_at (y ∷ ys) zero x h l e =
      let p = and_parts (leb (length (bytes y)) 255) (short (map bytes ys)) h in
      let q = leb-true (length (bytes y)) 255 p.0 in
      let same = ap (λ z. length (bytes z)) e in
      omega arith
  short_at (y ∷ ys) (suc i) x h l e = short_at ys i x (and_parts (leb (length (bytes y)) 255) (short (map bytes ys)) h).1 (omega arith) e

  pub short_piece : (i : ℕ) (x : X) → pieces_fit (map bytes xs) ≡ true → i < length xs → x ≡ get_or xs i x → length (bytes x) < 256
  short_piece i x h l e =
      let p = and_parts (leb (length (map bytes xs)) 16 && short (map bytes xs)) (leb (total (map bytes xs)) 600) h in
      let q = short_at xs i x (and_parts (leb (length (map bytes xs)) 16) (short (map bytes xs)) p.0).1 l e in
      omega arith

  pub few_pieces : pieces_fit (map bytes xs) ≡ true → length xs ≤ 16
  few_pieces h =
      let p = and_parts (leb (length (map bytes xs)) 16 && short (map bytes xs)) (leb (total (map bytes xs)) 600) h in
      let q = leb-true (length (map bytes xs)) 16 (and_parts (leb (length (map bytes xs)) 16) (short (map bytes xs)) p.0).0 in
      let n = length-map xs bytes in
      omega arith

-- a list without pieces
pub no_pieces : wire [] ≡ 0 ∷ []
unfolding wire wire_labels
no_pieces = refl

-- a list of one piece
pub one_piece : (p : List ℕ) → 1 ∷ (length p ∷ p) ≡ wire (p ∷ [])
unfolding wire wire_labels
one_piece p = ap (λ x. 1 ∷ (length p ∷ x)) (sym (append-nil p))

-- ---- a whole packet

module _ (due : List ℕ) (after : Option (List ℕ)) (whole : after ≡ short_enough due) where
  some_so : (x y : List ℕ) → Some x ≡ Some y → x ≡ y
  some_so x y h = cc

  pub packet_put : (bs : List ℕ) → Some bs ≡ after → (bs ≡ due) × (length due ≤ 1200)
  packet_put bs h = go (leb (length due) 1200) refl
    where
      go : (c : Bool) → leb (length due) 1200 ≡ c → (bs ≡ due) × (length due ≤ 1200)
      go true e = (some_so bs due (h ∙ whole ∙ cond-true (leb (length due) 1200) (Some due) None e), leb-true (length due) 1200 e)
      go false e = let k : ◌≡◌ {A = Option (List ℕ)} (Some bs) None = h ∙ whole ∙ cond-false (leb (length due) 1200) (Some due) None e in cc

  pub too_long_put : None ≡ after → 1200 < length due
  too_long_put h = go (leb (length due) 1200) refl
    where
      go : (c : Bool) → leb (length due) 1200 ≡ c → 1200 < length due
      go true e = let k : ◌≡◌ {A = Option (List ℕ)} None (Some due) = h ∙ whole ∙ cond-true (leb (length due) 1200) (Some due) None e in cc
      go false e = leb-false (length due) 1200 e

-- from nothing
pub all_new : (before after : Option (List ℕ)) (due : List ℕ) → before ≡ Some [] → after ≡ joined before due → after ≡ short_enough due
unfolding joined
all_new before after due empty put = put ∙ ap (λ o. joined o due) empty
