-- Fronts that differ decide the order of names; and how one is packed.
use Rattle.std.specs.List.{slice_get}
use Rattle.std.specs.Option.{option_map}
use Rattle.std.proofs.Common.{◌≡◌, Some, None, Option, MatchOption, min, ◌++◌, take, ℕ, zero, suc, ◌+◌, ◌-◌, ◌*◌, ◌<◌, ◌≤◌, true, ◌&&◌, leb, ◌⊎◌, List, [], ◌∷◌, length, get_or, drop, Ordering, Less, Equal, Greater, sym, refl, ap, ◌∙◌, inl, inr, ⊎_elim, true≢false, arith}
use Rattle.std.specs.Cmp.{ranks}
use Rattle.std.specs.Int.{from_be_bytes, w64}
use Rattle.std.proofs.lemmas.Grind.{common_steps}
use Rattle.std.specs.Ordering.{is_lt, ordering_then, MatchOrdering, nat_cmp}
use Rattle.std.proofs.lemmas.List.{drop_more, drop_all, get_or_past}
use Rattle.std.proofs.lemmas.Bool.{and_parts, cases_lt}
use Rattle.std.proofs.lemmas.Bool.Decides.{nat_tests}
use Rattle.names.specs.declared.name.Name.{Name}
use Rattle.names.specs.Fronts.{packed, front, first_front, front_below}
use Rattle.names.specs.Labels.{label_byte, label_bytes, proper_label, proper_labels}
use Rattle.names.specs.Names.{labels}
use Rattle.names.specs.Order.{label_order, within, order}
use Rattle.names.proofs.Laws.{labels_proper}
use Rattle.names.proofs.Order.{order_below}
use Rattle.names.proofs.Proper.{limits}

-- ---- one byte more

pub packed_step : (n sum : ℕ) (l : List ℕ) (i : ℕ) → packed n (sum * 256 + get_or l i 0) (drop (i + 1) l) ≡ packed (suc n) sum (drop i l)
unfolding packed
packed_step n sum l i = ⊎_elim there past (cases_lt i (length l))
  where
    there : i < length l → packed n (sum * 256 + get_or l i 0) (drop (i + 1) l) ≡ packed (suc n) sum (drop i l)
    there h = sym (ap (packed (suc n) sum) (drop_more l i 0 h))

    past : length l ≤ i → packed n (sum * 256 + get_or l i 0) (drop (i + 1) l) ≡ packed (suc n) sum (drop i l)
    past h =
        let z = get_or_past l i 0 h in
        let e : sum * 256 + get_or l i 0 ≡ sum * 256 = omega arith in
        (λ j. packed n (e j) (drop_all (i + 1) l (omega arith) j)) ∙ sym (ap (packed (suc n) sum) (drop_all i l h))

-- a block of eight bytes with a label's first ones, and zeros behind them
abbrev zeros : List ℕ
zeros = 0 ∷ 0 ∷ 0 ∷ 0 ∷ 0 ∷ 0 ∷ 0 ∷ 0 ∷ []

zero_there : (i : ℕ) → get_or zeros i 0 ≡ 0
zero_there zero = refl
zero_there (suc zero) = refl
zero_there (suc (suc zero)) = refl
zero_there (suc (suc (suc zero))) = refl
zero_there (suc (suc (suc (suc zero)))) = refl
zero_there (suc (suc (suc (suc (suc zero))))) = refl
zero_there (suc (suc (suc (suc (suc (suc zero)))))) = refl
zero_there (suc (suc (suc (suc (suc (suc (suc zero))))))) = refl
zero_there (suc (suc (suc (suc (suc (suc (suc (suc i)))))))) = refl

pub padded : (l front : List ℕ) (len i : ℕ) → len ≡ min (length l) 8 → front ≡ take len l → i < 8 → get_or (front ++ drop len zeros) i 0 ≡ get_or l i 0
padded l front len i n f h = ⊎_elim inside past (cases_lt i len)
  where
    inside : i < len → get_or (front ++ drop len zeros) i 0 ≡ get_or l i 0
    inside k = grind (arith, common_steps)

    past : len ≤ i → get_or (front ++ drop len zeros) i 0 ≡ get_or l i 0
    past k =
        let z = zero_there (len + (i - length front)) in
        let p = get_or_past l i 0 (omega arith) in
        grind (arith, common_steps)

-- the eight bytes as one number
pub eight_packed : (l bs : List ℕ) → ((i : ℕ) → i < 8 → get_or bs i 0 ≡ get_or l i 0) → from_be_bytes w64 bs ≡ front l
unfolding packed
eight_packed l bs h =
    let h0 = h 0 (omega arith) in
    let h1 = h 1 (omega arith) in
    let h2 = h 2 (omega arith) in
    let h3 = h 3 (omega arith) in
    let h4 = h 4 (omega arith) in
    let h5 = h 5 (omega arith) in
    let h6 = h 6 (omega arith) in
    let h7 = h 7 (omega arith) in
    let steps = packed_step 0 _ l 7 ∙ packed_step 1 _ l 6 ∙ packed_step 2 _ l 5 ∙ packed_step 3 _ l 4 ∙ packed_step 4 _ l 3 ∙ packed_step 5 _ l 2 ∙ packed_step 6 _ l 1 ∙ packed_step 7 0 l 0 in
    omega arith ∙ steps

-- ---- the order of labels

byte_room : (b : ℕ) → label_byte b ≡ true → b < 256
byte_room b h = grind (arith, nat_tests)

never_less : (l : List ℕ) → label_order l [] ≡ Less → ⊥
never_less [] h = true≢false (sym (ap is_lt h))
never_less (b ∷ l) h = true≢false (sym (ap is_lt h))

-- what packed numbers that differ say: a and c are packed already
abbrev Said : ℕ → ℕ → Ordering → Type 0
Said a c r = (a < c) ⊎ ((a ≡ c) × (r ≡ Less))

both : (a c b d : ℕ) (r s : Ordering) → b < 256 → d < 256 → MatchOrdering r (b < d) (b ≡ d) (d < b) → Said (a * 256 + b) (c * 256 + d) s → Said a c (ordering_then r s)
both a c b d Less s h k o (inl x) = ⊎_elim (λ l. inl l) (λ l. inr (omega arith, refl)) (cases_lt a c)
both a c b d Less s h k o (inr p) = let e = p.0 in absurd (omega arith)
both a c b d Equal s h k o (inl x) = inl (omega arith)
both a c b d Equal s h k o (inr p) = let e = p.0 in inr (omega arith, p.1)
both a c b d Greater s h k o (inl x) = inl (omega arith)
both a c b d Greater s h k o (inr p) = let e = p.0 in absurd (omega arith)

neither : (a c : ℕ) → Said (a * 256) (c * 256) (label_order [] []) → Said a c (label_order [] [])
neither a c (inl x) = inl (omega arith)
neither a c (inr p) = let e = p.0 in inr (omega arith, p.1)

second : (a c d : ℕ) (r : Ordering) → d < 256 → Said (a * 256) (c * 256 + d) r → Said a c Less
second a c d r k (inl x) = ⊎_elim (λ l. inl l) (λ l. inr (omega arith, refl)) (cases_lt a c)
second a c d r k (inr p) = let e = p.0 in inr (omega arith, refl)

first : (a c b : ℕ) (l : List ℕ) (r : Ordering) → b < 256 → Said (a * 256 + b) (c * 256) (label_order l []) → Said a c r
first a c b l r h (inl x) = inl (omega arith)
first a c b l r h (inr p) = absurd (never_less l p.1)

packed_order : (n a c : ℕ) (l m : List ℕ) → label_bytes l ≡ true → label_bytes m ≡ true → packed n a l < packed n c m → Said a c (label_order l m)
unfolding packed
packed_order zero a c l m h k f = inl f
packed_order (suc n) a c [] [] h k f = neither a c (packed_order n (a * 256) (c * 256) [] [] h k f)
packed_order (suc n) a c [] (d ∷ m) h k f =
    let q = and_parts (label_byte d) (label_bytes m) k in
    second a c d (label_order [] m) (byte_room d q.0) (packed_order n (a * 256) (c * 256 + d) [] m h q.1 f)
packed_order (suc n) a c (b ∷ l) [] h k f =
    let p = and_parts (label_byte b) (label_bytes l) h in
    first a c b l (label_order (b ∷ l) []) (byte_room b p.0) (packed_order n (a * 256 + b) (c * 256) l [] p.1 k f)
packed_order (suc n) a c (b ∷ l) (d ∷ m) h k f =
    let p = and_parts (label_byte b) (label_bytes l) h in
    let q = and_parts (label_byte d) (label_bytes m) k in
    both a c b d (nat_cmp b d) (label_order l m) (byte_room b p.0) (byte_room d q.0) (ranks b d) (packed_order n (a * 256 + b) (c * 256 + d) l m p.1 q.1 f)

fronts_order : (l m : List ℕ) → label_bytes l ≡ true → label_bytes m ≡ true → front l < front m → label_order l m ≡ Less
fronts_order l m h k f = ⊎_elim (λ x. absurd (omega arith)) (λ p. p.1) (packed_order 8 0 0 l m h k f)

-- ---- the order of names

bytes_of : (l : List ℕ) → proper_label l ≡ true → label_bytes l ≡ true
bytes_of l h = (and_parts (leb 1 (length l) && leb (length l) 63) (label_bytes l) h).1

proper_drop : (i : ℕ) (ls : List (List ℕ)) → proper_labels ls ≡ true → proper_labels (drop i ls) ≡ true
proper_drop zero ls h = h
proper_drop (suc i) [] h = h
proper_drop (suc i) (l ∷ ls) h = proper_drop i ls (and_parts (proper_label l) (proper_labels ls) h).1

first_order : (x y : List (List ℕ)) → proper_labels x ≡ true → proper_labels y ≡ true → first_front x < first_front y → order x y ≡ Less
unfolding order
first_order [] [] h k f = absurd (omega arith)
first_order [] (m ∷ y) h k f = refl
first_order (l ∷ x) [] h k f = absurd (omega arith)
first_order (l ∷ x) (m ∷ y) h k f =
    ap (λ r. ordering_then r (order x y)) (fronts_order l m (bytes_of l (and_parts (proper_label l) (proper_labels x) h).0) (bytes_of m (and_parts (proper_label m) (proper_labels y) k).0) f)

module _ (a : List (List ℕ)) where
  pub front_order : (n m : Name) → within a (labels n) ≡ true → within a (labels m) ≡ true → front_below (length a) (labels n) < front_below (length a) (labels m) → order (labels n) (labels m) ≡ Less
  unfolding front_below
  front_order n m h k f =
      sym (order_below a (labels n) (labels m) h k)
      ∙ first_order (drop (length a) (labels n)) (drop (length a) (labels m)) (proper_drop (length a) (labels n) (limits (labels n) (labels_proper n)).labels) (proper_drop (length a) (labels m) (limits (labels m) (labels_proper m)).labels) f

-- ---- the front of the label that is found at a depth, or of none

none_front : (ls : List (List ℕ)) (i : ℕ) → slice_get ls i ≡ None → 0 ≡ front_below i ls
unfolding front_below
none_front [] zero e = refl
none_front [] (suc i) e = refl
none_front (l ∷ ls) zero e = let w : ◌≡◌ {A = ℕ} 0 1 = cc in absurd (omega arith)
none_front (l ∷ ls) (suc i) e = none_front ls i e

some_front : (ls : List (List ℕ)) (i : ℕ) (l : List ℕ) → slice_get ls i ≡ Some l → front l ≡ front_below i ls
unfolding front_below
some_front [] i l e = let w : ◌≡◌ {A = ℕ} 0 1 = cc in absurd (omega arith)
some_front (m ∷ ls) zero l e = let w : m ≡ l = cc in ap front (sym w)
some_front (m ∷ ls) (suc i) l e = some_front ls i l e

pub front_found : {A : Type 0} (now : A → List ℕ) (ls : List (List ℕ)) (i : ℕ) (o : Option A) (n : ℕ) (P : A → Type 0) → option_map now o ≡ slice_get ls i → MatchOption o (n ≡ 0) P → ((x : A) → P x → n ≡ front (now x)) → n ≡ front_below i ls
front_found now ls i None n P e h by = h ∙ none_front ls i (sym e)
front_found now ls i (Some x) n P e h by = by x h ∙ some_front ls i (now x) (sym e)
