-- The rows that are there, in their order.
use Rattle.std.proofs.Common.{◌≡◌, ℕ, zero, suc, ◌<◌, Bool, true, false, cond, List, [], ◌∷◌, ◌++◌, length, sym, refl, ap, ◌∙◌, subst, inl, inr, ◌⊎◌, ⊎_elim, true≢false, append_assoc, append-nil, arith, length-append}
use Rattle.std.proofs.lemmas.Bool.{and_parts, and_from}
use Rattle.meaning.specs.Model.{Set}
use Rattle.transfers.specs.Joining.{is_there, marked, none_there, is_complete}
use Rattle.transfers.proofs.Rows.{joint}
use Rattle.transfers.proofs.Orders.{Good, good_without}

abbrev pub present : List Bool → List (List Set) → List Set
present [] rs = []
present (b ∷ bs) [] = []
present (b ∷ bs) (r ∷ rs) = cond b r [] ++ present bs rs

-- ---- a place among those that are there

pub record Place {A : Type 0} (there : List Bool) (front : List A) (back : List A) : Type 0 where
  pub before : List Bool
  pub here : Bool
  pub after : List Bool
  pub whole : there ≡ before ++ here ∷ after
  pub as_many : length before ≡ length front

pub place : {A : Type 0} (there : List Bool) (front : List A) (x : A) (back : List A) → length there ≡ length (front ++ x ∷ back) → Place there front back
place [] front x back h = let n = length-append front (x ∷ back) in absurd (omega arith)
place (b ∷ bs) [] x back h = record { before = []; here = b; after = bs; whole = refl; as_many = refl }
place (b ∷ bs) (f ∷ fs) x back h =
    let n = length-append fs (x ∷ back) in
    let p = place bs fs x back (omega arith) in
    let m = p.as_many in
    record { before = b ∷ p.before; here = p.here; after = p.after; whole = ap (λ ys. b ∷ ys) p.whole; as_many = omega arith }

pub there_at : (bs : List Bool) (b : Bool) (cs : List Bool) → is_there (bs ++ b ∷ cs) (suc (length bs)) ≡ b
unfolding is_there
there_at [] b cs = refl
there_at (x ∷ bs) b cs = there_at bs b cs

pub marked_at : (bs : List Bool) (b : Bool) (cs : List Bool) → marked (bs ++ b ∷ cs) (suc (length bs)) ≡ bs ++ true ∷ cs
unfolding marked
marked_at [] b cs = refl
marked_at (x ∷ bs) b cs = ap (λ ys. x ∷ ys) (marked_at bs b cs)

pub marked_many : (bs : List Bool) (n : ℕ) → length (marked bs n) ≡ length bs
unfolding marked
marked_many [] n = refl
marked_many (b ∷ bs) zero = refl
marked_many (b ∷ bs) (suc zero) = refl
marked_many (b ∷ bs) (suc (suc n)) = let h = marked_many bs (suc n) in omega arith

-- what is there stays there
pub marked_keeps : (bs : List Bool) (n m : ℕ) → is_there bs m ≡ true → is_there (marked bs n) m ≡ true
unfolding marked is_there
marked_keeps [] n m h = h
marked_keeps (b ∷ bs) zero m h = h
marked_keeps (b ∷ bs) (suc zero) zero h = h
marked_keeps (b ∷ bs) (suc zero) (suc zero) h = refl
marked_keeps (b ∷ bs) (suc zero) (suc (suc m)) h = h
marked_keeps (b ∷ bs) (suc (suc n)) zero h = h
marked_keeps (b ∷ bs) (suc (suc n)) (suc zero) h = h
marked_keeps (b ∷ bs) (suc (suc n)) (suc (suc m)) h = marked_keeps bs (suc n) (suc m) h

-- and nothing else comes
pub marked_only : (bs : List Bool) (n m : ℕ) → is_there (marked bs n) m ≡ true → (m ≡ n) ⊎ (is_there bs m ≡ true)
unfolding marked is_there
marked_only [] n m h = inr h
marked_only (b ∷ bs) zero m h = inr h
marked_only (b ∷ bs) (suc zero) zero h = inr h
marked_only (b ∷ bs) (suc zero) (suc zero) h = inl refl
marked_only (b ∷ bs) (suc zero) (suc (suc m)) h = inr h
marked_only (b ∷ bs) (suc (suc n)) zero h = inr h
marked_only (b ∷ bs) (suc (suc n)) (suc zero) h = inr h
marked_only (b ∷ bs) (suc (suc n)) (suc (suc m)) h = ⊎_elim (λ e. inl (ap suc e)) (λ t. inr t) (marked_only bs (suc n) (suc m) h)

pub none_is_there : (n m : ℕ) → is_there (none_there n) m ≡ true → ⊥
unfolding none_there is_there
none_is_there zero m h = true≢false (sym h)
none_is_there (suc n) zero h = true≢false (sym h)
none_is_there (suc n) (suc zero) h = true≢false (sym h)
none_is_there (suc n) (suc (suc m)) h = none_is_there n (suc m) h

pub none_many : (n : ℕ) → length (none_there n) ≡ n
unfolding none_there
none_many zero = refl
none_many (suc n) = let h = none_many n in omega arith

pub none_present : (n : ℕ) (rs : List (List Set)) → present (none_there n) rs ≡ []
unfolding none_there
none_present zero rs = refl
none_present (suc n) [] = refl
none_present (suc n) (r ∷ rs) = none_present n rs

-- nothing is missing
pub complete_from : (bs : List Bool) → ((i : ℕ) → i < length bs → is_there bs (suc i) ≡ true) → is_complete bs ≡ true
unfolding is_there
complete_from [] h = refl
complete_from (b ∷ bs) h = and_from b (is_complete bs) (h 0 (omega arith)) (complete_from bs (λ i l. h (suc i) (omega arith)))

pub complete_at : (bs : List Bool) (i : ℕ) → i < length bs → is_complete bs ≡ true → is_there bs (suc i) ≡ true
unfolding is_there
complete_at [] i l h = absurd (omega arith)
complete_at (b ∷ bs) zero l h = (and_parts b (is_complete bs) h).0
complete_at (b ∷ bs) (suc i) l h = complete_at bs i (omega arith) (and_parts b (is_complete bs) h).1

pub complete_present : (bs : List Bool) (rs : List (List Set)) → length bs ≡ length rs → is_complete bs ≡ true → present bs rs ≡ joint rs
complete_present [] [] l h = refl
complete_present [] (r ∷ rs) l h = absurd (omega arith)
complete_present (b ∷ bs) [] l h = absurd (omega arith)
complete_present (b ∷ bs) (r ∷ rs) l h =
    let p = and_parts b (is_complete bs) h in
    ap (λ c. cond c r [] ++ present bs rs) p.0 ∙ ap (λ xs. r ++ xs) (complete_present bs rs (omega arith) p.1)

-- ---- the sets of those before it, its own, and those behind it

pub present_at : (bs : List Bool) (b : Bool) (cs : List Bool) (front : List (List Set)) (row : List Set) (back : List (List Set)) → length bs ≡ length front → present (bs ++ b ∷ cs) (front ++ row ∷ back) ≡ present bs front ++ (cond b row [] ++ present cs back)
present_at [] b cs [] row back l = refl
present_at [] b cs (f ∷ front) row back l = absurd (omega arith)
present_at (x ∷ bs) b cs [] row back l = absurd (omega arith)
present_at (x ∷ bs) b cs (f ∷ front) row back l =
    ap (λ xs. cond x f [] ++ xs) (present_at bs b cs front row back (omega arith))
    ∙ sym (append_assoc (cond x f []) (present bs front) (cond b row [] ++ present cs back))

-- what is there is what a zone may have
pub present_good : (apex : List (List ℕ)) (done : List Set) (bs : List Bool) (rs : List (List Set)) → Good apex (done ++ joint rs) → Good apex (done ++ present bs rs)
present_good apex done [] rs g = good_without apex done (joint rs) [] (subst (λ xs. Good apex (done ++ xs)) (sym (append-nil (joint rs))) g)
present_good apex done (b ∷ bs) [] g = g
present_good apex done (true ∷ bs) (r ∷ rs) g =
    subst (Good apex) (append_assoc done r (present bs rs))
    (present_good apex (done ++ r) bs rs (subst (Good apex) (sym (append_assoc done r (joint rs))) g))
present_good apex done (false ∷ bs) (r ∷ rs) g = present_good apex done bs rs (good_without apex done r (joint rs) g)
