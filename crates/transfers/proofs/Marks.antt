-- Parts that are there, by their numbers.
use Rattle.std.proofs.Common.{◌≡◌, ℕ, zero, suc, ◌+◌, ◌-◌, ◌<◌, ◌≤◌, Bool, true, false, eqb, List, [], ◌∷◌, length, get_or, set, sym, refl, ap, ◌∙◌, true≢false, arith}
use Rattle.std.proofs.lemmas.Bool.{ne_eqb}
use Rattle.transfers.specs.Joining.{is_there, marked, is_complete, absent}

there_at : (bs : List Bool) (i : ℕ) → is_there bs (suc i) ≡ get_or bs i false
unfolding is_there
there_at [] i = refl
there_at (b ∷ bs) zero = refl
there_at (b ∷ bs) (suc i) = there_at bs i

pub none_zeroth : (bs : List Bool) → is_there bs 0 ≡ false
unfolding is_there
none_zeroth [] = refl
none_zeroth (b ∷ bs) = refl

pub there_is : (bs : List Bool) (n : ℕ) → 1 ≤ n → is_there bs n ≡ get_or bs (n - 1) false
there_is bs n h =
    let e : n ≡ suc (n - 1) = omega arith in
    ap (is_there bs) e ∙ there_at bs (n - 1)

marked_at : (bs : List Bool) (i : ℕ) → marked bs (suc i) ≡ set bs i true
unfolding marked
marked_at [] i = refl
marked_at (b ∷ bs) zero = refl
marked_at (b ∷ bs) (suc i) = ap (λ cs. b ∷ cs) (marked_at bs i)

pub marks : (bs : List Bool) (n : ℕ) → 1 ≤ n → marked bs n ≡ set bs (n - 1) true
marks bs n h =
    let e : n ≡ suc (n - 1) = omega arith in
    ap (marked bs) e ∙ marked_at bs (n - 1)

one_less : (bs : List Bool) (i : ℕ) → i < length bs → get_or bs i false ≡ false → absent (set bs i true) + 1 ≡ absent bs
one_less [] i l h = absurd (omega arith)
one_less (true ∷ bs) zero l h = absurd (true≢false h)
one_less (false ∷ bs) zero l h = refl
one_less (true ∷ bs) (suc i) l h = one_less bs i (omega arith) h
one_less (false ∷ bs) (suc i) l h = let e = one_less bs i (omega arith) h in omega arith

pub fewer : (bs : List Bool) (n : ℕ) → 1 ≤ n → n ≤ length bs → is_there bs n ≡ false → absent (set bs (n - 1) true) + 1 ≡ absent bs
fewer bs n a b h = one_less bs (n - 1) (omega arith) (sym (there_is bs n a) ∙ h)

pub all_there : (bs : List Bool) → eqb (absent bs) 0 ≡ is_complete bs
all_there [] = refl
all_there (true ∷ bs) = all_there bs
all_there (false ∷ bs) = ne_eqb (absent bs + 1) 0 (λ e. omega arith)
