-- Labels in memory: each by its place, one more behind them, and what a write past them leaves.
use Rattle.std.proofs.Common.{◌≡◌, ℕ, zero, suc, ◌<◌, ◌≤◌, true, ltb, leb, List, [], ◌∷◌, ◌++◌, length, get_or, take, drop, sym, refl, ap, ◌∙◌, arith}
use Rattle.std.specs.List.{between}
use Rattle.std.proofs.lemmas.Bool.{and_parts, and_from, ltb-true, lt-ltb, leb-true, le-leb}
use Rattle.std.proofs.lemmas.Slice.{between_is}
use Rattle.std.proofs.lemmas.List.{take-take}
use Rattle.names.specs.Layout.{pieces, rising}

pub length_pieces : (s : ℕ) (es bs : List ℕ) → length (pieces s es bs) ≡ length es
unfolding pieces
length_pieces s [] bs = refl
length_pieces s (e ∷ es) bs = ap suc (length_pieces e es bs)

-- the label at a depth
pub piece_at : (s : ℕ) (es bs : List ℕ) (i : ℕ) → i < length es → get_or (pieces s es bs) i [] ≡ between (get_or (s ∷ es) i 0) (get_or es i 0) bs
unfolding pieces
piece_at s [] bs i h = absurd (omega arith)
piece_at s (e ∷ es) bs zero h = refl
piece_at s (e ∷ es) bs (suc i) h = piece_at e es bs i (omega arith)

-- one label more
pub pieces_push : (s : ℕ) (es : List ℕ) (e : ℕ) (bs : List ℕ) → pieces s (es ++ e ∷ []) bs ≡ pieces s es bs ++ between (get_or (s ∷ es) (length es) 0) e bs ∷ []
unfolding pieces
pieces_push s [] e bs = refl
pieces_push s (d ∷ es) e bs = ap (λ ps. between s d bs ∷ ps) (pieces_push d es e bs)

-- ends that rise: each start is below its end, and the last within the room
pub rising_room : (s : ℕ) (es : List ℕ) (room : ℕ) → rising s es room ≡ true → (i : ℕ) → i ≤ length es → get_or (s ∷ es) i 0 ≤ room
unfolding rising
rising_room s [] room h zero l = leb-true s room h
rising_room s [] room h (suc i) l = absurd (omega arith)
rising_room s (e ∷ es) room h zero l =
    let p = and_parts (ltb s e) (rising e es room) h in
    let a = ltb-true s e p.0 in
    let b = rising_room e es room p.1 zero (omega arith) in
    omega arith
rising_room s (e ∷ es) room h (suc i) l = rising_room e es room (and_parts (ltb s e) (rising e es room) h).1 i (omega arith)

pub rising_at : (s : ℕ) (es : List ℕ) (room : ℕ) → rising s es room ≡ true → (i : ℕ) → i < length es → get_or (s ∷ es) i 0 < get_or es i 0
unfolding rising
rising_at s [] room h i l = absurd (omega arith)
rising_at s (e ∷ es) room h zero l = ltb-true s e (and_parts (ltb s e) (rising e es room) h).0
rising_at s (e ∷ es) room h (suc i) l = rising_at e es room (and_parts (ltb s e) (rising e es room) h).1 i (omega arith)

pub rising_push : (s : ℕ) (es : List ℕ) (e room : ℕ) → rising s es room ≡ true → get_or (s ∷ es) (length es) 0 < e → e ≤ room → rising s (es ++ e ∷ []) room ≡ true
unfolding rising
rising_push s [] e room h l m = and_from (ltb s e) (leb e room) (lt-ltb s e l) (le-leb e room m)
rising_push s (d ∷ es) e room h l m =
    let p = and_parts (ltb s d) (rising d es room) h in
    and_from (ltb s d) (rising d (es ++ e ∷ []) room) p.0 (rising_push d es e room p.1 l m)

-- fewer ends
pub rising_take : (n s : ℕ) (es : List ℕ) (room : ℕ) → rising s es room ≡ true → rising s (take n es) room ≡ true
unfolding rising
rising_take zero s es room h = le-leb s room (rising_room s es room h zero (omega arith))
rising_take (suc n) s [] room h = h
rising_take (suc n) s (e ∷ es) room h =
    let p = and_parts (ltb s e) (rising e es room) h in
    and_from (ltb s e) (rising e (take n es) room) p.0 (rising_take n e es room p.1)

pub pieces_take : (n s : ℕ) (es bs : List ℕ) → pieces s (take n es) bs ≡ take n (pieces s es bs)
unfolding pieces
pieces_take zero s es bs = refl
pieces_take (suc n) s [] bs = refl
pieces_take (suc n) s (e ∷ es) bs = ap (λ ps. between s e bs ∷ ps) (pieces_take n e es bs)

-- what lies past the last end doesn't matter
between_same : (s e n : ℕ) (bs cs : List ℕ) → e ≤ n → take n bs ≡ take n cs → between s e bs ≡ between s e cs
between_same s e n bs cs l h =
    between_is bs s e ∙ ap (drop s) (sym (take-take e n bs l) ∙ ap (take e) h ∙ take-take e n cs l) ∙ sym (between_is cs s e)

-- the first end is at most the last
first_below : (d : ℕ) (ds : List ℕ) (room n : ℕ) → rising d ds room ≡ true → get_or (d ∷ ds) (length ds) 0 ≤ n → d ≤ n
unfolding rising
first_below d [] room n h l = l
first_below d (f ∷ ds) room n h l =
    let q = and_parts (ltb d f) (rising f ds room) h in
    let a = ltb-true d f q.0 in
    let b = first_below f ds room n q.1 l in
    omega arith

pub pieces_same : (s : ℕ) (es : List ℕ) (room n : ℕ) (bs cs : List ℕ) → rising s es room ≡ true → get_or (s ∷ es) (length es) 0 ≤ n → take n bs ≡ take n cs → pieces s es bs ≡ pieces s es cs
unfolding pieces rising
pieces_same s [] room n bs cs h l t = refl
pieces_same s (e ∷ es) room n bs cs h l t =
    let p = and_parts (ltb s e) (rising e es room) h in
    let le : e ≤ n = first_below e es room n p.1 l in
    λ i. between_same s e n bs cs le t i ∷ pieces_same e es room n bs cs p.1 l t i
