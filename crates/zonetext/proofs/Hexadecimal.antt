-- Bytes in hexadecimal, read one by one.
use Rattle.std.proofs.Common.{◌≡◌, ℕ, ◌+◌, ◌-◌, ◌*◌, ◌<◌, ◌≤◌, eqb, List, [], ◌∷◌, ◌++◌, length, get_or, set, take, drop, Some, None, Option, refl, sym, ap, ◌∙◌, append_assoc, arith}
use Rattle.std.specs.Option.{option_map}
use Rattle.std.proofs.lemmas.List.{append-nil, drop_more, at_drop_all, take_more_set, take_all, take_rest}
use Rattle.std.proofs.lemmas.Bool.{cond-true, eq-eqb}
use Rattle.zonetext.specs.Division.{Word}
use Rattle.zonetext.specs.Fields.{digit_of, byte_of, bytes_in, address_of}

-- ---- what two digits give before what the others give

abbrev pub behind : List ℕ → Option (List ℕ) → Option (List ℕ)
behind bs o = option_map (λ cs. bs ++ cs) o

behind_more : (bs : List ℕ) (b : ℕ) (o : Option (List ℕ)) → behind bs (behind (b ∷ []) o) ≡ behind (bs ++ b ∷ []) o
behind_more bs b None = refl
behind_more bs b (Some cs) = ap Some (sym (append_assoc bs (b ∷ []) cs))

behind_none : (o : Option (List ℕ)) → o ≡ behind [] o
behind_none None = refl
behind_none (Some cs) = refl

some_byte : (h l : Option ℕ) (b : ℕ) (o : Option (List ℕ)) → Some (b ∷ []) ≡ byte_of h l (Some []) → byte_of h l o ≡ behind (b ∷ []) o
some_byte None l b o e = cc
some_byte (Some h) None b o e = cc
some_byte (Some h) (Some l) b None e = refl
some_byte (Some h) (Some l) b (Some cs) e = let s : h * 16 + l ≡ b = cc in ap (λ x. Some (x ∷ cs)) s

no_byte : (h l : Option ℕ) (o : Option (List ℕ)) → None ≡ byte_of h l (Some []) → byte_of h l o ≡ None
no_byte None l o e = refl
no_byte (Some h) None o e = refl
no_byte (Some h) (Some l) o e = cc

two_digits : (x y : ℕ) (ds : List ℕ) → bytes_in (x ∷ y ∷ ds) ≡ byte_of (digit_of x) (digit_of y) (bytes_in ds)
unfolding bytes_in
two_digits x y ds = refl

no_digit : bytes_in [] ≡ Some []
unfolding bytes_in
no_digit = refl

one_digit : (x : ℕ) → bytes_in (x ∷ []) ≡ None
unfolding bytes_in
one_digit x = refl

module _ (word : List ℕ) where
  -- the bytes so far, and those of the rest
  pub record Reading (bs rest : List ℕ) : Type 0 where
    pub so_far : bytes_in word ≡ behind bs (bytes_in rest)

  pub none_read : Reading [] word
  none_read = record { so_far = behind_none (bytes_in word) }

  pub one_read : (bs rest : List ℕ) (x y b : ℕ) (ds : List ℕ) → Reading bs rest → rest ≡ x ∷ y ∷ ds → Some (b ∷ []) ≡ byte_of (digit_of x) (digit_of y) (Some []) → Reading (bs ++ b ∷ []) ds
  one_read bs rest x y b ds r e h =
      record { so_far = r.so_far ∙ ap (behind bs) (ap bytes_in e ∙ two_digits x y ds ∙ some_byte (digit_of x) (digit_of y) b (bytes_in ds) h) ∙ behind_more bs b (bytes_in ds) }

  pub bad_read : (bs rest : List ℕ) (x y : ℕ) (ds : List ℕ) → Reading bs rest → rest ≡ x ∷ y ∷ ds → None ≡ byte_of (digit_of x) (digit_of y) (Some []) → bytes_in word ≡ None
  bad_read bs rest x y ds r e h = r.so_far ∙ ap (behind bs) (ap bytes_in e ∙ two_digits x y ds ∙ no_byte (digit_of x) (digit_of y) (bytes_in ds) h)

  pub all_read : (bs : List ℕ) (rest : List ℕ) → Reading bs rest → length rest ≡ 0 → bytes_in word ≡ Some bs
  all_read bs [] r h = r.so_far ∙ ap (behind bs) no_digit ∙ ap Some (append-nil bs)
  all_read bs (x ∷ ds) r h = absurd (omega arith)

  pub odd_read : (bs : List ℕ) (rest : List ℕ) → Reading bs rest → length rest ≡ 1 → bytes_in word ≡ None
  odd_read bs [] r h = absurd (omega arith)
  odd_read bs (x ∷ []) r h = r.so_far ∙ ap (behind bs) (one_digit x)
  odd_read bs (x ∷ y ∷ ds) r h = absurd (omega arith)

-- ---- the first two of what is left

two_more : (w : List ℕ) (k : ℕ) → k + 1 < length w → drop k w ≡ get_or w k 0 ∷ get_or w (k + 1) 0 ∷ drop (k + 2) w
two_more w k l =
    let e : k + 1 + 1 ≡ k + 2 = omega arith in
    drop_more w k 0 (omega arith) ∙ ap (λ r. get_or w k 0 ∷ r) (drop_more w (k + 1) 0 l ∙ ap (λ j. get_or w (k + 1) 0 ∷ drop j w) e)

pub two_first : (w : List ℕ) → 2 ≤ length w → w ≡ get_or w 0 0 ∷ get_or w 1 0 ∷ take (length w - 2) (drop 2 w)
two_first w l = two_more w 0 (omega arith) ∙ ap (λ r. get_or w 0 0 ∷ get_or w 1 0 ∷ r) (sym (take_rest w 2))

-- ---- an array filled byte by byte

module _ (word : List ℕ) where
  pub record Filling (bs : List ℕ) (i : ℕ) : Type 0 where
    pub so_far : Reading word (take i bs) (drop (2 * i) word)
    pub room : length bs ≡ 8

  pub one_filled : (bs : List ℕ) (i b : ℕ) → Filling bs i → length word ≡ 16 → i < length bs → Some (b ∷ []) ≡ byte_of (digit_of (get_or word (2 * i) 0)) (digit_of (get_or word (2 * i + 1) 0)) (Some []) → Reading word (take (i + 1) (set bs i b)) (drop (2 * (i + 1)) word)
  one_filled bs i b f n l h =
      let q = f.room in
      let k : 2 * i + 2 ≡ 2 * (i + 1) = omega arith in
      let r = one_read word (take i bs) (drop (2 * i) word) (get_or word (2 * i) 0) (get_or word (2 * i + 1) 0) b (drop (2 * i + 2) word) f.so_far (two_more word (2 * i) (omega arith)) h in
      record { so_far = r.so_far ∙ (λ j. behind (sym (take_more_set bs i b l) j) (bytes_in (drop (k j) word))) }

  pub bad_filled : (bs : List ℕ) (i : ℕ) → Filling bs i → length word ≡ 16 → i < length bs → None ≡ byte_of (digit_of (get_or word (2 * i) 0)) (digit_of (get_or word (2 * i + 1) 0)) (Some []) → bytes_in word ≡ None
  bad_filled bs i f n l h =
      let q = f.room in
      bad_read word (take i bs) (drop (2 * i) word) (get_or word (2 * i) 0) (get_or word (2 * i + 1) 0) (drop (2 * i + 2) word) f.so_far (two_more word (2 * i) (omega arith)) h

  pub all_filled : (bs : List ℕ) (i : ℕ) → Filling bs i → length word ≡ 16 → length bs ≤ i → bytes_in word ≡ Some bs
  all_filled bs i f n l =
      let q = f.room in
      f.so_far.so_far ∙ (λ j. behind (take_all i bs l j) (at_drop_all bytes_in word (2 * i) (omega arith) j)) ∙ ap (behind bs) no_digit ∙ ap Some (append-nil bs)

pub address_word : (w : List ℕ) (o : Option (List ℕ)) → length w ≡ 16 → bytes_in w ≡ o → address_of (Word w) ≡ o
address_word w o n e = cond-true (eqb (length w) 16) (bytes_in w) None (eq-eqb (length w) 16 n) ∙ e
