-- Numbers read digit by digit.
use Rattle.std.proofs.Common.{◌≡◌, ℕ, ◌+◌, ◌-◌, ◌*◌, ◌^◌, ◌<◌, ◌≤◌, Bool, true, false, ◌&&◌, ltb, List, [], ◌∷◌, length, get_or, drop, Some, None, sym, refl, ap, ◌∙◌, subst, arith}
use Rattle.std.proofs.lemmas.List.{drop_more, drop_all}
use Rattle.std.proofs.lemmas.Bool.{cond-true, cond-false, and_from, and_left, and_right, and_parts, lt-ltb, le-ltb, ltb-true, ltb-false}
use Rattle.lines.specs.Lines.{digit, digits, value_from, with_digit, number_in}

-- what was read, and what is left of the word
pub record Reading (w : List ℕ) (value i : ℕ) : Type 0 where
  pub whole : value_from value (drop i w) ≡ value_from 0 w
  pub good : digits (drop i w) ≡ digits w
  pub below : value < 2 ^ 64

pub none_read : (w : List ℕ) → Reading w 0 0
none_read w = record { whole = refl; good = refl; below = omega arith }

module _ (w : List ℕ) (value i : ℕ) (r : Reading w value i) (l : i < length w) where
  value_more : value_from value (drop i w) ≡ value_from (value * 10 + (get_or w i 0 - 48)) (drop (i + 1) w)
  unfolding value_from
  value_more = ap (value_from value) (drop_more w i 0 l)

  digits_more : digits (drop i w) ≡ (digit (get_or w i 0) && digits (drop (i + 1) w))
  digits_more = ap digits (drop_more w i 0 l)

  one_read : digit (get_or w i 0) ≡ true → value * 10 + (get_or w i 0 - 48) < 2 ^ 64 → Reading w (value * 10 + (get_or w i 0 - 48)) (i + 1)
  one_read d fits = record {
    whole = sym value_more ∙ r.whole;
    good = sym (digits_more ∙ ap (λ b. b && digits (drop (i + 1) w)) d) ∙ r.good;
    below = fits;
  }

  no_digit : digit (get_or w i 0) ≡ false → None ≡ number_in w
  unfolding number_in
  no_digit d =
      let bad : digits w ≡ false = sym r.good ∙ digits_more ∙ ap (λ b. b && digits (drop (i + 1) w)) d in
      sym (cond-false (ltb 0 (length w) && digits w && ltb (value_from 0 w) (2 ^ 64)) (Some (value_from 0 w)) None (and_left (ltb 0 (length w) && digits w) (ltb (value_from 0 w) (2 ^ 64)) (and_right (ltb 0 (length w)) (digits w) bad)))

  -- a value only grows, so what is too large now is too large at the end
  grows : (n : ℕ) (bs : List ℕ) → n ≤ value_from n bs
  unfolding value_from
  grows n [] = omega arith
  grows n (b ∷ bs) = let g = grows (n * 10 + (b - 48)) bs in omega arith

  too_large : 2 ^ 64 ≤ value * 10 + (get_or w i 0 - 48) → None ≡ number_in w
  unfolding number_in
  too_large h =
      let g = grows (value * 10 + (get_or w i 0 - 48)) (drop (i + 1) w) in
      let v : value_from 0 w ≡ value_from (value * 10 + (get_or w i 0 - 48)) (drop (i + 1) w) = sym r.whole ∙ value_more in
      sym (cond-false (ltb 0 (length w) && digits w && ltb (value_from 0 w) (2 ^ 64)) (Some (value_from 0 w)) None (and_right (ltb 0 (length w) && digits w) (ltb (value_from 0 w) (2 ^ 64)) (le-ltb (value_from 0 w) (2 ^ 64) (omega arith))))

  -- a byte that is refused ends the number, one that is taken goes on
  pub stops : with_digit value (get_or w i 0) ≡ None → None ≡ number_in w
  stops h = go (digit (get_or w i 0)) (ltb (value * 10 + (get_or w i 0 - 48)) (2 ^ 64)) refl refl
    where
      go : (a b : Bool) → digit (get_or w i 0) ≡ a → ltb (value * 10 + (get_or w i 0 - 48)) (2 ^ 64) ≡ b → None ≡ number_in w
      go false b e f = no_digit e
      go true false e f = too_large (ltb-false (value * 10 + (get_or w i 0 - 48)) (2 ^ 64) f)
      go true true e f =
          let s = sym (cond-true (digit (get_or w i 0) && ltb (value * 10 + (get_or w i 0 - 48)) (2 ^ 64)) (Some (value * 10 + (get_or w i 0 - 48))) None (and_from (digit (get_or w i 0)) (ltb (value * 10 + (get_or w i 0 - 48)) (2 ^ 64)) e f)) ∙ h in
          let z : ◌≡◌ {A = ℕ} 0 1 = cc in absurd (omega arith)

  pub goes_on_lem : (n : ℕ) → with_digit value (get_or w i 0) ≡ Some n → Reading w n (i + 1)
  goes_on_lem n h = go (digit (get_or w i 0) && ltb (value * 10 + (get_or w i 0 - 48)) (2 ^ 64)) refl
    where
      go : (b : Bool) → (digit (get_or w i 0) && ltb (value * 10 + (get_or w i 0 - 48)) (2 ^ 64)) ≡ b → Reading w n (i + 1)
      go true e =
          let s : Some (value * 10 + (get_or w i 0 - 48)) ≡ Some n = sym (cond-true (digit (get_or w i 0) && ltb (value * 10 + (get_or w i 0 - 48)) (2 ^ 64)) (Some (value * 10 + (get_or w i 0 - 48))) None e) ∙ h in
          let v : value * 10 + (get_or w i 0 - 48) ≡ n = cc in
          let p = and_parts (digit (get_or w i 0)) (ltb (value * 10 + (get_or w i 0 - 48)) (2 ^ 64)) e in
          subst (λ x. Reading w x (i + 1)) v (one_read p.0 (ltb-true (value * 10 + (get_or w i 0 - 48)) (2 ^ 64) p.1))
      go false e =
          let s = sym (cond-false (digit (get_or w i 0) && ltb (value * 10 + (get_or w i 0 - 48)) (2 ^ 64)) (Some (value * 10 + (get_or w i 0 - 48))) None e) ∙ h in
          let z : ◌≡◌ {A = ℕ} 0 1 = cc in absurd (omega arith)

pub all_read : (w : List ℕ) (value i : ℕ) → Reading w value i → length w ≤ i → 0 < length w → Some value ≡ number_in w
unfolding number_in value_from
all_read w value i r l n =
    let v : value ≡ value_from 0 w = ap (value_from value) (sym (drop_all i w l)) ∙ r.whole in
    let d : digits w ≡ true = sym r.good ∙ ap digits (drop_all i w l) in
    let fits = r.below in
    let below : value_from 0 w < 2 ^ 64 = omega arith in
    ap Some v ∙ sym (cond-true (ltb 0 (length w) && digits w && ltb (value_from 0 w) (2 ^ 64)) (Some (value_from 0 w)) None (and_from (ltb 0 (length w) && digits w) (ltb (value_from 0 w) (2 ^ 64)) (and_from (ltb 0 (length w)) (digits w) (lt-ltb 0 (length w) n) d) (lt-ltb (value_from 0 w) (2 ^ 64) below)))

pub no_number : (w : List ℕ) → length w ≡ 0 → None ≡ number_in w
unfolding number_in
no_number [] h = refl
no_number (b ∷ w) h = absurd (omega arith)
