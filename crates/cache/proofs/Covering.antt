-- Hints for every entry, where an entry comes in the place of another or at the end.
use Rattle.std.proofs.Common.{◌≡◌, ℕ, ◌+◌, ◌<◌, ◌≤◌, true, ◌⊎◌, List, [], ◌∷◌, ◌++◌, length, get_or, set, Some, sym, ap, ◌∙◌, subst, inl, inr, arith, length-append}
use Rattle.std.proofs.lemmas.List.{length-set, get_or-set_same, get_or-set_other, get_or_append_left, get_or_push}
use Rattle.std.proofs.lemmas.Bool.{cases_lt, cases_eq}
use Rattle.protocol.specs.World.{Entry}
use Rattle.machine.specs.Store.{place_of, one_a_key}
use Rattle.machine.proofs.Keys.{of_key, key_so, placed, placed_at}
use Rattle.cache.specs.declared.index.Hint.{Hint}
use Rattle.cache.specs.Hashes.{hash_of}
use Rattle.cache.specs.Hints.{hinted, nobody, hash_for, Covers}

pub same_hash : (e f : Entry) → of_key e f ≡ true → hash_for f ≡ hash_for e
same_hash e f h = let s = key_so e f h in λ t. hash_of (s.apex_is t) (s.name_is t) (s.kind_is t)

module _ (xs ys : List Hint) (es : List Entry) (e : Entry) (c : Covers xs es) where
  pub covers_set : (q : ℕ) → ((h i : ℕ) → (i ≡ q → ⊥) → hinted h i xs ≡ true → hinted h i ys ≡ true) → hinted (hash_for e) q ys ≡ true → Covers ys (set es q e)
  covers_set q others there i l = go (cases_eq i q)
    where
      size : length (set es q e) ≡ length es
      size = length-set es q e

      go : (i ≡ q) ⊎ (i ≡ q → ⊥) → hinted (hash_for (get_or (set es q e) i nobody)) i ys ≡ true
      go (inl a) =
          let s = size in
          let m : q < length es = omega arith in
          ap (λ j. hinted (hash_for (get_or (set es q e) j nobody)) j ys) a ∙ ap (λ f. hinted (hash_for f) q ys) (get_or-set_same es q e nobody m) ∙ there
      go (inr a) =
          let s = size in
          ap (λ f. hinted (hash_for f) i ys) (get_or-set_other es q i e nobody a) ∙ others (hash_for (get_or es i nobody)) i a (c i (omega arith))

  pub covers_push : ((h i : ℕ) → hinted h i xs ≡ true → hinted h i ys ≡ true) → hinted (hash_for e) (length es) ys ≡ true → Covers ys (es ++ (e ∷ []))
  covers_push others there i l = go (cases_lt i (length es))
    where
      size : length (es ++ (e ∷ [])) ≡ length es + 1
      size = length-append es (e ∷ [])

      go : (i < length es) ⊎ (length es ≤ i) → hinted (hash_for (get_or (es ++ (e ∷ [])) i nobody)) i ys ≡ true
      go (inl a) = ap (λ f. hinted (hash_for f) i ys) (get_or_append_left es (e ∷ []) nobody i a) ∙ others (hash_for (get_or es i nobody)) i (c i a)
      go (inr a) =
          let s = size in
          let b : length es ≡ i = omega arith in
          ap (λ f. hinted (hash_for f) i ys) (get_or_push es e nobody i b) ∙ subst (λ j. hinted (hash_for e) j ys ≡ true) b there

-- an entry in the place of one of its key needs no other hint
pub covers_replaced : (xs : List Hint) (es : List Entry) (e : Entry) (q : ℕ) → Covers xs es → one_a_key es ≡ true → Some q ≡ place_of (of_key e) es → Covers xs (set es q e)
covers_replaced xs es e q c o h =
    let p = placed_at (of_key e) es q (placed e es q o (sym h)) in
    covers_set xs xs es e c q (λ a i b d. d) (ap (λ k. hinted k q xs) (sym (same_hash e (get_or es q nobody) (p.1 nobody).1)) ∙ c q p.0)
