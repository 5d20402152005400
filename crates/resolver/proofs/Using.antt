-- Flags of the entries by which walks under way go.
use Rattle.std.proofs.Common.{◌≡◌, ℕ, zero, suc, ◌+◌, ◌<◌, ◌≤◌, Bool, true, false, ◌||◌, List, [], ◌∷◌, ◌++◌, map, length, get_or, set, take, Some, sym, refl, ap, ◌∙◌, subst, arith}
use mathlib.Core.List.{Memᴰ, map-append}
use Rattle.std.specs.List.{slice_get}
use Rattle.std.proofs.lemmas.List.{take_more, take_all}
use Rattle.std.proofs.lemmas.Bool.{false_from_ne_true, or_right}
use Rattle.protocol.specs.Lists.{any}
use Rattle.protocol.specs.World.{Rules, Entry}
use Rattle.protocol.proofs.Lists.{some_is, some_none}
use Rattle.machine.specs.Store.{one_a_key}
use Rattle.machine.specs.Machine.{Question, State, walk_of, used_by, in_use}
use Rattle.machine.proofs.Keys.{of_key, key_turn, Placed, at_head, behind_it, placed_self}
use Rattle.walks.specs.Traces.{marked}

or_no : (x : Bool) → (x || false) ≡ x
or_no true = refl
or_no false = refl

or_assoc : (x y z : Bool) → ((x || y) || z) ≡ (x || (y || z))
or_assoc true y z = refl
or_assoc false y z = refl

-- functions that agree on all members
same_flags : {A B : Type 0} (f g : A → B) (xs : List A) → ((x : A) → Memᴰ x xs → f x ≡ g x) → map f xs ≡ map g xs
same_flags f g [] h = refl
same_flags f g (x ∷ xs) h = λ i. h x (Memᴰ.head refl) i ∷ same_flags f g xs (λ y m. h y (Memᴰ.tail m)) i

-- one flag more
flag_set : (f test : Entry → Bool) (es : List Entry) (i : ℕ) → Placed test es i → set (map f es) i true ≡ map (λ e. f e || test e) es
flag_set f test es i (at_head e xs h g) =
    λ j. sym (or_right (f e) (test e) h) j ∷ same_flags f (λ x. f x || test x) xs (λ x m. sym (ap (λ b. f x || b) (false_from_ne_true (test x) (g x m)) ∙ or_no (f x))) j
flag_set f test es i (behind_it e xs k h p) =
    λ j. sym (ap (λ b. f e || b) h ∙ or_no (f e)) j ∷ flag_set f test xs k p j

key_same : (e w : Entry) → of_key w e ≡ of_key e w
key_same e w = go (of_key w e) refl (of_key e w) refl
  where
    go : (a : Bool) → of_key w e ≡ a → (b : Bool) → of_key e w ≡ b → of_key w e ≡ of_key e w
    go true h true k = h ∙ sym k
    go false h false k = h ∙ sym k
    go true h false k = h ∙ sym (key_turn w e h)
    go false h true k = key_turn e w k ∙ sym k

-- an entry that is read at a place
read_so : (es : List Entry) (i : ℕ) (w : Entry) → slice_get es i ≡ Some w → (i < length es) × (get_or es i w ≡ w)
read_so [] i w h = absurd (some_none w h)
read_so (e ∷ es) zero w h = (omega arith, some_is e w h)
read_so (e ∷ es) (suc i) w h = let r = read_so es i w h in let l = r.0 in (omega arith, r.1)

module _ (es : List Entry) (one : one_a_key es ≡ true) where
  -- the flags of all words of a walk, at whose places they are set
  pub walk_flags : (ps : List ℕ) (ws : List Entry) (f : Entry → Bool) → map (slice_get es) ps ≡ map Some ws → marked ps (map f es) ≡ map (λ e. f e || any (of_key e) ws) es
  unfolding marked any
  walk_flags [] [] f h = same_flags f (λ e. f e || false) es (λ e m. sym (or_no (f e)))
  walk_flags [] (w ∷ ws) f h = let l = ap length h in absurd (omega arith)
  walk_flags (p ∷ ps) [] f h = let l = ap length h in absurd (omega arith)
  walk_flags (p ∷ ps) (w ∷ ws) f h =
      let r = read_so es p w (head_is h) in
      let at : Placed (of_key w) es p = subst (λ x. Placed (of_key x) es p) r.1 (placed_self es p w one r.0) in
      ap (marked ps) (flag_set f (of_key w) es p at)
      ∙ walk_flags ps ws (λ e. f e || of_key w e) (tail_is h)
      ∙ same_flags (λ e. (f e || of_key w e) || any (of_key e) ws) (λ e. f e || (of_key e w || any (of_key e) ws)) es (λ e m. or_assoc (f e) (of_key w e) (any (of_key e) ws) ∙ ap (λ b. f e || (b || any (of_key e) ws)) (key_same e w))
    where
      head_is : slice_get es p ∷ map (slice_get es) ps ≡ Some w ∷ map Some ws → slice_get es p ≡ Some w
      head_is q = cc

      tail_is : slice_get es p ∷ map (slice_get es) ps ≡ Some w ∷ map Some ws → map (slice_get es) ps ≡ map Some ws
      tail_is q = cc

any_push : {A : Type 0} (test : A → Bool) (xs : List A) (x : A) → any test (xs ++ (x ∷ [])) ≡ (any test xs || test x)
unfolding any
any_push test [] x = or_no (test x)
any_push test (y ∷ ys) x = ap (λ b. test y || b) (any_push test ys x) ∙ sym (or_assoc (test y) (any test ys) (test x))

-- the flags of the questions before a place
module _ {X : Type 0} (f : X → Question) (r : Rules) (st : State) (one : one_a_key st.cache ≡ true) (xs : List X) where
  abbrev pub FlagsOf : ℕ → List Bool → Type 0
  FlagsOf i us = us ≡ map (λ e. any (used_by r st e) (map f (take i xs))) st.cache

  pub none_flagged : (us : List Bool) → us ≡ map (λ _. false) st.cache → FlagsOf 0 us
  unfolding any
  none_flagged us h = h

  pub one_flagged : (i : ℕ) (x : X) (us vs : List Bool) (ps : List ℕ) → i < length xs → x ≡ get_or xs i x → map (slice_get st.cache) ps ≡ map Some (walk_of r st (f x)).words → vs ≡ marked ps us → FlagsOf i us → FlagsOf (i + 1) vs
  one_flagged i x us vs ps l e words step h =
      step ∙ ap (marked ps) h
      ∙ walk_flags st.cache one ps (walk_of r st (f x)).words (λ e. any (used_by r st e) (map f (take i xs))) words
      ∙ same_flags (λ e. any (used_by r st e) (map f (take i xs)) || used_by r st e (f x)) (λ e. any (used_by r st e) (map f (take (i + 1) xs))) st.cache (λ e m. sym (more e))
    where
      more : (d : Entry) → any (used_by r st d) (map f (take (i + 1) xs)) ≡ (any (used_by r st d) (map f (take i xs)) || used_by r st d (f x))
      more d =
          ap (λ ys. any (used_by r st d) (map f ys)) (take_more xs i x l ∙ ap (λ y. take i xs ++ (y ∷ [])) (sym e))
          ∙ ap (any (used_by r st d)) (map-append f (take i xs) (x ∷ []))
          ∙ any_push (used_by r st d) (map f (take i xs)) (f x)

  pub all_flagged : (i : ℕ) (us : List Bool) → length xs ≡ i → st.walks ≡ map f xs → FlagsOf i us → us ≡ map (in_use r st) st.cache
  all_flagged i us l walks h = h ∙ ap (λ ys. map (λ e. any (used_by r st e) (map f ys)) st.cache) (let k : length xs ≤ i = omega arith in take_all i xs k) ∙ ap (λ ys. map (λ e. any (used_by r st e) ys) st.cache) (sym walks)
