-- Places of keys in a list in which no two entries have one key.
use Rattle.std.proofs.Common.{◌≡◌, ℕ, zero, suc, ◌<◌, Bool, true, false, List, [], ◌∷◌, map, length, get_or, Some, None, sym, refl, ap, ◌∙◌, arith}
use mathlib.Core.List.{Memᴰ}
use lib.ListN.{length-map}
use Rattle.std.specs.Option.{option_map}
use Rattle.std.specs.List.{slice_get}
use Rattle.std.proofs.lemmas.List.{get_or-map}
use Rattle.std.proofs.lemmas.Option.{slice_get-get_or}
use Rattle.meaning.specs.Speech.{Empty}
use Rattle.protocol.specs.World.{Entry}
use Rattle.machine.specs.Store.{place_of, one_a_key}
use Rattle.machine.proofs.Keys.{of_key, key_so, so_key, one_tail, one_head, place_here, place_there}

-- some entry of a key
abbrev pub probe : List (List ℕ) → List (List ℕ) → ℕ → Entry
probe a n k = record { apex = a; name = n; kind = k; word = record { said = Empty; ttl = 0 }; heard = 0; id = 0; server = [] }

key_join : (d e f : Entry) → of_key d e ≡ true → of_key d f ≡ true → of_key e f ≡ true
key_join d e f h g =
    let k = key_so d e h in
    let l = key_so d f g in
    so_key e f (record { apex_is = l.apex_is ∙ sym k.apex_is; name_is = l.name_is ∙ sym k.name_is; kind_is = l.kind_is ∙ sym k.kind_is })

pub mem_at : (es : List Entry) (i : ℕ) (d : Entry) → i < length es → Memᴰ (get_or es i d) es
mem_at [] i d l = absurd (omega arith)
mem_at (e ∷ es) zero d l = Memᴰ.head refl
mem_at (e ∷ es) (suc i) d l = Memᴰ.tail (mem_at es i d (omega arith))

-- the place of an entry of the key is the place of the key
pub place_of_lem : (key : Entry) (es : List Entry) (i : ℕ) (d : Entry) → one_a_key es ≡ true → i < length es → of_key key (get_or es i d) ≡ true → place_of (of_key key) es ≡ Some i
place_of_lem key [] i d o l h = absurd (omega arith)
place_of_lem key (x ∷ xs) zero d o l h = place_here (of_key key) x xs h
place_of_lem key (x ∷ xs) (suc i) d o l h = go (of_key key x) refl (place_of_lem key xs i d (one_tail x xs o) (omega arith) h)
  where
    go : (b : Bool) → of_key key x ≡ b → place_of (of_key key) xs ≡ Some i → place_of (of_key key) (x ∷ xs) ≡ Some (suc i)
    go true t ih = absurd (one_head x xs o (get_or xs i d) (mem_at xs i d (omega arith)) (key_join key x (get_or xs i d) t h))
    go false t ih = place_there (of_key key) x xs t ∙ ap (option_map suc) ih

-- a key that no entry has
pub no_place : (test : Entry → Bool) (es : List Entry) (d : Entry) → ((i : ℕ) → i < length es → test (get_or es i d) ≡ false) → place_of test es ≡ None
unfolding place_of
no_place test [] d h = refl
no_place test (x ∷ xs) d h = place_there test x xs (h 0 (omega arith)) ∙ ap (option_map suc) (no_place test xs d (λ i l. h (suc i) (omega arith)))

-- what the code reads, as what it stands for
module _ {X : Type 0} (f : X → Entry) (xs : List X) where
  pub read_at : (i : ℕ) (x : X) → i < length xs → x ≡ get_or xs i x → (d : Entry) → get_or (map f xs) i d ≡ f x
  read_at i x l e d = get_or-map f xs i x d l ∙ ap f (sym e)

  pub got : (i m : ℕ) (x : X) → i < m → m ≡ length xs → x ≡ get_or xs i x → Some (f x) ≡ slice_get (map f xs) i
  got i m x l n e = let h = length-map xs f in sym (slice_get-get_or (map f xs) i (f x) (omega arith) ∙ ap Some (read_at i x (omega arith) e (f x)))
