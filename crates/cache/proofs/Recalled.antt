-- The entry of a key, if it still counts.
use Rattle.std.proofs.Common.{◌≡◌, ℕ, ◌<◌, Bool, true, false, cond, ◌&&◌, List, [], ◌∷◌, map, length, get_or, IfSome, Some, None, sym, refl, ap, ◌∙◌, arith}
use mathlib.Core.List.{Memᴰ}
use lib.ListN.{length-map}
use Rattle.std.specs.Bool.{then_some}
use Rattle.std.specs.List.{slice_get}
use Rattle.std.specs.Option.{option_map}
use Rattle.std.proofs.lemmas.Bool.{and_left, and_right, and_from}
use Rattle.protocol.specs.Lists.{first}
use Rattle.protocol.specs.World.{Entry, is_key}
use Rattle.protocol.proofs.Lists.{first_here, first_there}
use Rattle.machine.specs.Store.{place_of, one_a_key}
use Rattle.machine.proofs.Keys.{place_none, Placed, at_head, behind_it, placed_at, placed}
use Rattle.cache.proofs.Places.{probe, read_at, got}

first_absent : (test : Entry → Bool) (es : List Entry) → ((e : Entry) → Memᴰ e es → test e ≡ false) → first test es ≡ None
unfolding first
first_absent test [] h = refl
first_absent test (e ∷ es) h = first_there test e es (h e (Memᴰ.head refl)) ∙ first_absent test es (λ f m. h f (Memᴰ.tail m))

-- of those of a key, the ones that count
module _ (counts test : Entry → Bool) where
  never : (es : List Entry) → ((e : Entry) → Memᴰ e es → test e ≡ true → ⊥) → first (λ e. counts e && test e) es ≡ None
  never es h = first_absent (λ e. counts e && test e) es (λ e m. and_right (counts e) (test e) (go e m (test e) refl))
    where
      go : (e : Entry) → Memᴰ e es → (b : Bool) → test e ≡ b → test e ≡ false
      go e m true t = absurd (h e m t)
      go e m false t = t

  by_placed : (es : List Entry) (i : ℕ) (d : Entry) → Placed test es i → first (λ e. counts e && test e) es ≡ cond (counts (get_or es i d)) (Some (get_or es i d)) None
  by_placed es i d (at_head e xs h g) = go (counts e) refl
    where
      go : (b : Bool) → counts e ≡ b → first (λ e. counts e && test e) (e ∷ xs) ≡ cond (counts e) (Some e) None
      go true c = first_here (λ e. counts e && test e) e xs (and_from (counts e) (test e) c h) ∙ sym (ap (λ b. cond b (Some e) None) c)
      go false c = first_there (λ e. counts e && test e) e xs (and_left (counts e) (test e) c) ∙ never xs g ∙ sym (ap (λ b. cond b (Some e) None) c)
  by_placed es i d (behind_it e xs j h p) = first_there (λ e. counts e && test e) e xs (and_right (counts e) (test e) h) ∙ by_placed xs j d p

module _ {X : Type 0} (f : X → Entry) (xs : List X) (counts : Entry → Bool) (a n : List (List ℕ)) (k : ℕ) where
  pub not_there : None ≡ place_of (is_key a n k) (map f xs) → None ≡ first (λ e. counts e && is_key a n k e) (map f xs)
  not_there h = sym (never counts (is_key a n k) (map f xs) (place_none (is_key a n k) (map f xs) (sym h)))

  module _ (o : one_a_key (map f xs) ≡ true) (i : ℕ) (h : Some i ≡ place_of (is_key a n k) (map f xs)) where
    pub key_within : i < length xs
    key_within = let m = length-map xs f in let w = (placed_at (is_key a n k) (map f xs) i (placed (probe a n k) (map f xs) i o (sym h))).0 in omega arith

    recalled : (x : X) (b : Bool) → x ≡ get_or xs i x → b ≡ counts (f x) → first (λ e. counts e && is_key a n k e) (map f xs) ≡ cond b (Some (f x)) None
    recalled x b e c =
        let r = read_at f xs i x key_within e (f x) in
        by_placed counts (is_key a n k) (map f xs) i (f x) (placed (probe a n k) (map f xs) i o (sym h))
        ∙ (λ t. cond (counts (r t)) (Some (r t)) None) ∙ ap (λ t. cond t (Some (f x)) None) (sym c)

    -- what is handed out of the entry read there, by what g reads of that
    module _ {Y : Type 0} (g : Y → X) (v : Y) (e : g v ≡ get_or xs i (g v)) where
      pub recalled_of : (b : Bool) → b ≡ counts (f (g v)) → option_map (λ y. f (g y)) (then_some b v) ≡ first (λ e. counts e && is_key a n k e) (map f xs)
      recalled_of b c = go b ∙ sym (recalled (g v) b e c)
        where
          go : (t : Bool) → option_map (λ y. f (g y)) (then_some t v) ≡ cond t (Some (f (g v))) None
          go true = refl
          go false = refl

      pub placed_of : (place : Y → ℕ) → place v ≡ i → (b : Bool) → IfSome (then_some b v) (λ y. slice_get (map f xs) (place y) ≡ Some (f (g y)))
      placed_of place p true = ap (slice_get (map f xs)) p ∙ sym (got f xs i (length xs) (g v) key_within refl e)
      placed_of place p false = tt
