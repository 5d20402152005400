-- What owners say now is the zone of the first version of that apex, newest first.
use Rattle.std.proofs.Common.{◌≡◌, Bool, true, false, cond, List, [], ◌∷◌, map, Some, Option, sym, refl, ap, ◌∙◌}
use Rattle.std.specs.List.{find}
use Rattle.std.specs.Option.{option_map}
use Rattle.protocol.specs.Lists.{first}
use Rattle.protocol.specs.Words.{Name}
use Rattle.protocol.specs.World.{Version, current}
use Rattle.valley.specs.Owning.{is_of, zone_in}

pub current_first : (a : Name) (vs : List Version) → zone_in (first (is_of a) vs) ≡ current a vs
unfolding current first
current_first a [] = refl
current_first a (v ∷ vs) = go (is_of a v) refl (current_first a vs)
  where
    go : (b : Bool) → is_of a v ≡ b → zone_in (first (is_of a) vs) ≡ current a vs → zone_in (cond (is_of a v) (Some v) (first (is_of a) vs)) ≡ cond (is_of a v) (Some v.zone) (current a vs)
    go true h ih = ap (λ b. zone_in (cond b (Some v) (first (is_of a) vs))) h ∙ sym (ap (λ b. cond b (Some v.zone) (current a vs)) h)
    go false h ih = ap (λ b. zone_in (cond b (Some v) (first (is_of a) vs))) h ∙ ih ∙ sym (ap (λ b. cond b (Some v.zone) (current a vs)) h)

-- ---- the first that passes a test, as a chain over the code's elements gives it

module _ {X Y : Type 0} (f : X → Y) (test : Y → Bool) where
  pub first_of : (xs : List X) → option_map f (find (λ x. test (f x)) xs) ≡ first test (map f xs)
  unfolding first
  first_of [] = refl
  first_of (x ∷ xs) = go (test (f x)) refl (first_of xs)
    where
      go : (b : Bool) → test (f x) ≡ b → option_map f (find (λ y. test (f y)) xs) ≡ first test (map f xs) → option_map f (cond (test (f x)) (Some x) (find (λ y. test (f y)) xs)) ≡ cond (test (f x)) (Some (f x)) (first test (map f xs))
      go true h ih = ap (λ b. option_map f (cond b (Some x) (find (λ y. test (f y)) xs))) h ∙ sym (ap (λ b. cond b (Some (f x)) (first test (map f xs))) h)
      go false h ih = ap (λ b. option_map f (cond b (Some x) (find (λ y. test (f y)) xs))) h ∙ ih ∙ sym (ap (λ b. cond b (Some (f x)) (first test (map f xs))) h)

-- what was found, by the arm that was taken
pub came : {A X Y Z : Type 0} (now : A → X) (f : X → Y) (h : Option Y → Z) (o p : Option A) (r : Option Y) → o ≡ p → option_map f (option_map now o) ≡ r → h (option_map f (option_map now p)) ≡ h r
came now f h o p r e found = ap h (ap (λ q. option_map f (option_map now q)) (sym e) ∙ found)
