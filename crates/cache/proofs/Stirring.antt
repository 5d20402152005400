-- Hashes, byte by byte and label by label.
use Rattle.std.proofs.Common.{◌≡◌, ℕ, List, [], ◌∷◌, ◌++◌, refl}
use Rattle.cache.specs.Hashes.{stirred, stirred_all}

pub stirred_none : (h : ℕ) → stirred_all h [] ≡ h
unfolding stirred_all
stirred_none h = refl

-- one byte more at the end
pub stirred_more : (h : ℕ) (bs : List ℕ) (b : ℕ) → stirred_all h (bs ++ (b ∷ [])) ≡ stirred (stirred_all h bs) b
unfolding stirred_all
stirred_more h [] b = refl
stirred_more h (c ∷ cs) b = stirred_more (stirred h c) cs b
