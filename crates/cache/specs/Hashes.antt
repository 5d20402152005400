-- The hash of a key: nothing is asked of it but that it is a function of the key. Assumes nothing.
use Rattle.std.specs.Prelude.{ℕ, ◌*◌, ◌%◌, ◌^◌, List, [], ◌∷◌, bit_xor}

unfoldable pub stirred : ℕ → ℕ → ℕ
stirred h b = bit_xor h b * 11400714819323198485 % 2 ^ 64

unfoldable pub stirred_all : ℕ → List ℕ → ℕ
stirred_all h [] = h
stirred_all h (b ∷ bs) = stirred_all (stirred h b) bs

-- a byte that no label has parts the labels
unfoldable pub stirred_name : ℕ → List (List ℕ) → ℕ
stirred_name h [] = h
stirred_name h (l ∷ ls) = stirred_name (stirred_all (stirred h 46) l) ls

unfoldable pub hash_of : List (List ℕ) → List (List ℕ) → ℕ → ℕ
hash_of a n k = stirred_name (stirred (stirred_name (stirred 0 k) a) 47) n
