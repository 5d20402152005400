-- Laws of the script's grammar: what is written as a line is read as it was meant.
use Rattle.std.specs.Prelude.{◌≡◌, ℕ, ◌≤◌, true, List, [], ◌∷◌, ◌++◌, length, Some, Ok, codes}
use Rattle.names.specs.Labels.{proper, written}
use Rattle.lines.specs.Lines.{number_in, field, fields, line_of}
use Rattle.script.specs.Grammar.{Zone, Copy, Ask, Bring, Tick, place_in, meaning, line_meaning}

pub record ScriptLaws : Type 0 where
  -- a line of words, if it isn't too long, means what its words mean; a comment changes nothing
  pub line : (ws : List (List ℕ)) → fields ws ≡ true → length (line_of ws) ≤ 1200 → line_meaning (line_of ws) ≡ meaning ws
  pub comment : (text rest : List ℕ) → line_meaning (text ++ 59 ∷ rest) ≡ line_meaning text
  -- a written name is a word
  pub word : (n : List (List ℕ)) → proper n ≡ true → field (written n) ≡ true
  -- each line means what its words name
  pub tick : meaning (codes "tick" ∷ []) ≡ Ok Tick
  pub zone : (file : List ℕ) → meaning (codes "zone" ∷ file ∷ []) ≡ Ok (Zone file)
  pub bring : (w : List ℕ) (n : ℕ) → number_in w ≡ Some n → meaning (codes "bring" ∷ w ∷ []) ≡ Ok (Bring n)
  pub copy : (w : List ℕ) (s : ℕ) (n : List (List ℕ)) → place_in 4 w ≡ Some s → proper n ≡ true → meaning (codes "copy" ∷ w ∷ written n ∷ []) ≡ Ok (Copy s n)
  pub ask : (w v : List ℕ) (a k : ℕ) (n : List (List ℕ)) → place_in 12 w ≡ Some a → place_in 31 v ≡ Some k → proper n ≡ true → meaning (codes "ask" ∷ w ∷ written n ∷ v ∷ []) ≡ Ok (Ask a n k)
