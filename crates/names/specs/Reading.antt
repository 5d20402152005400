-- What a written name means. Assumes nothing.
use Rattle.std.specs.Prelude.{◌≡◌, ℕ, ◌-◌, ◌<◌, Bool, true, cond, not, ◌&&◌, ◌⊎◌, List, [], ◌∷◌, ◌++◌, reverse, length, take, Ok, Result, ◌==◌, slice_index}
use Rattle.names.specs.declared.fault.Fault.{Fault}
use Rattle.names.specs.Labels.{written, proper}
use Rattle.names.specs.Names.{name_of}

-- a text cut at its dots: what stands before the first one, and the pieces behind it
unfoldable pub first_piece : List ℕ → List ℕ
first_piece [] = []
first_piece (b ∷ bs) = cond (b == 46) [] (b ∷ first_piece bs)

unfoldable pub more_pieces : List ℕ → List (List ℕ)
more_pieces [] = []
more_pieces (b ∷ bs) = cond (b == 46) (first_piece bs ∷ more_pieces bs) (more_pieces bs)

-- the labels that a text holds, from the root down: the last piece is the highest label
unfoldable pub labels_in : List ℕ → List (List ℕ)
labels_in t = reverse (first_piece t ∷ more_pieces t)

abbrev pub dotless : List ℕ → Bool
dotless [] = true
dotless (b ∷ bs) = not (b == 46) && dotless bs

-- does the text end with a dot
abbrev pub last_dot : List ℕ → Bool
last_dot t = slice_index t (length t - 1) == 46

abbrev pub is_dot : List ℕ → Bool
is_dot t = length t == 1 && last_dot t

-- a name in the one form in which names are written: no last dot but the root's
unfoldable pub read_name : List ℕ → Result (List (List ℕ)) Fault
read_name t = cond (is_dot t) (Ok []) (name_of (labels_in t))

-- a name as an owner writes it: with a last dot it is whole, without one it stands below the apex
unfoldable pub read_below : List (List ℕ) → List ℕ → Result (List (List ℕ)) Fault
read_below apex t = cond (is_dot t) (Ok []) (cond (last_dot t) (name_of (labels_in (take (length t - 1) t))) (name_of (apex ++ labels_in t)))

-- reading and writing undo each other
pub record WrittenLaws : Type 0 where
  pub read_written : (ls : List (List ℕ)) → proper ls ≡ true → read_name (written ls) ≡ Ok ls
  pub written_read : (t : List ℕ) (ls : List (List ℕ)) → read_name t ≡ Ok ls → written ls ≡ t
  -- a whole name may end with a dot
  pub whole_written : (ls : List (List ℕ)) → proper ls ≡ true → read_below [] (written ls) ≡ Ok ls
  pub written_whole : (t : List ℕ) (ls : List (List ℕ)) → read_below [] t ≡ Ok ls → (written ls ≡ t) ⊎ (written ls ++ 46 ∷ [] ≡ t)
  -- with that dot it is the same name below every apex
  pub dotted_written : (apex ls : List (List ℕ)) → proper ls ≡ true → 0 < length ls → read_below apex (written ls ++ 46 ∷ []) ≡ Ok ls
  -- a short name stands below the apex
  pub short_written : (apex ls : List (List ℕ)) → proper (apex ++ ls) ≡ true → 0 < length ls → read_below apex (written ls) ≡ Ok (apex ++ ls)
  pub written_short : (apex : List (List ℕ)) (t : List ℕ) (ls : List (List ℕ)) → read_below apex t ≡ Ok ls → (read_below [] t ≡ Ok ls) ⊎ ((ms : List (List ℕ)) × (written ms ≡ t) × (ls ≡ apex ++ ms))
