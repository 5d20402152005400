-- What a `Bounded` ends as, where a `&mut` to its elements is returned.
use Rattle.std.specs.Prelude.{List, ◌++◌, length, take, drop}
use Rattle.std.specs.Borrow.{Lends, Fml, RattleType, MutBor, Array}
use Rattle.bounded.specs.contracts.Bounded.{the_row}

-- the elements with those of a slice written over them: a slice that was lent is as long as they are, and all of it stays
abbrev pub written : {X : Type 0} → List X → List X → List X
written xs ys = take (length xs) (ys ++ drop (length ys) xs)

module _ (T N : RattleType) (b : MutBor (List T.Denot)) where
  -- once the borrow r ends, the elements are those that r shows last
  abbrev pub LendsAll : MutBor (List T.Denot) → Fml
  LendsAll r = Lends (the_row T N) (Array T 0) b r (written b.now)
