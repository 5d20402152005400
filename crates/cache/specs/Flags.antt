-- Putting an entry in where what is in use comes as a flag for each place. Assumes nothing.
use Rattle.std.specs.Prelude.{◌≡◌, ℕ, suc, Bool, cond, List, [], ◌∷◌, ◌++◌, map, length, Some, None, Option, nat_lt, slice_set}
use Rattle.std.specs.Option.{option_map}
use Rattle.protocol.specs.World.{Rules, Entry, is_key}
use Rattle.machine.specs.Store.{max_entries, place_of, pick, Put, Kept, oust, put}

-- where the entry stands that runs out first, of those not in use; a place without a flag counts as in use
unfoldable pub soonest_by : Rules → List Bool → List Entry → Option ℕ
soonest_by r [] es = None
soonest_by r (u ∷ us) [] = None
soonest_by r (u ∷ us) (e ∷ es) = cond u (option_map suc (soonest_by r us es)) (pick r e es (soonest_by r us es))

abbrev pub put_by_at : Rules → List Bool → Entry → List Entry → Option ℕ → Put
put_by_at r us e es (Some i) = Kept (slice_set es i e)
put_by_at r us e es None = cond (nat_lt (length es) max_entries) (Kept (es ++ (e ∷ []))) (oust e es (soonest_by r us es))

unfoldable pub put_by : Rules → List Bool → Entry → List Entry → Put
put_by r us e es = put_by_at r us e es (place_of (is_key e.apex e.name e.kind) es)

-- with the flags of what is in use this is the machine's way of putting in
pub record FlagsLaws : Type 0 where
  pub by_use : (r : Rules) (used : Entry → Bool) (e : Entry) (es : List Entry) → put_by r (map used es) e es ≡ put r used e es
