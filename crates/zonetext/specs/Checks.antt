-- What an owner is warned of: aliases that lead nowhere in their own zone, and times above a day. Assumes nothing.
use Rattle.std.specs.Prelude.{ℕ, Bool, false, Some, None, Option, nat_lt}
use Rattle.meaning.specs.Model.{Content, Addresses, Texts, Others, AliasOf, Delegated, Set, Zone}
use Rattle.meaning.specs.Says.{Speaker, says}
use Rattle.zones.specs.Zones.{tells_nothing}

abbrev pub told_nothing : Option Speaker → Bool
told_nothing None = false
told_nothing (Some s) = tells_nothing s

-- a name within the apex, at and below which nothing stands and which no delegation is over
abbrev pub nothing_at : Zone → Content → Bool
nothing_at z (AliasOf n) = told_nothing (says z n 1)
nothing_at z (Addresses ps) = false
nothing_at z (Texts ps) = false
nothing_at z (Others ps) = false
nothing_at z (Delegated d) = false

abbrev pub points_nowhere : Zone → Set → Bool
points_nowhere z s = nothing_at z s.content

abbrev pub outlasts_a_day : ℕ → Bool
outlasts_a_day n = nat_lt 86400 n
