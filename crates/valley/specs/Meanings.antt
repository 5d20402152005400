-- What a question means where just this was published.
use Rattle.std.specs.Prelude.{◌≡◌, ℕ, List}
use Rattle.cache.specs.Entries.{said_of}
use Rattle.protocol.specs.Words.{Name}
use Rattle.protocol.specs.World.{Version, start, with_published}
use Rattle.protocol.specs.Walks as walks
use Rattle.protocol.specs.Walks.{End, meant}
use Rattle.walks.specs.Ways.{outcome_of}
use Rattle.valley.specs.declared.walk.Meaning.{Meaning}
use Rattle.valley.specs.declared.walk.Meaning.TheVariants as rust

abbrev pub meant_by : List Version → Name → ℕ → End
meant_by vs q k = (meant (with_published vs start) q k).end

-- nowhere stands for a zone without an owner
abbrev pub StandsFor : Meaning → End → Type 0
StandsFor (rust.Word w) e = e ≡ walks.Shows (outcome_of (said_of w.said))
StandsFor rust.TooLong e = e ≡ walks.TooLong
StandsFor rust.Nowhere e = (a : Name) × (q : Name) × (e ≡ walks.LacksAt a q)
