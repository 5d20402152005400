-- What it is to read the lines of a text into a zone.
use Rattle.std.specs.Prelude.{◌≡◌, ℕ, ◌⊎◌, List, Some, Ok, Err, codes, Option, Result}
use Rattle.names.specs.declared.fault.Fault.{Fault}
use Rattle.names.specs.declared.fault.Fault.TheVariants.{NoMemory}
use Rattle.names.specs.declared.name.Name.{Name}
use Rattle.names.specs.Names.{labels}
use Rattle.meaning.specs.Model as model
use Rattle.zones.specs.declared.zone.Zone.{Zone}
use Rattle.zones.specs.Zones.{zone_of}
use Rattle.zonetext.specs.Division.{Piece}
use Rattle.zonetext.specs.Texts.{Line, Refusal, fields, set_in, with_set, with_lines, with_next}
use Rattle.zonetext.specs.Numbered.{refusal_of}
use Rattle.zonetext.specs.declared.refusal.Refusal as declared

-- a line that has to be there is read, whatever comes of those behind it; or it is refused
abbrev pub Begins : {A X : Type 0} → (X → A) → ℕ → List Line → (Option (List Piece) → Result A Fault) → Result X declared.Refusal → List Line → Type 0
Begins {A} of end before f (Ok x) after = (go : A → List Line → Result model.Zone Refusal) → with_next end before f go ≡ go (of x) after
Begins {A} of end before f (Err r) after = (r.fault ≡ NoMemory) ⊎ ((go : A → List Line → Result model.Zone Refusal) → with_next end before f go ≡ Err (refusal_of r))

-- a set more, by a line
abbrev pub Adds : {A : Type 0} → model.Zone → List Piece → Result A Fault → model.Zone → Type 0
Adds before ps (Ok x) after = with_set before (set_in before.apex (fields (codes "set") (Some ps))) ≡ Ok after
Adds before ps (Err f) after = (f ≡ NoMemory) ⊎ (with_set before (set_in before.apex (fields (codes "set") (Some ps))) ≡ Err f)

-- the sets of all lines
abbrev pub AddsAll : {A : Type 0} → model.Zone → List Line → Result A declared.Refusal → model.Zone → Type 0
AddsAll before ls (Ok x) after = with_lines before ls ≡ Ok after
AddsAll before ls (Err r) after = (r.fault ≡ NoMemory) ⊎ (with_lines before ls ≡ Err (refusal_of r))

-- the zone or the refusal that is due, or memory ended
abbrev pub Loads : Result model.Zone Refusal → Result Zone declared.Refusal → Type 0
Loads due (Ok z) = due ≡ Ok (zone_of z)
Loads due (Err r) = (r.fault ≡ NoMemory) ⊎ (due ≡ Err (refusal_of r))

abbrev pub Tops : Result (List (List ℕ)) Refusal → Result Name declared.Refusal → Type 0
Tops due (Ok n) = due ≡ Ok (labels n)
Tops due (Err r) = (r.fault ≡ NoMemory) ⊎ (due ≡ Err (refusal_of r))
