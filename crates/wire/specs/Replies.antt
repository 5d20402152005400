-- What a response tells of what was said.
use Rattle.std.specs.Prelude.{◌≡◌, ℕ, ◌≤◌, Bool, true, false, List, ◌∷◌, ◌++◌, length, Ok, Err, Result}
use Rattle.std.specs.Int.{w32, w64, to_be_bytes}
use Rattle.names.specs.declared.fault.Fault.{Fault}
use Rattle.names.specs.declared.fault.Fault.TheVariants.{NoMemory, BadData}
use Rattle.meaning.specs.Model.{fits}
use Rattle.meaning.specs.Speech.{Said, Found, AliasTo, Referred, Empty, Absent}
use Rattle.meaning.specs.Transfer.{pieces}
use Rattle.names.specs.Wire.{wire}
use Rattle.wire.specs.Packets.{Told, Data, Alias, Referral, NoData, NoName, Response, few}

abbrev pub told_for : Said → Told
told_for (Found c) = Data (pieces c)
told_for (AliasTo n) = Alias n
told_for (Referred n d) = Referral n d.servers
told_for Empty = NoData
told_for Absent = NoName

abbrev pub response_for : ℕ → List (List ℕ) → ℕ → Said → Response
response_for id apex ttl said = record { id = id; apex = apex; ttl = ttl; told = told_for said }

-- what stands before what is told
abbrev pub front_bytes : ℕ → List (List ℕ) → ℕ → ℕ → List ℕ
front_bytes id apex what ttl = 2 ∷ (to_be_bytes w64 id ++ (wire apex ++ (what ∷ to_be_bytes w32 ttl)))

-- data of the kind that was asked for, and a referral to some servers, but not too many
abbrev pub said_fits : ℕ → Said → Bool
said_fits k (Found c) = fits k c
said_fits k (AliasTo n) = true
said_fits k (Referred n d) = few d.servers
said_fits k Empty = true
said_fits k Absent = true

-- all of it behind what is there, or nothing where memory ends
abbrev pub Sends : List ℕ → List ℕ → Result Unit Fault → List ℕ → Type 0
Sends before due (Ok u) after = (length due ≤ 1200) × (after ≡ before ++ due)
Sends before due (Err f) after = (f ≡ NoMemory) × (after ≡ before)

-- what doesn't fit is refused, and nothing is written
abbrev pub SendsIf : Bool → List ℕ → List ℕ → Result Unit Fault → List ℕ → Type 0
SendsIf true before due r after = Sends before due r after
SendsIf false before due r after = (r ≡ Err BadData) × (after ≡ before)
