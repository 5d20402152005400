-- What hearing a response does.
use Rattle.std.specs.Prelude.{◌≡◌, Bool, true, false, map, vec_items, Ok, Err, Result}
use Rattle.names.specs.declared.fault.Fault.{Fault}
use Rattle.names.specs.Names.{labels}
use Rattle.records.specs.Contents.{bytes_of}
use Rattle.meaning.specs.Speech as says
use Rattle.protocol.specs.World as world
use Rattle.machine.specs.Machine as machine
use Rattle.machine.specs.Machine.{State}
use Rattle.cache.specs.declared.word.Referral.{Referral}
use Rattle.cache.specs.Entries.{word_of}
use Rattle.resolver.specs.declared.response.Response.{Response}
use Rattle.resolver.specs.declared.resolver.hear.Heard.{Heard}
use Rattle.resolver.specs.declared.resolver.hear.Heard.TheVariants as rust

abbrev pub referred_of : Referral → says.Said
referred_of r = says.Referred (labels r.name) (record { servers = map bytes_of (vec_items r.to.servers) })

abbrev pub response_of : Response → world.Response
response_of y = record { id = y.id.0; apex = labels y.apex; word = word_of y.word }

abbrev pub ousts : Heard → Bool
ousts rust.Kept = false
ousts rust.Ousted = true

-- what is due is done and told; a refusal leaves all as it was
abbrev pub Hears : Result machine.Heard Fault → State → Result Heard Fault → State → Type 0
Hears due before (Ok h) after = due ≡ Ok (record { state = after; ousted = ousts h })
Hears due before (Err f) after = (due ≡ Err f) × (after ≡ before)
