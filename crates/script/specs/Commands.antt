-- What a `Command` stands for, and what it is to read one.
use Rattle.std.specs.Prelude.{◌≡◌, ◌⊎◌, Ok, Err, vec_items, Result}
use Rattle.names.specs.declared.fault.Fault.{Fault}
use Rattle.names.specs.declared.fault.Fault.TheVariants.{NoMemory}
use Rattle.names.specs.Names.{labels}
use Rattle.script.specs.declared.Command.{Command}
use Rattle.script.specs.declared.Command.TheVariants as rust
use Rattle.script.specs.Grammar as meant
use Rattle.script.specs.Grammar.{Meant}

abbrev pub command_of : Command → Meant
command_of rust.Nothing = meant.Nothing
command_of (rust.Zone file) = meant.Zone (vec_items file)
command_of (rust.Copy server name) = meant.Copy server (labels name)
command_of (rust.Ask asker name kind) = meant.Ask asker (labels name) kind.number
command_of (rust.Bring packet) = meant.Bring packet
command_of rust.Tick = meant.Tick

-- what is due, or that memory ended
abbrev pub Reads : Result Meant Fault → Result Command Fault → Type 0
Reads due (Ok c) = due ≡ Ok (command_of c)
Reads due (Err f) = (due ≡ Err f) ⊎ (f ≡ NoMemory)
