-- What a drawn id does.
use Rattle.std.specs.Prelude.{◌≡◌, ℕ, List, Ok, Err, Option, Result}
use Rattle.std.specs.Option.{option_map}
use Rattle.names.specs.declared.fault.Fault.{Fault}
use Rattle.protocol.specs.Words.{Server}
use Rattle.protocol.specs.World.{Rules, Entry}
use Rattle.machine.specs.Machine as machine
use Rattle.machine.specs.Machine.{State, Sent, last_of, is_waiting, standing}
use Rattle.questions.specs.declared.query.Query.{Query}
use Rattle.questions.specs.Queries.{query_of}
use Rattle.resolver.specs.declared.answer.Standing.TheVariants as stands
use Rattle.resolver.specs.declared.answer.Wanted.{Wanted}
use Rattle.resolver.specs.Resolvers.{standing_for}

-- the youngest question that wants a query: its kind, and how it stands
abbrev pub wanting : Rules → State → Option (ℕ × machine.Standing)
wanting r st = option_map (λ (u : machine.Question). (u.kind, standing r st u)) (last_of (λ u. is_waiting (standing r st u)) st.walks)

abbrev pub wanting_for : List Server → List Entry → Option Wanted → Option (ℕ × machine.Standing)
wanting_for roots es o = option_map (λ (w : Wanted). (w.key.kind.number, standing_for roots es (stands.Wants w))) o

-- what is due is done, and what was sent is told; a refusal leaves all as it was
abbrev pub Draws : Result Sent Fault → State → Result (Option Query) Fault → State → Type 0
Draws due before (Ok o) after = (s : Sent) × (due ≡ Ok s) × (after ≡ s.state) × (option_map query_of o ≡ s.query)
Draws due before (Err f) after = (due ≡ Err f) × (after ≡ before)
