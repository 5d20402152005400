-- What a response tells stands behind its front.
use Rattle.std.proofs.Common.{◌≡◌, ℕ, ◌≤◌, ⊎_elim, true, List, ◌∷◌, ◌++◌, length, Ok, Err, Option, Result, ap, ◌∙◌, append_assoc, length-append, arith}
use Rattle.std.specs.Int.{w32, w64, to_be_bytes}
use Rattle.names.specs.Wire.{wire}
use Rattle.names.specs.declared.fault.Fault.{Fault}
use Rattle.names.specs.Labels.{proper}
use Rattle.meaning.specs.Model.{fits, Content}
use Rattle.meaning.specs.Transfer.{pieces}
use Rattle.wire.specs.Given.{joined, Writes}
use Rattle.wire.specs.Parts.{content_keeps}
use Rattle.wire.specs.Packets.{Response, what_of, told_bytes, response_bytes}
use Rattle.wire.specs.Replies.{front_bytes, Sends}
use Rattle.wire.proofs.Putting.{put_more}
use Rattle.wire.proofs.Sizes.{name_short, content_short}

told_behind : (r : Response) → front_bytes r.id r.apex (what_of r.told) r.ttl ++ told_bytes r.told ≡ response_bytes r
unfolding response_bytes
told_behind r =
    let id = to_be_bytes w64 r.id in
    let kind = what_of r.told ∷ to_be_bytes w32 r.ttl in
    ap (λ x. 2 ∷ x) (append_assoc id (wire r.apex ++ kind) (told_bytes r.told) ∙ ap (λ x. id ++ x) (append_assoc (wire r.apex) kind (told_bytes r.told)))

-- by the number that was written for what is told
pub response_put : (before mid after : Option (List ℕ)) (r : Response) (what : ℕ) → mid ≡ joined before (front_bytes r.id r.apex what r.ttl) → what ≡ what_of r.told → after ≡ joined mid (told_bytes r.told) → after ≡ joined before (response_bytes r)
response_put before mid after r what h e k =
    put_more before mid after (front_bytes r.id r.apex (what_of r.told) r.ttl) (told_bytes r.told) (h ∙ ap (λ n. joined before (front_bytes r.id r.apex n r.ttl)) e) k
    ∙ ap (joined before) (told_behind r)

-- ---- and it fits a packet

pub front_short : (id : ℕ) (apex : List (List ℕ)) (what ttl : ℕ) → proper apex ≡ true → length (front_bytes id apex what ttl) ≤ 271
front_short id apex what ttl h =
    let n = name_short apex h in
    let a = length-append (wire apex) (what ∷ to_be_bytes w32 ttl) in
    omega arith

pub data_short : (k : ℕ) (c : Content) → fits k c ≡ true → content_keeps c ≡ true → length (wire (pieces c)) ≤ 617
unfolding wire
data_short k c h s = let p = content_short k c h s in omega arith

pub response_short : (r : Response) (what : ℕ) → length (front_bytes r.id r.apex what r.ttl) ≤ 271 → what ≡ what_of r.told → length (told_bytes r.told) ≤ 617 → length (response_bytes r) ≤ 1200
response_short r what f e t =
    let n = ap length (told_behind r) in
    let a = length-append (front_bytes r.id r.apex (what_of r.told) r.ttl) (told_bytes r.told) in
    let g = ap (λ w. length (front_bytes r.id r.apex w r.ttl)) e in
    omega arith

-- so only memory can be wanting
pub sent : (before due after : List ℕ) (r : Result Unit Fault) → length due ≤ 1200 → Writes before due r after → Sends before due r after
sent before due after (Ok u) h w = w
sent before due after (Err f) h w = (⊎_elim (λ m. m) (λ l. absurd (omega arith)) w.1, w.0)
