use Rattle.std.proofs.Common.{◌≡◌, ◌++◌, inr, refl, ap, ◌∙◌, rules}
use Rattle.wire.proofs.Putting.{packet_put, too_long_put}
use Rattle.wire.proofs.buffer.Buffer.append_to.Goals as goal

pub returns-in_default : goal.returns-in_default
returns-in_default c = λ due h. (refl, inr (refl, too_long_put due _ h c.in_default.ensures))

pub returns : goal.returns
returns c = λ due h.
    let p = packet_put due _ h c.in-Some.packet.now c.in-Some.ensures in
    let more : c.extend_from_slice.new.self.items ≡ c.args.out.now.items ++ c.in-Some.packet.now = search rules in
    (p.1, more ∙ ap (λ x. c.args.out.now.items ++ x) p.0)
