use Rattle.std.proofs.Common.{◌++◌, length, drop, inl, inr, refl, ap, ◌∙◌, arith}
use Rattle.wire.proofs.Putting.{packet_put, too_long_put}
use Rattle.wire.proofs.buffer.Buffer.copy_to.Goals as goal

pub returns-in_default : goal.returns-in_default
returns-in_default c = λ due h. (refl, inl (too_long_put due _ h c.in_default.ensures))

pub returns-then-len-free : goal.returns-then-len-free
returns-then-len-free c = λ due h.
    let p = packet_put due _ h c.in-Some.packet.now c.in-Some.ensures in
    let e = ap length p.0 in
    (refl, inr (omega arith))

pub returns : goal.returns
returns c = λ due h.
    let p = packet_put due _ h c.in-Some.packet.now c.in-Some.ensures in
    (ap length p.0, p.1, ap (λ x. x ++ drop (length c.in-Some.packet.now) c.args.free.now) (c.copy_from_slice.ensures.after ∙ p.0))
