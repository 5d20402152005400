use Rattle.std.proofs.Common.{ap, ◌∙◌}
use Rattle.std.specs.Int.{w64, to_be_bytes}
use Rattle.wire.specs.Given.{written, joined}
use Rattle.wire.proofs.Putting.{put_more}
use Rattle.wire.proofs.part.PartHead.put_fields.Goals as goal

pub returns-clause-put : goal.returns-clause-put
returns-clause-put c =
    let serial = c.number_8-2.ensures ∙ ap (λ n. joined (written c.number_8.new.self) (to_be_bytes w64 n)) c.number.ensures in
    let times = put_more _ _ _ _ _ c.number_4.ensures (put_more _ _ _ _ _ c.number_4-2.ensures c.number_4-3.ensures) in
    put_more _ _ _ _ _ c.number_8.ensures (put_more _ _ _ _ _ serial (put_more _ _ _ _ _ c.number_8-3.ensures (put_more _ _ _ _ _ times (put_more _ _ _ _ _ c.number_2.ensures c.number_2-2.ensures))))
