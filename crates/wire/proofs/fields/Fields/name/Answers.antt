use Rattle.wire.proofs.fields.Fields.name.Goals as goal

pub returns : goal.returns
returns c =
    let l = c.in-Some.ensures in
    (l.0, l.1, c.name_in.ensures l.0 l.2)
