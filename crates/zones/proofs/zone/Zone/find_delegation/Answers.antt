use Rattle.std.proofs.Common.{◌∙◌}
use Rattle.names.specs.Names.{labels}
use Rattle.zones.specs.Zones.{sets_of, cuts_in}
use Rattle.zones.proofs.Topmost.{all_belong_lem, right_so, none_speaks, cut_speaks}
use Rattle.zones.proofs.zone.Zone.find_delegation.Goals as goal

pub returns-in_err-find : goal.returns-in_err-find
returns-in_err-find c =
    let z = c.args.self.now in
    let a = labels z.sets.apex in
    let ss = sets_of z.sets in
    let cs = cuts_in z.cuts in
    rw c.from_residual.ensures (none_speaks a ss z.sets.ordered cs (right_so a ss cs z.cut) (all_belong_lem a ss z.limited) (labels c.args.name.now) c.in_err-find.ensures)

pub returns : goal.returns
returns c =
    let z = c.args.self.now in
    let a = labels z.sets.apex in
    let ss = sets_of z.sets in
    let cs = cuts_in z.cuts in
    c.find-2.ensures ∙ cut_speaks a ss z.sets.ordered cs (right_so a ss cs z.cut) (all_belong_lem a ss z.limited) (labels c.args.name.now) (labels c.in_ok-find.field-0.now) c.in_ok-find.ensures
