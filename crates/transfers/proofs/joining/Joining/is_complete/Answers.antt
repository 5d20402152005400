use Rattle.std.proofs.Common.{vec_items}
use Rattle.transfers.proofs.Marks.{all_there}
use Rattle.transfers.proofs.joining.Joining.is_complete.Goals as goal

pub returns : goal.returns
returns c =
    let j = c.args.self.now in
    let all = all_there (vec_items j.there) in
    let counted = j.counted in
    cc
