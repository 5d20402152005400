use Rattle.std.proofs.Common.{◌≡◌, [], ◌∷◌, ◌++◌, codes, vec_items, ap, ◌∙◌, rules}
use Rattle.std.specs.Fmt.{decimal}
use Rattle.zonetext.specs.Written.{whole}
use Rattle.zonetext.proofs.Appending.{heads_done}
use Rattle.zonetext.proofs.writing.write_heads.Goals as goal

pub returns-clause-written : goal.returns-clause-written
returns-clause-written c =
    let z = c.args.zone.now in
    let e : vec_items c.write.new.self ≡ vec_items c.write_whole.new.out ++ (10 ∷ (codes "number " ++ (decimal z.serial.number ++ (10 ∷ (codes "times " ++ (decimal z.times.negative.0 ++ (32 ∷ (decimal z.times.refresh.0 ++ (32 ∷ (decimal z.times.expire.0 ++ 10 ∷ [])))))))))) = search rules in
    let top = c.in_ok-write_whole.ensures ∙ ap (λ n. vec_items c.extend_from_slice.new.self ++ whole n) c.apex.ensures in
    heads_done (vec_items c.args.out.now) _ _ _ _ _ _ _ _ c.in_ok-extend_from_slice.ensures.items top e
