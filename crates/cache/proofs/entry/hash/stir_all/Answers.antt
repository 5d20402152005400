use Rattle.std.proofs.Common.{◌≡◌, sym, subst, rules}
use Rattle.std.proofs.lemmas.Fn.{fold_over, slice_gives, fronts}
use Rattle.cache.specs.Hashes.{stirred_all}
use Rattle.cache.proofs.Stirring.{stirred_none, stirred_more}
use Rattle.cache.proofs.entry.hash.stir_all.Goals as goal

pub returns : goal.returns
returns c =
    subst (λ l. c.fold.result ≡ stirred_all c.args.start l) c.iter.ensures.rest
    (fold_over fronts (λ y. y.now) _ (λ ys h. h ≡ stirred_all c.args.start ys) _ (λ ys a x b f' j k. let more = stirred_more c.args.start ys x.now in search rules)
    _ _ _ _ (slice_gives c.iter.result) (sym (stirred_none c.args.start)) c.fold.ensures.ran)
