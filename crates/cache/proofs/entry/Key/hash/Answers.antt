use Rattle.std.proofs.Common.{ap, ◌∙◌}
use Rattle.names.specs.Names.{labels}
use Rattle.cache.specs.Hashes.{stirred, stirred_name, hash_of}
use Rattle.cache.proofs.entry.Key.hash.Goals as goal

pub returns : goal.returns
unfolding hash_of
returns c =
    let self = c.args.self.now in
    let start = c.stir.ensures ∙ ap (stirred 0) c.number.ensures in
    let apex = c.stir_name-apex.ensures ∙ ap (λ h. stirred_name h (labels self.apex)) start in
    c.stir_name.ensures ∙ ap (λ h. stirred_name h (labels self.name)) (c.stir-2.ensures ∙ ap (λ h. stirred h 47) apex)
