use Rattle.std.proofs.Common.{map, None, Some, vec_items, ap, ◌∙◌, rules, tests}
use Rattle.std.proofs.lemmas.Iterator.{YieldsList-from_slice}
use Rattle.std.proofs.lemmas.Iterator.Search.{find_from_yields_List}
use Rattle.std.specs.Option.{option_map}
use Rattle.names.specs.Names.{labels}
use Rattle.protocol.specs.Lists.{first}
use Rattle.valley.specs.Having.{keeping_of, had_in, is_by, copy_in}
use Rattle.valley.proofs.Owned.{first_of, came}
use Rattle.valley.proofs.servers.Servers.copied.Goals as goal

pub returns-in_err-find : goal.returns-in_err-find
returns-in_err-find c =
    let a = labels c.args.apex.now in
    let s = c.args.server in
    let vs = vec_items c.args.self.now.keepings in
    let found = ap (option_map keeping_of) (find_from_yields_List (λ x. is_by s a (keeping_of x)) _ _ _ c.find.ensures.ran (YieldsList-from_slice vs cc) (λ x b q k. search (rules, tests))) ∙ first_of keeping_of (is_by s a) vs in
    ap had_in c.from_residual.ensures
    ∙ came (λ x. x.now) keeping_of copy_in c.find.result None (first (is_by s a) (map keeping_of vs)) c.in_err-find.was found

pub returns : goal.returns
returns c =
    let a = labels c.args.apex.now in
    let s = c.args.server in
    let vs = vec_items c.args.self.now.keepings in
    let found = ap (option_map keeping_of) (find_from_yields_List (λ x. is_by s a (keeping_of x)) _ _ _ c.find.ensures.ran (YieldsList-from_slice vs cc) (λ x b q k. search (rules, tests))) ∙ first_of keeping_of (is_by s a) vs in
    came (λ x. x.now) keeping_of copy_in c.find.result (Some c.in_ok-find.field-0) (first (is_by s a) (map keeping_of vs)) c.in_ok-find.was found
