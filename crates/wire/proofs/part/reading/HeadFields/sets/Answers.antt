use Rattle.std.proofs.Common.{◌≡◌, false, eqb, length, inl, ap, sym, subst, rules}
use Rattle.wire.specs.Given.{Reads, shaped}
use Rattle.wire.specs.Heads.{fields_of}
use Rattle.wire.specs.Parts.{all_sets}
use Rattle.wire.specs.Sets.{sets_of}
use Rattle.wire.proofs.Partly.{none_behind, sets_there}
use Rattle.wire.proofs.part.reading.HeadFields.sets.Goals.{else-self-eq0-via-then-self-eq0+else-not-is_empty, else-self-eq0-via-else-self-eq0}
use Rattle.wire.proofs.part.reading.HeadFields.sets.Goals as goal

pub returns-then-not-is_empty : goal.returns-then-not-is_empty
returns-then-not-is_empty c =
    let more : eqb (length c.args.fields.now.rest.now) 0 ≡ false = search rules in
    inl (ap (shaped all_sets) (none_behind (fields_of c.args.self.now) c.args.fields.now.rest.now c.if-self-eq0.true more))

pub returns : goal.returns
returns c =
    let none : c.args.self.now.of ≡ 0 → length c.args.fields.now.rest.now ≡ 0 = elim c.else-self-eq0.branch [
      | else-self-eq0-via-then-self-eq0+else-not-is_empty w ↦ λ e. search rules
      | else-self-eq0-via-else-self-eq0 w ↦ λ e. absurd (w.if-self-eq0.false e)
    ] in
    subst (λ due. Reads sets_of (shaped all_sets due) c.sets.result) (sym (sets_there (fields_of c.args.self.now) c.args.fields.now.rest.now none)) c.sets.ensures
