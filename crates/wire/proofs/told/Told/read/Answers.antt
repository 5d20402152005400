use Rattle.std.proofs.Common.{◌≡◌, true, false, eqb, length, inl, inr, ⊎_elim, refl, sym, ◌∙◌}
use Rattle.std.proofs.lemmas.Result.{err_from_is_err_and}
use Rattle.names.specs.Names.{labels}
use Rattle.wire.proofs.Telling.{data_told, servers_told, bad_servers, bare_told, bad_told}
use Rattle.wire.proofs.told.Told.read.Goals.{in-Alias, in-NoData, in-NoName, in-Nowhere, in-TooLong}
use Rattle.wire.proofs.told.Told.read.Goals as goal

pub returns-in-Data : goal.returns-in-Data
returns-in-Data c = λ ps h. rw c.in-Data.is (data_told (labels c.args.name) ps _ (c.in_ok-pieces-in-Data.ensures ps h))

pub returns-in_err-servers-in-Referral : goal.returns-in_err-servers-in-Referral
returns-in_err-servers-in-Referral c =
    let p = err_from_is_err_and c.from_residual-in_err-servers-in-Referral.result c.from_residual-in_err-servers-in-Referral.ensures.1 in
    λ ps h.
    rw (p.1, p.2, c.in-Referral.is)
    (⊎_elim (λ e. inl (bad_servers (labels c.args.name) ps _ e)) (λ e. inr e) (c.in_err-servers-in-Referral.ensures ps h))

pub returns-in-Referral : goal.returns-in-Referral
returns-in-Referral c = λ ps h. rw c.in-Referral.is (servers_told (labels c.args.name) ps _ (c.in_ok-servers-in-Referral.ensures ps h))

pub returns-then-not-is_none : goal.returns-then-not-is_none
returns-then-not-is_none c = λ ps h.
    let n = labels c.args.name in
    let e : eqb (length ps) 0 ≡ false = sym (c.is_none.ensures ps h) ∙ c.if-not-is_none.true in
    inl (elim c.match-what.branch [
      | in-Alias w ↦ rw w.in-Alias.is (bad_told n ps 2 refl refl e)
      | in-NoData w ↦ rw w.in-NoData.is (bad_told n ps 4 refl refl e)
      | in-NoName w ↦ rw w.in-NoName.is (bad_told n ps 5 refl refl e)
      | in-Nowhere w ↦ rw w.in-Nowhere.is (bad_told n ps 6 refl refl e)
      | in-TooLong w ↦ rw w.in-TooLong.is (bad_told n ps 7 refl refl e)
    ])

pub returns : goal.returns
returns c = λ ps h.
    let n = labels c.args.name in
    let e : eqb (length ps) 0 ≡ true = sym (c.is_none.ensures ps h) ∙ c.if-not-is_none.false in
    elim c.match-what.branch [
      | in-Alias w ↦ rw (w.in-Alias.is, w.bare-is) (bare_told n ps 2 refl refl e)
      | in-NoData w ↦ rw (w.in-NoData.is, w.bare-is) (bare_told n ps 4 refl refl e)
      | in-NoName w ↦ rw (w.in-NoName.is, w.bare-is) (bare_told n ps 5 refl refl e)
      | in-Nowhere w ↦ rw (w.in-Nowhere.is, w.bare-is) (bare_told n ps 6 refl refl e)
      | in-TooLong w ↦ rw (w.in-TooLong.is, w.bare-is) (bare_told n ps 7 refl refl e)
    ]
