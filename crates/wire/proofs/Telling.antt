-- What is told, by its number.
use Rattle.std.proofs.Common.{◌≡◌, ℕ, Bool, true, false, cond, eqb, List, length, Ok, Err, Result, inl, sym, refl, ap, ◌∙◌}
use Rattle.std.proofs.lemmas.Bool.{cond-true, cond-false}
use Rattle.names.specs.declared.fault.Fault.{Fault}
use Rattle.names.specs.declared.fault.Fault.TheVariants.{BadData}
use Rattle.wire.specs.declared.response.ResponsePacket.{ResponsePacket}
use Rattle.wire.specs.Given.{Reads}
use Rattle.wire.specs.Responses.{response_of, response_given}
use Rattle.wire.specs.Parts.{are_addresses}
use Rattle.wire.specs.Packets.{Response, Told, Data, Referral, bare, told_in}

ok_so : {A : Type 0} (x y : A) → ◌≡◌ {A = Result A Fault} (Ok x) (Ok y) → x ≡ y
ok_so x y h = cc

module _ (n ps : List (List ℕ)) where
  pub data_told : (xs : List (List ℕ)) → ◌≡◌ {A = Result (List (List ℕ)) Fault} (Ok ps) (Ok xs) → told_in 1 n ps ≡ Ok (Data xs)
  unfolding told_in
  data_told xs h = ap (λ x. Ok (Data x)) (ok_so ps xs h)

  told_servers : (b : Bool) → are_addresses ps ≡ b → told_in 3 n ps ≡ cond b (Ok (Referral n ps)) (Err BadData)
  unfolding told_in
  told_servers b e = ap (λ x. cond x (Ok (Referral n ps)) (Err BadData)) e

  with_name : Result (List (List ℕ)) Fault → Result Told Fault
  with_name (Ok xs) = Ok (Referral n xs)
  with_name (Err f) = Err f

  by_servers : (b : Bool) → are_addresses ps ≡ b → told_in 3 n ps ≡ with_name (cond (are_addresses ps) (Ok ps) (Err BadData))
  unfolding with_name
  by_servers true e = told_servers true e ∙ sym (ap with_name (cond-true (are_addresses ps) (Ok ps) (Err BadData) e))
  by_servers false e = told_servers false e ∙ sym (ap with_name (cond-false (are_addresses ps) (Ok ps) (Err BadData) e))

  pub servers_told : (xs : List (List ℕ)) → cond (are_addresses ps) (Ok ps) (Err BadData) ≡ Ok xs → told_in 3 n ps ≡ Ok (Referral n xs)
  unfolding with_name
  servers_told xs h = by_servers (are_addresses ps) refl ∙ ap with_name h

  pub bad_servers : (f : Fault) → cond (are_addresses ps) (Ok ps) (Err BadData) ≡ Err f → told_in 3 n ps ≡ Err f
  unfolding with_name
  bad_servers f h = by_servers (are_addresses ps) refl ∙ ap with_name h

  module _ (k : ℕ) (no_data : eqb k 1 ≡ false) (no_servers : eqb k 3 ≡ false) where
    no_pieces : told_in k n ps ≡ cond (eqb (length ps) 0) (Ok (bare k n)) (Err BadData)
    unfolding told_in
    no_pieces =
        ap (λ b. cond b (Ok (Data ps)) (cond (eqb k 3) (cond (are_addresses ps) (Ok (Referral n ps)) (Err BadData)) (cond (eqb (length ps) 0) (Ok (bare k n)) (Err BadData)))) no_data
        ∙ ap (λ b. cond b (cond (are_addresses ps) (Ok (Referral n ps)) (Err BadData)) (cond (eqb (length ps) 0) (Ok (bare k n)) (Err BadData))) no_servers

    pub bare_told : eqb (length ps) 0 ≡ true → told_in k n ps ≡ Ok (bare k n)
    bare_told e = no_pieces ∙ cond-true (eqb (length ps) 0) (Ok (bare k n)) (Err BadData) e

    pub bad_told : eqb (length ps) 0 ≡ false → told_in k n ps ≡ Err BadData
    bad_told e = no_pieces ∙ cond-false (eqb (length ps) 0) (Ok (bare k n)) (Err BadData) e

-- what was given, or why nothing was
pub given_reads : (r : Result ResponsePacket Fault) (due : Result Response Fault) → response_given r ≡ due → Reads response_of due r
given_reads (Ok x) due h = sym h
given_reads (Err f) due h = inl (sym h)
