-- A part by its head and its sets.
use Rattle.std.proofs.Common.{◌≡◌, ℕ, Bool, true, false, cond, eqb, List, [], length, Some, None, Ok, Err, Option, Result, sym, refl, ap, ◌∙◌}
use Rattle.std.specs.Option.{option_map}
use Rattle.std.proofs.lemmas.Bool.{cond-true, cond-false, eqb-true, eq-eqb}
use Rattle.names.specs.declared.fault.Fault.{Fault}
use Rattle.names.specs.declared.fault.Fault.TheVariants.{Malformed, StaleSerial}
use Rattle.meaning.specs.Model.{is_serial, Set}
use Rattle.wire.specs.Cuts.{at_end, then, next}
use Rattle.wire.specs.Given.{shaped}
use Rattle.wire.specs.Heads.{head_in}
use Rattle.wire.specs.Parts.{Part, all_sets, part_in}
use Rattle.wire.specs.Shapes.{Head, SetShape, cut_head, sets_in, sets_behind, part_shape}
use Rattle.wire.proofs.Naming.{no_sets}
use Rattle.wire.proofs.Shaping.{ends, goes_on}

abbrev pub with_head : Head → List Set → Result Part Fault
with_head h ss = cond (is_serial h.serial) (Ok (record { head = h; sets = ss })) (Err StaleSerial)

pub no_head : (bs : List ℕ) → cut_head bs ≡ None → shaped part_in (part_shape bs) ≡ Err Malformed
unfolding then part_shape
no_head bs h = ap (λ o. shaped part_in (then o (λ head rest. option_map (λ ss. record { head = head; sets = ss }) (sets_behind head rest)))) h

by_sets : (h : Head) (o : Option (List SetShape)) → shaped part_in (option_map (λ ss. record { head = h; sets = ss }) o) ≡ next (shaped all_sets o) (with_head h)
unfolding next part_in
by_sets h None = refl
by_sets h (Some ss) = refl

behind_head : (bs : List ℕ) (h : Head) (rest : List ℕ) → cut_head bs ≡ Some (h, rest) → shaped part_in (part_shape bs) ≡ next (shaped all_sets (sets_behind h rest)) (with_head h)
unfolding then part_shape
behind_head bs h rest e = ap (λ o. shaped part_in (then o (λ head more. option_map (λ ss. record { head = head; sets = ss }) (sets_behind head more)))) e ∙ by_sets h (sets_behind h rest)

module _ (bs : List ℕ) (h : Head) (rest : List ℕ) (cut : cut_head bs ≡ Some (h, rest)) where
  pub bad_sets : (f : Fault) → shaped all_sets (sets_behind h rest) ≡ Err f → shaped part_in (part_shape bs) ≡ Err f
  unfolding next
  bad_sets f e = behind_head bs h rest cut ∙ ap (λ r. next r (with_head h)) e

  with_sets : (ss : List Set) → shaped all_sets (sets_behind h rest) ≡ Ok ss → shaped part_in (part_shape bs) ≡ with_head h ss
  unfolding next
  with_sets ss e = behind_head bs h rest cut ∙ ap (λ r. next r (with_head h)) e

  -- a head is judged behind the sets
  made : (ss : List Set) (r : Result Head Fault) → Result Part Fault
  made ss (Ok x) = Ok (record { head = x; sets = ss })
  made ss (Err f) = Err f

  by_serial : (ss : List Set) (b : Bool) → cond b (Ok (record { head = h; sets = ss })) (Err StaleSerial) ≡ made ss (cond b (Ok h) (Err StaleSerial))
  unfolding made
  by_serial ss true = refl
  by_serial ss false = refl

  pub bad_head : (ss : List Set) (f : Fault) → shaped all_sets (sets_behind h rest) ≡ Ok ss → head_in h ≡ Err f → shaped part_in (part_shape bs) ≡ Err f
  unfolding made
  bad_head ss f e k = with_sets ss e ∙ by_serial ss (is_serial h.serial) ∙ ap (made ss) k

  pub whole_part : (ss : List Set) (x : Head) → shaped all_sets (sets_behind h rest) ≡ Ok ss → head_in h ≡ Ok x → shaped part_in (part_shape bs) ≡ Ok (record { head = x; sets = ss })
  unfolding made
  whole_part ss x e k = with_sets ss e ∙ by_serial ss (is_serial h.serial) ∙ ap (made ss) k

-- ---- what stands behind a head

pub none_behind : (h : Head) (rest : List ℕ) → h.of ≡ 0 → eqb (length rest) 0 ≡ false → sets_behind h rest ≡ None
none_behind h rest e k = cond-true (eqb h.of 0) (at_end [] rest) (sets_in rest) (eq-eqb h.of 0 e) ∙ goes_on [] rest k

pub sets_there : (h : Head) (rest : List ℕ) → (h.of ≡ 0 → length rest ≡ 0) → sets_behind h rest ≡ sets_in rest
sets_there h rest none = go (eqb h.of 0) refl
  where
    go : (b : Bool) → eqb h.of 0 ≡ b → sets_behind h rest ≡ sets_in rest
    go true e =
        let k = none (eqb-true h.of 0 e) in
        cond-true (eqb h.of 0) (at_end [] rest) (sets_in rest) e ∙ ends [] rest (eq-eqb (length rest) 0 k) ∙ sym (no_sets rest k)
    go false e = cond-false (eqb h.of 0) (at_end [] rest) (sets_in rest) e
