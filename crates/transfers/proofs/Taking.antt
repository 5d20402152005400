-- A part that is taken, from what was found of it.
use Rattle.std.proofs.Common.{◌≡◌, ℕ, zero, suc, ◌<◌, ◌≤◌, ◌⊎◌, inl, inr, Bool, true, false, cond, ltb, List, [], ◌∷◌, replicate, Ok, Err, Result, sym, refl, ap, ◌∙◌, subst, arith}
use Rattle.std.proofs.lemmas.Bool.{lt-ltb, le-ltb}
use Rattle.names.specs.declared.fault.Fault.{Fault}
use Rattle.names.specs.declared.fault.Fault.TheVariants.{TooMuch, BadTransfer, NoMemory}
use Rattle.meaning.specs.Model.{Set, Zone}
use Rattle.zones.specs.Zones.{zone_from}
use Rattle.wire.specs.Cuts.{next}
use Rattle.wire.specs.Parts.{Part}
use Rattle.transfers.specs.Joining.{joined, added_all, Joining, is_counted, belongs_to, is_there, none_there, absent, with_part, begun, begin, take}
use Rattle.transfers.specs.Joinings.{joining_from, Judges, Puts, Takes}
use Rattle.transfers.proofs.Together.{none_refused}

-- ---- nothing is there at first

pub none_yet : (n : ℕ) → replicate n false ≡ none_there n
unfolding none_there
none_yet zero = refl
none_yet (suc n) = ap (λ bs. false ∷ bs) (none_yet n)

pub all_absent : (n : ℕ) → absent (none_there n) ≡ n
unfolding none_there
all_absent zero = refl
all_absent (suc n) = let e = all_absent n in omega arith

pub not_yet : (n k : ℕ) → is_there (none_there n) k ≡ false
unfolding none_there is_there
not_yet zero k = refl
not_yet (suc n) zero = refl
not_yet (suc n) (suc zero) = refl
not_yet (suc n) (suc (suc k)) = not_yet n (suc k)

-- ---- what is due

later : {A : Type 0} (due : Result A Fault) (f : A → Result Joining Fault) (x : A) → due ≡ Ok x → next due f ≡ f x
unfolding next
later due f x e = ap (λ r. next r f) e

earlier : {A : Type 0} (due : Result A Fault) (f : A → Result Joining Fault) (x : Fault) → due ≡ Err x → next due f ≡ Err x
unfolding next
earlier due f x e = ap (λ r. next r f) e

module _ (apex : List (List ℕ)) (p : Part) where
  abbrev after : List Set → Result Joining Fault
  after ss = cond (ltb 4096 p.head.of) (Err TooMuch) (cond (is_counted p) (Ok (with_part (begun apex p) p ss)) (Err BadTransfer))

  pub first_refused : (f : Fault) → joined apex [] p.sets ≡ Err f → begin apex p ≡ Err f
  unfolding begin
  first_refused f e = earlier (joined apex [] p.sets) after f e

  pub first_of_many : (ss : List Set) → joined apex [] p.sets ≡ Ok ss → 4096 < p.head.of → begin apex p ≡ Err TooMuch
  unfolding begin
  first_of_many ss e l = later (joined apex [] p.sets) after ss e ∙ (λ i. cond (lt-ltb 4096 p.head.of l i) (Err TooMuch) (cond (is_counted p) (Ok (with_part (begun apex p) p ss)) (Err BadTransfer)))

  pub first_uncounted : (ss : List Set) → joined apex [] p.sets ≡ Ok ss → p.head.of ≤ 4096 → is_counted p ≡ false → begin apex p ≡ Err BadTransfer
  unfolding begin
  first_uncounted ss e l h = later (joined apex [] p.sets) after ss e ∙ (λ i. cond (le-ltb 4096 p.head.of l i) (Err TooMuch) (cond (h i) (Ok (with_part (begun apex p) p ss)) (Err BadTransfer)))

  pub first_taken : (ss : List Set) → joined apex [] p.sets ≡ Ok ss → p.head.of ≤ 4096 → is_counted p ≡ true → begin apex p ≡ Ok (with_part (begun apex p) p ss)
  unfolding begin
  first_taken ss e l h = later (joined apex [] p.sets) after ss e ∙ (λ i. cond (le-ltb 4096 p.head.of l i) (Err TooMuch) (cond (h i) (Ok (with_part (begun apex p) p ss)) (Err BadTransfer)))

module _ (p : Part) (j : Joining) where
  abbrev chosen : Bool → Bool → Result Joining Fault
  chosen a b =
      cond a
      (cond b (next (joined j.apex [] p.sets) (λ ss. Ok j)) (next (joined j.apex j.sets p.sets) (λ ss. Ok (with_part j p ss))))
      (next (joined j.apex [] p.sets) (λ ss. Err BadTransfer))

  pub strange : (ss : List Set) → belongs_to j p ≡ false → joined j.apex [] p.sets ≡ Ok ss → take p j ≡ Err BadTransfer
  unfolding take
  strange ss h e = ap (λ a. chosen a (is_there j.there p.head.part)) h ∙ later (joined j.apex [] p.sets) (λ ss. Err BadTransfer) ss e

  pub strange_refused : (f : Fault) → belongs_to j p ≡ false → joined j.apex [] p.sets ≡ Err f → take p j ≡ Err f
  unfolding take
  strange_refused f h e = ap (λ a. chosen a (is_there j.there p.head.part)) h ∙ earlier (joined j.apex [] p.sets) (λ ss. Err BadTransfer) f e

  again : (ss : List Set) → belongs_to j p ≡ true → is_there j.there p.head.part ≡ true → joined j.apex [] p.sets ≡ Ok ss → take p j ≡ Ok j
  unfolding take
  again ss h k e = (λ i. chosen (h i) (k i)) ∙ later (joined j.apex [] p.sets) (λ ss. Ok j) ss e

  again_refused : (f : Fault) → belongs_to j p ≡ true → is_there j.there p.head.part ≡ true → joined j.apex [] p.sets ≡ Err f → take p j ≡ Err f
  unfolding take
  again_refused f h k e = (λ i. chosen (h i) (k i)) ∙ earlier (joined j.apex [] p.sets) (λ ss. Ok j) f e

  taken : (ss : List Set) → belongs_to j p ≡ true → is_there j.there p.head.part ≡ false → joined j.apex j.sets p.sets ≡ Ok ss → take p j ≡ Ok (with_part j p ss)
  unfolding take
  taken ss h k e = (λ i. chosen (h i) (k i)) ∙ later (joined j.apex j.sets p.sets) (λ ss. Ok (with_part j p ss)) ss e

  pub taken_refused : (f : Fault) → belongs_to j p ≡ true → is_there j.there p.head.part ≡ false → joined j.apex j.sets p.sets ≡ Err f → take p j ≡ Err f
  unfolding take
  taken_refused f h k e = (λ i. chosen (h i) (k i)) ∙ earlier (joined j.apex j.sets p.sets) (λ ss. Ok (with_part j p ss)) f e

-- ---- as the calls tell it

pub judged_as : {A : Type 0} (a b : List (List ℕ)) (old ss ts : List Set) (r : Result A Fault) → a ≡ b → ss ≡ ts → Judges a old ss r → Judges b old ts r
judged_as a b old ss ts r e f h = subst (λ c. Judges c old ts r) e (subst (λ us. Judges a old us r) f h)

pub judged_at : (a b : List (List ℕ)) (old ss ts : List Set) (r : Result (List Set) Fault) → a ≡ b → ss ≡ ts → joined a old ss ≡ r → joined b old ts ≡ r
judged_at a b old ss ts r e f h = subst (λ c. joined c old ts ≡ r) e (subst (λ us. joined a old us ≡ r) f h)

pub by_judging : {A : Type 0} (p : Part) (j : Joining) (r : Result A Fault) → belongs_to j p ≡ true → is_there j.there p.head.part ≡ true → Judges j.apex [] p.sets r → Takes (take p j) j r j
by_judging p j (Ok a) h k e = again p j _ h k e
by_judging p j (Err f) h k e = (inl (again_refused p j f h k e), refl)

no_ok : {A : Type 0} (x : A) (f : Fault) (due : Result A Fault) → due ≡ Ok x → due ≡ Err f → ⊥
no_ok x f due e h = let q : Err f ≡ Ok x = sym h ∙ e in let w : ◌≡◌ {A = ℕ} 0 1 = cc in omega arith

inner : {A : Type 0} (x y : A) (due : Result A Fault) → due ≡ Ok x → due ≡ Ok y → x ≡ y
inner x y due e h = let q : Ok x ≡ Ok y = sym e ∙ h in cc

pub at_first : (apex : List (List ℕ)) (p : Part) (z : Zone) (bs : List Bool) → z ≡ zone_from apex p.head.serial p.head.times.negative p.head.times.refresh p.head.times.expire [] → bs ≡ none_there p.head.of → joining_from z p.head.moment bs ≡ begun apex p
at_first apex p z bs e f = λ i. joining_from (e i) p.head.moment (f i)

module _ (p : Part) (j k : Joining) (xs : List Set) (e : joined j.apex j.sets p.sets ≡ Ok xs) where
  pub put_so : (ss : List Set) → added_all j.apex j.sets p.sets ≡ Ok ss → ss ≡ xs
  put_so ss h = inner ss xs (added_all j.apex j.sets p.sets) h (none_refused j.apex j.sets p.sets xs e)

  pub put_failed : (f : Fault) → (added_all j.apex j.sets p.sets ≡ Err f) ⊎ ((f ≡ NoMemory) × (k ≡ j)) → (f ≡ NoMemory) × (k ≡ j)
  put_failed f (inl h) = absurd (no_ok xs f (added_all j.apex j.sets p.sets) (none_refused j.apex j.sets p.sets xs e) h)
  put_failed f (inr h) = h

  pub by_putting : {A : Type 0} (r : Result A Fault) → belongs_to j p ≡ true → is_there j.there p.head.part ≡ false → Puts p j r k → Takes (take p j) j r k
  by_putting (Ok a) b t h = taken p j xs b t e ∙ ap (λ ss. Ok (with_part j p ss)) (sym (put_so h.0 h.1)) ∙ ap Ok (sym h.2)
  by_putting (Err f) b t h = let m = put_failed f h in (inr m.0, m.1)

-- the first one is put into a zone without sets
module _ (apex : List (List ℕ)) (p : Part) (j k : Joining) (xs : List Set) (new : j ≡ begun apex p) (e : joined apex [] p.sets ≡ Ok xs) where
  beside_none : joined j.apex j.sets p.sets ≡ Ok xs
  beside_none = subst (λ (i : Joining). joined i.apex i.sets p.sets ≡ Ok xs) (sym new) e

  pub first_put : (ss : List Set) → p.head.of ≤ 4096 → is_counted p ≡ true → added_all j.apex j.sets p.sets ≡ Ok ss → k ≡ with_part j p ss → begin apex p ≡ Ok k
  first_put ss l c h is =
      let so = put_so p j k xs beside_none ss h in
      first_taken apex p xs e l c ∙ (λ i. Ok (with_part (sym new i) p (sym so i))) ∙ ap Ok (sym is)

  pub first_failed : (f : Fault) → (added_all j.apex j.sets p.sets ≡ Err f) ⊎ ((f ≡ NoMemory) × (k ≡ j)) → f ≡ NoMemory
  first_failed f h = (put_failed p j k xs beside_none f h).0
