-- What a part that is taken brings, and of which version it is.
use Rattle.std.proofs.Common.{◌≡◌, ℕ, ◌+◌, true≢false, Bool, true, false, cond, ◌&&◌, ◌||◌, not, eqb, ltb, List, [], ◌∷◌, length, Ok, Err, Result, sym, refl, ap, ◌∙◌, subst, inl, inr, ◌⊎◌, ⊎_elim}
use mathlib.Core.List.Memᴰ
use mathlib.Core.List.{Memᴰ}
use Rattle.std.proofs.lemmas.Bool.{cond-true, cond-false, and_parts, eqb-true, cases_Bool, cond_both}
use Rattle.names.specs.declared.fault.Fault.{Fault}
use Rattle.names.specs.declared.fault.Fault.TheVariants.{Misplaced, Conflict, TooMuch, BadTransfer}
use Rattle.meaning.specs.Model.{Set}
use Rattle.zones.specs.Sorted.{is_before}
use Rattle.zones.specs.Valid.{no_clash, insert_set}
use Rattle.wire.specs.Cuts.{next}
use Rattle.wire.specs.Parts.{Part}
use Rattle.wire.specs.Shapes.{Times}
use Rattle.transfers.specs.Joining.{any_outside, any_stands, any_twice, any_cut_at, any_clash, insert_all, joined, Joining, same_times, is_counted, belongs_to, is_there, none_there, with_part, begun, begin, take}
use Rattle.transfers.specs.TransferLaws.{SameVersion, OfVersion}
use Rattle.transfers.proofs.Present.{marked_many, none_many}

-- ---- what was not refused

cond_ok : {A : Type 0} (b : Bool) (f : Fault) (x : Result A Fault) (a : A) → cond b (Err f) x ≡ Ok a → x ≡ Ok a
cond_ok true f x a h = cc
cond_ok false f x a h = h

cond_or : {A : Type 0} (b : Bool) (f : Fault) (x : Result A Fault) (a : A) → cond b x (Err f) ≡ Ok a → x ≡ Ok a
cond_or true f x a h = h
cond_or false f x a h = cc

next_some : {A B : Type 0} (r : Result A Fault) (f : A → Result B Fault) (b : B) → next r f ≡ Ok b → (a : A) × (r ≡ Ok a) × (f a ≡ Ok b)
unfolding next
next_some (Ok a) f b h = (a, refl, h)
next_some (Err g) f b h = cc

ok_so : {A : Type 0} (a b : A) → ◌≡◌ {A = Result A Fault} (Ok a) (Ok b) → a ≡ b
ok_so a b h = cc

joined_so : (apex : List (List ℕ)) (old new ss : List Set) → joined apex old new ≡ Ok ss → insert_all new old ≡ ss
unfolding joined
joined_so apex old new ss h =
    ok_so (insert_all new old) ss
    (cond_ok (ltb 4096 (length old + length new)) TooMuch (Ok (insert_all new old)) ss
    (cond_ok (any_cut_at apex new || not (no_clash new) || any_clash old new) Conflict (cond (ltb 4096 (length old + length new)) (Err TooMuch) (Ok (insert_all new old))) ss
    (cond_ok (any_outside apex new || any_twice new || any_stands old new) Misplaced (cond (any_cut_at apex new || not (no_clash new) || any_clash old new) (Err Conflict) (cond (ltb 4096 (length old + length new)) (Err TooMuch) (Ok (insert_all new old)))) ss h)))

-- ---- members

abbrev From : Set → Set → List Set → List Set → Type 0
From s t ss xs = Memᴰ s xs → (s ≡ t) ⊎ Memᴰ s ss

insert_from : (s t : Set) (ss : List Set) → From s t ss (insert_set t ss)
unfolding insert_set
insert_from s t [] m = Memᴰ.cases_cons m
insert_from s t (u ∷ ss) m =
    cond_both (is_before t.name t.kind u) (u ∷ insert_set t ss) (t ∷ u ∷ ss) (From s t (u ∷ ss))
    (λ _ n. ⊎_elim (λ e. inr (Memᴰ.head e)) (λ k. ⊎_elim (λ e. inl e) (λ i. inr (Memᴰ.tail i)) (insert_from s t ss k)) (Memᴰ.cases_cons n))
    (λ _ n. Memᴰ.cases_cons n)
    m

insert_to : (s t : Set) (ss : List Set) → (s ≡ t) ⊎ Memᴰ s ss → Memᴰ s (insert_set t ss)
unfolding insert_set
insert_to s t [] o = ⊎_elim (λ e. Memᴰ.head e) (λ m. absurd (Memᴰ.not-nil m)) o
insert_to s t (u ∷ ss) o =
    cond_both (is_before t.name t.kind u) (u ∷ insert_set t ss) (t ∷ u ∷ ss) (Memᴰ s)
    (λ _. ⊎_elim (λ e. Memᴰ.tail (insert_to s t ss (inl e))) (λ m. ⊎_elim (λ e. Memᴰ.head e) (λ k. Memᴰ.tail (insert_to s t ss (inr k))) (Memᴰ.cases_cons m)) o)
    (λ _. ⊎_elim (λ e. Memᴰ.head e) (λ m. Memᴰ.tail m) o)

all_from : (s : Set) (new old : List Set) → Memᴰ s (insert_all new old) → Memᴰ s old ⊎ Memᴰ s new
unfolding insert_all
all_from s [] old m = inl m
all_from s (t ∷ new) old m =
    ⊎_elim
    (λ k. ⊎_elim (λ e. inr (Memᴰ.head e)) (λ n. inl n) (insert_from s t old k))
    (λ k. inr (Memᴰ.tail k))
    (all_from s new (insert_set t old) m)

all_to : (s : Set) (new old : List Set) → Memᴰ s old ⊎ Memᴰ s new → Memᴰ s (insert_all new old)
unfolding insert_all
all_to s [] old o = ⊎_elim (λ m. m) (λ m. absurd (Memᴰ.not-nil m)) o
all_to s (t ∷ new) old o =
    ⊎_elim
    (λ m. all_to s new (insert_set t old) (inl (insert_to s t old (inr m))))
    (λ m. ⊎_elim (λ e. all_to s new (insert_set t old) (inl (insert_to s t old (inl e)))) (λ k. all_to s new (insert_set t old) (inr k)) (Memᴰ.cases_cons m))
    o

-- ---- of which version

so_same : (s t : Times) → same_times s t ≡ true → s ≡ t
so_same s t h =
    let p = and_parts (eqb s.negative t.negative && eqb s.refresh t.refresh) (eqb s.expire t.expire) h in
    let q = and_parts (eqb s.negative t.negative) (eqb s.refresh t.refresh) p.0 in
    let a = eqb-true s.negative t.negative q.0 in
    let b = eqb-true s.refresh t.refresh q.1 in
    let c = eqb-true s.expire t.expire p.1 in
    λ i. record { negative = a i; refresh = b i; expire = c i }

of_version : (j : Joining) (p : Part) → belongs_to j p ≡ true → OfVersion j p
of_version j p h =
    let a = and_parts (eqb p.head.serial j.serial && eqb p.head.moment j.moment && same_times p.head.times j.times && eqb p.head.of (length j.there)) (is_counted p) h in
    let b = and_parts (eqb p.head.serial j.serial && eqb p.head.moment j.moment && same_times p.head.times j.times) (eqb p.head.of (length j.there)) a.0 in
    let c = and_parts (eqb p.head.serial j.serial && eqb p.head.moment j.moment) (same_times p.head.times j.times) b.0 in
    let d = and_parts (eqb p.head.serial j.serial) (eqb p.head.moment j.moment) c.0 in
    record {
      serial = eqb-true p.head.serial j.serial d.0;
      moment = eqb-true p.head.moment j.moment d.1;
      times = so_same p.head.times j.times c.1;
      of = eqb-true p.head.of (length j.there) b.1;
    }

-- ---- a part that was taken: it was there already, or its sets came

pub record Came (p : Part) (j k : Joining) : Type 0 where
  pub missing : is_there j.there p.head.part ≡ false
  pub new_is : with_part j p (insert_all p.sets j.sets) ≡ k

took : (p : Part) (j k : Joining) → take p j ≡ Ok k → (belongs_to j p ≡ true) × ((is_there j.there p.head.part ≡ true) × (j ≡ k) ⊎ Came p j k)
unfolding take
took p j k h =
    ⊎_elim
    (λ b. (b, by_place (is_there j.there p.head.part) refl (sym (cond-true (belongs_to j p) known strange b) ∙ h)))
    (λ b. let n = next_some (joined j.apex [] p.sets) (λ ss. Err BadTransfer) k (sym (cond-false (belongs_to j p) known strange b) ∙ h) in absurd (no_ok BadTransfer k n.2))
    (cases_Bool (belongs_to j p))
  where
    again : Result Joining Fault
    again = next (joined j.apex [] p.sets) (λ ss. Ok j)

    anew : Result Joining Fault
    anew = next (joined j.apex j.sets p.sets) (λ ss. Ok (with_part j p ss))

    known : Result Joining Fault
    known = cond (is_there j.there p.head.part) again anew

    strange : Result Joining Fault
    strange = next (joined j.apex [] p.sets) (λ ss. Err BadTransfer)

    no_ok : (f : Fault) (x : Joining) → ◌≡◌ {A = Result Joining Fault} (Err f) (Ok x) → ⊥
    no_ok f x e = cc

    by_place : (b : Bool) → is_there j.there p.head.part ≡ b → known ≡ Ok k → (is_there j.there p.head.part ≡ true) × (j ≡ k) ⊎ Came p j k
    by_place true t e =
        let n = next_some (joined j.apex [] p.sets) (λ ss. Ok j) k (sym (cond-true (is_there j.there p.head.part) again anew t) ∙ e) in
        inl (t, ok_so j k n.2)
    by_place false t e =
        let n = next_some (joined j.apex j.sets p.sets) (λ ss. Ok (with_part j p ss)) k (sym (cond-false (is_there j.there p.head.part) again anew t) ∙ e) in
        inr (record { missing = t; new_is = ap (with_part j p) (joined_so j.apex j.sets p.sets n.0 n.1) ∙ ok_so (with_part j p n.0) k n.2 })

-- ---- the laws

pub one_version : (p : Part) (j k : Joining) → take p j ≡ Ok k → OfVersion j p × SameVersion j k
one_version p j k h =
    let t = took p j k h in (
      of_version j p t.0,
      ⊎_elim
          (λ o. subst (SameVersion j) o.1 (record { apex = refl; serial = refl; moment = refl; times = refl; of = refl }))
          (λ c. subst (SameVersion j) c.new_is (record { apex = refl; serial = refl; moment = refl; times = refl; of = marked_many j.there p.head.part }))
          t.1,
    )

pub said : (p : Part) (j k : Joining) (s : Set) → take p j ≡ Ok k → Memᴰ s k.sets → Memᴰ s j.sets ⊎ Memᴰ s p.sets
said p j k s h m =
    ⊎_elim
    (λ o. inl (subst (λ (x : Joining). Memᴰ s x.sets) (sym o.1) m))
    (λ c. all_from s p.sets j.sets (subst (λ (x : Joining). Memᴰ s x.sets) (sym c.new_is) m))
    (took p j k h).1

pub kept : (p : Part) (j k : Joining) (s : Set) → take p j ≡ Ok k → Memᴰ s j.sets → Memᴰ s k.sets
kept p j k s h m =
    ⊎_elim
    (λ o. subst (λ (x : Joining). Memᴰ s x.sets) o.1 m)
    (λ c. subst (λ (x : Joining). Memᴰ s x.sets) c.new_is (all_to s p.sets j.sets (inl m)))
    (took p j k h).1

pub brought : (p : Part) (j k : Joining) (s : Set) → take p j ≡ Ok k → is_there j.there p.head.part ≡ false → Memᴰ s p.sets → Memᴰ s k.sets
brought p j k s h t m =
    ⊎_elim
    (λ o. absurd (true≢false (sym o.0 ∙ t)))
    (λ c. subst (λ (x : Joining). Memᴰ s x.sets) c.new_is (all_to s p.sets j.sets (inr m)))
    (took p j k h).1

-- ---- the first part

first : (apex : List (List ℕ)) (p : Part) (j : Joining) → begin apex p ≡ Ok j → with_part (begun apex p) p (insert_all p.sets []) ≡ j
unfolding begin
first apex p j h =
    let made = λ (ss : List Set). cond (is_counted p) (Ok (with_part (begun apex p) p ss)) (Err BadTransfer) in
    let n = next_some (joined apex [] p.sets) (λ ss. cond (ltb 4096 p.head.of) (Err TooMuch) (made ss)) j h in
    let e = cond_ok (ltb 4096 p.head.of) TooMuch (made n.0) j n.2 in
    ap (with_part (begun apex p) p) (joined_so apex [] p.sets n.0 n.1) ∙ ok_so (with_part (begun apex p) p n.0) j (cond_or (is_counted p) BadTransfer (Ok (with_part (begun apex p) p n.0)) j e)

pub first_version : (apex : List (List ℕ)) (p : Part) (j : Joining) → begin apex p ≡ Ok j → (j.apex ≡ apex) × OfVersion j p
first_version apex p j h =
    subst (λ (x : Joining). (x.apex ≡ apex) × OfVersion x p) (first apex p j h)
    (refl, record { serial = refl; moment = refl; times = refl; of = sym (marked_many (none_there p.head.of) p.head.part ∙ none_many p.head.of) })

pub first_said : (apex : List (List ℕ)) (p : Part) (j : Joining) (s : Set) → begin apex p ≡ Ok j → (Memᴰ s j.sets → Memᴰ s p.sets) × (Memᴰ s p.sets → Memᴰ s j.sets)
first_said apex p j s h =
    subst (λ (x : Joining). (Memᴰ s x.sets → Memᴰ s p.sets) × (Memᴰ s p.sets → Memᴰ s x.sets)) (first apex p j h)
    ((λ m. ⊎_elim (λ n. absurd (Memᴰ.not-nil n)) (λ n. n) (all_from s p.sets [] m)), (λ m. all_to s p.sets [] (inr m)))
