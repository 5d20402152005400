-- Parts of a zone, in whatever order they come, make the zone.
use Rattle.std.proofs.Common.{◌≡◌, ℕ, zero, suc, ◌⊎◌, inl, inr, ◌+◌, ◌<◌, ◌≤◌, Bool, true, false, cond, ◌&&◌, ◌||◌, eqb, leb, ltb, List, [], ◌∷◌, ◌++◌, length, Ok, Err, Result, sym, refl, ap, ◌∙◌, subst, ⊎_elim, append-nil, arith, length-append}
use mathlib.Core.List.Memᴰ
use mathlib.Core.List.{Memᴰ}
use Rattle.std.proofs.lemmas.Bool.{cond-true, cond-false, and_from, eq-eqb, le-leb, le-ltb, cases_lt, not_from_false, false_from_ne_true, eqb-true, or_left, or_right}
use Rattle.names.specs.declared.fault.Fault.{Fault}
use Rattle.names.specs.declared.fault.Fault.TheVariants.{TooMuch, BadTransfer}
use Rattle.meaning.specs.Model.{Set, Zone}
use Rattle.zones.specs.Sorted.{sorted}
use Rattle.zones.specs.Valid.{valid}
use Rattle.wire.specs.Cuts.{next}
use Rattle.wire.specs.Parts.{Part}
use Rattle.wire.specs.Shapes.{Times}
use Rattle.transfers.specs.Splitting.{EachFits, rows, times_of, SplitLaws}
use Rattle.transfers.specs.Joining.{joined, Joining, same_times, has_sets, is_counted, belongs_to, is_there, marked, none_there, is_complete, with_part, begun, begin, take, zone_in, take_all, join}
use Rattle.transfers.specs.TransferLaws.{IsPart, AllCame, Rejoined}
use Rattle.transfers.proofs.Rows.{joint, joint_append, rows_many, rows_whole}
use Rattle.transfers.proofs.Parting.{Among, among}
use Rattle.transfers.proofs.Orders.{Good, good_from, good_middle}
use Rattle.transfers.proofs.Inserting.{joins}
use Rattle.transfers.proofs.Present.{present, Place, place, there_at, marked_at, marked_many, marked_keeps, marked_only, none_is_there, none_many, none_present, complete_from, complete_at, complete_present, present_at, present_good}

same_so : (s t : Times) → s ≡ t → same_times s t ≡ true
same_so s t e =
    and_from (eqb s.negative t.negative && eqb s.refresh t.refresh) (eqb s.expire t.expire)
    (and_from (eqb s.negative t.negative) (eqb s.refresh t.refresh) (eq-eqb s.negative t.negative (ap (λ (x : Times). x.negative) e)) (eq-eqb s.refresh t.refresh (ap (λ (x : Times). x.refresh) e)))
    (eq-eqb s.expire t.expire (ap (λ (x : Times). x.expire) e))

next_ok : {A B : Type 0} (r : Result A Fault) (a : A) (f : A → Result B Fault) → r ≡ Ok a → next r f ≡ f a
unfolding next
next_ok r a f e = ap (λ x. next x f) e

module _ (laws : SplitLaws) (z : Zone) (moment : ℕ) (o : sorted z.sets ≡ true) (v : valid z.apex z.sets ≡ true) (fit : EachFits z.sets) where
  abbrev all : List (List Set)
  all = rows z.sets

  good : Good z.apex (joint all)
  good = subst (Good z.apex) (sym (rows_whole z.sets)) (good_from z.apex z.sets o v)

  -- ---- a part, its row, and its number

  pub record Located (p : Part) : Type 0 where
    pub id : ℕ
    pub among : Among z id moment (length all) p 1 all

  located : (p : Part) → IsPart z moment p → Located p
  located p m = record { id = m.0; among = among z m.0 moment (length all) p 1 all m.1 }

  module _ (p : Part) (l : Located p) where
    abbrev a : Among z l.id moment (length all) p 1 all
    a = l.among

    number : p.head.part ≡ suc (length a.front)
    number = let e = ap (λ (q : Part). q.head.part) a.part_is in omega arith

    of : p.head.of ≡ length all
    of = ap (λ (q : Part). q.head.of) a.part_is

    sets : p.sets ≡ a.row
    sets = ap (λ (q : Part). q.sets) a.part_is

    count : length all ≡ length a.front + 1 + length a.back
    count = let e = ap length a.whole in let n = length-append a.front (a.row ∷ a.back) in omega arith

    -- of several none is without sets
    has : (eqb p.head.of 1 || has_sets p) ≡ true
    has =
        let e = of in
        let n = count in
        ⊎_elim
        (λ (l : 1 < length all).
        let m = laws.several z a.front a.back a.row fit a.whole l in
        let q = ap length sets in
        or_right (eqb p.head.of 1) (has_sets p) (not_from_false (eqb (length p.sets) 0) (false_from_ne_true (eqb (length p.sets) 0) (λ z. let w = eqb-true (length p.sets) 0 z in omega arith))))
        (λ (l : length all ≤ 1). or_left (eqb p.head.of 1) (has_sets p) (eq-eqb p.head.of 1 (omega arith)))
        (cases_lt 1 (length all))

    counted : is_counted p ≡ true
    counted =
        let e = of in
        let n = number in
        let m = count in
        and_from (leb 1 p.head.part && leb p.head.part p.head.of) (eqb p.head.of 1 || has_sets p)
        (and_from (leb 1 p.head.part) (leb p.head.part p.head.of) (le-leb 1 p.head.part (omega arith)) (le-leb p.head.part p.head.of (omega arith)))
        has

    -- alone it is never refused
    alone : joined z.apex [] p.sets ≡ Ok (p.sets ++ [])
    alone =
        let parts : joint all ≡ joint a.front ++ (a.row ++ joint a.back) = ap joint a.whole ∙ joint_append a.front (a.row ∷ a.back) in
        let g = good_middle z.apex (joint a.front) a.row (joint a.back) (subst (Good z.apex) parts good) in
        joins z.apex [] p.sets [] (subst (Good z.apex) (sym (append-nil p.sets)) (subst (Good z.apex) (sym sets) g))

    module _ (there : List Bool) (as_many : length there ≡ length all) where
      its : Place there a.front a.back
      its = place there a.front a.row a.back (as_many ∙ ap length a.whole)

      -- its number, as its place has it
      at : p.head.part ≡ suc (length its.before)
      at = let n = number in let m = its.as_many in omega arith

      marked_is : marked there p.head.part ≡ its.before ++ true ∷ its.after
      marked_is = (λ i. marked (its.whole i) (at i)) ∙ marked_at its.before its.here its.after

      marked_there : is_there (marked there p.head.part) p.head.part ≡ true
      marked_there = (λ i. is_there (marked_is i) (at i)) ∙ there_at its.before true its.after

      -- where it isn't there, its sets come between those that are
      comes : is_there there p.head.part ≡ false → joined z.apex (present there all) p.sets ≡ Ok (present (marked there p.head.part) all)
      comes h =
          let front = present its.before a.front in
          let back = present its.after a.back in
          let missing : its.here ≡ false = sym (there_at its.before its.here its.after) ∙ (λ i. is_there (sym its.whole i) (sym at i)) ∙ h in
          let old : present there all ≡ front ++ back =
          (λ i. present (its.whole i) (a.whole i)) ∙ present_at its.before its.here its.after a.front a.row a.back its.as_many ∙ ap (λ b. front ++ (cond b a.row [] ++ back)) missing in
          let new : present (marked there p.head.part) all ≡ front ++ (a.row ++ back) = (λ i. present (marked_is i) (a.whole i)) ∙ present_at its.before true its.after a.front a.row a.back its.as_many in
          let g = subst (Good z.apex) new (present_good z.apex [] (marked there p.head.part) all good) in
          (λ i. joined z.apex (old i) (sets i)) ∙ joins z.apex front a.row back g ∙ ap (λ xs. Ok xs) (sym new)

  -- ---- what is there

  pub record Going (j : Joining) : Type 0 where
    pub apex : j.apex ≡ z.apex
    pub serial : j.serial ≡ z.serial
    pub moment_is : j.moment ≡ moment
    pub times : j.times ≡ times_of z
    pub as_many : length j.there ≡ length all
    pub sets : j.sets ≡ present j.there all

  belongs : (j : Joining) → Going j → (p : Part) → Located p → belongs_to j p ≡ true
  belongs j g p a =
      let serial = ap (λ (q : Part). q.head.serial) a.among.part_is ∙ sym g.serial in
      let time = ap (λ (q : Part). q.head.moment) a.among.part_is ∙ sym g.moment_is in
      let times = ap (λ (q : Part). q.head.times) a.among.part_is ∙ sym g.times in
      and_from (eqb p.head.serial j.serial && eqb p.head.moment j.moment && same_times p.head.times j.times && eqb p.head.of (length j.there)) (is_counted p)
      (and_from (eqb p.head.serial j.serial && eqb p.head.moment j.moment && same_times p.head.times j.times) (eqb p.head.of (length j.there))
      (and_from (eqb p.head.serial j.serial && eqb p.head.moment j.moment) (same_times p.head.times j.times)
      (and_from (eqb p.head.serial j.serial) (eqb p.head.moment j.moment) (eq-eqb p.head.serial j.serial serial) (eq-eqb p.head.moment j.moment time))
      (same_so p.head.times j.times times))
      (eq-eqb p.head.of (length j.there) (of p a ∙ sym g.as_many)))
      (counted p a)

  pub record Taken (j : Joining) (p : Part) : Type 0 where
    pub result : Joining
    pub is : take p j ≡ Ok result
    pub going : Going result
    pub there : is_there result.there p.head.part ≡ true
    pub keeps : (n : ℕ) → is_there j.there n ≡ true → is_there result.there n ≡ true
    pub only : (n : ℕ) → is_there result.there n ≡ true → (n ≡ p.head.part) ⊎ (is_there j.there n ≡ true)

  taken : (j : Joining) → Going j → (p : Part) → Located p → Taken j p
  unfolding take
  taken j g p a = go (is_there j.there p.head.part) refl
    where
      again : Result Joining Fault
      again = next (joined j.apex [] p.sets) (λ ss. Ok j)

      anew : Result Joining Fault
      anew = next (joined j.apex j.sets p.sets) (λ ss. Ok (with_part j p ss))

      here : take p j ≡ cond (is_there j.there p.head.part) again anew
      here = cond-true (belongs_to j p) (cond (is_there j.there p.head.part) again anew) (next (joined j.apex [] p.sets) (λ ss. Err BadTransfer)) (belongs j g p a)

      go : (b : Bool) → is_there j.there p.head.part ≡ b → Taken j p
      go true h = record {
        result = j;
        is = here ∙ cond-true (is_there j.there p.head.part) again anew h ∙ next_ok (joined j.apex [] p.sets) (p.sets ++ []) (λ ss. Ok j) (ap (λ x. joined x [] p.sets) g.apex ∙ alone p a);
        going = g;
        there = h;
        keeps = λ n t. t;
        only = λ n t. inr t;
      }
      go false h =
          let ss = present (marked j.there p.head.part) all in
          record {
            result = with_part j p ss;
            is =
                here ∙ cond-false (is_there j.there p.head.part) again anew h
                ∙ next_ok (joined j.apex j.sets p.sets) ss (λ ts. Ok (with_part j p ts)) ((λ i. joined (g.apex i) (g.sets i) p.sets) ∙ comes p a j.there g.as_many h);
            going = record { apex = g.apex; serial = g.serial; moment_is = g.moment_is; times = g.times; as_many = marked_many j.there p.head.part ∙ g.as_many; sets = refl };
            there = marked_there p a j.there g.as_many;
            keeps = marked_keeps j.there p.head.part;
            only = marked_only j.there p.head.part;
          }

  -- ---- one part after the other

  pub record Gone (j : Joining) (ps : List Part) : Type 0 where
    pub result : Joining
    pub is : take_all ps j ≡ Ok result
    pub going : Going result
    pub there : (q : Part) → Memᴰ q ps → is_there result.there q.head.part ≡ true
    pub keeps : (n : ℕ) → is_there j.there n ≡ true → is_there result.there n ≡ true
    pub only : (n : ℕ) → is_there result.there n ≡ true → ((q : Part) × Memᴰ q ps × (n ≡ q.head.part)) ⊎ (is_there j.there n ≡ true)

  gone : (ps : List Part) (j : Joining) → Going j → ((q : Part) → Memᴰ q ps → IsPart z moment q) → Gone j ps
  unfolding take_all
  gone [] j g h = record { result = j; is = refl; going = g; there = λ q m. absurd (Memᴰ.not-nil m); keeps = λ n t. t; only = λ n t. inr t }
  gone (p ∷ ps) j g h =
      let t = taken j g p (located p (h p (Memᴰ.head refl))) in
      let r = gone ps t.result t.going (λ q m. h q (Memᴰ.tail m)) in
      record {
        result = r.result;
        is = next_ok (take p j) t.result (λ k. take_all ps k) t.is ∙ r.is;
        going = r.going;
        there = λ q m. ⊎_elim (λ e. r.keeps q.head.part (subst (λ x. is_there t.result.there x.head.part ≡ true) (sym e) t.there)) (λ n. r.there q n) (Memᴰ.cases_cons m);
        keeps = λ n x. r.keeps n (t.keeps n x);
        only = λ n x. ⊎_elim (λ f. inl (f.0, Memᴰ.tail f.1, f.2)) (λ y. ⊎_elim (λ e. inl (p, Memᴰ.head refl, e)) (λ w. inr w) (t.only n y)) (r.only n x);
      }

  -- ---- the first

  pub record Started (p : Part) : Type 0 where
    pub result : Joining
    pub is : begin z.apex p ≡ Ok result
    pub going : Going result
    pub there : is_there result.there p.head.part ≡ true
    pub only : (n : ℕ) → is_there result.there n ≡ true → n ≡ p.head.part

  not_many : length all ≤ 4096
  not_many =
      let few = (good_from z.apex z.sets o v).few in
      let m = rows_many [] z.sets in
      ⊎_elim (λ (l : 0 < length z.sets). let h = (laws.few z fit).1 (omega arith) in omega arith) (λ (l : length z.sets ≤ 0). omega arith) (cases_lt 0 (length z.sets))

  started : (p : Part) → Located p → Started p
  unfolding begin
  started p a =
      let there = none_there p.head.of in
      let l : length there ≡ length all = none_many p.head.of ∙ of p a in
      let ss = present (marked there p.head.part) all in
      let f = λ (ts : List Set). cond (ltb 4096 p.head.of) (Err TooMuch) (cond (is_counted p) (Ok (with_part (begun z.apex p) p ts)) (Err BadTransfer)) in
      let few = not_many in
      let e = of p a in
      let none : is_there there p.head.part ≡ false = false_from_ne_true (is_there there p.head.part) (none_is_there p.head.of p.head.part) in
      record {
        result = with_part (begun z.apex p) p ss;
        is =
            next_ok (joined z.apex [] p.sets) ss f (ap (λ xs. joined z.apex xs p.sets) (sym (none_present p.head.of all)) ∙ comes p a there l none)
            ∙ cond-false (ltb 4096 p.head.of) (Err TooMuch) (cond (is_counted p) (Ok (with_part (begun z.apex p) p ss)) (Err BadTransfer)) (le-ltb 4096 p.head.of (omega arith))
            ∙ cond-true (is_counted p) (Ok (with_part (begun z.apex p) p ss)) (Err BadTransfer) (counted p a);
        going = record {
          apex = refl;
          serial = ap (λ (q : Part). q.head.serial) a.among.part_is;
          moment_is = ap (λ (q : Part). q.head.moment) a.among.part_is;
          times = ap (λ (q : Part). q.head.times) a.among.part_is;
          as_many = marked_many there p.head.part ∙ l;
          sets = refl;
        };
        there = marked_there p a there l;
        only = λ n t. ⊎_elim (λ e. e) (λ w. absurd (none_is_there p.head.of n w)) (marked_only there p.head.part n t);
      }

  -- ---- all of them

  module _ (p : Part) (ps : List Part) (h : (q : Part) → Memᴰ q (p ∷ ps) → IsPart z moment q) (j : Joining)
      (g : Going j) (came : (q : Part) → Memᴰ q (p ∷ ps) → is_there j.there q.head.part ≡ true)
      (only : (n : ℕ) → is_there j.there n ≡ true → (q : Part) × Memᴰ q (p ∷ ps) × (n ≡ q.head.part)) where
    whole : is_complete j.there ≡ true → zone_in j ≡ z
    whole c =
        let ss = g.sets ∙ complete_present j.there all g.as_many c ∙ rows_whole z.sets in
        let t = g.times in
        λ i. record { apex = g.apex i; serial = g.serial i; negative = (t i).negative; refresh = (t i).refresh; expire = (t i).expire; sets = ss i }

    all_came : AllCame z (p ∷ ps) → is_complete j.there ≡ true
    all_came every =
        complete_from j.there
        (λ i l.
        let m = g.as_many in
        let q = every (suc i) (omega arith) (omega arith) in
        subst (λ n. is_there j.there n ≡ true) q.2 (came q.0 q.1))

    only_all : is_complete j.there ≡ true → AllCame z (p ∷ ps)
    only_all c zero l m = absurd (omega arith)
    only_all c (suc i) l m =
        let k = g.as_many in
        let q = only (suc i) (complete_at j.there i (omega arith) c) in
        (q.0, q.1, sym q.2)

    pub rejoined_as : Rejoined z moment (p ∷ ps)
    rejoined_as = record { result = j; complete_is_zone = whole; moment_is = g.moment_is; all_came = all_came; only_all = only_all }

  pub rejoins : (p : Part) (ps : List Part) → ((q : Part) → Memᴰ q (p ∷ ps) → IsPart z moment q) → (r : Rejoined z moment (p ∷ ps)) × (join z.apex p ps ≡ Ok r.result)
  unfolding rejoined_as
  rejoins p ps h =
      let s = started p (located p (h p (Memᴰ.head refl))) in
      let r = gone ps s.result s.going (λ q m. h q (Memᴰ.tail m)) in (
        rejoined_as p ps h r.result r.going
            (λ q m. ⊎_elim (λ e. r.keeps q.head.part (subst (λ x. is_there s.result.there x.head.part ≡ true) (sym e) s.there)) (λ n. r.there q n) (Memᴰ.cases_cons m))
            (λ n t. ⊎_elim (λ f. (f.0, Memᴰ.tail f.1, f.2)) (λ w. (p, Memᴰ.head refl, s.only n w)) (r.only n t)),
        next_ok (begin z.apex p) s.result (λ j. take_all ps j) s.is ∙ r.is,
      )
