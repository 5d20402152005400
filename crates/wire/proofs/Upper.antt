-- A name whose labels are the first of another's, by the bytes of both lists.
use Rattle.std.proofs.Common.{◌≡◌, ℕ, ◌≤◌, true, false, Bool, cond, List, [], ◌∷◌, ◌++◌, length, take, drop, Ok, Err, Result, sym, refl, ap, ◌∙◌, append_assoc, arith}
use Rattle.std.proofs.lemmas.Bool.{cond-true, cond-false}
use Rattle.std.proofs.lemmas.List.{take_at, drop_at, take-append-drop}
use Rattle.names.specs.declared.fault.Fault.{Fault}
use Rattle.names.specs.declared.fault.Fault.TheVariants.{BadName}
use Rattle.names.specs.Labels.{proper}
use Rattle.names.specs.Names.{name_of}
use Rattle.names.specs.Wire.{wire_labels, wire}
use Rattle.names.specs.Order.{within}
use Rattle.names.proofs.Proper.{proper_front}
use Rattle.names.proofs.Within.{within_extends}
use Rattle.meaning.specs.Model.{is_kind}
use Rattle.records.specs.Numbers.{kind_of}
use Rattle.wire.specs.Cuts.{next}
use Rattle.wire.specs.Packets.{Query, query_from, query_in}
use Rattle.wire.specs.Shapes.{QueryShape}

head_same : (a b : ℕ) (xs ys : List ℕ) → a ∷ xs ≡ b ∷ ys → a ≡ b
head_same a b xs ys h = cc

tail_same : (a b : ℕ) (xs ys : List ℕ) → a ∷ xs ≡ b ∷ ys → xs ≡ ys
tail_same a b xs ys h = cc

first_labels : (ls ms : List (List ℕ)) (rest : List ℕ) → wire_labels ms ≡ wire_labels ls ++ rest → length ls ≤ length ms → take (length ls) ms ≡ ls
unfolding wire_labels
first_labels [] ms rest e h = refl
first_labels (l ∷ ls) [] rest e h = absurd (omega arith)
first_labels (l ∷ ls) (m ∷ ms) rest e h =
    let xs = m ++ wire_labels ms in
    let ys = (l ++ wire_labels ls) ++ rest in
    let n = head_same (length m) (length l) xs ys e in
    let t = tail_same (length m) (length l) xs ys e ∙ append_assoc l (wire_labels ls) rest in
    let same = sym (take_at m (wire_labels ms) (length l) n) ∙ ap (take (length l)) t ∙ take_at l (wire_labels ls ++ rest) (length l) refl in
    let more = sym (drop_at m (wire_labels ms) (length l) n) ∙ ap (drop (length l)) t ∙ drop_at l (wire_labels ls ++ rest) (length l) refl in
    λ i. same i ∷ first_labels ls ms rest more (omega arith) i

-- of a proper name each front is one too
pub upper_name : (ls ms : List (List ℕ)) (rest : List ℕ) → proper ms ≡ true → wire_labels ms ≡ wire_labels ls ++ rest → length ls ≤ length ms → Ok (take (length ls) ms) ≡ name_of ls
upper_name ls ms rest p e h =
    let first = first_labels ls ms rest e h in
    let whole = ap (λ x. x ++ drop (length ls) ms) (sym first) ∙ take-append-drop (length ls) ms in
    let front = proper_front ls (drop (length ls) ms) (ap proper whole ∙ p) in
    ap Ok first ∙ sym (cond-true (proper ls) (Ok ls) (Err BadName) front)

-- whatever else is wrong with a name, its fault is that
pub bad_name : (ls : List (List ℕ)) (f : Fault) → name_of ls ≡ Err f → name_of ls ≡ Err BadName
bad_name ls f h = go (proper ls) refl
  where
    go : (b : Bool) → proper ls ≡ b → name_of ls ≡ Err BadName
    go true e = let k : ◌≡◌ {A = Result (List (List ℕ)) Fault} (Ok ls) (Err f) = sym (cond-true (proper ls) (Ok ls) (Err BadName) e) ∙ h in let z : ◌≡◌ {A = ℕ} 0 1 = cc in absurd (omega arith)
    go false e = cond-false (proper ls) (Ok ls) (Err BadName) e

pub within_taken : (n : ℕ) (ms : List (List ℕ)) → within (take n ms) ms ≡ true
within_taken n ms = ap (within (take n ms)) (sym (take-append-drop n ms)) ∙ within_extends (take n ms) (drop n ms)

pub made_name : (ls ms : List (List ℕ)) → Ok ms ≡ name_of ls → ms ≡ ls
made_name ls ms h = go (proper ls) refl
  where
    ok_same : (a b : List (List ℕ)) → ◌≡◌ {A = Result (List (List ℕ)) Fault} (Ok a) (Ok b) → a ≡ b
    ok_same a b e = cc

    go : (b : Bool) → proper ls ≡ b → ms ≡ ls
    go true e = ok_same ms ls (h ∙ cond-true (proper ls) (Ok ls) (Err BadName) e)
    go false e = let k : ◌≡◌ {A = Result (List (List ℕ)) Fault} (Ok ms) (Err BadName) = h ∙ cond-false (proper ls) (Ok ls) (Err BadName) e in let z : ◌≡◌ {A = ℕ} 0 1 = cc in absurd (omega arith)

-- ---- the lists of both

list_labels : (n : ℕ) (bs : List ℕ) (ls : List (List ℕ)) → n ∷ bs ≡ wire ls → (n ≡ length ls) × (bs ≡ wire_labels ls)
unfolding wire
list_labels n bs ls h = (head_same n (length ls) bs (wire_labels ls) h, tail_same n (length ls) bs (wire_labels ls) h)

pub upper_list : (n m : ℕ) (front all rest : List ℕ) (ls ms : List (List ℕ)) → n ∷ front ≡ wire ls → m ∷ all ≡ wire ms → all ≡ front ++ rest → n ≤ length ms → proper ms ≡ true → Ok (take n ms) ≡ name_of ls
upper_list n m front all rest ls ms h k e l p =
    let a = list_labels n front ls h in
    let b = list_labels m all ms k in
    ap (λ c. Ok (take c ms)) a.0 ∙ upper_name ls ms rest p (sym b.1 ∙ e ∙ ap (λ x. x ++ rest) a.1) (omega arith)

-- a bad name and a bad kind are the same fault, whichever is told first
module _ (apex : List (List ℕ)) (kind : ℕ) (n : Result (List (List ℕ)) Fault) (f : Fault) (last : List (List ℕ) → ℕ → List (List ℕ) → Result Query Fault) (same : ◌≡◌ {A = Result Query Fault} (Err BadName) (Err f)) where
  by_tests : n ≡ Err f → (a k : Bool) → next (cond a (Ok apex) (Err BadName)) (λ x. next (cond k (Ok kind) (Err BadName)) (λ y. next n (λ z. last x y z))) ≡ Err f
  unfolding next
  by_tests bad true true = ap (λ r. next r (λ z. last apex kind z)) bad
  by_tests bad true false = same
  by_tests bad false k = same

  by_kind : (a : Bool) (r : Result ℕ Fault) → r ≡ Err f → next (cond a (Ok apex) (Err BadName)) (λ x. next r (λ y. next n (λ z. last x y z))) ≡ Err f
  unfolding next
  by_kind true r e = ap (λ k. next k (λ y. next n (λ z. last apex y z))) e
  by_kind false r e = same

err_same : {A : Type 0} (g k : Fault) → ◌≡◌ {A = Result A Fault} (Err g) (Err k) → g ≡ k
err_same g k e = cc

pub bad_kind : (s : QueryShape) (f : Fault) → kind_of s.kind ≡ Err f → query_in s ≡ Err f
unfolding query_in
bad_kind s f h = by_kind s.apex s.kind (name_of s.name) f (λ x y z. query_from s.id x y z) (ap Err (err_same BadName f (sym (refused (is_kind s.kind) h) ∙ h))) (proper s.apex) (kind_of s.kind) h
  where
    refused : (b : Bool) → ◌≡◌ {A = Result ℕ Fault} (cond b (Ok s.kind) (Err BadName)) (Err f) → ◌≡◌ {A = Result ℕ Fault} (cond b (Ok s.kind) (Err BadName)) (Err BadName)
    refused true e = let z : ◌≡◌ {A = ℕ} 0 1 = cc in absurd (omega arith)
    refused false e = refl

pub bad_lower : (s : QueryShape) (f : Fault) → name_of s.name ≡ Err f → query_in s ≡ Err f
unfolding query_in
bad_lower s f h =
    let e : ◌≡◌ {A = Result (List (List ℕ)) Fault} (Err BadName) (Err f) = sym (bad_name s.name f h) ∙ h in
    by_tests s.apex s.kind (name_of s.name) f (λ x y z. query_from s.id x y z) (ap Err (err_same BadName f e)) h (proper s.apex) (is_kind s.kind)
