-- Labels added one at a time: what is refused early is refused at the end.
use Rattle.std.proofs.Common.{◌≡◌, ℕ, ◌+◌, ◌<◌, Bor, Bool, true, false, cond, List, [], ◌∷◌, ◌++◌, map, length, get_or, take, drop, Ok, Err, sym, refl, ap, ◌∙◌, append_assoc, arith}
use mathlib.Core.List.{map-append}
use Rattle.std.proofs.lemmas.List.{drop_more, take-append-drop}
use Rattle.names.specs.declared.fault.Fault.{Fault}
use Rattle.names.specs.declared.fault.Fault.TheVariants.{BadName}
use Rattle.names.specs.declared.name.Name.{Name}
use Rattle.names.specs.Labels.{proper}
use Rattle.names.specs.Names.{labels, name_of}
use Rattle.names.proofs.Laws.{labels_proper}
use Rattle.names.proofs.Proper.{proper_front}
use Rattle.names.proofs.Push.{named, unnamed}

-- what is named is proper, and named as it is
pub named_so : (ls ms : List (List ℕ)) → name_of ls ≡ Ok ms → (proper ls ≡ true) × (ms ≡ ls)
named_so ls ms h = go (proper ls) refl
  where
    go : (b : Bool) → proper ls ≡ b → (proper ls ≡ true) × (ms ≡ ls)
    go true e = (e, let q = named ls e in cc)
    go false e = let q : name_of ls ≡ Err BadName = ap (λ b. cond b (Ok ls) (Err BadName)) e in let z : ◌≡◌ {A = ℕ} 0 1 = cc in absurd (omega arith)

pub refused_so : (ls : List (List ℕ)) (f : Fault) → name_of ls ≡ Err f → proper ls ≡ true → ⊥
refused_so ls f h p = let q = named ls p in let z : ◌≡◌ {A = ℕ} 0 1 = cc in omega arith

pub refused_front : (ls ms : List (List ℕ)) (f : Fault) → name_of ls ≡ Err f → name_of (ls ++ ms) ≡ Err f
refused_front ls ms f h = unnamed (ls ++ ms) (λ p. refused_so ls f h (proper_front ls ms p)) ∙ sym (unnamed ls (refused_so ls f h)) ∙ h

-- the labels that were read, and one more
pub one_read : (self : List (List ℕ)) (read : List (Bor (List ℕ))) (l : Bor (List ℕ)) (before after : List (List ℕ)) → before ≡ self ++ map (λ x. x.now) read → name_of (before ++ l.now ∷ []) ≡ Ok after → after ≡ self ++ map (λ x. x.now) (read ++ l ∷ [])
one_read self read l before after b h =
    (named_so (before ++ l.now ∷ []) after h).1 ∙ ap (λ x. x ++ l.now ∷ []) b ∙ append_assoc self (map (λ x. x.now) read) (l.now ∷ []) ∙ ap (λ x. self ++ x) (sym (map-append (λ x. x.now) read (l ∷ [])))

-- a label that is refused refuses all
pub refused_there : (self : List (List ℕ)) (read : List (Bor (List ℕ))) (l : Bor (List ℕ)) (before all : List (List ℕ)) (f : Fault) → before ≡ self ++ map (λ x. x.now) read → map (λ x. x.now) read ≡ take (length read) all → (length read < length all) × (l.now ≡ get_or all (length read) l.now) → name_of (before ++ l.now ∷ []) ≡ Err f → name_of (self ++ all) ≡ Err f
refused_there self read l before all f b so at h =
    let n = length read in
    let parted : all ≡ map (λ x. x.now) read ++ (l.now ∷ drop (n + 1) all) =
    sym (take-append-drop n all) ∙ (λ i. sym so i ++ drop n all) ∙ ap (λ x. map (λ y. y.now) read ++ x) (drop_more all n l.now at.0 ∙ ap (λ x. x ∷ drop (n + 1) all) (sym at.1)) in
    ap name_of
    (ap (λ x. self ++ x) parted ∙ sym (append_assoc self (map (λ x. x.now) read) (l.now ∷ drop (n + 1) all)) ∙ ap (λ x. x ++ (l.now ∷ drop (n + 1) all)) (sym b)
    ∙ sym (append_assoc before (l.now ∷ []) (drop (n + 1) all)))
    ∙ refused_front (before ++ l.now ∷ []) (drop (n + 1) all) f h

-- the name has them all
pub named_all : (n : Name) (all : List (List ℕ)) → labels n ≡ all → name_of all ≡ Ok (labels n)
named_all n all h = ap name_of (sym h) ∙ named (labels n) (labels_proper n)
