-- The name in an alias's pieces, and sets taken one by one.
use Rattle.std.proofs.Common.{◌≡◌, ℕ, zero, suc, ◌<◌, ◌≤◌, ◌⊎◌, false, cond, eqb, List, [], ◌∷◌, length, get_or, Some, None, Ok, Err, Option, Result, inl, inr, ⊎_elim, sym, refl, ap, ◌∙◌, arith, length-append}
use Rattle.std.specs.List.{between}
use Rattle.std.specs.Option.{option_map}
use Rattle.std.proofs.lemmas.Bool.{cond-true, cond-false, eq-eqb}
use Rattle.names.specs.declared.fault.Fault.{Fault}
use Rattle.names.specs.declared.fault.Fault.TheVariants.{Malformed, BadName, BadData, Misplaced, Conflict, StaleSerial, TooMuch, NotPending, WrongApex, BadTransfer, CacheFull, NoMemory}
use Rattle.names.specs.Reading.{read_name}
use Rattle.names.specs.Wire.{wire_labels, wire, cut_label}
use Rattle.meaning.specs.Model.{Set}
use Rattle.records.specs.declared.set.RecordSet.{RecordSet}
use Rattle.records.specs.Sets.{set_of, set_given}
use Rattle.names.proofs.Cutting.{cut_back}
use Rattle.std.proofs.lemmas.List.{length-drop}
use Rattle.std.specs.Int.{w32}
use Rattle.wire.specs.Cuts.{cut_byte, cut_number, cut_list, then, next}
use Rattle.wire.proofs.Undone.{then_undone, cut_undone, some_same}
use Rattle.wire.specs.Shapes.{SetShape, cut_set, sets_upto, sets_in}
use Rattle.wire.specs.Parts.{last_name, alias_of, set_in, lower, with_set, with_sets, all_sets}
use Rattle.std.specs.Prelude.{Vec}
use Rattle.wire.specs.Sets.{sets_of, sets_given}
use Rattle.wire.specs.Given.{Reads, shaped}
use Rattle.wire.proofs.Copying.{none_copied, first_left, none_left}

-- of an alias's pieces those that are left give what all give
pub record Naming (ps : List (List ℕ)) (n : List (List ℕ)) (rest : List ℕ) : Type 0 where
  pub left : List (List ℕ)
  pub so : rest ≡ wire_labels left
  pub same : last_name [] ps ≡ last_name n left

pub none_named : (list : List ℕ) (ps n : List (List ℕ)) → 0 < length list → list ≡ wire ps → n ≡ [] → Naming ps n (between 1 (length list) list)
none_named list ps n some h e =
    let c = none_copied list ps some h in
    record { left = c.left; so = c.so; same = (λ i. last_name (sym e i) (c.parted i)) }

one_name : (n : List (List ℕ)) (p : List ℕ) (ps : List (List ℕ)) (r : Result (List (List ℕ)) Fault) → read_name p ≡ r → last_name n (p ∷ ps) ≡ next r (λ m. last_name m ps)
unfolding last_name
one_name n p ps r e = ap (λ x. next x (λ m. last_name m ps)) e

pub one_named : (ps n : List (List ℕ)) (rest l after : List ℕ) (m : List (List ℕ)) → Naming ps n rest → cut_label rest ≡ Some (l, after) → read_name l ≡ Ok m → Naming ps m after
unfolding next
one_named ps n rest l after m a h e =
    let f = first_left a.left rest l after a.so h in
    record { left = f.0; so = f.2; same = a.same ∙ ap (last_name n) f.1 ∙ one_name n l f.0 (Ok m) e }

pub bad_named : (ps n : List (List ℕ)) (rest l after : List ℕ) (g : Fault) → Naming ps n rest → cut_label rest ≡ Some (l, after) → read_name l ≡ Err g → alias_of ps ≡ Err g
unfolding next
bad_named ps n rest l after g a h e =
    let f = first_left a.left rest l after a.so h in
    ap (λ r. next r (λ m. cond (eqb (length ps) 1) (Ok m) (Err BadData))) (a.same ∙ ap (last_name n) f.1 ∙ one_name n l f.0 (Err g) e)

all_named : (ps n : List (List ℕ)) (rest : List ℕ) → Naming ps n rest → cut_label rest ≡ None → alias_of ps ≡ cond (eqb (length ps) 1) (Ok n) (Err BadData)
unfolding next last_name
all_named ps n rest a h = ap (λ r. next r (λ m. cond (eqb (length ps) 1) (Ok m) (Err BadData))) (a.same ∙ ap (last_name n) (none_left a.left rest a.so h))

counted : (list : List ℕ) (ps : List (List ℕ)) → list ≡ wire ps → get_or list 0 0 ≡ length ps
unfolding wire
counted list ps h = ap (λ x. get_or x 0 0) h

pub just_one : (list : List ℕ) (ps n : List (List ℕ)) (rest : List ℕ) → Naming ps n rest → cut_label rest ≡ None → list ≡ wire ps → get_or list 0 0 ≡ 1 → alias_of ps ≡ Ok n
just_one list ps n rest a h e k =
    let c = counted list ps e in
    all_named ps n rest a h ∙ cond-true (eqb (length ps) 1) (Ok n) (Err BadData) (eq-eqb (length ps) 1 (sym c ∙ k))

pub not_one : (list : List ℕ) (ps n : List (List ℕ)) (rest : List ℕ) → Naming ps n rest → cut_label rest ≡ None → list ≡ wire ps → eqb (get_or list 0 0) 1 ≡ false → alias_of ps ≡ Err BadData
not_one list ps n rest a h e k =
    let c = counted list ps e in
    all_named ps n rest a h ∙ cond-false (eqb (length ps) 1) (Ok n) (Err BadData) (ap (λ j. eqb j 1) (sym c) ∙ k)

-- ---- sets

pub set_reads : (r : Result RecordSet Fault) (due : Result Set Fault) → set_given r ≡ due → Reads set_of due r
set_reads (Ok x) due h = sym h
set_reads (Err f) due h = inl (sym h)

list_shorter : (bs : List ℕ) (ps : List (List ℕ)) (rest : List ℕ) → cut_list bs ≡ Some (ps, rest) → length rest < length bs
unfolding cut_list
list_shorter [] ps rest h = cc
list_shorter (n ∷ bs) ps rest h =
    let p = ap length (cut_back n bs ps rest h).1 in
    let a = length-append (wire_labels ps) rest in
    omega arith

byte_shorter : (bs : List ℕ) (b : ℕ) (rest : List ℕ) → cut_byte bs ≡ Some (b, rest) → length rest < length bs
unfolding cut_byte
byte_shorter [] b rest h = cc
byte_shorter (x ∷ bs) b rest h = let p : ℕ × List ℕ = (x, bs) in let q : ℕ × List ℕ = (b, rest) in let e = ap (λ (y : ℕ × List ℕ). length (y.1)) (some_same p q h) in omega arith

number_shorter : (bs : List ℕ) (n : ℕ) (rest : List ℕ) → cut_number w32 bs ≡ Some (n, rest) → length rest ≤ length bs
unfolding cut_number
number_shorter bs n rest h =
    let d = ap length (cut_undone 4 bs (λ xs. Rattle.std.specs.Int.from_be_bytes w32 xs) n rest h).2 in
    let e = length-drop 4 bs in
    omega arith

pub set_shorter : (bs : List ℕ) (s : SetShape) (rest : List ℕ) → cut_set bs ≡ Some (s, rest) → length rest < length bs
unfolding cut_set
set_shorter bs s rest h =
    let y : SetShape × List ℕ = (s, rest) in
    let a = then_undone _ _ y h in
    let b = then_undone _ _ y a.2 in
    let c = then_undone _ _ y b.2 in
    let d = then_undone _ _ y c.2 in
    let e = ap (λ (z : SetShape × List ℕ). length (z.1)) (some_same _ y d.2) in
    let i = list_shorter bs a.0.0 a.0.1 a.1 in
    let j = byte_shorter a.0.1 b.0.0 b.0.1 b.1 in
    let k = number_shorter b.0.1 c.0.0 c.0.1 c.1 in
    let l = list_shorter c.0.1 d.0.0 d.0.1 d.1 in
    omega arith

upto_nil : (n : ℕ) → sets_upto n [] ≡ Some []
unfolding sets_upto
upto_nil zero = refl
upto_nil (suc n) = refl

more_sets : (n : ℕ) (o : Option (SetShape × List ℕ)) → Option (List SetShape)
more_sets n None = None
more_sets n (Some p) = option_map (λ ss. p.0 ∷ ss) (sets_upto n p.1)

upto_suc : (n b : ℕ) (bs : List ℕ) (o : Option (SetShape × List ℕ)) → cut_set (b ∷ bs) ≡ o → sets_upto (suc n) (b ∷ bs) ≡ more_sets n o
unfolding sets_upto then more_sets
upto_suc n b bs None e = ap (λ x. then x (λ s rest. option_map (λ ss. s ∷ ss) (sets_upto n rest))) e
upto_suc n b bs (Some p) e = ap (λ x. then x (λ s rest. option_map (λ ss. s ∷ ss) (sets_upto n rest))) e

-- more than the bytes that are there changes nothing
enough : (n m : ℕ) (bs : List ℕ) → length bs ≤ n → length bs ≤ m → sets_upto n bs ≡ sets_upto m bs
unfolding more_sets
enough n m [] h k = upto_nil n ∙ sym (upto_nil m)
enough zero m (b ∷ bs) h k = absurd (omega arith)
enough (suc n) zero (b ∷ bs) h k = absurd (omega arith)
enough (suc n) (suc m) (b ∷ bs) h k = go (cut_set (b ∷ bs)) refl (λ rest. enough n m rest)
  where
    go : (o : Option (SetShape × List ℕ)) → cut_set (b ∷ bs) ≡ o → ((rest : List ℕ) → length rest ≤ n → length rest ≤ m → sets_upto n rest ≡ sets_upto m rest) → sets_upto (suc n) (b ∷ bs) ≡ sets_upto (suc m) (b ∷ bs)
    go None e ih = upto_suc n b bs None e ∙ sym (upto_suc m b bs None e)
    go (Some p) e ih =
        let s = set_shorter (b ∷ bs) p.0 p.1 e in
        upto_suc n b bs (Some p) e ∙ ap (option_map (λ ss. p.0 ∷ ss)) (ih p.1 (omega arith) (omega arith)) ∙ sym (upto_suc m b bs (Some p) e)

pub no_sets : (bs : List ℕ) → length bs ≡ 0 → sets_in bs ≡ Some []
no_sets [] h = upto_nil 0
no_sets (b ∷ bs) h = absurd (omega arith)

pub sets_short : (bs : List ℕ) → 0 < length bs → cut_set bs ≡ None → sets_in bs ≡ None
unfolding more_sets
sets_short [] l h = absurd (omega arith)
sets_short (b ∷ bs) l h = upto_suc (length bs) b bs None h

pub sets_step : (bs : List ℕ) (s : SetShape) (rest : List ℕ) → 0 < length bs → cut_set bs ≡ Some (s, rest) → sets_in bs ≡ option_map (λ ss. s ∷ ss) (sets_in rest)
unfolding more_sets
sets_step [] s rest l h = absurd (omega arith)
sets_step (b ∷ bs) s rest l h =
    let z = set_shorter (b ∷ bs) s rest h in
    upto_suc (length bs) b bs (Some (s, rest)) h ∙ ap (option_map (λ ss. s ∷ ss)) (enough (length bs) (length rest) rest (omega arith) (omega arith))

-- ---- the loop: the sets so far with those of the rest are all, unless memory ended

pub record Setting (whole : List ℕ) (r : Result (List Set) Fault) (rest : List ℕ) : Type 0 where
  pub short : sets_in rest ≡ None → sets_in whole ≡ None
  pub told : (shaped all_sets (sets_in whole) ≡ shaped (with_sets r) (sets_in rest)) ⊎ (r ≡ Err NoMemory)

pub none_set : (whole : List ℕ) (r : Result (List Set) Fault) → r ≡ Ok [] → Setting whole r whole
none_set whole r e = record { short = λ h. h; told = inl (ap (λ x. shaped (with_sets x) (sets_in whole)) (sym e)) }

-- nothing is lower than that memory ended
lost_before : (x : Result Set Fault) → with_set (Err NoMemory) x ≡ Err NoMemory
lost_before (Ok s) = refl
lost_before (Err g) = refl

lower_lost : (f : Fault) → lower f NoMemory ≡ NoMemory
lower_lost Malformed = refl
lower_lost BadName = refl
lower_lost BadData = refl
lower_lost Misplaced = refl
lower_lost Conflict = refl
lower_lost StaleSerial = refl
lower_lost TooMuch = refl
lower_lost NotPending = refl
lower_lost WrongApex = refl
lower_lost BadTransfer = refl
lower_lost CacheFull = refl
lower_lost NoMemory = refl

lost_behind : (r : Result (List Set) Fault) → with_set r (Err NoMemory) ≡ Err NoMemory
lost_behind (Ok ss) = refl
lost_behind (Err f) = ap (λ g. Err g) (lower_lost f)

with_first : (r : Result (List Set) Fault) (s : SetShape) (x : Result Set Fault) (o : Option (List SetShape)) → set_in s ≡ x → shaped (with_sets r) (option_map (λ ss. s ∷ ss) o) ≡ shaped (with_sets (with_set r x)) o
unfolding with_sets
with_first r s x None e = refl
with_first r s x (Some ss) e = ap (λ y. with_sets (with_set r y) ss) e

-- what is due, or that memory ended
abbrev pub Gives : Result (List Set) Fault → Result (List Set) Fault → Type 0
Gives due (Ok ss) = due ≡ Ok ss
Gives due (Err f) = (due ≡ Err f) ⊎ (f ≡ NoMemory)

gives_so : (due r : Result (List Set) Fault) → Gives due r → (due ≡ r) ⊎ (r ≡ Err NoMemory)
gives_so due (Ok ss) g = inl g
gives_so due (Err f) g = ⊎_elim (λ d. inl d) (λ m. inr (ap (λ y. Err y) m)) g

-- a set that was read, or that memory ended
read_so : (due : Result Set Fault) (x : Result RecordSet Fault) → Reads set_of due x → (due ≡ set_given x) ⊎ (set_given x ≡ Err NoMemory)
read_so due (Ok s) h = inl h
read_so due (Err f) h = ⊎_elim (λ d. inl d) (λ m. inr (ap (λ y. Err y) m)) h

lost_so : (due r : Result (List Set) Fault) → due ≡ Err NoMemory → Gives due r → r ≡ Err NoMemory
lost_so due (Ok ss) e g = let z : ◌≡◌ {A = Result (List Set) Fault} (Err NoMemory) (Ok ss) = sym e ∙ g in cc
lost_so due (Err f) e g = ⊎_elim (λ d. sym d ∙ e) (λ m. ap (λ y. Err y) m) g

module _ (whole : List ℕ) (r : Result (List Set) Fault) (rest : List ℕ) (s : SetShape) (after : List ℕ) (x : Result RecordSet Fault) (y : Result (List Set) Fault) (t : Setting whole r rest) (l : 0 < length rest) (h : cut_set rest ≡ Some (s, after)) (reads : Reads set_of (set_in s) x) (gives : Gives (with_set r (set_given x)) y) where
  abbrev Next : Type 0
  Next = (shaped all_sets (sets_in whole) ≡ shaped (with_sets y) (sets_in after)) ⊎ (y ≡ Err NoMemory)

  by_both : shaped all_sets (sets_in whole) ≡ shaped (with_sets r) (sets_in rest) → set_in s ≡ set_given x → with_set r (set_given x) ≡ y → Next
  by_both e d g =
      inl (e ∙ ap (shaped (with_sets r)) (sets_step rest s after l h) ∙ with_first r s (set_given x) (sets_in after) d ∙ ap (λ z. shaped (with_sets z) (sets_in after)) g)

  by_told : shaped all_sets (sets_in whole) ≡ shaped (with_sets r) (sets_in rest) → Next
  by_told e =
      ⊎_elim (λ d. ⊎_elim (λ g. by_both e d g) (λ m. inr m) (gives_so (with_set r (set_given x)) y gives))
      (λ m. inr (lost_so (with_set r (set_given x)) y (ap (with_set r) m ∙ lost_behind r) gives)) (read_so (set_in s) x reads)

  by_lost : r ≡ Err NoMemory → Next
  by_lost e = inr (lost_so (with_set r (set_given x)) y (ap (λ z. with_set z (set_given x)) e ∙ lost_before (set_given x)) gives)

  pub one_set : Setting whole y after
  one_set = record { short = λ none. t.short (sets_step rest s after l h ∙ ap (option_map (λ ss. s ∷ ss)) none); told = ⊎_elim by_told by_lost t.told }

-- at the end of the packet
pub all_set : (whole : List ℕ) (r : Result (List Set) Fault) (rest : List ℕ) → Setting whole r rest → length rest ≡ 0 → (shaped all_sets (sets_in whole) ≡ r) ⊎ (r ≡ Err NoMemory)
unfolding with_sets
all_set whole r rest t e = ⊎_elim (λ d. inl (d ∙ ap (shaped (with_sets r)) (no_sets rest e))) (λ m. inr m) t.told

pub cut_short : (whole : List ℕ) (r : Result (List Set) Fault) (rest : List ℕ) → Setting whole r rest → 0 < length rest → cut_set rest ≡ None → shaped all_sets (sets_in whole) ≡ Err Malformed
cut_short whole r rest t l h = ap (shaped all_sets) (t.short (sets_short rest l h))

-- as the code holds them
pub reads_gives : {Z : Type 0} (due : Result (List Set) Fault) (r : Result (Vec RecordSet Z) Fault) → Reads sets_of due r → Gives due (sets_given r)
reads_gives due (Ok v) h = h
reads_gives due (Err f) h = h

no_err : {Z : Type 0} (v : Vec RecordSet Z) → ◌≡◌ {A = Result (List Set) Fault} (Ok (sets_of v)) (Err NoMemory) → ⊥
no_err v h = let z : ◌≡◌ {A = ℕ} 0 1 = cc in omega arith

fault_so : (f g : Fault) → ◌≡◌ {A = Result (List Set) Fault} (Err f) (Err g) → f ≡ g
fault_so f g h = cc

pub set_all : {Z : Type 0} (due : Result (List Set) Fault) (r : Result (Vec RecordSet Z) Fault) → (due ≡ sets_given r) ⊎ (sets_given r ≡ Err NoMemory) → Reads sets_of due r
set_all due (Ok v) h = ⊎_elim (λ d. d) (λ m. absurd (no_err v m)) h
set_all due (Err f) h = ⊎_elim (λ d. inl d) (λ m. inr (fault_so f NoMemory m)) h
