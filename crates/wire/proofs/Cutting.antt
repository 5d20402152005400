-- What is cut off the front of a packet: the cuts by what was found, and the loop that walks a list.
use Rattle.std.proofs.Common.{◌≡◌, ℕ, zero, suc, ◌-◌, ◌<◌, ◌≤◌, Bool, true, false, cond, ◌&&◌, leb, List, [], ◌∷◌, ◌++◌, length, get_or, take, drop, Some, None, Ok, Err, Option, sym, refl, ap, ◌∙◌, append_assoc, append-nil, arith, length-append}
use Rattle.std.specs.Int.{Width, byte_len, from_be_bytes}
use Rattle.std.specs.List.{between}
use Rattle.std.specs.Option.{option_map}
use Rattle.std.proofs.lemmas.Slice.{first_rest}
use Rattle.std.proofs.lemmas.List.{take_at, drop_at}
use Rattle.std.proofs.lemmas.Bool.{cond-true, cond-false, le-leb, lt-leb}
use Rattle.names.specs.declared.fault.Fault.TheVariants.{BadName}
use Rattle.names.specs.Labels.{proper, written}
use Rattle.names.specs.Names.{name_of}
use Rattle.names.specs.Wire.{wire_labels, wire, cut_label, behind, cut_labels, judged, read_wire, name_read}
use Rattle.names.proofs.Cutting.{cut_one, cut_none, labels_back, cut_back}
use Rattle.wire.specs.Cuts.{cut_byte, cut_number, cut_list, cut_list_if, cut_what, then}

-- ---- bytes and numbers

pub no_byte : (bs : List ℕ) → length bs ≡ 0 → cut_byte bs ≡ None
unfolding cut_byte
no_byte [] h = refl
no_byte (b ∷ bs) h = absurd (omega arith)

first_byte : (b : ℕ) (bs : List ℕ) → cut_byte (b ∷ bs) ≡ Some (b, bs)
unfolding cut_byte
first_byte b bs = refl

pub one_byte : (bs : List ℕ) → 0 < length bs → cut_byte bs ≡ Some (get_or bs 0 0, between 1 (length bs) bs)
one_byte bs h = ap cut_byte (first_rest bs 0 h) ∙ first_byte (get_or bs 0 0) (between 1 (length bs) bs)

pub no_number : (w : Width) (bs : List ℕ) → length bs < byte_len w → cut_number w bs ≡ None
unfolding cut_number
no_number w bs h = cond-false (leb (byte_len w) (length bs)) (Some (from_be_bytes w (take (byte_len w) bs), drop (byte_len w) bs)) None (lt-leb (byte_len w) (length bs) h)

pub one_number : (w : Width) (bs front rest : List ℕ) (n : ℕ) → byte_len w ≤ length bs → front ≡ take (byte_len w) bs → rest ≡ drop (byte_len w) bs → n ≡ from_be_bytes w front → cut_number w bs ≡ Some (n, rest)
unfolding cut_number
one_number w bs front rest n h f r e =
    cond-true (leb (byte_len w) (length bs)) (Some (from_be_bytes w (take (byte_len w) bs), drop (byte_len w) bs)) None (le-leb (byte_len w) (length bs) h)
    ∙ (λ i. Some (from_be_bytes w (sym f i), sym r i)) ∙ ap (λ m. Some (m, rest)) (sym e)

-- ---- the loop that walks a list: of n pieces in bs, k are still to be cut from rest

pub record Walking (n : ℕ) (bs : List ℕ) (k : ℕ) (rest : List ℕ) : Type 0 where
  pub cut : List (List ℕ)
  pub so_far : cut_labels n bs ≡ behind cut (cut_labels k rest)

pub none_walked : (n : ℕ) (bs : List ℕ) (k : ℕ) → k ≡ n → Walking n bs k bs
none_walked n bs k e = record { cut = []; so_far = sym (at_front (cut_labels k bs) ∙ ap (λ j. cut_labels j bs) e) }
  where
    at_front : (o : Option (List (List ℕ) × List ℕ)) → behind [] o ≡ o
    at_front None = refl
    at_front (Some p) = refl

behind_more : (ls : List (List ℕ)) (l : List ℕ) (o : Option (List (List ℕ) × List ℕ)) → behind ls (behind (l ∷ []) o) ≡ behind (ls ++ l ∷ []) o
behind_more ls l None = refl
behind_more ls l (Some p) = ap (λ x. Some (x, p.1)) (sym (append_assoc ls (l ∷ []) p.0))

pub one_walked : (n : ℕ) (bs : List ℕ) (k j : ℕ) (rest l after : List ℕ) → Walking n bs k rest → k ≡ suc j → cut_label rest ≡ Some (l, after) → Walking n bs j after
one_walked n bs k j rest l after w e h =
    record {
      cut = w.cut ++ l ∷ [];
      so_far = w.so_far ∙ ap (λ i. behind w.cut (cut_labels i rest)) e ∙ ap (behind w.cut) (cut_one j rest l after h) ∙ behind_more w.cut l (cut_labels j after);
    }

by_first : (n : ℕ) (bs : List ℕ) (o : Option (List (List ℕ) × List ℕ)) → cut_labels n bs ≡ o → cut_list (n ∷ bs) ≡ o
unfolding cut_list
by_first n bs o h = h

pub no_list : (bs : List ℕ) → length bs ≡ 0 → cut_list bs ≡ None
unfolding cut_list
no_list [] h = refl
no_list (b ∷ bs) h = absurd (omega arith)

pub walk_short : (whole : List ℕ) (k j : ℕ) (rest : List ℕ) → 0 < length whole → Walking (get_or whole 0 0) (between 1 (length whole) whole) k rest → k ≡ suc j → cut_label rest ≡ None → cut_list whole ≡ None
walk_short whole k j rest some w e h =
    ap cut_list (first_rest whole 0 some)
    ∙ by_first (get_or whole 0 0) (between 1 (length whole) whole) None (w.so_far ∙ ap (λ i. behind w.cut (cut_labels i rest)) e ∙ ap (behind w.cut) (cut_none j rest h))

-- the list, and what stands behind it
pub record Walked (whole rest : List ℕ) : Type 0 where
  pub pieces : List (List ℕ)
  pub cut : cut_list whole ≡ Some (pieces, rest)
  pub so : wire pieces ++ rest ≡ whole
  pub within : length rest ≤ length whole

labels_none : (bs : List ℕ) → cut_labels zero bs ≡ Some ([], bs)
unfolding cut_labels
labels_none bs = refl

by_count : (n : ℕ) (ps : List (List ℕ)) (rest bs : List ℕ) → length ps ≡ n → wire_labels ps ++ rest ≡ bs → wire ps ++ rest ≡ n ∷ bs
unfolding wire
by_count n ps rest bs e h = λ i. e i ∷ h i

pub walked : (whole : List ℕ) (k : ℕ) (rest : List ℕ) → 0 < length whole → Walking (get_or whole 0 0) (between 1 (length whole) whole) k rest → k ≡ 0 → Walked whole rest
walked whole k rest some w e =
    let n = get_or whole 0 0 in
    let bs = between 1 (length whole) whole in
    let all : cut_labels n bs ≡ Some (w.cut, rest) = w.so_far ∙ ap (λ i. behind w.cut (cut_labels i rest)) e ∙ ap (behind w.cut) (labels_none rest) ∙ ap (λ x. Some (x, rest)) (append-nil w.cut) in
    let back = cut_back n bs w.cut rest all in
    let so : wire w.cut ++ rest ≡ whole = by_count n w.cut rest bs back.0 back.1 ∙ sym (first_rest whole 0 some) in
    let a = length-append (wire w.cut) rest in
    let b = ap length so in
    record {
      pieces = w.cut;
      cut = ap cut_list (first_rest whole 0 some) ∙ by_first n bs (Some (w.cut, rest)) all;
      so = so;
      within = omega arith;
    }

pub list_front : (whole rest : List ℕ) (w : Walked whole rest) (m : ℕ) → m ≡ length whole - length rest → (take m whole ≡ wire w.pieces) × (drop m whole ≡ rest)
list_front whole rest w m e =
    let a = length-append (wire w.pieces) rest in
    let b = ap length w.so in
    let n : m ≡ length (wire w.pieces) = omega arith in
    (ap (take m) (sym w.so) ∙ take_at (wire w.pieces) rest m (sym n), ap (drop m) (sym w.so) ∙ drop_at (wire w.pieces) rest m (sym n))

-- ---- what a whole list gives

pub list_back : (ps : List (List ℕ)) (rest : List ℕ) → cut_list (wire ps ++ rest) ≡ Some (ps, rest)
unfolding wire
list_back ps rest = by_first (length ps) (wire_labels ps ++ rest) (Some (ps, rest)) (labels_back ps rest)

read_first : (n : ℕ) (bs : List ℕ) (o : Option (List (List ℕ) × List ℕ)) → cut_labels n bs ≡ o → read_wire (n ∷ bs) ≡ judged o
unfolding read_wire
read_first n bs o h = ap judged h

-- a name, read from a list of its own
pub name_back : (ls : List (List ℕ)) (bs : List ℕ) → bs ≡ wire ls → name_read (read_wire bs) ≡ name_of ls
unfolding wire
name_back ls bs h =
    ap (λ x. name_read (read_wire x)) (h ∙ sym (append-nil (wire ls)))
    ∙ ap name_read (read_first (length ls) (wire_labels ls ++ []) (Some (ls, [])) (labels_back ls []))
    ∙ told (proper ls)
  where
    told : (b : Bool) → name_read (cond b (Ok (ls, [])) (Err BadName)) ≡ cond b (Ok ls) (Err BadName)
    told true = refl
    told false = refl

-- ---- a name that is there or not, and what a response is

pub list_there : (b : Bool) (bs : List ℕ) → b ≡ true → cut_list_if b bs ≡ cut_list bs
unfolding cut_list_if
list_there b bs h = cond-true b (cut_list bs) (Some ([], bs)) h

pub no_list_there : (b : Bool) (bs : List ℕ) → b ≡ false → cut_list_if b bs ≡ Some ([], bs)
unfolding cut_list_if
no_list_there b bs h = cond-false b (cut_list bs) (Some ([], bs)) h

pub root_name : name_of [] ≡ Ok []
unfolding proper written
root_name = refl

pub what_there : (bs : List ℕ) (o : Option ℕ) → 0 < length bs → o ≡ cond (leb 1 (get_or bs 0 0) && leb (get_or bs 0 0) 7) (Some (get_or bs 0 0)) None → cut_what bs ≡ option_map (λ n. (n, between 1 (length bs) bs)) o
unfolding then cut_what
what_there bs o h e =
    ap (λ c. then c (λ what rest. cond (leb 1 what && leb what 7) (Some (what, rest)) None)) (one_byte bs h)
    ∙ go (leb 1 (get_or bs 0 0) && leb (get_or bs 0 0) 7)
    ∙ ap (option_map (λ n. (n, between 1 (length bs) bs))) (sym e)
  where
    go : (c : Bool) → cond {A = Option (ℕ × List ℕ)} c (Some (get_or bs 0 0, between 1 (length bs) bs)) None ≡ option_map (λ n. (n, between 1 (length bs) bs)) (cond c (Some (get_or bs 0 0)) None)
    go true = refl
    go false = refl

pub no_what : (bs : List ℕ) → length bs ≡ 0 → cut_what bs ≡ None
unfolding then cut_what
no_what bs h = ap (λ c. then c (λ what rest. cond (leb 1 what && leb what 7) (Some (what, rest)) None)) (no_byte bs h)
