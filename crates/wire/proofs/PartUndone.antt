-- Whatever is read as a part was written so.
use Rattle.std.proofs.Common.{◌≡◌, ℕ, zero, suc, ◌≤◌, Bool, true, false, cond, ◌&&◌, ◌||◌, eqb, leb, ltb, List, [], ◌∷◌, ◌++◌, length, Some, None, Ok, Err, Option, Result, subst, true≢false, sym, refl, ap, ◌∙◌, append_assoc, append-nil, arith}
use Rattle.std.specs.Int.{w16, w32, w64, to_be_bytes}
use Rattle.std.specs.Option.{option_map}
use Rattle.std.proofs.lemmas.Bool.{and_from, eqb-true, eq-eqb, le-leb, cond-true, cond-false}
use Rattle.names.specs.declared.fault.Fault.{Fault}
use Rattle.names.specs.declared.fault.Fault.TheVariants.{BadData, StaleSerial}
use Rattle.names.specs.Labels.{proper, written}
use Rattle.names.specs.Names.{name_of}
use Rattle.names.specs.Reading.{labels_in, is_dot, read_name}
use Rattle.names.specs.Wire.{wire}
use Rattle.names.proofs.RoundTrip.{written_laws}
use Rattle.meaning.specs.Model.{is_kind, is_serial, delegates, aliases, Content, Addresses, Texts, Others, AliasOf, Delegated, fits, Set}
use Rattle.meaning.specs.Transfer.{pieces, transferred, all_transferred}
use Rattle.wire.specs.Cuts.{at_end}
use Rattle.wire.specs.Laws.{are_bytes}
use Rattle.wire.specs.Shapes.{SetShape, Times, Head, PartShape, cut_set, sets_upto, sets_in, cut_times, cut_head, sets_behind, part_shape}
use Rattle.wire.specs.Parts.{Part, are_addresses, addresses_from, last_name, alias_of, alias_to, content_in, set_in, lower, with_set, with_sets, all_sets, part_in, times_bytes, head_bytes, part_bytes, times_keep, head_keeps, content_keeps, set_keeps, sets_keep, sets_belong, part_keeps}
use Rattle.wire.proofs.Copying.{same_pair}
use Rattle.wire.proofs.PartBacks.{set_spread}
use Rattle.wire.proofs.Undone.{then_undone, next_undone, ok_same, some_same, passed, end_undone, byte_undone, list_undone, eight_undone, four_undone, two_undone, name_undone, kind_undone}

-- ---- data

root_proper : proper [] ≡ true
unfolding proper written
root_proper = refl

read_proper : (t : List ℕ) (n : List (List ℕ)) → read_name t ≡ Ok n → proper n ≡ true
unfolding read_name
read_proper t n h = go (is_dot t) h
  where
    go : (b : Bool) → cond b (Ok []) (name_of (labels_in t)) ≡ Ok n → proper n ≡ true
    go true k = ap proper (sym (ok_same [] n k)) ∙ root_proper
    go false k = let p = name_undone (labels_in t) n k in ap proper (sym p.1) ∙ p.0

-- one form of an alias's piece
alias_undone : (ps n : List (List ℕ)) → alias_of ps ≡ Ok n → (written n ∷ [] ≡ ps) × (proper n ≡ true)
unfolding last_name
alias_undone ps n h =
    let a = next_undone _ _ n h in
    let p = passed (eqb (length ps) 1) (Ok a.0) n BadData a.2 in
    go ps (eqb-true (length ps) 1 p.0) (a.1 ∙ p.1)
  where
    go : (qs : List (List ℕ)) → length qs ≡ 1 → last_name [] qs ≡ Ok n → (written n ∷ [] ≡ qs) × (proper n ≡ true)
    go [] l k = absurd (omega arith)
    go (q ∷ r ∷ qs) l k = absurd (omega arith)
    go (q ∷ []) l k =
        let b = next_undone _ _ n k in
        let e = b.1 ∙ b.2 in
        (ap (λ x. x ∷ []) (written_laws.written_read q n e), read_proper q n e)

abbrev Told : List (List ℕ) → Content → Type 0
Told ps c = (pieces c ≡ ps) × (content_keeps c ≡ true)

alias_told : (ps : List (List ℕ)) (c : Content) → alias_to (alias_of ps) ≡ Ok c → Told ps c
alias_told ps c h = go (alias_of ps) refl h
  where
    go : (r : Result (List (List ℕ)) Fault) → alias_of ps ≡ r → alias_to r ≡ Ok c → Told ps c
    go (Ok n) e k = subst (Told ps) (ok_same (AliasOf n) c k) (alias_undone ps n e)
    go (Err f) e k = cc

addresses_told : (f : List (List ℕ) → Content) (ps : List (List ℕ)) (c : Content) → (are_addresses ps ≡ true → Told ps (f ps)) → addresses_from f ps ≡ Ok c → Told ps c
addresses_told f ps c t h = let p = passed (are_addresses ps) (Ok (f ps)) c BadData h in subst (Told ps) (ok_same (f ps) c p.1) (t p.0)

content_by : (a b d e : Bool) (ps : List (List ℕ)) (c : Content) → cond a (addresses_from Addresses ps) (cond b (Ok (Texts ps)) (cond d (addresses_from (λ xs. Delegated (record { servers = xs })) ps) (cond e (alias_to (alias_of ps)) (Ok (Others ps))))) ≡ Ok c → Told ps c
content_by true b d e ps c h = addresses_told Addresses ps c (λ k. (refl, k)) h
content_by false true d e ps c h = subst (Told ps) (ok_same (Texts ps) c h) (refl, refl)
content_by false false true e ps c h = addresses_told (λ xs. Delegated (record { servers = xs })) ps c (λ k. (refl, k)) h
content_by false false false true ps c h = alias_told ps c h
content_by false false false false ps c h = subst (Told ps) (ok_same (Others ps) c h) (refl, refl)

content_undone : (k : ℕ) (ps : List (List ℕ)) (c : Content) → content_in k ps ≡ Ok c → Told ps c
content_undone k ps c h = content_by (eqb k 1) (eqb k 2) (delegates k) (aliases k) ps c h

-- ---- a set

pub record SetRead (bs : List ℕ) (s : SetShape) (rest : List ℕ) : Type 0 where
  pub so : wire s.name ++ (s.kind ∷ (to_be_bytes w32 s.ttl ++ (wire s.pieces ++ rest))) ≡ bs
  pub ttl : ltb s.ttl 4294967296 ≡ true
  pub bytes : are_bytes rest ≡ true

set_cut_undone : (bs : List ℕ) (s : SetShape) (rest : List ℕ) → are_bytes bs ≡ true → cut_set bs ≡ Some (s, rest) → SetRead bs s rest
unfolding cut_set
set_cut_undone bs s rest u h =
    let y : SetShape × List ℕ = (s, rest) in
    let a = then_undone _ _ y h in
    let n = list_undone bs a.0.0 a.0.1 u a.1 in
    let b = then_undone _ _ y a.2 in
    let k = byte_undone a.0.1 b.0.0 b.0.1 n.bytes b.1 in
    let c = then_undone _ _ y b.2 in
    let t = four_undone b.0.1 c.0.0 c.0.1 k.bytes c.1 in
    let d = then_undone _ _ y c.2 in
    let l = list_undone c.0.1 d.0.0 d.0.1 t.at.bytes d.1 in
    let e = same_pair (record { name = a.0.0; kind = b.0.0; ttl = c.0.0; pieces = d.0.0 }) s d.0.1 rest d.2 in
    subst (λ r. SetRead bs s r) e.1 (subst (λ x. SetRead bs x d.0.1) e.0 (record {
      so =
          ap (λ r. wire a.0.0 ++ (b.0.0 ∷ (to_be_bytes w32 c.0.0 ++ r))) l.so
          ∙ ap (λ r. wire a.0.0 ++ (b.0.0 ∷ r)) t.at.so
          ∙ ap (λ r. wire a.0.0 ++ r) k.so
          ∙ n.so;
      ttl = t.below;
      bytes = l.bytes;
    }))

-- a set that was read: its bytes, and that it keeps the rules
abbrev SetSo : List ℕ → List ℕ → Set → Type 0
SetSo bs rest x = (transferred x ++ rest ≡ bs) × (set_keeps x ≡ true)

set_undone : (bs : List ℕ) (s : SetShape) (rest : List ℕ) (x : Set) → SetRead bs s rest → set_in s ≡ Ok x → SetSo bs rest x
unfolding set_in
set_undone bs s rest x r h =
    let a = next_undone _ _ x h in
    let n = name_undone s.name a.0 a.1 in
    let b = next_undone _ _ x a.2 in
    let k = kind_undone s.kind b.0 b.1 in
    let c = next_undone _ _ x b.2 in
    let t = content_undone b.0 s.pieces c.0 c.1 in
    let f = passed (fits b.0 c.0) (Ok (record { name = a.0; kind = b.0; ttl = s.ttl; content = c.0 })) x BadData c.2 in
    let y : Set = record { name = s.name; kind = s.kind; ttl = s.ttl; content = c.0 } in
    let same : y ≡ x = (λ i. record { name = n.1 i; kind = k.1 i; ttl = s.ttl; content = c.0 }) ∙ ok_same (record { name = a.0; kind = b.0; ttl = s.ttl; content = c.0 }) x f.1 in
    let l = ltb s.ttl 4294967296 in
    let w = fits s.kind c.0 in
    subst (SetSo bs rest) same (
      set_spread y rest ∙ ap (λ ps. wire s.name ++ (s.kind ∷ (to_be_bytes w32 s.ttl ++ (wire ps ++ rest)))) t.0 ∙ r.so,
      and_from (proper s.name && is_kind s.kind && l && w) (content_keeps c.0)
          (and_from (proper s.name && is_kind s.kind && l) w (and_from (proper s.name && is_kind s.kind) l (and_from (proper s.name) (is_kind s.kind) n.0 k.0) r.ttl) (ap (λ j. fits j c.0) k.1 ∙ f.0)) t.1,
    )

-- ---- all sets

lost : (g : Fault) (ss : List SetShape) (out : List Set) → with_sets (Err g) ss ≡ Ok out → ⊥
unfolding with_sets
lost g [] out h = let z : ◌≡◌ {A = ℕ} 0 1 = cc in omega arith
lost g (s ∷ ss) out h = go (set_in s) refl (λ f. lost f ss out)
  where
    go : (r : Result Set Fault) → set_in s ≡ r → ((f : Fault) → with_sets (Err f) ss ≡ Ok out → ⊥) → ⊥
    go (Ok x) e ih = ih g (ap (λ y. with_sets (with_set (Err g) y) ss) (sym e) ∙ h)
    go (Err f) e ih = ih (lower g f) (ap (λ y. with_sets (with_set (Err g) y) ss) (sym e) ∙ h)

-- behind those that were read before
pub record SetsRead (bs : List ℕ) (done out : List Set) : Type 0 where
  pub sets : List Set
  pub all : out ≡ done ++ sets
  pub so : all_transferred sets ≡ bs
  pub keep : sets_keep sets ≡ true

more_undone : {A : Type 0} (x : A) (o : Option (List A)) (ys : List A) → option_map (λ xs. x ∷ xs) o ≡ Some ys → (xs : List A) × (o ≡ Some xs) × (x ∷ xs ≡ ys)
more_undone x None ys h = cc
more_undone x (Some xs) ys h = (xs, refl, some_same (x ∷ xs) ys h)

nothing_sent : all_transferred [] ≡ []
unfolding all_transferred
nothing_sent = refl

none_read : (done out : List Set) (ss : List SetShape) → [] ≡ ss → with_sets (Ok done) ss ≡ Ok out → SetsRead [] done out
unfolding with_sets
none_read done out ss e h = record { sets = []; all = sym (ok_same done out (ap (λ xs. with_sets (Ok done) xs) e ∙ h)) ∙ sym (append-nil done); so = nothing_sent; keep = refl }

one_read : (bs rest : List ℕ) (done out : List Set) (x : Set) → SetSo bs rest x → SetsRead rest (done ++ x ∷ []) out → SetsRead bs done out
unfolding all_transferred
one_read bs rest done out x s r =
    record {
      sets = x ∷ r.sets;
      all = r.all ∙ append_assoc done (x ∷ []) r.sets;
      so = ap (λ b. transferred x ++ b) r.so ∙ s.0;
      keep = and_from (set_keeps x) (sets_keep r.sets) s.1 r.keep;
    }

upto_undone : (n : ℕ) (bs : List ℕ) (ss : List SetShape) (done out : List Set) → are_bytes bs ≡ true → sets_upto n bs ≡ Some ss → with_sets (Ok done) ss ≡ Ok out → SetsRead bs done out
unfolding sets_upto with_sets
upto_undone zero [] ss done out u h k = none_read done out ss (some_same [] ss h) k
upto_undone (suc n) [] ss done out u h k = none_read done out ss (some_same [] ss h) k
upto_undone zero (b ∷ bs) ss done out u h k = cc
upto_undone (suc n) (b ∷ bs) ss done out u h k =
    let a = then_undone _ _ ss h in
    let r = set_cut_undone (b ∷ bs) a.0.0 a.0.1 u a.1 in
    let m = more_undone a.0.0 (sets_upto n a.0.1) ss a.2 in
    go a.0.0 a.0.1 m.0 r m.1 (ap (λ xs. with_sets (Ok done) xs) m.2 ∙ k) (set_in a.0.0) refl (upto_undone n a.0.1 m.0)
  where
    go : (s : SetShape) (rest : List ℕ) (xs : List SetShape) → SetRead (b ∷ bs) s rest → sets_upto n rest ≡ Some xs → with_sets (Ok done) (s ∷ xs) ≡ Ok out → (r : Result Set Fault) → set_in s ≡ r → ((before after : List Set) → are_bytes rest ≡ true → sets_upto n rest ≡ Some xs → with_sets (Ok before) xs ≡ Ok after → SetsRead rest before after) → SetsRead (b ∷ bs) done out
    go s rest xs c m k (Ok x) e ih = one_read (b ∷ bs) rest done out x (set_undone (b ∷ bs) s rest x c e) (ih (done ++ x ∷ []) out c.bytes m (ap (λ y. with_sets (with_set (Ok done) y) xs) (sym e) ∙ k))
    go s rest xs c m k (Err f) e ih = absurd (lost f xs out (ap (λ y. with_sets (with_set (Ok done) y) xs) (sym e) ∙ k))

-- ---- a head

pub record TimesRead (bs : List ℕ) (t : Times) (rest : List ℕ) : Type 0 where
  pub so : times_bytes t ++ rest ≡ bs
  pub keep : times_keep t ≡ true
  pub bytes : are_bytes rest ≡ true

times_undone : (bs : List ℕ) (t : Times) (rest : List ℕ) → are_bytes bs ≡ true → cut_times bs ≡ Some (t, rest) → TimesRead bs t rest
unfolding cut_times
times_undone bs t rest u h =
    let y : Times × List ℕ = (t, rest) in
    let a = then_undone _ _ y h in
    let n = four_undone bs a.0.0 a.0.1 u a.1 in
    let b = then_undone _ _ y a.2 in
    let r = four_undone a.0.1 b.0.0 b.0.1 n.at.bytes b.1 in
    let c = then_undone _ _ y b.2 in
    let x = four_undone b.0.1 c.0.0 c.0.1 r.at.bytes c.1 in
    let e = same_pair (record { negative = a.0.0; refresh = b.0.0; expire = c.0.0 }) t c.0.1 rest c.2 in
    let l = ltb a.0.0 4294967296 in
    let m = ltb b.0.0 4294967296 in
    subst (λ z. TimesRead bs t z) e.1 (subst (λ z. TimesRead bs z c.0.1) e.0 (record {
      so = ap (λ z. to_be_bytes w32 a.0.0 ++ (to_be_bytes w32 b.0.0 ++ z)) x.at.so ∙ ap (λ z. to_be_bytes w32 a.0.0 ++ z) r.at.so ∙ n.at.so;
      keep = and_from (l && m) (ltb c.0.0 4294967296) (and_from l m n.below r.below) x.below;
      bytes = x.at.bytes;
    }))

-- whether the serial is one is told later
pub record HeadRead (bs : List ℕ) (h : Head) (rest : List ℕ) : Type 0 where
  pub so : head_bytes h ++ rest ≡ bs
  pub keep : is_serial h.serial ≡ true → head_keeps h ≡ true
  pub bytes : are_bytes rest ≡ true

head_undone : (bs : List ℕ) (h : Head) (rest : List ℕ) → are_bytes bs ≡ true → cut_head bs ≡ Some (h, rest) → HeadRead bs h rest
unfolding cut_head
head_undone bs h rest u k =
    let y : Head × List ℕ = (h, rest) in
    let a = then_undone _ _ y k in
    let i = eight_undone bs a.0.0 a.0.1 u a.1 in
    let b = then_undone _ _ y a.2 in
    let s = eight_undone a.0.1 b.0.0 b.0.1 i.at.bytes b.1 in
    let c = then_undone _ _ y b.2 in
    let m = eight_undone b.0.1 c.0.0 c.0.1 s.at.bytes c.1 in
    let d = then_undone _ _ y c.2 in
    let t = times_undone c.0.1 d.0.0 d.0.1 m.at.bytes d.1 in
    let f = then_undone _ _ y d.2 in
    let p = two_undone d.0.1 f.0.0 f.0.1 t.bytes f.1 in
    let g = then_undone _ _ y f.2 in
    let o = two_undone f.0.1 g.0.0 g.0.1 p.at.bytes g.1 in
    let x : Head = record { id = a.0.0; serial = b.0.0; moment = c.0.0; times = d.0.0; part = f.0.0; of = g.0.0 } in
    let e = same_pair x h g.0.1 rest g.2 in
    let q = ltb a.0.0 18446744073709551616 in
    let r = ltb b.0.0 18446744073709551616 in
    let v = ltb c.0.0 18446744073709551616 in
    let w = ltb f.0.0 65536 in
    subst (λ z. HeadRead bs h z) e.1 (subst (λ z. HeadRead bs z g.0.1) e.0 (record {
      so =
          ap (λ z. to_be_bytes w64 a.0.0 ++ (to_be_bytes w64 b.0.0 ++ (to_be_bytes w64 c.0.0 ++ (times_bytes d.0.0 ++ (to_be_bytes w16 f.0.0 ++ z))))) o.at.so
          ∙ ap (λ z. to_be_bytes w64 a.0.0 ++ (to_be_bytes w64 b.0.0 ++ (to_be_bytes w64 c.0.0 ++ (times_bytes d.0.0 ++ z)))) p.at.so
          ∙ ap (λ z. to_be_bytes w64 a.0.0 ++ (to_be_bytes w64 b.0.0 ++ (to_be_bytes w64 c.0.0 ++ z))) t.so
          ∙ ap (λ z. to_be_bytes w64 a.0.0 ++ (to_be_bytes w64 b.0.0 ++ z)) m.at.so
          ∙ ap (λ z. to_be_bytes w64 a.0.0 ++ z) s.at.so
          ∙ i.at.so;
      keep = λ serial.
          and_from (q && r && is_serial b.0.0 && v && times_keep d.0.0 && w) (ltb g.0.0 65536)
          (and_from (q && r && is_serial b.0.0 && v && times_keep d.0.0) w
          (and_from (q && r && is_serial b.0.0 && v) (times_keep d.0.0)
          (and_from (q && r && is_serial b.0.0) v
          (and_from (q && r) (is_serial b.0.0) (and_from q r i.below s.below) serial) m.below) t.keep) p.below) o.below;
      bytes = o.at.bytes;
    }))

-- ---- a part

-- what stands behind the head, and that it belongs there
pub record Behind (h : Head) (bs : List ℕ) (out : List Set) : Type 0 where
  pub so : all_transferred out ≡ bs
  pub keep : sets_keep out ≡ true
  pub belong : sets_belong h out ≡ true

or_true : (b : Bool) → b || true ≡ true
or_true true = refl
or_true false = refl

some_at : (n : ℕ) → eqb n 0 ≡ false → leb 1 n ≡ true
some_at zero h = absurd (true≢false (sym (eq-eqb 0 0 refl) ∙ h))
some_at (suc n) h = le-leb 1 (suc n) (omega arith)

none_behind : (h : Head) (bs : List ℕ) (out : List Set) → [] ≡ out → bs ≡ [] → Behind h bs out
none_behind h bs out e k = subst (λ b. Behind h b out) (sym k) (subst (Behind h []) e (record { so = nothing_sent; keep = refl; belong = or_true (leb 1 h.of) }))

behind_undone : (h : Head) (bs : List ℕ) (ss : List SetShape) (out : List Set) → are_bytes bs ≡ true → sets_behind h bs ≡ Some ss → all_sets ss ≡ Ok out → Behind h bs out
unfolding with_sets
behind_undone h bs ss out u k j = go (eqb h.of 0) refl
  where
    go : (b : Bool) → eqb h.of 0 ≡ b → Behind h bs out
    go true e =
        let z = end_undone [] bs ss (sym (cond-true (eqb h.of 0) (at_end [] bs) (sets_in bs) e) ∙ k) in
        none_behind h bs out (ok_same [] out (ap all_sets z.0 ∙ j)) z.1
    go false e =
        let r = upto_undone (length bs) bs ss [] out u (sym (cond-false (eqb h.of 0) (at_end [] bs) (sets_in bs) e) ∙ k) j in
        record { so = ap all_transferred r.all ∙ r.so; keep = ap sets_keep r.all ∙ r.keep; belong = ap (λ b. b || eqb (length out) 0) (some_at h.of e) }

pub part_undone : (bs : List ℕ) (s : PartShape) (p : Part) → are_bytes bs ≡ true → part_shape bs ≡ Some s → part_in s ≡ Ok p → length (4 ∷ bs) ≤ 1200 → (part_bytes p ≡ 4 ∷ bs) × (part_keeps p ≡ true)
unfolding part_shape part_in part_bytes
part_undone bs s p u h j short =
    let a = then_undone _ _ s h in
    let d = head_undone bs a.0.0 a.0.1 u a.1 in
    let m = shape_so a.0.0 (sets_behind a.0.0 a.0.1) s a.2 in
    let b = next_undone _ _ p j in
    let c = passed (is_serial s.head.serial) (Ok (record { head = s.head; sets = b.0 })) p StaleSerial b.2 in
    let same = ok_same (record { head = s.head; sets = b.0 }) p c.1 in
    let head = ap (λ (x : PartShape). x.head) m.2 in
    let r = behind_undone a.0.0 a.0.1 m.0 b.0 d.bytes m.1 (ap (λ (x : PartShape). all_sets x.sets) m.2 ∙ b.1) in
    let k = d.keep (ap (λ (x : Head). is_serial x.serial) head ∙ c.0) in
    let mine : record { head = a.0.0; sets = b.0 } ≡ p = (λ i. record { head = head i; sets = b.0 }) ∙ same in
    let so : part_bytes (record { head = a.0.0; sets = b.0 }) ≡ 4 ∷ bs = ap (λ x. 4 ∷ (head_bytes a.0.0 ++ x)) r.so ∙ ap (λ x. 4 ∷ x) d.so in
    let long = ap length so in
    let fit : length (part_bytes (record { head = a.0.0; sets = b.0 })) ≤ 1200 = omega arith in
    subst (λ x. (part_bytes x ≡ 4 ∷ bs) × (part_keeps x ≡ true)) mine (
      so,
      and_from (head_keeps a.0.0 && sets_keep b.0 && sets_belong a.0.0 b.0) (leb (length (part_bytes (record { head = a.0.0; sets = b.0 }))) 1200)
          (and_from (head_keeps a.0.0 && sets_keep b.0) (sets_belong a.0.0 b.0) (and_from (head_keeps a.0.0) (sets_keep b.0) k r.keep) r.belong)
          (le-leb (length (part_bytes (record { head = a.0.0; sets = b.0 }))) 1200 fit),
    )
  where
    shape_so : (h : Head) (o : Option (List SetShape)) (y : PartShape) → option_map (λ ss. record { head = h; sets = ss }) o ≡ Some y → (ss : List SetShape) × (o ≡ Some ss) × (record { head = h; sets = ss } ≡ y)
    shape_so h None y k = cc
    shape_so h (Some ss) y k = (ss, refl, some_same (record { head = h; sets = ss }) y k)
