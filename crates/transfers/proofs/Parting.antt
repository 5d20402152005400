-- Parts of a transfer: rows behind their heads.
use Rattle.std.proofs.Common.{◌≡◌, ℕ, ◌+◌, ◌<◌, ◌≤◌, Bool, true, ◌&&◌, eqb, leb, ltb, List, [], ◌∷◌, ◌++◌, length, sym, refl, ap, ◌∙◌, subst, ⊎_elim, arith, length-append}
use mathlib.Core.List.Memᴰ
use mathlib.Core.List.{Memᴰ}
use Rattle.std.proofs.lemmas.Bool.{and_parts, and_from, or_left, le-leb, lt-ltb}
use Rattle.meaning.specs.Model.{is_serial, Set, Zone}
use Rattle.meaning.specs.Transfer.{all_transferred}
use Rattle.meaning.proofs.Carried.{length_all, length_none}
use Rattle.wire.specs.Laws.{PacketLaws}
use Rattle.wire.specs.Parts.{Part, head_bytes, part_bytes, times_keep, head_keeps, set_keeps, sets_keep, sets_belong, part_keeps}
use Rattle.wire.specs.Shapes.{Head}
use Rattle.transfers.specs.Splitting.{room, EachFits, rows_behind, rows, part_from, parts_from, split, all_sets, SplitLaws}
use Rattle.transfers.proofs.Rows.{rows_on, rows_end, rows_many, rows_some, joint, joint_append, rows_whole, each_row, light_rows, full}

-- ---- how long parts are

head_long : (h : Head) → length (head_bytes h) ≡ 40
head_long h = refl

pub part_long : (h : Head) (ss : List Set) → length (part_bytes (record { head = h; sets = ss })) ≡ 41 + length (all_transferred ss)
unfolding part_bytes
part_long h ss =
    let a = length-append (head_bytes h) (all_transferred ss) in
    let l = head_long h in
    omega arith

-- ---- sets that keep the rules

pub set_in : (ss : List Set) (s : Set) → sets_keep ss ≡ true → Memᴰ s ss → set_keeps s ≡ true
set_in [] s h m = absurd (Memᴰ.not-nil m)
set_in (t ∷ ss) s h m =
    let p = and_parts (set_keeps t) (sets_keep ss) h in
    ⊎_elim (λ e. ap set_keeps e ∙ p.0) (λ n. set_in ss s p.1 n) (Memᴰ.cases_cons m)

keep_back : (xs ys : List Set) → sets_keep (xs ++ ys) ≡ true → sets_keep ys ≡ true
keep_back [] ys h = h
keep_back (x ∷ xs) ys h = keep_back xs ys (and_parts (set_keeps x) (sets_keep (xs ++ ys)) h).1

keep_front : (xs ys : List Set) → sets_keep (xs ++ ys) ≡ true → sets_keep xs ≡ true
keep_front [] ys h = refl
keep_front (x ∷ xs) ys h =
    let p = and_parts (set_keeps x) (sets_keep (xs ++ ys)) h in
    and_from (set_keeps x) (sets_keep xs) p.0 (keep_front xs ys p.1)

-- ---- a part among the parts

module _ (z : Zone) (id moment of : ℕ) where
  pub record Among (p : Part) (n : ℕ) (rs : List (List Set)) : Type 0 where
    pub front : List (List Set)
    pub row : List Set
    pub back : List (List Set)
    pub whole : rs ≡ front ++ row ∷ back
    pub part_is : p ≡ part_from z id moment of (n + length front) row

  pub among : (p : Part) (n : ℕ) (rs : List (List Set)) → Memᴰ p (parts_from z id moment of n rs) → Among p n rs
  unfolding parts_from
  among p n [] m = absurd (Memᴰ.not-nil m)
  among p n (r ∷ rs) m =
      ⊎_elim
      (λ e. record { front = []; row = r; back = rs; whole = refl; part_is = e ∙ ap (λ k. part_from z id moment of k r) (omega arith) })
      (λ k.
      let a = among p (n + 1) rs k in
      record { front = r ∷ a.front; row = a.row; back = a.back; whole = ap (λ xs. r ∷ xs) a.whole; part_is = a.part_is ∙ ap (λ i. part_from z id moment of i a.row) (omega arith) })
      (Memᴰ.cases_cons m)

-- ---- heads that keep the rules

-- all of a head but the counts
abbrev version_keeps : Head → Bool
version_keeps h = ltb h.id 18446744073709551616 && ltb h.serial 18446744073709551616 && is_serial h.serial && ltb h.moment 18446744073709551616 && times_keep h.times

pub within : (h : Head) → h.id < 18446744073709551616 → h.serial < 18446744073709551616 → is_serial h.serial ≡ true → h.moment < 18446744073709551616
    → h.times.negative < 4294967296 → h.times.refresh < 4294967296 → h.times.expire < 4294967296 → version_keeps h ≡ true
within h i s k m n r e =
    let times = and_from (ltb h.times.negative 4294967296 && ltb h.times.refresh 4294967296) (ltb h.times.expire 4294967296) (and_from (ltb h.times.negative 4294967296) (ltb h.times.refresh 4294967296) (lt-ltb h.times.negative 4294967296 n) (lt-ltb h.times.refresh 4294967296 r)) (lt-ltb h.times.expire 4294967296 e) in
    and_from (ltb h.id 18446744073709551616 && ltb h.serial 18446744073709551616 && is_serial h.serial && ltb h.moment 18446744073709551616) (times_keep h.times)
    (and_from (ltb h.id 18446744073709551616 && ltb h.serial 18446744073709551616 && is_serial h.serial) (ltb h.moment 18446744073709551616)
    (and_from (ltb h.id 18446744073709551616 && ltb h.serial 18446744073709551616) (is_serial h.serial)
    (and_from (ltb h.id 18446744073709551616) (ltb h.serial 18446744073709551616) (lt-ltb h.id 18446744073709551616 i) (lt-ltb h.serial 18446744073709551616 s)) k)
    (lt-ltb h.moment 18446744073709551616 m))
    times

pub counted : (h : Head) → version_keeps h ≡ true → h.part < 65536 → h.of < 65536 → head_keeps h ≡ true
counted h v l m =
    and_from (version_keeps h && ltb h.part 65536) (ltb h.of 65536) (and_from (version_keeps h) (ltb h.part 65536) v (lt-ltb h.part 65536 l)) (lt-ltb h.of 65536 m)

pub version : (h : Head) → head_keeps h ≡ true → version_keeps h ≡ true
version h k = (and_parts (version_keeps h) (ltb h.part 65536) (and_parts (version_keeps h && ltb h.part 65536) (ltb h.of 65536) k).0).0

-- ---- the parts of a zone whose sets fit

module _ (z : Zone) (id moment : ℕ) (fit : EachFits z.sets) where
  abbrev all : ℕ
  all = length (rows z.sets)

  its : (p : Part) (a : Among z id moment all p 1 (rows z.sets)) → length (all_transferred a.row) ≤ room
  its p a = light_rows z.sets fit a.row (subst (Memᴰ a.row) (sym a.whole) (Memᴰ.append_right a.front (Memᴰ.head refl)))

  pub short_part : (p : Part) → Memᴰ p (split z id moment) → length (part_bytes p) ≤ 1200
  short_part p m =
      let a = among z id moment all p 1 (rows z.sets) m in
      let l = part_long (part_from z id moment all (1 + length a.front) a.row).head a.row in
      let s = its p a in
      let e = ap (λ (q : Part). length (part_bytes q)) a.part_is in
      omega arith

  -- where its sets keep the rules, so does all of it
  pub kept_part : version_keeps (part_from z id moment 1 1 []).head ≡ true → length z.sets ≤ 4096 → (p : Part) → Memᴰ p (split z id moment) → sets_keep p.sets ≡ true → part_keeps p ≡ true
  kept_part v few p m k =
      let a = among z id moment all p 1 (rows z.sets) m in
      let h = (part_from z id moment all (1 + length a.front) a.row).head in
      let n = rows_many [] z.sets in
      let w = ap length a.whole in
      let c = length-append a.front (a.row ∷ a.back) in
      let head = ap (λ (q : Part). head_keeps q.head) a.part_is ∙ counted h v (omega arith) (omega arith) in
      let some = ap (λ (q : Part). q.head.of) a.part_is in
      let r = rows_some [] z.sets in
      let short = short_part p m in
      and_from (head_keeps p.head && sets_keep p.sets && sets_belong p.head p.sets) (leb (length (part_bytes p)) 1200)
      (and_from (head_keeps p.head && sets_keep p.sets) (sets_belong p.head p.sets) (and_from (head_keeps p.head) (sets_keep p.sets) head k) (or_left (leb 1 p.head.of) (eqb (length p.sets) 0) (le-leb 1 p.head.of (omega arith))))
      (le-leb (length (part_bytes p)) 1200 short)

  -- its sets are among the zone's
  kept_sets : sets_keep z.sets ≡ true → (p : Part) → Memᴰ p (split z id moment) → sets_keep p.sets ≡ true
  kept_sets k p m =
      let a = among z id moment all p 1 (rows z.sets) m in
      let parts : z.sets ≡ joint a.front ++ (a.row ++ joint a.back) = sym (rows_whole z.sets) ∙ ap joint a.whole ∙ joint_append a.front (a.row ∷ a.back) in
      ap (λ (q : Part). sets_keep q.sets) a.part_is ∙ keep_front a.row (joint a.back) (keep_back (joint a.front) (a.row ++ joint a.back) (ap sets_keep (sym parts) ∙ k))

-- ---- rows of sets that fit

-- the first set is in the first row
begun : (s : Set) (ss : List Set) → EachFits (s ∷ ss) → rows (s ∷ ss) ≡ rows_behind (s ∷ []) ss
begun s ss fit =
    let l = fit s (Memᴰ.head refl) in
    let a = length_all s [] in
    let z = length_none in
    rows_on [] s ss (omega arith)

several : (ss : List Set) (front back : List (List Set)) (row : List Set) → EachFits ss → rows ss ≡ front ++ row ∷ back → 1 < length (rows ss) → 1 ≤ length row
several [] front back row h e l = let n = ap length (rows_end []) in absurd (omega arith)
several (s ∷ ss) front back row h e l =
    each_row (λ r. 1 ≤ length r) (λ _. Unit {0}) (λ r t _ _ _. let n = length-append r (t ∷ []) in omega arith) (λ t _. omega arith) (s ∷ []) ss (omega arith) (λ _ _. tt) row
    (subst (Memᴰ row) (sym e ∙ begun s ss h) (Memᴰ.append_right front (Memᴰ.head refl)))

few : (ss : List Set) → EachFits ss → (1 ≤ length (rows ss)) × (1 ≤ length ss → length (rows ss) ≤ length ss)
few [] h = (rows_some [] [], λ l. absurd (omega arith))
few (s ∷ ss) h =
    let n = ap length (begun s ss h) in
    let m = rows_many (s ∷ []) ss in
    (rows_some [] (s ∷ ss), λ _. omega arith)

-- ---- the laws

whole_from : (z : Zone) (id moment of n : ℕ) (rs : List (List Set)) → all_sets (parts_from z id moment of n rs) ≡ joint rs
unfolding all_sets parts_from
whole_from z id moment of n [] = refl
whole_from z id moment of n (r ∷ rs) = ap (λ xs. r ++ xs) (whole_from z id moment of (n + 1) rs)

module _ (laws : PacketLaws) where
  alone : (ss : List Set) → sets_keep ss ≡ true → EachFits ss
  alone ss h s m =
      let any : Head = record { id = 0; serial = 0; moment = 0; times = record { negative = 0; refresh = 0; expire = 0 }; part = 0; of = 0 } in
      let f = laws.set_fits any s (set_in ss s h m) in
      let l = part_long any (s ∷ []) in
      let a = length_all s [] in
      let z = length_none in
      omega arith

  fits : (z : Zone) (id moment : ℕ) → head_keeps (part_from z id moment 1 1 []).head ≡ true → sets_keep z.sets ≡ true → length z.sets ≤ 4096 → (p : Part) → Memᴰ p (split z id moment) → part_keeps p ≡ true
  fits z id moment h k l p m =
      let fit = alone z.sets k in
      kept_part z id moment fit (version (part_from z id moment 1 1 []).head h) l p m (kept_sets z id moment fit k p m)

  pub split_laws : SplitLaws
  split_laws = record {
    whole = λ z id moment. whole_from z id moment (length (rows z.sets)) 1 (rows z.sets) ∙ rows_whole z.sets;
    fits = fits;
    full = λ z. full z.sets;
    alone = alone;
    several = λ z. several z.sets;
    few = λ z. few z.sets;
  }
