-- A part written set by set.
use Rattle.std.proofs.Common.{◌≡◌, ℕ, ◌+◌, ◌<◌, ◌≤◌, true, List, [], ◌∷◌, ◌++◌, map, length, get_or, take, Option, sym, refl, ap, ◌∙◌, append_assoc, append-nil}
use Rattle.std.proofs.lemmas.Bool.{and_from, and_parts}
use Rattle.std.proofs.lemmas.List.{take_more, take_all, map-append}
use Rattle.meaning.specs.Model.{Set}
use Rattle.meaning.specs.Transfer.{transferred, all_transferred}
use Rattle.records.specs.declared.set.RecordSet.{RecordSet}
use Rattle.records.specs.Sets.{set_of}
use Rattle.wire.specs.Given.{joined}
use Rattle.wire.specs.Heads.{head_of, part_with}
use Rattle.wire.specs.declared.part.PartHead.{PartHead}
use Rattle.wire.specs.Parts.{head_bytes, part_bytes, set_keeps, sets_keep}
use Rattle.wire.specs.Shapes.{Head}
use Rattle.wire.proofs.Putting.{put_more}

pub transferred_more : (ss : List Set) (s : Set) → all_transferred (ss ++ s ∷ []) ≡ all_transferred ss ++ transferred s
unfolding all_transferred
transferred_more [] s = append-nil (transferred s)
transferred_more (x ∷ ss) s = ap (λ b. transferred x ++ b) (transferred_more ss s) ∙ sym (append_assoc (transferred x) (all_transferred ss) (transferred s))

pub keep_more : (ss : List Set) (s : Set) → sets_keep ss ≡ true → set_keeps s ≡ true → sets_keep (ss ++ s ∷ []) ≡ true
keep_more [] s h k = and_from (set_keeps s) true k refl
keep_more (x ∷ ss) s h k =
    let p = and_parts (set_keeps x) (sets_keep ss) h in
    and_from (set_keeps x) (sets_keep (ss ++ s ∷ [])) p.0 (keep_more ss s p.1 k)

part_none : (h : Head) → 4 ∷ head_bytes h ≡ part_bytes (record { head = h; sets = [] })
unfolding part_bytes all_transferred
part_none h = ap (λ b. 4 ∷ b) (sym (append-nil (head_bytes h)))

part_more : (h : Head) (ss : List Set) (s : Set) → part_bytes (record { head = h; sets = ss }) ++ transferred s ≡ part_bytes (record { head = h; sets = ss ++ s ∷ [] })
unfolding part_bytes
part_more h ss s = ap (λ b. 4 ∷ b) (append_assoc (head_bytes h) (all_transferred ss) (transferred s) ∙ ap (λ b. head_bytes h ++ b) (sym (transferred_more ss s)))

-- ---- of a slice those before i are sent

taken : (xs : List RecordSet) (i : ℕ) (x : RecordSet) → i < length xs → x ≡ get_or xs i x → map set_of (take (i + 1) xs) ≡ map set_of (take i xs) ++ set_of x ∷ []
taken xs i x l e = ap (map set_of) (take_more xs i x l ∙ ap (λ y. take i xs ++ y ∷ []) (sym e)) ∙ map-append set_of (take i xs) (x ∷ [])

pub record Sent (h : PartHead) (xs : List RecordSet) (before now : Option (List ℕ)) (i : ℕ) : Type 0 where
  pub put : now ≡ joined before (part_bytes (part_with h (take i xs)))
  pub kept : sets_keep (map set_of (take i xs)) ≡ true

module _ (h : PartHead) (xs : List RecordSet) where
  pub none_sent : (before now : Option (List ℕ)) → now ≡ joined before (4 ∷ head_bytes (head_of h)) → Sent h xs before now 0
  none_sent before now k = record { put = k ∙ ap (joined before) (part_none (head_of h)); kept = refl }

  pub one_sent : (before now after : Option (List ℕ)) (i : ℕ) (x : RecordSet) → Sent h xs before now i → i < length xs → x ≡ get_or xs i x → after ≡ joined now (transferred (set_of x)) → set_keeps (set_of x) ≡ true → Sent h xs before after (i + 1)
  one_sent before now after i x s l e k kept =
      let t = taken xs i x l e in
      record {
        put =
            put_more before now after (part_bytes (part_with h (take i xs))) (transferred (set_of x)) s.put k
            ∙ ap (joined before) (part_more (head_of h) (map set_of (take i xs)) (set_of x) ∙ ap (λ ss. part_bytes (record { head = head_of h; sets = ss })) (sym t));
        kept = ap sets_keep t ∙ keep_more (map set_of (take i xs)) (set_of x) s.kept kept;
      }

  pub all_sent : (before now : Option (List ℕ)) (i : ℕ) → Sent h xs before now i → length xs ≤ i → sets_keep (map set_of xs) ≡ true
  all_sent before now i s l = ap (λ ys. sets_keep (map set_of ys)) (sym (take_all i xs l)) ∙ s.kept
