-- What the types of a zone keep, in the model's words.
use Rattle.std.proofs.Common.{◌≡◌, ℕ, suc, ◌^◌, true, ◌&&◌, ltb, List, [], ◌∷◌, get_or, Ok, Err, IfOk, Result, refl, arith, Fits, w8}
use Rattle.std.proofs.lemmas.Bool.{and_from, lt-ltb}
use Rattle.names.specs.Labels.{proper}
use Rattle.names.specs.Names.{labels}
use Rattle.names.proofs.Laws.{labels_proper}
use Rattle.meaning.specs.Model.{is_kind, fits}
use Rattle.records.specs.declared.set.RecordSet.{RecordSet}
use Rattle.records.specs.Contents.{content_of}
use Rattle.records.specs.Sets.{set_of}
use Rattle.zonetext.specs.TextLaws.{are_bytes, good_data, good_set}

-- what holds in any case
pub if_ok : {A E : Type 0} (r : Result A E) {P : Type 0} → P → IfOk r (λ _. P)
if_ok (Ok a) p = p
if_ok (Err e) p = tt

pub bytes_good : (bs : List ℕ) → ((i : ℕ) → Fits w8 (get_or bs i 0)) → are_bytes bs ≡ true
bytes_good [] f = refl
bytes_good (b ∷ bs) f =
    let h = f 0 in
    let l : ltb b 256 ≡ true = lt-ltb b 256 (omega (arith, h)) in
    and_from (ltb b 256) (are_bytes bs) l (bytes_good bs (λ i. f (suc i)))

pub set_good : (s : RecordSet) → ltb s.ttl.0 (2 ^ 32) ≡ true → good_data (content_of s.content) ≡ true → good_set (set_of s) ≡ true
set_good s t d =
    let n = proper (labels s.name) in
    let k = is_kind s.kind.number in
    let l = ltb s.ttl.0 (2 ^ 32) in
    let f = fits s.kind.number (content_of s.content) in
    and_from (n && k && l && f) (good_data (content_of s.content)) (and_from (n && k && l) f (and_from (n && k) l (and_from n k (labels_proper s.name) s.kind.there) t) s.fitting) d
