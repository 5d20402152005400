-- The laws of packets.
use Rattle.std.proofs.Common.{◌≡◌, ℕ, zero, suc, ◌≤◌, ltb, Bool, true, false, leb, List, [], ◌∷◌, length, Some, None, Ok, Err, Option, Result, sym, refl, ap, ◌∙◌, subst, arith}
use Rattle.std.specs.Option.{option_map}
use Rattle.std.proofs.lemmas.Bool.{cond-true, cond-false, and_parts, leb-true}
use Rattle.names.specs.declared.fault.Fault.{Fault}
use Rattle.names.specs.declared.fault.Fault.TheVariants.{Malformed}
use Rattle.wire.specs.Cuts.{cut_byte, then}
use Rattle.wire.specs.Laws.{are_bytes, PacketLaws}
use Rattle.wire.specs.Parts.{part_in}
use Rattle.wire.specs.Packets.{Packet, IsQuery, IsResponse, IsRequest, IsPart, query_in, response_in, request_in, packet_as, judged, packet_in, packet_bytes, keeps}
use Rattle.wire.specs.Shapes.{Shape, QueryShaped, ResponseShaped, RequestShaped, PartShaped, query_shape, response_shape, request_shape, part_shape, shape_by}
use Rattle.wire.proofs.Backs.{query_back, response_back, request_back}
use Rattle.wire.proofs.PartBacks.{part_back}
use Rattle.wire.proofs.PartUndone.{part_undone}
use Rattle.wire.proofs.Shaping.{no_kind}
use Rattle.wire.proofs.Sizes.{query_fits, response_fits, request_fits, set_fits}
use Rattle.wire.proofs.Undone.{ok_same, query_undone, response_undone, request_undone}

reads_written : (p : Packet) → keeps p ≡ true → packet_in (packet_bytes p) ≡ Ok p
reads_written (IsQuery q) h = query_back q h
reads_written (IsResponse r) h = response_back r h
reads_written (IsRequest r) h = request_back r h
reads_written (IsPart p) h = part_back p h

-- one of the kinds, read from its shape
module _ {S A : Type 0} (shaped_as : S → Shape) (is_a : A → Packet) (given : S → Result A Fault) (same : (s : S) → judged (Some (shaped_as s)) ≡ packet_as is_a (given s)) where
  one_undone : (P : Packet → Type 0) (o : Option S) (p : Packet) → judged (option_map shaped_as o) ≡ Ok p → ((s : S) (x : A) → o ≡ Some s → given s ≡ Ok x → P (is_a x)) → P p
  one_undone P None p h f = cc
  one_undone P (Some s) p h f = go (given s) refl (sym (same s) ∙ h)
    where
      go : (r : Result A Fault) → given s ≡ r → packet_as is_a r ≡ Ok p → P p
      go (Ok x) e k = subst P (ok_same (is_a x) p k) (f s x refl e)
      go (Err g) e k = cc

abbrev Good : List ℕ → Packet → Type 0
Good bs p = (packet_bytes p ≡ bs) × (keeps p ≡ true)

no_packet : (p : Packet) → ◌≡◌ {A = Result Packet Fault} (Err Malformed) (Ok p) → ⊥
no_packet p h = let z : ◌≡◌ {A = ℕ} 0 1 = cc in omega arith

by_kind : (b : ℕ) (bs : List ℕ) (p : Packet) → are_bytes bs ≡ true → length (b ∷ bs) ≤ 1200 → judged (shape_by b bs) ≡ Ok p → Good (b ∷ bs) p
by_kind zero bs p u l h =
    let none = no_kind zero bs (λ e. omega arith) (λ e. omega arith) (λ e. omega arith) (λ e. omega arith) in
    absurd (no_packet p (sym none ∙ h))
by_kind (suc zero) bs p u l h = one_undone QueryShaped IsQuery query_in (λ s. refl) (Good (1 ∷ bs)) (query_shape bs) p h (λ s x. query_undone bs s x u)
by_kind (suc (suc zero)) bs p u l h = one_undone ResponseShaped IsResponse response_in (λ s. refl) (Good (2 ∷ bs)) (response_shape bs) p h (λ s x. response_undone bs s x u)
by_kind (suc (suc (suc zero))) bs p u l h = one_undone RequestShaped IsRequest request_in (λ s. refl) (Good (3 ∷ bs)) (request_shape bs) p h (λ s x. request_undone bs s x u)
by_kind (suc (suc (suc (suc zero)))) bs p u l h = one_undone PartShaped IsPart part_in (λ s. refl) (Good (4 ∷ bs)) (part_shape bs) p h (λ s x e k. part_undone bs s x u e k l)
by_kind (suc (suc (suc (suc (suc b))))) bs p u l h =
    let none = no_kind (suc (suc (suc (suc (suc b))))) bs (λ e. omega arith) (λ e. omega arith) (λ e. omega arith) (λ e. omega arith) in
    absurd (no_packet p (sym none ∙ h))

some_first : (xs : List ℕ) (p : Packet) → are_bytes xs ≡ true → length xs ≤ 1200 → judged (then (cut_byte xs) shape_by) ≡ Ok p → Good xs p
unfolding then cut_byte
some_first [] p u l h = cc
some_first (b ∷ xs) p u l h = by_kind b xs p (and_parts (ltb b 256) (are_bytes xs) u).1 l h

written_read : (bs : List ℕ) (p : Packet) → are_bytes bs ≡ true → packet_in bs ≡ Ok p → Good bs p
written_read bs p u h = go (leb (length bs) 1200) refl
  where
    go : (c : Bool) → leb (length bs) 1200 ≡ c → Good bs p
    go true e = some_first bs p u (leb-true (length bs) 1200 e) (ap judged (sym (cond-true (leb (length bs) 1200) (then (cut_byte bs) shape_by) None e)) ∙ h)
    go false e =
        let k : ◌≡◌ {A = Result Packet Fault} (Err Malformed) (Ok p) = ap judged (sym (cond-false (leb (length bs) 1200) (then (cut_byte bs) shape_by) None e)) ∙ h in
        cc

pub packet_laws : PacketLaws
packet_laws = record { reads_written = reads_written; written_read = written_read; query_fits = query_fits; response_fits = response_fits; request_fits = request_fits; set_fits = set_fits }
