-- The ends of a packet: its first byte, and that nothing is left over.
use Rattle.std.proofs.Common.{◌≡◌, ℕ, ◌<◌, ◌≤◌, false, true, eqb, leb, List, [], ◌∷◌, length, Some, None, Err, Option, ap, refl, true≢false, sym, ◌∙◌, arith}
use Rattle.std.proofs.lemmas.Bool.{eqb-true, eq-eqb, cond-true, cond-false, le-leb, lt-leb, ne_eqb}
use Rattle.std.specs.Option.{option_map}
use Rattle.names.specs.declared.fault.Fault.TheVariants.{Malformed}
use Rattle.wire.specs.Given.{shaped}
use Rattle.wire.specs.Packets.{IsQuery, IsResponse, IsRequest, IsPart, query_in, response_in, request_in, packet_as, judged, packet_in}
use Rattle.wire.specs.Parts.{part_in}
use Rattle.wire.specs.Shapes.{QueryShape, ResponseShape, RequestShape, PartShape, QueryShaped, ResponseShaped, RequestShaped, PartShaped, query_shape, response_shape, request_shape, part_shape, shape_by, shape_of}
use Rattle.wire.specs.Cuts.{cut_byte, then, at_end}

pub ends : {A : Type 0} (x : A) (bs : List ℕ) → eqb (length bs) 0 ≡ true → at_end x bs ≡ Some x
unfolding at_end
ends x [] h = refl
ends x (b ∷ bs) h = let z = eqb-true (length (b ∷ bs)) 0 h in absurd (omega arith)

pub goes_on : {A : Type 0} (x : A) (bs : List ℕ) → eqb (length bs) 0 ≡ false → at_end x bs ≡ None
unfolding at_end
goes_on x [] h = absurd (true≢false (sym (eq-eqb 0 0 refl) ∙ h))
goes_on x (b ∷ bs) h = refl

-- ---- a packet by its first byte

module _ (bs : List ℕ) (short : length bs ≤ 1200) where
  shape_first : (o : Option (ℕ × List ℕ)) → cut_byte bs ≡ o → shape_of bs ≡ then o shape_by
  shape_first o e = cond-true (leb (length bs) 1200) (then (cut_byte bs) shape_by) None (le-leb (length bs) 1200 short) ∙ ap (λ x. then x shape_by) e

  pub no_first : cut_byte bs ≡ None → packet_in bs ≡ Err Malformed
  unfolding then
  no_first e = ap judged (shape_first None e)

  by_first : (b : ℕ) (rest : List ℕ) → cut_byte bs ≡ Some (b, rest) → packet_in bs ≡ judged (shape_by b rest)
  unfolding then
  by_first b rest e = ap judged (shape_first (Some (b, rest)) e)

  pub other_first : (b : ℕ) (rest : List ℕ) → cut_byte bs ≡ Some (b, rest) → judged (shape_by b rest) ≡ Err Malformed → packet_in bs ≡ Err Malformed
  other_first b rest e h = by_first b rest e ∙ h

  module _ (b : ℕ) (rest : List ℕ) (cut : cut_byte bs ≡ Some (b, rest)) where
    pub query_first : b ≡ 1 → packet_in bs ≡ packet_as IsQuery (shaped query_in (query_shape rest))
    query_first e = by_first b rest cut ∙ ap (λ n. judged (shape_by n rest)) e ∙ go (query_shape rest)
      where
        go : (o : Option QueryShape) → judged (option_map QueryShaped o) ≡ packet_as IsQuery (shaped query_in o)
        go None = refl
        go (Some s) = refl

    pub response_first : b ≡ 2 → packet_in bs ≡ packet_as IsResponse (shaped response_in (response_shape rest))
    response_first e = by_first b rest cut ∙ ap (λ n. judged (shape_by n rest)) e ∙ go (response_shape rest)
      where
        go : (o : Option ResponseShape) → judged (option_map ResponseShaped o) ≡ packet_as IsResponse (shaped response_in o)
        go None = refl
        go (Some s) = refl

    pub request_first : b ≡ 3 → packet_in bs ≡ packet_as IsRequest (shaped request_in (request_shape rest))
    request_first e = by_first b rest cut ∙ ap (λ n. judged (shape_by n rest)) e ∙ go (request_shape rest)
      where
        go : (o : Option RequestShape) → judged (option_map RequestShaped o) ≡ packet_as IsRequest (shaped request_in o)
        go None = refl
        go (Some s) = refl

    pub part_first : b ≡ 4 → packet_in bs ≡ packet_as IsPart (shaped part_in (part_shape rest))
    part_first e = by_first b rest cut ∙ ap (λ n. judged (shape_by n rest)) e ∙ go (part_shape rest)
      where
        go : (o : Option PartShape) → judged (option_map PartShaped o) ≡ packet_as IsPart (shaped part_in o)
        go None = refl
        go (Some s) = refl

pub too_long : (bs : List ℕ) → 1200 < length bs → packet_in bs ≡ Err Malformed
too_long bs h = ap judged (cond-false (leb (length bs) 1200) (then (cut_byte bs) shape_by) None (lt-leb (length bs) 1200 h))

-- no other kind is there
pub no_kind : (b : ℕ) (rest : List ℕ) → (b ≡ 1 → ⊥) → (b ≡ 2 → ⊥) → (b ≡ 3 → ⊥) → (b ≡ 4 → ⊥) → judged (shape_by b rest) ≡ Err Malformed
no_kind b rest f g h k = rw (ne_eqb b 1 f, ne_eqb b 2 g, ne_eqb b 3 h, ne_eqb b 4 k)
