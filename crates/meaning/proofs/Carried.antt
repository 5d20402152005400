-- How long record sets are in a transfer.
use Rattle.std.proofs.Common.{◌≡◌, ◌+◌, List, [], ◌∷◌, ◌++◌, length, refl, arith, length-append}
use Rattle.names.specs.Wire.{wire_labels, wire}
use Rattle.meaning.specs.Model.{Set}
use Rattle.meaning.specs.Transfer.{pieces, four_bytes, transferred, all_transferred}

pub length_transferred : (s : Set) → length (transferred s) ≡ length (wire s.name) + 6 + length (wire_labels (pieces s.content))
unfolding transferred
length_transferred s =
    let a = length-append (wire s.name) (s.kind ∷ (four_bytes s.ttl ++ (length (pieces s.content) ∷ wire_labels (pieces s.content)))) in
    omega arith

pub length_all : (s : Set) (ss : List Set) → length (all_transferred (s ∷ ss)) ≡ length (transferred s) + length (all_transferred ss)
unfolding all_transferred
length_all s ss = length-append (transferred s) (all_transferred ss)

pub length_none : length (all_transferred []) ≡ 0
unfolding all_transferred
length_none = refl
