-- Reading and writing a zone's text undo each other.
use Rattle.std.specs.Prelude.{◌≡◌, ℕ, ◌^◌, ◌≤◌, Bool, true, not, ◌&&◌, List, length, Some, None, Ok, Option, ◌==◌, nat_lt}
use Rattle.std.specs.List.{list_all}
use Rattle.names.specs.Labels.{proper}
use Rattle.meaning.specs.Model.{is_kind, is_serial, fits, Content, Addresses, Texts, Others, AliasOf, Delegated, Set, Zone}
use Rattle.meaning.specs.Transfer.{all_transferred}
use Rattle.zones.specs.declared.zone.Zone as declared
use Rattle.zones.specs.Sorted.{sorted}
use Rattle.zones.specs.Valid.{valid}
use Rattle.zones.specs.Zones.{zone_of}
use Rattle.zonetext.specs.Division.{Piece, Word, Text, in_word, pieces_of}
use Rattle.zonetext.specs.Texts.{fields, renews, text_meaning}
use Rattle.zonetext.specs.Written.{holds_text, line_text, holds, written_zone}

-- ---- a zone as its type has it

abbrev pub are_bytes : List ℕ → Bool
are_bytes bs = list_all (λ b. nat_lt b 256) bs

abbrev pub is_address : List ℕ → Bool
is_address a = length a == 8 && are_bytes a

abbrev pub good_data : Content → Bool
good_data (Addresses ps) = list_all is_address ps
good_data (Texts ps) = true
good_data (Others ps) = list_all are_bytes ps
good_data (AliasOf n) = proper n
good_data (Delegated d) = list_all is_address d.servers

abbrev pub good_set : Set → Bool
good_set s = proper s.name && is_kind s.kind && nat_lt s.ttl (2 ^ 32) && fits s.kind s.content && good_data s.content

abbrev pub good_serial : ℕ → Bool
good_serial n = is_serial n && nat_lt n (2 ^ 64)

abbrev pub good_times : Zone → Bool
good_times z = nat_lt z.negative (2 ^ 32) && nat_lt z.refresh (2 ^ 32) && nat_lt z.expire (2 ^ 32)

pub record Good (z : Zone) : Type 0 where
  pub apex : proper z.apex ≡ true
  pub serial : good_serial z.serial ≡ true
  pub times : good_times z ≡ true
  pub sets : list_all good_set z.sets ≡ true
  pub ordered : sorted z.sets ≡ true
  pub limited : valid z.apex z.sets ≡ true

-- ---- a text that stands for a zone

-- read as that zone, in the place of any that it renews, if the sets take 1 MiB at most in a transfer
abbrev pub IsReadAs : List ℕ → Zone → Type 0
IsReadAs text z = (old : Option Zone) → length (all_transferred z.sets) ≤ 1048576 → renews old z.apex z.serial ≡ true → text_meaning old text ≡ Ok z

-- ---- pieces as a line can hold them

-- one or more bytes, none of which ends the word or begins a comment
abbrev pub holds_word : List ℕ → Bool
holds_word w = nat_lt 0 (length w) && list_all (λ b. in_word b && not (b == 59)) w

abbrev pub holds_piece : Piece → Bool
holds_piece (Word w) = holds_word w
holds_piece (Text t) = holds_text t

pub record TextLaws : Type 0 where
  -- pieces that were written as a line are read as those pieces
  pub line : (verb : List ℕ) (ps : List Piece) → holds_word verb ≡ true → list_all holds_piece ps ≡ true → length (line_text verb ps) ≤ 1200 → fields verb (pieces_of (line_text verb ps)) ≡ Some ps
  -- a zone that was written is read as that zone, in the place of any that it renews
  pub read_written : (old : Option Zone) (z : Zone) → Good z → holds z ≡ true → length (all_transferred z.sets) ≤ 1048576 → renews old z.apex z.serial ≡ true → text_meaning old (written_zone z) ≡ Ok z
  -- so what is read of it is written as it was
  pub written_read : (old : Option Zone) (y z : Zone) → Good z → holds z ≡ true → length (all_transferred z.sets) ≤ 1048576 → renews old z.apex z.serial ≡ true → text_meaning old (written_zone z) ≡ Ok y → written_zone y ≡ written_zone z
  -- and what was read can be written
  pub read_held : (old : Option Zone) (text : List ℕ) (z : Zone) → text_meaning old text ≡ Ok z → holds z ≡ true
  -- and it is read as the zone that it was: so each text has a normal form
  pub read_again : (old : Option Zone) (text : List ℕ) (z : declared.Zone) → text_meaning old text ≡ Ok (zone_of z) → text_meaning None (written_zone (zone_of z)) ≡ Ok (zone_of z)
