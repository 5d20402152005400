-- What the code's tellings stand for.
use Rattle.std.specs.Prelude.{Bool, true, map, vec_items}
use Rattle.names.specs.Names.{labels}
use Rattle.cache.specs.declared.word.Referral as cached
use Rattle.records.specs.Contents.{bytes_of}
use Rattle.meaning.specs.Model.{pieces_fit}
use Rattle.wire.specs.declared.told.Told as declared
use Rattle.wire.specs.declared.told.Told.TheVariants as rust
use Rattle.wire.specs.Packets.{Told, Data, Alias, Referral, NoData, NoName, Nowhere, TooLong, few}

abbrev pub referral_of : cached.Referral → Told
referral_of r = Referral (labels r.name) (map bytes_of (vec_items r.to.servers))

abbrev pub told_of : declared.Told → Told
told_of (rust.Data v) = Data (map vec_items (vec_items v))
told_of (rust.Alias n) = Alias (labels n)
told_of (rust.Referral r) = referral_of r
told_of rust.NoData = NoData
told_of rust.NoName = NoName
told_of rust.Nowhere = Nowhere
told_of rust.TooLong = TooLong

-- few enough pieces to be counted in a byte, and each short enough to be measured in one
abbrev pub held : Told → Bool
held (Data ps) = pieces_fit ps
held (Alias n) = true
held (Referral n ps) = few ps
held NoData = true
held NoName = true
held Nowhere = true
held TooLong = true
