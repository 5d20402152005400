-- The number of what a response tells.
use Rattle.std.specs.Prelude.{ℕ}
use Rattle.wire.specs.declared.what.What.{What}
use Rattle.wire.specs.declared.what.What.TheVariants.{Data, Alias, Referral, NoData, NoName, Nowhere, TooLong}

abbrev pub number_of : What → ℕ
number_of Data = 1
number_of Alias = 2
number_of Referral = 3
number_of NoData = 4
number_of NoName = 5
number_of Nowhere = 6
number_of TooLong = 7
