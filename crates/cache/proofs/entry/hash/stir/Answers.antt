use Rattle.std.proofs.Common.{◌*◌, ◌%◌, ap}
use lib.Bits.{bit_xor}
use Rattle.cache.specs.Hashes.{stirred}
use Rattle.cache.proofs.entry.hash.stir.Goals as goal

pub returns : goal.returns
unfolding stirred
returns c = ap (λ b. bit_xor c.args.hash b * 11400714819323198485 % 18446744073709551616) c.from.ensures
