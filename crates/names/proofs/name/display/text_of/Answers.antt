use Rattle.std.proofs.lemmas.Str.{IsUtf8-from_ascii}
use Rattle.names.proofs.Shown.{label_ascii}
use Rattle.names.proofs.name.display.text_of.Goals as goal

pub from_utf8_unchecked-requires : goal.from_utf8_unchecked-requires
from_utf8_unchecked-requires c = IsUtf8-from_ascii _ (label_ascii c.args.label.now c.requires)
