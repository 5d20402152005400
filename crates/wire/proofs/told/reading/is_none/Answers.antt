use Rattle.wire.proofs.Copying.{alone}
use Rattle.wire.proofs.told.reading.is_none.Goals as goal

pub returns : goal.returns
returns c = λ ps h. alone c.args.list.now ps h
