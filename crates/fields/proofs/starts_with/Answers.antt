-- `starts_with` meets its contract: the library's test compares the letters as the definition does. Assumes nothing.
use Rattle.fields.proofs.Prefix.{same_start}
use Rattle.fields.proofs.starts_with.Goals as goal

pub returns : goal.returns
returns c =
    let a = c.args in let same = same_start a.start.now a.text.now in record { tested = cc }
