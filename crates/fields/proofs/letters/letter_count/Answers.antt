-- `letter_count` meets its contract: the bytes that are a letter 0 or 1 are counted among the first n. Assumes nothing.
use mathlib.Core.Path.{◌∙◌}
use Rattle.std.proofs.Common.{rules, tests}
use Rattle.std.proofs.lemmas.Iterator.{YieldsList-from_slice, YieldsList-from_take}
use Rattle.std.proofs.lemmas.Iterator.Consumers.{YieldsList-at, YieldsList-from_filter, count_from_yields_List}
use Rattle.laws.specs.Test.{within}
use Rattle.fields.specs.Decimal.{letter}
use Rattle.fields.proofs.Bits.{letters_taken}
use Rattle.fields.proofs.letters.letter_count.Goals as goal

pub returns : goal.returns
unfolding within
returns c =
    let text = c.args.text.now in
    let taken = YieldsList-from_take c.args.n (YieldsList-at c.take.ensures.source (YieldsList-from_slice text c.iter.ensures.rest)) c.take.ensures.count in
    record {
      counted = count_from_yields_List _ c.count.result c.count.ensures.ran
          (YieldsList-from_filter _ (λ b. within (letter 0) b (letter 1)) (YieldsList-at c.filter.ensures.source taken) c.filter.ensures.closure (λ x b q k. search (rules, tests)))
          ∙ letters_taken text c.args.n;
    }
