-- `refused` meets its contract: the three lines are written into a buffer that is long enough. Assumes nothing.
use mathlib.Core.Path.{ap, ◌∙◌}
use Prim.Native.Nat.{◌≤◌}
use borrow.Author.Rules.{rules}
use lib.ListN.{length}
use Rattle.lines.specs.Lines.{line_of}
use Rattle.text.specs.Reading.{longest}
use Rattle.text.specs.Output.{refusal_text}
use Rattle.buffer.proofs.Puts.{puts_same}
use Rattle.output.specs.Answers.{output_is}
use Rattle.output.proofs.Lengths.{refusal_short}
use Rattle.output.proofs.whole.refused.Goals as goal

pub returns : goal.returns
returns c =
    let k = c.args.refusal.back in
    let text = c.args.text.now in
    let number = c.from-number.result in
    let short : length (line_of k text) ≤ longest = c.requires.short in
    let line = c.line-line.ensures.part in
    let same = ap (refusal_text number k) line in
    let fits = refusal_short number k _ (search rules) (search rules) short in
    record {
      output = c.written.ensures.output _ (λ before after put. puts_same same (search rules)) fits
          ∙ ap (λ x. output_is (refusal_text x k (line_of k text))) c.from-number.ensures;
    }
