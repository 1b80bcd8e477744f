-- What a call that is lent a writer does.
use Rattle.std.specs.Prelude.{ℕ, ◌≡◌, List}
use Rattle.buffer.specs.declared.Writer.{Writer}
use Rattle.buffer.specs.Buffer.{Writes}

-- It writes a part from the writer's place on, and moves the place to the one after it. The buffer stays the one that was lent, so that whoever lent it
-- knows what it holds.
pub record Puts (before after : Writer) (part : List ℕ) : Type 0 where
  pub same_buffer : after.buffer.ghost_name ≡ before.buffer.ghost_name
  pub writes : Writes before.buffer.now before.at after.buffer.now after.at part
