-- The examples, computed.
use mathlib.Core.Path.{refl}
use Rattle.lines.specs.Texts.{ascii, decimal, width}
use Rattle.phrases.specs.Phrases.{commas, grouped, filled}
use Rattle.phrases.specs.Examples.{Examples}

pub examples : Examples
unfolding ascii decimal width commas grouped filled
examples = (refl, refl)
