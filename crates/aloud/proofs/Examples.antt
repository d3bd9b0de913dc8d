-- The examples, computed.
use mathlib.Core.Path.{refl}
use Rattle.lines.specs.Texts.{ascii, decimal, width}
use Rattle.phrases.specs.Phrases.{commas, grouped, filled}
use Rattle.aloud.specs.Aloud.{owned_line, unowned_line, gap, spoken_from}
use Rattle.aloud.specs.Examples.{Examples}

pub examples : Examples
unfolding ascii decimal width commas grouped filled owned_line unowned_line gap spoken_from
examples = (refl, refl, refl)
