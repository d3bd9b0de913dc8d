-- The examples, computed.
use mathlib.Core.Path.{refl}
use Rattle.tables.specs.Lists.{count_from}
use Rattle.lines.specs.Texts.{ascii, decimal, width}
use Rattle.phrases.specs.Phrases.{commas, grouped, filled}
use Rattle.totals.specs.Totals.{share, shares, remainder, totals}
use Rattle.totals.specs.Examples.{Examples}

pub examples : Examples
unfolding count_from ascii decimal width commas grouped filled share shares remainder totals
examples = (refl, refl, refl)
