-- What a tested sheet has.
use Rattle.std.specs.Prelude.{List}
use Rattle.rules.specs.Sheet.{Record, Pollutant}
use Rattle.accepted.specs.Sheets.{pollutants_in, engines_in}
use Rattle.layout.specs.Sizes.{width_is}
use Rattle.tested.specs.declared.TestedSheet.{TestedSheet}

-- its declared pollutants, and its engines
abbrev pub pollutants_of : TestedSheet → List Pollutant
pollutants_of s = pollutants_in (width_is s.size) s.bytes.now

abbrev pub engines_of : TestedSheet → List Record
engines_of s = engines_in (width_is s.size) s.bytes.now
