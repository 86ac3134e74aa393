-- The test is the definition's, part by part.
use Rattle.std.proofs.Common.{◌≡◌, ◌/◌, ◌%◌, arith}
use Rattle.std.proofs.lemmas.Bool.Decides.{nat_tests}
use Rattle.rules.specs.Calendar.{last_year, is_day_lem}
use Rattle.rules.specs.Tools.{within}
use Rattle.calendar.proofs.is_day.Goals as goal

pub returns : goal.returns
unfolding is_day_lem
returns c =
    let n = c.args.date in
    let year : c.contains.result ≡ within 1 last_year (n / 10000) = grind (arith, nat_tests, c.contains.ensures.value) in
    let month : c.contains-2.result ≡ within 1 12 (n / 100 % 100) = grind (arith, nat_tests, c.contains-2.ensures.value) in
    let day : c.contains-3.result ≡ within 1 c.days_in.result (n % 100) = grind (arith, nat_tests, c.contains-3.ensures.value) in
    rw (year, month, day, c.days_in.ensures)
