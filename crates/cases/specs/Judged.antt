-- Judging a sheet so that it computes: to unfold `judged` is to unfold all that its line names. The checks of this crate stand on it.
use Rattle.std.specs.Prelude.{ℕ, List}
use Rattle.rules.specs.Tools.{total}
use Rattle.rules.specs.Logarithm.{binary_digits, bits, logarithm, g}
use Rattle.rules.specs.Sheet.{pollutants, pollutant, cut, records, kind, number, plan, limit, deviation, cause, measurement, volume, speed, date, of_kind, heading, plan_number, declared, declares, gross}
use Rattle.rules.specs.Calendar.{months, days, is_day_lem}
use Rattle.rules.specs.Plans.{plan_of, decide, known_passes, known_fails, at_most_root, at_least_root, unknown_numbers, in_service_numbers, corrected_numbers, root_passes, root_fails, attributes_passes, attributes_fails, row_passes, row_fails, row}
use Rattle.rules.specs.Series.{in_service_before, before_row, look, settle, unlooked, after, pairs, judge_records, Answer}
use Rattle.rules.specs.Refusals.{misplaced, bad_small_engine, bad_date_lem, particulate_limit_lem, bad_particulate_lem, bad_run_in, bad_number, bad_plan, bad_limit, bad_deviation, bad_measurement_lem, bad_cause_lem, too_many, nonzero, unused, faults, fault_of_lem, check_from, bad_length_lem, check}
use Rattle.rules.specs.Operations.{judge}

unfoldable pub judged : (q : ℕ) → List ℕ → Answer
unfolding total binary_digits bits logarithm g cut records kind number plan limit deviation cause measurement volume speed date of_kind heading plan_number pollutant declared declares gross months days is_day_lem plan_of decide known_passes known_fails at_most_root at_least_root unknown_numbers in_service_numbers corrected_numbers root_passes root_fails attributes_passes attributes_fails row_passes row_fails row in_service_before before_row look settle unlooked after pairs judge_records misplaced bad_small_engine bad_date_lem particulate_limit_lem bad_particulate_lem bad_run_in bad_number bad_plan bad_limit bad_deviation bad_measurement_lem bad_cause_lem too_many nonzero unused faults fault_of_lem check_from bad_length_lem check judge
judged q b = judge pollutants q b
