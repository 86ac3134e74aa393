-- The bytes that are read are those of the record's measurement.
use Rattle.record.proofs.Places.{measurement-place}
use Rattle.record.proofs.measurement_at.Goals as goal

pub returns : goal.returns
returns c = rw (measurement-place _ _ _ _ c.requires.measured, ← c.bytes.ensures) c.u32_present.ensures
