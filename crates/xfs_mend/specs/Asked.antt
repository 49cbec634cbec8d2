-- What decides the outcome of a repair, of all that it is given.
use Rattle.std.specs.Prelude.{Bool}
use Rattle.xfs_mend.specs.declared.outcome.RepairOptions.{RepairOptions}

-- whether the image is only checked, and whether a log that is not clean is to be dropped; the number of workers decides nothing
pub record Asked : Type 0 where
  pub check : Bool
  pub drop_log : Bool

-- what these options ask
abbrev pub repair_asked : RepairOptions → Asked
repair_asked o = record { check = o.check; drop_log = o.drop_log }
