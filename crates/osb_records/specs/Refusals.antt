-- How many requests were refused, for each cause.
use Rattle.std.specs.Prelude.{ℕ, ◌+◌, ◌-◌, ◌^◌, min}
use Rattle.osb_statements.specs.declared.cause.Cause.{Cause}
use Rattle.osb_statements.specs.declared.cause.Cause.TheVariants.{Memory, DiskFull, DiskFailed, Shut, Other}
use Rattle.osb_records.specs.declared.refusals.Refusals.{Refusals}

-- how many were refused for this cause
abbrev pub refused_for : Refusals → Cause → ℕ
refused_for refusals Memory = refusals.memory
refused_for refusals DiskFull = refusals.disk_full
refused_for refusals DiskFailed = refusals.disk_failed
refused_for refusals Shut = refusals.shut
refused_for refusals Other = refusals.other

-- one more, up to the greatest number that there is room for
abbrev pub one_more : ℕ → ℕ
one_more count = min (count + 1) (2 ^ 32 - 1)

-- the numbers after one more request was refused for this cause
abbrev pub counted : Refusals → Cause → Refusals
counted refusals Memory = record refusals { memory = one_more refusals.memory }
counted refusals DiskFull = record refusals { disk_full = one_more refusals.disk_full }
counted refusals DiskFailed = record refusals { disk_failed = one_more refusals.disk_failed }
counted refusals Shut = record refusals { shut = one_more refusals.shut }
counted refusals Other = record refusals { other = one_more refusals.other }
