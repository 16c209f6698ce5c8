use Rattle.std.proofs.Common.{ℕ, ◌<◌, ◌≤◌, length}
use Rattle.job.specs.View.{state_of}
use Rattle.sheet.specs.Readers.{standing}
use Rattle.intake.specs.Sheets.{sheet_limit, Taken}
use Rattle.intake.proofs.take_lines.Given as goal

-- the lines so far are whole, and the job took them
abbrev pub invariant-loop-next : goal.invariant-loop-next
invariant-loop-next l = record {
  count : ℕ;
  some : 0 < count;
  short : length l.sheet ≤ sheet_limit;
  taken : Taken l.sheet count (standing l.reader) (state_of l.job);
}

-- the bytes that are left
abbrev pub decreases-loop-next : goal.decreases-loop-next
decreases-loop-next l = length (standing l.reader).rest
