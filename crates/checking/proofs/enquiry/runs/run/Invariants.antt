use Rattle.std.proofs.Common.{◌≤◌, length, take}
use Rattle.checking.specs.Calls.{after}
use Rattle.checking.specs.Enquiries.{Holding}
use Rattle.checking.proofs.enquiry.runs.run.Given as goal

abbrev pub invariant-loop-call : goal.invariant-loop-call
invariant-loop-call g l = (l.call-index ≤ length l.calls) × Holding l.initial.enquiry.book l.initial.enquiry.measure (after (take l.call-index l.calls)) l.enquiry
