use Rattle.checking.proofs.History.{call_laws}
use Rattle.checking.proofs.enquiry.runs.run.Goals as goal

pub returns-clause-laws : goal.returns-clause-laws
returns-clause-laws g c = call_laws
