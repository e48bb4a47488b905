use Rattle.ap_steps.proofs.Intervals.{intervals_are_found, intervals_are_ready, sources_are_ready}
use Rattle.ap_steps.proofs.laws.intervals_are_ready.Goals as goal

pub returns-clause-sources : goal.returns-clause-sources
returns-clause-sources c = sources_are_ready

pub returns-clause-found : goal.returns-clause-found
returns-clause-found c = intervals_are_found

pub returns-clause-ready : goal.returns-clause-ready
returns-clause-ready c = intervals_are_ready
