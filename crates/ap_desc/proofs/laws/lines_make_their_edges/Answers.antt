use Rattle.ap_desc.proofs.OwnEdges.{closing_line, leads_by_line, no_edge, own_edges}
use Rattle.ap_desc.proofs.laws.lines_make_their_edges.Goals as goal

pub returns-clause-own : goal.returns-clause-own
returns-clause-own c = own_edges

pub returns-clause-leads : goal.returns-clause-leads
returns-clause-leads c = leads_by_line

pub returns-clause-closes : goal.returns-clause-closes
returns-clause-closes c = closing_line

pub returns-clause-other : goal.returns-clause-other
returns-clause-other c = no_edge
