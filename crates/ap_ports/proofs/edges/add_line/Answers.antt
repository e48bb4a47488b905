use Rattle.std.proofs.Common.{◌∙◌, sym}
use Rattle.ap_ports.proofs.Added.{line_added}
use Rattle.ap_ports.proofs.edges.add_line.Goals as goal

pub returns-else-leads-clause-ok : goal.returns-else-leads-clause-ok
returns-else-leads-clause-ok c =
    line_added c.args.locals.now c.args.micro.now c.args.stage c.args.ways.now c.add.new.self c.in-Some.to c.sources-sources.result c.leads.result
    (sym c.node_number.ensures.number ∙ c.in-Some.is) c.if-micro-stage.false c.sources-sources.ensures c.leads.ensures c.if-leads.false c.add.ensures
