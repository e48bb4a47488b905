use Rattle.ap_vr.proofs.TextRead.{first_refused, first_taken, no_next}
use Rattle.ap_vr.proofs.reading.module_name.Goals as goal

pub returns-in-Ok-clause-ok : goal.returns-in-Ok-clause-ok
returns-in-Ok-clause-ok c = first_taken c.args.lines.now c.next.new.self c.in-Ok.line c.first_name.result c.in-Ok.ensures.ok c.first_name.ensures.ok

pub returns-in-Ok-clause-err : goal.returns-in-Ok-clause-err
returns-in-Ok-clause-err c = first_refused c.args.lines.now c.next.new.self c.in-Ok.line c.first_name.result c.in-Ok.ensures.ok c.first_name.ensures.err

pub returns-in-Err-clause-err : goal.returns-in-Err-clause-err
returns-in-Err-clause-err c = no_next c.args.lines.now c.in-Err.fault c.in-Err.ensures.err
