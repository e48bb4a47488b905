use Rattle.ap_comb.proofs.levels.move_by.Goals as goal

pub returns-in-Left-clause-value : goal.returns-in-Left-clause-value
returns-in-Left-clause-value c = rw c.in-Left.is c.move_left.ensures.value

pub returns-in-Right-clause-value : goal.returns-in-Right-clause-value
returns-in-Right-clause-value c = rw c.in-Right.is c.move_right.ensures.value

pub returns-in-Left-clause-reads : goal.returns-in-Left-clause-reads
returns-in-Left-clause-reads c = rw c.in-Left.is c.move_left.ensures.reads

pub returns-in-Right-clause-reads : goal.returns-in-Right-clause-reads
returns-in-Right-clause-reads c = rw c.in-Right.is c.move_right.ensures.reads
