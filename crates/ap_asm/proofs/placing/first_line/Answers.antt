use Rattle.ap_asm.proofs.Nears.{first_there, first_within}
use Rattle.ap_asm.proofs.placing.first_line.Goals as goal

pub bounds-group_numbers-0 : goal.bounds-group_numbers-0
bounds-group_numbers-0 c = first_within c.args.numbers.now c.args.group c.index-numbers-group.result c.as_slice-group_numbers.result.now c.requires.within c.index-numbers-group.is c.as_slice-group_numbers.ensures c.requires.some

pub returns : goal.returns
returns c = first_there c.args.numbers.now c.args.group c.index-numbers-group.result c.as_slice-group_numbers.result.now c.requires.within c.index-numbers-group.is c.as_slice-group_numbers.ensures c.requires.some
