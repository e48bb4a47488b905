use Rattle.ap_plain.proofs.values.act_value.Goals as goal

pub returns-in-ReadIn-clause-fits : goal.returns-in-ReadIn-clause-fits
returns-in-ReadIn-clause-fits c = rw (c.in-ReadIn.is, c.at-in-ReadIn.ensures) (c.requires.sight.inputs 0 c.in-ReadIn.input)
