use Rattle.std.proofs.Common.{◌≡◌, ◌++◌, option_map, drop}
use Rattle.ap_desc.specs.TokenValues.{fields_in}
use Rattle.ap_read.specs.Texts.{texts}
use Rattle.ap_read.proofs.parts.fields_in.Given as goal

-- the fields so far and those of the tokens left are those of all
abbrev pub invariant-loop-token : goal.invariant-loop-token
invariant-loop-token l = option_map (λ rest. l.fields ++ rest) (fields_in l.separator (texts (drop l.token-index l.tokens))) ≡ fields_in l.separator (texts l.tokens)
