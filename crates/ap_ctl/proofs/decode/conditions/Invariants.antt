use Rattle.std.proofs.Common.{◌∷◌, [], map, take}
use Rattle.std.specs.List.{AllByRecursion as Each}
use Rattle.ap_desc.specs.declared.design.Instr.{Instr}
use Rattle.ap_model.specs.Fire.{is_match}
use Rattle.ap_net.specs.declared.cell.Wire.{Wire}
use Rattle.ap_net.specs.Pending.{IsFrom}
use Rattle.ap_ctl.specs.Building.{GivesEachComparing, Tells}
use Rattle.ap_ctl.specs.Decoding.{IsCompared, compared_net, field_tests, with_tests}
use Rattle.ap_ctl.specs.Lists.{EachPair}
use Rattle.ap_ctl.proofs.decode.conditions.Given as goal

abbrev pub invariant-loop-instr : goal.invariant-loop-instr
invariant-loop-instr l = record {
  tells : EachPair (λ (i : Instr). Tells l.out (λ r. is_match (r.read l.word.number) i)) (take l.instr-index l.design.instrs) l.conditions;
  gives : GivesEachComparing (with_tests (field_tests l.design) l.word) (l.word.number ∷ []) l.fn.out l.out l.conditions;
  made : Each (IsCompared l.out l.word) l.table;
  came : Each (λ (w : Wire). IsFrom (l.word.number ∷ []) l.fn.out l.out w.number) (map compared_net l.table);
}
