use Rattle.std.proofs.Common.{◌≡◌, Some, None}
use Rattle.std.specs.Prelude.{◌==◌, bit_and, position}
use Rattle.ap_desc.specs.declared.design.Instr.{Instr}
use Rattle.ap_enc.proofs.Found.{no_match, only_match}
use Rattle.ap_enc.proofs.word.find.Goals as goal

pub returns-in-Some-clause-some : goal.returns-in-Some-clause-some
returns-in-Some-clause-some c =
    let first : position (λ (i : Instr). bit_and c.args.word i.fixed_mask == i.fixed_value) c.args.design.now.instrs ≡ Some c.in-Some.place = cc in
    only_match c.args.design.now c.requires c.args.word c.in-Some.place first

pub returns-in-None-clause-none : goal.returns-in-None-clause-none
returns-in-None-clause-none c =
    let none : position (λ (i : Instr). bit_and c.args.word i.fixed_mask == i.fixed_value) c.args.design.now.instrs ≡ None = cc in
    no_match c.args.design.now c.args.word none
