use Rattle.std.proofs.Common.{refl, lit<, [], ◌∷◌, true}
use Rattle.ap_desc.proofs.Behind.{stable_operands}
use Rattle.ap_desc.proofs.FlowFacts.{input_unstable}
use Rattle.ap_desc.specs.FlowExamples.{flow_design, times_input, times_memory}
use Rattle.ap_desc.specs.declared.design.Micro.{Micro}
use Rattle.ap_desc.specs.declared.design.Arg.TheVariants as arg
use Rattle.ap_desc.specs.declared.design.Act.TheVariants as act
use Rattle.language_tests.proofs.flow_rows.slow_operands.Goals as goal

pub returns-clause-input : goal.returns-clause-input
returns-clause-input c = input_unstable

pub returns-clause-input_right : goal.returns-clause-input_right
returns-clause-input_right c = λ line h. stable_operands 8 (λ n. true) (flow_design (times_input 1 ∷ [])) refl line refl h

pub returns-clause-memory : goal.returns-clause-memory
returns-clause-memory c =
    let read : Micro = record { line = 21; stage = 2; act = act.ReadMem 0 (arg.Field 0) } in
    let cut : Micro = record { line = 22; stage = 2; act = act.Slice 7 0 (arg.Local 0) } in
    let wide : Micro = record { line = 23; stage = 2; act = act.Zext 16 (arg.Local 1) } in
    let sum : Micro = record { line = 24; stage = 2; act = act.Compute 0 0 (arg.Local 2) (arg.Local 2) } in
    record {
      instr = times_memory;
      is_instr = (1, lit< tt, refl);
      micro = record { line = 25; stage = 2; act = act.Compute 2 0 (arg.Local 3) (arg.Local 3) };
      is_line = (4, lit< tt, refl);
      at = refl;
      slow = refl;
      unstable = (0, arg.Local 3, lit< tt, refl, (read, (sum ∷ wide ∷ cut ∷ [], (refl, (0, arg.Local 2, lit< tt, refl, (refl, (0, arg.Local 1, lit< tt, refl, (refl, (0, arg.Local 0, lit< tt, refl, refl))))))), refl));
    }
