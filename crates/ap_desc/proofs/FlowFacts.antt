-- Faults of example designs: two units that feed each other, by an instruction for each direction, and a slow unit that takes an input.
use Rattle.std.proofs.Common.{ℕ, ◌+◌, refl, lit<, [], ◌∷◌}
use Rattle.std.specs.Prelude.{nat_le, nat_lt}
use Rattle.ap_desc.proofs.Behind.{unlooped}
use Rattle.ap_desc.specs.Chains.{ClosesLoop, Edge}
use Rattle.ap_desc.specs.FlowExamples.{flow_design, times_input, two_units}
use Rattle.ap_desc.specs.StageFaults.{HasUnstableOperand}
use Rattle.ap_desc.specs.declared.design.Design.{Design}
use Rattle.ap_desc.specs.declared.design.Arg.TheVariants as arg
use Rattle.ap_desc.specs.declared.design.Act.TheVariants as act
use Rattle.ap_desc.specs.declared.design.Node.{Node}
use Rattle.ap_desc.specs.declared.design.Node.TheVariants as node

-- the units in the order of their numbers, and all else before
abbrev pub rank : Node → ℕ
rank (node.Unit u) = u + 1
rank _ = 0

abbrev pub both : Design
both = flow_design (two_units 30 0 1 ∷ two_units 40 1 0 ∷ [])

-- in an instruction that uses one unit after the other, its line that uses the second makes an edge
edge_up : Edge both 2 (λ n. nat_le n 46) (node.Unit 0) (node.Unit 1)
edge_up = record {
  instr = two_units 30 0 1;
  is_instr = (1, lit< tt, refl);
  user = record { line = 36; stage = 2; act = act.Compute 1 0 (arg.Local 4) (arg.Local 1) };
  is_line = (5, lit< tt, refl);
  in_stage = refl;
  counted = refl;
  uses = refl;
  source = record { line = 33; stage = 2; act = act.Compute 0 0 (arg.Local 0) (arg.Local 1) };
  uses_from = refl;
  wired = (
    0,
    arg.Local 4,
    lit< tt,
    refl,
    (
      record { line = 35; stage = 2; act = act.Zext 16 (arg.Local 3) } ∷ record { line = 34; stage = 2; act = act.Slice 7 0 (arg.Local 2) } ∷ [],
      (refl, (refl, tt)),
      (refl, (0, arg.Local 3, lit< tt, refl, (refl, (0, arg.Local 2, lit< tt, refl, refl)))),
    ),
  );
}

edge_down : Edge both 2 (λ n. nat_le n 46) (node.Unit 1) (node.Unit 0)
edge_down = record {
  instr = two_units 40 1 0;
  is_instr = (2, lit< tt, refl);
  user = record { line = 46; stage = 2; act = act.Compute 0 0 (arg.Local 4) (arg.Local 1) };
  is_line = (5, lit< tt, refl);
  in_stage = refl;
  counted = refl;
  uses = refl;
  source = record { line = 43; stage = 2; act = act.Compute 1 0 (arg.Local 0) (arg.Local 1) };
  uses_from = refl;
  wired = (
    0,
    arg.Local 4,
    lit< tt,
    refl,
    (
      record { line = 45; stage = 2; act = act.Zext 16 (arg.Local 3) } ∷ record { line = 44; stage = 2; act = act.Slice 7 0 (arg.Local 2) } ∷ [],
      (refl, (refl, tt)),
      (refl, (0, arg.Local 3, lit< tt, refl, (refl, (0, arg.Local 2, lit< tt, refl, refl)))),
    ),
  );
}

pub both_closes : ClosesLoop both 2 46
both_closes = record {
  micro = record { line = 46; stage = 2; act = act.Compute 0 0 (arg.Local 4) (arg.Local 1) };
  is_line = (12, lit< tt, refl);
  at = refl;
  in_stage = refl;
  closed = (node.Unit 0, node.Unit 1 ∷ [], (edge_up, (edge_down, tt)));
  open_before = unlooped 8 (λ n. nat_lt n 46) rank both refl 2;
}

pub input_unstable : HasUnstableOperand (flow_design (times_input 2 ∷ [])) 23
input_unstable = record {
  instr = times_input 2;
  is_instr = (1, lit< tt, refl);
  micro = record { line = 23; stage = 2; act = act.Compute 2 0 (arg.Local 0) (arg.Local 1) };
  is_line = (2, lit< tt, refl);
  at = refl;
  slow = refl;
  unstable = (1, arg.Local 1, lit< tt, refl, (record { line = 22; stage = 2; act = act.ReadIn 0 }, ([], refl), refl));
}
