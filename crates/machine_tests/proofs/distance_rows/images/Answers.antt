use Rattle.std.proofs.Common.{◌≡◌, ◌+◌, ◌<◌, ◌≤◌, refl, lit<, lit≤, arith}
use Rattle.ap_dist.specs.Distances.{dist_of, instr_out, out_of}
use Rattle.ap_model.specs.Examples.{processor}
use Rattle.ap_model.specs.Fire.{instr_of}
use Rattle.machine_tests.proofs.distance_rows.images.Goals as goal

nops_apart : dist_of processor 0 0 ≡ 1
unfolding dist_of instr_of
nops_apart = refl

hazard_apart : dist_of processor 0x2205 0x1448 ≡ 3
unfolding dist_of instr_of
hazard_apart = refl

slot_out : out_of processor 0x2201 ≡ 3
unfolding instr_out instr_of
slot_out = refl

pub returns-clause-nops : goal.returns-clause-nops
unfolding instr_of
returns-clause-nops c = record {
  apart = λ place d low high. (let e = nops_apart in omega arith);
  slots = λ place j transfer low high. refl;
  drained = λ landing j there lt. (let none : there.0 < 0 = there.1 in absurd (omega arith));
  before = λ place m transfer le. absurd cc;
  within = λ place j transfer low high. absurd cc;
}

pub returns-clause-hazard : goal.returns-clause-hazard
returns-clause-hazard c = λ spaced. (let le : dist_of processor 0x2205 0x1448 ≤ 2 = spaced.apart 0 2 (lit≤ tt) (lit< tt) in let e = hazard_apart in omega arith)

pub returns-clause-drain : goal.returns-clause-drain
unfolding instr_of
returns-clause-drain c = λ spaced. (let le : out_of processor 0x2201 + 1 ≤ 3 = spaced.within 0 1 refl (lit≤ tt) (lit≤ tt) in let e = slot_out in omega arith)
