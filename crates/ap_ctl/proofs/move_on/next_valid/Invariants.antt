use Rattle.std.proofs.Common.{◌≡◌, length}
use Rattle.ap_ctl.specs.Building.{GivesEach, Tells}
use Rattle.ap_ctl.specs.Lists.{EachFrom}
use Rattle.ap_ctl.specs.Moves.{next_numbers, next_of}
use Rattle.ap_ctl.proofs.move_on.next_valid.Given as goal

abbrev pub invariant-loop-place : goal.invariant-loop-place
invariant-loop-place l = record {
  long : length l.nets ≡ l.place;
  tells : EachFrom (λ stage. Tells l.out (next_of l.design l.gates l.valid l.fires stage)) 1 l.nets;
  gives : GivesEach (next_numbers l.gates l.valid l.fires) l.fn.out l.out l.nets;
}
