use Rattle.std.proofs.Common.{◌≡◌, ◌∷◌, length}
use Rattle.ap_net.specs.Ready.{numbers}
use Rattle.ap_ctl.specs.Building.{GivesEach, Tells}
use Rattle.ap_ctl.specs.Lists.{EachFrom}
use Rattle.ap_ctl.specs.Moves.{fire_of}
use Rattle.ap_ctl.proofs.move_on.fires.Given as goal

abbrev pub invariant-loop-place : goal.invariant-loop-place
invariant-loop-place l = record {
  long : length l.nets ≡ l.place;
  tells : EachFrom (λ stage. Tells l.out (fire_of l.design l.gates l.valid stage)) 1 l.nets;
  gives : GivesEach (l.gates.goes.number ∷ l.gates.lives.number ∷ numbers l.valid) l.fn.out l.out l.nets;
}
