use Rattle.std.proofs.Common.{◌≡◌, map}
use Rattle.std.specs.List.{AllByRecursion as Each, list_any, range_with_len}
use Rattle.ap_net.specs.Readings.{Always}
use Rattle.ap_ctl.specs.Building.{GivesEach, IsBit, is_on}
use Rattle.ap_ctl.specs.Meaning.{Look, Sees, is_busy}
use Rattle.ap_ctl.specs.Moves.{busy_numbers}
use Rattle.ap_ctl.proofs.busy.busy_nets.Given as goal

abbrev pub invariant-loop-place : goal.invariant-loop-place
invariant-loop-place l = record {
  nets : Each (IsBit l.out.nets) l.nets;
  tells : Always l.out (λ r. (look : Look) → Sees l.design l.given l.valid r look → list_any (is_on r) l.nets ≡ list_any (λ b. b) (map (is_busy l.design look) (range_with_len 1 l.place)));
  gives : GivesEach (busy_numbers l.valid l.decoded l.given) l.fn.out l.out l.nets;
}
