-- Walks stay among the nets that a net depends on.
use Rattle.std.proofs.Common.{◌≡◌, ◌≢◌, ℕ, List, [], ◌∷◌, Bool, false, sym, ap, ◌∙◌}
use Rattle.std.specs.Prelude.{IsTrue}
use Rattle.std.specs.List.{AllByRecursion as Each}
use Rattle.ap_net.specs.declared.cell.Wire.{Wire}
use Rattle.ap_net.specs.declared.net.Assign.{Assign}
use Rattle.ap_net.specs.Cells.{operands}
use Rattle.ap_net.specs.Depends.{Walks, there, on, WalksMissThem}
use Rattle.ap_net.proofs.Lists.{All-at}

stays : (assigns : List Assign) (among : ℕ → Bool) → Each (λ (a : Assign). IsTrue (among a.to.number) → Each (λ (o : Wire). IsTrue (among o.number)) (operands a.cell)) assigns
    → {n k : ℕ} → Walks assigns n k → IsTrue (among n) → IsTrue (among k)
stays assigns among closed there h = h
stays assigns among closed (on a o i j at at' walk) h =
    stays assigns among closed walk (All-at (λ (x : Wire). IsTrue (among x.number)) (operands a.cell) j o (All-at _ assigns i a closed at h) at')

missed : (among : ℕ → Bool) (k : ℕ) (others : List ℕ) → IsTrue (among k) → Each (λ other. among other ≡ false) others → Each (λ other. other ≢ k) others
missed among k [] h none = tt
missed among k (other ∷ others) h none = ((λ e. let clash : among k ≡ false = ap among (sym e) ∙ none.0 in cc), missed among k others h none.1)

pub walks_miss : WalksMissThem
walks_miss assigns n k others (among, within, none) walk = missed among k others (stays assigns among within.closed walk within.itself) none

pub ruleset walked = (walks_miss)
