-- Registers that take something.
use Rattle.std.specs.Prelude.{◌≡◌, List, ◌++◌, map, Contains}
use Rattle.std.specs.List.{AllByRecursion as Each}
use Rattle.ap_net.specs.declared.cell.Wire.{Wire}
use Rattle.ap_net.specs.declared.net.Next.{Next}
use Rattle.ap_net.specs.Draft.{Draft, Extends}

-- the register takes some net
abbrev pub IsClocked : Draft → Wire → Type 0
IsClocked d register = (from : Wire) × Contains d.nexts (record { register = register; from = from })

-- those do of which a step says it, and they go on where the draft grows
pub record RegistersAreClocked : Type 0 where
  pub came : (a b : Draft) (registers : List Wire) (more : List Next) → b.nexts ≡ a.nexts ++ more → map (λ (x : Next). x.register) more ≡ registers → Each (IsClocked b) registers
  pub later : (a b : Draft) (registers : List Wire) → Extends a b → Each (IsClocked a) registers → Each (IsClocked b) registers
