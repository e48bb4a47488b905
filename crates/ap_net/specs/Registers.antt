-- What the registers of an opened netlist hold, where their numbers stand in the order of their drivers.
use Rattle.std.specs.Prelude.{ℕ, ◌<◌, ◌^◌, ◌==◌, List, [], ◌∷◌, map, slice_index, if◌then◌else◌}
use Rattle.ap_net.specs.declared.net.Next.{Next}
use Rattle.ap_net.specs.Flat.{Flat, Solves, IsOpenNetlist, reset_in}

-- what the register with this net number holds; 0 for what is no register
abbrev pub held : List Next → List ℕ → ℕ → ℕ
held [] r n = 0
held (x ∷ nexts) [] n = 0
held (x ∷ nexts) (value ∷ r) n = if x.register.number == n then value else held nexts r n

-- there is one number for each driver, and it fits the register's width
abbrev pub RegistersFit : List Next → List ℕ → Type 0
RegistersFit [] [] = Unit {0}
RegistersFit [] (value ∷ r) = ⊥
RegistersFit (x ∷ nexts) [] = ⊥
RegistersFit (x ∷ nexts) (value ∷ r) = (value < 2 ^ x.register.width) × RegistersFit nexts r

-- the numbers that the registers of an opened netlist take at the reset edge fit
abbrev pub ResetsFit : Type 0
ResetsFit = (f : Flat) → IsOpenNetlist f → RegistersFit f.nexts (map (λ (x : Next). reset_in f x.register.number) f.nexts)

-- and so do those that they take at the clock edge, which are a solution's numbers of the nets that drive them
abbrev pub TakenFit : Type 0
TakenFit = (f : Flat) (v : List ℕ) → IsOpenNetlist f → Solves f v → RegistersFit f.nexts (map (λ (x : Next). slice_index v x.from.number) f.nexts)
