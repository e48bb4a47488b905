-- Which nets of a module that is being built are ready: those whose values follow, net by net, from what the outside gives. A net
-- may be read before it is driven, so readiness is said of the draft and not of the order of building.
use Rattle.std.specs.Prelude.{◌≡◌, ℕ, suc, ◌<◌, List, [], ◌∷◌, length, map, slice_get, Some, Bool, true, false, if◌then◌else◌}
use Rattle.std.specs.List.{AllByRecursion as Each}
use Rattle.ap_net.specs.declared.cell.Wire.{Wire}
use Rattle.ap_net.specs.declared.net.ModuleNet.{ModuleNet}
use Rattle.ap_net.specs.declared.net.Assign.{Assign}
use Rattle.ap_net.specs.declared.net.Instance.{Instance}
use Rattle.ap_net.specs.Cells.{operands}
use Rattle.ap_net.specs.Wiring.{IsSource}
use Rattle.ap_net.specs.Draft.{Draft, Extends}

-- What is known of dependences before anything is built: at which nets the outside looks for what it gives a source, and whether
-- the output p of a module may depend on its input q, by the module's name and the ports' numbers.
pub record Dependence : Type 0 where
  pub looks : ℕ → List ℕ
  pub needs : List ℕ → ℕ → ℕ → Bool

-- the numbers of the nets at those inputs that are needed
abbrev pub needed : (ℕ → Bool) → List Bool → List Wire → List ℕ
needed needs [] nets = []
needed needs (drives ∷ more) [] = []
needed needs (true ∷ more) (w ∷ nets) = needed (λ q. needs (suc q)) more nets
needed needs (false ∷ more) (w ∷ nets) = if needs 0 then w.number ∷ needed (λ q. needs (suc q)) more nets else needed (λ q. needs (suc q)) more nets

abbrev pub numbers : List Wire → List ℕ
numbers nets = map (λ (w : Wire). w.number) nets

-- The value of net n follows from those of the nets `from`: what the outside looks at for a source, what an assign reads, or
-- what the output of an instance needs.
pub data Feeds (by : Dependence) (d : Draft) (n : ℕ) (from : List ℕ) : Type 0 where
  source : (net : ModuleNet) → slice_get d.nets n ≡ Some net → IsSource net.role → from ≡ by.looks n → Feeds by d n from
  assign : (k : ℕ) (a : Assign) → slice_get d.assigns k ≡ Some a → a.to.number ≡ n → from ≡ numbers (operands a.cell) → Feeds by d n from
  output : (k p : ℕ) (i : Instance) (w : Wire) → slice_get d.instances k ≡ Some i → slice_get i.nets p ≡ Some w → slice_get i.drives p ≡ Some true → w.number ≡ n
      → from ≡ needed (by.needs i.module p) i.drives i.nets → Feeds by d n from

-- the net is ready: its value follows from those of nets that are ready
pub data Ready (by : Dependence) (d : Draft) : ℕ → Type 0 where
  ready : {n : ℕ} (from : List ℕ) → Feeds by d n from → ((j m : ℕ) → slice_get from j ≡ Some m → Ready by d m) → Ready by d n

-- the nets are ready
abbrev pub AreReady : Dependence → Draft → List ℕ → Type 0
AreReady by d nets = Each (Ready by d) nets

-- Whatever is built further on, the net is ready once these are. A piece of circuit says this of its result and its operands, and
-- wants none of its operands to be ready, or driven.
abbrev pub ReadyAfter : Dependence → Draft → List ℕ → ℕ → Type 0
ReadyAfter by d from n = (later : Draft) → Extends d later → AreReady by later from → Ready by later n

-- every declared net is ready
abbrev pub AllReady : Dependence → Draft → Type 0
AllReady by d = (n : ℕ) → n < length d.nets → Ready by d n
