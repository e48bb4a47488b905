-- How a finished module comes from a draft.
use Rattle.std.specs.Prelude.{◌≡◌, ℕ, ◌+◌, ◌<◌, List, [], ◌∷◌, length, map, slice_get, slice_index, Some}
use Rattle.std.specs.List.{AllByRecursion as Each}
use Rattle.ap_net.specs.Wiring.{Settles, Ranked}
use Rattle.ap_net.specs.Opened.{IsOpenOrder}
use Rattle.ap_net.specs.Draft.{Draft, SettlesDraft, SettlesOpen}
use Rattle.ap_net.specs.Modules.{ModuleText, IsModule, nets_of, ports_among, wires_among, regs_among, assign_placed, next_placed, instance_placed, IsInstanceIn}
use Rattle.ap_net.specs.declared.net.ModuleNet.{ModuleNet}
use Rattle.ap_net.specs.Places.{place_by}
use Rattle.ap_net.specs.Flat.{opened, opened_over, Solves, base_of, spread, equations}

-- The module is the draft finished: its nets stand by kind and otherwise in the order of their declaration. `place` gives a
-- net's number in the module, `back` its number in the draft. Each solution of the module's equations settles the draft, and
-- each order of the draft's assigns is one of the module's. With the modules of its instances beside it, each solution of
-- the whole settles the draft and each part, and each order of the draft and its parts is one of the whole.
pub record IsFinished (d : Draft) (m : ModuleText) : Type 0 where
  pub name : m.name ≡ d.name
  pub ports : m.ports ≡ ports_among d.nets
  pub wires : m.wires ≡ wires_among d.nets
  pub regs : m.regs ≡ regs_among d.nets
  pub place : ℕ → ℕ
  pub back : ℕ → ℕ
  pub nets : (n : ℕ) → n < length d.nets → slice_get (nets_of m) (place n) ≡ slice_get d.nets n
  pub numbers : (n : ℕ) (net : ModuleNet) → slice_get d.nets n ≡ Some net → place n ≡ place_by net.role d.nets n
  pub returns : (n : ℕ) → n < length d.nets → back (place n) ≡ n
  pub within : (n : ℕ) → n < length (nets_of m) → back n < length d.nets
  pub covers : (n : ℕ) → n < length (nets_of m) → place (back n) ≡ n
  pub assigns : m.assigns ≡ map (assign_placed place) d.assigns
  pub nexts : m.nexts ≡ map (next_placed place) d.nexts
  pub instances : m.instances ≡ map (instance_placed place) d.instances
  pub settles : (read : ℕ → ℕ) → Settles (nets_of m) m.assigns read → SettlesDraft d (λ n. read (place n))
  pub solutions : (v : List ℕ) → Solves (opened (m ∷ [])) v → SettlesDraft d (λ n. slice_index v (place n))
  pub orders : (rank : ℕ → ℕ) → Ranked rank d.assigns → Ranked (λ n. rank (back n)) m.assigns
  pub parts : (modules : List ModuleText) (v : List ℕ) → Solves (opened_over modules m) v → SettlesOpen modules d (λ n. slice_index v (place n)) (λ k n. slice_index v (base_of modules m k + n))
  pub open_orders : (modules : List ModuleText) (rank : ℕ → ℕ) (ranks : ℕ → ℕ → ℕ) → Each IsModule modules → Each (IsInstanceIn modules) m.instances → IsOpenOrder modules d.assigns d.instances rank ranks
      → Ranked (spread modules m (λ n. rank (back n)) ranks) (equations (opened_over modules m))
