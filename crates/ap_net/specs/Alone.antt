-- A module by itself: the solutions for what its registers and inputs are given, and its runs.
use Rattle.std.specs.Prelude.{◌≡◌, ℕ, ◌+◌, ◌<◌, ◌^◌, List, [], length, slice_get, slice_index, Some, IsTrue, Bool}
use Rattle.std.specs.List.{AllByRecursion as Each}
use Rattle.ap_image.specs.declared.image.Image.{Image}
use Rattle.ap_image.specs.declared.trace.Trace.{Trace}
use Rattle.ap_net.specs.declared.net.ModuleNet.{ModuleNet}
use Rattle.ap_net.specs.declared.net.Next.{Next}
use Rattle.ap_net.specs.declared.net.Instance.{Instance}
use Rattle.ap_net.specs.Wiring.{IsSource, IsOrdered, Settles}
use Rattle.ap_net.specs.Modules.{ModuleText, IsModule, IsInstanceIn, module_named, nets_of, reset_at}
use Rattle.ap_net.specs.Flat.{base_of, opened_over}
use Rattle.ap_net.specs.Depends.{IsClosed}
use Rattle.ap_net.specs.Outside.{Outside}
use Rattle.ap_net.specs.Runs.{NetState, Runs}

-- the module keeps its rules, has no instances, and no net of it depends on itself
pub record IsPlainModule (m : ModuleText) : Type 0 where
  pub kept : IsModule m
  pub alone : m.instances ≡ []
  pub ordered : IsOrdered m.assigns

-- these numbers fit inputs and registers
abbrev pub SourcesFit : List ModuleNet → (ℕ → ℕ) → Type 0
SourcesFit nets numbers = (n : ℕ) (net : ModuleNet) → slice_get nets n ≡ Some net → IsSource net.role → numbers n < 2 ^ net.width

-- a solution of the module in which inputs and registers have these numbers
pub record SolvesWith (m : ModuleText) (numbers read : ℕ → ℕ) : Type 0 where
  pub settles : Settles (nets_of m) m.assigns read
  pub sources : (n : ℕ) (net : ModuleNet) → slice_get (nets_of m) n ≡ Some net → IsSource net.role → read n ≡ numbers n

-- whatever inputs and registers are given, there is one
abbrev pub ModulesAreSolvable : Type 0
ModulesAreSolvable = (m : ModuleText) → IsPlainModule m → (numbers : ℕ → ℕ) → SourcesFit (nets_of m) numbers → (read : ℕ → ℕ) × SolvesWith m numbers read

-- two readings agree at those inputs and registers that are in a set of nets
abbrev pub AgreeAtSources : List ModuleNet → (ℕ → Bool) → (ℕ → ℕ) → (ℕ → ℕ) → Type 0
AgreeAtSources nets among f g = (n : ℕ) (net : ModuleNet) → slice_get nets n ≡ Some net → IsSource net.role → IsTrue (among n) → f n ≡ g n

-- solutions that agree at the sources of a set of nets agree on the whole set, where the set has with each net what its cell reads
abbrev pub AgreeOnClosedSets : Type 0
AgreeOnClosedSets = (m : ModuleText) → IsPlainModule m → (among : ℕ → Bool) → IsClosed m.assigns among → (f g : ℕ → ℕ) → Settles (nets_of m) m.assigns f → Settles (nets_of m) m.assigns g
    → AgreeAtSources (nets_of m) among f g → (n : ℕ) → n < length (nets_of m) → IsTrue (among n) → f n ≡ g n

-- A run of the module alone over c cycles from reset, a solution for each cycle: registers hold their reset values in cycle 0,
-- and in each later cycle what they took in the one before.
pub record RunsAlone (m : ModuleText) (c : ℕ) (reads : ℕ → ℕ → ℕ) : Type 0 where
  pub solves : (j : ℕ) → j < c → Settles (nets_of m) m.assigns (reads j)
  pub starts : Each (λ (x : Next). reads 0 x.register.number ≡ reset_at (nets_of m) x.register.number) m.nexts
  pub goes : (j : ℕ) → j + 1 < c → Each (λ (x : Next). reads (j + 1) x.register.number ≡ reads j x.from.number) m.nexts

-- instance k of top is of the module m, and its nets are numbered from a base on in the whole
pub record IsPart (modules : List ModuleText) (top : ModuleText) (k : ℕ) (m : ModuleText) : Type 0 where
  pub of : Instance
  pub at : slice_get top.instances k ≡ Some of
  pub found : module_named modules of.module ≡ Some m

-- the part of an instance, over the cycles of a netlist's run, is a run of its module alone
abbrev pub PartsRunAlone : Type 0
PartsRunAlone = (o : Outside) (modules : List ModuleText) (top : ModuleText) → Each IsModule modules → IsModule top → Each (IsInstanceIn modules) top.instances
    → (image : Image) (trace : Trace) (c : ℕ) (states : ℕ → NetState) (valuations : ℕ → List ℕ) → Runs o (opened_over modules top) image trace c states valuations → 0 < c
    → (k : ℕ) (m : ModuleText) → IsPart modules top k m → RunsAlone m c (λ j n. slice_index (valuations j) (base_of modules top k + n))
