-- A run of a finished draft with its instances opened, read cycle by cycle: the nets of top by their numbers in the draft, and those of
-- an instance by their numbers in its module.
use Rattle.std.specs.Prelude.{◌≡◌, ◌≢◌, ℕ, ◌+◌, ◌<◌, List, [], ◌∷◌, ◌++◌, map, position, slice_get, slice_index, Some, true, Contains}
use Rattle.std.specs.List.{list_any}
use Rattle.std.specs.Str.{bytes_eq}
use Rattle.ap_image.specs.declared.image.Image.{Image}
use Rattle.ap_image.specs.declared.trace.Trace.{Trace}
use Rattle.ap_net.specs.declared.net.Instance.{Instance}
use Rattle.ap_net.specs.declared.net.ModuleNet.{ModuleNet}
use Rattle.ap_net.specs.declared.net.Next.{Next}
use Rattle.ap_net.specs.Alone.{RunsAlone}
use Rattle.ap_net.specs.Draft.{Draft}
use Rattle.ap_net.specs.Finished.{IsFinished}
use Rattle.ap_net.specs.Flat.{Flat, base_of, names_net, opened_over, register_in, value_in_part, value_named}
use Rattle.ap_net.specs.Modules.{IsNetlist, ModuleText, module_named, nets_of}
use Rattle.ap_net.specs.Outside.{Outside}
use Rattle.ap_net.specs.Readings.{IsSettled, Reading}
use Rattle.ap_net.specs.Runs.{NetState, Runs}
use Rattle.ap_net.specs.Wiring.{reset_of}

-- what the registers take at the edge after a cycle with these values
abbrev pub taken_by : Flat → List ℕ → List ℕ
taken_by flat values = map (λ (x : Next). slice_index values x.from.number) flat.nexts

-- A register of a part, by its name: it is there; what it holds after the reset edge; in each of c cycles it holds this number, and takes
-- that one at the edge, which it holds from then on.
pub record RegisterGoes (flat : Flat) (c : ℕ) (states : ℕ → NetState) (values : ℕ → List ℕ) (part : ℕ) (name : List ℕ) (reset : ℕ) (shown next : ℕ → ℕ) : Type 0 where
  pub there : list_any (λ (x : Next). names_net part name (slice_get flat.nets x.register.number)) flat.nexts ≡ true
  pub starts : register_in part flat (states 0).registers name ≡ reset
  pub holds : (j : ℕ) → j < c → register_in part flat (states j).registers name ≡ shown j
  pub takes : (j : ℕ) → j < c → register_in part flat (taken_by flat (values j)) name ≡ next j
  pub goes : (j : ℕ) → j < c → register_in part flat (states (j + 1)).registers name ≡ next j

-- the nets and registers of a part, by their numbers in its module; over the cycles it is a run of its module alone
pub record ReadsPart (m : ModuleText) (flat : Flat) (c : ℕ) (states : ℕ → NetState) (values : ℕ → List ℕ) (part : ℕ) (read : ℕ → ℕ → ℕ) : Type 0 where
  pub nets : (j n : ℕ) (net : ModuleNet) → j < c → slice_get (nets_of m) n ≡ Some net → value_in_part part flat.nets (values j) net.name ≡ read j n
  pub registers : (x : Next) (net : ModuleNet) → Contains m.nexts x → slice_get (nets_of m) x.register.number ≡ Some net
      → RegisterGoes flat c states values part net.name (reset_of net.role) (λ j. read j x.register.number) (λ j. read j x.from.number)
  pub alone : 0 < c → RunsAlone m c read

-- A reading for each cycle, which solves the draft and its parts. It reads the nets of top, and part k + 1 is that of instance k. A name
-- that no net of top has reads as 0.
pub record ReadsRun (d : Draft) (modules : List ModuleText) (flat : Flat) (c : ℕ) (states : ℕ → NetState) (values : ℕ → List ℕ) (reading : ℕ → Reading) : Type 0 where
  pub over : (j : ℕ) → (reading j).modules ≡ modules
  pub settled : (j : ℕ) → j < c → IsSettled d (reading j)
  pub nets : (j n : ℕ) (net : ModuleNet) → j < c → slice_get d.nets n ≡ Some net → value_named flat.nets (values j) net.name ≡ (reading j).read n
  pub absent : (j : ℕ) (name : List ℕ) → ((n : ℕ) (net : ModuleNet) → slice_get d.nets n ≡ Some net → net.name ≢ name) → value_named flat.nets (values j) name ≡ 0
  pub registers : (x : Next) (net : ModuleNet) → Contains d.nexts x → slice_get d.nets x.register.number ≡ Some net
      → RegisterGoes flat c states values 0 net.name (reset_of net.role) (λ j. (reading j).read x.register.number) (λ j. (reading j).read x.from.number)
  pub parts : (k : ℕ) (i : Instance) (m : ModuleText) → slice_get d.instances k ≡ Some i → module_named modules i.module ≡ Some m → ReadsPart m flat c states values (k + 1) (λ j. (reading j).parts k)
  pub located : (k : ℕ) (i : Instance) → slice_get d.instances k ≡ Some i → i.name ≢ d.name → position (bytes_eq i.name) flat.parts ≡ Some (k + 1)

-- the reading by a solution of the whole, where a net of the draft has this place in the finished module
abbrev pub reading_by : List ModuleText → ModuleText → (ℕ → ℕ) → List ℕ → Reading
reading_by modules top place values = record { modules = modules; read = λ n. slice_index values (place n); parts = λ k n. slice_index values (base_of modules top k + n) }

-- the run of a finished draft over the modules of its instances is read by its solutions
abbrev pub RunsAreRead : Type 0
RunsAreRead = (d : Draft) (modules : List ModuleText) (top : ModuleText) (fin : IsFinished d top) → IsNetlist (modules ++ top ∷ [])
    → (o : Outside) (image : Image) (trace : Trace) (c : ℕ) (states : ℕ → NetState) (values : ℕ → List ℕ) → Runs o (opened_over modules top) image trace c states values
    → ReadsRun d modules (opened_over modules top) c states values (λ j. reading_by modules top fin.place (values j))
