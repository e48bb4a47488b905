-- A bench stands in a state of a netlist's run: what it holds, and the steps from state to state.
use Rattle.std.specs.Prelude.{◌≡◌, ℕ, ◌+◌, ◌<◌, ◌≤◌, List, [], ◌++◌, length, map, Option, None, Some, slice_get, sum_by, false, codes}
use Rattle.ap_image.specs.declared.image.Image.{Image}
use Rattle.ap_image.specs.declared.shape.MemShape.{MemShape}
use Rattle.ap_image.specs.declared.trace.Trace.{Trace}
use Rattle.ap_image.specs.declared.trace.TraceLine.{TraceLine}
use Rattle.ap_image.specs.declared.row.Row.{Row}
use Rattle.ap_image.specs.FitsShape.{line_at}
use Rattle.ap_image.specs.RowTexts.{file_label, index_text}
use Rattle.std.specs.Fmt.{decimal}
use Rattle.ap_net.specs.declared.net.FlatNet.{FlatNet}
use Rattle.ap_net.specs.declared.net.Role.{Role}
use Rattle.ap_net.specs.declared.net.Role.TheVariants as role
use Rattle.ap_net.specs.Runs.{Cycle, NetState, Runs, reset_state}
use Rattle.ap_net.specs.Rows.{shown_row}
use Rattle.ap_net.specs.Outside.{Outside, FilePort, Group, ports_of, shape_of}
use Rattle.ap_flat.specs.Dependence.{DependsOn}
use Rattle.ap_flat.specs.Flats.{FlatParts, IsFlattened}

-- the row of no cycle
abbrev pub empty_row : Row
empty_row = record { stall = false; kill = false; writes = [] }

-- a netlist that is run, the code memory, the state before the next cycle, and the row of the last one
pub record BenchState : Type 0 where
  pub flat : FlatParts
  pub code : List ℕ
  pub state : NetState
  pub row : Row

-- after the reset edge
abbrev pub started : FlatParts → Image → BenchState
started flat image = record { flat = flat; code = image.code; state = reset_state flat.net image; row = empty_row }

-- One cycle with these inputs: from the state that the bench holds to the next one, by a solution that the row shows.
pub record Steps (line : TraceLine) (old new : BenchState) : Type 0 where
  pub solution : List ℕ
  pub cycle : Cycle old.flat.outside old.flat.net old.code line old.state solution new.state
  pub row : new.row ≡ shown_row old.flat.outside old.flat.net solution
  pub flat : new.flat ≡ old.flat
  pub code : new.code ≡ old.code

-- The bench stands in state m of a run on this image and trace; once there was a cycle, its row is the one that the last
-- solution shows.
pub record StandsIn (flat : FlatParts) (image : Image) (trace : Trace) (m : ℕ) (states : ℕ → NetState) (valuations : ℕ → List ℕ) (bench : BenchState) : Type 0 where
  pub flat_is : bench.flat ≡ flat
  pub code_is : bench.code ≡ image.code
  pub state_is : bench.state ≡ states m
  pub row_is : (j : ℕ) → m ≡ j + 1 → bench.row ≡ shown_row flat.outside flat.net (valuations j)

-- A bench after its start stands in state 0 of every run, and one that stands in state m of a run stands after a step, with the
-- trace's line of cycle m, in state m + 1 of every run of more than m cycles.
abbrev pub StartsInRuns : Type 0
StartsInRuns = (flat : FlatParts) (image : Image) (trace : Trace) (c : ℕ) (states : ℕ → NetState) (valuations : ℕ → List ℕ) → Runs flat.outside flat.net image trace c states valuations
    → StandsIn flat image trace 0 states valuations (started flat image)

abbrev pub StepsInRuns : Type 0
StepsInRuns = (flat : FlatParts) → IsFlattened flat → (image : Image) (trace : Trace) (c m : ℕ) (states : ℕ → NetState) (valuations : ℕ → List ℕ) → Runs flat.outside flat.net image trace c states valuations → m < c
    → (old new : BenchState) → StandsIn flat image trace m states valuations old → Steps (line_at trace (shape_of flat.outside).inputs m) old new
    → StandsIn flat image trace (m + 1) states valuations new

-- the net isn't in a bench's order: a register, or one of the ports mwait and the inputs of the description, which follow iaddr and idata
abbrev pub IsGivenBy : ℕ → ℕ → Role → Type 0
IsGivenBy inputs n role.Input = (2 ≤ n) × (n < 3 + inputs)
IsGivenBy inputs n role.Output = (2 ≤ n) × (n < 3 + inputs)
IsGivenBy inputs n role.Plain = (2 ≤ n) × (n < 3 + inputs)
IsGivenBy inputs n (role.Register reset) = Unit {0}

abbrev pub IsGiven : Outside → ℕ → Option FlatNet → Type 0
IsGiven o n None = ⊥
IsGiven o n (Some net) = IsGivenBy (length o.inputs) n net.role

-- The numbers of the nets except those that the outside or a clock edge gives before a cycle: each once, and after each of them on
-- which it directly depends.
pub record IsBenchOrder (f : FlatParts) (order : List ℕ) : Type 0 where
  pub within : (i n : ℕ) → slice_get order i ≡ Some n → (n < length f.net.nets) × (IsGiven f.outside n (slice_get f.net.nets n) → ⊥)
  pub all : (n : ℕ) → n < length f.net.nets → (IsGiven f.outside n (slice_get f.net.nets n) → ⊥) → (i : ℕ) × (slice_get order i ≡ Some n)
  pub once : (i j n : ℕ) → slice_get order i ≡ Some n → slice_get order j ≡ Some n → i ≡ j
  pub after : (i j n m : ℕ) → slice_get order i ≡ Some n → slice_get order j ≡ Some m → DependsOn f.net (ports_of f.outside) n m → j < i

-- the labels of the groups and then of the memories
abbrev pub group_label : List ℕ → Option FilePort → List ℕ
group_label storage None = storage
group_label storage (Some port) = file_label storage port.number

abbrev pub labels_by : Outside → List (List ℕ)
labels_by o = map (λ (g : Group). group_label g.storage g.port) o.groups ++ map (λ (m : MemShape). m.name) o.mems

-- no row has more bytes: the number of a cycle up to 1,000,000, a state, for each write a space, its label, brackets, an equals sign and
-- two numbers of at most 20 digits, and the line feed
abbrev pub limit_by : List (List ℕ) → ℕ
limit_by labels = 19 + sum_by (λ label. length label + 44) labels

abbrev pub row_limit_of : Outside → ℕ
row_limit_of o = limit_by (labels_by o)

-- a write with this label, as it stands in a row's text
abbrev pub labelled : List ℕ → Option ℕ → ℕ → List ℕ
labelled label index value = codes " " ++ label ++ index_text index ++ codes "=" ++ decimal value
