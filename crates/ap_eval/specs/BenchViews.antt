-- What contracts see of a bench, and what it keeps.
use Rattle.std.specs.Prelude.{◌≡◌, ℕ, ◌^◌, ◌<◌, List, ◌∷◌, length, map, slice_get, slice_index, Some}
use Rattle.ap_image.specs.declared.shape.MemShape.{MemShape}
use Rattle.ap_image.specs.FitsShape.{LineFitsShape, WordsFit}
use Rattle.ap_net.specs.declared.net.Next.{Next}
use Rattle.ap_net.specs.declared.cell.Cell.TheVariants as cell
use Rattle.ap_net.specs.declared.net.FlatNet.{FlatNet}
use Rattle.ap_net.specs.declared.net.Role.TheVariants as role
use Rattle.ap_net.specs.Registers.{held}
use Rattle.ap_net.specs.Outside.{Outside, shape_of}
use Rattle.ap_net.specs.Runs.{NetState}
use Rattle.ap_net.specs.Answering.{StateFits, first_mem_port}
use Rattle.ap_flat.specs.Flats.{FlatParts}
use Rattle.ap_flat.specs.declared.driver.Driver.TheVariants as driver
use Rattle.ap_eval.specs.declared.op.Op.{Op}
use Rattle.ap_eval.specs.declared.spot.Spot.{Spot}
use Rattle.ap_eval.specs.Cells.{Cells, first_words, other_words, rooms_of, words_of}
use Rattle.ap_image.specs.declared.trace.TraceLine.{TraceLine}
use Rattle.ap_eval.specs.Ops.{IsPlan, computed, give_all, load_of, memories_after, ops_of, with_inputs}
use Rattle.ap_eval.specs.Spots.{port_count_of, row_by, spots_of, stall_port}
use Rattle.ap_eval.specs.Benches.{BenchState, IsBenchOrder, labels_by, row_limit_of}

-- the registers' values are those at their nets, in the order of their drivers
abbrev pub net_state : FlatParts → List ℕ → List Cells → NetState
net_state f values memories = record { registers = map (λ (x : Next). slice_index values x.register.number) f.net.nexts; mems = other_words (words_of memories) }

abbrev pub bench_state : FlatParts → List ℕ → List Cells → List ℕ → List Spot → BenchState
bench_state f values memories shown spots = record {
  flat = f;
  code = first_words (words_of memories);
  state = net_state f values memories;
  row = row_by shown (stall_port f.outside) spots;
}

-- the rooms of the memories
abbrev pub rooms_by : Outside → List ℕ
rooms_by o = 2 ^ o.address ∷ map (λ (m : MemShape). 2 ^ m.address) o.mems

-- There is a value for each net, and constants have theirs; a register that nothing drives has 0; the memories have a word for each address, and what they and the registers
-- hold fits.
pub record IsReady (f : FlatParts) (values : List ℕ) (memories : List Cells) : Type 0 where
  pub long : length values ≡ length f.net.nets
  pub constants : (n c : ℕ) → slice_get f.drivers n ≡ Some (driver.Equation (cell.Const c)) → slice_index values n ≡ c
  pub registers : (n : ℕ) (net : FlatNet) (reset : ℕ) → slice_get f.net.nets n ≡ Some net → net.role ≡ role.Register reset → slice_index values n ≡ held f.net.nexts (net_state f values memories).registers n
  pub rooms : rooms_of memories ≡ rooms_by f.outside
  pub code : WordsFit (first_words (words_of memories)) f.outside.address f.outside.word
  pub fits : StateFits f.outside f.net (net_state f values memories)

-- where rows are read, and their labels
pub record IsShowing (f : FlatParts) (shown : List ℕ) (spots : List Spot) (labels : List (List ℕ)) : Type 0 where
  pub long : length shown ≡ port_count_of f.outside
  pub spots_are : spots ≡ spots_of f.outside
  pub labels_are : labels ≡ labels_by f.outside

-- what every bench keeps
pub record IsKeptBench (f : FlatParts) (roots : List ℕ) (ops : List Op) (values : List ℕ) (memories : List Cells) (taken shown : List ℕ) (spots : List Spot) (labels : List (List ℕ)) (limit : ℕ) (order : List ℕ) : Type 0 where
  pub plan : IsPlan f roots ops
  pub ready : IsReady f values memories
  pub room : length taken ≡ length f.net.nexts
  pub showing : IsShowing f shown spots labels
  pub limited : limit ≡ row_limit_of f.outside
  pub ordered : IsBenchOrder f order

-- the values after the operations of a cycle on this line, and that of a net, which stands at its root
abbrev pub settled_by : FlatParts → List ℕ → TraceLine → List ℕ → List Cells → List ℕ
settled_by f roots line values memories = computed (load_of memories) (ops_of f roots f.order) (with_inputs line values)

abbrev pub read_by : FlatParts → List ℕ → TraceLine → List ℕ → List Cells → ℕ → ℕ
read_by f roots line values memories n = slice_index (settled_by f roots line values memories) (slice_index roots n)

-- one cycle can be computed in the room for what registers take and for what ports show
pub record CanCycle (f : FlatParts) (roots : List ℕ) (ops : List Op) (line : TraceLine) (values : List ℕ) (memories : List Cells) (taken shown : ℕ) : Type 0 where
  pub plan : IsPlan f roots ops
  pub ready : IsReady f values memories
  pub line_fits : LineFitsShape line (shape_of f.outside)
  pub taken_is : taken ≡ length f.net.nexts
  pub shown_is : shown ≡ port_count_of f.outside

-- what stands after it: the ports' values in the cycle, and the values and memories after the edge
pub record IsCycled (f : FlatParts) (roots : List ℕ) (line : TraceLine) (values : List ℕ) (memories : List Cells) (new_values : List ℕ) (new_memories : List Cells) (taken shown : List ℕ) : Type 0 where
  pub shown_long : length shown ≡ port_count_of f.outside
  pub shows : (n : ℕ) → n < port_count_of f.outside → slice_index shown n ≡ read_by f roots line values memories n
  pub registers : new_values ≡ give_all f.net.nexts (map (λ (x : Next). read_by f roots line values memories x.from.number) f.net.nexts) (settled_by f roots line values memories)
  pub words : new_memories ≡ memories_after (read_by f roots line values memories) (first_mem_port f.outside) memories
  pub taken_long : length taken ≡ length f.net.nexts
