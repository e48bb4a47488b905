-- The row that one cycle of a netlist shows at its outputs.
use Rattle.std.specs.Prelude.{ℕ, ◌+◌, ◌==◌, ◌++◌, List, [], ◌∷◌, length, codes, Option, Some, None, if◌then◌else◌}
use Rattle.ap_net.specs.declared.net.FlatNet.{FlatNet}
use Rattle.ap_net.specs.Flat.{Flat, value_named}
use Rattle.ap_image.specs.declared.row.Row.{Row}
use Rattle.ap_image.specs.declared.row.Write.{Write}
use Rattle.ap_image.specs.declared.shape.MemShape.{MemShape}
use Rattle.ap_net.specs.Outside.{Outside, FilePort, Group, group_name, mem_name}

abbrev pub index_of : List FlatNet → List ℕ → Group → Option FilePort → Option ℕ
index_of nets v g None = None
index_of nets v g (Some port) = Some (value_named nets v (group_name g (codes "x")))

abbrev pub group_writes : List FlatNet → List ℕ → ℕ → List Group → List Write
group_writes nets v n [] = []
group_writes nets v n (g ∷ gs) = if value_named nets v (group_name g (codes "e")) == 1
    then record { group = n; index = index_of nets v g g.port; value = value_named nets v (group_name g (codes "v")) } ∷ group_writes nets v (n + 1) gs
    else group_writes nets v (n + 1) gs

abbrev pub mem_writes : List FlatNet → List ℕ → ℕ → List MemShape → List Write
mem_writes nets v n [] = []
mem_writes nets v n (m ∷ ms) = if value_named nets v (mem_name m (codes "we")) == 1
    then record { group = n; index = Some (value_named nets v (mem_name m (codes "wa"))); value = value_named nets v (mem_name m (codes "wd")) } ∷ mem_writes nets v (n + 1) ms
    else mem_writes nets v (n + 1) ms

-- the row that a valuation shows at the outputs
abbrev pub shown_row : Outside → Flat → List ℕ → Row
shown_row o f v = record {
  stall = value_named f.nets v (codes "stall") == 1;
  kill = value_named f.nets v (codes "kill") == 1;
  writes = group_writes f.nets v 0 o.groups ++ mem_writes f.nets v (length o.groups) o.mems;
}
