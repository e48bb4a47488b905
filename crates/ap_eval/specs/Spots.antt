-- The row that the values of ports show, where spots say which ports are whose.
use Rattle.std.specs.Prelude.{ℕ, ◌+◌, ◌*◌, ◌==◌, ◌++◌, List, [], ◌∷◌, length, Option, None, Some, slice_index, if◌then◌else◌}
use Rattle.ap_image.specs.declared.row.Row.{Row}
use Rattle.ap_image.specs.declared.row.Write.{Write}
use Rattle.ap_image.specs.declared.shape.MemShape.{MemShape}
use Rattle.ap_net.specs.Outside.{Outside, FilePort, Group}
use Rattle.ap_net.specs.Answering.{first_mem_port}
use Rattle.ap_eval.specs.declared.spot.Spot.{Spot}

-- the port stall follows those of the code memory, mwait, the inputs and the memories
abbrev pub stall_port : Outside → ℕ
stall_port o = first_mem_port o + 5 * length o.mems

-- the ports of a group that begin at this one: a file's has an index
abbrev pub group_spot : ℕ → Option FilePort → Spot
group_spot port None = record { enable = port; index = None; value = port + 1 }
group_spot port (Some file) = record { enable = port; index = Some (port + 1); value = port + 2 }

abbrev pub group_size : Option FilePort → ℕ
group_size None = 2
group_size (Some file) = 3

abbrev pub group_spots : ℕ → List Group → List Spot
group_spots port [] = []
group_spots port (g ∷ groups) = group_spot port g.port ∷ group_spots (port + group_size g.port) groups

abbrev pub mem_spots : ℕ → List MemShape → List Spot
mem_spots port [] = []
mem_spots port (m ∷ mems) = record { enable = port + 2; index = Some (port + 3); value = port + 4 } ∷ mem_spots (port + 5) mems

-- those of the groups and then of the memories
abbrev pub spots_of : Outside → List Spot
spots_of o = group_spots (stall_port o + 2) o.groups ++ mem_spots (first_mem_port o) o.mems

-- how many ports there are
abbrev pub group_ports_count : List Group → ℕ
group_ports_count [] = 0
group_ports_count (g ∷ groups) = group_size g.port + group_ports_count groups

abbrev pub port_count_of : Outside → ℕ
port_count_of o = stall_port o + 2 + group_ports_count o.groups

abbrev pub index_at : List ℕ → Option ℕ → Option ℕ
index_at shown None = None
index_at shown (Some port) = Some (slice_index shown port)

-- the writes of the groups and memories with these spots, which are numbered from n on
abbrev pub writes_by : List ℕ → ℕ → List Spot → List Write
writes_by shown n [] = []
writes_by shown n (s ∷ spots) = if slice_index shown s.enable == 1
    then record { group = n; index = index_at shown s.index; value = slice_index shown s.value } ∷ writes_by shown (n + 1) spots
    else writes_by shown (n + 1) spots

-- the row, where the port stall has this number and kill the next one
abbrev pub row_by : List ℕ → ℕ → List Spot → Row
row_by shown stall spots = record { stall = slice_index shown stall == 1; kill = slice_index shown (stall + 1) == 1; writes = writes_by shown 0 spots }
