-- Nets of a processor's top that no line drives: the indices of read ports, and the outputs at which a memory is written. They are always 0.
use Rattle.std.specs.Prelude.{◌≡◌, ℕ, ◌+◌, ◌≤◌, true, false, Bool, List, [], ◌∷◌, ◌++◌, length}
use Rattle.std.specs.List.{AllByRecursion as Each}
use Rattle.ap_desc.specs.Ports.{file_read, mem_read, mem_write}
use Rattle.ap_desc.specs.declared.design.Design.{Design}
use Rattle.ap_desc.specs.declared.design.File.{File}
use Rattle.ap_net.specs.declared.cell.Wire.{Wire}
use Rattle.ap_net.specs.Draft.{Draft}
use Rattle.ap_net.specs.Ready.{numbers}
use Rattle.ap_ctl.specs.Lists.{EachPair}
use Rattle.ap_bank.specs.declared.bank.FileNets.{FileNets}
use Rattle.ap_bank.specs.Joins.{IsAtRest}
use Rattle.ap_front.specs.declared.ports.MemPorts.{MemPorts}
use Rattle.ap_slow.specs.Driven.{DrivesLate}
use Rattle.ap_rest.specs.Uses.{is_port_used}

-- the nets of a port, unless it is used
abbrev pub unless_used : Bool → List Wire → List Wire
unless_used true nets = []
unless_used false nets = nets

-- the indices at the read ports of a file, from this one on, that no line uses
abbrev pub idle_indices : Design → ℕ → ℕ → List Wire → List Wire
idle_indices design file port [] = []
idle_indices design file port (w ∷ indices) = unless_used (is_port_used design (file_read file port)) (w ∷ []) ++ idle_indices design file (port + 1) indices

-- those of all files from this one on
abbrev pub idle_of_files : Design → ℕ → List FileNets → List Wire
idle_of_files design file [] = []
idle_of_files design file (n ∷ files) = idle_indices design file 0 n.indices ++ idle_of_files design (file + 1) files

-- the read addresses of the memories, from this one on, that no line reads
abbrev pub idle_of_mems : Design → ℕ → List MemPorts → List Wire
idle_of_mems design mem [] = []
idle_of_mems design mem (m ∷ mems) = unless_used (is_port_used design (mem_read mem)) (m.read_address ∷ []) ++ idle_of_mems design (mem + 1) mems

-- all indices that no line drives
abbrev pub idle_reads : Design → List FileNets → List MemPorts → List Wire
idle_reads design files mems = idle_of_files design 0 files ++ idle_of_mems design 0 mems

-- the outputs at which the memories are written, from this one on, that no line writes
abbrev pub idle_writes : Design → ℕ → List MemPorts → List Wire
idle_writes design mem [] = []
idle_writes design mem (m ∷ mems) = unless_used (is_port_used design (mem_write mem)) (m.enable ∷ m.address ∷ m.value ∷ []) ++ idle_writes design (mem + 1) mems

-- there is an index for each read port of each file
abbrev pub HasIndices : File → FileNets → Type 0
HasIndices f n = length n.indices ≡ f.reads

abbrev pub HaveIndices : Design → List FileNets → Type 0
HaveIndices design files = EachPair HasIndices design.files files

-- no more than a file has at most
abbrev pub HasFewIndices : FileNets → Type 0
HasFewIndices n = length n.indices ≤ 4

-- These nets, which were to be driven later, are always 0; all else stays.
pub record RestsLate (nets : List Wire) (old new : Draft) : Type 0 where
  pub rest : Each (IsAtRest new) nets
  pub drives : DrivesLate (numbers nets) [] old new
