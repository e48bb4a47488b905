-- The read ports of register files are joined to the nets over which the files were placed.
use Rattle.std.proofs.Common.{◌≡◌, ℕ, ◌+◌, List, Some, length, subst, arith}
use Rattle.std.specs.Prelude.{slice_get}
use Rattle.ap_desc.specs.declared.design.Design.{Design}
use Rattle.ap_desc.specs.declared.design.File.{File}
use Rattle.ap_net.specs.declared.cell.Wire.{Wire}
use Rattle.ap_net.specs.declared.net.Instance.{Instance}
use Rattle.ap_net.specs.Draft.{Draft}
use Rattle.ap_net.specs.Modules.{ModuleText}
use Rattle.ap_net.proofs.Laws.{stays}
use Rattle.ap_ctl.specs.Lists.{EachFrom}
use Rattle.ap_ctl.proofs.Beside.{EachFrom-at}
use Rattle.ap_store.specs.FilePorts.{read_index, read_value}
use Rattle.ap_bank.specs.FileBorder.{BanksFile, BanksFiles, GivesFiles, part_of}
use Rattle.ap_built.specs.FileReads.{FilesJoinReads, JoinsReads}

-- what stands in a list from its first place on
from_first : (P : ℕ → Wire → Type 0) (ws : List Wire) → EachFrom P 0 ws → (i : ℕ) (w : Wire) → slice_get ws i ≡ Some w → P i w
from_first P ws h i w at = let here : 0 + i ≡ i = omega arith in subst (λ n. P n w) here (EachFrom-at P 0 ws h i w at)

module _ (design : Design) (d : Draft) (modules : List ModuleText) (banks : BanksFiles design d modules) (gives : GivesFiles design d modules banks) (file : ℕ) (f : File) (at : slice_get design.files file ≡ Some f) where
  abbrev bank : BanksFile design d modules file f
  bank = banks file f at

  -- both are the instance at one place
  same : bank.placed.of ≡ ((gives.files).each file f at).of
  same =
      let mine : slice_get d.instances (part_of bank) ≡ Some bank.placed.of = stays (bank.new).instances d.instances bank.grows.instances (length (bank.old).instances) bank.placed.of bank.placed.placed in
      let theirs : slice_get d.instances (part_of bank) ≡ Some ((gives.files).each file f at).of = subst (λ n. slice_get d.instances n ≡ Some ((gives.files).each file f at).of) (gives.part file f at) ((gives.files).each file f at).placed in
      cc

  reads : JoinsReads design d modules banks gives.files file f at
  reads = record {
    index = λ number w there. subst (λ (i : Instance). slice_get i.nets (read_index number) ≡ Some w) same (from_first (λ n x. slice_get (bank.placed.of).nets (read_index n) ≡ Some x) bank.reads bank.placed.joined.indices number w there);
    value = λ number w there. subst (λ (i : Instance). slice_get i.nets (read_value number) ≡ Some w) same (from_first (λ n x. slice_get (bank.placed.of).nets (read_value n) ≡ Some x) bank.values bank.placed.joined.shown number w there);
  }

pub files_join_reads : FilesJoinReads
files_join_reads design d modules banks gives file f at = reads design d modules banks gives file f at
