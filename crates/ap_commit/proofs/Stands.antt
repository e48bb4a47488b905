-- The nets that were made stand in a whole processor.
use Rattle.std.proofs.Common.{ℕ, ◌+◌, List, map, Option, Some, None, refl}
use Rattle.ap_desc.specs.declared.design.Design.{Design}
use Rattle.ap_model.specs.declared.storage.WritePort.{WritePort}
use Rattle.ap_model.specs.declared.storage.WritePort.TheVariants as port
use Rattle.ap_net.specs.declared.cell.Wire.{Wire}
use Rattle.ap_net.specs.Draft.{Draft, Extends}
use Rattle.ap_net.proofs.Laws.{Carries-Extends}
use Rattle.ap_signals.specs.DesignOutside.{index_name}
use Rattle.ap_effect.specs.Lines.{transfer_lines, write_lines}
use Rattle.ap_effect.specs.Writers.{writer_of}
use Rattle.ap_effect.proofs.Growing.{transfers_go_on}
use Rattle.ap_outcome.proofs.Later.{line_writers_go_on}
use Rattle.ap_border.specs.Named.{IsNamed}
use Rattle.ap_bank.specs.Joins.{IsCopy, IsCopyIndex}
use Rattle.ap_whole.specs.Effects.{IsIndexShown, IsShownAs}
use Rattle.ap_whole.specs.Handed.{LinesAreWritten, LocalsAreLeft}
use Rattle.ap_commit.specs.Standing.{IsIndexNamed, JoinedPortsShow, LeavingStands, TransferStands, WritesStand}
use Rattle.ap_commit.proofs.Made.{written_on}

-- a copy at a name shows the net
copy_shows : (b d : Draft) (name : List ℕ) (to from : Wire) → Extends b d → IsNamed d name to → IsCopy b to from → IsShownAs d name from
copy_shows b d name to from e named copy = record { net = to; named = named; same = (Carries-Extends e copy.carries).means }

index_shows : (design : Design) (b d : Draft) (p : WritePort) (to from : Option Wire) → Extends b d → IsIndexNamed design d p to → IsCopyIndex b to from → IsIndexShown design d p from
index_shows design b d (port.Register reg) None None e named copy = refl
index_shows design b d (port.Register reg) None (Some w) e named copy = absurd copy
index_shows design b d (port.Register reg) (Some x) from e named copy = absurd cc
index_shows design b d (port.Cell file number) None from e named copy = absurd named
index_shows design b d (port.Cell file number) (Some x) None e named copy = absurd copy
index_shows design b d (port.Cell file number) (Some x) (Some w) e named copy = copy_shows b d (index_name design (port.Cell file number)) x w e named copy
index_shows design b d (port.Memory mem) None from e named copy = absurd named
index_shows design b d (port.Memory mem) (Some x) None e named copy = absurd copy
index_shows design b d (port.Memory mem) (Some x) (Some w) e named copy = copy_shows b d (index_name design (port.Memory mem)) x w e named copy

pub joined_ports_show : JoinedPortsShow
joined_ports_show design a b d p to from joins e named = record {
  enable = copy_shows b d _ to.enable from.enable e named.enable joins.enable;
  index = index_shows design b d p to.index from.index e named.index joins.index;
  value = copy_shows b d _ to.value from.value e named.value joins.value;
}

pub writes_stand : LinesAreWritten → WritesStand
writes_stand law design a d modules given nets ground courses stage fires used made e h are goes shown =
    let lines = write_lines design stage used.port in
    let later = written_on a d ground courses fires used.bits used.width lines made e h in
    record {
      fires = fires;
      goes = goes;
      old = later.old;
      writers = later.writers;
      bits = used.bits;
      width = used.width;
      made = made;
      fit = later.fit;
      are = later.are;
      lines = law design d modules ground courses lines later.writers are later.come;
      enable = shown.enable;
      index = shown.index;
      shown = shown.value;
    }

pub transfer_stands : LinesAreWritten → TransferStands
transfer_stands law design a d modules given nets ground courses valid target width made e h are there shown =
    let lines = transfer_lines design design.branch in
    let writers = map writer_of h.transfers in
    record {
      valid = valid;
      there = there;
      transfers = h.transfers;
      width = width;
      made = made;
      are = transfers_go_on a d valid h.transfers width made e h.are;
      lines = law design d modules ground courses lines writers are (line_writers_go_on a d ground courses lines writers e h.come);
      taken = shown.taken;
      goes = shown.goes;
    }

pub leaving_stands : LocalsAreLeft → LeavingStands
leaving_stands law design d modules home flights slots ground courses stage are h = record {
  slots = slots;
  are = h.are;
  homes = h.homes;
  each = law design d modules ground courses slots.homes (flights.locals (stage + 1)) are h.each;
  count = h.count;
  kept = h.kept;
}
