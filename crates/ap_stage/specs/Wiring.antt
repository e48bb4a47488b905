-- Pieces of circuit that only rearrange bits.
use Rattle.std.specs.Prelude.{ℕ, List}
use Rattle.ap_net.specs.declared.cell.Wire.{Wire}
use Rattle.ap_net.specs.Draft.{Draft}
use Rattle.ap_net.specs.Late.{Reads}
use Rattle.ap_net.specs.Making.{Makes}
use Rattle.ap_net.specs.Pending.{Yields}
use Rattle.ap_stage.specs.Trees.{StandsOver}

-- Wires were made that read these of the nets that were there, and the net that is answered is one of these, or came. No more `? :` stand
-- before it than before these.
pub record IsWiring (from : List ℕ) (old new : Draft) (w : Wire) : Type 0 where
  pub yields : Yields from old new w
  pub makes : Makes old new
  pub shallow : StandsOver 0 from old new w.number

-- Wires were made that read these of the nets that were there.
pub record ReadsOnly (from : List ℕ) (old new : Draft) : Type 0 where
  pub reads : Reads from old new
  pub makes : Makes old new
