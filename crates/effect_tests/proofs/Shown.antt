-- What a port's nets are, so that they can be shown.
use Rattle.std.proofs.Common.{◌≡◌, ℕ, List, Option, Some, None}
use Rattle.std.specs.Prelude.{IfSome}
use Rattle.ap_net.specs.declared.cell.Wire.{Wire}
use Rattle.ap_net.specs.Cells.{IsNet}
use Rattle.ap_net.specs.Draft.{Draft}
use Rattle.ap_effect.specs.declared.write.Writer.{Writer}
use Rattle.ap_effect.specs.Writers.{IsIndexNet}

pub index_there : (d : Draft) (writers : List Writer) (bits : ℕ) (o : Option Wire) → IsIndexNet d writers (Some bits) o → IfSome o (λ (i : Wire). IsNet d.nets i × (i.width ≡ bits))
index_there d writers bits None h = tt
index_there d writers bits (Some i) h = (h.net, h.wide)
