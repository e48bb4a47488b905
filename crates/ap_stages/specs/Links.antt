-- The address after a word and its slots, in the stages where a line names it.
use Rattle.std.specs.Prelude.{◌≡◌, ℕ, true}
use Rattle.ap_desc.specs.declared.design.Design.{Design}
use Rattle.ap_model.specs.Fire.{link_of}
use Rattle.ap_net.specs.declared.cell.Wire.{Wire}
use Rattle.ap_net.specs.Cells.{IsNet}
use Rattle.ap_net.specs.Draft.{Draft}
use Rattle.ap_net.specs.Readings.{Always}
use Rattle.ap_course.specs.Links.{links}

-- the net has the bits of an address, and is the address after the word at `place` and its slots, where a line of the stage names that
pub record IsLinkOf (design : Design) (stage : ℕ) (d : Draft) (place link : Wire) : Type 0 where
  pub net : IsNet d.nets link
  pub wide : link.width ≡ design.address
  pub value : links design stage ≡ true → Always d (λ r. r.read link.number ≡ link_of design (r.read place.number))
