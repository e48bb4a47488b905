-- What building a unit leaves in the builder.
use Rattle.std.specs.Prelude.{◌≡◌, ℕ, ◌<◌, [], length}
use Rattle.ap_bits.specs.declared.card.Card.{Card}
use Rattle.ap_net.specs.Wiring.{IsDriven}
use Rattle.ap_net.specs.Draft.{Draft}
use Rattle.ap_net.specs.Modules.{ModuleText, IsModule, ports_among}
use Rattle.ap_net.specs.Finished.{IsFinished}
use Rattle.ap_unit.specs.Units.{IsUnit}

-- nothing is declared and nothing is driven: the builder is new
pub record IsBlank (d : Draft) : Type 0 where
  pub nets : d.nets ≡ []
  pub assigns : d.assigns ≡ []
  pub nexts : d.nexts ≡ []
  pub instances : d.instances ≡ []

-- the draft may be finished, and each module that is made of it is a unit of the card
pub record IsUnitDraft (d : Draft) (card : Card) (w : ℕ) : Type 0 where
  pub driven : IsDriven d.nets d.assigns d.nexts d.instances
  pub port : 0 < length (ports_among d.nets)
  pub unit : (m : ModuleText) → IsModule m → IsFinished d m → IsUnit m card w
