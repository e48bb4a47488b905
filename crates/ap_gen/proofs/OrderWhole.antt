-- All that came in the steps of a top is in order.
use Rattle.std.proofs.Common.{ℕ, List, length, refl}
use Rattle.ap_bits.specs.declared.card.Card.{Card}
use Rattle.ap_desc.specs.Clean.{FitsCards}
use Rattle.ap_desc.specs.declared.design.Design.{Design}
use Rattle.ap_net.specs.Draft.{Draft}
use Rattle.ap_net.specs.Modules.{ModuleText}
use Rattle.ap_net.specs.Outside.{ports_of as ports_from}
use Rattle.ap_net.specs.Ready.{Dependence}
use Rattle.ap_built.specs.Ordered.{FollowsInOrder}
use Rattle.ap_lead.specs.Seen.{BeginsWithOutside}
use Rattle.ap_lead.proofs.SeenNets.{leads_begin}
use Rattle.ap_parts.specs.Known.{AreKnown, HasParts, dependence_of, known_by}
use Rattle.ap_rest.specs.Serving.{StagesDriveUsed}
use Rattle.ap_signals.specs.DesignOutside.{outside_of}
use Rattle.ap_steps.specs.Known.{AgreesAtKnown}
use Rattle.ap_work.specs.Ordering.{FollowsWork}
use Rattle.ap_gen.specs.declared.tables.Tables.{Tables}
use Rattle.ap_gen.specs.declared.top.Top.{Top}
use Rattle.ap_gen.specs.Started.{KnowsParts}
use Rattle.ap_gen.specs.Tables.{AreTablesOf}
use Rattle.ap_gen.specs.Tops.{Tops}
use Rattle.ap_gen.specs.Whole.{TopsAreOrdered, drafts_of, numbers_of, registers_of}
use Rattle.ap_gen.proofs.DataStaging.{can_supply}
use Rattle.ap_gen.proofs.OrderAct.{act_follows}
use Rattle.ap_gen.proofs.OrderData.{work_follows}
use Rattle.ap_gen.proofs.OrderDriven.{units_driven, used_among}
use Rattle.ap_gen.proofs.OrderGrowth.{clocked, grows}
use Rattle.ap_gen.proofs.OrderStand.{stand_follows, work_of}

module _ (drive : StagesDriveUsed) (cards : List Card) (design : Design) (tables : Tables) (modules : List ModuleText) (places : List ℕ) (kinds : ℕ) (made : Top) (new : Draft) (fits : FitsCards design cards)
    (has : HasParts (known_by cards) cards design modules) (known : AreKnown (known_by cards) design modules places kinds) (are : AreTablesOf design tables) (h : Tops design tables modules places made new) where
  follows : (other : Dependence) → AgreesAtKnown (length (ports_from (outside_of design))) (registers_of made) (dependence_of (known_by cards).names design) other
      → FollowsInOrder other (drafts_of design tables modules places made new h) (numbers_of made)
  follows other agrees =
      let b = h.before.before.before in
      let knows : KnowsParts design modules places kinds = record { cards = cards; fits = fits; has = has; known = known } in
      let can = can_supply design tables.slots modules places kinds made.start b.steered fits.clean are.slots knows b.starts in
      let work : FollowsWork other (drafts_of design tables modules places made new h) (numbers_of made) = work_of cards design tables modules places made new h other agrees kinds known (units_driven cards design tables modules places made new h fits are) in
      record {
        stand = stand_follows cards design tables modules places made new h other agrees work;
        work = work_follows cards design tables modules places made new h fits are other agrees work can.decoded (used_among cards design tables modules places made new h fits are drive);
        act = act_follows cards design tables modules places made new h other;
      }

pub tops_are_ordered : StagesDriveUsed → TopsAreOrdered
tops_are_ordered drive cards design tables modules places kinds made new fits has known are kept h =
    let begins : BeginsWithOutside design = leads_begin design in
    record {
      name = begins.name;
      begins = begins.begins;
      bare = begins.bare;
      grows = grows cards design tables modules places made new h;
      kept = kept;
      looks = refl;
      follows = follows drive cards design tables modules places kinds made new fits has known are h;
      clocked = clocked cards design tables modules places made new h;
    }
