-- Each later draft of a top grows from the earlier ones.
use Rattle.std.specs.Prelude.{List, ℕ}
use Rattle.ap_desc.specs.declared.design.Design.{Design}
use Rattle.ap_net.specs.declared.cell.Wire.{Wire}
use Rattle.ap_net.specs.Draft.{Adds, CanFresh, Draft, Extends}
use Rattle.ap_net.specs.Modules.{ModuleText}
use Rattle.ap_net.proofs.Drafts.{Adds-refl, Adds-trans, Extends-trans}
use Rattle.ap_slow.specs.Driven.{DrivesLate}
use Rattle.ap_work.specs.Leaving.{GrowsOn}
use Rattle.ap_work.proofs.Grown.{work_grows}
use Rattle.ap_gen.specs.declared.data.Data.{Data}
use Rattle.ap_gen.specs.declared.start.Start.{Start}
use Rattle.ap_gen.specs.declared.tables.Tables.{Tables}
use Rattle.ap_gen.specs.Started.{Starts}
use Rattle.ap_gen.specs.Tops.{HasActs, HasRests, HasStages, front_of, ports_of}

-- what drives late wires adds
pub late_adds : {driven from : List ℕ} {a b : Draft} → DrivesLate driven from a b → Adds a b
late_adds h = record { extends = h.extends; nexts = h.nexts }

module _ (design : Design) (tables : Tables) (modules : List ModuleText) (places : List ℕ) (s : Start) where
  -- over the first part the second grew
  pub work_on : (d : Draft) (h : Starts design tables.slots modules places s d) → GrowsOn design s.work h.works.placed.parts h.works.united h.works.stood h.works.controlled h.filed d
  work_on d h = work_grows design (front_of s) (ports_of s) modules places s.work h.filed d h.works

  module _ (made : Data) where
    -- The drafts before the stages were made, in one that came after: its first declarations, the first part, and the second. The stages
    -- were made up to the last draft before, and since then no register got a driver.
    pub record Grown (staged : Draft) (h : HasStages design tables modules places s made staged) (d : Draft) : Type 0 where
      pub first : Extends h.starts.leads.first d
      pub filed : Extends h.starts.filed d
      pub steered : Adds h.steered d
      pub later : Adds staged d

    pub grown_on : (staged : Draft) (h : HasStages design tables modules places s made staged) (a b : Draft) → Adds a b → Grown staged h a → Grown staged h b
    grown_on staged h a b m g = record {
      first = Extends-trans h.starts.leads.first a b g.first m.extends;
      filed = Extends-trans h.starts.filed a b g.filed m.extends;
      steered = Adds-trans h.steered a b g.steered m;
      later = Adds-trans staged a b g.later m;
    }

    -- where the stages are made
    pub stages_grow : (d : Draft) (h : HasStages design tables modules places s made d) → Grown d h d
    stages_grow d h =
        let filed : Extends h.starts.filed h.steered = (work_on h.steered h.starts).extends in
        let adds : Adds h.steered d = h.makes.staged.serves.serves.adds in
        let on : Extends h.starts.filed d = Extends-trans h.starts.filed h.steered d filed adds.extends in
        let l = h.starts.leads in
        record {
          first = Extends-trans l.first l.driven d l.drives.extends (Extends-trans l.driven h.starts.filed d l.stores.extends on);
          filed = on;
          steered = adds;
          later = Adds-refl d;
        }

    pub stages_fresh : (d : Draft) (h : HasStages design tables modules places s made d) → CanFresh d
    stages_fresh d h = h.makes.staged.serves.serves.fresh (work_on h.steered h.starts).fresh

    -- where what no line uses rests
    pub rests_add : (d : Draft) (h : HasRests design tables modules places s made d) → Adds h.staged d
    rests_add d h =
        let idles : Adds h.staged h.rests.idled = record { extends = h.rests.idles.adds.extends; nexts = h.rests.idles.adds.nexts } in
        Adds-trans h.staged h.rests.idled d idles (Adds-trans h.rests.idled h.rests.read d (late_adds h.rests.reads.drives) (late_adds h.rests.writes.drives))

    pub rests_grow_on : (d : Draft) (h : HasRests design tables modules places s made d) → Grown h.staged h.before d
    rests_grow_on d h = grown_on h.staged h.before h.staged d (rests_add d h) (stages_grow h.staged h.before)

    -- and where writes and the transfer are made
    module _ (target : Wire) where
      pub acts_add : (d : Draft) (h : HasActs design tables modules places s made target d) → Adds h.rested d
      acts_add d h = Adds-trans h.rested h.acts.written d (late_adds h.acts.writes.drives) (late_adds h.acts.transfers.drives)

      pub acts_grow : (d : Draft) (h : HasActs design tables modules places s made target d) → Grown h.before.staged h.before.before d
      acts_grow d h = grown_on h.before.staged h.before.before h.rested d (acts_add d h) (rests_grow_on h.rested h.before)
