-- Ports through which no line of the design writes are never on in a top that was put together.
use Rattle.std.proofs.Common.{◌≡◌, ◌≢◌, ℕ, ◌≤◌, false, ⊎_elim, List, [], ◌∷◌, ◌++◌, length, refl, sym, ap, subst, ◌∙◌}
use Rattle.std.specs.Prelude.{codes}
use Rattle.std.specs.List.{AllByRecursion as Each}
use Rattle.std.proofs.lemmas.Bool.{cases_lt, eqb-false}
use Rattle.ap_desc.specs.Clean.{IsClean}
use Rattle.ap_desc.specs.declared.design.Design.{Design}
use Rattle.ap_desc.specs.declared.design.File.{File}
use Rattle.ap_desc.specs.declared.design.Unit.{Unit as Resource}
use Rattle.ap_model.specs.declared.storage.WritePort.{WritePort}
use Rattle.ap_model.specs.declared.storage.WritePort.TheVariants as port
use Rattle.ap_model.specs.Ports.{is_used}
use Rattle.ap_net.specs.Draft.{Draft, names_of}
use Rattle.ap_net.specs.Modules.{ModuleText}
use Rattle.ap_net.specs.Names.{IsNew, IsNotNumbered}
use Rattle.ap_net.specs.Wiring.{names_taken}
use Rattle.ap_signals.specs.DesignOutside.{enable_name}
use Rattle.ap_signals.specs.NetRuns.{file_part, unit_part, valid_name}
use Rattle.ap_border.specs.Storages.{IsOff}
use Rattle.ap_stages.specs.Around.{StagesLeaveNames}
use Rattle.ap_rest.specs.Idle.{idle_units}
use Rattle.ap_rest.specs.Memories.{HasNoMemory, IdleMemoriesAreOff, MissingMemoriesHaveNone}
use Rattle.ap_rest.specs.Standing.{IdlesLeaveNames}
use Rattle.ap_lead.specs.Idle.{HasNoEnable, IdlePortsHaveNone, IsNoMemory, NewNamesAreOff}
use Rattle.ap_gen.specs.declared.tables.Tables.{Tables}
use Rattle.ap_gen.specs.declared.top.Top.{Top}
use Rattle.ap_gen.specs.Tops.{Tops, ports_of}
use Rattle.ap_gen.proofs.BuiltGrown.{first_on, ports_at, rested_on}
use Rattle.ap_gen.proofs.Growing.{work_on}

abbrev head : List ℕ → ℕ
head [] = 0
head (b ∷ bs) = b

-- the name is neither that of a unit nor that of a valid bit, nor that of a wire with a number
record IsOwn (name : List ℕ) : Type 0 where
  other : IsNotNumbered name
  units : (u : Resource) → unit_part u ≢ name
  valid : (stage : ℕ) → valid_name stage ≢ name

shown_own : (name rest : List ℕ) → name ≡ codes "w_" ++ rest → IsNotNumbered name → IsOwn name
shown_own name rest is other = record {
  other = other;
  units = λ u e. eqb-false 117 119 refl (ap head e ∙ ap head is);
  valid = λ stage e. eqb-false 118 119 refl (ap head e ∙ ap head is);
}

mem_own : (name rest : List ℕ) → name ≡ codes "m_" ++ rest → IsNotNumbered name → IsOwn name
mem_own name rest is other = record {
  other = other;
  units = λ u e. eqb-false 117 109 refl (ap head e ∙ ap head is);
  valid = λ stage e. eqb-false 118 109 refl (ap head e ∙ ap head is);
}

mem_no_file : (name rest : List ℕ) → name ≡ codes "m_" ++ rest → (files : List File) → Each (λ (f : File). file_part f ≢ name) files
mem_no_file name rest is [] = tt
mem_no_file name rest is (f ∷ files) = ((λ e. eqb-false 102 109 refl (ap head e ∙ ap head is)), mem_no_file name rest is files)

module _ (design : Design) (tables : Tables) (modules : List ModuleText) (places : List ℕ) (made : Top) (new : Draft) (h : Tops design tables modules places made new) where
  -- such a name that is new after the first part is new at last
  module _ (stage_names : StagesLeaveNames) (idle_names : IdlesLeaveNames) (name : List ℕ) (own : IsOwn name) where
    new_staged : IsNew name (names_of h.before.before.before.starts.filed) → IsNew name (names_of h.before.before.staged)
    new_staged free =
        let steered = (work_on design tables modules places made.start h.before.before.before.steered h.before.before.before.starts).names name own.other own.units (λ stage low high. own.valid stage) free in
        stage_names design tables.slots.stages tables.merged.choices made.stages.supplies tables.paths.orders modules made.stages.shared made.stages.own.items h.before.before.before.steered h.before.before.staged made.stages.stages.items
        h.before.before.before.makes.staged name own.other (λ v u at same. absurd (own.units u same)) steered

    new_rested : IsNew name (names_of h.before.before.before.starts.filed) → IsNew name (names_of h.before.rested)
    new_rested free =
        let idled = idle_names design modules places (idle_units design) h.before.before.staged h.before.before.rests.idled h.before.before.rests.idles name own.other own.units (new_staged free) in
        h.before.before.rests.writes.drives.names name own.other (h.before.before.rests.reads.drives.names name own.other idled)

    new_fetched : IsNew name (names_of h.before.before.before.starts.filed) → IsNew name (names_of h.flows.fetched)
    new_fetched free =
        let acted = h.before.acts.transfers.drives.names name own.other (h.before.acts.writes.drives.names name own.other (new_rested free)) in
        h.flows.fetches.names name own.other (h.flows.flights.drives.names name own.other acted)

    new_last : IsNew name (names_of h.before.before.before.starts.filed) → IsNew name (names_of new)
    new_last free =
        let instances = sym h.flows.shows.instances in
        let nets = sym h.flows.shows.nets in
        subst (IsNew name) (λ i. names_taken (instances i) (nets i)) (new_fetched free)

  module _ (clean : IsClean design) (none : IdlePortsHaveNone) (off : NewNamesAreOff) (memories : IdleMemoriesAreOff) (missing : MissingMemoriesHaveNone) (stage_names : StagesLeaveNames) (idle_names : IdlesLeaveNames) where
    stored_off : (p : WritePort) → IsNoMemory p → is_used design p ≡ false → IsOff new (enable_name design p)
    stored_off p kept idle =
        let has : HasNoEnable design h.before.before.before.starts.filed p = none design tables.slots.stages made.start.lead h.before.before.before.starts.filed clean h.before.before.before.starts.leads p kept idle in
        off new (enable_name design p) (new_last stage_names idle_names (enable_name design p) (shown_own (enable_name design p) has.letter.0 has.letter.1 has.other) has.new)

    missing_off : (mem : ℕ) → length design.mems ≤ mem → IsOff new (enable_name design (port.Memory mem))
    missing_off mem past =
        let leads = h.before.before.before.starts.leads in
        let name : List ℕ = enable_name design (port.Memory mem) in
        let has : HasNoMemory design leads.first mem = subst (λ (d : Draft). HasNoMemory design d mem) (sym leads.declares.is) (missing design tables.slots.stages mem clean past) in
        let free = leads.stores.names name has.other (mem_no_file name has.letter.0 has.letter.1 design.files) (leads.drives.names name has.other has.new) in
        off new name (new_last stage_names idle_names name (mem_own name has.letter.0 has.letter.1 has.other) free)

    memory_off : (mem : ℕ) → is_used design (port.Memory mem) ≡ false → IsOff new (enable_name design (port.Memory mem))
    memory_off mem idle =
        ⊎_elim
        (λ within. memories design (ports_of made.start) h.before.before.rests.read h.before.rested new h.before.before.rests.writes (rested_on design tables modules places made new h)
        (ports_at design tables modules places made new h new (first_on design tables modules places made new h)) mem within idle)
        (missing_off mem) (cases_lt mem (length design.mems))

    pub idle_off : (p : WritePort) → is_used design p ≡ false → IsOff new (enable_name design p)
    idle_off (port.Register reg) idle = stored_off (port.Register reg) tt idle
    idle_off (port.Cell file number) idle = stored_off (port.Cell file number) tt idle
    idle_off (port.Memory mem) idle = memory_off mem idle
