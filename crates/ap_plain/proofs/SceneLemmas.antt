-- What flights go on to fits.
use Rattle.std.proofs.Common.{◌≡◌, ℕ, ◌+◌, ◌≤◌, Bool, true, false, if◌then◌else◌, IfSome, List, [], ◌∷◌, ◌++◌, ap, length, get_or, slice_range, ◌-◌, Option, Some, None, option_map, map, ◌∙◌, subst, sym, arith, leb-true}
use Rattle.std.proofs.lemmas.Bool.{and_parts}
use Rattle.std.proofs.lemmas.List.{take_all}
use Rattle.ap_bits.specs.declared.card.Card.{Card}
use Rattle.ap_desc.specs.declared.design.Design.{Design}
use Rattle.ap_image.specs.declared.trace.TraceLine.{TraceLine}
use Rattle.std.specs.Option.{option_map_or}
use Rattle.ap_image.specs.declared.image.Image.{Image}
use Rattle.ap_model.specs.declared.state.StageEffect.{StageEffect}
use Rattle.ap_model.specs.declared.state.Entry.{Entry}
use Rattle.ap_model.specs.declared.state.Pass.{Pass}
use Rattle.ap_model.specs.declared.state.Sample.{Sample}
use Rattle.ap_model.specs.declared.storage.Storages.{Storages}
use Rattle.ap_model.specs.declared.state.Flight.{Flight}
use Rattle.ap_model.specs.declared.storage.PortWrite.{PortWrite}
use Rattle.ap_model.specs.declared.state.State.{State}
use Rattle.ap_model.specs.Cycles.{CycleControl, after_control, cycle_entries, cycle_flights, cycle_passes, cycle_samples, effect_in, entries_of, entry_of, flight_entries, flights_from, kept, leaving, next_number, next_pc, staying}
use Rattle.ap_model.specs.Stored.{with_writes}
use Rattle.ap_plain.specs.declared.scene.Scene.{Scene}
use Rattle.ap_plain.specs.Scenes.{SceneFits}
use Rattle.ap_model.specs.Fitting.{EffectFits, EntriesFit, FlightFits, FlightsFit, WritesFit}

staying_fits : (design : Design) (stage : ℕ) (flight : Option Flight) → IfSome flight (FlightFits design stage) → IfSome (option_map staying flight) (FlightFits design stage)
staying_fits design stage None fits = tt
staying_fits design stage (Some f) fits = record { word = fits.word; place = fits.place; locals = fits.locals }

standing_fits : (design : Design) (stage : ℕ) (held : Bool) (flight coming : Option Flight) → IfSome flight (FlightFits design stage) → IfSome coming (FlightFits design stage)
    → IfSome (if held then option_map staying flight else coming) (FlightFits design stage)
standing_fits design stage true flight coming fits more = staying_fits design stage flight fits
standing_fits design stage false flight coming fits more = more

-- the flights from a stage on, where those from the next one on fit
pub flights_next_fit : (design : Design) (cards : List Card) (inputs : TraceLine) (state : State) (control : CycleControl) (stage : ℕ) (coming left first : Option Flight) (flights : List (Option Flight))
    → 1 ≤ length flights → first ≡ get_or flights 0 first → IfSome coming (FlightFits design stage) → FlightsFit design stage flights → left ≡ leaving design cards inputs state control stage first
    → FlightsFit design (stage + 1) (flights_from design cards inputs state control (stage + 1) left (slice_range flights 1 (length flights)))
    → FlightsFit design stage (flights_from design cards inputs state control stage coming flights)
flights_next_fit design cards inputs state control stage coming left first [] some is more fits e rest = absurd (omega (arith, some))
flights_next_fit design cards inputs state control stage coming left first (flight ∷ flights) some is more fits e rest =
    let same : left ≡ leaving design cards inputs state control stage flight = subst (λ f. left ≡ leaving design cards inputs state control stage f) is e in
    let whole : slice_range (flight ∷ flights) 1 (length (flight ∷ flights)) ≡ flights = take_all (length (flight ∷ flights) - 1) flights (omega arith) in
    let further = subst (λ fs. FlightsFit design (stage + 1) (flights_from design cards inputs state control (stage + 1) left fs)) whole rest in (
      standing_fits design stage (control.held stage) flight coming fits.0 more,
      subst (λ l. FlightsFit design (stage + 1) (flights_from design cards inputs state control (stage + 1) l flights)) same further,
    )

-- The writes of a flight.

mapped_fit : (design : Design) (stage number : ℕ) (writes : List PortWrite) → WritesFit design writes → EntriesFit design (map (entry_of stage number) writes)
mapped_fit design stage number [] fits = tt
mapped_fit design stage number (w ∷ ws) fits = (fits.0, mapped_fit design stage number ws fits.1)

pub entries_fit : (design : Design) (cards : List Card) (inputs : TraceLine) (state : State) (control : CycleControl) (stage : ℕ) (flight : Option Flight) (f : Flight) (d : Option StageEffect) (effect : StageEffect)
    → flight ≡ Some f → d ≡ effect_in design cards inputs state control stage f → d ≡ Some effect → IfSome d (EffectFits design f.word stage)
    → EntriesFit design (option_map_or (flight_entries design cards inputs state control stage) flight [])
entries_fit design cards inputs state control stage flight f d effect here value some fits =
    let does : Some effect ≡ effect_in design cards inputs state control stage f = sym some ∙ value in
    let writes : IfSome (Some effect) (EffectFits design f.word stage) = subst (λ o. IfSome o (EffectFits design f.word stage)) some fits in
    let mapped : EntriesFit design (option_map_or (entries_of stage f.number) (Some effect) []) = mapped_fit design stage f.number effect.writes writes.writes in
    let of_flight : EntriesFit design (option_map_or (entries_of stage f.number) (effect_in design cards inputs state control stage f) []) = subst (λ o. EntriesFit design (option_map_or (entries_of stage f.number) o [])) does mapped in
    subst (λ o. EntriesFit design (option_map_or (flight_entries design cards inputs state control stage) o [])) (sym here) of_flight

-- The state after a cycle, part by part.

pub after_control_is : (design : Design) (cards : List Card) (image : Image) (inputs : TraceLine) (state : State) (control : CycleControl) (pc : ℕ) (storages : Storages) (flights : List (Option Flight)) (next : ℕ) (log : List Entry) (sampled : List Sample) (passes : List Pass) (entries : List Entry)
    → pc ≡ next_pc design state control → entries ≡ cycle_entries design cards inputs state control → storages ≡ with_writes state.storages (map (λ (e : Entry). e.write) entries)
    → flights ≡ cycle_flights design cards image inputs state control → next ≡ next_number design state control → log ≡ state.log ++ entries
    → sampled ≡ kept (λ (s : Sample). s.number) control next (state.sampled ++ cycle_samples design cards inputs state control)
    → passes ≡ kept (λ (p : Pass). p.number) control next (state.passes ++ cycle_passes design state control)
    → ◌≡◌ {A = State} (record { pc = pc; storages = storages; flights = flights; next = next; log = log; sampled = sampled; passes = passes }) (after_control design cards image inputs state control)
unfolding after_control
after_control_is design cards image inputs state control pc storages flights next log sampled passes entries is_pc is_entries is_storages is_flights is_next is_log is_sampled is_passes =
    let stored = is_storages ∙ ap (λ (es : List Entry). with_writes state.storages (map (λ (e : Entry). e.write) es)) is_entries in
    let logged = is_log ∙ ap (λ (es : List Entry). state.log ++ es) is_entries in
    let samples = is_sampled ∙ ap (λ n. kept (λ (s : Sample). s.number) control n (state.sampled ++ cycle_samples design cards inputs state control)) is_next in
    let passed = is_passes ∙ ap (λ n. kept (λ (p : Pass). p.number) control n (state.passes ++ cycle_passes design state control)) is_next in
    λ i. record { pc = is_pc i; storages = stored i; flights = is_flights i; next = is_next i; log = logged i; sampled = samples i; passes = passed i }

pub writes_of_fit : (design : Design) (entries : List Entry) → EntriesFit design entries → WritesFit design (map (λ (e : Entry). e.write) entries)
writes_of_fit design [] fits = tt
writes_of_fit design (e ∷ entries) fits = (fits.0, writes_of_fit design entries fits.1)

-- a design has few registers, files and memories
pub scene_parts : (scene : Scene) → SceneFits scene → (length scene.design.now.regs ≤ 64) × (length scene.design.now.files ≤ 8) × (length scene.design.now.mems ≤ 4)
scene_parts scene fits =
    let within = fits.design.sound.within in
    (leb-true _ _ (and_parts _ _ within.regs).0, leb-true _ _ (and_parts _ _ within.files).0, leb-true _ _ (and_parts _ _ within.mems).0)
