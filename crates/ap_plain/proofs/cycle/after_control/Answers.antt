use Rattle.std.proofs.Common.{List, ◌++◌, ap, map, subst, sym, ◌∙◌}
use Rattle.ap_model.specs.Cycles.{kept}
use Rattle.ap_model.specs.Fitting.{StoragesFit}
use Rattle.ap_plain.specs.Scenes.{control_of_scene}
use Rattle.ap_model.specs.declared.state.Entry.{Entry}
use Rattle.ap_model.specs.declared.state.Pass.{Pass}
use Rattle.ap_model.specs.declared.state.Sample.{Sample}
use Rattle.ap_model.specs.declared.storage.Storages.{Storages}
use Rattle.ap_plain.proofs.MachineFits.{writes_keep}
use Rattle.ap_plain.proofs.SceneLemmas.{after_control_is, writes_of_fit}
use Rattle.ap_plain.proofs.cycle.after_control.Goals as goal

pub returns-clause-value : goal.returns-clause-value
returns-clause-value c =
    let scene = c.args.scene.now in
    let control = control_of_scene scene in
    let state = scene.state.now in
    let storages = rw c.as_slice.ensures at c.in_ok-storages.ensures in
    let log = rw (c.as_slice-2.ensures, c.as_slice-3.ensures) at c.in_ok-log.ensures in
    let samples = rw (c.as_slice-4.ensures, c.as_slice-5.ensures) at c.in_ok-samples-2.ensures in
    let passes = rw (c.as_slice-6.ensures, c.as_slice-7.ensures) at c.in_ok-passes-2.ensures in
    after_control_is scene.design.now scene.cards.now c.args.image.now scene.inputs.now state control c.next_pc.result c.in_ok-storages.storages c.in_ok-flights.flights c.in_ok-next.next c.of-log.result c.in_ok-sampled.sampled c.in_ok-passes-3.passes
    c.in_ok-entries.entries c.next_pc.ensures c.in_ok-entries.ensures.value storages c.in_ok-flights.ensures.value c.in_ok-next.ensures (c.of-log.ensures ∙ log)
    (c.in_ok-sampled.ensures ∙ ap (kept (λ (s : Sample). s.number) control c.in_ok-next.next) (c.deref.ensures.value ∙ samples ∙ ap (λ (xs : List Sample). state.sampled ++ xs) c.in_ok-samples.ensures))
    (c.in_ok-passes-3.ensures ∙ ap (kept (λ (p : Pass). p.number) control c.in_ok-next.next) (c.deref-2.ensures.value ∙ passes ∙ ap (λ (xs : List Pass). state.passes ++ xs) c.in_ok-passes.ensures))

pub returns-clause-storages : goal.returns-clause-storages
returns-clause-storages c =
    let design = c.args.scene.now.design.now in
    let storages = rw c.as_slice.ensures at c.in_ok-storages.ensures in
    let fits = writes_keep design c.args.scene.now.state.now.storages (map (λ (e : Entry). e.write) c.in_ok-entries.entries) c.requires.scene.storages (writes_of_fit design c.in_ok-entries.entries c.in_ok-entries.ensures.fits) in
    subst (λ (s : Storages). StoragesFit design s) (sym storages) fits
