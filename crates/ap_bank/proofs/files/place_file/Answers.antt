use Rattle.std.proofs.Common.{◌≡◌, ◌∷◌, List, refl, sym, ap, ◌∙◌}
use Rattle.ap_net.specs.declared.cell.Wire.{Wire}
use Rattle.ap_net.specs.Placing.{input_widths}
use Rattle.ap_net.proofs.Laws.{IsNotNumbered-other}
use Rattle.ap_signals.specs.NetRuns.{file_part}
use Rattle.ap_bank.specs.Placed.{file_inputs}
use Rattle.ap_bank.proofs.Declared.{IsNetName-storage}
use Rattle.ap_bank.proofs.FileNets.{inputs_there, inputs_wide}
use Rattle.ap_bank.proofs.FilePlaced.{places_file}
use Rattle.ap_bank.proofs.files.place_file.Goals as goal

pub place-requires : goal.place-requires
place-requires c =
    let f = c.args.file.now in
    let reads : List Wire = c.args.reads.now in
    let same : c.as_bytes.result.now ≡ file_part f = c.as_bytes.ensures.value ∙ c.in_ok-name.ensures.ok ∙ ap (λ name. 102 ∷ 95 ∷ name) c.as_str.ensures.same in
    let list : c.as_slice.result.now ≡ file_inputs reads c.args.writes.now = c.as_slice.ensures ∙ c.in_ok-inputs.ensures in
    let g = c.requires.given in
    rw (same, list) (record {
      top = c.requires.top;
      fresh = c.requires.fresh;
      is_name = (IsNetName-storage f.name c.as_str.ensures.is_name).1;
      name = c.requires.name;
      other = IsNotNumbered-other (file_part f) refl;
      widths = inputs_wide f c.args.out.now.nets reads c.args.writes.now g ∙ ap input_widths (sym c.requires.ports);
      nets = inputs_there f c.args.out.now.nets reads c.args.writes.now g.indices g.written;
    })

pub returns : goal.returns
returns c =
    let f = c.args.file.now in
    let reads : List Wire = c.args.reads.now in
    let same : c.as_bytes.result.now ≡ file_part f = c.as_bytes.ensures.value ∙ c.in_ok-name.ensures.ok ∙ ap (λ name. 102 ∷ 95 ∷ name) c.as_str.ensures.same in
    let list : c.as_slice.result.now ≡ file_inputs reads c.args.writes.now = c.as_slice.ensures ∙ c.in_ok-inputs.ensures in
    let y = rw (same, list) at c.in_ok-values.ensures in
    places_file f c.args.whole.now reads c.args.writes.now c.in_ok-values.values c.args.out.now c.place.new.self c.requires.ports c.requires.given y.ok y.outputs c.requires.fresh y.nets y.part y.joins y.places y.connects
