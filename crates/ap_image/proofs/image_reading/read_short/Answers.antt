use Rattle.std.proofs.Common.{◌≡◌, [], List, map, ap, subst, ◌∙◌}
use Rattle.ap_text.specs.Lines.{TextLine, lines_of}
use Rattle.ap_text.specs.Spans.{line_in}
use Rattle.ap_image.specs.ImageTexts.{image_fault}
use Rattle.ap_image.specs.TextFaults.{AreFine}
use Rattle.ap_image.proofs.OneMoreLine.{image_fits}
use Rattle.ap_image.proofs.FirstFaults.{faultless_text}
use Rattle.ap_image.proofs.image_reading.read_short.Goals as goal

pub returns-clause-faultless : goal.returns-clause-faultless
returns-clause-faultless c =
    let lines : map (line_in c.args.text.now) c.as_slice.result.now ≡ lines_of c.args.text.now = ap (map (line_in c.args.text.now)) c.as_slice.ensures.value ∙ c.in_ok-list.ensures.lines in
    faultless_text (image_fault c.args.shape.now) c.args.text.now c.requires (subst (λ (l : List TextLine). AreFine (image_fault c.args.shape.now) [] l) lines c.in_ok-so_far.ensures.ok.fine)

pub returns-clause-fits : goal.returns-clause-fits
returns-clause-fits c = image_fits c.args.shape.now _ c.in_ok-so_far.so_far c.finish.result c.in_ok-so_far.ensures.ok c.finish.ensures
