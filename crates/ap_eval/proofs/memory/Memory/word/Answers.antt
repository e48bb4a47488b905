use Rattle.std.proofs.Common.{◌∙◌, ap, arith}
use Rattle.std.specs.Prelude.{slice_index}
use Rattle.std.proofs.lemmas.List.{get_or_read}
use Rattle.ap_eval.specs.Cells.{Cells}
use Rattle.ap_eval.proofs.MemoryLemmas.{known_word}
use Rattle.ap_eval.proofs.memory.Memory.word.Goals as goal

pub returns-then-address-len : goal.returns-then-address-len
returns-then-address-len c =
    let ws = c.self.inside.words.items in
    get_or_read ws _ _ (omega (arith, c.self.inside.words.ok.0)) c.index.ensures 0 ∙ known_word ws c.self.inside.known c.args.address c.self.invariant ∙ ap (λ (x : Cells). slice_index x.words c.args.address) c.self.view_is
