use Rattle.std.proofs.Common.{◌≡◌, ◌<◌, ◌∙◌, ap, length, arith}
use Rattle.std.proofs.lemmas.List.{length-set}
use Rattle.ap_image.specs.Words.{with_word}
use Rattle.ap_eval.specs.Cells.{Cells}
use Rattle.ap_eval.proofs.MemoryLemmas.{changed_words, grown_words}
use Rattle.ap_eval.proofs.memory.Memory.put.Goals as goal

pub returns-then-self-address : goal.returns-then-self-address
returns-then-self-address c =
    let ws = c.self.inside.words.items in
    let a = c.args.address in
    let w = c.args.word in
    let room : length ws ≡ c.args.self.now.room = ap (λ (x : Cells). x.room) c.self.view_is in
    let lt : a < length ws = omega arith in
    let first = length-set ws a w ∙ room in
    let second = grown_words ws c.self.inside.known a w lt c.if-self-address.true c.self.invariant ∙ ap (λ (x : Cells). with_word x.words a w) c.self.view_is in
    λ i. record { room = first i; words = second i }

pub returns-else-self-address : goal.returns-else-self-address
returns-else-self-address c =
    let ws = c.self.inside.words.items in
    let a = c.args.address in
    let w = c.args.word in
    let room : length ws ≡ c.args.self.now.room = ap (λ (x : Cells). x.room) c.self.view_is in
    let first = length-set ws a w ∙ room in
    let second = changed_words ws c.self.inside.known a w c.if-self-address.false c.self.invariant.within ∙ ap (λ (x : Cells). with_word x.words a w) c.self.view_is in
    λ i. record { room = first i; words = second i }
