use Rattle.std.proofs.Common.{◌≡◌, ◌<◌, ◌≤◌, ◌^◌, ◌∙◌, ◌∷◌, ℕ, List, length, get_or, ap, sym, subst, arith}
use Rattle.std.proofs.lemmas.List.{take_all}
use Rattle.ap_image.specs.Shapes.{Shape}
use Rattle.ap_image.specs.declared.shape.MemShape.{MemShape}
use Rattle.ap_eval.specs.Cells.{Cells}
use Rattle.ap_eval.proofs.MemoryPorts.{mems_long}
use Rattle.ap_eval.proofs.Starting.{fit_at, rooms_more, words_more}
use Rattle.ap_eval.proofs.bench.memories_of.Goals as goal

pub bounds-words-number : goal.bounds-words-number
bounds-words-number c =
    let ms : List MemShape = c.args.flat.now.outside.mems in
    let fit : length c.args.image.now.mems ≡ length ms = mems_long c.args.image.now.mems ms c.requires.mems in
    let a : length c.as_slice-words.result.now ≡ length c.args.image.now.mems = ap length c.as_slice-words.ensures in
    let b : length c.mems-mems.result.now ≡ length ms = ap length (c.mems-mems.ensures ∙ ap (λ (s : Shape). s.mems) c.shape-shape.ensures) in
    omega (arith, c.loop-number-test.true)

pub new-requires-in-loop-number-clause-room : goal.new-requires-in-loop-number-clause-room
new-requires-in-loop-number-clause-room c =
    let ms : List MemShape = c.args.flat.now.outside.mems in
    let n : ℕ = c.loop-number.number in
    let are : c.mems-mems.result.now ≡ ms = c.mems-mems.ensures ∙ ap (λ (s : Shape). s.mems) c.shape-shape.ensures in
    let b : length c.mems-mems.result.now ≡ length ms = ap length are in
    let low : n < length ms = omega (arith, c.loop-number-test.true) in
    let room = (fit_at c.args.image.now.mems ms c.requires.mems n low c.index-words-number.result c.index-mems-number.result).room in
    let words : c.as_slice-in-loop-number.result.now ≡ get_or c.args.image.now.mems n c.index-words-number.result =
    c.as_slice-in-loop-number.ensures ∙ c.index-words-number.is ∙ ap (λ (l : List (List ℕ)). get_or l n c.index-words-number.result) c.as_slice-words.ensures in
    subst (λ (l : List MemShape). length c.as_slice-in-loop-number.result.now ≤ 2 ^ (get_or l n c.index-mems-number.result).address) (sym are)
    (subst (λ (l : List ℕ). length l ≤ 2 ^ (get_or ms n c.index-mems-number.result).address) (sym words) room)

pub loop-number-preserved : goal.loop-number-preserved
loop-number-preserved c =
    let ms : List MemShape = c.args.flat.now.outside.mems in
    let n : ℕ = c.loop-number.number in
    let d : MemShape = c.index-mems-number.result in
    let are : c.mems-mems.result.now ≡ ms = c.mems-mems.ensures ∙ ap (λ (s : Shape). s.mems) c.shape-shape.ensures in
    let b : length c.mems-mems.result.now ≡ length ms = ap length are in
    let low : n < length ms = omega (arith, c.loop-number-test.true) in
    let fit : length c.args.image.now.mems ≡ length ms = mems_long c.args.image.now.mems ms c.requires.mems in
    let room : c.in_ok-memory.memory.room ≡ 2 ^ (get_or ms n d).address = ap (λ (m : Cells). m.room) c.in_ok-memory.ensures ∙ ap (λ (l : List MemShape). 2 ^ (get_or l n d).address) are in
    let words : c.in_ok-memory.memory.words ≡ get_or c.args.image.now.mems n c.index-words-number.result =
    ap (λ (m : Cells). m.words) c.in_ok-memory.ensures ∙ c.as_slice-in-loop-number.ensures ∙ c.index-words-number.is ∙ ap (λ (l : List (List ℕ)). get_or l n c.index-words-number.result) c.as_slice-words.ensures in
    record {
      rooms = rooms_more ms n d low _ c.loop-number.memories.items _ c.in_ok-memory.memory c.in_ok-push-2.ensures.items room c.loop-number.invariant.rooms;
      words = words_more c.args.image.now.mems n c.index-words-number.result (omega arith) c.args.image.now.code c.loop-number.memories.items _ c.in_ok-memory.memory c.in_ok-push-2.ensures.items words c.loop-number.invariant.words;
    }

pub returns-clause-words : goal.returns-clause-words
returns-clause-words c =
    let ms : List MemShape = c.args.flat.now.outside.mems in
    let fit : length c.args.image.now.mems ≡ length ms = mems_long c.args.image.now.mems ms c.requires.mems in
    let b : length c.mems-mems.result.now ≡ length ms = ap length (c.mems-mems.ensures ∙ ap (λ (s : Shape). s.mems) c.shape-shape.ensures) in
    let past : length c.args.image.now.mems ≤ c.loop-number.number = omega (arith, c.loop-number-test.false) in
    c.loop-number.invariant.words ∙ ap (λ (l : List (List ℕ)). c.args.image.now.code ∷ l) (take_all c.loop-number.number c.args.image.now.mems past)
