use Rattle.std.proofs.Common.{◌≡◌, ◌^◌, ◌∷◌, map, take}
use Rattle.ap_image.specs.declared.shape.MemShape.{MemShape}
use Rattle.ap_eval.specs.Cells.{rooms_of, words_of}
use Rattle.ap_eval.proofs.bench.memories_of.Given as goal

abbrev pub invariant-loop-number : goal.invariant-loop-number
invariant-loop-number l = record {
  rooms : rooms_of l.memories.items ≡ 2 ^ l.flat.outside.address ∷ map (λ (m : MemShape). 2 ^ m.address) (take l.number l.flat.outside.mems);
  words : words_of l.memories.items ≡ l.image.code ∷ take l.number l.image.mems;
}
