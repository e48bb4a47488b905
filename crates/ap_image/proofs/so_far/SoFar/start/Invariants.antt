use Rattle.std.proofs.Common.{◌≡◌, ◌∷◌, [], false, map, take}
use Rattle.ap_image.proofs.so_far.SoFar.start.Given as goal

abbrev pub invariant-loop : goal.invariant-loop
invariant-loop l = record {
  begun : l.begun.items ≡ false ∷ map (λ p. false) (take l.index l.items);
  words : l.words.items ≡ [] ∷ map (λ p. []) (take l.index l.items);
}
