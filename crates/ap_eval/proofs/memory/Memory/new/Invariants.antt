use Rattle.std.proofs.Common.{◌≡◌, ℕ, ◌≤◌, length, take}
use Rattle.std.specs.Prelude.{slice_index}
use Rattle.ap_eval.proofs.memory.Memory.new.Given as goal

abbrev pub invariant-loop-address : goal.invariant-loop-address
invariant-loop-address l = record {
  long : length l.words.items ≡ l.address;
  front : take (length l.first) l.words.items ≡ l.first;
  rest : (n : ℕ) → length l.first ≤ n → slice_index l.words.items n ≡ 0;
}
