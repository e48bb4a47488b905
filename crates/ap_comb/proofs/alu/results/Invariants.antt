use Rattle.std.proofs.Common.{◌≡◌, ℕ, length, map, take}
use Rattle.std.specs.Prelude.{All}
use Rattle.ap_net.specs.Draft.{SettlesDraft}
use Rattle.ap_net.specs.Making.{Makes}
use Rattle.ap_comb.specs.declared.alu.TheConstants.{OPERATIONS}
use Rattle.ap_comb.specs.declared.alu.Operation.{Operation}
use Rattle.ap_comb.specs.Alu.{result_of}
use Rattle.ap_comb.specs.Choices.{IsOfWidth, values_of}
use Rattle.ap_comb.proofs.alu.results.Given as goal

abbrev pub invariant-loop-operation : goal.invariant-loop-operation
invariant-loop-operation l = record {
  long : length l.made.items ≡ l.operation-index;
  nets : All (IsOfWidth l.out.nets l.a.width) l.made.items;
  value : (read : ℕ → ℕ) → SettlesDraft l.out read → SettlesDraft l.fn.out read × (values_of read l.made.items ≡ map (λ (o : Operation). result_of o l.a.width (read l.a.number) (read l.b.number)) (take l.operation-index OPERATIONS));
  makes : Makes l.fn.out l.out;
}
