-- The unit for sums, bits and comparisons: what each of its operations gives.
use Rattle.std.specs.Prelude.{ℕ, List, codes}
use Rattle.ap_bits.specs.declared.term.UnOp.TheVariants as one
use Rattle.ap_bits.specs.declared.term.BinOp.TheVariants as two
use Rattle.ap_bits.specs.Operations.{unary_value, binary_value}
use Rattle.ap_comb.specs.declared.alu.Operation.{Operation}
use Rattle.ap_comb.specs.declared.alu.Operation.TheVariants as alu

-- the name of an operation
abbrev pub name_of : Operation → List ℕ
name_of alu.Add = codes "add"
name_of alu.Sub = codes "sub"
name_of alu.And = codes "and"
name_of alu.Or = codes "or"
name_of alu.Xor = codes "xor"
name_of alu.Eq = codes "eq"
name_of alu.Ltu = codes "ltu"
name_of alu.Lts = codes "lts"
name_of alu.Pass = codes "pass"

-- what it gives at w bits
abbrev pub result_of : Operation → ℕ → ℕ → ℕ → ℕ
result_of alu.Add w a b = binary_value two.Add w a b
result_of alu.Sub w a b = binary_value two.Sub w a b
result_of alu.And w a b = binary_value two.And w a b
result_of alu.Or w a b = binary_value two.Or w a b
result_of alu.Xor w a b = binary_value two.Xor w a b
result_of alu.Eq w a b = binary_value two.Eq w a b
result_of alu.Ltu w a b = binary_value two.Ltu w a b
result_of alu.Lts w a b = binary_value two.Lts w a b
result_of alu.Pass w a b = unary_value one.Pass w a
