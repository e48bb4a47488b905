-- The value of a term at a width of w bits, for operands a and b of this width.
use Rattle.std.specs.Prelude.{ℕ, ◌%◌, ◌^◌}
use Rattle.ap_bits.specs.declared.term.Term.{Term, fold-Term}
use Rattle.ap_bits.specs.declared.term.Term.TheOpen.{Term-F}
use Rattle.ap_bits.specs.declared.term.Term.TheOpen as term
use Rattle.ap_bits.specs.Operations.{unary_value, binary_value}

-- one level of a term, whose parts are given by their values: an operand, a number modulo 2^w, or an operation
abbrev pub level_value : ℕ → ℕ → ℕ → Term-F ℕ → ℕ
level_value w a b term.A = a
level_value w a b term.B = b
level_value w a b (term.Const c) = c % 2 ^ w
level_value w a b (term.Un op x) = unary_value op w x
level_value w a b (term.Bin op x y) = binary_value op w x y

-- each part of a term has its value, up to the whole
unfoldable pub term_value : Term → ℕ → ℕ → ℕ → ℕ
term_value t w a b = fold-Term ℕ (level_value w a b) t
