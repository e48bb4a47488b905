-- The cards of the project's own kinds of units.
use Rattle.std.specs.Prelude.{ℕ, List, [], ◌∷◌, codes}
use Rattle.ap_bits.specs.declared.term.UnOp.{UnOp}
use Rattle.ap_bits.specs.declared.term.UnOp.TheVariants.{Pop, Clz, Pass}
use Rattle.ap_bits.specs.declared.term.BinOp.{BinOp}
use Rattle.ap_bits.specs.declared.term.BinOp.TheVariants as two
use Rattle.ap_bits.specs.declared.term.Term.{A, B, Const, Un, Bin}
use Rattle.ap_bits.specs.declared.card.OpCard.{OpCard}
use Rattle.ap_bits.specs.declared.card.Card.{Card}
use Rattle.ap_bits.specs.declared.card.Widths.TheVariants.{Any, PowersOfTwo}
use Rattle.ap_bits.specs.declared.card.Latency.TheVariants.{One, WidthPlusOne}

-- an operation on both operands, and one on the first
abbrev pub on_both : List ℕ → BinOp → OpCard
on_both name op = record { name = name; term = Bin op A B }

abbrev pub on_first : List ℕ → UnOp → OpCard
on_first name op = record { name = name; term = Un op A }

-- sums, bits and comparisons
abbrev pub alu_card : Card
alu_card = record {
  name = codes "alu";
  ops = on_both (codes "add") two.Add ∷ on_both (codes "sub") two.Sub ∷ on_both (codes "and") two.And ∷ on_both (codes "or") two.Or
      ∷ on_both (codes "xor") two.Xor ∷ on_both (codes "eq") two.Eq ∷ on_both (codes "ltu") two.Ltu ∷ on_both (codes "lts") two.Lts
      ∷ on_first (codes "pass") Pass ∷ [];
  widths = Any;
  latency = One;
}

-- left, right with zeros, right with copies of the high bit, and a rotation to the left
abbrev pub shift_card : Card
shift_card = record {
  name = codes "shift";
  ops = on_both (codes "sll") two.Sll ∷ on_both (codes "srl") two.Srl ∷ on_both (codes "sra") two.Sra ∷ on_both (codes "rol") two.Rol ∷ [];
  widths = PowersOfTwo;
  latency = One;
}

-- the bits that are 1, and those above the highest 1
abbrev pub count_card : Card
count_card = record { name = codes "count"; ops = on_first (codes "pop") Pop ∷ on_first (codes "clz") Clz ∷ []; widths = Any; latency = One }

-- the average of two numbers whose sum has no carry: the sum, its carry left out, shifted right by one place
abbrev pub average : OpCard
average = record { name = codes "avg"; term = Bin two.Srl (Bin two.Add A B) (Const 1) }

abbrev pub avg_card : Card
avg_card = record { name = codes "avg"; ops = average ∷ []; widths = Any; latency = One }

-- the low and the high half of a product
abbrev pub mul_card : Card
mul_card = record { name = codes "mul"; ops = on_both (codes "mullo") two.Mullo ∷ on_both (codes "mulhi") two.Mulhi ∷ []; widths = Any; latency = WidthPlusOne }

-- the quotient, and the remainder
abbrev pub div_card : Card
div_card = record { name = codes "div"; ops = on_both (codes "divu") two.Divu ∷ on_both (codes "remu") two.Remu ∷ []; widths = Any; latency = WidthPlusOne }
