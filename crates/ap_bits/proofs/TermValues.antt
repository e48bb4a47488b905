-- The value of a term by that of its parts, for terms as clauses write them.
use Rattle.std.proofs.Common.{◌≡◌, ℕ, ◌%◌, ◌^◌, ap, sym, ◌∙◌}
use Rattle.ap_bits.specs.declared.term.UnOp.{UnOp}
use Rattle.ap_bits.specs.declared.term.BinOp.{BinOp}
use Rattle.ap_bits.specs.declared.term.Term.{Term, A, B, Const, Un, Bin}
use Rattle.ap_bits.specs.declared.term.Term.TheOpen.{Term-F}
use Rattle.ap_bits.specs.declared.term.Term.TheOpen as level
use Rattle.ap_bits.specs.declared.term.Term.TheViews.{roll-Term, rolls-A, rolls-B, rolls-Const, rolls-Un, rolls-Bin}
use Rattle.ap_bits.specs.declared.term.Term.TheFolds.{fold-roll-Term}
use Rattle.ap_bits.specs.Operations.{unary_value, binary_value}
use Rattle.ap_bits.specs.Terms.{term_value, level_value}

-- a term that is made of this level
by_level : (t : Term) (level : Term-F Term) (w a b : ℕ) → roll-Term level ≡ t → term_value t w a b ≡ term_value (roll-Term level) w a b
by_level t level w a b e = ap (λ x. term_value x w a b) (sym e)

pub term_value-first : (w a b : ℕ) → term_value A w a b ≡ a
unfolding term_value
term_value-first w a b = by_level A level.A w a b rolls-A ∙ fold-roll-Term ℕ (level_value w a b) level.A

pub term_value-second : (w a b : ℕ) → term_value B w a b ≡ b
unfolding term_value
term_value-second w a b = by_level B level.B w a b rolls-B ∙ fold-roll-Term ℕ (level_value w a b) level.B

pub term_value-const : (c w a b : ℕ) → term_value (Const c) w a b ≡ c % 2 ^ w
unfolding term_value
term_value-const c w a b = by_level (Const c) (level.Const c) w a b (rolls-Const c) ∙ fold-roll-Term ℕ (level_value w a b) (level.Const c)

pub term_value-un : (op : UnOp) (t : Term) (w a b : ℕ) → term_value (Un op t) w a b ≡ unary_value op w (term_value t w a b)
unfolding term_value
term_value-un op t w a b = by_level (Un op t) (level.Un op t) w a b (rolls-Un op t) ∙ fold-roll-Term ℕ (level_value w a b) (level.Un op t)

pub term_value-bin : (op : BinOp) (s t : Term) (w a b : ℕ) → term_value (Bin op s t) w a b ≡ binary_value op w (term_value s w a b) (term_value t w a b)
unfolding term_value
term_value-bin op s t w a b = by_level (Bin op s t) (level.Bin op s t) w a b (rolls-Bin op s t) ∙ fold-roll-Term ℕ (level_value w a b) (level.Bin op s t)

-- the value of a term as a clause writes it
pub ruleset term_values = (term_value-first, term_value-second, term_value-const, term_value-un, term_value-bin)
