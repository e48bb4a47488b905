-- The results of the unit's operations are the values of the card's.
use Rattle.std.proofs.Common.{◌≡◌, ℕ, ◌<◌, suc, zero, map, get_or, sym, ◌∙◌, arith}
use Rattle.std.specs.Prelude.{slice_index}
use Rattle.std.proofs.lemmas.List.{get_or-map}
use Rattle.ap_bits.proofs.TermValues.{term_values}
use Rattle.ap_bits.specs.Cards.{operation_value}
use Rattle.ap_comb.specs.declared.alu.Operation.{Operation}
use Rattle.ap_comb.specs.declared.alu.TheConstants.{OPERATIONS}
use Rattle.ap_bits.specs.KindCards.{alu_card}
use Rattle.ap_comb.specs.Alu.{result_of}

-- each result is the value of the card's operation of this number
pub result_at : (w n a b : ℕ) → n < 9 → slice_index (map (λ (o : Operation). result_of o w a b) OPERATIONS) n ≡ operation_value alu_card w n a b
result_at w zero a b lt = sym (simp term_values)
result_at w (suc zero) a b lt = sym (simp term_values)
result_at w (suc (suc zero)) a b lt = sym (simp term_values)
result_at w (suc (suc (suc zero))) a b lt = sym (simp term_values)
result_at w (suc (suc (suc (suc zero)))) a b lt = sym (simp term_values)
result_at w (suc (suc (suc (suc (suc zero))))) a b lt = sym (simp term_values)
result_at w (suc (suc (suc (suc (suc (suc zero)))))) a b lt = sym (simp term_values)
result_at w (suc (suc (suc (suc (suc (suc (suc zero))))))) a b lt = sym (simp term_values)
result_at w (suc (suc (suc (suc (suc (suc (suc (suc zero)))))))) a b lt = sym (simp term_values)
result_at w (suc (suc (suc (suc (suc (suc (suc (suc (suc n))))))))) a b lt = absurd (omega arith)

pub value_is : (w n a b : ℕ) (d : Operation) → n < 9 → result_of (get_or OPERATIONS n d) w a b ≡ operation_value alu_card w n a b
value_is w n a b d lt = sym (get_or-map (λ (o : Operation). result_of o w a b) OPERATIONS n d 0 lt) ∙ result_at w n a b lt
