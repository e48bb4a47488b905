-- The number of the instruction that a word matches.
use Rattle.std.proofs.Common.{◌≡◌, ℕ, zero, suc, ◌^◌, ◌<◌, Bool, true, false, List, [], ◌∷◌, Some, refl, ap, ◌∙◌, eqb-true}
use Rattle.std.specs.Prelude.{if◌then◌else◌, slice_get}
use Rattle.std.specs.List.{AllByRecursion as Each}
use Rattle.ap_desc.specs.declared.design.Instr.{Instr}
use Rattle.ap_desc.specs.Sound.{AreApart, ShareNoWord}
use Rattle.ap_model.specs.Fire.{is_match}
use Rattle.ap_net.proofs.Lists.{some_same}
use Rattle.ap_whole.specs.Homes.{match_number}

-- one that shares no word with any of these isn't matched with one of them
no_other : (bits word : ℕ) (one : Instr) → word < 2 ^ bits → is_match word one ≡ true → (instrs : List Instr) → Each (ShareNoWord bits one) instrs → (k : ℕ) (instr : Instr) → slice_get instrs k ≡ Some instr → is_match word instr ≡ true → zero ≡ suc zero
no_other bits word one lt m [] apart k instr at n = cc
no_other bits word one lt m (x ∷ instrs) apart zero instr at n = absurd (apart.0 word lt (eqb-true _ _ m) (eqb-true _ _ (ap (is_match word) (some_same at) ∙ n)))
no_other bits word one lt m (x ∷ instrs) apart (suc k) instr at n = no_other bits word one lt m instrs apart.1 k instr at n

-- in a clean design it is the number of any instruction that the word matches
pub match_is : (bits word : ℕ) → word < 2 ^ bits → (instrs : List Instr) → AreApart bits instrs → (k : ℕ) (instr : Instr) → slice_get instrs k ≡ Some instr → is_match word instr ≡ true → match_number word instrs ≡ k
match_is bits word lt [] apart k instr at m = cc
match_is bits word lt (x ∷ instrs) apart zero instr at m = λ i. if (ap (is_match word) (some_same at) ∙ m) i then 0 else suc (match_number word instrs)
match_is bits word lt (x ∷ instrs) apart (suc k) instr at m = go (is_match word x) refl (match_is bits word lt instrs apart.1 k instr at m)
  where
    go : (b : Bool) → is_match word x ≡ b → match_number word instrs ≡ k → (if b then 0 else suc (match_number word instrs)) ≡ suc k
    go true e rest = let wrong : zero ≡ suc zero = no_other bits word x lt e instrs apart.0 k instr at m in cc
    go false e rest = ap suc rest
