-- What is known of held stages.
use Rattle.std.proofs.Common.{◌≡◌, ℕ, zero, suc, Bool, true, false, List, [], ◌∷◌, slice_index_or, refl}
use Rattle.std.specs.List.{list_any}
use Rattle.ap_desc.specs.declared.design.Design.{Design}
use Rattle.ap_model.specs.HeldStages.{HoldsFromZero}
use Rattle.ap_model.specs.Stalls.{is_held_stage}

some_true : (bs : List Bool) (i : ℕ) → slice_index_or bs i false ≡ true → list_any (λ b. b) bs ≡ true
some_true [] i h = h
some_true (true ∷ bs) i h = refl
some_true (false ∷ bs) zero h = let never : false ≡ true = h in cc
some_true (false ∷ bs) (suc i) h = some_true bs i h

pub holds_from_zero : (design : Design) (busy : List Bool) → HoldsFromZero design busy
unfolding is_held_stage
holds_from_zero design busy = record {
  busy_held = some_true busy;
  below = λ stage earlier le held. held;
  transfer = λ held. held;
}
