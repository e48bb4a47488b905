-- A register that is there holds one value.
use Rattle.std.proofs.Common.{◌≡◌, ℕ, ◌<◌, zero, suc, List, [], ◌∷◌, length, Some, refl, sym, ◌∙◌, arith}
use Rattle.std.specs.Prelude.{slice_get, slice_index}
use Rattle.std.proofs.lemmas.Option.{slice_get_within, get_or_from_slice_get}
use Rattle.ap_net.specs.Flat.{Flat, NamesDiffer, AreClocked, register_in, register_among}
use Rattle.ap_net.specs.Held.{Holds, RegistersHold, HeldOnce}
use Rattle.ap_net.proofs.Found.{registers_are_found}

there : (xs : List ℕ) (k : ℕ) → k < length xs → slice_get xs k ≡ Some (slice_index xs k)
there [] k lt = absurd (omega arith)
there (x ∷ xs) zero lt = refl
there (x ∷ xs) (suc k) lt = there xs k (omega arith)

pub registers_hold : RegistersHold
registers_hold f registers long k x net at declared = record {
  place = k;
  driver = x;
  net = net;
  driven = at;
  declared = declared;
  within = refl;
  named = refl;
  held = let lt : k < length f.nexts = slice_get_within f.nexts k x at in there registers k (omega arith);
}

found_value : (f : Flat) (registers : List ℕ) (part : ℕ) (name : List ℕ) (value : ℕ) → NamesDiffer f.nets → AreClocked f → length registers ≡ length f.nexts → Holds f registers part name value → register_in part f registers name ≡ value
found_value f registers part name value differ clocked long h =
    (λ i. register_among (sym h.within i) f.nets f.nexts registers (sym h.named i))
    ∙ registers_are_found f differ clocked registers long h.place h.driver h.net h.driven h.declared ∙ get_or_from_slice_get registers h.place value 0 h.held

pub held_once : HeldOnce
held_once = record {
  found = found_value;
  once = λ f registers part name one other differ clocked long a b. sym (found_value f registers part name one differ clocked long a) ∙ found_value f registers part name other differ clocked long b;
}
