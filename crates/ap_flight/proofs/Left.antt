-- What a choice between two parts of a list of what is left takes.
use Rattle.std.proofs.Common.{◌≡◌, ℕ, ◌-◌, ◌||◌, Bool, true, false, if◌then◌else◌, List, [], ◌∷◌, length, take, drop, refl, sym, ap, subst, ◌∙◌}
use Rattle.std.specs.List.{AllByRecursion as Each}
use Rattle.ap_net.specs.Readings.{Reading}
use Rattle.ap_ctl.specs.Building.{is_on}
use Rattle.ap_flight.specs.declared.entry.Leaving.{Leaving}
use Rattle.ap_flight.specs.Entries.{IsLeft, Leaves, is_left}
use Rattle.ap_flight.proofs.Halves.{Each-drop, Each-take, any_halves, second_half}

-- one alone
pub alone_left : (l : Leaving) (r : Reading) (x : ℕ) → x ≡ r.read l.net.number → IsLeft (l ∷ []) r x
alone_left l r x e v each any = e ∙ each.0 (on (is_on r l.cond) any)
  where
    on : (b : Bool) → (b || false) ≡ true → b ≡ true
    on true h = refl
    on false h = cc

-- of two parts, the first where one of it leaves something
pub joined_left : (n : ℕ) (list : List Leaving) (r : Reading) (c : Bool) (f s x : ℕ) → c ≡ is_left r (take n list) → IsLeft (take n list) r f → IsLeft (take (length list - n) (drop n list)) r s
    → x ≡ (if c then f else s) → IsLeft list r x
joined_left n list r true f s x hc hf hs hx v each any = hx ∙ hf v (Each-take (Leaves r v) n list each) (sym hc)
joined_left n list r false f s x hc hf hs hx v each any =
    hx ∙ hs v (subst (Each (Leaves r v)) (sym (second_half n list)) (Each-drop (Leaves r v) n list each))
    (sym (ap (λ b. b || is_left r (take (length list - n) (drop n list))) (sym hc)) ∙ sym (any_halves (λ (l : Leaving). is_on r l.cond) n list) ∙ any)
