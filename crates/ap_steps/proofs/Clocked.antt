-- A register that takes something takes it where the draft grows.
use Rattle.std.proofs.Common.{zero, suc, List, [], ◌∷◌, ◌++◌, sym, subst, refl, arith}
use Rattle.std.specs.Prelude.{Contains}
use Rattle.std.specs.List.{AllByRecursion as Each}
use Rattle.ap_net.specs.declared.net.Next.{Next}
use Rattle.ap_net.proofs.Lists.{All-from, All-map}
use Rattle.ap_steps.specs.Clocked.{IsClocked, RegistersAreClocked}

there_left : {X : Type 0} (xs ys : List X) (x : X) → Contains xs x → Contains (xs ++ ys) x
there_left [] ys x (k, low, at) = absurd (omega (arith, low))
there_left (y ∷ xs) ys x (zero, low, at) = (zero, omega arith, at)
there_left (y ∷ xs) ys x (suc k, low, at) = let (n, below, is) = there_left xs ys x (k, omega (arith, low), at) in (suc n, omega (arith, below), is)

there_right : {X : Type 0} (xs ys : List X) (x : X) → Contains ys x → Contains (xs ++ ys) x
there_right [] ys x h = h
there_right (y ∷ xs) ys x h = let (n, below, is) = there_right xs ys x h in (suc n, omega (arith, below), is)

each_there : {X : Type 0} (P : X → Type 0) (xs : List X) → ((x : X) → Contains xs x → P x) → Each P xs
each_there P [] f = tt
each_there P (x ∷ xs) f = (f x (zero, omega arith, refl), each_there P xs (λ y h. f y (there_right (x ∷ []) xs y h)))

pub registers_are_clocked : RegistersAreClocked
registers_are_clocked = record {
  came = λ a b registers more nexts are.
      let each = each_there (λ (x : Next). IsClocked b x.register) more (λ x h. (x.from, subst (λ (l : List Next). Contains l x) (sym nexts) (there_right a.nexts more x h))) in
      subst (Each (IsClocked b)) are (All-map (IsClocked b) (λ (x : Next). x.register) more each);
  later = λ a b registers e each.
      All-from (IsClocked a) (IsClocked b)
      (λ register h. (h.0, subst (λ (l : List Next). Contains l (record { register = register; from = h.0 })) (sym e.nexts.1) (there_left a.nexts e.nexts.0 (record { register = register; from = h.0 }) h.1))) registers each;
}
