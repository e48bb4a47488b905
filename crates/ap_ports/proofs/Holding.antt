-- What holds of some element of a list.
use Rattle.std.proofs.Common.{◌≡◌, zero, suc, List, [], ◌∷◌, ◌++◌, Option, Some, None, inl, inr, refl, sym, subst, arith}
use Rattle.std.specs.Prelude.{◌⊎◌, Any, IfSome, option_to_list}
use Rattle.std.specs.List.{AllByRecursion as Each}
use Rattle.ap_ports.specs.Flow.{Some_of}

pub holds_any : {X : Type 0} (P : X → Type 0) (xs : List X) → Some_of P xs → Any P xs
holds_any P [] h = absurd h
holds_any P (x ∷ xs) (inl p) = (zero, x, omega arith, refl, p)
holds_any P (x ∷ xs) (inr h) = let (k, y, low, at, p) = holds_any P xs h in (suc k, y, omega arith, at, p)

pub any_holds : {X : Type 0} (P : X → Type 0) (xs : List X) → Any P xs → Some_of P xs
any_holds P [] (k, x, low, at, p) = absurd (omega arith)
any_holds P (y ∷ xs) (zero, x, low, at, p) = inl (subst P (sym at) p)
any_holds P (y ∷ xs) (suc k, x, low, at, p) = inr (any_holds P xs (k, x, omega arith, at, p))

pub holds_map : {X : Type 0} (P Q : X → Type 0) → ((x : X) → P x → Q x) → (xs : List X) → Some_of P xs → Some_of Q xs
holds_map P Q up [] h = h
holds_map P Q up (x ∷ xs) (inl p) = inl (up x p)
holds_map P Q up (x ∷ xs) (inr h) = inr (holds_map P Q up xs h)

-- where each element has a property that carries the one to the other
pub holds_each : {X : Type 0} (P Q R : X → Type 0) → ((x : X) → R x → P x → Q x) → (xs : List X) → Each R xs → Some_of P xs → Some_of Q xs
holds_each P Q R up [] each h = h
holds_each P Q R up (x ∷ xs) each (inl p) = inl (up x each.0 p)
holds_each P Q R up (x ∷ xs) each (inr h) = inr (holds_each P Q R up xs each.1 h)

pub holds_left : {X : Type 0} (P : X → Type 0) (xs ys : List X) → Some_of P xs → Some_of P (xs ++ ys)
holds_left P [] ys h = absurd h
holds_left P (x ∷ xs) ys (inl p) = inl p
holds_left P (x ∷ xs) ys (inr h) = inr (holds_left P xs ys h)

pub holds_right : {X : Type 0} (P : X → Type 0) (xs ys : List X) → Some_of P ys → Some_of P (xs ++ ys)
holds_right P [] ys h = h
holds_right P (x ∷ xs) ys h = inr (holds_right P xs ys h)

pub holds_either : {X : Type 0} (P : X → Type 0) (xs ys : List X) → Some_of P (xs ++ ys) → Some_of P xs ⊎ Some_of P ys
holds_either P [] ys h = inr h
holds_either P (x ∷ xs) ys (inl p) = inl (inl p)
holds_either P (x ∷ xs) ys (inr h) = elim (holds_either P xs ys h) [ inl a ↦ inl (inr a) | inr b ↦ inr b ]

-- Lists joined from options.

-- it holds of what the option has
abbrev pub OfOption : {X : Type 0} → (X → Type 0) → Option X → Type 0
OfOption P None = ⊥
OfOption P (Some x) = P x

pub option_holds : {X : Type 0} (P : X → Type 0) (o : Option X) → OfOption P o → Some_of P (option_to_list o)
option_holds P None h = absurd h
option_holds P (Some x) h = inl h

pub holds_option : {X : Type 0} (P : X → Type 0) (o : Option X) → Some_of P (option_to_list o) → OfOption P o
holds_option P None h = absurd h
holds_option P (Some x) (inl h) = h
holds_option P (Some x) (inr h) = absurd h

pub three_hold : {X : Type 0} (P : X → Type 0) (a b c : Option X) → OfOption P a ⊎ (OfOption P b ⊎ OfOption P c) → Some_of P (option_to_list a ++ (option_to_list b ++ option_to_list c))
three_hold P a b c (inl h) = holds_left P (option_to_list a) (option_to_list b ++ option_to_list c) (option_holds P a h)
three_hold P a b c (inr (inl h)) = holds_right P (option_to_list a) (option_to_list b ++ option_to_list c) (holds_left P (option_to_list b) (option_to_list c) (option_holds P b h))
three_hold P a b c (inr (inr h)) = holds_right P (option_to_list a) (option_to_list b ++ option_to_list c) (holds_right P (option_to_list b) (option_to_list c) (option_holds P c h))

pub hold_three : {X : Type 0} (P : X → Type 0) (a b c : Option X) → Some_of P (option_to_list a ++ (option_to_list b ++ option_to_list c)) → OfOption P a ⊎ (OfOption P b ⊎ OfOption P c)
hold_three P a b c h = elim (holds_either P (option_to_list a) (option_to_list b ++ option_to_list c) h) [
  | inl one ↦ inl (holds_option P a one)
  | inr rest ↦ elim (holds_either P (option_to_list b) (option_to_list c) rest) [
    | inl two ↦ inr (inl (holds_option P b two))
    | inr three ↦ inr (inr (holds_option P c three))
  ]
]

each_left : {X : Type 0} (P : X → Type 0) (xs ys : List X) → Each P (xs ++ ys) → Each P xs
each_left P [] ys h = tt
each_left P (x ∷ xs) ys h = (h.0, each_left P xs ys h.1)

each_right : {X : Type 0} (P : X → Type 0) (xs ys : List X) → Each P (xs ++ ys) → Each P ys
each_right P [] ys h = h
each_right P (x ∷ xs) ys h = each_right P xs ys h.1

if_some : {X : Type 0} (P : X → Type 0) (o : Option X) → Each P (option_to_list o) → IfSome o P
if_some P None h = tt
if_some P (Some x) h = h.0

pub each_three : {X : Type 0} (P : X → Type 0) (a b c : Option X) (xs : List X) → option_to_list a ++ (option_to_list b ++ option_to_list c) ≡ xs → Each P xs → IfSome a P × IfSome b P × IfSome c P
each_three P a b c xs e each =
    let all : Each P (option_to_list a ++ (option_to_list b ++ option_to_list c)) = subst (Each P) (sym e) each in
    let rest = each_right P (option_to_list a) (option_to_list b ++ option_to_list c) all in (
      if_some P a (each_left P (option_to_list a) (option_to_list b ++ option_to_list c) all),
      if_some P b (each_left P (option_to_list b) (option_to_list c) rest),
      if_some P c (each_right P (option_to_list b) (option_to_list c) rest),
    )
