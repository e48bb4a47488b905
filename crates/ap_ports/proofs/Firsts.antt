-- The least of two faults, and of the first lines of some kinds.
use Rattle.std.proofs.Common.{◌≡◌, ℕ, ◌<◌, ◌≤◌, Bool, true, false, List, [], ◌∷◌, ◌-◌, length, get_or, take, drop, Option, Some, None, inl, inr, refl, sym, subst, ◌∙◌, arith, eqb-true}
use Rattle.std.specs.Prelude.{◌⊎◌, ◌↔◌, ◌==◌, ◌&&◌, ◌||◌, nat_lt, if◌then◌else◌}
use Rattle.std.proofs.lemmas.Bool.{and_from, and_parts, cases_lt, cases_order, eq-eqb, or_cases, or_left, or_right, ltb-true, lt-ltb}
use Rattle.std.proofs.lemmas.List.{take_all}
use Rattle.ap_desc.specs.Faults.{IsBefore}
use Rattle.ap_desc.specs.FaultTable.{number_of, phase_of}
use Rattle.ap_desc.specs.Least.{IsLeast}
use Rattle.ap_desc.specs.Meaning.{MeetsPortFault}
use Rattle.ap_desc.specs.declared.design.Design.{Design}
use Rattle.ap_desc.specs.declared.fault.Fault.{Fault}
use Rattle.ap_desc.specs.declared.fault.Fault.TheVariants as f
use Rattle.ap_desc.specs.declared.fault.Refusal.{Refusal}
use Rattle.ap_ports.specs.Firsts.{IsAmong, IsFirst, IsLeastIn, MeetsOneOf}
use Rattle.ap_ports.specs.Sooner.{is_before, refusal_at, sooner}

-- either holds
abbrev Either : (Fault → ℕ → Type 0) → (Fault → ℕ → Type 0) → Fault → ℕ → Type 0
Either One Other kind line = One kind line ⊎ Other kind line

-- what the test says, of a refusal that names its kind's phase
before_from : (one other : Refusal) → one.phase ≡ phase_of one.kind → other.phase ≡ phase_of other.kind → is_before one other ≡ true → IsBefore one.kind one.line other.kind other.line
before_from one other p q e = elim (or_cases (nat_lt one.phase other.phase) ((one.phase == other.phase) && (nat_lt one.line other.line || ((one.line == other.line) && nat_lt (number_of one.kind) (number_of other.kind)))) e) [
  | inl less ↦ (let lt = ltb-true one.phase other.phase less in inl (omega arith))
  | inr rest ↦
      let parts = and_parts (one.phase == other.phase) (nat_lt one.line other.line || ((one.line == other.line) && nat_lt (number_of one.kind) (number_of other.kind))) rest in
      let same = eqb-true one.phase other.phase parts.0 in
      elim (or_cases (nat_lt one.line other.line) ((one.line == other.line) && nat_lt (number_of one.kind) (number_of other.kind)) parts.1) [
        | inl less ↦ inr (sym p ∙ same ∙ q, inl (ltb-true one.line other.line less))
        | inr last ↦
            let ends = and_parts (one.line == other.line) (nat_lt (number_of one.kind) (number_of other.kind)) last in
            inr (sym p ∙ same ∙ q, inr (eqb-true one.line other.line ends.0, ltb-true (number_of one.kind) (number_of other.kind) ends.1))
      ]
]

before_to : (one other : Refusal) → one.phase ≡ phase_of one.kind → other.phase ≡ phase_of other.kind → IsBefore one.kind one.line other.kind other.line → is_before one other ≡ true
before_to one other p q (inl less) = or_left (nat_lt one.phase other.phase) ((one.phase == other.phase) && (nat_lt one.line other.line || ((one.line == other.line) && nat_lt (number_of one.kind) (number_of other.kind)))) (lt-ltb one.phase other.phase (omega arith))
before_to one other p q (inr (same, inl less)) =
    or_right (nat_lt one.phase other.phase) ((one.phase == other.phase) && (nat_lt one.line other.line || ((one.line == other.line) && nat_lt (number_of one.kind) (number_of other.kind))))
    (and_from (one.phase == other.phase) (nat_lt one.line other.line || ((one.line == other.line) && nat_lt (number_of one.kind) (number_of other.kind))) (eq-eqb one.phase other.phase (omega arith))
    (or_left (nat_lt one.line other.line) ((one.line == other.line) && nat_lt (number_of one.kind) (number_of other.kind)) (lt-ltb one.line other.line less)))
before_to one other p q (inr (same, inr (line, less))) =
    or_right (nat_lt one.phase other.phase) ((one.phase == other.phase) && (nat_lt one.line other.line || ((one.line == other.line) && nat_lt (number_of one.kind) (number_of other.kind))))
    (and_from (one.phase == other.phase) (nat_lt one.line other.line || ((one.line == other.line) && nat_lt (number_of one.kind) (number_of other.kind))) (eq-eqb one.phase other.phase (omega arith))
    (or_right (nat_lt one.line other.line) ((one.line == other.line) && nat_lt (number_of one.kind) (number_of other.kind))
    (and_from (one.line == other.line) (nat_lt (number_of one.kind) (number_of other.kind)) (eq-eqb one.line other.line line) (lt-ltb (number_of one.kind) (number_of other.kind) less))))

-- the order goes on: what comes before the later comes before the earlier, or the earlier comes before it
before_through : (p l n p' l' n' p'' l'' n'' : ℕ) → ((p < p') ⊎ ((p ≡ p') × ((l < l') ⊎ ((l ≡ l') × (n < n'))))) → ((p' < p'') ⊎ ((p' ≡ p'') × ((l' < l'') ⊎ ((l' ≡ l'') × (n' < n'')))))
    → (p < p'') ⊎ ((p ≡ p'') × ((l < l'') ⊎ ((l ≡ l'') × (n < n''))))
before_through p l n p' l' n' p'' l'' n'' (inl a) (inl b) = inl (omega arith)
before_through p l n p' l' n' p'' l'' n'' (inl a) (inr b) = (let same = b.0 in inl (omega arith))
before_through p l n p' l' n' p'' l'' n'' (inr a) (inl b) = (let same = a.0 in inl (omega arith))
before_through p l n p' l' n' p'' l'' n'' (inr (s, inl a)) (inr (t, inl b)) = inr (s ∙ t, inl (omega arith))
before_through p l n p' l' n' p'' l'' n'' (inr (s, inl a)) (inr (t, inr (u, b))) = inr (s ∙ t, inl (omega arith))
before_through p l n p' l' n' p'' l'' n'' (inr (s, inr (v, a))) (inr (t, inl b)) = inr (s ∙ t, inl (omega arith))
before_through p l n p' l' n' p'' l'' n'' (inr (s, inr (v, a))) (inr (t, inr (u, b))) = inr (s ∙ t, inr (v ∙ u, omega arith))

before_goes : (k : Fault) (l : ℕ) (k' : Fault) (l' : ℕ) (k'' : Fault) (l'' : ℕ) → IsBefore k l k' l' → IsBefore k' l' k'' l'' → IsBefore k l k'' l''
before_goes k l k' l' k'' l'' = before_through (phase_of k) l (number_of k) (phase_of k') l' (number_of k') (phase_of k'') l'' (number_of k'')

-- what doesn't come before the later of two doesn't before the earlier: any two are comparable or the same in rank
before_splits : (p l n p' l' n' p'' l'' n'' : ℕ) → ((p < p'') ⊎ ((p ≡ p'') × ((l < l'') ⊎ ((l ≡ l'') × (n < n'')))))
    → ((p < p') ⊎ ((p ≡ p') × ((l < l') ⊎ ((l ≡ l') × (n < n'))))) ⊎ ((p' < p'') ⊎ ((p' ≡ p'') × ((l' < l'') ⊎ ((l' ≡ l'') × (n' < n'')))))
before_splits p l n p' l' n' p'' l'' n'' (inl a) = elim (cases_lt p p') [ inl b ↦ inl (inl b) | inr le ↦ inr (inl (omega arith)) ]
before_splits p l n p' l' n' p'' l'' n'' (inr (s, inl a)) = elim (cases_order p p') [
  | inl e ↦ elim (cases_lt l l') [ inl b ↦ inl (inr (e, inl b)) | inr le ↦ inr (inr (sym e ∙ s, inl (omega arith))) ]
  | inr (inl b) ↦ inl (inl b)
  | inr (inr b) ↦ inr (inl (omega arith))
]
before_splits p l n p' l' n' p'' l'' n'' (inr (s, inr (t, a))) = elim (cases_order p p') [
  | inl e ↦ elim (cases_order l l') [
    | inl f ↦ elim (cases_lt n n') [ inl b ↦ inl (inr (e, inr (f, b))) | inr le ↦ inr (inr (sym e ∙ s, inr (sym f ∙ t, omega arith))) ]
    | inr (inl b) ↦ inl (inr (e, inl b))
    | inr (inr b) ↦ inr (inr (sym e ∙ s, inl (omega arith)))
  ]
  | inr (inl b) ↦ inl (inl b)
  | inr (inr b) ↦ inr (inl (omega arith))
]

splits_at : (k : Fault) (l : ℕ) (k' : Fault) (l' : ℕ) (k'' : Fault) (l'' : ℕ) → IsBefore k l k'' l'' → IsBefore k l k' l' ⊎ IsBefore k' l' k'' l''
splits_at k l k' l' k'' l'' = before_splits (phase_of k) l (number_of k) (phase_of k') l' (number_of k') (phase_of k'') l'' (number_of k'')

-- the sooner of two is the least where either holds
sooner_by : (One Other : Fault → ℕ → Type 0) (one other : Refusal) → IsLeast One one → IsLeast Other other → (b : Bool) → is_before other one ≡ b → IsLeastIn (Either One Other) (if b then Some other else Some one)
sooner_by One Other one other h k true e = record {
  phase = k.phase;
  holds = inr k.holds;
  least = λ kind line meets before. elim meets [
    | inl here ↦ h.least kind line here (before_goes kind line other.kind other.line one.kind one.line before (before_from other one k.phase h.phase e))
    | inr there ↦ k.least kind line there before
  ];
}
sooner_by One Other one other h k false e = record {
  phase = h.phase;
  holds = inl h.holds;
  least = λ kind line meets before. elim meets [
    | inl here ↦ h.least kind line here before
    | inr there ↦ elim (splits_at kind line other.kind other.line one.kind one.line before) [
      | inl sooner ↦ k.least kind line there sooner
      | inr wrong ↦ (let yes = before_to other one k.phase h.phase wrong in absurd cc)
    ]
  ];
}

least_of_two : (One Other : Fault → ℕ → Type 0) (one other : Option Refusal) → IsLeastIn One one → IsLeastIn Other other → IsLeastIn (Either One Other) (sooner one other)
least_of_two One Other None None h k = λ kind line meets. elim meets [ inl here ↦ h kind line here | inr there ↦ k kind line there ]
least_of_two One Other None (Some other) h k = record {
  phase = k.phase;
  holds = inr k.holds;
  least = λ kind line meets before. elim meets [ inl here ↦ h kind line here | inr there ↦ k.least kind line there before ];
}
least_of_two One Other (Some one) None h k = record {
  phase = h.phase;
  holds = inl h.holds;
  least = λ kind line meets before. elim meets [ inl here ↦ h.least kind line here before | inr there ↦ k kind line there ];
}
least_of_two One Other (Some one) (Some other) h k = sooner_by One Other one other h k (is_before other one) refl

-- what holds in the same places has the same least
pub same_least : (One Other : Fault → ℕ → Type 0) (found : Option Refusal) → ((kind : Fault) (line : ℕ) → One kind line ↔ Other kind line) → IsLeastIn One found → IsLeastIn Other found
same_least One Other None same h = λ kind line meets. h kind line ((same kind line).1 meets)
same_least One Other (Some r) same h = record {
  phase = h.phase;
  holds = (same r.kind r.line).0 h.holds;
  least = λ kind line meets. h.least kind line ((same kind line).1 meets);
}

-- the one kind
abbrev OfKind : (ℕ → Type 0) → Fault → Fault → ℕ → Type 0
OfKind P kind other line = (kind ≡ other) × P line

not_before_itself : (kind : Fault) (line other : ℕ) → line ≤ other → IsBefore kind other kind line → ⊥
not_before_itself kind line other le (inl less) = omega arith
not_before_itself kind line other le (inr (same, inl less)) = omega arith
not_before_itself kind line other le (inr (same, inr (at, less))) = omega arith

first_is_least : (P : ℕ → Type 0) (kind : Fault) (found : Option ℕ) → IsFirst P found → IsLeastIn (OfKind P kind) (refusal_at kind found)
first_is_least P kind None h = λ other line meets. h line meets.1
first_is_least P kind (Some line) h = record {
  phase = refl;
  holds = (refl, h.0);
  least = λ other at meets before. not_before_itself kind line at (h.1 at meets.1) (subst (λ k. IsBefore k at kind line) (sym meets.0) before);
}

-- the least of a kind and of further ones
pub least_with : (design : Design) (kind : Fault) (rest : List Fault) (found : Option ℕ) (later : Option Refusal) → IsFirst (MeetsPortFault design kind) found → IsLeastIn (MeetsOneOf design rest) later
    → IsLeastIn (MeetsOneOf design (kind ∷ rest)) (sooner (refusal_at kind found) later)
least_with design kind rest found later h k =
    same_least (Either (OfKind (MeetsPortFault design kind) kind) (MeetsOneOf design rest)) (MeetsOneOf design (kind ∷ rest)) (sooner (refusal_at kind found) later) same
    (least_of_two (OfKind (MeetsPortFault design kind) kind) (MeetsOneOf design rest) (refusal_at kind found) later (first_is_least (MeetsPortFault design kind) kind found h) k)
  where
    there : (other : Fault) (line : ℕ) → Either (OfKind (MeetsPortFault design kind) kind) (MeetsOneOf design rest) other line → MeetsOneOf design (kind ∷ rest) other line
    there other line (inl (same, meets)) = (inl same, subst (λ k. MeetsPortFault design k line) same meets)
    there other line (inr (among, meets)) = (inr among, meets)

    back : (other : Fault) (line : ℕ) → MeetsOneOf design (kind ∷ rest) other line → Either (OfKind (MeetsPortFault design kind) kind) (MeetsOneOf design rest) other line
    back other line (inl same, meets) = inl (same, subst (λ k. MeetsPortFault design k line) (sym same) meets)
    back other line (inr among, meets) = inr (among, meets)

    same : (other : Fault) (line : ℕ) → Either (OfKind (MeetsPortFault design kind) kind) (MeetsOneOf design rest) other line ↔ MeetsOneOf design (kind ∷ rest) other line
    same other line = (there other line, back other line)

-- the kinds of the two phases
abbrev pub late_kinds : List Fault
late_kinds = f.TwiceInInstruction ∷ f.TwoStages ∷ f.StageZero ∷ f.StageOrder ∷ f.EarlyCommit ∷ f.ChainLoop ∷ f.UnstableOperand ∷ f.TooManySlots ∷ []

late_is_among : (kind : Fault) → 5 ≤ phase_of kind → IsAmong late_kinds kind
late_is_among f.TwiceInInstruction late = inl refl
late_is_among f.TwoStages late = inr (inl refl)
late_is_among f.StageZero late = inr (inr (inl refl))
late_is_among f.StageOrder late = inr (inr (inr (inl refl)))
late_is_among f.EarlyCommit late = inr (inr (inr (inr (inl refl))))
late_is_among f.ChainLoop late = inr (inr (inr (inr (inr (inl refl)))))
late_is_among f.UnstableOperand late = inr (inr (inr (inr (inr (inr (inl refl))))))
late_is_among f.TooManySlots late = inr (inr (inr (inr (inr (inr (inr (inl refl)))))))
late_is_among _ late = absurd (omega arith)

-- the least of these kinds is the least of all
pub least_of_all : (design : Design) (found : Option Refusal) → IsLeastIn (MeetsOneOf design late_kinds) found → IsLeastIn (MeetsPortFault design) found
least_of_all design found = same_least (MeetsOneOf design late_kinds) (MeetsPortFault design) found (λ kind line. ((λ meets. meets.1), (λ meets. (late_is_among kind meets.0, meets))))

-- the least of a list of kinds, from its first and from the rest
pub least_cons : (design : Design) (kinds : List Fault) (d : Fault) → 1 ≤ length kinds → (found : Option ℕ) (later : Option Refusal) → IsFirst (MeetsPortFault design (get_or kinds 0 d)) found
    → IsLeastIn (MeetsOneOf design (take (length kinds - 1) (drop 1 kinds))) later → IsLeastIn (MeetsOneOf design kinds) (sooner (refusal_at (get_or kinds 0 d) found) later)
least_cons design [] d some found later first least = absurd (omega arith)
least_cons design (kind ∷ rest) d some found later first least =
    least_with design kind rest found later first (subst (λ ks. IsLeastIn (MeetsOneOf design ks) later) (take_all (length (kind ∷ rest) - 1) rest (omega arith)) least)
