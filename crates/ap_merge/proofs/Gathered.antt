-- Choices are gathered port by port and operand by operand.
use Rattle.std.proofs.Common.{◌≡◌, ℕ, zero, suc, ◌+◌, ◌-◌, ◌^◌, ◌<◌, ◌≤◌, ◌==◌, ◌⊎◌, Bool, true, false, List, [], ◌∷◌, ◌++◌, length, take, get_or, filter_map, cond, Option, Some, None, inl, inr, refl, sym, ap, subst, ◌∙◌, arith, add-one, eqb-true, take-suc}
use Rattle.std.specs.Prelude.{Any, Contains, if◌then◌else◌, option_map, slice_get}
use Rattle.std.specs.List.{AllByRecursion as Each, cons_option, list_any}
use Rattle.std.proofs.lemmas.Bool.{both_ways, cases_eq, or_cases, or_left, or_right}
use Rattle.std.proofs.lemmas.Option.{same_Some, slice_get-get_or}
use Rattle.ap_desc.proofs.Members.{In, any_in, contains_in, each_contained, get_in, in_any, in_append, in_contains, in_left, in_right}
use Rattle.ap_desc.proofs.Splits.{each_append}
use Rattle.ap_desc.specs.declared.design.Arg.{Arg}
use Rattle.ap_path.specs.Uses.{operand_at}
use Rattle.ap_path.specs.declared.table.PathPort.{PathPort}
use Rattle.ap_path.specs.declared.table.PathUse.{PathUse}
use Rattle.ap_path.proofs.UseFacts.{in_filtered}
use Rattle.ap_merge.specs.Choices.{AreChoices, HasOperand, IsChoice, is_port, source_of, sources_of}
use Rattle.ap_merge.specs.Gathered.{AreFew, AreGathered, ArePorts, IsDone}
use Rattle.ap_merge.specs.declared.table.Choice.{Choice}
use Rattle.ap_merge.specs.declared.table.Source.{Source}
use Rattle.ap_merge.specs.Selects.{GoesOver, IsBalanced, Selects}
use Rattle.ap_merge.specs.declared.table.Select.{Select}
use Rattle.ap_merge.proofs.SamePorts.{itself, same_ports}

-- an element of a list with one more is one of the list, or that one
pub pushed_cases : {X : Type 0} (xs : List X) (x : X) (i : ℕ) (y : X) → slice_get (xs ++ x ∷ []) i ≡ Some y → (slice_get xs i ≡ Some y) ⊎ ((i ≡ length xs) × (y ≡ x))
pushed_cases [] x zero y at = inr (refl, sym (same_Some x y at))
pushed_cases [] x (suc i) y at = absurd cc
pushed_cases (z ∷ xs) x zero y at = inl at
pushed_cases (z ∷ xs) x (suc i) y at = elim (pushed_cases xs x i y at) [
  | inl old ↦ inl old
  | inr new ↦ inr (ap suc new.0, new.1)
]

some_there : {X : Type 0} (xs : List X) (x : X) → In x xs → 0 < length xs
some_there [] x there = absurd there
some_there (y ∷ xs) x there = omega arith

-- what an instruction hands in
abbrev entry : ℕ → Arg → Source
entry instr a = record { instr = instr; from = a }

pub handed_source : (used : PathUse) (port : PathPort) (operand : ℕ) (a : Arg) → used.port ≡ port → operand_at used operand ≡ Some a → source_of port operand used ≡ Some (record { instr = used.instr; from = a })
handed_source used port operand a same at =
    let test : is_port used.port port ≡ true = ap (λ p. is_port p port) same ∙ itself port in
    ap (λ b. if b then option_map (entry used.instr) (operand_at used operand) else None) test ∙ ap (option_map (entry used.instr)) at

-- an operand that some use hands in has an entry
handed_in : (uses : List PathUse) (port : PathPort) (operand : ℕ) (used : PathUse) (a : Arg) → Contains uses used → used.port ≡ port → operand_at used operand ≡ Some a → 0 < length (sources_of uses port operand)
handed_in uses port operand used a there same at =
    some_there (sources_of uses port operand) (record { instr = used.instr; from = a })
    (in_filtered (source_of port operand) uses used (record { instr = used.instr; from = a }) (contains_in uses used there) (handed_source used port operand a same at))

any_left : (port : PathPort) (operand : ℕ) (choices : List Choice) (c : Choice) → Any (HasOperand port operand) choices → Any (HasOperand port operand) (choices ++ c ∷ [])
any_left port operand choices c h = let (x, there, has) = any_in (HasOperand port operand) choices h in in_any (HasOperand port operand) (choices ++ c ∷ []) x (in_left x choices (c ∷ []) there) has

-- what is done stays done
done_more : (ports : List PathPort) (place below : ℕ) (port : PathPort) (operand : ℕ) → IsDone ports place below port operand → IsDone ports place (below + 1) port operand
done_more ports place below port operand (inl earlier) = inl earlier
done_more ports place below port operand (inr h) = let low = h.1 in inr (h.0, omega arith)

-- what is done after one more operand was done before, or is the new one
done_cases : (ports : List PathPort) (place below : ℕ) (port : PathPort) (operand : ℕ) → IsDone ports place (below + 1) port operand → IsDone ports place below port operand ⊎ ((slice_get ports place ≡ Some port) × (operand ≡ below))
done_cases ports place below port operand (inl earlier) = inl (inl earlier)
done_cases ports place below port operand (inr h) = elim (cases_eq operand below) [
  | inl same ↦ inr (h.0, same)
  | inr other ↦ let low = h.1 in inl (inr (h.0, omega arith))
]

-- the operand that is due isn't done
not_done : (uses : List PathUse) (ports : List PathPort) (place below : ℕ) (port : PathPort) → ArePorts uses ports → slice_get ports place ≡ Some port → IsDone ports place below port below → ⊥
not_done uses ports place below port known at (inl h) = let same = known.once port h.0 place h.2 at in let low = h.1 in omega arith
not_done uses ports place below port known at (inr h) = let low = h.1 in omega arith

-- one more choice
pub choice_pushed : (uses : List PathUse) (ports : List PathPort) (place below : ℕ) (choices : List Choice) (c : Choice) → ArePorts uses ports → slice_get ports place ≡ Some c.port → c.operand ≡ below
    → IsChoice uses c → AreGathered uses ports place below choices → AreGathered uses ports place (below + 1) (choices ++ c ∷ [])
choice_pushed uses ports place below choices c known at number is h = record {
  each = each_append (IsChoice uses) choices (c ∷ []) h.each (is, tt);
  all = λ used operand a there has is_done. elim (done_cases ports place below used.port operand is_done) [
    | inl old ↦ any_left used.port operand choices c (h.all used operand a there has old)
    | inr new ↦ in_any (HasOperand used.port operand) (choices ++ c ∷ []) c (in_right c choices (c ∷ []) (inl refl)) (same_Some c.port used.port (sym at ∙ new.0), number ∙ sym new.1)
  ];
  done = λ x there. elim (in_append x choices (c ∷ []) (contains_in (choices ++ c ∷ []) x there)) [
    | inl old ↦ done_more ports place below x.port x.operand (h.done x (in_contains choices x old))
    | inr new ↦ elim new [ inl same ↦ subst (λ (y : Choice). IsDone ports place (below + 1) y.port y.operand) (sym same) (inr (at, omega (arith, number))) | inr none ↦ absurd none ]
  ];
  once = λ i j one other first second has. elim (pushed_cases choices c i one first) [
    | inl one_old ↦ elim (pushed_cases choices c j other second) [
      | inl other_old ↦ h.once i j one other one_old other_old has
      | inr other_new ↦
          let is_done : IsDone ports place below one.port one.operand = h.done one (in_contains choices one (get_in choices i one one_old)) in
          absurd (fresh one.port one.operand (sym has.0 ∙ ap (λ (y : Choice). y.port) other_new.1) (sym has.1 ∙ ap (λ (y : Choice). y.operand) other_new.1) is_done)
    ]
    | inr one_new ↦ elim (pushed_cases choices c j other second) [
      | inl other_old ↦
          let is_done : IsDone ports place below other.port other.operand = h.done other (in_contains choices other (get_in choices j other other_old)) in
          absurd (fresh other.port other.operand (has.0 ∙ ap (λ (y : Choice). y.port) one_new.1) (has.1 ∙ ap (λ (y : Choice). y.operand) one_new.1) is_done)
      | inr other_new ↦ one_new.0 ∙ sym other_new.0
    ]
  ];
}
  where
    fresh : (port : PathPort) (operand : ℕ) → port ≡ c.port → operand ≡ c.operand → IsDone ports place below port operand → ⊥
    fresh port operand same_port same_operand is_done =
        not_done uses ports place below c.port known at
        (subst (IsDone ports place below c.port) (same_operand ∙ number) (subst (λ p. IsDone ports place below p operand) same_port is_done))

-- an operand that no use hands in
pub choice_skipped : (uses : List PathUse) (ports : List PathPort) (place below : ℕ) (port : PathPort) (choices : List Choice) → slice_get ports place ≡ Some port → length (sources_of uses port below) ≡ 0
    → AreGathered uses ports place below choices → AreGathered uses ports place (below + 1) choices
choice_skipped uses ports place below port choices at none h = record {
  each = h.each;
  all = λ used operand a there has is_done. elim (done_cases ports place below used.port operand is_done) [
    | inl old ↦ h.all used operand a there has old
    | inr new ↦
        let some = handed_in uses port below used a there (sym (same_Some port used.port (sym at ∙ new.0))) (ap (operand_at used) (sym new.1) ∙ has) in
        absurd (omega arith)
  ];
  done = λ x there. done_more ports place below x.port x.operand (h.done x there);
  once = h.once;
}

-- on to the next port
pub next_port : (uses : List PathUse) (ports : List PathPort) (place : ℕ) (choices : List Choice) → AreFew uses → AreGathered uses ports place 3 choices → AreGathered uses ports (place + 1) 0 choices
next_port uses ports place choices few h = record {
  each = h.each;
  all = λ used operand a there has is_done. h.all used operand a there has (back used.port operand (few.operands used operand a there has) is_done);
  done = λ x there. on x.port x.operand (h.done x there);
  once = h.once;
}
  where
    back : (port : PathPort) (operand : ℕ) → operand < 3 → IsDone ports (place + 1) 0 port operand → IsDone ports place 3 port operand
    back port operand low (inl earlier) = let before = earlier.1 in elim (cases_eq earlier.0 place) [
      | inl same ↦ inr (ap (slice_get ports) (sym same) ∙ earlier.2, low)
      | inr other ↦ inl (earlier.0, omega arith, earlier.2)
    ]
    back port operand low (inr h) = let none = h.1 in absurd (omega arith)

    on : (port : PathPort) (operand : ℕ) → IsDone ports place 3 port operand → IsDone ports (place + 1) 0 port operand
    on port operand (inl earlier) = let before = earlier.1 in inl (earlier.0, omega arith, earlier.2)
    on port operand (inr h) = inl (place, omega arith, h.0)

pub none_gathered : (uses : List PathUse) (ports : List PathPort) → AreGathered uses ports 0 0 []
none_gathered uses ports = record {
  each = tt;
  all = λ used operand a there has is_done. absurd (never used.port operand is_done);
  done = λ x there. absurd (contains_in [] x there);
  once = λ i j one other first second has. absurd cc;
}
  where
    never : (port : PathPort) (operand : ℕ) → IsDone ports 0 0 port operand → ⊥
    never port operand (inl h) = let low = h.1 in omega arith
    never port operand (inr h) = let low = h.1 in omega arith

pub all_gathered : (uses : List PathUse) (ports : List PathPort) (place : ℕ) (choices : List Choice) → length ports ≤ place → ArePorts uses ports → AreGathered uses ports place 0 choices → AreChoices uses choices
all_gathered uses ports place choices past known h = record {
  each = h.each;
  all = λ used operand a there has.
      let (i, low, at) = known.all used there in
      h.all used operand a there has (inl (i, omega arith, slice_get-get_or ports i used.port low ∙ ap Some at));
  once = h.once;
}

-- The ports of uses, one after another.

pub no_ports : ArePorts [] []
no_ports = record { all = λ used there. absurd (contains_in [] used there); once = λ port i j first second. absurd cc }

pub port_known : (uses : List PathUse) (used : PathUse) (ports : List PathPort) → Contains ports used.port → ArePorts uses ports → ArePorts (uses ++ used ∷ []) ports
port_known uses used ports there h = record {
  all = λ x is_there. elim (in_append x uses (used ∷ []) (contains_in (uses ++ used ∷ []) x is_there)) [
    | inl old ↦ h.all x (in_contains uses x old)
    | inr new ↦ elim new [ inl same ↦ subst (λ (y : PathUse). Contains ports y.port) (sym same) there | inr none ↦ absurd none ]
  ];
  once = h.once;
}

pub port_pushed : (uses : List PathUse) (used : PathUse) (ports : List PathPort) → (Contains ports used.port → ⊥) → ArePorts uses ports → ArePorts (uses ++ used ∷ []) (ports ++ used.port ∷ [])
port_pushed uses used ports new h = record {
  all = λ x is_there. elim (in_append x uses (used ∷ []) (contains_in (uses ++ used ∷ []) x is_there)) [
    | inl old ↦ in_contains (ports ++ used.port ∷ []) x.port (in_left x.port ports (used.port ∷ []) (contains_in ports x.port (h.all x (in_contains uses x old))))
    | inr last ↦ elim last [
      | inl same ↦ in_contains (ports ++ used.port ∷ []) x.port (in_right x.port ports (used.port ∷ []) (inl (ap (λ (y : PathUse). y.port) same)))
      | inr none ↦ absurd none
    ]
  ];
  once = λ port i j first second. elim (pushed_cases ports used.port i port first) [
    | inl one ↦ elim (pushed_cases ports used.port j port second) [
      | inl other ↦ h.once port i j one other
      | inr last ↦ absurd (new (in_contains ports used.port (subst (λ p. In p ports) last.1 (get_in ports i port one))))
    ]
    | inr last ↦ elim (pushed_cases ports used.port j port second) [
      | inl other ↦ absurd (new (in_contains ports used.port (subst (λ p. In p ports) last.1 (get_in ports j port other))))
      | inr both ↦ last.0 ∙ sym both.0
    ]
  ];
}

pub ports_step : (uses : List PathUse) (i : ℕ) (used : PathUse) (ports : List PathPort) → i < length uses → used ≡ get_or uses i used → ArePorts (take i uses ++ used ∷ []) ports → ArePorts (take (i + 1) uses) ports
ports_step uses i used ports low is h =
    subst (λ us. ArePorts us ports) (ap (λ u. take i uses ++ u ∷ []) is ∙ sym (take-suc uses i used low) ∙ ap (λ n. take n uses) (sym (add-one i))) h

-- a port that is known is there
known_there : (port : PathPort) (ports : List PathPort) → list_any (is_port port) ports ≡ true → In port ports
known_there port [] e = absurd cc
known_there port (p ∷ ports) e = elim (or_cases (is_port port p) (list_any (is_port port) ports) e) [
  | inl here ↦ inl (same_ports port p here)
  | inr later ↦ inr (known_there port ports later)
]

there_known : (port : PathPort) (ports : List PathPort) → In port ports → list_any (is_port port) ports ≡ true
there_known port [] there = absurd there
there_known port (p ∷ ports) (inl here) = or_left (is_port port p) (list_any (is_port port) ports) (ap (is_port port) (sym here) ∙ itself port)
there_known port (p ∷ ports) (inr later) = or_right (is_port port p) (list_any (is_port port) ports) (there_known port ports later)

pub known_step : (uses : List PathUse) (i : ℕ) (used : PathUse) (ports : List PathPort) → i < length uses → used ≡ get_or uses i used → list_any (is_port used.port) ports ≡ true → ArePorts (take i uses) ports → ArePorts (take (i + 1) uses) ports
known_step uses i used ports low is known h = ports_step uses i used ports low is (port_known (take i uses) used ports (in_contains ports used.port (known_there used.port ports known)) h)

pub new_step : (uses : List PathUse) (i : ℕ) (used : PathUse) (ports : List PathPort) → i < length uses → used ≡ get_or uses i used → list_any (is_port used.port) ports ≡ false → ArePorts (take i uses) ports → ArePorts (take (i + 1) uses) (ports ++ used.port ∷ [])
new_step uses i used ports low is unknown h =
    ports_step uses i used (ports ++ used.port ∷ []) low is
    (port_pushed (take i uses) used ports (λ there. both_ways (list_any (is_port used.port) ports) unknown (there_known used.port ports (contains_in ports used.port there))) h)

-- what the loop over operands makes
few_sources : (port : PathPort) (operand : ℕ) (uses : List PathUse) → length (sources_of uses port operand) ≤ length uses
few_sources port operand [] = omega arith
few_sources port operand (u ∷ uses) = let rest = few_sources port operand uses in let one = one_longer (source_of port operand u) (sources_of uses port operand) in omega arith
  where
    one_longer : (o : Option Source) (ys : List Source) → length (cons_option o ys) ≤ length ys + 1
    one_longer None ys = omega arith
    one_longer (Some y) ys = omega arith

pub entries_fit : (uses : List PathUse) (port : PathPort) (operand : ℕ) (entries : List Source) (n : ℕ) → AreFew uses → entries ≡ sources_of uses port operand → n ≡ length entries → n < 2 ^ 32
entries_fit uses port operand entries n few is same =
    let most = few_sources port operand uses in
    let count = few.count in
    let long : length entries ≡ length (sources_of uses port operand) = ap length is in
    omega arith

not_none : (n : ℕ) → (n == 0) ≡ false → 0 < n
not_none zero e = absurd cc
not_none (suc n) e = omega arith

pub choice_made : (uses : List PathUse) (ports : List PathPort) (place below : ℕ) (choices : List Choice) (port : PathPort) (entries : List Source) (select : Select) (n : ℕ) → ArePorts uses ports → slice_get ports place ≡ Some port
    → entries ≡ sources_of uses port below → (length entries == 0) ≡ false → n ≡ length entries → Selects select 0 n → GoesOver select 0 n → IsBalanced select (n - 0) → AreGathered uses ports place below choices
    → AreGathered uses ports place (below + 1) (choices ++ record { port = port; operand = below; entries = entries; select = select } ∷ [])
choice_made uses ports place below choices port entries select n known at is some same selects over balanced h =
    let bare : n - 0 ≡ length entries = omega arith in
    choice_pushed uses ports place below choices (record { port = port; operand = below; entries = entries; select = select }) known at refl
    (record {
      entries = is;
      some = not_none (length entries) some;
      selects = subst (Selects select 0) same selects;
      over = subst (GoesOver select 0) same over;
      balanced = subst (IsBalanced select) bare balanced;
    })
    h

pub choice_not_made : (uses : List PathUse) (ports : List PathPort) (place below : ℕ) (choices : List Choice) (port : PathPort) (entries : List Source) → slice_get ports place ≡ Some port → entries ≡ sources_of uses port below
    → (length entries == 0) ≡ true → AreGathered uses ports place below choices → AreGathered uses ports place (below + 1) choices
choice_not_made uses ports place below choices port entries at is none h = choice_skipped uses ports place below port choices at (ap length (sym is) ∙ eqb-true (length entries) 0 none) h
