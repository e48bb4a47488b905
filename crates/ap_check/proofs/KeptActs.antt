-- Where a line has no fault of widths, its numbers have 32 bits.
use Rattle.std.proofs.Common.{◌≡◌, ℕ, ◌-◌, ◌<◌, ◌≤◌, nat_lt, Bool, true, false, not, ◌||◌, List, Option, Some, None, refl, sym, ap, subst, ◌∙◌, arith, ltb-false, ltb-true}
use Rattle.std.specs.Prelude.{slice_get}
use Rattle.std.specs.Option.{option_map_or}
use Rattle.std.proofs.lemmas.Bool.{not-false, or_parts}
use Rattle.std.proofs.lemmas.Bool.Decides.{nat_tests}
use Rattle.ap_bits.specs.declared.card.Card.{Card}
use Rattle.ap_desc.specs.declared.design.Act.{Act}
use Rattle.ap_desc.specs.declared.design.Act.TheVariants as act
use Rattle.ap_desc.specs.declared.design.Arg.{Arg}
use Rattle.ap_desc.specs.declared.design.Design.{Design}
use Rattle.ap_desc.specs.declared.design.File.{File}
use Rattle.ap_desc.specs.declared.statement.Statement.{Statement}
use Rattle.ap_desc.specs.declared.statement.Statement.TheVariants as s
use Rattle.ap_desc.specs.Designs.{is_stage, is_width, width_at}
use Rattle.ap_desc.specs.Instructions.{act_of, arg_of}
use Rattle.ap_desc.specs.NameFaults as n
use Rattle.ap_desc.specs.Parts.{file_named, file_names, place_of}
use Rattle.ap_desc.specs.Scope.{Scope}
use Rattle.ap_desc.specs.Widths as w
use Rattle.ap_check.specs.Drafts.{AreNarrow, first_width_fault, line_fault}
use Rattle.ap_check.specs.Numbers.{narrowed, narrowed_act}
use Rattle.ap_check.proofs.NameLists.{at_place}

-- where no fault is the first one, none holds
pub none_of_widths : (r d s w t g k : Bool) → first_width_fault r d s w t g k ≡ None → (r ≡ false) × (d ≡ false) × (s ≡ false) × (w ≡ false) × (t ≡ false) × (g ≡ false) × (k ≡ false)
unfolding first_width_fault
none_of_widths true d s w t g k e = absurd cc
none_of_widths false true s w t g k e = absurd cc
none_of_widths false false true w t g k e = absurd cc
none_of_widths false false false true t g k e = absurd cc
none_of_widths false false false false true g k e = absurd cc
none_of_widths false false false false false true k e = absurd cc
none_of_widths false false false false false false true e = absurd cc
none_of_widths false false false false false false false e = (refl, refl, refl, refl, refl, refl, refl)

-- the port of the line is one of its file
abbrev pub PortFits : Design → Act → Type 0
PortFits design (act.ReadFile file port index) = port < width_at (λ (x : File). x.reads) design.files file
PortFits design (act.WriteFile file port index value guard) = port < width_at (λ (x : File). x.writes) design.files file
PortFits design _ = Unit {0}

abbrev pub FitsPorts : Design → Option Act → Type 0
FitsPorts design None = Unit {0}
FitsPorts design (Some a) = PortFits design a

-- a line that names ports which are there
pub ports_fit : (cards : List Card) (scope : Scope) (statement : Statement) → n.is_unknown scope statement ≡ false → FitsPorts scope.design (act_of cards scope.design (arg_of scope.fields scope.locals) statement)
ports_fit cards scope (s.ReadFile stage to file port index) e = go (file_named scope.design file) (sym (at_place (λ (x : File). x.name) scope.design.files file)) (or_parts (n.is_no_read_port scope file port) (n.is_no_operand scope index) e).0 where
  go : (o : Option File) → o ≡ slice_get scope.design.files (place_of (file_names scope.design) file) → option_map_or (λ (x : File). not (nat_lt port x.reads)) o true ≡ false
      → port < width_at (λ (x : File). x.reads) scope.design.files (place_of (file_names scope.design) file)
  go None at h = absurd cc
  go (Some x) at h = subst (λ o. port < option_map_or (λ (y : File). y.reads) o 0) at (ltb-true port x.reads (not-false (nat_lt port x.reads) h))
ports_fit cards scope (s.WriteFile stage file port index value guard) e =
    go (file_named scope.design file) (sym (at_place (λ (x : File). x.name) scope.design.files file))
    (or_parts (n.is_no_write_port scope file port) (n.is_no_operand scope index) (or_parts _ (n.is_no_operand scope value) (or_parts _ (n.is_no_guard scope guard) e).0).0).0
  where
    go : (o : Option File) → o ≡ slice_get scope.design.files (place_of (file_names scope.design) file) → option_map_or (λ (x : File). not (nat_lt port x.writes)) o true ≡ false
        → port < width_at (λ (x : File). x.writes) scope.design.files (place_of (file_names scope.design) file)
    go None at h = absurd cc
    go (Some x) at h = subst (λ o. port < option_map_or (λ (y : File). y.writes) o 0) at (ltb-true port x.writes (not-false (nat_lt port x.writes) h))
ports_fit cards scope _ e = tt

kept_width : (bits : ℕ) → is_width bits ≡ true → narrowed bits ≡ bits
kept_width bits e = grind (arith, nat_tests)

-- of a constant or an extension without fault
kept_bits : (design : Design) (stage bits : ℕ) → (not (is_stage design.stages stage) || not (is_width bits)) ≡ false → narrowed bits ≡ bits
kept_bits design stage bits e = kept_width bits (not-false (is_width bits) (or_parts (not (is_stage design.stages stage)) (not (is_width bits)) e).1)

-- of a slice without fault
pub slice_parts : (high low width : ℕ) → (nat_lt high low || not (nat_lt high width)) ≡ false → (low ≤ high) × (high < width)
slice_parts high low width e =
    let parts = or_parts (nat_lt high low) (not (nat_lt high width)) e in
    (ltb-false high low parts.0, ltb-true high width (not-false (nat_lt high width) parts.1))

pub kept_act : (design : Design) (width : Arg → ℕ) (stage : ℕ) (a : Act) → line_fault design width stage a ≡ None → AreNarrow design width a → PortFits design a → narrowed_act a ≡ a
kept_act design width stage (act.ReadFile file port index) none narrow fits = let kept : narrowed port ≡ port = omega arith in ap (λ p. act.ReadFile file p index) kept
kept_act design width stage (act.WriteFile file port index value guard) none narrow fits = let kept : narrowed port ≡ port = omega arith in ap (λ p. act.WriteFile file p index value guard) kept
kept_act design width stage (act.Const bits value) none narrow fits = ap (λ b. act.Const b value) (kept_bits design stage bits (none_of_widths _ _ _ _ _ _ _ none).0)
kept_act design width stage (act.Zext bits a) none narrow fits = ap (λ b. act.Zext b a) (kept_bits design stage bits (none_of_widths _ _ _ _ _ _ _ none).0)
kept_act design width stage (act.Sext bits a) none narrow fits = ap (λ b. act.Sext b a) (kept_bits design stage bits (none_of_widths _ _ _ _ _ _ _ none).0)
kept_act design width stage (act.Slice high low a) none narrow fits =
    let order = slice_parts high low (width a) (none_of_widths _ _ _ _ _ _ _ none).2 in
    let below : high < width a = order.1 in
    let above : low ≤ high = order.0 in
    let kept_high : narrowed high ≡ high = omega arith in
    let kept_low : narrowed low ≡ low = omega arith in
    ap (λ h. act.Slice h (narrowed low) a) kept_high ∙ ap (λ l. act.Slice high l a) kept_low
kept_act design width stage _ none narrow fits = refl

-- the stage of a line without fault
pub kept_stage : (design : Design) (width : Arg → ℕ) (stage : ℕ) (a : Act) → line_fault design width stage a ≡ None → design.stages < 4294967296 → narrowed stage ≡ stage
kept_stage design width stage a none small =
    let there : nat_lt stage design.stages ≡ true = not-false (is_stage design.stages stage) (or_parts (not (is_stage design.stages stage)) (w.has_bad_width width a) (none_of_widths _ _ _ _ _ _ _ none).0).0 in
    let below : stage < design.stages = ltb-true stage design.stages there in
    omega arith
