-- One more statement: what the environment knows after it.
use Rattle.std.proofs.Common.{◌≡◌, ℕ, true, false, List, [], ◌∷◌, ◌++◌, Option, Some, None, option_map, refl, sym, ap, subst, ◌∙◌}
use Rattle.std.specs.Prelude.{Result, Ok, Err}
use Rattle.std.specs.Option.{option_map_or}
use Rattle.ap_bits.specs.declared.card.Card.{Card}
use Rattle.ap_desc.specs.declared.description.Numbered.{Numbered}
use Rattle.ap_desc.specs.declared.design.Act.{Act}
use Rattle.ap_desc.specs.declared.design.Arg.{Arg}
use Rattle.ap_desc.specs.declared.design.Design.{Design}
use Rattle.ap_desc.specs.declared.fault.DescFault.{DescFault}
use Rattle.ap_desc.specs.declared.fault.DescFault.TheVariants.{Refused, NoMemory}
use Rattle.ap_desc.specs.declared.fault.Fault.{Fault}
use Rattle.ap_desc.specs.declared.fault.Refusal.{Refusal}
use Rattle.ap_desc.specs.declared.statement.Statement.{Statement}
use Rattle.ap_desc.specs.declared.statement.Statement.TheVariants as s
use Rattle.ap_desc.specs.declared.statement.Word.{Word}
use Rattle.ap_desc.specs.Declarations.{declarations}
use Rattle.ap_desc.specs.Descriptions.{IsDescription}
use Rattle.ap_desc.specs.FaultTable.{phase_of}
use Rattle.ap_desc.specs.Instructions.{act_of, arg_of}
use Rattle.ap_desc.specs.NameFaults as n
use Rattle.ap_desc.specs.Order.{is_micro, section}
use Rattle.ap_desc.specs.Parts.{place_of}
use Rattle.ap_desc.specs.Scope.{Scope, scope_after, scope_with, with_declared}
use Rattle.ap_desc.specs.StatementFaults.{is_faulty}
use Rattle.ap_check.specs.Added.{HasFixed, IsAdded, IsInstrAdded, IsLineAdded}
use Rattle.ap_check.specs.Drafts.{width_fault}
use Rattle.ap_check.specs.Known.{Describes, IsNameFault, IsNoted, Knows, KnowsNames}
use Rattle.ap_check.specs.Numbers.{narrowed_act}
use Rattle.ap_check.specs.Phases.{HoldsNoneOf, IsFaultOf, IsFirstOf}
use Rattle.ap_check.specs.Tables.{line_act, name_fault}
use Rattle.ap_check.specs.Taking.{IsDescribedAfter, IsNotedAs, IsRefusedAt}
use Rattle.ap_check.specs.Uses.{declared_with, use_of}
use Rattle.ap_check.specs.declared.declared.Declared.{Declared}
use Rattle.ap_check.specs.declared.draft.Draft.{Draft}
use Rattle.ap_check.specs.declared.environment.Environment.{Environment}
use Rattle.ap_check.specs.declared.stop.Stop.{Stop}
use Rattle.ap_check.specs.declared.stop.Stop.TheVariants as stop
use Rattle.ap_check.specs.declared.uses.Use.{Use}
use Rattle.ap_check.specs.declared.uses.Use.TheVariants as u
use Rattle.ap_check.proofs.Begins.{instr_step}
use Rattle.ap_check.proofs.FirstOf.{first_of_widths}
use Rattle.ap_check.proofs.KeptActs.{FitsPorts, PortFits, ports_fit}
use Rattle.ap_check.proofs.LineFaults.{act_same}
use Rattle.ap_check.proofs.LineStep.{line_step}
use Rattle.ap_check.proofs.NameGrowth.{names_grow, none_of_names}
use Rattle.ap_check.proofs.Noted.{first_noted, none_yet, noted_stays}
use Rattle.ap_check.proofs.Outer.{IsStepped, outer_step}
use Rattle.ap_check.proofs.TableFaults.{name_faults_same, names_judged}

-- the first fault of widths of a statement is the first one of its phase
pub widths_judged : (cards : List Card) (scope : Scope) (statement : Statement) → IsFaultOf (is_faulty cards scope statement) 3 (width_fault cards scope statement)
widths_judged cards scope statement = first_of_widths (is_faulty cards scope statement) _ _ _ _ _ _ _ refl refl refl refl refl refl refl

-- of a line of an instruction: what it does, what it uses, and what is added
acts : (cards : List Card) (design : Design) (arg : Word → Arg) (statement : Statement) → is_micro statement ≡ true → (a : Act) × (act_of cards design arg statement ≡ Some a)
acts cards design arg (s.Stages count) micro = absurd cc
acts cards design arg (s.Address bits) micro = absurd cc
acts cards design arg (s.Word bits) micro = absurd cc
acts cards design arg (s.Transfer stage slots) micro = absurd cc
acts cards design arg (s.Reg name width reset) micro = absurd cc
acts cards design arg (s.File name width cells reads writes) micro = absurd cc
acts cards design arg (s.Mem name address width) micro = absurd cc
acts cards design arg (s.In name width) micro = absurd cc
acts cards design arg (s.Unit name kind width) micro = absurd cc
acts cards design arg (s.Format name fields) micro = absurd cc
acts cards design arg (s.Instr name format fixed) micro = absurd cc
acts cards design arg s.End micro = absurd cc
acts cards design arg _ micro = (_, refl)

uses_line : (cards : List Card) (d : Declared) (statement : Statement) → is_micro statement ≡ true → use_of cards d statement ≡ option_map_or u.Line (line_act d statement) u.Nothing
uses_line cards d (s.Unit name kind width) micro = absurd cc
uses_line cards d (s.Format name fields) micro = absurd cc
uses_line cards d (s.Instr name format fixed) micro = absurd cc
uses_line cards d _ micro = refl

module _ (cards : List Card) (statements before : List Numbered) (line : ℕ) (d : Declared) (old new : Draft) (result : Result (Unit {0}) Stop) where
  abbrev scope : Scope
  scope = scope_after before cards

  abbrev numbered : Statement → Numbered
  numbered statement = record { line = line; statement = statement }

  micro_step : (statement : Statement) (used : Use) → is_micro statement ≡ true → declarations before cards ≡ declarations statements cards → declarations (before ++ numbered statement ∷ []) cards ≡ declarations before cards → KnowsNames cards (scope_after before cards) d
      → name_fault cards d statement ≡ None → used ≡ use_of cards d statement → Describes cards statements before old → IsLineAdded line old statement used new result → IsStepped cards statements before (numbered statement) new result
  micro_step statement used micro whole law names clean same knows added =
      let does = acts cards (declarations before cards) (arg_of scope.fields scope.locals) statement micro in
      let by_tables : line_act d statement ≡ Some (narrowed_act does.0) =
      ap (λ t. line_act t statement) names.tables ∙ act_same cards scope d.begun names.fields names.kinds statement ∙ ap (option_map narrowed_act) does.1 in
      let line_used : used ≡ u.Line (narrowed_act does.0) = same ∙ uses_line cards d statement micro ∙ ap (λ o. option_map_or u.Line o u.Nothing) by_tables in
      let judged = sym (ap (λ t. name_fault cards t statement) names.tables ∙ name_faults_same cards scope d.begun names.fields names.kinds statement) ∙ clean in
      let ports : PortFits (declarations before cards) does.0 = subst (FitsPorts (declarations before cards)) does.1 (ports_fit cards scope statement (none_of_names _ _ _ _ judged).0) in
      line_step cards statements before (numbered statement) does.0 old new result micro law whole does.1 ports knows
      (subst (λ x. IsLineAdded line old statement x new result) line_used added)

  -- every statement
  pub draft_step : (statement : Statement) (used : Use) → (section statement ≡ 10 → declarations before cards ≡ declarations statements cards) → declarations (before ++ numbered statement ∷ []) cards ≡ with_declared cards line statement (declarations before cards) → KnowsNames cards (scope_after before cards) d
      → name_fault cards d statement ≡ None → used ≡ use_of cards d statement → Describes cards statements before old → IsAdded cards line old statement used new result → IsStepped cards statements before (numbered statement) new result
  draft_step (s.Stages count) used whole law names clean same knows added = outer_step cards statements before (numbered (s.Stages count)) old new result refl refl law knows added
  draft_step (s.Address bits) used whole law names clean same knows added = outer_step cards statements before (numbered (s.Address bits)) old new result refl refl law knows added
  draft_step (s.Word bits) used whole law names clean same knows added = outer_step cards statements before (numbered (s.Word bits)) old new result refl refl law knows added
  draft_step (s.Transfer stage slots) used whole law names clean same knows added = outer_step cards statements before (numbered (s.Transfer stage slots)) old new result refl refl law knows added
  draft_step (s.Reg name width reset) used whole law names clean same knows added = outer_step cards statements before (numbered (s.Reg name width reset)) old new result refl refl law knows added
  draft_step (s.File name width cells reads writes) used whole law names clean same knows added = outer_step cards statements before (numbered (s.File name width cells reads writes)) old new result refl refl law knows added
  draft_step (s.Mem name address width) used whole law names clean same knows added = outer_step cards statements before (numbered (s.Mem name address width)) old new result refl refl law knows added
  draft_step (s.In name width) used whole law names clean same knows added = outer_step cards statements before (numbered (s.In name width)) old new result refl refl law knows added
  draft_step (s.Unit name kind width) used whole law names clean same knows added = outer_step cards statements before (numbered (s.Unit name kind width)) old new result refl refl law knows added
  draft_step (s.Format name fields) used whole law names clean same knows added = outer_step cards statements before (numbered (s.Format name fields)) old new result refl refl law knows added
  draft_step s.End used whole law names clean same knows added = outer_step cards statements before (numbered s.End) old new result refl refl law knows added
  draft_step (s.Instr name format fixed) used whole law names clean same knows added =
      instr_step cards statements before line name format fixed (place_of d.formats format) old new result law (whole refl) (ap (λ (t : Declared). place_of t.formats format) names.tables) knows
      (subst (λ x. IsInstrAdded line old name fixed x new result) same added)
  draft_step statement used whole law names clean same knows added = micro_step statement used refl (whole refl) law names clean same knows added

-- what is known of the names after one more statement
module _ (cards : List Card) (statements before : List Numbered) (m : Numbered) (after : List Numbered) (old new : Environment) (used : Use)
    (described : IsDescription statements) (split : statements ≡ before ++ m ∷ after) (grow : scope_after (before ++ m ∷ []) cards ≡ scope_with cards (scope_after before cards) m)
    (knows : Knows cards statements before old) (clean : name_fault cards old.declared m.statement ≡ None) (same : used ≡ use_of cards old.declared m.statement) (declared : new.declared ≡ declared_with cards old.declared m.statement used) where
  none_of_names_here : HoldsNoneOf (is_faulty cards (scope_after before cards) m.statement) 2
  none_of_names_here = subst (IsFaultOf (is_faulty cards (scope_after before cards) m.statement) 2) clean (names_judged cards (scope_after before cards) old.declared m.statement knows.names)

  names_after : KnowsNames cards (scope_after (before ++ m ∷ []) cards) new.declared
  names_after = subst (λ (sc : Scope). KnowsNames cards sc new.declared) (sym grow) (subst (KnowsNames cards (scope_with cards (scope_after before cards) m)) (sym declared)
      (names_grow cards (scope_after before cards) m old.declared used knows.names clean same))

  -- after a fault of widths only names are looked at
  pub taken_stale : (refusal : Refusal) → old.noted ≡ Some refusal → new.noted ≡ Some refusal → Knows cards statements (before ++ m ∷ []) new
  taken_stale refusal was is = record {
    clean = none_yet cards before m 2 knows.clean none_of_names_here;
    names = names_after;
    noted = subst (IsNoted (before ++ m ∷ []) cards) (sym is) (noted_stays cards statements before m after refusal described.lines split (subst (IsNoted before cards) was knows.noted));
    describes = λ none. absurd (let wrong : Some refusal ≡ None = sym is ∙ none in cc);
  }

  -- where the statement has no fault
  pub taken_right : old.noted ≡ None → new.noted ≡ None → width_fault cards (scope_after before cards) m.statement ≡ None → Describes cards statements (before ++ m ∷ []) new.draft → Knows cards statements (before ++ m ∷ []) new
  taken_right was is right describes = record {
    clean = none_yet cards before m 2 knows.clean none_of_names_here;
    names = names_after;
    noted = subst (IsNoted (before ++ m ∷ []) cards) (sym is) (none_yet cards before m 3 (subst (IsNoted before cards) was knows.noted)
        (subst (IsFaultOf (is_faulty cards (scope_after before cards) m.statement) 3) right (widths_judged cards (scope_after before cards) m.statement)));
    describes = λ none. describes;
  }

  -- where it has the first fault of widths
  pub taken_wrong : (kind : Fault) → old.noted ≡ None → new.noted ≡ Some (record { phase = phase_of kind; line = m.line; kind = kind }) → width_fault cards (scope_after before cards) m.statement ≡ Some kind → Knows cards statements (before ++ m ∷ []) new
  taken_wrong kind was is wrong = record {
    clean = none_yet cards before m 2 knows.clean none_of_names_here;
    names = names_after;
    noted = subst (IsNoted (before ++ m ∷ []) cards) (sym is) (first_noted cards before m kind (subst (IsNoted before cards) was knows.noted)
        (subst (IsFaultOf (is_faulty cards (scope_after before cards) m.statement) 3) wrong (widths_judged cards (scope_after before cards) m.statement)));
    describes = λ none. absurd (let no : Some (record { phase = phase_of kind; line = m.line; kind = kind }) ≡ None = sym is ∙ none in cc);
  }

-- the names that an instruction uses are those of its fields, and a unit's kind is there
pub has_fixed : (cards : List Card) (d : Declared) (statement : Statement) (used : Use) → used ≡ use_of cards d statement → HasFixed statement used
has_fixed cards d statement used same = subst (HasFixed statement) (sym same) (go statement) where
  go : (st : Statement) → HasFixed st (use_of cards d st)
  go (s.Instr name format fixed) = refl
  go _ = tt

pub has_kind_of : (cards : List Card) (d : Declared) (statement : Statement) → name_fault cards d statement ≡ None → n.is_no_kind cards statement ≡ false
has_kind_of cards d statement clean = (none_of_names _ _ _ _ clean).2

-- why a statement is refused is its first fault of names
pub refused_first : (cards : List Card) (before : List Numbered) (m : Numbered) (d : Declared) (why : DescFault) → KnowsNames cards (scope_after before cards) d → IsRefusedAt m.line (name_fault cards d m.statement) why → IsNameFault cards before m why
refused_first cards before m d NoMemory names h = tt
refused_first cards before m d (Refused refusal) names h =
    let first : IsFirstOf (is_faulty cards (scope_after before cards) m.statement) 2 refusal.kind =
    subst (IsFaultOf (is_faulty cards (scope_after before cards) m.statement) 2) h.0 (names_judged cards (scope_after before cards) d m.statement names) in
    (ap (λ (r : Refusal). r.phase) h.1 ∙ first.phase, ap (λ (r : Refusal). r.line) h.1, first)

-- all together
pub taken : (cards : List Card) (statements before : List Numbered) (m : Numbered) (after : List Numbered) (old middle new : Environment) (used : Use)
    → IsDescription statements → statements ≡ before ++ m ∷ after → scope_after (before ++ m ∷ []) cards ≡ scope_with cards (scope_after before cards) m
    → declarations (before ++ m ∷ []) cards ≡ with_declared cards m.line m.statement (declarations before cards)
    → (section m.statement ≡ 10 → declarations before cards ≡ declarations statements cards)
    → Knows cards statements before old → name_fault cards old.declared m.statement ≡ None → used ≡ use_of cards old.declared m.statement
    → middle.declared ≡ old.declared → IsDescribedAfter old.noted cards m used old middle → new ≡ record middle { declared = declared_with cards middle.declared m.statement used }
    → Knows cards statements (before ++ m ∷ []) new
taken cards statements before m after old middle new used described split grow law whole knows clean same kept done made = by old.noted refl done where
  declared : new.declared ≡ declared_with cards old.declared m.statement used
  declared = ap (λ (e : Environment). e.declared) made ∙ ap (λ d. declared_with cards d m.statement used) kept

  noted : new.noted ≡ middle.noted
  noted = ap (λ (e : Environment). e.noted) made

  stepped : (result : Result (Unit {0}) Stop) → old.noted ≡ None → IsAdded cards m.line old.draft m.statement used middle.draft result → IsNotedAs m.line result middle.noted → Knows cards statements (before ++ m ∷ []) new
  stepped (Ok ok) none added is =
      let step = draft_step cards statements before m.line old.declared old.draft middle.draft (Ok ok) m.statement used whole law knows.names clean same (knows.describes none) added in
      taken_right cards statements before m after old new used described split grow knows clean same declared none (noted ∙ is) step.0
      (subst (Describes cards statements (before ++ m ∷ [])) (sym (ap (λ (e : Environment). e.draft) made)) step.1)
  stepped (Err (stop.Fault kind)) none added is =
      let step = draft_step cards statements before m.line old.declared old.draft middle.draft (Err (stop.Fault kind)) m.statement used whole law knows.names clean same (knows.describes none) added in
      taken_wrong cards statements before m after old new used described split grow knows clean same declared kind none (noted ∙ is) step
  stepped (Err stop.NoMemory) none added is = absurd is

  by : (o : Option Refusal) → old.noted ≡ o → IsDescribedAfter o cards m used old middle → Knows cards statements (before ++ m ∷ []) new
  by (Some refusal) was h = taken_stale cards statements before m after old new used described split grow knows clean same declared refusal was (noted ∙ ap (λ (e : Environment). e.noted) h ∙ was)
  by None was (result, added, is) = stepped result was added is
