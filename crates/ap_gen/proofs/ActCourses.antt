-- The instructions of a stage that was served: each is the design's, and what its lines write or transfer has nets.
use Rattle.std.proofs.Common.{◌≡◌, ℕ, zero, suc, ◌+◌, ◌≤◌, ◌==◌, Bool, true, false, if◌then◌else◌, List, [], ◌∷◌, ◌++◌, length, filter_map, Option, Some, None, inl, inr, refl, sym, ap, subst, ◌∙◌, arith}
use Rattle.std.specs.Prelude.{IfSome, find, option_and_then, option_to_list, slice_get}
use Rattle.std.specs.List.{AllByRecursion as Each, cons_option, enumerate_from}
use Rattle.std.proofs.lemmas.Bool.{and_parts, eqb-true}
use Rattle.std.proofs.lemmas.Option.{same_Some, slice_get_within}
use Rattle.ap_bits.specs.declared.card.Card.{Card}
use Rattle.ap_desc.proofs.DesignLaws.{locals_by_lines}
use Rattle.ap_desc.specs.Chains.{operands_of}
use Rattle.ap_desc.specs.Clean.{FitsCards}
use Rattle.ap_desc.specs.Designs.{IsArg, fields_of}
use Rattle.ap_desc.specs.Ports.{is_transfer}
use Rattle.ap_desc.specs.declared.design.Act.{Act}
use Rattle.ap_desc.specs.declared.design.Act.TheVariants as act
use Rattle.ap_desc.specs.declared.design.Arg.{Arg}
use Rattle.ap_desc.specs.declared.design.Arg.TheVariants as arg
use Rattle.ap_desc.specs.declared.design.Design.{Design}
use Rattle.ap_desc.specs.declared.design.Field.{Field}
use Rattle.ap_desc.specs.declared.design.Instr.{Instr}
use Rattle.ap_desc.specs.declared.design.Micro.{Micro}
use Rattle.ap_desc.specs.declared.design.Node.{Node as DesignNode}
use Rattle.ap_merge.specs.declared.table.Choice.{Choice}
use Rattle.ap_model.specs.declared.storage.WritePort.{WritePort}
use Rattle.ap_model.specs.Ports.{writes_through}
use Rattle.ap_model.proofs.LineOrder.{count, widths_count}
use Rattle.ap_net.specs.Draft.{Draft}
use Rattle.ap_net.specs.Modules.{ModuleText}
use Rattle.ap_net.proofs.Lists.{All-at, All-both, All-from}
use Rattle.ap_pipe.specs.declared.table.StageSlots.{StageSlots}
use Rattle.ap_stage.specs.declared.chain.Node.{Node}
use Rattle.ap_stage.specs.declared.node.Course.{Course}
use Rattle.ap_stage.specs.declared.node.PortUse.{PortUse}
use Rattle.ap_stage.specs.declared.row.Line.{Line}
use Rattle.ap_stage.specs.declared.source.Ground.{Ground}
use Rattle.ap_stage.specs.Chained.{HasOrigin, IsFull}
use Rattle.ap_stage.specs.Courses.{AreSame, IsSame}
use Rattle.ap_stage.specs.Sources.{HasNet}
use Rattle.ap_course.specs.Instrs.{HasLive, IsCourseOf}
use Rattle.ap_course.specs.Lines.{scope_of}
use Rattle.ap_course.specs.Starts.{AreStarted}
use Rattle.ap_course.proofs.Makers.{good_at, line_at}
use Rattle.ap_course.proofs.Whole.{line_operands}
use Rattle.ap_effect.specs.declared.line.PortLine.{PortLine}
use Rattle.ap_effect.specs.Lines.{handed_by, is_line_of, line_of, transfer_lines, write_lines}
use Rattle.ap_outcome.specs.Outcomes.{CanHandIn, CanName, HasCourse}
use Rattle.ap_commit.specs.Widths.{AreOfDesign}
use Rattle.ap_stages.specs.Staged.{IsStaged}
use Rattle.ap_stages.specs.declared.begin.SharedNets.{SharedNets}
use Rattle.ap_stages.specs.declared.begin.StageNets.{StageNets}
use Rattle.ap_stages.specs.declared.nodes.Supplied.{Supplied}
use Rattle.ap_stages.proofs.Begun.{some_at}
use Rattle.ap_stages.proofs.Same.{same_long}

-- Lists.

-- an element of a list that is as long as another
pub at_too : {X Y : Type 0} (xs : List X) (ys : List Y) → length ys ≡ length xs → (k : ℕ) (x : X) → slice_get xs k ≡ Some x → (y : Y) × (slice_get ys k ≡ Some y)
at_too xs ys long k x at = let within = slice_get_within xs k x at in some_at ys k (omega (arith, within, long))

split_at : {X : Type 0} (xs : List X) (i : ℕ) (x : X) → slice_get xs i ≡ Some x → (earlier : List X) × (rest : List X) × (xs ≡ earlier ++ x ∷ rest)
split_at [] i x at = absurd cc
split_at (y ∷ xs) zero x at = ([], xs, ap (λ z. z ∷ xs) (same_Some y x at))
split_at (y ∷ xs) (suc i) x at = let (earlier, rest, whole) = split_at xs i x at in (y ∷ earlier, rest, ap (λ l. y ∷ l) whole)

found_at : {X : Type 0} (test : X → Bool) (xs : List X) (x : X) → find test xs ≡ Some x → (i : ℕ) × (slice_get xs i ≡ Some x) × (test x ≡ true)
found_at test [] x e = absurd cc
found_at {X} test (y ∷ xs) x e = go (test y) refl e (found_at test xs x)
  where
    go : (b : Bool) → test y ≡ b → (if b then Some y else find test xs) ≡ Some x → (find test xs ≡ Some x → (i : ℕ) × (slice_get xs i ≡ Some x) × (test x ≡ true)) → (i : ℕ) × (slice_get (y ∷ xs) i ≡ Some x) × (test x ≡ true)
    go true is same later = (0, same, subst (λ z. test z ≡ true) (same_Some y x same) is)
    go false is same later = let (i, at, passes) = later same in (suc i, at, passes)

-- Instructions that are the same but for further nets.
same_at : (old new : List Course) → AreSame old new → (k : ℕ) (o c : Course) → slice_get old k ≡ Some o → slice_get new k ≡ Some c → IsSame o c
same_at [] new h k o c p q = absurd cc
same_at (x ∷ old) [] h k o c p q = absurd h
same_at (x ∷ old) (y ∷ new) h zero o c p q = subst (λ (z : Course). IsSame z c) (same_Some x o p) (subst (IsSame x) (same_Some y c q) h.0)
same_at (x ∷ old) (y ∷ new) h (suc k) o c p q = same_at old new h.1 k o c p q

-- The instruction at a place, as it stands in the stage: with nets of all locals that are live into it, and of those that its lines make.
pub record IsInstrAt (design : Design) (stage : ℕ) (courses : List Course) (k : ℕ) (instr : Instr) : Type 0 where
  pub course : Course
  pub at : slice_get courses k ≡ Some course
  pub of : IsCourseOf design stage instr course
  pub live : HasLive design stage instr course
  pub full : IsFull course

module _ (design : Design) (stage : ℕ) (table : StageSlots) (choices : List Choice) (supplies : List Supplied) (order : List DesignNode) (modules : List ModuleText) (shared : SharedNets) (own : StageNets) (old new : Draft) (ground : Ground) (courses : List Course) (nodes : List Node)
    (h : IsStaged design stage table choices supplies order modules shared own old new ground courses nodes) (conds : length own.conds ≡ length design.instrs) where
  started : AreStarted design stage ground table.homes own.slots own.conds h.begins.linked h.begun h.first
  started = h.begins.started

  pub instr_at : (k : ℕ) (instr : Instr) → slice_get design.instrs k ≡ Some instr → IsInstrAt design stage courses k instr
  instr_at k instr e =
      let long = same_long h.first courses h.same in
      let (f, f_at) = at_too design.instrs h.first started.long k instr e in
      let (c, c_at) = at_too h.first courses long k f f_at in
      let (w, w_at) = at_too design.instrs own.conds conds k instr e in
      let is = started.each k f f_at instr w e w_at in
      let same : IsSame f c = same_at h.first courses h.same k f c f_at c_at in
      record {
        course = c;
        at = c_at;
        of = record { scope = same.scope ∙ is.of.scope; lines = same.lines ∙ is.of.lines; uses = same.uses ∙ is.of.uses };
        live = λ i live. (let local = is.live i live in ((local.has).net, same.keeps.kept i (local.has).net (subst (λ n. slice_get f.row.items n ≡ Some (Some (local.has).net)) local.local (local.has).at)));
        full = All-at IsFull courses k c h.all.full c_at;
      }

  pub of_design : AreOfDesign design ground courses
  of_design = record {
    place = h.begins.of.place;
    link = h.begins.of.link;
    locals = λ k instr c e at. ap (λ s. s.widths) (scoped k instr c e at);
    fields = λ k instr c e at. ap (λ s. s.fields) (scoped k instr c e at);
  }
    where
      scoped : (k : ℕ) (instr : Instr) (c : Course) → slice_get design.instrs k ≡ Some instr → slice_get courses k ≡ Some c → c.scope ≡ scope_of design instr
      scoped k instr c e at = let is = instr_at k instr e in ap (λ (x : Course). x.scope) (same_Some c is.course (sym at ∙ is.at)) ∙ is.of.scope

-- Operands of lines.

arg_more : (n m : ℕ) (fields : List Field) (a : Arg) → n ≤ m → IsArg n fields a → IsArg m fields a
arg_more n m fields (arg.Local i) le h = omega (arith, le, h)
arg_more n m fields (arg.Field i) le h = h
arg_more n m fields arg.Pc le h = h
arg_more n m fields arg.Link le h = h

count_front : (xs ys : List Micro) → count xs ≤ count (xs ++ ys)
count_front [] ys = omega arith
count_front (x ∷ xs) ys = let rest = count_front xs ys in omega (arith, rest)

net_of : (c : Course) (a : Arg) → IsFull c → HasOrigin c a → HasNet c.row.items a
net_of c (arg.Local i) full (inl h) = h
net_of c (arg.Local i) full (inr (inl (k, l, at, same))) = subst (λ n. HasNet c.row.items (arg.Local n)) same (All-at (λ (x : Line). HasNet c.row.items (arg.Local x.local)) c.lines k l full.lines at)
net_of c (arg.Local i) full (inr (inr (k, u, at, same))) = subst (λ n. HasNet c.row.items (arg.Local n)) same (All-at (λ (x : PortUse). HasNet c.row.items (arg.Local x.local)) c.uses k u full.uses at)
net_of c (arg.Field i) full h = tt
net_of c arg.Pc full h = tt
net_of c arg.Link full h = tt

guard_of : (P : Arg → Type 0) (guard : Option Arg) → Each P (option_to_list guard) → IfSome guard P
guard_of P None h = tt
guard_of P (Some g) h = h.0

-- what a line hands in has nets where its operands do
handed : (k : ℕ) (c : Course) (a : Act) (l : PortLine) → Each (CanName c) (operands_of a) → handed_by k a ≡ Some l → (l.instr ≡ k) × CanHandIn c l
handed k c (act.WriteFile file port index value guard) l (i, (v, g)) e =
    subst (λ (x : PortLine). (x.instr ≡ k) × CanHandIn c x) (same_Some _ l e) (refl, record { guard = guard_of (CanName c) guard g; index = i; value = v })
handed k c (act.WriteReg reg value guard) l (v, g) e =
    subst (λ (x : PortLine). (x.instr ≡ k) × CanHandIn c x) (same_Some _ l e) (refl, record { guard = guard_of (CanName c) guard g; index = tt; value = v })
handed k c (act.WriteMem mem at value guard) l (i, (v, g)) e =
    subst (λ (x : PortLine). (x.instr ≡ k) × CanHandIn c x) (same_Some _ l e) (refl, record { guard = guard_of (CanName c) guard g; index = i; value = v })
handed k c (act.Branch cond target) l (i, (t, u)) e = subst (λ (x : PortLine). (x.instr ≡ k) × CanHandIn c x) (same_Some _ l e) (refl, record { guard = i; index = tt; value = t })
handed k c (act.Jump target) l (t, u) e = subst (λ (x : PortLine). (x.instr ≡ k) × CanHandIn c x) (same_Some _ l e) (refl, record { guard = tt; index = tt; value = t })
handed k c _ l h e = absurd cc

-- what holds of the line of each instruction
each_line : (P : PortLine → Type 0) (is_one : Act → Bool) (stage n : ℕ) (instrs : List Instr) → ((k : ℕ) (instr : Instr) (l : PortLine) → slice_get instrs k ≡ Some instr → line_of is_one stage (n + k, instr) ≡ Some l → P l)
    → Each P (filter_map (line_of is_one stage) (enumerate_from n instrs))
each_line P is_one stage n [] h = tt
each_line P is_one stage n (i ∷ instrs) h =
    go (line_of is_one stage (n, i)) refl (each_line P is_one stage (n + 1) instrs (λ k instr l at is. h (suc k) instr l at (let same : n + 1 + k ≡ n + suc k = omega arith in subst (λ m. line_of is_one stage (m, instr) ≡ Some l) same is)))
  where
    here : n + 0 ≡ n
    here = omega arith

    go : (o : Option PortLine) → line_of is_one stage (n, i) ≡ o → Each P (filter_map (line_of is_one stage) (enumerate_from (n + 1) instrs)) → Each P (cons_option o (filter_map (line_of is_one stage) (enumerate_from (n + 1) instrs)))
    go None e rest = rest
    go (Some l) e rest = (h 0 i l refl (subst (λ m. line_of is_one stage (m, i) ≡ Some l) (sym here) e), rest)

module _ (design : Design) (cards : List Card) (fits : FitsCards design cards) (stage : ℕ) (courses : List Course) (instrs : (k : ℕ) (instr : Instr) → slice_get design.instrs k ≡ Some instr → IsInstrAt design stage courses k instr) where
  named : (k : ℕ) (instr : Instr) (e : slice_get design.instrs k ≡ Some instr) (i : ℕ) (m : Micro) → slice_get instr.micros i ≡ Some m → m.stage ≡ stage → Each (CanName (instrs k instr e).course) (operands_of m.act)
  named k instr e i m at here =
      let is = instrs k instr e in
      let c : Course = is.course in
      let good = good_at design cards k instr fits e in
      let (earlier, rest, whole) = split_at instr.micros i m at in
      let line = line_at design instr good earlier m rest whole in
      let long : length instr.locals ≡ count instr.micros = ap length (locals_by_lines design (fields_of design instr) instr good.right) ∙ widths_count design instr instr.micros in
      let front = count_front earlier (m ∷ rest) in
      let all : count instr.micros ≡ count (earlier ++ m ∷ rest) = ap count whole in
      let few : count earlier ≤ length instr.locals = omega (arith, long, front, all) in
      let args : Each (IsArg (length c.scope.widths) c.scope.fields) (operands_of m.act) =
      subst (λ s. Each (IsArg (length s.widths) s.fields) (operands_of m.act)) (sym is.of.scope) (All-from (IsArg (count earlier) (fields_of design instr)) (IsArg (length instr.locals) (fields_of design instr))
      (λ a h. arg_more (count earlier) (length instr.locals) (fields_of design instr) a few h) (operands_of m.act) line.operands) in
      All-both (IsArg (length c.scope.widths) c.scope.fields) (HasOrigin c) (CanName c) (λ a p q. record { arg = p; net = net_of c a is.full q }) (operands_of m.act) args (line_operands design cards k instr fits e stage c is.of is.live i m at here)

  line_has : (is_one : Act → Bool) (k : ℕ) (instr : Instr) (l : PortLine) → slice_get design.instrs k ≡ Some instr → line_of is_one stage (k, instr) ≡ Some l → HasCourse courses l
  line_has is_one k instr l e is = go (find (is_line_of is_one stage) instr.micros) refl is
    where
      go : (o : Option Micro) → find (is_line_of is_one stage) instr.micros ≡ o → option_and_then (λ (m : Micro). handed_by k m.act) o ≡ Some l → HasCourse courses l
      go None f g = absurd cc
      go (Some m) f g =
          let (i, at, passes) = found_at (is_line_of is_one stage) instr.micros m f in
          let here : m.stage ≡ stage = eqb-true m.stage stage (and_parts (m.stage == stage) (is_one m.act) passes).0 in
          let (number, can) = handed k (instrs k instr e).course m.act l (named k instr e i m at here) g in
          record { course = (instrs k instr e).course; at = ap (slice_get courses) number ∙ (instrs k instr e).at; can = can }

  lines_have : (is_one : Act → Bool) → Each (HasCourse courses) (filter_map (line_of is_one stage) (enumerate_from 0 design.instrs))
  lines_have is_one = each_line (HasCourse courses) is_one stage 0 design.instrs (λ k instr l e is. line_has is_one k instr l e (subst (λ m. line_of is_one stage (m, instr) ≡ Some l) (plain k) is))
    where
      plain : (k : ℕ) → 0 + k ≡ k
      plain k = omega arith

  pub writes_have : (p : WritePort) → Each (HasCourse courses) (write_lines design stage p)
  writes_have p = lines_have (writes_through p)

  pub transfers_have : Each (HasCourse courses) (transfer_lines design stage)
  transfers_have = lines_have is_transfer
