-- What the lines of a stage that was served hand in has nets.
use Rattle.std.proofs.Common.{◌≡◌, ℕ, zero, suc, ◌+◌, ◌<◌, ◌≤◌, ◌==◌, Bool, true, false, if◌then◌else◌, List, [], ◌∷◌, ◌++◌, length, filter_map, take, Option, Some, None, inl, inr, refl, sym, ap, subst, ◌∙◌, arith}
use Rattle.std.specs.Prelude.{IfSome, find, option_and_then, option_to_list, slice_get}
use Rattle.std.specs.List.{AllByRecursion as Each, cons_option, enumerate_from}
use Rattle.std.proofs.lemmas.Bool.{and_parts, eqb-true}
use Rattle.std.proofs.lemmas.Option.{same_Some}
use Rattle.ap_bits.specs.declared.card.Card.{Card}
use Rattle.ap_desc.proofs.DesignLaws.{locals_by_lines}
use Rattle.ap_desc.specs.Chains.{operands_of}
use Rattle.ap_desc.specs.Clean.{FitsCards}
use Rattle.ap_desc.specs.Designs.{IsArg, fields_of}
use Rattle.ap_desc.specs.Ports.{is_transfer}
use Rattle.ap_desc.specs.declared.design.Act.{Act}
use Rattle.ap_desc.specs.declared.design.Act.TheVariants as act
use Rattle.ap_desc.specs.declared.design.Arg.{Arg}
use Rattle.ap_desc.specs.declared.design.Arg.TheVariants as arg
use Rattle.ap_desc.specs.declared.design.Design.{Design}
use Rattle.ap_desc.specs.declared.design.Field.{Field}
use Rattle.ap_desc.specs.declared.design.Instr.{Instr}
use Rattle.ap_desc.specs.declared.design.Micro.{Micro}
use Rattle.ap_model.specs.Ports.{writes_through}
use Rattle.ap_model.proofs.LineOrder.{count, widths_count}
use Rattle.ap_net.proofs.Lists.{All-at, All-both}
use Rattle.ap_stage.specs.declared.node.Course.{Course}
use Rattle.ap_stage.specs.declared.node.PortUse.{PortUse}
use Rattle.ap_stage.specs.declared.row.Line.{Line}
use Rattle.ap_stage.specs.Chained.{HasOrigin, IsFull}
use Rattle.ap_stage.specs.Courses.{AreSame, IsSame}
use Rattle.ap_stage.specs.Sources.{HasNet}
use Rattle.ap_stage.proofs.Grown.{has_kept}
use Rattle.ap_stage.proofs.Users.{courses_on}
use Rattle.ap_course.specs.Instrs.{HasLive, IsCourseOf}
use Rattle.ap_course.proofs.Makers.{good_at, line_at}
use Rattle.ap_course.proofs.Whole.{line_operands}
use Rattle.ap_stages.proofs.Same.{same_long}
use Rattle.ap_effect.specs.declared.line.PortLine.{PortLine}
use Rattle.ap_effect.specs.Lines.{handed_by, is_line_of, line_of, lines_of}
use Rattle.ap_outcome.specs.Outcomes.{CanHandIn, CanName, HasCourse}
use Rattle.ap_act.specs.Serving.{StagesCanAct}
use Rattle.ap_act.proofs.Lists.{split}

-- Lists.

found : {X : Type 0} (t : X → Bool) (xs : List X) (x : X) → find t xs ≡ Some x → (j : ℕ) × (slice_get xs j ≡ Some x) × (t x ≡ true)
found t [] x e = cc
found {X} t (y ∷ xs) x e = go (t y) refl e (found t xs x)
  where
    go : (b : Bool) → t y ≡ b → (if b then Some y else find t xs) ≡ Some x → (find t xs ≡ Some x → (j : ℕ) × (slice_get xs j ≡ Some x) × (t x ≡ true)) → (j : ℕ) × (slice_get (y ∷ xs) j ≡ Some x) × (t x ≡ true)
    go true on q rest = let same : y ≡ x = same_Some y x q in (0, q, ap t (sym same) ∙ on)
    go false off q rest = let r = rest q in (suc r.0, r.1, r.2)

each_mapped : {X Y : Type 0} (P : Y → Type 0) (f : X → Option Y) (xs : List X) → ((i : ℕ) (x : X) (y : Y) → slice_get xs i ≡ Some x → f x ≡ Some y → P y) → Each P (filter_map f xs)
each_mapped P f [] g = tt
each_mapped {X} {Y} P f (x ∷ xs) g = go (f x) refl (each_mapped P f xs (λ i z y at e. g (suc i) z y at e))
  where
    go : (o : Option Y) → f x ≡ o → Each P (filter_map f xs) → Each P (cons_option o (filter_map f xs))
    go None e rest = rest
    go (Some y) e rest = (g 0 x y refl e, rest)

enumerate_at : {X : Type 0} (n : ℕ) (xs : List X) (i : ℕ) (x : ℕ × X) → slice_get (enumerate_from n xs) i ≡ Some x → (x.0 ≡ n + i) × (slice_get xs i ≡ Some x.1)
enumerate_at n [] i x e = cc
enumerate_at {X} n (y ∷ xs) zero x e = let same : (n, y) ≡ x = same_Some (n, y) x e in let none : n ≡ n + 0 = omega arith in (sym (ap (λ (p : ℕ × X). p.0) same) ∙ none, ap (λ (p : ℕ × X). Some p.1) same)
enumerate_at n (y ∷ xs) (suc i) x e = let r = enumerate_at (n + 1) xs i x e in let next : n + 1 + i ≡ n + suc i = omega arith in (r.0 ∙ next, r.1)

there_too : {X Y : Type 0} (xs : List X) (ys : List Y) → length ys ≡ length xs → (k : ℕ) (x : X) → slice_get xs k ≡ Some x → (y : Y) × (slice_get ys k ≡ Some y)
there_too [] ys long k x at = cc
there_too (z ∷ xs) [] long k x at = absurd (omega (arith, long))
there_too (z ∷ xs) (y ∷ ys) long zero x at = (y, refl)
there_too (z ∷ xs) (y ∷ ys) long (suc k) x at = there_too xs ys (omega (arith, long)) k x at

same_at : (old new : List Course) → AreSame old new → (k : ℕ) (o c : Course) → slice_get old k ≡ Some o → slice_get new k ≡ Some c → IsSame o c
same_at [] new h k o c p q = cc
same_at (x ∷ old) [] h k o c p q = absurd h
same_at (x ∷ old) (y ∷ new) h zero o c p q =
    let one : x ≡ o = same_Some x o p in
    let two : y ≡ c = same_Some y c q in
    subst (λ (z : Course). IsSame z c) one (subst (IsSame x) two h.0)
same_at (x ∷ old) (y ∷ new) h (suc k) o c p q = same_at old new h.1 k o c p q

-- An operand.

origin_net : (c : Course) → IsFull c → (a : Arg) → HasOrigin c a → HasNet c.row.items a
origin_net c full (arg.Local i) (inl has) = has
origin_net c full (arg.Local i) (inr (inl (k, l, at, is))) = subst (λ n. HasNet c.row.items (arg.Local n)) is (All-at (λ (x : Line). HasNet c.row.items (arg.Local x.local)) c.lines k l full.lines at)
origin_net c full (arg.Local i) (inr (inr (k, u, at, is))) = subst (λ n. HasNet c.row.items (arg.Local n)) is (All-at (λ (x : PortUse). HasNet c.row.items (arg.Local x.local)) c.uses k u full.uses at)
origin_net c full (arg.Field i) h = tt
origin_net c full arg.Pc h = tt
origin_net c full arg.Link h = tt

arg_more : (m n : ℕ) (fields : List Field) → m ≤ n → (a : Arg) → IsArg m fields a → IsArg n fields a
arg_more m n fields le (arg.Local i) h = let low : i < m = h in omega (arith, low, le)
arg_more m n fields le (arg.Field i) h = h
arg_more m n fields le arg.Pc h = tt
arg_more m n fields le arg.Link h = tt

count_front : (xs ys : List Micro) → count xs ≤ count (xs ++ ys)
count_front [] ys = omega arith
count_front (x ∷ xs) ys = let rest = count_front xs ys in omega (arith, rest)

-- What a line hands in.

of_guard : (c : Course) (guard : Option Arg) → Each (CanName c) (option_to_list guard) → IfSome guard (CanName c)
of_guard c None h = tt
of_guard c (Some a) h = h.0

hands : (c : Course) (k : ℕ) (a : Act) (line : PortLine) → Each (CanName c) (operands_of a) → handed_by k a ≡ Some line → (line.instr ≡ k) × CanHandIn c line
hands c k (act.WriteFile file number index v guard) line can e = subst (λ (l : PortLine). (l.instr ≡ k) × CanHandIn c l) (same_Some _ line e) (refl, record { guard = of_guard c guard can.1.1; index = can.0; value = can.1.0 })
hands c k (act.WriteReg reg v guard) line can e = subst (λ (l : PortLine). (l.instr ≡ k) × CanHandIn c l) (same_Some _ line e) (refl, record { guard = of_guard c guard can.1; index = tt; value = can.0 })
hands c k (act.WriteMem mem at v guard) line can e = subst (λ (l : PortLine). (l.instr ≡ k) × CanHandIn c l) (same_Some _ line e) (refl, record { guard = of_guard c guard can.1.1; index = can.0; value = can.1.0 })
hands c k (act.Branch cond target) line can e = subst (λ (l : PortLine). (l.instr ≡ k) × CanHandIn c l) (same_Some _ line e) (refl, record { guard = can.0; index = tt; value = can.1.0 })
hands c k (act.Jump target) line can e = subst (λ (l : PortLine). (l.instr ≡ k) × CanHandIn c l) (same_Some _ line e) (refl, record { guard = tt; index = tt; value = can.0 })
hands c k _ line can e = cc

module _ (design : Design) (cards : List Card) (fits : FitsCards design cards) (stage : ℕ) where
  -- the operands of any line of an instruction in the stage
  named : (k : ℕ) (instr : Instr) (c : Course) → slice_get design.instrs k ≡ Some instr → IsCourseOf design stage instr c → HasLive design stage instr c → IsFull c → (j : ℕ) (m : Micro) → slice_get instr.micros j ≡ Some m → m.stage ≡ stage → Each (CanName c) (operands_of m.act)
  named k instr c at of live full j m there here =
      let good = good_at design cards k instr fits at in
      let s = split instr.micros j m there in
      let line = line_at design instr good (take j instr.micros) m s.0 s.1 in
      let few : count (take j instr.micros) ≤ count instr.micros = subst (λ ms. count (take j instr.micros) ≤ count ms) (sym s.1) (count_front (take j instr.micros) (m ∷ s.0)) in
      let long : length instr.locals ≡ count instr.micros = ap length (locals_by_lines design (fields_of design instr) instr good.right) ∙ widths_count design instr instr.micros in
      let widths : length c.scope.widths ≡ length instr.locals = ap (λ sc. length sc.widths) of.scope in
      let fields : c.scope.fields ≡ fields_of design instr = ap (λ sc. sc.fields) of.scope in
      All-both (IsArg (count (take j instr.micros)) (fields_of design instr)) (HasOrigin c) (CanName c)
      (λ a is origin. record {
        arg = subst (λ fs. IsArg (length c.scope.widths) fs a) (sym fields) (arg_more (count (take j instr.micros)) (length c.scope.widths) (fields_of design instr) (omega (arith, few, long, widths)) a is);
        net = origin_net c full a origin;
      })
      (operands_of m.act) line.operands (line_operands design cards k instr fits at stage c of live j m there here)

  -- what a line of these hands in
  handed_in : (courses : List Course)
      → ((k : ℕ) (instr : Instr) → slice_get design.instrs k ≡ Some instr → (c : Course) × (slice_get courses k ≡ Some c) × IsCourseOf design stage instr c × HasLive design stage instr c × IsFull c)
      → (is_one : Act → Bool) → Each (HasCourse courses) (lines_of is_one design stage)
  handed_in courses has is_one = each_mapped (HasCourse courses) (line_of is_one stage) (enumerate_from 0 design.instrs) one
    where
      one : (i : ℕ) (x : ℕ × Instr) (line : PortLine) → slice_get (enumerate_from 0 design.instrs) i ≡ Some x → line_of is_one stage x ≡ Some line → HasCourse courses line
      one i x line at is = go (find (is_line_of is_one stage) x.1.micros) refl is
        where
          go : (o : Option Micro) → find (is_line_of is_one stage) x.1.micros ≡ o → option_and_then (λ (m : Micro). handed_by x.0 m.act) o ≡ Some line → HasCourse courses line
          go None e q = cc
          go (Some m) e q =
              let f = found (is_line_of is_one stage) x.1.micros m e in
              let here : m.stage ≡ stage = eqb-true m.stage stage (and_parts (m.stage == stage) (is_one m.act) f.2).0 in
              let p = enumerate_at 0 design.instrs i x at in
              let number : i ≡ x.0 = (let z = p.0 in omega (arith, z)) in
              let there : slice_get design.instrs x.0 ≡ Some x.1 = subst (λ n. slice_get design.instrs n ≡ Some x.1) number p.1 in
              let c = has x.0 x.1 there in
              let h = hands c.0 x.0 m.act line (named x.0 x.1 c.0 there c.2 c.3 c.4 f.0 m f.1 here) q in
              record { course = c.0; at = subst (λ n. slice_get courses n ≡ Some c.0) (sym h.0) c.1; can = h.1 }

pub stages_can_act : StagesCanAct
stages_can_act design cards stage table choices supplies order modules shared own old new d s fits h conds adds ground =
    record {
      ground = ground;
      courses = courses_on new d s.ground s.courses.items adds h.all.are;
      of = record {
        place = h.begins.of.place;
        link = h.begins.of.link;
        locals = λ k instr c at there. (let o = of_design k instr at in let same : o.0 ≡ c = same_Some o.0 c (sym o.1 ∙ there) in subst (λ (x : Course). x.scope.widths ≡ instr.locals) same (ap (λ sc. sc.widths) (o.2).scope));
        fields = λ k instr c at there. (let o = of_design k instr at in let same : o.0 ≡ c = same_Some o.0 c (sym o.1 ∙ there) in subst (λ (x : Course). x.scope.fields ≡ fields_of design instr) same (ap (λ sc. sc.fields) (o.2).scope));
      };
      writes = λ p. handed_in design cards fits stage s.courses.items of_design (writes_through p);
      transfers = handed_in design cards fits stage s.courses.items of_design is_transfer;
    }
  where
    of_design : (k : ℕ) (instr : Instr) → slice_get design.instrs k ≡ Some instr → (c : Course) × (slice_get s.courses.items k ≡ Some c) × IsCourseOf design stage instr c × HasLive design stage instr c × IsFull c
    of_design k instr at =
        let started = h.begins.started in
        let f = there_too design.instrs h.first started.long k instr at in
        let c = there_too h.first s.courses.items (same_long h.first s.courses.items h.same) k f.0 f.1 in
        let w = there_too design.instrs own.conds conds k instr at in
        let is = started.each k f.0 f.1 instr w.0 at w.1 in
        let same : IsSame f.0 c.0 = same_at h.first s.courses.items h.same k f.0 c.0 f.1 c.1 in (
          c.0,
          c.1,
          record { scope = same.scope ∙ is.of.scope; lines = same.lines ∙ is.of.lines; uses = same.uses ∙ is.of.uses },
          (λ i live. (let local = is.live i live in has_kept (f.0).row.items (c.0).row.items same.keeps (arg.Local i) ((local.has).net, subst (λ n. slice_get (f.0).row.items n ≡ Some (Some (local.has).net)) local.local (local.has).at))),
          All-at IsFull s.courses.items k c.0 h.all.full c.1,
        )
