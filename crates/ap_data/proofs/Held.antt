-- The data of a stage, from what its ports and lines show.
use Rattle.std.proofs.Common.{◌≡◌, ◌≢◌, ℕ, zero, suc, ◌+◌, ◌-◌, ◌*◌, ◌/◌, ◌%◌, ◌^◌, ◌<◌, ◌==◌, Bool, true, false, cond, ◌&&◌, ◌||◌, List, [], ◌∷◌, filter_map, length, map, Option, None, Some, inl, inr, refl, sym, ap, subst, ◌∙◌, arith, ⊎_elim, eqb-true}
use Rattle.std.specs.Prelude.{◌⊎◌, IsSomeAnd, filter, if◌then◌else◌, nat_lt, not, option_and_then, option_map, slice_get}
use Rattle.std.specs.List.{AllByRecursion as Each, cons_option, list_any}
use Rattle.std.specs.Option.{option_map_or}
use Rattle.std.proofs.lemmas.Bool.{cases_eq, eq-eqb, false≢true}
use Rattle.std.proofs.lemmas.List.{length-map}
use Rattle.std.proofs.lemmas.Option.{same_Some, slice_get_within}
use Rattle.ap_bits.specs.Cards.{operation_value}
use Rattle.ap_bits.specs.Operations.{sign_extended}
use Rattle.ap_bits.specs.declared.card.Card.{Card}
use Rattle.ap_desc.specs.Chains.{maker_in, makers, operands_of}
use Rattle.ap_desc.specs.Clean.{FitsCards, IsClean}
use Rattle.ap_desc.specs.Designs.{Matches, arg_width, assigned_count, field_value, fields_of}
use Rattle.ap_desc.specs.Shelf.{HasOperation}
use Rattle.ap_desc.specs.Sound.{AreApart, ShareNoWord}
use Rattle.ap_desc.specs.declared.design.Act.{Act}
use Rattle.ap_desc.specs.declared.design.Act.TheVariants as act
use Rattle.ap_desc.specs.declared.design.Arg.{Arg}
use Rattle.ap_desc.specs.declared.design.Arg.TheVariants as arg
use Rattle.ap_desc.specs.declared.design.Design.{Design}
use Rattle.ap_desc.specs.declared.design.Field.{Field}
use Rattle.ap_desc.specs.declared.design.InPort.{InPort as Input}
use Rattle.ap_desc.specs.declared.design.Instr.{Instr}
use Rattle.ap_desc.specs.declared.design.Micro.{Micro}
use Rattle.ap_desc.specs.declared.design.Node.{Node as DesignNode}
use Rattle.ap_desc.specs.declared.design.Node.TheVariants as design_node
use Rattle.ap_desc.specs.declared.design.Reg.{Reg}
use Rattle.ap_desc.specs.declared.design.Unit.{Unit as Resource}
use Rattle.ap_model.specs.Fire.{instr_of, is_match, lines_in, unit_value}
use Rattle.ap_model.specs.FlightLocals.{is_live, is_live_in}
use Rattle.ap_model.specs.UnitUse.{act_ask, asks, is_quick, is_use_of, latency_of, lines_ask}
use Rattle.ap_net.specs.declared.cell.Wire.{Wire}
use Rattle.ap_net.specs.Draft.{Draft}
use Rattle.ap_net.specs.Modules.{ModuleText, module_named}
use Rattle.ap_net.specs.Readings.{Reading}
use Rattle.ap_ports.specs.Numbers.{IsNumbered, IsNumberedNode, number_of_node}
use Rattle.ap_store.specs.FilePorts.{read_index, read_value}
use Rattle.ap_stage.specs.declared.chain.Node.{Node}
use Rattle.ap_stage.specs.declared.chain.Node.TheVariants as node
use Rattle.ap_stage.specs.declared.node.Course.{Course}
use Rattle.ap_stage.specs.declared.node.PortUse.{PortUse}
use Rattle.ap_stage.specs.declared.serve.SlowUnit.{SlowUnit}
use Rattle.ap_stage.specs.declared.source.Ground.{Ground}
use Rattle.ap_stage.specs.declared.source.Scope.{Scope}
use Rattle.ap_stage.specs.declared.user.Asked.TheVariants as asked
use Rattle.ap_stage.specs.Chained.{IsBefore, IsFull, IsServedNode, UsesOnly}
use Rattle.ap_stage.specs.Courses.{IsCourse}
use Rattle.ap_stage.specs.Rows.{IsLine}
use Rattle.ap_stage.specs.Served.{port_of}
use Rattle.ap_stage.specs.Shown.{IsOnlyCourse, LinesAreShown, PortsAreShown, ShowsUse, course_value}
use Rattle.ap_stage.specs.Sources.{bits_of, line_value}
use Rattle.ap_stage.proofs.Listed.{each_at}
use Rattle.ap_course.specs.Instrs.{IsCourseOf}
use Rattle.ap_course.specs.Lines.{is_portless, line_of, port_use, scope_of, use_of}
use Rattle.ap_course.proofs.Lined.{line_gives, use_gives}
use Rattle.ap_course.proofs.Makers.{good_at, maker_at}
use Rattle.ap_course.proofs.Numbered.{given_there}
use Rattle.ap_course.proofs.Whole.{maker_numbered, portless_or_port}
use Rattle.ap_border.specs.Files.{HasFiles}
use Rattle.ap_border.specs.StageData.{GivesLine, HasInstr, IsMatched, ReadsFile, ReadsMem, WhereMatched}
use Rattle.ap_data.proofs.Operands.{same_by_net}
use Rattle.ap_data.specs.Stage.{IsPortOf, IsStageOf, StagesHaveData, data_value}
use Rattle.ap_data.specs.Units.{AsksInstance, JoinsUnit, UnitsAreAsked}

-- Lists. ----------------------------------------------------------------------------------------------------------------

there_at : {X : Type 0} (xs : List X) (i : ℕ) → i < length xs → (x : X) × (slice_get xs i ≡ Some x)
there_at [] i low = absurd (omega arith)
there_at (x ∷ xs) zero low = (x, refl)
there_at (x ∷ xs) (suc i) low = there_at xs i (omega arith)

same_count : {X Y : Type 0} (f : X → ℕ) (g : Y → ℕ) (xs : List X) (ys : List Y) → map f xs ≡ map g ys → length xs ≡ length ys
same_count f g xs ys e = sym (length-map xs f) ∙ ap length e ∙ length-map ys g

each_kept : {X : Type 0} (P : X → Type 0) (test : X → Bool) (xs : List X) → Each P xs → Each P (filter test xs)
each_kept P test [] h = tt
each_kept {X} P test (x ∷ xs) h = go (test x) (each_kept P test xs h.1)
  where
    go : (b : Bool) → Each P (filter test xs) → Each P (cond b (x ∷ filter test xs) (filter test xs))
    go true rest = (h.0, rest)
    go false rest = rest

words_apart : (bits : ℕ) (instrs : List Instr) → AreApart bits instrs → (i j : ℕ) (one other : Instr) → slice_get instrs i ≡ Some one → slice_get instrs j ≡ Some other → i ≢ j → ShareNoWord bits one other
words_apart bits [] apart i j one other p q ne = absurd cc
words_apart bits (x ∷ instrs) apart zero zero one other p q ne = absurd (ne refl)
words_apart bits (x ∷ instrs) apart zero (suc j) one other p q ne = subst (λ z. ShareNoWord bits z other) (same_Some x one p) (each_at (ShareNoWord bits x) instrs j other apart.0 q)
words_apart bits (x ∷ instrs) apart (suc i) zero one other p q ne =
    λ word lt m n. each_at (ShareNoWord bits x) instrs i one apart.0 p word lt (subst (λ z. Matches z word) (sym (same_Some x other q)) n) m
words_apart bits (x ∷ instrs) apart (suc i) (suc j) one other p q ne = words_apart bits instrs apart.1 i j one other p q (λ e. ne (ap suc e))

-- the maker of a local in the stage
maker_there : (instr : Instr) (stage n : ℕ) (m : Micro) → maker_in instr stage (arg.Local n) ≡ Some m → (slice_get (makers instr) n ≡ Some m) × (m.stage ≡ stage)
maker_there instr stage n m e = go (slice_get (makers instr) n) refl e
  where
    go : (o : Option Micro) → slice_get (makers instr) n ≡ o → option_and_then (λ (x : Micro). if x.stage == stage then Some x else None) o ≡ Some m → (slice_get (makers instr) n ≡ Some m) × (m.stage ≡ stage)
    go None is h = absurd cc
    go (Some x) is h = next (x.stage == stage) refl h
      where
        next : (b : Bool) → (x.stage == stage) ≡ b → (if b then Some x else None) ≡ Some m → (slice_get (makers instr) n ≡ Some m) × (m.stage ≡ stage)
        next true s h = let same : x ≡ m = same_Some x m h in (is ∙ ap (λ (z : Micro). Some z) same, sym (ap (λ (z : Micro). z.stage) same) ∙ eqb-true x.stage stage s)
        next false s h = absurd cc

unit_is : (design : Design) (cards : List Card) (unit op a b : ℕ) (resource : Resource) (card : Card) → slice_get design.units unit ≡ Some resource → slice_get cards resource.kind ≡ Some card → unit_value design cards unit op a b ≡ operation_value card resource.width op a b
unfolding unit_value
unit_is design cards unit op a b resource card at of =
    ap (λ o. option_map_or (λ (u : Resource). option_map_or (λ (x : Card). operation_value x u.width op a b) (slice_get cards u.kind) 0) o 0) at
    ∙ ap (λ o. option_map_or (λ (x : Card). operation_value x resource.width op a b) o 0) of

live_in : (design : Design) (seen stage i : ℕ) (instr : Instr) → instr_of design seen ≡ Some instr → is_live design seen stage i ≡ true → is_live_in design stage i instr ≡ true
unfolding is_live
live_in design seen stage i instr is h = sym (ap (λ o. option_map_or (is_live_in design stage i) o false) is) ∙ h

-- Lines that use a unit. ------------------------------------------------------------------------------------------------

from_filter : {X : Type 0} (p : X → Bool) (xs : List X) (k : ℕ) (x : X) → slice_get (filter p xs) k ≡ Some x → (i : ℕ) × (slice_get xs i ≡ Some x) × (p x ≡ true)
from_filter p [] k x at = absurd cc
from_filter {X} p (y ∷ xs) k x at = go (p y) refl k at (λ j h. from_filter p xs j x h)
  where
    Found : List X → Type 0
    Found ys = (i : ℕ) × (slice_get ys i ≡ Some x) × (p x ≡ true)

    go : (b : Bool) → p y ≡ b → (j : ℕ) → slice_get (cond b (y ∷ filter p xs) (filter p xs)) j ≡ Some x → ((i : ℕ) → slice_get (filter p xs) i ≡ Some x → Found xs) → Found (y ∷ xs)
    go true e zero h rest = (0, h, subst (λ z. p z ≡ true) (same_Some y x h) e)
    go true e (suc j) h rest = let later = rest j h in (suc later.0, later.1, later.2)
    go false e j h rest = let later = rest j h in (suc later.0, later.1, later.2)

to_filter : {X : Type 0} (p : X → Bool) (xs : List X) (i : ℕ) (x : X) → slice_get xs i ≡ Some x → p x ≡ true → (k : ℕ) × (slice_get (filter p xs) k ≡ Some x)
to_filter p [] i x at is = absurd cc
to_filter p (y ∷ xs) zero x at is =
    let passes : p y ≡ true = ap p (same_Some y x at) ∙ is in
    (0, ap (λ b. slice_get (cond b (y ∷ filter p xs) (filter p xs)) 0) passes ∙ at)
to_filter {X} p (y ∷ xs) (suc i) x at is = go (p y) (to_filter p xs i x at is)
  where
    go : (b : Bool) → (k : ℕ) × (slice_get (filter p xs) k ≡ Some x) → (k : ℕ) × (slice_get (cond b (y ∷ filter p xs) (filter p xs)) k ≡ Some x)
    go true later = (suc later.0, later.1)
    go false later = later

-- a line that uses the unit computes on it, and any other asks nothing of it
act_uses : (unit : ℕ) (a : Act) → ((op : ℕ) × (x : Arg) × (y : Arg) × (a ≡ act.Compute unit op x y)) ⊎ ((is_use_of unit a ≡ false) × ((v : Arg → ℕ) → act_ask v unit a ≡ None))
act_uses unit (act.Compute other op x y) = go (other == unit) refl
  where
    go : (b : Bool) → (other == unit) ≡ b → ((op' : ℕ) × (x' : Arg) × (y' : Arg) × (act.Compute other op x y ≡ act.Compute unit op' x' y')) ⊎ ((is_use_of unit (act.Compute other op x y) ≡ false) × ((v : Arg → ℕ) → act_ask v unit (act.Compute other op x y) ≡ None))
    go true e = inl (op, x, y, ap (λ u. act.Compute u op x y) (eqb-true other unit e))
    go false e = inr (e, λ v. ap (λ b. if b then Some (record { sel = op; a = v x; b = v y }) else None) e)
act_uses unit _ = inr (refl, λ v. refl)

-- the first of the lines that uses the unit, whose operation and operands it is asked
record FirstUser (unit : ℕ) (lines : List Micro) : Type 0 where
  place : ℕ
  line : Micro
  op : ℕ
  a : Arg
  b : Arg
  at : slice_get lines place ≡ Some line
  is : line.act ≡ act.Compute unit op a b
  asked : (v : Arg → ℕ) → lines_ask v unit lines ≡ Some (record { sel = op; a = v a; b = v b })

first_user : (unit : ℕ) (lines : List Micro) → list_any (λ (m : Micro). is_use_of unit m.act) lines ≡ true → FirstUser unit lines
first_user unit [] h = absurd cc
first_user unit (m ∷ lines) h = go (act_uses unit m.act) (λ later. first_user unit lines later)
  where
    go : ((op : ℕ) × (x : Arg) × (y : Arg) × (m.act ≡ act.Compute unit op x y)) ⊎ ((is_use_of unit m.act ≡ false) × ((v : Arg → ℕ) → act_ask v unit m.act ≡ None)) → (list_any (λ (z : Micro). is_use_of unit z.act) lines ≡ true → FirstUser unit lines) → FirstUser unit (m ∷ lines)
    go (inl (op, x, y, is)) later = record {
      place = 0;
      line = m;
      op = op;
      a = x;
      b = y;
      at = refl;
      is = is;
      asked = λ v.
          let one : act_ask v unit m.act ≡ Some (record { sel = op; a = v x; b = v y }) = ap (act_ask v unit) is ∙ ap (λ b. if b then Some (record { sel = op; a = v x; b = v y }) else None) (eq-eqb unit unit refl) in
          ap (λ o. slice_get (cons_option o (filter_map (λ (z : Micro). act_ask v unit z.act) lines)) 0) one;
    }
    go (inr (other, none)) later =
        let rest = later (sym (ap (λ b. b || list_any (λ (z : Micro). is_use_of unit z.act) lines) other) ∙ h) in
        record {
          place = suc rest.place;
          line = rest.line;
          op = rest.op;
          a = rest.a;
          b = rest.b;
          at = rest.at;
          is = rest.is;
          asked = λ v. ap (λ o. slice_get (cons_option o (filter_map (λ (z : Micro). act_ask v unit z.act) lines)) 0) (none v) ∙ rest.asked v;
        }

both_true : (a b : Bool) → (a && b) ≡ true → (a ≡ true) × (b ≡ true)
both_true true b e = (refl, e)
both_true false b e = absurd cc

asks_both : (design : Design) (stage seen unit : ℕ) (instr : Instr) → instr_of design seen ≡ Some instr → asks design stage seen unit ≡ true → (nat_lt 1 (latency_of design unit) ≡ true) × (list_any (λ (m : Micro). is_use_of unit m.act) (lines_in stage instr) ≡ true)
unfolding asks
asks_both design stage seen unit instr is asked =
    let uses = λ (o : Option Instr). option_map_or (λ (i : Instr). list_any (λ (m : Micro). is_use_of unit m.act) (lines_in stage i)) o false in
    let parts = both_true (nat_lt 1 (latency_of design unit)) (uses (instr_of design seen)) asked in
    (parts.0, sym (ap uses is) ∙ parts.1)

module _ (apart_words : (design : Design) → IsClean design → AreApart design.word design.instrs) (ports : PortsAreShown) (shown : LinesAreShown) where
  module _ (design : Design) (cards : List Card) (d : Draft) (modules : List ModuleText) (files : HasFiles design d modules) (units : List ModuleText) (home : ℕ → Instr → ℕ → ℕ) (stage : ℕ) (base : Ground) (courses : List Course) (nodes : List Node)
      (fits : FitsCards design cards) (s : IsStageOf design cards d modules files units home stage base courses nodes) (k : ℕ) (instr : Instr) (c : Course) (at : slice_get design.instrs k ≡ Some instr) (there : slice_get courses k ≡ Some c) where
    abbrev Matched : Reading → Type 0
    Matched r = IsMatched d modules base.word instr r

    abbrev value : Reading → Arg → ℕ
    value r a = data_value design r base c a

    -- the values by nets
    abbrev by_net : Reading → Arg → ℕ
    by_net r a = course_value r base c a

    -- an operand of a line of the stage has its value by a net
    same : (i j : ℕ) (m : Micro) (a : Arg) → slice_get instr.micros i ≡ Some m → m.stage ≡ stage → slice_get (operands_of m.act) j ≡ Some a → (r : Reading) → Matched r → by_net r a ≡ value r a
    same i j m a line here operand r matched = same_by_net design d stage k base c a s.link (record { instr = instr; at = at; place = i; line = m; there = line; in_stage = here; number = j; operand = operand }) r matched.settled

    of : IsCourseOf design stage instr c
    of = s.of k instr c at there

    -- the one instruction that the word matches
    only : (r : Reading) → Matched r → IsOnlyCourse r courses k
    only r m = record {
      on = λ x x_at.
          let same : c ≡ x = same_Some c x (sym there ∙ x_at) in
          subst (λ (z : Course). r.read z.cond.number ≡ 1) same (eqb-true (r.read c.cond.number) 1 ((s.conds k instr c at there).holds r m.settled ∙ m.matches));
      alone = λ other x x_at lit. ⊎_elim (λ (e : other ≡ k). e) (λ (ne : other ≢ k). absurd (none other x x_at lit ne)) (cases_eq other k);
    }
      where
        none : (other : ℕ) (x : Course) → slice_get courses other ≡ Some x → r.read x.cond.number ≡ 1 → other ≢ k → ⊥
        none other x x_at lit ne =
            let inside = slice_get_within courses other x x_at in
            let long = s.long in
            let found = there_at design.instrs other (omega (arith, inside, long)) in
            let word : r.read base.word.number < 2 ^ design.word = subst (λ w. r.read base.word.number < 2 ^ w) (s.nets).word ((m.settled).own.fits base.word.number base.word.width (s.word).declared) in
            let match : is_match (r.read base.word.number) found.0 ≡ true = sym ((s.conds other found.0 x found.1 x_at).holds r m.settled) ∙ eq-eqb (r.read x.cond.number) 1 lit in
            words_apart design.word design.instrs (apart_words design fits.clean) other k found.0 instr found.1 at ne (r.read base.word.number) word (eqb-true _ _ match) (eqb-true _ _ m.matches)

    -- what the port of a line shows
    use_shown : (place : ℕ) (u : PortUse) (x : DesignNode) → slice_get c.uses place ≡ Some u → number_of_node x ≡ u.port → IsNumberedNode x → (at_place : ℕ) × (n : Node) × (slice_get nodes at_place ≡ Some n) × (port_of n ≡ u.port) × IsPortOf design cards d modules files units x n × ((r : Reading) → Matched r → ShowsUse r base units c u n)
    use_shown place u x u_at number numbered =
        let before = each_at (λ (z : PortUse). IsBefore nodes (length nodes) z.port) c.uses place u (each_at (UsesOnly nodes) courses k c s.only there) u_at in
        let n = before.1 in (
          before.0,
          n,
          before.3,
          before.4,
          s.ports before.0 x n before.3 (number ∙ sym before.4) numbered,
          λ r m. ports d base units courses n r s.whole (each_at (IsServedNode d base units courses) nodes before.0 n s.served before.3) m.settled k c there (only r m) place u u_at (sym before.4),
        )

    module _ (n : ℕ) (m : Micro) (maker : slice_get (makers instr) n ≡ Some m) (here : m.stage ≡ stage) (a : Act) (is : m.act ≡ a) where
      zero_is : 0 + n ≡ n
      zero_is = omega arith

      line_there : is_portless a ≡ true → (place : ℕ) × (slice_get c.lines place ≡ Some (record { act = a; local = n }))
      line_there portless =
          let gives : line_of stage (0 + n) m ≡ Some (record { act = a; local = n }) = line_gives stage (0 + n) m here (ap is_portless is ∙ portless) ∙ (λ i. Some (record { act = is i; local = zero_is i })) in
          let found = given_there (line_of stage) 0 (makers instr) n m (record { act = a; local = n }) maker gives in
          (found.0, ap (λ ls. slice_get ls found.0) of.lines ∙ found.1)

      same_there : (j : ℕ) (o : Arg) → slice_get (operands_of a) j ≡ Some o → (r : Reading) → Matched r → by_net r o ≡ value r o
      same_there j o operand =
          let line = from_filter (λ (x : Micro). assigned_count x.act == 1) instr.micros n m maker in
          same line.0 j m o line.1 here (ap (λ x. slice_get (operands_of x) j) is ∙ operand)

      line_shown : is_portless a ≡ true → (r : Reading) → Matched r → line_value r base c.scope c.row.items a ≡ Some (value r (arg.Local n))
      line_shown portless r matched =
          let line = line_there portless in
          shown d base c r (each_at (IsCourse d base) courses k c s.are there) (each_at IsFull courses k c s.full there) matched.settled line.0 (record { act = a; local = n }) line.1

      line_is : is_portless a ≡ true → IsLine base c.scope (record { act = a; local = n })
      line_is portless = let line = line_there portless in each_at (IsLine base c.scope) c.lines line.0 (record { act = a; local = n }) (each_at (IsCourse d base) courses k c s.are there).lines.each line.1

      use_there : (u : PortUse) → port_use n a ≡ Some u → (place : ℕ) × (slice_get c.uses place ≡ Some u)
      use_there u uses =
          let gives : use_of stage (0 + n) m ≡ Some u = use_gives stage (0 + n) m u here ((λ i. port_use (zero_is i) (is i)) ∙ uses) in
          let found = given_there (use_of stage) 0 (makers instr) n m u maker gives in
          (found.0, ap (λ us. slice_get us found.0) of.uses ∙ found.1)

      operation_there : HasOperation cards design a
      operation_there = subst (HasOperation cards design) is
          (each_at (λ (x : Micro). HasOperation cards design x.act) (makers instr) n m (each_kept (λ (x : Micro). HasOperation cards design x.act) _ instr.micros
          (each_at (λ (i : Instr). Each (λ (x : Micro). HasOperation cards design x.act) i.micros) design.instrs k instr fits.of_cards.operations at)) maker)

    -- a line that makes a local makes one
    no_maker : (n : ℕ) (m : Micro) → slice_get (makers instr) n ≡ Some m → (a : Act) → m.act ≡ a → is_portless a ≡ false → port_use n a ≡ None → ⊥
    no_maker n m maker a is portless port =
        ⊎_elim (λ p. absurd (false≢true (sym portless ∙ ap is_portless (sym is) ∙ p))) (λ (h : (u : PortUse) × (port_use n m.act ≡ Some u) × (u.local ≡ n)). let both : None ≡ Some h.0 = sym port ∙ ap (port_use n) (sym is) ∙ h.1 in absurd cc)
        (portless_or_port n m.act (maker_at design instr (good_at design cards k instr fits at) n m maker).split.assigns)

    bits_are : (a : Arg) → bits_of base c.scope a ≡ arg_width design instr.locals (fields_of design instr) a
    bits_are a = ap (λ (z : Scope). bits_of base z a) of.scope ∙ go a
      where
        go : (x : Arg) → bits_of base (scope_of design instr) x ≡ arg_width design instr.locals (fields_of design instr) x
        go (arg.Local i) = refl
        go (arg.Field i) = refl
        go arg.Pc = (s.nets).place
        go arg.Link = (s.nets).link

    -- Ports.

    quick : (n unit op : ℕ) (a b : Arg) (x : Node) → ((r : Reading) → Matched r → by_net r a ≡ value r a) → ((r : Reading) → Matched r → by_net r b ≡ value r b) → HasOperation cards design (act.Compute unit op a b) → IsPortOf design cards d modules files units (design_node.Unit unit) x
        → ((r : Reading) → Matched r → ShowsUse r base units c (record { port = unit; asked = asked.Operate (record { op = op; a = a; b = b }); local = n }) x) → is_quick design (act.Compute unit op a b) ≡ true
        → WhereMatched d modules base.word instr (λ r. value r (arg.Local n) ≡ unit_value design cards unit op (value r a) (value r b))
    quick n unit op a b (node.Quick q) first_is second_is has p shows fast r m =
        let first = subst (λ o. IsSomeAnd o (λ (u : Resource). IsSomeAnd (slice_get cards u.kind) (λ (x : Card). op < length x.ops))) p.at has in
        let few : op < length (p.card).ops = subst (λ o. IsSomeAnd o (λ (x : Card). op < length x.ops)) p.of_card first in
        shows r m p.m p.whole p.card p.is_module (ap (λ l. module_named l (p.m).name) m.over ∙ p.found) p.computes few
        ∙ (λ i. operation_value p.card (p.width i) op (first_is r m i) (second_is r m i)) ∙ sym (unit_is design cards unit op (value r a) (value r b) p.resource p.card p.at p.of_card)
    quick n unit op a b (node.Slow x) first_is second_is has slow shows fast r m = absurd (false≢true (sym (ap not slow) ∙ fast))
    quick n unit op a b (node.Read x) first_is second_is has p shows fast r m = absurd p

    file_read : (n file number : ℕ) (index : Arg) (x : Node) → ((r : Reading) → Matched r → by_net r index ≡ value r index) → IsPortOf design cards d modules files units (design_node.FileRead file number) x
        → ((r : Reading) → Matched r → ShowsUse r base units c (record { port = 32 + 4 * file + number; asked = asked.Read index; local = n }) x)
        → ReadsFile design d modules files base.word instr file number (λ r. value r index) (λ r. value r (arg.Local n))
    file_read n file number index (node.Quick q) index_is p shows = absurd p
    file_read n file number index (node.Slow q) index_is p shows = absurd p
    file_read n file number index (node.Read x) index_is p shows =
        let h = files.each file p.of p.at in
        let joined : (r : Reading) → Matched r → (j : ℕ) (w : Wire) → slice_get (h.of).nets j ≡ Some w → r.parts h.k j ≡ r.read w.number =
        λ r m j w there. ((m.settled).each h.k h.of h.whole h.placed (ap (λ (l : List ModuleText). module_named l (h.of).module) m.over ∙ h.found)).joined j w there in
        record {
          of = p.of;
          at = p.at;
          within = p.within;
          asks = λ r m. joined r m (read_index number) x.index p.index ∙ (shows r m).index ∙ index_is r m;
          reads = λ r m. (shows r m).result ∙ sym (joined r m (read_value number) x.value p.value);
        }

    mem_read : (n mem : ℕ) (index : Arg) (x : Node) → ((r : Reading) → Matched r → by_net r index ≡ value r index) → IsPortOf design cards d modules files units (design_node.MemRead mem) x
        → ((r : Reading) → Matched r → ShowsUse r base units c (record { port = 64 + mem; asked = asked.Read index; local = n }) x)
        → ReadsMem design d modules base.word instr mem (λ r. value r index) (λ r. value r (arg.Local n))
    mem_read n mem index (node.Quick q) index_is p shows = absurd p
    mem_read n mem index (node.Slow q) index_is p shows = absurd p
    mem_read n mem index (node.Read x) index_is p shows = record {
      of = p.of;
      at = p.at;
      asked = x.index;
      asked_named = p.index;
      asks = λ r m. (shows r m).index ∙ index_is r m;
      net = x.value;
      named = p.value;
      reads = λ r m. (shows r m).result;
    }

    -- Lines.

    gives : (n : ℕ) (m : Micro) → slice_get (makers instr) n ≡ Some m → m.stage ≡ stage → (a : Act) → m.act ≡ a → GivesLine design cards d modules files base.word instr value n a
    gives n m maker here (act.Compute unit op a b) is = λ fast.
        let used = use_there n m maker here (act.Compute unit op a b) is (record { port = unit; asked = asked.Operate (record { op = op; a = a; b = b }); local = n }) refl in
        let shows = use_shown used.0 (record { port = unit; asked = asked.Operate (record { op = op; a = a; b = b }); local = n }) (design_node.Unit unit) used.1 refl (subst IsNumbered is (maker_numbered design cards k instr fits at n m maker)) in
        quick n unit op a b shows.1 (same_there n m maker here (act.Compute unit op a b) is 0 a refl) (same_there n m maker here (act.Compute unit op a b) is 1 b refl) (operation_there n m maker here (act.Compute unit op a b) is) shows.4 shows.5 fast
    gives n m maker here (act.ReadFile file number index) is =
        let used = use_there n m maker here (act.ReadFile file number index) is (record { port = 32 + 4 * file + number; asked = asked.Read index; local = n }) refl in
        let shows = use_shown used.0 (record { port = 32 + 4 * file + number; asked = asked.Read index; local = n }) (design_node.FileRead file number) used.1 refl (subst IsNumbered is (maker_numbered design cards k instr fits at n m maker)) in
        file_read n file number index shows.1 (same_there n m maker here (act.ReadFile file number index) is 0 index refl) shows.4 shows.5
    gives n m maker here (act.ReadMem mem index) is =
        let used = use_there n m maker here (act.ReadMem mem index) is (record { port = 64 + mem; asked = asked.Read index; local = n }) refl in
        let shows = use_shown used.0 (record { port = 64 + mem; asked = asked.Read index; local = n }) (design_node.MemRead mem) used.1 refl (subst IsNumbered is (maker_numbered design cards k instr fits at n m maker)) in
        mem_read n mem index shows.1 (same_there n m maker here (act.ReadMem mem index) is 0 index refl) shows.4 shows.5
    gives n m maker here (act.ReadReg reg) is =
        let inside : reg < length base.regs = (line_is n m maker here (act.ReadReg reg) is refl).names in
        let same = same_count (λ (w : Wire). w.width) (λ (r : Reg). r.width) base.regs design.regs (s.nets).regs in
        let w = there_at base.regs reg inside in
        let r = there_at design.regs reg (omega (arith, inside, same)) in
        let named = s.regs reg r.0 w.0 r.1 w.1 in
        record {
          of = r.0;
          at = r.1;
          register = w.0;
          from = named.0;
          named = named.1;
          reads = λ x matched. sym (same_Some (x.read (w.0).number) (value x (arg.Local n)) (sym (ap (option_map (λ (z : Wire). x.read z.number)) w.1) ∙ line_shown n m maker here (act.ReadReg reg) is refl x matched));
        }
    gives n m maker here (act.ReadIn input) is =
        let inside : input < length base.inputs = (line_is n m maker here (act.ReadIn input) is refl).names in
        let same = same_count (λ (w : Wire). w.width) (λ (p : Input). p.width) base.inputs design.inputs (s.nets).inputs in
        let w = there_at base.inputs input inside in
        let p = there_at design.inputs input (omega (arith, inside, same)) in
        record {
          of = p.0;
          at = p.1;
          net = w.0;
          named = s.inputs input p.0 w.0 p.1 w.1;
          reads = λ x matched. sym (same_Some (x.read (w.0).number) (value x (arg.Local n)) (sym (ap (option_map (λ (z : Wire). x.read z.number)) w.1) ∙ line_shown n m maker here (act.ReadIn input) is refl x matched));
        }
    gives n m maker here (act.Const width number) is = λ r matched. sym (same_Some number (value r (arg.Local n)) (line_shown n m maker here (act.Const width number) is refl r matched))
    gives n m maker here (act.Zext width a) is = λ r matched. sym (same_Some (by_net r a) (value r (arg.Local n)) (line_shown n m maker here (act.Zext width a) is refl r matched)) ∙ same_there n m maker here (act.Zext width a) is 0 a refl r matched
    gives n m maker here (act.Sext width a) is = λ r matched.
        let operand = same_there n m maker here (act.Sext width a) is 0 a refl r matched in
        sym (same_Some (sign_extended (by_net r a) (bits_of base c.scope a) width) (value r (arg.Local n)) (line_shown n m maker here (act.Sext width a) is refl r matched)) ∙ (λ i. sign_extended (operand i) (bits_are a i) width)
    gives n m maker here (act.Slice high low a) is = λ r matched.
        sym (same_Some ((by_net r a / 2 ^ low) % 2 ^ (high - low + 1)) (value r (arg.Local n)) (line_shown n m maker here (act.Slice high low a) is refl r matched))
        ∙ ap (λ x. (x / 2 ^ low) % 2 ^ (high - low + 1)) (same_there n m maker here (act.Slice high low a) is 0 a refl r matched)
    gives n m maker here (act.Cat a b) is = λ r matched.
        let first = same_there n m maker here (act.Cat a b) is 0 a refl r matched in
        let second = same_there n m maker here (act.Cat a b) is 1 b refl r matched in
        sym (same_Some (by_net r a * 2 ^ bits_of base c.scope b + by_net r b) (value r (arg.Local n)) (line_shown n m maker here (act.Cat a b) is refl r matched)) ∙ (λ i. first i * 2 ^ bits_are b i + second i)
    gives n m maker here (act.WriteFile file number index v guard) is = absurd (no_maker n m maker (act.WriteFile file number index v guard) is refl refl)
    gives n m maker here (act.WriteReg reg v guard) is = absurd (no_maker n m maker (act.WriteReg reg v guard) is refl refl)
    gives n m maker here (act.WriteMem mem index v guard) is = absurd (no_maker n m maker (act.WriteMem mem index v guard) is refl refl)
    gives n m maker here (act.Branch test target) is = absurd (no_maker n m maker (act.Branch test target) is refl refl)
    gives n m maker here (act.Jump target) is = absurd (no_maker n m maker (act.Jump target) is refl refl)

    instr_has : HasInstr design cards d modules files home stage base.word base.place instr
    instr_has = record {
      value = value;
      field = λ i r m. ap (λ (z : Scope). option_map_or (λ (f : Field). field_value f (r.read base.word.number)) (slice_get z.fields i) 0) of.scope;
      pc = λ r m. refl;
      link = λ r m. refl;
      old = λ seen i is live.
          let slot = s.slots k i instr c at there (live_in design seen stage i instr is live) in
          record { slot = slot.slot; from = slot.from; named = slot.named; reads = λ r m. slot.reads.holds r m.settled };
      new = λ n m is. let maker = maker_there instr stage n m is in gives n m maker.0 maker.1 m.act refl;
    }

    -- Units of several cycles.

    module _ (unit part : ℕ) (resource : Resource) (card : Card) (resource_at : slice_get design.units unit ≡ Some resource) (card_at : slice_get cards resource.kind ≡ Some card)
        (joins : (place : ℕ) (x : SlowUnit) → slice_get nodes place ≡ Some (node.Slow x) → x.port ≡ unit → JoinsUnit d modules part x) (slow : nat_lt 1 (latency_of design unit) ≡ true) where
      abbrev Asks : Reading → ℕ → ℕ → Arg → Arg → Type 0
      Asks r n op a b = (value r (arg.Local n) ≡ r.parts part 6) × (r.parts part 0 ≡ op) × (r.parts part 1 ≡ value r a) × (r.parts part 2 ≡ value r b)

      unit_asked : (n op : ℕ) (a b : Arg) (place : ℕ) (x : Node) → slice_get nodes place ≡ Some x → port_of x ≡ unit → IsPortOf design cards d modules files units (design_node.Unit unit) x
          → ((r : Reading) → Matched r → by_net r a ≡ value r a) → ((r : Reading) → Matched r → by_net r b ≡ value r b) → ((r : Reading) → Matched r → ShowsUse r base units c (record { port = unit; asked = asked.Operate (record { op = op; a = a; b = b }); local = n }) x) → (r : Reading) → Matched r → Asks r n op a b
      unit_asked n op a b place (node.Quick q) x_at number p first_is second_is shows r m = absurd (false≢true (sym p.fast ∙ slow))
      unit_asked n op a b place (node.Read x) x_at number p first_is second_is shows r m = absurd p
      unit_asked n op a b place (node.Slow x) x_at number p first_is second_is shows r m =
          let j = joins place x x_at number in
          let joined : (i : ℕ) (w : Wire) → slice_get (j.of).nets i ≡ Some w → r.parts part i ≡ r.read w.number =
          λ i w there. ((m.settled).each part j.of j.whole j.placed (ap (λ (l : List ModuleText). module_named l (j.of).module) m.over ∙ j.found)).joined i w there in
          ((shows r m).result ∙ sym (joined 6 x.y j.y), joined 0 x.sel j.sel ∙ (shows r m).sel, joined 1 x.a j.a ∙ (shows r m).a ∙ first_is r m, joined 2 x.b j.b ∙ (shows r m).b ∙ second_is r m)

      line_asked : (n op : ℕ) (a b : Arg) (m : Micro) → slice_get (makers instr) n ≡ Some m → m.stage ≡ stage → m.act ≡ act.Compute unit op a b → (r : Reading) → Matched r → Asks r n op a b
      line_asked n op a b m maker here is =
          let used = use_there n m maker here (act.Compute unit op a b) is (record { port = unit; asked = asked.Operate (record { op = op; a = a; b = b }); local = n }) refl in
          let shows = use_shown used.0 (record { port = unit; asked = asked.Operate (record { op = op; a = a; b = b }); local = n }) (design_node.Unit unit) used.1 refl (subst IsNumbered is (maker_numbered design cards k instr fits at n m maker)) in
          unit_asked n op a b shows.0 shows.1 shows.2 shows.3 shows.4 (same_there n m maker here (act.Compute unit op a b) is 0 a refl) (same_there n m maker here (act.Compute unit op a b) is 1 b refl) shows.5

      op_few : (n op : ℕ) (a b : Arg) (m : Micro) → slice_get (makers instr) n ≡ Some m → m.stage ≡ stage → m.act ≡ act.Compute unit op a b → op < length card.ops
      op_few n op a b m maker here is =
          let first = subst (λ o. IsSomeAnd o (λ (u : Resource). IsSomeAnd (slice_get cards u.kind) (λ (x : Card). op < length x.ops))) resource_at (operation_there n m maker here (act.Compute unit op a b) is) in
          subst (λ o. IsSomeAnd o (λ (x : Card). op < length x.ops)) card_at first

      instance_asked : list_any (λ (m : Micro). is_use_of unit m.act) (lines_in stage instr) ≡ true → AsksInstance d modules base.word instr value stage unit part card
      instance_asked uses =
          let f = first_user unit (lines_in stage instr) uses in
          let line = from_filter (λ (m : Micro). m.stage == stage) instr.micros f.place f.line f.at in
          let here = eqb-true (f.line).stage stage line.2 in
          let maker = to_filter (λ (m : Micro). assigned_count m.act == 1) instr.micros line.0 f.line line.1 (ap (λ (x : Act). assigned_count x == 1) f.is) in
          let asks_it = line_asked maker.0 f.op f.a f.b f.line maker.1 here f.is in
          record {
            chosen = λ r m. subst (λ z. z < length card.ops) (sym (asks_it r m).1) (op_few maker.0 f.op f.a f.b f.line maker.1 here f.is);
            asked = λ r m. let q = asks_it r m in f.asked (value r) ∙ (λ i. Some (record { sel = sym q.1 i; a = sym q.2 i; b = sym q.3 i }));
            result = λ n op a b m is by. let there = maker_there instr stage n m is in line_asked n op a b m there.0 there.1 by;
          }

  stages_hold : StagesHaveData
  unfolding instr_has
  stages_hold design cards d modules files units home stage base courses nodes fits s k instr c at there = (instr_has design cards d modules files units home stage base courses nodes fits s k instr c at there, refl)

  units_ask : UnitsAreAsked
  units_ask design cards d modules files units home stage base courses nodes fits s k instr c at there unit part resource card resource_at card_at joins seen is asked =
      let both = asks_both design stage seen unit instr is asked in
      instance_asked design cards d modules files units home stage base courses nodes fits s k instr c at there unit part resource card resource_at card_at joins both.0 both.1

pub units_are_asked : ((design : Design) → IsClean design → AreApart design.word design.instrs) → PortsAreShown → LinesAreShown → UnitsAreAsked
units_are_asked apart_words ports shown = units_ask apart_words ports shown

pub stages_have_data : ((design : Design) → IsClean design → AreApart design.word design.instrs) → PortsAreShown → LinesAreShown → StagesHaveData
stages_have_data apart_words ports shown = stages_hold apart_words ports shown
