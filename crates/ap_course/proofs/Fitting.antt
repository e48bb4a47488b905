-- The instructions that use a node of a stage fit it.
use Rattle.std.proofs.Common.{◌≡◌, ℕ, ◌+◌, ◌<◌, ◌==◌, true, IsTrue, IsSomeAnd, List, length, Some, sym, ap, subst, ◌∙◌, arith, eqb-true, lt_of_lt_of_le}
use Rattle.std.specs.Prelude.{slice_get}
use Rattle.std.specs.List.{AllByRecursion as Each}
use Rattle.std.specs.Option.{option_map_or}
use Rattle.std.proofs.lemmas.Option.{same_Some}
use Rattle.ap_bits.specs.declared.card.Card.{Card}
use Rattle.ap_desc.proofs.DesignLaws.{index_has_bits}
use Rattle.ap_desc.specs.Chains.{IsNodeOf, node_of}
use Rattle.ap_desc.specs.Clean.{FitsCards}
use Rattle.ap_desc.specs.Designs.{arg_width, fields_of, index_bits, local_width, width_at}
use Rattle.ap_desc.specs.Shelf.{HasOperation}
use Rattle.ap_desc.specs.Widths.{file_width, has_widths, is_index, mem_address, mem_width, unit_width}
use Rattle.ap_desc.specs.declared.design.Act.{Act}
use Rattle.ap_desc.specs.declared.design.Act.TheVariants as act
use Rattle.ap_desc.specs.declared.design.Arg.{Arg}
use Rattle.ap_desc.specs.declared.design.Design.{Design}
use Rattle.ap_desc.specs.declared.design.File.{File}
use Rattle.ap_desc.specs.declared.design.Instr.{Instr}
use Rattle.ap_desc.specs.declared.design.Mem.{Mem}
use Rattle.ap_desc.specs.declared.design.Micro.{Micro}
use Rattle.ap_desc.specs.declared.design.Node.{Node}
use Rattle.ap_desc.specs.declared.design.Node.TheVariants as node
use Rattle.ap_desc.specs.declared.design.Unit.{Unit as Resource}
use Rattle.ap_model.proofs.PlainWidths.{compute_widths, faultless, not_false}
use Rattle.ap_ports.proofs.Added.{node_from, one_node}
use Rattle.ap_ports.proofs.Members.{each_get, each_of, place_of}
use Rattle.ap_ports.specs.Numbers.{number_of_node}
use Rattle.ap_stage.specs.declared.node.Course.{Course}
use Rattle.ap_stage.specs.declared.node.PortUse.{PortUse}
use Rattle.ap_stage.specs.declared.source.Ground.{Ground}
use Rattle.ap_stage.specs.declared.source.Scope.{Scope}
use Rattle.ap_stage.specs.declared.user.Asked.TheVariants as asked
use Rattle.ap_stage.specs.declared.user.Handed.TheVariants as given
use Rattle.ap_stage.specs.declared.user.Part.TheVariants as part
use Rattle.ap_stage.specs.Courses.{FitsRead, FitsUnit, users_of}
use Rattle.ap_stage.specs.Sources.{bits_of}
use Rattle.ap_stage.specs.Users.{handed_in}
use Rattle.ap_course.specs.Choices.{UsersFitFiles, UsersFitMems, UsersFitUnits}
use Rattle.ap_course.specs.Instrs.{AreCoursesOf, IsGroundOf}
use Rattle.ap_course.specs.Lines.{asks_of, scope_of}
use Rattle.ap_course.proofs.Choosing.{low}
use Rattle.ap_course.proofs.Fits.{bits_are}
use Rattle.ap_course.proofs.Lined.{use_from, use_is}
use Rattle.ap_course.proofs.Makers.{good_at, line_there, maker_at}
use Rattle.ap_course.proofs.Ordered.{user_is}
use Rattle.ap_course.proofs.Whole.{maker_numbered}

-- the line behind a user of a node, in its instruction
pub record IsUsing (design : Design) (cards : List Card) (x : Node) (user : Course × PortUse) : Type 0 where
  pub instr : Instr
  pub scope : user.0.scope ≡ scope_of design instr
  pub m : Micro
  pub node : node_of m.act ≡ Some x
  pub asks : asks_of m.act ≡ Some user.1.asked
  pub typed : IsTrue (has_widths design (arg_width design instr.locals (fields_of design instr)) m.act)
  pub operation : HasOperation cards design m.act
  pub width : ℕ
  pub gives : local_width design instr.locals (fields_of design instr) m.act ≡ Some width
  pub has : slice_get instr.locals user.1.local ≡ Some width

module _ (design : Design) (cards : List Card) (stage : ℕ) (ground : Ground) (courses : List Course) (x : Node) (fits : FitsCards design cards) (of_ground : IsGroundOf design ground) (are : AreCoursesOf design stage courses) (is_node : IsNodeOf design stage x) where
  using : (i : ℕ) (user : Course × PortUse) → slice_get (users_of (number_of_node x) courses) i ≡ Some user → IsUsing design cards x user
  using i user at =
      let is = user_is courses (number_of_node x) i user at in
      let (instr, has, of) = are is.place user.0 is.at in
      let from = use_from stage instr is.line user.1 (ap (λ us. slice_get us is.line) (sym of.uses) ∙ is.there) in
      let line = use_is stage (0 + from.place) from.item user.1 from.gives in
      let own = node_from from.item.act user.1.port (maker_numbered design cards is.place instr fits has from.place from.item from.at) line.port in
      let same : own.item ≡ x = one_node own.item x own.low (low design cards stage is.place instr user.0 x fits has of is_node) (own.number ∙ is.port_is) in
      let good = good_at design cards is.place instr fits has in
      let maker = maker_at design instr good from.place from.item from.at in
      let (spot, there) = place_of instr.micros from.item (line_there design instr good from.place from.item from.at) in
      let number : user.1.local ≡ from.place = let n = line.number in omega (arith, n) in
      record {
        instr = instr;
        scope = of.scope;
        m = from.item;
        node = own.uses ∙ ap Some same;
        asks = line.asks;
        typed = maker.typed;
        operation = each_get (λ (m : Micro). HasOperation cards design m.act) instr.micros spot from.item (each_get (λ (i : Instr). Each (λ (m : Micro). HasOperation cards design m.act) i.micros) design.instrs is.place instr fits.of_cards.operations has) there;
        width = maker.width;
        gives = maker.gives;
        has = ap (slice_get instr.locals) number ∙ maker.has;
      }

  -- an operand has the bits that the line gives it
  bits_there : (user : Course × PortUse) (h : IsUsing design cards x user) (a : Arg) (w : ℕ) → arg_width design h.instr.locals (fields_of design h.instr) a ≡ w → bits_of ground user.0.scope a ≡ w
  bits_there user h a w e = ap (λ (s : Scope). bits_of ground s a) h.scope ∙ bits_are design h.instr ground of_ground a ∙ e

  result_there : (user : Course × PortUse) (h : IsUsing design cards x user) (w : ℕ) → h.width ≡ w → width_at (λ (n : ℕ). n) user.0.scope.widths user.1.local ≡ w
  result_there user h w e = ap (λ (s : Scope). width_at (λ (n : ℕ). n) s.widths user.1.local) h.scope ∙ ap (λ o. option_map_or (λ (n : ℕ). n) o 0) h.has ∙ e

-- what a line that uses a unit is, and one that reads
record IsCompute (v : ℕ) (a : Act) : Type 0 where
  op : ℕ
  first : Arg
  second : Arg
  is : a ≡ act.Compute v op first second

compute_is : (v : ℕ) (a : Act) → node_of a ≡ Some (node.Unit v) → IsCompute v a
compute_is v (act.Compute u op a b) e = let same : u ≡ v = cc in record { op = op; first = a; second = b; is = ap (λ n. act.Compute n op a b) same }
compute_is v (act.ReadFile file number index) e = absurd cc
compute_is v (act.ReadMem mem at) e = absurd cc
compute_is v _ e = absurd cc

record IsFileRead (f q : ℕ) (a : Act) : Type 0 where
  index : Arg
  is : a ≡ act.ReadFile f q index

file_is : (f q : ℕ) (a : Act) → node_of a ≡ Some (node.FileRead f q) → IsFileRead f q a
file_is f q (act.Compute u op a b) e = absurd cc
file_is f q (act.ReadFile file number index) e = let same : file ≡ f = cc in let other : number ≡ q = cc in record { index = index; is = λ i. act.ReadFile (same i) (other i) index }
file_is f q (act.ReadMem mem at) e = absurd cc
file_is f q _ e = absurd cc

record IsMemRead (r : ℕ) (a : Act) : Type 0 where
  address : Arg
  is : a ≡ act.ReadMem r address

mem_is : (r : ℕ) (a : Act) → node_of a ≡ Some (node.MemRead r) → IsMemRead r a
mem_is r (act.Compute u op a b) e = absurd cc
mem_is r (act.ReadFile file number index) e = absurd cc
mem_is r (act.ReadMem mem at) e = let same : mem ≡ r = cc in record { address = at; is = ap (λ n. act.ReadMem n at) same }
mem_is r _ e = absurd cc

pub fit_units : UsersFitUnits
fit_units design cards stage v s u card ground courses fits of_ground are is_node at kind some most room = each_of (FitsUnit ground s u.width) (users_of v courses) (λ i user there.
    let h = using design cards stage ground courses (node.Unit v) fits of_ground are is_node i user there in
    let line = compute_is v h.m.act h.node in
    let asks : asked.Operate (record { op = line.op; a = line.first; b = line.second }) ≡ user.1.asked = same_Some _ user.1.asked (ap asks_of (sym line.is) ∙ h.asks) in
    let widths = compute_widths design (arg_width design h.instr.locals (fields_of design h.instr)) v line.op line.first line.second (subst (λ a. IsTrue (has_widths design (arg_width design h.instr.locals (fields_of design h.instr)) a)) line.is h.typed) in
    let wide : unit_width design v ≡ u.width = ap (λ o. option_map_or (λ (x : Resource). x.width) o 0) at in
    let own : h.width ≡ u.width = same_Some h.width u.width (sym h.gives ∙ ap (local_width design h.instr.locals (fields_of design h.instr)) line.is ∙ ap Some wide) in
    let named : IsSomeAnd (Some card) (λ card. line.op < length card.ops) =
    subst (λ o. IsSomeAnd o (λ card. line.op < length card.ops)) kind (subst (λ o. IsSomeAnd o (λ (u : Resource). IsSomeAnd (slice_get cards u.kind) (λ card. line.op < length card.ops))) at (subst (HasOperation cards design) line.is h.operation)) in
    record {
      op = record { given = given.Number line.op; is = ap (λ k. handed_in k part.Operation) (sym asks); fits = (some, most, lt_of_lt_of_le named room) };
      first = record { given = given.Operand line.first; is = ap (λ k. handed_in k part.First) (sym asks); fits = bits_there design cards stage ground courses (node.Unit v) fits of_ground are is_node user h line.first u.width (widths.0 ∙ wide) };
      second = record { given = given.Operand line.second; is = ap (λ k. handed_in k part.Second) (sym asks); fits = bits_there design cards stage ground courses (node.Unit v) fits of_ground are is_node user h line.second u.width (widths.1 ∙ wide) };
      result = result_there design cards stage ground courses (node.Unit v) fits of_ground are is_node user h u.width own;
    })

pub fit_files : UsersFitFiles
fit_files design cards stage f q file ground courses fits of_ground are is_node at = each_of (FitsRead ground (index_bits file) file.width) (users_of (number_of_node (node.FileRead f q)) courses) (λ i user there.
    let h = using design cards stage ground courses (node.FileRead f q) fits of_ground are is_node i user there in
    let line = file_is f q h.m.act h.node in
    let asks : asked.Read line.index ≡ user.1.asked = same_Some _ user.1.asked (ap asks_of (sym line.is) ∙ h.asks) in
    let width = arg_width design h.instr.locals (fields_of design h.instr) in
    let typed = subst (λ a. IsTrue (has_widths design width a)) line.is h.typed in
    let index : is_index design f (width line.index) ≡ true = not_false (is_index design f (width line.index)) (faultless design width (act.ReadFile f q line.index) typed).1 in
    let bits : width line.index ≡ index_bits file = (index_has_bits design f file (width line.index) fits.clean.sound at).0 index in
    let wide : file_width design f ≡ file.width = ap (λ o. option_map_or (λ (x : File). x.width) o 0) at in
    let own : h.width ≡ file.width = same_Some h.width file.width (sym h.gives ∙ ap (local_width design h.instr.locals (fields_of design h.instr)) line.is ∙ ap Some wide) in
    record {
      index = record { given = given.Operand line.index; is = ap (λ k. handed_in k part.First) (sym asks); fits = bits_there design cards stage ground courses (node.FileRead f q) fits of_ground are is_node user h line.index (index_bits file) bits };
      result = result_there design cards stage ground courses (node.FileRead f q) fits of_ground are is_node user h file.width own;
    })

pub fit_mems : UsersFitMems
fit_mems design cards stage r mem ground courses fits of_ground are is_node at = each_of (FitsRead ground mem.address mem.width) (users_of (number_of_node (node.MemRead r)) courses) (λ i user there.
    let h = using design cards stage ground courses (node.MemRead r) fits of_ground are is_node i user there in
    let line = mem_is r h.m.act h.node in
    let asks : asked.Read line.address ≡ user.1.asked = same_Some _ user.1.asked (ap asks_of (sym line.is) ∙ h.asks) in
    let width = arg_width design h.instr.locals (fields_of design h.instr) in
    let typed = subst (λ a. IsTrue (has_widths design width a)) line.is h.typed in
    let address : width line.address ≡ mem_address design r = eqb-true (width line.address) (mem_address design r) (not_false (width line.address == mem_address design r) (faultless design width (act.ReadMem r line.address) typed).1) in
    let long : mem_address design r ≡ mem.address = ap (λ o. option_map_or (λ (x : Mem). x.address) o 0) at in
    let wide : mem_width design r ≡ mem.width = ap (λ o. option_map_or (λ (x : Mem). x.width) o 0) at in
    let own : h.width ≡ mem.width = same_Some h.width mem.width (sym h.gives ∙ ap (local_width design h.instr.locals (fields_of design h.instr)) line.is ∙ ap Some wide) in
    record {
      index = record { given = given.Operand line.address; is = ap (λ k. handed_in k part.First) (sym asks); fits = bits_there design cards stage ground courses (node.MemRead r) fits of_ground are is_node user h line.address mem.address (address ∙ long) };
      result = result_there design cards stage ground courses (node.MemRead r) fits of_ground are is_node user h mem.width own;
    })
