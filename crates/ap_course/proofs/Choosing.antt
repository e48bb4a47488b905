-- The choice for a node goes over the instructions of its stage that use it.
use Rattle.std.proofs.Common.{◌≡◌, ℕ, suc, ◌+◌, ◌≤◌, ◌==◌, Bool, true, false, cond, if◌then◌else◌, List, [], ◌∷◌, ◌++◌, length, filter, filter_map, flat_map, Option, Some, None, inl, inr, refl, sym, ap, subst, ◌∙◌, arith, eqb-true, eq-eqb, length-append}
use Rattle.std.specs.Prelude.{◌⊎◌, ◌&&◌, Contains, option_and_then, option_map, option_to_list, slice_get}
use Rattle.std.specs.List.{cons_option, enumerate_from}
use Rattle.std.proofs.lemmas.Bool.{and_from, and_parts, eqb-false, false_from_ne_true}
use Rattle.std.proofs.lemmas.Option.{same_Some}
use Rattle.ap_bits.specs.declared.card.Card.{Card}
use Rattle.ap_desc.proofs.Members.{any_in, get_in, in_contains}
use Rattle.ap_desc.proofs.OnePort.{clean_apart}
use Rattle.ap_desc.specs.Chains.{IsNodeOf, makers, node_of}
use Rattle.ap_desc.specs.Clean.{FitsCards}
use Rattle.ap_desc.specs.Designs.{assigned_count}
use Rattle.ap_desc.specs.Ports.{Port, file_read, mem_read, micros_in, unit}
use Rattle.ap_desc.specs.PortsApart.{is_port_used_in, uses_port}
use Rattle.ap_desc.specs.declared.design.Act.{Act}
use Rattle.ap_desc.specs.declared.design.Act.TheVariants as act
use Rattle.ap_desc.specs.declared.design.Design.{Design}
use Rattle.ap_desc.specs.declared.design.Instr.{Instr}
use Rattle.ap_desc.specs.declared.design.Micro.{Micro}
use Rattle.ap_desc.specs.declared.design.Node.{Node}
use Rattle.ap_desc.specs.declared.design.Node.TheVariants as node
use Rattle.ap_merge.specs.Choices.{source_of, sources_of}
use Rattle.ap_merge.specs.Selects.{GoesOver}
use Rattle.ap_path.specs.Uses.{path_port, use_of, uses_in}
use Rattle.ap_ports.proofs.Added.{low_from, node_from, number_from, one_node}
use Rattle.ap_ports.proofs.Conditions.{numbered_at}
use Rattle.ap_ports.proofs.Counted.{stands_in}
use Rattle.ap_ports.proofs.Members.{at_any, contains_at, each_get, place_of}
use Rattle.ap_ports.specs.Numbers.{IsNumberedNode, number_of_node}
use Rattle.ap_stage.specs.declared.node.Course.{Course}
use Rattle.ap_stage.specs.declared.node.PortUse.{PortUse}
use Rattle.ap_stage.specs.Courses.{use_of as course_use, users_of}
use Rattle.ap_course.specs.Choices.{ChoicesGoOverUsers, port_of_node}
use Rattle.ap_course.specs.Instrs.{IsCourseOf}
use Rattle.ap_course.specs.Lines.{port_use, use_of as line_use}
use Rattle.ap_course.proofs.Lined.{port_use_is, use_from, use_gives, use_is}
use Rattle.ap_course.proofs.Numbered.{given_there}
use Rattle.ap_course.proofs.Standing.{filter_in, finds, found_in}
use Rattle.ap_course.proofs.Whole.{maker_numbered, one_pass}

swap : (a b : ℕ) → (a == b) ≡ (b == a)
swap a b = go (a == b) refl
  where
    go : (x : Bool) → (a == b) ≡ x → x ≡ (b == a)
    go true e = sym (eq-eqb b a (sym (eqb-true a b e)))
    go false e = sym (false_from_ne_true (b == a) (λ y. eqb-false a b e (sym (eqb-true b a y))))

abbrev one_if : Bool → ℕ
one_if b = if b then 1 else 0

counted_if : {X : Type 0} (b : Bool) (x : X) → length (option_to_list (if b then Some x else None)) ≡ one_if b
counted_if true x = refl
counted_if false x = refl

-- a line hands something in for the port's first operand exactly where it uses the port
one_source : (x : Node) (n j : ℕ) (m : Micro) → length (option_to_list (option_and_then (source_of (path_port (port_of_node x)) 0) (use_of n j m))) ≡ one_if (uses_port (port_of_node x) m.act)
one_source (node.Unit u) n j m = go m.act
  where
    go : (a : Act) → length (option_to_list (option_and_then (source_of (path_port (unit u)) 0) (use_of n j (record { line = m.line; stage = m.stage; act = a })))) ≡ one_if (uses_port (unit u) a)
    go (act.Compute v op a b) = counted_if (v == u) _ ∙ ap one_if (swap v u)
    go _ = refl
one_source (node.FileRead f q) n j m = go m.act
  where
    go : (a : Act) → length (option_to_list (option_and_then (source_of (path_port (file_read f q)) 0) (use_of n j (record { line = m.line; stage = m.stage; act = a })))) ≡ one_if (uses_port (file_read f q) a)
    go (act.ReadFile file number index) = counted_if ((file == f) && (number == q)) _ ∙ (λ i. one_if (swap file f i && swap number q i))
    go _ = refl
one_source (node.MemRead r) n j m = go m.act
  where
    go : (a : Act) → length (option_to_list (option_and_then (source_of (path_port (mem_read r)) 0) (use_of n j (record { line = m.line; stage = m.stage; act = a })))) ≡ one_if (uses_port (mem_read r) a)
    go (act.ReadMem mem at) = counted_if (mem == r) _ ∙ ap one_if (swap mem r)
    go _ = refl

-- Lists of what may be there.

cons_long : {X : Type 0} (o : Option X) (xs : List X) → length (cons_option o xs) ≡ length (option_to_list o) + length xs
cons_long None xs = omega arith
cons_long (Some x) xs = omega arith

joined : {X Y : Type 0} (f : X → Option Y) (o : Option X) (xs : List X) → filter_map f (cons_option o xs) ≡ cons_option (option_and_then f o) (filter_map f xs)
joined f None xs = refl
joined f (Some x) xs = refl

beside : {X Y : Type 0} (f : X → Option Y) (xs ys : List X) → filter_map f (xs ++ ys) ≡ filter_map f xs ++ filter_map f ys
beside f [] ys = refl
beside {X} {Y} f (x ∷ xs) ys = ap (cons_option (f x)) (beside f xs ys) ∙ go (f x)
  where
    go : (o : Option Y) → cons_option o (filter_map f xs ++ filter_map f ys) ≡ cons_option o (filter_map f xs) ++ filter_map f ys
    go None = refl
    go (Some y) = refl

filter_long : {X : Type 0} (test : X → Bool) (x : X) (xs : List X) → length (filter test (x ∷ xs)) ≡ one_if (test x) + length (filter test xs)
filter_long test x xs = go (test x)
  where
    go : (b : Bool) → length (cond b (x ∷ filter test xs) (filter test xs)) ≡ one_if b + length (filter test xs)
    go true = omega arith
    go false = omega arith

pass_or_none : {X : Type 0} (test : X → Bool) (xs : List X) → (length (filter test xs) ≡ 0) ⊎ ((i : ℕ) × (x : X) × (slice_get xs i ≡ Some x) × (test x ≡ true))
pass_or_none test [] = inl refl
pass_or_none {X} test (x ∷ xs) = go (test x) refl (pass_or_none test xs)
  where
    go : (b : Bool) → test x ≡ b → (length (filter test xs) ≡ 0) ⊎ ((i : ℕ) × (y : X) × (slice_get xs i ≡ Some y) × (test y ≡ true)) → (length (cond b (x ∷ filter test xs) (filter test xs)) ≡ 0) ⊎ ((i : ℕ) × (y : X) × (slice_get (x ∷ xs) i ≡ Some y) × (test y ≡ true))
    go true e h = inr (0, x, refl, e)
    go false e (inl none) = inl none
    go false e (inr (i, y, at, passes)) = inr (suc i, y, at, passes)

module _ (x : Node) where
  abbrev q : Micro → Bool
  q m = uses_port (port_of_node x) m.act

  abbrev total : List Instr → ℕ
  total [] = 0
  total (i ∷ instrs) = length (filter q i.micros) + total instrs

  lines_count : (n j : ℕ) (micros : List Micro) → length (filter_map (source_of (path_port (port_of_node x)) 0) (filter_map (λ (line : ℕ × Micro). use_of n line.0 line.1) (enumerate_from j micros))) ≡ length (filter q micros)
  lines_count n j [] = refl
  lines_count n j (m ∷ micros) =
      let rest = filter_map (λ (line : ℕ × Micro). use_of n line.0 line.1) (enumerate_from (j + 1) micros) in
      ap length (joined (source_of (path_port (port_of_node x)) 0) (use_of n j m) rest)
      ∙ cons_long (option_and_then (source_of (path_port (port_of_node x)) 0) (use_of n j m)) (filter_map (source_of (path_port (port_of_node x)) 0) rest)
      ∙ (λ i. one_source x n j m i + lines_count n (j + 1) micros i)
      ∙ sym (filter_long q m micros)

  sources_count : (n : ℕ) (instrs : List Instr) → length (sources_of (flat_map (λ (i : ℕ × Instr). uses_in i.0 i.1.micros) (enumerate_from n instrs)) (path_port (port_of_node x)) 0) ≡ total instrs
  sources_count n [] = refl
  sources_count n (i ∷ instrs) =
      let later = flat_map (λ (i : ℕ × Instr). uses_in i.0 i.1.micros) (enumerate_from (n + 1) instrs) in
      ap length (beside (source_of (path_port (port_of_node x)) 0) (uses_in n i.micros) later)
      ∙ length-append (filter_map (source_of (path_port (port_of_node x)) 0) (uses_in n i.micros)) (filter_map (source_of (path_port (port_of_node x)) 0) later)
      ∙ (λ k. lines_count n 0 i.micros k + sources_count (n + 1) instrs k)

  -- an instruction counts as often as its lines use the port
  abbrev Counts : Course → Instr → Type 0
  Counts c i = length (option_to_list (course_use (number_of_node x) c)) ≡ length (filter q i.micros)

  mapped_long : {X Y : Type 0} (f : X → Y) (o : Option X) → length (option_to_list (option_map f o)) ≡ length (option_to_list o)
  mapped_long f None = refl
  mapped_long f (Some y) = refl

  users_count : (courses : List Course) (instrs : List Instr) → length courses ≡ length instrs → ((k : ℕ) (c : Course) → slice_get courses k ≡ Some c → (i : Instr) × (slice_get instrs k ≡ Some i) × Counts c i) → length (users_of (number_of_node x) courses) ≡ total instrs
  users_count [] [] long all = refl
  users_count [] (i ∷ instrs) long all = absurd cc
  users_count (c ∷ courses) [] long all = absurd cc
  users_count (c ∷ courses) (i ∷ instrs) long all =
      let (own, at, counts) = all 0 c refl in
      let same : i ≡ own = same_Some i own at in
      let here : Counts c i = subst (Counts c) (sym same) counts in
      let rest = users_count courses instrs (omega (arith, long)) (λ k d there. all (suc k) d there) in
      cons_long (option_map (λ (u : PortUse). (c, u)) (course_use (number_of_node x) c)) (users_of (number_of_node x) courses)
      ∙ (λ k. (mapped_long {Y = Course × PortUse} (λ (u : PortUse). (c, u)) (course_use (number_of_node x) c) ∙ here) k + rest k)

-- a line that uses the port of a node uses the node
node_line : (x : Node) (a : Act) → uses_port (port_of_node x) a ≡ true → node_of a ≡ Some x
node_line (node.Unit u) (act.Compute v op a b) e = ap (λ n. Some (node.Unit n)) (sym (eqb-true u v e))
node_line (node.FileRead f q) (act.ReadFile file number index) e =
    let both = and_parts (f == file) (q == number) e in
    λ i. Some (node.FileRead (sym (eqb-true f file both.0) i) (sym (eqb-true q number both.1) i))
node_line (node.MemRead r) (act.ReadMem mem at) e = ap (λ n. Some (node.MemRead n)) (sym (eqb-true r mem e))
node_line (node.Unit u) _ e = absurd cc
node_line (node.FileRead f q) _ e = absurd cc
node_line (node.MemRead r) _ e = absurd cc

line_node : (x : Node) (a : Act) → node_of a ≡ Some x → uses_port (port_of_node x) a ≡ true
line_node x (act.Compute v op a b) e = subst (λ y. uses_port (port_of_node y) (act.Compute v op a b) ≡ true) (same_Some _ x e) (eq-eqb v v refl)
line_node x (act.ReadFile file number index) e = subst (λ y. uses_port (port_of_node y) (act.ReadFile file number index) ≡ true) (same_Some _ x e) (and_from (file == file) (number == number) (eq-eqb file file refl) (eq-eqb number number refl))
line_node x (act.ReadMem mem at) e = subst (λ y. uses_port (port_of_node y) (act.ReadMem mem at) ≡ true) (same_Some _ x e) (eq-eqb mem mem refl)
line_node x _ e = absurd cc

node_makes : (x : Node) (a : Act) → node_of a ≡ Some x → (assigned_count a == 1) ≡ true
node_makes x (act.Compute v op a b) e = refl
node_makes x (act.ReadFile file number index) e = refl
node_makes x (act.ReadMem mem at) e = refl
node_makes x _ e = absurd cc

node_used : (x : Node) (n : ℕ) (a : Act) → node_of a ≡ Some x → (u : PortUse) × (port_use n a ≡ Some u)
node_used x n (act.Compute v op a b) e = (_, refl)
node_used x n (act.ReadFile file number index) e = (_, refl)
node_used x n (act.ReadMem mem at) e = (_, refl)
node_used x n _ e = absurd cc

module _ (design : Design) (cards : List Card) (stage k : ℕ) (instr : Instr) (c : Course) (x : Node) (fits : FitsCards design cards) (at : slice_get design.instrs k ≡ Some instr) (of : IsCourseOf design stage instr c) (is_node : IsNodeOf design stage x) where
  abbrev p : Port
  p = port_of_node x

  abbrev is_user : PortUse → Bool
  is_user u = u.port == number_of_node x

  instr_there : Contains design.instrs instr
  instr_there = contains_at design.instrs k instr at

  used_here : is_port_used_in design stage p ≡ true
  used_here =
      let (m, m_in, is) = any_in (λ (m : Micro). (m.stage ≡ stage) × (node_of m.act ≡ Some x)) (micros_in design) is_node in
      let (place, has) = place_of (micros_in design) m (in_contains (micros_in design) m m_in) in
      at_any (λ (o : Micro). (o.stage == stage) && uses_port p o.act) (micros_in design) place m has (and_from (m.stage == stage) (uses_port p m.act) (eq-eqb m.stage stage is.0) (line_node x m.act is.1))

  pub low : IsNumberedNode x
  low =
      let (m, m_in, is) = any_in (λ (m : Micro). (m.stage ≡ stage) × (node_of m.act ≡ Some x)) (micros_in design) is_node in
      let (place, has) = place_of (micros_in design) m (in_contains (micros_in design) m m_in) in
      low_from m.act x (numbered_at design fits.clean.sound place m has) is.1

  -- a line of the instruction that uses the port stands in the stage
  stage_of : (i : ℕ) (m : Micro) → slice_get instr.micros i ≡ Some m → uses_port p m.act ≡ true → m.stage ≡ stage
  stage_of i m has uses =
      let (place, stands) = stands_in design instr m instr_there (contains_at instr.micros i m has) in
      let used = at_any (λ (o : Micro). (o.stage == m.stage) && uses_port p o.act) (micros_in design) place m stands (and_from (m.stage == m.stage) (uses_port p m.act) (eq-eqb m.stage m.stage refl) uses) in
      (clean_apart design fits.clean).one_stage p m.stage stage used used_here

  -- where a line uses the port, the instruction is a user
  is_used : (i : ℕ) (m : Micro) → slice_get instr.micros i ≡ Some m → uses_port p m.act ≡ true → course_use (number_of_node x) c ≡ None → ⊥
  is_used i m has uses none =
      let node = node_line x m.act uses in
      let made = filter_in (λ (o : Micro). assigned_count o.act == 1) instr.micros m (get_in instr.micros i m has) (node_makes x m.act node) in
      let (n, there) = place_of (makers instr) m (in_contains (makers instr) m made) in
      let (u, gives) = node_used x (0 + n) m.act node in
      let (place, stands) = given_there (line_use stage) 0 (makers instr) n m u there (use_gives stage (0 + n) m u (stage_of i m has uses) gives) in
      let port : u.port ≡ number_of_node x = same_Some u.port (number_of_node x) (sym (port_use_is (0 + n) m.act u gives).port ∙ number_from m.act x node) in
      let (y, found) = finds is_user c.uses u (get_in c.uses place u (ap (λ us. slice_get us place) of.uses ∙ stands)) (eq-eqb u.port (number_of_node x) port) in
      let wrong : None ≡ Some y = sym none ∙ found in
      absurd cc

  -- where the instruction is a user, one of its lines uses the port
  uses_once : (u : PortUse) → course_use (number_of_node x) c ≡ Some u → 1 ≤ length (filter (λ (m : Micro). uses_port p m.act) instr.micros)
  uses_once u is =
      let found = found_in is_user c.uses u is in
      let (place, there) = place_of c.uses u (in_contains c.uses u found.0) in
      let from = use_from stage instr place u (ap (λ us. slice_get us place) (sym of.uses) ∙ there) in
      let line = use_is stage (0 + from.place) from.item u from.gives in
      let own = node_from from.item.act u.port (maker_numbered design cards k instr fits at from.place from.item from.at) line.port in
      let same : own.item ≡ x = one_node own.item x own.low low (own.number ∙ eqb-true u.port (number_of_node x) found.1) in
      one_pass (λ (m : Micro). assigned_count m.act == 1) (λ (m : Micro). uses_port p m.act) instr.micros from.place from.item from.at (line_node x from.item.act (own.uses ∙ ap Some same))

  pub counts : Counts x c instr
  counts = go (course_use (number_of_node x) c) refl
    where
      once : length (filter (λ (m : Micro). uses_port p m.act) instr.micros) ≤ 1
      once = each_get (λ (i : Instr). (r : Port) → length (filter (λ (m : Micro). uses_port r m.act) i.micros) ≤ 1) design.instrs k instr (clean_apart design fits.clean).once at p

      nobody : course_use (number_of_node x) c ≡ None → (length (filter (λ (m : Micro). uses_port p m.act) instr.micros) ≡ 0) ⊎ ((i : ℕ) × (m : Micro) × (slice_get instr.micros i ≡ Some m) × (uses_port p m.act ≡ true)) → 0 ≡ length (filter (λ (m : Micro). uses_port p m.act) instr.micros)
      nobody none (inl zero_is) = sym zero_is
      nobody none (inr (i, m, has, uses)) = absurd (is_used i m has uses none)

      go : (o : Option PortUse) → course_use (number_of_node x) c ≡ o → length (option_to_list o) ≡ length (filter (λ (m : Micro). uses_port p m.act) instr.micros)
      go (Some u) is = let least = uses_once u is in let most = once in omega (arith, least, most)
      go None is = nobody is (pass_or_none (λ (m : Micro). uses_port p m.act) instr.micros)

pub over_users : ChoicesGoOverUsers
over_users design cards table choice stage x courses fits paths is of is_node long are =
    let entries : choice.entries ≡ sources_of (flat_map (λ (i : ℕ × Instr). uses_in i.0 i.1.micros) (enumerate_from 0 design.instrs)) (path_port (port_of_node x)) 0 = is.entries ∙ (λ i. sources_of (paths.uses i) (of.0 i) (of.1 i)) in
    let users = users_count x courses design.instrs long (λ k c there. (let (instr, at, stands) = are k c there in (instr, at, counts design cards stage k instr c x fits at stands is_node))) in
    let count : length choice.entries ≡ length (users_of (number_of_node x) courses) = ap length entries ∙ sources_count x 0 design.instrs ∙ sym users in
    subst (GoesOver choice.select 0) count is.over
