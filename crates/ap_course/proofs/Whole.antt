-- Each operand of an instruction's lines in a stage comes from somewhere, and no two lines use one port.
use Rattle.std.proofs.Common.{◌≡◌, ℕ, zero, suc, ◌+◌, ◌<◌, ◌≤◌, ◌==◌, Bool, true, false, cond, List, [], ◌∷◌, ◌++◌, length, filter, Some, inl, inr, refl, sym, ap, subst, ◌∙◌, arith, eq-eqb}
use Rattle.std.specs.Prelude.{◌⊎◌, slice_get}
use Rattle.std.specs.List.{AllByRecursion as Each}
use Rattle.std.specs.Option.{option_map_or}
use Rattle.std.proofs.lemmas.Bool.{and_from, cases_lt}
use Rattle.std.proofs.lemmas.Option.{same_Some}
use Rattle.ap_bits.specs.declared.card.Card.{Card}
use Rattle.ap_desc.proofs.OnePort.{clean_apart}
use Rattle.ap_desc.specs.Chains.{makers, operands_of}
use Rattle.ap_desc.specs.Clean.{FitsCards}
use Rattle.ap_desc.specs.Designs.{IsArg, assigned_count, fields_of}
use Rattle.ap_desc.specs.Ports.{Port, file_read, is_same_port, mem_read, port_of, unit}
use Rattle.ap_desc.specs.PortsApart.{uses_port}
use Rattle.ap_desc.specs.declared.design.Act.{Act}
use Rattle.ap_desc.specs.declared.design.Act.TheVariants as act
use Rattle.ap_desc.specs.declared.design.Arg.{Arg}
use Rattle.ap_desc.specs.declared.design.Arg.TheVariants as arg
use Rattle.ap_desc.specs.declared.design.Design.{Design}
use Rattle.ap_desc.specs.declared.design.Instr.{Instr}
use Rattle.ap_desc.specs.declared.design.Micro.{Micro}
use Rattle.ap_model.proofs.LineOrder.{count}
use Rattle.ap_model.specs.FlightLocals.{is_live_in, is_local}
use Rattle.ap_ports.proofs.Members.{at_any, each_get, each_of}
use Rattle.ap_ports.proofs.Numbered.{share_from, sound_numbered}
use Rattle.ap_ports.specs.Numbers.{IsNumbered, node_number, port_number}
use Rattle.ap_stage.specs.declared.node.Course.{Course}
use Rattle.ap_stage.specs.declared.node.PortUse.{PortUse}
use Rattle.ap_stage.specs.declared.row.Line.{Line}
use Rattle.ap_stage.specs.declared.user.Asked.{Asked}
use Rattle.ap_stage.specs.Chained.{HasOrigin, IsPortless, IsWhole}
use Rattle.ap_stage.specs.Users.{args_of}
use Rattle.ap_course.specs.Instrs.{HasLive, IsCourseOf}
use Rattle.ap_course.specs.Lines.{asks_of, is_portless, line_of, port_use, use_of}
use Rattle.ap_course.proofs.Few.{makers_numbered}
use Rattle.ap_course.proofs.Lined.{line_from, line_gives, line_is, use_from, use_gives, use_is, uses_apart}
use Rattle.ap_course.proofs.Makers.{comes_from, good_at, line_at, maker_at}
use Rattle.ap_course.proofs.Numbered.{given_there}

-- a line that makes a local uses no port, or uses one that gives it
pub portless_or_port : (n : ℕ) (a : Act) → assigned_count a ≡ 1 → (is_portless a ≡ true) ⊎ ((u : PortUse) × (port_use n a ≡ Some u) × (u.local ≡ n))
portless_or_port n (act.Compute u op a b) e = inr (_, refl, refl)
portless_or_port n (act.ReadFile file port index) e = inr (_, refl, refl)
portless_or_port n (act.ReadMem mem at) e = inr (_, refl, refl)
portless_or_port n (act.WriteFile file number index v guard) e = absurd (omega (arith, e))
portless_or_port n (act.WriteReg reg v guard) e = absurd (omega (arith, e))
portless_or_port n (act.WriteMem mem at v guard) e = absurd (omega (arith, e))
portless_or_port n (act.Branch c t) e = absurd (omega (arith, e))
portless_or_port n (act.Jump t) e = absurd (omega (arith, e))
portless_or_port n _ e = inl refl

pub is_portless_act : (a : Act) → is_portless a ≡ true → IsPortless a
is_portless_act (act.ReadReg reg) e = tt
is_portless_act (act.ReadIn input) e = tt
is_portless_act (act.Const width value) e = tt
is_portless_act (act.Zext width a) e = tt
is_portless_act (act.Sext width a) e = tt
is_portless_act (act.Slice high low a) e = tt
is_portless_act (act.Cat a b) e = tt
is_portless_act _ e = absurd cc

-- what is asked has the line's operands
pub asked_operands : (a : Act) (k : Asked) → asks_of a ≡ Some k → args_of k ≡ operands_of a
asked_operands (act.Compute u op a b) k e = ap args_of (sym (same_Some _ k e))
asked_operands (act.ReadFile file port index) k e = ap args_of (sym (same_Some _ k e))
asked_operands (act.ReadMem mem at) k e = ap args_of (sym (same_Some _ k e))
asked_operands _ k e = absurd cc

-- a list around one of its elements
split_here : {X : Type 0} (xs : List X) (i : ℕ) (x : X) → slice_get xs i ≡ Some x → (earlier : List X) × (rest : List X) × (xs ≡ earlier ++ x ∷ rest)
split_here [] i x at = absurd cc
split_here (y ∷ xs) zero x at = ([], xs, ap (λ z. z ∷ xs) (same_Some y x at))
split_here (y ∷ xs) (suc i) x at = let (earlier, rest, whole) = split_here xs i x at in (y ∷ earlier, rest, ap (λ l. y ∷ l) whole)

-- Two lines that use one port.

pub one_pass : {X : Type 0} (s t : X → Bool) (xs : List X) (i : ℕ) (x : X) → slice_get (filter s xs) i ≡ Some x → t x ≡ true → 1 ≤ length (filter t xs)
one_pass s t [] i x at passes = absurd cc
one_pass {X} s t (y ∷ xs) i x at passes = go (s y) (t y) refl i at (λ j h. one_pass s t xs j x h passes)
  where
    go : (a b : Bool) → t y ≡ b → (i : ℕ) → slice_get (cond a (y ∷ filter s xs) (filter s xs)) i ≡ Some x → ((j : ℕ) → slice_get (filter s xs) j ≡ Some x → 1 ≤ length (filter t xs)) → 1 ≤ length (cond b (y ∷ filter t xs) (filter t xs))
    go a true e i at later = omega arith
    go true false e zero at later = let same : y ≡ x = same_Some y x at in let wrong : false ≡ true = sym e ∙ ap t same ∙ passes in absurd cc
    go true false e (suc i) at later = later i at
    go false false e i at later = later i at

two_pass : {X : Type 0} (s t : X → Bool) (xs : List X) (i j : ℕ) (x y : X) → slice_get (filter s xs) i ≡ Some x → slice_get (filter s xs) j ≡ Some y → i < j → t x ≡ true → t y ≡ true → 2 ≤ length (filter t xs)
two_pass s t [] i j x y at there low one other = absurd cc
two_pass {X} s t (z ∷ xs) i j x y at there low one other = go (s z) (t z) refl i j at there low (λ a b p q lt. two_pass s t xs a b x y p q lt one other)
  where
    more : (b : Bool) → 2 ≤ length (filter t xs) → 2 ≤ length (cond b (z ∷ filter t xs) (filter t xs))
    more true h = omega (arith, h)
    more false h = h

    go : (a b : Bool) → t z ≡ b → (i j : ℕ) → slice_get (cond a (z ∷ filter s xs) (filter s xs)) i ≡ Some x → slice_get (cond a (z ∷ filter s xs) (filter s xs)) j ≡ Some y → i < j
        → ((a b : ℕ) → slice_get (filter s xs) a ≡ Some x → slice_get (filter s xs) b ≡ Some y → a < b → 2 ≤ length (filter t xs)) → 2 ≤ length (cond b (z ∷ filter t xs) (filter t xs))
    go true b e zero zero at there low later = absurd (omega arith)
    go true true e zero (suc j) at there low later = let rest = one_pass s t xs j y there other in omega (arith, rest)
    go true false e zero (suc j) at there low later = let same : z ≡ x = same_Some z x at in let wrong : false ≡ true = sym e ∙ ap t same ∙ one in absurd cc
    go true b e (suc i) zero at there low later = absurd (omega arith)
    go true b e (suc i) (suc j) at there low later = more b (later i j at there (omega arith))
    go false b e i j at there low later = more b (later i j at there low)

-- the port of a node
node_port : (a : Act) (n : ℕ) → node_number a ≡ Some n → (p : Port) × (port_of a ≡ Some p) × (is_same_port p p ≡ true)
node_port (act.Compute u op a b) n e = (unit u, refl, eq-eqb u u refl)
node_port (act.ReadFile file port index) n e = (file_read file port, refl, and_from (file == file) (port == port) (eq-eqb file file refl) (eq-eqb port port refl))
node_port (act.ReadMem mem at) n e = (mem_read mem, refl, eq-eqb mem mem refl)
node_port _ n e = absurd cc

node_number_of_port : (a : Act) (n : ℕ) → node_number a ≡ Some n → port_number a ≡ Some n
node_number_of_port (act.Compute u op a b) n e = e
node_number_of_port (act.ReadFile file port index) n e = e
node_number_of_port (act.ReadMem mem at) n e = e
node_number_of_port _ n e = absurd cc

module _ (design : Design) (cards : List Card) (k : ℕ) (instr : Instr) (fits : FitsCards design cards) (at : slice_get design.instrs k ≡ Some instr) where
  pub maker_numbered : (n : ℕ) (m : Micro) → slice_get (makers instr) n ≡ Some m → IsNumbered m.act
  maker_numbered n m there = each_get (λ (x : Micro). IsNumbered x.act) (makers instr) n m (makers_numbered instr (sound_numbered design fits.clean.sound k instr at)) there

  -- two makers don't use one port
  not_both : (i j : ℕ) (m o : Micro) (n : ℕ) → slice_get (makers instr) i ≡ Some m → slice_get (makers instr) j ≡ Some o → i < j → node_number m.act ≡ Some n → node_number o.act ≡ Some n → ⊥
  not_both i j m o n there that low one other =
      let (p, is, own) = node_port m.act n one in
      let share = share_from m.act o.act n (maker_numbered i m there) (maker_numbered j o that) (node_number_of_port m.act n one) (node_number_of_port o.act n other) in
      let first : uses_port p m.act ≡ true = ap (λ q. option_map_or (is_same_port p) q false) is ∙ own in
      let second : uses_port p o.act ≡ true = ap (λ q. option_map_or (λ r. option_map_or (is_same_port r) (port_of o.act) false) q false) (sym is) ∙ share in
      let two = two_pass (λ (x : Micro). assigned_count x.act == 1) (λ (x : Micro). uses_port p x.act) instr.micros i j m o there that low first second in
      let once = each_get (λ (i : Instr). (p : Port) → length (filter (λ (m : Micro). uses_port p m.act) i.micros) ≤ 1) design.instrs k instr (clean_apart design fits.clean).once at p in
      omega (arith, two, once)

  module _ (stage : ℕ) (c : Course) (of : IsCourseOf design stage instr c) where
    -- a local that a line of the stage makes comes from that line
    made_origin : (i : ℕ) (x : Micro) → slice_get (makers instr) i ≡ Some x → x.stage ≡ stage → HasOrigin c (arg.Local i)
    made_origin i x there here = go (portless_or_port (0 + i) x.act (maker_at design instr (good_at design cards k instr fits at) i x there).split.assigns)
      where
        go : (is_portless x.act ≡ true) ⊎ ((u : PortUse) × (port_use (0 + i) x.act ≡ Some u) × (u.local ≡ 0 + i)) → HasOrigin c (arg.Local i)
        go (inl portless) =
            let (place, stands) = given_there (line_of stage) 0 (makers instr) i x (record { act = x.act; local = 0 + i }) there (line_gives stage (0 + i) x here portless) in
            inr (inl (place, record { act = x.act; local = 0 + i }, ap (λ ls. slice_get ls place) of.lines ∙ stands, omega arith))
        go (inr (u, uses, number)) =
            let (place, stands) = given_there (use_of stage) 0 (makers instr) i x u there (use_gives stage (0 + i) x u here uses) in
            inr (inr (place, u, ap (λ us. slice_get us place) of.uses ∙ stands, omega (arith, number)))

    line_portless : (j : ℕ) (l : Line) → slice_get c.lines j ≡ Some l → IsPortless l.act
    line_portless j l there =
        let from = line_from stage instr j l (ap (λ ls. slice_get ls j) (sym of.lines) ∙ there) in
        let is = line_is stage (0 + from.place) from.item l from.gives in
        subst IsPortless (sym is.act) (is_portless_act from.item.act is.portless)

    uses_once : (i j : ℕ) (one other : PortUse) → slice_get c.uses i ≡ Some one → slice_get c.uses j ≡ Some other → one.port ≡ other.port → i ≡ j
    uses_once i j one other there that same =
        let first = use_from stage instr i one (ap (λ us. slice_get us i) (sym of.uses) ∙ there) in
        let second = use_from stage instr j other (ap (λ us. slice_get us j) (sym of.uses) ∙ that) in
        let f = use_is stage (0 + first.place) first.item one first.gives in
        let s = use_is stage (0 + second.place) second.item other second.gives in
        let port : node_number second.item.act ≡ Some one.port = s.port ∙ ap Some (sym same) in
        uses_apart stage instr i j one other (ap (λ us. slice_get us i) (sym of.uses) ∙ there) (ap (λ us. slice_get us j) (sym of.uses) ∙ that)
        (f.number ∙ ap (λ n. 0 + n) (places (cases_lt first.place second.place) (cases_lt second.place first.place) first.item second.item first.at second.at f.port port) ∙ sym s.number)
      where
        places : {a b : ℕ} → (a < b) ⊎ (b ≤ a) → (b < a) ⊎ (a ≤ b) → (m o : Micro) → slice_get (makers instr) a ≡ Some m → slice_get (makers instr) b ≡ Some o → node_number m.act ≡ Some one.port → node_number o.act ≡ Some one.port → a ≡ b
        places (inl low) h m o at there f s = absurd (not_both _ _ m o one.port at there low f s)
        places (inr high) (inl low) m o at there f s = absurd (not_both _ _ o m one.port there at low s f)
        places (inr high) (inr low) m o at there f s = omega arith

    module _ (live : HasLive design stage instr c) where
      origin : (n : ℕ) (m : Micro) → slice_get (makers instr) n ≡ Some m → m.stage ≡ stage → (j : ℕ) (a : Arg) → slice_get (operands_of m.act) j ≡ Some a → HasOrigin c a
      origin n m there here j (arg.Field i) stands = tt
      origin n m there here j arg.Pc stands = tt
      origin n m there here j arg.Link stands = tt
      origin n m there here j (arg.Local i) stands =
          let is = maker_at design instr (good_at design cards k instr fits at) n m there in
          let number = is.split.number in
          let low : i < n = each_get (IsArg n (fields_of design instr)) (operands_of m.act) j (arg.Local i) is.operands stands in
          let looked = at_any (is_local i) (operands_of m.act) j (arg.Local i) stands (eq-eqb i i refl) in
          made_or_live i (comes_from design instr (good_at design cards k instr fits at) stage i is.split.earlier m is.split.rest is.split.whole here looked (omega (arith, low, number)))
        where
          made_or_live : (i : ℕ) → ((x : Micro) × (slice_get (makers instr) i ≡ Some x) × (x.stage ≡ stage)) ⊎ (is_live_in design stage i instr ≡ true) → HasOrigin c (arg.Local i)
          made_or_live i (inl (x, there, here)) = made_origin i x there here
          made_or_live i (inr is) = inl (live i is)

      origins : (n : ℕ) (m : Micro) → slice_get (makers instr) n ≡ Some m → m.stage ≡ stage → Each (HasOrigin c) (operands_of m.act)
      origins n m there here = each_of (HasOrigin c) (operands_of m.act) (λ j a stands. origin n m there here j a stands)

      line_origins : (j : ℕ) (l : Line) → slice_get c.lines j ≡ Some l → Each (HasOrigin c) (operands_of l.act)
      line_origins j l there =
          let from = line_from stage instr j l (ap (λ ls. slice_get ls j) (sym of.lines) ∙ there) in
          let is = line_is stage (0 + from.place) from.item l from.gives in
          subst (λ a. Each (HasOrigin c) (operands_of a)) (sym is.act) (origins from.place from.item from.at is.here)

      use_origins : (j : ℕ) (u : PortUse) → slice_get c.uses j ≡ Some u → Each (HasOrigin c) (args_of u.asked)
      use_origins j u there =
          let from = use_from stage instr j u (ap (λ us. slice_get us j) (sym of.uses) ∙ there) in
          let is = use_is stage (0 + from.place) from.item u from.gives in
          subst (λ args. Each (HasOrigin c) args) (sym (asked_operands from.item.act u.asked is.asks)) (origins from.place from.item from.at is.here)

      pub is_whole : IsWhole c
      is_whole = record {
        portless = each_of (λ (l : Line). IsPortless l.act) c.lines line_portless;
        lines = each_of (λ (l : Line). Each (HasOrigin c) (operands_of l.act)) c.lines line_origins;
        uses = each_of (λ (u : PortUse). Each (HasOrigin c) (args_of u.asked)) c.uses use_origins;
        once = uses_once;
      }

      -- and of any line of the stage
      pub line_operands : (i : ℕ) (m : Micro) → slice_get instr.micros i ≡ Some m → m.stage ≡ stage → Each (HasOrigin c) (operands_of m.act)
      line_operands i m has here =
          let s = split_here instr.micros i m has in
          let line = line_at design instr (good_at design cards k instr fits at) s.0 m s.1 s.2 in
          each_of (HasOrigin c) (operands_of m.act) (λ j a stands. one s.0 s.1 s.2 j a stands line.operands)
        where
          of_local : (n : ℕ) → ((x : Micro) × (slice_get (makers instr) n ≡ Some x) × (x.stage ≡ stage)) ⊎ (is_live_in design stage n instr ≡ true) → HasOrigin c (arg.Local n)
          of_local n (inl (x, there, in_stage)) = made_origin n x there in_stage
          of_local n (inr is) = inl (live n is)

          one : (earlier rest : List Micro) → instr.micros ≡ earlier ++ m ∷ rest → (j : ℕ) (a : Arg) → slice_get (operands_of m.act) j ≡ Some a → Each (IsArg (count earlier) (fields_of design instr)) (operands_of m.act) → HasOrigin c a
          one earlier rest whole j (arg.Field n) stands each = tt
          one earlier rest whole j arg.Pc stands each = tt
          one earlier rest whole j arg.Link stands each = tt
          one earlier rest whole j (arg.Local n) stands each =
              let low : n < count earlier = each_get (IsArg (count earlier) (fields_of design instr)) (operands_of m.act) j (arg.Local n) each stands in
              let looked = at_any (is_local n) (operands_of m.act) j (arg.Local n) stands (eq-eqb n n refl) in
              of_local n (comes_from design instr (good_at design cards k instr fits at) stage n earlier m rest whole here looked low)
