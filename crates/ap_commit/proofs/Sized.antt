-- The lines of a sound design hand in what has the widths of their ports.
use Rattle.std.proofs.Common.{◌≡◌, ℕ, suc, ◌+◌, ◌^◌, ◌==◌, Bool, true, false, cond, IsTrue, IsSomeAnd, IfSome, List, [], ◌∷◌, filter_map, Option, Some, None, refl, sym, ap, subst, ◌∙◌, arith, eqb-true}
use Rattle.std.specs.Prelude.{find, option_and_then, slice_get}
use Rattle.std.specs.List.{AllByRecursion as Each, cons_option, enumerate_from, list_all}
use Rattle.std.specs.Option.{option_map_or}
use Rattle.std.proofs.lemmas.Bool.{and_parts}
use Rattle.std.proofs.lemmas.Nat.{pow_pos}
use Rattle.std.proofs.lemmas.Option.{same_Some}
use Rattle.ap_desc.proofs.DesignLaws.{index_has_bits}
use Rattle.ap_desc.specs.Designs.{arg_width, fields_of, index_bits, width_at}
use Rattle.ap_desc.specs.Ports.{is_transfer}
use Rattle.ap_desc.specs.Sound.{IsSound, IsTyped, are_lines_typed}
use Rattle.ap_desc.specs.Widths.{file_width, has_widths, is_index, is_wide_guard, mem_address, mem_width, reg_width}
use Rattle.ap_desc.specs.declared.design.Act.{Act}
use Rattle.ap_desc.specs.declared.design.Act.TheVariants as act
use Rattle.ap_desc.specs.declared.design.Arg.{Arg}
use Rattle.ap_desc.specs.declared.design.Arg.TheVariants as arg
use Rattle.ap_desc.specs.declared.design.Design.{Design}
use Rattle.ap_desc.specs.declared.design.Field.{Field}
use Rattle.ap_desc.specs.declared.design.File.{File}
use Rattle.ap_desc.specs.declared.design.Format.{Format}
use Rattle.ap_desc.specs.declared.design.Instr.{Instr}
use Rattle.ap_desc.specs.declared.design.Micro.{Micro}
use Rattle.ap_model.specs.declared.storage.WritePort.{WritePort}
use Rattle.ap_model.specs.declared.storage.WritePort.TheVariants as port
use Rattle.ap_model.specs.Fitting.{port_width}
use Rattle.ap_model.specs.Ports.{writes_through}
use Rattle.ap_model.proofs.PlainWidths.{faultless, not_false, or_false}
use Rattle.ap_stage.specs.declared.node.Course.{Course}
use Rattle.ap_stage.specs.declared.source.Ground.{Ground}
use Rattle.ap_stage.specs.Sources.{bits_of}
use Rattle.ap_stage.proofs.Listed.{each_at, each_found}
use Rattle.ap_effect.specs.declared.line.PortLine.{PortLine}
use Rattle.ap_effect.specs.Lines.{handed_by, is_line_of, line_of, lines_of}
use Rattle.ap_outcome.specs.Fitting.{FitsPort, HasBits, HasPortBits}
use Rattle.ap_commit.specs.Widths.{AreOfDesign, TransferLinesFit, WriteLinesFit, port_bits}

-- the cells of a file that is there are numbered by so many bits
index_is : (design : Design) (sound : IsSound design) (f bits : ℕ) → is_index design f bits ≡ true → bits ≡ width_at index_bits design.files f
index_is design sound f bits is = go (slice_get design.files f) refl
  where
    go : (o : Option File) → slice_get design.files f ≡ o → bits ≡ option_map_or index_bits o 0
    go None e =
        let cells : 2 ^ bits ≡ 0 = eqb-true _ _ is ∙ ap (λ o. option_map_or (λ (x : File). x.cells) o 0) e in
        let some = pow_pos bits in
        absurd (omega (arith, cells, some))
    go (Some file) e = (index_has_bits design f file bits sound e).0 is

-- What a line of this number hands in has these widths, whichever course stands at the number.
record IsSized (ground : Ground) (courses : List Course) (k : ℕ) (bits : Option ℕ) (wide : ℕ) (l : PortLine) : Type 0 where
  number : l.instr ≡ k
  has : (c : Course) → slice_get courses k ≡ Some c → HasPortBits ground bits wide c l

sized_fits : (ground : Ground) (courses : List Course) (k : ℕ) (bits : Option ℕ) (wide : ℕ) (l : PortLine) → IsSized ground courses k bits wide l → FitsPort ground courses bits wide l
sized_fits ground courses k bits wide l h c at = h.has c (subst (λ n. slice_get courses n ≡ Some c) h.number at)

-- the first that passes a test passes it
find_holds : {X : Type 0} (test : X → Bool) (xs : List X) (x : X) → find test xs ≡ Some x → test x ≡ true
find_holds test [] x is = cc
find_holds {X} test (y ∷ xs) x is = go (test y) refl is (λ later. find_holds test xs x later)
  where
    go : (b : Bool) → test y ≡ b → cond b (Some y) (find test xs) ≡ Some x → (find test xs ≡ Some x → test x ≡ true) → test x ≡ true
    go true e is later = subst (λ z. test z ≡ true) (same_Some y x is) e
    go false e is later = later is

each_line : (test : Micro → Bool) (micros : List Micro) → list_all test micros ≡ true → Each (λ m. IsTrue (test m)) micros
each_line test [] all = tt
each_line test (m ∷ micros) all = let parts = and_parts _ _ all in (parts.0, each_line test micros parts.1)

of_format : (o : Option Format) (Q : List Field → Type 0) → IsSomeAnd o (λ (format : Format). Q format.fields) → Q (option_map_or (λ (format : Format). format.fields) o [])
of_format None Q h = absurd h
of_format (Some format) Q h = h

module _ (design : Design) (ground : Ground) (courses : List Course) (sound : IsSound design) (of : AreOfDesign design ground courses) (k : ℕ) (instr : Instr) (at : slice_get design.instrs k ≡ Some instr) where
  abbrev width : Arg → ℕ
  width = arg_width design instr.locals (fields_of design instr)

  width_is : (c : Course) → slice_get courses k ≡ Some c → (a : Arg) → bits_of ground c.scope a ≡ width a
  width_is c there (arg.Local i) = ap (λ ws. width_at (λ (w : ℕ). w) ws i) (of.locals k instr c at there)
  width_is c there (arg.Field i) = ap (λ fs. width_at (λ (f : Field). f.width) fs i) (of.fields k instr c at there)
  width_is c there arg.Pc = of.place
  width_is c there arg.Link = of.link

  guard_is : (c : Course) → slice_get courses k ≡ Some c → (g : Option Arg) → is_wide_guard width g ≡ false → IfSome g (HasBits ground c 1)
  guard_is c there None e = tt
  guard_is c there (Some g) e = width_is c there g ∙ eqb-true _ _ (not_false _ e)

  -- the lines of its micro-operations have their widths
  typed : Each (λ (m : Micro). IsTrue (has_widths design width m.act)) instr.micros
  typed = each_line (λ (m : Micro). has_widths design width m.act) instr.micros
      (of_format (slice_get design.formats instr.format) (λ fields. IsTrue (are_lines_typed design instr fields)) (each_at (IsTyped design) design.instrs k instr sound.typed at))

  write_sized : (p : WritePort) (a : Act) (l : PortLine) → IsTrue (has_widths design width a) → writes_through p a ≡ true → handed_by k a ≡ Some l → IsSized ground courses k (port_bits design p) (port_width design p) l
  write_sized (port.Register reg) (act.WriteReg r v g) l fits through is =
      let w = faultless design width (act.WriteReg r v g) fits in
      let same : reg ≡ r = eqb-true _ _ through in
      subst (IsSized ground courses k None (reg_width design reg)) (same_Some _ l is)
      (record {
        number = refl;
        has = λ c there. record { guard = guard_is c there g w.4; index = tt; value = width_is c there v ∙ eqb-true _ _ (not_false _ w.1) ∙ ap (reg_width design) (sym same) };
      })
  write_sized (port.Register reg) _ l fits through is = absurd cc
  write_sized (port.Cell file number) (act.WriteFile f n i v g) l fits through is =
      let w = faultless design width (act.WriteFile f n i v g) fits in
      let two = or_false _ _ w.1 in
      let same : file ≡ f = eqb-true _ _ (and_parts _ _ through).0 in
      let place = index_is design sound f (width i) (not_false _ two.0) in
      subst (IsSized ground courses k (Some (width_at index_bits design.files file)) (file_width design file)) (same_Some _ l is)
      (record {
        number = refl;
        has = λ c there. record {
          guard = guard_is c there g w.4;
          index = width_is c there i ∙ place ∙ ap (width_at index_bits design.files) (sym same);
          value = width_is c there v ∙ eqb-true _ _ (not_false _ two.1) ∙ ap (file_width design) (sym same);
        };
      })
  write_sized (port.Cell file number) _ l fits through is = absurd cc
  write_sized (port.Memory mem) (act.WriteMem m i v g) l fits through is =
      let w = faultless design width (act.WriteMem m i v g) fits in
      let two = or_false _ _ w.1 in
      let same : mem ≡ m = eqb-true _ _ through in
      subst (IsSized ground courses k (Some (mem_address design mem)) (mem_width design mem)) (same_Some _ l is)
      (record {
        number = refl;
        has = λ c there. record {
          guard = guard_is c there g w.4;
          index = width_is c there i ∙ eqb-true _ _ (not_false _ two.0) ∙ ap (mem_address design) (sym same);
          value = width_is c there v ∙ eqb-true _ _ (not_false _ two.1) ∙ ap (mem_width design) (sym same);
        };
      })
  write_sized (port.Memory mem) _ l fits through is = absurd cc

  transfer_sized : (a : Act) (l : PortLine) → IsTrue (has_widths design width a) → is_transfer a ≡ true → handed_by k a ≡ Some l → IsSized ground courses k None design.address l
  transfer_sized (act.Branch g v) l fits through is =
      let w = faultless design width (act.Branch g v) fits in
      subst (IsSized ground courses k None design.address) (same_Some _ l is)
      (record {
        number = refl;
        has = λ c there. record { guard = width_is c there g ∙ eqb-true _ _ (not_false _ w.4); index = tt; value = width_is c there v ∙ eqb-true _ _ (not_false _ w.5) };
      })
  transfer_sized (act.Jump v) l fits through is =
      let w = faultless design width (act.Jump v) fits in
      subst (IsSized ground courses k None design.address) (same_Some _ l is)
      (record { number = refl; has = λ c there. record { guard = tt; index = tt; value = width_is c there v ∙ eqb-true _ _ (not_false _ w.5) } })
  transfer_sized _ l fits through is = absurd cc

  -- and so has the first of some kind
  line_sized : (is_one : Act → Bool) (bits : Option ℕ) (wide : ℕ) (stage : ℕ)
      → ((a : Act) (l : PortLine) → IsTrue (has_widths design width a) → is_one a ≡ true → handed_by k a ≡ Some l → IsSized ground courses k bits wide l)
      → (l : PortLine) → line_of is_one stage (k, instr) ≡ Some l → FitsPort ground courses bits wide l
  line_sized is_one bits wide stage sized l is = go (find (is_line_of is_one stage) instr.micros) refl is
    where
      go : (o : Option Micro) → find (is_line_of is_one stage) instr.micros ≡ o → option_and_then (λ (m : Micro). handed_by k m.act) o ≡ Some l → FitsPort ground courses bits wide l
      go None e is = absurd cc
      go (Some m) e is =
          let holds = find_holds (is_line_of is_one stage) instr.micros m e in
          let fits = each_found (λ (x : Micro). IsTrue (has_widths design width x.act)) (is_line_of is_one stage) instr.micros m e typed in
          sized_fits ground courses k bits wide l (sized m.act l fits (and_parts (m.stage == stage) (is_one m.act) holds).1 is)

-- The lines of all instructions.
module _ (design : Design) (Q : PortLine → Type 0) (is_one : Act → Bool) (stage : ℕ) (each : (k : ℕ) (instr : Instr) → slice_get design.instrs k ≡ Some instr → (l : PortLine) → line_of is_one stage (k, instr) ≡ Some l → Q l) where
  -- these are the design's instructions from this number on
  abbrev AreFrom : ℕ → List Instr → Type 0
  AreFrom n instrs = (j : ℕ) (i : Instr) → slice_get instrs j ≡ Some i → slice_get design.instrs (n + j) ≡ Some i

  first_from : (n : ℕ) (x : Instr) (instrs : List Instr) → AreFrom n (x ∷ instrs) → slice_get design.instrs n ≡ Some x
  first_from n x instrs from = let e : n + 0 ≡ n = omega arith in subst (λ j. slice_get design.instrs j ≡ Some x) e (from 0 x refl)

  rest_from : (n : ℕ) (x : Instr) (instrs : List Instr) → AreFrom n (x ∷ instrs) → AreFrom (n + 1) instrs
  rest_from n x instrs from j i at = let e : n + suc j ≡ n + 1 + j = omega arith in subst (λ j. slice_get design.instrs j ≡ Some i) e (from (suc j) i at)

  all_lines : (n : ℕ) (instrs : List Instr) → AreFrom n instrs → Each Q (filter_map (line_of is_one stage) (enumerate_from n instrs))
  all_lines n [] from = tt
  all_lines n (x ∷ instrs) from = go (line_of is_one stage (n, x)) refl (all_lines (n + 1) instrs (rest_from n x instrs from))
    where
      go : (o : Option PortLine) → line_of is_one stage (n, x) ≡ o → Each Q (filter_map (line_of is_one stage) (enumerate_from (n + 1) instrs)) → Each Q (cons_option o (filter_map (line_of is_one stage) (enumerate_from (n + 1) instrs)))
      go None is rest = rest
      go (Some l) is rest = (each n x (first_from n x instrs from) l is, rest)

  lines_all : Each Q (lines_of is_one design stage)
  lines_all = all_lines 0 design.instrs (λ j i at. let e : j ≡ 0 + j = omega arith in subst (λ n. slice_get design.instrs n ≡ Some i) e at)

pub write_lines_fit : WriteLinesFit
write_lines_fit design ground courses stage p sound of =
    lines_all design (FitsPort ground courses (port_bits design p) (port_width design p)) (writes_through p) stage
    (λ k instr at. line_sized design ground courses sound of k instr at (writes_through p) (port_bits design p) (port_width design p) stage (write_sized design ground courses sound of k instr at p))

pub transfer_lines_fit : TransferLinesFit
transfer_lines_fit design ground courses stage sound of =
    lines_all design (FitsPort ground courses None design.address) is_transfer stage
    (λ k instr at. line_sized design ground courses sound of k instr at is_transfer None design.address stage (transfer_sized design ground courses sound of k instr at))
