-- The ports that lines of a sound design use are ports of the design.
use Rattle.std.proofs.Common.{◌≡◌, ℕ, zero, suc, ◌+◌, ◌<◌, ◌==◌, ◌&&◌, true, IsSomeAnd, List, [], ◌∷◌, length, Option, Some, None, slice_get, refl, sym, subst, arith}
use Rattle.std.proofs.lemmas.Bool.{and_parts}
use Rattle.std.specs.List.{AllByRecursion as Each}
use Rattle.std.specs.Option.{option_map_or}
use Rattle.ap_bits.specs.declared.card.Card.{Card}
use Rattle.ap_desc.specs.Clean.{FitsCards}
use Rattle.ap_desc.specs.Designs.{AreInRange, IsInRange, IsInstr, IsRight, assigned_count}
use Rattle.ap_desc.specs.declared.design.Act.{Act}
use Rattle.ap_desc.specs.declared.design.Act.TheVariants as act
use Rattle.ap_desc.specs.declared.design.Design.{Design}
use Rattle.ap_desc.specs.declared.design.Field.{Field}
use Rattle.ap_desc.specs.declared.design.File.{File}
use Rattle.ap_desc.specs.declared.design.Format.{Format}
use Rattle.ap_desc.specs.declared.design.Instr.{Instr}
use Rattle.ap_desc.specs.declared.design.Micro.{Micro}
use Rattle.ap_desc.specs.Ports.{micros_in}
use Rattle.ap_model.specs.declared.storage.WritePort.{WritePort}
use Rattle.ap_model.specs.declared.storage.WritePort.TheVariants as port
use Rattle.ap_model.specs.Ports.{is_used_in, writes_through}
use Rattle.ap_model.specs.PortForms.{WritesByLine}
use Rattle.ap_desc.proofs.OnePort.{each_as, from_any}
use Rattle.ap_model.proofs.ListLemmas.{each_flat_map}
use Rattle.ap_model.proofs.PortWrites.{writes_by_line}
use Rattle.ap_model.proofs.PortsOnce.{IsPort, cell_is_port, mem_is_port, reg_is_port, same_port}
use Rattle.ap_model.proofs.WritesApart.{writes_apart}

get_within : {X : Type 0} (xs : List X) (i : ℕ) (x : X) → slice_get xs i ≡ Some x → i < length xs
get_within [] i x e = cc
get_within (y ∷ ys) zero x e = omega arith
get_within (y ∷ ys) (suc i) x e = let rest = get_within ys i x e in omega (arith, rest)

line_port : (design : Design) (p : WritePort) (n : ℕ) (fields : List Field) (a : Act) → IsInRange design n fields a → writes_through p a ≡ true → IsPort design p
line_port design p n fields (act.WriteFile file number index v guard) range e = subst (IsPort design) (sym (same_port p (port.Cell file number) e)) (go (slice_get design.files file) refl range.0)
  where
    go : (o : Option File) → slice_get design.files file ≡ o → IsSomeAnd o (λ (f : File). number < f.writes) → IsPort design (port.Cell file number)
    go None at h = absurd h
    go (Some f) at h = cell_is_port design file number (get_within design.files file f at) (subst (λ o. number < option_map_or (λ (f : File). f.writes) o 0) (sym at) h)
line_port design p n fields (act.WriteReg reg v guard) range e = subst (IsPort design) (sym (same_port p (port.Register reg) e)) (reg_is_port design reg range.0)
line_port design p n fields (act.WriteMem mem at v guard) range e = subst (IsPort design) (sym (same_port p (port.Memory mem) e)) (mem_is_port design mem range.0)
line_port design p n fields _ range e = cc

lines_ports : (design : Design) (p : WritePort) (n : ℕ) (fields : List Field) (micros : List Micro) → AreInRange design n fields micros → Each (λ (m : Micro). writes_through p m.act ≡ true → IsPort design p) micros
lines_ports design p n fields [] range = tt
lines_ports design p n fields (m ∷ micros) range = (line_port design p n fields m.act range.0, lines_ports design p (n + assigned_count m.act) fields micros range.1)

instr_ports : (design : Design) (p : WritePort) (i : Instr) → IsRight design i → Each (λ (m : Micro). writes_through p m.act ≡ true → IsPort design p) i.micros
instr_ports design p i = go (slice_get design.formats i.format)
  where
    go : (o : Option Format) → IsSomeAnd o (λ (format : Format). IsInstr design format.fields i) → Each (λ (m : Micro). writes_through p m.act ≡ true → IsPort design p) i.micros
    go None h = absurd h
    go (Some format) h = lines_ports design p 0 format.fields i.micros h.range

pub used_is_port : (design : Design) → Each (IsRight design) design.instrs → (p : WritePort) (stage : ℕ) → is_used_in design stage p ≡ true → IsPort design p
used_is_port design right p stage used =
    from_any (λ (m : Micro). (m.stage == stage) && writes_through p m.act) (IsPort design p) (micros_in design) used
    (each_as (λ (m : Micro). writes_through p m.act ≡ true → IsPort design p) (λ (m : Micro). ((m.stage == stage) && writes_through p m.act) ≡ true → IsPort design p) (λ m f e. f (and_parts (m.stage == stage) (writes_through p m.act) e).1) (micros_in design)
    (each_flat_map (λ (m : Micro). writes_through p m.act ≡ true → IsPort design p) (λ (i : Instr). i.micros) design.instrs (each_as (IsRight design) (λ (i : Instr). Each (λ (m : Micro). writes_through p m.act ≡ true → IsPort design p) i.micros) (instr_ports design p) design.instrs right)))

pub clean_writes_by_line : (design : Design) (cards : List Card) → FitsCards design cards → WritesByLine design cards
clean_writes_by_line design cards fits = writes_by_line design cards (writes_apart design fits.clean) (used_is_port design fits.clean.sound.instrs)
