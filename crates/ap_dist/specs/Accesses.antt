-- What the lines of an instruction access: registers, files and data memories, which they read or write. The rules are the
-- project's own.
use Rattle.std.specs.Prelude.{ℕ, true, false, List, [], filter_map, Option, Some, None, option_map, option_and_then, slice_get}
use Rattle.std.specs.Option.{option_map_or}
use Rattle.ap_desc.specs.Chains.{makers}
use Rattle.ap_desc.specs.Designs.{field_value, fields_of}
use Rattle.ap_desc.specs.declared.design.Design.{Design}
use Rattle.ap_desc.specs.declared.design.Field.{Field}
use Rattle.ap_desc.specs.declared.design.Instr.{Instr}
use Rattle.ap_desc.specs.declared.design.Micro.{Micro}
use Rattle.ap_desc.specs.declared.design.Arg.{Arg}
use Rattle.ap_desc.specs.declared.design.Arg.TheVariants as arg
use Rattle.ap_desc.specs.declared.design.Act.{Act}
use Rattle.ap_desc.specs.declared.design.Act.TheVariants as act
use Rattle.ap_model.specs.Fire.{instr_of}
use Rattle.ap_dist.specs.declared.access.Access.{Access}
use Rattle.ap_dist.specs.declared.access.Part.TheVariants as part

-- the value of a line that makes a constant
abbrev pub constant_of : Micro → Option ℕ
constant_of micro = elim micro.act as (λ _. Option ℕ) [ act.Const width value ↦ Some value | _ ↦ None ]

-- the index of a cell, where the word fixes it: a field's value, or that of a local that a line makes a constant. Where no word is
-- given, nothing is fixed
abbrev pub index_of : Design → Instr → Option ℕ → Arg → Option ℕ
index_of design instr None a = None
index_of design instr (Some word) (arg.Local i) = option_and_then constant_of (slice_get (makers instr) i)
index_of design instr (Some word) (arg.Field i) = option_map (λ (f : Field). field_value f word) (slice_get (fields_of design instr) i)
index_of design instr (Some word) _ = None

-- what a line of a stage accesses, if anything. The address of a memory is never fixed; a guarded write is one too
abbrev pub access_by : (Arg → Option ℕ) → ℕ → Act → Option Access
access_by index stage (act.ReadReg reg) = Some (record { part = part.Register reg; writes = false; stage = stage })
access_by index stage (act.ReadFile file port i) = Some (record { part = part.Cell file (index i); writes = false; stage = stage })
access_by index stage (act.ReadMem mem at) = Some (record { part = part.Memory mem; writes = false; stage = stage })
access_by index stage (act.WriteReg reg value guard) = Some (record { part = part.Register reg; writes = true; stage = stage })
access_by index stage (act.WriteFile file port i value guard) = Some (record { part = part.Cell file (index i); writes = true; stage = stage })
access_by index stage (act.WriteMem mem at value guard) = Some (record { part = part.Memory mem; writes = true; stage = stage })
access_by index stage _ = None

abbrev pub access_of : Design → Instr → Option ℕ → Micro → Option Access
access_of design instr word micro = access_by (index_of design instr word) micro.stage micro.act

-- the accesses of an instruction with this word, or with any
abbrev pub accesses : Design → Instr → Option ℕ → List Access
accesses design instr word = filter_map (access_of design instr word) instr.micros

-- the accesses of a word; one that matches no instruction has none
abbrev pub accesses_of : Design → ℕ → List Access
accesses_of design word = option_map_or (λ (i : Instr). accesses design i (Some word)) (instr_of design word) []
