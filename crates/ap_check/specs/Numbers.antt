-- Numbers of a description in 32 bits.
use Rattle.std.specs.Prelude.{ℕ, min}
use Rattle.ap_desc.specs.declared.design.Act.{Act}
use Rattle.ap_desc.specs.declared.design.Act.TheVariants as act

-- the number, or the highest of 32 bits where it has more
abbrev pub narrowed : ℕ → ℕ
narrowed number = min number 4294967295

-- what a line does, its numbers in 32 bits
abbrev pub narrowed_act : Act → Act
narrowed_act (act.ReadFile file port index) = act.ReadFile file (narrowed port) index
narrowed_act (act.Const width value) = act.Const (narrowed width) value
narrowed_act (act.Zext width a) = act.Zext (narrowed width) a
narrowed_act (act.Sext width a) = act.Sext (narrowed width) a
narrowed_act (act.Slice high low a) = act.Slice (narrowed high) (narrowed low) a
narrowed_act (act.WriteFile file port index value guard) = act.WriteFile file (narrowed port) index value guard
narrowed_act a = a
