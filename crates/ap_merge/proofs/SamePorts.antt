-- The test of ports tells whether they are the same.
use Rattle.std.proofs.Common.{◌≡◌, ℕ, true, false, refl, ap, ◌∙◌, eqb-true}
use Rattle.std.specs.Prelude.{◌==◌, ◌&&◌}
use Rattle.std.proofs.lemmas.Bool.{and_from, and_parts, eq-eqb}
use Rattle.ap_path.specs.declared.table.PathPort.{PathPort}
use Rattle.ap_path.specs.declared.table.PathPort.TheVariants as path
use Rattle.ap_merge.specs.Choices.{is_port}

pub same_ports : (one other : PathPort) → is_port one other ≡ true → one ≡ other
same_ports (path.Unit a) (path.Unit b) e = ap path.Unit (eqb-true a b e)
same_ports (path.FileRead a p) (path.FileRead b q) e = let (file, port) = and_parts (a == b) (p == q) e in ap (λ f. path.FileRead f p) (eqb-true a b file) ∙ ap (path.FileRead b) (eqb-true p q port)
same_ports (path.FileWrite a p) (path.FileWrite b q) e = let (file, port) = and_parts (a == b) (p == q) e in ap (λ f. path.FileWrite f p) (eqb-true a b file) ∙ ap (path.FileWrite b) (eqb-true p q port)
same_ports (path.RegWrite a) (path.RegWrite b) e = ap path.RegWrite (eqb-true a b e)
same_ports (path.MemRead a) (path.MemRead b) e = ap path.MemRead (eqb-true a b e)
same_ports (path.MemWrite a) (path.MemWrite b) e = ap path.MemWrite (eqb-true a b e)
same_ports path.Transfer path.Transfer e = refl
same_ports _ _ e = absurd cc

pub itself : (port : PathPort) → is_port port port ≡ true
itself (path.Unit a) = eq-eqb a a refl
itself (path.FileRead a p) = and_from (a == a) (p == p) (eq-eqb a a refl) (eq-eqb p p refl)
itself (path.FileWrite a p) = and_from (a == a) (p == p) (eq-eqb a a refl) (eq-eqb p p refl)
itself (path.RegWrite a) = eq-eqb a a refl
itself (path.MemRead a) = eq-eqb a a refl
itself (path.MemWrite a) = eq-eqb a a refl
itself path.Transfer = refl
