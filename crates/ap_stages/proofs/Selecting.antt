-- The choice for the first operand of a node, among all choices.
use Rattle.std.proofs.Common.{◌≡◌, ◌==◌, true, List, Some, None, find, refl, sym, ap, subst, ◌∙◌, eqb-true}
use Rattle.std.specs.Prelude.{Any, Contains}
use Rattle.std.proofs.lemmas.Bool.{and_from, and_parts, eq-eqb}
use Rattle.ap_desc.proofs.Members.{any_in, in_contains}
use Rattle.ap_desc.specs.declared.design.Node.{Node as DesignNode}
use Rattle.ap_desc.specs.declared.design.Node.TheVariants as design_node
use Rattle.ap_course.specs.Choices.{port_of_node}
use Rattle.ap_course.proofs.Standing.{finds, found_in}
use Rattle.ap_merge.specs.Choices.{HasOperand}
use Rattle.ap_merge.specs.declared.table.Choice.{Choice}
use Rattle.ap_path.specs.Uses.{path_port}
use Rattle.ap_path.specs.declared.table.PathPort.{PathPort}
use Rattle.ap_path.specs.declared.table.PathPort.TheVariants as path
use Rattle.ap_stages.specs.Supplies.{is_first_of, is_its_port}

its_port : (x : DesignNode) (p : PathPort) → is_its_port x p ≡ true → p ≡ path_port (port_of_node x)
its_port (design_node.Unit u) (path.Unit v) e = ap path.Unit (eqb-true v u e)
its_port (design_node.FileRead file port) (path.FileRead other number) e =
    let both = and_parts (other == file) (number == port) e in
    λ i. path.FileRead (eqb-true other file both.0 i) (eqb-true number port both.1 i)
its_port (design_node.MemRead mem) (path.MemRead other) e = ap path.MemRead (eqb-true other mem e)
its_port _ _ e = absurd cc

own_port : (x : DesignNode) → is_its_port x (path_port (port_of_node x)) ≡ true
own_port (design_node.Unit u) = eq-eqb u u refl
own_port (design_node.FileRead file port) = and_from (file == file) (port == port) (eq-eqb file file refl) (eq-eqb port port refl)
own_port (design_node.MemRead mem) = eq-eqb mem mem refl

passes : (x : DesignNode) (c : Choice) → HasOperand (path_port (port_of_node x)) 0 c → is_first_of x c ≡ true
passes x c h = and_from (c.operand == 0) (is_its_port x c.port) (eq-eqb c.operand 0 h.1) (subst (λ p. is_its_port x p ≡ true) (sym h.0) (own_port x))

pub some_found : (x : DesignNode) (choices : List Choice) → Any (HasOperand (path_port (port_of_node x)) 0) choices → find (is_first_of x) choices ≡ None → ⊥
some_found x choices h none =
    let (c, c_in, has) = any_in (HasOperand (path_port (port_of_node x)) 0) choices h in
    let (y, found) = finds (is_first_of x) choices c c_in (passes x c has) in
    let wrong : None ≡ Some y = sym none ∙ found in
    absurd cc

pub found_is : (x : DesignNode) (choices : List Choice) (c : Choice) → find (is_first_of x) choices ≡ Some c → Contains choices c × HasOperand (path_port (port_of_node x)) 0 c
found_is x choices c e =
    let found = found_in (is_first_of x) choices c e in
    let both = and_parts (c.operand == 0) (is_its_port x c.port) found.1 in
    (in_contains choices c found.0, (its_port x c.port both.1, eqb-true c.operand 0 both.0))
