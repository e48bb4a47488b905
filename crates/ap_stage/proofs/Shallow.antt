-- How many `? :` stand before a net, as a draft grows.
use Rattle.std.proofs.Common.{◌≡◌, ℕ, zero, suc, ◌+◌, ◌≤◌, false, List, length, refl, ap, subst, ◌∙◌, arith, add-one}
use Rattle.std.specs.Prelude.{slice_get}
use Rattle.std.specs.List.{AllByRecursion as Each}
use Rattle.ap_net.specs.declared.net.Assign.{Assign}
use Rattle.ap_net.specs.declared.cell.Cell.{Cell}
use Rattle.ap_net.specs.declared.cell.Wire.{Wire}
use Rattle.ap_net.specs.Cells.{operands}
use Rattle.ap_net.specs.Draft.{Draft, Extends, next_wire, with_made}
use Rattle.ap_net.specs.Pending.{Among}
use Rattle.ap_net.specs.Ready.{numbers}
use Rattle.ap_net.proofs.Laws.{stays}
use Rattle.ap_stage.specs.Trees.{Chooses, IsShallow, IsTree, StandsOver, choice, is_choice, leaf, output, question, source, wiring}
use Rattle.ap_stage.proofs.Listed.{each_among, each_at, get_last}

pub chooses_on : (a b : Draft) (n : ℕ) (cond left right : Wire) → Extends a b → Chooses a n cond left right → Chooses b n cond left right
chooses_on a b n cond left right e h = record { place = h.place; assign = h.assign; is_there = stays a.assigns b.assigns e.assigns h.place h.assign h.is_there; drives = h.drives; chooses = h.chooses }

pub shallow_on : (a b : Draft) (depth n : ℕ) → Extends a b → IsShallow a depth n → IsShallow b depth n
shallow_on a b depth n e (source d m net at is) = source d m net (stays a.nets b.nets e.nets m net at) is
shallow_on a b depth n e (output d m k p i w at there drives is) = output d m k p i w (stays a.instances b.instances e.instances k i at) there drives is
shallow_on a b depth n e (wiring d m k x at drives is each) = wiring d m k x (stays a.assigns b.assigns e.assigns k x at) drives is (λ j l there. shallow_on a b d l e (each j l there))
shallow_on a b depth n e (question d m cond left right h one other) = question d m cond left right (chooses_on a b m cond left right e h) (shallow_on a b d left.number e one) (shallow_on a b d right.number e other)

pub shallow_deeper : (a : Draft) (depth more n : ℕ) → depth ≤ more → IsShallow a depth n → IsShallow a more n
shallow_deeper a depth more n le (source d m net at is) = source more m net at is
shallow_deeper a depth more n le (output d m k p i w at there drives is) = output more m k p i w at there drives is
shallow_deeper a depth more n le (wiring d m k x at drives is each) = wiring more m k x at drives is (λ j l there. shallow_deeper a d more l le (each j l there))
shallow_deeper a depth zero n le (question d m cond left right h one other) = absurd (omega arith)
shallow_deeper a depth (suc more) n le (question d m cond left right h one other) =
    subst (λ k. IsShallow a k m) (add-one more) (question more m cond left right h (shallow_deeper a d more left.number (omega arith) one) (shallow_deeper a d more right.number (omega arith) other))

-- a tree over such nets
pub tree_shallow : (a : Draft) (leaves : List ℕ) (most depth n : ℕ) → ((m : ℕ) → Among leaves m → IsShallow a most m) → IsTree a leaves depth n → IsShallow a (depth + most) n
tree_shallow a leaves most depth n all (leaf d m there) = shallow_deeper a most (d + most) m (omega arith) (all m there)
tree_shallow a leaves most depth n all (choice d m cond left right h one other) =
    let same : d + most + 1 ≡ d + 1 + most = omega arith in
    subst (λ k. IsShallow a k m) same (question (d + most) m cond left right h (tree_shallow a leaves most d left.number all one) (tree_shallow a leaves most d right.number all other))

-- a net that was made by a cell that is no choice
pub shallow_made : (a b : Draft) (width most : ℕ) (c : Cell) → Extends a b → b ≡ with_made a width c → is_choice c ≡ false → Each (IsShallow a most) (numbers (operands c)) → IsShallow b most (length a.nets)
shallow_made a b width most c e is right each =
    let made : Assign = record { to = next_wire a width; cell = c } in
    wiring most (length a.nets) (length a.assigns) made (ap (λ (d : Draft). slice_get d.assigns (length a.assigns)) is ∙ get_last a.assigns made) refl right
    (λ j m there. shallow_on a b most m e (each_at (IsShallow a most) (numbers (operands c)) j m each there))

-- a tree over nets that were there
pub tree_over : (a b : Draft) (leaves : List ℕ) (depth n : ℕ) → Extends a b → IsTree b leaves depth n → StandsOver depth leaves a b n
tree_over a b leaves depth n e tree most each = tree_shallow b leaves most depth n (λ m there. shallow_on a b most m e (each_among (IsShallow a most) leaves each m there)) tree
